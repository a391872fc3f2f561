use Rattle.image_runs.proofs.ImageMeaning.{compiled_realise, compiled_show_nothing_more}
use Rattle.image_runs.proofs.run_laws.compiled.Goals as goal

pub returns : goal.returns
returns c = record { realise = compiled_realise; nothing_more = compiled_show_nothing_more }
