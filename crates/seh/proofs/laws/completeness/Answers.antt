use Rattle.seh.proofs.Completeness.{accepted_texts_compile, compiled_images_run}
use Rattle.seh.proofs.laws.completeness.Goals as goal

pub returns : goal.returns
returns c = record { compiles = accepted_texts_compile; runs = compiled_images_run }
