use Rattle.seh.proofs.CompiledChecks.{compiled_images_are_kept, compiled_verdicts_are_yes, compiled_is_kept}
use Rattle.seh.proofs.laws.compiled_images.Goals as goal

pub returns : goal.returns
returns c = record {
  kept = compiled_images_are_kept;
  one_verdict = compiled_verdicts_are_yes;
  calls = compiled_is_kept;
}
