use Rattle.seh.proofs.Calls.{done_is_yes}
use Rattle.seh.proofs.CheckedFrames.{checked_callers_are_found}
use Rattle.seh.proofs.OneVerdict.{images_have_one_verdict}
use Rattle.seh.proofs.laws.checked_images.Goals as goal

pub returns : goal.returns
returns c = record {
  one_verdict = images_have_one_verdict;
  done = done_is_yes;
  callers = checked_callers_are_found;
}
