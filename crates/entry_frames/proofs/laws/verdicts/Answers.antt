use Rattle.entry_frames.proofs.Verdicts.{first_no_is_the_image_verdict}
use Rattle.entry_frames.proofs.laws.verdicts.Goals as goal

pub returns : goal.returns
returns c = first_no_is_the_image_verdict
