use Rattle.image_runs.proofs.StateWalks.{walks_give_the_frames}
use Rattle.image_runs.proofs.InstructionWalks.{walks_give_the_frames_within}
use Rattle.image_runs.proofs.InstructionStart.{beginnings_are_within}
use Rattle.image_runs.proofs.ScratchSteps.{scratch_steps_stay_within}
use Rattle.image_runs.proofs.ReturnFrames.{linked_returns_wait}
use Rattle.image_runs.proofs.walk_laws.laws.Goals as goal

pub returns : goal.returns
returns c = record {
  walks = walks_give_the_frames;
  within = walks_give_the_frames_within;
  first = beginnings_are_within;
  scratch = scratch_steps_stay_within;
  returns = linked_returns_wait;
}
