use Rattle.source_machine.proofs.StepDistance.{decreases}
use Rattle.source_machine.proofs.StepEvents.{extends}
use Rattle.source_machine.proofs.StepKeeping.{keeps_meaning}
use Rattle.source_machine.proofs.WholeRuns.{shows_before}
use Rattle.source_machine.proofs.step_laws.law.Goals as goal

pub returns : goal.returns
returns c = record {
  keeps_meaning = keeps_meaning;
  decreases = decreases;
  extends = extends;
  shows_before = shows_before;
}
