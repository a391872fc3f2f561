use Rattle.match_turns.specs.Words.{setting_of}
use Rattle.match_turns.proofs.Dispatches.DispatchStart as asked
use Rattle.match_turns.proofs.Dispatches.DispatchReturnSteps as funclets
use Rattle.match_turns.proofs.turn_laws.laws.Goals as goal

pub returns : goal.returns
returns c = record {
  filters = λ t fs program p q image. funclets.filter_step (setting_of t fs program p q image);
  blocks = λ t fs program p q image. funclets.finally_step (setting_of t fs program p q image);
  raises = λ t fs program p q image. asked.raised_as (setting_of t fs program p q image);
  unwinds = λ t fs program p q image. asked.unwound_to (setting_of t fs program p q image);
}
