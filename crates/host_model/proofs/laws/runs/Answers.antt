use Rattle.host_model.proofs.Longer.{begins, longer, images_cover, covers_then}
use Rattle.host_model.proofs.TurnsMade.{runs_are_turns, turns_split, ends_stay}
use Rattle.host_model.proofs.laws.runs.Goals as goal

pub returns : goal.returns
returns c = record {
  before = begins;
  more = longer;
  images = images_cover;
  transitive = covers_then;
  turns = runs_are_turns;
  later = turns_split;
  ends = ends_stay;
}
