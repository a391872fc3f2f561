use Rattle.source_meaning.proofs.WalkRows.{walk_in_filter, walk_after_collision, walk_rows_are_sound}
use Rattle.source_meaning.proofs.laws.walk_rows.Goals as goal

pub returns : goal.returns
returns c =
    record {
      walk_in_filter = walk_in_filter;
      walk_after_collision = walk_after_collision;
      sound = walk_rows_are_sound;
    }
