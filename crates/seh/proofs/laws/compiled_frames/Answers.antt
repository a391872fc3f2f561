use Rattle.seh.proofs.CompiledFrames.{compiled_entries_are_found, compiled_leaves_are_found, compiled_code_is_covered, compiled_routines_are_found}
use Rattle.seh.proofs.laws.compiled_frames.Goals as goal

pub returns : goal.returns
returns c = record {
  entries = compiled_entries_are_found;
  leaves = compiled_leaves_are_found;
  outside = compiled_code_is_covered;
  routines = compiled_routines_are_found;
}
