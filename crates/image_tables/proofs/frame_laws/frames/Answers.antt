use Rattle.image_tables.proofs.Callers.{frames_are_found, parts_are_found, leaves_are_found', thunks_are_found, name_thunks_are_found, adding_stubs_are_found, removing_stubs_are_found, probes_are_found}
use Rattle.image_tables.proofs.frame_laws.frames.Goals as goal

pub returns : goal.returns
returns c = record {
  functions = frames_are_found;
  parts = parts_are_found;
  leaves = leaves_are_found';
  thunks = thunks_are_found;
  names = name_thunks_are_found;
  adding = adding_stubs_are_found;
  removing = removing_stubs_are_found;
  probes = probes_are_found;
}
