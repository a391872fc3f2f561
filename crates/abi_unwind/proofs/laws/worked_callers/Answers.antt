use Rattle.abi_unwind.proofs.Worked.{cases, jumps, parts, edges, frames, vectors, machine_frames}
use Rattle.abi_unwind.proofs.laws.worked_callers.Goals as goal

pub returns : goal.returns
returns c = record {
  cases = cases;
  jumps = jumps;
  parts = parts;
  edges = edges;
  frames = frames;
  vectors = vectors;
  machine_frames = machine_frames;
}
