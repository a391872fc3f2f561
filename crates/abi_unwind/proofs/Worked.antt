-- The rows, computed.
use Rattle.std.proofs.Common.{refl}
use Rattle.flat_memory.specs.Memory.{executable, first_refused, number_at}
use Rattle.eh_tables.specs.Codes.{operation}
use Rattle.abi_unwind.specs.Tail.{tail_at, pops}
use Rattle.abi_unwind.specs.Caller.{abi_caller}
use Rattle.abi_unwind.specs.Rows.{Tails, NoTails, Cases, Jumps, Parts, Edges, Frames, Vectors, MachineFrames}

pub tails : Tails
unfolding executable tail_at pops
tails = record {
  return = refl;
  rep_return = refl;
  bound_return = refl;
  long_add = refl;
  tail_call = refl;
  short_tail_call = refl;
  wide_jump = refl;
  import_jump = refl;
  pops = refl;
  frame = refl;
  below_frame = refl;
}

pub no_tails : NoTails
unfolding executable tail_at pops
no_tails = record {
  jump = refl;
  narrow_jump = refl;
  switch = refl;
  other_register = refl;
  no_frame = refl;
  two_adds = refl;
  late_add = refl;
  two_prefixes = refl;
}

pub cases : Cases
unfolding executable tail_at pops first_refused number_at operation abi_caller
cases = record {
  leaf = refl;
  begin = refl;
  pushed = refl;
  body = refl;
  epilogue = refl;
  last = refl;
}

pub jumps : Jumps
unfolding executable tail_at pops first_refused number_at operation abi_caller
jumps = record {
  tail_call = refl;
  inside = refl;
  begin = refl;
  wide = refl;
  narrow = refl;
}

pub parts : Parts
unfolding executable tail_at pops first_refused number_at operation abi_caller
parts = record {
  into_part = refl;
  to_part = refl;
  between = refl;
  back = refl;
  to_root = refl;
  own_begin = refl;
  body = refl;
  asked = refl;
  asked_first = refl;
  in_prologue = refl;
  in_epilogue = refl;
}

pub edges : Edges
unfolding executable tail_at pops first_refused number_at operation abi_caller
edges = record {
  past_end = refl;
  early_exit = refl;
  early_return = refl;
  unreadable = refl;
}

pub frames : Frames
unfolding executable tail_at pops first_refused number_at operation abi_caller
frames = record {
  before = refl;
  behind = refl;
  body = refl;
}

pub vectors : Vectors
unfolding executable tail_at pops first_refused number_at operation abi_caller
vectors = record {
  near = refl;
  far = refl;
  volatile = refl;
}

pub machine_frames : MachineFrames
unfolding executable tail_at pops first_refused number_at operation abi_caller
machine_frames = record {
  plain = refl;
  with_code = refl;
}
