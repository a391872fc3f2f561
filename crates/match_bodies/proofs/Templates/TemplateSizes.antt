-- Where an instruction begins, RIP is in its code: each template has a byte at least.
use Rattle.std.proofs.Common.{◌≡◌, ℕ, ◌+◌, ◌*◌, ◌%◌, ◌<◌, ◌≤◌, List, ◌++◌, length, Option, Some, None, arith, length-append}
use Rattle.seh_num.specs.declared.width.Width.TheVariants.{W64}
use Rattle.template_code.specs.Operations.{move, work}
use Rattle.match_bodies.specs.Words.{Width, Reg, Rax, Rcx, Rsp, RegisterOrMemory, Functions, Funclet, Slot, Local, Temporary, Instruction, LinearProgram, LinearBody, BodyName, body_of, Layout, size, sizes, fetched, local_at, fetch_local, keep_local, fetch, keep, operands_code, finish_code, template_size, ImagePlan, InCode, Sites, IsProgramImage, prefixes, modrm_bits, opcode_bytes, place_bytes, modrm, put_back, finally_arguments, Place, InRegister, InFrame, Arriving, parameter_register, place_of, fetch_placed, keep_placed}
use Rattle.x64_encode.specs.declared.writing.Opcode.{Opcode}
use Rattle.x64_encode.specs.declared.writing.Opcode.TheVariants as opcodes
use Rattle.linear_code.specs.declared.instruction.Instruction.TheVariants as instructions
use Rattle.frame_rules.specs.Plan.{epilogue}
use Rattle.template_code.specs.Frames.{plan_of_layout}
use Rattle.match_bodies.proofs.Lemmas.{sizes_append, call_size, jump_size, jump_if_zero_size, call_code_size, passing_call_size}

-- ---- bytes

opcode_some : (op : Opcode) → 1 ≤ length (opcode_bytes op)
opcode_some (opcodes.One b) = omega arith
opcode_some (opcodes.Two b) = omega arith

modrm_some : (w : Width) (op : Opcode) (r : ℕ) (at : RegisterOrMemory)
    → 1 ≤ length (modrm w op r at)
unfolding modrm
modrm_some w op r at =
    let bits = modrm_bits w r at in
    omega (
      arith,
      opcode_some op,
      length-append (prefixes w bits ++ opcode_bytes op)
          (place_bytes (r % 8) at),
      length-append (prefixes w bits) (opcode_bytes op),
    )

fetched_some : (to base : Reg) (d : ℕ) → 1 ≤ size (fetched to base d)
unfolding size
fetched_some to base d = modrm_some _ _ _ _

put_some : (base : Reg) (d : ℕ) → 1 ≤ size (put_back base d)
unfolding size
put_some base d = modrm_some _ _ _ _

fetch_local_some : (o : Option ℕ) (r : Reg) (d : ℕ) → 1 ≤ sizes (fetch_local o r d)
fetch_local_some None r d = let e = fetched_some r Rsp d in omega arith
fetch_local_some (Some b) r d = let e = fetched_some r Rsp b in omega arith

move_some : (to from : Reg) → 1 ≤ size (move W64 to from)
unfolding size
move_some to from = modrm_some _ _ _ _

fetch_placed_some : (y : Layout) (r : Reg) (i : ℕ) (p : Place) → 1 ≤ sizes (fetch_placed y r i p)
fetch_placed_some y r i (InRegister q) = let e = move_some r q in omega arith
fetch_placed_some y r i InFrame = fetch_local_some y.base r (local_at y i)
fetch_placed_some y r i Arriving = let e = move_some r (parameter_register i) in omega arith

pub fetch_some : (y : Layout) (r : Reg) (x : Slot) → 1 ≤ sizes (fetch y r x)
fetch_some y r (Temporary i) = let e = fetched_some r Rsp (y.temporaries + 8 * i) in omega arith
fetch_some y r (Local i) = fetch_placed_some y r i (place_of y i)

keep_local_some : (o : Option ℕ) (d : ℕ) → 1 ≤ sizes (keep_local o d)
keep_local_some None d = let e = put_some Rsp d in omega arith
keep_local_some (Some b) d = let e = fetched_some Rcx Rsp b in omega arith

keep_placed_some : (y : Layout) (i : ℕ) (p : Place) → 1 ≤ sizes (keep_placed y i p)
keep_placed_some y i (InRegister q) = let e = move_some q Rax in omega arith
keep_placed_some y i InFrame = keep_local_some y.base (local_at y i)
keep_placed_some y i Arriving = let e = move_some (parameter_register i) Rax in omega arith

keep_some : (y : Layout) (x : Slot) → 1 ≤ sizes (keep y x)
keep_some y (Temporary i) = let e = put_some Rsp (y.temporaries + 8 * i) in omega arith
keep_some y (Local i) = keep_placed_some y i (place_of y i)

-- ---- templates

pub template_some : (y : Layout) (i : Instruction) → 1 ≤ template_size y i
unfolding template_size size
template_some y (instructions.Compute to o first second) =
    omega (
      arith,
      keep_some y to,
      sizes_append (operands_code y o first second) (finish_code y o to),
      sizes_append (work o) (keep y to),
    )
template_some y (instructions.Information to field) = let e = fetched_some Rax Rsp y.pointers in
    omega arith
template_some y (instructions.Landing to) = keep_some y to
template_some y (instructions.Jump label) = let a = jump_size 5 0 in omega arith
template_some y (instructions.JumpIfZero slot label) = let a = jump_if_zero_size y slot 0 0 in
    omega arith
template_some y (instructions.Call function first count) = let a = passing_call_size y first count 0
    0 in omega arith
template_some y (instructions.CallBuiltIn function first) = let a = call_code_size y
    (Temporary first) first 0 0 in omega arith
template_some y (instructions.CallFinally funclet) = let a = call_size
    (0 + sizes finally_arguments + 5) 0 in omega arith
template_some y (instructions.LocalUnwind label) = let a = call_size 15 0 in omega arith
template_some y instructions.Separator = omega arith
template_some y (instructions.Return from) = omega
    (arith, fetch_some y Rax from, sizes_append (fetch y Rax from) (epilogue (plan_of_layout y 0)))

module _ (t : Functions) (fs : List Funclet) (program : LinearProgram) (p : ImagePlan) (q : Sites)
    (image : IsProgramImage t fs program p q) where
  pub first_in_code : (name : BodyName) (b : LinearBody) (label : ℕ) → body_of program name ≡ Some b
      → label < length b.code → InCode p name label (p.address name label)
  first_in_code name b label e lt =
      record { low = omega arith; high = (image.addresses name b e).rises label lt }
