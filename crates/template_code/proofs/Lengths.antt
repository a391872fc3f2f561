-- How many instructions a template has.
use Rattle.std.proofs.Common.{Bool, true, false, ℕ, ◌*◌, ◌≤◌, List, [], ◌∷◌, ◌++◌, length, Option, Some, None, arith, length-append}
use Rattle.seh_num.specs.declared.width.Width.{Width}
use Rattle.seh_num.specs.declared.width.Width.TheVariants.{W8, W16, W32, W64}
use Rattle.x64_instr.specs.declared.register.Reg.{Reg}
use Rattle.x64_instr.specs.declared.register.Reg.TheVariants.{Rax, Rcx}
use Rattle.x64_instr.specs.declared.instruction.Instr.{Instr}
use Rattle.x64_encode.proofs.Lengths.{longest}
use Rattle.c_operations.specs.declared.operation.Size.{Size}
use Rattle.c_operations.specs.declared.operation.Size.TheVariants.{Int, Long}
use Rattle.c_operations.specs.declared.operation.Signedness.{Signedness}
use Rattle.c_operations.specs.declared.operation.Signedness.TheVariants.{Unsigned, Signed}
use Rattle.c_operations.specs.declared.operation.Relation.{Relation}
use Rattle.c_operations.specs.declared.operation.Relation.TheVariants as relations
use Rattle.c_operations.specs.declared.operation.Pure.{Pure}
use Rattle.c_operations.specs.declared.operation.Pure.TheVariants as pures
use Rattle.c_operations.specs.declared.operation.Operation.{Operation}
use Rattle.c_operations.specs.declared.operation.Operation.TheVariants as operations
use Rattle.c_operations.specs.Numbers.{width}
use Rattle.linear_code.specs.declared.slot.Slot.{Slot}
use Rattle.linear_code.specs.declared.slot.Slot.TheVariants.{Local, Temporary}
use Rattle.linear_code.specs.declared.instruction.Instruction.{Instruction}
use Rattle.linear_code.specs.declared.instruction.Instruction.TheVariants as instructions
use Rattle.template_code.specs.declared.layout.Layout.{Layout}
use Rattle.template_code.specs.declared.layout.Place.{Place}
use Rattle.template_code.specs.declared.layout.Place.TheVariants.{InRegister, InFrame, Arriving}
use Rattle.template_code.specs.Places.{place_of}
use Rattle.template_code.specs.Bytes.{size, sizes}
use Rattle.template_code.specs.Operations.{compare, extended, pure_code, before, work}
use Rattle.template_code.specs.Operands.{has_first, has_second}
use Rattle.template_code.specs.Slots.{local_at, fetch_local, keep_local, fetch_placed, keep_placed, fetch, fetch_if, keep, operands_code, finish_code, compute_code}

fetch_local_length : (o : Option ℕ) (r : Reg) (d : ℕ) → length (fetch_local o r d) ≤ 2
fetch_local_length None r d = omega arith
fetch_local_length (Some b) r d = omega arith

keep_local_length : (o : Option ℕ) (d : ℕ) → length (keep_local o d) ≤ 2
keep_local_length None d = omega arith
keep_local_length (Some b) d = omega arith

fetch_placed_length : (y : Layout) (r : Reg) (i : ℕ) (p : Place)
    → length (fetch_placed y r i p) ≤ 2
fetch_placed_length y r i (InRegister q) = omega arith
fetch_placed_length y r i InFrame = fetch_local_length y.base r (local_at y i)
fetch_placed_length y r i Arriving = omega arith

keep_placed_length : (y : Layout) (i : ℕ) (p : Place) → length (keep_placed y i p) ≤ 2
keep_placed_length y i (InRegister q) = omega arith
keep_placed_length y i InFrame = keep_local_length y.base (local_at y i)
keep_placed_length y i Arriving = omega arith

pub fetch_length : (y : Layout) (r : Reg) (x : Slot) → length (fetch y r x) ≤ 2
fetch_length y r (Temporary i) = omega arith
fetch_length y r (Local i) = fetch_placed_length y r i (place_of y i)

pub fetch_if_length : (read : Bool) (y : Layout) (r : Reg) (x : Slot)
    → length (fetch_if read y r x) ≤ 2
fetch_if_length true y r x = fetch_length y r x
fetch_if_length false y r x = omega arith

pub keep_length : (y : Layout) (x : Slot) → length (keep y x) ≤ 2
keep_length y (Temporary i) = omega arith
keep_length y (Local i) = keep_placed_length y i (place_of y i)

pub before_length : (o : Operation) → length (before o) ≤ 1
before_length (operations.Pure p) = omega arith
before_length o = omega arith

extended_length : (s : Signedness) (n : Width) (z : Size) → length (extended s n z) ≤ 3
extended_length Unsigned W8 z = omega arith
extended_length Unsigned W16 z = omega arith
extended_length Unsigned W32 z = omega arith
extended_length Unsigned W64 z = omega arith
extended_length Signed W8 z = omega arith
extended_length Signed W16 z = omega arith
extended_length Signed W32 Int = omega arith
extended_length Signed W32 Long = omega arith
extended_length Signed W64 z = omega arith

compare_length : (r : Relation) (s : Signedness) (w : Width) → length (compare r s w) ≤ 3
compare_length relations.Equal s w = omega arith
compare_length r s w = omega arith

pure_length : (p : Pure) → length (pure_code p) ≤ 3
pure_length (pures.Extend s n z) = extended_length s n z
pure_length (pures.Compare r s z) = compare_length r s (width z)
pure_length (pures.Constant v) = omega arith
pure_length p = omega arith

pub work_length : (o : Operation) → length (work o) ≤ 5
work_length (operations.Pure p) = let a = pure_length p in omega arith
work_length (operations.Divide s z) = omega arith
work_length o = omega arith

pub compute_length : (y : Layout) (to : Slot) (o : Operation) (first second : Slot)
    → length (compute_code y to o first second) ≤ 12
compute_length y to o first second =
    let a = fetch_if_length (has_first o) y Rax first in
    let b = fetch_if_length (has_second o) y Rcx second in
    let c = before_length o in
    let d = work_length o in
    let e = keep_length y to in
    omega (
      arith,
      length-append (operands_code y o first second) (finish_code y o to),
      length-append (fetch_if (has_first o) y Rax first)
          (fetch_if (has_second o) y Rcx second ++ before o),
      length-append (fetch_if (has_second o) y Rcx second) (before o),
      length-append (work o) (keep y to),
    )

-- a call passes at most eight arguments
abbrev pub PassesFew : Instruction → Type 0
PassesFew (instructions.Call function first count) = count ≤ 8
PassesFew i = Unit {0}

pub sizes_small : (is : List Instr) → sizes is ≤ 15 * length is
unfolding size
sizes_small [] = omega arith
sizes_small (i ∷ is) = let r = sizes_small is in let l = longest i in omega arith
