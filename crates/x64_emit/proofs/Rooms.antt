-- Templates take no more bytes than their room.
use Rattle.std.proofs.Common.{◌≡◌, refl, ℕ, zero, suc, ◌+◌, ◌-◌, ◌*◌, ◌≤◌, Bool, true, false, cond, List, [], ◌∷◌, ◌++◌, length, Option, Some, None, arith, length-append, ap}
use Rattle.std.specs.Prelude.{◌==◌, ◌%◌, not}
use Rattle.std.proofs.lemmas.Bool.{ne_eqb}
use Rattle.seh_num.specs.declared.width.Width.{Width}
use Rattle.x64_emit.specs.Words.{W8, W16, W32, W64, Rax, Rcx, Rdx, Rsp, R8, R9, little, is_signed, has_rex, prefixes, mode, displacement, sib, at_register, place_bytes, modrm_bits, modrm, opcode_register, Slot, Local, Temporary, Instruction, Layout, size, sizes, local_at, temporary_at, fetched, fetch_local, keep_local, fetch_placed, keep_placed, place_of, parameter_register, Place, InRegister, InFrame, Arriving, fetch, fetch_if, has_first, has_second, keep, operands_code, finish_code, compute_code, compare_zero, field_load, passing_code, arguments_code, call_code, clear_result, call_finally_code, local_unwind_code, template_size, slot_room, instruction_room, pure_room, operation_room}
use Rattle.seh_num.specs.Widths.{low}
use Rattle.frame_rules.specs.Plan.{loads_then, opening_then, pops_then, epilogue}
use Rattle.template_code.specs.Frames.{pushes_of, saves_of, saving_plan, plan_of_layout}
use Rattle.frame_layout.proofs.Sizes.{run, epilogue_few}
use Rattle.x64_instr.specs.declared.instruction.Instr.{Instr}
use Rattle.x64_emit.specs.Near.{IsInstructionNear, IsFrameIf, frame_of_layout}
use Rattle.x64_instr.specs.declared.register.Reg.{Reg}
use Rattle.x64_instr.specs.declared.operand.RegisterOrMemory.TheVariants as places
use Rattle.x64_instr.specs.declared.operand.Operand.TheVariants as operands
use Rattle.x64_instr.specs.declared.instruction.Instr.TheVariants as instrs
use Rattle.x64_instr.specs.Registers.{number}
use Rattle.x64_encode.specs.declared.writing.Opcode.TheVariants as opcodes
use Rattle.c_operations.specs.declared.operation.Size.{Size}
use Rattle.c_operations.specs.declared.operation.Size.TheVariants.{Int, Long}
use Rattle.c_operations.specs.declared.operation.Signedness.{Signedness}
use Rattle.c_operations.specs.declared.operation.Signedness.TheVariants.{Unsigned, Signed}
use Rattle.c_operations.specs.declared.operation.Relation.{Relation}
use Rattle.c_operations.specs.declared.operation.Relation.TheVariants as relations
use Rattle.c_operations.specs.declared.operation.Pure.{Pure}
use Rattle.c_operations.specs.declared.operation.Pure.TheVariants as pures
use Rattle.c_operations.specs.declared.operation.Operation.{Operation}
use Rattle.c_operations.specs.declared.operation.Operation.TheVariants as operations
use Rattle.c_operations.specs.declared.field.Field.{Field}
use Rattle.c_operations.specs.declared.field.Field.TheVariants as fields
use Rattle.c_operations.specs.Numbers.{width}
use Rattle.linear_code.specs.declared.instruction.Instruction.TheVariants as instructions
use Rattle.template_code.specs.Operations.{above, move, compare, extended, pure_code, before, work}
use Rattle.x64_emit.proofs.Lemmas.{sizes_append, passing_call_size, jump_size, jump_if_zero_size, call_code_size, PassesFew}

-- ---- a word in memory

rex_length : (t : Bool) (b : ℕ) → length (cond t (b ∷ []) []) ≤ 1
rex_length true b = omega arith
rex_length false b = omega arith

displacement_by : (t : Bool) (d : ℕ) → length (cond t (little 1 (low W8 d)) (little 4 (low W32 d)))
    ≤ 4
displacement_by true d = omega arith
displacement_by false d = omega arith

shorter_by : (t : Bool) (xs ys : List ℕ) (n : ℕ) → length xs ≤ n → length ys ≤ n
    → length (cond t xs ys) ≤ n
shorter_by true xs ys n x y = x
shorter_by false xs ys n x y = y

at_register_length : (r : ℕ) (b : Reg) (d : ℕ) → length (at_register r b None d) ≤ 6
at_register_length r b d =
    let e = displacement_by (is_signed W8 W64 d) d in
    shorter_by (number b % 8 == 4) ((64 * mode d + 8 * r + 4) ∷ sib None 4 ∷ displacement d)
    ((64 * mode d + 8 * r + number b % 8) ∷ displacement d) 6 (omega arith) (omega arith)

word_length : (op r : ℕ) (b : Reg) (d : ℕ) → length
    (modrm W64 (opcodes.One op) r (places.Memory (above b d))) ≤ 8
unfolding modrm
word_length op r b d =
    let at = places.Memory (above b d) in
    let p = prefixes W64 (modrm_bits W64 r at) in
    let a = rex_length (has_rex W64 (modrm_bits W64 r at)) (0x40 + modrm_bits W64 r at) in
    let c = at_register_length (r % 8) b d in
    omega (arith, length-append (p ++ op ∷ []) (place_bytes (r % 8) at), length-append p (op ∷ []))

fetched_size : (to base : Reg) (d : ℕ) → size (fetched to base d) ≤ 8
unfolding size
fetched_size to base d = word_length 0x8B (number to) base d

kept_size : (r base : Reg) (d : ℕ) → size (instrs.Move W64 (places.Memory (above base d))
    (operands.Register r)) ≤ 8
unfolding size
kept_size r base d = word_length 0x89 (number r) base d

-- ---- slots

fetch_local_size : (o : Option ℕ) (r : Reg) (d : ℕ) → sizes (fetch_local o r d) ≤ 16
fetch_local_size None r d = let a = fetched_size r Rsp d in omega arith
fetch_local_size (Some b) r d = let a = fetched_size r Rsp b in let c = fetched_size r r d in
    omega arith

keep_local_size : (o : Option ℕ) (d : ℕ) → sizes (keep_local o d) ≤ 16
keep_local_size None d = let a = kept_size Rax Rsp d in omega arith
keep_local_size (Some b) d = let a = fetched_size Rcx Rsp b in let c = kept_size Rax Rcx d in
    omega arith

-- a move between registers of 64 bits has a REX prefix, an opcode and ModRM
pub copied_size : (to from : Reg) → size (move W64 to from) ≡ 3
unfolding size modrm
copied_size to from =
    let bits = modrm_bits W64 (number from) (places.Register to) in
    let some : (bits == 0) ≡ false = ne_eqb bits 0 (λ e. absurd (omega arith)) in
    ap (λ (t : Bool). length ((cond (not t) ((0x40 + bits) ∷ []) [] ++ (0x89 ∷ []))
    ++ ((64 * 3 + 8 * (number from % 8) + number to % 8) ∷ []))) some

fetch_placed_size : (y : Layout) (r : Reg) (i : ℕ) (p : Place) → sizes (fetch_placed y r i p) ≤ 16
fetch_placed_size y r i (InRegister q) = let a = copied_size r q in omega arith
fetch_placed_size y r i InFrame = fetch_local_size y.base r (local_at y i)
fetch_placed_size y r i Arriving = let a = copied_size r (parameter_register i) in omega arith

keep_placed_size : (y : Layout) (i : ℕ) (p : Place) → sizes (keep_placed y i p) ≤ 16
keep_placed_size y i (InRegister q) = let a = copied_size q Rax in omega arith
keep_placed_size y i InFrame = keep_local_size y.base (local_at y i)
keep_placed_size y i Arriving = let a = copied_size (parameter_register i) Rax in omega arith

pub fetch_size : (y : Layout) (r : Reg) (x : Slot) → sizes (fetch y r x) ≤ slot_room x
fetch_size y r (Temporary i) = let a = fetched_size r Rsp (temporary_at y i) in omega arith
fetch_size y r (Local i) = fetch_placed_size y r i (place_of y i)

fetch_if_size : (read : Bool) (y : Layout) (r : Reg) (x : Slot)
    → sizes (fetch_if read y r x) ≤ slot_room x
fetch_if_size true y r x = fetch_size y r x
fetch_if_size false y r x = omega arith

pub keep_size : (y : Layout) (x : Slot) → sizes (keep y x) ≤ slot_room x
keep_size y (Temporary i) = let a = kept_size Rax Rsp (temporary_at y i) in omega arith
keep_size y (Local i) = keep_placed_size y i (place_of y i)

-- ---- operations

extended_size : (s : Signedness) (n : Width) (z : Size) → sizes (extended s n z) ≤ 9
unfolding size modrm
extended_size Unsigned W8 z = omega arith
extended_size Unsigned W16 z = omega arith
extended_size Unsigned W32 z = omega arith
extended_size Unsigned W64 Int = omega arith
extended_size Unsigned W64 Long = omega arith
extended_size Signed W8 Int = omega arith
extended_size Signed W8 Long = omega arith
extended_size Signed W16 Int = omega arith
extended_size Signed W16 Long = omega arith
extended_size Signed W32 Int = omega arith
extended_size Signed W32 Long = omega arith
extended_size Signed W64 Int = omega arith
extended_size Signed W64 Long = omega arith

compare_size : (r : Relation) (s : Signedness) (z : Size) → sizes (compare r s (width z)) ≤ 11
unfolding size modrm
compare_size relations.Equal s Int = omega arith
compare_size r s Int = omega arith
compare_size r s z = omega arith

pure_size : (p : Pure) → sizes (pure_code p) ≤ pure_room p
unfolding size modrm opcode_register
pure_size (pures.Extend s n z) = let e = extended_size s n z in omega arith
pure_size (pures.Compare r s z) = compare_size r s z
pure_size (pures.Constant v) = omega arith
pure_size pures.First = omega arith
pure_size (pures.Not Int) = omega arith
pure_size (pures.Not Long) = omega arith
pure_size (pures.Negate Int) = omega arith
pure_size (pures.Negate Long) = omega arith
pure_size (pures.Add Int) = omega arith
pure_size (pures.Add Long) = omega arith
pure_size (pures.Subtract Int) = omega arith
pure_size (pures.Subtract Long) = omega arith
pure_size (pures.Multiply Int) = omega arith
pure_size (pures.Multiply Long) = omega arith
pure_size (pures.MultiplyBy n) = omega arith
pure_size (pures.And Int) = omega arith
pure_size (pures.And Long) = omega arith
pure_size (pures.Or Int) = omega arith
pure_size (pures.Or Long) = omega arith
pure_size (pures.Xor Int) = omega arith
pure_size (pures.Xor Long) = omega arith
pure_size (pures.ShiftLeft Int) = omega arith
pure_size (pures.ShiftLeft Long) = omega arith
pure_size (pures.ShiftRight Unsigned Int) = omega arith
pure_size (pures.ShiftRight Unsigned Long) = omega arith
pure_size (pures.ShiftRight Signed Int) = omega arith
pure_size (pures.ShiftRight Signed Long) = omega arith

pub operation_size : (o : Operation) → sizes (before o) + sizes (work o) ≤ operation_room o
unfolding size modrm opcode_register
operation_size (operations.Pure p) = let e = pure_size p in omega arith
operation_size (operations.Divide Unsigned Int) = omega arith
operation_size (operations.Divide Unsigned Long) = omega arith
operation_size (operations.Divide Signed Int) = omega arith
operation_size (operations.Divide Signed Long) = omega arith
operation_size (operations.Remainder Unsigned Int) = omega arith
operation_size (operations.Remainder Unsigned Long) = omega arith
operation_size (operations.Remainder Signed Int) = omega arith
operation_size (operations.Remainder Signed Long) = omega arith
operation_size (operations.Load W8) = omega arith
operation_size (operations.Load W16) = omega arith
operation_size (operations.Load W32) = omega arith
operation_size (operations.Load W64) = omega arith
operation_size (operations.Store W8) = omega arith
operation_size (operations.Store W16) = omega arith
operation_size (operations.Store W32) = omega arith
operation_size (operations.Store W64) = omega arith
operation_size (operations.Allocate n) = omega arith
operation_size (operations.SetPointer n) = omega arith
operation_size (operations.Place W8 offset) = omega arith
operation_size (operations.Place W16 offset) = omega arith
operation_size (operations.Place W32 offset) = omega arith
operation_size (operations.Place W64 offset) = omega arith
operation_size (operations.Clear W8 offset) = omega arith
operation_size (operations.Clear W16 offset) = omega arith
operation_size (operations.Clear W32 offset) = omega arith
operation_size (operations.Clear W64 offset) = omega arith

compute_size : (y : Layout) (to : Slot) (o : Operation) (first second : Slot)
    → sizes (compute_code y to o first second)
    ≤ slot_room to + slot_room first + slot_room second + operation_room o
compute_size y to o first second =
    let a = fetch_if_size (has_first o) y Rax first in
    let b = fetch_if_size (has_second o) y Rcx second in
    let c = operation_size o in
    let e = keep_size y to in
    omega (
      arith,
      sizes_append (operands_code y o first second) (finish_code y o to),
      sizes_append (fetch_if (has_first o) y Rax first)
          (fetch_if (has_second o) y Rcx second ++ before o),
      sizes_append (fetch_if (has_second o) y Rcx second) (before o),
      sizes_append (work o) (keep y to),
    )

-- ---- the others

load_field_size : (f : Field) → size (field_load f) ≤ 8
unfolding size modrm
load_field_size (fields.ExceptionInformation k) = word_length 0x8B (number Rax) Rax (32 + 8 * k)
load_field_size fields.ExceptionCode = omega arith
load_field_size fields.ExceptionFlags = omega arith
load_field_size fields.NumberParameters = omega arith

compare_zero_size : size compare_zero ≤ 4
unfolding size modrm
compare_zero_size = omega arith

-- the sizes of instructions as they are fetched
run_sizes : (is : List Instr) → run is ≡ sizes is
unfolding size
run_sizes [] = refl
run_sizes (i ∷ is) = let e = run_sizes is in omega arith

return_size : size instrs.Return ≤ 1
unfolding size
return_size = omega arith

-- the epilogue of a frame of a layout, or the return of one without
ending_if : (y : Layout) (none : Bool) → (y.size == 0) ≡ none → IsFrameIf y none
    → sizes (epilogue (plan_of_layout y 0)) ≤ 44
ending_if y true e h =
    let ends = λ (pushes saves : ℕ) (framed none : Bool). loads_then (saves_of y.slots saves)
    (opening_then (saving_plan pushes saves framed y.size y.slots 0) none
    (pops_then (pushes_of pushes framed) (instrs.Return ∷ []))) in
    let same : sizes (epilogue (plan_of_layout y 0)) ≡ sizes (instrs.Return ∷ []) =
    λ i. sizes (ends (h.0 i) (h.1 i) (h.2 i) (e i)) in
    let r = return_size in
    omega arith
ending_if y false e h =
    let few = epilogue_few (frame_of_layout y) 0 h in
    let same = run_sizes (epilogue (plan_of_layout y 0)) in
    omega arith

passing_size : (y : Layout) (first i n : ℕ) → sizes (passing_code y first i n) ≤ 16 * n
passing_size y first i zero = omega arith
passing_size y first i (suc n) =
    let a = fetched_size Rax Rsp (temporary_at y (first + i)) in
    let b = kept_size Rax Rsp (8 * i) in
    let r = passing_size y first (i + 1) n in
    omega arith

arguments_size : (y : Layout) (first : ℕ) → sizes (arguments_code y first) ≤ 32
arguments_size y first =
    let a = fetched_size Rcx Rsp (temporary_at y first) in
    let b = fetched_size Rdx Rsp (temporary_at y (first + 1)) in
    let c = fetched_size R8 Rsp (temporary_at y (first + 2)) in
    let d = fetched_size R9 Rsp (temporary_at y (first + 3)) in
    omega arith

called_size : (y : Layout) (to : Slot) (first at target : ℕ)
    → sizes (call_code y to first at target) ≤ 37 + slot_room to
called_size y to first at target =
    let a = arguments_size y first in
    let b = keep_size y to in
    let e = call_code_size y to first at target in
    omega arith

clear_size : size clear_result ≤ 5
unfolding size opcode_register
clear_size = omega arith

finally_size : (at to : ℕ) → sizes (call_finally_code at to) ≤ 13
unfolding size modrm opcode_register
finally_size at to = omega arith

unwind_size : (at target to : ℕ) → sizes (local_unwind_code at target to) ≤ 15
unfolding size modrm
unwind_size at target to = omega arith

nothing_size : size instrs.NoOperation ≤ 1
unfolding size
nothing_size = omega arith

-- no template takes more than its room
pub template_in_room : (y : Layout) (i : Instruction) → PassesFew i → IsInstructionNear y i
    → template_size y i ≤ instruction_room i
unfolding template_size
template_in_room y (instructions.Compute to o first second) few near =
    compute_size y to o first second
template_in_room y (instructions.Information to field) few near =
    let a = fetched_size Rax Rsp y.pointers in
    let b = fetched_size Rax Rax 0 in
    let c = load_field_size field in
    let d = keep_size y to in
    omega arith
template_in_room y (instructions.Landing to) few near = keep_size y to
template_in_room y (instructions.Jump label) few near = let e = jump_size 5 0 in omega arith
template_in_room y (instructions.JumpIfZero slot label) few near =
    let a = fetch_size y Rax slot in
    let b = compare_zero_size in
    let e = jump_if_zero_size y slot 0 0 in
    omega (arith, sizes_append (fetch y Rax slot) (compare_zero ∷ []))
template_in_room y (instructions.Call function first count) few near =
    let a = passing_size y first 4 (count - 4) in
    let b = arguments_size y first in
    let c = keep_size y (Temporary first) in
    let le : count ≤ 8 = few in
    let e = passing_call_size y first count 0 0 in
    omega arith
template_in_room y (instructions.CallBuiltIn function first) few near = let a = clear_size in
    let b = called_size y (Temporary first) first 5 0 in omega arith
template_in_room y (instructions.CallFinally funclet) few near = finally_size 0 0
template_in_room y (instructions.LocalUnwind label) few near = unwind_size 0 0 0
template_in_room y instructions.Separator few near = let e = nothing_size in omega arith
template_in_room y (instructions.Return from) few near =
    let a = fetch_size y Rax from in
    let e = ending_if y (y.size == 0) refl near.1 in
    omega (arith, sizes_append (fetch y Rax from) (epilogue (plan_of_layout y 0)))
