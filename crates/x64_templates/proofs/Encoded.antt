-- Each instruction of an operation has a spelling, is followed by the next, and begins no epilogue.
use Rattle.std.proofs.Common.{◌≡◌, ℕ, ◌^◌, ◌<◌, Bool, true, false, ltb, List, [], ◌∷◌, ◌++◌, Option, Some, None, refl, arith}
use Rattle.std.proofs.lemmas.Bool.{lt-ltb}
use Rattle.x64_instr.specs.Operands.{immediate_of}
use Rattle.x64_templates.specs.Words.{Width, W8, W16, W32, W64, low, bytes_of, Reg, Rax, Rcx, Rsp, Instr, is_encodable, Slot, Local, Temporary, Size, Int, Long, Signedness, Unsigned, Signed, Relation, Pure, Operation, width, Counts, IsSlot, Layout, is_straight, AllStraight, begins_epilogue, takes_frame, NoneTakesFrame, compare, extended, pure_code, high_half, before, work, fetched, put_back, temporary_at, local_at, fetch_local, keep_local, fetch, fetch_if, has_first, has_second, keep, operands_code, finish_code, HasBase, SlotsHaveRoom, is_signed, is_rsp_place, is_subtraction, is_number, Place, InRegister, InFrame, Arriving, place_of, fetch_placed, keep_placed}
use Rattle.x64_templates.proofs.PlacedCode.{Encodable}
use Rattle.c_operations.specs.declared.operation.Relation.TheVariants as relations
use Rattle.c_operations.specs.declared.operation.Pure.TheVariants as pures
use Rattle.c_operations.specs.declared.operation.Operation.TheVariants as operations
use Rattle.std.specs.Prelude.{◌&&◌}
use Rattle.x64_instr.specs.declared.instruction.Instr.TheVariants as instrs
use Rattle.x64_templates.proofs.Cells.{reg}

-- an instruction that has a spelling, is followed by the next, and begins no epilogue
abbrev pub Fine : List Instr → Type 0
Fine [] = Unit {0}
Fine (i ∷ is) = (is_encodable i ≡ true) × (is_straight i ≡ true) × (begins_epilogue i ≡ false)
    × Fine is

pub fine_both : (a b : List Instr) → Fine a → Fine b → Fine (a ++ b)
fine_both [] b p q = q
fine_both (i ∷ a) b p q = (p.0, p.1, p.2, fine_both a b p.3 q)

pub encodable_of : (is : List Instr) → Fine is → Encodable is
encodable_of [] f = tt
encodable_of (i ∷ is) f = (f.0, encodable_of is f.3)

pub straight_of : (is : List Instr) → Fine is → AllStraight is
straight_of [] f = tt
straight_of (i ∷ is) f = (f.1, straight_of is f.3)

both_or_neither : (a b c : Bool) → c ≡ false → (a && (b && c)) ≡ false
both_or_neither true true c e = e
both_or_neither true false c e = refl
both_or_neither false b c e = refl

not_taking : (i : Instr) → begins_epilogue i ≡ false → takes_frame i ≡ false
not_taking (instrs.Arithmetic o w to from) e = both_or_neither (is_subtraction o) (is_number from)
    (is_rsp_place to) e
not_taking i e = refl

pub none_taking : (is : List Instr) → Fine is → NoneTakesFrame is
none_taking [] f = tt
none_taking (i ∷ is) f = (not_taking i f.2, none_taking is f.3)

pub near : (d : ℕ) → d < 2 ^ 31 → is_signed W32 W64 d ≡ true
near d lt = let e : ltb d (2 ^ 31) ≡ true = lt-ltb d (2 ^ 31) lt in rw e refl

pub fetched_fine : (r : Bool) (base : Reg) (d : ℕ) → d < 2 ^ 31 → Fine (fetched (reg r) base d ∷ [])
fetched_fine true base d lt = (near d lt, refl, refl, tt)
fetched_fine false base d lt = (near d lt, refl, refl, tt)

pub put_back_fine : (base : Reg) (d : ℕ) → d < 2 ^ 31 → Fine (put_back base d ∷ [])
put_back_fine base d lt = (near d lt, refl, refl, tt)

small_base : (y : Layout) (n : Counts) (sp base b : ℕ) → SlotsHaveRoom y n sp base
    → HasBase y (Some b) sp base → b < 2 ^ 31
small_base y n sp base b room has = let t = room.temporaries in let a = has.0 in omega arith

fetch_local_fine : (y : Layout) (n : Counts) (sp base : ℕ) (r : Bool) (o : Option ℕ) (d : ℕ)
    → SlotsHaveRoom y n sp base → HasBase y o sp base → d < 2 ^ 31 → Fine (fetch_local o (reg r) d)
fetch_local_fine y n sp base r None d room has lt = fetched_fine r Rsp d lt
fetch_local_fine y n sp base r (Some b) d room has lt = fine_both (fetched (reg r) Rsp b ∷ [])
    (fetched (reg r) (reg r) d ∷ []) (fetched_fine r Rsp b (small_base y n sp base b room has))
    (fetched_fine r (reg r) d lt)

keep_local_fine : (y : Layout) (n : Counts) (sp base : ℕ) (o : Option ℕ) (d : ℕ)
    → SlotsHaveRoom y n sp base → HasBase y o sp base → d < 2 ^ 31 → Fine (keep_local o d)
keep_local_fine y n sp base None d room has lt = put_back_fine Rsp d lt
keep_local_fine y n sp base (Some b) d room has lt = fine_both (fetched Rcx Rsp b ∷ [])
    (put_back Rcx d ∷ []) (fetched_fine false Rsp b (small_base y n sp base b room has))
    (put_back_fine Rcx d lt)

fetch_placed_fine : (y : Layout) (n : Counts) (sp base : ℕ) (r : Bool) (i : ℕ) (p : Place)
    → SlotsHaveRoom y n sp base → i < n.locals → Fine (fetch_placed y (reg r) i p)
fetch_placed_fine y n sp base true i (InRegister q) room is = (refl, refl, refl, tt)
fetch_placed_fine y n sp base false i (InRegister q) room is = (refl, refl, refl, tt)
fetch_placed_fine y n sp base r i Arriving room is = (refl, refl, refl, tt)
fetch_placed_fine y n sp base r i InFrame room is = let l = room.locals in
    fetch_local_fine y n sp base r y.base (local_at y i) room room.kept_base (omega arith)

keep_placed_fine : (y : Layout) (n : Counts) (sp base : ℕ) (i : ℕ) (p : Place)
    → SlotsHaveRoom y n sp base → i < n.locals → Fine (keep_placed y i p)
keep_placed_fine y n sp base i (InRegister q) room is = (refl, refl, refl, tt)
keep_placed_fine y n sp base i Arriving room is = (refl, refl, refl, tt)
keep_placed_fine y n sp base i InFrame room is = let l = room.locals in
    keep_local_fine y n sp base y.base (local_at y i) room room.kept_base (omega arith)

pub fetch_fine : (y : Layout) (n : Counts) (sp base : ℕ) (r : Bool) (x : Slot)
    → SlotsHaveRoom y n sp base → IsSlot n x → Fine (fetch y (reg r) x)
fetch_fine y n sp base r (Temporary i) room is = let t = room.temporaries in
    fetched_fine r Rsp (temporary_at y i) (omega arith)
fetch_fine y n sp base r (Local i) room is = fetch_placed_fine y n sp base r i (place_of y i) room
    is

fetch_if_fine : (y : Layout) (n : Counts) (sp base : ℕ) (read r : Bool) (x : Slot)
    → SlotsHaveRoom y n sp base → IsSlot n x → Fine (fetch_if read y (reg r) x)
fetch_if_fine y n sp base true r x room is = fetch_fine y n sp base r x room is
fetch_if_fine y n sp base false r x room is = tt

pub keep_fine : (y : Layout) (n : Counts) (sp base : ℕ) (x : Slot) → SlotsHaveRoom y n sp base
    → IsSlot n x → Fine (keep y x)
keep_fine y n sp base (Temporary i) room is = let t = room.temporaries in
    put_back_fine Rsp (temporary_at y i) (omega arith)
keep_fine y n sp base (Local i) room is = keep_placed_fine y n sp base i (place_of y i) room is

-- ---- operations

number_fine : (v : ℕ) → ltb (low W64 v) (2 ^ 64) ≡ true
number_fine v = lt-ltb (low W64 v) (2 ^ 64) (omega arith)

extended_fine : (s : Signedness) (n : Width) (z : Size) → Fine (extended s n z)
extended_fine Unsigned W8 z = (refl, refl, refl, tt)
extended_fine Unsigned W16 z = (refl, refl, refl, tt)
extended_fine Unsigned W32 z = (refl, refl, refl, tt)
extended_fine Unsigned W64 z = (refl, refl, refl, tt)
extended_fine Signed W8 Int = (refl, refl, refl, tt)
extended_fine Signed W8 Long = (refl, refl, refl, tt)
extended_fine Signed W16 Int = (refl, refl, refl, tt)
extended_fine Signed W16 Long = (refl, refl, refl, tt)
extended_fine Signed W32 Int = (refl, refl, refl, tt)
extended_fine Signed W32 Long = (refl, refl, refl, tt)
extended_fine Signed W64 Int = (refl, refl, refl, tt)
extended_fine Signed W64 Long = (refl, refl, refl, tt)

compare_fine : (r : Relation) (s : Signedness) (w : Width) → Fine (compare r s w)
compare_fine relations.Equal s w = (refl, refl, refl, (refl, refl, refl, (refl, refl, refl, tt)))
compare_fine relations.NotEqual s w = (refl, refl, refl, (refl, refl, refl, (refl, refl, refl, tt)))
compare_fine relations.Less s w = (refl, refl, refl, (refl, refl, refl, (refl, refl, refl, tt)))
compare_fine relations.LessOrEqual s w = (
  refl,
  refl,
  refl,
  (refl, refl, refl, (refl, refl, refl, tt)),
)
compare_fine relations.Greater s w = (refl, refl, refl, (refl, refl, refl, (refl, refl, refl, tt)))
compare_fine relations.GreaterOrEqual s w = (
  refl,
  refl,
  refl,
  (refl, refl, refl, (refl, refl, refl, tt)),
)

pure_fine : (p : Pure) → Fine (pure_code p)
pure_fine (pures.Constant v) = (number_fine v, refl, refl, tt)
pure_fine pures.First = tt
pure_fine (pures.Extend s n z) = extended_fine s n z
pure_fine (pures.Not z) = (refl, refl, refl, tt)
pure_fine (pures.Negate z) = (refl, refl, refl, tt)
pure_fine (pures.Add z) = (refl, refl, refl, tt)
pure_fine (pures.Subtract z) = (refl, refl, refl, tt)
pure_fine (pures.Multiply Int) = (refl, refl, refl, tt)
pure_fine (pures.Multiply Long) = (refl, refl, refl, tt)
pure_fine (pures.MultiplyBy n) = (number_fine n, refl, refl, (refl, refl, refl, tt))
pure_fine (pures.And z) = (refl, refl, refl, tt)
pure_fine (pures.Or z) = (refl, refl, refl, tt)
pure_fine (pures.Xor z) = (refl, refl, refl, tt)
pure_fine (pures.ShiftLeft Int) = (refl, refl, refl, tt)
pure_fine (pures.ShiftLeft Long) = (refl, refl, refl, tt)
pure_fine (pures.ShiftRight s Int) = (refl, refl, refl, tt)
pure_fine (pures.ShiftRight s Long) = (refl, refl, refl, tt)
pure_fine (pures.Compare r s z) = compare_fine r s (width z)

half_fine : (s : Signedness) (z : Size) → Fine (high_half s (width z) ∷ [])
half_fine Unsigned z = (refl, refl, refl, tt)
half_fine Signed Int = (refl, refl, refl, tt)
half_fine Signed Long = (refl, refl, refl, tt)

before_fine : (o : Operation) → Fine (before o)
before_fine (operations.Pure p) = tt
before_fine (operations.Divide s z) = half_fine s z
before_fine (operations.Remainder s z) = half_fine s z
before_fine o = tt

clear_fine : (w : Width) (offset : ℕ) → is_signed W32 W64 (bytes_of w) ≡ true
    → is_signed (immediate_of w) w 0 ≡ true → Fine (work (operations.Clear w offset))
clear_fine w offset size zero = (
  number_fine offset,
  refl,
  refl,
  (refl, refl, refl, (size, refl, refl, (zero, refl, refl, (refl, refl, refl, tt)))),
)

pub work_fine : (o : Operation) → Fine (work o)
work_fine (operations.Pure p) = pure_fine p
work_fine (operations.Divide s Int) = (refl, refl, refl, tt)
work_fine (operations.Divide s Long) = (refl, refl, refl, tt)
work_fine (operations.Remainder s Int) = (refl, refl, refl, (refl, refl, refl, tt))
work_fine (operations.Remainder s Long) = (refl, refl, refl, (refl, refl, refl, tt))
work_fine (operations.Load W8) = (refl, refl, refl, tt)
work_fine (operations.Load W16) = (refl, refl, refl, tt)
work_fine (operations.Load W32) = (refl, refl, refl, tt)
work_fine (operations.Load W64) = (refl, refl, refl, tt)
work_fine (operations.Store w) = (refl, refl, refl, (refl, refl, refl, tt))
work_fine (operations.Allocate n) = (
  refl,
  refl,
  refl,
  (number_fine n, refl, refl, (refl, refl, refl, tt)),
)
work_fine (operations.SetPointer n) = (
  number_fine n,
  refl,
  refl,
  (refl, refl, refl, (refl, refl, refl, tt)),
)
work_fine (operations.Place w offset) = (
  number_fine offset,
  refl,
  refl,
  (refl, refl, refl, (refl, refl, refl, tt)),
)
work_fine (operations.Clear W8 offset) = clear_fine W8 offset refl refl
work_fine (operations.Clear W16 offset) = clear_fine W16 offset refl refl
work_fine (operations.Clear W32 offset) = clear_fine W32 offset refl refl
work_fine (operations.Clear W64 offset) = clear_fine W64 offset refl refl

pub operands_fine : (y : Layout) (n : Counts) (sp base : ℕ) (o : Operation) (first second : Slot)
    → SlotsHaveRoom y n sp base → IsSlot n first → IsSlot n second
    → Fine (operands_code y o first second)
operands_fine y n sp base o first second room f s = fine_both (fetch_if (has_first o) y Rax first)
    (fetch_if (has_second o) y Rcx second ++ before o)
    (fetch_if_fine y n sp base (has_first o) true first room f)
    (fine_both (fetch_if (has_second o) y Rcx second) (before o)
    (fetch_if_fine y n sp base (has_second o) false second room s) (before_fine o))

pub finish_fine : (y : Layout) (n : Counts) (sp base : ℕ) (o : Operation) (to : Slot)
    → SlotsHaveRoom y n sp base → IsSlot n to → Fine (finish_code y o to)
finish_fine y n sp base o to room t = fine_both (work o) (keep y to) (work_fine o)
    (keep_fine y n sp base to room t)
