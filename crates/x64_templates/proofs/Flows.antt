-- Templates flow: each of their instructions but a jump at the end keeps RSP and the nonvolatile
-- registers, and at most one of them stores, but for a store of the source before its result is
-- kept.
use Rattle.std.proofs.Common.{ℕ, ◌+◌, ◌<◌, ◌^◌, Bool, true, false, List, [], ◌∷◌, ◌++◌, Option, Some, None, refl, inl, inr}
use Rattle.x64_templates.specs.Words.{Width, W8, W16, W32, W64, Rax, Rcx, Rsp, Instr, Slot, Local, Temporary, Counts, IsSlot, Field, ExceptionCode, ExceptionFlags, NumberParameters, ExceptionInformation, Size, Int, Long, Signedness, Unsigned, Signed, Relation, Pure, Operation, Layout, sizes, compare, extended, pure_code, before, work, fetched, local_at, fetch_local, keep_local, fetch, fetch_if, has_first, has_second, keep, operands_code, jump_equal, jump_code, compare_zero, test_code, jump_if_zero_code, separator_code, IsNear, field_load, information_code, KeepsRegisters, StoresNothing, Flows, StoresOnce, SlotsHaveRoom, IsField, Place, InRegister, InFrame, Arriving, place_of, fetch_placed, keep_placed}
use Rattle.c_operations.specs.declared.operation.Relation.TheVariants as relations
use Rattle.c_operations.specs.declared.operation.Pure.TheVariants as pures
use Rattle.c_operations.specs.declared.operation.Operation.TheVariants as operations
use Rattle.x64_templates.proofs.Lemmas.{short}
use Rattle.x64_templates.proofs.PlacedCode.{Encodable}
use Rattle.x64_templates.proofs.Keeping.{flows_on, nothing_both, nothing_keeps, flows, flows_to, once_after, nothing_once}
use Rattle.x64_templates.proofs.Cells.{reg}
use Rattle.x64_templates.proofs.Encoded.{Fine, fine_both, encodable_of, near, fetch_fine, keep_fine, work_fine, operands_fine}
use Rattle.x64_templates.proofs.Information.{field_fine}

-- code with a spelling, which flows and stores at most once
pub record IsFlow (code : List Instr) : Type 0 where
  pub spelling : Encodable code
  pub flow : Flows code
  pub once : StoresOnce code

-- ---- slots

local_nothing : (r : Bool) (o : Option ℕ) (d : ℕ) → StoresNothing (fetch_local o (reg r) d)
local_nothing true None d = (refl, refl, tt)
local_nothing false None d = (refl, refl, tt)
local_nothing true (Some b) d = (refl, refl, (refl, refl, tt))
local_nothing false (Some b) d = (refl, refl, (refl, refl, tt))

placed_nothing : (y : Layout) (r : Bool) (i : ℕ) (p : Place)
    → StoresNothing (fetch_placed y (reg r) i p)
placed_nothing y true i (InRegister q) = (refl, refl, tt)
placed_nothing y false i (InRegister q) = (refl, refl, tt)
placed_nothing y true i Arriving = (refl, refl, tt)
placed_nothing y false i Arriving = (refl, refl, tt)
placed_nothing y r i InFrame = local_nothing r y.base (local_at y i)

pub fetch_nothing : (y : Layout) (r : Bool) (x : Slot) → StoresNothing (fetch y (reg r) x)
fetch_nothing y true (Temporary i) = (refl, refl, tt)
fetch_nothing y false (Temporary i) = (refl, refl, tt)
fetch_nothing y r (Local i) = placed_nothing y r i (place_of y i)

fetch_if_nothing : (read : Bool) (y : Layout) (r : Bool) (x : Slot)
    → StoresNothing (fetch_if read y (reg r) x)
fetch_if_nothing true y r x = fetch_nothing y r x
fetch_if_nothing false y r x = tt

keep_local_keeps : (o : Option ℕ) (d : ℕ) → KeepsRegisters (keep_local o d)
keep_local_keeps None d = (refl, tt)
keep_local_keeps (Some b) d = (refl, (refl, tt))

keep_local_once : (o : Option ℕ) (d : ℕ) → StoresOnce (keep_local o d)
keep_local_once None d = inr tt
keep_local_once (Some b) d = inl (refl, inr tt)

-- a local in a register is written by the last instruction alone
keep_placed_flows : (y : Layout) (i : ℕ) (p : Place) → Flows (keep_placed y i p)
keep_placed_flows y i (InRegister q) = refl
keep_placed_flows y i Arriving = refl
keep_placed_flows y i InFrame = flows (keep_local y.base (local_at y i))
    (keep_local_keeps y.base (local_at y i))

keep_flows : (y : Layout) (x : Slot) → Flows (keep y x)
keep_flows y (Temporary i) = refl
keep_flows y (Local i) = keep_placed_flows y i (place_of y i)

keep_placed_once : (y : Layout) (i : ℕ) (p : Place) → StoresOnce (keep_placed y i p)
keep_placed_once y i (InRegister q) = inr tt
keep_placed_once y i Arriving = inr tt
keep_placed_once y i InFrame = keep_local_once y.base (local_at y i)

keep_once : (y : Layout) (x : Slot) → StoresOnce (keep y x)
keep_once y (Temporary i) = inr tt
keep_once y (Local i) = keep_placed_once y i (place_of y i)

-- ---- operations

extended_nothing : (s : Signedness) (n : Width) (z : Size) → StoresNothing (extended s n z)
extended_nothing Unsigned W8 z = (refl, refl, tt)
extended_nothing Unsigned W16 z = (refl, refl, tt)
extended_nothing Unsigned W32 z = (refl, refl, tt)
extended_nothing Unsigned W64 z = (refl, refl, tt)
extended_nothing Signed W8 z = (refl, refl, tt)
extended_nothing Signed W16 z = (refl, refl, tt)
extended_nothing Signed W32 Int = (refl, refl, tt)
extended_nothing Signed W32 Long = (refl, refl, tt)
extended_nothing Signed W64 z = (refl, refl, tt)

compare_nothing : (r : Relation) (s : Signedness) (w : Width) → StoresNothing (compare r s w)
compare_nothing relations.Equal s w = (refl, refl, (refl, refl, (refl, refl, tt)))
compare_nothing relations.NotEqual s w = (refl, refl, (refl, refl, (refl, refl, tt)))
compare_nothing relations.Less s w = (refl, refl, (refl, refl, (refl, refl, tt)))
compare_nothing relations.LessOrEqual s w = (refl, refl, (refl, refl, (refl, refl, tt)))
compare_nothing relations.Greater s w = (refl, refl, (refl, refl, (refl, refl, tt)))
compare_nothing relations.GreaterOrEqual s w = (refl, refl, (refl, refl, (refl, refl, tt)))

pure_nothing : (p : Pure) → StoresNothing (pure_code p)
pure_nothing (pures.Constant v) = (refl, refl, tt)
pure_nothing pures.First = tt
pure_nothing (pures.Extend s n z) = extended_nothing s n z
pure_nothing (pures.Not z) = (refl, refl, tt)
pure_nothing (pures.Negate z) = (refl, refl, tt)
pure_nothing (pures.Add z) = (refl, refl, tt)
pure_nothing (pures.Subtract z) = (refl, refl, tt)
pure_nothing (pures.Multiply z) = (refl, refl, tt)
pure_nothing (pures.MultiplyBy n) = (refl, refl, (refl, refl, tt))
pure_nothing (pures.And z) = (refl, refl, tt)
pure_nothing (pures.Or z) = (refl, refl, tt)
pure_nothing (pures.Xor z) = (refl, refl, tt)
pure_nothing (pures.ShiftLeft z) = (refl, refl, tt)
pure_nothing (pures.ShiftRight s z) = (refl, refl, tt)
pure_nothing (pures.Compare r s z) = compare_nothing r s _

before_nothing : (o : Operation) → StoresNothing (before o)
before_nothing (operations.Pure p) = tt
before_nothing (operations.Divide Unsigned z) = (refl, refl, tt)
before_nothing (operations.Divide Signed z) = (refl, refl, tt)
before_nothing (operations.Remainder Unsigned z) = (refl, refl, tt)
before_nothing (operations.Remainder Signed z) = (refl, refl, tt)
before_nothing o = tt

work_keeps : (o : Operation) → KeepsRegisters (work o)
work_keeps (operations.Pure p) = nothing_keeps (pure_code p) (pure_nothing p)
work_keeps (operations.Divide s z) = (refl, tt)
work_keeps (operations.Remainder s z) = (refl, (refl, tt))
work_keeps (operations.Load W8) = (refl, tt)
work_keeps (operations.Load W16) = (refl, tt)
work_keeps (operations.Load W32) = (refl, tt)
work_keeps (operations.Load W64) = (refl, tt)
work_keeps (operations.Store w) = (refl, (refl, tt))
work_keeps (operations.Allocate n) = (refl, (refl, (refl, tt)))
work_keeps (operations.SetPointer n) = (refl, (refl, (refl, tt)))
work_keeps (operations.Place w offset) = (refl, (refl, (refl, tt)))
work_keeps (operations.Clear w offset) = (refl, (refl, (refl, (refl, (refl, tt)))))

work_once : (o : Operation) → StoresOnce (work o)
work_once (operations.Pure p) = nothing_once (pure_code p) (pure_nothing p)
work_once (operations.Divide s z) = inr tt
work_once (operations.Remainder s z) = inr (refl, refl, tt)
work_once (operations.Load W8) = inr tt
work_once (operations.Load W16) = inr tt
work_once (operations.Load W32) = inr tt
work_once (operations.Load W64) = inr tt
work_once (operations.Store w) = inr (refl, refl, tt)
work_once (operations.Allocate n) = inl (refl, inl (refl, inr tt))
work_once (operations.SetPointer n) = inl (refl, inl (refl, inr tt))
work_once (operations.Place w offset) = inl (refl, inr (refl, refl, tt))
work_once (operations.Clear w offset) = inl
    (refl, inl (refl, inl (refl, inr (refl, refl, tt))))

operands_nothing : (y : Layout) (o : Operation) (first second : Slot)
    → StoresNothing (operands_code y o first second)
operands_nothing y o first second =
    nothing_both (fetch_if (has_first o) y Rax first)
    (fetch_if (has_second o) y Rcx second ++ before o)
    (fetch_if_nothing (has_first o) y true first)
    (nothing_both (fetch_if (has_second o) y Rcx second) (before o)
    (fetch_if_nothing (has_second o) y false second) (before_nothing o))

field_nothing : (field : Field) → StoresNothing (field_load field ∷ [])
field_nothing ExceptionCode = (refl, refl, tt)
field_nothing ExceptionFlags = (refl, refl, tt)
field_nothing NumberParameters = (refl, refl, tt)
field_nothing (ExceptionInformation k) = (refl, refl, tt)

-- ---- pieces of templates

nothing_flows : (code : List Instr) → Fine code → StoresNothing code → IsFlow code
nothing_flows code fine nothing = record {
  spelling = encodable_of code fine;
  flow = flows code (nothing_keeps code nothing);
  once = nothing_once code nothing;
}

pub work_flow : (o : Operation) → IsFlow (work o)
work_flow o = record {
  spelling = encodable_of (work o) (work_fine o);
  flow = flows (work o) (work_keeps o);
  once = work_once o;
}

pub separator_flow : IsFlow separator_code
separator_flow = record { spelling = (refl, tt); flow = refl; once = inr tt }

pub jump_flow : (at to : ℕ) → IsNear (at + 5) to → IsFlow (jump_code at to)
jump_flow at to near_by = record {
  spelling = (short (at + 5) to near_by, tt);
  flow = refl;
  once = inr tt;
}

module _ (y : Layout) (n : Counts) (sp base : ℕ) (room : SlotsHaveRoom y n sp base) where
  pub keep_flow : (to : Slot) → IsSlot n to → IsFlow (keep y to)
  keep_flow to is = record {
    spelling = encodable_of (keep y to) (keep_fine y n sp base to room is);
    flow = keep_flows y to;
    once = keep_once y to;
  }

  pub operands_flow : (o : Operation) (first second : Slot) → IsSlot n first → IsSlot n second
      → IsFlow (operands_code y o first second)
  operands_flow o first second f s = nothing_flows (operands_code y o first second)
      (operands_fine y n sp base o first second room f s) (operands_nothing y o first second)

  pub information_flow : (to : Slot) (field : Field) → IsSlot n to → IsField field
      → y.pointers < 2 ^ 31 → IsFlow (information_code y to field)
  information_flow to field is isf small =
      let loads = fetched Rax Rsp y.pointers ∷ fetched Rax Rax 0 ∷ field_load field ∷ [] in
      let fine : Fine loads = (
        near y.pointers small,
        refl,
        refl,
        (refl, refl, refl, field_fine field isf),
      ) in
      let nothing : StoresNothing loads = (refl, refl, (refl, refl, field_nothing field)) in
      record {
        spelling = encodable_of (loads ++ keep y to)
            (fine_both loads (keep y to) fine (keep_fine y n sp base to room is));
        flow = flows_on loads (keep y to) (nothing_keeps loads nothing) (keep_flows y to);
        once = once_after loads (keep y to) nothing (keep_once y to);
      }

  pub jump_if_zero_flow : (slot : Slot) (at to : ℕ) → IsSlot n slot
      → IsNear (at + sizes (test_code y slot) + 6) to → IsFlow (jump_if_zero_code y slot at to)
  jump_if_zero_flow slot at to is near_by =
      let first = fetch y Rax slot in
      let branch = jump_equal (at + sizes (test_code y slot) + 6) to in
      record {
        spelling = spelled_then first (compare_zero ∷ branch ∷ [])
            (encodable_of first (fetch_fine y n sp base true slot room is))
            (refl, (short (at + sizes (test_code y slot) + 6) to near_by, tt));
        flow = flows_to first compare_zero (branch ∷ [])
            (nothing_keeps first (fetch_nothing y true slot)) (refl, refl);
        once = once_after first (compare_zero ∷ branch ∷ []) (fetch_nothing y true slot)
            (inl (refl, inr tt));
      }
    where
      spelled_then : (a b : List Instr) → Encodable a → Encodable b → Encodable (a ++ b)
      spelled_then [] b p q = q
      spelled_then (i ∷ a) b p q = (p.0, spelled_then a b p.1 q)
