-- Instructions of a body: each has a spelling, keeps RSP, the frame register and the nonvolatile
-- registers that aren't saved, and begins no epilogue.
use Rattle.std.proofs.Common.{◌≡◌, ℕ, ◌^◌, ◌==◌, Bool, true, false, cond, not, ◌&&◌, ◌||◌, eqb, List, [], ◌∷◌, ◌++◌, Option, Some, None, refl, arith}
use Rattle.std.proofs.lemmas.Bool.{lt-ltb, false≢true, and_parts, and_from, or_right}
use Rattle.image_tables.specs.Words.{W32, low, Rax, Rcx, Rsp, Instr, is_encodable, UnwindOperation, Other, role_of, written, may_write_all, Slot, Local, Temporary, Layout, before, work, temporary_at, local_at, fetch_local, keep_local, fetch, keep, IsNear, W8, W16, W64, is_signed, compare, extended, pure_code, high_half, IsBaseNear, IsSlotNear}
use Rattle.seh_num.specs.declared.width.Width.{Width}
use Rattle.x64_instr.specs.declared.instruction.Instr.TheVariants as instrs
use Rattle.x64_instr.specs.declared.register.Reg.{Reg}
use Rattle.x64_instr.specs.declared.register.Reg.TheVariants.{Rdx, R8, R9}
use Rattle.x64_instr.specs.Registers.{number}
use Rattle.x64_instr.specs.Operands.{immediate_of}
use Rattle.seh_num.specs.Widths.{bytes_of}
use Rattle.template_code.specs.Operations.{set}
use Rattle.virtual_unwind.specs.Contexts.{is_nonvolatile}
use Rattle.frame_rules.specs.Body.{may_write}
use Rattle.frame_rules.specs.Codes.{is_saved}
use Rattle.frame_rules.proofs.Planning.{small_signed}
use Rattle.c_operations.specs.declared.operation.Size.{Size}
use Rattle.c_operations.specs.declared.operation.Size.TheVariants.{Int, Long}
use Rattle.c_operations.specs.declared.operation.Signedness.{Signedness}
use Rattle.c_operations.specs.declared.operation.Signedness.TheVariants.{Unsigned, Signed}
use Rattle.c_operations.specs.declared.operation.Relation.{Relation}
use Rattle.c_operations.specs.declared.operation.Relation.TheVariants as relations
use Rattle.c_operations.specs.declared.operation.Pure.{Pure}
use Rattle.template_code.specs.declared.layout.Place.{Place}
use Rattle.template_code.specs.declared.layout.Place.TheVariants.{InRegister, InFrame, Arriving}
use Rattle.template_code.specs.Places.{parameter_register, place_of}
use Rattle.template_code.specs.Slots.{fetch_placed, keep_placed}
use Rattle.template_code.specs.Frames.{frame_register_if}
use Rattle.template_code.specs.declared.layout.TheConstants.{FRAME_REGISTER, LOCAL_REGISTERS}
use Rattle.template_code.proofs.Places.{Each, place_register}
use Rattle.c_operations.specs.declared.operation.Pure.TheVariants as pures
use Rattle.c_operations.specs.declared.operation.Operation.{Operation}
use Rattle.c_operations.specs.declared.operation.Operation.TheVariants as operations
use Rattle.c_operations.specs.Numbers.{width}

-- by its displacement
pub signed : (d : ℕ) → IsNear d → is_signed W32 W64 d ≡ true
signed d lt = small_signed d (omega arith)

-- neither RSP nor the frame register
abbrev IsApart : Reg → Type 0
IsApart r = (not (eqb (number r) 4) ≡ true) × (not (eqb (number r) FRAME_REGISTER) ≡ true)

apart_registers : Each IsApart LOCAL_REGISTERS
apart_registers = (
  (refl, refl),
  (
    (refl, refl),
    ((refl, refl), ((refl, refl), ((refl, refl), ((refl, refl), ((refl, refl), tt))))),
  ),
)

-- with what the frame saves
module _ (ops : List UnwindOperation) where
  abbrev pub Inner : Instr → Type 0
  Inner i = (is_encodable i ≡ true) × ((plain : Bool) → role_of 0 plain i ≡ Other)
      × (may_write_all FRAME_REGISTER ops (written i) ≡ true)

  abbrev pub AllInner : List Instr → Type 0
  AllInner [] = Unit {0}
  AllInner (i ∷ is) = Inner i × AllInner is

  pub inner_both : (a b : List Instr) → AllInner a → AllInner b → AllInner (a ++ b)
  inner_both [] b p q = q
  inner_both (i ∷ a) b p q = (p.0, inner_both a b p.1 q)

  -- the one after others
  pub inner_at : (a b : List Instr) (i : Instr) → AllInner (a ++ (i ∷ b)) → Inner i
  inner_at [] b i all = all.0
  inner_at (j ∷ a) b i all = inner_at a b i all.1

  -- ---- so it is with a frame register or without

  pub inner_role : (f : ℕ) (i : Instr) → Inner i → (plain : Bool) → role_of f plain i ≡ Other
  inner_role f (instrs.LoadAddress W64 Rsp a) h plain = absurd (false≢true h.2)
  inner_role f i h plain = h.1 plain

  pub inner_writes : (framed : Bool) (rs : List ℕ) → may_write_all FRAME_REGISTER ops rs ≡ true
      → may_write_all (frame_register_if framed) ops rs ≡ true
  inner_writes true rs h = h
  inner_writes false [] h = refl
  inner_writes false (r ∷ rs) h =
      let p = and_parts (may_write FRAME_REGISTER ops r) (may_write_all FRAME_REGISTER ops rs) h in
      let kept = not (is_nonvolatile r) || is_saved r ops in
      let q = and_parts (not (eqb r 4)) (not (eqb r FRAME_REGISTER) && kept) p.0 in
      and_from (may_write 0 ops r) (may_write_all 0 ops rs)
      (and_from (not (eqb r 4)) kept q.0 (and_parts (not (eqb r FRAME_REGISTER)) kept q.1).1)
      (inner_writes false rs p.1)

  -- ---- slots

  fetch_local_inner : (o : Option ℕ) (d : ℕ) → IsBaseNear o → IsNear d
      → AllInner (fetch_local o Rax d) × AllInner (fetch_local o Rcx d)
  fetch_local_inner None d near lt = (
    ((signed d lt, (λ b. refl), refl), tt),
    ((signed d lt, (λ b. refl), refl), tt),
  )
  fetch_local_inner (Some b) d near lt = (
    (
      (signed b near, (λ b. refl), refl),
      ((signed d lt, (λ b. refl), refl), tt),
    ),
    ((signed b near, (λ b. refl), refl), ((signed d lt, (λ b. refl), refl), tt)),
  )

  keep_local_inner : (o : Option ℕ) (d : ℕ) → IsBaseNear o → IsNear d → AllInner (keep_local o d)
  keep_local_inner None d near lt = ((signed d lt, (λ b. refl), refl), tt)
  keep_local_inner (Some b) d near lt = (
    (signed b near, (λ b. refl), refl),
    ((signed d lt, (λ b. refl), refl), tt),
  )

  fetch_placed_inner : (y : Layout) (i : ℕ) (p : Place) → IsBaseNear y.base → IsNear (local_at y i)
      → AllInner (fetch_placed y Rax i p) × AllInner (fetch_placed y Rcx i p)
  fetch_placed_inner y i (InRegister r) near lt = (
    ((refl, (λ b. refl), refl), tt),
    ((refl, (λ b. refl), refl), tt),
  )
  fetch_placed_inner y i Arriving near lt = (
    ((refl, (λ b. refl), refl), tt),
    ((refl, (λ b. refl), refl), tt),
  )
  fetch_placed_inner y i InFrame near lt = fetch_local_inner y.base (local_at y i) near lt

  pub fetch_inner : (y : Layout) (x : Slot) → IsSlotNear y x → AllInner (fetch y Rax x)
  fetch_inner y (Temporary i) near = ((signed (temporary_at y i) near, (λ b. refl), refl), tt)
  fetch_inner y (Local i) near = (fetch_placed_inner y i (place_of y i) near.1 near.0).0

  pub fetch_second : (y : Layout) (x : Slot) → IsSlotNear y x → AllInner (fetch y Rcx x)
  fetch_second y (Temporary i) near = ((signed (temporary_at y i) near, (λ b. refl), refl), tt)
  fetch_second y (Local i) near = (fetch_placed_inner y i (place_of y i) near.1 near.0).1

  -- the registers of a layout's locals are saved
  abbrev pub AreSaved : Layout → Type 0
  AreSaved y = (i : ℕ) (r : Reg) → place_of y i ≡ InRegister r → is_saved (number r) ops ≡ true

  -- so a body may write them
  pub register_written : (y : Layout) (i : ℕ) (r : Reg) → AreSaved y → place_of y i ≡ InRegister r
      → may_write_all FRAME_REGISTER ops (number r ∷ []) ≡ true
  register_written y i r saved e =
      let apart = place_register IsApart y i r apart_registers e in
      let kept = not (is_nonvolatile (number r)) || is_saved (number r) ops in
      and_from (may_write FRAME_REGISTER ops (number r)) true
      (and_from (not (eqb (number r) 4)) (not (eqb (number r) FRAME_REGISTER) && kept) apart.0
      (and_from (not (eqb (number r) FRAME_REGISTER)) kept apart.1
      (or_right (not (is_nonvolatile (number r))) (is_saved (number r) ops) (saved i r e)))) refl

  -- the registers in which parameters arrive need not be saved
  arriving_written : (i : ℕ)
      → may_write_all FRAME_REGISTER ops (number (parameter_register i) ∷ []) ≡ true
  arriving_written i = by (i == 0) (i == 1) (i == 2)
    where
      by : (a b c : Bool) → may_write_all FRAME_REGISTER ops
          (number (cond a Rcx (cond b Rdx (cond c R8 R9))) ∷ []) ≡ true
      by true b c = refl
      by false true c = refl
      by false false true = refl
      by false false false = refl

  keep_placed_inner : (y : Layout) (i : ℕ) (p : Place) → AreSaved y → IsBaseNear y.base
      → IsNear (local_at y i) → place_of y i ≡ p → AllInner (keep_placed y i p)
  keep_placed_inner y i (InRegister r) saved near lt e =
      ((refl, (λ b. refl), register_written y i r saved e), tt)
  keep_placed_inner y i Arriving saved near lt e = ((refl, (λ b. refl), arriving_written i), tt)
  keep_placed_inner y i InFrame saved near lt e = keep_local_inner y.base (local_at y i) near lt

  pub keep_inner : (y : Layout) (x : Slot) → AreSaved y → IsSlotNear y x → AllInner (keep y x)
  keep_inner y (Temporary i) saved near = ((signed (temporary_at y i) near, (λ b. refl), refl), tt)
  keep_inner y (Local i) saved near = keep_placed_inner y i (place_of y i) saved near.1 near.0 refl

  -- ---- operations

  extended_inner : (s : Signedness) (n : Width) (z : Size) → AllInner (extended s n z)
  extended_inner Unsigned W8 z = ((refl, (λ b. refl), refl), tt)
  extended_inner Unsigned W16 z = ((refl, (λ b. refl), refl), tt)
  extended_inner Unsigned W32 z = ((refl, (λ b. refl), refl), tt)
  extended_inner Unsigned W64 z = ((refl, (λ b. refl), refl), tt)
  extended_inner Signed W8 Int = ((refl, (λ b. refl), refl), tt)
  extended_inner Signed W8 Long = ((refl, (λ b. refl), refl), tt)
  extended_inner Signed W16 Int = ((refl, (λ b. refl), refl), tt)
  extended_inner Signed W16 Long = ((refl, (λ b. refl), refl), tt)
  extended_inner Signed W32 Int = ((refl, (λ b. refl), refl), tt)
  extended_inner Signed W32 Long = ((refl, (λ b. refl), refl), tt)
  extended_inner Signed W64 Int = ((refl, (λ b. refl), refl), tt)
  extended_inner Signed W64 Long = ((refl, (λ b. refl), refl), tt)

  compare_inner : (r : Relation) (s : Signedness) (w : Width) → AllInner (compare r s w)
  compare_inner relations.Equal s w = (
    (refl, (λ b. refl), refl),
    ((refl, (λ b. refl), refl), ((refl, (λ b. refl), refl), tt)),
  )
  compare_inner relations.NotEqual s w = (
    (refl, (λ b. refl), refl),
    ((refl, (λ b. refl), refl), ((refl, (λ b. refl), refl), tt)),
  )
  compare_inner relations.Less s w = (
    (refl, (λ b. refl), refl),
    ((refl, (λ b. refl), refl), ((refl, (λ b. refl), refl), tt)),
  )
  compare_inner relations.LessOrEqual s w = (
    (refl, (λ b. refl), refl),
    ((refl, (λ b. refl), refl), ((refl, (λ b. refl), refl), tt)),
  )
  compare_inner relations.Greater s w = (
    (refl, (λ b. refl), refl),
    ((refl, (λ b. refl), refl), ((refl, (λ b. refl), refl), tt)),
  )
  compare_inner relations.GreaterOrEqual s w = (
    (refl, (λ b. refl), refl),
    ((refl, (λ b. refl), refl), ((refl, (λ b. refl), refl), tt)),
  )

  -- a number to a register that may be written
  set_inner : (r : Reg) (v : ℕ) → may_write_all FRAME_REGISTER ops (number r ∷ []) ≡ true
      → Inner (set r v)
  set_inner r v writes = (lt-ltb (low W64 v) (2 ^ 64) (omega arith), (λ b. refl), writes)

  pure_inner : (p : Pure) → AllInner (pure_code p)
  pure_inner (pures.Constant v) = (set_inner Rax v refl, tt)
  pure_inner pures.First = tt
  pure_inner (pures.Extend s n z) = extended_inner s n z
  pure_inner (pures.Not z) = ((refl, (λ b. refl), refl), tt)
  pure_inner (pures.Negate z) = ((refl, (λ b. refl), refl), tt)
  pure_inner (pures.Add Int) = ((refl, (λ b. refl), refl), tt)
  pure_inner (pures.Add Long) = ((refl, (λ b. refl), refl), tt)
  pure_inner (pures.Subtract z) = ((refl, (λ b. refl), refl), tt)
  pure_inner (pures.Multiply Int) = ((refl, (λ b. refl), refl), tt)
  pure_inner (pures.Multiply Long) = ((refl, (λ b. refl), refl), tt)
  pure_inner (pures.MultiplyBy n) = (set_inner Rcx n refl, ((refl, (λ b. refl), refl), tt))
  pure_inner (pures.And z) = ((refl, (λ b. refl), refl), tt)
  pure_inner (pures.Or z) = ((refl, (λ b. refl), refl), tt)
  pure_inner (pures.Xor z) = ((refl, (λ b. refl), refl), tt)
  pure_inner (pures.ShiftLeft Int) = ((refl, (λ b. refl), refl), tt)
  pure_inner (pures.ShiftLeft Long) = ((refl, (λ b. refl), refl), tt)
  pure_inner (pures.ShiftRight s Int) = ((refl, (λ b. refl), refl), tt)
  pure_inner (pures.ShiftRight s Long) = ((refl, (λ b. refl), refl), tt)
  pure_inner (pures.Compare r s z) = compare_inner r s (width z)

  half_inner : (s : Signedness) (z : Size) → AllInner (high_half s (width z) ∷ [])
  half_inner Unsigned z = ((refl, (λ b. refl), refl), tt)
  half_inner Signed Int = ((refl, (λ b. refl), refl), tt)
  half_inner Signed Long = ((refl, (λ b. refl), refl), tt)

  pub before_inner : (o : Operation) → AllInner (before o)
  before_inner (operations.Pure p) = tt
  before_inner (operations.Divide s z) = half_inner s z
  before_inner (operations.Remainder s z) = half_inner s z
  before_inner o = tt

  clear_inner : (w : Width) (offset : ℕ) → is_signed W32 W64 (bytes_of w) ≡ true
      → is_signed (immediate_of w) w 0 ≡ true → AllInner (work (operations.Clear w offset))
  clear_inner w offset size zero = (
    set_inner Rdx offset refl,
    (
      (refl, (λ b. refl), refl),
      (
        (size, (λ b. refl), refl),
        ((zero, (λ b. refl), refl), ((refl, (λ b. refl), refl), tt)),
      ),
    ),
  )

  pub work_inner : (o : Operation) → AllInner (work o)
  work_inner (operations.Pure p) = pure_inner p
  work_inner (operations.Divide s Int) = ((refl, (λ b. refl), refl), tt)
  work_inner (operations.Divide s Long) = ((refl, (λ b. refl), refl), tt)
  work_inner (operations.Remainder s Int) = (
    (refl, (λ b. refl), refl),
    ((refl, (λ b. refl), refl), tt),
  )
  work_inner (operations.Remainder s Long) = (
    (refl, (λ b. refl), refl),
    ((refl, (λ b. refl), refl), tt),
  )
  work_inner (operations.Load W8) = ((refl, (λ b. refl), refl), tt)
  work_inner (operations.Load W16) = ((refl, (λ b. refl), refl), tt)
  work_inner (operations.Load W32) = ((refl, (λ b. refl), refl), tt)
  work_inner (operations.Load W64) = ((refl, (λ b. refl), refl), tt)
  work_inner (operations.Store w) = (
    (refl, (λ b. refl), refl),
    ((refl, (λ b. refl), refl), tt),
  )
  work_inner (operations.Allocate n) = (
    (refl, (λ b. refl), refl),
    (set_inner Rcx n refl, ((refl, (λ b. refl), refl), tt)),
  )
  work_inner (operations.SetPointer n) = (
    set_inner Rcx n refl,
    ((refl, (λ b. refl), refl), ((refl, (λ b. refl), refl), tt)),
  )
  work_inner (operations.Place w offset) = (
    set_inner Rdx offset refl,
    ((refl, (λ b. refl), refl), ((refl, (λ b. refl), refl), tt)),
  )
  work_inner (operations.Clear W8 offset) = clear_inner W8 offset refl refl
  work_inner (operations.Clear W16 offset) = clear_inner W16 offset refl refl
  work_inner (operations.Clear W32 offset) = clear_inner W32 offset refl refl
  work_inner (operations.Clear W64 offset) = clear_inner W64 offset refl refl
