-- What linear code does at an operation.
use Rattle.std.proofs.Common.{◌≡◌, ℕ, zero, suc, ◌<◌, Bool, true, false, List, [], ◌∷◌, length, Option, Some, None, refl, sym, ap, ◌∙◌, arith}
use Rattle.std.specs.Prelude.{slice_get, slice_index}
use Rattle.match_turns.specs.Words.{Code, Memory, Operation, OperationResult, Gives, Raises, Undefined, performed, is_reserved, Slot, Local, Temporary, Instruction, LinearProgram, Configuration, Next, local_of, read, with_some, is_constant, operand, act, computed, instruction_at, IsTemporary, ReadsWell, IsHeld, IsReady, LandsWell, turns_left, turns_per_step, ComesTo, UndefinedAccessesAreMatched}
use Rattle.c_operations.specs.declared.operation.Operation.TheVariants as operations
use Rattle.c_operations.specs.Performed.{unless_reserved}
use Rattle.c_operations.specs.declared.operation.Pure.TheVariants.{Constant}
use Rattle.source_meaning.specs.declared.ended.Ended.TheVariants as source
use Rattle.linear_code.specs.declared.instruction.Instruction.TheVariants as instructions
use Rattle.lowering_invariants.specs.Ready as ready
use Rattle.match_turns.proofs.Lemmas.{fails_at_once}

-- ---- operands

held_at : (ts : List ℕ) (i : ℕ) → i < length ts → slice_get ts i ≡ Some (slice_index ts i)
held_at [] i lt = absurd (omega arith)
held_at (x ∷ ts) zero lt = refl
held_at (x ∷ ts) (suc i) lt = held_at ts i (omega arith)

read_there : (c : Configuration) (slot : Slot) → IsHeld (length c.frame.temporaries) slot
    → (v : ℕ) × (read c slot ≡ Some v)
read_there c (Local x) h = (local_of c.store c.frame.activation x, refl)
read_there c (Temporary i) h = (slice_index c.frame.temporaries i, held_at c.frame.temporaries i h)

operand_there : (constant : Bool) (c : Configuration) (slot : Slot)
    → ready.IsRead constant (length c.frame.temporaries) slot
    → (v : ℕ) × (operand constant c slot ≡ Some v)
operand_there true c slot h = (0, refl)
operand_there false c slot h = read_there c slot h

-- its operands are there, so that it comes to something
pub comes_to_something : (program : LinearProgram) (c : Configuration) (to : Slot) (o : Operation)
    (first second : Slot)
    → IsReady program c (instructions.Compute to o first second)
    → (x : OperationResult) × ComesTo program c o first second x
comes_to_something program c to o first second h =
    let a = operand_there (is_constant o) c first h.0 in
    let b = operand_there (is_constant o) c second h.1 in (
      performed (is_reserved program.globals) o a.0 b.0 c.store.memory,
      record { a = a.0; b = b.0; reads_first = a.1; reads_second = b.1; comes = refl },
    )

-- and that is what linear code continues with
pub acts_as : (program : LinearProgram) (c : Configuration) (to : Slot) (o : Operation)
    (first second : Slot) (x : OperationResult)
    → ComesTo program c o first second x → (next : Next)
    → act program (instructions.Compute to o first second) next c ≡ computed program next to c x
unfolding with_some
acts_as program c to o first second x h next =
    ap (λ z. with_some c.events z (λ a. with_some c.events (operand (is_constant o) c second)
    (λ b. computed program next to c (performed (is_reserved program.globals) o a b
    c.store.memory)))) h.reads_first
    ∙ ap (λ z. with_some c.events z (λ b. computed program next to c
    (performed (is_reserved program.globals) o h.a b c.store.memory))) h.reads_second
    ∙ ap (computed program next to c) h.comes

pub undefined : UndefinedAccessesAreMatched
undefined t fs program s c to o first second at h =
    fails_at_once t fs program turns_left turns_per_step s c
    (instructions.Compute to o first second)
    (source.Undefined at) refl (acts_as program c to o first second (Undefined at) h)

-- ---- operations that fault

pub not_constant : (reserved : ℕ → Bool) (o : Operation) (a b : ℕ) (m : Memory) (code : Code)
    (access : Option (Bool × ℕ))
    → performed reserved o a b m ≡ Raises code access → is_constant o ≡ false
not_constant reserved (operations.Pure (Constant n)) a b m code access e = absurd cc
not_constant reserved (operations.Allocate n) a b m code access e = absurd cc
not_constant reserved o a b m code access e = refl

-- a store of a variable on the data stack raises nothing
placed_raises : (o : Option ℕ) (value : ℕ) (m : Memory) (code : Code) (access : Option (Bool × ℕ))
    → unless_reserved o (Gives value m) ≡ Raises code access → ⊥
placed_raises None value m code access e = absurd cc
placed_raises (Some a) value m code access e = absurd cc

pub fault_reads : (reserved : ℕ → Bool) (o : Operation) (first second : Slot) (a b : ℕ) (m : Memory)
    (code : Code) (access : Option (Bool × ℕ))
    → performed reserved o a b m ≡ Raises code access → ReadsWell o first second
    → IsTemporary first × IsTemporary second
fault_reads reserved (operations.Pure p) first second a b m code access e h = absurd cc
fault_reads reserved (operations.Allocate n) first second a b m code access e h = absurd cc
fault_reads reserved (operations.SetPointer n) first second a b m code access e h = absurd cc
fault_reads reserved (operations.Place w offset) first second a b m code access e h =
    absurd (placed_raises _ _ _ code access e)
fault_reads reserved (operations.Clear w offset) first second a b m code access e h =
    absurd (placed_raises _ _ _ code access e)
fault_reads reserved o first second a b m code access e h = h

-- ---- at an operation

-- no exception has just been taken over
pub nothing_landed : (program : LinearProgram) (c : Configuration) (to : Slot) (o : Operation)
    (first second : Slot) (landed : Option ℕ)
    → LandsWell program c.frame.body c.frame.next landed
    → instruction_at program c ≡ Some (instructions.Compute to o first second) → landed ≡ None
nothing_landed program c to o first second None h e = refl
nothing_landed program c to o first second (Some v) h e =
    let z : ◌≡◌ {A = Option Instruction} (Some (instructions.Landing (Local h.0)))
    (Some (instructions.Compute to o first second)) = sym h.1 ∙ e in
    absurd cc
