-- The step of an operation that doesn't fault, and of a landing.
use Rattle.std.proofs.Common.{◌≡◌, ℕ, zero, ◌+◌, ◌≤◌, Bool, true, false, Some, None, List, [], ◌∷◌, ◌++◌, length, take, refl, sym, ap, subst, ◌∙◌, arith, length-append, length-take-le}
use Rattle.std.specs.Prelude.{nat_le, slice_get, slice_set, if◌then◌else◌}
use Rattle.std.proofs.lemmas.Bool.{leb-true, le-leb}
use Rattle.match_bodies.specs.Words.{Memory, State, Operation, Gives, performed, is_reserved, Slot, Local, Temporary, BodyState, with_slot, IsSlot, LinearBody, Configuration, Next, read, with_temporaries, forth, with_some, is_constant, operand, written, act, exec, sizes, Layout, operands_code, finish_code, compute_code, template_size, HasRule, Moves, HaveRoom, turns_left, counts_of, Setting, RepresentsAt, OperationResult, kept, computed, Computed, IsReached, LeavesRegisters}
use Rattle.c_operations.specs.declared.operation.Operation.TheVariants as operations
use Rattle.c_operations.specs.declared.operation.Pure.TheVariants.{Constant}
use Rattle.linear_code.specs.declared.instruction.Instruction.TheVariants as instructions
use Rattle.linear_machine.specs.Frames as linear
use Rattle.match_bodies.proofs.Lemmas.{compute_length, compute_run}
use Rattle.lowering_invariants.specs.Ready as ready
use Rattle.lowering_invariants.specs.Registers.{SlotHas}
use Rattle.match_bodies.proofs.Places.HiddenBytes.{said_of_hidden}
use Rattle.match_bodies.proofs.Steps.BodyViews.{IsCounted, count, room_here, holds_here, slots_here, locals_here}
use Rattle.match_bodies.proofs.Templates.TemplateSlots.{Leaves}
use Rattle.match_bodies.proofs.Templates.TemplateRuns.{code, frame, slots, v, sp_is, are_here, keeps_here, template_spared, has_slots, template_here, next_address, Surroundings}
use Rattle.match_bodies.proofs.Places.SlotWrites.{locals_after, temporaries_after, FitsAfter, local_after, temporary_after, locals_count_after, HasNoRegister, others_after, one_more}
use Rattle.match_bodies.proofs.Keeping.TemplateKeeping.{finish_some, compute_keeps}
use Rattle.match_bodies.proofs.Steps.PlainSteps.{at_other, values_here, same_store, GoesInside, from_here, label_small, reached_here, is_read, moves_to}

-- the size of its template, and that it isn't empty
compute_size : (y : Layout) (to : Slot) (o : Operation) (first second : Slot)
    → template_size y (instructions.Compute to o first second)
    ≡ sizes (compute_code y to o first second)
unfolding template_size
compute_size y to o first second = refl

some_code : (y : Layout) (to : Slot) (o : Operation) (first second : Slot)
    → 1 ≤ length (compute_code y to o first second)
some_code y to o first second =
    let f = finish_some y o to in
    omega (arith, length-append (operands_code y o first second) (finish_code y o to))

-- a temporary is the last one after it is written
exactly : (ts : List ℕ) (i value : ℕ) → i ≤ length ts → length (take i ts ++ value ∷ []) ≡ i + 1
exactly ts i value le = omega (
  arith,
  length-append (take i ts) (value ∷ []),
  length-take-le i ts le,
)

-- a constant reads nothing, and neither does what takes room on the data stack
pub same_constant : (reserved : ℕ → Bool) (o : Operation) (a b x y : ℕ) (m : Memory)
    → is_constant o ≡ true → performed reserved o a b m ≡ performed reserved o x y m
same_constant reserved (operations.Pure (Constant n)) a b x y m e = refl
same_constant reserved (operations.Allocate n) a b x y m e = refl
same_constant reserved o a b x y m e = absurd cc

module _ (setting : Setting) (roomy : HaveRoom setting.program) (s : State)
    (c : Configuration) (b : RepresentsAt setting s c) (counted : IsCounted setting c)
    (around : Surroundings setting roomy s c b counted) where
  open setting use {functions as t, funclets as fs, program, plan as p}

  abbrev body : LinearBody
  body = code setting roomy s c b counted

  abbrev now : BodyState
  now = slots setting roomy s c b counted

  abbrev pub outcome_here : Operation → Slot → Slot → OperationResult
  outcome_here o first second = performed (is_reserved program.globals) o (now.slots first)
      (now.slots second) c.store.memory

  -- linear code makes the same operation on the same numbers
  pub operands_read : (to : Slot) (o : Operation) (first second : Slot) (constant : Bool)
      → is_constant o ≡ constant → IsSlot (counts_of body) first → IsSlot (counts_of body) second
      → ready.IsRead constant (length c.frame.temporaries) first
      → ready.IsRead constant (length c.frame.temporaries) second
      → SlotHas (IsReached p c.frame.body) first → SlotHas (IsReached p c.frame.body) second
      → (next : Next) → act program (instructions.Compute to o first second) next c
      ≡ computed program next to c (outcome_here o first second)
  unfolding with_some
  operands_read to o first second true e f g hf hg rf rg next =
      ap (λ z. with_some c.events (operand z c first)
      (λ a. with_some c.events (operand z c second)
      (λ b. computed program next to c (performed (is_reserved program.globals) o a b
      c.store.memory)))) e
      ∙ ap (computed program next to c) (same_constant (is_reserved program.globals) o 0 0
      (now.slots first) (now.slots second) c.store.memory e)
  operands_read to o first second false e f g hf hg rf rg next =
      let x = is_read setting roomy s c b counted around first f hf rf in
      let y = is_read setting roomy s c b counted around second g hg rg in
      ap (λ z. with_some c.events (operand z c first)
      (λ a. with_some c.events (operand z c second)
      (λ b. computed program next to c (performed (is_reserved program.globals) o a b
      c.store.memory)))) e
      ∙ ap (λ z. with_some c.events z (λ a. with_some c.events (read c second)
      (λ b. computed program next to c (performed (is_reserved program.globals) o a b
      c.store.memory)))) x.reads
      ∙ ap (λ z. with_some c.events z (λ b. computed program next to c
      (performed (is_reserved program.globals) o x.value b c.store.memory))) y.reads
      ∙ ap (λ z. computed program next to c (performed (is_reserved program.globals) o z y.value
      c.store.memory)) (sym x.same)
      ∙ ap (λ z. computed program next to c (performed (is_reserved program.globals) o
      (now.slots first) z c.store.memory)) (sym y.same)

  -- linear code with a number in a slot and another memory, at the next instruction
  abbrev pub stored : Slot → ℕ → Memory → Configuration
  stored to v m = at_other setting roomy c (c.frame.next + 1)
      (locals_after (linear.locals_of c.store c.frame.activation) to v)
      (temporaries_after c.frame.temporaries to v) c.frame.landed m c.events

  written_fits : (to : Slot) → length c.frame.temporaries ≤ body.temporaries
      → FitsAfter c.frame.temporaries to → IsSlot (counts_of body) to → (value : ℕ)
      → length (temporaries_after c.frame.temporaries to value) ≤ body.temporaries
  written_fits (Local x) held fits there value = held
  written_fits (Temporary i) held fits there value = let n = exactly c.frame.temporaries i value
      fits in omega arith

  -- the slots after a store into a slot that the body reaches
  pub leaves_stored : (to : Slot) (value : ℕ) (m : Memory)
      → length c.frame.temporaries ≤ body.temporaries → FitsAfter c.frame.temporaries to
      → IsSlot (counts_of body) to → SlotHas (IsReached p c.frame.body) to
      → Leaves p c.frame.body body (record { slots = with_slot now.slots to value; memory = m })
      (values_here setting roomy s c b counted around)
      (locals_after (linear.locals_of c.store c.frame.activation) to value)
      (temporaries_after c.frame.temporaries to value)
  leaves_stored to value m held fits there reached =
      let all = slots_here setting s c b counted in
      let here = locals_here setting s c b counted in
      let n : length (linear.locals_of c.store c.frame.activation)
      ≡ body.locals = ap length here ∙ count setting s c b counted in
      record {
        count = locals_count_after (linear.locals_of c.store c.frame.activation) to value ∙ n;
        locals = λ i lt known. local_after now.slots (linear.locals_of c.store c.frame.activation)
            to value i (omega arith) (all.locals i lt known);
        others = λ k name. subst (λ vs. LeavesRegisters (p.register c.frame.body) 0 vs
            (locals_after (linear.locals_of c.store c.frame.activation) to value)) here
            (others_after (p.register c.frame.body)
            (linear.locals_of c.store c.frame.activation) to value
            (subst (λ n. SlotHas (IsReached p n) to → SlotHas (HasNoRegister (p.register n)) to)
            (sym name) (λ h. h) reached));
        few = written_fits to held fits there value;
        temporaries = λ i w e. temporary_after now.slots c.frame.temporaries to value i w fits
            all.temporaries e;
      }

  -- linear code writes a slot, in another memory
  pub writes : (to : Slot) (value : ℕ) (m : Memory) → FitsAfter c.frame.temporaries to
      → (next : Next) → written (record c { store = record c.store { memory = m } }) to value next
      ≡ next (stored to value m)
  unfolding with_some
  writes (Local x) value m fits next = refl
  writes (Temporary i) value m fits next =
      let d : Configuration = record c { store = record c.store { memory = m } } in
      ap (λ z. with_some c.events (with_temporaries d
      (if z then Some (take i c.frame.temporaries ++ value ∷ []) else None))
      (λ e. next (forth e))) (le-leb i (length c.frame.temporaries) fits)
      ∙ ap (λ xs. let o : Configuration = record {
        frame = record c.frame
            { next = c.frame.next + 1; temporaries = take i c.frame.temporaries ++ value ∷ [] };
        below = c.below;
        store = record c.store { memory = m; activations = xs };
        events = c.events;
      } in
      next o) (sym (same_store_here))
    where
      same_store_here : slice_set c.store.activations c.frame.activation
          (linear.locals_of c.store c.frame.activation) ≡ c.store.activations
      same_store_here = ap (slice_set c.store.activations c.frame.activation)
          (locals_here setting s c b counted) ∙ same_store setting roomy s c b counted around

  -- it isn't stuck, so that the slot is the next one at most
  pub fits_when_read : (to : Slot) (value : ℕ) (m : Memory)
      → HasRule (written (record c { store = record c.store { memory = m } }) to value
      (exec program zero)) → FitsAfter c.frame.temporaries to
  unfolding with_some
  fits_when_read (Local x) value m h = tt
  fits_when_read (Temporary i) value m h = by (nat_le i (length c.frame.temporaries)) refl h
    where
      by : (z : Bool) → nat_le i (length c.frame.temporaries) ≡ z
          → HasRule (with_some c.events (with_temporaries
          (record c { store = record c.store { memory = m } })
          (if z then Some (take i c.frame.temporaries ++ value ∷ []) else None))
          (λ e. exec program zero (forth e))) → i ≤ length c.frame.temporaries
      by true e h = leb-true i (length c.frame.temporaries) e
      by false e h = absurd h

  pub compute_step : (to : Slot) (o : Operation) (first second : Slot) (value : ℕ) (m : Memory)
      → c.frame.landed ≡ None → slice_get body.code c.frame.next
      ≡ Some (instructions.Compute to o first second)
      → length c.frame.temporaries ≤ body.temporaries
      → ready.IsRead (is_constant o) (length c.frame.temporaries) first
      → ready.IsRead (is_constant o) (length c.frame.temporaries) second
      → HasRule (act program (instructions.Compute to o first second) (exec program zero) c)
      → GoesInside setting roomy s c b counted around (instructions.Compute to o first second)
      → outcome_here o first second ≡ Gives value m
      → Moves t fs program 16 turns_left (RepresentsAt setting) s c
      (instructions.Compute to o first second)
  compute_step to o first second value m free e held hf hg rule inside gives =
      let there = has_slots setting roomy s c b counted
      (instructions.Compute to o first second) e in
      let reached = reached_here setting roomy s c b counted around
      (instructions.Compute to o first second) e in
      let reads = operands_read to o first second (is_constant o) refl there.1 there.2 hf hg
      reached.1 reached.2 in
      let fits = fits_when_read to value m (subst HasRule
      (reads (exec program zero) ∙ ap (computed program (exec program zero) to c) gives) rule) in
      let acts : (next : Next) → act program (instructions.Compute to o first second) next c
      ≡ next (stored to value m) = λ next. reads next ∙ ap (computed program next to c) gives
      ∙ writes to value m fits next in
      let lt = inside (stored to value m) acts body b.body.slots.body in
      let hides = said_of_hidden program.globals o (now.slots first) (now.slots second)
      c.store.memory (Gives value m) tt gives in
      let at = next_address setting roomy s c b counted
      (instructions.Compute to o first second) e refl in
      let small = label_small setting roomy s c b counted around (c.frame.next + 1)
      lt in
      let run : Computed (frame setting roomy s c b counted) to o first second
      (v setting roomy s c b counted) s.cpu.rip s.cpu.flags now
      (kept to now.slots (Gives value m)) =
      subst (λ x. Computed (frame setting roomy s c b counted) to o first second
      (v setting roomy s c b counted) s.cpu.rip s.cpu.flags now (kept to now.slots x)) hides
      (compute_run (frame setting roomy s c b counted) to o first second
      (v setting roomy s c b counted) s.cpu.rip s.cpu.flags now (room_here setting s c b counted)
      there.0 there.1 there.2
      (keeps_here setting roomy s c b counted (instructions.Compute to o first second) e)
      (are_here setting roomy s c b counted) (sp_is setting roomy s c b counted)
      (holds_here setting s c b counted)
      (template_here setting roomy s c b counted (instructions.Compute to o first second) e)) in
      let y = p.layout c.frame.body in
      let len = compute_length y to o first second in
      let more = one_more c.frame.temporaries to value fits in
      moves_to setting roomy s c b counted around (instructions.Compute to o first second)
      (length (compute_code y to o first second)) (c.frame.next + 1)
      (s.cpu.rip + sizes (compute_code y to o first second))
      (record { slots = with_slot now.slots to value; memory = m })
      (locals_after (linear.locals_of c.store c.frame.activation) to value)
      (temporaries_after c.frame.temporaries to value) c.frame.landed
      (from_here setting roomy s c b counted around (length (compute_code y to o first second))
      (s.cpu.rip + sizes (compute_code y to o first second))
      (record { slots = with_slot now.slots to value; memory = m }) run)
      (let z = compute_size y to o first second in omega arith) lt
      (let z = compute_size y to o first second in omega arith)
      (leaves_stored to value m held fits there.0 reached.0) free
      (compute_keeps setting roomy s c b counted around to o first second e value m hides)
      (template_spared setting roomy s c b counted (instructions.Compute to o first second) e
      (λ h. h)) acts
      (some_code y to o first second) (omega arith)
