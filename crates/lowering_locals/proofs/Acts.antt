-- What each instruction leads to.
use Rattle.std.proofs.Common.{◌≡◌, inl, inr, ℕ, ◌+◌, ◌<◌, ◌⊎◌, List, ◌∷◌, refl, sym, ap, subst, ◌∙◌, arith}
use Rattle.std.specs.Prelude.{Bool, true, false, nat_eq, length, slice_get, take, get_or, Option, Some, None}
use Rattle.linear_code.specs.Program.{depth_weight}
use Rattle.lowering_locals.specs.Words.{BuiltIn, Put, Protect, RaiseException, Walk, AddVectored, RemoveVectored, Operation, OperationResult, Gives, Raises, Undefined, performed, is_reserved, field_of, raised, Slot, Local, Temporary, Instruction, LinearProgram, BodyName, SameOperation, AfterCall, Waits, Configuration, Finished, pick, read, with_temporary, with_temporaries, last_temporaries, set_local, at_label, forth, with_last, write, is_constant, operand, written, computed, tested, count_of, built_in, not_landed, act, instruction_at, IsTurn, IsWhole, HasActivations, owners_of, left_store, Marks, activations_left, outcome_of, local_given, local_in, local_written, SeenNames, IsPart, with_slot, IsLocalOf, locals_at, Leads, IsSetMap, Marked, here, AreKept, AreCovered, IsCovered, IsRecorded, IsGiven, Before, Written, Passed, IsStep, IsStacked}
use Rattle.source_meaning.specs.declared.ended.Ended.TheVariants as ends
use Rattle.linear_code.specs.declared.instruction.Instruction.TheVariants as instructions
use Rattle.lowering_locals.proofs.Lemmas.{Turn, Halts, Moves, pick_turn, some_turn, deeper_turn, kept, same_it, seen_cases}
use Rattle.std.proofs.lemmas.List.{take_all}
use Rattle.lowering_invariants.proofs.Stacks.StackTurns.{left_askable}
use Rattle.lowering_invariants.proofs.Stacks.TurnStack.{instruction_fits}
use Rattle.lowering_invariants.proofs.Stacks.ActivationOwners.{as_many, left_over}
use Rattle.lowering_locals.proofs.MarkKeeping.{taken_marks, marks_long}
use Rattle.lowering_locals.proofs.Covered.{covered_next}
use Rattle.lowering_locals.proofs.Events.{adds_none}
use Rattle.lowering_locals.proofs.TurnSets as goes

-- a result leaves these alone
record Stays (c d : Configuration) : Type 0 where
  body : d.frame.body ≡ c.frame.body
  next : d.frame.next ≡ c.frame.next
  activation : d.frame.activation ≡ c.frame.activation
  below : d.below ≡ c.below

temporaries_stay : (c : Configuration) (o : Option (List ℕ)) (d : Configuration)
    → with_temporaries c o ≡ Some d → Stays c d
temporaries_stay c None d e = absurd (cc)
temporaries_stay c (Some ts) d e = subst (Stays c) (same_it (with_last ts c) d e)
    (record { body = refl; next = refl; activation = refl; below = refl })

write_stays : (c : Configuration) (to : Slot) (v : ℕ) (d : Configuration) → write c to v ≡ Some d
    → Stays c d
write_stays c (Local x) v d e = subst (Stays c)
    (same_it (record c { store = set_local c.store c.frame.activation x v }) d e)
    (record { body = refl; next = refl; activation = refl; below = refl })
write_stays c (Temporary i) v d e = temporaries_stay c (with_temporary c.frame.temporaries i v) d e

-- an instruction that ends a body
abbrev is_return : Instruction → Bool
is_return (instructions.Return from) = true
is_return i = false

module _ (program : LinearProgram) (whole : IsWhole program) (sets : BodyName → ℕ → SeenNames)
    (recorded : IsSetMap program sets) (marks : Marks) (c : Configuration)
    (stacked : IsStacked program c) (now : IsCovered program sets marks c.frame)
    (waiting : AreCovered program sets marks c.below) (kept : AreKept program sets c.below) where
  abbrev Ok : Instruction → Configuration → Type 0
  Ok i d = IsStep program sets marks i c d

  abbrev Here : SeenNames
  Here = here program sets c.frame

  -- to a place of the same body
  on_turn : (i : Instruction) (d : Configuration) → d.frame.body ≡ c.frame.body
      → d.frame.activation ≡ c.frame.activation → d.below ≡ c.below
      → IsPart (sets c.frame.body d.frame.next) Here → Turn (Ok i) (λ next. next d)
  on_turn i d b a w p =
      goes.to_turn program sets recorded marks i c d c.frame now (sym a)
      (subst (λ name. IsPart (sets name d.frame.next) Here) (sym b) p)
      (subst (AreKept program sets) (sym w) kept)
      (subst (AreCovered program sets marks) (sym w) waiting)

  -- the result in its slot
  given : (i : Instruction) (d : Configuration) (to : Slot) (x : ℕ) → d.frame.body ≡ c.frame.body
      → d.frame.activation ≡ c.frame.activation → local_written program i c ≡ local_in to
      → IsLocalOf (locals_at program c.frame.body) to
      → with_slot to Here x ≡ true → IsGiven program sets marks i c d x
  given i d (Temporary k) x b a g lt q = Before
      (subst (λ n. Marked marks n x) (sym a) (now x q))
  given i d (Local y) x b a g lt q = of (seen_cases Here y x q)
    where
      of : (x ≡ y) ⊎ (Here x ≡ true) → IsGiven program sets marks i c d x
      of (inl e) = Written a (g ∙ ap Some (sym e))
          (subst (λ name. x < locals_at program name) (sym b)
          (subst (λ z. z < locals_at program c.frame.body) (sym e) lt))
      of (inr e) = Before (subst (λ n. Marked marks n x) (sym a) (now x e))

  written_turn : (i : Instruction) (b : Configuration) (to : Slot) (v : ℕ) → Stays c b
      → local_written program i c ≡ local_in to → IsLocalOf (locals_at program c.frame.body) to
      → IsPart (sets c.frame.body (c.frame.next + 1)) (with_slot to Here)
      → Turn (Ok i) (λ next. written b to v next)
  written_turn i b to v k g lt p = some_turn (Ok i) b.events (write b to v)
      (λ next d. next (forth d)) (λ d e.
      let m = write_stays b to v d e in
      let body = m.body ∙ k.body in
      let next = m.next ∙ k.next in
      let below = m.below ∙ k.below in
      Moves (forth d) (record {
        running = λ x q. given i (forth d) to x body (m.activation ∙ k.activation) g lt
            (p x (subst (λ n. sets c.frame.body (n + 1) x ≡ true) next
            (subst (λ name. sets name (d.frame.next + 1) x ≡ true) body q)));
        waiting = subst (AreCovered program sets marks) (sym below) waiting;
        kept = subst (AreKept program sets) (sym below) kept;
      }) (λ next. refl))

  leads : (i : Instruction) → instruction_at program c ≡ Some i
      → Leads program sets c.frame.body c.frame.next i
  leads i at = goes.leads program sets recorded marks i c c.frame i at

  computed_turn : (to : Slot) (o : Operation) (first second : Slot) (a b : ℕ) (r : OperationResult)
      → instruction_at program c ≡ Some (instructions.Compute to o first second)
      → operand (is_constant o) c first ≡ Some a → operand (is_constant o) c second ≡ Some b
      → performed (is_reserved program.globals) o a b c.store.memory ≡ r
      → Turn (Ok (instructions.Compute to o first second)) (λ next. computed program next to c r)
  computed_turn to o first second a b (Gives v memory) at e f g =
      let i = instructions.Compute to o first second in
      let l = leads i at in
      written_turn i (record c { store = record c.store { memory = memory } }) to v
      (record { body = refl; next = refl; activation = refl; below = refl })
      (ap (λ p. local_given (outcome_of program o p (operand (is_constant o) c second)
      c.store.memory) to) e ∙ ap (λ p. local_given
      (outcome_of program o (Some a) p c.store.memory) to) f
      ∙ ap (λ p. local_given (Some p) to) g)
      l.1 l.2
  computed_turn to o first second a b (Raises code access) at e f g =
      goes.raise_turn program sets recorded marks (instructions.Compute to o first second) c
      (record { code = code.0; flag = false; access = access }) SameOperation c kept
      (now, waiting) (adds_none c.events) (refl, refl, stacked.handlers)
  computed_turn to o first second a b (Undefined n) at e f g = Halts
      (Finished (ends.Undefined n) c.events) (λ next. refl)

  built_in_turn : (k : BuiltIn) (first : ℕ) (vs ts : List ℕ)
      → instruction_at program c ≡ Some (instructions.CallBuiltIn k first)
      → Turn (Ok (instructions.CallBuiltIn k first))
      (λ next. built_in program next k vs (with_last ts c))
  built_in_turn Put first vs ts at = on_turn (instructions.CallBuiltIn Put first) _ refl refl refl
      (leads (instructions.CallBuiltIn Put first) at)
  built_in_turn Protect first vs ts at = on_turn (instructions.CallBuiltIn Protect first) _ refl
      refl refl (leads (instructions.CallBuiltIn Protect first) at)
  built_in_turn RaiseException first vs ts at =
      goes.raise_turn program sets recorded marks (instructions.CallBuiltIn RaiseException first) c
      (raised (get_or vs 0 0) (get_or vs 1 0)) AfterCall (with_last ts c) kept
      (now, waiting) (adds_none c.events) (refl, refl, stacked.handlers)
  built_in_turn Walk first vs ts at = on_turn (instructions.CallBuiltIn Walk first) _ refl refl refl
      (leads (instructions.CallBuiltIn Walk first) at)
  built_in_turn (AddVectored f) first vs ts at =
      on_turn (instructions.CallBuiltIn (AddVectored f) first) _ refl refl refl
      (leads (instructions.CallBuiltIn (AddVectored f) first) at)
  built_in_turn (RemoveVectored f) first vs ts at =
      on_turn (instructions.CallBuiltIn (RemoveVectored f) first) _ refl refl refl
      (leads (instructions.CallBuiltIn (RemoveVectored f) first) at)

  tested_turn : (slot : Slot) (label v : ℕ) → instruction_at program c
      ≡ Some (instructions.JumpIfZero slot label)
      → Turn (Ok (instructions.JumpIfZero slot label))
      (λ next. pick (nat_eq v 0) (next (at_label label (tested slot c)))
      (next (forth (tested slot c))))
  tested_turn (Local x) label v at =
      let i = instructions.JumpIfZero (Local x) label in
      let l = leads i at in
      pick_turn (Ok i) (nat_eq v 0) (λ next. next (at_label label c)) (λ next. next (forth c))
      (λ e. on_turn i _ refl refl refl l.1) (λ e. on_turn i _ refl refl refl l.2)
  tested_turn (Temporary j) label v at =
      let i = instructions.JumpIfZero (Temporary j) label in
      let l = leads i at in
      let d = with_last (take j c.frame.temporaries) c in
      pick_turn (Ok i) (nat_eq v 0) (λ next. next (at_label label d)) (λ next. next (forth d))
      (λ e. on_turn i _ refl refl refl l.1) (λ e. on_turn i _ refl refl refl l.2)

  -- an instruction that ends no body
  running_turn : (i : Instruction) → instruction_at program c ≡ Some i → is_return i ≡ false
      → Turn (Ok i) (λ next. act program i next c)
  running_turn (instructions.Compute to o first second) at n =
      let Ok' = Ok (instructions.Compute to o first second) in
      some_turn Ok' c.events (operand (is_constant o) c first) _ (λ a e.
      some_turn Ok' c.events (operand (is_constant o) c second) _
      (λ b f. computed_turn to o first second a b
      (performed (is_reserved program.globals) o a b c.store.memory) at e f refl))
  running_turn (instructions.Information to field) at n =
      let i = instructions.Information to field in
      let l = leads i at in
      written_turn i c to (field_of field c.frame.exception)
      (record { body = refl; next = refl; activation = refl; below = refl }) refl l.0 l.1
  running_turn (instructions.Jump label) at n = on_turn (instructions.Jump label) _ refl refl refl
      (leads (instructions.Jump label) at)
  running_turn (instructions.JumpIfZero slot label) at n = some_turn
      (Ok (instructions.JumpIfZero slot label)) c.events (read c slot) _
      (λ v e. tested_turn slot label v at)
  running_turn (instructions.Call f first count) at n =
      let Ok' = Ok (instructions.Call f first count) in
      some_turn Ok' c.events (last_temporaries c.frame.temporaries first count) _ (λ vs e.
      some_turn Ok' c.events (slice_get program.functions f) _ (λ function g.
      deeper_turn Ok' (depth_weight function) c.frame.held c.store c.events _ (Moves _ (record {
        running = λ x q. Passed f function refl g refl
            (goes.few_passed program sets recorded marks (instructions.Call f first count) c f count
            function (instruction_fits program whole.bodies c (instructions.Call f first count) at)
            g x q);
        waiting = (now, waiting);
        kept = kept;
      }) (λ next. refl))))
  running_turn (instructions.CallBuiltIn k first) at n =
      some_turn (Ok (instructions.CallBuiltIn k first)) c.events
      (last_temporaries c.frame.temporaries first (count_of k)) _
      (λ vs e. built_in_turn k first vs (take first c.frame.temporaries) at)
  running_turn (instructions.CallFinally k) at n =
      let i = instructions.CallFinally k in
      goes.block_turn program sets recorded marks i c k c.frame.held false (Waits c.frame ∷ c.below)
      c (leads i at).0 now kept (now, waiting) (adds_none c.events)
  running_turn (instructions.LocalUnwind label) at n =
      let i = instructions.LocalUnwind label in
      goes.unwind_turn program sets recorded marks i c
      (record { depth = length c.below; label = label; code = None; held = c.frame.held })
      (Waits c.frame ∷ c.below) None c.events c.store tt
      (inl (record { depth = refl; label = leads i at })) kept
      (now, waiting) (adds_none c.events)
  running_turn (instructions.Landing to) at n =
      let i = instructions.Landing to in
      let l = leads i at in
      some_turn (Ok i) c.events c.frame.landed (λ next code. written (not_landed c) to code next)
      (λ code e. written_turn i (not_landed c) to code
      (record { body = refl; next = refl; activation = refl; below = refl }) refl l.0 l.1)
  running_turn instructions.Separator at n = on_turn instructions.Separator _ refl refl refl
      (leads instructions.Separator at)
  running_turn (instructions.Return from) at n = absurd (cc)

module _ (program : LinearProgram) (whole : IsWhole program) (sets : BodyName → ℕ → SeenNames)
    (recorded : IsSetMap program sets) (marks : Marks) (c : Configuration)
    (stacked : IsStacked program c) (lives : HasActivations program c)
    (now : IsRecorded program sets marks c) where
  -- what has been set, of the activations that an instruction leaves
  abbrev Ok' : Instruction → Configuration → Type 0
  Ok' i d = IsStep program sets (take (activations_left i c) marks) i c d

  -- one that ends no body leaves all
  plain_turn : (i : Instruction) → instruction_at program c ≡ Some i → is_return i ≡ false
      → Turn (IsStep program sets (take (length c.store.activations) marks) i c)
      (λ next. act program i next c)
  plain_turn i at n =
      let long = marks_long marks c.store.activations c.store.activations now.marked in
      subst (λ ms. Turn (IsStep program sets ms i c) (λ next. act program i next c))
      (sym (take_all (length c.store.activations) marks (omega arith)))
      (running_turn program whole sets recorded marks c stacked now.running now.waiting now.kept i
      at n)

  -- the activations of the bodies that wait are left where one ends
  return_turn : (from : Slot) → instruction_at program c ≡ Some (instructions.Return from)
      → Turn (Ok' (instructions.Return from))
      (λ next. act program (instructions.Return from) next c)
  return_turn from at =
      let i = instructions.Return from in
      let left = left_store c.frame.body c.frame.activation c.store in
      let n = length left.activations in
      let over = left_over program c.frame c.below c.store (lives.working, lives.stored) in
      let same = as_many program (owners_of c.below) left.activations over.1 in
      let waiting = covered_next program sets marks (take n marks) c.below n lives.working.1
      (omega arith)
      (λ k x lt e. ap (λ (ms : List Bool). slice_get ms x) (taken_marks n marks k lt) ∙ e)
      now.waiting in
      let askable = left_askable program whole.bodies c.frame.body c.frame.activation c.store
      stacked.handlers in
      some_turn (Ok' i) c.events (read c from) _ (λ v e.
      goes.end_turn program sets recorded (take n marks) i c c.frame.body v c stacked.above
      stacked.below now.kept waiting (adds_none c.events) (refl, refl, askable)
      (refl, refl, askable))

  act_turn : (i : Instruction) → instruction_at program c ≡ Some i
      → Turn (Ok' i) (λ next. act program i next c)
  act_turn (instructions.Return from) at = return_turn from at
  act_turn i at = plain_turn i at refl

pub step_of : (program : LinearProgram) → IsWhole program → (sets : BodyName → ℕ → SeenNames)
    → IsSetMap program sets → (marks : Marks) (c d : Configuration) → IsStacked program c
    → HasActivations program c → IsRecorded program sets marks c → (t : IsTurn program c d)
    → IsStep program sets (take (activations_left t.instruction c) marks) t.instruction c d
step_of program whole sets recorded marks c d s o h t =
    kept (IsStep program sets (take (activations_left t.instruction c) marks) t.instruction c)
    (λ next. act program t.instruction next c) d
    (act_turn program whole sets recorded marks c s o h t.instruction t.at) t.goes
