-- Where a turn begins a function, any numbers may be in the locals after its arguments.
use Rattle.std.proofs.Common.{◌≡◌, ℕ, zero, suc, ◌-◌, ◌<◌, List, [], ◌∷◌, ◌++◌, length, refl, sym, ap, subst, ◌∙◌, arith, length-append}
use Rattle.std.proofs.lemmas.Bool.{lt-ltb}
use Rattle.std.proofs.lemmas.List.{length-take, length-take-le}
use Rattle.std.specs.Prelude.{Bool, true, false, min, nat_lt, take, drop, replicate, slice_get, Option, Some, None}
use Rattle.linear_code.specs.declared.instruction.Instruction.TheVariants as instructions
use Rattle.lowering_invariants.proofs.Stacks.ActivationOwners.{as_many}
use Rattle.lowering_invariants.proofs.Stacks.TurnActivations.{reached_both}
use Rattle.lowering_invariants.proofs.Stacks.TurnNumbers.{stays_small}
use Rattle.lowering_locals.specs.Words.{Instruction, LinearProgram, LinearFunction, BodyName, FunctionBody, FuncletBody, Frame, Store, Waits, Configuration, left_store, begin_function, instruction_at, owners_of, IsWhole, Marks, set_mark, with_mark, first_marks, flag_set, local_written, begins_block, activations_left, arguments_passed, function_of_body, begun_marks, marks_left, next_marks, AreLocalsAlike, AreActivationsAlike, GoAlike}
use Rattle.lowering_locals.specs.Agreement.{AgreeOnSet, AgreementAtBeginning}
use Rattle.lowering_locals.proofs.Lists.{as_long, unset_alike}
use Rattle.lowering_locals.proofs.TurnPairs.{over_store, over}
use Rattle.lowering_locals.proofs.Alike.{is_over, steps_are_alike, marked_is_reached, marked_continues}
use Rattle.lowering_locals.proofs.MarkKeeping.{marks_long}
use Rattle.lowering_locals.proofs.Covered.{bound}
use Rattle.lowering_locals.proofs.AgreementSteps.{other_small, same_place, agreeing_are_small}

-- ---- the last activation

locals_other : (n rest : ℕ) (us arguments zs vs : List ℕ) → length arguments ≡ n
    → length vs ≡ rest
    → AreLocalsAlike (replicate n true ++ replicate rest false) us (arguments ++ zs)
    → AreLocalsAlike (replicate n true ++ replicate rest false) us (arguments ++ vs)
locals_other zero rest us [] zs vs e long h =
    unset_alike rest us vs (count_unset rest us zs h) long
  where
    count_unset : (n : ℕ) (xs ys : List ℕ) → AreLocalsAlike (replicate n false) xs ys
        → length xs ≡ n
    count_unset zero [] [] h = refl
    count_unset zero [] (y ∷ ys) h = absurd h
    count_unset zero (x ∷ xs) ys h = absurd h
    count_unset (suc n) [] ys h = absurd h
    count_unset (suc n) (x ∷ xs) [] h = absurd h
    count_unset (suc n) (x ∷ xs) (y ∷ ys) h = ap suc (count_unset n xs ys h.1)
locals_other zero rest us (a ∷ arguments) zs vs e long h = absurd (omega arith)
locals_other (suc n) rest us [] zs vs e long h = absurd (omega arith)
locals_other (suc n) rest [] (a ∷ arguments) zs vs e long h = absurd h
locals_other (suc n) rest (u ∷ us) (a ∷ arguments) zs vs e long h =
    (h.0, locals_other n rest us arguments zs vs (omega arith) long h.1)

last_other : (marks : Marks) (m : List Bool) (xs ys : List (List ℕ)) (v w : List ℕ)
    → ((u : List ℕ) → AreLocalsAlike m u v → AreLocalsAlike m u w)
    → AreActivationsAlike (marks ++ m ∷ []) xs (ys ++ v ∷ [])
    → AreActivationsAlike (marks ++ m ∷ []) xs (ys ++ w ∷ [])
last_other [] m [] ys v w change h = absurd h
last_other [] m (x ∷ []) [] v w change h = (change x h.0, tt)
last_other [] m (x ∷ x' ∷ xs) [] v w change h = absurd h.1
last_other [] m (x ∷ []) (y ∷ []) v w change h = absurd h.1
last_other [] m (x ∷ []) (y ∷ y' ∷ ys) v w change h = absurd h.1
last_other [] m (x ∷ x' ∷ xs) (y ∷ ys) v w change h = absurd h.1
last_other (n ∷ marks) m [] ys v w change h = absurd h
last_other (n ∷ marks) m (x ∷ xs) [] v w change h = absurd (none marks xs h.1)
  where
    none : (marks : Marks) (xs : List (List ℕ)) → AreActivationsAlike (marks ++ m ∷ []) xs [] → ⊥
    none [] [] h = h
    none [] (x ∷ xs) h = h
    none (n ∷ marks) [] h = h
    none (n ∷ marks) (x ∷ xs) h = h
last_other (n ∷ marks) m (x ∷ xs) (y ∷ ys) v w change h =
    (h.0, last_other marks m xs ys v w change h.1)

-- ---- the marks before it

set_front : (marks : Marks) (m : List Bool) (k x : ℕ) → k < length marks
    → set_mark (marks ++ m ∷ []) k x ≡ set_mark marks k x ++ m ∷ []
set_front [] m k x lt = absurd (omega arith)
set_front (n ∷ marks) m zero x lt = refl
set_front (n ∷ marks) m (suc k) x lt = ap (λ ms. n ∷ ms) (set_front marks m k x (omega arith))

with_front : (o : Option ℕ) (marks : Marks) (m : List Bool) (k : ℕ)
    → ((x : ℕ) → o ≡ Some x → k < length marks)
    → with_mark o k (marks ++ m ∷ []) ≡ with_mark o k marks ++ m ∷ []
with_front None marks m k lt = refl
with_front (Some x) marks m k lt = set_front marks m k x (lt x refl)

no_flag : (program : LinearProgram) (b : Bool) (f : ℕ) → flag_set program b (FunctionBody f) ≡ None
no_flag program true f = refl
no_flag program false f = refl

-- ---- how many activations are left

left_same : (name : BodyName) (k : ℕ) (store : Store) (ys : List (List ℕ))
    → length ys ≡ length store.activations
    → length (left_store name k (over_store store ys)).activations
    ≡ length (left_store name k store).activations
left_same (FunctionBody f) k store ys e =
    length-take k ys ∙ ap (min k) e ∙ sym (length-take k store.activations)
left_same (FuncletBody j) k store ys e = e

activations_same : (i : Instruction) (c : Configuration) (ys : List (List ℕ))
    → length ys ≡ length c.store.activations → activations_left i (over c ys) ≡ activations_left i c
activations_same (instructions.Return from) c ys e =
    left_same c.frame.body c.frame.activation c.store ys e
activations_same i c ys e = e

-- what writes a local leaves all activations
written_leaves : (program : LinearProgram) (i : Instruction) (c : Configuration) (x : ℕ)
    → local_written program i c ≡ Some x → activations_left i c ≡ length c.store.activations
written_leaves program (instructions.Return from) c x e = absurd (cc)
written_leaves program i c x e = refl

-- ---- the function's activation

module _ (program : LinearProgram) (whole : IsWhole program) (c d : Configuration)
    (t : AgreeOnSet program c d) (i : Instruction) where
  -- the body that runs works on one of the activations
  works : c.frame.activation < length c.store.activations
  works =
      let h = (reached_both program whole c (marked_is_reached program c t.marks t.marked)).1 in
      let n = as_many program (owners_of (Waits c.frame ∷ c.below)) c.store.activations h.stored in
      let b = bound program c.frame.body c.frame (owners_of c.below) h.working.0 in
      omega arith

  begun_other : (on : Configuration) (f : ℕ) (function : LinearFunction) (acts : List (List ℕ))
      (arguments zeros values : List ℕ) → on.frame.body ≡ FunctionBody f
      → slice_get program.functions f ≡ Some function → length acts ≡ activations_left i c
      → length arguments ≡ arguments_passed i
      → length values ≡ function.body.locals - function.parameters
      → AreActivationsAlike (next_marks program i c on t.marks) on.store.activations
      (acts ++ (arguments ++ zeros) ∷ [])
      → AreActivationsAlike (next_marks program i c on t.marks) on.store.activations
      (acts ++ (arguments ++ values) ∷ [])
  begun_other on f function acts arguments zeros values b g all passed long h =
      let left = activations_left i c in
      let live = length on.store.activations in
      let count = arguments_passed i in
      let own = first_marks count function in
      let w = local_written program i c in
      let k = c.frame.activation in
      let first = arguments ++ zeros in
      let other = arguments ++ values in
      let n = as_long (next_marks program i c on t.marks) on.store.activations
      (acts ++ first ∷ []) h in
      let one = length-append acts (first ∷ []) in
      let more : nat_lt left live ≡ true = lt-ltb left live (omega arith) in
      let made : marks_left program i c on t.marks ≡ take left t.marks ++ own ∷ [] =
      ap (λ o. begun_marks (nat_lt left live) o count left live t.marks)
      (ap (function_of_body program) b ∙ g)
      ∙ ap (λ y. begun_marks y (Some function) count left live t.marks) more in
      let begins = begins_block (drop (length c.events) on.events) in
      let flag : flag_set program begins on.frame.body ≡ None =
      ap (flag_set program begins) b ∙ no_flag program begins f in
      let before = with_mark w k (take left t.marks) in
      let marked : next_marks program i c on t.marks ≡ before ++ own ∷ [] =
      ap (λ o. with_mark o on.frame.activation
      (with_mark w k (marks_left program i c on t.marks))) flag
      ∙ ap (λ ms. with_mark w k ms) made ∙ with_front w (take left t.marks) own k within in
      subst (λ ms. AreActivationsAlike ms on.store.activations (acts ++ other ∷ [])) (sym marked)
      (last_other before own on.store.activations acts first other
      (λ u l. locals_other count (function.body.locals - function.parameters) u arguments zeros
      values passed long l)
      (subst (λ ms. AreActivationsAlike ms on.store.activations (acts ++ first ∷ [])) marked h))
    where
      within : (x : ℕ) → local_written program i c ≡ Some x
          → c.frame.activation < length (take (activations_left i c) t.marks)
      within x e =
          let a = written_leaves program i c x e in
          let m = marks_long t.marks c.store.activations d.store.activations t.alike.activations in
          let q = length-take-le (activations_left i c) t.marks (omega arith) in
          let lt = works in
          omega arith

pub agreement_at_beginning : AgreementAtBeginning
agreement_at_beginning program whole reads c d t i f held function arguments values below store es
    at g goes all passed long small =
    let here : instruction_at program c ≡ Some i = sym (same_place program c d t.alike.frame)
    ∙ at in
    let both : GoAlike program i t.marks c d = steps_are_alike program i t.marks c d t.alike
    (reads c t.marks i t.marked here) in
    let begun = begin_function f function arguments held below store es in
    let r = both.back begun goes in
    let on = r.0 in
    let zeros = replicate (function.body.locals - function.parameters) 0 in
    let body : on.frame.body ≡ FunctionBody f = ap (λ (k : Frame). k.body)
    (sym r.1.alike.frame) in
    let left : length store.activations ≡ activations_left i c =
    all ∙ ap (activations_left i) (sym (is_over t.marks c d t.alike))
    ∙ activations_same i c d.store.activations
    (as_long t.marks c.store.activations d.store.activations t.alike.activations) in
    let numbers = (stays_small program d begun (record { instruction = i; at = at; goes = goes })
    (agreeing_are_small program c d t)).locals in
    record {
      on = on;
      goes = r.1.one;
      agreement = record {
        marks = next_marks program i c on t.marks;
        marked = marked_continues program c on t.marks t.marked
            (record { instruction = i; at = here; goes = r.1.one });
        alike = record {
          frame = r.1.alike.frame;
          below = r.1.alike.below;
          memory = r.1.alike.memory;
          handlers = r.1.alike.handlers;
          events = r.1.alike.events;
          activations = begun_other program whole c d t i on f function store.activations
              arguments zeros values body g left passed long r.1.alike.activations;
        };
        small = other_small store.activations arguments zeros values numbers small;
      };
    }
