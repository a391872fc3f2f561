-- A call: the callee's actual configuration has the stack's numbers in locals after arguments.
use Rattle.std.proofs.Common.{◌≡◌, ℕ, ◌+◌, ◌-◌, Bool, true, false, List, [], ◌∷◌, ◌++◌, length, take, drop, Some, None, inl, inr, refl, sym, ap, ◌∙◌, arith, length-append}
use Rattle.std.specs.Prelude.{◌⊎◌, ◌≤◌, nat_lt, replicate, slice_get, if◌then◌else◌}
use Rattle.std.proofs.lemmas.Bool.{eq-eqb}
use Rattle.std.proofs.lemmas.List.{append-nil}
use Rattle.image_runs.specs.Words.{State, Functions, Funclet, Instruction, LinearProgram, LinearFunction, weight, depth_weight, FunctionBody, body_of, Waits, Frame, Configuration, Seen, Running, Finished, Next, pick, last_temporaries, act, begin_function, waiting, instruction_at, ImagePlan, separators_in, separators_at, Begins, Fails, IsTaken, AgreeOnSet, StepsAgree, Sites, turns_left, turns_per_step, RepresentsWhereSet, called_with, CallBegins}
use Rattle.source_meaning.specs.declared.ended.Ended.TheVariants.{Deep}
use Rattle.linear_code.specs.declared.instruction.Instruction.TheVariants as instructions
use Rattle.lowering_invariants.proofs.Same.{alike_is_same}
use Rattle.image_runs.proofs.Lemmas.{agreement_at_call}
use Rattle.match_runs.proofs.Turns.{comes_nowhere}
use Rattle.match_turns.proofs.Calls.CallActs.{call_acts}
use Rattle.image_runs.proofs.AgreementSteps.{same_left, carried}

-- ---- lists with the same end

front_is : (xs ys : List ℕ) → take (length xs) (xs ++ ys) ≡ xs
front_is [] ys = refl
front_is (x ∷ xs) ys = ap (λ zs. x ∷ zs) (front_is xs ys)

same_front : (xs ys zs : List ℕ) → xs ++ zs ≡ ys ++ zs → xs ≡ ys
same_front xs ys zs e =
    let n : length xs ≡ length ys = omega (
      arith,
      length-append xs zs,
      length-append ys zs,
      ap (λ (ws : List ℕ). length ws) e,
    ) in
    sym (front_is xs zs) ∙ ap (take (length xs)) e ∙ ap (λ n. take n (ys ++ zs)) n ∙ front_is ys zs

abbrev the_last : List (List ℕ) → List ℕ
the_last [] = []
the_last (x ∷ []) = x
the_last (x ∷ y ∷ xs) = the_last (y ∷ xs)

last_is : (xss : List (List ℕ)) (xs : List ℕ) → the_last (xss ++ xs ∷ []) ≡ xs
last_is [] xs = refl
last_is (y ∷ []) xs = refl
last_is (y ∷ z ∷ xss) xs = last_is (z ∷ xss) xs

held_arguments : (ts : List ℕ) (first count : ℕ) → length ts ≡ first + count
    → last_temporaries ts first count ≡ Some (drop first ts)
held_arguments ts first count e = ap (λ (b : Bool). if b then Some (drop first ts) else None)
    (eq-eqb (length ts) (first + count) e)

module _ (t : Functions) (fs : List Funclet) (program : LinearProgram) (p : ImagePlan) (q : Sites)
    (c d : Configuration) (agreement : AgreeOnSet program c d) (s : State) (f first count : ℕ)
    (at : instruction_at program d ≡ Some (instructions.Call f first count))
    (held : length d.frame.temporaries ≡ first + count)
    (weighs : (function : LinearFunction) → slice_get program.functions f ≡ Some function
    → weight function ≤ separators_in (body_of program (FunctionBody f)) 0) where
  abbrev i : Instruction
  i = instructions.Call f first count

  abbrev own : LinearFunction → List ℕ → Configuration
  own function arguments = begin_function f function arguments d.frame.held
      (Waits (waiting d first).frame ∷ d.below) d.store d.events

  module _ (v : CallBegins t fs program p q s d f first count) where
    abbrev deep : Bool
    deep = nat_lt 1000 (length d.store.activations + d.frame.held + depth_weight v.function)

    abbrev ended : Seen
    ended = Finished (Deep 1001) d.events

    goes : (next : Next) → act program i next d
        ≡ pick deep ended (next (own v.function (drop first d.frame.temporaries)))
    goes next = call_acts program d f first count v.function v.there held next

    -- it isn't too deep, since it continues
    shallow : deep ≡ true → ⊥
    unfolding pick
    shallow e =
        let next : Next = λ x. Running [] in
        differ (sym (v.acts next) ∙ goes next
        ∙ ap (λ (b : Bool). pick b ended (next (own v.function (drop first d.frame.temporaries))))
        e)
      where
        differ : Running [] ≡ Finished (Deep 1001) d.events → ⊥
        differ q = cc

    -- the arguments are the last temporaries
    arguments_are : deep ≡ false → v.arguments ≡ drop first d.frame.temporaries
    unfolding pick
    arguments_are e =
        let zeros = replicate (v.function.body.locals - v.function.parameters) 0 in
        let last = drop first d.frame.temporaries in
        let same : own v.function v.arguments
        ≡ own v.function last = alike_is_same (own v.function v.arguments) (own v.function last)
        (λ next. sym (v.acts next) ∙ goes next
        ∙ ap (λ (b : Bool). pick b ended (next (own v.function last))) e) in
        same_front v.arguments last zeros
        (sym (last_is d.store.activations (v.arguments ++ zeros))
        ∙ ap (λ (x : Configuration). the_last x.store.activations) same
        ∙ last_is d.store.activations (last ++ zeros))

    goes_on : deep ≡ false → Begins t fs program turns_per_step turns_left
        (RepresentsWhereSet t fs program p q) s c i
    goes_on e =
        let taken : last_temporaries d.frame.temporaries first count
        ≡ Some v.arguments = held_arguments d.frame.temporaries first count held
        ∙ ap (λ (xs : List ℕ). Some xs) (sym (arguments_are e)) in
        let g = agreement_at_call program c d f first count v.function v.arguments v.others
        agreement at taken
        v.there e v.as_many v.small in
        let on = called_with c d f first v.function v.arguments v.others in
        let few = v.few in
        let left = same_left g.agreement.marks g.on on g.agreement.alike in
        let ahead : separators_in (body_of program (FunctionBody f)) 0
        ≡ separators_at program g.on = ap (λ (x : Frame). separators_in
        (body_of program x.body) x.next) g.agreement.alike.frame in
        let enough = weighs v.function v.there in
        let same = same_left agreement.marks c d agreement.alike in
        record {
          first = 0;
          soon = omega arith;
          middle = s;
          events = [];
          shows = comes_nowhere t fs s;
          turns = v.turns;
          some = (let some = v.some in omega arith);
          configuration = g.on;
          few = omega arith;
          state = v.state;
          comes = v.comes;
          acts = g.goes;
          shown = sym g.agreement.alike.events ∙ agreement.alike.events
              ∙ sym (append-nil c.events);
          is_there = record { actual = on; agreement = g.agreement; is_there = inl v.begins };
        }

    begins : Begins t fs program turns_per_step turns_left (RepresentsWhereSet t fs program p q) s
        c i
    begins = by deep refl
      where
        by : (b : Bool) → deep ≡ b → Begins t fs program turns_per_step turns_left
            (RepresentsWhereSet t fs program p q) s c i
        by true e = absurd (shallow e)
        by false e = goes_on e

  pub called : StepsAgree program i c d → CallBegins t fs program p q s d f first count
      ⊎ Fails t fs program turns_per_step turns_left s d i
      → IsTaken t fs program turns_per_step turns_left (RepresentsWhereSet t fs program p q) s c i
  called go (inl v) = inr (begins v)
  called go (inr v) =
      inl (carried t fs program p q c d agreement s i go turns_per_step (inr (inr (inr v))))
