-- A vectored handler is asked: its function's actual configuration has the stack's numbers in
-- locals after the two arguments.
use Rattle.std.proofs.Common.{◌≡◌, List, length, ◌++◌, Some, sym, ap, ◌∙◌, arith, inl, inr}
use Rattle.std.specs.Prelude.{◌⊎◌}
use Rattle.seh_num.specs.declared.event.Event.{Event}
use Rattle.lowering_invariants.specs.Bodies.{IsWhole}
use Rattle.lowering_locals.specs.Agreement.{GoesToAgreeing}
use Rattle.lowering_locals.specs.Alike.{freshly}
use Rattle.lowering_locals.specs.Marks.{arguments_passed}
use Rattle.lowering_locals.proofs.Beginnings.{agreement_at_beginning}
use Rattle.match_turns.specs.AskOutcome.{AskBegins}
use Rattle.image_runs.specs.StepMatches.{MatchesOrAsks, IsAskedAt}
use Rattle.image_runs.specs.Words.{State, Functions, Funclet, Instruction, LinearProgram, LinearFunction, FunctionBody, body_of, Frame, Configuration, instruction_at, ImagePlan, separators_in, separators_at, Begins, IsMatched, AgreeOnSet, StepsAgree, ReadsNoUnset, Sites, turns_left, turns_per_step, RepresentsWhereSet}
use Rattle.image_runs.proofs.AgreementSteps.{same_left, carried}

same_function : (f g : LinearFunction) → Some f ≡ Some g → f ≡ g
same_function f g e = cc

module _ (t : Functions) (fs : List Funclet) (program : LinearProgram) (p : ImagePlan) (q : Sites)
    (whole : IsWhole program) (reads : ReadsNoUnset program) (c d : Configuration)
    (agreement : AgreeOnSet program c d) (s : State) (i : Instruction)
    (at : instruction_at program d ≡ Some i) (two : arguments_passed i ≡ 2) where
  module _ (v : AskBegins t fs program p q turns_per_step s d i)
      (asked : IsAskedAt program i d v.handler v.store) where
    abbrev on : Configuration
    on = freshly v.handler v.function v.arguments v.others v.held v.below v.store
        (d.events ++ v.events)

    passed : length v.arguments ≡ arguments_passed i
    passed = v.given
        ∙ ap (λ (f : LinearFunction). f.parameters)
        (same_function v.function asked.callee.function (sym v.there ∙ asked.callee.there))
        ∙ sym asked.callee.takes ∙ sym two

    -- linear code comes to the function too
    goes : GoesToAgreeing program i c on
    goes = agreement_at_beginning program whole reads c d agreement i v.handler v.held v.function
        v.arguments v.others v.below v.store (d.events ++ v.events) at v.there v.acts asked.left
        passed v.as_many v.small

    -- what takes more turns than a step gives is given by the separators that the function begins
    -- with
    pub asks_begin : Begins t fs program turns_per_step turns_left
        (RepresentsWhereSet t fs program p q) s c i
    asks_begin =
        let g = goes in
        let soon = v.soon in
        let few = v.few in
        let weighs = v.weighs in
        let left = same_left g.agreement.marks g.on on g.agreement.alike in
        let same = same_left agreement.marks c d agreement.alike in
        let ahead : separators_in (body_of program (FunctionBody v.handler)) 0
        ≡ separators_at program g.on = ap (λ (x : Frame). separators_in
        (body_of program x.body) x.next) g.agreement.alike.frame in
        record {
          first = v.first;
          soon = omega arith;
          middle = v.middle;
          events = v.events;
          shows = v.shows;
          turns = v.turns;
          some = (let some = v.some in omega arith);
          configuration = g.on;
          few = omega arith;
          state = v.state;
          comes = v.comes;
          acts = g.goes;
          shown = sym g.agreement.alike.events
              ∙ ap (λ (es : List Event). es ++ v.events) agreement.alike.events;
          is_there = record { actual = on; agreement = g.agreement; is_there = inl v.begins };
        }

  -- a step that may ask one
  pub carried_or_asks : StepsAgree program i c d → MatchesOrAsks t fs program p q s d i
      → IsMatched t fs program turns_per_step turns_left (RepresentsWhereSet t fs program p q) s c i
      ⊎ Begins t fs program turns_per_step turns_left (RepresentsWhereSet t fs program p q) s c i
  carried_or_asks go (inl m) =
      inl (carried t fs program p q c d agreement s i go turns_per_step m)
  carried_or_asks go (inr v) = inr (asks_begin v.0 v.1)
