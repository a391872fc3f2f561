-- A vectored handler has answered: the next one is asked, the search begins, or the exception is
-- continued.
use Rattle.std.proofs.Common.{◌≡◌, ℕ, zero, ◌+◌, ◌≤◌, List, [], ◌∷◌, ◌++◌, None, sym, ap, subst, ◌∙◌, arith, inl, inr, length-append}
use Rattle.std.proofs.lemmas.List.{append-nil}
use Rattle.match_turns.specs.Words.{Event, Rsp, LiveCallers, context_of, State, register, rsp, DispatchRecord, Turn, Continues, arrived, restored, Exception, noncontinuable, raise_event, Resumption, AfterCall, SameOperation, Seen, Next, Configuration, resumed, raise, exec, StackItem, Activation, locals_of, HasRule, WalkGives, drop_below, live_from, turns_left, FlagsFit, Setting, IsMachineMemory, Continuations, OutcomeOrAsks, ShowsOrAsks, AreListable, vectored_turn, at_next, linear_vectored, HandlerHasAnswered, AsksOn, ContinuesSaved, AsksAnew}
use Rattle.linear_machine.specs.Searching.{ask_from}
use Rattle.host_model.specs.Dispatch.{asks_on, again}
use Rattle.match_stack.specs.VectoredReturns.{HandlerReturned}
use Rattle.match_stack.proofs.VectoredAnswers.{vectored_returns}
use Rattle.match_turns.proofs.Lemmas.{none_below, none_started, on_stack, stack_rises}
use Rattle.match_turns.proofs.Dispatches.DispatchOutcomeSteps.{arrived_with, with_one, with_none}
use Rattle.match_turns.proofs.Dispatches.DispatchStart.{having_shown}
use Rattle.match_turns.proofs.Filters.AskSteps.{or_asks_by}
use Rattle.match_turns.proofs.Filters.AskTurn as ask

module _ (setting : Setting) (fits : FlagsFit setting.program) where
  open setting use {functions as t, funclets as fs, program, plan as p, sites as q, image}

  module _ (continues : Continuations setting) (s : State) (r : DispatchRecord)
      (is : List StackItem) (acts : List Activation) (exception : Exception)
      (resumption : Resumption) (place : ℕ) (c : Configuration)
      (answers : HandlerHasAnswered t fs program p s r is acts exception resumption place c)
      (memory : IsMachineMemory setting s.memory c.store.memory)
      (store : c.store.activations ≡ locals_of acts) (free : c.frame.landed ≡ None)
      (listed : AreListable program c.store.vectored) where
    abbrev seen : Next → Seen
    seen next = linear_vectored program s exception resumption place c next

    abbrev at : ℕ
    at = rsp (context_of s.cpu)

    abbrev pub live : LiveCallers
    live = live_from (context_of r.saved) is

    abbrev Shown : List Event → Type 0
    Shown before = ShowsOrAsks setting (arrived t fs (vectored_turn t s)) before seen c.events
        (turns_left c + 3) (register s.cpu Rsp) live

    outcome : HandlerReturned t fs program p s r is acts exception resumption place c
    outcome = vectored_returns t fs program p s r is acts exception resumption place c answers

    at_itself : at ≤ at
    at_itself = omega arith

    -- the next one is asked, or the search begins
    next_asked : AsksOn t fs program p s r is acts exception resumption place c
        → HasRule (seen (exec program zero)) → Shown []
    next_asked a rule =
        let x = arrived t fs (asks_on t s at (at_next r)) in
        record {
          further = x;
          turns = ap (arrived t fs) a.turns ∙ with_none x;
          outcome = subst (λ (es : List Event). OutcomeOrAsks setting x seen es (turns_left c + 3)
              (register s.cpu Rsp) live) (sym (append-nil c.events))
              (or_asks_by t fs program p q x
              (λ next. ask_from program next (place + 1) exception resumption c) seen c.events
              (turns_left c) (turns_left c + 3) (register s.cpu Rsp) live a.goes (omega arith)
              (ask.asked setting fits s at (at_next r) is acts exception (place + 1) c a.asking
              memory
              store (register s.cpu Rsp) at_itself listed resumption outcome.resumes
              (subst HasRule (a.goes (exec program zero)) rule)));
        }

    is_continued : ContinuesSaved t fs program p s r is acts exception resumption place c → Shown []
    is_continued a =
        let x : Turn = Continues (restored s r) [] in
        let l = continues s r.saved is acts resumption c a.on a.well_formed outcome.resumes memory
        store in
        record {
          further = arrived t fs x;
          turns = ap (arrived t fs) a.turns ∙ with_none (arrived t fs x);
          outcome = inl (inl (record {
            state = restored s r;
            events = [];
            turns = ap (λ (es : List Event). Continues (restored s r) es) l.0;
            configuration = resumed resumption c;
            few = resumed_few resumption;
            acts = a.goes;
            shown = shown_same resumption;
            silent = l.0;
            walk = λ v le. (let stack = a.on.is_there.stack in
                subst (WalkGives t (restored s r))
                (sym (ap (drop_below (rsp (context_of r.saved)))
                (none_started t fs v (restored s r) live.callers le)
                ∙ none_below (rsp (context_of r.saved)) live.callers
                (stack_rises t s.memory (context_of r.saved) is stack)))
                (on_stack t s.memory (context_of r.saved) 0 is stack));
            leads = λ known. l.1 known free;
          }));
        }
      where
        resumed_few : (k : Resumption) → turns_left (resumed k c) ≤ turns_left c + 3
        resumed_few AfterCall = omega (arith, length-append c.frame.temporaries (0 ∷ []))
        resumed_few SameOperation = omega arith

        shown_same : (k : Resumption) → (resumed k c).events ≡ (c.events ++ []) ++ []
        shown_same AfterCall = sym (append-nil (c.events ++ []) ∙ append-nil c.events)
        shown_same SameOperation = sym (append-nil (c.events ++ []) ∙ append-nil c.events)

    -- the exception in its place shows its own event
    raised_anew : AsksAnew t fs program p s r is acts exception resumption place c
        → HasRule (seen (exec program zero)) → Shown (raise_event noncontinuable ∷ [])
    raised_anew a rule =
        let e = raise_event noncontinuable in
        let c' = having_shown e c in
        let g = a.asking in
        let x = asks_on t s at (again r) in
        let y = arrived t fs x in
        record {
          further = y;
          turns = ap (arrived t fs) a.turns ∙ arrived_with t fs e x ∙ with_one e y;
          outcome = or_asks_by t fs program p q y
              (λ next. raise program next noncontinuable resumption c) seen (c.events ++ e ∷ [])
              (turns_left c) (turns_left c + 3) (register s.cpu Rsp) live a.goes (omega arith)
              (ask.asked setting fits s at (again r) is acts noncontinuable 0 c' (record {
                gives = g.gives;
                well_formed = g.well_formed;
                handlers = g.handlers;
                on = g.on;
                kind = g.kind;
                room = g.room;
                carries = g.carries;
                row = g.row;
                walk = g.walk;
                near = g.near;
              }) memory store (register s.cpu Rsp) at_itself listed resumption outcome.resumes
              (subst HasRule (a.goes (exec program zero)) rule));
        }

    -- whatever it answers
    pub record AnswerShows : Type 0 where
      pub before : List Event
      pub shown : Shown before

    pub handler_answered : HasRule (seen (exec program zero)) → AnswerShows
    handler_answered rule = elim outcome.by_answer [
      | inl a ↦ record { before = []; shown = next_asked a rule }
      | inr x ↦ elim x [
        | inl a ↦ record { before = []; shown = is_continued a }
        | inr a ↦ record {
          before = raise_event noncontinuable ∷ [];
          shown = raised_anew a rule;
        }
      ]
    ]
