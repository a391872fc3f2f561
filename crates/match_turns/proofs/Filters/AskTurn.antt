-- A turn that asks the vectored handlers from a place on: one is called, or the search begins.
use Rattle.std.proofs.Common.{◌≡◌, ℕ, zero, ◌≤◌, List, ◌∷◌, None, ap, subst, inl, inr}
use Rattle.match_turns.specs.Words.{context_of, State, rsp, DispatchRecord, arrived, asks_on, searching, searches_on, Exception, Resumption, Waits, Configuration, handlers, exec, StackItem, Activation, locals_of, RecordHasRoom, HasRule, live_from, turns_left, FlagsFit, Setting, IsMachineMemory, OutcomeOrAsks, IsAsking, SearchFollows, ResumesFrom, placed, AreListable}
use Rattle.linear_machine.specs.Searching.{ask_from, search}
use Rattle.match_turns.proofs.Lemmas.{in_stack}
use Rattle.match_stack.proofs.Asking.{ask_turns}
use Rattle.match_turns.proofs.Dispatches.DispatchMemory.{memory_untouched, placing}
use Rattle.match_turns.proofs.Dispatches.DispatchOutcomeSteps.{outcome_same}
use Rattle.match_turns.proofs.Dispatches.SearchTurn.{searched}
use Rattle.match_turns.proofs.VectoredHandlers.HandlerEntry.{handler_enters}

module _ (setting : Setting) (fits : FlagsFit setting.program) where
  open setting use {functions as t, funclets as fs, program, plan as p, sites as q, image}

  module _ (s : State) (at : ℕ) (r : DispatchRecord) (is : List StackItem) (acts : List Activation)
      (exception : Exception) (place : ℕ) (c : Configuration)
      (h : IsAsking t fs program p s at r is acts exception place c)
      (memory : IsMachineMemory setting s.memory c.store.memory)
      (store : c.store.activations ≡ locals_of acts) (here : ℕ) (le : at ≤ here)
      (listed : AreListable program c.store.vectored) where
    -- past the last one
    follows : (resumption : Resumption) → ResumesFrom p resumption c.frame acts r.saved
        → HasRule (ask_from program (exec program zero) place exception resumption c)
        → SearchFollows t fs program p s at r is acts exception resumption place c
        → OutcomeOrAsks setting (arrived t fs (asks_on t s at r))
        (λ next. ask_from program next place exception resumption c) c.events (turns_left c) here
        (live_from (context_of r.saved) is)
    follows resumption resumes rule a =
        let new = searching r in
        let u : State = record s { memory = placed s.memory at new } in
        let found = handlers program (Waits c.frame ∷ c.below) None in
        let room : RecordHasRoom s.memory at new (rsp (context_of r.saved)) = record {
          fits = a.searches.room.fits;
          below = h.room.below;
          small = h.room.small;
          room = h.room.room;
        } in
        let top = in_stack t fs program p s.memory (context_of r.saved) is (Waits c.frame ∷ c.below)
        acts h.on.is_there.stack h.on.is_there.linked in
        let untouched = placing s.memory at new (rsp (context_of r.saved)) h.on.data_alone room top
        in
        let memory' = memory_untouched t fs program p q s.memory (placed s.memory at new)
        c.store.memory untouched memory a.searches.on.data_alone in
        inl (outcome_same t fs program p q (arrived t fs (searches_on t u at new))
        (arrived t fs (asks_on t s at r))
        (λ next. search program next found exception resumption c)
        (λ next. ask_from program next place exception resumption c) c.events (turns_left c)
        (live_from (context_of r.saved) is) (ap (arrived t fs) a.turns) a.goes
        (searched setting fits u at new is acts exception found c a.searches memory' store
        resumption
        resumes (subst HasRule (a.goes (exec program zero)) rule)))

    pub asked : (resumption : Resumption) → ResumesFrom p resumption c.frame acts r.saved
        → HasRule (ask_from program (exec program zero) place exception resumption c)
        → OutcomeOrAsks setting (arrived t fs (asks_on t s at r))
        (λ next. ask_from program next place exception resumption c) c.events (turns_left c) here
        (live_from (context_of r.saved) is)
    asked resumption resumes rule = elim (ask_turns t fs program p s at r is acts exception
        resumption place c h resumes) [
          | inl a ↦ inr (handler_enters setting s at r is acts exception resumption place c h memory
              store here le listed a)
          | inr a ↦ follows resumption resumes rule a
        ]
