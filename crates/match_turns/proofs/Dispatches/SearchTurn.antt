-- A turn that searches: a filter begins, a handler takes over, or nobody does.
use Rattle.std.proofs.Common.{◌≡◌, ℕ, zero, ◌+◌, ◌%◌, ◌^◌, ◌<◌, List, [], ◌∷◌, None, refl, sym, ap, subst, arith, inl, inr}
use Rattle.seh_num.specs.declared.event.Event.TheVariants as events
use Rattle.match_turns.specs.Words.{context_of, State, rsp, DispatchRecord, placed, Turn, arrived, accepted, searches_on, unwinds_on, accepting, Exception, Handler, Resumption, Waits, Store, Next, Configuration, begin_filter, accept, target_of, unwind, exec, StackItem, Activation, locals_of, Aimed, RecordHasRoom, store_of, FilterBegins, placed_in, from_body, HasRule, live_from, turns_left, FlagsFit, Setting, IsMachineMemory, EntersFunclet, Outcome, IsSearching, ResumesFrom}
use Rattle.linear_machine.specs.Searching as linear
use Rattle.match_turns.proofs.Lemmas.{in_stack, acceptance_unwinds}
use Rattle.match_stack.proofs.SearchTurns.{search_turns}
use Rattle.match_turns.proofs.Funclets.FuncletSteps.{called_filters_begin}
use Rattle.match_turns.proofs.Dispatches.DispatchMemory.{memory_untouched, placing}
use Rattle.match_turns.proofs.Dispatches.DispatchOutcomeSteps.{represents_there, outcome_same}
use Rattle.match_turns.proofs.Dispatches.DispatchWalks.{filter_walk}
use Rattle.match_turns.proofs.Dispatches.UnwindTurn.{unwound}

module _ (setting : Setting) (fits : FlagsFit setting.program) where
  open setting use {functions as t, funclets as fs, program, plan as p, sites as q, image}

  module _ (s : State) (at : ℕ) (r : DispatchRecord) (is : List StackItem) (acts : List Activation)
      (exception : Exception) (found : List Handler) (c : Configuration)
      (h : IsSearching t fs program p s at r is acts exception found c)
      (memory : IsMachineMemory setting s.memory c.store.memory)
      (store : c.store.activations ≡ locals_of acts) where
    same_store : store_of c.store acts ≡ c.store
    same_store = ap (λ (xs : List (List ℕ)). let x : Store =
        record c.store { activations = xs } in x) (sym store)

    -- ---- a handler takes over, in a frame of the list

    pub taken_over : (f : Handler) (frame address : ℕ) → frame < 2 ^ 64 → address < 2 ^ 64
        → Aimed t fs program p f.depth f.target frame address (context_of r.saved) is
        (Waits c.frame ∷ c.below)
        → HasRule (accept program f exception (exec program zero) c)
        → Outcome setting (arrived t fs (accepted t s at r frame address))
        (λ next. accept program f exception next c) c.events (turns_left c)
        (live_from (context_of r.saved) is)
    taken_over f frame address frame_small address_small aimed rule =
        let a = acceptance_unwinds t fs program p s at r frame address is acts exception found f c
        h frame_small address_small aimed in
        let w = from_body (target_of f exception.code c.frame.held) c.frame c.below acts
        c.store c.events in
        let record' = accepting r frame address in
        let room : RecordHasRoom s.memory at record'
        (rsp (context_of r.saved)) = record {
          fits = a.unwinding.room.fits;
          below = h.room.below;
          small = h.room.small;
          room = h.room.room;
        } in
        let top = in_stack t fs program p s.memory (context_of r.saved) is (Waits c.frame ∷ c.below)
        acts h.on.is_there.stack h.on.is_there.linked in
        let untouched = placing s.memory at record' (rsp (context_of r.saved)) h.on.data_alone room
        top in
        let memory' = memory_untouched t fs program p q s.memory (placed s.memory at record')
        c.store.memory untouched memory a.unwinding.on.data_alone in
        let same = λ (next : Next). ap (λ (x : Store). unwind program next
        (target_of f exception.code c.frame.held) (Waits c.frame ∷ c.below) None c.events x)
        (sym same_store) in
        outcome_same t fs program p q (arrived t fs
        (unwinds_on t (placed_in s at record') at record'))
        (arrived t fs (accepted t s at r frame address))
        (λ next. unwind program next w.target w.items w.left w.shown (store_of w.source w.acts))
        (λ next. accept program f exception next c) c.events (turns_left c)
        (live_from (context_of r.saved) is)
        (ap (arrived t fs) a.turns) same
        (unwound setting fits w (turns_left c) (omega arith) (λ e. absurd cc)
        (placed_in s at record') at record' is a.unwinding memory'
        (subst HasRule (same (exec program zero)) rule))

    -- ---- a filter is asked

    filter_enters : (turn : Turn) (resumption : Resumption)
        → FilterBegins t fs program p s at r turn found exception resumption is acts c
        → EntersFunclet setting turn (λ next. linear.search program next found exception resumption
        c) c.events (turns_left c) (live_from (context_of r.saved) is)
    filter_enters turn resumption f =
        let memory' = memory_untouched t fs program p q s.memory f.state.memory c.store.memory
        f.untouched memory (f.arrives.on []).data_alone in
        record {
          state = f.state;
          event = events.Filter (f.filter + 1);
          turns = f.turns;
          configuration = begin_filter f.filter f.handler f.rest exception resumption c;
          more = 2;
          held = c.frame.held;
          store = c.store;
          few = λ shallow. omega arith;
          acts = f.goes;
          shown = refl;
          arrives = f.named;
          walk = filter_walk setting s at r turn found exception resumption is acts c f;
          leads = λ shallow known. represents_there t fs program p q f.state
              (begin_filter f.filter f.handler f.rest exception resumption c)
              (called_filters_begin t fs program p q image f.state f.filter ((at + 80) % 2 ^ 64)
              f.handler f.rest exception resumption c acts f.arrives f.pointers f.asked memory'
              store shallow known);
        }

    -- ---- all of them

    pub searched : (resumption : Resumption) → ResumesFrom p resumption c.frame acts r.saved
        → HasRule (linear.search program (exec program zero) found exception resumption c)
        → Outcome setting (arrived t fs (searches_on t s at r))
        (λ next. linear.search program next found exception resumption c) c.events (turns_left c)
        (live_from (context_of r.saved) is)
    searched resumption resumes rule = elim (search_turns t fs program p s at r is acts exception
        resumption found c h resumes) [
          | inl f ↦ inr (inl (filter_enters (arrived t fs (searches_on t s at r)) resumption f))
          | inr x ↦ elim x [
            | inl k ↦ outcome_same t fs program p q (arrived t fs
                (accepted t s at r k.frame k.address))
                (arrived t fs (searches_on t s at r)) (λ next. accept program k.handler exception
                next c)
                (λ next. linear.search program next found exception resumption c) c.events
                (turns_left c) (live_from (context_of r.saved) is) k.turns k.goes
                (taken_over k.handler k.frame k.address k.frame_small k.address_small k.aimed
                (subst HasRule (k.goes (exec program zero)) rule))
            | inr z ↦ inr (inr (record {
              code = record { 0 = exception.code };
              turns = z.turns;
              acts = z.goes;
            }))
          ]
        ]
