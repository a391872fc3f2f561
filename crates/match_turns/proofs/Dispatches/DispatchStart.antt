-- A body asks the dispatcher: a raise and a local unwind.
use Rattle.std.proofs.Common.{◌≡◌, ℕ, zero, ◌^◌, ◌<◌, ◌≤◌, Bool, List, [], ◌∷◌, ◌++◌, length, Option, None, sym, ap, subst, ◌∙◌, arith}
use Rattle.std.proofs.lemmas.List.{append-nil}
use Rattle.match_turns.specs.Words.{Code, Event, Cpu, context_of, State, rsp, placed, arrived, raised, unwound_locally, asks_on, unwinds_on, place_of, new_record, to_target, Exception, raise_event, Target, Resumption, Waits, Store, Next, Configuration, raise, unwind, local_unwind, exec, StackItem, Activation, locals_of, Aimed, RecordHasRoom, store_of, placed_in, from_body, AsksHost, IsException, HasRule, live_from, turns_left, FlagsFit, NoneLanded, Setting, IsMachineMemory, Outcome, Shows, ShowsOrAsks, AreListable, host_list, ResumesFrom}
use Rattle.seh_records.specs.declared.dispatch.Kind.TheVariants.{Vectored}
use Rattle.match_turns.proofs.Lemmas.{in_stack, raise_asks, local_unwind_unwinds}
use Rattle.match_turns.proofs.Dispatches.DispatchMemory.{memory_untouched, placing}
use Rattle.match_turns.proofs.Dispatches.DispatchOutcomeSteps.{arrived_with, with_one, with_none, outcome_same}
use Rattle.match_turns.proofs.Dispatches.UnwindTurn.{unwound}
use Rattle.match_turns.proofs.Filters.AskTurn.{asked}

-- linear code that has shown an event more
abbrev pub having_shown : Event → Configuration → Configuration
having_shown e c = record {
  frame = c.frame;
  below = c.below;
  store = c.store;
  events = c.events ++ e ∷ [];
}

module _ (setting : Setting) (fits : FlagsFit setting.program) where
  open setting use {functions as t, funclets as fs, program, plan as p, sites as q, image}

  module _ (s : State) (saved : Cpu) (is : List StackItem) (acts : List Activation)
      (c : Configuration)
      (asks : AsksHost t fs program p s saved is (Waits c.frame ∷ c.below) acts
      (host_list p c.store))
      (memory : IsMachineMemory setting s.memory c.store.memory)
      (store : c.store.activations ≡ locals_of acts) where
    top : rsp (context_of saved) ≤ 0x70800000
    top = in_stack t fs program p s.memory (context_of saved) is (Waits c.frame ∷ c.below) acts
        asks.on.is_there.stack asks.on.is_there.linked

    -- a raise shows its event, and asks the first vectored handler, or searches
    pub raised_as : (code : Code) (flags : ℕ) (access : Option (Bool × ℕ)) (exception : Exception)
        (resumption : Resumption)
        → IsException code flags access exception → ResumesFrom p resumption c.frame acts saved
        → HasRule (raise program (exec program zero) exception resumption c)
        → AreListable program c.store.vectored → (here : ℕ) → place_of saved ≤ here
        → ShowsOrAsks setting (arrived t fs (raised t s code flags access saved))
        (raise_event exception ∷ []) (λ next. raise program next exception resumption c) c.events
        (turns_left c) here (live_from (context_of saved) is)
    raised_as code flags access exception resumption is_exception resumes rule listed here le =
        let e = raise_event exception in
        let c' = having_shown e c in
        let r = new_record Vectored code flags access saved in
        let at = place_of saved in
        let a = raise_asks t fs program p s code flags access saved is acts exception c'
        image.handlers_small asks is_exception in
        record {
          further = arrived t fs (asks_on t s at r);
          turns = ap (arrived t fs) a.turns ∙ arrived_with t fs e (asks_on t s at r)
              ∙ with_one e (arrived t fs (asks_on t s at r));
          outcome = asked setting fits s at r is acts exception 0 c' a.asking memory store here le
              listed resumption resumes rule;
        }

    -- a local unwind
    pub unwound_to : (frame address label : ℕ) → frame < 2 ^ 64 → address < 2 ^ 64
        → Aimed t fs program p (length c.below) label frame address (context_of saved) is
        (Waits c.frame ∷ c.below)
        → HasRule (local_unwind program (exec program zero) label c)
        → NoneLanded (Waits c.frame ∷ c.below)
        → Shows setting (arrived t fs (unwound_locally t s frame address saved)) []
        (λ next. local_unwind program next label c) c.events (turns_left c)
        (live_from (context_of saved) is)
    unwound_to frame address label frame_small address_small aimed rule unlanded =
        let r = to_target saved frame address in
        let at = place_of saved in
        let target : Target = record {
          depth = length c.below;
          label = label;
          code = None;
          held = c.frame.held;
        } in
        let w = from_body target c.frame c.below acts c.store c.events in
        let a = local_unwind_unwinds t fs program p s frame address saved is acts (length c.below)
        label c.frame c.below c.store c.events asks frame_small address_small aimed in
        let u = a.unwinding in
        let room : RecordHasRoom s.memory at r
        (rsp (context_of saved)) = record {
          fits = u.room.fits;
          below = u.room.below;
          small = u.room.small;
          room = asks.room;
        } in
        let untouched = placing s.memory at r (rsp (context_of saved)) asks.on.data_alone room
        top in
        let memory' = memory_untouched t fs program p q s.memory (placed s.memory at r)
        c.store.memory untouched memory u.on.data_alone in
        let same_store : c.store ≡ store_of c.store acts = ap
        (λ (xs : List (List ℕ)). let x : Store =
        record c.store { activations = xs } in x) store in
        let same = λ (next : Next). ap (λ (x : Store). unwind program next target
        (Waits c.frame ∷ c.below) None c.events x) same_store in
        let done = outcome_same t fs program p q
        (arrived t fs (unwinds_on t (placed_in s at r) at r))
        (arrived t fs (unwound_locally t s frame address saved))
        (λ next. unwind program next w.target w.items w.left w.shown (store_of w.source w.acts))
        (λ next. local_unwind program next label c) c.events (turns_left c)
        (live_from (context_of saved) is)
        (ap (arrived t fs) a.turns) same
        (unwound setting fits w (turns_left c) (omega arith) (λ e. unlanded) (placed_in s at r) at r
        is u memory' (subst HasRule (same (exec program zero)) rule)) in
        record {
          further = arrived t fs (unwound_locally t s frame address saved);
          turns = with_none (arrived t fs (unwound_locally t s frame address saved));
          outcome = subst (λ (es : List Event). Outcome setting
              (arrived t fs (unwound_locally t s frame address saved))
              (λ next. local_unwind program next label c) es (turns_left c)
              (live_from (context_of saved) is)) (sym (append-nil c.events)) done;
        }
