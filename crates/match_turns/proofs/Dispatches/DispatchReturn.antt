-- At the host's return addresses: a filter has answered, a `__finally` block has ended.
use Rattle.std.proofs.Common.{◌≡◌, ℕ, zero, ◌+◌, ◌*◌, ◌≤◌, Bool, List, [], ◌∷◌, ◌++◌, Option, Some, None, refl, sym, ap, subst, ◌∙◌, arith, inl, inr, append_assoc, length-append}
use Rattle.std.proofs.lemmas.List.{append-nil}
use Rattle.match_turns.specs.Words.{W32, Event, signed, Rsp, LiveCallers, context_of, State, register, rsp, distance, DispatchRecord, Turn, Continues, with_event, arrivals, arrived, accepted, searches_on, unwinds_on, finally_returned, eax, restored, if_unwinding, Exception, noncontinuable, raise_event, Region, Handler, Target, Resumption, AfterCall, SameOperation, Waits, Unwinds, Item, Frame, Store, Seen, Next, Configuration, search, accept, resumed, unwind, end_finally, exec, StackItem, Unwinding, Activation, locals_of, On, store_of, IsWellFormed, Unwound, SearchIsAnswered, AnswersAs, filter_turn, linear_answer, with_answer, answered, AsksTheNext, AskedTakesOver, ContinuesException, IsRaisedAnew, HasRule, WalkGives, drop_below, live_from, held_below, turns_left, FlagsFit, NoneLanded, Setting, IsMachineMemory, Continuations, Outcome, OutcomeOrAsks, Shows, ShowsOrAsks, AreListable, host_list, ResumesFrom}
use Rattle.seh_records.specs.Record.{fetched}
use Rattle.seh_num.specs.declared.event.Event.TheVariants as events
use Rattle.match_turns.proofs.Lemmas.{answers_continue, finally_returns_unwind, none_below, none_started, on_stack, stack_rises}
use Rattle.match_stack.proofs.FilterAnswers.{filter_returns}
use Rattle.match_turns.proofs.Dispatches.DispatchOutcomeSteps.{arrived_with, with_one, with_two, with_none, outcome_same, outcome_by}
use Rattle.match_turns.proofs.Dispatches.UnwindTurn.{unwound}
use Rattle.match_turns.proofs.Dispatches.SearchTurn.{searched, taken_over}
use Rattle.match_turns.proofs.Filters.AskSteps.{or_asks_by}
use Rattle.match_turns.proofs.Filters.AskTurn as ask
use Rattle.linear_machine.specs.Searching.{ask_from}
use Rattle.host_model.specs.Dispatch.{asks_on, again}

module _ (setting : Setting) (fits : FlagsFit setting.program) where
  open setting use {functions as t, funclets as fs, program, plan as p, sites as q, image}

  -- ---- a filter has answered

  module _ (continues : Continuations setting) (s : State) (r : DispatchRecord)
      (is : List StackItem) (acts : List Activation) (exception : Exception)
      (resumption : Resumption) (asked : Handler) (rest : List Handler) (c : Configuration)
      (answers : SearchIsAnswered t fs program p s r is acts exception resumption asked rest c)
      (memory : IsMachineMemory setting s.memory c.store.memory)
      (store : c.store.activations ≡ locals_of acts) (free : c.frame.landed ≡ None)
      (listed : AreListable program c.store.vectored) where
    abbrev event : Event
    event = events.Answer (signed W32 (eax s))

    abbrev c' : Configuration
    c' = answered s c

    abbrev seen : Next → Seen
    seen next = linear_answer program s exception resumption asked rest c next

    abbrev at : ℕ
    at = rsp (context_of s.cpu)

    abbrev pub live : LiveCallers
    live = live_from (context_of r.saved) is

    abbrev Answers : Type 0
    Answers = ShowsOrAsks setting (arrived t fs (filter_turn t s)) (event ∷ []) seen c.events
        (turns_left c + 3) (register s.cpu Rsp) live

    onward : AnswersAs t fs program p s r is acts exception asked rest c'
    onward = answers_continue t fs program p s r is acts exception resumption asked rest c'
        (record {
          gives = answers.gives;
          well_formed = answers.well_formed;
          handlers = answers.handlers;
          on = answers.on;
        })

    resumes : ResumesFrom p resumption c.frame acts r.saved
    resumes = answers.on.is_there.linked.0.resumes

    shows : (x : Turn) → filter_turn t s ≡ with_answer s x
        → OutcomeOrAsks setting (arrived t fs x) seen (c.events ++ event ∷ []) (turns_left c + 3)
        (register s.cpu Rsp) live
        → Answers
    shows x e outcome = record {
      further = arrived t fs x;
      turns = ap (arrived t fs) e
          ∙ arrived_with t fs event x ∙ with_one event (arrived t fs x);
      outcome = outcome;
    }

    asks_next : AsksTheNext t program s r exception resumption asked rest c
        → HasRule (seen (exec program zero)) → Answers
    asks_next a rule =
        let x = searches_on t s at r in
        shows x a.turns
        (inl (outcome_by t fs program p q (arrived t fs x) (arrived t fs x)
        (λ next. search program next rest exception resumption c') seen
        (c.events ++ event ∷ []) (turns_left c) (turns_left c + 3) live refl a.goes (omega arith)
        (searched setting fits s at r is acts exception rest c' onward.next memory store resumption
        resumes (subst HasRule (a.goes (exec program zero)) rule))))

    asked_takes_over : AskedTakesOver t fs program p s r is exception resumption asked rest c
        → HasRule (seen (exec program zero)) → Answers
    asked_takes_over a rule =
        let x = accepted t s at r r.frame a.address in
        shows x a.turns
        (inl (outcome_by t fs program p q (arrived t fs x) (arrived t fs x)
        (λ next. accept program asked exception next c') seen
        (c.events ++ event ∷ []) (turns_left c) (turns_left c + 3) live refl a.goes (omega arith)
        (taken_over setting fits s at r is acts exception rest c' onward.next memory store asked
        r.frame a.address a.frame_small a.address_small a.aimed
        (subst HasRule (a.goes (exec program zero)) rule))))

    is_continued : ContinuesException t fs program p s r is acts exception resumption asked rest c
        → Answers
    is_continued a =
        let x : Turn = Continues (restored s r) [] in
        let l = continues s r.saved is acts resumption c' a.on a.well_formed a.resumes memory store
        in
        shows x a.turns (inl (inl (record {
          state = restored s r;
          events = [];
          turns = ap (λ (es : List Event). Continues (restored s r) es) (continued_silently a);
          configuration = resumed resumption c';
          few = resumed_few resumption;
          acts = a.goes;
          shown = shown_same resumption;
          silent = continued_silently a;
          walk = λ v le. (let stack = a.on.is_there.stack in
              subst (WalkGives t (restored s r))
              (sym (ap (drop_below (rsp (context_of r.saved)))
              (none_started t fs v (restored s r) live.callers le)
              ∙ none_below (rsp (context_of r.saved)) live.callers
              (stack_rises t s.memory (context_of r.saved) is stack)))
              (on_stack t s.memory (context_of r.saved) 0 is stack));
          leads = λ known. l.1 known free;
        })))
      where
        continued_silently : ContinuesException t fs program p s r is acts exception resumption
            asked
            rest c → arrivals r.saved (distance t.base r.saved.rip) 1 fs ≡ []
        continued_silently a = (continues s r.saved is acts resumption c' a.on a.well_formed
            a.resumes
            memory store).0

        resumed_few : (k : Resumption) → turns_left (resumed k c') ≤ turns_left c + 3
        resumed_few AfterCall = omega (arith, length-append c.frame.temporaries (0 ∷ []))
        resumed_few SameOperation = omega arith

        shown_same : (k : Resumption) → (resumed k c').events ≡ (c.events ++ event ∷ []) ++ []
        shown_same AfterCall = sym (append-nil (c.events ++ event ∷ []))
        shown_same SameOperation = sym (append-nil (c.events ++ event ∷ []))

    -- the exception in its place shows its own event too
    raised_anew : IsRaisedAnew t program s r exception resumption asked rest c
        → HasRule (seen (exec program zero))
        → ShowsOrAsks setting (arrived t fs (filter_turn t s))
        (event ∷ raise_event noncontinuable ∷ []) seen c.events (turns_left c + 3)
        (register s.cpu Rsp) live
    raised_anew a rule =
        let e = raise_event noncontinuable in
        let c2 : Configuration = record {
          frame = c.frame;
          below = c.below;
          store = c.store;
          events = (c.events ++ event ∷ []) ++ e ∷ [];
        } in
        let g = answers_continue t fs program p s r is acts exception resumption asked rest c2
        (record {
          gives = answers.gives;
          well_formed = answers.well_formed;
          handlers = answers.handlers;
          on = answers.on;
        }) in
        let x = asks_on t s at (again r) in
        let y = arrived t fs x in
        record {
          further = y;
          turns = ap (arrived t fs) (a.turns ∙ ap (with_answer s) g.raises)
              ∙ arrived_with t fs event (with_event e x)
              ∙ ap (with_event event) (arrived_with t fs e x) ∙ with_two event e y;
          outcome = subst (λ (es : List Event). OutcomeOrAsks setting y seen es (turns_left c + 3)
              (register s.cpu Rsp) live) (append_assoc c.events (event ∷ []) (e ∷ []))
              (or_asks_by t fs program p q y
              (λ next. ask_from program next 0 noncontinuable resumption c2) seen
              ((c.events ++ event ∷ []) ++ e ∷ []) (turns_left c) (turns_left c + 3)
              (register s.cpu Rsp) live a.goes (omega arith)
              (ask.asked setting fits s at (again r) is acts noncontinuable 0 c2 g.asks_anew memory
              store (register s.cpu Rsp) (let z : at ≤ at = omega arith in z) listed resumption
              resumes (subst HasRule (a.goes (exec program zero)) rule)));
        }

    -- whatever it answers
    pub record AnswerShows : Type 0 where
      pub before : List Event
      pub shown : ShowsOrAsks setting (arrived t fs (filter_turn t s)) before seen c.events
          (turns_left c + 3) (register s.cpu Rsp) live

    pub filter_answered : HasRule (seen (exec program zero)) → AnswerShows
    filter_answered rule = elim (filter_returns t fs program p s r is acts exception resumption
        asked rest c answers) [
          | inl a ↦ record { before = event ∷ []; shown = asks_next a rule }
          | inr x ↦ elim x [
            | inl a ↦ record { before = event ∷ []; shown = asked_takes_over a rule }
            | inr y ↦ elim y [
              | inl a ↦ record { before = event ∷ []; shown = is_continued a }
              | inr a ↦ record {
                before = event ∷ raise_event noncontinuable ∷ [];
                shown = raised_anew a rule;
              }
            ]
          ]
        ]

  -- ---- a `__finally` block has ended

  pub finally_ended : (s : State) (r : DispatchRecord) (is : List StackItem)
      (acts : List Activation) (rest : List Region) (target : Target) (f : Frame)
      (below : List Item) (c : Configuration)
      → IsWellFormed (host_list p c.store) s → On t fs program p s.memory (context_of s.cpu)
      (Unwinding r ∷ is)
      (Unwinds rest target ∷ Waits f ∷ below) acts
      → IsMachineMemory setting s.memory c.store.memory
      → c.store.activations ≡ locals_of acts → c.below ≡ Unwinds rest target ∷ Waits f ∷ below
      → NoneLanded c.below
      → HasRule (end_finally program (exec program zero) c.below c.events c.store)
      → Shows setting (arrived t fs (finally_returned t s (register s.cpu Rsp)
      (fetched s.memory (register s.cpu Rsp)))) []
      (λ next. end_finally program next c.below c.events c.store) c.events (turns_left c)
      (live_from r.walk is)
  finally_ended s r is acts rest target f below c well_formed on memory store under unlanded rule =
      let at = register s.cpu Rsp in
      let w : Unwound = record {
        target = target;
        items = Waits f ∷ below;
        left = Some rest;
        acts = acts;
        source = c.store;
        shown = c.events;
      } in
      let u = finally_returns_unwind t fs program p s r is acts rest target (Waits f ∷ below)
      c.store c.events image.gives well_formed on in
      let x = arrived t fs (unwinds_on t s at r) in
      let y = arrived t fs (finally_returned t s at (fetched s.memory at)) in
      let turns : y ≡ x = ap (λ (o : Option DispatchRecord). arrived t fs
      (finally_returned t s at o)) on.is_there.stack.0.fetches
      ∙ ap (λ (b : Bool). arrived t fs (if_unwinding t s at r b)) on.is_there.stack.0.kind in
      let same_store : c.store ≡ store_of c.store acts = ap
      (λ (xs : List (List ℕ)). let z : Store =
      record c.store { activations = xs } in z) store in
      let same = λ (next : Next). ap (λ (items : List Item). end_finally program next items c.events
      c.store) under ∙ ap (λ (z : Store). unwind program next target (Waits f ∷ below) (Some rest)
      c.events z) same_store in
      let few : 3 * held_below (Waits f ∷ below)
      ≤ turns_left c = (let z = ap held_below under in omega arith) in
      let done = outcome_same t fs program p q x y
      (λ next. unwind program next w.target w.items w.left w.shown (store_of w.source w.acts))
      (λ next. end_finally program next c.below c.events c.store) c.events (turns_left c)
      (live_from r.walk is) turns same
      (unwound setting fits w (turns_left c) few (λ e. subst NoneLanded under unlanded) s at r is u
      memory (subst HasRule (same (exec program zero)) rule)) in
      record {
        further = y;
        turns = with_none y;
        outcome = subst (λ (es : List Event). Outcome setting y
            (λ next. end_finally program next c.below c.events c.store) es (turns_left c)
            (live_from r.walk is)) (sym (append-nil c.events)) done;
      }
