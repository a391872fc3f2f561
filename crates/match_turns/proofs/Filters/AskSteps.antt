-- From a turn that may ask a vectored handler to a step that is matched or asks one.
use Rattle.std.proofs.Common.{◌≡◌, ℕ, ◌+◌, ◌≤◌, Bool, true, false, List, [], ◌∷◌, ◌++◌, length, refl, sym, ap, subst, ◌∙◌, arith, inl, inr}
use Rattle.std.specs.Prelude.{nat_lt}
use Rattle.std.proofs.lemmas.List.{append-nil}
use Rattle.match_turns.specs.Words.{Event, LiveCallers, State, Functions, Funclet, Turn, Continues, turn, Deep, Instruction, LinearProgram, depth_weight, Configuration, Seen, Finished, Next, pick, act, ImagePlan, KeepsShadow, IsLive, Comes, Sites, turns_left, KnownNext, begin_function, entry_turns, with_events, Rsp, register, drop_below, caller_at, WalkGives}
use Rattle.match_turns.proofs.Lemmas.{comes_one, none_below, handler_started, silently_before, matched_after, matched_slower}
use Rattle.match_turns.proofs.Dispatches.DispatchOutcomeSteps.{matched_by_turn, outcome_by}
use Rattle.match_turns.specs.DispatchOutcome.{Represents}
use Rattle.match_turns.specs.AskOutcome.{EntersHandler, OutcomeOrAsks, ShowsOrAsks, IsTakenWithin, KeepsHere}

module _ (t : Functions) (fs : List Funclet) (program : LinearProgram) (p : ImagePlan) (q : Sites)
  where
    -- the same of another view of linear code
    pub or_asks_by : (x : Turn) (seen other : Next → Seen) (es : List Event) (left more here : ℕ)
        (live : LiveCallers) → ((next : Next) → other next ≡ seen next) → left ≤ more
        → OutcomeOrAsks t fs program p q x seen es left here live
        → OutcomeOrAsks t fs program p q x other es more here live
    or_asks_by x seen other es left more here live same le (inl o) =
        inl (outcome_by t fs program p q x x seen other es left more live refl same le o)
    or_asks_by x seen other es left more here live same le (inr g) =
        let few = g.few in
        inr (record {
          state = g.state;
          turns = g.turns;
          handler = g.handler;
          function = g.function;
          there = g.there;
          weighs = g.weighs;
          arguments = g.arguments;
          held = g.held;
          below = g.below;
          store = g.store;
          few = omega arith;
          acts = λ next. same next ∙ g.acts next;
          silent = g.silent;
          lower = g.lower;
          returns = g.returns;
          walk = g.walk;
          starts = g.starts;
        })

    -- with silent turns before it
    pub taken_after : (k most : ℕ) (s u : State) (c : Configuration) (i : Instruction)
        → Comes t fs k s [] u → IsTakenWithin t fs program p q most u c i
        → IsTakenWithin t fs program p q (k + most) s c i
    taken_after k most s u c i silent (inl m) =
        inl (matched_after t fs program turns_left k most (Represents t fs program p q) s u c i
        silent m)
    taken_after k most s u c i silent (inr v) =
        let soon = v.soon in
        let some = v.some in
        inr (record {
          handler = v.handler;
          function = v.function;
          there = v.there;
          weighs = v.weighs;
          arguments = v.arguments;
          given = v.given;
          others = v.others;
          as_many = v.as_many;
          small = v.small;
          held = v.held;
          below = v.below;
          store = v.store;
          first = k + v.first;
          some = omega arith;
          events = v.events;
          middle = v.middle;
          shows = silently_before t fs k v.first s u v.middle v.events silent v.shows;
          turns = v.turns;
          state = v.state;
          comes = v.comes;
          soon = omega arith;
          few = v.few;
          acts = v.acts;
          begins = v.begins;
        })

    -- within more turns
    pub taken_slower : (most more : ℕ) (s : State) (c : Configuration) (i : Instruction)
        → most ≤ more → IsTakenWithin t fs program p q most s c i
        → IsTakenWithin t fs program p q more s c i
    taken_slower most more s c i le (inl m) =
        inl (matched_slower t fs program turns_left most more (Represents t fs program p q) s c i
        le m)
    taken_slower most more s c i le (inr v) =
        let soon = v.soon in
        inr (record {
          handler = v.handler;
          function = v.function;
          there = v.there;
          weighs = v.weighs;
          arguments = v.arguments;
          given = v.given;
          others = v.others;
          as_many = v.as_many;
          small = v.small;
          held = v.held;
          below = v.below;
          store = v.store;
          first = v.first;
          some = v.some;
          events = v.events;
          middle = v.middle;
          shows = v.shows;
          turns = v.turns;
          state = v.state;
          comes = v.comes;
          soon = omega arith;
          few = v.few;
          acts = v.acts;
          begins = v.begins;
        })

    -- silent turns, and one turn of the host, which shows what the step shows
    module _ (most k left : ℕ) (s u : State) (c : Configuration) (i : Instruction)
        (before : List Event) (x : Turn)
        (silent : Comes t fs k s [] u) (going : IsLive u) (turns : turn t fs u ≡ with_events before
        x)
        (enough : k + 1 + entry_turns + left ≤ most + turns_left c)
        (known : KnownNext program c i) (live : LiveCallers)
        (below : register u.cpu Rsp ≤ live.low) (keeps : KeepsHere t fs program p q u live) where
      abbrev Taken : Type 0
      Taken = IsTakenWithin t fs program p q most s c i

      abbrev step : Next → Seen
      step next = act program i next c

      -- the handler's caller comes on top of the shadow
      keeps_asking : (g : EntersHandler t fs program p q x step (c.events ++ before) left
          (register u.cpu Rsp) live) → KeepsShadow t fs u g.state
      keeps_asking g =
          let lower = g.lower in
          keeps g.state [] g.silent
          (subst (WalkGives t g.state)
          (sym (ap (drop_below (register g.state.cpu Rsp))
          (handler_started t fs u g.state live.callers lower g.returns)
          ∙ none_below (register g.state.cpu Rsp) (caller_at g.state ∷ live.callers) (omega arith)))
          g.walk)

      abbrev depth : EntersHandler t fs program p q x step (c.events ++ before) left
          (register u.cpu Rsp) live → ℕ
      depth g = length g.store.activations + g.held + (2 + depth_weight g.function)

      asks : EntersHandler t fs program p q x step (c.events ++ before) left (register u.cpu Rsp)
          live → Taken
      unfolding pick
      asks g = by (nat_lt 1000 (depth g)) refl
        where
          shows : Comes t fs (k + 1) s before g.state
          shows = silently_before t fs k 1 s u g.state before silent
              (comes_one t fs u g.state before going
              (turns ∙ ap (with_events before) g.turns
              ∙ ap (λ (es : List Event). Continues g.state es) (append-nil before))
              (keeps_asking g))

          by : (b : Bool) → nat_lt 1000 (depth g) ≡ b → Taken
          by true deep = inl (inr (inr (inr (record {
            turns = k + 1;
            few = omega arith;
            state = g.state;
            made = before;
            comes = shows;
            events = before;
            front = ([], append-nil before);
            end = Deep 1001;
            wild = refl;
            acts = λ next. g.acts next ∙ ap (λ (b : Bool). pick b
                (Finished (Deep 1001) (c.events ++ before))
                (next (begin_function g.handler g.function g.arguments (g.held + 2) g.below g.store
                (c.events ++ before)))) deep;
          }))))
          by false shallow =
              let begin = begin_function g.handler g.function g.arguments (g.held + 2) g.below
              g.store (c.events ++ before) in
              let moves = λ (next : Next). g.acts next
              ∙ ap (λ (b : Bool). pick b (Finished (Deep 1001) (c.events ++ before)) (next begin))
              shallow in
              let l = g.starts shallow (known begin moves) in
              let few = g.few in
              inr (record {
                handler = g.handler;
                function = g.function;
                there = g.there;
                weighs = g.weighs;
                arguments = g.arguments;
                given = l.given;
                others = l.others;
                as_many = l.as_many;
                small = l.small;
                held = g.held + 2;
                below = g.below;
                store = g.store;
                first = k + 1;
                some = omega arith;
                events = before;
                middle = g.state;
                shows = shows;
                turns = l.turns;
                state = l.state;
                comes = l.comes;
                soon = omega arith;
                few = l.few;
                acts = moves;
                begins = l.begins;
              })

      pub taken_by_turn : OutcomeOrAsks t fs program p q x step (c.events ++ before) left
          (register u.cpu Rsp) live → Taken
      taken_by_turn (inl o) = inl (matched_by_turn t fs program p q most k left s u c i before x
          silent going turns enough known live
          (λ v es arrives after. keeps v es arrives (after u below)) o)
      taken_by_turn (inr g) = asks g

    -- the same of a turn that shows what the step shows
    pub taken_when_shown : (most k left : ℕ) (s u : State) (c : Configuration) (i : Instruction)
        (x : Turn) (before : List Event) (seen : Next → Seen) (live : LiveCallers)
        → Comes t fs k s [] u → IsLive u → turn t fs u ≡ x → register u.cpu Rsp ≤ live.low
        → KeepsHere t fs program p q u live
        → ShowsOrAsks t fs program p q x before seen c.events left (register u.cpu Rsp) live
        → ((next : Next) → act program i next c ≡ seen next)
        → k + 1 + entry_turns + left ≤ most + turns_left c
        → KnownNext program c i
        → IsTakenWithin t fs program p q most s c i
    taken_when_shown most k left s u c i x before seen live silent going e below keeps shows acts
        enough known =
        taken_by_turn most k left s u c i before shows.further silent going (e ∙ shows.turns) enough
        known live below keeps
        (or_asks_by shows.further seen (λ next. act program i next c) (c.events ++ before) left left
        (register u.cpu Rsp) live acts (omega arith) shows.outcome)
