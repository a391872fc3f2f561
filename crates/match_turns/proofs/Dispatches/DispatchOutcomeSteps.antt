-- From a turn's outcome to a step that is matched.
use Rattle.std.proofs.Common.{◌≡◌, ℕ, ◌+◌, ◌≤◌, Bool, true, false, List, [], ◌∷◌, ◌++◌, length, refl, ap, ◌∙◌, arith, inl, inr, append_assoc}
use Rattle.std.specs.Prelude.{nat_lt}
use Rattle.std.proofs.lemmas.List.{append-nil}
use Rattle.match_turns.specs.Words.{Event, LiveCallers, State, Functions, Funclet, Turn, Continues, with_event, Ends, arrived, turn, Deep, Instruction, LinearProgram, Configuration, Seen, Finished, Next, pick, act, ImagePlan, KeepsShadow, IsLive, Comes, LeadsTo, IsMatched, Sites, turns_left, KnownNext, entry_turns, KeepsWith, with_events, EndsRun}
use Rattle.match_turns.specs.DispatchOutcome.{ContinuesAs}
use Rattle.seh_num.specs.declared.end.RunEnd.TheVariants as ends
use Rattle.match_turns.proofs.Lemmas.{comes_one, silently_before, silently_after, matched_as}
use Rattle.match_bodies.specs.Bodies.{RepresentsAt}
use Rattle.match_turns.specs.DispatchOutcome.{Represents, EntersFunclet, Outcome}

-- an event that is shown first
pub arrived_with : (t : Functions) (fs : List Funclet) (e : Event) (x : Turn)
    → arrived t fs (with_event e x) ≡ with_event e (arrived t fs x)
arrived_with t fs e (Continues s es) = refl
arrived_with t fs e (Ends es end) = refl

pub with_one : (e : Event) (x : Turn) → with_event e x ≡ with_events (e ∷ []) x
with_one e (Continues s es) = refl
with_one e (Ends es end) = refl

pub with_two : (e f : Event) (x : Turn) → with_event e (with_event f x) ≡ with_events (e ∷ f ∷ []) x
with_two e f (Continues s es) = refl
with_two e f (Ends es end) = refl

pub with_none : (x : Turn) → x ≡ with_events [] x
with_none (Continues s es) = refl
with_none (Ends es end) = refl

module _ (t : Functions) (fs : List Funclet) (program : LinearProgram) (p : ImagePlan) (q : Sites)
  where
    -- where a funclet's first instruction begins, the state represents the configuration
    pub represents_there : (s : State) (c : Configuration)
        → LeadsTo t fs entry_turns (RepresentsAt t fs program p q) s c
        → LeadsTo t fs entry_turns (Represents t fs program p q) s c
    represents_there s c l = record {
      turns = l.turns;
      few = l.few;
      state = l.state;
      comes = l.comes;
      is_there = inl l.is_there;
    }

    -- where an instruction is matched up to the beginning of the next one, it is matched
    pub matched_there : (most : ℕ) (s : State) (c : Configuration) (i : Instruction)
        → IsMatched t fs program most turns_left (RepresentsAt t fs program p q) s c i
        → IsMatched t fs program most turns_left (Represents t fs program p q) s c i
    matched_there most s c i m = matched_as t fs program turns_left most
        (RepresentsAt t fs program p q) (Represents t fs program p q) (λ u d there. inl there) s c i
        m

    -- an outcome by other names, with as many turns left or more
    pub outcome_by : (x y : Turn) (seen other : Next → Seen) (es : List Event) (left more : ℕ)
        (live : LiveCallers) → y ≡ x → ((next : Next) → other next ≡ seen next) → left ≤ more
        → Outcome t fs program p q x seen es left live
        → Outcome t fs program p q y other es more live
    outcome_by x y seen other es left more live e same le (inl g) = let few = g.few in
        inl (record {
          state = g.state;
          events = g.events;
          turns = e ∙ g.turns;
          configuration = g.configuration;
          few = omega arith;
          acts = λ next. same next ∙ g.acts next;
          shown = g.shown;
          silent = g.silent;
          walk = g.walk;
          leads = g.leads;
        })
    outcome_by x y seen other es left more live e same le (inr (inl g)) = inr (inl (record {
      state = g.state;
      event = g.event;
      turns = e ∙ g.turns;
      configuration = g.configuration;
      more = g.more;
      held = g.held;
      store = g.store;
      few = λ shallow. let few = g.few shallow in omega arith;
      acts = λ next. same next ∙ g.acts next;
      shown = g.shown;
      arrives = g.arrives;
      walk = g.walk;
      leads = g.leads;
    }))
    outcome_by x y seen other es left more live e same le (inr (inr g)) = inr
        (inr (record {
          code = g.code;
          turns = e ∙ g.turns;
          acts = λ next. same next ∙ g.acts next;
        }))

    pub outcome_same : (x y : Turn) (seen other : Next → Seen) (es : List Event) (left : ℕ)
        (live : LiveCallers) → y ≡ x → ((next : Next) → other next ≡ seen next)
        → Outcome t fs program p q x seen es left live
        → Outcome t fs program p q y other es left live
    outcome_same x y seen other es left live e same o = outcome_by x y seen other es left left
        live e same (omega arith) o

    -- silent turns, and one turn of the host, which shows some events before those of its outcome
    module _ (turns_per_step k left : ℕ) (s u : State) (c : Configuration) (i : Instruction)
        (before : List Event) (x : Turn)
        (silent : Comes t fs k s [] u) (going : IsLive u) (turns : turn t fs u ≡ with_events before
        x)
        (enough : k + 1 + entry_turns + left ≤ turns_per_step + turns_left c)
        (known : KnownNext program c i) (live : LiveCallers)
        (keeps : KeepsWith t fs program p q u live) where
      abbrev Matched : Type 0
      Matched = IsMatched t fs program turns_per_step turns_left (Represents t fs program p q) s c i

      abbrev step : Next → Seen
      step next = act program i next c

      reaches : (state : State) (events : List Event) → x ≡ Continues state events
          → KeepsShadow t fs u state → Comes t fs (k + 1) s (before ++ events) state
      reaches state events e kept = silently_before t fs k 1 s u state (before ++ events) silent
          (comes_one t fs u state (before ++ events) going (turns ∙ ap (with_events before) e) kept)

      matched_on : ContinuesAs t fs program p q x step (c.events ++ before) left live → Matched
      matched_on g =
          let few = g.few in
          let l = g.leads (known g.configuration g.acts) in
          let most = l.few in
          inl (record {
            turns = k + 1 + l.turns;
            some = omega arith;
            configuration = g.configuration;
            few = omega arith;
            state = l.state;
            events = before ++ g.events;
            comes = silently_after t fs (k + 1) l.turns s g.state l.state (before ++ g.events)
                (reaches g.state g.events g.turns (keeps g.state [] g.silent g.walk)) l.comes;
            acts = g.acts;
            shown = g.shown ∙ append_assoc c.events before g.events;
            is_there = l.is_there;
          })

      matched_in : EntersFunclet t fs program p q x step (c.events ++ before) left live → Matched
      unfolding pick
      matched_in g = by (nat_lt 1000 (length g.store.activations + g.held + g.more)) refl
        where
          by : (b : Bool) → nat_lt 1000 (length g.store.activations + g.held + g.more) ≡ b → Matched
          by true deep = inr (inr (inr (record {
            turns = k + 1;
            few = omega arith;
            state = g.state;
            made = before ++ g.event ∷ [];
            comes = reaches g.state (g.event ∷ []) g.turns
                (keeps g.state (g.event ∷ []) g.arrives g.walk);
            events = before;
            front = (g.event ∷ [], refl);
            end = Deep 1001;
            wild = refl;
            acts = λ next. g.acts next ∙ ap (λ (b : Bool). pick b
                (Finished (Deep 1001) (c.events ++ before)) (next g.configuration)) deep;
          })))
          by false shallow =
              let moves = λ (next : Next). g.acts next
              ∙ ap (λ (b : Bool). pick b (Finished (Deep 1001) (c.events ++ before))
              (next g.configuration)) shallow in
              let l = g.leads shallow (known g.configuration moves) in
              let few = g.few shallow in
              let most = l.few in
              inl (record {
                turns = k + 1 + l.turns;
                some = omega arith;
                configuration = g.configuration;
                few = omega arith;
                state = l.state;
                events = before ++ g.event ∷ [];
                comes = silently_after t fs (k + 1) l.turns s g.state l.state
                    (before ++ g.event ∷ [])
                    (reaches g.state (g.event ∷ []) g.turns
                    (keeps g.state (g.event ∷ []) g.arrives g.walk)) l.comes;
                acts = moves;
                shown = g.shown ∙ append_assoc c.events before (g.event ∷ []);
                is_there = l.is_there;
              })

      matched_out : EndsRun t fs program p q x step (c.events ++ before) → Matched
      matched_out g = inr (inr (inl (record {
        turns = k;
        few = omega arith;
        state = u;
        events = [];
        comes = silent;
        live = going;
        last = before;
        code = g.code;
        ends = turns ∙ ap (with_events before) g.turns
            ∙ ap (λ (es : List Event). Ends es (ends.Unhandled g.code)) (append-nil before);
        acts = g.acts;
      })))

      pub matched_by_turn : Outcome t fs program p q x step (c.events ++ before) left live →
          Matched
      matched_by_turn (inl g) = matched_on g
      matched_by_turn (inr (inl g)) = matched_in g
      matched_by_turn (inr (inr g)) = matched_out g
