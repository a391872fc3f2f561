-- Steps that are matched, from their parts.
use Rattle.std.proofs.Common.{◌≡◌, inl, inr, ℕ, ◌+◌, ◌≤◌, false, Some, List, [], ◌++◌, refl, sym, ap, subst, ◌∙◌, arith}
use Rattle.std.proofs.lemmas.List.{append-nil}
use Rattle.match_runs.specs.Words.{Event, State, Functions, Funclet, is_calm, LinearProgram, Instruction, Configuration, Finished, Seen, Next, act, Comes, Fails, IsMatched}
use Rattle.source_meaning.specs.declared.ended.Ended.{Ended}
use Rattle.source_meaning.specs.declared.ended.Ended.TheVariants as source
use Rattle.match_runs.proofs.Turns.{comes_nowhere, comes_then}

-- turns that show nothing, before and after others
module _ (t : Functions) (fs : List Funclet) where
  pub silently_before : (k n : ℕ) (s u w : State) (events : List Event) → Comes t fs k s [] u
      → Comes t fs n u events w → Comes t fs (k + n) s events w
  silently_before k n s u w events p q = comes_then t fs k n s u w [] events p q

  pub silently_after : (k n : ℕ) (s u w : State) (events : List Event) → Comes t fs k s events u
      → Comes t fs n u [] w → Comes t fs (k + n) s events w
  silently_after k n s u w events p q = subst (λ es. Comes t fs (k + n) s es w) (append-nil events)
      (comes_then t fs k n s u w events [] p q)

module _ (t : Functions) (fs : List Funclet) (program : LinearProgram) (credit : Configuration → ℕ)
  where
    -- a step that ends with no event of its own
    pub fails_at_once : (turns_per_step : ℕ) (s : State) (c : Configuration) (i : Instruction)
        (end : Ended)
        → is_calm (Some end) ≡ false → ((next : Next) → act program i next c ≡ Finished end
        c.events)
        → Fails t fs program turns_per_step credit s c i
    fails_at_once turns_per_step s c i end wild acts = record {
      turns = 0;
      few = omega arith;
      state = s;
      made = [];
      comes = comes_nowhere t fs s;
      events = [];
      front = ([], refl);
      end = end;
      wild = wild;
      acts = λ next. acts next ∙ ap (λ (es : List Event). Finished end es)
          (sym (append-nil c.events));
    }

    -- ---- a step that is matched at one configuration is matched at another

    -- a configuration that the step leads to, which shows as much as the other's
    pub record StepContinues (Represents : State → Configuration → Type 0) (u : State)
        (c e : Configuration) (i : Instruction) : Type 0 where
      pub configuration : Configuration
      pub acts : (next : Next) → act program i next c ≡ next configuration
      pub events : configuration.events ≡ e.events
      pub left : credit configuration ≤ credit e
      pub is_there : Represents u configuration

    -- the step at c does what the step at d does
    pub record StepCarries (Middle Represents : State → Configuration → Type 0)
        (c d : Configuration) (i : Instruction) : Type 0 where
      pub events : d.events ≡ c.events
      pub ends : (seen : Seen) → ((next : Next) → act program i next d ≡ seen) → (next : Next)
          → act program i next c ≡ seen
      pub continues : (u : State) (e : Configuration) → ((next : Next) → act program i next d
          ≡ next e) → Middle u e → StepContinues Represents u c e i

    module _ (k turns_per_step more : ℕ) (Middle Represents : State → Configuration → Type 0)
        (s u : State) (c d : Configuration) (i : Instruction) (before : Comes t fs k s [] u)
        (bound : k + turns_per_step + credit d ≤ more + credit c)
        (carries : StepCarries Middle Represents c d i) where
      ends_so : (end : Ended) (es : List Event) → ((next : Next)
          → act program i next d ≡ Finished end (d.events ++ es)) → (next : Next)
          → act program i next c ≡ Finished end (c.events ++ es)
      ends_so end es acts next = carries.ends (Finished end (d.events ++ es)) acts next
          ∙ ap (λ (xs : List Event). Finished end (xs ++ es)) carries.events

      -- with silent turns before it
      pub matched_by : IsMatched t fs program turns_per_step credit Middle u d i
          → IsMatched t fs program more credit Represents s c i
      matched_by (inl v) =
          let few = v.few in
          let some = v.some in
          let x = carries.continues v.state v.configuration v.acts v.is_there in
          let left = x.left in
          inl (record {
            turns = k + v.turns;
            some = omega arith;
            configuration = x.configuration;
            few = omega arith;
            state = v.state;
            events = v.events;
            comes = silently_before t fs k v.turns s u v.state v.events before v.comes;
            acts = x.acts;
            shown = x.events ∙ v.shown ∙ ap (λ (es : List Event). es ++ v.events) carries.events;
            is_there = x.is_there;
          })
      matched_by (inr (inl v)) =
          let few = v.few in
          inr (inl (record {
            turns = k + v.turns;
            few = omega arith;
            state = v.state;
            events = v.events;
            comes = silently_before t fs k v.turns s u v.state v.events before v.comes;
            over = v.over;
            value = v.value;
            answer = v.answer;
            acts = ends_so (source.Exit v.value) v.events v.acts;
          }))
      matched_by (inr (inr (inl v))) =
          let few = v.few in
          inr (inr (inl (record {
            turns = k + v.turns;
            few = omega arith;
            state = v.state;
            events = v.events;
            comes = silently_before t fs k v.turns s u v.state v.events before v.comes;
            live = v.live;
            last = v.last;
            code = v.code;
            ends = v.ends;
            acts = ends_so (source.Unhandled v.code) (v.events ++ v.last) v.acts;
          })))
      matched_by (inr (inr (inr v))) =
          let few = v.few in
          inr (inr (inr (record {
            turns = k + v.turns;
            few = omega arith;
            state = v.state;
            made = v.made;
            comes = silently_before t fs k v.turns s u v.state v.made before v.comes;
            events = v.events;
            front = v.front;
            end = v.end;
            wild = v.wild;
            acts = ends_so v.end v.events v.acts;
          })))

    -- ---- the same configuration

    stays : (Middle Represents : State → Configuration → Type 0) (c : Configuration)
        (i : Instruction) → ((u : State) (e : Configuration) → Middle u e → Represents u e)
        → StepCarries Middle Represents c c i
    stays Middle Represents c i then = record {
      events = refl;
      ends = λ seen acts. acts;
      continues = λ u e acts m. record {
        configuration = e;
        acts = acts;
        events = refl;
        left = omega arith;
        is_there = then u e m;
      };
    }

    -- turns that show nothing come before a step's
    pub matched_after : (k turns_per_step : ℕ) (Represents : State → Configuration → Type 0)
        (s u : State) (c : Configuration) (i : Instruction) → Comes t fs k s [] u
        → IsMatched t fs program turns_per_step credit Represents u c i
        → IsMatched t fs program (k + turns_per_step) credit Represents s c i
    matched_after k turns_per_step Represents s u c i p m =
        matched_by k turns_per_step (k + turns_per_step) Represents Represents s u c c i p
        (omega arith) (stays Represents Represents c i (λ u e there. there)) m

    -- with more turns allowed
    pub matched_slower : (turns_per_step more : ℕ) (Represents : State → Configuration → Type 0)
        (s : State) (c : Configuration) (i : Instruction) → turns_per_step ≤ more
        → IsMatched t fs program turns_per_step credit Represents s c i
        → IsMatched t fs program more credit Represents s c i
    matched_slower turns_per_step more Represents s c i le m =
        matched_by 0 turns_per_step more Represents Represents s s c c i (comes_nowhere t fs s)
        (omega arith) (stays Represents Represents c i (λ u e there. there)) m

    -- by what a relation implies
    pub matched_as : (turns_per_step : ℕ) (X Y : State → Configuration → Type 0)
        → ((u : State) (d : Configuration) → X u d → Y u d)
        → (s : State) (c : Configuration) (i : Instruction)
        → IsMatched t fs program turns_per_step credit X s c i
        → IsMatched t fs program turns_per_step credit Y s c i
    matched_as turns_per_step X Y then s c i m =
        matched_by 0 turns_per_step turns_per_step X Y s s c c i (comes_nowhere t fs s)
        (omega arith)
        (stays X Y c i then) m
