-- What a step takes of the turns that are ahead, and what it leaves of them.
use Rattle.std.proofs.Common.{◌≡◌, inl, inr, ℕ, zero, suc, ◌+◌, ◌-◌, ◌*◌, ◌≤◌, Bool, true, false, Option, Some, None, List, [], ◌∷◌, ◌++◌, refl, sym, ap, subst, ◌∙◌, arith}
use Rattle.std.proofs.Math.Nat.{mul-suc}
use Rattle.std.specs.Prelude.{◌⊎◌, if◌then◌else◌, drop, slice_get}
use Rattle.match_runs.specs.Words.{Event, State, Functions, Funclet, LinearProgram, LinearBody, Instruction, body_of, Configuration, Finished, Running, Next, act, instruction_in, instruction_at, Comes, is_separator, separators, separators_in, separators_at, turns_ahead, Moves, Begins, IsMatched, IsTakenIf, IsTaken}
use Rattle.source_meaning.specs.declared.ended.Ended.TheVariants as source
use Rattle.linear_code.specs.declared.instruction.Instruction.TheVariants as instructions
use Rattle.match_runs.proofs.Matches.{matched_as}

-- ---- separators

same_instruction : (i j : Instruction) → Some i ≡ Some j → i ≡ j
same_instruction i j e = cc

counted : (i : Instruction) (more : List Instruction) (b : Bool) → is_separator i ≡ b
    → separators (i ∷ more) ≡ (if b then suc (separators more) else 0)
counted i more b e = ap (λ x. if x then suc (separators more) else 0) e

-- code at another instruction is at no separator
none_in_code : (code : List Instruction) (label : ℕ) (i : Instruction)
    → slice_get code label ≡ Some i → is_separator i ≡ false → separators (drop label code) ≡ 0
none_in_code [] label i at plain = absurd cc
none_in_code (x ∷ code) zero i at plain =
    counted x code false (ap is_separator (same_instruction x i at) ∙ plain)
none_in_code (x ∷ code) (suc label) i at plain = none_in_code code label i at plain

-- past a separator there is one less
one_in_code : (code : List Instruction) (label : ℕ) (i : Instruction)
    → slice_get code label ≡ Some i → is_separator i ≡ true
    → separators (drop label code) ≡ suc (separators (drop (suc label) code))
one_in_code [] label i at e = absurd cc
one_in_code (x ∷ code) zero i at e =
    counted x code true (ap is_separator (same_instruction x i at) ∙ e)
one_in_code (x ∷ code) (suc label) i at e = one_in_code code label i at e

none_in : (o : Option LinearBody) (label : ℕ) (i : Instruction) → instruction_in o label ≡ Some i
    → is_separator i ≡ false → separators_in o label ≡ 0
none_in None label i at plain = absurd cc
none_in (Some b) label i at plain = none_in_code b.code label i at plain

one_in : (o : Option LinearBody) (label : ℕ) (i : Instruction) → instruction_in o label ≡ Some i
    → is_separator i ≡ true → separators_in o label ≡ suc (separators_in o (label + 1))
one_in None label i at e = absurd cc
one_in (Some b) label i at e =
    let next : suc label ≡ label + 1 = omega arith in
    one_in_code b.code label i at e ∙ ap (λ n. suc (separators (drop n b.code))) next

-- nothing is shown where the events are the same
nothing_more : (xs es : List Event) → xs ≡ xs ++ es → es ≡ []
nothing_more [] es e = sym e
nothing_more (x ∷ xs) es e = nothing_more xs es cc

same_number : (m n : ℕ) → Finished (source.Undefined m) [] ≡ Finished (source.Undefined n) []
    → m ≡ n
same_number m n e = cc

same_events : (xs ys : List Event) → Running xs ≡ Running ys → xs ≡ ys
same_events xs ys e = cc

module _ (t : Functions) (fs : List Funclet) (program : LinearProgram) (turns_per_step : ℕ)
    (credit : Configuration → ℕ) where
  -- ---- the steps that are matched

  -- a separator, which shows nothing, and takes what is ahead of where it leads
  pub record MovesSilently (Represents : State → Configuration → Type 0) (s : State)
      (c : Configuration) (i : Instruction) : Type 0 where
    pub turns : ℕ
    pub some : 1 ≤ turns
    pub configuration : Configuration
    pub few : turns + credit configuration + turns_ahead program turns_per_step c
        ≤ turns_per_step + credit c + turns_ahead program turns_per_step configuration
    pub state : State
    pub comes : Comes t fs turns s [] state
    pub acts : (next : Next) → act program i next c ≡ next configuration
    pub shown : configuration.events ≡ c.events
    pub is_there : Represents state configuration

  -- any other step has nothing ahead
  abbrev pub Takes : (State → Configuration → Type 0) → State → Configuration → Instruction → Type 0
  Takes Represents s c i =
      ((turns_ahead program turns_per_step c ≡ 0)
      × (IsMatched t fs program turns_per_step credit Represents s c i
      ⊎ Begins t fs program turns_per_step credit Represents s c i))
      ⊎ MovesSilently Represents s c i

  module _ (Represents : State → Configuration → Type 0) (s : State) (c : Configuration) where
    none_ahead : (i : Instruction) → instruction_at program c ≡ Some i → is_separator i ≡ false
        → turns_ahead program turns_per_step c ≡ 0
    none_ahead i at plain =
        ap (λ n. (turns_per_step - 1) * n)
        (none_in (body_of program c.frame.body) c.frame.next i at plain) ∙ omega arith

    separates : (i : Instruction) → is_separator i ≡ true → instruction_at program c ≡ Some i
        → 1 ≤ turns_per_step → Moves t fs program 1 credit Represents s c i
        → MovesSilently Represents s c i
    separates instructions.Separator e at enough v =
        let few = v.few in
        let shown = same_events c.events v.configuration.events
        (v.acts (λ x. Running x.events)) in
        let left : separators_at program c ≡ suc (separators_at program v.configuration)
        = one_in (body_of program c.frame.body) c.frame.next instructions.Separator at e
        ∙ ap suc (same_number _ (separators_at program v.configuration)
        (v.acts (λ x. Finished (source.Undefined (separators_at program x)) []))) in
        let one : turns_ahead program turns_per_step c
        ≡ turns_ahead program turns_per_step v.configuration + (turns_per_step - 1)
        = ap (λ n. (turns_per_step - 1) * n) left
        ∙ mul-suc (turns_per_step - 1) (separators_at program v.configuration) ∙ omega arith in
        record {
          turns = v.turns;
          some = v.some;
          configuration = v.configuration;
          few = omega arith;
          state = v.state;
          comes = subst (λ es. Comes t fs v.turns s es v.state)
              (nothing_more c.events v.events (shown ∙ v.shown)) v.comes;
          acts = v.acts;
          shown = sym shown;
          is_there = v.is_there;
        }
    separates i e at enough v = absurd cc

    pub taken : (i : Instruction) → instruction_at program c ≡ Some i
        → IsTaken t fs program turns_per_step credit Represents s c i → Takes Represents s c i
    taken i at m = by (is_separator i) refl m
      where
        by : (b : Bool) → is_separator i ≡ b
            → IsTakenIf t fs program turns_per_step credit b Represents s c i
            → Takes Represents s c i
        by true e m = inr (separates i e at m.0 m.1)
        by false e m = inl (none_ahead i at e, m)

  -- ---- by what a relation implies

  module _ (X Y : State → Configuration → Type 0)
      (implied : (u : State) (d : Configuration) → X u d → Y u d) (s : State) (c : Configuration)
      (i : Instruction) where
    moves_as : Moves t fs program 1 credit X s c i → Moves t fs program 1 credit Y s c i
    moves_as v = record {
      turns = v.turns;
      some = v.some;
      configuration = v.configuration;
      few = v.few;
      state = v.state;
      events = v.events;
      comes = v.comes;
      acts = v.acts;
      shown = v.shown;
      is_there = implied v.state v.configuration v.is_there;
    }

    begins_as : Begins t fs program turns_per_step credit X s c i
        → Begins t fs program turns_per_step credit Y s c i
    begins_as v = record {
      first = v.first;
      soon = v.soon;
      middle = v.middle;
      events = v.events;
      shows = v.shows;
      turns = v.turns;
      some = v.some;
      configuration = v.configuration;
      few = v.few;
      state = v.state;
      comes = v.comes;
      acts = v.acts;
      shown = v.shown;
      is_there = implied v.state v.configuration v.is_there;
    }

    pub taken_as : (b : Bool) → IsTakenIf t fs program turns_per_step credit b X s c i
        → IsTakenIf t fs program turns_per_step credit b Y s c i
    taken_as true m = (m.0, moves_as m.1)
    taken_as false (inl m) = inl (matched_as t fs program credit turns_per_step X Y implied s c i m)
    taken_as false (inr m) = inr (begins_as m)
