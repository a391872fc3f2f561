-- Steps of linear code that are matched by turns of the machine.
--
-- The main definitions: `separators_at`, `turns_ahead`, `Moves`, `Exits`, `Dies`, `Fails`,
-- `Begins`, `IsTakenIf`, `StepsAreMatched`, `Simulates`.
use Rattle.std.specs.Prelude.{◌≡◌, ◌⊎◌, ℕ, zero, suc, ◌+◌, ◌-◌, ◌*◌, ◌<◌, ◌≤◌, Bool, true, false, if◌then◌else◌, List, [], ◌∷◌, ◌++◌, drop, ℤ, Option, Some, None}
use Rattle.seh_num.specs.declared.width.Width.TheVariants.{W32}
use Rattle.seh_num.specs.declared.event.Code.{Code}
use Rattle.seh_num.specs.declared.event.Event.{Event}
use Rattle.seh_num.specs.declared.end.RunEnd.TheVariants as ends
use Rattle.seh_num.specs.Widths.{signed}
use Rattle.x64_instr.specs.declared.register.Reg.TheVariants.{Rax}
use Rattle.x64_machine.specs.Effect.{State, register}
use Rattle.virtual_unwind.specs.CallerOf.{Functions}
use Rattle.host_model.specs.declared.funclet.Funclet.{Funclet}
use Rattle.host_model.specs.Turns.{Ends}
use Rattle.host_model.specs.HostStep.{turn}
use Rattle.source_meaning.specs.declared.ended.Ended.{Ended}
use Rattle.source_meaning.specs.declared.ended.Ended.TheVariants as source
use Rattle.source_meaning.specs.Laws.{IsPrefixOf}
use Rattle.source_meaning.specs.Meaning.{is_calm}
use Rattle.linear_code.specs.declared.instruction.Instruction.{Instruction}
use Rattle.linear_code.specs.declared.instruction.Instruction.TheVariants as instructions
use Rattle.linear_code.specs.Program.{LinearProgram, LinearBody}
use Rattle.linear_machine.specs.Frames.{body_of, Configuration, Finished, Next}
use Rattle.linear_machine.specs.Instructions.{act}
use Rattle.linear_machine.specs.Run.{instruction_at, exec}
use Rattle.match_runs.specs.Comes.{IsLive, Comes}
use Rattle.match_runs.specs.Ends.{HasRule}

abbrev pub is_separator : Instruction → Bool
is_separator instructions.Separator = true
is_separator i = false

-- so many separators follow one another in code
abbrev pub separators : List Instruction → ℕ
separators [] = 0
separators (i ∷ more) = if is_separator i then suc (separators more) else 0

abbrev pub separators_in : Option LinearBody → ℕ → ℕ
separators_in None label = 0
separators_in (Some b) label = separators (drop label b.code)

-- a body is at so many separators, one after another
abbrev pub separators_at : LinearProgram → Configuration → ℕ
separators_at program c = separators_in (body_of program c.frame.body) c.frame.next

-- a separator takes one turn: what is left of a step's turns, for each that a body is at, may have
-- been taken by what led to them
abbrev pub turns_ahead : LinearProgram → (turns_per_step : ℕ) → Configuration → ℕ
turns_ahead program turns_per_step c = (turns_per_step - 1) * separators_at program c

-- a step takes at most `turns_per_step` turns and those left by earlier steps: `credit` is how many
-- these are
module _ (t : Functions) (fs : List Funclet) (program : LinearProgram) (turns_per_step : ℕ)
    (credit : Configuration → ℕ) where
  -- linear code continues, and the machine comes to a state that represents its next configuration
  pub record Moves (Represents : State → Configuration → Type 0) (s : State) (c : Configuration)
      (i : Instruction) : Type 0 where
    pub turns : ℕ
    pub some : 1 ≤ turns
    pub configuration : Configuration
    pub few : turns + credit configuration ≤ turns_per_step + credit c
    pub state : State
    pub events : List Event
    pub comes : Comes t fs turns s events state
    pub acts : (next : Next) → act program i next c ≡ next configuration
    pub shown : configuration.events ≡ c.events ++ events
    pub is_there : Represents state configuration

  -- the program returns: RIP is 0, and EAX the result
  pub record Exits (s : State) (c : Configuration) (i : Instruction) : Type 0 where
    pub turns : ℕ
    pub few : turns ≤ turns_per_step + credit c
    pub state : State
    pub events : List Event
    pub comes : Comes t fs turns s events state
    pub over : state.cpu.rip ≡ 0
    pub value : ℤ
    pub answer : signed W32 (register state.cpu Rax) ≡ value
    pub acts : (next : Next) → act program i next c ≡ Finished (source.Exit value)
        (c.events ++ events)

  -- nobody handles an exception: a last turn ends the run
  pub record Dies (s : State) (c : Configuration) (i : Instruction) : Type 0 where
    pub turns : ℕ
    pub few : turns < turns_per_step + credit c
    pub state : State
    pub events : List Event
    pub comes : Comes t fs turns s events state
    pub live : IsLive state
    pub last : List Event
    pub code : Code
    pub ends : turn t fs state ≡ Ends last (ends.Unhandled code)
    pub acts : (next : Next) → act program i next c ≡ Finished (source.Unhandled code)
        (c.events ++ (events ++ last))

  -- linear code ends because a reserved byte is touched, or the depth would be too great: what it
  -- has shown, the machine shows too
  pub record Fails (s : State) (c : Configuration) (i : Instruction) : Type 0 where
    pub turns : ℕ
    pub few : turns ≤ turns_per_step + credit c
    pub state : State
    pub made : List Event
    pub comes : Comes t fs turns s made state
    pub events : List Event
    pub front : IsPrefixOf events made
    pub end : Ended
    pub wild : is_calm (Some end) ≡ false
    pub acts : (next : Next) → act program i next c ≡ Finished end (c.events ++ events)

  -- a function begins: this may take the turns of the separators that it begins with. What is
  -- shown, as where an exception is raised that it is asked about, is shown in the turns of the
  -- step itself, and those after them show nothing
  pub record Begins (Represents : State → Configuration → Type 0) (s : State) (c : Configuration)
      (i : Instruction) : Type 0 where
    pub first : ℕ
    pub soon : first ≤ turns_per_step + credit c
    pub middle : State
    pub events : List Event
    pub shows : Comes t fs first s events middle
    pub turns : ℕ
    pub some : 1 ≤ first + turns
    pub configuration : Configuration
    pub few : first + turns + credit configuration
        ≤ turns_per_step + credit c + turns_ahead program turns_per_step configuration
    pub state : State
    pub comes : Comes t fs turns middle [] state
    pub acts : (next : Next) → act program i next c ≡ next configuration
    pub shown : configuration.events ≡ c.events ++ events
    pub is_there : Represents state configuration

  -- turns of the machine match an instruction in one of four ways
  abbrev pub IsMatched : (State → Configuration → Type 0) → State → Configuration → Instruction
      → Type 0
  IsMatched Represents s c i = Moves Represents s c i ⊎ (Exits s c i ⊎ (Dies s c i ⊎ Fails s c i))

module _ (t : Functions) (fs : List Funclet) (program : LinearProgram) (turns_per_step : ℕ)
    (credit : Configuration → ℕ) where
  -- a separator takes one turn, and so gives back what was ahead of it; any other instruction is
  -- matched in one of those ways, or a function begins
  abbrev pub IsTakenIf : (separator : Bool) → (State → Configuration → Type 0) → State
      → Configuration → Instruction → Type 0
  IsTakenIf true Represents s c i =
      (1 ≤ turns_per_step) × Moves t fs program 1 credit Represents s c i
  IsTakenIf false Represents s c i =
      IsMatched t fs program turns_per_step credit Represents s c i
      ⊎ Begins t fs program turns_per_step credit Represents s c i

  abbrev pub IsTaken : (State → Configuration → Type 0) → State → Configuration → Instruction
      → Type 0
  IsTaken Represents s c i = IsTakenIf (is_separator i) Represents s c i

  -- an instruction that linear code is at, where a rule leads on, is matched
  abbrev pub StepIsMatched : (State → Configuration → Type 0) → State → Configuration → Type 0
  StepIsMatched Represents s c =
      (i : Instruction) → instruction_at program c ≡ Some i
      → HasRule (act program i (exec program zero) c) → IsTaken Represents s c i

  -- so many steps are matched, one after another
  abbrev pub StepsAreMatched : ℕ → State → Configuration → Type 0
  StepsAreMatched zero s c = IsLive s
  StepsAreMatched (suc n) s c = StepIsMatched (StepsAreMatched n) s c

  -- a relation that each step keeps; it may speak of the number of steps that are left
  pub record Simulates (R : ℕ → State → Configuration → Type 0) : Type 0 where
    pub live : (s : State) (c : Configuration) → R zero s c → IsLive s
    pub steps : (n : ℕ) (s : State) (c : Configuration) → R (suc n) s c → StepIsMatched (R n) s c
