-- What a printed walk writes: the names of the live activations.
use Rattle.std.specs.Prelude.{◌≡◌, ℕ, ◌+◌, ◌^◌, ◌<◌, Bool, List, [], ◌∷◌, ◌++◌, reverse, ℤ, pos}
use Rattle.c_operations.specs.declared.built_in.BuiltIn.TheVariants.{Walk}
use Rattle.c_checked.specs.Program.{Program}
use Rattle.c_resolved.specs.Program.{resolve}
use Rattle.source_meaning.specs.State.{State}
use Rattle.source_machine.specs.Frames.{Place, BuiltInOf, Call}
use Rattle.source_machine.specs.Machine.{Machine}
use Rattle.source_machine.specs.Runs.{first, after}
use Rattle.c_meaning.specs.FunctionNames.{names_of}
use Rattle.seh_io.specs.Text.{at_line, lines}
use Rattle.command_line.specs.declared.command.RunOptions.{RunOptions}
use Rattle.seh.specs.Answers.{text_by}
use Rattle.seh.specs.Headline.{AreEnough}
use Rattle.seh.specs.Images.{IsCompiled}

-- within n steps the run of which the meaning speaks comes to a call of `walk`, in this state
pub record ComesToWalk (program : Program) (arg : ℤ) (n : ℕ) (st : State) : Type 0 where
  pub steps : ℕ
  pub machine : Machine
  pub comes : after program steps (first program arg n) ≡ machine
  pub state : machine.state ≡ st
  pub arguments : List ℕ
  pub place : Place
  pub calls : machine.next ≡ Call (BuiltInOf Walk) arguments place

-- a line for each of these functions, with its name in the text
abbrev pub walk_lines : Program → List ℕ → List ℕ
walk_lines program [] = []
walk_lines program (f ∷ functions) =
    at_line (names_of program (f + 1)) ++ walk_lines program functions

-- the lines of what was shown until then, and then the walk's: the live activations, innermost
-- first
abbrev pub walked_text : Program → State → Bool → List ℕ
walked_text program st trace =
    lines trace st.events (names_of program) ++ walk_lines program (reverse st.functions)

-- so begins the text of a run of the image
abbrev pub PrintedWalk : Type 0
PrintedWalk =
    (source image : List ℕ) (compiled : IsCompiled source image)
    → let program = (resolve source compiled.whole).program in
    (options : RunOptions) (arg n : ℕ) (st : State)
    → arg < 2 ^ 63 → AreEnough options arg n → ComesToWalk program (pos arg) n st
    → (rest : List ℕ) × (text_by options image ≡ walked_text program st options.trace ++ rest)
