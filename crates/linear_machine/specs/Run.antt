-- Runs of linear code.
--
-- The main definition: `exec`.
use Rattle.std.specs.Prelude.{ℕ, zero, suc, List, [], ◌∷◌, nat_eq, if◌then◌else◌, slice_get, ℤ, Option, Some, None}
use Rattle.seh_num.specs.declared.width.Width.TheVariants.{W64}
use Rattle.seh_num.specs.Widths.{wrapped}
use Rattle.seh_num.specs.Shown.{Shown}
use Rattle.linear_code.specs.declared.instruction.Instruction.{Instruction}
use Rattle.linear_code.specs.Program.{LinearProgram, LinearBody, LinearFunction}
use Rattle.source_meaning.specs.Source.{first_memory}
use Rattle.source_meaning.specs.declared.ended.Ended.{Ended}
use Rattle.linear_machine.specs.Frames.{body_of, Configuration, Seen, Running, Finished, Stuck, Next, pick, with_some}
use Rattle.linear_machine.specs.Instructions.{begin_function, act}

-- an instruction of a body, by its number
abbrev pub instruction_in : Option LinearBody → ℕ → Option Instruction
instruction_in None label = None
instruction_in (Some b) label = slice_get b.code label

-- the instruction that a configuration is at
abbrev pub instruction_at : LinearProgram → Configuration → Option Instruction
instruction_at program c = instruction_in (body_of program c.frame.body) c.frame.next

-- what is seen from a configuration within n turns, an instruction each: the events so far, an end,
-- or a place from which no rule leads on
unfoldable pub exec : LinearProgram → ℕ → Next
exec program zero c = Running c.events
exec program (suc n) c =
    with_some c.events (instruction_at program c) (λ i. act program i (exec program n) c)

-- ---- whole programs

-- the argument of the run goes to a `main` that has a parameter
abbrev pub main_arguments : ℕ → ℤ → List ℕ
main_arguments parameters arg = if nat_eq parameters 0 then [] else wrapped W64 arg ∷ []

-- the configuration that a program starts from: `main` begins
abbrev pub start : LinearProgram → ℤ → LinearFunction → Configuration
start program arg main =
    begin_function program.main main (main_arguments main.parameters arg) 0 []
    (record { memory = first_memory program.globals; activations = []; vectored = [] }) []

-- what is seen of a program within n turns
abbrev pub seen : LinearProgram → ℤ → ℕ → Seen
seen program arg n =
    with_some [] (slice_get program.functions program.main)
    (λ main. exec program n (start program arg main))

-- the events and the end; a run that is stuck has none
abbrev pub shown : Seen → Shown Ended
shown (Running es) = record { events = es; end = None }
shown (Finished e es) = record { events = es; end = Some e }
shown (Stuck es) = record { events = es; end = None }

-- what a linear program shows within n turns
abbrev pub linear_meaning : LinearProgram → ℤ → ℕ → Shown Ended
linear_meaning program arg n = shown (seen program arg n)

-- what a proof opens, by `unfolding computed_linear`, to compute a run
unfoldable pub computed_linear : ℕ
unfolding pick with_some exec
computed_linear = 0
