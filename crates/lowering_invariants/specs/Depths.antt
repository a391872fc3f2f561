-- How many temporaries a body holds at each of its instructions.
--
-- The main definition: `HasDepths`.
use Rattle.std.specs.Prelude.{◌≡◌, ℕ, ◌+◌, ◌-◌, List, [], ◌∷◌, length, get_or, Option, Some, None}
use Rattle.linear_code.specs.declared.slot.Slot.{Slot}
use Rattle.linear_code.specs.declared.slot.Slot.TheVariants.{Local, Temporary}
use Rattle.linear_code.specs.declared.instruction.Instruction.{Instruction}
use Rattle.linear_code.specs.declared.instruction.Instruction.TheVariants as instructions
use Rattle.linear_code.specs.Program.{LinearProgram, LinearBody}
use Rattle.linear_machine.specs.Frames.{BodyName, body_of, Frame, Item, Waits, Searches, Unwinds, Configuration}
use Rattle.linear_machine.specs.Instructions.{count_of}
use Rattle.linear_machine.specs.Run.{instruction_in}

-- a temporary that is written is the last one; one that is tested is held no more
abbrev pub with_written : Slot → ℕ → ℕ
with_written (Local x) d = d
with_written (Temporary i) d = i + 1

abbrev pub with_tested : Slot → ℕ → ℕ
with_tested (Local x) d = d
with_tested (Temporary i) d = i

-- how many are held at the instruction after this one in the text; after a jump that is the other
-- part of a choice, which has the temporary yet to write
abbrev pub after : Instruction → ℕ → ℕ
after (instructions.Compute to o first second) d = with_written to d
after (instructions.Information to field) d = with_written to d
after (instructions.Jump label) d = d - 1
after (instructions.JumpIfZero slot label) d = with_tested slot d
after (instructions.Call f first count) d = first + 1
after (instructions.CallBuiltIn f first) d = first + 1
after (instructions.CallFinally k) d = d
after (instructions.LocalUnwind label) d = d
after (instructions.Landing to) d = with_written to d
after instructions.Separator d = 0
after (instructions.Return from) d = 0

-- at each instruction, and at the end
abbrev pub depths : List Instruction → ℕ → List ℕ
depths [] d = d ∷ []
depths (i ∷ is) d = d ∷ depths is (after i d)

abbrev pub depth_at : List Instruction → ℕ → ℕ
depth_at code label = get_or (depths code 0) label 0

abbrev pub depth_in : Option LinearBody → ℕ → ℕ
depth_in None label = 0
depth_in (Some b) label = depth_at b.code label

-- a call has taken its arguments
abbrev pub taken : Option Instruction → ℕ
taken (Some (instructions.Call f first count)) = count
taken (Some (instructions.CallBuiltIn f first)) = count_of f
taken i = 0

module _ (program : LinearProgram) where
  abbrev pub depth : BodyName → ℕ → ℕ
  depth name label = depth_in (body_of program name) label

  -- a body that waits
  abbrev pub WaitsDeep : Frame → Type 0
  WaitsDeep f =
      length f.temporaries + taken (instruction_in (body_of program f.body) f.next)
      ≡ depth f.body f.next

  abbrev pub AreDeep : List Item → Type 0
  AreDeep [] = Unit {0}
  AreDeep (Waits f ∷ below) = WaitsDeep f × AreDeep below
  AreDeep (Searches exception resumption asked ∷ below) = AreDeep below
  AreDeep (Unwinds rest target ∷ below) = AreDeep below

  -- each body holds as many temporaries as its place says
  pub record HasDepths (c : Configuration) : Type 0 where
    pub held : length c.frame.temporaries ≡ depth c.frame.body c.frame.next
    pub below : AreDeep c.below
