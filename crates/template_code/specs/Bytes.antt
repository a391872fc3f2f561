-- The bytes of instructions, each in its chosen spelling, and how many they are.
--
-- The main definition: `thunk`.
use Rattle.std.specs.Prelude.{ℕ, ◌+◌, List, [], ◌∷◌, length, None}
use Rattle.std.specs.List.{flat_map}
use Rattle.x64_instr.specs.declared.operand.Base.TheVariants as bases
use Rattle.x64_instr.specs.declared.operand.RegisterOrMemory.TheVariants as places
use Rattle.x64_instr.specs.declared.instruction.Target.TheVariants.{Indirect}
use Rattle.x64_instr.specs.declared.instruction.Instr.{Instr}
use Rattle.x64_instr.specs.declared.instruction.Instr.TheVariants as instrs
use Rattle.x64_encode.specs.Chosen.{chosen}

abbrev pub spelled : List Instr → List ℕ
spelled instrs = flat_map chosen instrs

unfoldable pub size : Instr → ℕ
size i = length (chosen i)

abbrev pub sizes : List Instr → ℕ
sizes [] = 0
sizes (i ∷ is) = size i + sizes is

-- a jump through the slot of the import address table that lies so far after its end (PE format,
-- "Import Address Table")
abbrev pub thunk : ℕ → Instr
thunk away =
    instrs.Jump (Indirect (places.Memory (record {
      base = bases.Rip;
      index = None;
      displacement = away;
    })))
