-- What is kept of an instruction.
--
-- The main definition: `IsDecoded`.
use Rattle.std.specs.Prelude.{◌≡◌, ◌<◌, ◌^◌, List, Option, Some}
use Rattle.std.specs.Option.{ForSome}
use Rattle.std.specs.List.{All}
use Rattle.seh_num.specs.declared.size.TheConstants.{LONGEST_INSTRUCTION}
use Rattle.flat_memory.specs.Memory.{Memory, executable}
use Rattle.x64_instr.specs.Spelling.{leading}
use Rattle.x64_decoded.specs.declared.instruction.DecodedInstruction.{DecodedInstruction}
use Rattle.x64_decoded.specs.Fixed.{AreFixed}

-- the instruction is what is read at its address, where no run changes it
pub record IsDecoded (m : Memory) (e : DecodedInstruction) : Type 0 where
  pub address : e.at < 2 ^ 64
  pub fixed : AreFixed m LONGEST_INSTRUCTION e.at
  pub reading : leading (executable m LONGEST_INSTRUCTION e.at) ≡ Some (e.instr, e.len)

-- an empty entry says nothing
abbrev pub IsCoherentEntry : Memory → Option DecodedInstruction → Type 0
IsCoherentEntry m e = ForSome e (IsDecoded m)

abbrev pub AreCoherent : Memory → List (Option DecodedInstruction) → Type 0
AreCoherent m es = All (IsCoherentEntry m) es
