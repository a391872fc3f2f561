-- Routines without an entry by their bytes, from address 0 on.
use Rattle.std.specs.Prelude.{◌≡◌, ℕ, ◌-◌, Bool, true, nat_lt, List, [], ◌∷◌, length, slice_index}
use Rattle.flat_memory.specs.declared.protection.Rights.TheVariants.{Read}
use Rattle.flat_memory.specs.Memory.{Memory}
use Rattle.uncovered_code.specs.References.{Code, is_first, places}
use Rattle.uncovered_code.specs.Routines.{is_beginning, IsUncoveredRoutine, IsFrameless}

abbrev pub memory_of : List ℕ → Memory
memory_of bytes = record {
  protection = λ a. record { rights = Read; execute = nat_lt a (length bytes) };
  byte = λ a. slice_index bytes a;
}

-- a section of these bytes that no entry covers, with this entry point
abbrev pub section_of : List ℕ → ℕ → Code
section_of bytes entry_point = record {
  memory = memory_of bytes;
  entries = [];
  begin = 0;
  end = length bytes;
  entry_point = entry_point;
}

-- add eax,-72; ret; xor ebx,ebx; ret; nop; ret. From offset 2 on the same bytes are mov eax,imm32;
-- nop; ret
abbrev pub clears_rbx : Code
clears_rbx =
    section_of (0x83 ∷ 0xC0 ∷ 0xB8 ∷ 0xC3 ∷ 0x31 ∷ 0xDB ∷ 0xC3 ∷ 0x90 ∷ 0xC3 ∷ []) 4

-- the routine that begins at the entry point loses RBX, and isn't taken for a frameless one
abbrev pub LosesRbx : Type 0
LosesRbx =
    IsUncoveredRoutine clears_rbx 0 4 × IsFrameless clears_rbx 0 4
    × IsUncoveredRoutine clears_rbx 4 9
    × (IsFrameless clears_rbx 4 9 → ⊥) × (IsFrameless clears_rbx 2 9)

-- call 6; ret; lea rcx,[14]; ret; nop; ret: the entry point, a call's target, and an address taken
abbrev pub refers : Code
refers =
    section_of (0xE8 ∷ 0x01 ∷ 0x00 ∷ 0x00 ∷ 0x00 ∷ 0xC3
    ∷ 0x48 ∷ 0x8D ∷ 0x0D ∷ 0x01 ∷ 0x00 ∷ 0x00 ∷ 0x00 ∷ 0xC3 ∷ 0x90 ∷ 0xC3 ∷ []) 0

abbrev pub Refers : Type 0
Refers = places refers ≡ 0 ∷ 6 ∷ 14 ∷ []
