-- What is spelled (Intel manual, volume 2, chapter 2).
use Rattle.std.specs.Prelude.{◌≡◌, ℕ, ◌<◌, ◌≤◌, true, List, length}
use Rattle.std.specs.List.{AllByRecursion}
use Rattle.seh_num.specs.declared.size.TheConstants.{LONGEST_INSTRUCTION}
use Rattle.x64_instr.specs.declared.instruction.Instr.{Instr}
use Rattle.x64_instr.specs.Spelling.{IsEncoding}
use Rattle.x64_encode.specs.Chosen.{is_encodable}

-- the numbers are bytes
abbrev pub AreByteValues : List ℕ → Type 0
AreByteValues bytes = AllByRecursion (λ b. b < 256) bytes

-- each instruction that some bytes spell can be encoded
abbrev pub SpelledIsEncodable : Type 0
SpelledIsEncodable =
    (i : Instr) (bytes : List ℕ) → AreByteValues bytes → IsEncoding i bytes → is_encodable i ≡ true

abbrev pub SpelledIsShort : Type 0
SpelledIsShort =
    (i : Instr) (bytes : List ℕ) → AreByteValues bytes → IsEncoding i bytes
    → length bytes ≤ LONGEST_INSTRUCTION
