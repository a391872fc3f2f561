-- Bytes of code at their place in memory.
use Rattle.std.specs.Prelude.{◌≡◌, ℕ, ◌+◌, ◌^◌, ◌<◌, ◌≤◌, true, false, List, [], ◌∷◌}
use Rattle.host_layout.specs.declared.limit.TheConstants.{LEAST_BASE}
use Rattle.flat_memory.specs.Memory.{Memory, may_write}

-- the byte at the address, which may be executed and not written
pub record IsCodeByte (m : Memory) (at b : ℕ) : Type 0 where
  pub byte : m.byte at ≡ b
  pub executes : (m.protection at).execute ≡ true
  pub fixed : may_write m at ≡ false

-- the bytes are placed at this address
abbrev pub IsCodeAt : Memory → ℕ → List ℕ → Type 0
IsCodeAt m at [] = Unit {0}
IsCodeAt m at (b ∷ bytes) = IsCodeByte m at b × IsCodeAt m (at + 1) bytes

-- from this address to that one lies above 4 GiB and below 2 to the 48, away from the stack and the
-- host's page
pub record IsPlaced (at to : ℕ) : Type 0 where
  pub low : LEAST_BASE ≤ at
  pub high : to < 2 ^ 48
