-- Thunks: jumps through a slot that holds a service's address (PE format, "Import Address Table").
use Rattle.std.specs.Prelude.{◌≡◌, ℕ, ◌+◌, ◌^◌, ◌<◌, ◌≤◌, true, false, [], ◌∷◌}
use Rattle.flat_memory.specs.Memory.{Memory, may_read, may_write, number_at}
use Rattle.template_code.specs.Bytes.{thunk}
use Rattle.x64_templates.specs.Runs.{HasCode}

-- a jump through a slot that holds a service's address, and that may be read and not be written
pub record HasThunk (m : Memory) (at service : ℕ) : Type 0 where
  pub away : ℕ
  pub near : away < 2 ^ 31
  pub code : HasCode m at (thunk away ∷ [])
  pub readable : (a : ℕ) → at + 6 + away ≤ a → a < at + 6 + away + 8 → may_read m a ≡ true
  pub fixed : (a : ℕ) → at + 6 + away ≤ a → a < at + 6 + away + 8 → may_write m a ≡ false
  pub bound : number_at m.byte 8 (at + 6 + away) ≡ service
