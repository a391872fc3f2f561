-- What holds of every memory.
use Rattle.std.specs.Prelude.{◌≡◌, ◌≢◌, ℕ, ◌+◌, ◌%◌, ◌^◌, ◌<◌, Ok, Err}
use Rattle.seh_num.specs.declared.width.Width.{Width}
use Rattle.seh_num.specs.Widths.{low}
use Rattle.flat_memory.specs.declared.access.RefusedAccess.{RefusedAccess}
use Rattle.flat_memory.specs.Memory.{Memory, loaded, stored, after_store, number_at, with_number}

-- a byte is none of the n from at on
abbrev pub IsApart : ℕ → ℕ → ℕ → Type 0
IsApart a at n = (i : ℕ) → i < n → a ≢ (at + i) % 2 ^ 64

-- a load after a store, at its place and width, gives the value's low bits of that width
abbrev pub LoadsWhatWasStored : Type 0
LoadsWhatWasStored =
    (m : Memory) (at v : ℕ) (w : Width) → at < 2 ^ 64
    → stored m at w ≡ Ok tt → loaded (after_store m at w v) at w ≡ Ok (low w v)

-- a store leaves each number that it doesn't overlap
abbrev pub LeavesOthers : Type 0
LeavesOthers =
    (byte : ℕ → ℕ) (n at v m to : ℕ) → at < 2 ^ 64 → to < 2 ^ 64
    → ((i : ℕ) → i < m → IsApart ((to + i) % 2 ^ 64) at n)
    → number_at (with_number byte n at v) m to ≡ number_at byte m to

-- what may be done where stays as it was
abbrev pub KeepsModes : Type 0
KeepsModes = (m : Memory) (at v : ℕ) (w : Width) → (after_store m at w v).protection ≡ m.protection

abbrev pub RefusalsChangeNothing : Type 0
RefusalsChangeNothing =
    (m : Memory) (at v : ℕ) (w : Width) (a : RefusedAccess) → stored m at w ≡ Err a
    → after_store m at w v ≡ m
