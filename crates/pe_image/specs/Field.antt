-- Fields by their places.
use Rattle.std.specs.Prelude.{ℕ, ◌+◌, Bool, nat_le, List, length, drop}
use Rattle.byteorder.specs.Endian.{little_number}

-- the little-endian number of n bytes at a place
abbrev pub field : ℕ → List ℕ → ℕ → ℕ
field n bytes at = little_number n (drop at bytes)

-- whether there are n bytes at a place
abbrev pub is_there : List ℕ → ℕ → ℕ → Bool
is_there bytes at n = nat_le (at + n) (length bytes)
