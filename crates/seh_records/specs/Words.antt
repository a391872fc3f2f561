-- Lists of words in memory.
use Rattle.std.specs.Prelude.{ℕ, zero, suc, ◌+◌, ◌-◌, ◌*◌, ◌/◌, ◌%◌, ◌^◌, Bool, true, false, nat_lt, nat_le, ◌&&◌, List, [], ◌∷◌, slice_index}
use Rattle.flat_memory.specs.declared.access.RefusedAccess.{RefusedAccess}
use Rattle.flat_memory.specs.declared.access.RefusedAccess.TheVariants.{Fault, Guard}
use Rattle.flat_memory.specs.Memory.{number_at, with_number}

-- words written one after another from an address on
unfoldable pub with_words : (ℕ → ℕ) → ℕ → List ℕ → ℕ → ℕ
with_words byte at [] = byte
with_words byte at (w ∷ ws) = with_words (with_number byte 8 at w) ((at + 8) % 2 ^ 64) ws

-- a byte of a list of words
abbrev pub byte_of : List ℕ → ℕ → ℕ
byte_of words o = slice_index words (o / 8) / 256 ^ (o % 8) % 256

-- the same as one block of n words, which doesn't wrap: a byte of it is found in one step
abbrev pub block_byte : (ℕ → ℕ) → ℕ → List ℕ → ℕ → Bool → ℕ
block_byte byte at words a true = byte_of words (a - at)
block_byte byte at words a false = byte a

unfoldable pub with_block : (ℕ → ℕ) → ℕ → ℕ → List ℕ → ℕ → ℕ
with_block byte at n words a = block_byte byte at words a (nat_le at a && nat_lt a (at + 8 * n))

-- the n words from an address on
unfoldable pub words_at : (ℕ → ℕ) → ℕ → ℕ → List ℕ
words_at byte zero at = []
words_at byte (suc n) at = number_at byte 8 at ∷ words_at byte n ((at + 8) % 2 ^ 64)

-- the address that a refusal names
abbrev pub address : RefusedAccess → ℕ
address (Fault a w) = a
address (Guard a) = a
