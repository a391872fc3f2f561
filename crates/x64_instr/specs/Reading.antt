-- Reading from the front of a list of bytes.
use Rattle.std.specs.Prelude.{ℕ, zero, suc, ◌+◌, ◌-◌, ◌*◌, ◌/◌, ◌%◌, ◌^◌, nat_lt, if◌then◌else◌, List, [], ◌∷◌, Option, Some, None}
use Rattle.seh_num.specs.declared.width.Width.{Width}
use Rattle.seh_num.specs.Widths.{bytes_of, limit, half}

-- what reading gives: a value and the bytes after it, or nothing
abbrev pub Read : Type 0 → Type 0
Read A = Option (A × List ℕ)

infixl 10 ◌>>=◌
abbrev pub ◌>>=◌ : {A B : Type 0} → Read A → (A × List ℕ → Read B) → Read B
None >>= f = None
(Some x) >>= f = f x

abbrev pub byte : List ℕ → Read ℕ
byte [] = None
byte (b ∷ bytes) = Some (b, bytes)

-- n bytes, little-endian
abbrev pub number : ℕ → List ℕ → Read ℕ
number zero bytes = Some (0, bytes)
number (suc n) bytes = byte bytes >>= λ b. number n b.1 >>= λ v. Some (b.0 + 256 * v.0, v.1)

-- a number of one width, sign-extended to another
abbrev pub extended : Width → Width → ℕ → ℕ
extended from to v = if nat_lt v (half from) then v else v + (limit to - limit from)

abbrev pub signed : Width → Width → List ℕ → Read ℕ
signed from to bytes = number (bytes_of from) bytes >>= λ v. Some (extended from to v.0, v.1)

abbrev pub bit : ℕ → ℕ → ℕ
bit k v = v / 2 ^ k % 2
