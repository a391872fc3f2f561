-- Ranges of memory that a caller passes: their order, and the bytes that they hold.
--
-- The main definitions: `AreInOrder`, `held`.
use Rattle.std.specs.Prelude.{◌≡◌, ℕ, ◌+◌, ◌-◌, ◌^◌, Bool, true, false, ◌&&◌, nat_le, nat_lt, List, [], ◌∷◌, length, drop, Option, Some, None, Result, Ok}
use Rattle.seh_num.specs.Answers.{unless, ◌>>=◌}
use Rattle.seh_views.specs.declared.c_types.SehRange.{SehRange}
use Rattle.seh_views.specs.declared.refusal.Refusal.{Refusal}
use Rattle.seh_views.specs.declared.refusal.Refusal.TheVariants as refusals

-- a range begins at or above an end, and ends within the addresses
abbrev pub is_placed : ℕ → SehRange → Bool
is_placed end r = nat_le end r.at && nat_le (r.at + length r.bytes.now) (2 ^ 64)

-- each range at or above the end of the one before; refused by the index of the first that isn't
abbrev pub ranges_checked : ℕ → ℕ → List SehRange → Result Unit Refusal
ranges_checked index end [] = Ok tt
ranges_checked index end (r ∷ rs) = do
  _ ← unless (is_placed end r) (refusals.Range index)
  ranges_checked (index + 1) (r.at + length r.bytes.now) rs

abbrev pub in_order : ℕ → List SehRange → Bool
in_order end [] = true
in_order end (r ∷ rs) = is_placed end r && in_order (r.at + length r.bytes.now) rs

-- each range of memory begins at or above the end of the one before, and all end within the
-- addresses
abbrev pub AreInOrder : List SehRange → Type 0
AreInOrder rs = in_order 0 rs ≡ true

-- ---- the bytes of ranges

abbrev pub holds : ℕ → SehRange → Bool
holds a r = nat_le r.at a && nat_lt a (r.at + length r.bytes.now)

abbrev pub range_or : Option SehRange → SehRange → Bool → Option SehRange
range_or others r true = Some r
range_or others r false = others

-- the first range that holds an address
abbrev pub range_at : ℕ → List SehRange → Option SehRange
range_at a [] = None
range_at a (r ∷ rs) = range_or (range_at a rs) r (holds a r)

-- the bytes that it has from the address on
abbrev pub held_from : ℕ → Option SehRange → List ℕ
held_from a None = []
held_from a (Some r) = drop (a - r.at) r.bytes.now

-- the bytes that one of them has from an address on
abbrev pub held : ℕ → List SehRange → List ℕ
held a rs = held_from a (range_at a rs)
