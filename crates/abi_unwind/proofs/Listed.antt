-- An epilogue of a list, by its first and the others.
use Rattle.std.proofs.Common.{◌≡◌, ℕ, Bool, true, false, ◌||◌, List, [], ◌∷◌, eqb, refl}
use Rattle.std.specs.Prelude.{if◌then◌else◌}
use Rattle.abi_unwind.specs.Version2.{unless_zero, is_in_one, is_inside}

pub one_or_later : (end size rva n : ℕ) (later : List ℕ)
    → is_inside end size rva (unless_zero n later)
    ≡ (is_inside end size rva (unless_zero n []) || is_inside end size rva later)
one_or_later end size rva n later = go (eqb n 0)
  where
    alone : (a b : Bool) → (a || b) ≡ ((a || false) || b)
    alone true b = refl
    alone false b = refl

    go : (zero : Bool) → is_inside end size rva (if zero then later else n ∷ later)
        ≡ (is_inside end size rva (if zero then [] else n ∷ []) || is_inside end size rva later)
    go true = refl
    go false = alone (is_in_one end size rva n) (is_inside end size rva later)
