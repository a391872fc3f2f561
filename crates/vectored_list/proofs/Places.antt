-- Where a handler is in a list.
use Rattle.std.proofs.Common.{◌≡◌, ◌≢◌, ℕ, zero, suc, ◌<◌, List, [], ◌∷◌, length, get_or, take, false, true, refl, arith}
use Rattle.std.specs.List.{remove}
use Rattle.vectored_list.specs.Lists.{is_listed, removed}

-- not before a place, nor there: so not before the next
pub not_listed_so_far : (h : ℕ) (xs : List ℕ) (p : ℕ) → p < length xs
    → is_listed h (take p xs) ≡ false → get_or xs p 0 ≢ h → is_listed h (take (suc p) xs) ≡ false
not_listed_so_far h [] p small before there = absurd (omega arith)
not_listed_so_far h (x ∷ xs) zero small before there = grind arith
not_listed_so_far h (x ∷ xs) (suc p) small before there = grind (arith, not_listed_so_far h xs p)

-- where it is at a place, it is in the list
pub listed_at : (h : ℕ) (xs : List ℕ) (p : ℕ) → p < length xs → get_or xs p 0 ≡ h
    → is_listed h xs ≡ true
listed_at h [] p small there = absurd (omega arith)
listed_at h (x ∷ xs) zero small there = grind arith
listed_at h (x ∷ xs) (suc p) small there = grind (arith, listed_at h xs p)

-- where it isn't before that place, that is the one which is taken out
pub removed_at : (h : ℕ) (xs : List ℕ) (p : ℕ) → p < length xs
    → is_listed h (take p xs) ≡ false → get_or xs p 0 ≡ h → removed h xs ≡ remove xs p
removed_at h [] p small before there = absurd (omega arith)
removed_at h (x ∷ xs) zero small before there = grind arith
removed_at h (x ∷ xs) (suc p) small before there = grind (arith, removed_at h xs p)

-- one that isn't in the list isn't taken out
pub removed_none : (h : ℕ) (xs : List ℕ) → is_listed h xs ≡ false → removed h xs ≡ xs
removed_none h [] none = refl
removed_none h (x ∷ xs) none = grind (arith, removed_none h xs)
