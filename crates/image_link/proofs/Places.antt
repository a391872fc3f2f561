-- The places of routines, one after another.
use Rattle.std.proofs.Common.{◌≡◌, ℕ, zero, suc, ◌+◌, ◌<◌, List, [], ◌∷◌, length, get_or, map, take, drop, drop-cons, length-drop, refl, sym, ap, ◌∙◌, arith}
use Rattle.image_link.specs.Words.{RoutineView, parts_at, place_at, places_from, parts_from, parts_of, routine_size, cold_size}

after : (i : ℕ) → suc i ≡ i + 1
after i = omega arith

pub places_next : (at cold : ℕ) (rs : List RoutineView) (i : ℕ) (d : RoutineView) → i < length rs
    → places_from at cold (drop i rs) ≡ place_at at cold (get_or rs i d)
    ∷ places_from (at + routine_size (get_or rs i d)) (cold + cold_size (get_or rs i d))
    (drop (i + 1) rs)
places_next at cold rs i d lt = ap (places_from at cold) (drop-cons rs i d lt)
    ∙ ap (λ (n : ℕ). place_at at cold (get_or rs i d)
    ∷ places_from (at + routine_size (get_or rs i d)) (cold + cold_size (get_or rs i d))
    (drop n rs)) (after i)

pub places_count : (at cold : ℕ) (rs : List RoutineView)
    → length (places_from at cold rs) ≡ length rs
places_count at cold [] = refl
places_count at cold (r ∷ rs) =
    let c = places_count (at + routine_size r) (cold + cold_size r) rs in omega arith

-- the cold parts of the first of them
pub parts_are : (n at cold : ℕ) (rs : List RoutineView)
    → map parts_of (take n (places_from at cold rs)) ≡ parts_from cold (take n rs)
parts_are zero at cold rs = refl
parts_are (suc n) at cold [] = refl
parts_are (suc n) at cold (r ∷ rs) =
    ap (λ ps. parts_at cold r ∷ ps) (parts_are n (at + routine_size r) (cold + cold_size r) rs)

-- ---- a list whose rest has a first element

pub is_there : {A : Type 0} (ps more : List A) (i : ℕ) (p : A) → drop i ps ≡ p ∷ more
    → i < length ps
is_there ps more i p e = let l = ap length e in omega (arith, length-drop i ps)

pub first_is : {A : Type 0} (ps more : List A) (i : ℕ) (p d : A) → drop i ps ≡ p ∷ more
    → get_or ps i d ≡ p
first_is ps more i p d e = ap (λ xs. get_or xs 0 d)
    (sym (drop-cons ps i d (is_there ps more i p e)) ∙ e)

pub rest_is : {A : Type 0} (ps more : List A) (i : ℕ) (p : A) → drop i ps ≡ p ∷ more
    → drop (i + 1) ps ≡ more
rest_is ps more i p e = ap (λ (n : ℕ). drop n ps) (sym (after i))
    ∙ ap (λ xs. drop 1 xs) (sym (drop-cons ps i p (is_there ps more i p e)) ∙ e)
