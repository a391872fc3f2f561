-- Locals and activations that are alike, when one is set, begins or is left.
use Rattle.std.proofs.Common.{◌≡◌, ◌≤◌, ℕ, zero, suc, List, [], ◌∷◌, ◌++◌, length, refl, sym, ap, subst, arith}
use Rattle.std.proofs.lemmas.List.{length-set}
use Rattle.std.specs.Prelude.{Bool, true, false, slice_get, slice_set, slice_index, take, replicate, Option, Some, None}
use Rattle.lowering_locals.proofs.Lemmas.{same_it}
use Rattle.lowering_locals.specs.Words.{Marks, marks_of, set_mark, IsSame, AreLocalsAlike, AreActivationsAlike}

-- ---- locals

pub locals_long : (ms : List Bool) (vs ws : List ℕ) → AreLocalsAlike ms vs ws
    → length ws ≡ length vs
locals_long [] [] [] h = refl
locals_long (m ∷ ms) (v ∷ vs) (w ∷ ws) h = ap suc (locals_long ms vs ws h.1)
locals_long ms vs ws h = absurd h

locals_set : (ms : List Bool) (vs ws : List ℕ) (x v : ℕ) → AreLocalsAlike ms vs ws
    → AreLocalsAlike (slice_set ms x true) (slice_set vs x v) (slice_set ws x v)
locals_set [] [] [] x v h = tt
locals_set (m ∷ ms) (a ∷ vs) (b ∷ ws) zero v h = (refl, h.1)
locals_set (m ∷ ms) (a ∷ vs) (b ∷ ws) (suc x) v h = (h.0, locals_set ms vs ws x v h.1)
locals_set ms vs ws x v h = absurd h

same_if : (m : Bool) (v w : ℕ) → m ≡ true → IsSame m v w → w ≡ v
same_if true v w e h = sym h
same_if false v w e h = absurd (cc)

same_local : (ms : List Bool) (vs ws : List ℕ) (x : ℕ) → AreLocalsAlike ms vs ws
    → slice_get ms x ≡ Some true → slice_index ws x ≡ slice_index vs x
same_local [] vs ws x h e = absurd (cc)
same_local (m ∷ ms) [] ws x h e = absurd h
same_local (m ∷ ms) (v ∷ vs) [] x h e = absurd h
same_local (m ∷ ms) (v ∷ vs) (w ∷ ws) zero h e = same_if m v w (same_it m true e) h.0
same_local (m ∷ ms) (v ∷ vs) (w ∷ ws) (suc x) h e = same_local ms vs ws x h.1 e

pub unset_alike : (n : ℕ) (vs ws : List ℕ) → length vs ≡ n → length ws ≡ n
    → AreLocalsAlike (replicate n false) vs ws
unset_alike zero [] [] e g = tt
unset_alike zero [] (w ∷ ws) e g = absurd (omega arith)
unset_alike zero (v ∷ vs) ws e g = absurd (omega arith)
unset_alike (suc n) [] ws e g = absurd (omega arith)
unset_alike (suc n) (v ∷ vs) [] e g = absurd (omega arith)
unset_alike (suc n) (v ∷ vs) (w ∷ ws) e g = (tt, unset_alike n vs ws (omega arith) (omega arith))

-- the arguments are the same, and so many other numbers follow
pub begun_alike : (arguments vs ws : List ℕ) (n : ℕ) → length vs ≡ n → length ws ≡ n
    → AreLocalsAlike (replicate (length arguments) true ++ replicate n false) (arguments ++ vs)
    (arguments ++ ws)
begun_alike [] vs ws n e g = unset_alike n vs ws e g
begun_alike (a ∷ arguments) vs ws n e g = (refl, begun_alike arguments vs ws n e g)

-- ---- activations

abbrev pub locals_in : Option (List ℕ) → List ℕ
locals_in o = elim o [ Some locals ↦ locals | None ↦ [] ]

abbrev pub set_in : List (List ℕ) → ℕ → ℕ → ℕ → List (List ℕ)
set_in xs k x v = slice_set xs k (slice_set (locals_in (slice_get xs k)) x v)

pub set_long : (xs : List (List ℕ)) (k x v : ℕ) → length (set_in xs k x v) ≡ length xs
set_long xs k x v = length-set xs k (slice_set (locals_in (slice_get xs k)) x v)

pub taken_fewer : (k : ℕ) (xs : List (List ℕ)) → length (take k xs) ≤ length xs
taken_fewer zero xs = omega arith
taken_fewer (suc k) [] = omega arith
taken_fewer (suc k) (x ∷ xs) = let r = taken_fewer k xs in omega arith

pub as_long : (marks : Marks) (xs ys : List (List ℕ)) → AreActivationsAlike marks xs ys
    → length ys ≡ length xs
as_long [] [] [] h = refl
as_long (m ∷ marks) (x ∷ xs) (y ∷ ys) h = ap suc (as_long marks xs ys h.1)
as_long marks xs ys h = absurd h

set_alike : (marks : Marks) (xs ys : List (List ℕ)) (k x v : ℕ) → AreActivationsAlike marks xs ys
    → AreActivationsAlike (set_mark marks k x) (set_in xs k x v) (set_in ys k x v)
set_alike [] [] [] k x v h = tt
set_alike (m ∷ marks) (a ∷ xs) (b ∷ ys) zero x v h = (locals_set m a b x v h.0, h.1)
set_alike (m ∷ marks) (a ∷ xs) (b ∷ ys) (suc k) x v h = (h.0, set_alike marks xs ys k x v h.1)
set_alike marks xs ys k x v h = absurd h

pub same_read : (marks : Marks) (xs ys : List (List ℕ)) (k x : ℕ) → AreActivationsAlike marks xs ys
    → slice_get (marks_of marks k) x ≡ Some true
    → slice_index (locals_in (slice_get ys k)) x ≡ slice_index (locals_in (slice_get xs k)) x
same_read [] xs ys k x h e = absurd (cc)
same_read (m ∷ marks) [] ys k x h e = absurd h
same_read (m ∷ marks) (a ∷ xs) [] k x h e = absurd h
same_read (m ∷ marks) (a ∷ xs) (b ∷ ys) zero x h e = same_local m a b x h.0 e
same_read (m ∷ marks) (a ∷ xs) (b ∷ ys) (suc k) x h e = same_read marks xs ys k x h.1 e

pub one_more : (marks : Marks) (xs ys : List (List ℕ)) (m : List Bool) (vs ws : List ℕ)
    → AreActivationsAlike marks xs ys → AreLocalsAlike m vs ws
    → AreActivationsAlike (marks ++ m ∷ []) (xs ++ vs ∷ []) (ys ++ ws ∷ [])
one_more [] [] [] m vs ws h l = (l, tt)
one_more (n ∷ marks) (a ∷ xs) (b ∷ ys) m vs ws h l = (h.0, one_more marks xs ys m vs ws h.1 l)
one_more marks xs ys m vs ws h l = absurd h

-- ---- with the marks of the activations that live, the first ones

abbrev pub Alive : Marks → List (List ℕ) → List (List ℕ) → Type 0
Alive marks xs ys = AreActivationsAlike (take (length xs) marks) xs ys

pub whole_alive : (marks : Marks) (xs ys : List (List ℕ)) → AreActivationsAlike marks xs ys
    → Alive marks xs ys
whole_alive [] [] [] h = tt
whole_alive (m ∷ marks) (x ∷ xs) (y ∷ ys) h = (h.0, whole_alive marks xs ys h.1)
whole_alive marks xs ys h = absurd h

pub taken_alive : (k : ℕ) (marks : Marks) (xs ys : List (List ℕ)) → Alive marks xs ys
    → Alive marks (take k xs) (take k ys)
taken_alive zero marks xs ys h = tt
taken_alive (suc k) marks [] [] h = tt
taken_alive (suc k) (m ∷ marks) (x ∷ xs) (y ∷ ys) h = (h.0, taken_alive k marks xs ys h.1)
taken_alive k marks xs ys h = absurd h

pub set_alive : (marks : Marks) (xs ys : List (List ℕ)) (k x v : ℕ) → Alive marks xs ys
    → AreActivationsAlike (set_mark (take (length (set_in xs k x v)) marks) k x) (set_in xs k x v)
    (set_in ys k x v)
set_alive marks xs ys k x v h =
    subst (λ n. AreActivationsAlike (set_mark (take n marks) k x) (set_in xs k x v)
    (set_in ys k x v)) (sym (set_long xs k x v))
    (set_alike (take (length xs) marks) xs ys k x v h)

pub alive_long : (marks : Marks) (xs ys : List (List ℕ)) → Alive marks xs ys → length ys ≡ length xs
alive_long marks xs ys h = as_long (take (length xs) marks) xs ys h
