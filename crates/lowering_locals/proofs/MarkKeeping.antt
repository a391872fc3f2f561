-- What has been set stays so while its activation lives.
use Rattle.std.proofs.Common.{◌≡◌, ℕ, zero, suc, ◌<◌, List, [], ◌∷◌, ◌++◌, length, refl, sym, ap, subst, ◌∙◌, arith}
use Rattle.std.proofs.lemmas.List.{length-set}
use Rattle.std.specs.Prelude.{Bool, true, false, slice_get, slice_set, take, replicate, Option, Some, None}
use Rattle.lowering_locals.specs.Words.{Marks, marks_of, set_mark, with_mark, IsSame, AreLocalsAlike, AreActivationsAlike, Marked}
use Rattle.lowering_locals.proofs.Lemmas.{same_it}

-- ---- one activation

set_keeps : (ms : List Bool) (x y : ℕ) → slice_get ms x ≡ Some true
    → slice_get (slice_set ms y true) x ≡ Some true
set_keeps [] x y e = e
set_keeps (m ∷ ms) zero zero e = refl
set_keeps (m ∷ ms) zero (suc y) e = e
set_keeps (m ∷ ms) (suc x) zero e = e
set_keeps (m ∷ ms) (suc x) (suc y) e = set_keeps ms x y e

set_own : (ms : List Bool) (x : ℕ) → x < length ms → slice_get (slice_set ms x true) x ≡ Some true
set_own [] x lt = absurd (omega arith)
set_own (m ∷ ms) zero lt = refl
set_own (m ∷ ms) (suc x) lt = set_own ms x (omega arith)

-- ---- all of them

pub mark_keeps : (marks : Marks) (j y k x : ℕ) → Marked marks k x → Marked (set_mark marks j y) k x
mark_keeps [] j y k x e = e
mark_keeps (m ∷ marks) zero y zero x e = set_keeps m x y e
mark_keeps (m ∷ marks) zero y (suc k) x e = e
mark_keeps (m ∷ marks) (suc j) y zero x e = e
mark_keeps (m ∷ marks) (suc j) y (suc k) x e = mark_keeps marks j y k x e

mark_own : (marks : Marks) (k x : ℕ) → x < length (marks_of marks k)
    → Marked (set_mark marks k x) k x
mark_own [] k x lt = absurd (omega arith)
mark_own (m ∷ marks) zero x lt = set_own m x lt
mark_own (m ∷ marks) (suc k) x lt = mark_own marks k x lt

mark_long : (marks : Marks) (j y k : ℕ) → length (marks_of (set_mark marks j y) k)
    ≡ length (marks_of marks k)
mark_long [] j y k = refl
mark_long (m ∷ marks) zero y zero = length-set m y true
mark_long (m ∷ marks) zero y (suc k) = refl
mark_long (m ∷ marks) (suc j) y zero = refl
mark_long (m ∷ marks) (suc j) y (suc k) = mark_long marks j y k

pub with_keeps : (o : Option ℕ) (marks : Marks) (j k x : ℕ) → Marked marks k x
    → Marked (with_mark o j marks) k x
with_keeps None marks j k x e = e
with_keeps (Some y) marks j k x e = mark_keeps marks j y k x e

pub written_marked : (o : Option ℕ) (marks : Marks) (k x : ℕ) → o ≡ Some x
    → x < length (marks_of marks k) → Marked (with_mark o k marks) k x
written_marked o marks k x e lt = subst (λ p. Marked (with_mark p k marks) k x) (sym e)
    (mark_own marks k x lt)

pub with_long : (o : Option ℕ) (marks : Marks) (j k : ℕ)
    → length (marks_of (with_mark o j marks) k) ≡ length (marks_of marks k)
with_long None marks j k = refl
with_long (Some y) marks j k = mark_long marks j y k

-- the first ones
pub taken_marks : (n : ℕ) (marks : Marks) (k : ℕ) → k < n
    → marks_of (take n marks) k ≡ marks_of marks k
taken_marks zero marks k lt = absurd (omega arith)
taken_marks (suc n) [] k lt = refl
taken_marks (suc n) (m ∷ marks) zero lt = refl
taken_marks (suc n) (m ∷ marks) (suc k) lt = taken_marks n marks k (omega arith)

-- one more
pub more_keeps : (marks more : Marks) (k x : ℕ) → Marked marks k x → Marked (marks ++ more) k x
more_keeps [] more k x e = absurd (cc)
more_keeps (m ∷ marks) more zero x e = e
more_keeps (m ∷ marks) more (suc k) x e = more_keeps marks more k x e

pub last_marks : (marks : Marks) (m : List Bool) → marks_of (marks ++ m ∷ []) (length marks) ≡ m
last_marks [] m = refl
last_marks (n ∷ marks) m = last_marks marks m

pub first_set : (n : ℕ) (rest : List Bool) (x : ℕ) → x < n
    → slice_get (replicate n true ++ rest) x ≡ Some true
first_set zero rest x lt = absurd (omega arith)
first_set (suc n) rest zero lt = refl
first_set (suc n) rest (suc x) lt = first_set n rest x (omega arith)

-- ---- as many as there are locals

locals_marked : (ms : List Bool) (vs ws : List ℕ) → AreLocalsAlike ms vs ws → length ms ≡ length vs
locals_marked [] [] [] h = refl
locals_marked (m ∷ ms) (v ∷ vs) (w ∷ ws) h = ap suc (locals_marked ms vs ws h.1)
locals_marked ms vs ws h = absurd h

pub marks_long : (marks : Marks) (xs ys : List (List ℕ)) → AreActivationsAlike marks xs ys
    → length marks ≡ length xs
marks_long [] [] [] h = refl
marks_long (m ∷ marks) (x ∷ xs) (y ∷ ys) h = ap suc (marks_long marks xs ys h.1)
marks_long marks xs ys h = absurd h

pub own_long : (marks : Marks) (xs ys : List (List ℕ)) (k : ℕ) (vs : List ℕ)
    → AreActivationsAlike marks xs ys → slice_get xs k ≡ Some vs
    → length (marks_of marks k) ≡ length vs
own_long [] [] ys k vs h e = absurd (cc)
own_long (m ∷ marks) (x ∷ xs) (y ∷ ys) zero vs h e = locals_marked m x y h.0
    ∙ ap length (same_it x vs e)
own_long (m ∷ marks) (x ∷ xs) (y ∷ ys) (suc k) vs h e = own_long marks xs ys k vs h.1 e
own_long marks xs ys k vs h e = absurd h

-- the marks serve for the other's locals too
pub alike_itself : (marks : Marks) (xs ys : List (List ℕ)) → AreActivationsAlike marks xs ys
    → AreActivationsAlike marks xs xs
alike_itself [] [] ys h = tt
alike_itself (m ∷ marks) (x ∷ xs) (y ∷ ys) h = (of m x y h.0, alike_itself marks xs ys h.1)
  where
    one : (b : Bool) (v : ℕ) → IsSame b v v
    one true v = refl
    one false v = tt

    of : (ms : List Bool) (vs ws : List ℕ) → AreLocalsAlike ms vs ws → AreLocalsAlike ms vs vs
    of [] [] ws h = tt
    of (n ∷ ms) (v ∷ vs) (w ∷ ws) h = (one n v, of ms vs ws h.1)
    of ms vs ws h = absurd h
alike_itself marks xs ys h = absurd h
