-- Locals in registers are the first seven that aren't shared.
use Rattle.std.proofs.Common.{◌≡◌, ◌⊎◌, inl, inr, ℕ, zero, suc, ◌+◌, ◌<◌, ◌≤◌, Bool, true, false, List, [], ◌∷◌, length, replicate, refl, sym, ap, subst, ◌∙◌, arith}
use Rattle.std.specs.Prelude.{◌||◌, Option, take, nat_eq, slice_index, slice_index_or}
use Rattle.std.specs.List.{AllByRecursion, Contains}
use Rattle.std.specs.List.Sorted.{IsStrictlyIncreasing}
use Rattle.std.proofs.lemmas.Bool.{eqb-true, eqb-false}
use Rattle.c_checked.specs.Statement.{Statements}
use Rattle.c_checked.specs.Program.{DataFrame, Function}
use Rattle.lowering_registers.specs.Shared.{is_kept, statements_share, unshared, unshared_if, own_locals, register_locals}
use Rattle.lowering_registers.specs.Marks.{with_all_shared, with_kept, unmarked}
use Rattle.lowering_registers.specs.RegisterLaws.{AreFew, IsUnshared, AreUnshared, AreInOrder, AreFirst, AreAll}
use Rattle.lowering_registers.proofs.Marked.{marked, function_set}

-- a local that can't stand in a register
abbrev is_outside : Option DataFrame → Statements → ℕ → Bool
is_outside frame body x = is_kept x frame || statements_share x body

-- ---- the code's are these

unmarked_are : (frame : Option DataFrame) (body : Statements) (n x : ℕ)
    → unmarked (marked (is_outside frame body) x (replicate n false)) x ≡ unshared frame body x n
unmarked_are frame body zero x = refl
unmarked_are frame body (suc n) x = ap (unshared_if (is_outside frame body x) x)
    (unmarked_are frame body n (x + 1))

pub registers_are : (f : Function) (count : ℕ) (marks new : List Bool) (chosen : List ℕ)
    → count ≡ own_locals f → marks ≡ replicate count false
    → new ≡ with_all_shared f.body (with_kept f.data_frame marks)
    → chosen ≡ take 7 (unmarked new 0) → chosen ≡ register_locals f
registers_are f count marks new chosen own m n c =
    c ∙ ap (λ bs. take 7 (unmarked bs 0))
    (n ∙ ap (λ bs. with_all_shared f.body (with_kept f.data_frame bs))
    (m ∙ ap (λ k. replicate k false) own)
    ∙ function_set f.data_frame f.body (replicate (own_locals f) false))
    ∙ ap (take 7) (unmarked_are f.data_frame f.body (own_locals f) 0)

-- ---- few

take_few : (n : ℕ) (xs : List ℕ) → length (take n xs) ≤ n
take_few zero xs = omega arith
take_few (suc n) [] = omega arith
take_few (suc n) (x ∷ xs) = let e = take_few n xs in omega arith

pub are_few : AreFew
are_few f = take_few 7 (unshared f.data_frame f.body 0 (own_locals f))

-- ---- unshared

all_taken : (f : Function) (n : ℕ) (xs : List ℕ) → AllByRecursion (IsUnshared f) xs
    → AllByRecursion (IsUnshared f) (take n xs)
all_taken f zero xs h = tt
all_taken f (suc n) [] h = tt
all_taken f (suc n) (x ∷ xs) h = (h.0, all_taken f n xs h.1)

one_more : (f : Function) (x : ℕ) (others : List ℕ) → x < own_locals f
    → AllByRecursion (IsUnshared f) others → (b : Bool) → is_outside f.data_frame f.body x ≡ b
    → AllByRecursion (IsUnshared f) (unshared_if b x others)
one_more f x others lt h true e = h
one_more f x others lt h false e = (record { own = lt; unshared = e }, h)

all_unshared : (f : Function) (x n : ℕ) → x + n ≤ own_locals f
    → AllByRecursion (IsUnshared f) (unshared f.data_frame f.body x n)
all_unshared f x zero le = tt
all_unshared f x (suc n) le = one_more f x (unshared f.data_frame f.body (x + 1) n) (omega arith)
    (all_unshared f (x + 1) n (omega arith)) (is_outside f.data_frame f.body x) refl

pub are_unshared : AreUnshared
are_unshared f = all_taken f 7 (unshared f.data_frame f.body 0 (own_locals f))
    (all_unshared f 0 (own_locals f) (omega arith))

-- ---- in order

-- each is above the one before it, and the first is not below a number
abbrev AreRising : ℕ → List ℕ → Type 0
AreRising low [] = Unit {0}
AreRising low (x ∷ xs) = (low ≤ x) × AreRising (x + 1) xs

lower : (low : ℕ) (xs : List ℕ) → AreRising (low + 1) xs → AreRising low xs
lower low [] h = tt
lower low (x ∷ xs) h = let le = h.0 in (omega arith, h.1)

one_lower : (b : Bool) (x : ℕ) (others : List ℕ) → AreRising (x + 1) others
    → AreRising x (unshared_if b x others)
one_lower true x others h = lower x others h
one_lower false x others h = (omega arith, h)

unshared_rise : (frame : Option DataFrame) (body : Statements) (x n : ℕ)
    → AreRising x (unshared frame body x n)
unshared_rise frame body x zero = tt
unshared_rise frame body x (suc n) =
    one_lower (is_outside frame body x) x (unshared frame body (x + 1) n)
    (unshared_rise frame body (x + 1) n)

taken_rise : (low n : ℕ) (xs : List ℕ) → AreRising low xs → AreRising low (take n xs)
taken_rise low zero xs h = tt
taken_rise low (suc n) [] h = tt
taken_rise low (suc n) (x ∷ xs) h = (h.0, taken_rise (x + 1) n xs h.1)

increasing : (low : ℕ) (xs : List ℕ) → AreRising low xs → IsStrictlyIncreasing xs
increasing low [] h k lt = absurd (omega arith)
increasing low (x ∷ []) h k lt = absurd (omega arith)
increasing low (x ∷ y ∷ ys) h zero lt = let le = h.1.0 in omega arith
increasing low (x ∷ y ∷ ys) h (suc k) lt =
    let one : suc (k + 1) ≡ suc k + 1 = omega arith in
    subst (λ j. slice_index (x ∷ y ∷ ys) (suc k) < slice_index (x ∷ y ∷ ys) j) one
    (increasing (x + 1) (y ∷ ys) h.1 k (omega arith))

pub are_in_order : AreInOrder
are_in_order f =
    increasing 0 (register_locals f) (taken_rise 0 7 (unshared f.data_frame f.body 0 (own_locals f))
    (unshared_rise f.data_frame f.body 0 (own_locals f)))

-- ---- the first

later : (y x : ℕ) (xs : List ℕ) → Contains xs x → Contains (y ∷ xs) x
later y x xs c = (suc c.0, let lt = c.1 in omega arith, c.2)

-- one of some is where all that are taken lie, or after all of these, which are so many
abbrev IsPlaced : ℕ → ℕ → List ℕ → Type 0
IsPlaced x most xs =
    Contains xs x ⊎ ((length xs ≡ most) × AllByRecursion (λ y. y < x) xs)

head_placed : (y x most : ℕ) (xs : List ℕ) → y ≤ x → (nat_eq x y ≡ false → IsPlaced x most xs)
    → (b : Bool) → nat_eq x y ≡ b → IsPlaced x (suc most) (y ∷ xs)
head_placed y x most xs le h true e = inl (0, omega arith, sym (eqb-true x y e))
head_placed y x most xs le h false e = by (h e)
  where
    by : IsPlaced x most xs → IsPlaced x (suc most) (y ∷ xs)
    by (inl c) = inl (later y x xs c)
    by (inr p) = let n = p.0 in let other = eqb-false x y e in
        inr (ap suc n, (below other, p.1))
      where
        below : (x ≡ y → ⊥) → y < x
        below other = omega arith

one_placed : (b : Bool) (y x most : ℕ) (rest : List ℕ) → y ≤ x → (b ≡ true → x ≡ y → ⊥)
    → (y + 1 ≤ x → IsPlaced x (suc most) (take (suc most) rest))
    → (y + 1 ≤ x → IsPlaced x most (take most rest))
    → IsPlaced x (suc most) (take (suc most) (unshared_if b y rest))
one_placed true y x most rest le other p q = let apart = other refl in p (omega arith)
one_placed false y x most rest le other p q = head_placed y x most (take most rest) le
    (λ d. (let apart = eqb-false x y d in q (omega arith))) (nat_eq x y) refl

placed : (frame : Option DataFrame) (body : Statements) (most y n x : ℕ) → y ≤ x → x < y + n
    → is_outside frame body x ≡ false → IsPlaced x most (take most (unshared frame body y n))
placed frame body zero y n x le lt e = inr (refl, tt)
placed frame body (suc most) y zero x le lt e = absurd (omega arith)
placed frame body (suc most) y (suc n) x le lt e =
    one_placed (is_outside frame body y) y x most (unshared frame body (y + 1) n) le (λ s same.
    (let h : false ≡ true = sym e ∙ ap (is_outside frame body) same ∙ s in absurd (cc)))
    (λ above. placed frame body (suc most) (y + 1) n x above (omega arith) e)
    (λ above. placed frame body most (y + 1) n x above (omega arith) e)

of_function : (f : Function) (x : ℕ) → IsUnshared f x → IsPlaced x 7 (register_locals f)
of_function f x u = let lt = u.own in
    placed f.data_frame f.body 7 0 (own_locals f) x (omega arith) (omega arith) u.unshared

-- what all have, one of them has
one_of : (x : ℕ) (xs : List ℕ) → AllByRecursion (λ y. y < x) xs → (k z : ℕ) → k < length xs
    → slice_index_or xs k z < x
one_of x [] h k z lt = absurd (omega arith)
one_of x (y ∷ ys) h zero z lt = h.0
one_of x (y ∷ ys) h (suc k) z lt = one_of x ys h.1 k z (omega arith)

pub are_first : AreFirst
are_first f x y u c lt = by (of_function f x u)
  where
    by : IsPlaced x 7 (register_locals f) → Contains (register_locals f) x
    by (inl h) = h
    by (inr h) = let below = one_of x (register_locals f) h.1 c.0 y c.1 in let same = c.2 in
        absurd (omega arith)

pub are_all : AreAll
are_all f x u lt = by (of_function f x u)
  where
    by : IsPlaced x 7 (register_locals f) → Contains (register_locals f) x
    by (inl h) = h
    by (inr h) = let n = h.0 in absurd (omega arith)
