-- The funclets of a function table, where all that are named have numbers whose addresses rise.
use Rattle.std.proofs.Common.{◌≡◌, ◌≢◌, ℕ, zero, suc, ◌+◌, ◌<◌, ◌≤◌, ◌==◌, Bool, true, false, List, [], ◌∷◌, refl, sym, ap, ◌∙◌, arith, inl, inr}
use Rattle.std.specs.Prelude.{◌||◌}
use Rattle.std.specs.List.{AllByRecursion}
use Rattle.std.proofs.lemmas.Bool.{lt-ltb, le-ltb, eq-eqb, ne_eqb, cases_lt}
use Rattle.image_states.specs.Words.{Cpu, Funclet, inserted, by_kind, arrivals, if_same, if_below, if_here}

abbrev pub Mask : Type 0
Mask = ℕ → Bool

abbrev if_in : Bool → Funclet → List Funclet → List Funclet
if_in true x xs = x ∷ xs
if_in false x xs = xs

abbrev pub with_one : ℕ → Mask → Mask
with_one k mask j = (j == k) || mask j

module _ (begin : ℕ → ℕ) (kind : ℕ → Bool) where
  abbrev pub item : ℕ → Funclet
  item k = record { address = begin k; is_finally = kind k }

  -- those of a mask, of so many from a number on
  abbrev pub sub : Mask → ℕ → ℕ → List Funclet
  sub mask from zero = []
  sub mask from (suc n) = if_in (mask from) (item from) (sub mask (from + 1) n)

  pub same_sub : (a b : Mask) (from n : ℕ) → ((j : ℕ) → from ≤ j → j < from + n → a j ≡ b j)
      → sub a from n ≡ sub b from n
  same_sub a b from zero same = refl
  same_sub a b from (suc n) same = λ i. if_in (same from (omega arith) (omega arith) i) (item from)
      (same_sub a b (from + 1) n (λ j le lt. same j (omega arith) (omega arith)) i)

  module _ (count : ℕ) (rises : (j k : ℕ) → j < k → k < count → begin j < begin k) where
    if_above : (b : Bool) (x : Funclet) (xs : List Funclet) (a : ℕ) → a < x.address
        → AllByRecursion (λ (y : Funclet). a < y.address) xs
        → AllByRecursion (λ (y : Funclet). a < y.address) (if_in b x xs)
    if_above true x xs a lt all = (lt, all)
    if_above false x xs a lt all = all

    above : (mask : Mask) (k from n : ℕ) → k < from → from + n ≤ count
        → AllByRecursion (λ (y : Funclet). begin k < y.address) (sub mask from n)
    above mask k from zero lt le = tt
    above mask k from (suc n) lt le = if_above (mask from) (item from) (sub mask (from + 1) n)
        (begin k) (rises k from lt (omega arith))
        (above mask k (from + 1) n (omega arith) (omega arith))

    in_front : (a : ℕ) (b : Bool) (xs : List Funclet)
        → AllByRecursion (λ (y : Funclet). a < y.address) xs
        → inserted a b xs ≡ record { address = a; is_finally = b } ∷ xs
    in_front a b [] all = refl
    in_front a b (x ∷ xs) all = ap (if_below a b x xs (inserted a b xs)) (lt-ltb a x.address all.0)

    -- after one with a lower address
    after : (k from : ℕ) (xs : List Funclet) → begin from < begin k
        → inserted (begin k) (kind k) (item from ∷ xs) ≡ item from ∷ inserted (begin k) (kind k) xs
    after k from xs lt =
        ap (if_below (begin k) (kind k) (item from) xs (inserted (begin k) (kind k) xs))
        (le-ltb (begin k) (begin from) (omega arith))
        ∙ ap (if_same (begin k) (kind k) (item from) xs (inserted (begin k) (kind k) xs))
        (ne_eqb (begin k) (begin from) (λ e. (let q : begin k ≡ begin from = e in omega arith)))

    -- where it is already
    again : (k : ℕ) (xs : List Funclet) → inserted (begin k) (kind k) (item k ∷ xs) ≡ item k ∷ xs
    again k xs =
        ap (if_below (begin k) (kind k) (item k) xs (inserted (begin k) (kind k) xs))
        (le-ltb (begin k) (begin k) (omega arith))
        ∙ ap (if_same (begin k) (kind k) (item k) xs (inserted (begin k) (kind k) xs))
        (eq-eqb (begin k) (begin k) refl)

    others : (mask : Mask) (k from n : ℕ) → k < from
        → sub mask from n ≡ sub (with_one k mask) from n
    others mask k from n lt = same_sub mask (with_one k mask) from n
        (λ j le lt'. sym (ap (λ (b : Bool). b || mask j)
        (ne_eqb j k (λ e. (let q : j ≡ k = e in omega arith)))))

    here_by : (mask : Mask) (k n : ℕ) (b : Bool) → mask k ≡ b → k + suc n ≤ count
        → inserted (begin k) (kind k) (if_in b (item k) (sub mask (k + 1) n))
        ≡ item k ∷ sub (with_one k mask) (k + 1) n
    here_by mask k n true e le = again k (sub mask (k + 1) n)
        ∙ ap (λ xs. item k ∷ xs) (others mask k (k + 1) n (omega arith))
    here_by mask k n false e le = in_front (begin k) (kind k) (sub mask (k + 1) n)
        (above mask k (k + 1) n (omega arith) (omega arith))
        ∙ ap (λ xs. item k ∷ xs) (others mask k (k + 1) n (omega arith))

    later_by : (mask : Mask) (k from n : ℕ) (b : Bool) (rest : List Funclet) → begin from < begin k
        → inserted (begin k) (kind k) (sub mask (from + 1) n) ≡ rest
        → inserted (begin k) (kind k) (if_in b (item from) (sub mask (from + 1) n))
        ≡ if_in b (item from) rest
    later_by mask k from n true rest lt e = after k from (sub mask (from + 1) n) lt
        ∙ ap (λ xs. item from ∷ xs) e
    later_by mask k from n false rest lt e = e

    pub insert : (mask : Mask) (k from n : ℕ) → from ≤ k → k < from + n → from + n ≤ count
        → inserted (begin k) (kind k) (sub mask from n) ≡ sub (with_one k mask) from n
    insert mask k from zero le lt in' = absurd (omega arith)
    insert mask k from (suc n) le lt in' = elim (cases_lt from k) [
      | inl less ↦
          later_by mask k from n (mask from) (sub (with_one k mask) (from + 1) n)
          (rises from k less (omega arith))
          (insert mask k (from + 1) n (omega arith) (omega arith) (omega arith))
          ∙ ap (λ (b : Bool). if_in (b || mask from) (item from)
          (sub (with_one k mask) (from + 1) n))
          (sym (ne_eqb from k (λ e. (let q : from ≡ k = e in omega arith))))
      | inr more ↦
          let same : from ≡ k = omega arith in
          ap (λ (f : ℕ). inserted (begin k) (kind k) (sub mask f (suc n))) same
          ∙ here_by mask k n (mask k) refl (omega arith)
          ∙ ap (λ (b : Bool). if_in (b || mask k) (item k) (sub (with_one k mask) (k + 1) n))
          (sym (eq-eqb k k refl))
          ∙ ap (λ (f : ℕ). sub (with_one k mask) f (suc n)) (sym same)
    ]

    -- ---- arrivals, where all are there

    abbrev pub all : List Funclet
    all = sub (λ j. true) 0 count

    pub arrives : (c : Cpu) (k from n : ℕ) → from ≤ k → k < from + n → from + n ≤ count
        → arrivals c (begin k) (from + 1) (sub (λ j. true) from n) ≡ by_kind c (k + 1) (kind k) ∷ []
    arrives c k from zero le lt in' = absurd (omega arith)
    arrives c k from (suc n) le lt in' = elim (cases_lt from k) [
      | inl less ↦
          let r = rises from k less (omega arith) in
          ap (if_here (by_kind c (from + 1) (kind from))
          (arrivals c (begin k) (from + 1 + 1) (sub (λ j. true) (from + 1) n)))
          (ne_eqb (begin k) (begin from) (λ e. (let q : begin k ≡ begin from = e in omega arith)))
          ∙ arrives c k (from + 1) n (omega arith) (omega arith) (omega arith)
      | inr more ↦
          let same : from ≡ k = omega arith in
          ap (λ (f : ℕ). arrivals c (begin k) (f + 1) (sub (λ j. true) f (suc n))) same
          ∙ ap (if_here (by_kind c (k + 1) (kind k))
          (arrivals c (begin k) (k + 1 + 1) (sub (λ j. true) (k + 1) n)))
          (eq-eqb (begin k) (begin k) refl)
    ]

    pub arrives_at_none : (c : Cpu) (rva from n : ℕ)
        → ((k : ℕ) → from ≤ k → k < from + n → rva ≢ begin k)
        → arrivals c rva (from + 1) (sub (λ j. true) from n) ≡ []
    arrives_at_none c rva from zero none = refl
    arrives_at_none c rva from (suc n) none =
        ap (if_here (by_kind c (from + 1) (kind from))
        (arrivals c rva (from + 1 + 1) (sub (λ j. true) (from + 1) n)))
        (ne_eqb rva (begin from) (none from (omega arith) (omega arith)))
        ∙ arrives_at_none c rva (from + 1) n (λ k le lt. none k (omega arith) (omega arith))
