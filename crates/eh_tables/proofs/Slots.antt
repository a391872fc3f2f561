-- One code of a list of slots.
use Rattle.std.proofs.Common.{◌≡◌, ◌≢◌, ℕ, zero, suc, ◌+◌, ◌-◌, ◌*◌, ◌/◌, ◌%◌, ◌≤◌, Bool, false, Some, List, [], ◌∷◌, length, take, drop, get_or, length-drop, refl, sym, ap, ◌∙◌, arith}
use Rattle.std.specs.Prelude.{nat_lt}
use Rattle.std.proofs.lemmas.List.{take_all}
use Rattle.eh_tables.specs.Words.{UnwindOperation, UnwindCode, Table, operation, code_before, codes, code_checked, in_order}
use Rattle.eh_tables.specs.Codes.{checked}

-- operands are passed over
pub passed : (framed : Bool) (k n : ℕ) (xs : List ℕ) → n ≡ 2 * k
    → codes framed k xs ≡ codes framed 0 (drop n xs)
passed framed zero n xs e = let z : n ≡ 0 = omega arith in
    ap (λ m. codes framed 0 (drop m xs)) (sym z)
passed framed (suc k) zero xs e = absurd (omega arith)
passed framed (suc k) (suc zero) xs e = absurd (omega arith)
passed framed (suc k) (suc (suc n)) [] e = refl
passed framed (suc k) (suc (suc n)) (a ∷ []) e = refl
passed framed (suc k) (suc (suc n)) (a ∷ b ∷ xs) e = passed framed k n xs (omega arith)

-- the first code, and those after its operands
pub first_code : (framed : Bool) (xs : List ℕ) (o : UnwindOperation) (n : ℕ) → 2 ≤ length xs
    → operation framed (get_or xs 1 0 % 16) (get_or xs 1 0 / 16) (drop 2 xs) ≡ Some (o, n)
    → codes framed 0 xs ≡ record { offset = get_or xs 0 0; operation = o }
    ∷ codes framed 0 (drop (2 * n) (drop 2 xs))
first_code framed [] o n le is = absurd (omega arith)
first_code framed (a ∷ []) o n le is = absurd (omega arith)
first_code framed (a ∷ b ∷ xs) o n le is =
    ap (code_before a (λ k. codes framed k xs)) is
    ∙ ap (λ (t : List UnwindCode). record { offset = a; operation = o } ∷ t)
    (passed framed n (2 * n) xs refl)

-- what follows a slot
pub after : (xs : List ℕ) → take (length xs - 2) (drop 2 xs) ≡ drop 2 xs
after xs = take_all (length xs - 2) (drop 2 xs) (omega (arith, length-drop 2 xs))

-- one slot more is checked
pub operand_checked : (index : ℕ) (framed : Bool) (slot last k : ℕ) (xs : List ℕ) → 2 ≤ length xs
    → k ≢ 0
    → checked index framed (slot + 1) last (k - 1) (take (length xs - 2) (drop 2 xs))
    ≡ checked index framed slot last k xs
operand_checked index framed slot last k [] le ne = absurd (omega arith)
operand_checked index framed slot last k (a ∷ []) le ne = absurd (omega arith)
operand_checked index framed slot last zero (a ∷ b ∷ xs) le ne = absurd (ne refl)
operand_checked index framed slot last (suc k) (a ∷ b ∷ xs) le ne =
    let e : suc k - 1 ≡ k = omega arith in
    ap (λ n. checked index framed (slot + 1) last n (take (length (a ∷ b ∷ xs) - 2) xs)) e
    ∙ ap (checked index framed (slot + 1) last k) (after (a ∷ b ∷ xs))

abbrev pub Later : ℕ → Bool → ℕ → List ℕ → ℕ → Table Unit
Later index framed slot xs k = checked index framed (slot + 1) (get_or xs 0 0) k
    (take (length xs - 2) (drop 2 xs))

code_at : (index : ℕ) (framed : Bool) (slot last : ℕ) (xs : List ℕ) → 2 ≤ length xs
    → checked index framed slot last 0 xs ≡ code_checked index slot last (get_or xs 0 0)
    (Later index framed slot xs) (operation framed (get_or xs 1 0 % 16) (get_or xs 1 0 / 16)
    (take (length xs - 2) (drop 2 xs)))
code_at index framed slot last [] le = absurd (omega arith)
code_at index framed slot last (a ∷ []) le = absurd (omega arith)
code_at index framed slot last (a ∷ b ∷ xs) le =
    ap (λ t. code_checked index slot last a (λ k. checked index framed (slot + 1) a k t)
    (operation framed (b % 16) (b / 16) t)) (sym (after (a ∷ b ∷ xs)))

module _ (index : ℕ) (framed : Bool) (slot last k : ℕ) (xs : List ℕ) (le : 2 ≤ length xs)
    (none : k ≡ 0) where
  here : checked index framed slot last k xs ≡ code_checked index slot last (get_or xs 0 0)
      (Later index framed slot xs) (operation framed (get_or xs 1 0 % 16) (get_or xs 1 0 / 16)
      (take (length xs - 2) (drop 2 xs)))
  here = ap (λ n. checked index framed slot last n xs) none ∙ code_at index framed slot last xs le

  pub code_passed : (x : UnwindOperation × ℕ)
      → operation framed (get_or xs 1 0 % 16) (get_or xs 1 0 / 16)
      (take (length xs - 2) (drop 2 xs)) ≡ Some x → nat_lt last (get_or xs 0 0) ≡ false
      → Later index framed slot xs x.1 ≡ checked index framed slot last k xs
  code_passed x is below = sym (here ∙ ap (code_checked index slot last (get_or xs 0 0)
      (Later index framed slot xs)) is ∙ ap (in_order index slot (Later index framed slot xs x.1))
      below)

pub cut : (xs : List ℕ) (n : ℕ) → take (length xs - n) (drop n xs) ≡ drop n xs
cut xs n = take_all (length xs - n) (drop n xs) (omega (arith, length-drop n xs))

-- what follows a code and its operands
pub after_code : (xs : List ℕ) (n : ℕ) → (let ys = take (length xs - 2) (drop 2 xs) in
    take (length ys - n) (drop n ys)) ≡ drop n (drop 2 xs)
after_code xs n = cut (take (length xs - 2) (drop 2 xs)) n ∙ ap (drop n) (after xs)

pub left_after : (framed : Bool) (xs : List ℕ) (o : UnwindOperation) (n : ℕ) → 2 ≤ length xs
    → operation framed (get_or xs 1 0 % 16) (get_or xs 1 0 / 16) (take (length xs - 2) (drop 2 xs))
    ≡ Some (o, n)
    → codes framed 0 xs ≡ record { offset = get_or xs 0 0; operation = o }
    ∷ codes framed 0 (let ys = take (length xs - 2) (drop 2 xs) in
    take (length ys - 2 * n) (drop (2 * n) ys))
left_after framed xs o n le is =
    first_code framed xs o n le (ap (operation framed (get_or xs 1 0 % 16) (get_or xs 1 0 / 16))
    (sym (after xs)) ∙ is)
    ∙ ap (λ (t : List ℕ). record { offset = get_or xs 0 0; operation = o } ∷ codes framed 0 t)
    (sym (after_code xs (2 * n)))
