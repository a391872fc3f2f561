-- Each funclet of a sound program is named by a region.
use Rattle.std.proofs.Common.{◌≡◌, ℕ, ◌+◌, ◌-◌, ◌<◌, ◌≤◌, ◌==◌, Bool, true, false, cond, List, [], ◌∷◌, length, refl, ap, arith, inl, inr}
use Rattle.std.proofs.lemmas.Bool.{and_parts, eqb-true, eq-eqb, cases_eq}
use Rattle.image_runs.specs.Words.{Program, IsSound, count_up, lowered, IsMember}
use Rattle.c_checked.specs.Sound as sound
use Rattle.seh_ir.proofs.FuncletCounts.{functions_count}
use Rattle.image_tables.specs.RegionRows.{named, regions}
use Rattle.image_runs.proofs.Lemmas.{sum_of, sum_from_one, sums_agree, counts}

abbrev is : ℕ → ℕ → ℕ
is j k = cond (j == k) 1 0

same : (j k : ℕ) → j ≡ k → is j k ≡ 1
same j k e = ap (λ (b : Bool). cond b 1 0) (eq-eqb j k e)

-- numbers that count up have each of theirs
counted : (j n : ℕ) (ks : List ℕ) → count_up n ks ≡ true → 1 ≤ n → n ≤ j + 1 → j + 1 < n + length ks
    → 1 ≤ sum_from_one (is j) ks
counted j n [] up some le lt = absurd (omega arith)
counted j n (k ∷ ks) up some le lt =
    let h = and_parts (k == n) (count_up (n + 1) ks) up in
    let e = eqb-true k n h.0 in
    elim (cases_eq j (k - 1)) [
      | inl q ↦ (let one = same j (k - 1) q in omega arith)
      | inr ne ↦
          (let not_here : n ≤ j = elim (cases_eq (j + 1) n)
          [ inl q ↦ absurd (ne (omega arith)) | inr other ↦ omega (arith, other) ] in
          let rest = counted j (n + 1) ks h.1 (omega arith) (omega arith) (omega arith) in
          omega arith)
    ]

-- what counts is there
there : (j : ℕ) (xs : List ℕ) → 1 ≤ sum_of (is j) xs → IsMember j xs
there j [] le = absurd (omega arith)
there j (x ∷ xs) le = by (j == x) refl (there j xs)
  where
    by : (b : Bool) → (j == x) ≡ b → (1 ≤ sum_of (is j) xs → IsMember j xs) → IsMember j (x ∷ xs)
    by true q later = inl (eqb-true j x q)
    by false q later = let none : is j x ≡ 0 = ap (λ (b : Bool). cond b 1 0) q in
        inr (later (omega arith))

pub all_named : (program : Program) → IsSound program → (k : ℕ)
    → k < length (lowered program).funclets → IsMember k (named (regions (lowered program)))
all_named program ok k lt =
    let n = functions_count 0 program.functions in
    let some = counted k 1 (sound.all_funclets program.functions) (counts program ok) (omega arith)
    (omega arith) (omega arith) in
    let e = sums_agree (is k) program in
    there k (named (regions (lowered program))) (omega arith)
