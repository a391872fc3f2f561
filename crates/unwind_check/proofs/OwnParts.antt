-- Whether the first instructions from an address on are a whole epilogue of the function.
use Rattle.std.proofs.Common.{◌≡◌, ℕ, zero, suc, ◌+◌, ◌<◌, ◌≤◌, Bool, true, false, ◌&&◌, ◌||◌, eqb, leb, List, [], ◌∷◌, length, take, refl, sym, ap, ◌∙◌, ◌⊎◌, inl, inr, arith}
use Rattle.std.proofs.lemmas.Bool.{false≢true, and_parts, le-leb, leb-true}
use Rattle.x64_instr.specs.declared.instruction.Instr.{Instr}
use Rattle.eh_tables.specs.declared.code.UnwindOperation.{UnwindOperation}
use Rattle.eh_tables.specs.declared.code.UnwindOperation.TheVariants.{Push, Allocate, SetFrame, Save, SaveVector, MachineFrame}
use Rattle.eh_tables.specs.declared.code.UnwindCode.{UnwindCode}
use Rattle.virtual_unwind.specs.Undone.{operations}
use Rattle.virtual_unwind.specs.Tail.{FetchedInstr}
use Rattle.frame_rules.specs.Codes.{allocation, pushes}
use Rattle.frame_rules.specs.Epilogue.{is_pop, gives_back, pops, is_epilogue}
use Rattle.frame_rules.specs.Body.{are_restored}
use Rattle.unwind_tails.specs.Instructions.{instrs}
use Rattle.unwind_check.specs.Steps.{is_own_part}

-- ---- an epilogue has an instruction for each push, one that gives back the allocation, and an end

pops_length : (rs : List ℕ) (is : List Instr) → pops rs is ≡ true → length is ≡ suc (length rs)
pops_length [] [] e = absurd (false≢true e)
pops_length [] (x ∷ []) e = refl
pops_length [] (x ∷ y ∷ is) e = absurd (false≢true e)
pops_length (r ∷ rs) [] e = absurd (false≢true e)
pops_length (r ∷ rs) (x ∷ is) e =
    ap (λ k. suc k) (pops_length rs is (and_parts (is_pop r x) (pops rs is) e).1)

few_pushes : (ops : List UnwindOperation) → length (pushes ops) ≤ length ops
few_pushes [] = omega arith
few_pushes (Push r ∷ xs) = let h = few_pushes xs in omega (arith, h)
few_pushes (Allocate n ∷ xs) = let h = few_pushes xs in omega (arith, h)
few_pushes (SetFrame ∷ xs) = let h = few_pushes xs in omega (arith, h)
few_pushes (Save r n ∷ xs) = let h = few_pushes xs in omega (arith, h)
few_pushes (SaveVector r n ∷ xs) = let h = few_pushes xs in omega (arith, h)
few_pushes (MachineFrame e ∷ xs) = let h = few_pushes xs in omega (arith, h)

one_of : (a b : Bool) → (a || b) ≡ true → (a ≡ true) ⊎ (b ≡ true)
one_of true b e = inl refl
one_of false b e = inr e

longest : (f offset : ℕ) (ops : List UnwindOperation) (is : List Instr)
    → is_epilogue f offset ops is ≡ true → length is ≤ length ops + 2
longest f offset ops [] e = absurd (false≢true e)
longest f offset ops (x ∷ is) e =
    let few = few_pushes ops in
    elim (one_of (gives_back f offset (allocation ops) x && pops (pushes ops) is)
    (eqb (allocation ops) 0 && pops (pushes ops) (x ∷ is)) e) [
      | inl a ↦
          let n = pops_length (pushes ops) is
          (and_parts (gives_back f offset (allocation ops) x) (pops (pushes ops) is) a).1 in
          omega (arith, few, n)
      | inr b ↦
          let n = pops_length (pushes ops) (x ∷ is)
          (and_parts (eqb (allocation ops) 0) (pops (pushes ops) (x ∷ is)) b).1 in
          omega (arith, few, n)
    ]

pub count_operations : (cs : List UnwindCode) → length (operations cs) ≡ length cs
count_operations [] = refl
count_operations (c ∷ cs) = ap (λ k. suc k) (count_operations cs)

-- ---- the first n instructions

first_count : (n : ℕ) (xs : List FetchedInstr) → n ≤ length xs → length (instrs (take n xs)) ≡ n
first_count zero xs le = refl
first_count (suc n) [] le = absurd (omega (arith, le))
first_count (suc n) (x ∷ xs) le =
    ap (λ k. suc k) (first_count n xs (let l = le in omega (arith, l)))

none_true : (b : Bool) → (b ≡ true → ⊥) → b ≡ false
none_true true h = absurd (h refl)
none_true false h = refl

module _ (f offset : ℕ) (ops : List UnwindOperation) (rs : List ℕ) (xs : List FetchedInstr)
    (n : ℕ) where
  abbrev whole : Bool
  whole = is_epilogue f offset ops (instrs (take n xs))

  all_three : is_own_part f offset ops rs xs n ≡ true
      → (n ≤ length xs) × (are_restored rs ops ≡ true) × (whole ≡ true)
  all_three e =
      let a = and_parts (leb n (length xs)) (are_restored rs ops && whole) e in
      let b = and_parts (are_restored rs ops) whole a.1 in
      (leb-true n (length xs) a.0, b.0, b.1)

  pub not_restored : are_restored rs ops ≡ false → is_own_part f offset ops rs xs n ≡ false
  not_restored h = none_true (is_own_part f offset ops rs xs n)
      (λ e. false≢true (sym h ∙ (all_three e).1))

  pub too_many : length ops + 2 < n → is_own_part f offset ops rs xs n ≡ false
  too_many more = none_true (is_own_part f offset ops rs xs n) (λ e.
      let a = all_three e in
      let l = longest f offset ops (instrs (take n xs)) a.2 in
      let k = first_count n xs a.0 in
      omega (arith, l, k, more))

  pub not_inside : length xs < n → is_own_part f offset ops rs xs n ≡ false
  not_inside more = none_true (is_own_part f offset ops rs xs n)
      (λ e. let a = (all_three e).0 in omega (arith, a, more))

  pub by_whole : n ≤ length xs → are_restored rs ops ≡ true
      → whole ≡ is_own_part f offset ops rs xs n
  by_whole le h = sym (ap (λ b. b && (are_restored rs ops && whole)) (le-leb n (length xs) le)
      ∙ ap (λ b. b && whole) h)
