-- The cold parts of a statement lie one after another behind its first instruction, and no region
-- of the statement meets one.
use Rattle.std.proofs.Common.{◌≡◌, inl, inr, ℕ, ◌+◌, ◌<◌, ◌≤◌, Bool, true, false, List, [], ◌∷◌, ◌++◌, refl, sym, ap, subst, ◌∙◌, arith}
use Rattle.std.specs.Prelude.{not, if◌then◌else◌}
use Rattle.std.specs.List.{AllByRecursion}
use Rattle.std.proofs.lemmas.Bool.{and_parts, or_parts}
use Rattle.linear_code.specs.declared.program.LabelRange.{LabelRange}
use Rattle.seh_ir.specs.ColdParts.{cold_range, is_cold, statement_calls, statement_tries, statements_try}
use Rattle.lowering_invariants.specs.Words.{Statement, Declare, Block, Evaluate, If, IfElse, For, DoWhile, Return, Break, Continue, Leave, TryExcept, TryFinally, Statements, Empty, Then, Region, expression_size, discarded_size, condition_size, all_declared_size, statement_size, statements_size, statement_regions, statements_regions, statement_cold, statements_cold}
use Rattle.lowering_invariants.specs.ColdParts.{IsApart, AreRising}
use Rattle.lowering_invariants.proofs.Lemmas.{all_append}
use Rattle.lowering_invariants.proofs.Stacks.StackTargets.{all_map}
use Rattle.lowering_invariants.proofs.Regions.RegionRanges.{IsWithin, AreWithin, statement_within, statements_within}

-- ---- a choice between one part and those of a statement

pub cold_cases : (P : LabelRange → Type 0) (b : Bool) (p : LabelRange) (ps : List LabelRange)
    → (b ≡ true → P p) → AllByRecursion P ps
    → AllByRecursion P (if b then p ∷ [] else ps)
cold_cases P true p ps h k = (h refl, tt)
cold_cases P false p ps h k = k

-- ---- one after another

-- after a label, and up to another
abbrev pub Rising : ℕ → ℕ → List LabelRange → Type 0
Rising low high [] = low ≤ high
Rising low high (p ∷ ps) = (low < p.begin) × (p.begin < p.end) × Rising p.end high ps

rising_from : (low high low' high' : ℕ) (ps : List LabelRange) → low' ≤ low → high ≤ high'
    → Rising low high ps → Rising low' high' ps
rising_from low high low' high' [] l h r = omega arith
rising_from low high low' high' (p ∷ ps) l h r =
    (omega arith, r.1, rising_from p.end high p.end high' ps (omega arith) h r.2)

rising_append : (low mid high : ℕ) (ps qs : List LabelRange) → Rising low mid ps
    → Rising mid high qs → Rising low high (ps ++ qs)
rising_append low mid high [] qs r q = rising_from mid high low high qs r (omega arith) q
rising_append low mid high (p ∷ ps) qs r q = (r.0, r.1, rising_append p.end mid high ps qs r.2 q)

pub rising_cases : (b : Bool) (low at size high : ℕ) (ps : List LabelRange) → low < at
    → at + size + 1 ≤ high → Rising at (at + size) ps
    → Rising low high (if b then cold_range at (at + size + 1) ∷ [] else ps)
rising_cases true low at size high ps l h r = (l, omega arith, h)
rising_cases false low at size high ps l h r =
    rising_from at (at + size) low high ps (omega arith) (omega arith) r

mutual
  pub statement_rising : (s : Statement) (at : ℕ)
      → Rising at (at + statement_size s) (statement_cold s at)
  statement_rising (Declare d) at = omega arith
  statement_rising (Block ss) at = statements_rising ss at
  statement_rising (Evaluate e) at = omega arith
  statement_rising (If c s) at =
      let yes = at + expression_size c + 1 in
      rising_from yes (yes + statement_size s) at _ (statement_cold s yes) (omega arith)
      (omega arith) (statement_rising s yes)
  statement_rising (IfElse c s t) at =
      let yes = at + expression_size c + 1 in
      let skips = yes + statement_size s in
      let otherwise = skips + 1 in
      rising_append at skips _ (statement_cold s yes) _
      (rising_from yes skips at skips (statement_cold s yes) (omega arith) (omega arith)
      (statement_rising s yes))
      (rising_cases (is_cold t) skips otherwise (statement_size t) _ (statement_cold t otherwise)
      (omega arith) (omega arith) (statement_rising t otherwise))
  statement_rising (For ds first c next s) at =
      let start = at + all_declared_size ds + discarded_size first + condition_size c in
      rising_from start (start + statement_size s) at _ (statement_cold s start) (omega arith)
      (omega arith) (statement_rising s start)
  statement_rising (DoWhile s c) at =
      rising_from at (at + statement_size s) at _ (statement_cold s at) (omega arith) (omega arith)
      (statement_rising s at)
  statement_rising (Return e) at = omega arith
  statement_rising Break at = omega arith
  statement_rising Continue at = omega arith
  statement_rising Leave at = omega arith
  statement_rising (TryExcept body filter block) at = omega arith
  statement_rising (TryFinally body k last) at = omega arith

  pub statements_rising : (ss : Statements) (at : ℕ)
      → Rising at (at + statements_size ss) (statements_cold ss at)
  statements_rising Empty at = omega arith
  statements_rising (Then s ss) at =
      let next = at + statement_size s in
      rising_append at next _ (statement_cold s at) (statements_cold ss next)
      (statement_rising s at)
      (rising_from next (next + statements_size ss) next _ (statements_cold ss next) (omega arith)
      (omega arith) (statements_rising ss next))

-- each by itself
pub record IsBetween (low high : ℕ) (p : LabelRange) : Type 0 where
  pub begins : low < p.begin
  pub some : p.begin < p.end
  pub ends : p.end ≤ high

pub all_between : (low high : ℕ) (ps : List LabelRange) → Rising low high ps
    → AllByRecursion (IsBetween low high) ps
all_between low high [] r = tt
all_between low high (p ∷ ps) r =
    let rest = all_between p.end high ps r.2 in
    let end = rising_end p.end high ps r.2 in (
      record { begins = r.0; some = r.1; ends = end },
      all_map (IsBetween p.end high) (IsBetween low high) ps
          (λ q w. (let b = w.begins in let c = r.0 in let d = r.1 in
          record { begins = omega arith; some = w.some; ends = w.ends })) rest,
    )
  where
    rising_end : (low high : ℕ) (ps : List LabelRange) → Rising low high ps → low ≤ high
    rising_end low high [] r = r
    rising_end low high (p ∷ ps) r =
        let e = rising_end p.end high ps r.2 in
        let a = r.0 in
        let b = r.1 in
        omega arith

pub are_rising : (low low' high : ℕ) (ps : List LabelRange) → low' ≤ low → Rising low high ps
    → AreRising low' ps
are_rising low low' high [] l r = tt
are_rising low low' high (p ∷ ps) l r =
    let a = r.0 in (omega arith, are_rising p.end p.end high ps (omega arith) r.2)

-- ---- regions

-- of parts and regions, none meets one of the others
abbrev pub AreApart : List Region → List LabelRange → Type 0
AreApart rs ps = AllByRecursion (λ (p : LabelRange). AllByRecursion (IsApart p) rs) ps

-- regions of a range before the parts, or after them
regions_before : (low high at to : ℕ) (rs : List Region) (ps : List LabelRange) → high ≤ at
    → AreWithin low high rs → Rising at to ps → AreApart rs ps
regions_before low high at to rs ps l w r =
    all_map (IsBetween at to) (λ (p : LabelRange). AllByRecursion (IsApart p) rs) ps
    (λ p q. all_map (IsWithin low high) (IsApart p) rs
    (λ g i. (let a = i.ends in let b = q.begins in inl (omega arith))) w)
    (all_between at to ps r)

regions_after : (low high at to : ℕ) (rs : List Region) (ps : List LabelRange) → to ≤ low
    → AreWithin low high rs → Rising at to ps → AreApart rs ps
regions_after low high at to rs ps l w r =
    all_map (IsBetween at to) (λ (p : LabelRange). AllByRecursion (IsApart p) rs) ps
    (λ p q. all_map (IsWithin low high) (IsApart p) rs
    (λ g i. (let a = i.begins in let b = q.ends in inr (omega arith))) w)
    (all_between at to ps r)

both_apart : (rs qs : List Region) (ps : List LabelRange) → AreApart rs ps → AreApart qs ps
    → AreApart (rs ++ qs) ps
both_apart rs qs [] h k = tt
both_apart rs qs (p ∷ ps) h k = (all_append (IsApart p) rs qs h.0 k.0, both_apart rs qs ps h.1 k.1)

-- without a `__try` there is no region
mutual
  pub statement_no_regions : (s : Statement) (at : ℕ) → statement_tries s ≡ false
      → statement_regions s at ≡ []
  statement_no_regions (Declare d) at h = refl
  statement_no_regions (Block ss) at h = statements_no_regions ss at h
  statement_no_regions (Evaluate e) at h = refl
  statement_no_regions (If c s) at h = statement_no_regions s (at + expression_size c + 1) h
  statement_no_regions (IfElse c s t) at h =
      let yes = at + expression_size c + 1 in
      let otherwise = yes + statement_size s + 1 in
      let parts = or_parts (statement_tries s) (statement_tries t) h in
      ap (λ rs. rs ++ statement_regions t otherwise) (statement_no_regions s yes parts.0)
      ∙ statement_no_regions t otherwise parts.1
  statement_no_regions (For ds first c next s) at h =
      statement_no_regions s
      (at + all_declared_size ds + discarded_size first + condition_size c) h
  statement_no_regions (DoWhile s c) at h = statement_no_regions s at h
  statement_no_regions (Return e) at h = refl
  statement_no_regions Break at h = refl
  statement_no_regions Continue at h = refl
  statement_no_regions Leave at h = refl
  statement_no_regions (TryExcept body filter block) at h = absurd (cc)
  statement_no_regions (TryFinally body k last) at h = absurd (cc)

  statements_no_regions : (ss : Statements) (at : ℕ) → statements_try ss ≡ false
      → statements_regions ss at ≡ []
  statements_no_regions Empty at h = refl
  statements_no_regions (Then s ss) at h =
      let next = at + statement_size s in
      let parts = or_parts (statement_tries s) (statements_try ss) h in
      ap (λ rs. rs ++ statements_regions ss next) (statement_no_regions s at parts.0)
      ∙ statements_no_regions ss next parts.1

pub no_try : (s : Statement) → is_cold s ≡ true → statement_tries s ≡ false
no_try s h = not_yes (statement_tries s) (and_parts (statement_calls s) _ h).1
  where
    not_yes : (b : Bool) → not b ≡ true → b ≡ false
    not_yes true e = sym e
    not_yes false e = refl

branch_apart : (t : Statement) (b : Bool) (at end : ℕ) → is_cold t ≡ b
    → AreApart (statement_regions t at) (statement_cold t at)
    → AreApart (statement_regions t at)
    (if b then cold_range at end ∷ [] else statement_cold t at)
branch_apart t true at end e h = (
  subst (AllByRecursion (IsApart (cold_range at end)))
      (sym (statement_no_regions t at (no_try t e))) tt,
  tt,
)
branch_apart t false at end e h = h

mutual
  pub statement_apart : (s : Statement) (at : ℕ)
      → AreApart (statement_regions s at) (statement_cold s at)
  statement_apart (Declare d) at = tt
  statement_apart (Block ss) at = statements_apart ss at
  statement_apart (Evaluate e) at = tt
  statement_apart (If c s) at = statement_apart s (at + expression_size c + 1)
  statement_apart (IfElse c s t) at =
      let yes = at + expression_size c + 1 in
      let skips = yes + statement_size s in
      let otherwise = skips + 1 in
      let last = otherwise + statement_size t in
      let rs = statement_regions s yes in
      let qs = statement_regions t otherwise in
      let ps = statement_cold s yes in
      all_append (λ (p : LabelRange). AllByRecursion (IsApart p) (rs ++ qs)) ps _
      (both_apart rs qs ps (statement_apart s yes)
      (regions_after otherwise last yes skips qs ps (omega arith) (statement_within t otherwise)
      (statement_rising s yes)))
      (both_apart rs qs _
      (regions_before yes skips skips (last + 1) rs _ (omega arith) (statement_within s yes)
      (rising_cases (is_cold t) skips otherwise (statement_size t) (last + 1)
      (statement_cold t otherwise) (omega arith) (omega arith) (statement_rising t otherwise)))
      (branch_apart t (is_cold t) otherwise (last + 1) refl (statement_apart t otherwise)))
  statement_apart (For ds first c next s) at =
      statement_apart s (at + all_declared_size ds + discarded_size first + condition_size c)
  statement_apart (DoWhile s c) at = statement_apart s at
  statement_apart (Return e) at = tt
  statement_apart Break at = tt
  statement_apart Continue at = tt
  statement_apart Leave at = tt
  statement_apart (TryExcept body filter block) at = tt
  statement_apart (TryFinally body k last) at = tt

  pub statements_apart : (ss : Statements) (at : ℕ)
      → AreApart (statements_regions ss at) (statements_cold ss at)
  statements_apart Empty at = tt
  statements_apart (Then s ss) at =
      let next = at + statement_size s in
      let end = next + statements_size ss in
      let rs = statement_regions s at in
      let qs = statements_regions ss next in
      let ps = statement_cold s at in
      let ks = statements_cold ss next in
      all_append (λ (p : LabelRange). AllByRecursion (IsApart p) (rs ++ qs)) ps ks
      (both_apart rs qs ps (statement_apart s at)
      (regions_after next end at next qs ps (omega arith) (statements_within ss next)
      (statement_rising s at)))
      (both_apart rs qs ks
      (regions_before at next next end rs ks (omega arith) (statement_within s at)
      (statements_rising ss next)) (statements_apart ss next))
