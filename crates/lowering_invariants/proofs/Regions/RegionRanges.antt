-- The regions of a statement have some instructions of it each, and none begins where one ends.
use Rattle.std.proofs.Common.{◌≡◌, ℕ, ◌+◌, ◌-◌, ◌<◌, ◌≤◌, List, [], ◌∷◌, ◌++◌, refl, subst, arith, append_assoc}
use Rattle.std.specs.List.{AllByRecursion}
use Rattle.lowering_invariants.specs.Words.{Statement, Declare, Block, Evaluate, If, IfElse, For, DoWhile, Return, Break, Continue, Leave, TryExcept, TryFinally, Statements, Empty, Then, Region, expression_size, discarded_size, condition_size, all_declared_size, statement_size, statements_size, except_kind, region, statement_regions, statements_regions}
use Rattle.linear_code.specs.declared.program.RegionKind.TheVariants as kinds
use Rattle.lowering_invariants.proofs.Lemmas.{all_append}
use Rattle.lowering_invariants.proofs.Stacks.StackTargets.{all_map}

-- ---- ranges

-- inside this range, and the instruction after it too
pub record IsWithin (low high : ℕ) (r : Region) : Type 0 where
  pub begins : low ≤ r.begin
  pub some : r.begin < r.end
  pub ends : r.end < high

abbrev pub AreWithin : ℕ → ℕ → List Region → Type 0
AreWithin low high rs = AllByRecursion (IsWithin low high) rs

wider : (low high low' high' : ℕ) (rs : List Region) → low' ≤ low → high ≤ high'
    → AreWithin low high rs → AreWithin low' high' rs
wider low high low' high' rs l h = all_map (IsWithin low high) (IsWithin low' high') rs
    (λ r w. (let b = w.begins in let e = w.ends in
    record { begins = omega arith; some = w.some; ends = omega arith }))

both_within : (low high a b c d : ℕ) (rs qs : List Region) → low ≤ a → b ≤ high → low ≤ c
    → d ≤ high → AreWithin a b rs → AreWithin c d qs → AreWithin low high (rs ++ qs)
both_within low high a b c d rs qs p q s t h k = all_append (IsWithin low high) rs qs
    (wider a b low high rs p q h) (wider c d low high qs s t k)

mutual
  -- the regions of a statement are within it
  pub statement_within : (s : Statement) (at : ℕ)
      → AreWithin at (at + statement_size s) (statement_regions s at)
  statement_within (Declare d) at = tt
  statement_within (Block ss) at = statements_within ss at
  statement_within (Evaluate e) at = tt
  statement_within (If c s) at =
      let then = at + expression_size c + 1 in
      wider then (then + statement_size s) _ _ (statement_regions s then) (omega arith)
      (omega arith) (statement_within s then)
  statement_within (IfElse c s t) at =
      let then = at + expression_size c + 1 in
      let otherwise = then + statement_size s + 1 in
      both_within _ _ then (then + statement_size s) otherwise (otherwise + statement_size t)
      (statement_regions s then) (statement_regions t otherwise) (omega arith) (omega arith)
      (omega arith) (omega arith) (statement_within s then) (statement_within t otherwise)
  statement_within (For ds first c next s) at =
      let start = at + all_declared_size ds + discarded_size first + condition_size c in
      wider start (start + statement_size s) _ _ (statement_regions s start) (omega arith)
      (omega arith) (statement_within s start)
  statement_within (DoWhile s c) at = wider at (at + statement_size s) _ _ (statement_regions s at)
      (omega arith) (omega arith) (statement_within s at)
  statement_within (Return e) at = tt
  statement_within Break at = tt
  statement_within Continue at = tt
  statement_within Leave at = tt
  statement_within (TryExcept body filter block) at =
      let ends = at + statements_size body in
      let begins = ends + 1 + 2 in
      both_within _ _ at ends at (begins + statements_size block) (statements_regions body at) _
      (omega arith) (omega arith) (omega arith) (omega arith) (statements_within body at) (
        record { begins = omega arith; some = omega arith; ends = omega arith },
        wider begins (begins + statements_size block) _ _ (statements_regions block begins)
            (omega arith) (omega arith) (statements_within block begins),
      )
  statement_within (TryFinally body k last) at =
      let ends = at + statements_size body in
      both_within _ _ at ends at (ends + 3) (statements_regions body at) _
      (omega arith) (omega arith) (omega arith) (omega arith) (statements_within body at)
      (record { begins = omega arith; some = omega arith; ends = omega arith }, tt)

  pub statements_within : (ss : Statements) (at : ℕ)
      → AreWithin at (at + statements_size ss) (statements_regions ss at)
  statements_within Empty at = tt
  statements_within (Then s ss) at =
      let next = at + statement_size s in
      both_within _ _ at next next (next + statements_size ss) (statement_regions s at)
      (statements_regions ss next) (omega arith) (omega arith) (omega arith) (omega arith)
      (statement_within s at) (statements_within ss next)

-- ---- where one ends

-- no region begins at this label
abbrev pub NoneBegin : ℕ → List Region → Type 0
NoneBegin label rs = AllByRecursion (λ (r : Region). r.begin ≡ label → ⊥) rs

-- none of the second begins where one of the first ends
abbrev AreApart : List Region → List Region → Type 0
AreApart rs qs = AllByRecursion (λ (r : Region). NoneBegin r.end qs) rs

-- nor one of the same
abbrev pub NoneMeet : List Region → Type 0
NoneMeet rs = AreApart rs rs

apart_append : (rs xs ys : List Region) → AreApart rs xs → AreApart rs ys → AreApart rs (xs ++ ys)
apart_append [] xs ys h k = tt
apart_append (r ∷ rs) xs ys h k = (
  all_append (λ (q : Region). q.begin ≡ r.end → ⊥) xs ys h.0 k.0,
  apart_append rs xs ys h.1 k.1,
)

-- of ranges one after another
earlier_apart : (low mid mid' high : ℕ) (rs qs : List Region) → mid ≤ mid' → AreWithin low mid rs
    → AreWithin mid' high qs → AreApart rs qs
earlier_apart low mid mid' high rs qs l h k =
    all_map (IsWithin low mid) (λ (r : Region). NoneBegin r.end qs) rs
    (λ r w. all_map (IsWithin mid' high) (λ (q : Region). q.begin ≡ r.end → ⊥) qs
    (λ q v e. (let a = w.ends in let b = v.begins in absurd (omega arith))) k) h

later_apart : (low mid mid' high : ℕ) (rs qs : List Region) → mid ≤ mid' → AreWithin low mid rs
    → AreWithin mid' high qs → AreApart qs rs
later_apart low mid mid' high rs qs l h k =
    all_map (IsWithin mid' high) (λ (q : Region). NoneBegin q.end rs) qs
    (λ q v. all_map (IsWithin low mid) (λ (r : Region). r.begin ≡ q.end → ⊥) rs
    (λ r w e. (let a = w.ends in let a' = w.some in let b = v.begins in let c = v.some in
    absurd (omega arith))) h) k

both_apart : (rs qs : List Region) → NoneMeet rs → NoneMeet qs → AreApart rs qs → AreApart qs rs
    → NoneMeet (rs ++ qs)
both_apart rs qs h k a b = all_append (λ (r : Region). NoneBegin r.end (rs ++ qs)) rs qs
    (apart_append rs rs qs h a) (apart_append qs rs qs b k)

next_apart : (low mid mid' high : ℕ) (rs qs : List Region) → mid ≤ mid' → AreWithin low mid rs
    → AreWithin mid' high qs → NoneMeet rs → NoneMeet qs → NoneMeet (rs ++ qs)
next_apart low mid mid' high rs qs l h k m n = both_apart rs qs m n
    (earlier_apart low mid mid' high rs qs l h k) (later_apart low mid mid' high rs qs l h k)

-- the region of a `__try`, after those of its body
own_apart : (at ends : ℕ) (rs : List Region) (own : Region) → own.begin ≡ at
    → own.end ≡ ends + 1 → at ≤ ends → AreWithin at ends rs → NoneMeet rs
    → NoneMeet (rs ++ own ∷ [])
own_apart at ends rs own b e l h m =
    both_apart rs (own ∷ []) m (((λ x. absurd (omega arith)), tt), tt)
    (all_map (IsWithin at ends) (λ (r : Region). NoneBegin r.end (own ∷ [])) rs
    (λ r w. ((λ x. (let a = w.begins in let c = w.some in absurd (omega arith))), tt)) h) (
      all_map (IsWithin at ends) (λ (r : Region). r.begin ≡ own.end → ⊥) rs
          (λ r w x. (let a = w.ends in let c = w.some in absurd (omega arith))) h,
      tt,
    )

mutual
  -- no region of a statement begins where one ends
  pub statement_none_meet : (s : Statement) (at : ℕ) → NoneMeet (statement_regions s at)
  statement_none_meet (Declare d) at = tt
  statement_none_meet (Block ss) at = statements_none_meet ss at
  statement_none_meet (Evaluate e) at = tt
  statement_none_meet (If c s) at = statement_none_meet s (at + expression_size c + 1)
  statement_none_meet (IfElse c s t) at =
      let then = at + expression_size c + 1 in
      let otherwise = then + statement_size s + 1 in
      next_apart then (then + statement_size s) otherwise (otherwise + statement_size t)
      (statement_regions s then) (statement_regions t otherwise) (omega arith)
      (statement_within s then) (statement_within t otherwise) (statement_none_meet s then)
      (statement_none_meet t otherwise)
  statement_none_meet (For ds first c next s) at = statement_none_meet s
      (at + all_declared_size ds + discarded_size first + condition_size c)
  statement_none_meet (DoWhile s c) at = statement_none_meet s at
  statement_none_meet (Return e) at = tt
  statement_none_meet Break at = tt
  statement_none_meet Continue at = tt
  statement_none_meet Leave at = tt
  statement_none_meet (TryExcept body filter block) at =
      let ends = at + statements_size body in
      let target = ends + 1 in
      let own = region at target (except_kind filter target) in
      let rs = statements_regions body at in
      let qs = statements_regions block (target + 2) in
      let w = statements_within body at in
      subst NoneMeet (append_assoc rs (own ∷ []) qs)
      (next_apart at (target + 1) (target + 2) (target + 2 + statements_size block)
      (rs ++ own ∷ []) qs (omega arith)
      (both_within at (target + 1) at ends at (target + 1) rs (own ∷ []) (omega arith)
      (omega arith) (omega arith) (omega arith) w
      (record { begins = omega arith; some = omega arith; ends = omega arith }, tt))
      (statements_within block (target + 2))
      (own_apart at ends rs own refl refl (omega arith) w (statements_none_meet body at))
      (statements_none_meet block (target + 2)))
  statement_none_meet (TryFinally body k last) at =
      let ends = at + statements_size body in
      own_apart at ends (statements_regions body at) (region at (ends + 1) (kinds.Finally (k - 1)))
      refl refl (omega arith) (statements_within body at) (statements_none_meet body at)

  pub statements_none_meet : (ss : Statements) (at : ℕ) → NoneMeet (statements_regions ss at)
  statements_none_meet Empty at = tt
  statements_none_meet (Then s ss) at =
      let next = at + statement_size s in
      next_apart at next next (next + statements_size ss) (statement_regions s at)
      (statements_regions ss next) (omega arith) (statement_within s at)
      (statements_within ss next) (statement_none_meet s at) (statements_none_meet ss next)
