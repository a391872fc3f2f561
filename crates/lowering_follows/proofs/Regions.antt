-- Which regions hold an instruction.
use Rattle.std.proofs.Common.{◌≡◌, ◌⊎◌, inl, inr, ℕ, ◌+◌, ◌-◌, ◌<◌, ◌≤◌, List, [], ◌∷◌, ◌++◌, filter, refl, ap, ◌∙◌, arith, append-nil}
use Rattle.std.proofs.lemmas.Bool.{lt-ltb, le-ltb, le-leb}
use Rattle.std.proofs.lemmas.List.Elements.{filter-append}
use Rattle.std.specs.Prelude.{Bool, true, false, cond, ◌&&◌, nat_lt, nat_le}
use Rattle.lowering_follows.specs.Words.{Statement, Declare, Block, Evaluate, If, IfElse, For, DoWhile, Break, Continue, Leave, TryExcept, TryFinally, Statements, Empty, Then, Region, holds, expression_size, discarded_size, condition_size, all_declared_size, statement_size, statements_size, except_kind, region, statement_regions, statements_regions, Return}
use Rattle.linear_code.specs.declared.program.RegionKind.TheVariants as kinds

abbrev pub held : ℕ → List Region → List Region
held pc regions = filter (holds pc) regions

-- ---- one region

abbrev pub OutOf : ℕ → ℕ → ℕ → Type 0
OutOf lo hi pc = (pc < lo) ⊎ (hi ≤ pc)

pub within_out : (lo hi lo' hi' pc : ℕ) → lo ≤ lo' → hi' ≤ hi → OutOf lo hi pc → OutOf lo' hi' pc
within_out lo hi lo' hi' pc a b (inl p) = inl (omega arith)
within_out lo hi lo' hi' pc a b (inr p) = inr (omega arith)

and_false : (b : Bool) → (b && false) ≡ false
and_false true = refl
and_false false = refl

lt-leb : (a b : ℕ) → b < a → nat_le a b ≡ false
lt-leb a b h = grind arith

first_out : (r : Region) (rs : List Region) (pc : ℕ) → holds pc r ≡ false
    → held pc (r ∷ rs) ≡ held pc rs
first_out r rs pc h = ap (λ b. cond b (r ∷ held pc rs) (held pc rs)) h

first_in : (r : Region) (rs : List Region) (pc : ℕ) → holds pc r ≡ true
    → held pc (r ∷ rs) ≡ r ∷ held pc rs
first_in r rs pc h = ap (λ b. cond b (r ∷ held pc rs) (held pc rs)) h

pub own_out : (r : Region) (rs : List Region) (pc : ℕ) → OutOf r.begin r.end pc
    → held pc (r ∷ rs) ≡ held pc rs
own_out r rs pc (inl p) = first_out r rs pc (ap (λ b. b && nat_lt pc r.end) (lt-leb r.begin pc p))
own_out r rs pc (inr p) = first_out r rs pc (ap (λ b. nat_le r.begin pc && b) (le-ltb pc r.end p)
    ∙ and_false (nat_le r.begin pc))

pub own_in : (r : Region) (rs : List Region) (pc : ℕ) → r.begin ≤ pc → pc < r.end
    → held pc (r ∷ rs) ≡ r ∷ held pc rs
own_in r rs pc p q = first_in r rs pc (ap (λ b. b && nat_lt pc r.end) (le-leb r.begin pc p)
    ∙ lt-ltb pc r.end q)

-- ---- several

pub held_append : (a b : List Region) (pc : ℕ) → held pc (a ++ b) ≡ held pc a ++ held pc b
held_append a b pc = filter-append (holds pc) a b

pub left_only : (a b : List Region) (pc : ℕ) → held pc b ≡ [] → held pc (a ++ b) ≡ held pc a
left_only a b pc e = held_append a b pc ∙ ap (λ rs. held pc a ++ rs) e ∙ append-nil (held pc a)

pub right_only : (a b : List Region) (pc : ℕ) → held pc a ≡ [] → held pc (a ++ b) ≡ held pc b
right_only a b pc e = held_append a b pc ∙ ap (λ rs. rs ++ held pc b) e

-- ---- those of a statement hold its own instructions alone

mutual
  pub outside : (s : Statement) (at pc : ℕ) → OutOf at (at + statement_size s) pc
      → held pc (statement_regions s at) ≡ []
  outside (Declare d) at pc o = refl
  outside (Block ss) at pc o = all_outside ss at pc o
  outside (Evaluate e) at pc o = refl
  outside (If c s) at pc o = outside s (at + expression_size c + 1) pc
      (within_out at (at + statement_size (If c s)) _ _ pc (omega arith) (omega arith) o)
  outside (IfElse c s t) at pc o =
      let then = at + expression_size c + 1 in
      let otherwise = then + statement_size s + 1 in
      let all = at + statement_size (IfElse c s t) in
      right_only (statement_regions s then) (statement_regions t otherwise) pc
      (outside s then pc (within_out at all _ _ pc (omega arith) (omega arith) o))
      ∙ outside t otherwise pc (within_out at all _ _ pc (omega arith) (omega arith) o)
  outside (For ds first c next s) at pc o =
      outside s (at + all_declared_size ds + discarded_size first + condition_size c) pc
      (within_out at (at + statement_size (For ds first c next s)) _ _ pc (omega arith)
      (omega arith) o)
  outside (DoWhile s c) at pc o = outside s at pc
      (within_out at (at + statement_size (DoWhile s c)) _ _ pc (omega arith) (omega arith) o)
  outside (Return e) at pc o = refl
  outside Break at pc o = refl
  outside Continue at pc o = refl
  outside Leave at pc o = refl
  outside (TryExcept body filter block) at pc o =
      let target = at + statements_size body + 1 in
      let own = region at target (except_kind filter target) in
      let all = at + statement_size (TryExcept body filter block) in
      right_only (statements_regions body at) (own ∷ statements_regions block (target + 2)) pc
      (all_outside body at pc (within_out at all _ _ pc (omega arith) (omega arith) o))
      ∙ own_out own (statements_regions block (target + 2)) pc
      (within_out at all _ _ pc (omega arith) (omega arith) o)
      ∙ all_outside block (target + 2) pc (within_out at all _ _ pc (omega arith) (omega arith) o)
  outside (TryFinally body k last) at pc o =
      let own = region at (at + statements_size body + 1) (kinds.Finally (k - 1)) in
      let all = at + statement_size (TryFinally body k last) in
      right_only (statements_regions body at) (own ∷ []) pc
      (all_outside body at pc (within_out at all _ _ pc (omega arith) (omega arith) o))
      ∙ own_out own [] pc (within_out at all _ _ pc (omega arith) (omega arith) o)

  pub all_outside : (ss : Statements) (at pc : ℕ) → OutOf at (at + statements_size ss) pc
      → held pc (statements_regions ss at) ≡ []
  all_outside Empty at pc o = refl
  all_outside (Then s ss) at pc o =
      let all = at + statements_size (Then s ss) in
      right_only (statement_regions s at) (statements_regions ss (at + statement_size s)) pc
      (outside s at pc (within_out at all _ _ pc (omega arith) (omega arith) o))
      ∙ all_outside ss (at + statement_size s) pc
      (within_out at all _ _ pc (omega arith) (omega arith) o)
