-- What is seen after several turns.
use Rattle.std.proofs.Common.{◌≡◌, ℕ, zero, suc, ◌+◌, refl, ap, ◌∙◌, arith}
use Rattle.std.specs.Prelude.{List, Option, Some, None}
use Rattle.lowering_invariants.specs.Words.{Event, LinearProgram, Configuration, Seen, Stuck, with_some, act, instruction_at, exec, IsTurn, Comes}

-- where a test for something doesn't end the run, it is there
pub record There {A : Type 0} (o : Option A) (go : A → Seen) : Type 0 where
  pub it : A
  pub is : o ≡ Some it
  pub moves : (es : List Event) → go it ≡ Stuck es → ⊥

pub there : {A : Type 0} (es : List Event) (o : Option A) (go : A → Seen)
    → ((after : List Event) → with_some es o go ≡ Stuck after → ⊥) → There o go
unfolding with_some
there es None go h = absurd (h es refl)
there es (Some x) go h = record { it = x; is = refl; moves = h }

module _ (program : LinearProgram) where
  one_more : (n : ℕ) (c : Configuration) → exec program (suc n) c
      ≡ with_some c.events (instruction_at program c) (λ i. act program i (exec program n) c)
  unfolding exec
  one_more n c = refl

  turned : (n : ℕ) (c d : Configuration) → IsTurn program c d
      → exec program (suc n) c ≡ exec program n d
  unfolding with_some
  turned n c d t = one_more n c ∙ ap (λ o. with_some c.events o
      (λ i. act program i (exec program n) c)) t.at ∙ t.goes (exec program n)

  pub come : (n k : ℕ) (c d : Configuration) → Comes program n c d
      → exec program (n + k) c ≡ exec program k d
  come zero k c d h = let e : 0 + k ≡ k = omega arith in ap (λ m. exec program m c) e
      ∙ ap (exec program k) h
  come (suc n) k c d h =
      let e : suc n + k ≡ suc (n + k) = omega arith in
      ap (λ m. exec program m c) e ∙ turned (n + k) c h.0 h.1 ∙ come n k h.0 d h.2
