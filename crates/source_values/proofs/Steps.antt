-- Steps of the machine, one after another.
use Rattle.std.proofs.Common.{◌≡◌, ℕ, zero, suc, ◌+◌, refl, ap, ◌∙◌, arith}
use Rattle.c_checked.specs.Program.{Program}
use Rattle.source_machine.specs.Machine.{Machine, step}
use Rattle.source_machine.specs.Runs.{after}
use Rattle.source_values.specs.Leading.{Leads}

module _ (program : Program) where
  pub after_sum : (j k : ℕ) (m : Machine)
      → after program (j + k) m ≡ after program k (after program j m)
  after_sum zero k m =
      let none : 0 + k ≡ k = omega arith in
      ap (λ (n : ℕ). after program n m) none
  after_sum (suc j) k m =
      let one : suc j + k ≡ suc (j + k) = omega arith in
      ap (λ (n : ℕ). after program n m) one ∙ after_sum j k (step program m)

  -- a step after some is one more
  pub after_more : (k : ℕ) (m : Machine)
      → step program (after program k m) ≡ after program (suc k) m
  after_more zero m = refl
  after_more (suc k) m = after_more k (step program m)

  -- so many steps, and more
  pub leads_on : (k : ℕ) (a b c : Machine) → after program k a ≡ b → Leads program b c
      → Leads program a c
  leads_on k a b c e r = record {
    steps = k + r.steps;
    is = after_sum k r.steps a ∙ ap (after program r.steps) e ∙ r.is;
  }

  pub leads_then : (a b c : Machine) → Leads program a b → Leads program b c → Leads program a c
  leads_then a b c l r = leads_on l.steps a b c l.is r
