-- Registers that are loaded, in lists of the same ones.
use Rattle.std.proofs.Common.{◌≡◌, ℕ, Bool, true, false, ◌&&◌, ◌||◌, eqb, List, [], ◌∷◌, refl, sym, ap, ◌∙◌}
use Rattle.std.proofs.lemmas.Bool.{eqb-true}
use Rattle.eh_tables.specs.declared.code.UnwindOperation.{UnwindOperation}
use Rattle.eh_tables.specs.declared.code.UnwindOperation.TheVariants.{Push, Allocate, SetFrame, Save, SaveVector, MachineFrame}
use Rattle.frame_rules.specs.Body.{has, is_restored, are_restored}
use Rattle.unwind_check.specs.Steps.{HaveSame}

pub same_none : (qs : List ℕ) → qs ≡ [] → HaveSame qs []
same_none qs e = λ r. ap (has r) e

pub same_more : (qs rs ss : List ℕ) (r : ℕ) → HaveSame qs rs → ss ≡ r ∷ qs → HaveSame ss (r ∷ rs)
same_more qs rs ss r h e = λ q. ap (has q) e ∙ ap (λ b. eqb r q || b) (h q)

-- one that is there already
pub same_again : (qs rs : List ℕ) (r : ℕ) → HaveSame qs rs → has r qs ≡ true
    → HaveSame qs (r ∷ rs)
same_again qs rs r h e = λ q. go q (eqb r q) refl
  where
    go : (q : ℕ) (b : Bool) → eqb r q ≡ b → has q qs ≡ (eqb r q || has q rs)
    go q true t = ap (λ k. has k qs) (sym (eqb-true r q t)) ∙ e ∙ ap (λ b. b || has q rs) (sym t)
    go q false t = h q ∙ ap (λ b. b || has q rs) (sym t)

one_restored : (qs rs : List ℕ) → HaveSame qs rs → (x : UnwindOperation)
    → is_restored qs x ≡ is_restored rs x
one_restored qs rs h (Push r) = refl
one_restored qs rs h (Allocate n) = refl
one_restored qs rs h SetFrame = refl
one_restored qs rs h (Save r n) = h r
one_restored qs rs h (SaveVector r n) = refl
one_restored qs rs h (MachineFrame e) = refl

pub same_restored : (qs rs : List ℕ) → HaveSame qs rs → (ops : List UnwindOperation)
    → are_restored qs ops ≡ are_restored rs ops
same_restored qs rs h [] = refl
same_restored qs rs h (x ∷ xs) = ap (λ b. b && are_restored qs xs) (one_restored qs rs h x)
    ∙ ap (λ b. is_restored rs x && b) (same_restored qs rs h xs)
