-- Other numbers in the locals of one activation leave the others as they are.
use Rattle.std.proofs.Common.{◌≡◌, ℕ, suc, ◌+◌, ◌<◌, Bool, true, false, Option, List, [], ◌∷◌, length, refl, sym, ap, subst, ◌∙◌, arith, inl, inr}
use Rattle.std.specs.Prelude.{◌==◌}
use Rattle.std.proofs.lemmas.Bool.{eq-eqb, eqb-true, ne_eqb, false≢true}
use Rattle.x64_machine.specs.declared.cpu.Cpu.{Cpu}
use Rattle.linear_machine.specs.Frames.{Resumption}
use Rattle.match_bodies.specs.Words.{Functions, Funclet, LinearProgram, Item, Waits, Searches, Unwinds, ImagePlan, Resumes, OwnerHasFrame, BodyName, FunctionBody, FuncletBody, Activation, IsActivation, activations_below, leaf_values, HasSpace, with_values, with_values_if}

-- ---- activations

pub with_count : (acts : List Activation) (k : ℕ) (values : List ℕ)
    → length (with_values acts k values) ≡ length acts
with_count [] k values = refl
with_count (a ∷ outer) k values = by (k == length outer) (with_count outer k values)
  where
    by : (b : Bool) → length (with_values outer k values) ≡ length outer
        → length (with_values_if b a outer values (with_values outer k values)) ≡ length (a ∷ outer)
    by true e = refl
    by false e = ap suc e

pub same_space : (acts : List Activation) (k : ℕ) (values : List ℕ) (sp beside held : ℕ)
    → HasSpace sp beside (length acts + held)
    → HasSpace sp beside (length (with_values acts k values) + held)
same_space acts k values sp beside held s = subst (λ n. HasSpace sp beside (n + held))
    (sym (with_count acts k values)) s

pub is_lower : (acts : List Activation) (k base distance : ℕ) (register : ℕ → Option ℕ)
    → IsActivation acts k base distance register → k < length acts
is_lower [] k base distance register i = absurd i
is_lower (a ∷ outer) k base distance register (inl b) = omega (arith, b.number)
is_lower (a ∷ outer) k base distance register (inr i) =
    let e = is_lower outer k base distance register i in omega arith

-- each activation has the base that it had
pub still_is : (acts : List Activation) (k : ℕ) (values : List ℕ) (j base distance : ℕ)
    (register : ℕ → Option ℕ) → IsActivation acts j base distance register
    → IsActivation (with_values acts k values) j base distance register
still_is [] k values j base distance register i = absurd i
still_is (a ∷ outer) k values j base distance register i = by (k == length outer) i
    (λ h. still_is outer k values j base distance register h)
  where
    by : (b : Bool) → IsActivation (a ∷ outer) j base distance register
        → (IsActivation outer j base distance register
        → IsActivation (with_values outer k values) j base distance register)
        → IsActivation (with_values_if b a outer values (with_values outer k values)) j base
        distance register
    by true (inl h) rest = inl (record {
      number = h.number;
      base = h.base;
      distance = h.distance;
      registers = h.registers;
    })
    by true (inr h) rest = inr h
    by false (inl h) rest = inl (record {
      number = h.number ∙ sym (with_count outer k values);
      base = h.base;
      distance = h.distance;
      registers = h.registers;
    })
    by false (inr h) rest = inr (rest h)

-- the first one, and one of the others
pub first_changes : (a : Activation) (outer : List Activation) (k : ℕ) (values : List ℕ)
    → k ≡ length outer → with_values (a ∷ outer) k values ≡ record a { values = values } ∷ outer
first_changes a outer k values e = ap (λ b. with_values_if b a outer values
    (with_values outer k values)) (eq-eqb k (length outer) e)

pub later_changes : (a : Activation) (outer : List Activation) (k : ℕ) (values : List ℕ)
    → k < length outer → with_values (a ∷ outer) k values ≡ a ∷ with_values outer k values
later_changes a outer k values lt = ap (λ b. with_values_if b a outer values
    (with_values outer k values)) (ne_eqb k (length outer) (λ e. absurd (omega arith)))

-- a leaf function's own, where that is another one
pub leaf_values_kept : (leaf : Bool) (name : BodyName) (acts : List Activation) (k : ℕ)
    (values : List ℕ) → (k ≡ length (activations_below name acts) → leaf ≡ false)
    → leaf_values leaf name (with_values acts k values) ≡ leaf_values leaf name acts
leaf_values_kept false name acts k values owner = refl
leaf_values_kept true (FuncletBody j) acts k values owner = refl
leaf_values_kept true (FunctionBody f) [] k values owner = refl
leaf_values_kept true (FunctionBody f) (a ∷ outer) k values owner = by (k == length outer) refl
  where
    by : (b : Bool) → (k == length outer) ≡ b → leaf_values true (FunctionBody f)
        (with_values_if b a outer values (with_values outer k values)) ≡ a.values
    by true e = absurd (false≢true (sym (owner (eqb-true k (length outer) e))))
    by false e = refl

-- so what a search continues continues as before: it is not the owner, or it has a frame
module _ (t : Functions) (fs : List Funclet) (program : LinearProgram) (p : ImagePlan) (k : ℕ)
    (values : List ℕ) where
  pub resumes_kept : (resumption : Resumption) (below : List Item) (acts : List Activation)
      (saved : Cpu) → OwnerHasFrame t fs program p k below acts
      → Resumes t fs program p resumption below acts saved
      → Resumes t fs program p resumption below (with_values acts k values) saved
  resumes_kept resumption [] acts saved o h = tt
  resumes_kept resumption (Waits b ∷ below) acts saved o h =
      ap (λ (vs : List ℕ). p.resumes resumption b vs saved)
      (leaf_values_kept (p.leaf b.body) b.body acts k values o.0) ∙ h
  resumes_kept resumption (Searches exception other asked ∷ below) acts saved o h = tt
  resumes_kept resumption (Unwinds rest target ∷ below) acts saved o h = tt

-- ---- the list
