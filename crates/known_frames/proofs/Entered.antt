-- Registers set one by one.
use Rattle.std.proofs.Common.{◌≡◌, ℕ, ◌<◌, List, length, refl, ap, sym, ◌∙◌, Bool, true, false, [], ◌∷◌}
use Rattle.std.proofs.lemmas.Bool.{eqb-true, eqb-false, eq-eqb}
use Rattle.std.proofs.lemmas.List.{get_or-set_other}
use Rattle.std.proofs.lemmas.Grind.{get_or-set_at}
use Rattle.std.specs.Prelude.{nat_eq, slice_set, if◌then◌else◌, ◌||◌}
use Rattle.frame_known.specs.declared.known.Known.{Known}
use Rattle.frame_known.specs.declared.known.Known.TheVariants.{Nothing}
use Rattle.frame_known.specs.Knowledge.{with_known}
use Rattle.frame_known.specs.After.{forgotten}
use Rattle.known_frames.specs.Views.{registers_of}

set_if : (ks : List Known) (n : ℕ) (x : Known) (r : ℕ) (here : Bool) → nat_eq r n ≡ here
    → n < length ks → registers_of (slice_set ks n x) r ≡ with_known (registers_of ks) n x r
set_if ks n x r true e lt =
    get_or-set_at ks n r x Nothing (eqb-true r n e) lt
    ∙ ap (λ b. if b then x else registers_of ks r) (sym e)
set_if ks n x r false e lt =
    get_or-set_other ks n r x Nothing (eqb-false r n e)
    ∙ ap (λ b. if b then x else registers_of ks r) (sym e)

pub set_known : (ks : List Known) (n : ℕ) (x : Known) (r : ℕ) → n < length ks
    → registers_of (slice_set ks n x) r ≡ with_known (registers_of ks) n x r
set_known ks n x r lt = set_if ks n x r (nat_eq r n) refl lt

-- ---- forgotten

not_if : (n r : ℕ) (here : Bool) → nat_eq n r ≡ here → (n ≡ r → ⊥) → nat_eq n r ≡ false
not_if n r true e differ = absurd (differ (eqb-true n r e))
not_if n r false e differ = e

not_equal : (n r : ℕ) → (n ≡ r → ⊥) → nat_eq n r ≡ false
not_equal n r differ = not_if n r (nat_eq n r) refl differ

forgotten_if : (n r : ℕ) (f : ℕ → Known) (here : Bool) → nat_eq r n ≡ here
    → with_known f n Nothing r ≡ forgotten (n ∷ []) f r
forgotten_if n r f true e =
    ap (λ b. if b then Nothing else f r) e
    ∙ ap (λ b. if b || false then Nothing else f r) (sym (eq-eqb n r (sym (eqb-true r n e))))
forgotten_if n r f false e =
    ap (λ b. if b then Nothing else f r) e
    ∙ ap (λ b. if b || false then Nothing else f r)
    (sym (not_equal n r (λ e'. eqb-false r n e (sym e'))))

pub one_forgotten : (n r : ℕ) (f : ℕ → Known)
    → with_known f n Nothing r ≡ forgotten (n ∷ []) f r
one_forgotten n r f = forgotten_if n r f (nat_eq r n) refl

pub same_elsewhere : (f g : ℕ → Known) (n : ℕ) (x : Known) (r : ℕ) → f r ≡ g r
    → with_known f n x r ≡ with_known g n x r
same_elsewhere f g n x r e = ap (λ k. if nat_eq r n then x else k) e
