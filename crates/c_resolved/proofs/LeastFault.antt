-- The fault that is reported is the least.
use Rattle.std.proofs.Common.{◌≡◌, ◌<◌, ◌≤◌, ◌⊎◌, inl, inr, ℕ, refl, sym, subst, ◌∙◌, arith}
use Rattle.std.proofs.lemmas.Bool.{ltb-true, ltb-false, eqb-true, eqb-false, and_parts, and_cases, or_cases, or_parts, cases_order}
use Rattle.std.specs.Prelude.{zero, suc, Bool, true, false, ◌&&◌, nat_eq, nat_lt, if◌then◌else◌, List, [], ◌∷◌, slice_get, Option, Some, None, MatchOption}
use Rattle.c_resolved.specs.Words.{rank, is_earlier, earlier, least, FaultAt, IsNoLater, IsLeast, LeastIsReported}

itself : (f : FaultAt) → IsNoLater f f
itself f = inr (refl, omega arith)

through : (f g h : FaultAt) → IsNoLater f g → IsNoLater g h → IsNoLater f h
through f g h (inl p) (inl q) = inl (omega arith)
through f g h (inl p) (inr q) = inl (omega (arith, q.0))
through f g h (inr p) (inl q) = inl (omega (arith, p.0))
through f g h (inr p) (inr q) = inr (p.0 ∙ q.0, omega (arith, p.1, q.1))

earlier_is : (f g : FaultAt) → is_earlier f g ≡ true → IsNoLater f g
earlier_is f g h = by_parts (or_cases (nat_lt f.at g.at)
    (nat_eq f.at g.at && nat_lt (rank f.fault) (rank g.fault)) h)
  where
    by_parts : (nat_lt f.at g.at ≡ true) ⊎ ((nat_eq f.at g.at
        && nat_lt (rank f.fault) (rank g.fault)) ≡ true) → IsNoLater f g
    by_parts (inl p) = inl (ltb-true f.at g.at p)
    by_parts (inr p) =
        let parts = and_parts (nat_eq f.at g.at) (nat_lt (rank f.fault) (rank g.fault)) p in
        let below = ltb-true (rank f.fault) (rank g.fault) parts.1 in
        inr (eqb-true f.at g.at parts.0, omega arith)

not_earlier : (f g : FaultAt) → is_earlier f g ≡ false → IsNoLater g f
not_earlier f g h =
    let parts = or_parts (nat_lt f.at g.at) (nat_eq f.at g.at
    && nat_lt (rank f.fault) (rank g.fault)) h in
    let place = ltb-false f.at g.at parts.0 in
    by_rule place (and_cases (nat_eq f.at g.at) (nat_lt (rank f.fault) (rank g.fault)) parts.1)
    (cases_order f.at g.at)
  where
    by_rule : g.at ≤ f.at → (nat_eq f.at g.at ≡ false)
        ⊎ (nat_lt (rank f.fault) (rank g.fault) ≡ false)
        → (f.at ≡ g.at) ⊎ ((f.at < g.at) ⊎ (g.at < f.at)) → IsNoLater g f
    by_rule place (inl p) (inl e) = absurd (eqb-false f.at g.at p e)
    by_rule place (inr p) (inl e) = inr (sym e, ltb-false (rank f.fault) (rank g.fault) p)
    by_rule place q (inr (inl e)) = absurd (omega arith)
    by_rule place q (inr (inr e)) = inl e

alone : (f : FaultAt) (fs : List FaultAt) → fs ≡ [] → IsLeast (f ∷ fs) f
alone f fs e = record { among = (0, refl); first = first }
  where
    nothing : (i : ℕ) (g : FaultAt) → slice_get fs i ≡ Some g → ⊥
    nothing i g h = let none : slice_get {X = FaultAt} [] i
        ≡ Some g = subst (λ xs. slice_get xs i ≡ Some g) e h in absurd (cc)

    first : (i : ℕ) (g : FaultAt) → slice_get (f ∷ fs) i ≡ Some g → IsNoLater f g
    first zero g h = let same : f ≡ g = cc in subst (IsNoLater f) same (itself f)
    first (suc i) g h = absurd (nothing i g h)

with_one : (f b : FaultAt) (fs : List FaultAt) → IsLeast fs b
    → IsLeast (f ∷ fs) (earlier f (Some b))
with_one f b fs l = by_order (is_earlier b f) refl
  where
    following : IsNoLater b f → (i : ℕ) (g : FaultAt) → slice_get (f ∷ fs) i ≡ Some g
        → IsNoLater b g
    following p zero g h = let same : f ≡ g = cc in subst (IsNoLater b) same p
    following p (suc i) g h = l.first i g h

    before : IsNoLater f b → (i : ℕ) (g : FaultAt) → slice_get (f ∷ fs) i ≡ Some g → IsNoLater f g
    before p zero g h = let same : f ≡ g = cc in subst (IsNoLater f) same (itself f)
    before p (suc i) g h = through f b g p (l.first i g h)

    by_order : (x : Bool) → is_earlier b f ≡ x → IsLeast (f ∷ fs) (if x then b else f)
    by_order true e = record {
      among = (suc l.among.0, l.among.1);
      first = following (earlier_is b f e);
    }
    by_order false e = record { among = (0, refl); first = before (not_earlier b f e) }

pub least_is_reported : LeastIsReported
least_is_reported [] = refl
least_is_reported (f ∷ fs) = by_rest (least fs) (least_is_reported fs)
  where
    by_rest : (o : Option FaultAt) → MatchOption o (fs ≡ []) (IsLeast fs)
        → IsLeast (f ∷ fs) (earlier f o)
    by_rest None e = alone f fs e
    by_rest (Some b) l = with_one f b fs l
