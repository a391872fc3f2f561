-- Two turns that end alike, or lead to configurations that differ in their locals alone.
use Rattle.std.proofs.Common.{◌≡◌, ℕ, ◌+◌, List, [], length, refl, sym, subst, ◌∙◌}
use Rattle.std.specs.Prelude.{Bool, true, false, nat_lt, Option, Some, None}
use Rattle.lowering_locals.specs.Words.{Event, Deep, Store, Configuration, Seen, Finished, Stuck, Next, pick, with_some, deeper, Running}

-- the same with other locals
abbrev pub over_store : Store → List (List ℕ) → Store
over_store s ys = record s { activations = ys }

abbrev pub over : Configuration → List (List ℕ) → Configuration
over c ys = record c { store = over_store c.store ys }

pub data Both (R : Configuration → List (List ℕ) → Type 0) (f g : Next → Seen) : Type 0 where
  Halt : (s : Seen) → ((next : Next) → f next ≡ s) → ((next : Next) → g next ≡ s) → Both R f g
  Move : (c : Configuration) (ys : List (List ℕ)) → R c ys → ((next : Next) → f next ≡ next c)
      → ((next : Next) → g next ≡ next (over c ys)) → Both R f g

module _ (R : Configuration → List (List ℕ) → Type 0) where
  pub pick_both : (b : Bool) (f g f' g' : Next → Seen) → Both R f f' → Both R g g'
      → Both R (λ next. pick b (f next) (g next)) (λ next. pick b (f' next) (g' next))
  unfolding pick
  pick_both true f g f' g' p q = p
  pick_both false f g f' g' p q = q

  some_of : {A : Type 0} (es : List Event) (o : Option A) (f f' : Next → A → Seen)
      → ((x : A) → o ≡ Some x → Both R (λ next. f next x) (λ next. f' next x))
      → Both R (λ next. with_some es o (f next)) (λ next. with_some es o (f' next))
  unfolding with_some
  some_of es None f f' t = Halt (Stuck es) (λ next. refl) (λ next. refl)
  some_of es (Some x) f f' t = t x refl

  pub some_both : {A : Type 0} (es : List Event) (o o' : Option A) (f f' : Next → A → Seen) → o' ≡ o
      → ((x : A) → o ≡ Some x → Both R (λ next. f next x) (λ next. f' next x))
      → Both R (λ next. with_some es o (f next)) (λ next. with_some es o' (f' next))
  some_both es o o' f f' same t = subst (λ x. Both R (λ next. with_some es o (f next))
      (λ next. with_some es x (f' next))) (sym same) (some_of es o f f' t)

  pub deeper_both : (n held : ℕ) (store : Store) (ys : List (List ℕ)) (es : List Event)
      (f f' : Next → Seen) → length ys ≡ length store.activations → Both R f f'
      → Both R (λ next. deeper n held store es (f next))
      (λ next. deeper n held (over_store store ys) es (f' next))
  deeper_both n held store ys es f f' same t =
      let ended : Next → Seen = λ next. Finished (Deep 1001) es in
      subst (λ m. Both R (λ next. deeper n held store es (f next))
      (λ next. pick (nat_lt 1000 (m + held + n)) (Finished (Deep 1001) es) (f' next))) (sym same)
      (pick_both (nat_lt 1000 (length store.activations + held + n)) ended f ended f'
      (Halt (Finished (Deep 1001) es) (λ next. refl) (λ next. refl)) t)

differ : Running [] ≡ Stuck [] → ⊥
differ e = cc

-- what ends doesn't continue
pub ends_or_moves : (f : Next → Seen) (s : Seen) (c : Configuration) → ((next : Next) → f next ≡ s)
    → ((next : Next) → f next ≡ next c) → ⊥
ends_or_moves f s c e h = differ (sym (h (λ c. Running [])) ∙ e (λ c. Running [])
    ∙ sym (e (λ c. Stuck [])) ∙ h (λ c. Stuck []))
