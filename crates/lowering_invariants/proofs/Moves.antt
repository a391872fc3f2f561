-- A turn is an end, or leads to one configuration, whatever is done from there on.
use Rattle.std.proofs.Common.{◌≡◌, ℕ, zero, suc, ◌+◌, List, [], length, refl, sym, subst, ◌∙◌}
use Rattle.std.specs.Prelude.{Bool, true, false, nat_lt, Option, Some, None}
use Rattle.lowering_invariants.specs.Words.{Event, Deep, LinearProgram, Store, Configuration, Seen, Running, Finished, Stuck, Next, pick, with_some, deeper, IsTurn, Comes}
use Rattle.lowering_invariants.proofs.Same.{alike_is_same}

pub data Turn (P : Configuration → Type 0) (f : Next → Seen) : Type 0 where
  Halts : (s : Seen) → ((next : Next) → f next ≡ s) → Turn P f
  Moves : (d : Configuration) → P d → ((next : Next) → f next ≡ next d) → Turn P f

module _ (P : Configuration → Type 0) where
  pub pick_turn : (b : Bool) (f g : Next → Seen) → (b ≡ true → Turn P f) → (b ≡ false → Turn P g)
      → Turn P (λ next. pick b (f next) (g next))
  unfolding pick
  pick_turn true f g p q = p refl
  pick_turn false f g p q = q refl

  pub some_turn : {A : Type 0} (es : List Event) (o : Option A) (f : Next → A → Seen)
      → ((x : A) → o ≡ Some x → Turn P (λ next. f next x))
      → Turn P (λ next. with_some es o (f next))
  unfolding with_some
  some_turn es None f t = Halts (Stuck es) (λ next. refl)
  some_turn es (Some x) f t = t x refl

  pub deeper_turn : (n held : ℕ) (store : Store) (es : List Event) (f : Next → Seen) → Turn P f
      → Turn P (λ next. deeper n held store es (f next))
  deeper_turn n held store es f t =
      pick_turn (nat_lt 1000 (length store.activations + held + n))
      (λ next. Finished (Deep 1001) es) f (λ e. Halts (Finished (Deep 1001) es) (λ next. refl))
      (λ e. t)

  -- what it leads to
  pub kept : (f : Next → Seen) (d : Configuration) → Turn P f → ((next : Next) → f next ≡ next d)
      → P d
  kept f d (Halts s e) h = absurd (differ (sym (h (λ c. Running [])) ∙ e (λ c. Running [])
      ∙ sym (e (λ c. Stuck [])) ∙ h (λ c. Stuck [])))
    where
      differ : Running [] ≡ Stuck [] → ⊥
      differ e = cc
  kept f d (Moves d' p e) h = subst P (alike_is_same d' d (λ next. sym (e next) ∙ h next)) p

  -- what is kept by each turn is kept by several
  pub kept_by_all : (program : LinearProgram)
      → ((c d : Configuration) → IsTurn program c d → P c → P d) → (n : ℕ) (c d : Configuration)
      → Comes program n c d → P c → P d
  kept_by_all program step zero c d h p = subst P h p
  kept_by_all program step (suc n) c d h p = kept_by_all program step n h.0 d h.2 (step c h.0 h.1 p)
