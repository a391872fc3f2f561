-- A funclet more among those gathered.
use Rattle.std.proofs.Common.{◌≡◌, ◌≢◌, ℕ, ◌+◌, ◌<◌, ◌≤◌, Bool, true, false, cond, Option, Some, None, List, [], ◌∷◌, refl, sym, ap, ◌∙◌, arith, inl, inr}
use Rattle.std.specs.Prelude.{is_some}
use Rattle.std.specs.Ordering.{nat_cmp, is_eq, match_ordering}
use Rattle.std.specs.declared.cmp.Ordering.{Ordering}
use Rattle.std.specs.declared.cmp.Ordering.TheVariants.{Less, Equal, Greater}
use Rattle.std.specs.Cmp.{nat_cmp_is}
use Rattle.std.specs.Map.{lookup}
use Rattle.std.specs.BTreeMap.{is_at, insert_entry}
use Rattle.std.proofs.lemmas.Bool.{cases_lt, cases_eq, ne_eqb, eq-eqb, lt-ltb, le-ltb}
use Rattle.seh_dispatch.specs.Words.{Funclet, inserted, if_below, if_same, AreAscending, funclet_of, funclets_of}

less : (a b : ℕ) → a < b → nat_cmp a b ≡ Less
less a b lt = sym (nat_cmp_is a b Less lt)

same : (a b : ℕ) → a ≡ b → nat_cmp a b ≡ Equal
same a b e = sym (nat_cmp_is a b Equal e)

greater : (a b : ℕ) → b < a → nat_cmp a b ≡ Greater
greater a b lt = sym (nat_cmp_is a b Greater lt)

-- ---- what a look-up says of the first entry

looked : (a : ℕ) (e : ℕ × Bool) (es : List (ℕ × Bool)) (o : Ordering) → nat_cmp a e.0 ≡ o
    → lookup (is_at (nat_cmp a)) (e ∷ es) ≡ cond (is_eq o) (Some e.1)
    (lookup (is_at (nat_cmp a)) es)
looked a e es o h = ap (λ x. cond (is_eq x) (Some e.1) (lookup (is_at (nat_cmp a)) es)) h

later : (a : ℕ) (e : ℕ × Bool) (es : List (ℕ × Bool)) → a ≢ e.0
    → lookup (is_at (nat_cmp a)) (e ∷ es) ≡ lookup (is_at (nat_cmp a)) es
later a e es n = elim (cases_lt a e.0) [
  | inl lt ↦ looked a e es Less (less a e.0 lt)
  | inr ge ↦ looked a e es Greater (greater a e.0 (omega (arith, n)))
]

-- ---- the model's insertion, by the first funclet

module _ (a : ℕ) (b : Bool) (x : Funclet) (xs : List Funclet) where
  pub below : a < x.address
      → inserted a b (x ∷ xs) ≡ record { address = a; is_finally = b } ∷ x ∷ xs
  below lt = ap (if_below a b x xs (inserted a b xs)) (lt-ltb a x.address lt)

  pub there : a ≡ x.address → inserted a b (x ∷ xs) ≡ x ∷ xs
  there e =
      ap (if_below a b x xs (inserted a b xs)) (le-ltb a x.address (omega arith))
      ∙ ap (if_same a b x xs (inserted a b xs)) (eq-eqb a x.address e)

  pub above : x.address < a → inserted a b (x ∷ xs) ≡ x ∷ inserted a b xs
  above lt =
      ap (if_below a b x xs (inserted a b xs)) (le-ltb a x.address (omega arith))
      ∙ ap (if_same a b x xs (inserted a b xs)) (ne_eqb a x.address (λ e. absurd (omega arith)))

-- ---- an address that isn't there yet

entry_in : (a : ℕ) (b : Bool) (e : ℕ × Bool) (es : List (ℕ × Bool)) (o : Ordering)
    → nat_cmp a e.0 ≡ o → insert_entry nat_cmp (e ∷ es) a b
    ≡ match_ordering o ((a, b) ∷ e ∷ es) ((e.0, b) ∷ es) (e ∷ insert_entry nat_cmp es a b)
entry_in a b e es o h = ap (λ x. match_ordering x ((a, b) ∷ e ∷ es) ((e.0, b) ∷ es)
    (e ∷ insert_entry nat_cmp es a b)) h

never : {X : Type 0} {v : X} → (let o : Option X = Some v in o) ≡ None → ⊥
never h = absurd cc

entry_new : (a : ℕ) (b : Bool) (es : List (ℕ × Bool)) → lookup (is_at (nat_cmp a)) es ≡ None
    → funclets_of (insert_entry nat_cmp es a b) ≡ inserted a b (funclets_of es)
entry_new a b [] none = refl
entry_new a b (e ∷ es) none = elim (cases_lt a e.0) [
  | inl lt ↦ ap funclets_of (entry_in a b e es Less (less a e.0 lt))
      ∙ sym (below a b (funclet_of e) (funclets_of es) lt)
  | inr ge ↦ elim (cases_eq a e.0) [
    | inl is ↦ absurd (never (sym (looked a e es Equal (same a e.0 is)) ∙ none))
    | inr n ↦
        let gt : e.0 < a = omega (arith, n) in
        ap funclets_of (entry_in a b e es Greater (greater a e.0 gt))
        ∙ ap (λ (t : List Funclet). funclet_of e ∷ t)
        (entry_new a b es (sym (later a e es n) ∙ none))
        ∙ sym (above a b (funclet_of e) (funclets_of es) gt)
  ]
]

-- ---- one that is

found_above : (low a : ℕ) (es : List (ℕ × Bool)) → AreAscending low (funclets_of es)
    → is_some (lookup (is_at (nat_cmp a)) es) ≡ true → low ≤ a
found_above low a [] up found = absurd cc
found_above low a (e ∷ es) up found = elim (cases_eq a e.0) [
  | inl is ↦ omega (arith, up.0, is)
  | inr n ↦
      let more = found_above (e.0 + 1) a es up.1 (sym (ap is_some (later a e es n)) ∙ found) in
      omega (arith, more, up.0)
]

entry_old : (low a : ℕ) (b : Bool) (es : List (ℕ × Bool)) → AreAscending low (funclets_of es)
    → is_some (lookup (is_at (nat_cmp a)) es) ≡ true
    → inserted a b (funclets_of es) ≡ funclets_of es
entry_old low a b [] up found = absurd cc
entry_old low a b (e ∷ es) up found = elim (cases_eq a e.0) [
  | inl is ↦ there a b (funclet_of e) (funclets_of es) is
  | inr n ↦
      let found' : is_some (lookup (is_at (nat_cmp a)) es)
      ≡ true = sym (ap is_some (later a e es n)) ∙ found in
      let more = found_above (e.0 + 1) a es up.1 found' in
      above a b (funclet_of e) (funclets_of es) (omega (arith, more))
      ∙ ap (λ (t : List Funclet). funclet_of e ∷ t) (entry_old (e.0 + 1) a b es up.1 found')
]

none_found : (o : Option Bool) → is_some o ≡ false → o ≡ None
none_found None h = refl
none_found (Some b) h = absurd cc

pub stays : (a : ℕ) (b : Bool) (es : List (ℕ × Bool)) → AreAscending 0 (funclets_of es)
    → true ≡ is_some (lookup (is_at (nat_cmp a)) es)
    → funclets_of es ≡ inserted a b (funclets_of es)
stays a b es up found = sym (entry_old 0 a b es up (sym found))

pub goes_in : (a : ℕ) (b : Bool) (es new : List (ℕ × Bool))
    → false ≡ is_some (lookup (is_at (nat_cmp a)) es) → new ≡ insert_entry nat_cmp es a b
    → funclets_of new ≡ inserted a b (funclets_of es)
goes_in a b es new none is = ap funclets_of is
    ∙ entry_new a b es (none_found (lookup (is_at (nat_cmp a)) es) (sym none))

pub ruleset inserting = (stays, goes_in)
