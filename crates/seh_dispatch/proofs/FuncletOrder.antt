-- The funclets of an image lie in the order of their addresses, so that one is found by halves.
use Rattle.std.proofs.Common.{◌≡◌, ◌≢◌, ℕ, zero, suc, ◌+◌, ◌<◌, ◌≤◌, Bool, true, false, eqb, List, [], ◌∷◌, length, get_or, refl, sym, ap, subst, ◌∙◌, arith, inl, inr}
use Rattle.std.specs.List.Sorted.{IsNonDecreasingBy}
use Rattle.std.proofs.lemmas.Bool.{cases_lt, cases_eq, ne_eqb, eq-eqb, lt-ltb, le-ltb}
use Rattle.seh_dispatch.specs.Words.{Cpu, ScopeRecord, Entry, Funclet, inserted, if_below, if_same, with_row, of_rows, of_entries, funclets, by_kind, if_here, arrivals, AreAscending}

-- ---- each that is put to its place keeps the order

pub inserted_ascends : (low a : ℕ) (b : Bool) (xs : List Funclet) → low ≤ a → AreAscending low xs
    → AreAscending low (inserted a b xs)
inserted_ascends low a b [] le up = (le, tt)
inserted_ascends low a b (x ∷ xs) le up = elim (cases_lt a x.address) [
  | inl lt ↦ subst (λ c. AreAscending low (if_below a b x xs (inserted a b xs) c))
      (sym (lt-ltb a x.address lt)) (le, (omega arith, up.1))
  | inr ge ↦ subst (λ c. AreAscending low (if_below a b x xs (inserted a b xs) c))
      (sym (le-ltb a x.address ge)) (elim (cases_eq a x.address) [
        | inl e ↦ subst (λ c. AreAscending low (if_same a b x xs (inserted a b xs) c))
            (sym (eq-eqb a x.address e)) up
        | inr n ↦ subst (λ c. AreAscending low (if_same a b x xs (inserted a b xs) c))
            (sym (ne_eqb a x.address n)) (
              up.0,
              inserted_ascends (x.address + 1) a b xs (omega (arith, n))
                  up.1,
            )
      ])
]

pub row_ascends : (r : ScopeRecord) (fs : List Funclet) (b : Bool) → AreAscending 0 fs
    → AreAscending 0 (with_row r fs b)
row_ascends r fs true up = up
row_ascends r fs false up = inserted_ascends 0 r.handler_address (eqb r.jump_target 0) fs
    (omega arith) up

rows_ascend : (rows : List ScopeRecord) (fs : List Funclet) → AreAscending 0 fs
    → AreAscending 0 (of_rows rows fs)
rows_ascend [] fs up = up
rows_ascend (r ∷ rows) fs up = rows_ascend rows (with_row r fs (eqb r.handler_address 1))
    (row_ascends r fs (eqb r.handler_address 1) up)

entries_ascend : (es : List Entry) (fs : List Funclet) → AreAscending 0 fs
    → AreAscending 0 (of_entries es fs)
entries_ascend [] fs up = up
entries_ascend (e ∷ es) fs up = entries_ascend es (of_rows e.info.scopes fs)
    (rows_ascend e.info.scopes fs up)

pub funclets_ascend : (es : List Entry) → AreAscending 0 (funclets es)
funclets_ascend es = entries_ascend es [] tt

pub listed_ascend : (es : List Entry) (fs : List Funclet) → fs ≡ funclets es → AreAscending 0 fs
listed_ascend es fs e = subst (AreAscending 0) (sym e) (funclets_ascend es)

-- ---- what is found by halves

lies_above : (low : ℕ) (xs : List Funclet) (k : ℕ) (d : Funclet) → AreAscending low xs
    → k < length xs → low ≤ (get_or xs k d).address
lies_above low [] k d up lt = absurd (omega arith)
lies_above low (x ∷ xs) zero d up lt = up.0
lies_above low (x ∷ xs) (suc k) d up lt = let above = lies_above (x.address + 1) xs k d up.1
    (omega arith) in omega (arith, up.0)

rises : (low : ℕ) (xs : List Funclet) (i j : ℕ) (d : Funclet) → AreAscending low xs → i < j
    → j < length xs → (get_or xs i d).address < (get_or xs j d).address
rises low [] i j d up lt within = absurd (omega arith)
rises low (x ∷ xs) i zero d up lt within = absurd (omega arith)
rises low (x ∷ xs) zero (suc j) d up lt within = let above = lies_above (x.address + 1) xs j d up.1
    (omega arith) in omega arith
rises low (x ∷ xs) (suc i) (suc j) d up lt within = rises (x.address + 1) xs i j d up.1
    (omega arith) (omega arith)

pub addresses_rise : (low : ℕ) (xs : List Funclet) → AreAscending low xs
    → IsNonDecreasingBy (λ f. f.address) xs
addresses_rise low xs up i j d le within = elim (cases_lt i j) [
  | inl lt ↦ let r = rises low xs i j d up lt within in omega arith
  | inr ge ↦ let e : i ≡ j = omega arith in subst
      (λ k. (get_or xs i d).address ≤ (get_or xs k d).address) e (omega arith)
]

-- no event where no funclet begins
pub none_arrives : (c : Cpu) (rva k : ℕ) (fs : List Funclet) (d : Funclet)
    → ((j : ℕ) → j < length fs → rva ≢ (get_or fs j d).address) → arrivals c rva k fs ≡ []
none_arrives c rva k [] d other = refl
none_arrives c rva k (f ∷ fs) d other =
    ap (if_here (by_kind c k f.is_finally) (arrivals c rva (k + 1) fs))
    (ne_eqb rva f.address (other 0 (omega arith)))
    ∙ none_arrives c rva (k + 1) fs d (λ j lt. other (suc j) (omega arith))

one_arrives : (c : Cpu) (rva k i : ℕ) (fs : List Funclet) (d : Funclet) → i < length fs
    → ((j : ℕ) → j < i → rva ≢ (get_or fs j d).address) → rva ≡ (get_or fs i d).address
    → arrivals c rva k fs ≡ by_kind c (k + i) (get_or fs i d).is_finally ∷ []
one_arrives c rva k i [] d lt other is = absurd (omega arith)
one_arrives c rva k zero (f ∷ fs) d lt other is =
    let same : k ≡ k + 0 = omega arith in
    ap (if_here (by_kind c k f.is_finally) (arrivals c rva (k + 1) fs)) (eq-eqb rva f.address is)
    ∙ ap (λ n. by_kind c n f.is_finally ∷ []) same
one_arrives c rva k (suc i) (f ∷ fs) d lt other is =
    let same : k + 1 + i ≡ k + suc i = omega arith in
    ap (if_here (by_kind c k f.is_finally) (arrivals c rva (k + 1) fs))
    (ne_eqb rva f.address (other 0 (omega arith)))
    ∙ one_arrives c rva (k + 1) i fs d (omega arith) (λ j h. other (suc j) (omega arith)) is
    ∙ ap (λ n. by_kind c n (get_or fs i d).is_finally ∷ []) same

abbrev pub no_funclet : Funclet
no_funclet = record { address = 0; is_finally = false }

-- by how many lie below an address
module _ (c : Cpu) (rva n : ℕ) (fs : List Funclet) (up : AreAscending 0 fs)
    (below : (k : ℕ) (d : Funclet) → k < n → (get_or fs k d).address < rva)
    (later : (k : ℕ) (d : Funclet) → n ≤ k → k < length fs → rva ≤ (get_or fs k d).address) where
  pub arrives : n < length fs → rva ≡ (get_or fs n no_funclet).address
      → arrivals c rva 1 fs ≡ by_kind c (n + 1) (get_or fs n no_funclet).is_finally ∷ []
  arrives lt here =
      let e : 1 + n ≡ n + 1 = omega arith in
      one_arrives c rva 1 n fs no_funclet lt (λ j h z. let b = below j no_funclet h in
      absurd (omega arith)) here
      ∙ ap (λ k. by_kind c k (get_or fs n no_funclet).is_finally ∷ []) e

  pub past_all : length fs ≤ n → arrivals c rva 1 fs ≡ []
  past_all le = none_arrives c rva 1 fs no_funclet
      (λ j lt z. let b = below j no_funclet (omega arith) in absurd (omega arith))

  pub between : n < length fs → rva ≢ (get_or fs n no_funclet).address → arrivals c rva 1 fs ≡ []
  between lt other =
      none_arrives c rva 1 fs no_funclet (λ j h z. elim (cases_lt j n) [
        | inl less ↦ let b = below j no_funclet less in absurd (omega arith)
        | inr ge ↦ elim (cases_eq j n) [
          | inl e ↦ absurd (other (z ∙ ap (λ k. (get_or fs k no_funclet).address) e))
          | inr ne ↦
              let rising = rises 0 fs n j no_funclet up (omega (arith, ne)) h in
              let least = later n no_funclet (omega arith) lt in
              absurd (omega arith)
        ]
      ])

-- ---- for searching

pub none_yet : (fs : List Funclet) → fs ≡ [] → AreAscending 0 fs
none_yet fs e = subst (AreAscending 0) (sym e) tt

pub with_row_ascends : (r : ScopeRecord) (fs gs : List Funclet) → AreAscending 0 fs
    → gs ≡ with_row r fs (eqb r.handler_address 1) → AreAscending 0 gs
with_row_ascends r fs gs up e = subst (AreAscending 0) (sym e)
    (row_ascends r fs (eqb r.handler_address 1) up)

pub ruleset ascending = (none_yet, with_row_ascends)
