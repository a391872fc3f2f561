-- A scope table whose rows were gathered adds nothing.
use Rattle.std.proofs.Common.{◌≡◌, ◌≢◌, ℕ, ◌+◌, ◌<◌, ◌≤◌, Bool, true, false, cond, Some, None, Ok, Err, List, [], ◌∷◌, length, drop, get_or, eqb, refl, sym, ap, subst, ◌∙◌, arith, inl, inr}
use Rattle.std.specs.Prelude.{◌||◌, option_map}
use Rattle.std.specs.Result.{result_ok}
use Rattle.std.specs.Ordering.{nat_cmp, is_eq}
use Rattle.std.specs.declared.cmp.Ordering.TheVariants.{Less, Greater}
use Rattle.std.specs.Cmp.{nat_cmp_is}
use Rattle.std.specs.BTreeMap.{is_at}
use Rattle.std.specs.List.{list_any}
use Rattle.std.specs.BTreeSet.{BTreeSet, contains}
use Rattle.std.proofs.lemmas.Bool.{cases_eq, ne_eqb, eq-eqb, cases_order}
use Rattle.pe_image.specs.Image.{Image}
use Rattle.eh_tables.specs.Answer.{Table}
use Rattle.eh_tables.specs.declared.range.RuntimeFunction.{RuntimeFunction}
use Rattle.eh_tables.specs.Infos.{Info, info}
use Rattle.eh_tables.proofs.KnownInfos.{info_carried}
use Rattle.eh_tables.proofs.KnownEntries.{info_is_own}
use Rattle.seh_dispatch.specs.Words.{ScopeRecord, Entry, Tables, entry_at, no_range, entries_of, TablesAreWhole, Funclet, inserted, with_row, of_rows, of_entries, AreAscending}
use Rattle.seh_dispatch.specs.Seen.{has, has_row, AreGathered, AreSeen}
use Rattle.seh_dispatch.proofs.FuncletInsertion.{below, there, above}
use Rattle.seh_dispatch.proofs.TableEntries.{at, entry-more}

either : (a b : Bool) → b ≡ true → (a || b) ≡ true
either true b h = refl
either false b h = h

-- ---- one funclet

has_first : (a : ℕ) (f : Funclet) (fs : List Funclet) → a ≡ f.address → has a (f ∷ fs) ≡ true
has_first a f fs e = ap (λ b. b || has a fs) (eq-eqb a f.address e)

inserted_has : (a : ℕ) (b : Bool) (fs : List Funclet) → has a (inserted a b fs) ≡ true
inserted_has a b [] = has_first a (record { address = a; is_finally = b }) [] refl
inserted_has a b (x ∷ xs) = elim (cases_order a x.address) [
  | inl e ↦ ap (has a) (there a b x xs e) ∙ has_first a x xs e
  | inr h ↦ elim h [
    | inl lt ↦ ap (has a) (below a b x xs lt)
        ∙ has_first a (record { address = a; is_finally = b }) (x ∷ xs) refl
    | inr gt ↦ ap (has a) (above a b x xs gt)
        ∙ either (eqb a x.address) (has a (inserted a b xs)) (inserted_has a b xs)
  ]
]

kept : (c : ℕ) (x : Funclet) (xs ys : List Funclet) → (has c xs ≡ true → has c ys ≡ true)
    → has c (x ∷ xs) ≡ true → has c (x ∷ ys) ≡ true
kept c x xs ys more h = go (eqb c x.address) h
  where
    go : (b : Bool) → (b || has c xs) ≡ true → (b || has c ys) ≡ true
    go true h = refl
    go false h = more h

inserted_keeps : (c a : ℕ) (b : Bool) (fs : List Funclet) → has c fs ≡ true
    → has c (inserted a b fs) ≡ true
inserted_keeps c a b [] h = absurd cc
inserted_keeps c a b (x ∷ xs) h = elim (cases_order a x.address) [
  | inl e ↦ ap (has c) (there a b x xs e) ∙ h
  | inr o ↦ elim o [
    | inl lt ↦ ap (has c) (below a b x xs lt) ∙ either (eqb c a) (has c (x ∷ xs)) h
    | inr gt ↦ ap (has c) (above a b x xs gt)
        ∙ kept c x xs (inserted a b xs) (inserted_keeps c a b xs) h
  ]
]

has_rest : (a : ℕ) (x : Funclet) (xs : List Funclet) → a ≢ x.address → has a (x ∷ xs) ≡ true
    → has a xs ≡ true
has_rest a x xs n h = sym (ap (λ b. b || has a xs) (ne_eqb a x.address n)) ∙ h

has_above : (low a : ℕ) (fs : List Funclet) → AreAscending low fs → has a fs ≡ true → low ≤ a
has_above low a [] up h = absurd cc
has_above low a (x ∷ xs) up h = elim (cases_eq a x.address) [
  | inl e ↦ omega (arith, up.0, e)
  | inr n ↦
      let more = has_above (x.address + 1) a xs up.1 (has_rest a x xs n h) in
      omega (arith, more, up.0)
]

inserted_stays : (low a : ℕ) (b : Bool) (fs : List Funclet) → AreAscending low fs
    → has a fs ≡ true → inserted a b fs ≡ fs
inserted_stays low a b [] up h = absurd cc
inserted_stays low a b (x ∷ xs) up h = elim (cases_eq a x.address) [
  | inl e ↦ there a b x xs e
  | inr n ↦
      let more = has_above (x.address + 1) a xs up.1 (has_rest a x xs n h) in
      above a b x xs (omega (arith, more))
      ∙ ap (λ (t : List Funclet). x ∷ t)
      (inserted_stays (x.address + 1) a b xs up.1 (has_rest a x xs n h))
]

-- ---- rows

row_has : (r : ScopeRecord) (fs : List Funclet)
    → has_row r (with_row r fs (eqb r.handler_address 1)) ≡ true
row_has r fs = go (eqb r.handler_address 1)
  where
    go : (b : Bool) → (b || has r.handler_address (with_row r fs b)) ≡ true
    go true = refl
    go false = inserted_has r.handler_address (eqb r.jump_target 0) fs

row_keeps : (c : ℕ) (r : ScopeRecord) (fs : List Funclet) (b : Bool) → has c fs ≡ true
    → has c (with_row r fs b) ≡ true
row_keeps c r fs true h = h
row_keeps c r fs false h = inserted_keeps c r.handler_address (eqb r.jump_target 0) fs h

rows_keep : (c : ℕ) (rows : List ScopeRecord) (fs : List Funclet) → has c fs ≡ true
    → has c (of_rows rows fs) ≡ true
rows_keep c [] fs h = h
rows_keep c (r ∷ rows) fs h = rows_keep c rows (with_row r fs (eqb r.handler_address 1))
    (row_keeps c r fs (eqb r.handler_address 1) h)

pub rows_keep_row : (q : ScopeRecord) (rows : List ScopeRecord) (fs : List Funclet)
    → has_row q fs ≡ true → has_row q (of_rows rows fs) ≡ true
rows_keep_row q rows fs h = go (eqb q.handler_address 1) h
  where
    go : (b : Bool) → (b || has q.handler_address fs) ≡ true
        → (b || has q.handler_address (of_rows rows fs)) ≡ true
    go true h = refl
    go false h = rows_keep q.handler_address rows fs h

gathered_kept : (qs rows : List ScopeRecord) (fs : List Funclet) → AreGathered qs fs
    → AreGathered qs (of_rows rows fs)
gathered_kept [] rows fs h = tt
gathered_kept (q ∷ qs) rows fs h = (rows_keep_row q rows fs h.0, gathered_kept qs rows fs h.1)

pub rows_gathered : (rows : List ScopeRecord) (fs : List Funclet)
    → AreGathered rows (of_rows rows fs)
rows_gathered [] fs = tt
rows_gathered (r ∷ rows) fs = (
  rows_keep_row r rows (with_row r fs (eqb r.handler_address 1)) (row_has r fs),
  rows_gathered rows (with_row r fs (eqb r.handler_address 1)),
)

pub row_stays : (r : ScopeRecord) (fs : List Funclet) → AreAscending 0 fs → has_row r fs ≡ true
    → with_row r fs (eqb r.handler_address 1) ≡ fs
row_stays r fs up h = go (eqb r.handler_address 1) h
  where
    go : (b : Bool) → (b || has r.handler_address fs) ≡ true → with_row r fs b ≡ fs
    go true h = refl
    go false h = inserted_stays 0 r.handler_address (eqb r.jump_target 0) fs up h

rows_stay : (rows : List ScopeRecord) (fs : List Funclet) → AreAscending 0 fs
    → AreGathered rows fs → of_rows rows fs ≡ fs
rows_stay [] fs up h = refl
rows_stay (r ∷ rows) fs up h = ap (of_rows rows) (row_stays r fs up h.0) ∙ rows_stay rows fs up h.1

-- ---- infos that were seen

pub nothing_seen : (image : Image) (seen : BTreeSet ℕ) (fs : List Funclet) → seen.keys ≡ []
    → AreSeen image seen fs
nothing_seen image seen fs e rva h =
    absurd (never (sym (ap (list_any (is_at (nat_cmp rva))) e) ∙ h))
  where
    never : false ≡ true → ⊥
    never h = absurd cc

one_info : (image : Image) (i j rva : ℕ) (x y : Info) → info image i rva ≡ Ok x
    → info image j rva ≡ Ok y → x ≡ y
one_info image i j rva x y h k = one (sym (info_carried image i j rva x h) ∙ k)
  where
    one : {a b : Info} → (let t : Table Info = Ok a in t) ≡ Ok b → a ≡ b
    one e = cc

elsewhere : (k q : ℕ) → q ≢ k → is_at (nat_cmp k) q ≡ false
elsewhere k q n = elim (cases_order k q) [
  | inl e ↦ absurd (n (sym e))
  | inr h ↦ elim h [
    | inl lt ↦ ap is_eq (sym (nat_cmp_is k q Less lt))
    | inr gt ↦ ap is_eq (sym (nat_cmp_is k q Greater gt))
  ]
]

-- the rows of one more
pub seen_more : (image : Image) (old new : BTreeSet ℕ) (k rva : ℕ) (x : Info)
    (fs gs : List Funclet) → ((q : ℕ) → contains nat_cmp new q
    ≡ cond (is_at (nat_cmp rva) q) true (contains nat_cmp old q)) → AreSeen image old fs
    → info image k rva ≡ Ok x → gs ≡ of_rows x.scopes fs → AreSeen image new gs
seen_more image old new k rva x fs gs has before own e q there j y is =
    subst (AreGathered y.scopes) (sym e) (elim (cases_eq q rva) [
      | inl same ↦
          let this : x ≡ y = one_info image k j rva x y own
          (subst (λ n. info image j n ≡ Ok y) same is) in
          subst (λ (i : Info). AreGathered i.scopes (of_rows x.scopes fs)) this
          (rows_gathered x.scopes fs)
      | inr other ↦
          gathered_kept y.scopes x.scopes fs (before q
          (sym (has q ∙ ap (λ b. cond b true (contains nat_cmp old q)) (elsewhere rva q other))
          ∙ there) j y is)
    ])

-- ---- entries by their infos

owned : (t : Table Info) (i : Info) → result_ok t ≡ Some i → t ≡ Ok i
owned (Ok x) i h = let same : x ≡ i = cc in ap (λ (y : Info). Ok y) same
owned (Err x) i h = absurd cc

module _ (t : Tables) (k : ℕ) (w : TablesAreWhole t) (lt : k < length t.ranges) where
  own_info : (e : Entry) → entry_at t k ≡ Ok e
      → info t.image k (get_or t.ranges k no_range).unwind_info ≡ Ok e.info
  own_info e is = owned (info t.image k (get_or t.ranges k no_range).unwind_info) e.info
      (info_is_own t k w lt ∙ ap (λ (o : Table Entry). option_map (λ x. x.info) (result_ok o)) is)

  pub info_there : None ≡ option_map (λ e. e.info) (result_ok (entry_at t k)) → ⊥
  info_there h = never (h ∙ ap (λ (o : Table Entry). option_map (λ x. x.info) (result_ok o))
      (at t k w lt).is)
    where
      never : {x : Info} → None ≡ Some x → ⊥
      never h = absurd cc

  pub info_is : (i : Info) (r : RuntimeFunction) → r ≡ get_or t.ranges k no_range
      → Some i ≡ option_map (λ e. e.info) (result_ok (entry_at t k))
      → info t.image k r.unwind_info ≡ Ok i
  info_is i r range h = ap (λ (x : RuntimeFunction). info t.image k x.unwind_info) range
      ∙ owned (info t.image k (get_or t.ranges k no_range).unwind_info) i
      (info_is_own t k w lt ∙ sym h)

  -- the rows of its own info are added
  pub info_more : (i : Info) (fs gs : List Funclet)
      → Some i ≡ option_map (λ e. e.info) (result_ok (entry_at t k)) → gs ≡ of_rows i.scopes fs
      → of_entries (drop (k + 1) (entries_of t)) gs ≡ of_entries (drop k (entries_of t)) fs
  info_more i fs gs h e =
      let this = at t k w lt in
      let same : i ≡ this.entry.info = one (h
      ∙ ap (λ (o : Table Entry). option_map (λ x. x.info) (result_ok o)) this.is) in
      entry-more t k this.entry fs gs w lt (sym this.is)
      (e ∙ ap (λ (x : Info). of_rows x.scopes fs) same)
    where
      one : {x y : Info} → Some x ≡ Some y → x ≡ y
      one e = cc

  -- or they are there, since the info was seen
  pub seen_before : (seen : BTreeSet ℕ) (fs : List Funclet) (r : RuntimeFunction)
      → r ≡ get_or t.ranges k no_range → AreAscending 0 fs → AreSeen t.image seen fs
      → contains nat_cmp seen r.unwind_info ≡ true
      → of_entries (drop (k + 1) (entries_of t)) fs ≡ of_entries (drop k (entries_of t)) fs
  seen_before seen fs r range up are there =
      let e = at t k w lt in
      let own = ap (λ (x : RuntimeFunction). info t.image k x.unwind_info) range
      ∙ own_info e.entry e.is in
      entry-more t k e.entry fs fs w lt (sym e.is)
      (sym (rows_stay e.entry.info.scopes fs up (are r.unwind_info there k e.entry.info own)))
