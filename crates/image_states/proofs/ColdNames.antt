-- The rows of names of cold parts: each holds a stretch of code, with its function's number.
use Rattle.std.proofs.Common.{◌≡◌, ◌≢◌, ◌⊎◌, ℕ, zero, suc, ◌+◌, ◌<◌, ◌≤◌, Bool, leb, ltb, List, [], ◌∷◌, ◌++◌, length, take, Option, Some, None, inl, inr, refl, ap, ◌∙◌, arith}
use Rattle.std.specs.Prelude.{slice_get, option_map}
use Rattle.std.specs.List.{AllByRecursion}
use Rattle.std.proofs.lemmas.Bool.{and_from, and_left, and_right, lt-ltb, le-leb, lt-leb, le-ltb, cases_lt, ne_eqb}
use Rattle.linear_code.specs.declared.program.LabelRange.{LabelRange}
use Rattle.pe_image.specs.NameRows.{NameRow, row_holding, row_or, name_of, name_or}
use Rattle.x64_emit.specs.Bodies.{part_ranges}
use Rattle.template_code.specs.ColdParts.{part_code}
use Rattle.image_link.specs.Near.{IsRoutineNear}
use Rattle.image_link.specs.Walks.{part_rows, cold_rows}
use Rattle.image_tables.specs.RoutinePlaces.{Cursor, past, placed_from}
use Rattle.image_tables.proofs.Lookups.{parts_total, cold_parts_total}
use Rattle.image_states.specs.Words.{Instruction, Layout, body_size, RoutineView, SiteView, Placed, cold_size, cold_total}
use Rattle.image_states.proofs.Lemmas.{none_some, some_same, placed_cold_least}

-- the number of the row that holds an address
abbrev pub number_in : ℕ → List NameRow → Option ℕ
number_in rva rows = option_map (λ r. r.number) (row_holding rva rows)

-- a row that doesn't hold it, and one that does
module _ (rva : ℕ) (row : NameRow) (others : List NameRow) where
  abbrev by : Bool → Option ℕ
  by h = option_map (λ r. r.number) (row_or (row_holding rva others) row h)

  pub row_ahead : rva < row.begin → number_in rva (row ∷ others) ≡ number_in rva others
  row_ahead lt = ap by
      (and_left (leb row.begin rva) (ltb rva row.end) (lt-leb row.begin rva lt))

  pub row_behind : row.end ≤ rva → number_in rva (row ∷ others) ≡ number_in rva others
  row_behind le = ap by (and_right (leb row.begin rva) (ltb rva row.end) (le-ltb rva row.end le))

  pub row_here : row.begin ≤ rva → rva < row.end
      → number_in rva (row ∷ others) ≡ Some row.number
  row_here le lt = ap by (and_from (leb row.begin rva) (ltb rva row.end) (le-leb row.begin rva le)
      (lt-ltb rva row.end lt))

-- ---- the parts of one body

module _ (rva number : ℕ) (y : Layout) (code : List Instruction) where
  abbrev first_row : ℕ → LabelRange → NameRow
  first_row at r =
      record { begin = at; end = at + body_size y (part_code code r); number = number; name = [] }

  parts_ahead : (at : ℕ) (rs : List LabelRange) (others : List NameRow) → rva < at
      → number_in rva (part_rows number (part_ranges y at rs code) ++ others)
      ≡ number_in rva others
  parts_ahead at [] others lt = refl
  parts_ahead at (r ∷ rs) others lt =
      let end = at + body_size y (part_code code r) in
      row_ahead rva (first_row at r) (part_rows number (part_ranges y end rs code) ++ others) lt
      ∙ parts_ahead end rs others (omega arith)

  parts_behind : (at : ℕ) (rs : List LabelRange) (others : List NameRow)
      → at + parts_total y rs code ≤ rva
      → number_in rva (part_rows number (part_ranges y at rs code) ++ others)
      ≡ number_in rva others
  parts_behind at [] others le = refl
  parts_behind at (r ∷ rs) others le =
      let end = at + body_size y (part_code code r) in
      row_behind rva (first_row at r) (part_rows number (part_ranges y end rs code) ++ others)
      (omega arith)
      ∙ parts_behind end rs others (omega arith)

  parts_here : (at : ℕ) (rs : List LabelRange) (others : List NameRow) → at ≤ rva
      → rva < at + parts_total y rs code
      → number_in rva (part_rows number (part_ranges y at rs code) ++ others) ≡ Some number
  parts_here at [] others le lt = absurd (omega arith)
  parts_here at (r ∷ rs) others le lt =
      let end = at + body_size y (part_code code r) in
      let more = part_rows number (part_ranges y end rs code) ++ others in
      elim (cases_lt rva end) [
        | inl before ↦ row_here rva (first_row at r) more le before
        | inr after ↦ row_behind rva (first_row at r) more after
            ∙ parts_here end rs others after (omega arith)
      ]

-- ---- those of routines

module _ (rva : ℕ) where
  abbrev next_rows : (number cold : ℕ) → RoutineView → List RoutineView → List NameRow
  next_rows number cold r rs = cold_rows (number + 1) (cold + cold_size r) rs

  pub colds_ahead : (number cold : ℕ) (rs : List RoutineView) → rva < cold
      → number_in rva (cold_rows number cold rs) ≡ None
  colds_ahead number cold [] lt = refl
  colds_ahead number cold (r ∷ rs) lt =
      parts_ahead rva number r.layout r.body.code cold r.body.cold (next_rows number cold r rs) lt
      ∙ colds_ahead (number + 1) (cold + cold_size r) rs (omega arith)

  pub colds_behind : (number cold : ℕ) (rs : List RoutineView) → AllByRecursion IsRoutineNear rs
      → cold + cold_total rs ≤ rva → number_in rva (cold_rows number cold rs) ≡ None
  colds_behind number cold [] near le = refl
  colds_behind number cold (r ∷ rs) near le =
      let t = cold_parts_total r near.0 in
      parts_behind rva number r.layout r.body.code cold r.body.cold (next_rows number cold r rs)
      (omega arith)
      ∙ colds_behind (number + 1) (cold + cold_size r) rs near.1 (omega arith)

  -- one of the first routines
  pub colds_here : (s : SiteView) (c : Cursor) (n : ℕ) (rs : List RoutineView) (number i : ℕ)
      (x : Placed) → AllByRecursion IsRoutineNear rs → slice_get (placed_from s c rs) i ≡ Some x
      → i < n → x.cold ≤ rva → rva < x.cold + cold_size x.routine
      → number_in rva (cold_rows number c.cold (take n rs)) ≡ Some (number + i)
  colds_here s c n [] number i x near e lt low high = absurd (none_some e)
  colds_here s c zero (r ∷ rs) number i x near e lt low high = absurd (omega arith)
  colds_here s c (suc n) (r ∷ rs) number zero x near e lt low high =
      let t = cold_parts_total r near.0 in
      let begin = ap (λ (z : Placed). z.cold) (some_same e) in
      let size = ap (λ (z : Placed). cold_size z.routine) (some_same e) in
      let own : number ≡ number + 0 = omega arith in
      parts_here rva number r.layout r.body.code c.cold r.body.cold
      (next_rows number c.cold r (take n rs)) (omega arith) (omega arith)
      ∙ ap (λ (k : ℕ). Some k) own
  colds_here s c (suc n) (r ∷ rs) number (suc i) x near e lt low high =
      let t = cold_parts_total r near.0 in
      let least = placed_cold_least s (past s c r) rs i x e in
      let own : number + 1 + i ≡ number + suc i = omega arith in
      parts_behind rva number r.layout r.body.code c.cold r.body.cold
      (next_rows number c.cold r (take n rs)) (omega arith)
      ∙ colds_here s (past s c r) n rs (number + 1) i x near.1 e (omega arith) low high
      ∙ ap (λ (k : ℕ). Some k) own

-- a routine past the first ones has its cold parts past theirs
pub colds_past : (s : SiteView) (c : Cursor) (n : ℕ) (rs : List RoutineView) (i : ℕ) (x : Placed)
    → slice_get (placed_from s c rs) i ≡ Some x → n ≤ i
    → c.cold + cold_total (take n rs) ≤ x.cold
colds_past s c n [] i x e le = absurd (none_some e)
colds_past s c zero (r ∷ rs) i x e le =
    let least = placed_cold_least s c (r ∷ rs) i x e in omega arith
colds_past s c (suc n) (r ∷ rs) zero x e le = absurd (omega arith)
colds_past s c (suc n) (r ∷ rs) (suc i) x e le =
    let more = colds_past s (past s c r) n rs i x e (omega arith) in omega arith

-- ---- the names of other numbers

parts_unnamed : (k number : ℕ) (y : Layout) (code : List Instruction) (at : ℕ)
    (rs : List LabelRange) (others : List NameRow) → number ≢ k
    → name_of k (part_rows number (part_ranges y at rs code) ++ others) ≡ name_of k others
parts_unnamed k number y code at [] others ne = refl
parts_unnamed k number y code at (r ∷ rs) others ne =
    let end = at + body_size y (part_code code r) in
    ap (name_or (name_of k (part_rows number (part_ranges y end rs code) ++ others)) [])
    (ne_eqb number k ne)
    ∙ parts_unnamed k number y code end rs others ne

pub colds_unnamed : (k number cold : ℕ) (rs : List RoutineView)
    → (k < number) ⊎ (number + length rs ≤ k) → name_of k (cold_rows number cold rs) ≡ None
colds_unnamed k number cold [] other = refl
colds_unnamed k number cold (r ∷ rs) (inl lt) =
    parts_unnamed k number r.layout r.body.code cold r.body.cold
    (cold_rows (number + 1) (cold + cold_size r) rs) (λ e. absurd (omega arith))
    ∙ colds_unnamed k (number + 1) (cold + cold_size r) rs (inl (omega arith))
colds_unnamed k number cold (r ∷ rs) (inr le) =
    parts_unnamed k number r.layout r.body.code cold r.body.cold
    (cold_rows (number + 1) (cold + cold_size r) rs) (λ e. absurd (omega arith))
    ∙ colds_unnamed k (number + 1) (cold + cold_size r) rs (inr (omega arith))
