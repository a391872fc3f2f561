-- Rows that were gathered are left out of a scope table.
use Rattle.std.proofs.Common.{◌≡◌, ℕ, zero, suc, ◌+◌, ◌-◌, ◌*◌, ◌<◌, ◌≤◌, ◌⊎◌, true, eqb, List, [], ◌∷◌, length, take, drop, get_or, refl, sym, ap, ◌∙◌, arith, inl, inr}
use Rattle.std.proofs.lemmas.List.{drop-drop, drop_all, get_or-drop, length-drop}
use Rattle.pe_image.specs.Image.{Image}
use Rattle.eh_tables.specs.Records.{AreAt, record_at}
use Rattle.eh_tables.specs.SeenRecords.{WasSeen, IsRecordOf}
use Rattle.eh_tables.specs.declared.seen_records.SeenRecords.{SeenRecords}
use Rattle.seh_dispatch.specs.Words.{ScopeRecord, Funclet, with_row, of_rows, AreAscending}
use Rattle.seh_dispatch.specs.Seen.{has_row, AreGathered, AreRowsSeen}
use Rattle.seh_dispatch.proofs.SeenInfos.{row_stays, rows_keep_row, rows_gathered}

abbrev no_record : ScopeRecord
no_record = record { begin = 0; end = 0; handler_address = 0; jump_target = 0 }

rows_skipped : (m : ℕ) (rows : List ScopeRecord) (fs : List Funclet) → AreAscending 0 fs
    → m ≤ length rows → ((k : ℕ) → k < m → has_row (get_or rows k no_record) fs ≡ true)
    → of_rows rows fs ≡ of_rows (drop m rows) fs
rows_skipped zero rows fs up le there = refl
rows_skipped (suc m) [] fs up le there = absurd (omega arith)
rows_skipped (suc m) (r ∷ rows) fs up le there =
    ap (of_rows rows) (row_stays r fs up (there 0 (omega arith)))
    ∙ rows_skipped m rows fs up (omega arith) (λ k lt. there (suc k) (omega arith))

rows_split : (m : ℕ) (rows : List ScopeRecord) (fs : List Funclet)
    → of_rows rows fs ≡ of_rows (drop m rows) (of_rows (take m rows) fs)
rows_split zero rows fs = refl
rows_split (suc m) [] fs = refl
rows_split (suc m) (r ∷ rows) fs = rows_split m rows (with_row r fs (eqb r.handler_address 1))

gathered_at : (rows : List ScopeRecord) (fs : List Funclet) (k : ℕ) → AreGathered rows fs
    → k < length rows → has_row (get_or rows k no_record) fs ≡ true
gathered_at [] fs k h lt = absurd (omega arith)
gathered_at (r ∷ rows) fs zero h lt = h.0
gathered_at (r ∷ rows) fs (suc k) h lt = gathered_at rows fs k h.1 (omega arith)

module _ (image : Image) (seen : SeenRecords) (at : ℕ) (rows : List ScopeRecord)
    (placed : AreAt image at rows) where
  module _ (fs : List Funclet) (were : AreRowsSeen image seen fs) where
    -- from a row on, without those that were seen, and with those up to another
    pub row_reached : (row from to : ℕ) (gs : List Funclet) → AreAscending 0 fs → row ≤ from
        → from ≤ to → to ≤ length rows
        → ((k : ℕ) → row ≤ k → k < from → WasSeen seen (at + 16 * k))
        → gs ≡ of_rows (take (to - from) (drop from rows)) fs
        → of_rows (drop to rows) gs ≡ of_rows (drop row rows) fs
    row_reached row from to gs up le more within seen_there is =
        let m = from - row in
        let after : row + m ≡ from = omega arith in
        let later : from + (to - from) ≡ to = omega arith in
        sym (rows_skipped m (drop row rows) fs up (omega (arith, length-drop row rows)) (λ k lt.
        ap (λ (r : ScopeRecord). has_row r fs) (get_or-drop row rows k no_record
        ∙ placed (row + k) no_record (omega arith))
        ∙ were (at + 16 * (row + k)) (seen_there (row + k) (omega arith) (omega arith)))
        ∙ ap (λ (t : List ScopeRecord). of_rows t fs) (drop-drop m row rows
        ∙ ap (λ k. drop k rows) after)
        ∙ rows_split (to - from) (drop from rows) fs
        ∙ ap (of_rows (drop (to - from) (drop from rows))) (sym is)
        ∙ ap (λ (t : List ScopeRecord). of_rows t gs) (drop-drop (to - from) from rows
        ∙ ap (λ k. drop k rows) later))

    -- what was seen stays gathered
    pub rows_stay_seen : (more : List ScopeRecord) (gs : List Funclet) → gs ≡ of_rows more fs
        → AreRowsSeen image seen gs
    rows_stay_seen more gs is rva was = ap (has_row (record_at image rva)) is
        ∙ rows_keep_row (record_at image rva) more fs (were rva was)

  -- with the rows of the table
  pub table_seen : (new : SeenRecords) (count : ℕ) (fs gs : List Funclet) → count ≡ length rows
      → gs ≡ of_rows rows fs → AreRowsSeen image seen gs
      → ((rva : ℕ) → WasSeen new rva → WasSeen seen rva ⊎ IsRecordOf at count rva)
      → AreRowsSeen image new gs
  table_seen new count fs gs e is were from rva was = elim (from rva was) [
    | inl old ↦ were rva old
    | inr one ↦
        let within : one.row < length rows = omega (arith, one.within) in
        ap (λ a. has_row (record_at image a) gs) one.is
        ∙ ap (λ (r : ScopeRecord). has_row r gs) (sym (placed one.row no_record within))
        ∙ ap (has_row (get_or rows one.row no_record)) is
        ∙ gathered_at rows (of_rows rows fs) one.row (rows_gathered rows fs) within
  ]

pub rows_done : (row : ℕ) (rows : List ScopeRecord) (fs gs : List Funclet) → length rows ≤ row
    → of_rows (drop row rows) gs ≡ of_rows rows fs → gs ≡ of_rows rows fs
rows_done row rows fs gs le e =
    sym (ap (λ (t : List ScopeRecord). of_rows t gs) (drop_all row rows le)) ∙ e

pub no_row_seen : (image : Image) (seen : SeenRecords) (fs : List Funclet)
    → ((rva : ℕ) → WasSeen seen rva → ⊥) → AreRowsSeen image seen fs
no_row_seen image seen fs none rva was = absurd (none rva was)
