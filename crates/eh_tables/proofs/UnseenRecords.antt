-- Scope records that were seen and passed needn't be checked again.
use Rattle.std.proofs.Common.{◌≡◌, ℕ, zero, suc, ◌+◌, ◌-◌, ◌*◌, ◌<◌, ◌≤◌, ◌⊎◌, Bool, true, false, Ok, Err, List, [], ◌∷◌, length, take, drop, get_or, refl, sym, ap, ◌∙◌, arith, inl, inr}
use Rattle.std.proofs.lemmas.List.{drop-drop, drop_all, get_or-drop, get_or-take, length-drop, length-take-le}
use Rattle.eh_tables.specs.Words.{Image, ScopeRecord, TableErr, ◌>>=◌, unless, Table}
use Rattle.eh_tables.specs.Scopes.{checked, is_within}
use Rattle.eh_tables.specs.declared.refusal.TableErr.TheVariants as refusals
use Rattle.eh_tables.specs.declared.seen_records.SeenRecords.{SeenRecords}
use Rattle.eh_tables.specs.SeenRecords.{WasSeen, IsRecordOf}
use Rattle.eh_tables.specs.Records.{AreAt, record_at, SeenPass}

abbrev no_record : ScopeRecord
no_record = record { begin = 0; end = 0; handler_address = 0; jump_target = 0 }

-- ---- records one after another

module _ (i size : ℕ) where
  -- so many that pass in front
  skipped : (m n : ℕ) (rs : List ScopeRecord) → m ≤ length rs
      → ((k : ℕ) → k < m → is_within size (get_or rs k no_record) ≡ true)
      → checked i size n rs ≡ checked i size (n + m) (drop m rs)
  skipped zero n rs le pass = let same : n ≡ n + 0 = omega arith in
      ap (λ k. checked i size k rs) same
  skipped (suc m) n [] le pass = absurd (omega arith)
  skipped (suc m) n (r ∷ rs) le pass =
      let same : n + 1 + m ≡ n + suc m = omega arith in
      ap (λ b. unless b (refusals.ScopeRange i n) >>= λ _. checked i size (n + 1) rs)
      (pass 0 (omega arith))
      ∙ skipped m (n + 1) rs (omega arith) (λ k lt. pass (suc k) (omega arith))
      ∙ ap (λ k. checked i size k (drop m rs)) same

  -- the first of them that is refused is the first of all
  front_refused : (m n : ℕ) (rs : List ScopeRecord) (e : TableErr)
      → Err e ≡ checked i size n (take m rs) → Err e ≡ checked i size n rs
  front_refused zero n rs e h = absurd cc
  front_refused (suc m) n [] e h = absurd cc
  front_refused (suc m) n (r ∷ rs) e h = go (front_refused m (n + 1) rs e) (is_within size r) h
    where
      go : (Err e ≡ checked i size (n + 1) (take m rs) → Err e ≡ checked i size (n + 1) rs)
          → (b : Bool) → Err e ≡ (unless b (refusals.ScopeRange i n)
          >>= λ _. checked i size (n + 1) (take m rs))
          → Err e ≡ (unless b (refusals.ScopeRange i n) >>= λ _. checked i size (n + 1) rs)
      go more true h = more h
      go more false h = h

  -- where they pass, each does
  each_passes : (n : ℕ) (rs : List ScopeRecord) (u : Unit {0}) → Ok u ≡ checked i size n rs
      → (k : ℕ) → k < length rs → is_within size (get_or rs k no_record) ≡ true
  each_passes n [] u h k lt = absurd (omega arith)
  each_passes n (r ∷ rs) u h k lt = go (λ j g f. each_passes (n + 1) rs u g j f) (is_within size r)
      refl k lt h
    where
      never : {X : Type 0} (e : TableErr) → (let t : Table Unit = Ok u in t) ≡ Err e → X
      never e h = absurd cc

      go : ((j : ℕ) → Ok u ≡ checked i size (n + 1) rs → j < length rs
          → is_within size (get_or rs j no_record) ≡ true)
          → (b : Bool) → is_within size r ≡ b → (k : ℕ) → k < suc (length rs)
          → Ok u ≡ (unless b (refusals.ScopeRange i n) >>= λ _. checked i size (n + 1) rs)
          → is_within size (get_or (r ∷ rs) k no_record) ≡ true
      go more false e k lt h = never (refusals.ScopeRange i n) h
      go more true e zero lt h = e
      go more true e (suc k) lt h = more k h (omega arith)

  front_passes : (m : ℕ) (rs : List ScopeRecord) (n : ℕ) (u : Unit {0})
      → Ok u ≡ checked i size n (take m rs) → m ≤ length rs
      → checked i size n rs ≡ checked i size (n + m) (drop m rs)
  front_passes m rs n u h le = skipped m n rs le (λ k lt.
      ap (is_within size) (sym (get_or-take m rs k no_record lt))
      ∙ each_passes n (take m rs) u h k (omega (arith, length-take-le m rs le)))

-- ---- the records of a table

module _ (image : Image) (seen : SeenRecords) (index at : ℕ) (rs : List ScopeRecord)
    (pass : SeenPass image seen) (placed : AreAt image at rs) where
  -- from a row on, without those that were seen
  pub row_reached : (row from : ℕ) → row ≤ from → from ≤ length rs
      → ((k : ℕ) → row ≤ k → k < from → WasSeen seen (at + 16 * k))
      → checked index image.size row (drop row rs) ≡ checked index image.size from (drop from rs)
  row_reached row from le within were =
      let m = from - row in
      let on : row + m ≡ from = omega arith in
      skipped index image.size m row (drop row rs) (omega (arith, length-drop row rs)) (λ k lt.
      ap (is_within image.size) (get_or-drop row rs k no_record
      ∙ placed (row + k) no_record (omega arith))
      ∙ pass (at + 16 * (row + k)) (were (row + k) (omega arith) (omega arith)))
      ∙ ap (checked index image.size (row + m)) (drop-drop m row rs)
      ∙ ap (λ k. checked index image.size k (drop k rs)) on

  pub row_passed : (row from to : ℕ) (u : Unit {0}) → row ≤ from → from ≤ to → to ≤ length rs
      → ((k : ℕ) → row ≤ k → k < from → WasSeen seen (at + 16 * k))
      → Ok u ≡ checked index image.size from (take (to - from) (drop from rs))
      → checked index image.size row (drop row rs) ≡ checked index image.size to (drop to rs)
  row_passed row from to u le more within were h =
      let m = to - from in
      let on : from + m ≡ to = omega arith in
      row_reached row from le (omega arith) were
      ∙ front_passes index image.size m (drop from rs) from u h (omega (arith, length-drop from rs))
      ∙ ap (checked index image.size (from + m)) (drop-drop m from rs)
      ∙ ap (λ k. checked index image.size k (drop k rs)) on

  pub row_refused : (row from to : ℕ) (e : TableErr) → row ≤ from → from ≤ length rs
      → ((k : ℕ) → row ≤ k → k < from → WasSeen seen (at + 16 * k))
      → Err e ≡ checked index image.size from (take (to - from) (drop from rs))
      → Err e ≡ checked index image.size row (drop row rs)
  row_refused row from to e le within were h =
      front_refused index image.size (to - from) from (drop from rs) e h
      ∙ sym (row_reached row from le within were)

  -- with the records of the table, which pass
  pub all_pass : (new : SeenRecords) (count : ℕ) → count ≡ length rs
      → Ok tt ≡ checked index image.size 0 rs
      → ((rva : ℕ) → WasSeen new rva → WasSeen seen rva ⊎ IsRecordOf at count rva)
      → SeenPass image new
  all_pass new count e h from rva was = elim (from rva was) [
    | inl old ↦ pass rva old
    | inr one ↦
        let within : one.row < length rs = omega (arith, one.within) in
        ap (λ a. is_within image.size (record_at image a)) one.is
        ∙ ap (is_within image.size) (sym (placed one.row no_record within))
        ∙ each_passes index image.size 0 rs tt h one.row within
  ]

pub past_rows : (i size row : ℕ) (rs : List ScopeRecord) → length rs ≤ row
    → checked i size row (drop row rs) ≡ Ok tt
past_rows i size row rs le = ap (checked i size row) (drop_all row rs le)

pub nothing_passes : (image : Image) (seen : SeenRecords) → ((rva : ℕ) → WasSeen seen rva → ⊥)
    → SeenPass image seen
nothing_passes image seen none rva was = absurd (none rva was)
