-- Records by their addresses.
use Rattle.std.proofs.Common.{◌≡◌, ℕ, zero, suc, ◌+◌, ◌*◌, ◌/◌, ◌<◌, ◌≤◌, Bool, true, eqb, Option, Some, None, Ok, Err, List, length, take, drop, get_or, refl, sym, ap, subst, ◌∙◌, arith}
use Rattle.std.proofs.lemmas.List.{get_or-drop, get_or-take, drop-drop, drop-take, length-drop, length-take, length-take-le}
use Rattle.std.proofs.lemmas.Bool.{eq-eqb, ne_eqb}
use Rattle.pe_image.specs.Image.{AreAscending, section_at, stored_in, only_if, whole}
use Rattle.pe_image.proofs.Stored.{stored_after}
use Rattle.eh_tables.specs.Words.{Image, ScopeRecord, ◌>>=◌, or_refused, field, stored, Table, scope_record, rows, scope_records_in, scope_records_at, scope_records_if, stored_scope_records}
use Rattle.eh_tables.specs.Infos.{is_c, slots_end}
use Rattle.eh_tables.specs.declared.refusal.TableErr.TheVariants as refusals
use Rattle.eh_tables.specs.Records.{AreAt, record_at}
use Rattle.eh_tables.proofs.Rows.{number_same, row_count, same_record}

-- a row by its number
row_at : (n k at : ℕ) (xs : List ℕ) (d : ScopeRecord) → k < n → at ≡ 16 * k
    → get_or (rows n xs) k d ≡ scope_record (drop at xs)
row_at zero k at xs d lt e = absurd (omega arith)
row_at (suc n) zero at xs d lt e =
    let front : at ≡ 0 = omega arith in
    sym (ap (λ m. scope_record (drop m xs)) front)
row_at (suc n) (suc k) at xs d lt e =
    let on : 16 + 16 * k ≡ at = omega arith in
    row_at n k (16 * k) (drop 16 xs) d (omega arith) refl
    ∙ ap scope_record (drop-drop (16 * k) 16 xs ∙ ap (λ m. drop m xs) on)

-- records that are stored from so many bytes behind an address on
pub records_stored : (image : Image) (rva n size at : ℕ) → AreAscending 0 image.sections
    → n + size ≤ length (stored_in rva (section_at rva image.sections)) → at ≡ rva + n
    → AreAt image at (scope_records_in
    (take size (drop n (stored_in rva (section_at rva image.sections)))))
records_stored image rva n size at up le is k d lt =
    let xs = stored_in rva (section_at rva image.sections) in
    let some : length (take size (drop n xs)) ≡ size = length-take-le size (drop n xs)
    (omega (arith, length-drop n xs)) in
    let fewer : k < length (take size (drop n xs)) / 16 = omega (
      arith,
      row_count
          (length (take size (drop n xs)) / 16) (take size (drop n xs)),
    ) in
    let within : 16 * k + 16 ≤ size = omega arith in
    let here : rva + (n + 16 * k) ≡ at + 16 * k = omega arith in
    row_at (length (take size (drop n xs)) / 16) k (16 * k) (take size (drop n xs)) d fewer refl
    ∙ same_record (drop (16 * k) (take size (drop n xs))) (drop (16 * k) (drop n xs))
    (λ i lt. get_or-drop (16 * k) (take size (drop n xs)) i 0
    ∙ get_or-take size (drop n xs) (16 * k + i) 0 (omega arith)
    ∙ sym (get_or-drop (16 * k) (drop n xs) i 0))
    ∙ ap scope_record (drop-drop (16 * k) n xs
    ∙ sym (stored_after rva (n + 16 * k) image.sections up (omega arith)))
    ∙ ap (record_at image) here

-- ---- the records of a table, by what its section stores from its info on

module _ (image : Image) (rva at : ℕ) (xs : List ℕ)
    (is : xs ≡ stored_in rva (section_at rva image.sections)) where
  abbrev all_or : Option (List ℕ) → Table (List ℕ)
  all_or o = or_refused o (refusals.Truncated rva) >>= λ all. Ok (drop (at + 4) all)

  stored_as : (n : ℕ) (o : Option (List ℕ)) → only_if (take n xs) (eqb (length (take n xs)) n) ≡ o
      → stored image.sections rva n ≡ o
  stored_as n o e = ap (λ (ys : List ℕ). whole n (take n ys)) (sym is) ∙ e

  whole_front : (n : ℕ) → n ≤ length xs → stored image.sections rva n ≡ Some (take n xs)
  whole_front n le = stored_as n (Some (take n xs)) (ap (only_if (take n xs))
      (eq-eqb (length (take n xs)) n (length-take-le n xs le)))

  cut : (n : ℕ) → length xs < n → stored image.sections rva n ≡ None
  cut n lt = stored_as n None (ap (only_if (take n xs)) (ne_eqb (length (take n xs)) n
      (λ e. absurd (omega (arith, length-take n xs)))))

  -- by their count
  counted : at + 4 ≤ length xs → scope_records_at image rva at
      ≡ all_or (stored image.sections rva (at + 4 + 16 * field 4 xs at))
  counted le =
      ap (λ (o : Option (List ℕ)). or_refused o (refusals.Truncated rva) >>= λ c.
      all_or (stored image.sections rva (at + 4 + 16 * field 4 c at))) (whole_front (at + 4) le)
      ∙ ap (λ n. all_or (stored image.sections rva (at + 4 + 16 * n)))
      (number_same 0 4 (drop at (take (at + 4) xs)) (drop at xs) (λ k lt.
      get_or-drop at (take (at + 4) xs) k 0 ∙ get_or-take (at + 4) xs (at + k) 0 (omega arith)
      ∙ sym (get_or-drop at xs k 0)))

  pub rows_cut : (n : ℕ) → n ≡ field 4 xs at → at + 4 ≤ length xs → length xs < at + 4 + 16 * n
      → scope_records_at image rva at ≡ Err (refusals.Truncated rva)
  rows_cut n count le lt = counted le
      ∙ ap (λ k. all_or (stored image.sections rva (at + 4 + 16 * k))) (sym count)
      ∙ ap all_or (cut (at + 4 + 16 * n) lt)

  pub rows_whole : (n size : ℕ) → n ≡ field 4 xs at → size ≡ 16 * n → at + 4 + size ≤ length xs
      → scope_records_at image rva at ≡ Ok (take size (drop (at + 4) xs))
  rows_whole n size count all le =
      counted (omega arith)
      ∙ ap (λ k. all_or (stored image.sections rva (at + 4 + 16 * k))) (sym count)
      ∙ ap (λ k. all_or (stored image.sections rva (at + 4 + k))) (sym all)
      ∙ ap all_or (whole_front (at + 4 + size) le)
      ∙ ap (λ (t : List ℕ). Ok t) (drop-take (at + 4) size xs)

  pub rows_placed : (size from : ℕ) → AreAscending 0 image.sections → at + size ≤ length xs
      → from ≡ rva + at → AreAt image from (scope_records_in (take size (drop at xs)))
  rows_placed size from up le e = subst
      (λ (ys : List ℕ). AreAt image from (scope_records_in (take size (drop at ys)))) (sym is)
      (records_stored image rva at size from up (omega (arith, ap length is)) e)

pub by_handler : (image : Image) (rva at : ℕ) (bytes : List ℕ) (has : Bool) (t : Table (List ℕ))
    → has ≡ true → has ≡ is_c image bytes → at ≡ slots_end bytes + 4
    → scope_records_at image rva at ≡ t → t ≡ stored_scope_records image rva bytes
unfolding stored_scope_records
by_handler image rva at bytes has t here is place e =
    sym e ∙ ap (scope_records_at image rva) place
    ∙ sym (ap (scope_records_if (scope_records_at image rva (slots_end bytes + 4)))
    (sym is ∙ here))
