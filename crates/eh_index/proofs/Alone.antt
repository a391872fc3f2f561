-- An entry that is chained to none, by its own info.
use Rattle.std.proofs.Common.{◌≡◌, ℕ, zero, suc, ◌+◌, ◌-◌, ◌<◌, ◌≤◌, List, Some, None, Ok, Err, length, get_or, refl, sym, ap, subst, ◌∙◌, arith}
use Rattle.std.specs.Prelude.{Bool, true, false, is_ok, IsOk, nat_lt, nat_le}
use Rattle.std.proofs.lemmas.Bool.{lt-ltb, le-ltb, le-leb}
use Rattle.seh_num.specs.Answers.{◌>>=◌, unless}
use Rattle.pe_image.specs.Image.{Image}
use Rattle.eh_tables.specs.declared.range.RuntimeFunction.{RuntimeFunction}
use Rattle.eh_tables.specs.declared.refusal.TableErr.{TableErr}
use Rattle.eh_tables.specs.declared.refusal.TableErr.TheVariants as refusals
use Rattle.eh_tables.specs.declared.lookup.FunctionEntry.{FunctionEntry}
use Rattle.eh_tables.specs.Answer.{Table}
use Rattle.eh_tables.specs.Covering.{unchained}
use Rattle.eh_tables.specs.Infos.{Info, info}
use Rattle.eh_tables.specs.Known.{range_checked}
use Rattle.eh_tables.specs.Tables.{Entry, Tables, entry_at, end_before, no_range, parents}
use Rattle.eh_tables.proofs.KnownEntries.{infos_read, entry_in_range}

-- ---- a range that is in order

passes : (index last : ℕ) (r : RuntimeFunction) → r.begin < r.end → last ≤ r.begin
    → IsOk (range_checked index last r)
passes index last r some above =
    ap (λ b. is_ok (unless b (refusals.EmptyRange index)
    >>= λ _. unless (nat_le last r.begin) (refusals.Unsorted index)))
    (lt-ltb r.begin r.end some)
    ∙ ap (λ b. is_ok (unless b (refusals.Unsorted index))) (le-leb last r.begin above)

pub passes_first : (rs : List RuntimeFunction) (k : ℕ) → k ≡ 0
    → (get_or rs k no_range).begin < (get_or rs k no_range).end
    → IsOk (range_checked k (end_before rs k) (get_or rs k no_range))
passes_first rs zero e some = passes 0 0 (get_or rs 0 no_range) some (omega arith)
passes_first rs (suc j) e some = absurd (omega arith)

-- an empty one isn't
pub fails_empty : (rs : List RuntimeFunction) (k : ℕ)
    → (get_or rs k no_range).end ≤ (get_or rs k no_range).begin
    → false ≡ is_ok (range_checked k (end_before rs k) (get_or rs k no_range))
fails_empty rs k empty =
    let r = get_or rs k no_range in
    sym (ap (λ b. is_ok (unless b (refusals.EmptyRange k)
    >>= λ _. unless (nat_le (end_before rs k) r.begin) (refusals.Unsorted k)))
    (le-ltb r.begin r.end empty))

is_its_test : (b : Bool) (e : TableErr) → is_ok (unless b e) ≡ b
is_its_test true e = refl
is_its_test false e = refl

-- one that isn't empty, and not the first, is where it begins at the end before or above
pub goes_by_begin : (rs : List RuntimeFunction) (k : ℕ) → 0 < k
    → (get_or rs k no_range).begin < (get_or rs k no_range).end
    → nat_le (get_or rs (k - 1) no_range).end (get_or rs k no_range).begin
    ≡ is_ok (range_checked k (end_before rs k) (get_or rs k no_range))
goes_by_begin rs zero pos some = absurd (omega arith)
goes_by_begin rs (suc j) pos some =
    let r = get_or rs (suc j) no_range in
    let same : suc j - 1 ≡ j = omega arith in
    ap (λ n. nat_le (get_or rs n no_range).end r.begin) same
    ∙ sym (is_its_test (nat_le (get_or rs j no_range).end r.begin) (refusals.Unsorted (suc j)))
    ∙ sym (ap (λ b. is_ok (unless b (refusals.EmptyRange (suc j))
    >>= λ _. unless (nat_le (get_or rs j no_range).end r.begin) (refusals.Unsorted (suc j))))
    (lt-ltb r.begin r.end some))

-- ---- the entry

module _ (t : Tables) (k : ℕ) (in_order : IsOk (range_checked k (end_before t.ranges k)
    (get_or t.ranges k no_range))) where
  abbrev its_range : RuntimeFunction
  its_range = get_or t.ranges k no_range

  by_infos : entry_at t k ≡ infos_read t.image k its_range
  by_infos = go (range_checked k (end_before t.ranges k) its_range) refl in_order
    where
      go : (r : Table Unit) → range_checked k (end_before t.ranges k) its_range ≡ r → IsOk r
          → entry_at t k ≡ infos_read t.image k its_range
      go (Ok u) is ok = entry_in_range t.image k (end_before t.ranges k) its_range u is
      go (Err e) is ok = absurd cc

  abbrev with_info : Table Info → Table Entry
  with_info r = r >>= λ i. parents 31 t.image k i.parent
      >>= λ a. Ok (record { range = its_range; info = i; parents = a })

  pub alone_refused : (e : TableErr) → Err e ≡ info t.image k its_range.unwind_info
      → Err e ≡ entry_at t k
  alone_refused e is = ap with_info is ∙ sym by_infos

  pub alone_is : (i : Info) → Ok i ≡ info t.image k its_range.unwind_info → None ≡ i.parent
      → (let f : FunctionEntry = record { range = its_range; info = i } in
      (let a : Table Entry = Ok (unchained f) in a)) ≡ entry_at t k
  alone_is i is none = ap (λ o. parents 31 t.image k o
      >>= λ a. (let e : Table Entry = Ok (record { range = its_range; info = i; parents = a })
      in e)) none
      ∙ ap with_info is ∙ sym by_infos
