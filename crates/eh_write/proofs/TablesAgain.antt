-- Function tables and scope tables that are written, read again.
use Rattle.std.proofs.Common.{◌≡◌, ℕ, ◌+◌, ◌*◌, ◌/◌, ◌%◌, ◌^◌, ◌<◌, ◌≤◌, Bool, true, false, Option, Some, Ok, List, [], ◌∷◌, ◌++◌, length, take, drop, length-append, refl, sym, ap, ◌∙◌, arith}
use Rattle.std.proofs.lemmas.Bool.{eq-eqb, eqb-true}
use Rattle.std.proofs.lemmas.List.{take-take, length-take-le}
use Rattle.std.specs.List.{flat_map, AllByRecursion}
use Rattle.std.specs.Prelude.{◌==◌}
use Rattle.eh_write.specs.Words.{Section, section_at, stored_in, only_if, whole, stored, RuntimeFunction, ScopeRecord, TableErr, ◌>>=◌, unless, or_refused, Table, range_at, scope_record, rows, scope_records_in, ranges, ranges_in, unless_none, stored_ranges, directory, u32, range_bytes, scope_record_bytes, table_bytes, IsRuntimeFunction, IsScopeRecord, RangesAreReadAgain}
use Rattle.eh_tables.specs.declared.refusal.TableErr.TheVariants as refusals

-- ---- where bytes are stored, those at their front are too

only_some : (bytes xs : List ℕ) (b : Bool) → only_if bytes b ≡ Some xs → (bytes ≡ xs) × (b ≡ true)
only_some bytes xs true h = let e : bytes ≡ xs = cc in (e, refl)
only_some bytes xs false h = absurd cc

whole_front : (m n : ℕ) (ys xs : List ℕ) → n ≤ m → whole m (take m ys) ≡ Some xs
    → whole n (take n ys) ≡ Some (take n xs)
whole_front m n ys xs le h =
    let parts = only_some (take m ys) xs (length (take m ys) == m) h in
    let long : length xs ≡ m = ap length (sym parts.0) ∙ eqb-true (length (take m ys)) m parts.1 in
    let front : take n ys ≡ take n xs = sym (take-take n m ys le) ∙ ap (take n) parts.0 in
    ap (whole n) front ∙ ap (only_if (take n xs))
    (eq-eqb (length (take n xs)) n (length-take-le n xs (omega (arith, long))))

pub front_is_at : (ss : List Section) (rva m n : ℕ) (xs : List ℕ) → n ≤ m
    → stored ss rva m ≡ Some xs → stored ss rva n ≡ Some (take n xs)
front_is_at ss rva m n xs le h = whole_front m n (stored_in rva (section_at rva ss)) xs le h

-- ---- a number of four bytes

abbrev four : ℕ → ℕ
four n = n % 256 + 256 * (n / 256 % 256 + 256 *
    (n / 65536 % 256 + 256 * (n / 16777216 % 256 + 256 * 0)))

pub four_is : (n : ℕ) → n < 2 ^ 32 → four n ≡ n
four_is n lt = omega arith

-- ---- entries of a function table

pub range_again : (r : RuntimeFunction) (rest : List ℕ) → IsRuntimeFunction r
    → range_at (range_bytes r ++ rest) 0 ≡ r
unfolding u32
range_again r rest is =
    let begin = four_is r.begin is.begin in
    let end = four_is r.end is.end in
    let info = four_is r.unwind_info is.info in
    λ i. record { begin = begin i; end = end i; unwind_info = info i }

after_range : (r : RuntimeFunction) (rest : List ℕ) → drop 12 (range_bytes r ++ rest) ≡ rest
unfolding u32
after_range r rest = refl

pub range_length : (r : RuntimeFunction) → length (range_bytes r) ≡ 12
unfolding u32
range_length r = refl

table_length : (rs : List RuntimeFunction) → length (table_bytes rs) ≡ 12 * length rs
table_length [] = refl
table_length (r ∷ rs) = omega (
  arith,
  length-append (range_bytes r) (table_bytes rs),
  range_length r,
  table_length rs,
)

so_many : (rs : List RuntimeFunction) → AllByRecursion IsRuntimeFunction rs
    → ranges (length rs) (table_bytes rs) ≡ rs
so_many [] are = refl
so_many (r ∷ rs) are =
    ap (λ (t : RuntimeFunction). t ∷ ranges (length rs) (drop 12 (range_bytes r ++ table_bytes rs)))
    (range_again r (table_bytes rs) are.0)
    ∙ ap (λ (t : List ℕ). r ∷ ranges (length rs) t) (after_range r (table_bytes rs))
    ∙ ap (λ (t : List RuntimeFunction). r ∷ t) (so_many rs are.1)

ranges_again : (rs : List RuntimeFunction) → AllByRecursion IsRuntimeFunction rs
    → ranges_in (table_bytes rs) ≡ rs
ranges_again rs are =
    let e : length (table_bytes rs) / 12 ≡ length rs = omega (arith, table_length rs) in
    ap (λ n. ranges n (table_bytes rs)) e ∙ so_many rs are

none : (rs : List RuntimeFunction) → length rs ≡ 0 → rs ≡ []
none [] e = refl
none (r ∷ rs) e = absurd (omega arith)

none_or : (rs : List RuntimeFunction) (t : Table (List RuntimeFunction)) (b : Bool)
    → (b ≡ true → rs ≡ []) → t ≡ Ok rs → unless_none t b ≡ Ok rs
none_or rs t true empty is = ap (λ (l : List RuntimeFunction). Ok l) (sym (empty refl))
none_or rs t false empty is = is

three : (t1 t3 : Bool) (o : Option (List ℕ)) (bytes : List ℕ) (e1 e2 e3 : TableErr) → t1 ≡ true
    → o ≡ Some bytes → t3 ≡ true
    → (unless t1 e1 >>= λ _. or_refused o e2 >>= λ b. unless t3 e3 >>= λ _. Ok (ranges_in b))
    ≡ Ok (ranges_in bytes)
three t1 t3 o bytes e1 e2 e3 h1 h2 h3 = rw (h1, h2, h3) refl

pub reads_ranges : RangesAreReadAgain
unfolding directory
reads_ranges image rs are aligned size is_there =
    let d = image.exceptions in
    let there : stored image.sections d.rva d.size
    ≡ Some (table_bytes rs) = ap (stored image.sections d.rva) size ∙ is_there in
    let multiple : d.size % 12 ≡ 0 = omega (arith, size, table_length rs) in
    none_or rs (stored_ranges image d) (d.size == 0)
    (λ h. let e = eqb-true d.size 0 h in none rs (omega (arith, e, size, table_length rs)))
    (three (d.rva % 4 == 0) (d.size % 12 == 0) (stored image.sections d.rva d.size) (table_bytes rs)
    (refusals.Misaligned d.rva) (refusals.Truncated d.rva) (refusals.Truncated d.rva)
    (eq-eqb (d.rva % 4) 0 aligned) there (eq-eqb (d.size % 12) 0 multiple)
    ∙ ap (λ (l : List RuntimeFunction). Ok l) (ranges_again rs are))

-- ---- records of a scope table

row_again : (r : ScopeRecord) (rest : List ℕ) → IsScopeRecord r
    → scope_record (scope_record_bytes r ++ rest) ≡ r
unfolding u32
row_again r rest is =
    let begin = four_is r.begin is.begin in
    let end = four_is r.end is.end in
    let handler = four_is r.handler_address is.handler in
    let jump = four_is r.jump_target is.jump in
    λ i. record { begin = begin i; end = end i; handler_address = handler i; jump_target = jump i }

after_row : (r : ScopeRecord) (rest : List ℕ) → drop 16 (scope_record_bytes r ++ rest) ≡ rest
unfolding u32
after_row r rest = refl

row_length : (r : ScopeRecord) → length (scope_record_bytes r) ≡ 16
unfolding u32
row_length r = refl

pub rows_length : (rs : List ScopeRecord) → length (flat_map scope_record_bytes rs) ≡ 16 * length rs
rows_length [] = refl
rows_length (r ∷ rs) = omega (
  arith,
  length-append (scope_record_bytes r)
      (flat_map scope_record_bytes rs),
  row_length r,
  rows_length rs,
)

so_many_rows : (rs : List ScopeRecord) → AllByRecursion IsScopeRecord rs
    → rows (length rs) (flat_map scope_record_bytes rs) ≡ rs
so_many_rows [] are = refl
so_many_rows (r ∷ rs) are =
    ap (λ (t : ScopeRecord). t ∷ rows (length rs)
    (drop 16 (scope_record_bytes r ++ flat_map scope_record_bytes rs)))
    (row_again r (flat_map scope_record_bytes rs) are.0)
    ∙ ap (λ (t : List ℕ). r ∷ rows (length rs) t) (after_row r (flat_map scope_record_bytes rs))
    ∙ ap (λ (t : List ScopeRecord). r ∷ t) (so_many_rows rs are.1)

pub rows_again : (rs : List ScopeRecord) → AllByRecursion IsScopeRecord rs
    → scope_records_in (flat_map scope_record_bytes rs) ≡ rs
rows_again rs are =
    let e : length (flat_map scope_record_bytes rs) / 16
    ≡ length rs = omega (arith, rows_length rs) in
    ap (λ n. rows n (flat_map scope_record_bytes rs)) e ∙ so_many_rows rs are
