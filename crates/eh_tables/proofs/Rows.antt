-- One record of a scope table.
use Rattle.std.proofs.Common.{◌≡◌, ℕ, zero, suc, ◌+◌, ◌-◌, ◌*◌, ◌/◌, ◌≤◌, ◌<◌, List, [], ◌∷◌, length, take, drop, length-drop, drop-drop, get_or, refl, sym, ap, ◌∙◌, arith}
use Rattle.std.proofs.lemmas.List.{take_all, drop_all, drop-take, get_or-drop, get_or-take, length-take-le}
use Rattle.byteorder.specs.Endian.{little_from}
use Rattle.eh_tables.specs.Words.{ScopeRecord, scope_record, rows, scope_records_in}

pub number_same : (i n : ℕ) (xs ys : List ℕ)
    → ((k : ℕ) → k < i + n → get_or xs k 0 ≡ get_or ys k 0)
    → little_from i n xs ≡ little_from i n ys
number_same i zero xs ys same = refl
number_same i (suc n) xs ys same =
    ap (λ a. a + 256 * little_from (suc i) n xs) (same i (omega arith))
    ∙ ap (λ b. get_or ys i 0 + 256 * b)
    (number_same (suc i) n xs ys (λ k lt. same k (omega arith)))

-- a record is in its 16 bytes
pub same_record : (xs ys : List ℕ) → ((k : ℕ) → k < 16 → get_or xs k 0 ≡ get_or ys k 0)
    → scope_record xs ≡ scope_record ys
same_record xs ys same = ap4 (field 0 (omega arith)) (field 4 (omega arith)) (field 8 (omega arith))
    (field 12 (omega arith))
  where
    field : (at : ℕ) → at + 4 ≤ 16 → little_from 0 4 (drop at xs) ≡ little_from 0 4 (drop at ys)
    field at le = number_same 0 4 (drop at xs) (drop at ys) (λ k lt. get_or-drop at xs k 0
        ∙ same (at + k) (omega arith) ∙ sym (get_or-drop at ys k 0))

    ap4 : {a b c d e f g h : ℕ} → a ≡ e → b ≡ f → c ≡ g → d ≡ h
        → (let r : ScopeRecord = record { begin = a; end = b; handler_address = c; jump_target = d }
        in r) ≡ record { begin = e; end = f; handler_address = g; jump_target = h }
    ap4 p q r s = cc

one_more : (n : ℕ) (xs : List ℕ) (k : ℕ) → n ≡ k + 1
    → rows n xs ≡ scope_record xs ∷ rows k (drop 16 xs)
one_more zero xs k e = absurd (omega arith)
one_more (suc n) xs k e = let h : n ≡ k = omega arith in
    ap (λ (m : ℕ). scope_record xs ∷ rows m (drop 16 xs)) h

pub after_row : (xs : List ℕ) → take (length xs - 16) (drop 16 xs) ≡ drop 16 xs
after_row xs = take_all (length xs - 16) (drop 16 xs) (omega (arith, length-drop 16 xs))

pub first_row : (xs : List ℕ) → 16 ≤ length xs
    → scope_records_in xs ≡ scope_record xs ∷ scope_records_in (take (length xs - 16) (drop 16 xs))
first_row xs le =
    let e = ap (λ (t : List ℕ). length t / 16) (after_row xs) in
    one_more (length xs / 16) xs (length (take (length xs - 16) (drop 16 xs)) / 16)
    (omega (arith, e, length-drop 16 xs))
    ∙ ap (λ (t : List ℕ). scope_record xs ∷ rows (length (take (length xs - 16) (drop 16 xs)) / 16)
    t) (sym (after_row xs))

pub row_count : (n : ℕ) (xs : List ℕ) → length (rows n xs) ≡ n
row_count zero xs = refl
row_count (suc n) xs = ap suc (row_count n (drop 16 xs))

-- ---- the rows from a number on

dropped : (n k j at : ℕ) (xs : List ℕ) → k ≡ n + j → at ≡ 16 * n
    → drop n (rows k xs) ≡ rows j (drop at xs)
dropped zero k j at xs e f =
    let same : k ≡ j = omega arith in
    let front : at ≡ 0 = omega arith in
    ap (λ m. rows m xs) same ∙ sym (ap (λ m. rows j (drop m xs)) front)
dropped (suc n) zero j at xs e f = absurd (omega arith)
dropped (suc n) (suc k) j at xs e f =
    let on : 16 + 16 * n ≡ at = omega arith in
    dropped n k j (16 * n) (drop 16 xs) (omega arith) refl
    ∙ ap (rows j) (drop-drop (16 * n) 16 xs ∙ ap (λ m. drop m xs) on)

pub rows_from : (n : ℕ) (xs : List ℕ) → n < length xs / 16
    → scope_records_in (take (length xs - 16 * n) (drop (16 * n) xs)) ≡ drop n (scope_records_in xs)
rows_from n xs lt =
    let all = take_all (length xs - 16 * n) (drop (16 * n) xs)
    (omega (arith, length-drop (16 * n) xs)) in
    let left : length (drop (16 * n) xs) / 16 ≡ length xs / 16 - n = omega
    (arith, length-drop (16 * n) xs) in
    ap scope_records_in all
    ∙ ap (λ m. rows m (drop (16 * n) xs)) left
    ∙ sym (dropped n (length xs / 16) (length xs / 16 - n) (16 * n) xs (omega arith) refl)

pub rows_over : (n : ℕ) (xs : List ℕ) → length xs / 16 ≤ n
    → scope_records_in [] ≡ drop n (scope_records_in xs)
rows_over n xs le = sym (drop_all n (scope_records_in xs)
    (omega (arith, row_count (length xs / 16) xs)))

-- ---- the first rows

front : (n k at : ℕ) (xs : List ℕ) → n ≤ k → at ≡ 16 * n → rows n (take at xs) ≡ take n (rows k xs)
front zero k at xs le e = refl
front (suc n) zero at xs le e = absurd (omega arith)
front (suc n) (suc k) at xs le e =
    let more : at ≡ 16 + 16 * n = omega arith in
    ap (λ (r : ScopeRecord). r ∷ rows n (drop 16 (take at xs))) (same_record (take at xs) xs
    (λ i lt. get_or-take at xs i 0 (omega arith)))
    ∙ ap (λ m. scope_record xs ∷ rows n (drop 16 (take m xs))) more
    ∙ ap (λ (t : List ℕ). scope_record xs ∷ rows n t) (drop-take 16 (16 * n) xs)
    ∙ ap (λ (t : List ScopeRecord). scope_record xs ∷ t)
    (front n k (16 * n) (drop 16 xs) (omega arith) refl)

pub first_rows : (n : ℕ) (xs : List ℕ) → n < length xs / 16
    → scope_records_in (take (16 * n) xs) ≡ take n (scope_records_in xs)
first_rows n xs lt =
    let some : length (take (16 * n) xs) / 16 ≡ n = omega
    (arith, length-take-le (16 * n) xs (omega arith)) in
    ap (λ m. rows m (take (16 * n) xs)) some ∙ front n (length xs / 16) (16 * n) xs (omega arith)
    refl

pub all_rows : (n : ℕ) (xs : List ℕ) → length xs / 16 ≤ n
    → scope_records_in xs ≡ take n (scope_records_in xs)
all_rows n xs le = sym (take_all n (scope_records_in xs)
    (omega (arith, row_count (length xs / 16) xs)))
