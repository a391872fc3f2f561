-- The rows of a table of names: which are right, and what is known of those that were read.
use Rattle.std.proofs.Common.{◌≡◌, ◌⊎◌, ℕ, zero, suc, ◌+◌, ◌-◌, ◌≤◌, ◌<◌, Bool, true, false, cond, ltb, leb, Option, Some, None, Result, Ok, Err, List, [], ◌∷◌, ◌++◌, length, take, drop, get_or, position, option_map, is_some, inl, inr, refl, sym, ap, subst, ◌∙◌, append_assoc, arith, eq-eqb}
use Rattle.std.specs.List.{position_or_len}
use Rattle.std.specs.Prelude.{if◌then◌else◌, ◌&&◌, ◌==◌}
use Rattle.std.proofs.lemmas.Bool.{and_from, and_left, and_right, cases_Bool, cases_lt, lt-ltb, le-ltb, le-leb, lt-leb, ltb-true, leb-true, ne_eqb}
use Rattle.std.proofs.lemmas.List.{append-nil, get_or-drop, length-drop, take_all}
use Rattle.std.proofs.lemmas.List.Sums.{position_or_len_is, fails_before_first}
use Rattle.seh_num.specs.Answers.{unless, or_refused, prepend, onto, ◌>>=◌}
use Rattle.pe_image.specs.declared.name_table.NameErr.{NameErr}
use Rattle.pe_image.specs.Field.{field}
use Rattle.pe_image.specs.Imports.{terminated}
use Rattle.pe_image.specs.NameRows.{NameRow, NameSection, name_at, with_name, place_of, begin_in, end_in, number_in, name_in, row_in, in_order, row_at, rows_from, rows_of, rows_read, no_row, row_or, row_holding, name_or, name_of}

-- ---- names that are ended

abbrev is_zero : ℕ → Bool
is_zero b = b == 0

ended_at : (xs : List ℕ) (n : ℕ) → position_or_len is_zero xs ≡ n
    → is_some (terminated xs) ≡ ltb n (length xs)
ended_at xs n e = ap (λ (k : ℕ). is_some (option_map (λ n. take n xs)
    (cond (ltb k (length xs)) (Some k) None))) e ∙ by (ltb n (length xs))
  where
    by : (b : Bool) → is_some (option_map (λ n. take n xs) (cond b (Some n) None)) ≡ b
    by true = refl
    by false = refl

ended : (xs : List ℕ) (i : ℕ) → i < length xs → get_or xs i 0 ≡ 0 → is_some (terminated xs) ≡ true
ended xs i lt z =
    let first = position_or_len is_zero xs in
    elim (cases_lt first (length xs)) [
      | inl l ↦ ended_at xs first refl ∙ lt-ltb first (length xs) l
      | inr le ↦
          let yes : is_zero (get_or xs i 0) ≡ true = eq-eqb (get_or xs i 0) 0 z in
          let no : is_zero (get_or xs i 0) ≡ false =
          fails_before_first is_zero xs i 0 (omega arith) in
          absurd cc
    ]

unended : (xs : List ℕ) → ((i : ℕ) → i < length xs → get_or xs i 0 ≡ 0 → ⊥)
    → is_some (terminated xs) ≡ false
unended xs none =
    ended_at xs (length xs) (position_or_len_is is_zero xs (length xs) 0 (omega arith)
    (λ k lt. ne_eqb (get_or xs k 0) 0 (none k lt)) (λ lt. absurd (omega arith)))
    ∙ le-ltb (length xs) (length xs) (omega arith)

-- from the places before the last 0 on there is one
pub zeros_before : (xs : List ℕ) (end : ℕ)
    → ((k : ℕ) → end ≤ k → k < length xs → get_or xs k 0 ≡ 0 → ⊥)
    → (0 < end → (end ≤ length xs) × (get_or xs (end - 1) 0 ≡ 0))
    → (k : ℕ) → is_some (terminated (drop k xs)) ≡ ltb k end
zeros_before xs end after last k = elim (cases_lt k end) [
  | inl lt ↦
      let there = last (omega arith) in
      let within = there.0 in
      let long = length-drop k xs in
      let at : k + (end - 1 - k) ≡ end - 1 = omega arith in
      ended (drop k xs) (end - 1 - k) (omega arith)
      (get_or-drop k xs (end - 1 - k) 0 ∙ ap (λ n. get_or xs n 0) at ∙ there.1)
      ∙ sym (lt-ltb k end lt)
  | inr ge ↦
      let long = length-drop k xs in
      unended (drop k xs) (λ i l z. after (k + i) (omega arith) (omega arith)
      (sym (get_or-drop k xs i 0) ∙ z)) ∙ sym (le-ltb k end ge)
]

-- ---- one row

-- a name is read up to the first 0 of what the section stores from its address on
pub name_read : (s : NameSection) (at rva : ℕ) (found : Option ℕ)
    → rva ≡ field 4 s.raw (at + 12) → s.address ≤ rva → rva - s.address < length s.raw
    → found ≡ position is_zero (take (length s.raw - (rva - s.address))
    (drop (rva - s.address) s.raw))
    → option_map (λ n. take n (take (length s.raw - (rva - s.address))
    (drop (rva - s.address) s.raw))) found ≡ name_in s at
name_read s at rva found is le lt e =
    let k = rva - s.address in
    let long = length-drop k s.raw in
    let all : take (length s.raw - k) (drop k s.raw) ≡ drop k s.raw =
    take_all (length s.raw - k) (drop k s.raw) (omega arith) in
    ap (option_map (λ n. take n (take (length s.raw - k) (drop k s.raw)))) e
    ∙ ap terminated all
    ∙ sym (ap (λ (b : Bool). if b then terminated (drop k s.raw) else None)
    (le-leb s.address rva le))
    ∙ ap (name_at s) is

-- ---- rows, one after another

abbrev Answered : Type 0
Answered = Result (List NameRow) NameErr

onto_more : (xs : List NameRow) (x : NameRow) (r : Answered)
    → onto xs (prepend x r) ≡ onto (xs ++ (x ∷ [])) r
onto_more xs x (Ok ys) = ap (λ (t : List NameRow). Ok t) (sym (append_assoc xs (x ∷ []) ys))
onto_more xs x (Err e) = refl

module _ (s : NameSection) (front : List NameRow) (index last : ℕ) where
  abbrev then_rows : ℕ → Option NameRow → Answered
  then_rows n o = onto front (or_refused o (record { row = index })
      >>= (λ row. prepend row (rows_from s n (index + 1) row.end)))

  first_row : (n m : ℕ) → n ≡ m + 1
      → onto front (rows_from s n index last) ≡ then_rows m (row_at s index last)
  unfolding rows_from
  first_row zero m e = absurd (omega arith)
  first_row (suc n) m e = let same : n ≡ m = omega arith in
      ap (λ k. then_rows k (row_at s index last)) same

  pub row_refused : (n m : ℕ) → n ≡ m + 1
      → option_map (λ (r : NameRow). r.end) (row_at s index last) ≡ None
      → onto front (rows_from s n index last) ≡ Err (record { row = index })
  row_refused n m e h = first_row n m e ∙ by (row_at s index last) h
    where
      by : (o : Option NameRow) → option_map (λ (r : NameRow). r.end) o ≡ None
          → then_rows m o ≡ Err (record { row = index })
      by None h = refl
      by (Some r) h = absurd cc

  pub row_read : (n m end : ℕ) → n ≡ m + 1
      → option_map (λ (r : NameRow). r.end) (row_at s index last) ≡ Some end
      → (next : List NameRow)
      × (onto front (rows_from s n index last) ≡ onto next (rows_from s m (index + 1) end))
  row_read n m end e h =
      let next = by (row_at s index last) h in (next.0, first_row n m e ∙ next.1)
    where
      by : (o : Option NameRow) → option_map (λ (r : NameRow). r.end) o ≡ Some end
          → (next : List NameRow)
          × (then_rows m o ≡ onto next (rows_from s m (index + 1) end))
      by None h = absurd cc
      by (Some r) h =
          let same : r.end ≡ end = cc in (
            front ++ r ∷ [],
            ap (λ k. onto front (prepend r (rows_from s m (index + 1) k))) same
                ∙ onto_more front r (rows_from s m (index + 1) end),
          )

  pub rows_end : (n : ℕ) → n ≡ 0 → onto front (rows_from s n index last) ≡ Ok front
  unfolding rows_from
  rows_end zero e = ap (λ (t : List NameRow). Ok t) (append-nil front)
  rows_end (suc n) e = absurd (omega arith)

-- rows that were read are those that are there
pub are_read : (r : Answered) (rows : List NameRow) → Ok rows ≡ r → r ≡ Ok (rows_read r)
are_read (Ok xs) rows e = refl
are_read (Err x) rows e = absurd cc

pub counted : (s : NameSection) → 4 ≤ length s.raw → rows_of s ≡ rows_from s (field 4 s.raw 0) 0 0
counted s le =
    ap (λ (b : Bool). unless b (record { row = 0 })
    >>= (λ _. rows_from s (field 4 s.raw 0) 0 0)) (le-leb 4 (length s.raw) le)

-- ---- what is known of the rows that were read

pub record RowRead (s : NameSection) (index : ℕ) (r : NameRow) : Type 0 where
  pub stored : place_of index + 16 ≤ length s.raw
  pub begin : begin_in s (place_of index) ≡ r.begin
  pub end : end_in s (place_of index) ≡ r.end
  pub number : number_in s (place_of index) ≡ r.number
  pub name : name_in s (place_of index) ≡ Some r.name

pub record InOrder (last : ℕ) (r : NameRow) : Type 0 where
  pub after : last ≤ r.begin
  pub some : r.begin < r.end

-- each row begins at or after the end of the one before
abbrev pub AreInOrder : ℕ → List NameRow → Type 0
AreInOrder last [] = Unit {0}
AreInOrder last (r ∷ rs) = InOrder last r × AreInOrder r.end rs

first_holds : (a b : Bool) → (a && b) ≡ true → a ≡ true
first_holds true b h = refl
first_holds false b h = h

second_holds : (a b : Bool) → (a && b) ≡ true → b ≡ true
second_holds true b h = h
second_holds false b h = absurd cc

module _ (s : NameSection) (index last : ℕ) (r : NameRow) where
  abbrev place : ℕ
  place = place_of index

  abbrev made : List ℕ → NameRow
  made n = with_name (begin_in s place) (end_in s place) (number_in s place) n

  row_by_order : (n : List ℕ) (b : Bool)
      → (leb last (begin_in s place) && ltb (begin_in s place) (end_in s place)) ≡ b
      → (let o : Option NameRow = if b then Some (made n) else None in o) ≡ Some r
      → name_in s place ≡ Some n → place + 16 ≤ length s.raw → RowRead s index r × InOrder last r
  row_by_order n false e h name le = absurd cc
  row_by_order n true e h name le =
      let same : made n ≡ r = cc in
      let low = leb-true last (begin_in s place)
      (first_holds (leb last (begin_in s place)) (ltb (begin_in s place) (end_in s place)) e) in
      let high = ltb-true (begin_in s place) (end_in s place)
      (second_holds (leb last (begin_in s place)) (ltb (begin_in s place) (end_in s place)) e) in (
        record {
          stored = le;
          begin = ap (λ (x : NameRow). x.begin) same;
          end = ap (λ (x : NameRow). x.end) same;
          number = ap (λ (x : NameRow). x.number) same;
          name = name ∙ ap (λ (x : NameRow). let o : Option (List ℕ) = Some x.name in o) same;
        },
        subst (InOrder last) same (record { after = low; some = high }),
      )

  row_by_name : (o : Option (List ℕ)) → name_in s place ≡ o
      → in_order last (option_map made o) ≡ Some r → place + 16 ≤ length s.raw
      → RowRead s index r × InOrder last r
  row_by_name None e h le = absurd cc
  row_by_name (Some n) e h le =
      row_by_order n (leb last (begin_in s place) && ltb (begin_in s place) (end_in s place))
      refl h e le

  row_by_place : (leb (place + 16) (length s.raw) ≡ true)
      ⊎ (leb (place + 16) (length s.raw) ≡ false)
      → row_at s index last ≡ Some r → RowRead s index r × InOrder last r
  row_by_place (inl e) h =
      row_by_name (name_in s place) refl
      (sym (ap (λ (b : Bool). if b then in_order last (row_in s place) else None) e) ∙ h)
      (leb-true (place + 16) (length s.raw) e)
  row_by_place (inr e) h =
      let none : (let o : Option NameRow = None in o) ≡ Some r =
      sym (ap (λ (b : Bool). if b then in_order last (row_in s place) else None) e) ∙ h in
      absurd cc

  read_row : row_at s index last ≡ Some r → RowRead s index r × InOrder last r
  read_row h = row_by_place (cases_Bool (leb (place + 16) (length s.raw))) h

pub record RowsRead (s : NameSection) (n index last : ℕ) (rows : List NameRow) : Type 0 where
  pub count : length rows ≡ n
  pub each : (k : ℕ) → k < n → RowRead s (index + k) (get_or rows k no_row)
  pub order : AreInOrder last rows

module _ (s : NameSection) (n index last : ℕ) where
  each_row : (r : NameRow) (rs : List NameRow) → RowRead s index r
      → RowsRead s n (index + 1) r.end rs
      → (k : ℕ) → k < suc n → RowRead s (index + k) (get_or (r ∷ rs) k no_row)
  each_row r rs first known zero lt =
      let at : index ≡ index + 0 = omega arith in subst (λ i. RowRead s i r) at first
  each_row r rs first known (suc k) lt =
      let at : index + 1 + k ≡ index + suc k = omega arith in
      subst (λ i. RowRead s i (get_or rs k no_row)) at (known.each k (omega arith))

  module _ (rows : List NameRow)
      (known : (last : ℕ) (rs : List NameRow) → rows_from s n (index + 1) last ≡ Ok rs
      → RowsRead s n (index + 1) last rs) where
    with_rest : (r : NameRow) (rest : Answered) → row_at s index last ≡ Some r
        → rows_from s n (index + 1) r.end ≡ rest → prepend r rest ≡ Ok rows
        → RowsRead s (suc n) index last rows
    with_rest r (Err e) is others h = absurd cc
    with_rest r (Ok rs) is others h =
        let same : r ∷ rs ≡ rows = cc in
        let first = read_row s index last r is in
        let rest = known r.end rs others in
        subst (RowsRead s (suc n) index last) same
        (record {
          count = ap suc rest.count;
          each = each_row r rs first.0 rest;
          order = (first.1, rest.order);
        })

    with_row : (o : Option NameRow) → row_at s index last ≡ o
        → (or_refused o (record { row = index })
        >>= (λ row. prepend row (rows_from s n (index + 1) row.end))) ≡ Ok rows
        → RowsRead s (suc n) index last rows
    with_row None is h = absurd cc
    with_row (Some r) is h = with_rest r (rows_from s n (index + 1) r.end) is refl h

no_rows : (s : NameSection) (index last : ℕ) (rows : List NameRow)
    → (let r : Answered = Ok [] in r) ≡ Ok rows → RowsRead s zero index last rows
no_rows s index last [] h =
    record { count = refl; each = λ k lt. absurd (omega arith); order = tt }
no_rows s index last (r ∷ rs) h = absurd cc

rows_known : (s : NameSection) (n index last : ℕ) (rows : List NameRow)
    → rows_from s n index last ≡ Ok rows → RowsRead s n index last rows
unfolding rows_from
rows_known s zero index last rows h = no_rows s index last rows h
rows_known s (suc n) index last rows h =
    with_row s n index last rows (λ end rs. rows_known s n (index + 1) end rs)
    (row_at s index last) refl h

-- all rows of a table
pub record TableRead (s : NameSection) (n : ℕ) (rows : List NameRow) : Type 0 where
  pub count : length rows ≡ n
  pub row : (k : ℕ) → k < n → RowRead s k (get_or rows k no_row)
  pub order : AreInOrder 0 rows

pub table_known : (s : NameSection) (n : ℕ) (rows : List NameRow)
    → rows_from s n 0 0 ≡ Ok (rows_read (rows_from s n 0 0)) → rows_read (rows_from s n 0 0) ≡ rows
    → TableRead s n rows
table_known s n rows h e =
    let known = subst (RowsRead s n 0 0) e (rows_known s n 0 0 (rows_read (rows_from s n 0 0)) h) in
    record {
      count = known.count;
      row = λ k lt. (let at : 0 + k ≡ k = omega arith in
          subst (λ i. RowRead s i (get_or rows k no_row)) at (known.each k lt));
      order = known.order;
    }

-- ---- the row that holds an address

pub begins_after : (last : ℕ) (rows : List NameRow) (k : ℕ) → AreInOrder last rows
    → k < length rows → last ≤ (get_or rows k no_row).begin
begins_after last [] k o lt = absurd (omega arith)
begins_after last (r ∷ rs) zero o lt = o.0.after
begins_after last (r ∷ rs) (suc k) o lt =
    let first = o.0.after in
    let some = o.0.some in
    let later = begins_after r.end rs k o.1 (omega arith) in
    omega arith

-- a row ends before a later one begins
pub ends_before : (last : ℕ) (rows : List NameRow) (j k : ℕ) → AreInOrder last rows → j < k
    → k < length rows → (get_or rows j no_row).end ≤ (get_or rows k no_row).begin
ends_before last [] j k o lt in_rows = absurd (omega arith)
ends_before last (r ∷ rs) zero zero o lt in_rows = absurd (omega arith)
ends_before last (r ∷ rs) zero (suc k) o lt in_rows = begins_after r.end rs k o.1 (omega arith)
ends_before last (r ∷ rs) (suc j) zero o lt in_rows = absurd (omega arith)
ends_before last (r ∷ rs) (suc j) (suc k) o lt in_rows =
    ends_before r.end rs j k o.1 (omega arith) (omega arith)

pub not_empty : (last : ℕ) (rows : List NameRow) (k : ℕ) → AreInOrder last rows
    → k < length rows → (get_or rows k no_row).begin < (get_or rows k no_row).end
not_empty last [] k o lt = absurd (omega arith)
not_empty last (r ∷ rs) zero o lt = o.0.some
not_empty last (r ∷ rs) (suc k) o lt = not_empty r.end rs k o.1 (omega arith)

passed : (rva : ℕ) (r : NameRow) (rs : List NameRow) → r.end ≤ rva
    → row_holding rva (r ∷ rs) ≡ row_holding rva rs
passed rva r rs le =
    ap (row_or (row_holding rva rs) r) (and_right (leb r.begin rva) (ltb rva r.end)
    (le-ltb rva r.end le))

before : (rva : ℕ) (r : NameRow) (rs : List NameRow) → rva < r.begin
    → row_holding rva (r ∷ rs) ≡ row_holding rva rs
before rva r rs lt =
    ap (row_or (row_holding rva rs) r) (and_left (leb r.begin rva) (ltb rva r.end)
    (lt-leb r.begin rva lt))

none_before : (rva last : ℕ) (rows : List NameRow) → AreInOrder last rows → rva < last
    → row_holding rva rows ≡ None
none_before rva last [] o lt = refl
none_before rva last (r ∷ rs) o lt =
    let after = o.0.after in
    let some = o.0.some in
    before rva r rs (omega arith) ∙ none_before rva r.end rs o.1 (omega arith)

-- between the end of some rows and the begin of the next there is none
pub none_between : (rva last : ℕ) (rows : List NameRow) (k : ℕ) → AreInOrder last rows
    → ((j : ℕ) → j < k → (get_or rows j no_row).end ≤ rva) → k ≤ length rows
    → (k < length rows → rva < (get_or rows k no_row).begin) → row_holding rva rows ≡ None
none_between rva last [] k o below within above = refl
none_between rva last (r ∷ rs) zero o below within above =
    let under = above (omega arith) in
    let some = o.0.some in
    before rva r rs under ∙ none_before rva r.end rs o.1 (omega arith)
none_between rva last (r ∷ rs) (suc k) o below within above =
    passed rva r rs (below 0 (omega arith))
    ∙ none_between rva r.end rs k o.1 (λ j lt. below (suc j) (omega arith)) (omega arith)
    (λ lt. above (omega arith))

pub one_holds : (rva last : ℕ) (rows : List NameRow) (k : ℕ) → AreInOrder last rows
    → k < length rows → (get_or rows k no_row).begin ≤ rva → rva < (get_or rows k no_row).end
    → row_holding rva rows ≡ Some (get_or rows k no_row)
one_holds rva last [] k o lt low high = absurd (omega arith)
one_holds rva last (r ∷ rs) zero o lt low high =
    ap (row_or (row_holding rva rs) r) (and_from (leb r.begin rva) (ltb rva r.end)
    (le-leb r.begin rva low) (lt-ltb rva r.end high))
one_holds rva last (r ∷ rs) (suc k) o lt low high =
    let after = begins_after r.end rs k o.1 (omega arith) in
    passed rva r rs (omega arith) ∙ one_holds rva r.end rs k o.1 (omega arith) low high

-- ---- the name of a number

pub first_named : (number : ℕ) (rows : List NameRow) (k : ℕ)
    → ((j : ℕ) → j < k → (get_or rows j no_row).number ≡ number → ⊥) → k < length rows
    → (get_or rows k no_row).number ≡ number
    → name_of number rows ≡ Some (get_or rows k no_row).name
first_named number [] k before lt is = absurd (omega arith)
first_named number (r ∷ rs) zero before lt is =
    ap (name_or (name_of number rs) r.name) (eq-eqb r.number number is)
first_named number (r ∷ rs) (suc k) before lt is =
    ap (name_or (name_of number rs) r.name) (ne_eqb r.number number (before 0 (omega arith)))
    ∙ first_named number rs k (λ j l. before (suc j) (omega arith)) (omega arith) is

pub unnamed_number : (number : ℕ) (rows : List NameRow)
    → ((j : ℕ) → j < length rows → (get_or rows j no_row).number ≡ number → ⊥)
    → name_of number rows ≡ None
unnamed_number number [] none = refl
unnamed_number number (r ∷ rs) none =
    ap (name_or (name_of number rs) r.name) (ne_eqb r.number number (none 0 (omega arith)))
    ∙ unnamed_number number rs (λ j l. none (suc j) (omega arith))
