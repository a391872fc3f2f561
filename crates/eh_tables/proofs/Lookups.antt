-- The entry whose range covers an address, by where the entries end.
use Rattle.std.proofs.Common.{◌≡◌, ℕ, zero, suc, ◌+◌, ◌-◌, ◌*◌, ◌^◌, ◌≤◌, ◌<◌, Bool, true, false, None, Ok, Err, List, [], ◌∷◌, length, get_or, ltb, leb, refl, sym, ap, ◌∙◌, arith}
use Rattle.std.specs.Prelude.{nat_le, nat_lt, is_ok, IsOk}
use Rattle.std.specs.Result.{result_ok}
use Rattle.std.proofs.lemmas.Bool.{and_from, and_left, and_right, lt-ltb, le-ltb, le-leb, lt-leb, ltb-true, leb-true}
use Rattle.std.proofs.Math.Nat.{mul-le-mul_left, pow-suc}
use Rattle.eh_tables.specs.Words.{Image, RuntimeFunction, TableErr, ◌>>=◌, unless, prepend, Table, info, Entry, Tables, entry, entry_at, parents, no_range, end_before, entries, entries_of, covers_address, entry_or, holding, TablesAreWhole}
use Rattle.eh_tables.specs.declared.refusal.TableErr.TheVariants as refusals

-- ---- what an answer without a refusal says

pub record Given {A B : Type 0} (t : Table A) (f : A → Table B) (y : B) : Type 0 where
  pub value : A
  pub first : t ≡ Ok value
  pub then : f value ≡ Ok y

pub given : {A B : Type 0} (t : Table A) (f : A → Table B) (y : B) → t >>= f ≡ Ok y → Given t f y
given (Ok x) f y h = record { value = x; first = refl; then = h }
given (Err e) f y h = cc

pub record Prepended {A : Type 0} (x : A) (r : Table (List A)) (ys : List A) : Type 0 where
  pub rest : List A
  pub is : r ≡ Ok rest
  pub all : ys ≡ x ∷ rest

pub prepended : {A : Type 0} (x : A) (r : Table (List A)) (ys : List A) → prepend x r ≡ Ok ys
    → Prepended x r ys
prepended x (Ok xs) ys h = record { rest = xs; is = refl; all = cc }
prepended x (Err e) ys h = cc

pub holds_then : (b : Bool) (e : TableErr) (u : Unit {0}) → unless b e ≡ Ok u → b ≡ true
holds_then true e u h = refl
holds_then false e u h = cc

pub record Read (last : ℕ) (r : RuntimeFunction) (e : Entry) : Type 0 where
  pub sorted : last ≤ r.begin
  pub some : r.begin < r.end
  pub range : e.range ≡ r

pub entry_read : (image : Image) (index last : ℕ) (r : RuntimeFunction) (e : Entry)
    → entry image index last r ≡ Ok e → Read last r e
unfolding entry
entry_read image index last r e h =
    let one = given (unless (nat_lt r.begin r.end) (refusals.EmptyRange index)) _ e h in
    let two = given (unless (nat_le last r.begin) (refusals.Unsorted index)) _ e one.then in
    let three = given (info image index r.unwind_info) _ e two.then in
    let four = given (parents 31 image index three.value.parent) _ e three.then in
    let made : Ok (record { range = r; info = three.value; parents = four.value })
    ≡ Ok e = four.then in
    record {
      sorted = leb-true last r.begin (holds_then (nat_le last r.begin) (refusals.Unsorted index)
          two.value two.first);
      some = ltb-true r.begin r.end (holds_then (nat_lt r.begin r.end) (refusals.EmptyRange index)
          one.value one.first);
      range = range_of (record { range = r; info = three.value; parents = four.value }) e made;
    }
  where
    range_of : (d e : Entry) → (let t : Table Entry = Ok d in t) ≡ Ok e → e.range ≡ d.range
    range_of d e h = let g : d ≡ e = cc in ap (λ (x : Entry). x.range) (sym g)

-- ---- one entry and the others

pub record Split (image : Image) (index last : ℕ) (r : RuntimeFunction) (rs : List RuntimeFunction)
    (es : List Entry) : Type 0 where
  pub head : Entry
  pub rest : List Entry
  pub is : entry image index last r ≡ Ok head
  pub others : entries image (index + 1) r.end rs ≡ Ok rest
  pub all : es ≡ head ∷ rest
  pub read : Read last r head

pub split : (image : Image) (index last : ℕ) (r : RuntimeFunction) (rs : List RuntimeFunction)
    (es : List Entry) → entries image index last (r ∷ rs) ≡ Ok es → Split image index last r rs es
split image index last r rs es h =
    let one = given (entry image index last r) (λ e. prepend e (entries image (index + 1) r.end rs))
    es h in
    let two = prepended one.value (entries image (index + 1) r.end rs) es one.then in
    record {
      head = one.value;
      rest = two.rest;
      is = one.first;
      others = two.is;
      all = two.all;
      read = entry_read image index last r one.value one.first;
    }

pub below_begin : (rva : ℕ) (r : RuntimeFunction) → rva < r.begin → covers_address rva r ≡ false
below_begin rva r lt = and_left (leb r.begin rva) (ltb rva r.end) (lt-leb r.begin rva lt)

pub past_end : (rva : ℕ) (r : RuntimeFunction) → r.end ≤ rva → covers_address rva r ≡ false
past_end rva r le = and_right (leb r.begin rva) (ltb rva r.end) (le-ltb rva r.end le)

pub within : (rva : ℕ) (r : RuntimeFunction) → r.begin ≤ rva → rva < r.end
    → covers_address rva r ≡ true
within rva r le lt = and_from (leb r.begin rva) (ltb rva r.end) (le-leb r.begin rva le)
    (lt-ltb rva r.end lt)

module _ (image : Image) (index last : ℕ) (r : RuntimeFunction) (rs : List RuntimeFunction)
    (es : List Entry) (s : Split image index last r rs es) (rva : ℕ) where
  by_head : (b : Bool) → covers_address rva r ≡ b
      → holding rva es ≡ entry_or (holding rva s.rest) s.head b
  by_head b e =
      ap (holding rva) s.all
      ∙ ap (λ (q : RuntimeFunction). entry_or (holding rva s.rest) s.head (covers_address rva q))
      s.read.range
      ∙ ap (entry_or (holding rva s.rest) s.head) e

none_from : (image : Image) (index last : ℕ) (rs : List RuntimeFunction) (es : List Entry) (rva : ℕ)
    → entries image index last rs ≡ Ok es → rva < last → holding rva es ≡ None
none_from image index last [] es rva h lt = let e : [] ≡ es = cc in ap (holding rva) (sym e)
none_from image index last (r ∷ rs) es rva h lt =
    let s = split image index last r rs es h in
    let sorted = s.read.sorted in
    let some = s.read.some in
    by_head image index last r rs es s rva false (below_begin rva r (omega arith))
    ∙ none_from image (index + 1) r.end rs s.rest rva s.others (omega arith)

-- ---- the entry of an index

abbrev pub end_from : ℕ → List RuntimeFunction → ℕ → ℕ
end_from last rs zero = last
end_from last rs (suc k) = (get_or rs k no_range).end

pub end_of_rest : (last : ℕ) (r : RuntimeFunction) (rs : List RuntimeFunction) (k : ℕ)
    → end_from r.end rs k ≡ end_from last (r ∷ rs) (suc k)
end_of_rest last r rs zero = refl
end_of_rest last r rs (suc k) = refl

record Before (rs : List RuntimeFunction) (k rva : ℕ) : Type 0 where
  pub passed : (j : ℕ) → j < k → (get_or rs j no_range).end ≤ rva

before_rest : (r : RuntimeFunction) (rs : List RuntimeFunction) (k rva : ℕ)
    → Before (r ∷ rs) (suc k) rva → Before rs k rva
before_rest r rs k rva b = record { passed = λ j lt. b.passed (suc j) (omega arith) }

all_past : (image : Image) (index last : ℕ) (rs : List RuntimeFunction) (es : List Entry) (rva : ℕ)
    → entries image index last rs ≡ Ok es → Before rs (length rs) rva → holding rva es ≡ None
all_past image index last [] es rva h b = let e : [] ≡ es = cc in ap (holding rva) (sym e)
all_past image index last (r ∷ rs) es rva h b =
    let s = split image index last r rs es h in
    by_head image index last r rs es s rva false (past_end rva r (b.passed 0 (omega arith)))
    ∙ all_past image (index + 1) r.end rs s.rest rva s.others (before_rest r rs (length rs) rva b)

gap : (image : Image) (index last : ℕ) (rs : List RuntimeFunction) (es : List Entry) (rva k : ℕ)
    → entries image index last rs ≡ Ok es → Before rs k rva → k < length rs
    → rva < (get_or rs k no_range).begin → holding rva es ≡ None
gap image index last [] es rva k h b lt under = absurd (omega arith)
gap image index last (r ∷ rs) es rva zero h b lt under =
    let s = split image index last r rs es h in
    let some = s.read.some in
    by_head image index last r rs es s rva false (below_begin rva r under)
    ∙ none_from image (index + 1) r.end rs s.rest rva s.others (omega arith)
gap image index last (r ∷ rs) es rva (suc k) h b lt under =
    let s = split image index last r rs es h in
    by_head image index last r rs es s rva false (past_end rva r (b.passed 0 (omega arith)))
    ∙ gap image (index + 1) r.end rs s.rest rva k s.others (before_rest r rs k rva b) (omega arith)
    under

hit : (image : Image) (index last : ℕ) (rs : List RuntimeFunction) (es : List Entry) (rva k : ℕ)
    → entries image index last rs ≡ Ok es → Before rs k rva → k < length rs
    → (get_or rs k no_range).begin ≤ rva → rva < (get_or rs k no_range).end
    → holding rva es ≡ result_ok (entry image (index + k) (end_from last rs k)
    (get_or rs k no_range))
hit image index last [] es rva k h b lt le under = absurd (omega arith)
hit image index last (r ∷ rs) es rva zero h b lt le under =
    let s = split image index last r rs es h in
    let e : index ≡ index + 0 = omega arith in
    by_head image index last r rs es s rva true (within rva r le under)
    ∙ sym (ap result_ok s.is)
    ∙ ap (λ n. result_ok (entry image n last r)) e
hit image index last (r ∷ rs) es rva (suc k) h b lt le under =
    let s = split image index last r rs es h in
    let e : index + 1 + k ≡ index + suc k = omega arith in
    by_head image index last r rs es s rva false (past_end rva r (b.passed 0 (omega arith)))
    ∙ hit image (index + 1) r.end rs s.rest rva k s.others (before_rest r rs k rva b) (omega arith)
    le under
    ∙ ap (λ n. result_ok (entry image n (end_from r.end rs k) (get_or rs k no_range))) e
    ∙ ap (λ n. result_ok (entry image (index + suc k) n (get_or rs k no_range)))
    (end_of_rest last r rs k)

-- ---- the ends rise

end_above : (image : Image) (index last : ℕ) (rs : List RuntimeFunction) (es : List Entry) (k : ℕ)
    → entries image index last rs ≡ Ok es → k < length rs → last ≤ (get_or rs k no_range).end
end_above image index last [] es k h lt = absurd (omega arith)
end_above image index last (r ∷ rs) es zero h lt =
    let s = split image index last r rs es h in
    let sorted = s.read.sorted in
    let some = s.read.some in
    omega arith
end_above image index last (r ∷ rs) es (suc k) h lt =
    let s = split image index last r rs es h in
    let sorted = s.read.sorted in
    let some = s.read.some in
    let later = end_above image (index + 1) r.end rs s.rest k s.others (omega arith) in
    omega arith

rising : (image : Image) (index last : ℕ) (rs : List RuntimeFunction) (es : List Entry) (j k : ℕ)
    → entries image index last rs ≡ Ok es → j ≤ k → k < length rs
    → (get_or rs j no_range).end ≤ (get_or rs k no_range).end
rising image index last [] es j k h le lt = absurd (omega arith)
rising image index last (r ∷ rs) es zero zero h le lt = omega arith
rising image index last (r ∷ rs) es zero (suc k) h le lt =
    let s = split image index last r rs es h in
    end_above image (index + 1) r.end rs s.rest k s.others (omega arith)
rising image index last (r ∷ rs) es (suc j) zero h le lt = absurd (omega arith)
rising image index last (r ∷ rs) es (suc j) (suc k) h le lt =
    let s = split image index last r rs es h in
    rising image (index + 1) r.end rs s.rest j k s.others (omega arith) (omega arith)

pub ends_rise : (t : Tables) → TablesAreWhole t → (j k : ℕ) → j ≤ k → k < length t.ranges
    → (get_or t.ranges j no_range).end ≤ (get_or t.ranges k no_range).end
ends_rise t w j k le lt = rising t.image 0 0 t.ranges (entries_of t) j k w.whole le lt

begin_above : (image : Image) (index last : ℕ) (rs : List RuntimeFunction) (es : List Entry) (k : ℕ)
    → entries image index last rs ≡ Ok es → k < length rs → last ≤ (get_or rs k no_range).begin
begin_above image index last [] es k h lt = absurd (omega arith)
begin_above image index last (r ∷ rs) es zero h lt =
    let s = split image index last r rs es h in
    s.read.sorted
begin_above image index last (r ∷ rs) es (suc k) h lt =
    let s = split image index last r rs es h in
    let sorted = s.read.sorted in
    let some = s.read.some in
    let later = begin_above image (index + 1) r.end rs s.rest k s.others (omega arith) in
    omega arith

in_order : (image : Image) (index last : ℕ) (rs : List RuntimeFunction) (es : List Entry) (j k : ℕ)
    → entries image index last rs ≡ Ok es → j < k → k < length rs
    → (get_or rs j no_range).end ≤ (get_or rs k no_range).begin
in_order image index last [] es j k h below lt = absurd (omega arith)
in_order image index last (r ∷ rs) es j zero h below lt = absurd (omega arith)
in_order image index last (r ∷ rs) es zero (suc k) h below lt =
    let s = split image index last r rs es h in
    begin_above image (index + 1) r.end rs s.rest k s.others (omega arith)
in_order image index last (r ∷ rs) es (suc j) (suc k) h below lt =
    let s = split image index last r rs es h in
    in_order image (index + 1) r.end rs s.rest j k s.others (omega arith) (omega arith)

-- no range begins below the end of one before it
pub ends_below : (t : Tables) → TablesAreWhole t → (j k : ℕ) → j < k → k < length t.ranges
    → (get_or t.ranges j no_range).end ≤ (get_or t.ranges k no_range).begin
ends_below t w j k below lt = in_order t.image 0 0 t.ranges (entries_of t) j k w.whole below lt

-- ---- no entry is refused

all_read : (image : Image) (index last : ℕ) (rs : List RuntimeFunction) (es : List Entry) (k : ℕ)
    → entries image index last rs ≡ Ok es → k < length rs
    → IsOk (entry image (index + k) (end_from last rs k) (get_or rs k no_range))
all_read image index last [] es k h lt = absurd (omega arith)
all_read image index last (r ∷ rs) es zero h lt =
    let s = split image index last r rs es h in
    let e : index + 0 ≡ index = omega arith in
    ap (λ n. is_ok (entry image n last r)) e ∙ ap is_ok s.is
all_read image index last (r ∷ rs) es (suc k) h lt =
    let s = split image index last r rs es h in
    let e : index + suc k ≡ index + 1 + k = omega arith in
    ap (λ n. is_ok (entry image n (end_from last (r ∷ rs) (suc k)) (get_or rs k no_range))) e
    ∙ ap (λ n. is_ok (entry image (index + 1 + k) n (get_or rs k no_range)))
    (sym (end_of_rest last r rs k))
    ∙ all_read image (index + 1) r.end rs s.rest k s.others (omega arith)

pub first_end : (t : Tables) (n : ℕ) → end_from 0 t.ranges n ≡ end_before t.ranges n
first_end t zero = refl
first_end t (suc n) = refl

pub entry_is_read : (t : Tables) (k : ℕ) → TablesAreWhole t → k < length t.ranges
    → IsOk (entry_at t k)
entry_is_read t k w lt =
    let e : k ≡ 0 + k = omega arith in
    ap (λ n. is_ok (entry t.image k n (get_or t.ranges k no_range))) (sym (first_end t k))
    ∙ ap (λ n. is_ok (entry t.image n (end_from 0 t.ranges k) (get_or t.ranges k no_range))) e
    ∙ all_read t.image 0 0 t.ranges (entries_of t) k w.whole lt

-- ---- a step halves what is left

pub one_step : (steps since : ℕ) → since ≤ steps → 2 ^ (steps + 1 - since) ≡ 2 * 2 ^ (steps - since)
one_step steps since le = let e : steps + 1 - since ≡ suc (steps - since) = omega arith in
    ap (λ n. 2 ^ n) e ∙ omega (arith, pow-suc 2 (steps - since))

pub still_left : (p s t n q : ℕ) → q ≡ 2 * p → p * s ≤ n → 2 * t ≤ s → q * t ≤ n
still_left p s t n q e le half = let more = mul-le-mul_left p half in rw e (omega arith)

pub still_cheap : (p s n q : ℕ) → q ≡ 2 * p → 0 < s → p * s ≤ n → q ≤ 2 * n + 1
still_cheap p s n q e some le = let one : 1 ≤ s = omega arith in let more = mul-le-mul_left p one in
    omega arith

-- ---- in a table that was read whole

module _ (t : Tables) (w : TablesAreWhole t) (rva k : ℕ)
    (below : (j : ℕ) → j < k → (get_or t.ranges j no_range).end ≤ rva) where
  pub finds_none_past : length t.ranges ≡ k → holding rva (entries_of t) ≡ None
  finds_none_past e = all_past t.image 0 0 t.ranges (entries_of t) rva w.whole
      (record { passed = λ j lt. below j (omega arith) })

  pub finds_none_between : k < length t.ranges → rva < (get_or t.ranges k no_range).begin
      → holding rva (entries_of t) ≡ None
  finds_none_between lt under = gap t.image 0 0 t.ranges (entries_of t) rva k w.whole
      (record { passed = below }) lt under

  pub finds : k < length t.ranges → (get_or t.ranges k no_range).begin ≤ rva
      → rva < (get_or t.ranges k no_range).end
      → holding rva (entries_of t) ≡ result_ok (entry_at t k)
  finds lt le under =
      let e : 0 + k ≡ k = omega arith in
      hit t.image 0 0 t.ranges (entries_of t) rva k w.whole (record { passed = below }) lt le under
      ∙ ap (λ n. result_ok (entry t.image n (end_from 0 t.ranges k) (get_or t.ranges k no_range))) e
      ∙ ap (λ n. result_ok (entry t.image k n (get_or t.ranges k no_range))) (first_end t k)
