-- Each uncovered byte is in one routine without an entry: from the last beginning before it up to
-- the next one, or to the next byte that isn't uncovered.
use Rattle.std.proofs.Common.{◌≡◌, ◌⊎◌, ℕ, zero, suc, ◌+◌, ◌-◌, ◌<◌, ◌≤◌, Bool, true, false, not, ◌&&◌, ◌||◌, eqb, leb, ltb, refl, sym, ap, subst, ◌∙◌, arith, inl, inr}
use Rattle.std.specs.Prelude.{is_none}
use Rattle.std.proofs.lemmas.Bool.{cases_lt, cases_eq, cases_Bool, false≢true, and_parts, and_from, or_left, or_right, or_parts, eq-eqb, ltb-true, leb-true, not-false, not_from_false}
use Rattle.eh_tables.specs.Tables.{holding}
use Rattle.uncovered_code.specs.References.{Code, is_uncovered, is_first, places}
use Rattle.uncovered_code.specs.Routines.{is_among, is_beginning, IsUncoveredRoutine, IsInRoutine}
use Rattle.uncovered_code.specs.Laws.{UncoveredBytesAreInRoutines, RoutinesAreApart}

pub record IsWithin (c : Code) (at : ℕ) : Type 0 where
  pub low : c.begin ≤ at
  pub high : at < c.end

pub within : (c : Code) (at : ℕ) → is_uncovered c at ≡ true → IsWithin c at
within c at h =
    let p = and_parts (leb c.begin at) (ltb at c.end && is_none (holding at c.entries)) h in
    let q = and_parts (ltb at c.end) (is_none (holding at c.entries)) p.1 in
    record { low = leb-true c.begin at p.0; high = ltb-true at c.end q.0 }

-- the first uncovered byte is a beginning
pub first_begins : (c : Code) (at : ℕ) → is_first c at ≡ true → is_beginning c at ≡ true
first_begins c at h =
    let p = and_parts (is_uncovered c at) (eqb at c.begin || not (is_uncovered c (at - 1))) h in
    and_from (is_uncovered c at) (is_first c at || is_among at (places c)) p.0
    (or_left (is_first c at) (is_among at (places c)) h)

-- ---- down to the beginning

record HasBeginning (c : Code) (at : ℕ) : Type 0 where
  begin : ℕ
  low : begin ≤ at
  is : is_beginning c begin ≡ true
  one : (k : ℕ) → begin < k → k ≤ at → is_beginning c k ≡ false
  alone : (k : ℕ) → begin ≤ k → k ≤ at → is_uncovered c k ≡ true

here : (c : Code) (at : ℕ) → is_uncovered c at ≡ true → is_beginning c at ≡ true
    → HasBeginning c at
here c at un is =
    record {
      begin = at;
      low = omega arith;
      is = is;
      one = λ k lt le. absurd (omega arith);
      alone = λ k le le'. (let e : at ≡ k = omega arith in
          subst (λ n. is_uncovered c n ≡ true) e un);
    }

-- one that comes after a byte that isn't uncovered is the first
after_covered : (c : Code) (n : ℕ) → is_uncovered c (suc n) ≡ true → is_uncovered c n ≡ false
    → is_first c (suc n) ≡ true
after_covered c n un covered =
    let same : suc n - 1 ≡ n = omega arith in
    let before = ap (is_uncovered c) same ∙ covered in
    and_from (is_uncovered c (suc n))
    (eqb (suc n) c.begin || not (is_uncovered c (suc n - 1))) un
    (or_right (eqb (suc n) c.begin) (not (is_uncovered c (suc n - 1)))
    (not_from_false (is_uncovered c (suc n - 1)) before))

down : (c : Code) (at : ℕ) → is_uncovered c at ≡ true → HasBeginning c at
down c zero un =
    let low = (within c zero un).low in
    let e : zero ≡ c.begin = omega arith in
    here c zero un (first_begins c zero (and_from (is_uncovered c zero)
    (eqb zero c.begin || not (is_uncovered c (zero - 1))) un
    (or_left (eqb zero c.begin) (not (is_uncovered c (zero - 1))) (eq-eqb zero c.begin e))))
down c (suc n) un = elim (cases_Bool (is_beginning c (suc n))) [
  | inl is ↦ here c (suc n) un is
  | inr none ↦ elim (cases_Bool (is_uncovered c n)) [
    | inl before ↦
        let d = down c n before in
        let low = d.low in
        record {
          begin = d.begin;
          low = omega arith;
          is = d.is;
          one = λ k lt le. elim (cases_lt k (suc n)) [
            | inl less ↦ d.one k lt (omega arith)
            | inr more ↦ let e : suc n ≡ k = omega arith in
                subst (λ m. is_beginning c m ≡ false) e none
          ];
          alone = λ k le le'. elim (cases_lt k (suc n)) [
            | inl less ↦ d.alone k le (omega arith)
            | inr more ↦ let e : suc n ≡ k = omega arith in
                subst (λ m. is_uncovered c m ≡ true) e un
          ];
        }
    | inr covered ↦ here c (suc n) un (first_begins c (suc n) (after_covered c n un covered))
  ]
]

-- ---- up to the end

record HasEnd (c : Code) (at : ℕ) : Type 0 where
  end : ℕ
  high : at < end
  one : (k : ℕ) → at < k → k < end → is_beginning c k ≡ false
  alone : (k : ℕ) → at < k → k < end → is_uncovered c k ≡ true
  ends : (is_uncovered c end ≡ false) ⊎ (is_beginning c end ≡ true)

next_ends : (c : Code) (at : ℕ)
    → ((is_uncovered c (suc at) ≡ false) ⊎ (is_beginning c (suc at) ≡ true)) → HasEnd c at
next_ends c at ends =
    record {
      end = suc at;
      high = omega arith;
      one = λ k lt lt'. absurd (omega arith);
      alone = λ k lt lt'. absurd (omega arith);
      ends = ends;
    }

up : (c : Code) (n at : ℕ) → c.end ≤ at + n → HasEnd c at
up c zero at fuel = next_ends c at (elim (cases_Bool (is_uncovered c (suc at))) [
  | inl un ↦ let high = (within c (suc at) un).high in absurd (omega arith)
  | inr none ↦ inl none
])
up c (suc n) at fuel = elim (cases_Bool (is_uncovered c (suc at))) [
  | inr none ↦ next_ends c at (inl none)
  | inl un ↦ elim (cases_Bool (is_beginning c (suc at))) [
    | inl is ↦ next_ends c at (inr is)
    | inr not_one ↦
        let u = up c n (suc at) (omega arith) in
        let high = u.high in
        record {
          end = u.end;
          high = omega arith;
          one = λ k lt lt'. elim (cases_lt (suc at) k) [
            | inl more ↦ u.one k more lt'
            | inr less ↦ let e : suc at ≡ k = omega arith in
                subst (λ m. is_beginning c m ≡ false) e not_one
          ];
          alone = λ k lt lt'. elim (cases_lt (suc at) k) [
            | inl more ↦ u.alone k more lt'
            | inr less ↦ let e : suc at ≡ k = omega arith in
                subst (λ m. is_uncovered c m ≡ true) e un
          ];
          ends = u.ends;
        }
  ]
]

-- ---- the routine

pub uncovered_bytes_are_in_routines : UncoveredBytesAreInRoutines
uncovered_bytes_are_in_routines c at un =
    let d = down c at un in
    let u = up c c.end at (omega arith) in
    let low = d.low in
    let high = u.high in
    record {
      begin = d.begin;
      end = u.end;
      is = record {
        beginning = d.is;
        some = omega arith;
        alone = λ k le lt. elim (cases_lt at k) [
          | inl past ↦ u.alone k past lt
          | inr before ↦ d.alone k le before
        ];
        one = λ k lt lt'. elim (cases_lt at k) [
          | inl past ↦ u.one k past lt'
          | inr before ↦ d.one k lt before
        ];
        ends = u.ends;
      };
      low = low;
      high = high;
    }

-- no routine begins inside another one
not_inside : (c : Code) (begin end other other_end : ℕ) → IsUncoveredRoutine c begin end
    → IsUncoveredRoutine c other other_end → begin < other → other < end → ⊥
not_inside c begin end other other_end a b lt lt' =
    false≢true (sym (a.one other lt lt') ∙ b.beginning)

-- none ends inside another one
no_end_inside : (c : Code) (begin end other_end : ℕ) → IsUncoveredRoutine c begin end
    → IsUncoveredRoutine c begin other_end → end < other_end → ⊥
no_end_inside c begin end other_end a b lt =
    let some = a.some in
    elim a.ends [
      | inl covered ↦ false≢true (sym covered ∙ b.alone end (omega arith) lt)
      | inr begins ↦ false≢true (sym (b.one end some lt) ∙ begins)
    ]

same_end : (c : Code) (begin end other_end : ℕ) → IsUncoveredRoutine c begin end
    → IsUncoveredRoutine c begin other_end → end ≡ other_end
same_end c begin end other_end a b = elim (cases_lt end other_end) [
  | inl lt ↦ absurd (no_end_inside c begin end other_end a b lt)
  | inr ge ↦ elim (cases_lt other_end end) [
    | inl lt ↦ absurd (no_end_inside c begin other_end end b a lt)
    | inr le ↦ omega arith
  ]
]

same_begin : (c : Code) (begin end other other_end at : ℕ) → IsUncoveredRoutine c begin end
    → IsUncoveredRoutine c other other_end → begin ≤ at → at < end → other ≤ at → at < other_end
    → begin ≡ other
same_begin c begin end other other_end at a b le lt le' lt' = elim (cases_lt begin other) [
  | inl less ↦ absurd (not_inside c begin end other other_end a b less (omega arith))
  | inr ge ↦ elim (cases_lt other begin) [
    | inl less ↦ absurd (not_inside c other other_end begin end b a less (omega arith))
    | inr le ↦ omega arith
  ]
]

pub routines_are_apart : RoutinesAreApart
routines_are_apart c begin end other other_end at a b le lt le' lt' =
    let same = same_begin c begin end other other_end at a b le lt le' lt' in (
      same,
      same_end c begin end other_end a
          (subst (λ n. IsUncoveredRoutine c n other_end) (sym same) b),
    )
