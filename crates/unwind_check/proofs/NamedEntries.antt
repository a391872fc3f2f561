-- The entry of a table that an info names: it is found by its first byte.
use Rattle.std.proofs.Common.{◌≡◌, ◌⊎◌, ℕ, ◌+◌, ◌<◌, Bool, true, false, ◌&&◌, ◌||◌, eqb, ltb, leb, Some, None, Ok, List, [], ◌∷◌, refl, sym, ap, subst, ◌∙◌, arith, inl, inr}
use Rattle.std.proofs.lemmas.Bool.{false≢true, and_parts, and_from, or_from, eqb-true, ne_eqb, le-leb, lt-ltb, ltb-true}
use Rattle.eh_tables.specs.Words.{Image}
use Rattle.eh_tables.specs.declared.range.RuntimeFunction.{RuntimeFunction}
use Rattle.eh_tables.specs.Infos.{Info, info}
use Rattle.eh_tables.specs.Tables.{Entry, entries, covers_address, entry_or, holding}
use Rattle.unwind_check.specs.Chains.{is_same_range, has_range, info_when, info_of_range}
use Rattle.unwind_check.proofs.ReadEntries.{IsRead, is_read, Split, split}

-- ---- ranges

pub same_range : (r q : RuntimeFunction) → is_same_range r q ≡ true → r ≡ q
same_range r q h =
    let a = and_parts (eqb r.begin q.begin) (eqb r.end q.end && eqb r.unwind_info q.unwind_info)
    h in
    let b = and_parts (eqb r.end q.end) (eqb r.unwind_info q.unwind_info) a.1 in
    let begin = eqb-true r.begin q.begin a.0 in
    let end = eqb-true r.end q.end b.0 in
    let at = eqb-true r.unwind_info q.unwind_info b.1 in
    λ j. record { begin = begin j; end = end j; unwind_info = at j }

other_range : (r q : RuntimeFunction) → r.begin < q.begin → is_same_range r q ≡ false
other_range r q lt = ap (λ b. b && (eqb r.end q.end && eqb r.unwind_info q.unwind_info))
    (ne_eqb r.begin q.begin (omega (arith, lt)))

covers_itself : (r : RuntimeFunction) → r.begin < r.end → covers_address r.begin r ≡ true
covers_itself r lt = and_from (leb r.begin r.begin) (ltb r.begin r.end)
    (le-leb r.begin r.begin (omega arith)) (lt-ltb r.begin r.end lt)

-- one that begins below all isn't among them
none_later : (image : Image) (index last : ℕ) (rs : List RuntimeFunction) (es : List Entry)
    (r : RuntimeFunction) → entries image index last rs ≡ Ok es → r.begin < last
    → has_range r rs ≡ false
none_later image index last [] es r h lt = refl
none_later image index last (q ∷ rs) es r h lt =
    let s = split image index last q rs es h in
    let read = is_read image index last q s.head s.is in
    let a = read.after in
    let b = read.some in
    or_from (is_same_range r q) (has_range r rs) (other_range r q (omega (arith, lt, a)))
    (none_later image (index + 1) q.end rs s.rest r s.others (omega (arith, lt, a, b)))

-- ---- the entry of a range

-- it is found, and its info is that at the address which the range names
pub record IsNamed (image : Image) (es : List Entry) (r : RuntimeFunction) : Type 0 where
  pub own : Info
  pub index : ℕ
  pub found : info_of_range r (holding r.begin es) ≡ Some own
  pub read : info image index r.unwind_info ≡ Ok own

-- there is one, or none
abbrev pub Named : Image → List RuntimeFunction → List Entry → RuntimeFunction → Type 0
Named image rs es r =
    ((has_range r rs ≡ true) × IsNamed image es r)
    ⊎ ((has_range r rs ≡ false) × (info_of_range r (holding r.begin es) ≡ None))

-- past one that isn't it
past_other : (image : Image) (q : RuntimeFunction) (rs : List RuntimeFunction) (e : Entry)
    (es : List Entry) (r : RuntimeFunction) → is_same_range r q ≡ false
    → covers_address r.begin e.range ≡ false → Named image rs es r
    → Named image (q ∷ rs) (e ∷ es) r
past_other image q rs e es r other off (inl (has, is)) = inl (
  ap (λ b. b || has_range r rs) other ∙ has,
  record {
    own = is.own;
    index = is.index;
    found = ap (λ b. info_of_range r (entry_or (holding r.begin es) e b)) off ∙ is.found;
    read = is.read;
  },
)
past_other image q rs e es r other off (inr (not_there, none)) = inr (
  ap (λ b. b || has_range r rs) other ∙ not_there,
  ap (λ b. info_of_range r (entry_or (holding r.begin es) e b)) off ∙ none,
)

named_from : (image : Image) (index last : ℕ) (rs : List RuntimeFunction) (es : List Entry)
    (r : RuntimeFunction) → entries image index last rs ≡ Ok es → Named image rs es r
named_from image index last [] es r h =
    let same : [] ≡ es = cc in
    inr (refl, ap (λ (xs : List Entry). info_of_range r (holding r.begin xs)) (sym same))
named_from image index last (q ∷ rs) es r h =
    let s = split image index last q rs es h in
    subst (λ (xs : List Entry). Named image (q ∷ rs) xs r) (sym s.all)
    (go s (is_read image index last q s.head s.is)
    (named_from image (index + 1) q.end rs s.rest r s.others)
    (covers_address r.begin s.head.range) refl (is_same_range r s.head.range) refl)
  where
    go : (s : Split image index last q rs es) → IsRead image index last q s.head
        → Named image rs s.rest r → (b : Bool) → covers_address r.begin s.head.range ≡ b
        → (c : Bool) → is_same_range r s.head.range ≡ c
        → Named image (q ∷ rs) (s.head ∷ s.rest) r
    go s read more false off false other = past_other image q rs s.head s.rest r
        (ap (is_same_range r) (sym read.range) ∙ other) off more
    go s read more false off true is =
        let same = same_range r s.head.range is ∙ read.range in
        absurd (false≢true (sym off ∙ ap (covers_address r.begin) (read.range ∙ sym same)
        ∙ covers_itself r (subst (λ (x : RuntimeFunction). x.begin < x.end) (sym same) read.some)))
    go s read more true on true is =
        let same = same_range r s.head.range is ∙ read.range in
        inl (
          ap (λ b. b || has_range r rs) (ap (is_same_range r) (sym read.range) ∙ is),
          record {
            own = s.head.info;
            index = index;
            found = ap (λ b. info_of_range r (entry_or (holding r.begin s.rest) s.head b)) on
                ∙ ap (info_when s.head.info) is;
            read = ap (λ (x : RuntimeFunction). info image index x.unwind_info) same ∙ read.own;
          },
        )
    go s read more true on false other =
        let covered = (and_parts (leb s.head.range.begin r.begin) (ltb r.begin s.head.range.end)
        on).1 in
        let below = subst (λ (x : RuntimeFunction). r.begin < x.end) read.range
        (ltb-true r.begin s.head.range.end covered) in
        inr (
          or_from (is_same_range r q) (has_range r rs)
              (ap (is_same_range r) (sym read.range) ∙ other)
              (none_later image (index + 1) q.end rs s.rest r s.others below),
          ap (λ b. info_of_range r (entry_or (holding r.begin s.rest) s.head b)) on
              ∙ ap (info_when s.head.info) other,
        )

pub named : (image : Image) (rs : List RuntimeFunction) (es : List Entry) (r : RuntimeFunction)
    → entries image 0 0 rs ≡ Ok es → Named image rs es r
named image rs es r h = named_from image 0 0 rs es r h
