-- Where the cold parts of a body stand, and which of them has the code of a label.
use Rattle.std.proofs.Common.{◌≡◌, ℕ, zero, suc, ◌+◌, ◌-◌, ◌<◌, ◌≤◌, Bool, true, false, ltb, leb, List, [], ◌∷◌, ◌++◌, length, take, drop, Some, None, refl, sym, ap, subst, ◌∙◌, arith, append_assoc}
use Rattle.std.specs.Prelude.{◌||◌, if◌then◌else◌, slice_get}
use Rattle.std.proofs.lemmas.Bool.{and_parts, false≢true, leb-true, ltb-true}
use Rattle.std.proofs.lemmas.List.{length-take-le}
use Rattle.template_code.specs.ColdParts.{holds}
use Rattle.template_code.proofs.ColdParts.{cold_inside, cold_beyond, cold_before, side_both, all_kept, all_left_out, side_at, body_size_both, parts_within, part_length}
use Rattle.image_tables.specs.Words.{Instruction, LabelRange, Layout, template_size, body_size, is_cold, AreParts, part_code, side_from, label_at, CHAINED_SIZE, PlacedPart, parts_from, part_with}
use Rattle.image_tables.proofs.Lookups.{some_same, none_some}
use Rattle.image_tables.proofs.Labels.{code_some, taken_least, taken_past}

-- ---- which part holds a label

pub record IsHolder (label : ℕ) (qs : List PlacedPart) : Type 0 where
  pub part : PlacedPart
  pub index : ℕ
  pub there : slice_get qs index ≡ Some part
  pub holds : holds label part.labels ≡ true
  pub found : part_with label qs ≡ Some part

-- by whether the first part holds it
holder_by : (label : ℕ) (q : PlacedPart) (qs : List PlacedPart) (more : Bool) → (b : Bool)
    → holds label q.labels ≡ b → (b || more) ≡ true
    → (more ≡ true → IsHolder label qs) → IsHolder label (q ∷ qs)
holder_by label q qs more true e cold others = record {
  part = q;
  index = 0;
  there = refl;
  holds = e;
  found = ap (λ (b : Bool). if b then Some q else part_with label qs) e;
}
holder_by label q qs more false e cold others =
    let h = others cold in
    record {
      part = h.part;
      index = suc h.index;
      there = h.there;
      holds = h.holds;
      found = ap (λ (b : Bool). if b then Some q else part_with label qs) e ∙ h.found;
    }

no_holder_by : (label : ℕ) (q : PlacedPart) (qs : List PlacedPart) (more : Bool) → (b : Bool)
    → (b || more) ≡ false → (more ≡ false → part_with label qs ≡ None)
    → (if b then Some q else part_with label qs) ≡ None
no_holder_by label q qs more true hot others = absurd (false≢true (sym hot))
no_holder_by label q qs more false hot others = others hot

module _ (y : Layout) (code : List Instruction) (label : ℕ) where
  abbrev first_part : (at info : ℕ) → LabelRange → PlacedPart
  first_part at info r = record {
    labels = r;
    begin = at;
    end = at + body_size y (part_code code r);
    info = info;
  }

  pub holder : (at info : ℕ) (rs : List LabelRange) → is_cold rs label ≡ true
      → IsHolder label (parts_from y at info rs code)
  holder at info [] cold = absurd (false≢true cold)
  holder at info (r ∷ rs) cold =
      let end = at + body_size y (part_code code r) in
      holder_by label (first_part at info r) (parts_from y end (info + CHAINED_SIZE) rs code)
      (is_cold rs label) (holds label r) refl cold (holder end (info + CHAINED_SIZE) rs)

  -- none holds a label that isn't cold
  pub no_holder : (at info : ℕ) (rs : List LabelRange) → is_cold rs label ≡ false
      → part_with label (parts_from y at info rs code) ≡ None
  no_holder at info [] hot = refl
  no_holder at info (r ∷ rs) hot =
      let end = at + body_size y (part_code code r) in
      no_holder_by label (first_part at info r) (parts_from y end (info + CHAINED_SIZE) rs code)
      (is_cold rs label) (holds label r) hot (no_holder end (info + CHAINED_SIZE) rs)

-- ---- where its code is

take_nothing : (n : ℕ) → take {A = Instruction} n [] ≡ []
take_nothing zero = refl
take_nothing (suc n) = refl

length_taken : (n : ℕ) (xs : List Instruction) → length (take n xs) ≤ n
length_taken zero xs = omega arith
length_taken (suc n) [] = omega arith
length_taken (suc n) (x ∷ xs) = let l = length_taken n xs in omega arith

-- so many instructions, and those after fewer
taken_twice : (from to : ℕ) (code : List Instruction) → from ≤ to
    → take to code ≡ take from code ++ take (to - from) (drop from code)
taken_twice zero to code le = ap (λ (n : ℕ). take n code) (let e : to ≡ to - 0 = omega arith in e)
taken_twice (suc from) zero code le = absurd (omega arith)
taken_twice (suc from) (suc to) [] le = sym (take_nothing (suc to - suc from))
taken_twice (suc from) (suc to) (x ∷ code) le =
    ap (λ t. x ∷ t) (taken_twice from to code (omega arith)
    ∙ ap (λ (n : ℕ). take from code ++ take n (drop from code))
    (let e : to - from ≡ suc to - suc from = omega arith in e))

-- it isn't empty
pub part_some : (y : Layout) (code : List Instruction) (from : ℕ) (r : LabelRange)
    (rs : List LabelRange) → AreParts from (r ∷ rs) (length code)
    → 0 < body_size y (part_code code r)
part_some y code from r rs parts =
    let lt = parts.1 in
    code_some y (part_code code r) (let l = part_length from r rs code parts in omega arith)

module _ (y : Layout) (ranges : List LabelRange) (begin : ℕ) (code : List Instruction) where
  -- how many bytes the cold instructions before a label take
  abbrev pub offset : ℕ → ℕ
  offset label = body_size y (side_from ranges true 0 (take label code))

  -- a part is one of the cold stretches of code, which stand from an address on
  pub record IsPart (q : PlacedPart) : Type 0 where
    pub some : q.labels.begin < q.labels.end
    pub inside : q.labels.end ≤ length code
    pub cold : (label : ℕ) → q.labels.begin ≤ label → label < q.labels.end
        → is_cold ranges label ≡ true
    pub begins : q.begin ≡ begin + offset q.labels.begin
    pub ends : q.end ≡ begin + offset q.labels.end
    pub size : q.end ≡ q.begin + body_size y (part_code code q.labels)

  -- from one label to another
  stretch : (from to : ℕ) → from ≤ to → from ≤ length code
      → side_from ranges true 0 (take to code)
      ≡ side_from ranges true 0 (take from code)
      ++ side_from ranges true from (take (to - from) (drop from code))
  stretch from to le within =
      let l = length-take-le from code within in
      let at : 0 + length (take from code) ≡ from = omega arith in
      ap (side_from ranges true 0) (taken_twice from to code le)
      ∙ side_both ranges true 0 (take from code) (take (to - from) (drop from code))
      ∙ ap (λ (n : ℕ). side_from ranges true 0 (take from code)
      ++ side_from ranges true n (take (to - from) (drop from code))) at

  stretch_size : (from to : ℕ) → from ≤ to → from ≤ length code
      → offset to ≡ offset from
      + body_size y (side_from ranges true from (take (to - from) (drop from code)))
  stretch_size from to le within =
      ap (body_size y) (stretch from to le within)
      ∙ body_size_both y (side_from ranges true 0 (take from code))
      (side_from ranges true from (take (to - from) (drop from code)))

  -- of stretches that are cold or not
  hot_stretch : (from to : ℕ) → from ≤ to → from ≤ length code
      → ((label : ℕ) → from ≤ label → label < to → is_cold ranges label ≡ false)
      → offset to ≡ offset from
  hot_stretch from to le within each =
      let l = length_taken (to - from) (drop from code) in
      let none = ap (body_size y) (all_left_out ranges true from (take (to - from) (drop from code))
      (λ k lt. each (from + k) (omega arith) (omega arith))) in
      let s = stretch_size from to le within in
      omega arith

  cold_stretch : (r : LabelRange) → r.begin < r.end → r.begin ≤ length code
      → ((label : ℕ) → r.begin ≤ label → label < r.end → is_cold ranges label ≡ true)
      → side_from ranges true r.begin (part_code code r) ≡ part_code code r
  cold_stretch r lt within each =
      let l = length_taken (r.end - r.begin) (drop r.begin code) in
      all_kept ranges true r.begin (part_code code r)
      (λ k lt'. each (r.begin + k) (omega arith) (omega arith))

  cold_size_is : (r : LabelRange) → r.begin < r.end → r.begin ≤ length code
      → ((label : ℕ) → r.begin ≤ label → label < r.end → is_cold ranges label ≡ true)
      → offset r.end ≡ offset r.begin + body_size y (part_code code r)
  cold_size_is r lt within each =
      let e = ap (body_size y) (cold_stretch r lt within each) in
      let s = stretch_size r.begin r.end (omega arith) within in
      omega arith

  each : (from at info : ℕ) (rs : List LabelRange) → AreParts from rs (length code)
      → ((label : ℕ) → from ≤ label → is_cold ranges label ≡ is_cold rs label)
      → at ≡ begin + offset from → (n : ℕ) (q : PlacedPart)
      → slice_get (parts_from y at info rs code) n ≡ Some q → IsPart q
  each from at info [] parts same here n q e = absurd (none_some e)
  each from at info (r ∷ rs) parts same here n q e =
      let le = parts.0 in
      let lt = parts.1 in
      let w = parts_within r.end (length code) rs parts.2 in
      let cold : (label : ℕ) → r.begin ≤ label → label < r.end → is_cold ranges label ≡ true =
      (λ label a b. same label (omega arith) ∙ cold_inside r rs label a b) in
      let own : AreParts r.begin (r ∷ rs) (length code) =
      ((let z : r.begin ≤ r.begin = omega arith in z), parts.1, parts.2) in
      let ahead = hot_stretch from r.begin le (omega arith)
      (λ label a b. same label a ∙ cold_before r.begin (length code) (r ∷ rs) label own b) in
      let size = cold_size_is r lt (omega arith) cold in
      let end = at + body_size y (part_code code r) in
      one n (record {
        some = lt;
        inside = w;
        cold = cold;
        begins = (let z : at ≡ begin + offset r.begin = omega arith in z);
        ends = (let z : end ≡ begin + offset r.end = omega arith in z);
        size = refl;
      }) e (each r.end end (info + CHAINED_SIZE) rs parts.2
      (λ label a. same label (omega arith) ∙ cold_beyond r rs label a) (omega arith))
    where
      one : (n : ℕ) → IsPart (record {
        labels = r;
        begin = at;
        end = at + body_size y (part_code code r);
        info = info;
      }) → slice_get (parts_from y at info (r ∷ rs) code) n ≡ Some q
          → ((n : ℕ) (q : PlacedPart) → slice_get (parts_from y
          (at + body_size y (part_code code r)) (info + CHAINED_SIZE) rs code) n ≡ Some q
          → IsPart q) → IsPart q
      one zero h e others = subst IsPart (some_same e) h
      one (suc n) h e others = others n q e

  pub each_part : (info : ℕ) → AreParts 0 ranges (length code) → (n : ℕ) (q : PlacedPart)
      → slice_get (parts_from y begin info ranges code) n ≡ Some q → IsPart q
  each_part info parts n q e =
      each 0 begin info ranges parts (λ label le. refl) (omega arith) n q e

  -- ---- the code of a label that a part holds is within it

  pub label_held : (q : PlacedPart) (hot label : ℕ) (i : Instruction) → IsPart q
      → holds label q.labels ≡ true → slice_get code label ≡ Some i
      → (q.begin ≤ label_at y hot begin ranges code label)
      × (label_at y hot begin ranges code label + template_size y i ≤ q.end)
  label_held q hot label i part held there =
      let b = and_parts (leb q.labels.begin label) (ltb label q.labels.end) held in
      let low = leb-true q.labels.begin label b.0 in
      let high = ltb-true label q.labels.end b.1 in
      let cold = part.cold label low high in
      let at = ap (λ (c : Bool). (if c then begin else hot)
      + body_size y (side_from ranges c 0 (take label code))) cold in
      let before = taken_least y ranges true 0 q.labels.begin label code low in
      let z : 0 + label ≡ label = omega arith in
      let past = taken_past y ranges true 0 label q.labels.end code i high there
      (ap (is_cold ranges) z ∙ cold) in
      let begins = part.begins in
      let ends = part.ends in
      (omega arith, omega arith)

  -- ---- the instructions of a part, among all that are cold

  pub part_split : (q : PlacedPart) → IsPart q → side_from ranges true 0 code
      ≡ side_from ranges true 0 (take q.labels.begin code)
      ++ (part_code code q.labels
      ++ side_from ranges true q.labels.end (drop q.labels.end code))
  part_split q part =
      let r = q.labels in
      let lt = part.some in
      let within = part.inside in
      let rest = side_from ranges true r.end (drop r.end code) in
      side_at ranges true code r.end within
      ∙ ap (λ t. t ++ rest) (stretch r.begin r.end (omega arith) (omega arith)
      ∙ ap (λ t. side_from ranges true 0 (take r.begin code) ++ t)
      (cold_stretch r lt (omega arith) part.cold))
      ∙ append_assoc (side_from ranges true 0 (take r.begin code)) (part_code code r) rest
