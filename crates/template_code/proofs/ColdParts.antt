-- A body whose cold parts stand apart: what is on each side, and where its labels are.
use Rattle.std.proofs.Common.{◌≡◌, ℕ, suc, ◌+◌, ◌-◌, ◌<◌, ◌≤◌, Bool, true, false, not, ltb, leb, List, [], ◌∷◌, ◌++◌, length, get_or, take, drop, append_assoc, refl, sym, ap, ◌∙◌, arith, length-drop, drop-cons}
use Rattle.std.specs.Prelude.{◌&&◌, ◌||◌, if◌then◌else◌}
use Rattle.std.specs.List.{AllByRecursion}
use Rattle.std.proofs.lemmas.Bool.{lt-ltb, le-ltb, le-leb, lt-leb}
use Rattle.std.proofs.lemmas.List.{take-append-drop, drop-drop, length-take-le}
use Rattle.std.proofs.Math.Seq.{take-suc}
use Rattle.linear_code.specs.declared.instruction.Instruction.{Instruction}
use Rattle.linear_code.specs.declared.program.LabelRange.{LabelRange}
use Rattle.template_code.specs.declared.layout.Layout.{Layout}
use Rattle.template_code.specs.Template.{Links, template, template_size, body_size, code_from}
use Rattle.template_code.specs.ColdParts.{is_cold, AreParts, part_code, same, side_from, offset_in, label_at}

-- ---- which labels are cold

pub cold_inside : (r : LabelRange) (rs : List LabelRange) (label : ℕ) → r.begin ≤ label
    → label < r.end → is_cold (r ∷ rs) label ≡ true
cold_inside r rs label le lt = ap (λ (b : Bool). (b && ltb label r.end) || is_cold rs label)
    (le-leb r.begin label le) ∙ ap (λ (b : Bool). b || is_cold rs label) (lt-ltb label r.end lt)

pub cold_beyond : (r : LabelRange) (rs : List LabelRange) (label : ℕ) → r.end ≤ label
    → is_cold (r ∷ rs) label ≡ is_cold rs label
cold_beyond r rs label le = ap (λ (b : Bool). (leb r.begin label && b) || is_cold rs label)
    (le-ltb label r.end le) ∙ none (leb r.begin label)
  where
    none : (b : Bool) → ((b && false) || is_cold rs label) ≡ is_cold rs label
    none true = refl
    none false = refl

cold_ahead : (r : LabelRange) (rs : List LabelRange) (label : ℕ) → label < r.begin
    → is_cold (r ∷ rs) label ≡ is_cold rs label
cold_ahead r rs label lt = ap (λ (b : Bool). (b && ltb label r.end) || is_cold rs label)
    (lt-leb r.begin label lt)

pub cold_before : (from end : ℕ) (rs : List LabelRange) (label : ℕ) → AreParts from rs end
    → label < from → is_cold rs label ≡ false
cold_before from end [] label parts lt = refl
cold_before from end (r ∷ rs) label parts lt =
    let a = parts.0 in let b = parts.1 in
    cold_ahead r rs label (omega arith) ∙ cold_before r.end end rs label parts.2 (omega arith)

pub cold_past : (from end : ℕ) (rs : List LabelRange) (label : ℕ) → AreParts from rs end
    → end ≤ label → is_cold rs label ≡ false
cold_past from end [] label parts le = refl
cold_past from end (r ∷ rs) label parts le =
    let a = within r.end end rs parts.2 in
    cold_beyond r rs label (omega arith) ∙ cold_past r.end end rs label parts.2 le
  where
    within : (from end : ℕ) (rs : List LabelRange) → AreParts from rs end → from ≤ end
    within from end [] parts = parts
    within from end (r ∷ rs) parts =
        let a = parts.0 in let b = parts.1 in
        let w = within r.end end rs parts.2 in
        omega arith

-- ---- one instruction

pub kept : (rs : List LabelRange) (c : Bool) (at : ℕ) (i : Instruction) (is : List Instruction)
    → is_cold rs at ≡ c → side_from rs c at (i ∷ is) ≡ i ∷ side_from rs c (suc at) is
kept rs c at i is e = ap (λ (b : Bool). if same c b then i ∷ side_from rs c (suc at) is
    else side_from rs c (suc at) is) e ∙ by c (side_from rs c (suc at) is)
  where
    by : (c : Bool) (more : List Instruction)
        → (if same c c then i ∷ more else more) ≡ i ∷ more
    by true more = refl
    by false more = refl

pub left_out : (rs : List LabelRange) (c : Bool) (at : ℕ) (i : Instruction) (is : List Instruction)
    → is_cold rs at ≡ not c → side_from rs c at (i ∷ is) ≡ side_from rs c (suc at) is
left_out rs c at i is e = ap (λ (b : Bool). if same c b then i ∷ side_from rs c (suc at) is
    else side_from rs c (suc at) is) e ∙ by c (side_from rs c (suc at) is)
  where
    by : (c : Bool) (more : List Instruction)
        → (if same c (not c) then i ∷ more else more) ≡ more
    by true more = refl
    by false more = refl

-- ---- a stretch of instructions

after : (at : ℕ) (xs : List Instruction) → suc at + length xs ≡ at + suc (length xs)
after at xs = omega arith

pub side_both : (rs : List LabelRange) (c : Bool) (at : ℕ) (xs ys : List Instruction)
    → side_from rs c at (xs ++ ys)
    ≡ side_from rs c at xs ++ side_from rs c (at + length xs) ys
side_both rs c at [] ys =
    ap (λ (n : ℕ). side_from rs c n ys) (let e : at ≡ at + 0 = omega arith in e)
side_both rs c at (x ∷ xs) ys = by (same c (is_cold rs at))
    (side_both rs c (suc at) xs ys
    ∙ ap (λ (n : ℕ). side_from rs c (suc at) xs ++ side_from rs c n ys) (after at xs))
  where
    by : (b : Bool)
        → side_from rs c (suc at) (xs ++ ys)
        ≡ side_from rs c (suc at) xs ++ side_from rs c (at + suc (length xs)) ys
        → (if b then x ∷ side_from rs c (suc at) (xs ++ ys) else side_from rs c (suc at) (xs ++ ys))
        ≡ (if b then x ∷ side_from rs c (suc at) xs else side_from rs c (suc at) xs)
        ++ side_from rs c (at + suc (length xs)) ys
    by true rest = ap (λ t. x ∷ t) rest
    by false rest = rest

pub all_kept : (rs : List LabelRange) (c : Bool) (at : ℕ) (xs : List Instruction)
    → ((k : ℕ) → k < length xs → is_cold rs (at + k) ≡ c) → side_from rs c at xs ≡ xs
all_kept rs c at [] each = refl
all_kept rs c at (x ∷ xs) each =
    kept rs c at x xs (ap (is_cold rs) (let e : at ≡ at + 0 = omega arith in e)
    ∙ each 0 (omega arith)) ∙ ap (λ t. x ∷ t)
    (all_kept rs c (suc at) xs (λ k lt. ap (is_cold rs)
    (let e : suc at + k ≡ at + suc k = omega arith in e) ∙ each (suc k) (omega arith)))

pub all_left_out : (rs : List LabelRange) (c : Bool) (at : ℕ) (xs : List Instruction)
    → ((k : ℕ) → k < length xs → is_cold rs (at + k) ≡ not c) → side_from rs c at xs ≡ []
all_left_out rs c at [] each = refl
all_left_out rs c at (x ∷ xs) each =
    left_out rs c at x xs (ap (is_cold rs) (let e : at ≡ at + 0 = omega arith in e)
    ∙ each 0 (omega arith))
    ∙ all_left_out rs c (suc at) xs (λ k lt. ap (is_cold rs)
    (let e : suc at + k ≡ at + suc k = omega arith in e) ∙ each (suc k) (omega arith))

-- past a part, the others alone decide
pub side_skip : (r : LabelRange) (rs : List LabelRange) (c : Bool) (at : ℕ) (xs : List Instruction)
    → r.end ≤ at → side_from (r ∷ rs) c at xs ≡ side_from rs c at xs
side_skip r rs c at [] le = refl
side_skip r rs c at (x ∷ xs) le =
    let more = side_skip r rs c (suc at) xs (omega arith) in
    (λ i. if same c (cold_beyond r rs at le i) then x ∷ more i else more i)

-- ---- a body from a label on, in stretches: up to a part, the part, and what follows it

pub split_at : (from to : ℕ) (body : List Instruction) → from ≤ to
    → drop from body ≡ take (to - from) (drop from body) ++ drop to body
split_at from to body le = sym (take-append-drop (to - from) (drop from body))
    ∙ ap (λ t. take (to - from) (drop from body) ++ t)
    (drop-drop (to - from) from body
    ∙ ap (λ (n : ℕ). drop n body) (let e : from + (to - from) ≡ to = omega arith in e))

stretch_length : (from to : ℕ) (body : List Instruction) → from ≤ to → to ≤ length body
    → length (take (to - from) (drop from body)) ≡ to - from
stretch_length from to body le within = length-take-le (to - from) (drop from body)
    (let l = length-drop from body in omega arith)

pub parts_within : (from end : ℕ) (rs : List LabelRange) → AreParts from rs end → from ≤ end
parts_within from end [] parts = parts
parts_within from end (r ∷ rs) parts =
    let a = parts.0 in
    let b = parts.1 in
    let w = parts_within r.end end rs parts.2 in
    omega arith

module _ (from : ℕ) (r : LabelRange) (rs : List LabelRange) (body : List Instruction)
    (parts : AreParts from (r ∷ rs) (length body)) where
  -- what stands before the part
  abbrev ahead : List Instruction
  ahead = take (r.begin - from) (drop from body)

  pub body_split : drop from body ≡ ahead ++ (part_code body r ++ drop r.end body)
  body_split = split_at from r.begin body parts.0
      ∙ ap (λ t. ahead ++ t)
      (split_at r.begin r.end body (let lt = parts.1 in omega arith))

  pub ahead_length : length ahead ≡ r.begin - from
  ahead_length = stretch_length from r.begin body parts.0
      (let lt = parts.1 in let w = parts_within r.end (length body) rs parts.2 in omega arith)

  pub part_length : length (part_code body r) ≡ r.end - r.begin
  part_length = stretch_length r.begin r.end body (let lt = parts.1 in omega arith)
      (parts_within r.end (length body) rs parts.2)

  pub ahead_is_hot : (k : ℕ) → k < length ahead → is_cold (r ∷ rs) (from + k) ≡ false
  ahead_is_hot k lt =
      let l = ahead_length in let a = parts.0 in
      cold_before r.begin (length body) (r ∷ rs) (from + k)
      ((let z : r.begin ≤ r.begin = omega arith in z), parts.1, parts.2) (omega arith)

  pub part_is_cold : (k : ℕ) → k < length (part_code body r)
      → is_cold (r ∷ rs) (from + length ahead + k) ≡ true
  part_is_cold k lt =
      let l = ahead_length in let m = part_length in let a = parts.0 in
      cold_inside r rs (from + length ahead + k) (omega arith) (omega arith)

  -- each side, up to the part's end and after it
  side_split : (c : Bool) → side_from (r ∷ rs) c from (drop from body)
      ≡ side_from (r ∷ rs) c from ahead
      ++ (side_from (r ∷ rs) c (from + length ahead) (part_code body r)
      ++ side_from rs c r.end (drop r.end body))
  side_split c =
      let l = ahead_length in let m = part_length in let a = parts.0 in let b = parts.1 in
      let at : from + length ahead + length (part_code body r) ≡ r.end = omega arith in
      ap (side_from (r ∷ rs) c from) body_split
      ∙ side_both (r ∷ rs) c from ahead (part_code body r ++ drop r.end body)
      ∙ ap (λ t. side_from (r ∷ rs) c from ahead ++ t)
      (side_both (r ∷ rs) c (from + length ahead) (part_code body r) (drop r.end body)
      ∙ ap (λ (n : ℕ). side_from (r ∷ rs) c (from + length ahead) (part_code body r)
      ++ side_from (r ∷ rs) c n (drop r.end body)) at
      ∙ ap (λ t. side_from (r ∷ rs) c (from + length ahead) (part_code body r) ++ t)
      (side_skip r rs c r.end (drop r.end body) (let z : r.end ≤ r.end = omega arith in z)))

  pub hot_next : side_from (r ∷ rs) false from (drop from body)
      ≡ take (r.begin - from) (drop from body) ++ side_from rs false r.end (drop r.end body)
  hot_next = side_split false
      ∙ (λ i. all_kept (r ∷ rs) false from ahead ahead_is_hot i
      ++ (all_left_out (r ∷ rs) false (from + length ahead) (part_code body r) part_is_cold i
      ++ side_from rs false r.end (drop r.end body)))

  pub cold_next : side_from (r ∷ rs) true from (drop from body)
      ≡ part_code body r ++ side_from rs true r.end (drop r.end body)
  cold_next = side_split true
      ∙ (λ i. all_left_out (r ∷ rs) true from ahead ahead_is_hot i
      ++ (all_kept (r ∷ rs) true (from + length ahead) (part_code body r) part_is_cold i
      ++ side_from rs true r.end (drop r.end body)))

-- without parts all is as it stands

pub hot_all : (at : ℕ) (xs : List Instruction) → side_from [] false at xs ≡ xs
hot_all at [] = refl
hot_all at (x ∷ xs) = ap (λ t. x ∷ t) (hot_all (suc at) xs)

pub cold_none : (at : ℕ) (xs : List Instruction) → side_from [] true at xs ≡ []
cold_none at [] = refl
cold_none at (x ∷ xs) = cold_none (suc at) xs

-- ---- what holds of all instructions

pub side_all : (P : Instruction → Type 0) (rs : List LabelRange) (c : Bool) (at : ℕ)
    (xs : List Instruction) → AllByRecursion P xs → AllByRecursion P (side_from rs c at xs)
side_all P rs c at [] all = tt
side_all P rs c at (x ∷ xs) all =
    by (same c (is_cold rs at)) (side_all P rs c (suc at) xs all.1)
  where
    by : (b : Bool) → AllByRecursion P (side_from rs c (suc at) xs)
        → AllByRecursion P (if b then x ∷ side_from rs c (suc at) xs
        else side_from rs c (suc at) xs)
    by true more = (all.0, more)
    by false more = more

-- ---- sizes

pub body_size_both : (y : Layout) (xs ys : List Instruction)
    → body_size y (xs ++ ys) ≡ body_size y xs + body_size y ys
body_size_both y [] ys = omega arith
body_size_both y (x ∷ xs) ys = let r = body_size_both y xs ys in omega arith

-- the code of instructions one after another
pub code_both : (k : Links) (y : Layout) (at : ℕ) (xs ys : List Instruction)
    → code_from k y at (xs ++ ys) ≡ code_from k y at xs ++ code_from k y (at + body_size y xs) ys
code_both k y at [] ys =
    ap (λ (n : ℕ). code_from k y n ys) (let e : at ≡ at + 0 = omega arith in e)
code_both k y at (x ∷ xs) ys =
    let next = at + template_size y x in
    let there : next + body_size y xs ≡ at + (template_size y x + body_size y xs) = omega arith in
    ap (λ t. template k y at x ++ t) (code_both k y next xs ys)
    ∙ sym (append_assoc (template k y at x) (code_from k y next xs)
    (code_from k y (next + body_size y xs) ys))
    ∙ ap (λ (n : ℕ). template k y at x ++ code_from k y next xs ++ code_from k y n ys) there

-- the sides have all instructions
pub sides_sum : (y : Layout) (rs : List LabelRange) (at : ℕ) (xs : List Instruction)
    → body_size y (side_from rs false at xs) + body_size y (side_from rs true at xs)
    ≡ body_size y xs
sides_sum y rs at [] = refl
sides_sum y rs at (x ∷ xs) = by (is_cold rs at) (sides_sum y rs (suc at) xs)
  where
    by : (b : Bool)
        → body_size y (side_from rs false (suc at) xs) + body_size y (side_from rs true (suc at) xs)
        ≡ body_size y xs
        → body_size y (if same false b then x ∷ side_from rs false (suc at) xs
        else side_from rs false (suc at) xs)
        + body_size y (if same true b then x ∷ side_from rs true (suc at) xs
        else side_from rs true (suc at) xs) ≡ template_size y x + body_size y xs
    by true more = omega arith
    by false more = omega arith

-- ---- labels

-- one side up to a label and after it
pub side_at : (rs : List LabelRange) (c : Bool) (code : List Instruction) (label : ℕ)
    → label ≤ length code → side_from rs c 0 code
    ≡ side_from rs c 0 (take label code) ++ side_from rs c label (drop label code)
side_at rs c code label le =
    let l = length-take-le label code le in
    ap (side_from rs c 0) (sym (take-append-drop label code))
    ∙ side_both rs c 0 (take label code) (drop label code)
    ∙ ap (λ (n : ℕ). side_from rs c 0 (take label code) ++ side_from rs c n (drop label code))
    (let e : 0 + length (take label code) ≡ label = omega arith in e)

-- the instruction of a label is in its side, after those of its side before it
pub label_in_side : (rs : List LabelRange) (code : List Instruction) (label : ℕ) (d : Instruction)
    → label < length code → side_from rs (is_cold rs label) 0 code
    ≡ side_from rs (is_cold rs label) 0 (take label code)
    ++ (get_or code label d ∷ side_from rs (is_cold rs label) (suc label) (drop (suc label) code))
label_in_side rs code label d lt =
    side_at rs (is_cold rs label) code label (omega arith)
    ∙ ap (λ t. side_from rs (is_cold rs label) 0 (take label code) ++ t)
    (ap (side_from rs (is_cold rs label) label) (drop-cons code label d lt)
    ∙ kept rs (is_cold rs label) label (get_or code label d) (drop (suc label) code) refl)

-- so many bytes before it, and at least so many in all
pub offset_within : (y : Layout) (rs : List LabelRange) (code : List Instruction) (label : ℕ)
    (d : Instruction) → label < length code
    → offset_in y rs code label + template_size y (get_or code label d)
    ≤ body_size y (side_from rs (is_cold rs label) 0 code)
offset_within y rs code label d lt =
    let c = is_cold rs label in
    let e = ap (body_size y) (label_in_side rs code label d lt) in
    let b = body_size_both y (side_from rs c 0 (take label code))
    (get_or code label d ∷ side_from rs c (suc label) (drop (suc label) code)) in
    omega arith

-- the next label of the same side has its code right after
pub label_next : (y : Layout) (hot cold : ℕ) (rs : List LabelRange) (code : List Instruction)
    (label : ℕ) (d : Instruction) → label < length code → is_cold rs (suc label) ≡ is_cold rs label
    → label_at y hot cold rs code (suc label)
    ≡ label_at y hot cold rs code label + template_size y (get_or code label d)
label_next y hot cold rs code label d lt same =
    let c = is_cold rs label in
    let x = get_or code label d in
    let l = length-take-le label code (omega arith) in
    let more : side_from rs c 0 (take (suc label) code)
    ≡ side_from rs c 0 (take label code) ++ (x ∷ []) =
    ap (side_from rs c 0) (take-suc code label d lt)
    ∙ side_both rs c 0 (take label code) (x ∷ [])
    ∙ ap (λ (n : ℕ). side_from rs c 0 (take label code) ++ side_from rs c n (x ∷ []))
    (let e : 0 + length (take label code) ≡ label = omega arith in e)
    ∙ ap (λ t. side_from rs c 0 (take label code) ++ t) (kept rs c label x [] refl) in
    let sizes = ap (body_size y) more in
    let both = body_size_both y (side_from rs c 0 (take label code)) (x ∷ []) in
    ap (λ (b : Bool). (if b then cold else hot) + body_size y (side_from rs b 0
    (take (suc label) code))) same
    ∙ (let e : (if c then cold else hot) + body_size y (side_from rs c 0 (take (suc label) code))
    ≡ label_at y hot cold rs code label + template_size y x = omega arith in e)
