-- Bodies whose cold parts stand apart, stretch by stretch.
use Rattle.std.proofs.Common.{◌≡◌, ℕ, zero, suc, ◌+◌, ◌-◌, ◌<◌, ◌≤◌, Bool, true, false, List, [], ◌∷◌, ◌++◌, length, get_or, take, drop, refl, sym, ap, subst, ◌∙◌, arith, drop-cons, append_assoc}
use Rattle.std.specs.Prelude.{if◌then◌else◌}
use Rattle.std.specs.List.{AllByRecursion}
use Rattle.linear_code.specs.declared.program.LabelRange.{LabelRange}
use Rattle.template_code.specs.ColdParts.{is_cold, AreParts, part_code, same, side_from}
use Rattle.template_code.proofs.ColdParts.{cold_beyond, parts_within, ahead_length, part_length, ahead_is_hot, part_is_cold, body_split, hot_next, cold_next, hot_all, cold_none, body_size_both, code_both}
use Rattle.x64_emit.specs.Words.{Links, Layout, Instruction, template_size, body_size, code_from, instruction_room, code_room, label_list, labels_from, part_ranges}
use Rattle.x64_emit.specs.declared.body.CodeRange.{CodeRange}

-- ---- what holds of all instructions holds of some of them

pub all_taken : (P : Instruction → Type 0) (n : ℕ) (xs : List Instruction) → AllByRecursion P xs
    → AllByRecursion P (take n xs)
all_taken P zero xs all = tt
all_taken P (suc n) [] all = tt
all_taken P (suc n) (x ∷ xs) all = (all.0, all_taken P n xs all.1)

pub all_dropped : (P : Instruction → Type 0) (n : ℕ) (xs : List Instruction) → AllByRecursion P xs
    → AllByRecursion P (drop n xs)
all_dropped P zero xs all = all
all_dropped P (suc n) [] all = tt
all_dropped P (suc n) (x ∷ xs) all = all_dropped P n xs all.1

-- the instructions from one label to another
pub all_between : (P : Instruction → Type 0) (from to : ℕ) (xs : List Instruction)
    → AllByRecursion P xs → AllByRecursion P (take (to - from) (drop from xs))
all_between P from to xs all =
    all_taken P (to - from) (drop from xs) (all_dropped P from xs all)

-- ---- rooms

pub room_both : (xs ys : List Instruction) → code_room (xs ++ ys) ≡ code_room xs + code_room ys
room_both [] ys = omega arith
room_both (x ∷ xs) ys = let r = room_both xs ys in omega arith

-- neither side takes more room than both
pub side_room : (rs : List LabelRange) (c : Bool) (at : ℕ) (xs : List Instruction)
    → code_room (side_from rs c at xs) ≤ code_room xs
side_room rs c at [] = omega arith
side_room rs c at (x ∷ xs) = by (same c (is_cold rs at)) (side_room rs c (suc at) xs)
  where
    by : (b : Bool) → code_room (side_from rs c (suc at) xs) ≤ code_room xs
        → code_room (if b then x ∷ side_from rs c (suc at) xs else side_from rs c (suc at) xs)
        ≤ instruction_room x + code_room xs
    by true more = omega arith
    by false more = omega arith

module _ (from : ℕ) (r : LabelRange) (rs : List LabelRange) (body : List Instruction)
    (parts : AreParts from (r ∷ rs) (length body)) where
  abbrev ahead : List Instruction
  ahead = take (r.begin - from) (drop from body)

  pub room_split : code_room (drop from body)
      ≡ code_room (take (r.begin - from) (drop from body))
      + (code_room (part_code body r) + code_room (drop r.end body))
  room_split = let e = ap code_room (body_split from r rs body parts) in
      let a = room_both ahead (part_code body r ++ drop r.end body) in
      let b = room_both (part_code body r) (drop r.end body) in
      omega arith

  -- ---- sizes

  pub hot_size_next : (y : Layout) → body_size y (side_from (r ∷ rs) false from (drop from body))
      ≡ body_size y (take (r.begin - from) (drop from body))
      + body_size y (side_from rs false r.end (drop r.end body))
  hot_size_next y = ap (body_size y) (hot_next from r rs body parts)
      ∙ body_size_both y ahead (side_from rs false r.end (drop r.end body))

  pub cold_size_next : (y : Layout) → body_size y (side_from (r ∷ rs) true from (drop from body))
      ≡ body_size y (part_code body r) + body_size y (side_from rs true r.end (drop r.end body))
  cold_size_next y = ap (body_size y) (cold_next from r rs body parts)
      ∙ body_size_both y (part_code body r) (side_from rs true r.end (drop r.end body))

  -- ---- code

  pub hot_code_next : (k : Links) (y : Layout) (at : ℕ)
      → code_from k y at (side_from (r ∷ rs) false from (drop from body))
      ≡ code_from k y at (take (r.begin - from) (drop from body))
      ++ code_from k y (at + body_size y (take (r.begin - from) (drop from body)))
      (side_from rs false r.end (drop r.end body))
  hot_code_next k y at = ap (code_from k y at) (hot_next from r rs body parts)
      ∙ code_both k y at ahead (side_from rs false r.end (drop r.end body))

-- ---- labels

hot_labels : (y : Layout) (rs : List LabelRange) (at hot cold : ℕ) (xs ys : List Instruction)
    → ((k : ℕ) → k < length xs → is_cold rs (at + k) ≡ false)
    → label_list y rs at hot cold (xs ++ ys)
    ≡ labels_from y hot xs ++ label_list y rs (at + length xs) (hot + body_size y xs) cold ys
hot_labels y rs at hot cold [] ys each =
    let a : at ≡ at + 0 = omega arith in
    let h : hot ≡ hot + 0 = omega arith in
    (λ i. label_list y rs (a i) (h i) cold ys)
hot_labels y rs at hot cold (x ∷ xs) ys each =
    let next = hot + template_size y x in
    let here : at ≡ at + 0 = omega arith in
    let a : suc at + length xs ≡ at + suc (length xs) = omega arith in
    let h : next + body_size y xs ≡ hot + (template_size y x + body_size y xs) = omega arith in
    ap (λ (b : Bool). if b
    then cold ∷ label_list y rs (suc at) hot (cold + template_size y x) (xs ++ ys)
    else hot ∷ label_list y rs (suc at) next cold (xs ++ ys))
    (ap (is_cold rs) here ∙ each 0 (omega arith))
    ∙ ap (λ t. hot ∷ t) (hot_labels y rs (suc at) next cold xs ys (λ k lt. ap (is_cold rs)
    (let e : suc at + k ≡ at + suc k = omega arith in e) ∙ each (suc k) (omega arith))
    ∙ (λ i. labels_from y next xs ++ label_list y rs (a i) (h i) cold ys))

cold_labels : (y : Layout) (rs : List LabelRange) (at hot cold : ℕ) (xs ys : List Instruction)
    → ((k : ℕ) → k < length xs → is_cold rs (at + k) ≡ true)
    → label_list y rs at hot cold (xs ++ ys)
    ≡ labels_from y cold xs ++ label_list y rs (at + length xs) hot (cold + body_size y xs) ys
cold_labels y rs at hot cold [] ys each =
    let a : at ≡ at + 0 = omega arith in
    let h : cold ≡ cold + 0 = omega arith in
    (λ i. label_list y rs (a i) hot (h i) ys)
cold_labels y rs at hot cold (x ∷ xs) ys each =
    let next = cold + template_size y x in
    let here : at ≡ at + 0 = omega arith in
    let a : suc at + length xs ≡ at + suc (length xs) = omega arith in
    let h : next + body_size y xs ≡ cold + (template_size y x + body_size y xs) = omega arith in
    ap (λ (b : Bool). if b
    then cold ∷ label_list y rs (suc at) hot next (xs ++ ys)
    else hot ∷ label_list y rs (suc at) (hot + template_size y x) cold (xs ++ ys))
    (ap (is_cold rs) here ∙ each 0 (omega arith))
    ∙ ap (λ t. cold ∷ t) (cold_labels y rs (suc at) hot next xs ys (λ k lt. ap (is_cold rs)
    (let e : suc at + k ≡ at + suc k = omega arith in e) ∙ each (suc k) (omega arith))
    ∙ (λ i. labels_from y next xs ++ label_list y rs (a i) hot (h i) ys))

labels_skip : (y : Layout) (r : LabelRange) (rs : List LabelRange) (at hot cold : ℕ)
    (xs : List Instruction) → r.end ≤ at
    → label_list y (r ∷ rs) at hot cold xs ≡ label_list y rs at hot cold xs
labels_skip y r rs at hot cold [] le = refl
labels_skip y r rs at hot cold (x ∷ xs) le =
    let a = labels_skip y r rs (suc at) hot (cold + template_size y x) xs (omega arith) in
    let b = labels_skip y r rs (suc at) (hot + template_size y x) cold xs (omega arith) in
    (λ i. if cold_beyond r rs at le i then cold ∷ a i else hot ∷ b i)

pub labels_last : (y : Layout) (at hot cold : ℕ) (xs : List Instruction)
    → label_list y [] at hot cold xs ≡ labels_from y hot xs
labels_last y at hot cold [] = refl
labels_last y at hot cold (x ∷ xs) =
    ap (λ t. hot ∷ t) (labels_last y (suc at) (hot + template_size y x) cold xs)

-- up to a part, in the part, and after it
pub labels_split : (y : Layout) (from hot cold : ℕ) (r : LabelRange) (rs : List LabelRange)
    (body : List Instruction) → AreParts from (r ∷ rs) (length body)
    → label_list y (r ∷ rs) from hot cold (drop from body)
    ≡ labels_from y hot (take (r.begin - from) (drop from body))
    ++ (labels_from y cold (part_code body r)
    ++ label_list y rs r.end (hot + body_size y (take (r.begin - from) (drop from body)))
    (cold + body_size y (part_code body r)) (drop r.end body))
labels_split y from hot cold r rs body parts =
    let ahead = take (r.begin - from) (drop from body) in
    let part = part_code body r in
    let rest = drop r.end body in
    let l = ahead_length from r rs body parts in
    let m = part_length from r rs body parts in
    let a = parts.0 in let b = parts.1 in
    let hot' = hot + body_size y ahead in
    let cold' = cold + body_size y part in
    let there : from + length ahead + length part ≡ r.end = omega arith in
    ap (label_list y (r ∷ rs) from hot cold) (body_split from r rs body parts)
    ∙ hot_labels y (r ∷ rs) from hot cold ahead (part ++ rest) (ahead_is_hot from r rs body parts)
    ∙ ap (λ t. labels_from y hot ahead ++ t)
    (cold_labels y (r ∷ rs) (from + length ahead) hot' cold part rest
    (part_is_cold from r rs body parts)
    ∙ ap (λ t. labels_from y cold part ++ t)
    (ap (λ (n : ℕ). label_list y (r ∷ rs) n hot' cold' rest) there
    ∙ labels_skip y r rs r.end hot' cold' rest (let z : r.end ≤ r.end = omega arith in z)))

-- ---- the cold parts alone

abbrev pub parts_code : List LabelRange → List Instruction → List Instruction
parts_code [] body = []
parts_code (r ∷ rs) body = part_code body r ++ parts_code rs body

pub parts_are_cold : (from : ℕ) (rs : List LabelRange) (body : List Instruction)
    → AreParts from rs (length body) → side_from rs true from (drop from body) ≡ parts_code rs body
parts_are_cold from [] body parts = cold_none from (drop from body)
parts_are_cold from (r ∷ rs) body parts = cold_next from r rs body parts
    ∙ ap (λ t. part_code body r ++ t) (parts_are_cold r.end rs body parts.2)

pub parts_next : (rs : List LabelRange) (i : ℕ) (d : LabelRange) (body : List Instruction)
    → i < length rs → parts_code (drop i rs) body
    ≡ part_code body (get_or rs i d) ++ parts_code (drop (i + 1) rs) body
parts_next rs i d body lt = ap (λ ps. parts_code ps body) (drop-cons rs i d lt)
    ∙ ap (λ (n : ℕ). part_code body (get_or rs i d) ++ parts_code (drop n rs) body)
    (let e : suc i ≡ i + 1 = omega arith in e)

-- where the code reads no part
abbrev pub no_part : LabelRange
no_part = record { begin = 0; end = 0 }

pub cold_room : (rs : List LabelRange) (body : List Instruction) → AreParts 0 rs (length body)
    → code_room (parts_code rs body) ≤ code_room body
cold_room rs body parts = let e = ap code_room (parts_are_cold 0 rs body parts) in
    let r = side_room rs true 0 body in omega arith

pub part_within : (from end : ℕ) (rs : List LabelRange) (i : ℕ) (d : LabelRange)
    → AreParts from rs end → i < length rs
    → ((get_or rs i d).begin < (get_or rs i d).end) × ((get_or rs i d).end ≤ end)
part_within from end [] i d parts lt = absurd (omega arith)
part_within from end (r ∷ rs) zero d parts lt = (parts.1, parts_within r.end end rs parts.2)
part_within from end (r ∷ rs) (suc i) d parts lt =
    part_within r.end end rs i d parts.2 (omega arith)

pub parts_are : (rs : List LabelRange) (i : ℕ) → i < length rs
    → drop i rs ≡ get_or rs i no_part ∷ drop (i + 1) rs
parts_are rs i lt = drop-cons rs i no_part lt ∙ ap (λ (n : ℕ). get_or rs i no_part ∷ drop n rs)
    (let e : suc i ≡ i + 1 = omega arith in e)

-- the parts from one on
pub parts_after : (from end : ℕ) (rs : List LabelRange) (i : ℕ) (d : LabelRange)
    → AreParts from (drop i rs) end → i < length rs
    → AreParts from (get_or rs i d ∷ drop (i + 1) rs) end
parts_after from end rs i d parts lt = subst (λ ps. AreParts from ps end)
    (drop-cons rs i d lt ∙ ap (λ (n : ℕ). get_or rs i d ∷ drop n rs)
    (let e : suc i ≡ i + 1 = omega arith in e)) parts

pub ranges_next : (y : Layout) (at : ℕ) (rs : List LabelRange) (i : ℕ) (d : LabelRange)
    (body : List Instruction) → i < length rs → part_ranges y at (drop i rs) body
    ≡ record { begin = at; end = at + body_size y (part_code body (get_or rs i d)) }
    ∷ part_ranges y (at + body_size y (part_code body (get_or rs i d))) (drop (i + 1) rs) body
ranges_next y at rs i d body lt = ap (λ ps. part_ranges y at ps body) (drop-cons rs i d lt)
    ∙ ap (λ (n : ℕ). record { begin = at; end = at + body_size y (part_code body (get_or rs i d)) }
    ∷ part_ranges y (at + body_size y (part_code body (get_or rs i d))) (drop n rs) body)
    (let e : suc i ≡ i + 1 = omega arith in e)

-- ---- past the last part

drop_all : (rs : List LabelRange) (i : ℕ) → length rs ≤ i → drop i rs ≡ []
drop_all [] zero le = refl
drop_all [] (suc i) le = refl
drop_all (r ∷ rs) zero le = absurd (omega arith)
drop_all (r ∷ rs) (suc i) le = drop_all rs i (omega arith)

pub hot_last : (rs : List LabelRange) (i from : ℕ) (xs : List Instruction) → length rs ≤ i
    → side_from (drop i rs) false from xs ≡ xs
hot_last rs i from xs le =
    ap (λ ps. side_from ps false from xs) (drop_all rs i le) ∙ hot_all from xs

pub cold_last : (rs : List LabelRange) (i from : ℕ) (xs : List Instruction) → length rs ≤ i
    → side_from (drop i rs) true from xs ≡ []
cold_last rs i from xs le =
    ap (λ ps. side_from ps true from xs) (drop_all rs i le) ∙ cold_none from xs

pub labels_end : (y : Layout) (rs : List LabelRange) (i from hot cold : ℕ) (xs : List Instruction)
    → length rs ≤ i → label_list y (drop i rs) from hot cold xs ≡ labels_from y hot xs
labels_end y rs i from hot cold xs le =
    ap (λ ps. label_list y ps from hot cold xs) (drop_all rs i le)
    ∙ labels_last y from hot cold xs

-- ---- what has been added

pub labels_added : (old mid new a b more all whole : List ℕ) → mid ≡ old ++ a → new ≡ mid ++ b
    → all ≡ a ++ (b ++ more) → old ++ all ≡ whole → new ++ more ≡ whole
labels_added old mid new a b more all whole e f g h =
    ap (λ t. t ++ more) f ∙ append_assoc mid b more ∙ ap (λ t. t ++ (b ++ more)) e
    ∙ append_assoc old a (b ++ more) ∙ ap (λ t. old ++ t) (sym g) ∙ h

pub range_added : (old new : List CodeRange) (x : CodeRange) (more all whole : List CodeRange)
    → new ≡ old ++ x ∷ [] → all ≡ x ∷ more → old ++ all ≡ whole → new ++ more ≡ whole
range_added old new x more all whole e f g = ap (λ t. t ++ more) e
    ∙ append_assoc old (x ∷ []) more ∙ ap (λ t. old ++ t) (sym f) ∙ g
