-- Where the template of each instruction of a body is: among those of its side, wherever they
-- stand.
use Rattle.std.proofs.Common.{◌≡◌, ℕ, zero, suc, ◌+◌, ◌<◌, ◌≤◌, Bool, true, false, Some, List, [], ◌∷◌, ◌++◌, length, get_or, take, drop, sym, ap, subst, ◌∙◌, arith}
use Rattle.std.specs.Prelude.{slice_get, if◌then◌else◌}
use Rattle.std.proofs.lemmas.Option.{slice_get_within, get_or_from_slice_get}
use Rattle.match_bodies.specs.Words.{Memory, Instruction, LinearBody, BodyName, body_of, template, template_size, body_size, code_from, Layout, HasCode, links_of, begin_of, entry_code, IMAGE_BASE, IMAGE_RANGE_END, Setting}
use Rattle.linear_code.specs.declared.instruction.Instruction.TheVariants as instructions
use Rattle.linear_code.specs.declared.program.LabelRange.{LabelRange}
use Rattle.template_code.specs.ColdParts.{is_cold, same, side_from, falls_through}
use Rattle.template_code.proofs.ColdParts.{code_both, label_in_side, offset_within}
use Rattle.match_bodies.specs.Setting.{HasProgram}
use Rattle.match_bodies.proofs.Lemmas.{body_sizes, code_split, LabelsNear}

-- the instructions of a side before a label take no more than all of the side
side_most : (y : Layout) (rs : List LabelRange) (c : Bool) (at label : ℕ) (code : List Instruction)
    → body_size y (side_from rs c at (take label code)) ≤ body_size y (side_from rs c at code)
side_most y rs c at zero code = omega arith
side_most y rs c at (suc label) [] = omega arith
side_most y rs c at (suc label) (i ∷ is) =
    by (same c (is_cold rs at)) (side_from rs c (suc at) (take label is)) (side_from rs c (suc at)
    is) (side_most y rs c (suc at) label is)
  where
    by : (b : Bool) (front all : List Instruction) → body_size y front ≤ body_size y all
        → body_size y (if b then i ∷ front else front) ≤ body_size y (if b then i ∷ all else all)
    by true front all le = omega arith
    by false front all le = le

module _ (setting : Setting) (name : BodyName) (b : LinearBody)
    (there : body_of setting.program name ≡ Some b) where
  open setting use {program, plan as p, sites as q, image}

  -- where a side begins, and its instructions
  abbrev place : Bool → ℕ
  place c = if c then q.cold name else p.address name 0

  abbrev side : Bool → List Instruction
  side c = side_from b.cold c 0 b.code

  -- it is in the image
  side_near : (c : Bool) → (IMAGE_BASE < place c)
      × (place c + body_size (p.layout name) (side c) < IMAGE_RANGE_END)
  side_near true =
      let inside = (image.addresses name b there).cold_inside in (inside.low, inside.high)
  side_near false =
      let a = image.addresses name b there in
      let first = a.first in
      let low = a.inside.low in
      (omega arith, a.inside.high)

  -- and so is each label
  pub label_near : (label : ℕ) → (IMAGE_BASE < p.address name label)
      × (p.address name label < IMAGE_RANGE_END)
  label_near label =
      let c = is_cold b.cold label in
      let at = (image.addresses name b there).labels label in
      let most = side_most (p.layout name) b.cold c 0 label b.code in
      let n = side_near c in
      let low = n.0 in
      let high = n.1 in
      (omega arith, omega arith)

  -- up to where the code of an instruction ends
  pub end_near : (label : ℕ) (i : Instruction) → slice_get b.code label ≡ Some i
      → p.address name label + template_size (p.layout name) i < IMAGE_RANGE_END
  end_near label i there_is =
      let at = (image.addresses name b there).labels label in
      let lt = slice_get_within b.code label i there_is in
      let within = offset_within (p.layout name) b.cold b.code label instructions.Separator lt in
      let same_size = ap (template_size (p.layout name))
      (get_or_from_slice_get b.code label i instructions.Separator there_is) in
      let high = (side_near (is_cold b.cold label)).1 in
      omega arith

  -- the labels that it goes to are near
  pub labels_near : (label : ℕ) (i : Instruction) → slice_get b.code label ≡ Some i
      → LabelsNear (links_of p q name) (p.layout name) (p.address name label) i
  labels_near label i at = by i (end_near label i at)
    where
      by : (j : Instruction)
          → p.address name label + template_size (p.layout name) j < IMAGE_RANGE_END
          → LabelsNear (links_of p q name) (p.layout name) (p.address name label) j
      by (instructions.Jump to) high =
          let from = label_near label in
          let from0 = from.0 in
          let n = label_near to in
          let n0 = n.0 in
          let n1 = n.1 in
          (omega arith, omega arith, omega arith, omega arith)
      by (instructions.JumpIfZero slot to) high =
          let from = label_near label in
          let from0 = from.0 in
          let n = label_near to in
          let n0 = n.0 in
          let n1 = n.1 in
          (omega arith, omega arith, omega arith, omega arith)
      by j high = tt

  -- ---- the code of an instruction

  side_code : (m : Memory) → HasProgram setting m → (c : Bool)
      → HasCode m (place c) (code_from (links_of p q name) (p.layout name) (place c) (side c))
  side_code m has true = has.cold_code name b there
  side_code m has false =
      subst (λ x. HasCode m x (code_from (links_of p q name) (p.layout name) (p.address name 0)
      (side false))) (sym (image.addresses name b there).first)
      (code_split m (begin_of p q name) (entry_code program p q name)
      (code_from (links_of p q name) (p.layout name) (p.address name 0) (side false))
      (has.code name b there)).1

  module _ (m : Memory) (has : HasProgram setting m) (label : ℕ) (lt : label < length b.code) where
    abbrev c : Bool
    c = is_cold b.cold label

    abbrev here : Instruction
    here = get_or b.code label instructions.Separator

    abbrev front : List Instruction
    front = side_from b.cold c 0 (take label b.code)

    abbrev back : List Instruction
    back = side_from b.cold c (suc label) (drop (suc label) b.code)

    -- it is after those of its side before it
    split_code : code_from (links_of p q name) (p.layout name) (place c) (side c)
        ≡ code_from (links_of p q name) (p.layout name) (place c) front
        ++ code_from (links_of p q name) (p.layout name)
        (place c + body_size (p.layout name) front) (here ∷ back)
    split_code =
        ap (code_from (links_of p q name) (p.layout name) (place c))
        (label_in_side b.cold b.code label instructions.Separator lt)
        ∙ code_both (links_of p q name) (p.layout name) (place c) front (here ∷ back)

    template_here : HasCode m (p.address name label)
        (template (links_of p q name) (p.layout name) (p.address name label) here)
    template_here =
        let y = p.layout name in
        let k = links_of p q name in
        let x = place c + body_size y front in
        let all = code_split m (place c) (code_from k y (place c) front) (code_from k y x (here ∷
        back)) (subst (HasCode m (place c)) split_code (side_code m has c)) in
        let rest = subst (λ n. HasCode m (place c + n) (code_from k y x (here ∷ back)))
        (body_sizes k y (place c) front) all.1 in
        let own = (code_split m x (template k y x here)
        (code_from k y (x + template_size y here) back) rest).0 in
        subst (λ a. HasCode m a (template k y a here))
        (sym ((image.addresses name b there).labels label)) own

  pub template_there : (m : Memory) → HasProgram setting m → (label : ℕ) (i : Instruction)
      → slice_get b.code label ≡ Some i
      → HasCode m (p.address name label) (template (links_of p q name) (p.layout name)
      (p.address name label) i)
  template_there m has label i at =
      subst (λ j. HasCode m (p.address name label) (template (links_of p q name) (p.layout name)
      (p.address name label) j)) (get_or_from_slice_get b.code label i instructions.Separator at)
      (template_here m has label (slice_get_within b.code label i at))

  -- ---- where it ends

  pub code_ends : (label : ℕ) (i : Instruction) → slice_get b.code label ≡ Some i
      → p.after name label ≡ p.address name label + template_size (p.layout name) i
  code_ends label i at =
      (image.ends name b there).sized label (slice_get_within b.code label i at)
      ∙ ap (λ j. p.address name label + template_size (p.layout name) j)
      (get_or_from_slice_get b.code label i instructions.Separator at)

  -- and where it falls through, the next one's begins
  pub address_next : (label : ℕ) (i : Instruction) → slice_get b.code label ≡ Some i
      → falls_through i ≡ true
      → p.address name (label + 1) ≡ p.address name label + template_size (p.layout name) i
  address_next label i at falls =
      sym ((image.ends name b there).ends label i at falls) ∙ code_ends label i at
