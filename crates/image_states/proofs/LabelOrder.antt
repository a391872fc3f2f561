-- Where the labels of a body are: those that aren't cold one after another, and before the cold
-- ones.
use Rattle.std.proofs.Common.{◌≡◌, ℕ, ◌+◌, ◌-◌, ◌^◌, ◌<◌, ◌≤◌, Bool, true, false, List, length, Option, Some, None, refl, ap, sym, ◌∙◌, arith}
use Rattle.std.specs.Prelude.{slice_get, if◌then◌else◌, take}
use Rattle.linear_code.specs.declared.program.LabelRange.{LabelRange}
use Rattle.image_states.specs.Words.{distance, Instruction, LinearBody, LinearProgram, BodyName, body_of, Layout, address_or, own_addresses, text_begin, linked, Placed, body_begin, site_of, image_base, template_at, routine_of, address_of, plan_of, HasWholeImage, InCode, is_cold, side_from, body_size, template_size, size_of}
use Rattle.image_states.proofs.Lemmas.{end_inside, image_small, IsThere, away}
use Rattle.image_states.proofs.Addresses.{place, here, routine_end, cold_there, hot_place, hot_below, label_rises, label_in_text, code_inside, in_routine_small}
use Rattle.image_tables.proofs.Labels.{within_get, taken_least, taken_past, taken_most, label_is}

module _ (program : LinearProgram) (c : HasWholeImage program) (name : BodyName) (b : LinearBody)
    (is : body_of program name ≡ Some b) where
  abbrev x : Placed
  x = routine_of program name

  abbrev y : Layout
  y = x.routine.layout

  abbrev code : List Instruction
  code = x.routine.body.code

  abbrev colds : List LabelRange
  colds = x.routine.body.cold

  abbrev T : ℕ → ℕ
  T label = template_at x label

  abbrev labels : List ℕ
  labels = (own_addresses x.begin x.cold x.routine).labels

  abbrev end' : ℕ
  end' = (own_addresses x.begin x.cold x.routine).end

  -- where a label is in the image
  abbrev L : ℕ → ℕ
  L i = address_or labels i end'

  h : IsThere (site_of program) (linked program).text (text_begin program.globals) x
  h = here program c name b is

  pub at_label : (i : ℕ) → L i ≡ T i
  at_label i = label_is y colds (body_begin x) x.cold code h.near.cold i end' (omega arith)

  abbrev IsHot : ℕ → Type 0
  IsHot label = is_cold colds label ≡ false

  -- labels that aren't cold rise
  pub rises : (i j : ℕ) → IsHot i → IsHot j → i ≤ j → T i ≤ T j
  rises i j hot hot' le =
      let o = taken_least y colds false 0 i j code le in
      let p = hot_place program c name b is i hot in
      let q = hot_place program c name b is j hot' in
      omega arith

  pub above : (i j : ℕ) (k : Instruction) → slice_get code i ≡ Some k → IsHot i → IsHot j → i < j
      → T i + template_size y k ≤ T j
  above i j k there hot hot' lt =
      let z : 0 + i ≡ i = omega arith in
      let o = taken_past y colds false 0 i j code k lt there (ap (is_cold colds) z ∙ hot) in
      let p = hot_place program c name b is i hot in
      let q = hot_place program c name b is j hot' in
      omega arith

  pub rises_past : (i j : ℕ) → i < length code → IsHot i → IsHot j → i < j → T i < T j
  rises_past i j lt hot hot' less =
      let k = within_get code i lt in
      let a = above i j k.0 k.1 hot hot' less in
      let r = label_rises program c name b is i k.0 in
      omega arith

  -- and are before those that are
  pub hot_least : (i : ℕ) → IsHot i → T i ≤ x.cold
  hot_least i hot =
      let p = hot_place program c name b is i hot in
      let m = taken_most y colds false 0 i code in
      let w = place program c name b is in
      let end = routine_end program w.index x w.at in
      let cold = (cold_there program w.index x w.at).0 in
      omega arith

  pub hot_before : (i : ℕ) → i < length code → IsHot i → T i < x.cold
  hot_before i lt hot =
      let k = within_get code i lt in
      let below = hot_below program c name b is i k.0 k.1 hot in
      let r = label_rises program c name b is i k.0 in
      let w = place program c name b is in
      let end = routine_end program w.index x w.at in
      let cold = (cold_there program w.index x w.at).0 in
      omega arith

  pub cold_least : (i : ℕ) → is_cold colds i ≡ true → x.cold ≤ T i
  cold_least i cold =
      let p = ap (λ (s : Bool). (if s then x.cold else body_begin x)
      + body_size y (side_from colds s 0 (take i code))) cold in
      omega arith

  pub small : (i : ℕ) → T i < 2 ^ 32
  small i =
      let l = (label_in_text program c name b is i).1 in
      let end = end_inside program c.fits in
      let few = image_small program c.fits in
      omega arith

  pub some : (i : ℕ) → 4096 ≤ T i
  some i = let l = (label_in_text program c name b is i).0 in omega arith

  -- an address within the code of an instruction
  pub record Within (label rva : ℕ) : Type 0 where
    pub instruction : Instruction
    pub there : slice_get code label ≡ Some instruction
    pub low : T label ≤ rva
    pub high : rva < T label + template_size y instruction

  within_by : (label rip : ℕ) → InCode (plan_of program) name label rip
      → (o : Option Instruction) → slice_get code label ≡ o
      → Within label (distance image_base rip)
  within_by label rip i None e =
      let low = i.low in
      let high = i.high in
      let size = ap (size_of y) e in
      absurd (omega arith)
  within_by label rip i (Some k) e =
      let low = i.low in
      let high = i.high in
      let size = ap (size_of y) e in
      let rva = rip - image_base in
      let at : image_base + rva ≡ rip = omega arith in
      let inside = code_inside program c name b is label rva k e (omega arith) (omega arith) in
      let s = in_routine_small program c name b is rva inside in
      let d = ap (distance image_base) (sym at) ∙ away rva s in
      record { instruction = k; there = e; low = omega arith; high = omega arith }

  pub within : (label rip : ℕ) → InCode (plan_of program) name label rip
      → Within label (distance image_base rip)
  within label rip i = within_by label rip i (slice_get code label) refl

  pub at_itself : (label : ℕ) → label < length code
      → Within label (distance image_base (address_of program name label))
  at_itself label lt =
      let e = away (T label) (small label) in
      let k = within_get code label lt in
      let r = label_rises program c name b is label k.0 in
      record { instruction = k.0; there = k.1; low = omega arith; high = omega arith }
