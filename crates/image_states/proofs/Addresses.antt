-- Where the bodies of a program's image are.
use Rattle.std.proofs.Common.{◌≡◌, ◌≢◌, ◌⊎◌, ℕ, ◌+◌, ◌-◌, ◌^◌, ◌<◌, ◌≤◌, Bool, true, false, not, leb, ltb, List, length, get_or, take, Option, Some, None, refl, sym, ap, subst, ◌∙◌, arith, inl, inr}
use Rattle.std.specs.Prelude.{◌&&◌, if◌then◌else◌, slice_get}
use Rattle.std.proofs.lemmas.Option.{slice_get_within}
use Rattle.std.proofs.lemmas.Bool.{or_right, and_from, and_right, not_from_false, cases_eq, cases_lt, le-leb, lt-ltb, le-ltb}
use Rattle.image_states.specs.Words.{IMAGE_BASE, IMAGE_RANGE_END, is_between, is_data, data_end, is_hidden, LinearBody, LinearFunclet, LinearProgram, BodyName, body_of, Instruction, modrm, size, sizes, check_stack, template_size, body_size, is_cold, side_from, FitsProgram, RoutineView, funclet_frame, funclet, routines, IsFrameNear, routine_size, cold_size, cold_total, entry_size, bounds, text_begin, linked, Placed, PlacedPart, body_begin, end_of, placed, first_cursor, site_of, part_with, image_base, template_at, funclet_begin, functions_of, funclets_of, routine_of, address_of, plan_of, sites_of, HasWholeImage, IsInImage, routines_begin, cold_begin, probe_begin}
use Rattle.image_tables.specs.RoutinePlaces.{parts_of}
use Rattle.lowering_invariants.specs.ColdParts.{HasColdParts}
use Rattle.image_states.proofs.ColdLabels.{first_hot}
use Rattle.image_states.proofs.Lemmas.{no_routine, prologue_some, entry_least, end_inside, image_small, IsThere, there, Covers, covered, part_within, placed_most, placed_cold_least, placed_cold_most, bounds_rise, no_funclet, as_long, begin_is, funclet_is, funclet_size}
use Rattle.image_link.proofs.Bounds.{bounds_least, bounds_below}
use Rattle.image_tables.proofs.Labels.{template_some, within_get, taken, taken_past, taken_most, IsBetween, label_between}
use Rattle.image_states.proofs.Places.{IsBody, is_body}

-- ---- what no access of the source reaches

data_ends : (globals : List ℕ) → image_base + text_begin globals ≡ data_end globals
data_ends globals = omega arith

pub reserved : (globals : List ℕ) (a : ℕ) → image_base + text_begin globals ≤ a
    → a < IMAGE_RANGE_END → is_hidden globals a ≡ true
reserved globals a le lt =
    let e = data_ends globals in
    let past : is_data globals a ≡ false = and_right (leb 0x140001000 a) (ltb a (data_end globals))
    (le-ltb a (data_end globals) (omega arith)) in
    or_right _ (is_between IMAGE_BASE IMAGE_RANGE_END a && not (is_data globals a))
    (and_from (is_between IMAGE_BASE IMAGE_RANGE_END a) (not (is_data globals a))
    (and_from (leb IMAGE_BASE a) (ltb a IMAGE_RANGE_END) (le-leb IMAGE_BASE a (omega arith))
    (lt-ltb a IMAGE_RANGE_END lt))
    (not_from_false (is_data globals a) past))

-- ---- routines

-- a routine ends before the cold parts of all
pub routine_end : (p : LinearProgram) (index : ℕ) (x : Placed)
    → slice_get (placed p) index ≡ Some x → end_of x ≤ cold_begin p
routine_end p index x e = placed_most (site_of p) (first_cursor p) (routines p) index x e

-- and its cold parts are among these
pub cold_there : (p : LinearProgram) (index : ℕ) (x : Placed)
    → slice_get (placed p) index ≡ Some x
    → (cold_begin p ≤ x.cold)
    × (x.cold + cold_size x.routine ≤ cold_begin p + cold_total (routines p))
cold_there p index x e = (
  placed_cold_least (site_of p) (first_cursor p) (routines p) index x e,
  placed_cold_most (site_of p) (first_cursor p) (routines p) index x e,
)

check_stack_size : sizes check_stack ≡ 41
unfolding size modrm
check_stack_size = refl

module _ (program : LinearProgram) (c : HasWholeImage program) where
  abbrev fits : FitsProgram program
  fits = c.fits

  abbrev pub InImage : ℕ → ℕ → Type 0
  InImage from to = IsInImage (functions_of program) (funclets_of program) program (plan_of program)
      (sites_of program) from to

  -- from the text's begin up to its end
  pub in_image : (from to : ℕ) → text_begin program.globals ≤ from
      → to ≤ cold_begin program + cold_total (routines program)
      → InImage (image_base + from) (image_base + to)
  in_image from to low high =
      let end = end_inside program fits in
      let small = c.small in
      record {
        low = omega arith;
        high = omega arith;
        own = λ a le lt. reserved program.globals a (omega arith) (omega arith);
      }

  pub check_stack_inside : InImage (sites_of program).check_stack
      ((sites_of program).check_stack + sizes check_stack)
  check_stack_inside =
      let long = check_stack_size in
      let at = probe_begin program in
      let n : image_base + (at + sizes check_stack)
      ≡ (sites_of program).check_stack + sizes check_stack = omega arith in
      subst (InImage (image_base + at)) n (in_image at (at + sizes check_stack) (omega arith)
      (omega arith))

-- ---- a body

module _ (program : LinearProgram) (c : HasWholeImage program) (name : BodyName) (b : LinearBody)
    (is : body_of program name ≡ Some b) where
  abbrev x : Placed
  x = routine_of program name

  pub place : IsBody program c.fits name b
  place = is_body program c.fits name b is

  pub here : IsThere (site_of program) (linked program).text (text_begin program.globals) x
  here = there program place.index x c.fits place.at

  pub own_cold : HasColdParts x.routine.body
  own_cold = subst HasColdParts (sym place.body) (c.cold name b is)

  -- the first label is where the body begins
  pub body_first : template_at x 0 ≡ body_begin x
  body_first =
      let e = ap (λ (s : Bool). (if s then x.cold else body_begin x) + 0)
      (first_hot x.routine.body own_cold) in
      let z : body_begin x + 0 ≡ body_begin x = omega arith in
      e ∙ z

  -- where a label that isn't cold is
  pub hot_place : (label : ℕ) → is_cold x.routine.body.cold label ≡ false
      → template_at x label ≡ body_begin x + taken x.routine.layout x.routine.body.cold false 0
      label x.routine.body.code
  hot_place label hot =
      ap (λ (s : Bool). (if s then x.cold else body_begin x)
      + body_size x.routine.layout (side_from x.routine.body.cold s 0
      (take label x.routine.body.code))) hot

  -- the code of an instruction
  pub label_rises : (label : ℕ) (i : Instruction) → template_at x label
      < template_at x label + template_size x.routine.layout i
  label_rises label i = let some = template_some x.routine.layout i in omega arith

  -- is in the routine or in its cold parts
  abbrev pub IsInRoutine : ℕ → Type 0
  IsInRoutine rva = ((body_begin x ≤ rva) × (rva < end_of x))
      ⊎ ((x.cold ≤ rva) × (rva < x.cold + cold_size x.routine))

  one_of : (o : Option PlacedPart) (rva : ℕ) → Covers x o rva → IsInRoutine rva
  one_of None rva h = inl (h.0, h.1)
  one_of (Some q) rva h =
      let w = part_within x h.0 q here.near h.1 in
      let least = w.0 in
      let most = w.1 in
      let low = h.2 in
      let high = h.3 in
      inr (omega arith, omega arith)

  pub code_inside : (label rva : ℕ) (i : Instruction)
      → slice_get x.routine.body.code label ≡ Some i → template_at x label ≤ rva
      → rva < template_at x label + template_size x.routine.layout i → IsInRoutine rva
  code_inside label rva i there low high =
      one_of (part_with label (parts_of x)) rva
      (covered x label rva i here.near there low high)

  -- so it is near
  pub in_routine_small : (rva : ℕ) → IsInRoutine rva → rva < 2 ^ 32
  in_routine_small rva (inl h) =
      let high = h.1 in
      let end = routine_end program place.index x place.at in
      let inside = end_inside program c.fits in
      let few = image_small program c.fits in
      omega arith
  in_routine_small rva (inr h) =
      let high = h.1 in
      let most = (cold_there program place.index x place.at).1 in
      let inside = end_inside program c.fits in
      let few = image_small program c.fits in
      omega arith

  -- a label that isn't cold is before the routine's end
  pub hot_below : (label : ℕ) (i : Instruction) → slice_get x.routine.body.code label ≡ Some i
      → is_cold x.routine.body.cold label ≡ false
      → template_at x label + template_size x.routine.layout i ≤ end_of x
  hot_below label i there hot =
      let p = hot_place label hot in
      let z : 0 + label ≡ label = omega arith in
      let lt = slice_get_within x.routine.body.code label i there in
      let past = taken_past x.routine.layout x.routine.body.cold false 0 label
      (length x.routine.body.code) x.routine.body.code i lt there
      (ap (is_cold x.routine.body.cold) z ∙ hot) in
      let most = taken_most x.routine.layout x.routine.body.cold false 0
      (length x.routine.body.code) x.routine.body.code in
      omega arith

  -- each label is in the text, past the last instruction too
  between : (a : ℕ) → IsBetween x.routine.layout x.routine.body.cold (body_begin x) x.cold
      x.routine.body.code here.near.cold a
      → (text_begin program.globals ≤ a) × (a ≤ cold_begin program + cold_total (routines program))
  between a (inl h) =
      let low = h.0 in
      let high = h.1 in
      let before = here.here in
      let end = routine_end program place.index x place.at in
      (omega arith, omega arith)
  between a (inr h) =
      let low = h.0 in
      let high = h.1 in
      let colds = cold_there program place.index x place.at in
      let least = colds.0 in
      let most = colds.1 in
      (omega arith, omega arith)

  pub label_in_text : (label : ℕ) → (text_begin program.globals ≤ template_at x label)
      × (template_at x label ≤ cold_begin program + cold_total (routines program))
  label_in_text label =
      between (template_at x label)
      (label_between x.routine.layout x.routine.body.cold (body_begin x) x.cold
      x.routine.body.code here.near.cold label)

  -- the code of a body is in the image, and that of its cold parts
  pub body_inside : InImage program c (image_base + x.begin) (image_base + end_of x)
  body_inside =
      let before = here.here in
      let end = routine_end program place.index x place.at in
      in_image program c x.begin (end_of x) (omega arith) (omega arith)

  pub cold_inside : InImage program c (image_base + x.cold)
      (image_base + (x.cold + cold_size x.routine))
  cold_inside =
      let colds = cold_there program place.index x place.at in
      let least = colds.0 in
      let most = colds.1 in
      in_image program c x.cold (x.cold + cold_size x.routine) (omega arith) (omega arith)

-- a funclet has code before its body
entry_some : (program : LinearProgram) (c : HasWholeImage program) (name : BodyName)
    (b : LinearBody) (is : body_of program name ≡ Some b) (fl : LinearFunclet)
    → (routine_of program name).routine ≡ funclet program fl
    → 0 < entry_size (routine_of program name).routine
entry_some program c name b is fl e =
    let h = here program c name b is in
    let x = routine_of program name in
    let framed : x.routine.frame ≡ Some (funclet_frame fl.body) = ap (λ (r : RoutineView). r.frame)
    e in
    let least = entry_least x.routine (funclet_frame fl.body) h.near framed in
    let some = prologue_some (funclet_frame fl.body) (subst IsFrameNear framed h.near.frame) in
    omega arith

-- ---- funclets begin elsewhere

module _ (program : LinearProgram) (c : HasWholeImage program) where
  -- a funclet begins within the text
  pub funclet_end : (k : ℕ) → k < length program.funclets
      → funclet_begin program k < cold_begin program
  funclet_end k lt =
      let fits = c.fits in
      let long = as_long program fits in
      let n = length program.functions + k in
      let below = bounds_below (routines_begin program) (routines program) n 0 no_routine
      (omega arith) in
      let begin = begin_is program fits k in
      let some = funclet_size program fits k lt in
      omega arith

  pub begin_least : (k : ℕ) → k < length program.funclets → 4096 ≤ funclet_begin program k
  begin_least k lt =
      let fits = c.fits in
      let long = as_long program fits in
      let least = bounds_least (routines_begin program) (routines program)
      (length program.functions + k) 0 (omega arith) in
      let begin = begin_is program fits k in
      omega arith

  -- another routine's funclet begins outside of a body
  module _ (name : BodyName) (b : LinearBody) (is : body_of program name ≡ Some b) (k : ℕ)
      (in' : k < length program.funclets) where
    abbrev routine : Placed
    routine = routine_of program name

    abbrev own : IsBody program c.fits name b
    own = place program c name b is

    abbrev n : ℕ
    n = length program.functions + k

    elsewhere : (a : ℕ) → routine.begin ≤ a → a < end_of routine → own.index ≢ n
        → a ≢ funclet_begin program k
    elsewhere a from to other e =
        let q : a ≡ funclet_begin program k = e in
        let fits = c.fits in
        let rs = routines program in
        let long = as_long program fits in
        let begin = begin_is program fits k in
        let bound = own.bound in
        let some = funclet_size program fits k in' in
        let size = ap (λ (r : RoutineView). routine_size r) own.own in
        elim (cases_lt own.index n) [
          | inl before ↦ let r = bounds_rise (routines_begin program) rs own.index n 0 no_routine
              before (omega arith) in omega arith
          | inr rest ↦ elim (cases_lt n own.index) [
            | inl after ↦ let r = bounds_rise (routines_begin program) rs n own.index 0 no_routine
                after (let low = own.below in omega arith) in omega arith
            | inr equal ↦ absurd (other (omega arith))
          ]
        ]

    -- its own begins where the body's code does
    begins_there : own.index ≡ n → funclet_begin program k ≡ routine.begin
    begins_there same =
        let begin = begin_is program c.fits k in
        let bound = own.bound in
        let at = ap (λ (i : ℕ). get_or (bounds (routines_begin program) (routines program)) i 0)
        same in
        omega arith

    by_index : {A : Type 0} → (own.index ≡ n → A) → (own.index ≢ n → A) → A
    by_index here there = elim (cases_eq own.index n) [ inl e ↦ here e | inr ne ↦ there ne ]

    -- a body's instruction is at no funclet's first byte
    not_at : (a : ℕ) → IsInRoutine program c name b is a → a ≢ funclet_begin program k
    not_at a (inl h) e =
        let low = h.0 in
        let high = h.1 in
        let q : a ≡ funclet_begin program k = e in
        by_index (λ here.
        let there = begins_there here in
        let entry = entry_some program c name b is (get_or program.funclets k no_funclet)
        (own.own ∙ ap (λ (i : ℕ). get_or (routines program) i no_routine) here
        ∙ funclet_is program c.fits k in') in
        omega arith)
        (λ other. elsewhere a (omega arith) high other e)
    not_at a (inr h) e =
        let low = h.0 in
        let q : a ≡ funclet_begin program k = e in
        let end = funclet_end k in' in
        let colds = cold_there program own.index routine own.at in
        let least = colds.0 in
        omega arith

    pub not_first : (label : ℕ) → label < length b.code
        → address_of program name label ≢ image_base + funclet_begin program k
    not_first label lt e =
        let q : address_of program name label ≡ image_base + funclet_begin program k = e in
        let same = ap (λ (d : LinearBody). length d.code) own.body in
        let i = within_get routine.routine.body.code label (omega arith) in
        let at = template_at routine label in
        let z : at ≤ at = omega arith in
        not_at at (code_inside program c name b is label at i.0 i.1 z
        (label_rises program c name b is label i.0)) (omega arith)

    -- past a body's first byte no funclet begins
    pub no_funclet_inside : (a : ℕ) → image_base + routine.begin < a
        → a < image_base + end_of routine → a ≢ image_base + funclet_begin program k
    no_funclet_inside a from to e =
        let q : a ≡ image_base + funclet_begin program k = e in
        by_index (λ here. (let there = begins_there here in omega arith))
        (λ other. elsewhere (a - image_base) (omega arith) (omega arith) other (omega arith))
