-- Routines with a frame and their cold parts keep the rules, and are where the text is.
use Rattle.std.proofs.Common.{◌≡◌, ℕ, suc, ◌+◌, false, List, [], ◌∷◌, ◌++◌, length, map, Option, Some, None, refl, sym, ap, subst, ◌∙◌, arith, append_assoc}
use Rattle.std.specs.Prelude.{slice_get}
use Rattle.x64_emit.proofs.Parts.{all_between}
use Rattle.image_tables.specs.Words.{Memory, Instr, UnwindOperation, Nothing, FetchedInstr, items, Body, following, is_body, FramePlan, IsPlan, spelled_by, operations_of, HasItems, IsRight, spell, IsExecutableAt, prologue_code, LinearProgram, FrameLayout, info_of, spelled, code_from, FitsProgram, IsFrameNear, routine_size, frame_code, argument_code, routine_code, text_begin, linked, routines, body_size, hot_code, part_code, Placed, PlacedPart, end_of, body_begin, parts_of, site_of, placed, image_base, HasText, links, function_of, plan, rest_of, code_of_part, part, parts, IsFramed, FunctionsAreInMemory, PartsAreInMemory, FunctionsKeepTheRules, PartsKeepTheRules, services_of, probe_begin}
use Rattle.eh_tables.specs.declared.code.UnwindCode.{UnwindCode}
use Rattle.virtual_unwind.specs.CallerOf.{sets_frame}
use Rattle.virtual_unwind.specs.Undone.{operations}
use Rattle.frame_rules.specs.Codes.{are_allowed, is_ordered}
use Rattle.frame_rules.specs.Prologue.{ArePrologueSteps}
use Rattle.frame_rules.proofs.Planning.{codes_plan}
use Rattle.frame_rules.specs.Plan.{turned}
use Rattle.image_tables.proofs.Lemmas.{routine_small, spells_all, items_are_at, plans_are_encodable, plans_are_right, sizes_spelled, body_sizes, entry_small, site_near, has_places, routines_near, services_few}
use Rattle.template_code.proofs.ColdParts.{side_all}
use Rattle.unwind_check.specs.Fragments.{KeepsRules, AllKeepRules}
use Rattle.x64_emit.specs.Near.{IsInstructionNear}
use Rattle.x64_emit.proofs.Nearby.{code_in_room}
use Rattle.image_tables.proofs.PartPlaces.{IsPart}
use Rattle.image_tables.proofs.CodeInMemory.{IsThere, there, code_length, hot_small, routine_is_at, apart_is_at, part_is_at, part_room, placed_part}
use Rattle.image_tables.proofs.Arguments.{arguments_inner}
use Rattle.image_tables.proofs.BodyInstructions.{AreSaved}
use Rattle.image_tables.proofs.FramePlans.{plan_near, described, spelled_steps, laid_plan, leaf_plan, leaf_laid}
use Rattle.image_tables.proofs.Links.{links_near}
use Rattle.frame_layout.specs.Plans.{plan_of}
use Rattle.frame_layout.proofs.Planned.{probe_end_few}
use Rattle.template_code.specs.Frames.{frame_plan, plan_of_layout, probe_end}
use Rattle.image_tables.proofs.Rest.{IsFine, fine_inner, fine_both, body_fine, encodable_both, spelled_both}

-- ---- what comes after the prologue

-- by the plan of its layout
pub rest_fine : (p : LinearProgram) (x : Placed) (q : FramePlan) (is_plan : IsPlan q)
    → plan_of_layout x.routine.layout q.probe ≡ q → FitsProgram p
    → IsThere (site_of p) (linked p).text (text_begin p.globals) x
    → IsFine q is_plan (rest_of p x)
rest_fine p x q is_plan planned fits h =
    let r = x.routine in
    let entry = entry_small r h.near in
    let room = h.room in
    let hot = hot_small r in
    let saved = subst (λ (f : FramePlan). AreSaved (operations_of f) r.layout) planned h.saves in
    fine_both q is_plan (argument_code r.layout r.entry)
    (code_from (links p x) r.layout (body_begin x) (hot_code r.body))
    (fine_inner q is_plan r.layout (argument_code r.layout r.entry) planned
    (arguments_inner (operations_of q) r.layout r.entry saved h.near.entry))
    (body_fine q is_plan (links p x) r.layout (body_begin x) (hot_code r.body) planned
    (links_near p x fits h) saved
    (side_all (IsInstructionNear r.layout) r.body.cold false 0 r.body.code h.near.code)
    (omega arith))

-- a cold part
part_fine : (p : LinearProgram) (x : Placed) (q : FramePlan) (is_plan : IsPlan q) (k : PlacedPart)
    → plan_of_layout x.routine.layout q.probe ≡ q → FitsProgram p
    → IsThere (site_of p) (linked p).text (text_begin p.globals) x
    → IsPart x.routine.layout x.routine.body.cold x.cold x.routine.body.code k
    → IsFine q is_plan (code_of_part p x k)
part_fine p x q is_plan k planned fits h part =
    let r = x.routine in
    let room = h.cold_room in
    let own = part_room x k h.near part in
    let saved = subst (λ (f : FramePlan). AreSaved (operations_of f) r.layout) planned h.saves in
    body_fine q is_plan (links p x) r.layout k.begin (part_code r.body.code k.labels) planned
    (links_near p x fits h) saved
    (all_between (IsInstructionNear r.layout) k.labels.begin k.labels.end r.body.code h.near.code)
    (omega arith)

-- that of a leaf function
pub leaf_fine : (p : LinearProgram) (index : ℕ) (x : Placed) → FitsProgram p
    → slice_get (placed p) index ≡ Some x → x.routine.frame ≡ None
    → IsThere (site_of p) (linked p).text (text_begin p.globals) x
    → IsFine (frame_plan 0 0) leaf_plan (rest_of p x)
leaf_fine p index x fits e none h =
    rest_fine p x (frame_plan 0 0) leaf_plan (leaf_laid p index x e none) fits h

module _ (p : LinearProgram) (index : ℕ) (x : Placed) (f : FrameLayout)
    (framed : IsFramed p index x f) where
  here : IsThere (site_of p) (linked p).text (text_begin p.globals) x
  here = there p index x framed.fits framed.there

  pub sizes : IsFrameNear (Some f)
  sizes = subst IsFrameNear framed.framed here.near.frame

  pub is_plan : IsPlan (plan p x f)
  is_plan =
      let n = site_near (services_of p) p.globals (routines p) (length p.functions) p.main
      (services_few p) framed.fits.globals
      (routines_near p framed.fits) (has_places p framed.fits) in
      let text = n.text in
      let room = here.room in
      let few = probe_end_few f sizes.0.pushes in
      plan_near f (x.begin + probe_end (plan_of f 0)) (probe_begin p) sizes.0 (omega arith)
      (omega arith)

  rest : IsFine (plan p x f) is_plan (rest_of p x)
  rest =
      rest_fine p x (plan p x f) is_plan
      (laid_plan p index x f (plan p x f).probe framed.there framed.framed) framed.fits here

  -- by the codes of its info
  keeps : (is : List Instr) → IsFine (plan p x f) is_plan is
      → KeepsRules (function_of p x f) (spelled_by spell is)
  keeps is fine =
      let q = plan p x f in
      let d = described f q.probe in
      let leads = fine.leads [] in
      (λ i. is_body (following (d.frame_register i) (d.frame_offset i)
      (operations (d.codes i)) (spelled_by spell is) (Body [])))
      ∙ ap (λ (os : List UnwindOperation). is_body
      (following q.frame q.distance os (spelled_by spell is) (Body [])))
      (codes_plan spell q) ∙ ap is_body leads.1

  pub right : IsRight (function_of p x f)
  right =
      let q = plan p x f in
      let planned = plans_are_right spell q [] [] spells_all is_plan refl refl in
      let d = described f q.probe in
      let leads = rest.leads [] in
      record {
        offset = omega (arith, d.frame_offset, planned.offset);
        codes = d.codes ∙ planned.codes;
        prologue_size = d.prologue_size ∙ planned.prologue_size;
        steps = subst (λ r. ArePrologueSteps r (info_of f Nothing).frame_offset 0
            (function_of p x f).steps) (sym d.frame_register)
            (subst (λ n. ArePrologueSteps q.frame n 0 (function_of p x f).steps)
            (sym d.frame_offset) planned.steps);
        ordered = ap (λ (cs : List UnwindCode). is_ordered (operations cs)) d.codes
            ∙ planned.ordered;
        allowed = (λ i. are_allowed (d.frame_register i) (operations (d.codes i)))
            ∙ planned.allowed;
        frame = λ ne. ap (λ (cs : List UnwindCode). sets_frame (operations cs)) d.codes
            ∙ planned.frame (λ z. ne (d.frame_register ∙ z));
        body = keeps (rest_of p x) rest;
      }

  pub rest_keeps : KeepsRules (function_of p x f) (function_of p x f).rest
  rest_keeps = keeps (rest_of p x) rest

  -- ---- its cold parts

  planned : plan_of_layout x.routine.layout (plan p x f).probe ≡ plan p x f
  planned = laid_plan p index x f (plan p x f).probe framed.there framed.framed

  own_part : (n : ℕ) (q : PlacedPart) → slice_get (parts_of x) n ≡ Some q
      → IsFine (plan p x f) is_plan (code_of_part p x q)
  own_part n q e =
      part_fine p x (plan p x f) is_plan q planned framed.fits here (placed_part x n q here.near e)

  pub part_keeps : (n : ℕ) (q : PlacedPart) → slice_get (parts_of x) n ≡ Some q
      → KeepsRules (function_of p x f) (part p x q)
  part_keeps n q e = keeps (code_of_part p x q) (own_part n q e)

  each_keeps : (qs : List PlacedPart)
      → ((n : ℕ) (q : PlacedPart) → slice_get qs n ≡ Some q
      → KeepsRules (function_of p x f) (part p x q))
      → AllKeepRules (function_of p x f) (map (part p x) qs)
  each_keeps [] each = tt
  each_keeps (q ∷ qs) each = (each 0 q refl, each_keeps qs (λ n k e. each (suc n) k e))

  pub all_keep : AllKeepRules (function_of p x f) (parts p x f)
  all_keep = (rest_keeps, each_keeps (parts_of x) part_keeps)

  pub part_is_there : (m : Memory) (n : ℕ) (q : PlacedPart) → HasText m p
      → slice_get (parts_of x) n ≡ Some q
      → HasItems m (image_base + q.begin) (part p x q) (image_base + q.end)
  part_is_there m n q text e =
      let own = placed_part x n q here.near e in
      let at = image_base + q.begin in
      let code = code_of_part p x q in
      let room = here.cold_room in
      let small = part_room x q here.near own in
      let long : length (spelled code) ≡ body_size x.routine.layout
      (part_code x.routine.body.code q.labels) = sizes_spelled code
      ∙ body_sizes (links p x) x.routine.layout q.begin
      (part_code x.routine.body.code q.labels) in
      let few = code_in_room x.routine.layout (part_code x.routine.body.code q.labels)
      (all_between (IsInstructionNear x.routine.layout) q.labels.begin q.labels.end
      x.routine.body.code
      here.near.code) in
      let size = own.size in
      let has = items_are_at m at code (own_part n q e).encodable (omega arith)
      (part_is_at p m x q own (apart_is_at p m x text here)) in
      let end : at + length (spelled code) ≡ image_base + q.end = omega arith in
      subst (λ (n : ℕ). HasItems m at (part p x q) n) end has

  -- its code, in two parts
  code_parts : routine_code (site_of p) x.begin x.cold x.routine
      ≡ prologue_code (plan p x f) ++ rest_of p x
  code_parts =
      let r = x.routine in
      let check = probe_begin p in
      let a = argument_code r.layout r.entry in
      let b = code_from (links p x) r.layout (body_begin x) (hot_code r.body) in
      ap (λ (o : Option FrameLayout). (frame_code x.begin check o ++ a) ++ b) framed.framed
      ∙ append_assoc (prologue_code (plan p x f)) a b

  pub is_there : (m : Memory) → HasText m p → HasItems m (image_base + x.begin)
      (items (function_of p x f).steps ++ (function_of p x f).rest) (image_base + end_of x)
  is_there m text =
      let q = plan p x f in
      let at = image_base + x.begin in
      let code = prologue_code q ++ rest_of p x in
      let room = here.room in
      let small = routine_small x.routine here.near in
      let long : length (spelled code) ≡ routine_size x.routine = ap
      (λ (is : List Instr). length (spelled is)) (sym code_parts)
      ∙ code_length (site_of p) x.begin x.cold x.routine here.near in
      let enc = encodable_both (prologue_code q) (rest_of p x) (plans_are_encodable q is_plan).0
      rest.encodable in
      let has = items_are_at m at code enc (omega arith)
      (subst (λ (is : List Instr). IsExecutableAt m at (spelled is)) code_parts
      (routine_is_at p m x text here)) in
      let same : spelled_by spell code ≡ items (function_of p x f).steps
      ++ (function_of p x f).rest = spelled_both (prologue_code q) (rest_of p x)
      ∙ ap (λ (ys : List FetchedInstr). ys ++ spelled_by spell (rest_of p x))
      (spelled_steps q 0 (turned [] (operations_of q))) in
      let end : at + length (spelled code) ≡ image_base + end_of x = omega arith in
      subst (λ (n : ℕ). HasItems m at (items (function_of p x f).steps ++ (function_of p x f).rest)
      n) end (subst (λ (ys : List FetchedInstr). HasItems m at ys (at + length (spelled code)))
      same has)

pub functions_are_at : FunctionsAreInMemory
functions_are_at p index x f m framed text = is_there p index x f framed m text

pub parts_are_at : PartsAreInMemory
parts_are_at p index n x f q m framed e text = part_is_there p index x f framed m n q text e

pub functions_keep_the_rules : FunctionsKeepTheRules
functions_keep_the_rules p index x f framed = right p index x f framed

pub parts_keep_the_rules : PartsKeepTheRules
parts_keep_the_rules p index x f framed = all_keep p index x f framed
