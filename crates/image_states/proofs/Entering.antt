-- The code of a body, as its image has it and as the plan says.
use Rattle.std.proofs.Common.{◌≡◌, ℕ, ◌+◌, ◌^◌, ◌<◌, ◌==◌, Bool, true, false, not, ◌++◌, get_or, Option, Some, None, refl, sym, ap, subst, ◌∙◌, arith}
use Rattle.std.specs.Prelude.{slice_get, ◌&&◌}
use Rattle.std.proofs.lemmas.Option.{slice_get_within, get_or_from_slice_get, slice_get-get_or}
use Rattle.image_states.specs.Words.{FuncletKind, Filter, Finally, LinearBody, LinearFunction, LinearFunclet, LinearProgram, BodyName, FunctionBody, FuncletBody, function_body, funclet_body, body_of, FrameLayout, Layout, IsInstructionNear, code_from, hot_code, cold_code, RoutineView, leaf_if, funclet_frame, nothing, funclet, argument_code, own_addresses, routine_code, apart_code, text_begin, linked, IsFrameNear, Placed, body_begin, site_of, image_base, links, links_of, begin_of, entry_code, code_of, is_leaf, routine_of, address_of, plan_of, sites_of, HasWholeImage, parameters_code, FitsFunclet, kept_by, HasParent, frame_code, parent_base, keep_base, keep_argument, function_arguments, funclet_arguments, probe_begin}
use Rattle.frame_rules.specs.Bytes.{prologue_code}
use Rattle.template_code.proofs.ColdParts.{side_all}
use Rattle.image_tables.proofs.Labels.{label_is}
use Rattle.image_states.proofs.Lemmas.{all_at, entry_small, hot_small, none_some, IsThere, laid_plan}
use Rattle.template_code.specs.Jumps.{distance}
use Rattle.x64_emit.specs.Entries as link_entries
use Rattle.image_link.specs.Routines.{entry_of}
use Rattle.image_link.specs.Routines as link
use Rattle.image_link.specs.Text as texts
use Rattle.template_code.specs.Frames.{plan_of_layout, probe_end, probing}
use Rattle.frame_layout.specs.Plans as layouts
use Rattle.frame_layout.proofs.Planned.{probe_end_few}
use Rattle.match_bodies.specs.CodeSites.{arguments_code, cold_code_of}
use Rattle.image_states.proofs.Places.{is_function, is_funclet}
use Rattle.image_states.proofs.Addresses.{place, here, body_first}
use Rattle.image_states.proofs.Shifts.{AreMoved, code_moved}

-- ---- frames

-- where the layout's plan is the frame's
pub frame_same : (o : Option FrameLayout) (y : Layout) (at check at' check' : ℕ) → IsFrameNear o
    → ((f : FrameLayout) → o ≡ Some f → (probe : ℕ) → plan_of_layout y probe
    ≡ layouts.plan_of f probe) → at' ≡ image_base + at → check' ≡ image_base + check
    → at + 14 < 2 ^ 48 → frame_code (probing (plan_of_layout y) at' check') (is_leaf o)
    ≡ texts.frame_code at check o
frame_same None y at check at' check' near laid e f lt = refl
frame_same (Some g) y at check at' check' near laid e f lt =
    let end = probe_end (layouts.plan_of g 0) in
    let few = probe_end_few g near.0.pushes in
    let away : distance (at' + end) check' ≡ distance (at + end) check = omega arith in
    ap (λ q. prologue_code (plan_of_layout y (distance (at' + probe_end q) check')))
    (laid g refl 0)
    ∙ ap (λ probe. prologue_code (plan_of_layout y probe)) away
    ∙ ap prologue_code (laid g refl (distance (at + end) check))

-- ---- arguments

function_same : (leaf : Bool) (fn : LinearFunction)
    → parameters_code (leaf_if leaf fn).layout 0 fn.parameters
    ≡ argument_code (leaf_if leaf fn).layout (leaf_if leaf fn).entry
function_same true fn = refl
function_same false fn = refl

base_same : (parent : Option ℕ) (b : ℕ) → keep_base parent b ≡ link_entries.keep_base parent b
base_same None b = refl
base_same (Some p) b = refl

kind_same : (y : Layout) (k : FuncletKind) (parent : Option ℕ) (slot : ℕ) → y.base ≡ Some slot
    → keep_base parent slot ++ keep_argument y k ≡ argument_code y (entry_of k parent)
kind_same y Filter parent slot e = (λ i. base_same parent slot i ++ keep_argument y Filter)
    ∙ ap (λ (o : Option ℕ). link_entries.keep_base parent (texts.base_of y o)
    ++ keep_argument y Filter) (sym e)
kind_same y (Finally flag) parent slot e = (λ i. base_same parent slot i
    ++ keep_argument y (Finally flag)) ∙ ap (λ (o : Option ℕ). link_entries.keep_base parent
    (texts.base_of y o) ++ keep_argument y (Finally flag)) (sym e)

module _ (program : LinearProgram) (c : HasWholeImage program) where
  parent_is : (parent : Option ℕ) → HasParent program parent
      → parent_base (plan_of program) parent ≡ kept_by program parent
  parent_is None h = refl
  parent_is (Some k) h =
      let d : LinearFunclet = record {
        kind = Filter;
        function = 0;
        parent = None;
        body = nothing;
      } in
      let g = is_funclet program c.fits k (get_or program.funclets k d)
      (slice_get-get_or program.funclets k d h) in
      ap (λ (r : RoutineView). r.layout.base) g.routine

  funclet_same : (k : ℕ) (fl : LinearFunclet) → slice_get program.funclets k ≡ Some fl
      → funclet_arguments (plan_of program) (routine_of program (FuncletBody k)).routine.layout
      (Some fl) ≡ argument_code (routine_of program (FuncletBody k)).routine.layout
      (routine_of program (FuncletBody k)).routine.entry
  funclet_same k fl e =
      let g = is_funclet program c.fits k fl e in
      let lt = slice_get_within program.funclets k fl e in
      let fit = subst (FitsFunclet program) (get_or_from_slice_get program.funclets k fl fl e)
      (all_at (FitsFunclet program) program.funclets k fl c.fits.funclets lt) in
      let own : (r : RoutineView) → r ≡ funclet program fl
      → funclet_arguments (plan_of program) r.layout (Some fl) ≡ argument_code r.layout r.entry =
      λ r same. subst (λ (q : RoutineView). funclet_arguments (plan_of program) q.layout (Some fl)
      ≡ argument_code q.layout q.entry) (sym same)
      (ap (λ (o : Option ℕ). keep_base o (funclet_frame fl.body).kept
      ++ keep_argument (funclet program fl).layout fl.kind) (parent_is fl.parent fit.parent)
      ∙ kind_same (funclet program fl).layout fl.kind (kept_by program fl.parent)
      (funclet_frame fl.body).kept refl) in
      own (routine_of program (FuncletBody k)).routine g.routine

  arguments_by_function : (f : ℕ) (o : Option LinearFunction) (b : LinearBody)
      → slice_get program.functions f ≡ o → function_body o ≡ Some b
      → function_arguments (routine_of program (FunctionBody f)).routine.layout o
      ≡ argument_code (routine_of program (FunctionBody f)).routine.layout
      (routine_of program (FunctionBody f)).routine.entry
  arguments_by_function f None b e h = absurd (none_some h)
  arguments_by_function f (Some fn) b e h =
      let g = is_function program c.fits f fn e in
      let leaf = not (f == program.main) && link.is_leaf fn in
      subst (λ (r : RoutineView). parameters_code r.layout 0 fn.parameters
      ≡ argument_code r.layout r.entry) (sym g.routine) (function_same leaf fn)

  arguments_by_funclet : (k : ℕ) (o : Option LinearFunclet) (b : LinearBody)
      → slice_get program.funclets k ≡ o → funclet_body o ≡ Some b
      → funclet_arguments (plan_of program) (routine_of program (FuncletBody k)).routine.layout o
      ≡ argument_code (routine_of program (FuncletBody k)).routine.layout
      (routine_of program (FuncletBody k)).routine.entry
  arguments_by_funclet k None b e h = absurd (none_some h)
  arguments_by_funclet k (Some fl) b e h = funclet_same k fl e

  pub arguments_same : (name : BodyName) (b : LinearBody) → body_of program name ≡ Some b
      → arguments_code program (plan_of program) name
      ≡ argument_code (routine_of program name).routine.layout
      (routine_of program name).routine.entry
  arguments_same (FunctionBody f) b h = arguments_by_function f (slice_get program.functions f) b
      refl h
  arguments_same (FuncletBody k) b h = arguments_by_funclet k (slice_get program.funclets k) b refl
      h

-- ---- all of it

module _ (program : LinearProgram) (c : HasWholeImage program) (name : BodyName) (b : LinearBody)
    (is : body_of program name ≡ Some b) where
  abbrev x : Placed
  x = routine_of program name

  abbrev check : ℕ
  check = probe_begin program

  h : IsThere (site_of program) (linked program).text (text_begin program.globals) x
  h = here program c name b is

  pub entry_same : entry_code program (plan_of program) (sites_of program) name
      ≡ texts.entry_code x.begin check x.routine
  entry_same =
      let p = place program c name b is in
      let room = h.room in
      (λ i. frame_same x.routine.frame x.routine.layout x.begin check
      (begin_of (plan_of program) (sites_of program) name) (sites_of program).check_stack
      h.near.frame
      (λ f framed probe. laid_plan program p.index x f probe p.at framed) p.begin refl (omega arith)
      i ++ arguments_same program c name b is i)

  pub moved : AreMoved image_base (links program x)
      (links_of (plan_of program) (sites_of program) name)
  moved = record {
    label = λ l. (let e = label_is x.routine.layout x.routine.body.cold (body_begin x) x.cold
        x.routine.body.code h.near.cold l (own_addresses x.begin x.cold x.routine).end (omega arith)
        in omega arith);
    function = λ f. refl;
    known = λ f. refl;
    funclet = λ f. refl;
    local_unwind = refl;
  }

  -- its code is the routine's
  pub code_same : code_of program (plan_of program) (sites_of program) name b
      ≡ routine_code (site_of program) x.begin x.cold x.routine
  code_same =
      let p = place program c name b is in
      let room = h.room in
      let y = x.routine.layout in
      let k = links_of (plan_of program) (sites_of program) name in
      let first = body_first program c name b is in
      let at : address_of program name 0 ≡ image_base + body_begin x = omega arith in
      let entry = entry_small x.routine h.near in
      let few = hot_small x.routine in
      ap (λ (d : LinearBody). entry_code program (plan_of program) (sites_of program) name
      ++ code_from k y (address_of program name 0) (hot_code d)) (sym p.body)
      ∙ (λ i. entry_same i ++ code_moved image_base (omega arith) (links program x) k y
      (body_begin x) (address_of program name 0) (hot_code x.routine.body) moved at (omega arith)
      (side_all (IsInstructionNear y) x.routine.body.cold false 0 x.routine.body.code h.near.code)
      i)

  -- and so is that of its cold parts
  pub cold_same : cold_code_of (plan_of program) (sites_of program) name b
      ≡ apart_code (site_of program) x.begin x.cold x.routine
  cold_same =
      let p = place program c name b is in
      let room = h.cold_room in
      let y = x.routine.layout in
      let k = links_of (plan_of program) (sites_of program) name in
      ap (λ (d : LinearBody). code_from k y (image_base + x.cold) (cold_code d)) (sym p.body)
      ∙ code_moved image_base (omega arith) (links program x) k y x.cold (image_base + x.cold)
      (cold_code x.routine.body) moved refl (omega arith)
      (side_all (IsInstructionNear y) x.routine.body.cold true 0 x.routine.body.code h.near.code)
