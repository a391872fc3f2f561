-- Where the slots of each body are.
use Rattle.std.proofs.Common.{◌≡◌, ℕ, zero, suc, ◌+◌, ◌≤◌, ◌==◌, Bool, true, false, not, length, Option, Some, None, refl, sym, ap, subst, ◌∙◌, arith}
use Rattle.std.specs.Prelude.{slice_get, ◌&&◌}
use Rattle.std.proofs.lemmas.Bool.{and_parts, and_right, false≢true}
use Rattle.std.proofs.lemmas.Option.{slice_get_within, get_or_from_slice_get}
use Rattle.image_states.specs.Words.{LinearBody, LinearFunction, LinearFunclet, LinearProgram, FunctionBody, FuncletBody, function_body, funclet_body, Layout, RoutineView, leaf_if, funclet_frame, funclet, no_function, is_leaf, routine_of, plan_of, HasWholeImage, ImagePlan, FitsFunction, function_frame, register_if}
use Rattle.linear_code.specs.Program.{weight}
use Rattle.linear_machine.specs.Frames.{weight_of}
use Rattle.image_link.specs.Routines as link
use Rattle.frame_layout.specs.Layout.{IsFrame}
use Rattle.frame_layout.specs.Plans as layouts
use Rattle.frame_layout.specs.Plans.{pushes_of, saves_of}
use Rattle.frame_layout.specs.declared.frame.FrameLayout.{FrameLayout}
use Rattle.frame_layout.proofs.Frames.{parts, size_is, small as frame_small}
use Rattle.frame_layout.proofs.Planned.{frames_are_planned}
use Rattle.image_link.proofs.Nearness.{function_facts_fit}
use Rattle.image_link.proofs.SavedLocals.{function_saves}
use Rattle.image_states.proofs.Lemmas.{all_at, some_same, none_some}
use Rattle.match_bodies.specs.Layouts.{AreSavedAbove, IsFramePlan, IsFuncletLayout, IsLayoutIf, IsLaidOut, AreLaidOut}
use Rattle.template_code.proofs.Places.{place_late}
use Rattle.image_states.proofs.LeafCode.{IsLeafFunction, leaf_facts, code_spare, code_kept}
use Rattle.image_states.proofs.Places.{is_function, is_funclet}

-- what is saved by mov is above the slots
saved_above : (at n : ℕ) → AreSavedAbove at (saves_of at n)
saved_above at zero = tt
saved_above at (suc n) = (omega arith, saved_above at n)

saves_length : (at n : ℕ) → length (saves_of at n) ≡ n
saves_length at zero = refl
saves_length at (suc n) = let e = saves_length at n in omega arith

pushes_few : (n : ℕ) (framed : Bool) → length (pushes_of n framed) ≤ n + 1
pushes_few zero true = omega arith
pushes_few zero false = omega arith
pushes_few (suc n) framed = let e = pushes_few n framed in omega arith

-- the plan of a frame
planned : (f : FrameLayout) (y : Layout) → IsFrame f → y.slots ≡ f.slots → y.frame ≡ f.depth
    → IsFramePlan y (layouts.plan_of f 0)
planned f y h slots depth =
    let saved = h.saved in
    let size = size_is f 0 h in
    record {
      is_plan = frames_are_planned f 0 h refl;
      slots = omega arith;
      saved = subst (λ n. AreSavedAbove n (saves_of f.slots f.saves)) (sym slots)
          (saved_above f.slots f.saves);
      whole = omega arith;
    }

-- ---- functions

leaf_if_facts : (fn : LinearFunction) (other leaf : Bool) → (other && link.is_leaf fn) ≡ leaf
    → leaf ≡ true → IsLeafFunction fn
leaf_if_facts fn other leaf e holds =
    leaf_facts fn (and_parts other (link.is_leaf fn) (e ∙ holds)).1

module _ (program : LinearProgram) (p : ImagePlan) where
  function_by : (leaf : Bool) (fn : LinearFunction) → FitsFunction fn
      → (leaf ≡ true → IsLeafFunction fn)
      → IsLayoutIf program p (weight fn) (leaf_if leaf fn).layout fn.body
      (is_leaf (leaf_if leaf fn).frame)
  function_by true fn fits facts = record {
    none = refl;
    slots = refl;
    frame = refl;
    locals = refl;
    temporaries = refl;
    few = (facts refl).few;
    plan = refl;
    arrive = (facts refl).parameters;
    in_frame = λ x le. place_late (link.leaf_layout fn) x le;
    spares = code_spare fn.parameters fn.body.code (facts refl).spare;
    keeps = code_kept (link.leaf_layout fn) fn.body.code (facts refl).spare;
  }
  function_by false fn fits facts =
      let f = function_frame fn in
      let facts = link.function_facts fn in
      let fit = function_facts_fit fn fits in
      let h = parts facts fit in
      let saved = h.saved in
      let depth = h.depth in
      record {
        none = refl;
        passed = omega arith;
        temporaries = omega arith;
        locals = omega arith;
        within = omega arith;
        light = fits.weight;
        small = frame_small facts fit;
        plan = planned f (leaf_if false fn).layout h refl refl;
        few = let a = pushes_few f.pushes f.framed in let b = saves_length f.slots f.saves in
            let c = h.pushes in let d = h.saves in omega arith;
        none_arrive = refl;
        saves = function_saves false fn fits;
      }

-- ---- funclets

funclet_by : (program : LinearProgram) (fl : LinearFunclet) (fn : LinearFunction) (y : Layout)
    → slice_get program.functions fl.function ≡ Some fn → y.locals ≡ (function_frame fn).locals
    → fl.body.passed + fl.body.temporaries ≤ 500
    → IsFuncletLayout (funclet program fl).layout y fl.body
funclet_by program fl fn y e same few =
    let get = get_or_from_slice_get program.functions fl.function fn
    no_function e in
    let locals : (funclet program fl).layout.locals
    ≡ y.locals = ap (λ (g : LinearFunction). (function_frame g).locals) get ∙ sym same in
    record {
      slot = (funclet_frame fl.body).kept;
      base = refl;
      passed = omega arith;
      pointers = refl;
      kept = omega arith;
      temporaries = omega arith;
      within = omega arith;
      locals = locals;
      small = omega arith;
      plan = planned (funclet_frame fl.body) (funclet program fl).layout
          (parts (link.funclet_facts fl.body)
          (record { registers = omega arith; weight = omega arith; words = omega arith }))
          refl refl;
      bare = refl;
      none_arrive = refl;
      in_frame = λ x. place_late (funclet program fl).layout x (omega arith);
    }

-- ---- all bodies

module _ (program : LinearProgram) (c : HasWholeImage program) where
  function_planned : (f : ℕ) (o : Option LinearFunction) (b : LinearBody)
      → slice_get program.functions f ≡ o → function_body o ≡ Some b
      → IsLaidOut program (plan_of program) (FunctionBody f) b
  function_planned f None b e h = absurd (none_some h)
  function_planned f (Some fn) b e h =
      let g = is_function program c.fits f fn e in
      let leaf = not (f == program.main) && link.is_leaf fn in
      let lt = slice_get_within program.functions f fn e in
      let fit = subst FitsFunction (get_or_from_slice_get program.functions f fn fn e)
      (all_at FitsFunction program.functions f fn c.fits.functions lt) in
      let own = function_by program (plan_of program) leaf fn fit
      (leaf_if_facts fn (not (f == program.main)) leaf refl) in
      subst (λ (w : Option LinearFunction). IsLayoutIf program (plan_of program) (weight_of w)
      (routine_of program (FunctionBody f)).routine.layout b
      (is_leaf (routine_of program (FunctionBody f)).routine.frame)) (sym e)
      (subst (λ (d : LinearBody). IsLayoutIf program (plan_of program) (weight fn)
      (routine_of program (FunctionBody f)).routine.layout d
      (is_leaf (routine_of program (FunctionBody f)).routine.frame)) (some_same h)
      (subst (λ (r : RoutineView). IsLayoutIf program (plan_of program) (weight fn) r.layout fn.body
      (is_leaf r.frame)) (sym g.routine) own))

  -- all parameters of a leaf function stay in the registers in which they arrive
  pub parameters_arrive : (f : ℕ) (fn : LinearFunction) → slice_get program.functions f ≡ Some fn
      → (plan_of program).leaf (FunctionBody f) ≡ true
      → ((plan_of program).layout (FunctionBody f)).arrivals ≡ fn.parameters
  parameters_arrive f fn e leaf =
      let g = is_function program c.fits f fn e in
      subst (λ (r : RoutineView). is_leaf r.frame ≡ true → r.layout.arrivals ≡ fn.parameters)
      (sym g.routine) (by (not (f == program.main) && link.is_leaf fn)) leaf
    where
      by : (b : Bool) → is_leaf (leaf_if b fn).frame ≡ true
          → (leaf_if b fn).layout.arrivals ≡ fn.parameters
      by true h = refl
      by false h = absurd (false≢true h)

  -- the function of a funclet has a frame
  pub owner_framed : (f : ℕ) (fn : LinearFunction) → slice_get program.functions f ≡ Some fn
      → link.is_leaf fn ≡ false → (routine_of program (FunctionBody f)).routine
      ≡ leaf_if false fn
  owner_framed f fn e bare =
      (is_function program c.fits f fn e).routine
      ∙ ap (λ (b : Bool). leaf_if b fn) (and_right (not (f == program.main))
      (link.is_leaf fn) bare)

  funclet_planned : (k : ℕ) (o : Option LinearFunclet) (b : LinearBody)
      → slice_get program.funclets k ≡ o → funclet_body o ≡ Some b
      → IsLaidOut program (plan_of program) (FuncletBody k) b
  funclet_planned k None b e h = absurd (none_some h)
  funclet_planned k (Some fl) b e h =
      let g = is_funclet program c.fits k fl e in
      let sized = c.funclets k fl e in
      let fn = sized.function in
      let framed = owner_framed fl.function fn sized.there sized.framed in
      let same = some_same h in
      let y = (routine_of program (FunctionBody fl.function)).routine.layout in
      let own = funclet_by program fl fn y sized.there
      (ap (λ (r : RoutineView). r.layout.locals) framed) sized.words in
      record {
        funclet = fl;
        there = e;
        framed = ap (λ (r : RoutineView). is_leaf r.frame) g.routine;
        function_framed = ap (λ (r : RoutineView). is_leaf r.frame) framed;
        function = fn.body;
        function_there = ap function_body sized.there;
        same_locals = ap (λ (d : LinearBody). d.locals) (sym same) ∙ sized.locals;
        same_registers = λ x. ap (λ (o : Option LinearFunclet). register_if program o x) e;
        layout = subst (λ (d : LinearBody). IsFuncletLayout
            (routine_of program (FuncletBody k)).routine.layout y d) same
            (subst (λ (r : RoutineView). IsFuncletLayout r.layout y fl.body) (sym g.routine) own);
      }

  pub laid_out : AreLaidOut program (plan_of program)
  laid_out (FunctionBody f) b h = function_planned f (slice_get program.functions f) b refl h
  laid_out (FuncletBody k) b h = funclet_planned k (slice_get program.funclets k) b refl h
