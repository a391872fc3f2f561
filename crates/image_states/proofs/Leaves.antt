-- Leaf functions call nothing, and functions begin elsewhere than funclets.
use Rattle.std.proofs.Common.{◌≡◌, ◌≢◌, ℕ, zero, suc, ◌+◌, ◌<◌, ◌==◌, Bool, true, false, not, List, [], ◌∷◌, length, get_or, Option, Some, None, refl, sym, ap, ◌∙◌, arith}
use Rattle.std.specs.Prelude.{slice_get, ◌&&◌}
use Rattle.std.proofs.lemmas.Option.{slice_get_within, slice_get-get_or}
use Rattle.std.proofs.lemmas.Bool.{and_parts, false≢true}
use Rattle.image_states.specs.Words.{sites_of, Instruction, LinearBody, LinearFunction, LinearFunclet, LinearProgram, BodyName, FunctionBody, FuncletBody, function_body, funclet_body, body_of, RoutineView, leaf_if, routines, is_spare, all_spare, bounds, routine_size, first, site_of, image_base, address_or, funclet_begin, is_leaf, routine_of, plan_of, HasWholeImage, LeavesCallNothing, FunctionsApart, routines_begin}
use Rattle.linear_code.specs.declared.instruction.Instruction.TheVariants as instructions
use Rattle.lowering_invariants.specs.ReturnRegions.{is_call}
use Rattle.image_link.specs.Routines as link
use Rattle.image_link.specs.Routines.{no_function}
use Rattle.image_link.specs.Fits.{FitsFunction}
use Rattle.x64_emit.proofs.Nearby.{all_at}
use Rattle.image_states.proofs.LeafCode.{leaf_facts}
use Rattle.image_states.proofs.Lemmas.{no_routine, some_same, none_some, bounds_rise, as_long, begin_is}
use Rattle.image_states.proofs.Places.{is_function, is_funclet}
use Rattle.image_tables.proofs.Labels.{within_get}
use Rattle.image_states.proofs.ColdLabels.{first_hot}
use Rattle.image_states.proofs.Addresses.{place, own_cold, body_first, hot_below, label_rises}

-- ---- code that writes RAX alone calls nothing

spare_call : (n : ℕ) (i : Instruction) → is_spare n i ≡ true → is_call i ≡ false
spare_call n (instructions.Call f first count) e = absurd (false≢true e)
spare_call n (instructions.CallBuiltIn f first) e = absurd (false≢true e)
spare_call n (instructions.CallFinally f) e = absurd (false≢true e)
spare_call n (instructions.LocalUnwind l) e = absurd (false≢true e)
spare_call n i e = refl

no_call : (n : ℕ) (code : List Instruction) → all_spare n code ≡ true → (label : ℕ)
    (i : Instruction) → slice_get code label ≡ Some i → is_call i ≡ false
no_call n [] h label i e = absurd (none_some e)
no_call n (j ∷ code) h zero i e = spare_call n i (ap (is_spare n) (sym (some_same e))
    ∙ (and_parts (is_spare n j) (all_spare n code) h).0)
no_call n (j ∷ code) h (suc label) i e =
    no_call n code (and_parts (is_spare n j) (all_spare n code) h).1 label i e

leaf_then : (b : Bool) (fn : LinearFunction) → is_leaf (leaf_if b fn).frame ≡ true → b ≡ true
leaf_then true fn e = refl
leaf_then false fn e = absurd (false≢true e)

-- ---- leaf functions

module _ (program : LinearProgram) (c : HasWholeImage program) where
  abbrev Silent : LinearBody → Type 0
  Silent b = (label : ℕ) (i : Instruction) → slice_get b.code label ≡ Some i → is_call i ≡ false

  function_calls : (f : ℕ) (o : Option LinearFunction) (b : LinearBody)
      → slice_get program.functions f ≡ o → function_body o ≡ Some b
      → (plan_of program).leaf (FunctionBody f) ≡ true → Silent b
  function_calls f None b e h leaf = absurd (none_some h)
  function_calls f (Some fn) b e h leaf = λ label i there. (
      let flag = not (f == program.main) && link.is_leaf fn in
      let is : is_leaf (leaf_if flag fn).frame
      ≡ true = sym (ap (λ (r : RoutineView). is_leaf r.frame)
      (is_function program c.fits f fn e).routine) ∙ leaf in
      let own = (and_parts (not (f == program.main)) (link.is_leaf fn)
      (leaf_then flag fn is)).1 in
      no_call fn.parameters fn.body.code (leaf_facts fn own).spare label i
      (ap (λ (d : LinearBody). slice_get d.code label) (some_same h) ∙ there))

  funclet_calls : (k : ℕ) (o : Option LinearFunclet) (b : LinearBody)
      → slice_get program.funclets k ≡ o → funclet_body o ≡ Some b
      → (plan_of program).leaf (FuncletBody k) ≡ true → Silent b
  funclet_calls k None b e h leaf = absurd (none_some h)
  funclet_calls k (Some fl) b e h leaf = absurd
      (false≢true (sym (ap (λ (r : RoutineView). is_leaf r.frame)
      (is_funclet program c.fits k fl e).routine) ∙ leaf))

  calls : (name : BodyName) (b : LinearBody) → body_of program name ≡ Some b
      → (plan_of program).leaf name ≡ true → Silent b
  calls (FunctionBody f) b is leaf = function_calls f (slice_get program.functions f) b refl is leaf
  calls (FuncletBody k) b is leaf = funclet_calls k (slice_get program.funclets k) b refl is leaf

pub leaves_call_nothing : LeavesCallNothing
leaves_call_nothing program c name b label i is leaf there = calls program c name b is leaf label i
    there

-- ---- functions and funclets

module _ (program : LinearProgram) (c : HasWholeImage program) where
  below : (f : ℕ) (o : Option LinearFunction) (b : LinearBody) → slice_get program.functions f ≡ o
      → function_body o ≡ Some b → f < length program.functions
  below f None b e h = absurd (none_some h)
  below f (Some fn) b e h = slice_get_within program.functions f fn e

  function_at : (f : ℕ) (o : Option LinearFunction) (b : LinearBody)
      → slice_get program.functions f ≡ o → function_body o ≡ Some b
      → address_or (site_of program).functions f 0
      ≡ get_or (bounds (routines_begin program) (routines program)) f 0
  function_at f None b e h = absurd (none_some h)
  function_at f (Some fn) b e h = let g = is_function program c.fits f fn e in g.begin ∙ g.bound

  own_size : (f : ℕ) (o : Option LinearFunction) (b : LinearBody)
      → slice_get program.functions f ≡ o → function_body o ≡ Some b
      → (routine_of program (FunctionBody f)).routine ≡ get_or (routines program) f no_routine
  own_size f None b e h = absurd (none_some h)
  own_size f (Some fn) b e h = (is_function program c.fits f fn e).own

  pub apart : (f k : ℕ) (b : LinearBody) → body_of program (FunctionBody f) ≡ Some b
      → 0 < length b.code → k < length program.funclets
      → image_base + address_or (site_of program).functions f 0
      ≢ image_base + funclet_begin program k
  apart f k b is some lt e =
      let q : image_base + address_or (site_of program).functions f 0
      ≡ image_base + funclet_begin program k = e in
      let fits = c.fits in
      let rs = routines program in
      let x = routine_of program (FunctionBody f) in
      let p = place program c (FunctionBody f) b is in
      let same = ap (λ (d : LinearBody). length d.code) p.body in
      let o = slice_get program.functions f in
      let at = function_at f o b refl is in
      let inside = below f o b refl is in
      let long = as_long program fits in
      let begin = begin_is program fits k in
      let size = ap (λ (r : RoutineView). routine_size r) (own_size f o b refl is) in
      let i = within_get x.routine.body.code 0 (omega arith) in
      let more = hot_below program c (FunctionBody f) b is 0 i.0 i.1
      (first_hot x.routine.body (own_cold program c (FunctionBody f) b is)) in
      let first = body_first program c (FunctionBody f) b is in
      let some = label_rises program c (FunctionBody f) b is 0 i.0 in
      let r = bounds_rise (routines_begin program) rs f (length program.functions + k) 0 no_routine
      (omega arith) (omega arith) in
      omega arith

-- so does each function of the program
pub all_apart : (program : LinearProgram) (c : HasWholeImage program) (f k : ℕ)
    → f < length program.functions → k < length program.funclets
    → (sites_of program).function f ≢ (plan_of program).funclet k
all_apart program c f k lt below =
    let fn = get_or program.functions f no_function in
    let fits = all_at FitsFunction program.functions f no_function c.fits.functions lt in
    apart program c f k fn.body
    (ap function_body (slice_get-get_or program.functions f no_function lt)) fits.some below

pub functions_apart : FunctionsApart
functions_apart program c f k b is some lt = apart program c f k b is some lt
