-- Each body's routine, and where it begins.
use Rattle.std.proofs.Common.{◌≡◌, ℕ, zero, suc, ◌+◌, ◌<◌, ◌==◌, Bool, true, false, not, List, [], ◌∷◌, length, get_or, take, drop, map, Option, Some, None, refl, sym, ap, ◌∙◌, arith}
use Rattle.std.specs.Prelude.{slice_get, ◌&&◌}
use Rattle.std.proofs.lemmas.List.{get_or-take, get_or_append_left}
use Rattle.std.proofs.lemmas.Option.{slice_get_within, get_or_from_slice_get}
use Rattle.image_states.specs.Words.{LinearBody, LinearFunction, LinearFunclet, LinearProgram, BodyName, FunctionBody, FuncletBody, function_body, funclet_body, body_of, FitsProgram, RoutineView, leaf_if, funclet, routines, bounds, Placed, site_of, first_cursor, placed, image_base, address_or, funclet_begin, begin_of, routine_of, plan_of, sites_of, functions_from, or_nowhere, routines_begin}
use Rattle.image_link.specs.Routines as link
use Rattle.image_states.proofs.Lemmas.{no_routine, some_same, none_some, is_placed, functions_count, no_funclet, as_long, funclet_is, begin_is}

-- ---- lists

slice_take : {A : Type 0} → (xs : List A) (n i : ℕ) → i < n
    → slice_get (take n xs) i ≡ slice_get xs i
slice_take xs zero i lt = absurd (omega arith)
slice_take [] (suc n) i lt = refl
slice_take (x ∷ xs) (suc n) zero lt = refl
slice_take (x ∷ xs) (suc n) (suc i) lt = slice_take xs n i (omega arith)

slice_drop : {A : Type 0} → (xs : List A) (n i j : ℕ) → j ≡ n + i
    → slice_get (drop n xs) i ≡ slice_get xs j
slice_drop xs zero i j e = ap (slice_get xs) (let q : i ≡ j = omega arith in q)
slice_drop [] (suc n) i j e = refl
slice_drop (x ∷ xs) (suc n) i zero e = absurd (omega arith)
slice_drop (x ∷ xs) (suc n) i (suc j) e = slice_drop xs n i j (omega arith)

function_from : (main index f : ℕ) (fs : List LinearFunction) (fn : LinearFunction)
    (d : RoutineView) → slice_get fs f ≡ Some fn
    → get_or (functions_from main index fs) f d
    ≡ leaf_if (not (index + f == main) && link.is_leaf fn) fn
function_from main index f [] fn d e = absurd (none_some e)
function_from main index zero (g ∷ fs) fn d e =
    let z : index ≡ index + 0 = omega arith in
    ap (λ (h : LinearFunction). leaf_if (not (index == main) && link.is_leaf h) h)
    (some_same e)
    ∙ ap (λ (n : ℕ). leaf_if (not (n == main) && link.is_leaf fn) fn) z
function_from main index (suc f) (g ∷ fs) fn d e =
    let z : suc index + f ≡ index + suc f = omega arith in
    function_from main (suc index) f fs fn d e
    ∙ ap (λ (n : ℕ). leaf_if (not (n == main) && link.is_leaf fn) fn) z

-- ---- functions

module _ (program : LinearProgram) (fits : FitsProgram program) where
  abbrev rs : List RoutineView
  rs = routines program

  abbrev n : ℕ
  n = length program.functions

  pub record IsFunction (f : ℕ) (fn : LinearFunction) : Type 0 where
    pub at : slice_get (placed program) f ≡ Some (routine_of program (FunctionBody f))
    pub routine : (routine_of program (FunctionBody f)).routine
        ≡ leaf_if (not (f == program.main) && link.is_leaf fn) fn
    pub begin : address_or (site_of program).functions f 0
        ≡ (routine_of program (FunctionBody f)).begin
    pub bound : (routine_of program (FunctionBody f)).begin
        ≡ get_or (bounds (routines_begin program) rs) f 0
    pub own : (routine_of program (FunctionBody f)).routine ≡ get_or rs f no_routine
    pub below : f < length rs

  pub is_function : (f : ℕ) (fn : LinearFunction) → slice_get program.functions f ≡ Some fn
      → IsFunction f fn
  is_function f fn e =
      let lt = slice_get_within program.functions f fn e in
      let long = as_long program fits in
      let h = is_placed (site_of program) (first_cursor program) rs f no_routine (omega arith) in
      let is : routine_of program (FunctionBody f)
      ≡ h.placed = ap or_nowhere (slice_take (placed program) n f lt ∙ h.there) in
      let zero-more : 0 + f ≡ f = omega arith in
      let count = functions_count program.main 0 program.functions in
      let own : get_or rs f no_routine ≡ leaf_if (not (f == program.main) && link.is_leaf fn)
      fn =
      get_or_append_left (functions_from program.main 0 program.functions)
      (map (funclet program) program.funclets) no_routine f (omega arith)
      ∙ function_from program.main 0 f program.functions fn no_routine e
      ∙ ap (λ (k : ℕ). leaf_if (not (k == program.main) && link.is_leaf fn) fn) zero-more in
      record {
        at = h.there ∙ ap (λ (x : Placed). Some x) (sym is);
        routine = ap (λ (x : Placed). x.routine) is ∙ h.routine ∙ own;
        begin = get_or-take n (bounds (routines_begin program) rs) f 0 lt ∙ sym h.begins
            ∙ ap (λ (x : Placed). x.begin) (sym is);
        bound = ap (λ (x : Placed). x.begin) is ∙ h.begins;
        own = ap (λ (x : Placed). x.routine) is ∙ h.routine;
        below = omega arith;
      }

  -- ---- funclets

  pub record IsFunclet (k : ℕ) (fl : LinearFunclet) : Type 0 where
    pub at : slice_get (placed program) (n + k) ≡ Some (routine_of program (FuncletBody k))
    pub routine : (routine_of program (FuncletBody k)).routine ≡ funclet program fl
    pub begin : funclet_begin program k ≡ (routine_of program (FuncletBody k)).begin
    pub bound : (routine_of program (FuncletBody k)).begin
        ≡ get_or (bounds (routines_begin program) rs) (n + k) 0
    pub own : (routine_of program (FuncletBody k)).routine ≡ get_or rs (n + k) no_routine
    pub below : n + k < length rs

  pub is_funclet : (k : ℕ) (fl : LinearFunclet) → slice_get program.funclets k ≡ Some fl
      → IsFunclet k fl
  is_funclet k fl e =
      let lt = slice_get_within program.funclets k fl e in
      let long = as_long program fits in
      let h = is_placed (site_of program) (first_cursor program) rs (n + k) no_routine
      (omega arith) in
      let is : routine_of program (FuncletBody k)
      ≡ h.placed = ap or_nowhere (slice_drop (placed program) n k (n + k) refl ∙ h.there) in
      record {
        at = h.there ∙ ap (λ (x : Placed). Some x) (sym is);
        routine = ap (λ (x : Placed). x.routine) is ∙ h.routine ∙ funclet_is program fits k lt
            ∙ ap (funclet program) (get_or_from_slice_get program.funclets k fl no_funclet e);
        begin = begin_is program fits k ∙ sym h.begins ∙ ap (λ (x : Placed). x.begin) (sym is);
        bound = ap (λ (x : Placed). x.begin) is ∙ h.begins;
        own = ap (λ (x : Placed). x.routine) is ∙ h.routine;
        below = omega arith;
      }

  -- ---- bodies

  pub record IsBody (name : BodyName) (b : LinearBody) : Type 0 where
    pub index : ℕ
    pub at : slice_get (placed program) index ≡ Some (routine_of program name)
    pub body : (routine_of program name).routine.body ≡ b
    pub begin : begin_of (plan_of program) (sites_of program) name
        ≡ image_base + (routine_of program name).begin
    pub bound : (routine_of program name).begin
        ≡ get_or (bounds (routines_begin program) rs) index 0
    pub own : (routine_of program name).routine ≡ get_or rs index no_routine
    pub below : index < length rs

  same_body : (leaf : Bool) (fn : LinearFunction) → (leaf_if leaf fn).body ≡ fn.body
  same_body true fn = refl
  same_body false fn = refl

  function_is : (f : ℕ) (o : Option LinearFunction) (b : LinearBody)
      → slice_get program.functions f ≡ o → function_body o ≡ Some b → IsBody (FunctionBody f) b
  function_is f None b e h = absurd (none_some h)
  function_is f (Some fn) b e h =
      let g = is_function f fn e in
      record {
        index = f;
        at = g.at;
        body = ap (λ (r : RoutineView). r.body) g.routine
            ∙ same_body (not (f == program.main) && link.is_leaf fn) fn ∙ some_same h;
        begin = ap (λ (a : ℕ). image_base + a) g.begin;
        bound = g.bound;
        own = g.own;
        below = g.below;
      }

  funclet_body_is : (k : ℕ) (o : Option LinearFunclet) (b : LinearBody)
      → slice_get program.funclets k ≡ o → funclet_body o ≡ Some b → IsBody (FuncletBody k) b
  funclet_body_is k None b e h = absurd (none_some h)
  funclet_body_is k (Some fl) b e h =
      let g = is_funclet k fl e in
      record {
        index = n + k;
        at = g.at;
        body = ap (λ (r : RoutineView). r.body) g.routine ∙ some_same h;
        begin = ap (λ (a : ℕ). image_base + a) g.begin;
        bound = g.bound;
        own = g.own;
        below = g.below;
      }

  pub is_body : (name : BodyName) (b : LinearBody) → body_of program name ≡ Some b → IsBody name b
  is_body (FunctionBody f) b h = function_is f (slice_get program.functions f) b refl h
  is_body (FuncletBody k) b h = funclet_body_is k (slice_get program.funclets k) b refl h
