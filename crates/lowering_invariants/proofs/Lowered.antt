-- What the bodies of a lowered program name is there.
use Rattle.std.proofs.Common.{◌≡◌, ℕ, ◌+◌, ◌<◌, ◌≤◌, List, [], ◌∷◌, ◌++◌, length, map, refl, sym, ap, subst, ◌∙◌, arith, length-append}
use Rattle.std.proofs.lemmas.List.{length-map}
use Rattle.std.proofs.lemmas.Option.{slice_get-map, slice_get_within}
use Rattle.std.specs.List.{AllByRecursion}
use Rattle.std.specs.Prelude.{if◌then◌else◌, true, slice_get, option_map, Option, Some, None}
use Rattle.seh_ir.specs.Lowered.{body_start, open_code}
use Rattle.seh_ir.specs.Statements.{statements_code}
use Rattle.linear_code.specs.Program.{depth_weight}
use Rattle.lowering_invariants.specs.Words.{Program, Function, asking, IsSound, funclets, count_up, function_sound, functions_sound, LinearBody, LinearFunction, LinearFunclet, FunctionBody, FuncletBody, function_body, funclet_body, body_of, Owner, own_locals, all_locals, scope_of, lowered_function, lowered_funclets, all_funclets, lowered, IsCalled, IsVectoredHandler, IsCallee, IsVectoredCallee, IsInstructionOf, IsBodyOf, AreBodies, LoweredIsWhole}
use Rattle.c_checked.specs.Sound as sound
use Rattle.lowering_invariants.proofs.Lemmas.{first_are, Range, part_of, both_parts, no_part, one_part, statements_count, count_front, count_back, IsSegmentAt, front, back, whole_is_at, both_left, both_right, lowered_is_linked}
use Rattle.lowering_invariants.proofs.SeparatorCounts.FirstSeparators.{open_every, function_body_code, function_end, begin_every, end_every, code_every, body_at}
use Rattle.lowering_invariants.proofs.Stacks.StackTargets.{same_it, all_at}
use Rattle.lowering_invariants.proofs.Calls.{HasCallees}
use Rattle.lowering_invariants.proofs.Wholes.{Fine, statements_have, typed}
use Rattle.lowering_follows.proofs.SoundStatements.{function_fits}

module _ (program : Program) where
  abbrev callee : (f count : ℕ) → IsCalled program f count → IsCallee (lowered program) f count
  callee f count c = record {
    function = lowered_function c.function;
    there = slice_get-map lowered_function program.functions f
        ∙ ap (option_map lowered_function) c.there;
    takes = c.takes;
  }

  -- one that can be a vectored handler begins with one separator more than it counts in the depth
  vectored : (f : ℕ) → IsVectoredHandler program f → IsVectoredCallee (lowered program) f
  vectored f h =
      let fn = h.called.function in
      let one : asking fn ≡ 1 = ap (λ b. if b then 1 else 0) h.handles in
      let body = statements_code (scope_of fn) fn.body (body_start fn) in
      let rest = open_code fn.data_frame ++ (body ++ function_end fn) in
      record {
        callee = callee f 2 h.called;
        rest = rest;
        begins = ap (λ is. is ++ rest)
            (sym (first_are fn (depth_weight (lowered_function fn) + 1) (omega arith)));
      }

  callees : HasCallees program (lowered program)
  callees = record { callee = callee; handler = vectored }

  -- the body of the function of a number, and that of a funclet
  abbrev Good : ℕ → Type 0
  Good k = (b : LinearBody) → body_of (lowered program) (FunctionBody k) ≡ Some b
      → IsBodyOf (lowered program) (FunctionBody k) b

  abbrev Tidy : ℕ → Type 0
  Tidy k = Fine (lowered program) k

  function_is_at : (fn : Function) (number j : ℕ) → function_sound program.functions fn ≡ true
      → slice_get (lowered program).functions number ≡ Some (lowered_function fn)
      → IsSegmentAt (lowered program).funclets j (lowered_funclets number fn)
      → count_up (j + 1) (funclets fn.body) ≡ true
      → Good number × Range Tidy j (j + length (lowered_funclets number fn))
  function_is_at fn number j ok there f c =
      let linear = lowered program in
      let body = (lowered_function fn).body in
      let owner : Owner = record { function = number; locals = all_locals fn; parent = None } in
      let at = body_start fn in
      let code = function_body_code fn in
      let Calls = IsInstructionOf linear (FunctionBody number) in
      let there' = ap function_body there in
      let fits = function_fits program fn ok in
      let x = statements_have program linear callees (own_locals fn) fn.body (FunctionBody number)
      owner (record { parent = refl; function = refl }) (scope_of fn).names at fits j f c in
      let y = typed program linear callees (own_locals fn) (FunctionBody number) body there' fn.body
      (scope_of fn) at fits x.named (front body.code at code (function_end fn) (body_at fn)) in
      let whole : IsBodyOf linear (FunctionBody number)
      body = record {
        regions = y.1;
        code = code_every Calls fn
            (begin_every Calls tt fn
            (open_every Calls fn.data_frame (λ base size. tt) (λ base p. tt))) y.0
            (end_every Calls tt (λ base. tt) tt fn);
      } in (
        (λ b e. subst (IsBodyOf linear (FunctionBody number))
            (same_it body b (sym (ap function_body there) ∙ e)) whole),
        x.funclets,
      )

  functions_are_at : (fs : List Function) (number j : ℕ)
      → functions_sound program.functions fs ≡ true
      → IsSegmentAt (lowered program).functions number (map lowered_function fs)
      → IsSegmentAt (lowered program).funclets j (all_funclets number fs)
      → count_up (j + 1) (sound.all_funclets fs) ≡ true
      → Range Good number (number + length fs) × Range Tidy j (j + length (all_funclets number fs))
  functions_are_at [] number j ok g f c = (
    no_part Good number (number + 0) (omega arith),
    no_part Tidy j (j + 0) (omega arith),
  )
  functions_are_at (fn ∷ fs) number j ok g f c =
      let own = lowered_funclets number fn in
      let rest = all_funclets (number + 1) fs in
      let count = statements_count (record {
        function = number;
        locals = all_locals fn;
        parent = None;
      }) (scope_of fn).names fn.body in
      let m = length-append own rest in
      let end = number + 1 + length fs in
      let last = j + length own + length rest in
      let x = function_is_at fn number j (both_left _ _ ok) g.0
      (front (lowered program).funclets j own rest f)
      (count_front (j + 1) (funclets fn.body) (sound.all_funclets fs) c) in
      let y = functions_are_at fs (number + 1) (j + length own) (both_right _ _ ok) g.1
      (back (lowered program).funclets j (j + length own) own rest refl f)
      (count_back (j + 1) (j + length own + 1) (funclets fn.body) (sound.all_funclets fs)
      (omega arith) c) in (
        part_of Good number end number _ (omega arith) (omega arith)
            (both_parts Good number (number + 1) end (one_part Good number x.0) y.0),
        part_of Tidy j last j _ (omega arith) (omega arith)
            (both_parts Tidy j (j + length own) last x.1 y.1),
      )

  function_within : (k : ℕ) (o : Option LinearFunction) (b : LinearBody)
      → slice_get (lowered program).functions k ≡ o → function_body o ≡ Some b
      → k < length (lowered program).functions
  function_within k None b e h = absurd (cc)
  function_within k (Some f) b e h = slice_get_within (lowered program).functions k f e

  funclet_within : (k : ℕ) (o : Option LinearFunclet) (b : LinearBody)
      → slice_get (lowered program).funclets k ≡ o → funclet_body o ≡ Some b
      → k < length (lowered program).funclets
  funclet_within k None b e h = absurd (cc)
  funclet_within k (Some f) b e h = slice_get_within (lowered program).funclets k f e

  roomy : (fs : List Function) → AllByRecursion (λ f. f.parameters ≤ f.body.locals)
      (map lowered_function fs)
  roomy [] = tt
  roomy (f ∷ fs) = (omega arith, roomy fs)

  bodies_of : IsSound program → AreBodies (lowered program)
  bodies_of h (FunctionBody k) b e =
      let counts = both_left _ _ (both_left _ _ (both_left _ _ h)) in
      let starts = both_left _ _ counts in
      let l = length-map program.functions lowered_function in
      let lt = function_within k (slice_get (lowered program).functions k) b refl e in
      (functions_are_at program.functions 0 0 (both_left _ _ starts)
      (whole_is_at (lowered program).functions) (whole_is_at (lowered program).funclets)
      (both_right _ _ counts)).0 k (omega arith) (omega arith) b e
  bodies_of h (FuncletBody k) b e =
      let counts = both_left _ _ (both_left _ _ (both_left _ _ h)) in
      let starts = both_left _ _ counts in
      let lt = funclet_within k (slice_get (lowered program).funclets k) b refl e in
      (functions_are_at program.functions 0 0 (both_left _ _ starts)
      (whole_is_at (lowered program).functions) (whole_is_at (lowered program).funclets)
      (both_right _ _ counts)).1 k (omega arith) (omega arith) b e

pub lowered_is_whole : LoweredIsWhole
lowered_is_whole program h =
    let l = lowered_is_linked program h in
    let m = l.functions program.main l.begins l.is_main in
    let few = l.few in
    let takes = m.2.parameters in
    record {
      bodies = bodies_of program h;
      parameters = λ k f e. all_at (λ f. f.parameters ≤ f.body.locals) (lowered program).functions k
          f (roomy program program.functions) e;
      few = λ main e. subst (λ (f : LinearFunction). f.parameters ≤ 1)
          (same_it m.0 main (sym m.1 ∙ e)) (omega arith);
    }
