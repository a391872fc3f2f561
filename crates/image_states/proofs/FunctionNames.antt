-- The rows of names of a program's image hold the code of its functions, with their numbers.
use Rattle.std.proofs.Common.{◌≡◌, ◌⊎◌, ℕ, zero, suc, ◌+◌, ◌<◌, ◌≤◌, Bool, true, List, [], ◌∷◌, ◌++◌, length, get_or, take, Option, Some, None, inl, inr, refl, ap, subst, ◌∙◌, arith}
use Rattle.std.specs.Prelude.{slice_get, option_map}
use Rattle.std.proofs.lemmas.Bool.{cases_lt, eq-eqb, ne_eqb}
use Rattle.std.proofs.lemmas.List.{length-take-le}
use Rattle.std.proofs.lemmas.Option.{slice_get_within}
use Rattle.c_operations.specs.declared.built_in.BuiltIn.TheVariants.{Walk}
use Rattle.linear_machine.specs.BuiltInCalls.{CallsBuiltIn}
use Rattle.pe_image.specs.NameRows.{NameRow, name_of, name_or, rows_read}
use Rattle.seh_walk.specs.Controls.{number_at}
use Rattle.image_link.specs.Services.{calls_walk}
use Rattle.image_link.specs.Walks.{named_if, function_rows, cold_rows}
use Rattle.match_stack.specs.ControlAddresses.{NumbersFunctions}
use Rattle.image_states.specs.Words.{LinearBody, LinearFunction, LinearFunclet, LinearProgram, BodyName, FunctionBody, FuncletBody, body_of, function_body, funclet_body, RoutineView, routines, routine_size, bounds, distance, image_base, functions_of, routine_of, plan_of, HasWholeImage, InCode, routines_begin, cold_begin, site_of, first_cursor}
use Rattle.image_states.proofs.Lemmas.{no_routine, none_some, bounds_rise, as_long, routines_near}
use Rattle.image_tables.proofs.NameRows.{names_are_read, bounds_most, first_near}
use Rattle.image_states.proofs.CalledServices.{called}
use Rattle.image_states.proofs.Places.{is_function, is_funclet}
use Rattle.image_states.proofs.Addresses.{IsInRoutine, routine_end, cold_there, code_inside}
use Rattle.image_states.proofs.LabelOrder.{within}
use Rattle.image_states.proofs.ColdNames.{number_in, row_behind, row_here, colds_ahead, colds_behind, colds_here, colds_past, colds_unnamed}

-- ---- a program that calls `walk`

pub called_is_named : (program : LinearProgram) → CallsBuiltIn program Walk
    → calls_walk program ≡ true
called_is_named program c = called Walk program c

-- ---- the row that holds an address

-- each row of functions from an index on ends at an address or before it
abbrev EndBefore : List ℕ → ℕ → ℕ → ℕ → Type 0
EndBefore b from to rva = (i : ℕ) → from ≤ i → i < to → get_or b (i + 1) 0 ≤ rva

-- in front of other rows
module _ (b : List ℕ) (others : List NameRow) where
  in_no_row : (fs : List LinearFunction) (index rva : ℕ)
      → EndBefore b index (index + length fs) rva
      → number_in rva (function_rows index b fs ++ others) ≡ number_in rva others
  in_no_row [] index rva ends = refl
  in_no_row (f ∷ fs) index rva ends =
      row_behind rva (record {
        begin = get_or b index 0;
        end = get_or b (index + 1) 0;
        number = index + 1;
        name = f.name;
      }) (function_rows (index + 1) b fs ++ others) (ends index (omega arith) (omega arith))
      ∙ in_no_row fs (index + 1) rva (λ i from to. ends i (omega arith) (omega arith))

  in_row : (fs : List LinearFunction) (index f rva : ℕ) → index ≤ f
      → f < index + length fs → EndBefore b index f rva → get_or b f 0 ≤ rva
      → rva < get_or b (f + 1) 0 → number_in rva (function_rows index b fs ++ others) ≡ Some (f + 1)
  in_row [] index f rva from to ends low high = absurd (omega arith)
  in_row (g ∷ fs) index f rva from to ends low high =
      let row : ℕ → NameRow = λ k. record {
        begin = get_or b k 0;
        end = get_or b (k + 1) 0;
        number = k + 1;
        name = g.name;
      } in
      elim (cases_lt index f) [
        | inl lt ↦ row_behind rva (row index) (function_rows (index + 1) b fs ++ others)
            (ends index (omega arith) lt)
            ∙ in_row fs (index + 1) f rva (omega arith) (omega arith)
            (λ i from to. ends i (omega arith) to) low high
        | inr ge ↦
            let same : f ≡ index = omega arith in
            subst (λ k. number_in rva (function_rows k b (g ∷ fs) ++ others) ≡ Some (f + 1)) same
            (row_here rva (row f) (function_rows (f + 1) b fs ++ others) low high)
      ]

  -- ---- the name of a number

  -- no row has the number 0
  no_name : (fs : List LinearFunction) (index : ℕ) → name_of 0 others ≡ None
      → name_of 0 (function_rows index b fs ++ others) ≡ None
  no_name [] index none = none
  no_name (f ∷ fs) index none =
      ap (name_or (name_of 0 (function_rows (index + 1) b fs ++ others)) f.name)
      (ne_eqb (index + 1) 0 (λ e. absurd (omega arith)))
      ∙ no_name fs (index + 1) none

  -- a function's row is the first one with its number
  own_name : (fs : List LinearFunction) (index f number last : ℕ) → number ≡ index + f + 1
      → index + length fs ≡ last → (last < number → name_of number others ≡ None)
      → name_of number (function_rows index b fs ++ others)
      ≡ option_map (λ g. g.name) (slice_get fs f)
  own_name [] index f number last e long none = none (omega arith)
  own_name (g ∷ fs) index zero number last e long none =
      ap (name_or (name_of number (function_rows (index + 1) b fs ++ others)) g.name)
      (eq-eqb (index + 1) number (let q : index + 1 ≡ number = omega arith in q))
  own_name (g ∷ fs) index (suc f) number last e long none =
      ap (name_or (name_of number (function_rows (index + 1) b fs ++ others)) g.name)
      (ne_eqb (index + 1) number (λ q. absurd (omega arith)))
      ∙ own_name fs (index + 1) f number last (omega arith) (omega arith) none

-- ---- the code of bodies

module _ (program : LinearProgram) (c : HasWholeImage program)
    (walks : calls_walk program ≡ true) where
  abbrev rs : List RoutineView
  rs = routines program

  abbrev b : List ℕ
  b = bounds (routines_begin program) rs

  abbrev n : ℕ
  n = length program.functions

  abbrev cold : List NameRow
  cold = cold_rows 1 (cold_begin program) (take n rs)

  -- the image's rows
  rows_are : (functions_of program).rows ≡ function_rows 0 b program.functions ++ cold
  rows_are = ap rows_read (names_are_read program c.fits)
      ∙ ap (λ (w : Bool). function_rows 0 b (named_if w program.functions)
      ++ cold_rows 1 (cold_begin program) (take (length (named_if w program.functions)) rs)) walks

  first_few : length (take n rs) ≤ n
  first_few =
      let long = as_long program c.fits in
      let l = length-take-le n rs (omega arith) in
      omega arith

  pub number_is_named : (f : ℕ) → name_of (f + 1) (functions_of program).rows
      ≡ option_map (λ g. g.name) (slice_get program.functions f)
  number_is_named f = ap (name_of (f + 1)) rows_are
      ∙ own_name b cold program.functions 0 f (f + 1) n (omega arith) (omega arith)
      (λ lt. colds_unnamed (f + 1) 1 (cold_begin program) (take n rs)
      (inr (let few = first_few in omega arith)))

  pub zero_is_unnamed : name_of 0 (functions_of program).rows ≡ None
  zero_is_unnamed = ap (name_of 0) rows_are
      ∙ no_name b cold program.functions 0
      (colds_unnamed 0 1 (cold_begin program) (take n rs) (inl (omega arith)))

  -- an address in the code of a body is in its routine or in its cold parts
  in_routine : (name : BodyName) (body : LinearBody) (is : body_of program name ≡ Some body)
      (label rip : ℕ) → InCode (plan_of program) name label rip
      → IsInRoutine program c name body is (distance image_base rip)
  in_routine name body is label rip inside =
      let w = within program c name body is label rip inside in
      code_inside program c name body is label (distance image_base rip) w.instruction w.there
      w.low w.high

  number_by : (rip : ℕ) → number_at (functions_of program) rip
      ≡ number_in (distance image_base rip) (function_rows 0 b program.functions ++ cold)
  number_by rip = ap (number_in (distance image_base rip)) rows_are

  -- routines before one end where it begins or before
  before : (index rva : ℕ) → index < length rs → get_or b index 0 ≤ rva → EndBefore b 0 index rva
  before index rva lt le i from to = by (cases_lt (i + 1) index)
    where
      by : (i + 1 < index) ⊎ (index ≤ i + 1) → get_or b (i + 1) 0 ≤ rva
      by (inl more) =
          let r = bounds_rise (routines_begin program) rs (i + 1) index 0 no_routine more
          (omega arith) in
          omega arith
      by (inr last) =
          let same : index ≡ i + 1 = omega arith in
          subst (λ k. get_or b k 0 ≤ rva) same le

  -- and all before the cold parts
  before_cold : (rva : ℕ) → cold_begin program ≤ rva → EndBefore b 0 n rva
  before_cold rva le i from to =
      let long = as_long program c.fits in
      let most = bounds_most (routines_begin program) rs (i + 1) 0 (omega arith) in
      omega arith

  function_number : (f : ℕ) (o : Option LinearFunction) (rip : ℕ)
      → slice_get program.functions f ≡ o → (body : LinearBody) → function_body o ≡ Some body
      → (is : body_of program (FunctionBody f) ≡ Some body)
      → IsInRoutine program c (FunctionBody f) body is (distance image_base rip)
      → number_at (functions_of program) rip ≡ Some (f + 1)
  function_number f None rip e body h is i = absurd (none_some h)
  function_number f (Some fn) rip e body h is (inl i) =
      let at = is_function program c.fits f fn e in
      let rva = distance image_base rip in
      let bound = at.bound in
      let own = ap routine_size at.own in
      let low = i.0 in
      let high = i.1 in
      let inside = slice_get_within program.functions f fn e in
      let below = at.below in
      let next = bounds_rise (routines_begin program) rs f (f + 1) 0 no_routine (omega arith)
      (omega arith) in
      number_by rip
      ∙ in_row b cold program.functions 0 f rva (omega arith) (omega arith)
      (before f rva below (omega arith)) (omega arith) (omega arith)
  function_number f (Some fn) rip e body h is (inr i) =
      let at = is_function program c.fits f fn e in
      let x = routine_of program (FunctionBody f) in
      let rva = distance image_base rip in
      let low = i.0 in
      let inside = slice_get_within program.functions f fn e in
      let least = (cold_there program f x at.at).0 in
      let own : 1 + f ≡ f + 1 = omega arith in
      number_by rip
      ∙ in_no_row b cold program.functions 0 rva (λ i from to.
      before_cold rva (omega arith) i from (omega arith))
      ∙ colds_here rva (site_of program) (first_cursor program) n rs 1 f x
      (routines_near program c.fits) at.at inside low i.1
      ∙ ap (λ (k : ℕ). Some k) own

  funclet_number : (k : ℕ) (o : Option LinearFunclet) (rip : ℕ)
      → slice_get program.funclets k ≡ o → (body : LinearBody) → funclet_body o ≡ Some body
      → (is : body_of program (FuncletBody k) ≡ Some body)
      → IsInRoutine program c (FuncletBody k) body is (distance image_base rip)
      → number_at (functions_of program) rip ≡ None
  funclet_number k None rip e body h is i = absurd (none_some h)
  funclet_number k (Some fl) rip e body h is (inl i) =
      let at = is_funclet program c.fits k fl e in
      let rva = distance image_base rip in
      let bound = at.bound in
      let low = i.0 in
      let high = i.1 in
      let ends = before (n + k) rva at.below (omega arith) in
      let end = routine_end program (n + k) (routine_of program (FuncletBody k)) at.at in
      number_by rip
      ∙ in_no_row b cold program.functions 0 rva (λ j from to. ends j from (omega arith))
      ∙ colds_ahead rva 1 (cold_begin program) (take n rs) (omega arith)
  funclet_number k (Some fl) rip e body h is (inr i) =
      let at = is_funclet program c.fits k fl e in
      let x = routine_of program (FuncletBody k) in
      let rva = distance image_base rip in
      let low = i.0 in
      let least = (cold_there program (n + k) x at.at).0 in
      let past = colds_past (site_of program) (first_cursor program) n rs (n + k) x at.at
      (omega arith) in
      number_by rip
      ∙ in_no_row b cold program.functions 0 rva (λ i from to.
      before_cold rva (omega arith) i from (omega arith))
      ∙ colds_behind rva 1 (cold_begin program) (take n rs)
      (first_near n rs (routines_near program c.fits)) (omega arith)

  pub names_are_functions : NumbersFunctions program (plan_of program)
      (number_at (functions_of program))
  names_are_functions (FunctionBody f) body label rip is inside =
      function_number f (slice_get program.functions f) rip refl body is is
      (in_routine (FunctionBody f) body is label rip inside)
  names_are_functions (FuncletBody k) body label rip is inside =
      funclet_number k (slice_get program.funclets k) rip refl body is is
      (in_routine (FuncletBody k) body is label rip inside)
