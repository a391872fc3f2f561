-- The expressions and variables of sound statements are such that their code means something.
use Rattle.std.proofs.Common.{◌≡◌, ◌≤◌, ℕ, ◌+◌, ◌^◌, List, [], ◌∷◌, length, arith}
use Rattle.std.proofs.lemmas.Bool.{ltb-true, leb-true, eqb-true}
use Rattle.std.specs.Prelude.{◌-◌, true, false, Option, Some, None}
use Rattle.lowering_follows.specs.Words.{Size, Expression, StackedVariable, StackedParameter, DataFrame, Program, Inside, optional_sound, test_sound, value_fits, result_sound, stacked_sound, is_array_sound, parameters_sound, data_sound, LinearProgram, OptionalFits, ElementsFit, StackedFits, ParametersFit, FrameFits}
use Rattle.c_checked.specs.Sound as sound
use Rattle.lowering_follows.proofs.SoundExpressions.{both_left, both_right, Knows, expression_fits, place_fits}

-- ---- variables on the data stack

elements_fit : (n : Option ℕ) (value : Option Expression) → is_array_sound n value ≡ true
    → ElementsFit n
elements_fit None value h = tt
elements_fit (Some n) None h = ltb-true n (2 ^ 32) h
elements_fit (Some n) (Some e) h = absurd (cc)

parameters_fit : (count own : ℕ) (ps : List StackedParameter) → count ≤ own
    → parameters_sound count ps ≡ true → ParametersFit own ps
parameters_fit count own [] le h = tt
parameters_fit count own (p ∷ ps) le h =
    let lt = ltb-true p.parameter count (both_left _ _ (both_left _ _ h)) in
    (omega arith, parameters_fit count own ps le (both_right _ _ h))

-- a function's part of the data stack
pub frame_fits : (parameters : ℕ) (locals : List Size) (frame : Option DataFrame)
    → data_sound parameters locals frame ≡ true
    → FrameFits (parameters + length locals) parameters frame
frame_fits parameters locals None h = tt
frame_fits parameters locals (Some d) h =
    let front = both_left _ _ h in
    let some = both_left _ _ (both_left _ _ (both_left _ _ front)) in
    let least = ltb-true 0 (length locals) (both_left _ _ some) in
    let base = eqb-true d.base (parameters + (length locals - 1)) (both_right _ _ some) in (
      omega arith,
      leb-true (length d.parameters) parameters (both_right _ _ front),
      parameters_fit parameters (parameters + length locals) d.parameters (omega arith)
          (both_right _ _ h),
    )

module _ (program : Program) (linear : LinearProgram) (rate most own : ℕ) where
  pub stacked_fits : (s : sound.TypingContext) (k : Knows program own false s)
      (v : Option StackedVariable) (value : Option Expression) → stacked_sound s v value ≡ true
      → StackedFits own v
  stacked_fits s k None value h = tt
  stacked_fits s k (Some v) value h = (
    place_fits s own v.base v.offset k.sizes (both_left _ _ h),
    elements_fit v.elements value (both_right _ _ h),
  )

  -- ---- expressions

  pub optional_fits : (s : sound.TypingContext) (k : Knows program own false s)
      (e : Option Expression)
      → optional_sound s e ≡ true → OptionalFits program linear rate most own e
  optional_fits s k None h = tt
  optional_fits s k (Some e) h = expression_fits program own false s k e h

  pub test_fits : (s : sound.TypingContext) (k : Knows program own false s) (e : Option Expression)
      → test_sound s e ≡ true → OptionalFits program linear rate most own e
  test_fits s k None h = tt
  test_fits s k (Some e) h = expression_fits program own false s k e (both_left _ _ h)

  pub value_optional : (s : sound.TypingContext) (k : Knows program own false s) (z : Option Size)
      (e : Option Expression) → value_fits s z e ≡ true
      → OptionalFits program linear rate most own e
  value_optional s k z None h = tt
  value_optional s k z (Some e) h = expression_fits program own false s k e (both_left _ _ h)

  pub result_fits : (i : Inside) (k : Knows program own false i.scope) (e : Option Expression)
      → result_sound i e ≡ true → OptionalFits program linear rate most own e
  result_fits i k None h = tt
  result_fits i k (Some e) h = expression_fits program own false i.scope k e
      (both_left _ _ (both_left _ _ h))
