-- The linear code of a sound program that is nested within the limits is small.
use Rattle.std.proofs.Common.{◌≡◌, ℕ, zero, suc, ◌+◌, ◌-◌, ◌*◌, ◌≤◌, ◌<◌, List, [], ◌∷◌, ◌++◌, length, map, refl, ap, subst, arith}
use Rattle.std.proofs.lemmas.Bool.{leb-true, ltb-true, eqb-true}
use Rattle.std.proofs.lemmas.List.{length-map}
use Rattle.std.proofs.lemmas.Option.{slice_get_within}
use Rattle.std.specs.List.{AllByRecursion}
use Rattle.std.specs.Prelude.{true, false, slice_get, Option, Some, None}
use Rattle.c_checked.specs.declared.function.StackedParameter.{StackedParameter}
use Rattle.c_checked.specs.Program.{DataFrame, part_of, declared_among, declared_locals, frame_surplus}
use Rattle.c_checked.specs.Sound.{data_sound, parameters_sound}
use Rattle.seh_ir.specs.Lowered.{bring_code, open_code, close_code, body_start, function_code}
use Rattle.linear_code.specs.declared.instruction.Instruction.TheVariants as instructions
use Rattle.c_operations.specs.declared.operation.Size.{Size}
use Rattle.lowering_invariants.specs.Words.{constant, Temporary}
use Rattle.lowering_invariants.specs.Words.{Program, Function, funclets, function_sound, functions_sound, main_sound, statements_regions, statements_cold, own_locals, all_locals, scope_of, lowered_function, lowered_funclets, all_funclets, lowered, expression_nesting, expression_reads, AreShallow, IsShallow, IsSmallFunction, IsSmallFunclet, statements_notes}
use Rattle.c_checked.specs.Sound as sound
use Rattle.lowering_invariants.proofs.Lemmas.{both_left, both_right, all_append, StatementsHave, all_front, all_back, all_funclets_every, functions_count, inside_function, knows_function, statements_sound_have}
use Rattle.lowering_invariants.specs.BoundLaws.{LoweredIsSmall}
use Rattle.lowering_invariants.proofs.SeparatorCounts.FirstSeparators.{begin_every, code_every}
use Rattle.lowering_invariants.proofs.PlainExpressions.{PartAmong, NamesAmong, Good, AllGood, constant_good}
use Rattle.lowering_invariants.proofs.PlainStatements.{small_body, statements_good, statements_within, numbers_within, Value, Named, Fitting, funclets_small, Within}
use Rattle.seh_num.specs.declared.limit.TheConstants.{MOST_GLOBALS}

the_same : {X : Type 0} (x y : X) → Some x ≡ Some y → x ≡ y
the_same x y e = ap (λ o. elim o [ None ↦ x | Some z ↦ z ]) e

main_there : (fs : List Function) (k : ℕ) (o : Option Function) → slice_get fs k ≡ o
    → main_sound o ≡ true → k < length fs
main_there fs k None e h = absurd (cc)
main_there fs k (Some f) e h = slice_get_within fs k f e

few_parameters : (all fs : List Function) → functions_sound all fs ≡ true → (k : ℕ) (fn : Function)
    → slice_get fs k ≡ Some fn → length fn.parameters ≤ 8
few_parameters all [] ok k fn e = absurd (cc)
few_parameters all (f ∷ fs) ok zero fn e = subst (λ g. length g.parameters ≤ 8) (the_same f fn e)
    (leb-true (length f.parameters) 8 (both_right _ _ (both_left _ _ (both_left _ _
    (both_left _ _ ok)))))
few_parameters all (f ∷ fs) ok (suc k) fn e = few_parameters all fs (both_right _ _ ok) k fn e

-- the base of a sound function's part of the data stack is a local
one_more : (locals : List Size) (d : Option DataFrame) → (parameters : ℕ)
    → data_sound parameters locals d ≡ true → length locals ≤ 1 + declared_among locals d
one_more locals None parameters h = omega arith
one_more locals (Some d) parameters h = omega arith

base_is : (parameters : ℕ) (locals : List Size) (d : DataFrame)
    → data_sound parameters locals (Some d) ≡ true → d.base < parameters + length locals
base_is parameters locals d h =
    let h1 = both_left _ _ (both_left _ _ (both_left _ _ (both_left _ _ h))) in
    let some = ltb-true 0 (length locals) (both_left _ _ h1) in
    let e = eqb-true d.base (parameters + (length locals - 1)) (both_right _ _ h1) in
    omega arith

base_among : (parameters : ℕ) (locals : List Size) (d : Option DataFrame) (n : ℕ)
    → parameters + length locals ≤ n → data_sound parameters locals d ≡ true
    → PartAmong n (part_of d)
base_among parameters locals None n le h = tt
base_among parameters locals (Some d) n le h =
    let lt = base_is parameters locals d h in omega arith

bring_good : (parameters base n : ℕ) (ps : List StackedParameter) → parameters ≤ n → base < n
    → parameters_sound parameters ps ≡ true → AllGood 456 n (bring_code base ps)
bring_good parameters base n [] le lt h = tt
bring_good parameters base n (p ∷ ps) le lt h =
    let x = ltb-true p.parameter parameters (both_left _ _ (both_left _ _ h)) in
    let low : p.parameter < n = omega arith in (
      (omega arith, omega arith, (low, lt, low)),
      bring_good parameters base n ps le lt (both_right _ _ h),
    )

open_good : (parameters : ℕ) (locals : List Size) (d : Option DataFrame) (n : ℕ)
    → parameters + length locals ≤ n → data_sound parameters locals d ≡ true
    → AllGood 456 n (open_code d)
open_good parameters locals None n le h = tt
open_good parameters locals (Some d) n le h =
    let is = base_is parameters locals d h in
    let lt : d.base < n = omega arith in (
      (omega arith, omega arith, (lt, lt, lt)),
      bring_good parameters d.base n d.parameters (omega arith) lt (both_right _ _ h),
    )

close_good : (d : Option DataFrame) (n : ℕ) → PartAmong n (part_of d)
    → AllGood 456 n (constant 0 0 ∷ (close_code d ++ instructions.Return (Temporary 0) ∷ []))
close_good None n h = (constant_good 456 n 0 0 (omega arith), ((omega arith, omega arith, tt), tt))
close_good (Some d) n h = (
  constant_good 456 n 0 0 (omega arith),
  ((omega arith, omega arith, (h, h, h)), ((omega arith, omega arith, tt), tt)),
)

module _ (program : Program) (h : functions_sound program.functions program.functions ≡ true) where
  few : (k : ℕ) (fn : Function) → slice_get program.functions k ≡ Some fn → length fn.parameters ≤ 8
  few k fn e = few_parameters program.functions program.functions h k fn e

  -- the expressions of a sound function that is nested within the limits
  values_fit : (fn : Function) → function_sound program.functions fn ≡ true → IsShallow fn
      → StatementsHave (Value program 456 (own_locals fn) false)
      (Value program 456 (own_locals fn) true) (λ x. x < own_locals fn) fn.body
  values_fit fn ok shallow =
      let own = own_locals fn in
      statements_sound_have program own (Within expression_nesting expression_reads 64 15)
      (Within expression_nesting expression_reads 64 15) (Value program 456 own false)
      (Value program 456 own true) (λ x. x < own)
      (λ e h f. (let le = h.0 in (f, omega arith, h.1)))
      (λ e h f. (let le = h.0 in (f, omega arith, h.1))) (λ x lt. lt) fn.body
      (inside_function program fn) (knows_function program fn)
      (both_left _ _ (both_left _ _ (both_left _ _ ok)))
      (statements_within expression_nesting expression_reads 64 15 fn.body shallow.expressions
      shallow.parameters)

  -- a function has few parameters, and few locals, codes and flags for what it weighs
  record IsNarrow (fn : Function) : Type 0 where
    parameters : length fn.parameters ≤ 8
    wide : own_locals fn ≤ all_locals fn
    light : frame_surplus fn ≤ 64
    locals : all_locals fn ≤ 540 + 1024 * frame_surplus fn
    room : all_locals fn ≤ 66000
    named : NamesAmong (all_locals fn) (scope_of fn).names
    free : (scope_of fn).names.free + statements_notes fn.body ≤ all_locals fn

  narrow : (fn : Function) → function_sound program.functions fn ≡ true → IsShallow fn → IsNarrow fn
  narrow fn ok shallow =
      let noted = shallow.blocks in
      let ps : length fn.parameters ≤ 8 = leb-true (length fn.parameters) 8
      (both_right _ _ (both_left _ _ (both_left _ _ ok))) in
      let ls : declared_locals fn ≤ 65536 = leb-true (declared_locals fn) 65536
      (both_right _ _ (both_left _ _ ok)) in
      let one = one_more fn.locals fn.data_frame (length fn.parameters) (both_right _ _ ok) in
      record {
        parameters = ps;
        wide = omega arith;
        light = omega arith;
        locals = omega arith;
        room = omega arith;
        named = record {
          source = tt;
          flag = tt;
          part = base_among (length fn.parameters) fn.locals fn.data_frame (all_locals fn)
              (omega arith) (both_right _ _ ok);
        };
        free = omega arith;
      }

  function_small : (fn : Function) → function_sound program.functions fn ≡ true → IsShallow fn
      → IsSmallFunction (lowered_function fn)
  function_small fn ok shallow =
      let n = all_locals fn in
      let own = own_locals fn in
      let w = narrow fn ok shallow in
      let at = body_start fn in
      let begins = begin_every (Good 456 n) (omega arith, omega arith, tt) fn
      (open_good (length fn.parameters) fn.locals fn.data_frame n (omega arith)
      (both_right _ _ ok)) in
      let good = (statements_good program 456 n own w.wide (omega arith) few fn.body
      (scope_of fn) at
      (statements_notes fn.body) (omega arith) (w.named, w.free) (values_fit fn ok shallow)) in
      let ends = close_good fn.data_frame n w.named.part in
      record {
        parameters = w.parameters;
        surplus = w.light;
        locals = w.locals;
        body = small_body 456 n (omega arith) w.room
            (function_code fn) (statements_regions fn.body at)
            (statements_cold fn.body at) (code_every (Good 456 n) fn begins good ends);
      }

  functions_small : (fs : List Function) → functions_sound program.functions fs ≡ true
      → AreShallow fs → AllByRecursion IsSmallFunction (map lowered_function fs)
  functions_small [] ok shallow = tt
  functions_small (f ∷ fs) ok shallow = (
    function_small f (both_left _ _ ok) shallow.0,
    functions_small fs (both_right _ _ ok) shallow.1,
  )

  -- the number of a funclet that is the parent of some
  abbrev IsThere : ℕ → Type 0
  IsThere k = k - 1 < length (lowered program).funclets

  own_small : (fn : Function) (number : ℕ) → number < length program.functions
      → function_sound program.functions fn ≡ true → IsShallow fn
      → AllByRecursion IsThere (funclets fn.body)
      → AllByRecursion (IsSmallFunclet (lowered program)) (lowered_funclets number fn)
  own_small fn number lt ok shallow c =
      let n = all_locals fn in
      let own = own_locals fn in
      let w = narrow fn ok shallow in
      let l = length-map program.functions lowered_function in
      all_funclets_every (IsSmallFunclet (lowered program)) (Fitting (lowered program) n) IsThere
      (Named n) (Value program 456 own false) (Value program 456 own true) (λ x. x < own)
      (funclets_small program 456 n own w.wide (omega arith) few (lowered program) (omega arith)
      w.room) fn.body (record { function = number; locals = n; parent = None }) (scope_of fn).names
      (statements_notes fn.body) (omega arith)
      (record { function = omega arith; locals = refl; parent = tt }) (w.named, w.free)
      (values_fit fn ok shallow) c

  all_funclets_small : (fs : List Function) (number : ℕ)
      → number + length fs ≤ length program.functions → functions_sound program.functions fs ≡ true
      → AreShallow fs → AllByRecursion IsThere (sound.all_funclets fs)
      → AllByRecursion (IsSmallFunclet (lowered program)) (all_funclets number fs)
  all_funclets_small [] number le ok shallow c = tt
  all_funclets_small (fn ∷ fs) number le ok shallow c =
      all_append (IsSmallFunclet (lowered program)) (lowered_funclets number fn)
      (all_funclets (number + 1) fs)
      (own_small fn number (omega arith) (both_left _ _ ok) shallow.0
      (all_front IsThere (funclets fn.body) (sound.all_funclets fs) c))
      (all_funclets_small fs (number + 1) (omega arith) (both_right _ _ ok) shallow.1
      (all_back IsThere (funclets fn.body) (sound.all_funclets fs) c))

pub lowered_is_small : LoweredIsSmall
lowered_is_small program h shallow =
    let counts = both_left _ _ (both_left _ _ (both_left _ _ h)) in
    let starts = both_left _ _ counts in
    let fine = both_left _ _ starts in
    let l = length-map program.functions lowered_function in
    let n = functions_count 0 program.functions in
    let main = main_there program.functions program.main (slice_get program.functions program.main)
    refl (both_right _ _ starts) in
    record {
      globals = leb-true (length program.globals) MOST_GLOBALS (both_right _ _ h);
      main = omega arith;
      functions = functions_small program fine program.functions fine shallow;
      funclets = all_funclets_small program fine program.functions 0 (omega arith) fine shallow
          (numbers_within (sound.all_funclets program.functions) 0
          (length (lowered program).funclets)
          (both_right _ _ counts) (omega arith));
    }
