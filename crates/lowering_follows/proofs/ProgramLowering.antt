-- The linear code of a sound program is linked, and follows the program.
use Rattle.std.proofs.Common.{◌≡◌, ℕ, inl, inr, zero, suc, ◌+◌, ◌^◌, ◌<◌, ◌≤◌, List, [], ◌∷◌, ◌++◌, length, refl, ap, subst, ◌∙◌, arith, length-append}
use Rattle.std.proofs.lemmas.Bool.{leb-true, ltb-true}
use Rattle.std.proofs.lemmas.Option.{slice_get-map}
use Rattle.std.specs.Prelude.{true, ◌||◌, slice_get, option_map, Option, Some, None}
use Rattle.lowering_follows.specs.Words.{Size, Int, Long, DataFrame, Program, Function, data_sound, first_separators, first_count, open_code, close_code, body_start, are_sizes, funclets, count_up, function_sound, some_sizes, functions_sound, main_sound, Temporary, FunctionBody, body_of, function_body, Owner, statements_size, constant, statements_code, statements_regions, statements_funclets, own_locals, scope_of, all_locals, lowered_function, lowered_funclets, all_funclets, lowered, FunctionPlaced, statements_weight, surplus}
use Rattle.seh_num.specs.declared.limit.TheConstants.{MOST_LOCALS, MOST_PARAMETERS}
use Rattle.c_checked.specs.Program.{weight, declared_locals, data_size}
use Rattle.source_meaning.specs.declared.depth.TheConstants.{DEEPEST}
use Rattle.c_checked.specs.Sound as sound
use Rattle.linear_code.specs.declared.instruction.Instruction.TheVariants as instructions
use Rattle.lowering_follows.proofs.Lemmas.{statements_length, statements_count, length_first, open_length}
use Rattle.lowering_follows.proofs.WholeProgram.{linked_follows}
use Rattle.lowering_follows.specs.StepsPerTurn.{weight_of, steps_per_turn_of}
use Rattle.lowering_follows.specs.LoweringLaws.{LoweredIsLinked, LoweredFollows, LoweredShowsNoMore}
use Rattle.lowering_follows.proofs.SoundExpressions.{both_left, both_right}
use Rattle.lowering_follows.proofs.Segments.{IsSegmentAt, front, back, whole_is_at}
use Rattle.lowering_follows.proofs.FuncletNumbers.{count_front, count_back}
use Rattle.lowering_follows.proofs.Regions.{all_outside}
use Rattle.lowering_follows.proofs.StatementPlaces.{Alike, code_is_at, place_all}
use Rattle.lowering_follows.proofs.RegionCovers.{whole_cover, bare}
use Rattle.lowering_follows.proofs.SoundParts.{frame_fits}
use Rattle.lowering_follows.proofs.SoundStatements.{inside_function, knows_function}

the_same : {X : Type 0} (x y : X) → Some x ≡ Some y → x ≡ y
the_same x y e = ap (λ o. elim o [ None ↦ x | Some z ↦ z ]) e

-- ---- `main`

few_parameters : (ps : List Size) → (are_sizes [] (some_sizes ps)
    || are_sizes (Long ∷ []) (some_sizes ps)) ≡ true → length ps ≤ 1
few_parameters [] h = omega arith
few_parameters (z ∷ []) h = omega arith
few_parameters (Int ∷ y ∷ ps) h = absurd (cc)
few_parameters (Long ∷ y ∷ ps) h = absurd (cc)

main_is : (o : Option Function) → main_sound o ≡ true
    → (begins : Function) × (o ≡ Some begins) × (length begins.parameters ≤ 1)
main_is None h = absurd (cc)
main_is (Some f) h = (f, refl, few_parameters f.parameters (both_left _ _ h))

module _ (program : Program) where
  -- a function whose funclets are from an index on
  record Found (fn : Function) : Type 0 where
    owner : Owner
    begin : ℕ
    sound : function_sound program.functions fn ≡ true
    light : surplus fn + statements_weight fn.body ≤ weight_of program.functions
    is_there : IsSegmentAt (lowered program).funclets begin
        (statements_funclets owner (scope_of fn).names fn.body)
    numbered : count_up (begin + 1) (funclets fn.body) ≡ true

  find : (fs : List Function) (number j : ℕ) → functions_sound program.functions fs ≡ true
      → weight_of fs ≤ weight_of program.functions
      → IsSegmentAt (lowered program).funclets j (all_funclets number fs)
      → count_up (j + 1) (sound.all_funclets fs) ≡ true → (k : ℕ) (fn : Function)
      → slice_get fs k ≡ Some fn → Found fn
  find [] number j ok light h n k fn e = absurd (cc)
  find (f ∷ fs) number j ok light h n zero fn e =
      let own = lowered_funclets number f in
      let rest = all_funclets (number + 1) fs in
      subst Found (the_same f fn e)
      (record {
        owner = record { function = number; locals = all_locals f; parent = None };
        begin = j;
        sound = both_left _ _ ok;
        light = omega arith;
        is_there = front (lowered program).funclets j own rest h;
        numbered = count_front (j + 1) (funclets f.body) (sound.all_funclets fs) n;
      })
  find (f ∷ fs) number j ok light h n (suc k) fn e =
      let own = lowered_funclets number f in
      let rest = all_funclets (number + 1) fs in
      let count = statements_count (record {
        function = number;
        locals = all_locals f;
        parent = None;
      }) (scope_of f).names f.body in
      find fs (number + 1) (j + length own) (both_right _ _ ok) (omega arith)
      (back (lowered program).funclets j (j + length own) own rest refl h)
      (count_back (j + 1) (j + length own + 1) (funclets f.body) (sound.all_funclets fs)
      (omega arith) n) k fn e

  whole_alike : (fn : Function) → Alike program (lowered program) (steps_per_turn_of program)
      (weight_of program.functions) (own_locals fn) (inside_function program fn) (scope_of fn)
  whole_alike fn = record {
    knows = knows_function program fn;
    exits = λ h. tt;
    ends = λ h. absurd (cc);
    again = λ h. absurd (cc);
    leaves = λ h. absurd (cc);
  }

  function_placed : (k : ℕ) (fn : Function) → slice_get (lowered program).functions k
      ≡ Some (lowered_function fn) → Found fn
      → FunctionPlaced program (lowered program) (steps_per_turn_of program)
      (weight_of program.functions) k
      fn (lowered_function fn)
  function_placed k fn there g =
      let linear = lowered program in
      let rate = steps_per_turn_of program in
      let most = weight_of program.functions in
      let light = g.light in
      let quick : most + most + 4 ≤ rate = omega arith in
      let lb = (lowered_function fn).body in
      let home : body_of linear (FunctionBody k) ≡ Some lb = ap function_body there in
      let begin = body_start fn in
      let starts = first_separators fn in
      let opens = open_code fn.data_frame in
      let code = statements_code (scope_of fn) fn.body begin in
      let ends = constant 0 0 ∷ (close_code fn.data_frame ++ instructions.Return (Temporary 0)
      ∷ []) in
      let n = length_first fn in
      let o = open_length fn.data_frame in
      let l = statements_length (scope_of fn) fn.body begin in
      let long = length-append starts (opens ++ (code ++ ends)) in
      let longer = length-append opens (code ++ ends) in
      let longest = length-append code ends in
      let whole = whole_is_at lb.code in
      let at = first_count fn in
      let after_starts = back lb.code 0 at starts (opens ++ (code ++ ends)) (omega arith) whole in
      let after_opens = back lb.code at begin opens (code ++ ends) (omega arith) after_starts in
      let cover = whole_cover linear (FunctionBody k) lb home 0
      (length lb.code) in
      let before = λ (q : ℕ) (h : q < begin) (is : q < length lb.code). bare linear (FunctionBody k)
      [] (statements_regions fn.body begin) q (all_outside fn.body begin q (inl (omega arith)))
      (cover q (omega arith) is) in
      record {
        parameters = refl;
        locals = refl;
        weighs = refl;
        data_weighs = refl;
        frame = frame_fits (length fn.parameters) fn.locals fn.data_frame (both_right _ _ g.sound);
        few = leb-true (length fn.parameters) MOST_PARAMETERS
            (both_right _ _ (both_left _ _ (both_left _ _ g.sound)));
        starts = code_is_at program linear rate most (own_locals fn) (FunctionBody k) lb home [] 0
            starts (front lb.code 0 starts (opens ++ (code ++ ends)) whole)
            (λ q lo hi. before q (omega arith) (omega arith));
        opens = code_is_at program linear rate most (own_locals fn) (FunctionBody k) lb home []
            at opens (front lb.code at opens (code ++ ends) after_starts)
            (λ q lo hi. before q (omega arith) (omega arith));
        placed = place_all program linear rate most (own_locals fn) quick fn.body (FunctionBody k)
            lb home (inside_function program fn) (scope_of fn) (whole_alike fn) g.owner [] begin
            g.begin (both_left _ _ (both_left _ _ (both_left _ _ g.sound))) (omega arith)
            (front lb.code begin code ends after_opens)
            (λ q lo hi. cover q (omega arith) (omega arith))
            g.is_there g.numbered;
        ends = code_is_at program linear rate most (own_locals fn) (FunctionBody k) lb home []
            (begin + statements_size fn.body) ends (back lb.code begin
            (begin + statements_size fn.body) code ends (omega arith) after_opens)
            (λ q lo hi. bare linear (FunctionBody k) []
            (statements_regions fn.body begin) q (all_outside fn.body begin q (inr (omega arith)))
            (cover q (omega arith) (omega arith)));
        light = light;
        quick = omega arith;
      }

-- the limits of locals and of the data stack keep weights small
few_locals : (f : Function) → declared_locals f ≤ MOST_LOCALS → data_size f.data_frame < 2 ^ 21
    → weight f ≤ DEEPEST
few_locals f few small = omega arith

small_part : (parameters : ℕ) (locals : List Size) (frame : Option DataFrame)
    → data_sound parameters locals frame ≡ true → data_size frame < 2 ^ 21
small_part parameters locals None h = omega arith
small_part parameters locals (Some d) h =
    ltb-true d.size (2 ^ 21) (both_right _ _ (both_left _ _ (both_left _ _ h)))

sound_is_shallow : (functions : List Function) (f : Function) → function_sound functions f ≡ true
    → weight f ≤ DEEPEST
sound_is_shallow functions f h =
    few_locals f (leb-true (declared_locals f) MOST_LOCALS (both_right _ _ (both_left _ _ h)))
    (small_part (length f.parameters) f.locals f.data_frame (both_right _ _ h))

pub lowered_is_linked : LoweredIsLinked
lowered_is_linked program h =
    let counts = both_left _ _ (both_left _ _ (both_left _ _ h)) in
    let starts = both_left _ _ counts in
    let begin = main_is (slice_get program.functions program.main) (both_right _ _ starts) in
    record {
      globals = refl;
      main = refl;
      least = omega arith;
      functions = λ k fn e.
          let there = slice_get-map lowered_function program.functions k
          ∙ ap (option_map lowered_function) e in (
            lowered_function fn,
            there,
            function_placed program k fn there
                (find program program.functions 0 0 (both_left _ _ starts) (omega arith)
                (whole_is_at (lowered program).funclets) (both_right _ _ counts) k fn e),
          );
      begins = begin.0;
      is_main = begin.1;
      few = begin.2;
      shallow = sound_is_shallow program.functions begin.0 (find program program.functions 0 0
          (both_left _ _ starts) (omega arith) (whole_is_at (lowered program).funclets)
          (both_right _ _ counts) program.main begin.0 begin.1).sound;
    }

pub lowered_follows : LoweredFollows
lowered_follows program h = (linked_follows program (lowered program) (steps_per_turn_of program)
    (weight_of program.functions) (lowered_is_linked program h)).0

pub lowered_shows_no_more : LoweredShowsNoMore
lowered_shows_no_more program h = (linked_follows program (lowered program)
    (steps_per_turn_of program)
    (weight_of program.functions) (lowered_is_linked program h)).1
