-- The code and the tables of a program take no more than the room of its functions.
use Rattle.std.proofs.Common.{◌≡◌, ℕ, zero, suc, ◌+◌, ◌*◌, ◌/◌, ◌^◌, ◌≤◌, true, List, [], ◌∷◌, ◌++◌, length, map, replicate, Option, Some, None, refl, arith, length-append}
use Rattle.std.specs.List.{AllByRecursion}
use Rattle.std.proofs.lemmas.Bool.{ltb-true, leb-true}
use Rattle.text_bounds.specs.Words.{Function, Temporary, LinearFunclet, Owner, constant, statements_code, lowered_function, all_funclets, tables_room, function_bodies, funclet_bodies, functions_room, funclets, Return, all_locals, scope_of, lowered_funclets, asking, first_separators, bring_code, open_code, close_code, body_start, room, code_room}
use Rattle.c_checked.specs.declared.function.StackedParameter.{StackedParameter}
use Rattle.c_checked.specs.declared.function.TheConstants.{BYTES_BY_WEIGHT}
use Rattle.c_checked.specs.Program.{DataFrame, data_size, data_surplus, surplus}
use Rattle.c_operations.specs.declared.operation.Size.{Size}
use Rattle.seh_num.specs.declared.limit.TheConstants.{MOST_PARAMETERS}
use Rattle.lowering_follows.proofs.SoundExpressions.{both_left, both_right}
use Rattle.c_checked.specs.Sound as sound
use Rattle.linear_code.specs.declared.instruction.Instruction.TheVariants.{Separator}
use Rattle.seh_ir.proofs.FuncletCounts.{statements_count}
use Rattle.seh_ir.proofs.Lowering.{asking_within}
use Rattle.text_bounds.specs.RoomLaws.{LoweredIsBounded}
use Rattle.text_bounds.proofs.ExpressionRooms.{room_append}
use Rattle.text_bounds.proofs.StatementRooms.{funclets_room, funclets_append, statements_bound}

-- ---- parts of the data stack

-- one is begun and given back, and takes parameters
abbrev data_room : Option DataFrame → ℕ
data_room None = 0
data_room (Some d) = 143 + 66 * length d.parameters

brought : (base : ℕ) (ps : List StackedParameter) → code_room (bring_code base ps) ≡ 66 * length ps
brought base [] = refl
brought base (p ∷ ps) = let r = brought base ps in omega arith

opened : (o : Option DataFrame) → code_room (open_code o) + code_room (close_code o) ≤ data_room o
opened None = omega arith
opened (Some d) = let r = brought d.base d.parameters in omega arith

-- with the separators that it counts for, and that of a function that can be asked
abbrev FitsData : Function → Type 0
FitsData f = data_room f.data_frame + data_surplus f + asking f ≤ 1182

-- one that can be asked takes fewer parameters
data_fits : (n more : ℕ) (locals : List Size) (o : Option DataFrame) → n + more ≤ MOST_PARAMETERS
    → sound.data_sound n locals o ≡ true
    → data_room o + data_size o / BYTES_BY_WEIGHT + more ≤ 1182
data_fits n more locals None few ok = omega arith
data_fits n more locals (Some d) few ok =
    let p = both_left _ _ ok in
    let size = ltb-true d.size (2 ^ 21) (both_right _ _ (both_left _ _ p)) in
    let count = leb-true (length d.parameters) n (both_right _ _ p) in
    omega arith

functions_fit_data : (all fs : List Function) → sound.functions_sound all fs ≡ true
    → AllByRecursion FitsData fs
functions_fit_data all [] ok = tt
functions_fit_data all (f ∷ fs) ok =
    let own = both_left _ _ ok in
    let few = leb-true (length f.parameters) MOST_PARAMETERS
    (both_right _ _ (both_left _ _ (both_left _ _ own))) in (
      data_fits (length f.parameters) (asking f) f.locals f.data_frame
          (asking_within f MOST_PARAMETERS (λ e. omega arith) few) (both_right _ _ own),
      functions_fit_data all fs (both_right _ _ ok),
    )

-- ---- bodies of functions and of funclets

-- a separator takes a byte
separators_room : (n : ℕ) → code_room (replicate n Separator) ≡ n
separators_room zero = refl
separators_room (suc n) = let r = separators_room n in omega arith

funclet_rooms : (fs : List LinearFunclet) → room (funclet_bodies fs)
    + tables_room (funclet_bodies fs) ≡ funclets_room fs + 576 * length fs
funclet_rooms [] = refl
funclet_rooms (f ∷ fs) = let r = funclet_rooms fs in omega arith

functions_bound : (number : ℕ) (fs : List Function) → AllByRecursion FitsData fs
    → room (function_bodies (map lowered_function fs))
    + tables_room (function_bodies (map lowered_function fs))
    + funclets_room (all_funclets number fs) + 576 * length (all_funclets number fs)
    ≤ functions_room fs + 576 * (length fs + length (sound.all_funclets fs)) + 1182 * length fs
functions_bound number [] fit = omega arith
functions_bound number (f ∷ fs) fit =
    let owner : Owner = record { function = number; locals = all_locals f; parent = None } in
    let names = (scope_of f).names in
    let own = lowered_funclets number f in
    let more = all_funclets (number + 1) fs in
    let r = functions_bound (number + 1) fs fit.1 in
    let d = fit.0 in
    let at = body_start f in
    let b = statements_bound (scope_of f) at at owner names f.body in
    let c = statements_count owner names f.body in
    let body = statements_code (scope_of f) f.body at in
    let ends = constant 0 0 ∷ (close_code f.data_frame ++ Return (Temporary 0) ∷ []) in
    let s = separators_room (surplus f + asking f) in
    let o = opened f.data_frame in
    omega (
      arith,
      room_append (first_separators f) (open_code f.data_frame ++ (body ++ ends)),
      room_append (open_code f.data_frame) (body ++ ends),
      room_append body ends,
      room_append (close_code f.data_frame) (Return (Temporary 0) ∷ []),
      funclets_append own more,
      length-append own more,
      length-append (funclets f.body) (sound.all_funclets fs),
    )

pub lowered_is_bounded : LoweredIsBounded
lowered_is_bounded program ok =
    let fit = functions_fit_data program.functions program.functions
    (both_left _ _ (both_left _ _ (both_left _ _ (both_left _ _ (both_left _ _ ok))))) in
    let a = functions_bound 0 program.functions fit in
    let b = funclet_rooms (all_funclets 0 program.functions) in
    omega arith
