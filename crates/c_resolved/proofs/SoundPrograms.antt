-- What an accepted text within the limits is resolved to is sound.
use Rattle.std.proofs.Common.{◌-◌, ◌≡◌, ◌≤◌, ℕ, ◌+◌, refl, ap, sym, subst, ◌∙◌, arith, ◌<◌, ◌^◌}
use Rattle.std.proofs.lemmas.Bool.{le-leb, and_parts, or_left}
use Rattle.std.proofs.lemmas.List.{append_assoc, length-append, length-map, length-drop, length_push, drop_at}
use Rattle.std.specs.Prelude.{suc, true, false, not, ◌&&◌, ◌||◌, List, [], ◌∷◌, ◌++◌, length, map, drop, slice_get, Option, Some, None, Bool, replicate}
use Rattle.c_resolved.specs.Words.{Size, Inside, some_sizes, are_sizes, is_size, statements_sound, funclets, count_up, all_funclets, function_sound, functions_sound, main_sound, IsSound, Parameter, LongLong, CType, Identifier, every_limit, FunctionWithinFirst, EachWithinFirst, Within, funclets_of_all, ExternalDeclaration, Globals, Function, Statements, Duplicate, TypeClash, plain, is_scalar, size_of, same_type, int, Entity, LocalVariable, UserFunction, Scope, spelled, meaning_in, unless_holds, is_taken, with_name, Numbering, ResolvedStatements, resolve_statements, file_of, empty_file, parameter_types, with_parameters, parameter_faults, result_size, around, function_of, functions_of, main_name, are_main_parameters, place_of_function, main_of, resolve, Accepted, AcceptedIsSound, Layout, Place, Variable, layout_of, base_local, data_frame_of, place_statements, place_of, any_placed, is_placed, mark_statements, hold_try, parameter_variable}
use Rattle.seh_num.specs.declared.limit.TheConstants.{MOST_LOCALS}
use Rattle.c_operations.specs.declared.operation.Size.TheVariants as sizes
use Rattle.c_checked.specs.Statement as checked
use Rattle.c_checked.specs.Program as checked_program
use Rattle.c_syntax.specs.Limits as limits
use Rattle.c_resolved.proofs.Conversions.{same_type_is}
use Rattle.c_resolved.proofs.Operands.{and_true}
use Rattle.c_resolved.proofs.SettledRules.{MeaningFits, PlaceFits}
use Rattle.c_resolved.proofs.Numbers.{IsFront, front_itself, front_get, Counted, count_up_append, statements_counted, front_has}
use Rattle.c_resolved.proofs.SoundDeclarations.{none_in_both, holds, ScopeFits, meaning_fits, with_name_fits, Reaches, reaches_through}
use Rattle.c_resolved.proofs.SoundStatements.{statements_resolve}
use Rattle.c_checked.specs.Program.{declared_among}
use Rattle.c_checked.specs.Sound.{data_sound}
use Rattle.c_resolved.proofs.Places.{place_counts, place_found, end_near, all_below, base_if, frame_sound, declared_without, only_found}
use Rattle.c_resolved.proofs.PlacedFunclets.{same_funclets}
use Rattle.c_resolved.proofs.ArrayBytes.{room, statements_hold, parameters_room}
use Rattle.c_resolved.proofs.Globals.{file_length, FunctionsFrom, file_fits}

-- ---- parameters

abbrev parameter_sizes : List Parameter → List Size
parameter_sizes ps = map (λ p. size_of p.of) ps

abbrev AreScalar : List Parameter → Type 0
AreScalar [] = Unit {0}
AreScalar (p ∷ ps) = (is_scalar p.of ≡ true) × AreScalar ps

scalar_parameters : (text : List ℕ) (ps : List Parameter) (block : Scope)
    → parameter_faults text ps block ≡ [] → AreScalar ps
scalar_parameters text [] block none = tt
scalar_parameters text (p ∷ ps) block none =
    let name = spelled text p.name in
    let duplicate = unless_holds (not (is_taken block name)) p.name.start Duplicate in
    let scalar = unless_holds (is_scalar p.of) p.name.start TypeClash in
    let next = with_name block name (LocalVariable 0 p.of) in
    let apart = none_in_both (duplicate ++ scalar) (parameter_faults text ps next) none in (
      holds (is_scalar p.of) p.name.start TypeClash (none_in_both duplicate scalar apart.0).1,
      scalar_parameters text ps next apart.1,
    )

-- the places of parameters that are numbered from here on
abbrev PlacesFit : List Size → Layout → ℕ → List Parameter → Type 0
PlacesFit zs layout n [] = Unit {0}
PlacesFit zs layout n (p ∷ ps) = PlaceFits zs layout.base p.of None (place_of layout n)
    × PlacesFit zs layout (n + 1) ps

get_next : (done : List Variable) (v : Variable) (more : List Variable)
    → slice_get (done ++ v ∷ more) (length done) ≡ Some v
get_next [] v more = refl
get_next (w ∷ done) v more = get_next done v more

places_fit : (zs : List Size) (layout : Layout) (done vs : List Variable) (n : ℕ)
    (ps : List Parameter) → n ≡ length done → IsFront (done ++ map parameter_variable ps) vs
    → ((x : ℕ) (v : Variable) → slice_get vs x ≡ Some v
    → PlaceFits zs layout.base v.of v.elements (place_of layout x))
    → PlacesFit zs layout n ps
places_fit zs layout done vs n [] e front fit = tt
places_fit zs layout done vs n (p ∷ ps) e front fit =
    let v = parameter_variable p in
    let rest = map parameter_variable ps in
    let regrouped : (done ++ v ∷ []) ++ rest ≡ done ++ v ∷ rest = append_assoc done (v ∷ []) rest in
    let all : IsFront ((done ++ v ∷ []) ++ rest)
    vs = (front.0, front.1 ∙ ap (λ w. w ++ front.0) (sym regrouped)) in
    let own = front_has (done ++ v ∷ rest) vs (length done) v front (get_next done v rest) in
    let there : slice_get vs n ≡ Some v = ap (slice_get vs) e ∙ own in
    let longer : n + 1 ≡ length (done ++ v ∷ []) = ap (λ k. k + 1) e ∙ sym (length_push done v) in
    (fit n v there, places_fit zs layout (done ++ v ∷ []) vs (n + 1) ps longer all fit)

parameters_fit : (fs : List checked_program.Function) (zs : List Size) (layout : Layout)
    (text : List ℕ) (ps : List Parameter) (block : Scope) (n : ℕ) (done : List Size)
    → n ≡ length done
    → IsFront (done ++ parameter_sizes ps) zs → AreScalar ps
    → PlacesFit zs layout n ps
    → ScopeFits fs zs layout block → ScopeFits fs zs layout (with_parameters text ps block n)
parameters_fit fs zs layout text [] block n done e front scalar places fit = fit
parameters_fit fs zs layout text (p ∷ ps) block n done e front scalar places fit =
    let z = size_of p.of in
    let rest = parameter_sizes ps in
    let regrouped : (done ++ z ∷ []) ++ rest ≡ done ++ z ∷ rest = append_assoc done (z ∷ []) rest in
    let first : IsFront (done ++ z ∷ []) zs = (
      rest ++ front.0,
      front.1 ∙ ap (λ w. w ++ front.0) (sym regrouped)
          ∙ append_assoc (done ++ z ∷ []) rest front.0,
    ) in
    let all : IsFront ((done ++ z ∷ []) ++ rest)
    zs = (front.0, front.1 ∙ ap (λ w. w ++ front.0) (sym regrouped)) in
    let there : slice_get zs n ≡ Some z = ap (slice_get zs) e ∙ front_get done z zs first in
    let longer : n + 1 ≡ length (done ++ z ∷ []) = ap (λ k. k + 1) e ∙ sym (length_push done z) in
    parameters_fit fs zs layout text ps
    (with_name block (spelled text p.name) (LocalVariable n p.of))
    (n + 1) (done ++ z ∷ []) longer all scalar.1 places.1
    (with_name_fits fs zs layout block (spelled text p.name) (LocalVariable n p.of) fit
    (there, places.0, scalar.0))

-- ---- one function

parameter_types_sizes : (ps : List Parameter)
    → parameter_sizes ps ≡ map size_of (parameter_types ps)
parameter_types_sizes [] = refl
parameter_types_sizes (p ∷ ps) = ap (λ zs. size_of p.of ∷ zs) (parameter_types_sizes ps)

abbrev start : List Parameter → ℕ → Numbering
start ps number = record {
  sizes = parameter_sizes ps;
  variables = map parameter_variable ps;
  number = number;
}

abbrev body_of : List ℕ → Scope → CType → List Parameter → Statements → ℕ → ResolvedStatements
body_of text file t ps body number = resolve_statements body (around text file t)
    (with_parameters text ps [] 0) (start ps number)

body_counted : (text : List ℕ) (file : Scope) (t : CType) (ps : List Parameter) (body : Statements)
    (number : ℕ)
    → Counted (start ps number) (body_of text file t ps body number).counts
    (funclets (checked.statements (body_of text file t ps body number).done))
    (limits.locals_of_all body) (length (funclets_of_all text body))
body_counted text file t ps body number = statements_counted body (around text file t)
    (with_parameters text ps [] 0) (start ps number)

-- parameters and locals are what was counted
all_sizes : (ps : List Parameter) (zs : List Size) → IsFront (parameter_sizes ps) zs
    → parameter_sizes ps ++ drop (length ps) zs ≡ zs
all_sizes ps zs h =
    let same : length (parameter_sizes ps) ≡ length ps = length-map ps
    (λ (p : Parameter). size_of p.of) in
    ap (λ w. parameter_sizes ps ++ drop (length ps) w) h.1
    ∙ ap (λ w. parameter_sizes ps ++ w) (drop_at (parameter_sizes ps) h.0 (length ps) same)
    ∙ sym h.1

abbrev layout_in : ResolvedStatements → Layout
layout_in m = layout_of m.counts.variables (checked.statements m.done)

abbrev checked_function : List ℕ → Scope → CType → Identifier → List Parameter → Statements → ℕ
    → checked_program.Function
checked_function text file t n ps body number =
    let m = body_of text file t ps body number in
    record {
      name = spelled text n;
      parameters = parameter_sizes ps;
      locals = drop (length ps) m.counts.sizes ++ base_local (layout_in m);
      data_frame = data_frame_of (length ps) (layout_in m);
      returns = result_size t;
      body = place_statements (layout_in m) (checked.statements m.done);
    }

-- ---- where the variables stand

base_there : (b : Bool) (xs : List Size) (base : ℕ) → base ≡ length xs → b ≡ true
    → is_size sizes.Long (slice_get (xs ++ base_if b) base) ≡ true
base_there true xs base e h = ap (λ k. is_size sizes.Long (slice_get (xs ++ sizes.Long ∷ []) k)) e
    ∙ ap (is_size sizes.Long) (front_get xs sizes.Long (xs ++ sizes.Long ∷ [])
    (front_itself (xs ++ sizes.Long ∷ [])))
base_there false xs base e h = absurd (cc)

place_fits : (xs : List Size) (vs : List Variable) (draft : checked.Statements)
    → length xs ≡ length vs → room vs < 2 ^ 32
    → (x : ℕ) (v : Variable) → slice_get vs x ≡ Some v
    → PlaceFits (xs ++ base_local (layout_of vs draft)) (layout_of vs draft).base v.of v.elements
    (place_of (layout_of vs draft) x)
place_fits xs vs draft same small x v h = of (place_of layout x) refl
  where
    layout : Layout
    layout = layout_of vs draft

    of : (q : Option Place) → place_of layout x ≡ q
        → PlaceFits (xs ++ base_local layout) layout.base v.of v.elements q
    of None e = tt
    of (Some p) e =
        let found = place_found vs (mark_statements draft (replicate (length vs) false)) 0 x v p h
        (only_found (slice_get layout.places x) p e) in
        let needed = or_left (any_placed layout.places) (hold_try draft)
        (place_counts layout.places x (ap is_placed e)) in (
          base_there layout.needed xs layout.base (sym same) needed,
          found.0,
          found.1,
          omega (arith, found.2, small),
        )

-- ---- a function holds

record LayoutHolds (ps : List Parameter) (m : ResolvedStatements) : Type 0 where
  alike : length m.counts.sizes ≡ length m.counts.variables
  room : room m.counts.variables < 2 ^ 21 - 15

layout_holds : (text : List ℕ) (file : Scope) (t : CType) (ps : List Parameter) (body : Statements)
    (number : ℕ) → FunctionWithinFirst every_limit ps body
    → LayoutHolds ps (body_of text file t ps body number)
layout_holds text file t ps body number within =
    let m = body_of text file t ps body number in
    let c = body_counted text file t ps body number in
    let first : length (parameter_sizes ps) ≡ length ps = length-map ps
    (λ (p : Parameter). size_of p.of) in
    let second : length (map parameter_variable ps) ≡ length ps = length-map ps
    parameter_variable in
    let held = statements_hold body (around text file t) (with_parameters text ps [] 0)
    (start ps number) 0 in
    let few = within.parameters (omega arith) in
    let locals = within.locals (omega arith) in
    let arrays = within.arrays (omega arith) in
    let begun = parameters_room ps in
    record {
      alike = omega (arith, first, second, c.grows.2);
      room = omega (arith, held, few, locals, arrays, begun);
    }

function_holds : (fs : List checked_program.Function) (text : List ℕ) (file : Scope) (t : CType)
    (n : Identifier) (ps : List Parameter) (body : Statements) (number : ℕ)
    → FunctionWithinFirst every_limit ps body
    → ((zs : List Size) (layout : Layout) → ScopeFits fs zs layout file)
    → (function_of text file t n ps body number).faults ≡ []
    → function_sound fs (checked_function text file t n ps body number) ≡ true
function_holds fs text file t n ps body number within fit none =
    let m = body_of text file t ps body number in
    let layout = layout_in m in
    let xs = m.counts.sizes in
    let vs = m.counts.variables in
    let draft = checked.statements m.done in
    let zs = xs ++ base_local layout in
    let c = body_counted text file t ps body number in
    let l = layout_holds text file t ps body number within in
    let apart = none_in_both (parameter_faults text ps []) m.faults none in
    let small : room vs < 2 ^ 32 = omega (arith, l.room) in
    let places = place_fits xs vs draft l.alike small in
    let reaches : Reaches m.counts zs layout = ((base_local layout, refl), l.alike, places) in
    let begun = reaches_through (start ps number) m.counts zs layout c.grows reaches in
    let block = parameters_fit fs zs layout text ps [] 0 [] refl begun.0
    (scalar_parameters text ps [] apart.0)
    (places_fit zs layout [] vs 0 ps refl c.grows.1 places) tt in
    let r = statements_resolve fs zs layout body (around text file t)
    (with_parameters text ps [] 0)
    (start ps number) block (fit zs layout) reaches apart.1 in
    let e : parameter_sizes ps ++ (drop (length ps) xs ++ base_local layout) ≡ zs =
    sym (append_assoc (parameter_sizes ps) (drop (length ps) xs) (base_local layout))
    ∙ ap (λ w. w ++ base_local layout) (all_sizes ps xs c.grows.0) in
    let env : List Size → Inside =
    λ w. record {
      scope = record {
        functions = fs;
        sizes = w;
        code = false;
        information = false;
        abnormal = false;
      };
      returns = result_size t;
      loop = false;
      body = false;
      function = true;
    } in
    let sound = subst (λ w. statements_sound (env w) (place_statements layout draft) ≡ true) (sym e)
    r.sound in
    let same : length (parameter_sizes ps) ≡ length ps = length-map ps
    (λ (p : Parameter). size_of p.of) in
    let parameters = within.parameters (omega arith) in
    let few : length (parameter_sizes ps) ≤ 8 = omega (arith, same, parameters) in
    let dropped = length-drop (length ps) xs in
    let declared = within.locals (omega arith) in
    let without = declared_without layout.needed (length ps) (drop (length ps) xs) layout in
    let locals : declared_among (drop (length ps) xs ++ base_local layout)
    (data_frame_of (length ps) layout)
    ≤ MOST_LOCALS = omega (arith, same, dropped, declared, c.sizes, without) in
    let marks = mark_statements draft (replicate (length vs) false) in
    let size = end_near vs marks 0 in
    let front : length ps + length (drop (length ps) xs) ≡ length vs =
    omega (arith, same, dropped, c.sizes, l.alike) in
    let frame = frame_sound layout.needed (length ps) (drop (length ps) xs) layout (sym front)
    (omega (arith, size, l.room)) (all_below vs marks 0 (2 ^ 32 - 1) (omega (arith, l.room))) in
    and_true (and_true (and_true sound (le-leb (length (parameter_sizes ps)) 8 few))
    (le-leb (declared_among (drop (length ps) xs ++ base_local layout)
    (data_frame_of (length ps) layout)) MOST_LOCALS locals))
    (subst (λ k. data_sound k (drop (length ps) xs ++ base_local layout)
    (data_frame_of (length ps) layout) ≡ true) (sym same) frame)

-- ---- all functions

record FunctionsHold (fs : List checked_program.Function) (text : List ℕ)
    (xs : List ExternalDeclaration) (number : ℕ) (done : List checked_program.Function) : Type 0
  where
    sound : functions_sound fs done ≡ true
    up : count_up number (all_funclets done) ≡ true
    count : length done ≡ limits.functions xs
    within : length (all_funclets done) ≤ length (limits.funclets_in text xs)

functions_hold : (fs : List checked_program.Function) (text : List ℕ) (file : Scope)
    → ((zs : List Size) (layout : Layout) → ScopeFits fs zs layout file)
    → (xs : List ExternalDeclaration) (number : ℕ)
    → EachWithinFirst every_limit xs
    → (functions_of text file xs number).faults ≡ []
    → FunctionsHold fs text xs number (functions_of text file xs number).done
functions_hold fs text file fit [] number within
    none = record { sound = refl; up = refl; count = refl; within = omega arith }
functions_hold fs text file fit (Globals base gs ∷ xs) number within none =
    let r = functions_hold fs text file fit xs number within none in
    record { sound = r.sound; up = r.up; count = r.count; within = r.within }
functions_hold fs text file fit (Function t n ps body ∷ xs) number within none =
    let f = function_of text file t n ps body number in
    let rest = functions_of text file xs f.number in
    let apart = none_in_both f.faults rest.faults none in
    let c = body_counted text file t ps body number in
    let r = functions_hold fs text file fit xs f.number within.1 apart.1 in
    let m = body_of text file t ps body number in
    let own = funclets (checked.statements m.done) in
    let placed = funclets (place_statements (layout_in m) (checked.statements m.done)) in
    let kept : placed ≡ own = same_funclets (layout_in m) (checked.statements m.done) in
    let many : length placed ≡ length own = ap length kept in
    let bound = length-append (funclets_of_all text body) (limits.funclets_in text xs) in
    let all = length-append placed (all_funclets rest.done) in
    record {
      sound = and_true (function_holds fs text file t n ps body number within.0 fit apart.0)
          r.sound;
      up = subst (λ w. count_up number (w ++ all_funclets rest.done) ≡ true) (sym kept)
          (count_up_append number own (all_funclets rest.done) c.up
          (subst (λ k. count_up k (all_funclets rest.done) ≡ true) c.number r.up));
      count = ap suc r.count;
      within = omega (arith, c.within, r.within, bound, all, many);
    }

-- ---- calls

get_at : (front : List checked_program.Function) (f : checked_program.Function)
    (rest : List checked_program.Function) → slice_get (front ++ f ∷ rest) (length front) ≡ Some f
get_at [] f rest = refl
get_at (g ∷ front) f rest = get_at front f rest

functions_from : (text : List ℕ) (file : Scope) (xs : List ExternalDeclaration) (number : ℕ)
    (front : List checked_program.Function) → FunctionsFrom
    (front ++ (functions_of text file xs number).done) (length front) xs
functions_from text file [] number front = tt
functions_from text file (Globals base gs ∷ xs) number front = functions_from text file xs number
    front
functions_from text file (Function t n ps body ∷ xs) number front =
    let f = checked_function text file t n ps body number in
    let after = (function_of text file t n ps body number).number in
    let rest = (functions_of text file xs after).done in
    let more = functions_from text file xs after (front ++ f ∷ []) in (
      record {
        function = f;
        there = get_at front f rest;
        takes = parameter_types_sizes ps;
        gives = refl;
      },
      subst (λ k. FunctionsFrom (front ++ f ∷ rest) k xs) (length_push front f)
          (subst (λ fs. FunctionsFrom fs (length (front ++ f ∷ [])) xs)
          (append_assoc front (f ∷ []) rest) more),
    )

-- ---- main

main_takes : (ps : List CType) → are_main_parameters ps ≡ true
    → (are_sizes [] (some_sizes (map size_of ps))
    || are_sizes (sizes.Long ∷ []) (some_sizes (map size_of ps))) ≡ true
main_takes [] h = refl
main_takes (t ∷ []) h = ap (λ u. are_sizes [] (some_sizes (map size_of (u ∷ [])))
    || are_sizes (sizes.Long ∷ []) (some_sizes (map size_of (u ∷ []))))
    (same_type_is t (plain LongLong) h)
main_takes (t ∷ u ∷ ps) h = absurd (cc)

main_holds : (fs : List checked_program.Function) (zs : List Size) (layout : Layout)
    (xs : List ExternalDeclaration) (e : Option Entity) → MeaningFits fs zs layout e
    → (main_of xs e).faults ≡ []
    → main_sound (slice_get fs (main_of xs e).number) ≡ true
main_holds fs zs layout xs (Some (UserFunction k t ps)) fit none =
    let h = and_parts (same_type t int) (are_main_parameters ps)
    (holds (same_type t int && are_main_parameters ps) (place_of_function xs k) TypeClash none) in
    let f = fit.function in
    let takes = ap (λ w. are_sizes [] (some_sizes w) || are_sizes (sizes.Long ∷ []) (some_sizes w))
    fit.takes ∙ main_takes ps h.1 in
    let gives = ap (is_size sizes.Int) (fit.gives ∙ ap result_size (same_type_is t int h.0)) in
    ap main_sound fit.there ∙ and_true takes gives
main_holds fs zs layout xs other fit none = absurd (cc)

-- ---- programs

pub accepted_is_sound : AcceptedIsSound
accepted_is_sound text xs within none =
    let file = file_of text xs empty_file in
    let functions = functions_of text file.scope xs 1 in
    let fs = functions.done in
    let main = main_of xs (meaning_in file.scope main_name) in
    let apart = none_in_both (main.faults ++ file.faults) functions.faults none in
    let first = none_in_both main.faults file.faults apart.0 in
    let bytes = file_length text xs empty_file first.1 in
    let most_bytes = within.bytes (omega arith) in
    let few : length file.bytes ≤ 1048576 = omega (arith, bytes, most_bytes) in
    let fit : (zs : List Size) (layout : Layout) → ScopeFits fs zs layout file.scope =
    λ zs layout. file_fits fs zs layout text xs empty_file first.1 few
    (functions_from text file.scope xs 1 []) tt in
    let r = functions_hold fs text file.scope fit xs 1 within.each apart.1 in
    let nowhere : Layout = record { base = 0; places = []; size = 0; needed = false } in
    let main_fits = main_holds fs [] nowhere xs (meaning_in file.scope main_name)
    (meaning_fits fs [] nowhere file.scope (fit [] nowhere) main_name) first.0 in
    let most_functions = within.functions (omega arith) in
    let many : length fs ≤ 4096 = omega (arith, r.count, most_functions) in
    let most_numbered = within.numbered (omega arith) in
    let numbered : length (all_funclets fs) ≤ 16384 = omega (arith, r.within, most_numbered) in
    and_true
    (and_true (and_true (and_true (and_true r.sound main_fits) r.up) (le-leb (length fs) 4096 many))
    (le-leb (length (all_funclets fs)) 16384 numbered))
    (le-leb (length file.bytes) 1048576 few)

-- the same of a program that is seen as what the text is resolved to
pub seen_is_sound : (text : List ℕ) (xs : List ExternalDeclaration) (p : checked_program.Program)
    → Within text xs → Accepted text xs → p ≡ (resolve text xs).program → IsSound p
seen_is_sound text xs p within none e = subst IsSound (sym e)
    (accepted_is_sound text xs within none)
