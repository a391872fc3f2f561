-- A function's part of the data stack counts at most 17 in the depth, and 1 for each 256 of its
-- locals.
use Rattle.std.proofs.Common.{ℕ, ◌+◌, ◌/◌, ◌≤◌, Bool, true, false, List, [], ◌∷◌, ◌++◌, length, map, drop, take, replicate, Some, None, arith, length-append}
use Rattle.std.specs.Prelude.{if◌then◌else◌}
use Rattle.std.specs.List.{AllByRecursion}
use Rattle.std.proofs.lemmas.List.{length-map, length-drop}
use Rattle.c_checked.specs.Program.{DataFrame, data_size, data_surplus}
use Rattle.c_checked.specs.Program as checked_program
use Rattle.c_checked.specs.Statement as checked
use Rattle.c_syntax.specs.Limits.{Within, every_limit, FunctionWithinFirst, EachWithinFirst, locals_of_all}
use Rattle.c_syntax.specs.Program.{Function}
use Rattle.c_syntax.specs.declared.declaration.Parameter.{Parameter}
use Rattle.c_syntax.specs.declared.expression.Identifier.{Identifier}
use Rattle.c_resolved.specs.Addresses.{mark_statements}
use Rattle.c_resolved.specs.Layout.{stacked_parameters}
use Rattle.c_resolved.proofs.ArrayBytes.{parameters_room, statements_hold}
use Rattle.c_resolved.proofs.Numbers.{statements_counted}
use Rattle.c_resolved.proofs.Places.{end_near}
use Rattle.text_bounds.specs.Words.{ExternalDeclaration, Globals, Statements, CType, size_of, file_of, empty_file, with_parameters, around, function_of, functions_of, resolve, Scope, Numbering, resolve_statements, parameter_variable, Layout, layout_of, base_local}

abbrev pub HasLightData : checked_program.Function → Type 0
HasLightData f = data_surplus f ≤ 17 + length f.locals / 256

size_if : (parameters : ℕ) (l : Layout) (b : Bool)
    → data_size (if b then Some (record {
      base = l.base;
      size = l.size;
      parameters = stacked_parameters 0 (take parameters l.places);
    }) else None) ≤ l.size
size_if parameters l true = omega arith
size_if parameters l false = omega arith

function_data : (text : List ℕ) (file : Scope) (t : CType) (ps : List Parameter)
    (body : Statements) (number : ℕ) → FunctionWithinFirst every_limit ps body
    → (name : Identifier)
    → AllByRecursion HasLightData (function_of text file t name ps body number).done
function_data text file t ps body number within name =
    let sizes = map (λ p. size_of p.of) ps in
    let n : Numbering = record {
      sizes = sizes;
      variables = map parameter_variable ps;
      number = number;
    } in
    let block = with_parameters text ps [] 0 in
    let m = resolve_statements body (around text file t) block n in
    let vs = m.counts.variables in
    let draft = checked.statements m.done in
    let l = layout_of vs draft in
    let own = drop (length ps) m.counts.sizes in
    let held = statements_hold body (around text file t) block n 0 in
    let begun = parameters_room ps in
    let ends = end_near vs (mark_statements draft (replicate (length vs) false)) 0 in
    let counted = (statements_counted body (around text file t) block n).sizes in
    let few = within.parameters (omega arith) in
    let arrays = within.arrays (omega arith) in
    let size = size_if (length ps) l l.needed in
    let locals : length own ≤ length (own ++ base_local l) =
    omega (arith, length-append own (base_local l)) in
    let declared : locals_of_all body ≤ length own = omega (
      arith,
      counted,
      length-map ps (λ (p : Parameter). size_of p.of),
      length-drop (length ps) m.counts.sizes,
    ) in
    (omega (arith, held, begun, ends, few, arrays, size, locals, declared), tt)

-- ---- programs

functions_data : (text : List ℕ) (file : Scope) (xs : List ExternalDeclaration) (number : ℕ)
    → EachWithinFirst every_limit xs
    → AllByRecursion HasLightData (functions_of text file xs number).done
functions_data text file [] number within = tt
functions_data text file (Globals base gs ∷ xs) number within =
    functions_data text file xs number within
functions_data text file (Function t n ps body ∷ xs) number within = (
  (function_data text file t ps body number within.0 n).0,
  functions_data text file xs (function_of text file t n ps body number).number within.1,
)

pub resolved_data : (text : List ℕ) (xs : List ExternalDeclaration) → Within text xs
    → AllByRecursion HasLightData (resolve text xs).program.functions
resolved_data text xs within =
    functions_data text (file_of text xs empty_file).scope xs 1 within.each
