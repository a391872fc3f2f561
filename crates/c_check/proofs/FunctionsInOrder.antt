-- Functions, one after another.
use Rattle.std.proofs.Common.{◌≡◌, ℕ, ◌+◌, ◌<◌, List, [], ◌∷◌, ◌++◌, map, length, drop, get_or, append-nil, append_assoc, Option, refl, sym, ap, ◌∙◌, subst}
use Rattle.std.proofs.lemmas.List.{map-append}
use Rattle.c_checked.proofs.Items.{next_of}
use Rattle.c_check.specs.Words.{SymbolTable, names_around, scopes_of, with_block, opened, closed, Progress, sizes_of, function, least_of, kept, FaultAt, with_parameters, parameter_faults, result_size, around, function_of, functions_of, Scope, spelled, Numbering, resolve_statements, Parameter, CType, Identifier, ExternalDeclaration, Globals, Function, external_declaration, variables_of}
use Rattle.c_check.specs.Functions.{AddsFunctions}
use Rattle.c_checked.specs.declared.function.Function.{Function as Function'}
use Rattle.c_checked.specs.Program as checked_program
use Rattle.c_checked.specs.Statement as checked
use Rattle.c_check.proofs.Lemmas.{kept_append, kept_more}
use Rattle.c_resolved.specs.Program as definitions
use Rattle.c_resolved.specs.Layout.{layout_of, base_local, data_frame_of}
use Rattle.c_resolved.specs.Placed.{place_statements}
use Rattle.c_locals.specs.declared.environment.FunctionState.{FunctionState}
use Rattle.c_locals.specs.WalkResults.{Resolves}
use Rattle.c_locals.specs.Views.{numbering}
use Rattle.c_syntax.specs.declared.declaration.ExternalDeclaration.{ExternalDeclaration as ExternalDeclaration'}
use Rattle.c_syntax.specs.Statement.{Statements}

-- ---- a function

-- what these numbers and statements are as a function
abbrev pub placed_function : List ℕ → List Parameter → CType → Numbering → List checked.Statement
    → checked_program.Function
placed_function name ps t counts done =
    let layout = layout_of counts.variables (checked.statements done) in
    record {
      name = name;
      parameters = sizes_of ps;
      locals = drop (length ps) counts.sizes ++ base_local layout;
      data_frame = data_frame_of (length ps) layout;
      returns = result_size t;
      body = place_statements layout (checked.statements done);
    }

-- what is made of a function's parts, with the walk over its body
function_added : (before after : Progress) (text : List ℕ) (file : Scope) (t : CType)
    (n : Identifier) (ps : List Parameter) (body : Statements) (block : Scope)
    (was names : SymbolTable) (state state' : FunctionState) (done : List checked.Statement)
    (made : Function')
    → block ≡ with_parameters text ps [] 0 → state.sizes.items ≡ sizes_of ps
    → state.variables.items ≡ variables_of ps
    → state.number ≡ before.number → least_of state.faults
    ≡ kept (least_of before.faults) (parameter_faults text ps [])
    → Resolves was names state state' done (resolve_statements body (around text file t) block
    (numbering state))
    → function made ≡ placed_function (spelled text n) ps t (numbering state') done
    → after.done.items ≡ before.done.items ++ made ∷ [] → after.number ≡ state'.number
    → after.faults ≡ state'.faults
    → AddsFunctions before after (function_of text file t n ps body before.number)
function_added before after text file t n ps body block was names state state' done made is sizes
    variables number parameters resolves is_made pushed next faults =
    let start : Numbering = record {
      sizes = sizes_of ps;
      variables = variables_of ps;
      number = before.number;
    } in
    let begun : numbering state ≡ start = λ i. record {
      sizes = sizes i;
      variables = variables i;
      number = number i;
    } in
    let m = resolve_statements body (around text file t) (with_parameters text ps [] 0) start in
    let r : Resolves was names state state' done m =
    subst (λ b. Resolves was names state state' done
    (resolve_statements body (around text file t) b start)) is
    (subst (λ k. Resolves was names state state' done
    (resolve_statements body (around text file t) block k)) begun resolves) in
    let whole = placed_function (spelled text n) ps t m.counts m.done in
    let same : function made ≡ whole = is_made
    ∙ (λ i. placed_function (spelled text n) ps t (r.counts i) (r.done i)) in
    record {
      done = ap (map function) pushed ∙ map-append function before.done.items (made ∷ [])
          ∙ ap (λ f. map function before.done.items ++ f ∷ []) same;
      number = next ∙ ap (λ (k : Numbering). k.number) r.counts;
      faults = kept_more (least_of before.faults) (least_of state.faults) (least_of after.faults)
          (parameter_faults text ps []) m.faults parameters (ap least_of faults ∙ r.faults);
    }

-- the same where its parameters are the names of a block in the file's
pub function_inside : (before after : Progress) (text : List ℕ) (start was names : SymbolTable)
    (t : CType) (n : Identifier) (ps : List Parameter) (body : Statements)
    (state state' : FunctionState)
    (done : List checked.Statement) (made : Function')
    → was ≡ with_block (opened start) (with_parameters text ps [] 0)
    → state.sizes.items ≡ sizes_of ps → state.variables.items ≡ variables_of ps
    → state.number ≡ before.number → least_of state.faults
    ≡ kept (least_of before.faults) (parameter_faults text ps [])
    → Resolves was names state state' done (resolve_statements body
    (around text (names_around was.around) t) was.block (numbering state))
    → function made ≡ placed_function (spelled text n) ps t (numbering state') done
    → after.done.items ≡ before.done.items ++ made ∷ [] → after.number ≡ state'.number
    → after.faults ≡ state'.faults
    → AddsFunctions before after (function_of text (scopes_of start) t n ps body before.number)
function_inside before after text start was names t n ps body state state' done made begins sizes
    variables number parameters resolves is_made pushed next faults =
    function_added before after text (scopes_of start) t n ps body (with_parameters text ps [] 0)
    was names state state' done made refl sizes variables number parameters
    (subst (λ (k : SymbolTable). Resolves was names state state' done (resolve_statements body
    (around text (names_around k.around) t) k.block (numbering state))) begins resolves) is_made
    pushed next faults

-- the names after a function are those before it
pub ends_as_before : (t t1 t2 t3 t4 : SymbolTable) (b b' : Scope) → t1 ≡ opened t
    → t2 ≡ with_block t1 b → t3 ≡ with_block t2 b' → t4 ≡ closed t3 → t4 ≡ t
ends_as_before t t1 t2 t3 t4 b b' begins parameters body ends =
    ends ∙ ap closed (body ∙ ap (λ (k : SymbolTable). with_block k b') (parameters
    ∙ ap (λ (k : SymbolTable). with_block k b) begins))

-- ---- the first declaration, and the others

abbrev first_of : List ℕ → Scope → ExternalDeclaration → ℕ → definitions.DeclaredFunctions
first_of text file x number = functions_of text file (x ∷ []) number

done_parts : (text : List ℕ) (file : Scope) (x : ExternalDeclaration)
    (xs : List ExternalDeclaration) (number : ℕ)
    → (functions_of text file (x ∷ xs) number).done
    ≡ (first_of text file x number).done ++ (functions_of text file xs
    (first_of text file x number).number).done
done_parts text file (Globals base gs) xs number = refl
done_parts text file (Function t n ps body) xs number = refl

faults_parts : (text : List ℕ) (file : Scope) (x : ExternalDeclaration)
    (xs : List ExternalDeclaration) (number : ℕ)
    → (functions_of text file (x ∷ xs) number).faults
    ≡ (first_of text file x number).faults ++
    (functions_of text file xs (first_of text file x number).number).faults
faults_parts text file (Globals base gs) xs number = refl
faults_parts text file (Function t n ps body) xs number =
    let f = definitions.function_of text file t n ps body number in
    ap (λ fs. fs ++ (functions_of text file xs f.number).faults) (sym (append-nil f.faults))

-- ---- the loop over declarations

-- what the functions so far are with the others
pub record StillFunctions (text : List ℕ) (file : Scope) (list : List ExternalDeclaration') (i : ℕ)
    (first : Option FaultAt) (p : Progress) : Type 0 where
  pub done : map function p.done.items ++ (functions_of text file
      (map external_declaration (drop i list)) p.number).done
      ≡ (functions_of text file (map external_declaration list) 1).done
  pub faults : kept (least_of p.faults) (functions_of text file
      (map external_declaration (drop i list)) p.number).faults
      ≡ kept first (functions_of text file (map external_declaration list) 1).faults

pub functions_on : (text : List ℕ) (file : Scope) (list : List ExternalDeclaration') (i : ℕ)
    (x : ExternalDeclaration') (first : Option FaultAt) (p p' : Progress) → i < length list
    → x ≡ get_or list i x
    → AddsFunctions p p' (functions_of text file (external_declaration x ∷ []) p.number)
    → StillFunctions text file list i first p → StillFunctions text file list (i + 1) first p'
functions_on text file list i x first p p' lt is one h =
    let y = external_declaration x in
    let rest = map external_declaration (drop (i + 1) list) in
    let f = first_of text file y p.number in
    let others = functions_of text file rest f.number in
    let next = next_of list i x lt is in
    record {
      done =
          ap (λ k. map function p'.done.items ++ (functions_of text file rest k).done) one.number
          ∙ ap (λ l. l ++ others.done) one.done
          ∙ append_assoc (map function p.done.items) f.done others.done
          ∙ ap (λ l. map function p.done.items ++ l) (sym (done_parts text file y rest p.number))
          ∙ ap (λ l. map function p.done.items
          ++ (functions_of text file (map external_declaration l) p.number).done) (sym next)
          ∙ h.done;
      faults =
          ap (λ k. kept (least_of p'.faults) (functions_of text file rest k).faults) one.number
          ∙ ap (λ w. kept w others.faults) one.faults
          ∙ sym (kept_append (least_of p.faults) f.faults others.faults)
          ∙ ap (kept (least_of p.faults)) (sym (faults_parts text file y rest p.number))
          ∙ ap (λ l. kept (least_of p.faults) (functions_of text file (map external_declaration l)
          p.number).faults) (sym next) ∙ h.faults;
    }
