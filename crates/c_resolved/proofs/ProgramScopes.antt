-- A program that a text is resolved to names each local where it is declared.
use Rattle.std.proofs.Common.{◌≡◌, ℕ, refl, arith, sym, subst}
use Rattle.std.proofs.lemmas.Bool.{or_left, or_right, eq-eqb, lt-ltb}
use Rattle.std.proofs.lemmas.List.{length-map}
use Rattle.std.specs.Prelude.{true, List, [], ◌∷◌, length, map, None, Option, Some, nat_lt, nat_eq, ◌||◌, slice_get}
use Rattle.c_checked.specs.Statement as checked
use Rattle.c_resolved.specs.Words.{Size, Parameter, CType, ExternalDeclaration, Globals, Function, Statements, size_of, file_of, empty_file, with_parameters, around, function_of, functions_of, Scope, Numbering, resolve_statements, SeenNames, first_seen, statements_within, functions_within, Variable, Layout, Place, parameter_variable, is_placed, any_placed, only_place, place_of, layout_of, data_frame_of, hold_try, ResolvedStatements, place_statements}
use Rattle.c_resolved.proofs.Operands.{and_true}
use Rattle.c_resolved.specs.ScopeLaws.{ResolvedIsScoped}
use Rattle.c_resolved.proofs.NameScopes.{ScopeSeen, file_seen, parameters_seen}
use Rattle.c_resolved.proofs.StatementScopes.{all_resolve_within}
use Rattle.c_resolved.proofs.PlacedScopes.{SeenAt, BaseSeen, Follows, statements_follow}
use Rattle.c_resolved.proofs.Places.{place_counts, frame_if}
use Rattle.c_checked.proofs.ScopeTests.{is_parameter}
use Rattle.c_checked.specs.LocalScopes.{is_base}

abbrev parameter_sizes : List Parameter → List Size
parameter_sizes ps = map (λ p. size_of p.of) ps

abbrev parameter_variables : List Parameter → List Variable
parameter_variables ps = map parameter_variable ps

abbrev begun : List Parameter → ℕ → Numbering
begun ps number =
    record { sizes = parameter_sizes ps; variables = parameter_variables ps; number = number }

draft_within : (text : List ℕ) (file : Scope) → ((seen : SeenNames) → ScopeSeen seen file)
    → (t : CType) (ps : List Parameter) (body : Statements) (number : ℕ)
    → statements_within (first_seen (length (parameter_sizes ps)) None)
    (checked.statements (resolve_statements body (around text file t)
    (with_parameters text ps [] 0) (begun ps number)).done) ≡ true
draft_within text file known t ps body number =
    let total = length (parameter_sizes ps) in
    let same : total ≡ length ps = length-map ps (λ (p : Parameter). size_of p.of) in
    let block = parameters_seen text total ps [] 0 (omega (arith, same)) tt in
    (all_resolve_within (first_seen total None) body (around text file t)
    (with_parameters text ps [] 0)
    (begun ps number) block (known (first_seen total None))).within

-- ---- the base is seen from the beginning on

base_first : (total count : ℕ) (l : Layout) (p : Option Place) → (is_placed p ≡ true → l.needed
    ≡ true)
    → BaseSeen (first_seen total (data_frame_of count l)) l.base p
base_first total count l None h = tt
base_first total count l (Some p) h = subst
    (λ b. first_seen total (frame_if b count l) l.base ≡ true) (sym (h refl))
    (or_right (nat_lt l.base total) (nat_eq l.base l.base) (eq-eqb l.base l.base refl))

parameter_first : (total count base x : ℕ) (l : Layout) (p : Option Place)
    → BaseSeen (first_seen total (data_frame_of count l)) base p
    → first_seen total None x ≡ true
    → SeenAt (first_seen total (data_frame_of count l)) base x p
parameter_first total count base x l None g h = or_left (nat_lt x total)
    (is_base (data_frame_of count l) x) (lt-ltb x total (is_parameter total x h))
parameter_first total count base x l (Some p) g h = g

base_needed : (body : checked.Statements) (ps : List (Option Place)) (x : ℕ)
    → is_placed (only_place (slice_get ps x)) ≡ true → (any_placed ps || hold_try body) ≡ true
base_needed body ps x h = or_left (any_placed ps) (hold_try body) (place_counts ps x h)

draft_follows : (total count : ℕ) (vs : List Variable) (body : checked.Statements)
    → Follows (layout_of vs body) (first_seen total None)
    (first_seen total (data_frame_of count (layout_of vs body)))
draft_follows total count vs body =
    record {
      seen = λ x h. parameter_first total count (layout_of vs body).base x (layout_of vs body)
          (place_of (layout_of vs body) x) (base x) h;
      base = base;
    }
  where
    base : (x : ℕ) → BaseSeen (first_seen total (data_frame_of count (layout_of vs body)))
        (layout_of vs body).base (place_of (layout_of vs body) x)
    base x = base_first total count (layout_of vs body) (place_of (layout_of vs body) x)
        (base_needed body (layout_of vs body).places x)

abbrev resolved_of : List ℕ → Scope → CType → List Parameter → Statements → ℕ → ResolvedStatements
resolved_of text file t ps body number = resolve_statements body (around text file t)
    (with_parameters text ps [] 0) (begun ps number)

abbrev layout_in : ResolvedStatements → Layout
layout_in m = layout_of m.counts.variables (checked.statements m.done)

body_within : (text : List ℕ) (file : Scope) → ((seen : SeenNames) → ScopeSeen seen file)
    → (t : CType) (ps : List Parameter) (body : Statements) (number : ℕ)
    → (let m = resolved_of text file t ps body number in
    statements_within
    (first_seen (length (parameter_sizes ps)) (data_frame_of (length ps) (layout_in m)))
    (place_statements (layout_in m) (checked.statements m.done)) ≡ true)
body_within text file known t ps body number =
    let m = resolved_of text file t ps body number in
    let draft = checked.statements m.done in
    let total = length (parameter_sizes ps) in
    statements_follow (layout_in m) (first_seen total None)
    (first_seen total (data_frame_of (length ps) (layout_in m)))
    (draft_follows total (length ps) m.counts.variables draft) draft
    (draft_within text file known t ps body number)

all_within : (text : List ℕ) (file : Scope) → ((seen : SeenNames) → ScopeSeen seen file)
    → (xs : List ExternalDeclaration) (number : ℕ)
    → functions_within (functions_of text file xs number).done ≡ true
all_within text file known [] number = refl
all_within text file known (Globals base gs ∷ xs) number = all_within text file known xs number
all_within text file known (Function t n ps body ∷ xs) number =
    and_true (body_within text file known t ps body number)
    (all_within text file known xs (function_of text file t n ps body number).number)

pub resolved_is_scoped : ResolvedIsScoped
resolved_is_scoped text xs = all_within text (file_of text xs empty_file).scope
    (λ seen. file_seen seen text xs) xs 1
