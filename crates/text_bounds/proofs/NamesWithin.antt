-- The names of the functions of a text take no more bytes than the text.
use Rattle.std.proofs.Common.{◌≡◌, ℕ, ◌+◌, ◌-◌, ◌*◌, ◌≤◌, List, [], ◌∷◌, ◌++◌, length, drop, map, subst, arith}
use Rattle.std.proofs.lemmas.List.{length-take}
use Rattle.c_lex.specs.declared.punctuator.Punctuator.TheVariants as punctuators
use Rattle.c_lex.specs.declared.token.Token.{Token}
use Rattle.c_lex.specs.Laws.{Rises}
use Rattle.c_syntax.specs.Program.{ExternalDeclaration, Globals, Function}
use Rattle.c_syntax.specs.Programs.{IsProgram, IsFunction}
use Rattle.c_syntax.specs.declared.declaration.Parameter.{Parameter}
use Rattle.c_syntax.specs.declared.expression.CType.{CType}
use Rattle.c_syntax.specs.declared.expression.Identifier.{Identifier}
use Rattle.c_syntax.specs.Statement.{Statements}
use Rattle.c_syntax.proofs.Moves.{both, has_punctuator, type}
use Rattle.c_syntax.proofs.MovesPrograms.{external_declaration, parameters}
use Rattle.c_syntax.proofs.MovesStatements as statements
use Rattle.c_resolved.specs.Scopes.{Scope, spelled}
use Rattle.text_bounds.specs.Words.{lowered_function, function_of, functions_of, names_room, name_bytes}

-- ---- tokens

-- those after some of them begin no earlier
record RisesAfter (at : ℕ) (rest : List Token) (end : ℕ) : Type 0 where
  from : ℕ
  later : at ≤ from
  rises : Rises from rest end

after : (front rest : List Token) (at end : ℕ) → Rises at (front ++ rest) end
    → RisesAfter at rest end
after [] rest at end r = record { from = at; later = omega arith; rises = r }
after (t ∷ front) rest at end (a, b, r) =
    let more = after front rest t.end end r in
    let later = more.later in
    record { from = more.from; later = omega arith; rises = more.rises }

-- where they are split
past : (ts front rest : List Token) (at end : ℕ) → ts ≡ front ++ rest → Rises at ts end
    → RisesAfter at rest end
past ts front rest at end split r =
    after front rest at end (subst (λ (us : List Token). Rises at us end) split r)

-- ---- the names in a text

function_within : (text : List ℕ) (t : CType) (n : Identifier) (ps : List Parameter)
    (body : Statements) (ts mid : List Token) (at end : ℕ) → IsFunction text t n ps body ts mid
    → Rises at ts end → RisesAfter (at + (n.end - n.start)) mid end
function_within text t n ps body ts mid at end h r =
    let before = type t text ts h.after_type h.returns in
    let begins = past ts before.front h.after_type at end before.split r in
    let named = subst (λ (us : List Token). Rises begins.from us end) h.name begins.rises in
    let rest =
    both (has_punctuator punctuators.OpenParenthesis text h.after_name h.after_parenthesis
    h.parenthesis)
    (both (parameters ps text h.after_parenthesis h.after_parameters h.parameters)
    (statements.block text h.after_parameters mid h.body
    (statements.items body text h.body.after_brace mid h.body.items))) in
    let ends = past h.after_name rest.front mid n.end end rest.split named.2 in
    let first = begins.later in
    let start = named.0 in
    let some = named.1 in
    let last = ends.later in
    record { from = ends.from; later = omega arith; rises = ends.rises }

pub names_within : (text : List ℕ) (xs : List ExternalDeclaration) (ts : List Token) (at end : ℕ)
    → IsProgram text xs ts → Rises at ts end → at + name_bytes xs ≤ end
names_within text [] ts at end h r =
    let e = subst (λ (us : List Token). Rises at us end) h r in omega arith
names_within text (Globals b gs ∷ xs) ts at end h r =
    let m = external_declaration (Globals b gs) text ts h.0 h.1 in
    let next = past ts m.front h.0 at end m.split r in
    let later = next.later in
    let more = names_within text xs h.0 next.from end h.2 next.rises in
    omega arith
names_within text (Function t n ps body ∷ xs) ts at end h r =
    let next = function_within text t n ps body ts h.0 at end h.1 r in
    let later = next.later in
    let more = names_within text xs h.0 next.from end h.2 next.rises in
    omega arith

-- ---- the names of its functions

spelled_short : (text : List ℕ) (n : Identifier) → length (spelled text n) ≤ n.end - n.start
spelled_short text n = let l = length-take (n.end - n.start) (drop n.start text) in omega arith

pub functions_named : (text : List ℕ) (file : Scope) (xs : List ExternalDeclaration) (number : ℕ)
    → names_room (map lowered_function (functions_of text file xs number).done)
    ≤ 17 * length (functions_of text file xs number).done + name_bytes xs
functions_named text file [] number = omega arith
functions_named text file (Globals base gs ∷ xs) number = functions_named text file xs number
functions_named text file (Function t n ps body ∷ xs) number =
    let f = function_of text file t n ps body number in
    let more = functions_named text file xs f.number in
    let short = spelled_short text n in
    omega arith
