-- Each node of a global, of a function and of a program takes a token that is no other's.
use Rattle.std.proofs.Common.{◌≤◌, ◌+◌, ℕ, List, [], ◌∷◌}
use Rattle.std.proofs.Common.{length, refl, arith, inl, inr}
use Rattle.c_lex.specs.declared.keyword.Keyword.TheVariants as keywords
use Rattle.c_lex.specs.declared.punctuator.Punctuator.TheVariants as punctuators
use Rattle.c_syntax.specs.Words.{Token, Parameter, nodes_of_initialiser, nodes_of_globals, nodes_of_external_declaration, nodes_of, Global, ExternalDeclaration, Globals, Function, IsGlobal, AreGlobals, IsParameter, AreParameters, IsExternalDeclaration, IsProgram}
use Rattle.c_syntax.proofs.Nodes.{Takes, fewer, has_punctuator, has_keyword, identifier, in_turn, are_separated, base, stars, type, block, given, array_length, items}

pub global : (g : Global) → Takes (1 + nodes_of_initialiser g.initialiser) (IsGlobal g)
global g = record {
  takes = λ ts rest h.
      let a = (stars g.pointers).takes ts h.after_stars h.stars in
      let b = (identifier g.name).takes h.after_stars h.after_name h.name in
      let c = (array_length g.length).takes h.after_name h.after_length h.length in
      let d = (given g.initialiser).takes h.after_length rest h.initialiser in
      omega arith;
}

globals : (gs : List Global) → Takes (nodes_of_globals gs + 1) (AreGlobals gs)
globals gs =
    are_separated {all = nodes_of_globals} punctuators.Semicolon gs
    (record { element = global; none = refl; more = λ x xs. omega arith })

-- ---- functions

parameter : (p : Parameter) → Takes 1 (IsParameter p)
parameter p = in_turn (type p.«of») (identifier p.name)

parameters : (ps : List Parameter) → Takes (length ps) (AreParameters ps)
parameters [] = record { takes = no_parameters }
  where
    no_parameters : (ts rest : List Token) → AreParameters [] ts rest → 0 + length rest ≤ length ts
    no_parameters ts rest (inl h) = let a =
        (has_punctuator punctuators.CloseParenthesis).takes ts rest h in omega arith
    no_parameters ts rest (inr h) =
        let a = (in_turn (has_keyword keywords.Void)
        (has_punctuator punctuators.CloseParenthesis)).takes ts rest h in
        omega arith
parameters (p ∷ ps) =
    fewer (omega arith)
    (are_separated {all = λ xs. length xs} punctuators.CloseParenthesis (p ∷ ps)
    (record { element = parameter; none = refl; more = λ x xs. omega arith }))

-- ---- programs

pub external_declaration : (text : List ℕ) (x : ExternalDeclaration)
    → Takes (1 + nodes_of_external_declaration x) (IsExternalDeclaration text x)
external_declaration text (Globals b gs) = fewer (omega arith) (in_turn (base b) (globals gs))
external_declaration text (Function t name ps body) = record {
  takes = λ ts rest h.
      let a = (type t).takes ts h.after_type h.returns in
      let b = (identifier name).takes h.after_type h.after_name h.name in
      let c = (has_punctuator punctuators.OpenParenthesis).takes h.after_name h.after_parenthesis
      h.parenthesis in
      let d = (parameters ps).takes h.after_parenthesis h.after_parameters h.parameters in
      let e = (block (items text body)).takes h.after_parameters rest h.body in
      omega arith;
}

-- A program has no more nodes than tokens.
pub program : (text : List ℕ) (xs : List ExternalDeclaration) (ts : List Token)
    → IsProgram text xs ts → nodes_of xs ≤ length ts
program text [] ts h = omega arith
program text (x ∷ xs) ts h =
    let a = (external_declaration text x).takes ts h.0 h.1 in let b = program text xs h.0 h.2 in
    omega arith
