-- ExternalDeclaration declarations are before any other rest too, and in any text that spells
-- their names alike; programs are joined, and moved to such a text.
use Rattle.std.proofs.Common.{◌≡◌, ℕ, Bool, true, false, List, [], ◌∷◌, ◌++◌, Option, Some, None}
use Rattle.std.proofs.Common.{refl, ap, ◌∙◌, inl, inr}
use Rattle.c_lex.specs.declared.keyword.Keyword.TheVariants as keywords
use Rattle.c_lex.specs.declared.punctuator.Punctuator.TheVariants as punctuators
use Rattle.c_syntax.specs.Words.{Token, Parameter, Literal, literal_kind, Alike, Initialiser, Single, Several, Global, ExternalDeclaration, Globals, Function, IsLiteral, IsConstant, AreConstants, IsGlobal, AreGlobals, IsParameter, AreParameters, IsExternalDeclaration}
use Rattle.c_syntax.specs.declared.declaration.Constant.{Constant}
use Rattle.c_syntax.specs.Limits as limits
use Rattle.c_syntax.specs.Programs.{IsInitialiser}
use Rattle.c_syntax.proofs.Moves.{Moves, map, both, nothing, alike_after, kind}
use Rattle.c_syntax.proofs.Moves.{punctuator, has_punctuator, has_keyword, name, base, stars, type}
use Rattle.c_syntax.proofs.MovesPhrases.{separated}
use Rattle.c_syntax.proofs.MovesStatements as statements
pub use Rattle.c_syntax.proofs.MovesStatements.{length}
pub use Rattle.c_syntax.proofs.Moves.{integer}

-- ---- globals

pub literal : (negative : Bool) (at : ℕ) (l : Literal) (text : List ℕ) (ts rest : List Token)
    → IsLiteral negative at l ts rest → Moves (λ t. IsLiteral negative at l) text ts rest
literal false at l text ts rest h = kind (literal_kind l) at text ts rest h
literal true at l text ts rest h =
    map
    (both (punctuator punctuators.Minus at text ts h.after_minus h.minus)
    (kind (literal_kind l) h.place text h.after_minus rest h.literal))
    (λ t us vs g. record { after_minus = g.0; place = h.place; minus = g.1; literal = g.2 })

pub constant : (c : Constant) (text : List ℕ) (ts rest : List Token) → IsConstant c ts rest
    → Moves (λ t. IsConstant c) text ts rest
constant c text ts rest h = literal c.negative c.at c.literal text ts rest h

pub constants : (cs : List Constant) (text : List ℕ) (ts rest : List Token)
    → AreConstants cs ts rest → Moves (λ t. AreConstants cs) text ts rest
constants cs text ts rest h = separated (λ c t. IsConstant c) punctuators.CloseBrace cs text ts rest
    constant h

pub initialiser : (i : Option Initialiser) (text : List ℕ) (ts rest : List Token)
    → IsInitialiser i ts rest → Moves (λ t. IsInitialiser i) text ts rest
initialiser None text ts rest h = nothing text ts rest h
initialiser (Some (Single c)) text ts rest h =
    map (both (has_punctuator punctuators.Assign text ts h.0 h.1) (constant c text h.0 rest h.2))
    (λ t us vs g. (g.0, g.1, g.2))
initialiser (Some (Several at cs)) text ts rest h =
    map
    (both (has_punctuator punctuators.Assign text ts h.after_assign h.assign)
    (both (punctuator punctuators.OpenBrace at text h.after_assign h.after_brace h.brace)
    (constants cs text h.after_brace rest h.constants)))
    (λ t us vs (after_assign, assign, (after_brace, brace, constants)). record {
      after_assign = after_assign;
      after_brace = after_brace;
      assign = assign;
      brace = brace;
      constants = constants;
    })

pub global : (g : Global) (text : List ℕ) (ts rest : List Token) → IsGlobal g ts rest
    → Moves (λ t. IsGlobal g) text ts rest
global v text ts rest h =
    map
    (both (stars v.pointers text ts h.after_stars h.stars)
    (both (name v.name text h.after_stars h.after_name h.name)
    (both (length v.length text h.after_name h.after_length h.length)
    (initialiser v.initialiser text h.after_length rest h.initialiser))))
    (λ t us vs (after_stars, stars, (after_name, name, (after_length, length, initialiser))).
    record {
      after_stars = after_stars;
      after_name = after_name;
      after_length = after_length;
      stars = stars;
      name = name;
      length = length;
      initialiser = initialiser;
    })

pub globals : (gs : List Global) (text : List ℕ) (ts rest : List Token) → AreGlobals gs ts rest
    → Moves (λ t. AreGlobals gs) text ts rest
globals gs text ts rest h = separated (λ g t. IsGlobal g) punctuators.Semicolon gs text ts rest
    global h

-- ---- functions

pub parameter : (p : Parameter) (text : List ℕ) (ts rest : List Token) → IsParameter p ts rest
    → Moves (λ t. IsParameter p) text ts rest
parameter p text ts rest h =
    map (both (type p.«of» text ts h.0 h.1) (name p.name text h.0 rest h.2))
    (λ t us vs g. (g.0, g.1, g.2))

pub parameters : (ps : List Parameter) (text : List ℕ) (ts rest : List Token)
    → AreParameters ps ts rest → Moves (λ t. AreParameters ps) text ts rest
parameters [] text ts rest (inl h) =
    map (has_punctuator punctuators.CloseParenthesis text ts rest h) (λ t us vs g. inl g)
parameters [] text ts rest (inr h) =
    map (both (has_keyword keywords.Void text ts h.0 h.1)
    (has_punctuator punctuators.CloseParenthesis text h.0 rest h.2))
    (λ t us vs g. inr (g.0, g.1, g.2))
parameters (p ∷ ps) text ts rest h =
    separated (λ q t. IsParameter q) punctuators.CloseParenthesis (p ∷ ps) text ts rest parameter h

-- ---- external declarations

pub external_declaration : (x : ExternalDeclaration) (text : List ℕ) (ts rest : List Token)
    → IsExternalDeclaration text x ts rest → Moves (λ t. IsExternalDeclaration t x) text ts rest
external_declaration (Globals b gs) text ts rest h =
    map (both (base b text ts h.0 h.1) (globals gs text h.0 rest h.2))
    (λ t us vs g. (g.0, g.1, g.2))
external_declaration (Function returns n ps body) text ts rest h =
    map
    (both (type returns text ts h.after_type h.returns)
    (both (name n text h.after_type h.after_name h.name)
    (both (has_punctuator punctuators.OpenParenthesis text h.after_name h.after_parenthesis
    h.parenthesis)
    (both (parameters ps text h.after_parenthesis h.after_parameters h.parameters)
    (statements.block text h.after_parameters rest h.body
    (statements.items body text h.body.after_brace rest h.body.items))))))
    (λ t us vs (
      after_type,
      returns,
      (after_name, name, (after_parenthesis, parenthesis, (after_parameters, parameters, body))),
    ).
    record {
      after_type = after_type;
      after_name = after_name;
      after_parenthesis = after_parenthesis;
      after_parameters = after_parameters;
      returns = returns;
      name = name;
      parenthesis = parenthesis;
      parameters = parameters;
      body = body;
    })

pub funclets_before : (x : ExternalDeclaration) (xs : List ExternalDeclaration)
    (text text' : List ℕ) (ts rest : List Token) → IsExternalDeclaration text x ts rest
    → Alike text text' ts → limits.funclets_in text' xs ≡ limits.funclets_in text xs
    → limits.funclets_in text' (x ∷ xs) ≡ limits.funclets_in text (x ∷ xs)
funclets_before (Globals b gs) xs text text' ts rest h a e = e
funclets_before (Function returns n ps body) xs text text' ts rest h a e =
    let b = alike_after text' (type returns text ts h.after_type h.returns) a in
    let c = alike_after text' (name n text h.after_type h.after_name h.name) b in
    let d = alike_after text'
    (has_punctuator punctuators.OpenParenthesis text h.after_name h.after_parenthesis
    h.parenthesis) c in
    let f = alike_after text'
    (parameters ps text h.after_parenthesis h.after_parameters h.parameters) d in
    let g = alike_after text'
    (has_punctuator punctuators.OpenBrace text h.after_parameters h.body.after_brace
    h.body.brace) f in
    ap (λ z. z ++ limits.funclets_in text' xs)
    (statements.funclets_of_all body text text' h.body.after_brace rest h.body.items g)
    ∙ ap (λ z. limits.funclets_of_all text body ++ z) e

pub funclets_in : (x : ExternalDeclaration) (text text' : List ℕ) (ts rest : List Token)
    → IsExternalDeclaration text x ts rest → Alike text text' ts
    → limits.funclets_in text' (x ∷ []) ≡ limits.funclets_in text (x ∷ [])
funclets_in x text text' ts rest h a = funclets_before x [] text text' ts rest h a refl

-- ---- programs
