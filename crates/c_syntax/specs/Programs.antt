-- The grammar of programs, one case for each production (C11, 6.9 and annex A.2.2 and A.2.4).
--
-- The main definition: `ParsesAs`.
use Rattle.std.specs.Prelude.{◌≡◌, ◌⊎◌, ℕ, Bool, true, false, List, [], ◌∷◌, Option, Some, None}
use Rattle.c_lex.specs.declared.keyword.Keyword.TheVariants as keywords
use Rattle.c_lex.specs.declared.punctuator.Punctuator.TheVariants as punctuators
use Rattle.c_lex.specs.declared.token.Token.{Token}
use Rattle.c_lex.specs.Text.{IsTokens}
use Rattle.c_syntax.specs.declared.declaration.Constant.{Constant}
use Rattle.c_syntax.specs.declared.declaration.Parameter.{Parameter}
use Rattle.c_syntax.specs.declared.expression.CType.{CType}
use Rattle.c_syntax.specs.declared.expression.Identifier.{Identifier}
use Rattle.c_syntax.specs.declared.expression.Literal.{Literal}
use Rattle.c_syntax.specs.Expressions.{literal_kind}
use Rattle.c_syntax.specs.Phrases.{InTurn, AreMore, AreSeparated}
use Rattle.c_syntax.specs.Program.{Initialiser, Single, Several, Global, ExternalDeclaration}
use Rattle.c_syntax.specs.Program.{Globals, Function}
use Rattle.c_syntax.specs.Statement.{Statements}
use Rattle.c_syntax.specs.Statements.{IsLength, IsBlock, AreBlockItems}
use Rattle.c_syntax.specs.Tokens.{Phrase, IsKind, IsPunctuator, IsIdentifier, HasPunctuator}
use Rattle.c_syntax.specs.Tokens.{HasKeyword}
use Rattle.c_syntax.specs.Types.{IsBase, AreStars, IsType}

-- ---- globals

pub record IsNegative (at : ℕ) (l : Literal) (ts rest : List Token) : Type 0 where
  pub after_minus : List Token
  pub place : ℕ
  pub minus : IsPunctuator punctuators.Minus at ts after_minus
  pub literal : IsKind (literal_kind l) place after_minus rest

-- a literal, or `-` and a literal
abbrev pub IsLiteral : Bool → ℕ → Literal → Phrase
IsLiteral false at literal = IsKind (literal_kind literal) at
IsLiteral true at literal = IsNegative at literal

abbrev pub IsConstant : Constant → Phrase
IsConstant c = IsLiteral c.negative c.at c.literal

-- further constants, and the brace
abbrev pub AreMoreConstants : List Constant → Phrase
AreMoreConstants = AreMore IsConstant punctuators.CloseBrace

abbrev pub AreConstants : List Constant → Phrase
AreConstants = AreSeparated IsConstant punctuators.CloseBrace

pub record IsInitialiserList (at : ℕ) (cs : List Constant) (ts rest : List Token) : Type 0 where
  pub after_assign : List Token
  pub after_brace : List Token
  pub assign : HasPunctuator punctuators.Assign ts after_assign
  pub brace : IsPunctuator punctuators.OpenBrace at after_assign after_brace
  pub constants : AreConstants cs after_brace rest

abbrev pub IsInitialiser : Option Initialiser → Phrase
IsInitialiser None ts rest = ts ≡ rest
IsInitialiser (Some (Single c)) ts rest =
    InTurn (HasPunctuator punctuators.Assign) (IsConstant c) ts rest
IsInitialiser (Some (Several at cs)) ts rest = IsInitialiserList at cs ts rest

pub record IsGlobal (g : Global) (ts rest : List Token) : Type 0 where
  pub after_stars : List Token
  pub after_name : List Token
  pub after_length : List Token
  pub stars : AreStars g.pointers ts after_stars
  pub name : IsIdentifier g.name after_stars after_name
  pub length : IsLength g.length after_name after_length
  pub initialiser : IsInitialiser g.initialiser after_length rest

-- further globals, and the semicolon
abbrev pub AreMoreGlobals : List Global → Phrase
AreMoreGlobals = AreMore IsGlobal punctuators.Semicolon

abbrev pub AreGlobals : List Global → Phrase
AreGlobals = AreSeparated IsGlobal punctuators.Semicolon

-- ---- functions

abbrev pub IsParameter : Parameter → Phrase
IsParameter p = InTurn (IsType p.«of») (IsIdentifier p.name)

-- further parameters, and the parenthesis
abbrev pub AreMoreParameters : List Parameter → Phrase
AreMoreParameters = AreMore IsParameter punctuators.CloseParenthesis

-- no parameters are written as nothing or as `void`
abbrev pub AreParameters : List Parameter → Phrase
AreParameters [] ts rest =
    HasPunctuator punctuators.CloseParenthesis ts rest
    ⊎ InTurn (HasKeyword keywords.Void) (HasPunctuator punctuators.CloseParenthesis) ts rest
AreParameters (p ∷ ps) ts rest =
    AreSeparated IsParameter punctuators.CloseParenthesis (p ∷ ps) ts rest

pub record IsFunction (text : List ℕ) (type : CType) (identifier : Identifier)
    (ps : List Parameter) (items : Statements) (ts rest : List Token) : Type 0 where
  pub after_type : List Token
  pub after_name : List Token
  pub after_parenthesis : List Token
  pub after_parameters : List Token
  pub returns : IsType type ts after_type
  pub name : IsIdentifier identifier after_type after_name
  pub parenthesis : HasPunctuator punctuators.OpenParenthesis after_name after_parenthesis
  pub parameters : AreParameters ps after_parenthesis after_parameters
  pub body : IsBlock (AreBlockItems text items) after_parameters rest

-- ---- programs

abbrev pub IsExternalDeclaration : List ℕ → ExternalDeclaration → Phrase
IsExternalDeclaration text (Globals base gs) = InTurn (IsBase base) (AreGlobals gs)
IsExternalDeclaration text (Function returns name ps body) = IsFunction text returns name ps body

-- all tokens are the program
abbrev pub IsProgram : List ℕ → List ExternalDeclaration → List Token → Type 0
IsProgram text [] ts = ts ≡ []
IsProgram text (x ∷ xs) ts =
    (mid : List Token) × IsExternalDeclaration text x ts mid × IsProgram text xs mid

-- there are tokens which are those of the text, and all of them are the program; `OneProgram` says
-- that there is one at most
abbrev pub ParsesAs : List ℕ → List ExternalDeclaration → Type 0
ParsesAs text xs = (ts : List Token) × IsTokens text ts × IsProgram text xs ts

-- A text is one program at most.
abbrev pub OneProgram : Type 0
OneProgram =
    (text : List ℕ) (xs ys : List ExternalDeclaration)
    → ParsesAs text xs → ParsesAs text ys → xs ≡ ys
