-- The grammar of expressions, one case for each production (C11, 6.5 and annex A.2.1). An
-- expression takes the tokens up to a rest. Identifiers are read from the text. primary := literal
-- | NAME | NAME '(' [assignment {',' assignment}] ')' | '(' comma ')' | information postfix :=
-- primary | postfix '[' comma ']' | postfix '++' | postfix '--' unary := postfix | '++' unary |
-- '--' unary | operator cast cast := unary | '(' type ')' cast each binary level, the tightest
-- first := the level below it | it operator (the level below it) conditional := logical-or |
-- logical-or '?' comma ':' conditional assignment := conditional | unary punctuator assignment
-- comma := assignment | comma ',' assignment
--
-- The main definition: `SpellsExpression`.
use Rattle.std.specs.Prelude.{◌≤◌, ◌<◌, ℕ, List, codes}
use Rattle.c_lex.specs.declared.keyword.Keyword.TheVariants as keywords
use Rattle.c_lex.specs.declared.punctuator.Punctuator.TheVariants as punctuators
use Rattle.c_lex.specs.declared.token.IntegerType.{IntegerType}
use Rattle.c_lex.specs.declared.token.Kind.{Kind}
use Rattle.c_lex.specs.declared.token.Kind.TheVariants as kinds
use Rattle.c_lex.specs.declared.token.Token.{Token}
use Rattle.c_syntax.specs.declared.expression.Field.{Field}
use Rattle.c_syntax.specs.declared.expression.Field.TheVariants as fields
use Rattle.c_syntax.specs.declared.expression.Identifier.{Identifier}
use Rattle.c_syntax.specs.declared.expression.Literal.{Literal}
use Rattle.c_syntax.specs.declared.expression.Literal.TheVariants as literals
use Rattle.c_syntax.specs.Expression.{Expression, Constant, Variable, Information, Call}
use Rattle.c_syntax.specs.Expression.{Parentheses, Index, Postfix, Prefix, Unary, Cast, Binary}
use Rattle.c_syntax.specs.Expression.{Conditional, Assign, Comma, Arguments, Done, Next}
use Rattle.c_syntax.specs.Operators.{primary, postfix, unary, cast, logical_or, conditional}
use Rattle.c_syntax.specs.Operators.{assignment, comma, level, binary_punctuator, unary_punctuator}
use Rattle.c_syntax.specs.Operators.{increment_punctuator, assignment_punctuator}
use Rattle.c_syntax.specs.Phrases.{IsEnclosed, IsAnother}
use Rattle.c_syntax.specs.Tokens.{Phrase, IsKind, IsPunctuator, IsKeyword, IsIdentifier}
use Rattle.c_syntax.specs.Tokens.{HasPunctuator, HasWord}
use Rattle.c_syntax.specs.Types.{IsType}

-- the level of the production at the top
abbrev pub rank : Expression → ℕ
rank (Constant at literal) = primary
rank (Variable name) = primary
rank (Information at field) = primary
rank (Call name es) = primary
rank (Parentheses at e) = primary
rank (Index a at i) = postfix
rank (Postfix e op at) = postfix
rank (Prefix at op e) = unary
rank (Unary at op e) = unary
rank (Cast at to e) = cast
rank (Binary a at op b) = level op
rank (Conditional c at a b) = conditional
rank (Assign a at op b) = assignment
rank (Comma a at b) = comma

abbrev pub literal_kind : Literal → Kind
literal_kind (literals.Integer value type) = kinds.Integer value type
literal_kind (literals.CharacterConstant value) = kinds.CharacterConstant value

-- an integer literal of any type
abbrev pub IsInteger : ℕ → ℕ → Phrase
IsInteger value at ts rest = (type : IntegerType) × IsKind (kinds.Integer value type) at ts rest

-- ---- forms of productions, by the phrases that are their parts

-- an expression of a level or a tighter one
pub record OfLevel (l : ℕ) (e : Expression) (Spelled : Phrase) (ts rest : List Token) : Type 0 where
  pub fits : rank e ≤ l
  pub spells : Spelled ts rest

-- an expression that is tighter than a level
pub record TighterThan (l : ℕ) (e : Expression) (Spelled : Phrase) (ts rest : List Token)
    : Type 0 where
  pub fits : rank e < l
  pub spells : Spelled ts rest

-- an operator and the operand after it
pub record IsApplied (Operator Operand : Phrase) (ts rest : List Token) : Type 0 where
  pub after_operator : List Token
  pub operator : Operator ts after_operator
  pub operand : Operand after_operator rest

-- an operand and the step after it: an operator, with the operand after that if it has one
pub record IsContinued (Operand Step : Phrase) (ts rest : List Token) : Type 0 where
  pub after_operand : List Token
  pub operand : Operand ts after_operand
  pub step : Step after_operand rest

-- ---- the exception's record

-- GetExceptionInformation()->ExceptionRecord->
pub record IsIntroduced (text : List ℕ) (at : ℕ) (ts rest : List Token) : Type 0 where
  pub after_keyword : List Token
  pub after_opening : List Token
  pub after_closing : List Token
  pub after_arrow : List Token
  pub after_record : List Token
  pub keyword : IsKeyword keywords.GetExceptionInformation at ts after_keyword
  pub opening : HasPunctuator punctuators.OpenParenthesis after_keyword after_opening
  pub closing : HasPunctuator punctuators.CloseParenthesis after_opening after_closing
  pub arrow : HasPunctuator punctuators.Arrow after_closing after_arrow
  pub of_record : HasWord text (codes "ExceptionRecord") after_arrow after_record
  pub last_arrow : HasPunctuator punctuators.Arrow after_record rest

-- ExceptionInformation[index]
pub record IsElement (text : List ℕ) (n at : ℕ) (ts rest : List Token) : Type 0 where
  pub after_word : List Token
  pub after_opening : List Token
  pub after_index : List Token
  pub word : HasWord text (codes "ExceptionInformation") ts after_word
  pub opening : HasPunctuator punctuators.OpenBracket after_word after_opening
  pub index : IsInteger n at after_opening after_index
  pub closing : HasPunctuator punctuators.CloseBracket after_index rest

abbrev pub IsField : List ℕ → Field → Phrase
IsField text fields.Code = HasWord text (codes "ExceptionCode")
IsField text fields.Flags = HasWord text (codes "ExceptionFlags")
IsField text fields.Count = HasWord text (codes "NumberParameters")
IsField text (fields.Information n at) = IsElement text n at

pub record IsInformation (text : List ℕ) (at : ℕ) (f : Field) (ts rest : List Token) : Type 0 where
  pub after_introduction : List Token
  pub introduction : IsIntroduced text at ts after_introduction
  pub field : IsField text f after_introduction rest

-- ---- calls

-- a name, and arguments with the parentheses around them
pub record IsCall (name : Identifier) (Arguing : Phrase) (ts rest : List Token) : Type 0 where
  pub after_name : List Token
  pub after_opening : List Token
  pub called : IsIdentifier name ts after_name
  pub opening : HasPunctuator punctuators.OpenParenthesis after_name after_opening
  pub arguments : Arguing after_opening rest

-- an argument and the others
pub record AreArguments (First Others : Phrase) (ts rest : List Token) : Type 0 where
  pub after_first : List Token
  pub first : First ts after_first
  pub others : Others after_first rest

-- ---- the productions

-- The tokens before the rest spell the expression; each operand is of the level that the production
-- asks.
abbrev mutual
  -- the tokens up to a rest are this expression, a case for each production (C11, annex A.2.1);
  -- each operand's rank is at most what the production asks. The forms that productions share have
  -- named parts: `IsContinued` is an operand and the step after it, and `IsApplied` an operator and
  -- the operand after it. `IsEnclosed` is a phrase after what opens it, up to the punctuator that
  -- closes it, as the operators of a cast and of `?:`. `rank` is the level of the production at the
  -- top, from `primary` for a name to `comma` (`c_syntax::level`), and `Derives` at a level has a
  -- rank of at most that.
  pub SpellsExpression : List ℕ → Expression → Phrase
  SpellsExpression text (Constant at literal) = IsKind (literal_kind literal) at
  SpellsExpression text (Variable name) = IsIdentifier name
  SpellsExpression text (Information at field) = IsInformation text at field
  SpellsExpression text (Call name es) = IsCall name (SpellsArguments text es)
  SpellsExpression text (Parentheses at e) =
      IsEnclosed (IsPunctuator punctuators.OpenParenthesis at) (SpellsExpression text e)
      punctuators.CloseParenthesis
  SpellsExpression text (Index e at i) =
      IsContinued (OfLevel postfix e (SpellsExpression text e))
      (IsEnclosed (IsPunctuator punctuators.OpenBracket at) (SpellsExpression text i)
      punctuators.CloseBracket)
  SpellsExpression text (Postfix e op at) =
      IsContinued (OfLevel postfix e (SpellsExpression text e))
      (IsPunctuator (increment_punctuator op) at)
  SpellsExpression text (Prefix at op e) =
      IsApplied (IsPunctuator (increment_punctuator op) at)
      (OfLevel unary e (SpellsExpression text e))
  SpellsExpression text (Unary at op e) =
      IsApplied (IsPunctuator (unary_punctuator op) at) (OfLevel cast e (SpellsExpression text e))
  SpellsExpression text (Cast at to e) =
      IsApplied
      (IsEnclosed (IsPunctuator punctuators.OpenParenthesis at) (IsType to)
      punctuators.CloseParenthesis)
      (OfLevel cast e (SpellsExpression text e))
  SpellsExpression text (Binary e at op f) =
      IsContinued (OfLevel (level op) e (SpellsExpression text e))
      (IsApplied (IsPunctuator (binary_punctuator op) at)
      (TighterThan (level op) f (SpellsExpression text f)))
  SpellsExpression text (Conditional e at f g) =
      IsContinued (OfLevel logical_or e (SpellsExpression text e))
      (IsApplied
      (IsEnclosed (IsPunctuator punctuators.Question at) (SpellsExpression text f)
      punctuators.Colon)
      (OfLevel conditional g (SpellsExpression text g)))
  SpellsExpression text (Assign e at op f) =
      IsContinued (OfLevel unary e (SpellsExpression text e))
      (IsApplied (IsPunctuator (assignment_punctuator op) at)
      (OfLevel assignment f (SpellsExpression text f)))
  SpellsExpression text (Comma e at f) =
      IsContinued (OfLevel comma e (SpellsExpression text e))
      (IsApplied (IsPunctuator punctuators.Comma at)
      (OfLevel assignment f (SpellsExpression text f)))

  -- arguments and the parenthesis that ends them
  pub SpellsArguments : List ℕ → Arguments → Phrase
  SpellsArguments text Done = HasPunctuator punctuators.CloseParenthesis
  SpellsArguments text (Next e es) =
      AreArguments (OfLevel assignment e (SpellsExpression text e)) (SpellsMoreArguments text es)

  pub SpellsMoreArguments : List ℕ → Arguments → Phrase
  SpellsMoreArguments text Done = HasPunctuator punctuators.CloseParenthesis
  SpellsMoreArguments text (Next e es) =
      IsAnother (OfLevel assignment e (SpellsExpression text e)) (SpellsMoreArguments text es)

-- The tokens before the rest are an expression of a level.
abbrev pub Derives : List ℕ → ℕ → Expression → Phrase
Derives text l e = OfLevel l e (SpellsExpression text e)
