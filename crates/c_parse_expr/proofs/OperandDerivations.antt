-- Operands that begin with a name, a parenthesis or an operator are derived from their parts.
use Rattle.std.proofs.Common.{ℕ, List, ◌≤◌}
use Rattle.c_parse_expr.specs.Words.{Token, Identifier, CType, Increment, UnaryOperator, Expression, Arguments, Call, Parentheses, Prefix, Unary, Cast, SpellsArguments, Derives, rank, Closes, unary, cast, increment_punctuator, unary_punctuator, IsIdentifier, IsPunctuator, HasPunctuator, IsType, Encloses}
use Rattle.c_parse_expr.specs.Readings.{IsOperand}
use Rattle.c_lex.specs.declared.punctuator.Punctuator.TheVariants as punctuators

module _ (text : List ℕ) (level : ℕ) where
  pub call_derived : (name : Identifier) (es : Arguments)
      (ts after_name after_opening rest : List Token) → rank (Call name es) ≤ level
      → IsIdentifier name ts after_name
      → HasPunctuator punctuators.OpenParenthesis after_name after_opening
      → SpellsArguments text es after_opening rest → IsOperand text level (Call name es) ts rest
  call_derived name es ts after_name after_opening rest fits called opening arguments = record {
    derives = record {
      fits = fits;
      spells = record {
        after_name = after_name;
        after_opening = after_opening;
        called = called;
        opening = opening;
        arguments = arguments;
      };
    };
    head = tt;
    closes = tt;
  }

  pub group_derived : (at : ℕ) (e : Expression) (ts inner rest : List Token)
      → rank (Parentheses at e) ≤ level → IsPunctuator punctuators.OpenParenthesis at ts inner
      → Encloses text punctuators.CloseParenthesis e inner rest
      → IsOperand text level (Parentheses at e) ts rest
  group_derived at e ts inner rest fits opening found = record {
    derives = record {
      fits = fits;
      spells = record {
        after_opening = inner;
        after_inner = found.mid;
        opening = opening;
        inner = found.spells;
        closing = found.closed;
      };
    };
    head = tt;
    closes = tt;
  }

  pub cast_derived : (at : ℕ) (to : CType) (e : Expression)
      (ts after_opening after_type after_closing rest : List Token) → rank (Cast at to e) ≤ level
      → IsPunctuator punctuators.OpenParenthesis at ts after_opening
      → IsType to after_opening after_type
      → HasPunctuator punctuators.CloseParenthesis after_type after_closing
      → Derives text cast e after_closing rest → Closes (Cast at to e) rest
      → IsOperand text level (Cast at to e) ts rest
  cast_derived at to e ts after_opening after_type after_closing rest fits opening type closing
      operand closes = record {
        derives = record {
          fits = fits;
          spells = record {
            after_operator = after_closing;
            operator = record {
              after_opening = after_opening;
              after_inner = after_type;
              opening = opening;
              inner = type;
              closing = closing;
            };
            operand = operand;
          };
        };
        head = tt;
        closes = closes;
      }

  pub prefix_derived : (at : ℕ) (op : Increment) (e : Expression)
      (ts after_operator rest : List Token) → rank (Prefix at op e) ≤ level
      → IsPunctuator (increment_punctuator op) at ts after_operator
      → Derives text unary e after_operator rest → Closes (Prefix at op e) rest
      → IsOperand text level (Prefix at op e) ts rest
  prefix_derived at op e ts after_operator rest fits operator operand closes = record {
    derives = record {
      fits = fits;
      spells = record
          { after_operator = after_operator; operator = operator; operand = operand };
    };
    head = tt;
    closes = closes;
  }

  pub unary_derived : (at : ℕ) (op : UnaryOperator) (e : Expression)
      (ts after_operator rest : List Token) → rank (Unary at op e) ≤ level
      → IsPunctuator (unary_punctuator op) at ts after_operator
      → Derives text cast e after_operator rest → Closes (Unary at op e) rest
      → IsOperand text level (Unary at op e) ts rest
  unary_derived at op e ts after_operator rest fits operator operand closes = record {
    derives = record {
      fits = fits;
      spells = record
          { after_operator = after_operator; operator = operator; operand = operand };
    };
    head = tt;
    closes = closes;
  }
