-- The words of this crate's proofs: what its lemma files import, by the crates below.
pub use Rattle.c_lex.specs.declared.keyword.Keyword.{Keyword}
pub use Rattle.c_lex.specs.declared.punctuator.Punctuator.{Punctuator}
pub use Rattle.c_lex.specs.declared.token.Kind.{Kind}
pub use Rattle.c_lex.specs.declared.token.Token.{Token}
pub use Rattle.c_syntax.specs.Expression.{Expression, Done, Next, arguments, heights, Constant, Variable, Information, Call, Parentheses, Prefix, Unary, Cast, Arguments, height, node, expression}
pub use Rattle.c_syntax.specs.Expressions.{SpellsArguments, Derives, literal_kind, rank, SpellsExpression, IsInteger, IsField, SpellsMoreArguments}
pub use Rattle.c_syntax.specs.Faults.{SameFirst, place, Failed, Wraps, Alike, Speaks, Family, Able, Onward}
pub use Rattle.c_syntax.specs.Follow.{Stops, punctuator_follows, follows, kind_follows}
pub use Rattle.c_syntax.specs.Operators.{assignment, unary, cast, increment_punctuator, unary_punctuator, comma, never, primary, conditional, level}
pub use Rattle.c_syntax.specs.PunctuatorReaders.{unary_of, increment_of}
pub use Rattle.c_syntax.specs.Steps.{Step, At, After, With, Choose, Set, And, apply, bound, Tail, Closes}
pub use Rattle.c_syntax.specs.Tokens.{token, HasPunctuator, IsKind, IsPunctuator, IsIdentifier, IsKeyword, HasWord}
pub use Rattle.c_syntax.specs.Types.{IsType}
pub use Rattle.c_syntax.specs.declared.expression.CType.{CType}
pub use Rattle.c_syntax.specs.declared.expression.Field.{Field}
pub use Rattle.c_syntax.specs.declared.expression.Identifier.{Identifier}
pub use Rattle.c_syntax.specs.declared.expression.Literal.{Literal}
pub use Rattle.c_syntax.specs.declared.operator.Increment.{Increment}
pub use Rattle.c_syntax.specs.declared.operator.UnaryOperator.{UnaryOperator}
pub use Rattle.c_parse_type.specs.Bases.{NoBase, EndsType}
pub use Rattle.c_parse_type.specs.Fronts.{first, after_punctuator}
pub use Rattle.c_parse_expr.specs.Operations.{operation_of, punctuator, right, with, operation}
pub use Rattle.c_parse_expr.specs.Readings.{NoExpression, HasExpression, NoArguments, HasArguments, AreMoreExpressions, AreListed, CanBeginExpression, NeverBegins, NoneEnclosed, HasEnclosed, NoOperand, NoInformation, HasInformation, BeginsOperand, Parenthesis, Steps, Operates, Encloses, IsStep, NoStep, NoField, HasField, DerivesAndStops, AfterPunctuator, IsAfterPunctuator, NoneAfterPunctuator, HasStep, HasAfterPunctuator}
pub use Rattle.c_parse_expr.specs.Refusals.{IsPlacedRefusal}
pub use Rattle.c_parse_expr.specs.declared.step.Operation.{Operation}
pub use Rattle.c_parse_expr.specs.declared.step.Operation.TheVariants.{Index, Postfix, Infix, Conditional}
