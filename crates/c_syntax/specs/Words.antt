-- The words of this crate's proofs: what its lemma files import, by the crates below.
pub use Rattle.c_lex.specs.declared.keyword.Keyword.{Keyword}
pub use Rattle.c_lex.specs.declared.punctuator.Punctuator.{Punctuator}
pub use Rattle.c_lex.specs.declared.token.Kind.{Kind}
pub use Rattle.c_lex.specs.declared.token.Token.{Token}
pub use Rattle.c_syntax.specs.Expression.{Expression, Constant, Variable, Information, Call, Parentheses, Index, Postfix, Prefix, Unary, Cast, Binary, Conditional, Assign, Comma, Arguments, Done, Next, height, heights, start}
pub use Rattle.c_syntax.specs.Expressions.{Derives, literal_kind, IsInteger, rank, OfLevel, TighterThan, IsApplied, IsContinued, IsIntroduced, IsElement, IsField, SpellsExpression, SpellsArguments, SpellsMoreArguments, IsInformation}
pub use Rattle.c_syntax.specs.Faults.{Family, Alike, SameFirst, Able, Onward, Failed, Wraps, place}
pub use Rattle.c_syntax.specs.Follow.{NoElse, Closed, OneStatement, punctuator_follows, follows, Stops, OneExpression, kind_follows, StartsAt, ExpressionStart}
pub use Rattle.c_syntax.specs.Nodes.{nodes, nodes_of_arguments, nodes_of_optional, nodes_of_locals, nodes_of_for_initialiser, nodes_of_statement, nodes_of_statements, nodes_of_initialiser, nodes_of_globals, nodes_of_external_declaration, nodes_of}
pub use Rattle.c_syntax.specs.Operators.{assignment, comma, postfix, primary, binary_punctuator, unary_punctuator, increment_punctuator, assignment_punctuator, unary, cast, logical_or, conditional, level, level_of_arithmetic, level_of_comparison, punctuator_of_arithmetic, punctuator_of_comparison}
pub use Rattle.c_syntax.specs.Phrases.{IsEnclosed, AreMore, AreSeparated, InTurn, IsAnother}
pub use Rattle.c_syntax.specs.Program.{Initialiser, Single, Several, Global, ExternalDeclaration, Globals, Function}
pub use Rattle.c_syntax.specs.Programs.{IsLiteral, IsConstant, AreConstants, IsGlobal, AreMoreGlobals, AreGlobals, IsParameter, AreParameters, IsExternalDeclaration, IsProgram, OneProgram}
pub use Rattle.c_syntax.specs.Rows.{Differences, Product, CastOfElement, Choices, Assignments, TwoArguments, NearestIf, NoOtherIf}
pub use Rattle.c_syntax.specs.Statement.{Local, ForInitialiser, Statement, Declare, Block, Evaluate, If, IfElse, While, DoWhile, For, Return, Break, Continue, Leave, TryExcept, TryFinally, Statements, Empty, Then, Declaring, Evaluating}
pub use Rattle.c_syntax.specs.Statements.{IsOptional, dangles, IsBlockItem, AreBlockItems, IsLength, IsInitialiser, IsLocal, AreMoreLocals, AreLocals, IsDeclaration, IsCondition, IsForInitialiser, IsUpTo, is_declaration, IsStatement, IsBlock, IsConditional, IsForHead, IsJump}
pub use Rattle.c_syntax.specs.Steps.{Closes, Run, IsOperandAlone, Step, At, After, With, Choose, Set, And, apply, Tail, bound}
pub use Rattle.c_syntax.specs.Tokens.{IsKeyword, HasPunctuator, HasKeyword, IsIdentifier, IsPunctuator, token, IsKind, HasWord, Phrase}
pub use Rattle.c_syntax.specs.Types.{IsBase, AreStars, IsType, spellings, AreKeywords, IsOneOf}
pub use Rattle.c_syntax.specs.declared.declaration.Length.{Length}
pub use Rattle.c_syntax.specs.declared.declaration.Parameter.{Parameter}
pub use Rattle.c_syntax.specs.declared.expression.Base.{Base}
pub use Rattle.c_syntax.specs.declared.expression.CType.{CType}
pub use Rattle.c_syntax.specs.declared.expression.Field.{Field}
pub use Rattle.c_syntax.specs.declared.expression.Identifier.{Identifier}
pub use Rattle.c_syntax.specs.declared.expression.Literal.{Literal}
pub use Rattle.c_syntax.specs.declared.operator.Arithmetic.{Arithmetic}
pub use Rattle.c_syntax.specs.declared.operator.BinaryOperator.{BinaryOperator}
pub use Rattle.c_syntax.specs.declared.operator.Increment.{Increment}
pub use Rattle.c_syntax.specs.declared.operator.UnaryOperator.{UnaryOperator}
