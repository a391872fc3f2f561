-- The words of this crate's proofs: what its lemma files import, by the crates below.
pub use Rattle.c_lex.specs.declared.keyword.Keyword.{Keyword}
pub use Rattle.c_lex.specs.declared.punctuator.Punctuator.{Punctuator}
pub use Rattle.c_lex.specs.declared.token.Kind.{Kind}
pub use Rattle.c_lex.specs.declared.token.Token.{Token}
pub use Rattle.c_syntax.specs.Expression.{Expression, Constant, Variable, Information, Parentheses, Prefix, Unary, Call, Done, Index, Postfix, Binary, Conditional, Assign, Comma, height, expression, Cast}
pub use Rattle.c_syntax.specs.Expressions.{rank, IsInteger, IsApplied, IsContinued, SpellsExpression, Derives}
pub use Rattle.c_syntax.specs.Faults.{SameFirst, Speaks, Alike, place, Onward, Failed, Wraps, Able, Family}
pub use Rattle.c_syntax.specs.Follow.{punctuator_follows, kind_follows, follows, Stops, Closed, NoElse}
pub use Rattle.c_syntax.specs.Limits.{accepts, height_of, one_over, height_of_locals, one_over_locals, Number, order, height_of_for_initialiser, locals_of_for_initialiser, size, aligned, end_of_local, end_of_locals, end_of_for_initialiser, end_of_arrays, end_of_all_arrays, statements_over_all, numbered, funclets_of_all, statements_over, over_block_item, locals, locals_of_all}
pub use Rattle.c_syntax.specs.Operators.{unary_punctuator, increment_punctuator, primary, postfix, assignment, comma, binary_punctuator, assignment_punctuator}
pub use Rattle.c_syntax.specs.Statement.{TryExcept, TryFinally, Statements, Empty, Local, local, ForInitialiser, Evaluating, Evaluate, For, Statement, Declare, Then, If, While, DoWhile, Return, Break, Continue, Leave, Block, statement, statements, IfElse, first, Declaring, node}
pub use Rattle.c_syntax.specs.Statements.{IsCondition, IsBlockItem, AreBlockItems, IsLocal, AreMoreLocals, AreLocals, IsLength, IsInitialiser, IsUpTo, IsForInitialiser, is_declaration, IsDeclaration, dangles, IsStatement, IsBlock}
pub use Rattle.c_syntax.specs.Steps.{Step, At, After, With, Choose, Set, And, apply, bound, Tail, Closes, IsOperandAlone}
pub use Rattle.c_syntax.specs.Tokens.{token, Phrase, IsKeyword, HasKeyword, IsPunctuator, HasPunctuator, IsIdentifier, IsKind}
pub use Rattle.c_syntax.specs.Types.{IsBase, AreStars}
pub use Rattle.c_syntax.specs.declared.declaration.Length.{Length}
pub use Rattle.c_syntax.specs.declared.expression.Base.{Base}
pub use Rattle.c_syntax.specs.declared.expression.Identifier.{Identifier}
pub use Rattle.c_syntax.specs.declared.operator.Increment.{Increment}
pub use Rattle.c_syntax.specs.declared.statement.Stmt.{Stmt}
pub use Rattle.c_syntax.specs.declared.statement.Stmt.TheFolds.{fold-roll-Stmt}
pub use Rattle.c_syntax.specs.declared.statement.Stmt.TheVariants.{rolls-If}
pub use Rattle.c_parse_type.specs.Bases.{NoBase, NoStar, EndsBase}
pub use Rattle.c_parse_expr.specs.Readings.{NoExpression, HasExpression}
pub use Rattle.c_parse_expr.specs.Refusals.{IsPlacedRefusal}
pub use Rattle.c_parse_expr.specs.declared.refusal.ParseErr.{ParseErr}
pub use Rattle.c_parse_expr.specs.declared.refusal.ParseErr.TheVariants.{Unexpected, TooDeep, TooMany, Memory}
pub use Rattle.c_parse_stmt.specs.ArrayBytes.{bytes_so_far}
pub use Rattle.c_parse_stmt.specs.Begins.{Expressed, BeginsExpression, BeginsNoExpression, BeginsNoStatement, over_first, first_over, Stated, BeginsStatement}
pub use Rattle.c_parse_stmt.specs.Endings.{Ends, IsClause, ClauseIsTaken, with_clause}
pub use Rattle.c_parse_stmt.specs.Filters.{accepts_kind, accepts_alone, AreOpening, AreClosing, Continued, ContinuesAfter, NoneAfter, numbers_of, ContinuesInside, NoneInside, NoFilter, HasFilter, Departs}
pub use Rattle.c_parse_stmt.specs.Openings.{IsTry, Guards, Opens, IsStatementHead, expressions_over, Heads, Holds}
pub use Rattle.c_parse_stmt.specs.Parts.{NoCondition, HasCondition, NoPunctuator, APunctuator, IsBracketed, NoneBracketed, HasBracketed, IsAfterName, NoLength, HasLength, NoLocal, HasLocal, LocalsWithin, NoMoreLocals, NoLocals, HasLocals, NoInitialiser, HasInitialiser, NoneUpTo, HasUpTo, NoForInitialiser, HasForInitialiser, NoDeclaration, HasDeclaration}
pub use Rattle.c_parse_stmt.specs.Within.{NoStatement, HasStatement, NoEvaluation, HasEvaluation, AllWithin, AllTaken, NoBlockItems, HasBlockItems, AfterKeyword, Within, IsStatementWithin, ReadsBlockItem, NoBlockItem, AnItem, HasBlockItem}
pub use Rattle.c_parse_stmt.specs.declared.remaining.Remaining.{Remaining}
pub use Rattle.c_parse_stmt.specs.declared.openings.Opening.{Opening}
