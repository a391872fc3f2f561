-- The words of this crate's proofs: what its lemma files import, by the crates below.
pub use Rattle.c_lex.specs.Text.{IsTokens}
pub use Rattle.c_lex.specs.declared.punctuator.Punctuator.{Punctuator}
pub use Rattle.c_lex.specs.declared.token.Token.{Token}
pub use Rattle.c_syntax.specs.Expressions.{literal_kind, IsInteger}
pub use Rattle.c_syntax.specs.Faults.{Alike, Speaks, Wraps, SameFirst, place, Failed, Onward, Family, Able}
pub use Rattle.c_syntax.specs.Follow.{Stops, follows}
pub use Rattle.c_syntax.specs.Limits.{FunctionWithinFirst, end_of_globals, end_of_all_arrays, funclets_of_all, size, aligned, every_limit, Within, Number, order, WithinFirst, funclets_in, bytes_from}
pub use Rattle.c_syntax.specs.Operators.{assignment, postfix}
pub use Rattle.c_syntax.specs.Program.{Initialiser, Single, Several, Global, global, Globals, Function, ExternalDeclaration, external_declaration, initialiser}
pub use Rattle.c_syntax.specs.Programs.{AreParameters, IsLiteral, IsConstant, AreMoreConstants, AreConstants, IsInitialiser, IsGlobal, AreMoreGlobals, AreGlobals, IsExternalDeclaration, IsParameter, AreMoreParameters, IsProgram}
pub use Rattle.c_syntax.specs.Statement.{Empty, Statements}
pub use Rattle.c_syntax.specs.Statements.{IsLength}
pub use Rattle.c_syntax.specs.Tokens.{token, HasPunctuator, IsKind, IsPunctuator, IsIdentifier, Phrase, HasKeyword}
pub use Rattle.c_syntax.specs.Types.{AreStars, IsBase, IsType}
pub use Rattle.c_syntax.specs.Viable.{Viable, ContinuesWithin, IsSyntaxFault}
pub use Rattle.c_syntax.specs.declared.declaration.Length.{Length}
pub use Rattle.c_syntax.specs.declared.declaration.Parameter.{Parameter}
pub use Rattle.c_syntax.specs.declared.expression.Base.{Base}
pub use Rattle.c_syntax.specs.declared.expression.CType.{CType}
pub use Rattle.c_syntax.specs.declared.expression.Identifier.{Identifier}
pub use Rattle.c_syntax.specs.declared.expression.Literal.{Literal}
pub use Rattle.c_parse_type.specs.Bases.{NoStar, NoBase, EndsBase, EndsType}
pub use Rattle.c_parse_expr.specs.Refusals.{IsPlacedRefusal, ParserRefuses}
pub use Rattle.c_parse_expr.specs.declared.refusal.ParseErr.{ParseErr}
pub use Rattle.c_parse_expr.specs.declared.refusal.ParseErr.TheVariants.{Unexpected, TooMany, TooDeep, Memory}
pub use Rattle.c_parse_stmt.specs.Parts.{NoPunctuator, APunctuator, IsBracketed}
pub use Rattle.c_parse_stmt.specs.ArrayBytes.{bytes_so_far}
pub use Rattle.c_parse_stmt.specs.Within.{NoBlockItems, HasBlockItems}
pub use Rattle.c_parse_stmt.specs.declared.remaining.Remaining.{Remaining}
pub use Rattle.c_parse.specs.Counts.{NoExternalDeclaration, HasExternalDeclaration, FitsCounts, Taken}
pub use Rattle.c_parse.specs.Parts.{NoParameters, HasParameters, IsTail, NoTail, HasTail, NoConstant, HasConstant, NoConstants, HasConstants, IsGiven, NoneGiven, HasGiven, NoInitialiser, HasInitialiser, end_of, NoGlobal, NoGlobals, HasGlobals, NoLength, HasLength, EndsScalar, IsDeclarationHead, NoHead, HasHead, NoneBracketed, HasBracketed, IsAfterName, NoParameter, HasParameter, IsVoid, NoListed, HasListed}
pub use Rattle.c_parse.specs.declared.counts.Counts.{Counts}
