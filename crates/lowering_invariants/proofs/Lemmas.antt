-- The lemmas of the crates below that files of this crate cite.
pub use Rattle.seh_num.proofs.Below.{low_below, wrapped_below}
pub use Rattle.linear_machine.proofs.Ranges.{Range, part_of, both_parts, no_part, one_part}
pub use Rattle.lowering_expressions.proofs.Codes.{expression_length, locate_length, conversion_length, read_length}
pub use Rattle.seh_ir.proofs.AnyStatement.{HoldsOfAnyPieces, statements_any, neutral_of}
pub use Rattle.seh_ir.proofs.EveryFunclet.{any_numbers, HoldsOfFunclets, all_funclets_every, funclets_any, funclets_known, all_front, all_back}
pub use Rattle.seh_ir.proofs.EveryInstruction.{all_append, HoldsOfInstructions, statements_all, all_pieces}
pub use Rattle.seh_ir.proofs.EveryStatement.{WayHas, WaysHave, IsPlaced, HoldsOfPieces, statements_every, any_neutral}
pub use Rattle.seh_ir.proofs.FuncletCounts.{statements_count, functions_count, filter_count, statement_count}
pub use Rattle.seh_ir.proofs.Lowering.{first_are, length_first}
pub use Rattle.seh_ir.proofs.StatementCodes.{statements_length, discarded_length, condition_length, all_declared_length, statement_length}
pub use Rattle.seh_ir.proofs.StatementParts.{statements_have, OptionalHas, AllDeclaredHave, FilterHas, StatementHas, StatementsHave}
pub use Rattle.lowering_follows.proofs.FuncletNumbers.{count_front, count_back, counted}
pub use Rattle.lowering_follows.proofs.Handlers.{each_added, each_left}
pub use Rattle.lowering_follows.proofs.ProgramLowering.{lowered_is_linked, lowered_shows_no_more}
pub use Rattle.lowering_follows.proofs.Segments.{IsSegmentAt, front, back, whole_is_at}
pub use Rattle.lowering_follows.proofs.SoundExpressions.{both_left, both_right, Knows, expression_fits}
pub use Rattle.lowering_follows.proofs.SoundStatements.{StatementsFit, function_fits, inside_function, knows_function, statements_sound_have}
