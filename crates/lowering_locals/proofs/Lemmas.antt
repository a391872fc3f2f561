-- The lemmas of the crates below that files of this crate cite.
pub use Rattle.c_checked.proofs.ScopeTests.{seen_cases, is_parameter, is_first, sees_own, sees_before, after_before, itself, within, both_left, both_right, part_with}
pub use Rattle.linear_machine.proofs.Ranges.{Range, part_of, both_parts, no_part, one_part}
pub use Rattle.lowering_expressions.proofs.Codes.{expression_length}
pub use Rattle.seh_ir.proofs.EveryInstruction.{all_append}
pub use Rattle.seh_ir.proofs.FuncletCounts.{filter_count, statements_count, statement_count}
pub use Rattle.seh_ir.proofs.Lowering.{length_first}
pub use Rattle.seh_ir.proofs.StatementCodes.{returned_length, statement_length, statements_length, discarded_length, condition_length, all_declared_length}
pub use Rattle.seh_ir.proofs.DeclaredCodes.{declared_length}
pub use Rattle.seh_ir.proofs.FunctionCodes.{open_length}
pub use Rattle.lowering_follows.proofs.FuncletNumbers.{counted, count_front, count_back}
pub use Rattle.lowering_follows.proofs.Segments.{IsSegmentAt, front, back, whole_is_at}
pub use Rattle.lowering_invariants.proofs.SeparatorCounts.FirstSeparators.{first_every, function_end}
pub use Rattle.lowering_invariants.proofs.Moves.{Turn, Halts, Moves, pick_turn, some_turn, deeper_turn, kept}
pub use Rattle.lowering_invariants.proofs.Stacks.StackTargets.{same_it, all_at, all_map}
