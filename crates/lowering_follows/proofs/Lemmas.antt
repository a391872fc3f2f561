-- The lemmas of the crates below that files of this crate cite.
pub use Rattle.source_meaning.proofs.Prefixes.{prefix_less, prefix_self, prefix_same, prefix_then}
pub use Rattle.linear_machine.proofs.RunLengths.{from_none, events_of, ask_shows, More, longer}
pub use Rattle.linear_machine.proofs.SingleTurns.{stopped, shown_deep, stepped, fetch, sooner, counted_claim, deep_claim, first, still, chosen, onto}
pub use Rattle.linear_machine.proofs.Stretch.{at, conf, Site, Way, Never, To, Out, Ways, Price, price, Join, Claim, value_ways, normal_ways, Part, Targets, Arrives, first_ways, joins, found, frame_of, Reaches, Picked, Stops}
pub use Rattle.linear_machine.proofs.StretchJoins.{then_value, then_value_held, claim_kept, more, attains_out, reaches_after, targets_more, Passes, Joined, attains_more, after, arrives_more, then_normal, then_plain, finishes_more, stops_more, then_held, reaches_more}
pub use Rattle.linear_machine.proofs.Walks.{Around, around_part, IsExcept, except_left, lands, holds_yes, Outward, starts, handlers_below, leaves, picked_at, BlockAt, FindsRegions, finds_own, picked_less, picked_inside, skips}
pub use Rattle.seh_ir.proofs.FuncletCounts.{statements_count, filter_count, statement_count}
pub use Rattle.seh_ir.proofs.StatementCodes.{statements_length, jump_length, return_length, discarded_length, returned_length, condition_length, all_declared_length, statement_length}
pub use Rattle.seh_ir.proofs.DeclaredCodes.{declared_length}
pub use Rattle.seh_ir.proofs.FunctionCodes.{open_length}
pub use Rattle.seh_ir.proofs.Lowering.{length_first, asking_within}
