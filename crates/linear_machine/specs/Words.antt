-- The words of this crate's proofs: what its lemma files import, by the crates below.
pub use Rattle.seh_num.specs.declared.event.Event.{Event}
pub use Rattle.source_meaning.specs.Laws.{IsPrefixOf, ShowsMore, EndStays}
pub use Rattle.source_meaning.specs.State.{Exception, State, End, Outcome, Gives, depth, Result, Value, Normal, Returned, Broke, Continued, LeftTry}
unfoldable pub use Rattle.source_meaning.specs.State.{choose, with_value, and_then}
pub use Rattle.source_meaning.specs.Tasks.{Context}
unfoldable pub use Rattle.source_meaning.specs.Tasks.{counted}
pub use Rattle.source_meaning.specs.declared.ended.Ended.{Ended}
pub use Rattle.linear_code.specs.Program.{LinearProgram, LinearFunction, depth_weight}
pub use Rattle.linear_code.specs.declared.instruction.Instruction.{Instruction}
pub use Rattle.linear_code.specs.declared.program.Region.{Region}
pub use Rattle.linear_code.specs.declared.program.RegionKind.{RegionKind}
pub use Rattle.linear_machine.specs.Frames.{Seen, Running, Finished, Stuck, BodyName, FunctionBody, FuncletBody, Handler, Target, Resumption, AfterCall, SameOperation, Asked, FilterOf, VectoredAt, Item, Waits, Searches, Unwinds, Store, Configuration, Next, deeper, read, with_temporary, with_temporaries, last_temporaries, at_label, forth, Frame}
unfoldable pub use Rattle.linear_machine.specs.Frames.{with_some, pick}
pub use Rattle.linear_machine.specs.Instructions.{is_constant, operand, written, computed, compute, tested, waiting, begin_function, count_of, built_in, return, end_finally, end_funclet, end_body, not_landed, act}
pub use Rattle.linear_machine.specs.Regions.{regions_at, regions_left, handlers, handlers_in, holds, handlers_of, leads_to, stops}
pub use Rattle.linear_machine.specs.Run.{start, seen, shown, linear_meaning, instruction_at}
unfoldable pub use Rattle.linear_machine.specs.Run.{exec}
pub use Rattle.linear_machine.specs.Searching.{target_of, accept, begin_filter, consult, search, ask_vectored, ask_at, ask_from, raise, resumed, continued, vectored_answered, answered, answer}
pub use Rattle.linear_machine.specs.Unwinding.{flag_of, begin_finally, run_finally, arrive, target_past, left_store, leave_region, unwind_body, unwind}
pub use Rattle.linear_machine.specs.BuiltInCalls.{CallsBuiltIn, IsNotAt, WalksAreCalled}
