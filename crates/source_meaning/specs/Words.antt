-- The words of this crate's proofs: what its lemma files import, by the crates below.
pub use Rattle.seh_num.specs.declared.event.Event.{Event}
pub use Rattle.c_checked.specs.Program.{Program, Function, DataFrame, weight, surplus}
pub use Rattle.c_checked.specs.declared.function.StackedParameter.{StackedParameter}
pub use Rattle.c_checked.specs.declared.statement.StackedVariable.{StackedVariable}
pub use Rattle.source_meaning.specs.DataStack.{placing, clearing, memory_above, point_above, allocate, bring, open_frame, close_part, reset_pointer, reset_pointer_if, put}
unfoldable pub use Rattle.source_meaning.specs.DataStack.{given, close, clear}
pub use Rattle.source_meaning.specs.Expressions.{enter, tried, operate, locate, load, read, write, each, all, call_built_in, node, expression}
unfoldable pub use Rattle.source_meaning.specs.Expressions.{ended_call}
pub use Rattle.source_meaning.specs.Laws.{IsPrefixOf, ShowsMore, EndStays, CalmBefore, EventsGrow, DoesIs, NeverRises}
pub use Rattle.source_meaning.specs.Meaning.{perform, within, start, outside, main_arguments, ran, shows, meaning, is_calm, does}
unfoldable pub use Rattle.source_meaning.specs.Meaning.{computed}
pub use Rattle.source_meaning.specs.State.{State, Result, Value, End, Outcome, Gives, how_of, state_of, Exception, Normal, Returned, Broke, Continued, LeftTry, Target, set_memory, depth, local_of, with_activation, with_outermost, let_go_surplus, count_steps}
unfoldable pub use Rattle.source_meaning.specs.State.{choose, deeper, counting, with_value, and_then}
pub use Rattle.source_meaning.specs.Statements.{optional, declare_stacked, declare_at, declare, declare_each, statement, for_iteration, do_iteration}
unfoldable pub use Rattle.source_meaning.specs.Statements.{in_loop, landing, finally_after}
pub use Rattle.source_meaning.specs.Tasks.{Handler, DataPart, part_of, Context, Task, Eval, Locate, Run, ForIteration, DoIteration, TryBody, Raise, AskVectored, RunFilter, RunFinally, Retry, Does}
unfoldable pub use Rattle.source_meaning.specs.Tasks.{counted}
pub use Rattle.source_meaning.specs.declared.ended.Ended.TheVariants.{Unhandled, Undefined, Deep}
