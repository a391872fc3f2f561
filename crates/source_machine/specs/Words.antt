-- The words of this crate's proofs: what its lemma files import, by the crates below.
pub use Rattle.seh_num.specs.Widths.{low}
pub use Rattle.seh_num.specs.declared.width.Width.TheVariants.{W32}
pub use Rattle.c_operations.specs.Performed.{performed}
pub use Rattle.c_operations.specs.declared.built_in.BuiltIn.{BuiltIn}
pub use Rattle.c_operations.specs.declared.built_in.BuiltIn.TheVariants.{Put, Protect, RaiseException, Walk, AddVectored, RemoveVectored}
pub use Rattle.c_operations.specs.declared.operation.Operation.{Operation}
pub use Rattle.c_checked.specs.Expression.{Expression, On, Node, Lvalue, Local, Global, Indirection, Element, Arguments, Done}
pub use Rattle.c_checked.specs.Program.{Program, Function, DataFrame, weight, surplus}
pub use Rattle.c_checked.specs.declared.function.StackedParameter.{StackedParameter}
pub use Rattle.c_checked.specs.declared.statement.StackedVariable.{StackedVariable}
pub use Rattle.flat_memory.specs.Memory.{Memory}
pub use Rattle.source_meaning.specs.DataStack.{bring, open_frame, close_part, reset_pointer, allocate, placing, clearing, put as put_variable}
unfoldable pub use Rattle.source_meaning.specs.DataStack.{given as given_by, close, clear}
pub use Rattle.c_checked.specs.Statement.{Evaluate, Leave, Statement, Statements, Filter, Always, Funclet, Empty, Declared}
pub use Rattle.source_meaning.specs.Expressions.{all, tried, locate, read, write, each, enter, call_built_in, node}
unfoldable pub use Rattle.source_meaning.specs.Expressions.{ended_call}
pub use Rattle.source_meaning.specs.Laws.{IsPrefixOf}
pub use Rattle.source_meaning.specs.Meaning.{does, ran, perform, is_calm, Calm}
unfoldable pub use Rattle.source_meaning.specs.Meaning.{computed}
pub use Rattle.source_meaning.specs.Raises.{noncontinuable, continued, search, raise_event, search_by, ask_at, ask_from, vectored_answered, handler_arguments}
pub use Rattle.source_meaning.specs.Source.{is_reserved}
pub use Rattle.source_meaning.specs.State.{Exception, State, set_memory, let_go, local_of, count_steps, Result, Value, Normal, Continued, Target, End, Outcome, Gives, emit, LeftTry, state_of}
unfoldable pub use Rattle.source_meaning.specs.State.{choose, with_value, and_then, deeper, counting}
pub use Rattle.source_meaning.specs.Statements.{optional, declare_stacked, declare_at, declare, declare_each, statement}
unfoldable pub use Rattle.source_meaning.specs.Statements.{in_loop, landing, finally_after}
pub use Rattle.source_meaning.specs.Tasks.{Handler, DataPart, part_of, Does, Task}
unfoldable pub use Rattle.source_meaning.specs.Tasks.{counted}
pub use Rattle.source_meaning.specs.declared.ended.Ended.{Ended}
pub use Rattle.source_meaning.specs.declared.ended.Ended.TheVariants.{Deep, Undefined, Unhandled}
pub use Rattle.source_machine.specs.CalmLaws.{PlainBefore, OneRun, ComesToEnd, RaisesShow, TameIsCalm, EndedIsTame}
pub use Rattle.source_machine.specs.FrameMeanings.{below, operand_meaning, assignment_meaning, branch_meaning, in_statement_meaning, sequel_meaning, body_meaning, through, through_all, comes_to, found, call, reaches}
pub use Rattle.source_machine.specs.Frames.{Place, context_at, OperandFrame, AssignmentFrame, StatementFrame, SequelFrame, BodyFrame, ContinuationFrame, Operand, Assignment, InStatement, Sequel, Body, EndsCall, Lands, Finishes, Plan, Next, Over, Start, Callee, Give, Begin, Then, Push}
pub use Rattle.source_machine.specs.Machine.{Machine, step, follow, over, after_value, after_normal, after_body, left_call, target_landed, landed, finished, resumed, outside, given, unless_deep, unless_few, done, started, begun, fetched, put, operated, entered, built_in, called, declared, asked_vectored, asked_by, asked, searched, is_deep, with_local, with_next, handler_at, guarded, without_last, at_state, stored, brought, opened, put_stacked, cleared_one, cleared, declared_stacked, declared_at, closed}
pub use Rattle.source_machine.specs.Plain.{raises_inside, is_raise}
pub use Rattle.source_machine.specs.Plans.{chosen, operand_plan, assignment_plan, evaluated, branch, answer_plan, vectored_plan, in_statement_plan, sequel_plan, body_plan, node_plan, expression_plan, find_plan, pass_plan, proceed_plan, declare_plan, statement_plan, ends}
pub use Rattle.source_machine.specs.Runs.{first, after}
pub use Rattle.source_machine.specs.StepLaws.{is_over, distance, operand_worth, assignment_worth, statement_worth, worth, all_worth, next_worth, Decreases, Extends, KeepsMeaning, ShowsBefore}
