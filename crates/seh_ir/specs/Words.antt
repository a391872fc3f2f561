-- The words of this crate's proofs: what its lemma files import, by the crates below.
pub use Rattle.c_operations.specs.declared.operation.Operation.TheVariants.{Pure, Place, Clear}
pub use Rattle.c_operations.specs.declared.operation.Pure.TheVariants.{Constant}
pub use Rattle.c_checked.specs.Expression.{Expression, expression}
pub use Rattle.c_checked.specs.Program.{Function, function}
pub use Rattle.c_checked.specs.declared.function.DataPart.{DataPart}
pub use Rattle.c_checked.specs.Sound.{funclets_in, funclets, filter_funclet}
pub use Rattle.c_checked.specs.Statement.{Declared, Always, Statement, Declare, Evaluate, Statements, Filter, Funclet, Block, If, IfElse, For, DoWhile, Return, Break, Continue, Leave, TryExcept, TryFinally, Empty, Then, statement, statements, declared}
pub use Rattle.c_checked.specs.declared.statement.Stmt.{Stmt}
pub use Rattle.c_checked.specs.declared.statement.StackedVariable.{StackedVariable}
pub use Rattle.linear_code.specs.Program.{LinearFunclet, LinearFunction, linear_function, linear_funclet}
pub use Rattle.linear_code.specs.declared.instruction.Instruction.{Instruction}
pub use Rattle.linear_code.specs.declared.instruction.Instruction.TheVariants.{Compute, Jump, JumpIfZero, CallFinally, LocalUnwind, Landing, Separator}
pub use Rattle.linear_code.specs.declared.program.Region.{Region}
pub use Rattle.linear_code.specs.declared.slot.Slot.TheVariants.{Local, Temporary}
pub use Rattle.lowering_sizes.specs.Sizes.{initialiser_size, stacked_size, declared_at_size, declared_size, elements_notes, stacked_notes, declared_notes, statement_notes, statements_notes, expression_size, discarded_size, condition_size, all_declared_size, statement_size, statements_size, returned_size}
pub use Rattle.lowering_expressions.specs.Expressions.{constant, copy, expression_code}
pub use Rattle.lowering_expressions.specs.Scope.{except_names, filter_names, finally_names, unwound, in_loop, in_try, in_except, in_guarded}
pub use Rattle.lowering_expressions.specs.declared.scope.LoweringContext.{LoweringContext}
pub use Rattle.lowering_expressions.specs.declared.scope.Names.{Names}
pub use Rattle.lowering_expressions.specs.declared.scope.Way.{Way}
pub use Rattle.lowering_expressions.specs.declared.scope.Way.TheVariants.{Nowhere, Jumps, Unwinds}
pub use Rattle.seh_ir.specs.Funclets.{filter_funclets, finally_funclet, in_funclet, statement_funclets, statements_funclets}
pub use Rattle.seh_ir.specs.Lowered.{all_locals, asking, first_separators, first_count, bring_code, open_code, open_size, close_code, body_start, function_code, scope_of, lowered_funclets, all_funclets, lowered_function}
pub use Rattle.seh_ir.specs.Regions.{statement_regions, statements_regions, except_kind, region}
pub use Rattle.seh_ir.specs.Statements.{discarded_code, condition_code, declared_code, all_declared_code, statement_code, statements_code, return_code, returned_code, repeated, jump_code, leave_code, initialiser_code, put_code, put_initialiser_code, clearing, stacked_declared_code, declared_at_code, reset_code, landed, finally_called, when_code}
pub use Rattle.seh_ir.specs.declared.funclets.Owner.{Owner}
