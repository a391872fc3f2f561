use Rattle.std.proofs.Common.{map, ap, ◌∙◌}
use Rattle.std.proofs.lemmas.Result.{on_ok_weaker}
use Rattle.c_checked.specs.Statement as tree
use Rattle.lowering_expressions.specs.declared.scope.LoweringContext.{LoweringContext}
use Rattle.seh_ir.specs.Words.{linear_funclet}
use Rattle.seh_ir.proofs.StatementTrees as trees
use Rattle.seh_ir.proofs.Lowering.{funclets_next, mapped, finally_appended}
use Rattle.seh_ir.proofs.funclets.+funclets.Goals as goal

pub statements_funclets-loop-stmt-preserved : goal.statements_funclets-loop-stmt-preserved
statements_funclets-loop-stmt-preserved t c =
    funclets_next c.args.owner c.args.names c.args.stmts.now c.loop-stmt.stmt-index
    c.stmt-item.result _ _ _ c.loop-stmt-test.true c.stmt-item.is c.loop-stmt.invariant
    c.in_ok-statement_funclets.ensures

pub try_funclets-returns-in_ok-push-in-TryFinally :
    goal.try_funclets-returns-in_ok-push-in-TryFinally
try_funclets-returns-in_ok-push-in-TryFinally t c =
    let body = tree.statements (map tree.statement c.in-TryFinally.body.items) in
    let last = tree.statements (map tree.statement c.in-TryFinally.finally_block.items) in
    let is = ap tree.statement c.in-TryFinally.is
    ∙ trees.try_finally_is c.in-TryFinally.body c.in-TryFinally.number
    c.in-TryFinally.finally_block in
    let scope = c.in_ok-inner-in-TryFinally.ensures in
    on_ok_weaker c.statements_funclets-in-TryFinally-2.result
    (λ h. finally_appended c.args.owner _ c.args.names _ body last c.in-TryFinally.number _ _ _ _
    _ _ is c.in_funclet.ensures (ap (λ (s : LoweringContext). s.names) scope)
    (rw c.deref-in-TryFinally.ensures.value at c.in_ok-statements_funclets-in-TryFinally.ensures)
    (rw c.deref-in-TryFinally-2.ensures.value at c.in_ok-funclet-in-TryFinally.ensures)
    (mapped linear_funclet _ _ _ c.in_ok-push-in-TryFinally.ensures.items)
    (rw c.deref-in-TryFinally-3.ensures.value at h))
    c.statements_funclets-in-TryFinally-2.ensures
