use Rattle.std.proofs.Common.{◌∙◌, sym, ap}
use Rattle.c_checked.specs.Statement.{statement, statements}
use Rattle.c_resolved.specs.Placed.{place_statement}
use Rattle.c_stacked.specs.Views.{layout}
use Rattle.c_stacked.proofs.PlacedStatements.{placed_at, all_placed_at, declared_at, block_placed, if_placed, for_placed, do_placed, try_except_placed, try_finally_placed}
use Rattle.c_stacked.proofs.Walked.{all_visited, statements_placed}
use Rattle.c_stacked.proofs.placed_statements.+place.Goals as goal
use Rattle.c_stacked.proofs.placed_statements.+place.Goals.{place_block_or_if-in-Block, place_block_or_if-in-If, place_loop-in-For, place_loop-in-Do, place_try-in-TryExcept, place_try-in-TryFinally}

pub place_statements-returns : goal.place_statements-returns
place_statements-returns t c =
    let l = layout c.args.places.now in
    ap statements (all_visited statement (λ s. place_statement l (statement s))
    c.loop-stmt.stmts c.args.stmts.now c.loop-stmt.stmt-index
    c.loop-stmt-test.false c.loop-stmt.invariant.0 c.loop-stmt.invariant.1)
    ∙ statements_placed l c.args.stmts.now

pub place_block_or_if-returns : goal.place_block_or_if-returns
place_block_or_if-returns t c =
    let l = layout c.args.places.now in
    let s = c.args.stmt.now in
    let was = sym c.replace-taken.ensures.value in
    elim c.match-taken.branch [
      | place_block_or_if-in-Block w ↦ ap statement w.t-11-is
          ∙ block_placed l w.in-Block.stmts w.place_statements.new.stmts s (was ∙ w.in-Block.is)
          (w.place_statements.auto.stmts ∙ w.deref_mut.ensures.len)
          (all_placed_at l w.deref_mut.result.now w.in-Block.stmts.items
          w.place_statements.new.stmts
          w.deref_mut.ensures.value w.place_statements.ensures)
      | place_block_or_if-in-If w ↦ ap statement w.t-11-is
          ∙ if_placed l w.in-If.condition w.place_expression.new.expr w.in-If.then
          w.place_statement.new.stmt w.in-If.otherwise w.placed_otherwise.result s
          (was ∙ w.in-If.is) w.place_expression.ensures
          (placed_at l w.deref_mut-in-If.result.now w.in-If.then.value w.place_statement.new.stmt
          w.deref_mut-in-If.ensures.value w.place_statement.ensures) w.placed_otherwise.ensures
    ]

pub place_loop-returns : goal.place_loop-returns
place_loop-returns t c =
    let l = layout c.args.places.now in
    let s = c.args.stmt.now in
    let was = sym c.replace-taken.ensures.value in
    elim c.match-taken.branch [
      | place_loop-in-For w ↦ ap statement w.t-14-is
          ∙ for_placed l w.in-For.declared w.place_all_declared.new.declared w.in-For.first
          w.place_optional.result w.in-For.condition w.place_optional-in-For.result w.in-For.next
          w.place_optional-in-For-2.result w.in-For.body w.place_statement.new.stmt s
          (was ∙ w.in-For.is) (w.place_all_declared.auto.declared ∙ w.deref_mut.ensures.len)
          (declared_at l w.deref_mut.result.now w.in-For.declared.items
          w.place_all_declared.new.declared w.deref_mut.ensures.value
          w.place_all_declared.ensures)
          w.place_optional.ensures w.place_optional-in-For.ensures
          w.place_optional-in-For-2.ensures
          (placed_at l w.deref_mut-in-For.result.now w.in-For.body.value w.place_statement.new.stmt
          w.deref_mut-in-For.ensures.value w.place_statement.ensures)
      | place_loop-in-Do w ↦ ap statement w.t-14-is
          ∙ do_placed l w.in-Do.body w.place_statement-in-Do.new.stmt w.in-Do.condition
          w.place_expression.new.expr s (was ∙ w.in-Do.is)
          (placed_at l w.deref_mut-in-Do.result.now w.in-Do.body.value
          w.place_statement-in-Do.new.stmt w.deref_mut-in-Do.ensures.value
          w.place_statement-in-Do.ensures) w.place_expression.ensures
    ]

pub place_try-returns : goal.place_try-returns
place_try-returns t c =
    let l = layout c.args.places.now in
    let s = c.args.stmt.now in
    let was = sym c.replace-taken.ensures.value in
    elim c.match-taken.branch [
      | place_try-in-TryExcept w ↦ ap statement w.t-13-is
          ∙ try_except_placed l w.in-TryExcept.body w.place_statements.new.stmts
          w.in-TryExcept.filter w.place_filter.result w.in-TryExcept.handler
          w.place_statements-in-TryExcept.new.stmts s (was ∙ w.in-TryExcept.is)
          (w.place_statements.auto.stmts ∙ w.deref_mut.ensures.len)
          (all_placed_at l w.deref_mut.result.now w.in-TryExcept.body.items
          w.place_statements.new.stmts w.deref_mut.ensures.value w.place_statements.ensures)
          w.place_filter.ensures
          (w.place_statements-in-TryExcept.auto.stmts ∙ w.deref_mut-in-TryExcept.ensures.len)
          (all_placed_at l w.deref_mut-in-TryExcept.result.now w.in-TryExcept.handler.items
          w.place_statements-in-TryExcept.new.stmts w.deref_mut-in-TryExcept.ensures.value
          w.place_statements-in-TryExcept.ensures)
      | place_try-in-TryFinally w ↦ ap statement w.t-13-is
          ∙ try_finally_placed l w.in-TryFinally.body w.place_statements-in-TryFinally.new.stmts
          w.in-TryFinally.number w.in-TryFinally.finally_block
          w.place_statements-in-TryFinally-2.new.stmts s (was ∙ w.in-TryFinally.is)
          (w.place_statements-in-TryFinally.auto.stmts ∙ w.deref_mut-in-TryFinally.ensures.len)
          (all_placed_at l w.deref_mut-in-TryFinally.result.now w.in-TryFinally.body.items
          w.place_statements-in-TryFinally.new.stmts w.deref_mut-in-TryFinally.ensures.value
          w.place_statements-in-TryFinally.ensures)
          (w.place_statements-in-TryFinally-2.auto.stmts ∙ w.deref_mut-in-TryFinally-2.ensures.len)
          (all_placed_at l w.deref_mut-in-TryFinally-2.result.now
          w.in-TryFinally.finally_block.items
          w.place_statements-in-TryFinally-2.new.stmts w.deref_mut-in-TryFinally-2.ensures.value
          w.place_statements-in-TryFinally-2.ensures)
    ]
