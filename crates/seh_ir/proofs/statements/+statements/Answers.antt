use Rattle.std.proofs.Common.{List, ◌+◌, ◌++◌, length, map, drop, sym, ap, ◌∙◌}
use Rattle.std.proofs.lemmas.List.{at_drop_more}
use Rattle.std.specs.Prelude.{option_map}
use Rattle.std.proofs.lemmas.Result.{on_ok_weaker}
use Rattle.lowering_sizes.specs.Parts.{with_parts, with_all_parts}
use Rattle.seh_ir.specs.Measured.{part, block}
use Rattle.seh_ir.specs.Words.{Stmt, expression, Empty, statement_size, statements_size, statement_code}
use Rattle.c_checked.specs.Statement as tree
use Rattle.c_checked.proofs.StatementTrees as made
use Rattle.seh_ir.proofs.StatementTrees as trees
use Rattle.seh_ir.proofs.StatementCodes.{when_is, if_is, if_else_is, for_is, do_is, tried_is, except_is, finally_is, statements_next}
use Rattle.seh_ir.proofs.statements.+statements.Goals as goal

pub statements_by_size-loop-stmt-preserved : goal.statements_by_size-loop-stmt-preserved
statements_by_size-loop-stmt-preserved t c = λ rest p.
    let items = c.args.stmts.now in
    let i = c.loop-stmt.stmt-index in
    let x = c.stmt-item.result in
    let before = c.loop-stmt.invariant rest p in
    let last = with_all_parts (tree.statements (map tree.statement (drop (i + 1) items))) rest in
    let first = before.1 ∙ at_drop_more (λ (ss : List Stmt). with_all_parts
    (tree.statements (map tree.statement ss)) rest) items i x c.loop-stmt-test.true
    ∙ ap (λ s. with_parts (tree.statement s) last) (sym c.stmt-item.is) in
    let made = c.in_ok-statement.ensures last first in (
      statements_next c.args.scope.now items i x _ _ _ c.loop-stmt-test.true c.stmt-item.is before.0
          made.0,
      made.1,
    )

pub when-returns : goal.when-returns
when-returns t c =
    let s = tree.statement c.args.then.now in
    on_ok_weaker c.statement.result
    (λ h rest p.
    let size = c.next_size-size.ensures.last (with_parts s rest) (statement_size s) p in
    let made = h rest size.1 in (
      when_is c.args.scope.now (expression c.args.condition.now) s _ c.args.more
          c.args.code.now.items _ _ _ size.0 c.in_ok-expression.ensures c.in_ok-test.ensures made.0,
      made.1,
    ))
    c.statement.ensures

pub for_loop-returns : goal.for_loop-returns
for_loop-returns t c =
    let s = tree.statement c.args.body.now in
    on_ok_weaker c.put_all.result
    (λ h rest p.
    let size = c.next_size-size.ensures.last (with_parts s rest) (statement_size s) p in
    let made = (rw c.in_loop.ensures at c.in_ok-statement.ensures) rest size.1 in (
      for_is c.args.scope.now (map tree.declared c.args.declared.now)
          (option_map expression c.args.first.now) (option_map expression c.args.condition.now)
          (option_map expression c.args.next.now) s _ _ _ _ _ _ _
          c.args.code.now.items _ _ _ _ _ _ _ c.in_ok-condition_size.ensures
          size.0 c.in_ok-discarded_size.ensures c.in_ok-turn.ensures
          c.in_ok-last.ensures c.in_ok-again.ensures c.in_ok-end.ensures
          c.in_ok-declare_all.ensures c.in_ok-discarded.ensures c.in_ok-tested.ensures
          made.0 c.in_ok-put.ensures
          c.in_ok-discarded-2.ensures (rw c.here-iteration.ensures at h),
      made.1,
    ))
    c.put_all.ensures

pub do_loop-returns : goal.do_loop-returns
do_loop-returns t c =
    let s = tree.statement c.args.body.now in
    on_ok_weaker c.end_do.result
    (λ h rest p.
    let size = c.next_size-size.ensures.last (with_parts s rest) (statement_size s) p in
    let made = (rw c.in_loop.ensures at c.in_ok-statement.ensures) rest size.1 in (
      do_is c.args.scope.now s (expression c.args.condition.now)
          _ _ _ _ _ c.args.code.now.items _ _ _ _ size.0 c.in_ok-expression_size.ensures
          c.in_ok-last.ensures c.in_ok-again.ensures c.in_ok-end.ensures
          made.0 c.in_ok-put.ensures
          c.in_ok-expression.ensures (rw c.here-begin.ensures at h),
      made.1,
    ))
    c.end_do.ensures

pub tried-returns : goal.tried-returns
tried-returns t c =
    let ss = tree.statements (map tree.statement c.args.body.now) in
    on_ok_weaker c.land.result
    (λ h rest p.
    let size = c.next_size-size.ensures.last (with_all_parts ss rest) (statements_size ss) p in
    let made = (rw c.in_try.ensures at c.in_ok-statements_by_size.ensures) rest size.1 in (
      tried_is c.args.scope.now ss _
          c.args.handler _ _ _ c.args.code.now.items _ _ size.0 c.in_ok-sum.ensures
          c.in_ok-both.ensures c.in_ok-end.ensures made.0 h,
      made.1,
    ))
    c.land.ensures

pub try_finally-returns : goal.try_finally-returns
try_finally-returns t c =
    let ss = tree.statements (map tree.statement c.args.body.now) in
    on_ok_weaker c.call_finally.result
    (λ h rest p.
    let size = c.next_size-size.ensures.last (with_all_parts ss rest) (statements_size ss) p in
    let made = (rw c.in_guarded.ensures at c.in_ok-statements_by_size.ensures) rest size.1 in (
      finally_is c.args.scope.now ss
          c.args.number Empty _ _ c.args.code.now.items _ _ size.0 c.in_ok-end.ensures
          made.0 h,
      made.1,
    ))
    c.call_finally.ensures

pub statement-returns-in-None : goal.statement-returns-in-None
statement-returns-in-None t c =
    let is = made.if_none c.in-If.condition c.in-If.then c.in-If.otherwise
    c.args.stmt.now c.in-If.is c.in-None.is in
    on_ok_weaker c.when.result
    (λ h rest p.
    let made = (rw c.deref-in-None.ensures at h) rest (p ∙ ap (λ s. with_parts s rest) is) in (
      if_is _ _ _ _ _ _ is made.0,
      made.1,
    ))
    c.when.ensures

pub statement-returns-in_ok-statement-in-Some : goal.statement-returns-in_ok-statement-in-Some
statement-returns-in_ok-statement-in-Some t c =
    let s = tree.statement c.in-If.then.value in
    let other = tree.statement c.in-Some.other.value in
    let is = made.if_some c.in-If.condition c.in-If.then
    c.in-If.otherwise c.in-Some.other c.args.stmt.now c.in-If.is c.in-Some.is in
    on_ok_weaker c.skip-in-Some.result
    (λ h rest p.
    let last = with_parts other rest in
    let more = c.next_size-more.ensures.last (part s last) (statement_size other)
    (p ∙ ap (λ s. with_parts s rest) is) in
    let first = (rw c.deref-in-Some.ensures at c.in_ok-when-in-Some.ensures) last more.1 in
    let second = (rw c.deref-in-Some-2.ensures at c.in_ok-statement-in-Some.ensures) rest first.1
    in (
      if_else_is _ _ _ _ _ _ _ _ _ _ _ is more.0 first.0 c.in_ok-skip-in-Some.ensures second.0 h,
      second.1,
    ))
    c.skip-in-Some.ensures

pub other_statement-returns-in_ok-tried-in-TryExcept :
    goal.other_statement-returns-in_ok-tried-in-TryExcept
other_statement-returns-in_ok-tried-in-TryExcept t c =
    let body = tree.statements (map tree.statement c.in-TryExcept.body.items) in
    let handler = tree.statements (map tree.statement c.in-TryExcept.handler.items) in
    let is = ap tree.statement c.in-TryExcept.is
    ∙ made.try_except_is c.in-TryExcept.body c.in-TryExcept.filter c.in-TryExcept.handler in
    on_ok_weaker c.statements_by_size.result
    (λ h rest p.
    let last = with_all_parts handler rest in
    let size = c.next_size-size.ensures.last (block body last) (statements_size handler)
    (p ∙ ap (λ s. with_parts s rest) is) in
    let first = (rw c.deref-in-TryExcept.ensures.value at c.in_ok-tried-in-TryExcept.ensures) last
    size.1 in
    let second = (rw c.deref-in-TryExcept-2.ensures.value at h) rest first.1 in (
      except_is _ _ _ _ _ _ _ _ _ _ is size.0 c.in_ok-inner-in-TryExcept.ensures first.0 second.0,
      second.1,
    ))
    c.statements_by_size.ensures

pub other_statement-returns-in-TryFinally : goal.other_statement-returns-in-TryFinally
other_statement-returns-in-TryFinally t c =
    let old = c.args.code.now.items in
    let is = ap tree.statement c.in-TryFinally.is
    ∙ trees.try_finally_is c.in-TryFinally.body c.in-TryFinally.number
    c.in-TryFinally.finally_block in
    on_ok_weaker c.try_finally.result
    (λ h rest p.
    let made = (rw c.deref-in-TryFinally.ensures.value at h) rest
    (p ∙ ap (λ s. with_parts s rest) is) in (
      made.0 ∙ ap (λ s. old ++ statement_code c.args.scope.now s (length old)) (sym is),
      made.1,
    ))
    c.try_finally.ensures

pub statement-returns-in-Block : goal.statement-returns-in-Block
statement-returns-in-Block t c =
    let old = c.args.code.now.items in
    let is = ap tree.statement c.in-Block.is ∙ trees.block_is c.in-Block.stmts in
    on_ok_weaker c.statements_by_size.result
    (λ h rest p.
    let made = (rw c.deref.ensures.value at h) rest
    (p ∙ ap (λ s. with_parts s rest) is) in (
      made.0 ∙ ap (λ s. old ++ statement_code c.args.scope.now s (length old)) (sym is),
      made.1,
    ))
    c.statements_by_size.ensures
