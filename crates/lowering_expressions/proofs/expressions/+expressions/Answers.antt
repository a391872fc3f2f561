use Rattle.std.proofs.Common.{◌≡◌, ◌+◌, ◌++◌, length, arith, ap, ◌∙◌, refl, map}
use Rattle.std.proofs.lemmas.Result.{on_ok_weaker}
use Rattle.c_checked.specs.Expression as tree
use Rattle.c_checked.proofs.ExpressionTrees as made
use Rattle.lowering_expressions.specs.Expressions.{expression_code}
use Rattle.lowering_expressions.proofs.Arms.{element_is, assign_is, compound_is, increment_is, unary_is, binary_is, difference_is, choice_is, and_is, or_is, conditional_is, comma_is, call_is, call_built_in_is, arguments_next}
use Rattle.lowering_expressions.proofs.expressions.+expressions.Goals as goal

pub next_operand-returns : goal.next_operand-returns
next_operand-returns t c =
    on_ok_weaker c.expression.result
    (λ h. h ∙ ap (λ x. c.args.code.now.items ++ expression_code c.args.names
    (tree.expression c.args.expr.now) x (length c.args.code.now.items)) c.in_ok-next.ensures)
    c.expression.ensures

pub locate-returns-in_ok-next_operand-in-Element : goal.locate-returns-in_ok-next_operand-in-Element
locate-returns-in_ok-next_operand-in-Element t c =
    on_ok_weaker c.operate.result
    (λ h. element_is _ _ _ _ _ _ _ _ _ _ (ap tree.lvalue c.in-Element.is
    ∙ made.element_is c.in-Element.access c.in-Element.array c.in-Element.index)
    (rw c.deref-in-Element.ensures at c.in_ok-expression-in-Element.ensures)
    (rw c.deref-in-Element-2.ensures at c.in_ok-next_operand-in-Element.ensures) h)
    c.operate.ensures

pub assignment-returns-in_ok-expression-in-Assign :
    goal.assignment-returns-in_ok-expression-in-Assign
assignment-returns-in_ok-expression-in-Assign t c =
    on_ok_weaker c.assign.result
    (λ h. assign_is _ _ _ _ _ _ _ _ _ _ (ap tree.node c.in-Assign.is
    ∙ made.assign_is c.in-Assign.target c.in-Assign.value) c.in_ok-from-in-Assign.ensures
    c.in_ok-locate-in-Assign.ensures (rw c.deref.ensures at
    c.in_ok-expression-in-Assign.ensures) h)
    c.assign.ensures

pub assignment-returns-in_ok-expression-in-CompoundAssign :
    goal.assignment-returns-in_ok-expression-in-CompoundAssign
assignment-returns-in_ok-expression-in-CompoundAssign t c =
    on_ok_weaker c.end_compound.result
    (λ h. compound_is _ _ _ _ _ _ _ _ _ _ _ _ _ _ _
    (ap tree.node c.in-CompoundAssign.is ∙ made.compound_is c.in-CompoundAssign.target
    c.in-CompoundAssign.before c.in-CompoundAssign.operation c.in-CompoundAssign.value
    c.in-CompoundAssign.after) c.in_ok-old-in-CompoundAssign.ensures
    c.in_ok-next-in-CompoundAssign.ensures c.in_ok-locate-in-CompoundAssign.ensures
    c.in_ok-begin_compound-in-CompoundAssign.ensures
    (rw c.deref-in-CompoundAssign.ensures at c.in_ok-expression-in-CompoundAssign.ensures) h)
    c.end_compound.ensures

pub several-returns-in_ok-next_operand-in-Binary : goal.several-returns-in_ok-next_operand-in-Binary
several-returns-in_ok-next_operand-in-Binary t c =
    on_ok_weaker c.operate.result
    (λ h. binary_is _ _ _ _ _ _ _ _ _ _ (ap tree.node c.in-Binary.is
    ∙ made.binary_is c.in-Binary.operation c.in-Binary.left c.in-Binary.right)
    (rw c.deref.ensures at c.in_ok-expression-in-Binary.ensures)
    (rw c.deref-in-Binary.ensures at c.in_ok-next_operand-in-Binary.ensures) h)
    c.operate.ensures

pub several-returns-in_ok-next_operand-in-PointerDifference :
    goal.several-returns-in_ok-next_operand-in-PointerDifference
several-returns-in_ok-next_operand-in-PointerDifference t c =
    on_ok_weaker c.end_difference.result
    (λ h. difference_is _ _ _ _ _ _ _ _ _ _ (ap tree.node c.in-PointerDifference.is
    ∙ made.difference_is c.in-PointerDifference.size c.in-PointerDifference.left
    c.in-PointerDifference.right) (rw c.deref-in-PointerDifference.ensures at
    c.in_ok-expression-in-PointerDifference.ensures)
    (rw c.deref-in-PointerDifference-2.ensures at
    c.in_ok-next_operand-in-PointerDifference.ensures) h)
    c.end_difference.ensures

pub several-returns-in_ok-next_operand-in-Comma : goal.several-returns-in_ok-next_operand-in-Comma
several-returns-in_ok-next_operand-in-Comma t c =
    on_ok_weaker c.copy_down.result
    (λ h. comma_is _ _ _ _ _ _ _ _ _ (ap tree.node c.in-Comma.is
    ∙ made.comma_is c.in-Comma.left c.in-Comma.right)
    (rw c.deref-in-Comma.ensures at c.in_ok-expression-in-Comma.ensures)
    (rw c.deref-in-Comma-2.ensures at c.in_ok-next_operand-in-Comma.ensures) h)
    c.copy_down.ensures

pub choice-returns : goal.choice-returns
choice-returns t c =
    on_ok_weaker c.choose.result
    (λ h. choice_is c.args.names (tree.expression c.args.expr.now) c.args.d c.args.zero c.args.other
    c.args.code.now.items _ _ c.in_ok-expression.ensures h)
    c.choose.ensures

pub branch-returns-in_ok-test_before-in-And : goal.branch-returns-in_ok-test_before-in-And
branch-returns-in_ok-test_before-in-And t c =
    on_ok_weaker c.choice.result
    (λ h. and_is _ _ _ _ _ _ _ _ _ (ap tree.node c.in-And.is
    ∙ made.and_is c.in-And.left c.in-And.right)
    (rw c.deref.ensures at c.in_ok-expression-in-And.ensures)
    (rw c.deref-in-And.ensures at c.in_ok-test_before-in-And.ensures)
    (rw c.deref-in-And-2.ensures at h))
    c.choice.ensures

pub branch-returns-in_ok-skip_before-in-Or : goal.branch-returns-in_ok-skip_before-in-Or
branch-returns-in_ok-skip_before-in-Or t c =
    on_ok_weaker c.choice-in-Or.result
    (λ h. or_is _ _ _ _ _ _ _ _ _ _ _ (ap tree.node c.in-Or.is
    ∙ made.or_is c.in-Or.left c.in-Or.right)
    (rw c.deref-in-Or.ensures at c.in_ok-expression-in-Or.ensures) c.in_ok-test-in-Or.ensures
    (rw c.constant.ensures at c.in_ok-put-in-Or.ensures)
    (rw c.deref-in-Or-2.ensures at c.in_ok-skip_before-in-Or.ensures)
    (rw c.deref-in-Or-3.ensures at h))
    c.choice-in-Or.ensures

pub branch-returns-in_ok-skip_before-in-Conditional :
    goal.branch-returns-in_ok-skip_before-in-Conditional
branch-returns-in_ok-skip_before-in-Conditional t c =
    on_ok_weaker c.expression-in-Conditional-3.result
    (λ h. conditional_is _ _ _ _ _ _ _ _ _ _ _ _
    (ap tree.node c.in-Conditional.is ∙ made.conditional_is c.in-Conditional.condition
    c.in-Conditional.yes c.in-Conditional.no)
    (rw c.deref-in-Conditional.ensures at c.in_ok-expression-in-Conditional.ensures)
    (rw c.deref-in-Conditional-2.ensures at c.in_ok-test_before-in-Conditional.ensures)
    (rw c.deref-in-Conditional-3.ensures at c.in_ok-expression-in-Conditional-2.ensures)
    (rw c.deref-in-Conditional-4.ensures at c.in_ok-skip_before-in-Conditional.ensures)
    (rw c.deref-in-Conditional-5.ensures at h))
    c.expression-in-Conditional-3.ensures

pub arguments-loop-arg-preserved : goal.arguments-loop-arg-preserved
arguments-loop-arg-preserved t c =
    let e : c.in_ok-next.next ≡ c.loop-arg.next + 1 = c.in_ok-next.ensures in
    let f = c.loop-arg.invariant.0 in (
      omega arith,
      arguments_next c.args.names c.args.args.now c.loop-arg.arg-index c.args.d
          c.loop-arg.next c.arg-item.result c.args.code.now.items c.loop-arg.code.items
          c.expression.new.code.items c.loop-arg-test.true c.arg-item.is f c.loop-arg.invariant.1
          c.in_ok-expression.ensures,
    )

pub node-returns-in_ok-locate-in-Increment : goal.node-returns-in_ok-locate-in-Increment
node-returns-in_ok-locate-in-Increment t c =
    on_ok_weaker c.increment.result
    (λ h. increment_is _ _ _ _ _ _ _ _ _ _ _ _ (ap tree.node c.in-Increment.is
    ∙ made.increment_is c.in-Increment.fixity c.in-Increment.target c.in-Increment.before
    c.in-Increment.operation c.in-Increment.amount c.in-Increment.after)
    c.in_ok-locate-in-Increment.ensures h)
    c.increment.ensures

pub node-returns-in_ok-expression-in-Unary : goal.node-returns-in_ok-expression-in-Unary
node-returns-in_ok-expression-in-Unary t c =
    on_ok_weaker c.unary.result
    (λ h. unary_is _ _ _ _ _ _ _ _ (ap tree.node c.in-Unary.is
    ∙ made.unary_is c.in-Unary.operation c.in-Unary.operand)
    (rw c.deref.ensures at c.in_ok-expression-in-Unary.ensures) h)
    c.unary.ensures

pub call-returns : goal.call-returns
call-returns t c =
    on_ok_weaker c.put.result
    (λ h. call_is c.args.names c.args.function c.args.args.now _ c.args.d _ c.args.code.now.items _
    _ refl c.count_of.ensures c.in_ok-arguments.ensures h)
    c.put.ensures

pub call_built_in-returns : goal.call_built_in-returns
call_built_in-returns t c =
    on_ok_weaker c.put.result
    (λ h. call_built_in_is c.args.names c.args.function
    (tree.arguments (map tree.expression c.args.args.now)) _ c.args.d c.args.code.now.items _ _
    refl c.in_ok-arguments.ensures h)
    c.put.ensures
