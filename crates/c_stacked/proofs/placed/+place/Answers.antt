use Rattle.std.proofs.Common.{◌∙◌, refl, sym, ap, arith}
use Rattle.c_checked.specs.Expression.{arguments, expression}
use Rattle.c_resolved.specs.Placed.{place_expression}
use Rattle.c_stacked.specs.Views.{layout}
use Rattle.c_stacked.proofs.PlacedTrees.{placed_at, all_placed_at, indirection_placed, element_placed, unary_placed, not_placed, assign_placed, compound_placed, binary_placed, difference_placed, and_placed, or_placed, comma_placed, conditional_placed, call_placed, call_built_in_placed}
use Rattle.c_stacked.proofs.Walked.{next_unvisited, next_visited, all_visited, arguments_placed}
use Rattle.c_stacked.proofs.placed.+place.Goals as goal

pub place_arguments-loop-argument-init : goal.place_arguments-loop-argument-init
place_arguments-loop-argument-init t c = (
  (refl, λ k d le. refl),
  λ k d lt. absurd
      (omega (arith, lt)),
)

pub place_arguments-loop-argument-preserved : goal.place_arguments-loop-argument-preserved
place_arguments-loop-argument-preserved t c =
    let l = layout c.args.places.now in
    let xs = c.loop-argument.arguments in
    let ys = c.args.arguments.now in
    let i = c.loop-argument.argument-index in
    let new = c.place_expression.new.expr in (
      next_unvisited xs ys i new c.loop-argument.invariant.0,
      next_visited expression (λ e. place_expression l (expression e)) xs ys i
          c.argument-item.result new c.loop-argument-test.true c.loop-argument.invariant.0
          c.loop-argument.invariant.1 c.argument-item.is (c.place_expression.ensures
          ∙ ap (λ e. place_expression l (expression e)) (sym c.argument-item.is)),
    )

pub place_arguments-returns : goal.place_arguments-returns
place_arguments-returns t c =
    let l = layout c.args.places.now in
    ap arguments (all_visited expression (λ e. place_expression l (expression e))
    c.loop-argument.arguments c.args.arguments.now c.loop-argument.argument-index
    c.loop-argument-test.false c.loop-argument.invariant.0 c.loop-argument.invariant.1)
    ∙ arguments_placed l c.args.arguments.now

pub place_logical-returns-in-And : goal.place_logical-returns-in-And
place_logical-returns-in-And t c =
    let l = layout c.args.places.now in
    and_placed l c.in-And.left c.in-And.right c.place_expression.new.expr
    c.place_expression-in-And.new.expr
    c.args.node c.in-And.is
    (placed_at l c.deref_mut.result.now c.in-And.left.value c.place_expression.new.expr
    c.deref_mut.ensures.value c.place_expression.ensures)
    (placed_at l c.deref_mut-in-And.result.now c.in-And.right.value
    c.place_expression-in-And.new.expr c.deref_mut-in-And.ensures.value
    c.place_expression-in-And.ensures)

pub place_logical-returns-in-Or : goal.place_logical-returns-in-Or
place_logical-returns-in-Or t c =
    let l = layout c.args.places.now in
    or_placed l c.in-Or.left c.in-Or.right c.place_expression-in-Or.new.expr
    c.place_expression-in-Or-2.new.expr
    c.args.node c.in-Or.is
    (placed_at l c.deref_mut-in-Or.result.now c.in-Or.left.value c.place_expression-in-Or.new.expr
    c.deref_mut-in-Or.ensures.value c.place_expression-in-Or.ensures)
    (placed_at l c.deref_mut-in-Or-2.result.now c.in-Or.right.value
    c.place_expression-in-Or-2.new.expr c.deref_mut-in-Or-2.ensures.value
    c.place_expression-in-Or-2.ensures)

pub place_logical-returns-in-Comma : goal.place_logical-returns-in-Comma
place_logical-returns-in-Comma t c =
    let l = layout c.args.places.now in
    comma_placed l c.in-Comma.left c.in-Comma.right c.place_expression-in-Comma.new.expr
    c.place_expression-in-Comma-2.new.expr
    c.args.node c.in-Comma.is
    (placed_at l c.deref_mut-in-Comma.result.now c.in-Comma.left.value
    c.place_expression-in-Comma.new.expr c.deref_mut-in-Comma.ensures.value
    c.place_expression-in-Comma.ensures)
    (placed_at l c.deref_mut-in-Comma-2.result.now c.in-Comma.right.value
    c.place_expression-in-Comma-2.new.expr c.deref_mut-in-Comma-2.ensures.value
    c.place_expression-in-Comma-2.ensures)

pub place_logical-returns-in-Conditional : goal.place_logical-returns-in-Conditional
place_logical-returns-in-Conditional t c =
    let l = layout c.args.places.now in
    conditional_placed l c.in-Conditional.condition c.in-Conditional.yes c.in-Conditional.no
    c.place_expression-in-Conditional.new.expr c.place_expression-in-Conditional-2.new.expr
    c.place_expression-in-Conditional-3.new.expr
    c.args.node c.in-Conditional.is
    (placed_at l c.deref_mut-in-Conditional.result.now c.in-Conditional.condition.value
    c.place_expression-in-Conditional.new.expr c.deref_mut-in-Conditional.ensures.value
    c.place_expression-in-Conditional.ensures)
    (placed_at l c.deref_mut-in-Conditional-2.result.now c.in-Conditional.yes.value
    c.place_expression-in-Conditional-2.new.expr c.deref_mut-in-Conditional-2.ensures.value
    c.place_expression-in-Conditional-2.ensures)
    (placed_at l c.deref_mut-in-Conditional-3.result.now c.in-Conditional.no.value
    c.place_expression-in-Conditional-3.new.expr c.deref_mut-in-Conditional-3.ensures.value
    c.place_expression-in-Conditional-3.ensures)

pub place_lvalue-returns-in-Indirection : goal.place_lvalue-returns-in-Indirection
place_lvalue-returns-in-Indirection t c =
    let l = layout c.args.places.now in
    indirection_placed l c.in-Indirection.access c.in-Indirection.pointer
    c.place_expression.new.expr
    c.args.place c.in-Indirection.is
    (placed_at l c.deref_mut.result.now c.in-Indirection.pointer.value c.place_expression.new.expr
    c.deref_mut.ensures.value c.place_expression.ensures)

pub place_lvalue-returns-in-Element : goal.place_lvalue-returns-in-Element
place_lvalue-returns-in-Element t c =
    let l = layout c.args.places.now in
    element_placed l c.in-Element.access c.in-Element.array c.in-Element.index
    c.place_expression-in-Element.new.expr c.place_expression-in-Element-2.new.expr
    c.args.place c.in-Element.is
    (placed_at l c.deref_mut-in-Element.result.now c.in-Element.array.value
    c.place_expression-in-Element.new.expr c.deref_mut-in-Element.ensures.value
    c.place_expression-in-Element.ensures)
    (placed_at l c.deref_mut-in-Element-2.result.now c.in-Element.index.value
    c.place_expression-in-Element-2.new.expr c.deref_mut-in-Element-2.ensures.value
    c.place_expression-in-Element-2.ensures)

pub place_node-returns-in-Unary : goal.place_node-returns-in-Unary
place_node-returns-in-Unary t c =
    let l = layout c.args.places.now in
    unary_placed l c.in-Unary.operation c.in-Unary.operand c.place_expression.new.expr
    c.args.node c.in-Unary.is
    (placed_at l c.deref_mut.result.now c.in-Unary.operand.value c.place_expression.new.expr
    c.deref_mut.ensures.value c.place_expression.ensures)

pub place_node-returns-in-Not : goal.place_node-returns-in-Not
place_node-returns-in-Not t c =
    let l = layout c.args.places.now in
    not_placed l c.in-Not.operand c.place_expression-in-Not.new.expr
    c.args.node c.in-Not.is
    (placed_at l c.deref_mut-in-Not.result.now c.in-Not.operand.value
    c.place_expression-in-Not.new.expr c.deref_mut-in-Not.ensures.value
    c.place_expression-in-Not.ensures)

pub place_several-returns-in-PointerDifference : goal.place_several-returns-in-PointerDifference
place_several-returns-in-PointerDifference t c =
    let l = layout c.args.places.now in
    difference_placed l c.in-PointerDifference.size c.in-PointerDifference.left
    c.in-PointerDifference.right c.place_expression-in-PointerDifference.new.expr
    c.place_expression-in-PointerDifference-2.new.expr
    c.args.node c.in-PointerDifference.is
    (placed_at l c.deref_mut-in-PointerDifference.result.now c.in-PointerDifference.left.value
    c.place_expression-in-PointerDifference.new.expr
    c.deref_mut-in-PointerDifference.ensures.value
    c.place_expression-in-PointerDifference.ensures)
    (placed_at l c.deref_mut-in-PointerDifference-2.result.now c.in-PointerDifference.right.value
    c.place_expression-in-PointerDifference-2.new.expr
    c.deref_mut-in-PointerDifference-2.ensures.value
    c.place_expression-in-PointerDifference-2.ensures)

pub place_several-returns-in-Binary : goal.place_several-returns-in-Binary
place_several-returns-in-Binary t c =
    let l = layout c.args.places.now in
    binary_placed l c.in-Binary.operation c.in-Binary.left c.in-Binary.right
    c.place_expression-in-Binary.new.expr c.place_expression-in-Binary-2.new.expr
    c.args.node c.in-Binary.is
    (placed_at l c.deref_mut-in-Binary.result.now c.in-Binary.left.value
    c.place_expression-in-Binary.new.expr c.deref_mut-in-Binary.ensures.value
    c.place_expression-in-Binary.ensures)
    (placed_at l c.deref_mut-in-Binary-2.result.now c.in-Binary.right.value
    c.place_expression-in-Binary-2.new.expr c.deref_mut-in-Binary-2.ensures.value
    c.place_expression-in-Binary-2.ensures)

pub place_more-returns-in-Assign : goal.place_more-returns-in-Assign
place_more-returns-in-Assign t c =
    let l = layout c.args.places.now in
    assign_placed l c.in-Assign.target c.place_lvalue-target.result c.in-Assign.value
    c.place_expression.new.expr
    c.args.node c.in-Assign.is c.place_lvalue-target.ensures
    (placed_at l c.deref_mut-in-Assign.result.now c.in-Assign.value.value
    c.place_expression.new.expr c.deref_mut-in-Assign.ensures.value c.place_expression.ensures)

pub place_several-returns-in-CompoundAssign : goal.place_several-returns-in-CompoundAssign
place_several-returns-in-CompoundAssign t c =
    let l = layout c.args.places.now in
    compound_placed l c.in-CompoundAssign.target c.place_lvalue-target.result
    c.in-CompoundAssign.before c.in-CompoundAssign.operation c.in-CompoundAssign.value
    c.place_expression.new.expr c.in-CompoundAssign.after
    c.args.node c.in-CompoundAssign.is c.place_lvalue-target.ensures
    (placed_at l c.deref_mut.result.now c.in-CompoundAssign.value.value c.place_expression.new.expr
    c.deref_mut.ensures.value c.place_expression.ensures)

pub place_more-returns-in-CallBuiltIn : goal.place_more-returns-in-CallBuiltIn
place_more-returns-in-CallBuiltIn t c =
    let l = layout c.args.places.now in
    call_built_in_placed l c.in-CallBuiltIn.function c.in-CallBuiltIn.arguments
    c.place_arguments.new.arguments c.args.node
    c.in-CallBuiltIn.is (c.place_arguments.auto.arguments ∙ c.deref_mut.ensures.len)
    (all_placed_at l c.deref_mut.result.now c.in-CallBuiltIn.arguments.items
    c.place_arguments.new.arguments c.deref_mut.ensures.value c.place_arguments.ensures)

pub place_node-returns-in-Call : goal.place_node-returns-in-Call
place_node-returns-in-Call t c =
    let l = layout c.args.places.now in
    call_placed l c.in-Call.function c.in-Call.arguments c.place_arguments.new.arguments c.args.node
    c.in-Call.is (c.place_arguments.auto.arguments ∙ c.deref_mut-in-Call.ensures.len)
    (all_placed_at l c.deref_mut-in-Call.result.now c.in-Call.arguments.items
    c.place_arguments.new.arguments c.deref_mut-in-Call.ensures.value c.place_arguments.ensures)
