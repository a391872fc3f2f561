use Rattle.c_stacked.proofs.Walked.{ArgumentsLeft, argument_marked, arguments_marked}
use Rattle.c_stacked.proofs.addresses.+mark.Goals as goal

pub mark_arguments-loop-argument-preserved : goal.mark_arguments-loop-argument-preserved
mark_arguments-loop-argument-preserved t c =
    argument_marked c.args.arguments.now c.loop-argument.argument-index c.argument-item.result
    c.loop-argument.marks c.mark_expression.new.marks
    (ArgumentsLeft c.args.arguments.now 0 c.args.marks.now) c.loop-argument-test.true
    c.argument-item.is c.mark_expression.ensures c.loop-argument.invariant

pub mark_arguments-returns : goal.mark_arguments-returns
mark_arguments-returns t c =
    arguments_marked c.args.arguments.now c.loop-argument.argument-index c.loop-argument.marks
    (ArgumentsLeft c.args.arguments.now 0 c.args.marks.now) c.loop-argument-test.false
    c.loop-argument.invariant
