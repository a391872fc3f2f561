use Rattle.c_stacked.proofs.Walked.{DeclaredLeft, declared_marked, all_declared_marked}
use Rattle.c_stacked.proofs.marked_statements.mark_all_declared.Goals as goal

pub loop-one-preserved : goal.loop-one-preserved
loop-one-preserved c =
    declared_marked c.args.declared.now c.loop-one.one-index c.one-item.result c.loop-one.marks
    c.mark_optional.new.marks (DeclaredLeft c.args.declared.now 0 c.args.marks.now)
    c.loop-one-test.true c.one-item.is c.mark_optional.ensures c.loop-one.invariant

pub returns : goal.returns
returns c =
    all_declared_marked c.args.declared.now c.loop-one.one-index c.loop-one.marks
    (DeclaredLeft c.args.declared.now 0 c.args.marks.now) c.loop-one-test.false
    c.loop-one.invariant
