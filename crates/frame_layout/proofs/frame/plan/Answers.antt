use Rattle.std.proofs.Common.{◌+◌, ◌*◌, ◌≤◌, sym, subst}
use Rattle.template_code.specs.declared.layout.TheConstants.{FRAME_BY_WEIGHT}
use Rattle.frame_layout.specs.Layout.{IsFrame, IsLaidOut, IsFramedBySize}
use Rattle.frame_layout.specs.declared.frame.FrameLayout.{FrameLayout}
use Rattle.frame_layout.proofs.Frames.{parts, laid_out, framed_by_size, small, size_is}
use Rattle.frame_layout.proofs.Planned.{frames_are_planned}
use Rattle.frame_layout.proofs.frame.plan.Goals as goal

pub returns-clause-laid_out : goal.returns-clause-laid_out
returns-clause-laid_out c = subst (IsLaidOut c.args.facts.now) (sym c.laid_out.ensures)
    (laid_out c.args.facts.now)

pub returns-clause-framed : goal.returns-clause-framed
returns-clause-framed c = subst (IsFramedBySize c.args.facts.now) (sym c.laid_out.ensures)
    (framed_by_size c.args.facts.now)

pub returns-clause-parts : goal.returns-clause-parts
returns-clause-parts c = subst IsFrame (sym c.laid_out.ensures) (parts c.args.facts.now c.requires)

pub returns-clause-small : goal.returns-clause-small
returns-clause-small c = subst
    (λ (f : FrameLayout). f.depth + 8 ≤ FRAME_BY_WEIGHT * c.args.facts.now.weight)
    (sym c.laid_out.ensures) (small c.args.facts.now c.requires)

pub returns-clause-size : goal.returns-clause-size
returns-clause-size c = λ probe. size_is c.laid_out.result probe
    (subst IsFrame (sym c.laid_out.ensures) (parts c.args.facts.now c.requires))

pub returns-clause-plan : goal.returns-clause-plan
returns-clause-plan c = λ probe near. frames_are_planned c.laid_out.result probe
    (subst IsFrame (sym c.laid_out.ensures) (parts c.args.facts.now c.requires)) near
