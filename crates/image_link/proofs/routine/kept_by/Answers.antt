use Rattle.std.proofs.Common.{subst}
use Rattle.image_link.specs.Words.{linear_program, HasParent}
use Rattle.image_link.proofs.Fitting.{funclet_fits, funclet_below}
use Rattle.image_link.proofs.routine.kept_by.Goals as goal

pub funclet_frame-requires : goal.funclet_frame-requires
funclet_frame-requires c =
    let p = linear_program c.args.program.now in
    (funclet_fits p c.args.program.now.funclets.items c.in-Some.index c.index.result.now
    c.requires.program.funclets (funclet_below c.args.program.now.funclets.items c.in-Some.index
    (subst (HasParent p) c.in-Some.is c.requires.parent)) c.index.ensures).body
