use Rattle.std.proofs.Common.{sym, ap, ◌∙◌, subst}
use Rattle.seh_dispatch.specs.Words.{distance, arrivals}
use Rattle.seh_dispatch.proofs.advancing.arrive.Goals as goal

pub returns-then-not-may_arrive-clause-shown : goal.returns-then-not-may_arrive-clause-shown
returns-then-not-may_arrive-clause-shown g c =
    let cpu = c.args.cpu.now in
    let fs = c.args.funclets.now in
    subst (λ es. g.V.Events.took c.args.to.now es c.args.to.now)
    (sym (ap (λ b. arrivals cpu (distance b cpu.rip) 1 fs) (sym c.base.ensures)
    ∙ c.may_arrive.ensures fs c.requires.admitted c.if-not-may_arrive.true))
    (g.met.V.Events.none c.args.to.now)
