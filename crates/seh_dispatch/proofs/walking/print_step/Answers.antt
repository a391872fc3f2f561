use Rattle.std.proofs.Common.{ap, subst, ◌∙◌}
use Rattle.seh_dispatch.specs.Words.{functions_of, followed, shown_at}
use Rattle.seh_dispatch.proofs.walking.print_step.Goals as goal

pub returns-clause-next : goal.returns-clause-next
returns-clause-next g c = c.follow.ensures (functions_of c.args.tables.now) c.args.at.now
    ∙ ap followed c.visit.ensures.item

pub returns-clause-shown : goal.returns-clause-shown
returns-clause-shown g c = let t = functions_of c.args.tables.now in
    subst (λ es. g.V.Events.took c.args.to.now es c.tell.new.to)
    (c.event_found.ensures ∙ ap (shown_at t c.args.at.now) c.visit.ensures.item) c.tell.ensures
