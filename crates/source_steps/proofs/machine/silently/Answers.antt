use Rattle.std.proofs.Common.{subst, sym, ◌∙◌, IfOk}
use Rattle.source_steps.specs.Machines.{machine_of, Moved}
use Rattle.source_steps.proofs.machine.silently.Goals as goal

pub returns-in-Ok : goal.returns-in-Ok
returns-in-Ok c = λ m m' change moved x es.
    subst (λ r. IfOk r (Moved m m' change)) c.in-Ok.is moved x es
    ∙ (λ i. machine_of m' (sym c.silent.ensures.next i) (sym (c.silent.ensures.shown m' es) i))
