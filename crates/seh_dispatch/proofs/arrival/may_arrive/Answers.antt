use Rattle.seh_dispatch.specs.Words.{distance}
use Rattle.seh_dispatch.proofs.FuncletOrder.{no_funclet, none_arrives}
use Rattle.seh_dispatch.proofs.arrival.may_arrive.Goals as goal

pub returns : goal.returns
returns c = λ fs admitted e.
    none_arrives c.args.cpu.now (distance c.args.base c.args.cpu.now.rip) 1 fs no_funclet
    (λ k lt. c.may_begin.ensures fs k no_funclet admitted e lt)
