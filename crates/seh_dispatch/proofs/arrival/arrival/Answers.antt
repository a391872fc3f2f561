use Rattle.std.proofs.Common.{◌∙◌, ◌∷◌, [], sym, ap, arith}
use Rattle.seh_dispatch.specs.Words.{Event, distance}
use Rattle.seh_dispatch.proofs.FuncletOrder.{past_all, between, arrives}
use Rattle.seh_dispatch.proofs.arrival.arrival.Goals as goal

pub returns-then-index-funclets : goal.returns-then-index-funclets
returns-then-index-funclets c =
    sym (past_all c.args.cpu.now (distance c.args.base c.args.cpu.now.rip)
    c.count_below-index.result c.args.funclets.now c.requires.ascending
    c.count_below-index.ensures.below c.count_below-index.ensures.later (omega arith))

pub returns-then-rva-funclet : goal.returns-then-rva-funclet
returns-then-rva-funclet c =
    sym (between c.args.cpu.now (distance c.args.base c.args.cpu.now.rip) c.count_below-index.result
    c.args.funclets.now c.requires.ascending c.count_below-index.ensures.below
    c.count_below-index.ensures.later (omega arith) c.if-rva-funclet.true)

pub returns : goal.returns
returns c =
    ap (λ (e : Event). e ∷ []) c.by_kind.ensures
    ∙ sym (arrives c.args.cpu.now (distance c.args.base c.args.cpu.now.rip)
    c.count_below-index.result c.args.funclets.now c.requires.ascending
    c.count_below-index.ensures.below c.count_below-index.ensures.later (omega arith)
    c.if-rva-funclet.false)
