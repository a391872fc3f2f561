use Rattle.std.proofs.Common.{◌+◌, ◌<◌, drop, length, ap, sym, ◌∙◌, arith}
use Rattle.seh_num.specs.declared.width.Width.TheVariants.{W8}
use Rattle.source_machine.specs.Machine.{brought}
use Rattle.source_steps.specs.Machines.{machine_of}
use Rattle.source_steps.specs.DataStack.{unless_over}
use Rattle.source_steps.proofs.Stacked.{brought_step}
use Rattle.source_steps.proofs.machine.Interpreter.bring.Goals as goal

pub returns-in-Some : goal.returns-in-Some
returns-in-Some c = λ program ends plan x es.
    let d = c.args.frame.now in
    let ps = d.parameters.items in
    let i = c.loop-parameter.parameter-index in
    let go = brought program d.base (drop (i + 1) ps) c.args.activation plan in
    let same = c.deref-parameter-items.ensures.value in
    let test = c.loop-parameter-test.true in
    let there : i < length ps = omega (arith, ap length same) in
    sym (c.loop-parameter.invariant program ends plan x es)
    ∙ brought_step program c.args.data_end ends (machine_of c.perform_stacked.new.self x es)
    c.perform_stacked.result d.base c.args.activation i c.local-base.result c.local-value.result ps
    c.deref-parameter-items.result.now (record { parameter = 0; width = W8; offset = 0 }) plan
    (machine_of c.loop-parameter.self x es) there same c.local-base.ensures c.local-value.ensures
    (λ go. c.perform_stacked.ensures go x es)
    ∙ ap (λ how. unless_over how go (machine_of c.perform_stacked.new.self x es)) c.in-Some.is

pub loop-parameter-preserved : goal.loop-parameter-preserved
loop-parameter-preserved c = λ program ends plan x es.
    let d = c.args.frame.now in
    let ps = d.parameters.items in
    let i = c.loop-parameter.parameter-index in
    let go = brought program d.base (drop (i + 1) ps) c.args.activation plan in
    let same = c.deref-parameter-items.ensures.value in
    let test = c.loop-parameter-test.true in
    let there : i < length ps = omega (arith, ap length same) in
    ap (λ how. unless_over how go (machine_of c.perform_stacked.new.self x es))
    (sym c.in_default.is)
    ∙ sym (brought_step program c.args.data_end ends (machine_of c.perform_stacked.new.self x es)
    c.perform_stacked.result d.base c.args.activation i c.local-base.result c.local-value.result ps
    c.deref-parameter-items.result.now (record { parameter = 0; width = W8; offset = 0 }) plan
    (machine_of c.loop-parameter.self x es) there same c.local-base.ensures c.local-value.ensures
    (λ go. c.perform_stacked.ensures go x es))
    ∙ c.loop-parameter.invariant program ends plan x es
