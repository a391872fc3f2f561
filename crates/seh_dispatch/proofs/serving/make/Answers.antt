use Rattle.std.proofs.Common.{ap, ◌∙◌}
use Rattle.host_model.specs.HostStep.{served}
use Rattle.seh_dispatch.specs.Words.{HostedProcessor, functions_of, state_of}
use Rattle.seh_num.specs.declared.end.RunEnd.TheVariants as ends
use Rattle.seh_dispatch.specs.declared.outcome.TurnOutcome.TheVariants as outcomes
use Rattle.seh_dispatch.proofs.StepTurns.{fault_turned, service_turned, guard_turned}
use Rattle.seh_dispatch.proofs.TurnEvents.{told_later, all_told_turn}
use Rattle.seh_dispatch.proofs.serving.make.Goals as goal

pub returns-in-Fault : goal.returns-in-Fault
returns-in-Fault g c =
    let t = functions_of c.args.tables.now in
    told_later t c.raised-rest.new.machine (g.S.CodeSpace.memory c.raised-rest.new.space)
    c.raised-rest.result _
    (c.raised-rest.ensures ∙ fault_turned t c.args.machine.now c.step.new.cpu
    (g.S.CodeSpace.memory c.args.space.now) (g.S.CodeSpace.memory c.step.new.space)
    c.in-Fault.code c.in-Fault.access c.in-Fault.ensures.answer c.step.ensures.cpu
    c.step.ensures.memory)

pub returns-in-Host : goal.returns-in-Host
returns-in-Host g c =
    let t = functions_of c.args.tables.now in
    let n = g.S.CodeSpace.memory c.step.new.space in
    let new : HostedProcessor = record c.args.machine.now { cpu = c.step.new.cpu } in
    c.serve.ensures
    ∙ ap (served t (state_of new n)) c.at.ensures
    ∙ service_turned t c.args.machine.now c.step.new.cpu (g.S.CodeSpace.memory c.args.space.now) n
    c.in-Host.address c.in-Host.ensures.answer c.step.ensures.cpu c.step.ensures.memory

pub returns-in-Guard : goal.returns-in-Guard
returns-in-Guard g c =
    let t = functions_of c.args.tables.now in
    let new : HostedProcessor = record c.args.machine.now { cpu = c.step.new.cpu } in
    all_told_turn t new (g.S.CodeSpace.memory c.step.new.space) c.all_told-in-Guard.result
    (outcomes.Ends (ends.StackLimit c.in-Guard.address)) _ c.all_told-in-Guard.ensures
    (guard_turned t c.args.machine.now (g.S.CodeSpace.memory c.args.space.now) c.in-Guard.address
    c.in-Guard.ensures.answer)
