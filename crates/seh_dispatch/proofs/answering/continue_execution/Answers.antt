use Rattle.std.proofs.Common.{true, None, sym, ap, ◌∙◌}
use Rattle.std.proofs.lemmas.Bool.{ne_eqb}
use Rattle.seh_num.specs.declared.event.Event.TheVariants as events
use Rattle.host_model.specs.Dispatch.{noncontinuable, continued, again}
use Rattle.seh_dispatch.specs.Words.{functions_of, state_of, DispatchRecord, asks_on}
use Rattle.seh_dispatch.proofs.TurnEvents.{led_told}
use Rattle.seh_dispatch.proofs.answering.continue_execution.Goals as goal

pub returns : goal.returns
returns g c =
    let t = functions_of c.args.tables.now in
    let s = state_of c.args.machine.now (g.S.CodeSpace.memory c.args.space.now) in
    let d = c.args.dispatch.now in
    led_told c.ask_on-outcome.new.machine (g.S.CodeSpace.memory c.ask_on-outcome.new.space)
    c.ask_on-outcome.result (events.Raise noncontinuable true None)
    (asks_on t s c.args.at (again d))
    (c.ask_on-outcome.ensures ∙ ap (λ (r : DispatchRecord). asks_on t s c.args.at r)
    c.again.ensures)
    ∙ ap (continued t s c.args.at d) (sym (ne_eqb _ 0 c.if-dispatch-eq0.false))
