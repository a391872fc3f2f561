use Rattle.std.proofs.Common.{◌<◌, ◌≤◌, length, ap, subst, sym, ◌∙◌, arith, IfOk}
use Rattle.source_machine.specs.Machine as model
use Rattle.source_plans.specs.Views as views
use Rattle.source_steps.specs.Machines.{machine_of, Moved}
use Rattle.source_steps.proofs.Handlers.{handler_there, handler_past}
use Rattle.source_steps.proofs.machine.Interpreter.ask_numbered.Goals as goal

pub returns-then-number-len : goal.returns-then-number-len
returns-then-number-len c = λ x es.
    let hs = c.args.self.now.handlers in
    let past : length hs.items ≤ c.args.number = let k = hs.ok.0 in omega arith in
    ap (λ o. model.asked (machine_of c.args.self.now x es) o c.args.number
    (views.exception_of c.args.exception) (views.place_of c.args.place))
    (handler_past hs.items c.args.number past)
    ∙ c.unhandled.ensures (machine_of c.args.self.now x es)

pub returns : goal.returns
returns c =
    let hs = c.args.self.now.handlers in
    let there : c.args.number < length hs.items = let k = hs.ok.0 in omega arith in
    subst (λ o. IfOk c.ask.result (Moved c.args.self.now c.ask.new.self
    (λ m. model.asked m o c.args.number (views.exception_of c.args.exception)
    (views.place_of c.args.place))))
    (sym (handler_there hs.items c.args.number c.index-handler.result.now there
    c.index-handler.ensures)) c.ask.ensures
