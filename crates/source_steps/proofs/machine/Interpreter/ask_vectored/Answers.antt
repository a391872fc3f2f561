use Rattle.std.proofs.Common.{◌≡◌, ◌+◌, ◌≤◌, length, ap, sym, ◌∙◌, arith}
use Rattle.std.proofs.lemmas.Bool.{ltb-false}
use Rattle.source_meaning.specs.Raises.{handler_arguments}
use Rattle.source_machine.specs.Frames as frames
use Rattle.source_machine.specs.Machine as model
use Rattle.source_plans.specs.Views as views
use Rattle.source_steps.specs.Activations.{frames_of}
use Rattle.source_steps.specs.Machines.{machine_of}
use Rattle.source_steps.proofs.Deep.{too_deep_is, goes_deeper}
use Rattle.source_steps.proofs.machine.Interpreter.ask_vectored.Goals as goal

pub returns-then-is_deep : goal.returns-then-is_deep
returns-then-is_deep c = λ x es.
    too_deep_is _ (machine_of c.args.self.now x es) _ _
    (sym (c.is_deep.ensures es) ∙ c.if-is_deep.true)
    (λ i. machine_of c.args.self.now (c.too_deep.ensures i) es)

pub returns : goal.returns
returns c = λ x es.
    let m = c.args.self.now in
    let shallow : length (frames_of m.activations) + m.held + 2 ≤ 1000 =
    ltb-false 1000 (length (frames_of m.activations) + m.held + 2)
    (sym (c.is_deep.ensures es) ∙ c.if-is_deep.false) in
    let held_is : c.saturating_add-self.result ≡ m.held + 2 =
    omega (arith, c.saturating_add-self.ensures) in
    let exc = views.exception_of c.args.exception in
    let p = views.place_of c.args.place in
    let f = frames.Defined c.args.handler in
    let next = frames.Call f (handler_arguments exc) p in
    goes_deeper _ (machine_of m x es) _ (sym (c.is_deep.ensures es) ∙ c.if-is_deep.false)
    ∙ ap (λ h. model.follow (machine_of (record m { held = h }) x es)
    (frames.Push (frames.InStatement (frames.EndsVectored c.args.asked.value exc p)) next))
    (sym held_is)
    ∙ c.in_ok-push.ensures next x es
    ∙ ap (λ vs. machine_of c.push.new.self (frames.Call f vs p) es)
    (sym c.in_ok-values.ensures)
