use Rattle.std.proofs.Common.{◌≡◌, ◌+◌, ◌≤◌, ◌++◌, [], ◌∷◌, length, ap, sym, ◌∙◌, arith, None}
use Rattle.std.proofs.lemmas.Bool.{ltb-false}
use Rattle.seh_num.specs.declared.event.Event.TheVariants as events
use Rattle.c_checked.specs.Expression as tree
use Rattle.source_machine.specs.Frames as frames
use Rattle.source_machine.specs.Plans as plans
use Rattle.source_machine.specs.Machine as model
use Rattle.source_steps.specs.Activations.{frames_of}
use Rattle.source_plans.specs.Views as views
use Rattle.source_steps.specs.Machines.{machine_of}
use Rattle.source_steps.proofs.Deep.{too_deep_is, goes_deeper}
use Rattle.source_steps.proofs.machine.Interpreter.run_filter.Goals as goal

pub returns-then-is_deep : goal.returns-then-is_deep
returns-then-is_deep c = λ x es.
    too_deep_is _ (machine_of c.args.self.now x es) _ _
    (sym (c.is_deep.ensures es) ∙ c.if-is_deep.true)
    (λ i. machine_of c.args.self.now ((c.silent.ensures.next ∙ c.too_deep.ensures) i)
    (c.silent.ensures.shown c.args.self.now es i))

pub returns : goal.returns
returns c = λ x es.
    let m = c.args.self.now in
    let shallow : length (frames_of m.activations) + m.held + 2 ≤ 1000 =
    ltb-false 1000 (length (frames_of m.activations) + m.held + 2)
    (sym (c.is_deep.ensures es) ∙ c.if-is_deep.false) in
    let held_is : c.saturating_add-self.result ≡ m.held + 2 =
    omega (arith, c.saturating_add-self.ensures) in
    let event = events.Filter c.args.number in
    let next = plans.evaluates (tree.expression c.args.value.now)
    (record {
      activation = c.args.handler.activation;
      data_part = None;
      exception =
          views.exception_of c.args.exception;
      abnormal = c.args.handler.abnormal;
    }) in
    goes_deeper _ (machine_of m x es) _ (sym (c.is_deep.ensures es) ∙ c.if-is_deep.false)
    ∙ ap (λ h. model.follow (machine_of (record m { held = h }) x (es ++ event ∷ []))
    (frames.Push (frames.InStatement frames.EndsFilter) next)) (sym held_is)
    ∙ c.in_ok-push.ensures next x (es ++ event ∷ [])
    ∙ (λ i. machine_of c.push.new.self (sym (c.showing.ensures.next ∙ c.evaluates.ensures) i)
    (sym (c.showing.ensures.shown c.push.new.self es) i))
