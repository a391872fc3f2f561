use Rattle.std.proofs.Common.{◌++◌, [], ◌∷◌, length, map, ap, sym, ◌∙◌, eq-eqb}
use Rattle.std.proofs.lemmas.List.{length-map}
use Rattle.seh_num.specs.declared.event.Event.TheVariants as events
use Rattle.source_machine.specs.Frames as frames
use Rattle.source_machine.specs.Machine as model
use Rattle.source_plans.specs.Views as views
use Rattle.source_steps.specs.Machines.{machine_of}
use Rattle.source_steps.proofs.machine.Interpreter.land.Goals as goal

pub returns : goal.returns
returns c = λ x es.
    let m = c.args.self.now in
    let m' = c.reset_pointer.new.self in
    let p = views.place_of c.args.place in
    let exc = views.exception_of c.args.exception in
    let block = views.all_statements c.args.block.now.items in
    let event = events.Except (record { 0 = c.args.exception.code }) in
    let next = frames.Proceed block (record p { exception = exc }) in
    let innermost = eq-eqb c.args.level (length (map views.handler_of m.handlers.items))
    (c.if-level-len.false ∙ c.len.ensures ∙ m.handlers.ok.0
    ∙ sym (length-map m.handlers.items views.handler_of)) in
    ap (λ b. model.target_landed (machine_of m x es) b c.args.held block p c.args.level exc)
    innermost
    ∙ c.reset_pointer.ensures next (es ++ event ∷ [])
    ∙ (λ i. machine_of m' (sym c.showing.ensures.next i) (sym (c.showing.ensures.shown m' es) i))
