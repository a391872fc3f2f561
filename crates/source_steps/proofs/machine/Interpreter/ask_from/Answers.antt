use Rattle.std.proofs.Common.{◌<◌, length, ap, sym, ◌∙◌, arith}
use Rattle.std.proofs.lemmas.List.{length-map}
use Rattle.std.proofs.lemmas.Option.{slice_get_within}
use Rattle.source_meaning.specs.Tasks as tasks
use Rattle.source_machine.specs.Frames as frames
use Rattle.source_machine.specs.Machine as model
use Rattle.source_plans.specs.Views as views
use Rattle.source_steps.specs.Machines.{machine_of}
use Rattle.source_steps.proofs.machine.Interpreter.ask_from.Goals as goal

pub new-asked-requires : goal.new-asked-requires
new-asked-requires c =
    let there : c.args.from < length c.args.self.now.vectored =
    slice_get_within c.args.self.now.vectored c.args.from c.in-Some.handler
    (sym c.get.ensures ∙ c.in-Some.is) in
    omega (arith, there, c.len-length.ensures)

pub returns-in-None : goal.returns-in-None
returns-in-None c = λ x es.
    let m = c.args.self.now in
    let exc = views.exception_of c.args.exception in
    let p = views.place_of c.args.place in
    ap (λ h. model.asked_vectored (machine_of m x es) h c.args.from exc p)
    (sym c.get.ensures ∙ c.in-None.is)
    ∙ ap (λ n. machine_of m (frames.Search n exc p) es)
    (length-map m.handlers.items views.handler_of ∙ sym m.handlers.ok.0 ∙ sym c.len.ensures)

pub returns-in-Some : goal.returns-in-Some
returns-in-Some c = λ x es.
    let m = c.args.self.now in
    let exc = views.exception_of c.args.exception in
    let p = views.place_of c.args.place in
    ap (λ h. model.asked_vectored (machine_of m x es) h c.args.from exc p)
    (sym c.get.ensures ∙ c.in-Some.is)
    ∙ ap (λ place. machine_of m (frames.Start (tasks.AskVectored c.in-Some.handler place exc) p) es)
    (sym c.new-asked.ensures)
    ∙ ap (λ n. machine_of m n es) (sym c.start.ensures)
