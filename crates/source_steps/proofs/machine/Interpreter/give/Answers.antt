use Rattle.std.proofs.Common.{ap, ◌++◌, ◌∙◌, map}
use Rattle.std.specs.Prelude.{reverse, option_to_list}
use Rattle.std.proofs.lemmas.Result.{IfOk-weaker}
use Rattle.source_machine.specs.Machine as model
use Rattle.source_plans.specs.Views as views
use Rattle.source_steps.specs.Machines.{machine_of}
use Rattle.source_steps.proofs.Stacks.{pushed}
use Rattle.source_steps.proofs.machine.Interpreter.give.Goals as goal

pub returns-in-Some : goal.returns-in-Some
returns-in-Some c =
    let how = views.result_of c.args.how in
    let all = c.pop.ensures.items ∙ ap (λ o. c.pop.new.self.items ++ option_to_list o)
    c.in-Some.is in
    IfOk-weaker c.resume.result _ _
    (λ step h x es.
    ap (λ fs. model.given (machine_of c.args.self.now x es) how fs)
    (ap (λ fs. reverse (map views.frame_of fs)) all ∙ pushed c.pop.new.self.items c.in-Some.frame)
    ∙ h x es)
    c.resume.ensures
