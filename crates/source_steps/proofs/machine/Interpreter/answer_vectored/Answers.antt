use Rattle.std.proofs.Common.{◌≡◌, ◌-◌, sym, ◌∙◌, arith}
use Rattle.std.proofs.lemmas.Result.{IfOk-weaker}
use Rattle.source_machine.specs.Machine as model
use Rattle.source_steps.specs.Machines.{machine_of}
use Rattle.source_steps.proofs.machine.Interpreter.answer_vectored.Goals as goal

pub returns : goal.returns
returns c =
    let m = c.args.self.now in
    let held_is : c.saturating_sub-self.result ≡ m.held - 2 =
    omega (arith, c.saturating_sub-self.ensures) in
    IfOk-weaker c.follow.result _ _
    (λ next h x es.
    (λ i. model.follow (machine_of (record m { held = sym held_is i }) x es)
    (sym c.vectored_plan.ensures i))
    ∙ h x es)
    c.follow.ensures
