use Rattle.std.proofs.Common.{subst, sym, IfOk}
use Rattle.c_checked.specs.Statement as trees
use Rattle.source_machine.specs.Machine as model
use Rattle.source_plans.specs.Views as views
use Rattle.source_steps.specs.Machines.{Moved}
use Rattle.source_steps.proofs.machine.Interpreter.declare.Goals as goal

pub returns-in-None : goal.returns-in-None
returns-in-None c = λ program ends.
    let d = trees.declared c.args.declared.now in
    subst (λ o. IfOk c.declare_local.result (Moved c.args.self.now c.declare_local.new.self
    (λ m. model.declared_at program m o d.local d.value (views.place_of c.args.place))))
    (sym c.in-None.is) (c.declare_local.ensures program)

pub returns-in-Some : goal.returns-in-Some
returns-in-Some c = λ program ends.
    let d = trees.declared c.args.declared.now in
    subst (λ o. IfOk c.declare_stacked.result (Moved c.args.self.now c.declare_stacked.new.self
    (λ m. model.declared_at program m o d.local d.value (views.place_of c.args.place))))
    (sym c.in-Some.is) (c.declare_stacked.ensures program ends)
