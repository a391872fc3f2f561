use Rattle.std.proofs.Common.{subst, sym, ap, ◌∙◌, IfOk}
use Rattle.c_checked.specs.Expression.{lvalue}
use Rattle.c_checked.proofs.ExpressionTrees as made
use Rattle.source_machine.specs.Machine as model
use Rattle.source_plans.specs.Views as views
use Rattle.source_steps.specs.Machines.{Moved}
use Rattle.source_steps.proofs.StackedPlaces.{stacked_is}
use Rattle.source_steps.proofs.machine.Interpreter.fetch.Goals as goal

pub returns-in-Global : goal.returns-in-Global
returns-in-Global c =
    subst (λ l. IfOk c.load.result (Moved c.args.self.now c.load.new.self
    (λ m. model.fetched m l c.args.address (views.place_of c.args.place))))
    (sym (ap lvalue c.in-Global.is ∙ made.global_is _ _)) c.load.ensures

pub returns-in-Stacked : goal.returns-in-Stacked
returns-in-Stacked c =
    subst (λ l. IfOk c.load-in-Stacked.result (Moved c.args.self.now c.load-in-Stacked.new.self
    (λ m. model.fetched m l c.args.address (views.place_of c.args.place))))
    (sym (ap lvalue c.in-Stacked.is ∙ stacked_is _ _ _)) c.load-in-Stacked.ensures

pub returns-in-Indirection : goal.returns-in-Indirection
returns-in-Indirection c =
    subst (λ l. IfOk c.load-in-Indirection.result
    (Moved c.args.self.now c.load-in-Indirection.new.self
    (λ m. model.fetched m l c.args.address (views.place_of c.args.place))))
    (sym (ap lvalue c.in-Indirection.is ∙ made.indirection_is _ _)) c.load-in-Indirection.ensures

pub returns-in-Element : goal.returns-in-Element
returns-in-Element c =
    subst (λ l. IfOk c.load-in-Element.result (Moved c.args.self.now c.load-in-Element.new.self
    (λ m. model.fetched m l c.args.address (views.place_of c.args.place))))
    (sym (ap lvalue c.in-Element.is ∙ made.element_is _ _ _)) c.load-in-Element.ensures
