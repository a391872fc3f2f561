use Rattle.std.proofs.Common.{ap, sym, ◌∙◌, subst}
use Rattle.c_checked.specs.Expression.{lvalue}
use Rattle.c_checked.proofs.ExpressionTrees as made
use Rattle.source_meaning.specs.State.{set_local}
use Rattle.source_operations.specs.Reserved.{reserved_below}
use Rattle.source_plans.specs.Views as views
use Rattle.source_values.specs.Direct as spec
use Rattle.source_steps.specs.Machines.{state_of}
use Rattle.source_steps.specs.Directly.{WrittenTo}
use Rattle.source_steps.proofs.StackedPlaces.{stacked_is}
use Rattle.source_steps.proofs.machine.Interpreter.write.Goals as goal

pub returns-in-Local : goal.returns-in-Local
returns-in-Local c = λ es.
    let st = state_of c.args.self.now es in
    let p = views.place_of c.args.place in (
      set_local st p.activation c.in-Local.local c.args.value,
      ap (λ l. spec.written (reserved_below c.args.data_end) st p l c.args.address c.args.value)
          (ap lvalue c.in-Local.is ∙ made.local_is _),
      λ x. sym (c.set_local.ensures x es),
    )

pub returns-in-Global : goal.returns-in-Global
returns-in-Global c =
    subst (λ l. WrittenTo c.args.self.now (λ st. spec.written (reserved_below c.args.data_end) st
    (views.place_of c.args.place) l c.args.address c.args.value) c.store.new.self
    c.store.result) (sym (ap lvalue c.in-Global.is ∙ made.global_is _ _))
    c.store.ensures

pub returns-in-Stacked : goal.returns-in-Stacked
returns-in-Stacked c =
    subst (λ l. WrittenTo c.args.self.now (λ st. spec.written (reserved_below c.args.data_end) st
    (views.place_of c.args.place) l c.args.address c.args.value) c.store-in-Stacked.new.self
    c.store-in-Stacked.result) (sym (ap lvalue c.in-Stacked.is ∙ stacked_is _ _ _))
    c.store-in-Stacked.ensures

pub returns-in-Indirection : goal.returns-in-Indirection
returns-in-Indirection c =
    subst (λ l. WrittenTo c.args.self.now (λ st. spec.written (reserved_below c.args.data_end) st
    (views.place_of c.args.place) l c.args.address c.args.value) c.store-in-Indirection.new.self
    c.store-in-Indirection.result) (sym (ap lvalue c.in-Indirection.is ∙ made.indirection_is _ _))
    c.store-in-Indirection.ensures

pub returns-in-Element : goal.returns-in-Element
returns-in-Element c =
    subst (λ l. WrittenTo c.args.self.now (λ st. spec.written (reserved_below c.args.data_end) st
    (views.place_of c.args.place) l c.args.address c.args.value) c.store-in-Element.new.self
    c.store-in-Element.result) (sym (ap lvalue c.in-Element.is ∙ made.element_is _ _ _))
    c.store-in-Element.ensures
