use Rattle.std.proofs.Common.{◌∙◌, map, ap}
use Rattle.std.proofs.lemmas.Result.{IfOk-weaker}
use Rattle.c_locals.specs.Words.{statement}
use Rattle.c_locals.proofs.DeclarationLocals.{resolves_as, statements_are}
use Rattle.c_locals.proofs.declarations.declare_all.Goals as goal

pub returns : goal.returns
returns c = IfOk-weaker c.as_statements.result _ _
    (λ v h. resolves_as _ _ c.args.state.now _ _ (map statement v.items) _
    (ap (map statement) h ∙ statements_are c.in_ok-made.made.items) c.in_ok-made.ensures)
    c.as_statements.ensures
