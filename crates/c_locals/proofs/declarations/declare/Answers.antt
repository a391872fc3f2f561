use Rattle.std.proofs.Common.{◌∙◌, ◌++◌, ◌∷◌, [], refl, ap}
use Rattle.c_locals.specs.Words.{with_block, with_name, entity, spelled, CType}
use Rattle.c_locals.proofs.DeclarationLocals.{declared_local}
use Rattle.c_locals.proofs.declarations.declare.Goals as goal

pub returns : goal.returns
returns c =
    let l = c.args.local.now in
    let of : CType = record { base = c.args.base; pointers = l.pointers } in
    let names = c.args.names.now in
    declared_local c.args.env.now c.args.base l c.args.state.now _ _ _ _ names _
    c.count_of-number.ensures
    (c.in_ok-declare.ensures ∙ ap (λ k. with_block names (with_name names.block k
    (entity c.meaning_of.result))) c.spelled.ensures
    ∙ ap (λ k. with_block names (with_name names.block
    (spelled c.args.env.now.text.now l.name) k)) c.meaning_of.ensures)
    (c.in_ok-push.ensures.items ∙ ap (λ k. c.args.state.now.sizes.items ++ k ∷ [])
    c.size_of.ensures)
    (c.in_ok-push-2.ensures.items
    ∙ ap (λ k. c.args.state.now.variables.items ++ k ∷ []) c.variable_of.ensures)
    refl c.check_local.ensures c.in_ok-value.ensures
