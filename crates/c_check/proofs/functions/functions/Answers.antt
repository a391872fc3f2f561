use Rattle.std.proofs.Common.{[], ◌∷◌, subst, ◌∙◌}
use Rattle.c_check.proofs.FunctionsInOrder.{functions_on}
use Rattle.c_check.proofs.functions.functions.Goals as goal
use Rattle.c_check.specs.Functions.{AddsFunctions}
use Rattle.c_check.specs.Words.{SymbolTable, least_of, scopes_of, functions_of, external_declaration}

pub loop-x-preserved : goal.loop-x-preserved
loop-x-preserved c =
    let text = c.args.text.now in
    let p = c.loop-x.progress in
    let t = c.args.names.now in
    let one = subst (λ (k : SymbolTable). AddsFunctions p c.one.new.progress (functions_of text
    (scopes_of k) (external_declaration c.x-item.result ∷ []) p.number)) c.loop-x.invariant.0
    c.in_ok-one.ensures.added in (
      c.in_ok-one.ensures.names ∙ c.loop-x.invariant.0,
      functions_on text (scopes_of t) c.args.xs.now c.loop-x.x-index c.x-item.result
          (least_of c.args.faults) p c.one.new.progress c.loop-x-test.true c.x-item.is one
          c.loop-x.invariant.1,
    )
