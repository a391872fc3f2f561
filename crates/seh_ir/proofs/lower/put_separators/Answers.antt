use Rattle.std.proofs.Common.{◌≡◌, ◌++◌, [], ◌∷◌, replicate, sym, ap, ◌∙◌, append_assoc, arith}
use Rattle.std.proofs.lemmas.List.{append-nil, replicate_more}
use Rattle.linear_code.specs.declared.instruction.Instruction.TheVariants.{Separator}
use Rattle.seh_ir.proofs.lower.put_separators.Goals as goal

pub loop-init : goal.loop-init
loop-init c = sym (append-nil c.args.code.now.items)

pub loop-preserved : goal.loop-preserved
loop-preserved c =
    c.in_ok-push.ensures.items ∙ ap (λ xs. xs ++ Separator ∷ []) c.loop.invariant
    ∙ append_assoc c.args.code.now.items (replicate c.loop.counter Separator) (Separator ∷ [])
    ∙ ap (λ xs. c.args.code.now.items ++ xs) (replicate_more c.loop.counter Separator)

pub returns : goal.returns
returns c =
    let e : c.loop.counter ≡ c.args.count = omega arith in
    c.loop.invariant ∙ ap (λ n. c.args.code.now.items ++ replicate n Separator) e
