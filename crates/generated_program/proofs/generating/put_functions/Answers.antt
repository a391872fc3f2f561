use Rattle.std.proofs.Common.{◌≡◌, ◌++◌, ℕ, List, ap, ◌∙◌, arith}
use Rattle.generated_program.specs.GeneratedText.{for_each, function}
use Rattle.generated_program.proofs.Texts.{none, one_more}
use Rattle.generated_program.proofs.generating.put_functions.Goals as goal

pub loop-k-init : goal.loop-k-init
loop-k-init c = none (function c.args.n) c.args.text.now.items

pub loop-k-preserved : goal.loop-k-preserved
loop-k-preserved c = one_more (function c.args.n) c.loop-k.k c.args.text.now.items _
    (c.in_ok-put_function.ensures
    ∙ ap (λ (t : List ℕ). t ++ function c.args.n c.loop-k.k) c.loop-k.invariant)

pub returns : goal.returns
returns c =
    let all : c.loop-k.k ≡ 256 = omega arith in
    c.loop-k.invariant ∙ ap (λ k. c.args.text.now.items ++ for_each (function c.args.n) k) all
