use Rattle.std.proofs.Common.{◌≡◌, ◌++◌, ℕ, List, ap, ◌∙◌, arith}
use Rattle.generated_program.specs.GeneratedText.{call, for_each}
use Rattle.generated_program.proofs.Texts.{none, one_more}
use Rattle.generated_program.proofs.generating.put_calls.Goals as goal

pub loop-k-init : goal.loop-k-init
loop-k-init c = none call c.args.text.now.items

pub loop-k-preserved : goal.loop-k-preserved
loop-k-preserved c = one_more call c.loop-k.k c.args.text.now.items _
    (c.in_ok-put_call.ensures ∙ ap (λ (t : List ℕ). t ++ call c.loop-k.k) c.loop-k.invariant)

pub returns : goal.returns
returns c =
    let all : c.loop-k.k ≡ 256 = omega arith in
    c.loop-k.invariant ∙ ap (λ k. c.args.text.now.items ++ for_each call k) all
