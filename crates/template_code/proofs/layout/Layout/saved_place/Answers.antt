use Rattle.std.proofs.Common.{◌≡◌, ℕ, suc, ◌+◌, drop, ap, ◌∙◌, arith}
use Rattle.template_code.specs.Places.{place_among}
use Rattle.template_code.specs.declared.layout.TheConstants.{LOCAL_REGISTERS}
use Rattle.template_code.proofs.Places.{place_passed}
use Rattle.template_code.proofs.layout.Layout.saved_place.Goals as goal

pub loop-index-preserved : goal.loop-index-preserved
loop-index-preserved c =
    let ns = c.args.self.now.registers in
    let i = c.loop-index.index in
    let lt = c.loop-index-test.true in
    let next : suc i ≡ i + 1 = omega arith in
    c.loop-index.invariant
    ∙ place_passed ns LOCAL_REGISTERS i c.args.local c.in-Some.number (omega arith) c.in-Some.is
    c.if-number-local.false
    ∙ ap (λ (j : ℕ). place_among (drop j ns) (drop j LOCAL_REGISTERS) c.args.local) next
