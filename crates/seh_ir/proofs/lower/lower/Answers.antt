use Rattle.std.proofs.Common.{◌≡◌, ◌+◌, ◌<◌, List, length, map, get_or, ap, subst, ◌∙◌, arith}
use Rattle.c_checked.specs.declared.function.Function.{Function}
use Rattle.seh_ir.specs.Words.{linear_function, linear_funclet}
use Rattle.seh_ir.proofs.Lowering.{functions_next, all_next, mapped}
use Rattle.seh_ir.proofs.lower.lower.Goals as goal

pub loop-f-preserved : goal.loop-f-preserved
loop-f-preserved c =
    let items = c.args.checked.now.functions.items in
    let i = c.loop-f.f-index in
    let x = c.f-item.result in
    let lt = subst (λ (fs : List Function). i < length fs) c.deref-f-items.ensures.value
    c.loop-f-test.true in
    let is = c.f-item.is ∙ ap (λ (fs : List Function). get_or fs i x)
    c.deref-f-items.ensures.value in
    let n : c.in_ok-number.number ≡ c.loop-f.number + 1 = c.in_ok-number.ensures in
    let at = c.loop-f.invariant.0 in (
      omega arith,
      functions_next items i x (linear_function c.in_ok-function.function)
          (map linear_function c.loop-f.functions.items) (map linear_function c.push.new.self.items)
          lt is c.loop-f.invariant.1 c.in_ok-function.ensures
          (mapped linear_function c.loop-f.functions.items c.push.new.self.items
          c.in_ok-function.function c.in_ok-push.ensures.items),
      all_next items i c.loop-f.number x (map linear_funclet c.loop-f.funclets.items)
          (map linear_funclet c.lower_funclets.new.funclets.items) lt is at c.loop-f.invariant.2
          c.in_ok-lower_funclets.ensures,
    )
