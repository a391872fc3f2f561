use Rattle.std.proofs.Common.{◌+◌, rules, arith}
use Rattle.std.proofs.lemmas.Grind.{common_steps}
use Rattle.std.specs.Ordering.{nat_cmp}
use Rattle.std.specs.BTreeMap.{get}
use Rattle.std.proofs.lemmas.Bool.{leb-true}
use Rattle.image_code.proofs.StoredCode.{unless_some}
use Rattle.image_code.proofs.code_view.are_unbound.Goals as goal

pub returns-in-None : goal.returns-in-None
returns-in-None c = λ unbound n lt. (c.range.ensures.in_range tt).5 c.in-None.ensures.steps.0
    (c.args.rva + n) (search rules)

pub returns-in-Some : goal.returns-in-Some
returns-in-Some c = λ far n lt. unless_some (get nat_cmp c.args.bound.now (c.args.rva + n))
    (λ some. let h = (c.range.ensures.in_range tt).2 (c.args.rva + n) (search rules) some in
    let apart = leb-true _ _ far in
    grind (arith, common_steps, h, c.in-Some.ensures.steps, apart, c.saturating_sub.ensures, lt))
