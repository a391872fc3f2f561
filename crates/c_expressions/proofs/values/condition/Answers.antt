use Rattle.std.proofs.Common.{◌∙◌, ap, refl}
use Rattle.c_expressions.proofs.Valued.{valued}
use Rattle.c_expressions.proofs.values.condition.Goals as goal
use Rattle.c_expressions.specs.Words.{least_of, kept, TypeClash, as_is, unless_holds, is_scalar, typed_node}
use Rattle.c_resolved.specs.Statements as definitions

pub returns-in-Some : goal.returns-in-Some
returns-in-Some c =
    let a = c.in-Some.a in
    valued c.args.faults.now c.unless_holds.new.faults c.args.found a c.as_is.result
    (definitions.condition c.args.at) (as_is (typed_node a))
    (unless_holds (is_scalar a.«of») c.args.at TypeClash)
    c.in-Some.is c.as_is.ensures (c.unless_holds.ensures
    ∙ ap (λ b. kept (least_of c.args.faults.now) (unless_holds b c.args.at TypeClash))
    c.is_scalar.ensures) (λ fs. refl)
