use Rattle.std.proofs.Common.{◌∙◌, ap, refl}
use Rattle.c_expressions.proofs.Valued.{valued}
use Rattle.c_expressions.proofs.values.to_type.Goals as goal
use Rattle.c_expressions.specs.Words.{least_of, kept, TypeClash, as_type, can_become, unless_holds, typed_node}
use Rattle.c_resolved.specs.Statements as definitions

pub returns-in-Some : goal.returns-in-Some
returns-in-Some c =
    let a = c.in-Some.a in
    valued c.args.faults.now c.unless_holds.new.faults c.args.found a c.as_type.result
    (definitions.to_type c.args.t c.args.at) (as_type c.args.t (typed_node a))
    (unless_holds (can_become c.args.t (typed_node a)) c.args.at TypeClash)
    c.in-Some.is c.as_type.ensures (c.unless_holds.ensures
    ∙ ap (λ b. kept (least_of c.args.faults.now) (unless_holds b c.args.at TypeClash))
    c.can_become.ensures) (λ fs. refl)
