use Rattle.std.proofs.Common.{◌∙◌, ap, refl}
use Rattle.c_expressions.proofs.Valued.{valued}
use Rattle.c_expressions.proofs.values.to_answer.Goals as goal
use Rattle.c_expressions.specs.Words.{least_of, kept, TypeClash, as_type, int, unless_holds, is_integer, typed_node}
use Rattle.c_resolved.specs.Statements as definitions

pub returns-in-Some : goal.returns-in-Some
returns-in-Some c =
    let a = c.in-Some.a in
    valued c.args.faults.now c.unless_holds.new.faults c.args.found a c.as_type.result
    (definitions.to_answer c.args.at) (as_type int (typed_node a))
    (unless_holds (is_integer a.«of») c.args.at TypeClash)
    c.in-Some.is (c.as_type.ensures ∙ ap (λ t. as_type t (typed_node a)) c.plain.ensures)
    (c.unless_holds.ensures ∙ ap (λ b. kept (least_of c.args.faults.now)
    (unless_holds b c.args.at TypeClash)) c.is_integer.ensures) (λ fs. refl)
