use Rattle.std.proofs.Common.{refl}
use Rattle.c_parse_stmt.proofs.Room.{deep_expression, no_expression}
use Rattle.c_parse_stmt.proofs.parts.no_room_for_expression.Goals as goal

pub returns-then-begins_expression : goal.returns-then-begins_expression
returns-then-begins_expression c = rw c.too_deep.ensures
    (λ end lacks. deep_expression end c.args.text.now c.args.tokens.now lacks
    (c.if-begins_expression.ensures.some refl))

pub returns-else-begins_expression : goal.returns-else-begins_expression
returns-else-begins_expression c = rw c.unexpected.ensures
    (λ end lacks. no_expression end c.args.text.now c.args.tokens.now lacks
    (c.if-begins_expression.ensures.none refl))
