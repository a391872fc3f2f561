use Rattle.c_parse_expr.proofs.Arguing.{deep_there, none_there}
use Rattle.c_parse_expr.proofs.Placing.{placed_as}
use Rattle.c_parse_expr.proofs.expressions.no_argument.Goals as goal

pub returns-then-begins : goal.returns-then-begins
returns-then-begins c = placed_as _ _ _ _ _ _ c.too_deep.ensures
    (deep_there c.args.text.now c.args.tokens.now c.requires
    (c.begins.ensures.begins c.if-begins.true))

pub returns-else-begins : goal.returns-else-begins
returns-else-begins c = placed_as _ _ _ _ _ _ c.unexpected.ensures
    (none_there c.args.text.now c.args.tokens.now c.requires
    (c.begins.ensures.never c.if-begins.false))
