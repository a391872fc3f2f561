use Rattle.std.proofs.Common.{refl}
use Rattle.c_parse_stmt.proofs.Room.{deep_statement, no_statement}
use Rattle.c_parse_stmt.proofs.parts.no_room_for_statement.Goals as goal

pub returns-then-begins_statement : goal.returns-then-begins_statement
returns-then-begins_statement c = rw c.too_deep.ensures
    (λ left none. deep_statement left c.args.text.now c.args.tokens.now none
    (c.if-begins_statement.ensures.some refl))

pub returns-else-begins_statement : goal.returns-else-begins_statement
returns-else-begins_statement c = rw c.unexpected.ensures
    (λ left none. no_statement left c.args.text.now c.args.tokens.now none
    (c.if-begins_statement.ensures.none refl))
