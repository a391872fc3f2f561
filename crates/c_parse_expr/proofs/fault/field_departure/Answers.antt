use Rattle.c_parse_expr.proofs.Departing.{nameless, no_bracket_there, no_index_there, no_close_there}
use Rattle.c_parse_expr.proofs.fault.field_departure.Goals as goal

pub returns-in_default : goal.returns-in_default
returns-in_default c = nameless c.args.text.now c.args.tokens.now c.requires
    c.in_default.ensures.none

pub returns-in_default-after : goal.returns-in_default-after
returns-in_default-after c = no_bracket_there c.args.text.now c.args.tokens.now
    c.in-Some.bracket.now c.requires c.in-Some.ensures.found c.in_default-after.ensures.none

pub returns-in-Some-integer : goal.returns-in-Some-integer
returns-in-Some-integer c =
    no_close_there c.args.text.now c.args.tokens.now c.in-Some.bracket.now c.in-Some-after.index.now
    c.in-Some-integer.rest.now c.in-Some-integer.field-0-0 c.in-Some-integer.field-0-1 c.requires
    c.in-Some.ensures.found c.in-Some-after.ensures.found c.in-Some-integer.ensures.found

pub returns-in-None : goal.returns-in-None
returns-in-None c = no_index_there c.args.text.now c.args.tokens.now c.in-Some.bracket.now
    c.in-Some-after.index.now c.requires c.in-Some.ensures.found c.in-Some-after.ensures.found
    c.in-None.ensures.none
