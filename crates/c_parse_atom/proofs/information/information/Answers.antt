use Rattle.c_parse_atom.proofs.Introduced.{if_none}
use Rattle.c_parse_atom.proofs.Fields.{NoInformation, whole, not_introduced, not_a_field}
use Rattle.c_parse_atom.proofs.information.information.Goals as goal

pub returns-in_err-at-clause-none : goal.returns-in_err-at-clause-none
returns-in_err-at-clause-none c =
    if_none (NoInformation c.args.text.now c.args.tokens.now) c.from_residual.result
    (not_introduced c.args.text.now c.args.tokens.now c.in_err-at.ensures.none)

pub returns-in_err-field-clause-none : goal.returns-in_err-field-clause-none
returns-in_err-field-clause-none c =
    if_none (NoInformation c.args.text.now c.args.tokens.now) c.from_residual-in_err-field.result
    (not_a_field c.args.text.now c.args.tokens.now c.in_ok-at.rest.now c.in_ok-at.at
    c.in_ok-at.ensures.found c.in_err-field.ensures.none)

pub returns-clause-found : goal.returns-clause-found
returns-clause-found c = whole c.args.text.now c.in_ok-at.at c.in_ok-field.field c.args.tokens.now
    c.in_ok-at.rest.now c.in_ok-field.rest.now c.in_ok-at.ensures.found c.in_ok-field.ensures.found
