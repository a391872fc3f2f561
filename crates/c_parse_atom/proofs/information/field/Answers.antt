use Rattle.c_parse_atom.proofs.Introduced.{if_none}
use Rattle.c_parse_atom.proofs.Fields.{NoField, no_field, no_element, no_bracket, no_index}
use Rattle.c_parse_atom.proofs.Fields.{no_close}
use Rattle.c_parse_atom.proofs.information.field.Goals as goal

pub returns-in_err-rest-clause-none : goal.returns-in_err-rest-clause-none
returns-in_err-rest-clause-none c =
    if_none (NoField c.args.text.now c.args.tokens.now) c.from_residual.result
    (no_field c.args.text.now c.args.tokens.now c.in_default.ensures.none
    c.in_default-after_word.ensures.none c.in_default-after_word-2.ensures.none
    (no_element c.args.text.now c.args.tokens.now c.in_err-rest.ensures.none))

pub returns-in_err-rest-2-clause-none : goal.returns-in_err-rest-2-clause-none
returns-in_err-rest-2-clause-none c =
    if_none (NoField c.args.text.now c.args.tokens.now) c.from_residual-in_err-rest-2.result
    (no_field c.args.text.now c.args.tokens.now c.in_default.ensures.none
    c.in_default-after_word.ensures.none c.in_default-after_word-2.ensures.none
    (no_bracket c.args.text.now c.args.tokens.now c.in_ok-rest.rest.now c.in_ok-rest.ensures.found
    c.in_err-rest-2.ensures.none))

pub returns-in_err-index-clause-none : goal.returns-in_err-index-clause-none
returns-in_err-index-clause-none c =
    if_none (NoField c.args.text.now c.args.tokens.now) c.from_residual-in_err-index.result
    (no_field c.args.text.now c.args.tokens.now c.in_default.ensures.none
    c.in_default-after_word.ensures.none c.in_default-after_word-2.ensures.none
    (no_index c.args.text.now c.args.tokens.now c.in_ok-rest.rest.now c.in_ok-rest-2.rest.now
    c.in_ok-rest.ensures.found c.in_ok-rest-2.ensures.found c.in_err-index.ensures.none))

pub returns-in_err-rest-3-clause-none : goal.returns-in_err-rest-3-clause-none
returns-in_err-rest-3-clause-none c =
    if_none (NoField c.args.text.now c.args.tokens.now) c.from_residual-in_err-rest-3.result
    (no_field c.args.text.now c.args.tokens.now c.in_default.ensures.none
    c.in_default-after_word.ensures.none c.in_default-after_word-2.ensures.none
    (no_close c.args.text.now c.args.tokens.now c.in_ok-rest.rest.now c.in_ok-rest-2.rest.now
    c.in_ok-index.rest.now c.in_ok-index.index c.in_ok-index.at c.in_ok-rest.ensures.found
    c.in_ok-rest-2.ensures.found c.in_ok-index.ensures.found c.in_err-rest-3.ensures.none))
