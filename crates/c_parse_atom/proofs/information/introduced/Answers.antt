use Rattle.c_parse_atom.proofs.Introduced.{if_none, Nowhere, after_keyword, after_opening}
use Rattle.c_parse_atom.proofs.Introduced.{after_closing, after_arrow, after_record, no_opening}
use Rattle.c_parse_atom.proofs.Introduced.{no_closing, no_arrow, no_record, no_last_arrow}
use Rattle.c_parse_atom.proofs.information.introduced.Goals as goal

pub returns-in_err-at-clause-none : goal.returns-in_err-at-clause-none
returns-in_err-at-clause-none c =
    if_none (Nowhere c.args.text.now c.args.tokens.now) c.from_residual.result
    (λ at rest h. c.in_err-at.ensures.none at h.after_keyword h.keyword)

pub returns-in_err-rest-clause-none : goal.returns-in_err-rest-clause-none
returns-in_err-rest-clause-none c =
    let text = c.args.text.now in
    let ts = c.args.tokens.now in
    let keyword =
    after_keyword text ts c.in_ok-at.rest.now c.in_ok-at.at c.in_ok-at.ensures.found in
    if_none (Nowhere text ts) c.from_residual-in_err-rest.result
    (no_opening text ts c.in_ok-at.rest.now keyword c.in_err-rest.ensures.none)

pub returns-in_err-rest-2-clause-none : goal.returns-in_err-rest-2-clause-none
returns-in_err-rest-2-clause-none c =
    let text = c.args.text.now in
    let ts = c.args.tokens.now in
    let keyword =
    after_keyword text ts c.in_ok-at.rest.now c.in_ok-at.at c.in_ok-at.ensures.found in
    let opening = after_opening text ts c.in_ok-at.rest.now c.in_ok-rest.rest.now keyword
    c.in_ok-rest.ensures.found in
    if_none (Nowhere text ts) c.from_residual-in_err-rest-2.result
    (no_closing text ts c.in_ok-rest.rest.now opening c.in_err-rest-2.ensures.none)

pub returns-in_err-rest-3-clause-none : goal.returns-in_err-rest-3-clause-none
returns-in_err-rest-3-clause-none c =
    let text = c.args.text.now in
    let ts = c.args.tokens.now in
    let keyword =
    after_keyword text ts c.in_ok-at.rest.now c.in_ok-at.at c.in_ok-at.ensures.found in
    let opening = after_opening text ts c.in_ok-at.rest.now c.in_ok-rest.rest.now keyword
    c.in_ok-rest.ensures.found in
    let closing = after_closing text ts c.in_ok-rest.rest.now c.in_ok-rest-2.rest.now opening
    c.in_ok-rest-2.ensures.found in
    if_none (Nowhere text ts) c.from_residual-in_err-rest-3.result
    (no_arrow text ts c.in_ok-rest-2.rest.now closing c.in_err-rest-3.ensures.none)

pub returns-in_err-rest-4-clause-none : goal.returns-in_err-rest-4-clause-none
returns-in_err-rest-4-clause-none c =
    let text = c.args.text.now in
    let ts = c.args.tokens.now in
    let keyword =
    after_keyword text ts c.in_ok-at.rest.now c.in_ok-at.at c.in_ok-at.ensures.found in
    let opening = after_opening text ts c.in_ok-at.rest.now c.in_ok-rest.rest.now keyword
    c.in_ok-rest.ensures.found in
    let closing = after_closing text ts c.in_ok-rest.rest.now c.in_ok-rest-2.rest.now opening
    c.in_ok-rest-2.ensures.found in
    let arrow = after_arrow text ts c.in_ok-rest-2.rest.now c.in_ok-rest-3.rest.now closing
    c.in_ok-rest-3.ensures.found in
    if_none (Nowhere text ts) c.from_residual-in_err-rest-4.result
    (no_record text ts c.in_ok-rest-3.rest.now arrow c.in_err-rest-4.ensures.none)

pub returns-in_err-rest-5-clause-none : goal.returns-in_err-rest-5-clause-none
returns-in_err-rest-5-clause-none c =
    let text = c.args.text.now in
    let ts = c.args.tokens.now in
    let keyword =
    after_keyword text ts c.in_ok-at.rest.now c.in_ok-at.at c.in_ok-at.ensures.found in
    let opening = after_opening text ts c.in_ok-at.rest.now c.in_ok-rest.rest.now keyword
    c.in_ok-rest.ensures.found in
    let closing = after_closing text ts c.in_ok-rest.rest.now c.in_ok-rest-2.rest.now opening
    c.in_ok-rest-2.ensures.found in
    let arrow = after_arrow text ts c.in_ok-rest-2.rest.now c.in_ok-rest-3.rest.now closing
    c.in_ok-rest-3.ensures.found in
    let of_record = after_record text ts c.in_ok-rest-3.rest.now c.in_ok-rest-4.rest.now arrow
    c.in_ok-rest-4.ensures.found in
    if_none (Nowhere text ts) c.from_residual-in_err-rest-5.result
    (no_last_arrow text ts c.in_ok-rest-4.rest.now of_record c.in_err-rest-5.ensures.none)
