use Rattle.c_lex.proofs.Tokens.{zero_found, zero_alone}
use Rattle.c_lex.proofs.integer.zero.Goals as goal

pub returns-in-Some : goal.returns-in-Some
returns-in-Some c = zero_found c.args.text.now c.in-Some.rest.now c.digits.result.1.now
    c.in-Some.start c.digits.result.0 c.in-Some.ensures c.digits.ensures

pub returns-in-None : goal.returns-in-None
returns-in-None c = zero_alone c.args.text.now c.digits-in-None.result.1.now
    c.digits-in-None.result.0 c.in-None.ensures c.digits-in-None.ensures
