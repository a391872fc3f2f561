use Rattle.c_lex.proofs.Tokens.{digits_found}
use Rattle.c_lex.proofs.integer.digits.Goals as goal

pub returns : goal.returns
returns c = digits_found c.args.base c.args.start c.args.text.now c.number-value.result.1.now
    c.up_to_three.result.1.now c.number-value.result.0 c.up_to_three.result.0 c.literal.result
    c.number-value.ensures.value c.number-value.ensures.rest c.up_to_three.ensures c.literal.ensures
