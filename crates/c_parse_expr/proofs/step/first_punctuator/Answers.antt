use Rattle.c_parse_expr.proofs.Front.{front_found, front_none}
use Rattle.c_parse_expr.proofs.step.first_punctuator.Goals as goal

pub returns-clause-found : goal.returns-clause-found
returns-clause-found c = front_found c.punctuator.result _ c.args.tokens.now c.punctuator.ensures

pub returns-clause-none : goal.returns-clause-none
returns-clause-none c = front_none c.punctuator.result _ c.args.tokens.now c.punctuator.ensures
