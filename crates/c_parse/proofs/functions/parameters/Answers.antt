use Rattle.c_parse.specs.Words.{NoListed, HasListed, NoParameters, HasParameters}
use Rattle.c_parse.proofs.Refusing.{refused_so}
use Rattle.c_parse.proofs.Parameters.{all}
use Rattle.c_parse.proofs.functions.parameters.Goals as goal

pub returns-clause-refused : goal.returns-clause-refused
returns-clause-refused c = refused_so c.listed.result NoListed HasListed NoParameters HasParameters
    c.args.text.now c.args.tokens.now c.args.tokens.now
    (all c.args.text.now c.args.tokens.now c.in_default.ensures.none
    c.in_default-after_void.ensures.none) c.listed.ensures.refused
