use Rattle.std.proofs.Common.{List, ℕ, sym, subst}
use Rattle.c_lex.specs.Vocabulary.{Word, IsLongest, punctuator}
use Rattle.c_lex.proofs.Tokens.{punctuators_take}
use Rattle.c_lex.proofs.punctuator.longest_punctuator.Goals as goal

pub returns : goal.returns
returns c =
    let k = punctuators_take c.args.first c.args.text.now in (
      k.0,
      subst (λ (y : Word × List ℕ). IsLongest (punctuator c.args.first) c.args.text.now k.0 y.1
          y.0) (sym c.up_to_three.ensures) k.1,
    )
