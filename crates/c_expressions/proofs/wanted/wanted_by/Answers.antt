use Rattle.std.proofs.Common.{◌∙◌, ap}
use Rattle.std.proofs.lemmas.Result.{IfOk-weaker}
use Rattle.std.specs.Prelude.{map}
use Rattle.c_expressions.proofs.Passing.{wants_are}
use Rattle.c_expressions.proofs.wanted.wanted_by.Goals as goal
use Rattle.c_expressions.specs.Words.{wanted}

pub returns : goal.returns
returns c = IfOk-weaker c.types_of.result _ _
    (λ v h. ap (map wanted) h ∙ wants_are c.args.parameters.now) c.types_of.ensures
