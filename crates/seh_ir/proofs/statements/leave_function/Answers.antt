use Rattle.std.specs.Prelude.{option_map}
use Rattle.std.proofs.lemmas.Result.{on_ok_weaker}
use Rattle.seh_ir.specs.Words.{expression}
use Rattle.seh_ir.proofs.StatementCodes.{return_is}
use Rattle.seh_ir.proofs.statements.leave_function.Goals as goal

pub returns : goal.returns
returns c =
    on_ok_weaker c.jump.result
    (λ h. return_is c.args.scope.now (option_map expression c.args.expr.now) c.args.code.now.items _
    _ c.in_ok-returned.ensures h)
    c.jump.ensures
