use Rattle.c_checked.specs.Program as programs
use Rattle.seh_ir.proofs.FunctionCodes.{function_is}
use Rattle.seh_ir.proofs.lower.function_code.Goals as goal

pub returns : goal.returns
returns c =
    function_is (programs.function c.args.f.now) c.in_ok-scope.scope c.in_ok-separators.separators
    c.new-code.result.items c.put_separators.new.code.items c.open.new.code.items
    c.statements.new.code.items c.put.new.code.items c.close.new.code.items c.put-2.new.code.items
    c.in_ok-separators.ensures c.in_ok-scope.ensures c.new-code.ensures.items
    c.in_ok-put_separators.ensures c.in_ok-open.ensures
    (rw c.deref.ensures.value at c.in_ok-statements.ensures)
    (rw c.constant.ensures at c.in_ok-put.ensures) c.in_ok-close.ensures c.in_ok-put-2.ensures
