use Rattle.std.proofs.Common.{◌<◌, ◌^◌, sym, arith}
use Rattle.c_lex.proofs.Tokens.{type_holds}
use Rattle.c_lex.proofs.integer.literal.Goals as goal

pub overflow_cast-result : goal.overflow_cast-result
overflow_cast-result c = let h : c.args.value < 2 ^ 64 =
    type_holds _ c.args.suffix c.args.value c.in-Some.of (sym c.in-Some.ensures) in omega arith
