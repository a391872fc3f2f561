use Rattle.std.proofs.Common.{arith}
use Rattle.c_parse_type.proofs.TypesAreRead.{one_star, star_shorter}
use Rattle.c_parse_type.proofs.specifiers.stars.Goals as goal

pub loop-following-preserved : goal.loop-following-preserved
loop-following-preserved c =
    let h = c.in-Some.ensures.found in
    let p = star_shorter _ _ h in
    let q = c.loop-following.invariant.0 in
    (omega arith, one_star _ _ _ _ c.loop-following.invariant.1 h)
