use Rattle.std.proofs.Common.{arith}
use Rattle.c_parse_stmt.proofs.Nesting.{opening_more}
use Rattle.c_parse_stmt.proofs.filters.past_opening.Goals as goal

pub loop-count-preserved : goal.loop-count-preserved
loop-count-preserved c =
    let s = c.loop-count in (
      opening_more s.count c.args.tokens.now s.rest.now c.in-Some.following.now s.invariant.0
          c.in-Some.ensures.found,
      omega arith,
    )
