use Rattle.std.proofs.Common.{◌<◌, ◌+◌, ◌-◌, ◌*◌, ◌/◌, ℕ, subst, arith}
use Rattle.c_parse_stmt.proofs.ArrayEnds.{aligned_by, too_far, positive}
use Rattle.c_parse_stmt.proofs.sizes.end_of.Goals as goal
use Rattle.c_parse_stmt.proofs.sizes.end_of.Goals.{then-start-most-via-then-start-most}
use Rattle.c_parse_stmt.proofs.sizes.end_of.Goals.{then-start-most-via-else-start-most+then-count-most}

pub returns-then-start-most-clause-none : goal.returns-then-start-most-clause-none
returns-then-start-most-clause-none c =
    let n = c.args.size in
    let e = aligned_by c.args.at n c.if-size-eq0.false in
    elim c.then-start-most.branch [
      | then-start-most-via-then-start-most w ↦ (let t = w.if-start-most.true in omega arith)
      | then-start-most-via-else-start-most+then-count-most w ↦
          subst (λ (s : ℕ). c.args.most < s + n * c.args.count) e
          (too_far c.args.most ((c.args.at + (n - 1)) / n * n) n c.args.count
          (positive n c.if-size-eq0.false) (omega arith) w.if-count-most.true)
    ]
