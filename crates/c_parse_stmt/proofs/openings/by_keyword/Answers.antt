use Rattle.c_parse_stmt.proofs.ForHeads.{evaluation_after}
use Rattle.c_parse_stmt.proofs.Sequences.{placed_so}
use Rattle.c_parse_stmt.proofs.Wholes.{plain_by}
use Rattle.c_parse_stmt.proofs.openings.by_keyword.Goals as goal

pub returns-in_default : goal.returns-in_default
returns-in_default c =
    let d = c.in_default in
    record {
      found = c.evaluate.ensures.found;
      refused = placed_so c.evaluate.result _ _ _ _ c.args.text.now c.args.tokens.now
          c.args.tokens.now
          (evaluation_after c.args.room c.args.at c.args.left c.args.keyword c.args.text.now
          c.args.tokens.now c.args.following.now c.requires
          (plain_by c.args.keyword d.not-If d.not-While d.not-Do d.not-For d.not-Try d.not-Return
          d.not-Break d.not-Continue d.not-Leave))
          c.evaluate.ensures.refused;
    }
