use Rattle.c_parse_stmt.specs.Words.{expression, statement}
use Rattle.c_parse_stmt.proofs.InsideDo.{do_ends, do_unended, do_condition, do_semicolon}
use Rattle.c_parse_stmt.proofs.Sequences.{placed}
use Rattle.c_parse_stmt.proofs.endings.do_end.Goals as goal

pub returns-in-Err-clause-refused : goal.returns-in-Err-clause-refused
returns-in-Err-clause-refused c =
    λ room left after ts g. placed c.in-Err.refusal _ _ _ _ c.args.text.now c.in-Some.following.now
    ts (do_condition room c.in-Some.at left after (statement c.args.body) c.args.text.now ts
    c.args.tokens.now c.in-Some.following.now g c.in-Some.ensures.found) c.in-Err.ensures.refused

pub returns-in-Err-expect-clause-refused : goal.returns-in-Err-expect-clause-refused
returns-in-Err-expect-clause-refused c =
    let i = c.in-Ok in
    λ room left after ts g. placed c.in-Err-expect.refusal _ _ _ _ c.args.text.now i.following.now
    ts (do_semicolon room c.in-Some.at left after (statement c.args.body) (expression i.condition)
    c.args.text.now ts c.args.tokens.now c.in-Some.following.now i.following.now g
    c.in-Some.ensures.found i.ensures.found i.ensures.low) c.in-Err-expect.ensures.refused

pub returns-in_ok-made-in-Ok-expect-clause-found : goal.returns-in_ok-made-in-Ok-expect-clause-found
returns-in_ok-made-in-Ok-expect-clause-found c =
    let i = c.in-Ok in
    let q = c.in-Ok-expect in
    λ room left after ts g. rw c.in_ok-made-in-Ok-expect.ensures.made
    (do_ends room c.in-Some.at left after (statement c.args.body) (expression i.condition)
    c.args.text.now ts c.args.tokens.now c.in-Some.following.now i.following.now q.rest.now g
    c.in-Some.ensures.found i.ensures.found i.ensures.low q.ensures.found)

pub returns-in-None-clause-refused : goal.returns-in-None-clause-refused
returns-in-None-clause-refused c =
    rw c.unexpected.ensures (λ room left after ts g. do_unended room left after
    (statement c.args.body) c.args.text.now ts c.args.tokens.now g c.in-None.ensures.none)
