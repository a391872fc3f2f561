use Rattle.c_parse_stmt.specs.Words.{statement}
use Rattle.c_parse_stmt.proofs.Inside.{if_ends, while_ends, for_ends, holds_as}
use Rattle.c_parse_stmt.proofs.Sequences.{refused_so}
use Rattle.c_parse_stmt.proofs.endings.read_ending.Goals as goal

pub returns-in_ok-made-in-None-clause-found : goal.returns-in_ok-made-in-None-clause-found
returns-in_ok-made-in-None-clause-found c =
    let k = c.in-If in
    λ room left after ts g. rw c.in_ok-made-in-None.ensures.made
    (if_ends k.at room left after k.condition (statement c.args.inner) c.args.text.now ts
    c.args.tokens.now (holds_as c.args.text.now room left after c.args.head _
    (statement c.args.inner) ts c.args.tokens.now k.is g) c.in-None.ensures.none)

pub returns-in_ok-made-in-While-clause-found : goal.returns-in_ok-made-in-While-clause-found
returns-in_ok-made-in-While-clause-found c =
    λ room left after ts g. rw c.in_ok-made-in-While.ensures.made
    (while_ends c.in-While.at room left after c.in-While.condition (statement c.args.inner)
    c.args.text.now ts c.args.tokens.now (holds_as c.args.text.now room left after c.args.head _
    (statement c.args.inner) ts c.args.tokens.now c.in-While.is g))

pub returns-in-Do-clause-refused : goal.returns-in-Do-clause-refused
returns-in-Do-clause-refused c =
    refused_so c.do_end.result _ _ (λ e h room left after ts g. h room left after ts
    (holds_as c.args.text.now room left after c.args.head _ (statement c.args.inner) ts
    c.args.tokens.now c.in-Do.is g)) c.do_end.ensures.refused

pub returns-in_ok-made-in-For-clause-found : goal.returns-in_ok-made-in-For-clause-found
returns-in_ok-made-in-For-clause-found c =
    let k = c.in-For in
    λ room left after ts g. rw c.in_ok-made-in-For.ensures.made
    (for_ends k.at room left after k.first k.condition k.next (statement c.args.inner)
    c.args.text.now ts c.args.tokens.now (holds_as c.args.text.now room left after c.args.head _
    (statement c.args.inner) ts c.args.tokens.now k.is g))
