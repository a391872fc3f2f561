use Rattle.std.proofs.Common.{◌≤◌, ◌-◌, map, arith}
use Rattle.std.proofs.lemmas.Result.{err_from_is_err_and}
use Rattle.c_parse_stmt.specs.Words.{statement, statements, NoBase}
use Rattle.c_syntax.proofs.Shorter.{item}
use Rattle.c_parse_stmt.proofs.SecondBlocks.{guards, last_block, try_statement_found}
use Rattle.c_parse_stmt.proofs.Guarding.{still, try_body}
use Rattle.c_parse_stmt.proofs.Held.{none_of, statement_item, block_fails, block_found, start, continues, ends, item_fails}
use Rattle.c_parse_stmt.proofs.Inside.{opens_head, inner_fails, holds, otherwise_fails, otherwise_found, whole_found}
use Rattle.c_parse_stmt.proofs.Sequences.{placed, placed_so, found_so}
use Rattle.c_parse_stmt.proofs.statements.+nested.Goals as goal

pub try_statement-returns-in_err-body-clause-refused :
    goal.try_statement-returns-in_err-body-clause-refused
try_statement-returns-in_err-body-clause-refused t c =
    let p = err_from_is_err_and c.from_residual.result c.from_residual.ensures.1 in
    rw (p.1, p.2) (λ ts h. placed c.in_err-body.field-0.0 _ _ _ _ c.args.text.now c.args.tokens.now
    ts (try_body c.args.room c.args.left c.args.text.now ts c.args.tokens.now c.requires.some h)
    c.in_err-body.ensures.refused)

pub try_statement-read_clause-requires : goal.try_statement-read_clause-requires
try_statement-read_clause-requires t c =
    let k = c.in_ok-body in
    still c.args.text.now c.args.room c.args.left k.left (statements (map statement k.body.items))
    c.requires.some k.ensures.taken

pub try_statement-returns-in_err-clause-clause-refused :
    goal.try_statement-returns-in_err-clause-clause-refused
try_statement-returns-in_err-clause-clause-refused t c =
    let r = c.from_residual-in_err-clause in
    let p = err_from_is_err_and r.result r.ensures.1 in
    let k = c.in_ok-body in
    let ss = statements (map statement k.body.items) in
    rw (p.1, p.2) (λ ts h. c.in_err-clause.ensures.refused c.args.left ss ts
    (guards c.args.text.now c.args.room c.args.left k.left ss ts c.args.tokens.now k.following.now
    c.requires.some h k.ensures.found k.ensures.taken))

pub try_statement-returns-in-Err-clause-refused : goal.try_statement-returns-in-Err-clause-refused
try_statement-returns-in-Err-clause-refused t c =
    let k = c.in_ok-body in
    let ss = statements (map statement k.body.items) in
    let j = c.in_ok-clause in
    λ ts h. placed c.in-Err.refusal _ _ _ _ c.args.text.now j.following.now ts
    (last_block c.args.room c.args.left k.left j.left ss j.clause c.args.text.now ts
    k.following.now j.following.now (guards c.args.text.now c.args.room c.args.left k.left ss ts
    c.args.tokens.now k.following.now c.requires.some h k.ensures.found k.ensures.taken)
    j.ensures.found) c.in-Err.ensures.refused

pub try_statement-returns-in-Ok-clause-found : goal.try_statement-returns-in-Ok-clause-found
try_statement-returns-in-Ok-clause-found t c =
    let k = c.in_ok-body in
    let ss = statements (map statement k.body.items) in
    let j = c.in_ok-clause in
    let q = c.in-Ok in
    λ ts h. rw c.try_of.ensures (try_statement_found c.args.room c.args.left k.left j.left q.left ss
    (statements (map statement q.last.items)) j.clause c.args.text.now ts k.following.now
    j.following.now q.rest.now (guards c.args.text.now c.args.room c.args.left k.left ss ts
    c.args.tokens.now k.following.now c.requires.some h k.ensures.found k.ensures.taken)
    j.ensures.found q.ensures.found q.ensures.taken)

pub inside-returns-in-Err-clause-refused : goal.inside-returns-in-Err-clause-refused
inside-returns-in-Err-clause-refused t c =
    λ whole ts h. placed c.in-Err.refusal _ _ _ _ c.args.text.now c.args.tokens.now ts
    (inner_fails c.args.head c.args.room (c.args.room - 1) whole c.args.left c.args.text.now ts
    c.args.tokens.now (omega arith) h) c.in-Err.ensures.refused

pub inside-returns-in_err-ending-in-Ok-clause-refused :
    goal.inside-returns-in_err-ending-in-Ok-clause-refused
inside-returns-in_err-ending-in-Ok-clause-refused t c =
    let r = c.from_residual in
    let p = err_from_is_err_and r.result r.ensures.1 in
    let k = c.in-Ok in
    rw (p.1, p.2) (λ whole ts h. c.in_err-ending-in-Ok.ensures.refused c.args.room whole k.left ts
    (holds c.args.text.now c.args.room (c.args.room - 1) whole c.args.left k.left c.args.head
    (statement k.inner) ts c.args.tokens.now k.following.now (omega arith) h k.ensures.found))

pub inside-returns-in-Err-statement-clause-refused :
    goal.inside-returns-in-Err-statement-clause-refused
inside-returns-in-Err-statement-clause-refused t c =
    let k = c.in-Ok in
    let i = c.in_ok-ending-in-Ok in
    let e = c.in-Else in
    λ whole ts h. placed c.in-Err-statement.refusal _ _ _ _ c.args.text.now i.following.now ts
    (otherwise_fails c.args.text.now c.args.room (c.args.room - 1) e.at whole c.args.left k.left
    c.args.head e.condition e.then (statement k.inner) i.ending ts c.args.tokens.now
    k.following.now i.following.now (omega arith) h k.ensures.found i.ensures.found e.is)
    c.in-Err-statement.ensures.refused

pub inside-returns-in-Whole-clause-found : goal.inside-returns-in-Whole-clause-found
inside-returns-in-Whole-clause-found t c =
    let k = c.in-Ok in
    let i = c.in_ok-ending-in-Ok in
    λ whole ts h. whole_found c.args.text.now c.args.room (c.args.room - 1) whole c.args.left k.left
    c.args.head c.in-Whole.made (statement k.inner) i.ending ts c.args.tokens.now k.following.now
    i.following.now (omega arith) h k.ensures.found i.ensures.found c.in-Whole.is

pub inside-returns-in_ok-made-in-Ok-statement-clause-found :
    goal.inside-returns-in_ok-made-in-Ok-statement-clause-found
inside-returns-in_ok-made-in-Ok-statement-clause-found t c =
    let k = c.in-Ok in
    let i = c.in_ok-ending-in-Ok in
    let e = c.in-Else in
    let q = c.in-Ok-statement in
    λ whole ts h. rw c.in_ok-made-in-Ok-statement.ensures.made
    (otherwise_found c.args.text.now c.args.room (c.args.room - 1) e.at whole c.args.left k.left
    q.left c.args.head e.condition e.then (statement k.inner) (statement q.otherwise) i.ending ts
    c.args.tokens.now k.following.now i.following.now q.rest.now (omega arith) h k.ensures.found
    i.ensures.found e.is q.ensures.found)

pub item-returns-in-None-clause-refused : goal.item-returns-in-None-clause-refused
item-returns-in-None-clause-refused t c =
    let f = c.in_ok-found in
    let o = none_of f.field-0 (1 ≤ c.args.room) c.in-None.is f.ensures.room in
    placed_so c.statement.result _ _ _ _ c.args.text.now c.args.tokens.now c.args.tokens.now
    (statement_item c.args.room (c.args.room - 1) c.args.left c.args.text.now c.args.tokens.now
    (omega arith) (none_of f.field-0 (NoBase c.args.tokens.now) c.in-None.is f.ensures.none))
    c.statement.ensures.refused

pub items-loop-end-init : goal.items-loop-end-init
items-loop-end-init t c = rw c.new-found.ensures.items
    (start c.args.text.now c.args.room c.args.left c.args.tokens.now)

pub items-returns-in_err-next-in-None-clause-refused :
    goal.items-returns-in_err-next-in-None-clause-refused
items-returns-in_err-next-in-None-clause-refused t c =
    let p = err_from_is_err_and c.from_residual.result c.from_residual.ensures.1 in
    let s = c.loop-end in
    rw (p.1, p.2) (placed c.in_err-next-in-None.field-0.0 _ _ _ _ c.args.text.now s.rest.now
    c.args.tokens.now (item_fails c.args.text.now c.args.room c.args.left s.left c.args.tokens.now
    s.rest.now s.found.items s.invariant c.in-None.ensures.none)
    c.in_err-next-in-None.ensures.refused)

pub items-loop-end-smaller : goal.items-loop-end-smaller
items-loop-end-smaller t c = item _ _ _ _ c.in_ok-next-in-None.ensures.found.is

pub items-loop-end-preserved : goal.items-loop-end-preserved
items-loop-end-preserved t c =
    let s = c.loop-end in
    let k = c.in_ok-next-in-None in
    rw c.in_ok-push-in-None.ensures.items (continues c.args.text.now c.args.room c.args.left s.left
    k.less c.args.tokens.now s.rest.now k.following.now s.found.items k.next s.invariant
    k.ensures.found)

pub items-returns-in-Some-clause-found : goal.items-returns-in-Some-clause-found
items-returns-in-Some-clause-found t c =
    let s = c.loop-end in
    (ends c.args.text.now c.args.room c.args.left s.left c.args.tokens.now s.rest.now
    c.in-Some.end.now s.found.items s.invariant c.in-Some.ensures.found).0

pub items-returns-in-Some-clause-taken : goal.items-returns-in-Some-clause-taken
items-returns-in-Some-clause-taken t c =
    let s = c.loop-end in
    (ends c.args.text.now c.args.room c.args.left s.left c.args.tokens.now s.rest.now
    c.in-Some.end.now s.found.items s.invariant c.in-Some.ensures.found).1

pub statement-returns-in_ok-found-in-Block-clause-found :
    goal.statement-returns-in_ok-found-in-Block-clause-found
statement-returns-in_ok-found-in-Block-clause-found t c =
    let o = c.in_ok-opening in
    let k = c.in_ok-found-in-Block in
    rw c.block_of.ensures (block_found c.args.text.now c.args.room c.args.left o.left k.left
    o.opening (statements (map statement k.found.items)) c.args.tokens.now o.following.now
    k.rest.now o.ensures.found c.in-Block.is k.ensures.found k.ensures.taken)

pub statement-returns-in_err-found-in-Block-clause-refused :
    goal.statement-returns-in_err-found-in-Block-clause-refused
statement-returns-in_err-found-in-Block-clause-refused t c =
    let r = c.from_residual-in_err-found-in-Block in
    let p = err_from_is_err_and r.result r.ensures.1 in
    let i = c.in_ok-opening in
    rw (p.1, p.2) (placed c.in_err-found-in-Block.field-0.0 _ _ _ _ c.args.text.now i.following.now
    c.args.tokens.now (block_fails c.args.text.now c.args.room c.args.left i.left i.opening
    c.args.tokens.now i.following.now i.ensures.found c.in-Block.is)
    c.in_err-found-in-Block.ensures.refused)

pub statement-returns-in-Head-clause-found : goal.statement-returns-in-Head-clause-found
statement-returns-in-Head-clause-found t c =
    let i = c.in_ok-opening in
    found_so c.inside.result _ _ (λ x h. h c.args.left c.args.tokens.now
    (opens_head c.args.text.now c.args.room c.args.left i.left i.opening c.in-Head.head
    c.args.tokens.now i.following.now i.ensures.found c.in-Head.is)) c.inside.ensures.found
