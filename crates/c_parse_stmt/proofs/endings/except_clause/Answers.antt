use Rattle.std.proofs.Common.{arith, refl}
use Rattle.std.proofs.lemmas.Result.{err_from_is_err_and}
use Rattle.c_parse_stmt.specs.Words.{expression}
use Rattle.c_parse_stmt.proofs.Guarding.{except_too_deep, filter_fails, except_open}
use Rattle.c_parse_stmt.proofs.Sequences.{placed}
use Rattle.c_parse_stmt.proofs.Wholes.{left_of}
use Rattle.c_parse_stmt.proofs.endings.except_clause.Goals as goal

pub returns-then-room-eq0-clause-refused : goal.returns-then-room-eq0-clause-refused
returns-then-room-eq0-clause-refused c =
    λ following k whole body ts g. except_too_deep c.args.room c.args.at whole c.args.left body
    c.args.text.now ts following c.args.tokens.now c.if-room-eq0.true g k

pub returns-in_err-filter-clause-refused : goal.returns-in_err-filter-clause-refused
returns-in_err-filter-clause-refused c =
    let p = err_from_is_err_and c.from_residual.result c.from_residual.ensures.1 in
    rw (p.1, p.2) (λ following k whole body ts g. placed c.in_err-filter.field-0.0 _ _ _ _
    c.args.text.now c.args.tokens.now ts (filter_fails c.args.room c.args.at whole c.args.left
    body c.args.text.now ts following c.args.tokens.now (omega arith) g k)
    c.in_err-filter.ensures.refused)

pub returns-in-Err-clause-refused : goal.returns-in-Err-clause-refused
returns-in-Err-clause-refused c =
    let f = c.in_ok-filter in
    λ following k whole body ts g. placed c.in-Err.refusal _ _ _ _ c.args.text.now f.following.now
    ts (except_open c.args.room c.args.at whole c.args.left
    (left_of c.args.left.locals c.args.left.bytes f.funclets) body (expression f.filter)
    c.args.text.now ts following c.args.tokens.now f.following.now (omega arith) g k
    f.ensures.found f.ensures.low f.ensures.taken refl refl) c.in-Err.ensures.refused

pub returns-in-Ok-clause-found : goal.returns-in-Ok-clause-found
returns-in-Ok-clause-found c =
    let f = c.in_ok-filter in
    let o = c.in-Ok in
    λ ts k. record {
      is = record {
        after_keyword = c.args.tokens.now;
        after_filter = f.following.now;
        keyword = k;
        filter = f.ensures.found;
        brace = o.ensures.found;
      };
      statements = omega arith;
      low = f.ensures.low;
      locals = refl;
      bytes = refl;
      funclets = f.ensures.taken;
    }
