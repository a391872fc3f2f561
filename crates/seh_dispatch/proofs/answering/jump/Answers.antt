use Rattle.std.proofs.Common.{sym, ◌∙◌}
use Rattle.seh_dispatch.specs.Words.{functions_of, state_of, asked_row}
use Rattle.seh_dispatch.proofs.FilterRows.{jumping_to}
use Rattle.seh_dispatch.proofs.answering.jump.Goals as goal

pub returns-else-row-eq0 : goal.returns-else-row-eq0
returns-else-row-eq0 g c =
    let t = functions_of c.args.tables.now in
    c.accept.ensures ∙ sym (jumping_to t (state_of c.args.machine.now
    (g.S.CodeSpace.memory c.args.space.now)) c.args.at c.args.dispatch.now c.in-Some.row
    (asked_row t c.args.dispatch.now) c.base.result c.in-Some.ensures c.if-row-eq0.false
    c.base.ensures)
