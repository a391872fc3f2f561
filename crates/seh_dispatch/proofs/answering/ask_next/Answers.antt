use Rattle.std.proofs.Common.{◌+◌, ◌≤◌, ℕ, Option, length, sym, ap, ◌∙◌, arith}
use Rattle.std.proofs.lemmas.Option.{slice_get_past}
use Rattle.seh_dispatch.specs.Words.{functions_of, state_of, DispatchRecord, asks_at}
use Rattle.seh_dispatch.proofs.answering.ask_next.Goals as goal

pub returns-then-dispatch-len : goal.returns-then-dispatch-len
returns-then-dispatch-len g c =
    let t = functions_of c.args.tables.now in
    let h = c.args.machine.now in
    let s = state_of h (g.S.CodeSpace.memory c.args.space.now) in
    let d = c.args.dispatch.now in
    let next : DispatchRecord = record d { row = d.row + 1 } in
    let past : length h.handlers ≤ d.row + 1 = omega arith in
    c.search_from.ensures
    ∙ ap (λ (o : Option ℕ). asks_at t s c.args.at next o)
    (sym (slice_get_past h.handlers (d.row + 1) past))
