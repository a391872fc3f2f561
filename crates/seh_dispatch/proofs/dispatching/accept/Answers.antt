use Rattle.std.proofs.Common.{sym, ap, ◌∙◌}
use Rattle.seh_dispatch.specs.Words.{functions_of, state_of, DispatchRecord, after_placing, unwinds_on}
use Rattle.seh_dispatch.proofs.RecordPlacement.{rewritten}
use Rattle.seh_dispatch.proofs.dispatching.accept.Goals as goal

pub returns-in-Ok : goal.returns-in-Ok
returns-in-Ok g c =
    let t = functions_of c.args.tables.now in
    let m = g.S.CodeSpace.memory c.args.space.now in
    let a = c.accepting-accepted.result in
    c.unwind_on.ensures
    ∙ sym (rewritten c.args.machine.now m (g.S.CodeSpace.memory c.rewrite.new.space) c.args.at a
    (λ u. unwinds_on t u c.args.at a) c.in-Ok.ensures.answer c.in-Ok.ensures.after)
    ∙ ap (λ (r : DispatchRecord). after_placing (state_of c.args.machine.now m) c.args.at r
    (λ u. unwinds_on t u c.args.at r)) c.accepting-accepted.ensures
