use Rattle.std.proofs.Common.{sym, ap, ◌∙◌}
use Rattle.seh_dispatch.specs.Words.{functions_of, state_of, DispatchRecord, after_placing, unwinds_on, place_of}
use Rattle.seh_dispatch.proofs.RecordPlacement.{placed_at}
use Rattle.seh_dispatch.proofs.dispatching.unwind_locally.Goals as goal

pub returns-in-Ok : goal.returns-in-Ok
returns-in-Ok g c =
    let t = functions_of c.args.tables.now in
    let m = g.S.CodeSpace.memory c.args.space.now in
    let a = c.to_target-dispatch.result in
    let p = place_of c.args.saved.now in
    c.unwind_on.ensures
    ∙ sym (placed_at c.args.machine.now m (g.S.CodeSpace.memory c.place.new.space) p c.in-Ok.at a
    (λ k u. unwinds_on t u k a) c.in-Ok.ensures.answer c.in-Ok.ensures.after)
    ∙ ap (λ (r : DispatchRecord). after_placing (state_of c.args.machine.now m) p r
    (λ u. unwinds_on t u p r)) c.to_target-dispatch.ensures
