use Rattle.std.proofs.Common.{ℕ, ap, ◌∙◌}
use Rattle.seh_dispatch.specs.Words.{functions_of, state_of, DispatchRecord, asks_on, place_of}
use Rattle.seh_dispatch.proofs.raising.raise.Goals as goal

pub returns : goal.returns
returns g c =
    let t = functions_of c.args.tables.now in
    let s = state_of c.args.machine.now (g.S.CodeSpace.memory c.args.space.now) in
    c.ask_on.ensures
    ∙ ap (λ (at : ℕ). asks_on t s at c.new_record-dispatch.result) c.place_below-at.ensures
    ∙ ap (λ (r : DispatchRecord). asks_on t s (place_of c.args.saved.now) r)
    c.new_record-dispatch.ensures
