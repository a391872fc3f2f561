use Rattle.std.proofs.Common.{ℕ, Option, ap, ◌∙◌}
use Rattle.seh_dispatch.specs.Words.{functions_of, state_of, asks_at}
use Rattle.seh_dispatch.proofs.raising.ask_on.Goals as goal

pub returns-in-Some : goal.returns-in-Some
returns-in-Some g c =
    let t = functions_of c.args.tables.now in
    let s = state_of c.args.machine.now (g.S.CodeSpace.memory c.args.space.now) in
    c.ask.ensures ∙ ap (λ (o : Option ℕ). asks_at t s c.args.at c.args.dispatch.now o)
    c.in-Some.ensures

pub returns-in-None : goal.returns-in-None
returns-in-None g c =
    let t = functions_of c.args.tables.now in
    let s = state_of c.args.machine.now (g.S.CodeSpace.memory c.args.space.now) in
    c.search_from.ensures ∙ ap (λ (o : Option ℕ). asks_at t s c.args.at c.args.dispatch.now o)
    c.in-None.ensures
