use Rattle.std.proofs.Common.{◌≡◌, sym, ap, subst, ◌∙◌}
use Rattle.seh_dispatch.specs.Words.{HostedProcessor, functions_of, State, state, state_of, step, shown_in, turn, after, left}
use Rattle.seh_dispatch.proofs.TurnOutcomes.{left_over}
use Rattle.seh_dispatch.proofs.QuietTurns.{kept_state, quiet_turn, coherent_after}
use Rattle.seh_dispatch.proofs.advancing.advance.Goals as goal

pub returns-then-step : goal.returns-then-step
returns-then-step g c =
    let t = functions_of c.args.tables.now in
    let fs = c.args.funclets.now in
    let h = c.args.machine.now in
    let m = g.S.CodeSpace.memory c.args.space.now in
    let cpu = c.step.new.cpu in
    let new : HostedProcessor = record h { cpu = cpu } in
    let n = g.S.CodeSpace.memory c.step.new.space in
    let quiet = quiet_turn t fs h cpu m n (sym c.if-step.true ∙ c.step.ensures.answer)
    c.step.ensures.cpu c.step.ensures.memory in
    let host : left new n c.arrive.result ≡ after (turn t fs (state_of h m)) =
    ap (left new n) c.arrive.ensures.end ∙ left_over new n ∙ sym (ap after quiet) in
    record {
      host = host;
      shown = subst (λ es. g.V.Events.took c.args.to.now es c.arrive.new.to)
          (sym (ap shown_in quiet)) c.arrive.ensures.shown;
      coherent = coherent_after t fs (state_of h m) new n c.arrive.result c.step.new.cache host
          c.step.ensures.before;
    }

pub returns : goal.returns
returns g c =
    let t = functions_of c.args.tables.now in
    let fs = c.args.funclets.now in
    let h = c.args.machine.now in
    let m = g.S.CodeSpace.memory c.args.space.now in
    let s = state_of h m in
    let new = g.S.CodeSpace.memory c.dispatch.new.space in
    let kept = kept_state h c.step.new.cpu m (g.S.CodeSpace.memory c.step.new.space)
    (step (state h.cpu m)) (sym c.if-step.false ∙ c.step.ensures.answer) c.step.ensures.cpu
    c.step.ensures.memory in
    let host : left c.dispatch.new.machine new c.dispatch.result ≡ after (turn t fs s) =
    c.dispatch.ensures.host ∙ ap (λ (u : State). after (turn t fs u)) kept in
    record {
      host = host;
      shown = subst (λ es. g.V.Events.took c.args.to.now es c.dispatch.new.to)
          (ap (λ (u : State). shown_in (turn t fs u)) kept) c.dispatch.ensures.shown;
      coherent = coherent_after t fs s c.dispatch.new.machine new c.dispatch.result
          c.step.new.cache host c.step.ensures.before;
    }
