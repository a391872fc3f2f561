use Rattle.std.proofs.Common.{ℕ, sym, ap, ◌∙◌}
use Rattle.seh_dispatch.specs.Words.{functions_of, Rcx, Rdx, register, state_of, unwound_locally}
use Rattle.seh_dispatch.proofs.ServiceReturn.{returning_to}
use Rattle.seh_dispatch.proofs.serving.local_unwind.Goals as goal

pub returns-in-Some : goal.returns-in-Some
returns-in-Some g c =
    let t = functions_of c.args.tables.now in
    let machine = c.args.machine.now in
    let cpu = machine.cpu in
    let m = g.S.CodeSpace.memory c.args.space.now in
    let s = state_of machine m in
    c.unwind_locally.ensures
    ∙ ap (λ (f : ℕ). unwound_locally t s f c.register-target.result c.in-Some.after)
    c.register-frame.ensures
    ∙ ap (λ (a : ℕ). unwound_locally t s (register cpu Rcx) a c.in-Some.after)
    c.register-target.ensures
    ∙ sym (returning_to machine c.in-Some.after m
    (λ u. unwound_locally t s (register cpu Rcx) (register cpu Rdx) u.cpu) c.in-Some.ensures)
