use Rattle.std.proofs.Common.{ℕ, ◌%◌, ◌^◌, None, sym, ap, ◌∙◌}
use Rattle.seh_dispatch.specs.Words.{functions_of, Rcx, Rdx, register, state_of, raised}
use Rattle.seh_dispatch.proofs.ServiceReturn.{returning_to}
use Rattle.seh_dispatch.proofs.serving.raise_exception.Goals as goal

pub returns-in-Some : goal.returns-in-Some
returns-in-Some g c =
    let t = functions_of c.args.tables.now in
    let machine = c.args.machine.now in
    let cpu = machine.cpu in
    let m = g.S.CodeSpace.memory c.args.space.now in
    let s = state_of machine m in
    c.raised.ensures
    ∙ ap (λ (a : ℕ). raised t s (record { 0 = a % 2 ^ 32 }) (c.register-in-Some.result % 2) None
    c.in-Some.after) c.register.ensures
    ∙ ap (λ (a : ℕ). raised t s (record { 0 = register cpu Rcx % 2 ^ 32 }) (a % 2) None
    c.in-Some.after) c.register-in-Some.ensures
    ∙ sym (returning_to machine c.in-Some.after m
    (λ u. raised t s (record { 0 = register cpu Rcx % 2 ^ 32 }) (register cpu Rdx % 2) None u.cpu)
    c.in-Some.ensures)
