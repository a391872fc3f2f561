use Rattle.std.proofs.Common.{length, sym, ap, ◌∙◌, arith}
use Rattle.eh_tables.proofs.Slots.{left_after}
use Rattle.eh_tables.proofs.codes.CodesIterator.next.Goals as goal

pub returns-in_ok-operation-in-len2-up-clause-steps :
    goal.returns-in_ok-operation-in-len2-up-clause-steps
returns-in_ok-operation-in-len2-up-clause-steps c =
    sym c.self.view_is ∙ left_after c.self.inside.framed c.self.inside.slots.now
    c.in_ok-operation-in-len2-up.operation c.in_ok-operation-in-len2-up.operands
    c.in-len2-up.len_at_least (sym c.in_ok-operation-in-len2-up.ensures.value)

pub returns-in_ok-operation-in-len2-up-clause-goes :
    goal.returns-in_ok-operation-in-len2-up-clause-goes
returns-in_ok-operation-in-len2-up-clause-goes c =
    let e = ap length (sym c.self.view_is ∙ left_after c.self.inside.framed c.self.inside.slots.now
    c.in_ok-operation-in-len2-up.operation c.in_ok-operation-in-len2-up.operands
    c.in-len2-up.len_at_least (sym c.in_ok-operation-in-len2-up.ensures.value)) in
    record { on = λ _. (tt, tt, omega arith); keeps = tt; rests = λ _. tt }
