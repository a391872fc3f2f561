use Rattle.std.proofs.Common.{◌+◌, ◌%◌, ◌^◌, Bool, Some, sym, ap, ◌∙◌}
use Rattle.unwind_tails.proofs.LaterTails.{none_ends, other_ends, last_ends, restores_on}
use Rattle.unwind_tails.proofs.known_tails.part_at.Goals as goal

pub returns-in-None : goal.returns-in-None
returns-in-None g c = none_ends (g.S.CodeSpace.memory c.args.space.now) c.args.at
    (sym c.in-None.ensures)

pub returns-in-None-is_last : goal.returns-in-None-is_last
returns-in-None-is_last g c = other_ends (g.S.CodeSpace.memory c.args.space.now) c.args.at
    c.in-Some.item (sym c.in-Some.ensures) (sym c.in-None-is_last.ensures)

pub returns-then-last : goal.returns-then-last
returns-then-last g c = last_ends (g.S.CodeSpace.memory c.args.space.now) c.args.at
    c.in-Some.item (sym c.in-Some.ensures) (sym c.in-Some-is_last.ensures
    ∙ ap (λ (b : Bool). Some b) c.if-last.true)

pub returns-else-last : goal.returns-else-last
returns-else-last g c = restores_on (g.S.CodeSpace.memory c.args.space.now) c.args.at
    c.in-Some.item ((c.args.at + c.size.result) % 2 ^ 64) (sym c.in-Some.ensures)
    (sym c.in-Some-is_last.ensures ∙ ap (λ (b : Bool). Some b) c.if-last.false)
    (ap (λ k. (c.args.at + k) % 2 ^ 64) c.size.ensures)
