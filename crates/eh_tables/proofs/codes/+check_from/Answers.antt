use Rattle.std.proofs.Common.{sym, ◌∙◌}
use Rattle.std.proofs.lemmas.Bool.{le-ltb}
use Rattle.eh_tables.proofs.Slots.{operand_checked, code_passed}
use Rattle.eh_tables.proofs.codes.+check_from.Goals as goal

pub returns-then-operands-ne0 : goal.returns-then-operands-ne0
returns-then-operands-ne0 t c = c.check_from.ensures
    ∙ operand_checked c.args.index c.args.framed c.args.slot c.args.last c.args.operands
    c.args.slots.now c.in-len2-up.len_at_least c.if-operands-ne0.true

pub returns-else-last-offset : goal.returns-else-last-offset
returns-else-last-offset t c =
    c.check_from-in-Some.ensures
    ∙ code_passed c.args.index c.args.framed c.args.slot c.args.last c.args.operands
    c.args.slots.now c.in-len2-up.len_at_least c.if-operands-ne0.false _
    (sym c.in-Some.ensures.value) (le-ltb _ _ c.if-last-offset.false)
