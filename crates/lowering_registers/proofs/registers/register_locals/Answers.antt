use Rattle.std.proofs.Common.{map, take, ap, ◌∙◌}
use Rattle.c_checked.specs.Program as programs
use Rattle.c_checked.specs.Statement.{statement, statements}
use Rattle.lowering_registers.specs.Marks.{with_all_shared, with_kept, unmarked}
use Rattle.lowering_registers.proofs.RegisterLocals.{registers_are}
use Rattle.lowering_registers.proofs.registers.register_locals.Goals as goal

pub returns : goal.returns
returns c =
    let f = programs.function c.args.f.now in
    let marks = c.in_ok-marks.marks.items in
    registers_are f c.in_ok-count.count marks c.mark_all_shared.new.marks.items
    c.first_unmarked.result.items c.in_ok-count.ensures c.in_ok-marks.ensures
    (c.mark_all_shared.ensures ∙ ap (λ ss. with_all_shared (statements (map statement ss))
    c.mark_kept.new.marks.items) c.deref.ensures.value
    ∙ ap (with_all_shared f.body) c.mark_kept.ensures)
    (c.first_unmarked.ensures ∙ ap (λ bs. take 7 (unmarked bs 0)) c.deref-2.ensures.value)
