use Rattle.std.proofs.Common.{ap, arith}
use Rattle.unwind_tails.specs.Instructions.{Decoded}
use Rattle.unwind_check.specs.Faults.{prologue_end}
use Rattle.frame_rules.specs.Prologue.{bytes}
use Rattle.unwind_check.proofs.Fitting.{part_fits}
use Rattle.unwind_check.proofs.entry.codes_fault.Goals as goal

pub ends-requires : goal.ends-requires
ends-requires g c =
    let m = g.S.CodeSpace.memory c.args.space.now in
    let middle = c.requires.middle in
    let order = c.requires.order in
    let order_2 = c.requires.order_2 in
    let low = c.requires.low in
    let f = part_fits m c.args.begin (prologue_end c.args.begin c.args.end c.args.info.now)
    (omega (arith, middle, order)) in
    let e = ap (λ (d : Decoded). bytes d.items) c.requires.prologue in
    let b = ap bytes c.items-first.ensures in
    omega (arith, middle, order_2, low, f, e, b)

pub parts_fault-requires-clause-prologue_low : goal.parts_fault-requires-clause-prologue_low
parts_fault-requires-clause-prologue_low g c =
    let m = g.S.CodeSpace.memory c.args.space.now in
    let middle = c.requires.middle in
    let order = c.requires.order in
    let order_2 = c.requires.order_2 in
    let low = c.requires.low in
    let f = part_fits m c.args.begin (prologue_end c.args.begin c.args.end c.args.info.now)
    (omega (arith, middle, order)) in
    let e = ap (λ (d : Decoded). bytes d.items) c.requires.prologue in
    omega (arith, middle, order_2, low, f, e)
