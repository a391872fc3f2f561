use Rattle.std.proofs.Common.{List, length, sym, ap, ◌∙◌, arith}
use Rattle.virtual_unwind.specs.Tail.{FetchedInstr}
use Rattle.virtual_unwind.specs.Undone.{operations}
use Rattle.frame_rules.specs.Body.{are_restored}
use Rattle.frame_rules.specs.Epilogue.{is_epilogue}
use Rattle.unwind_tails.specs.Instructions.{between}
use Rattle.unwind_tails.specs.Instructions.{instrs}
use Rattle.unwind_check.proofs.SameLoads.{same_restored}
use Rattle.unwind_check.proofs.OwnParts.{not_restored, too_many, by_whole, count_operations}
use Rattle.unwind_check.proofs.body.is_own.Goals as goal

pub returns-then-not-are_restored : goal.returns-then-not-are_restored
returns-then-not-are_restored g c rs h =
    let m = g.S.CodeSpace.memory c.args.space.now in
    let i = c.args.info.now in
    let ops = operations i.codes in
    sym (not_restored i.frame_register i.frame_offset ops rs (between m c.args.at c.args.end).items
    c.args.count (sym (same_restored c.args.loaded.now rs h ops)
    ∙ ap (λ cs. are_restored c.args.loaded.now (operations cs)) (sym c.requires.codes)
    ∙ sym c.are_restored.ensures ∙ c.if-not-are_restored.true))

pub returns-then-count-codes : goal.returns-then-count-codes
returns-then-count-codes g c rs h =
    let m = g.S.CodeSpace.memory c.args.space.now in
    let i = c.args.info.now in
    let l = count_operations i.codes in
    let k = ap (λ cs. length cs) c.requires.codes in
    let more = c.if-count-codes.true in
    sym (too_many i.frame_register i.frame_offset (operations i.codes) rs
    (between m c.args.at c.args.end).items c.args.count (omega (arith, l, k, more)))

pub returns : goal.returns
returns g c rs h =
    let m = g.S.CodeSpace.memory c.args.space.now in
    let i = c.args.info.now in
    let f = i.frame_register in
    let off = i.frame_offset in
    let ops = operations i.codes in
    let zs = (between m c.args.at c.args.end).items in
    let n = c.args.count in
    c.is_epilogue.ensures
    ∙ ap (λ k. is_epilogue k c.frame_offset-offset.result (operations c.args.codes.now)
    (instrs c.deref.result.now)) c.frame_register.ensures
    ∙ ap (λ k. is_epilogue f k (operations c.args.codes.now) (instrs c.deref.result.now))
    c.frame_offset-offset.ensures
    ∙ ap (λ cs. is_epilogue f off (operations cs) (instrs c.deref.result.now)) c.requires.codes
    ∙ ap (λ (xs : List FetchedInstr). is_epilogue f off ops (instrs xs))
    (c.deref.ensures.value ∙ c.in_ok-items.ensures)
    ∙ by_whole f off ops rs zs n c.requires.inside
    (sym (same_restored c.args.loaded.now rs h ops)
    ∙ ap (λ cs. are_restored c.args.loaded.now (operations cs)) (sym c.requires.codes)
    ∙ sym c.are_restored.ensures ∙ c.if-not-are_restored.false)
