use Rattle.std.proofs.Common.{◌+◌, ◌/◌, ◌^◌, slice_index, arith}
use Rattle.eh_tables.proofs.RangesAscending.{range_ends_below}
use Rattle.eh_index.proofs.lookup.bounds.Goals as goal

pub returns-then-last-count-clause-above : goal.returns-then-last-count-clause-above
returns-then-last-count-clause-above c rs count is_index up lt =
    let next = c.args.rva / 2 ^ c.args.shift + 1 in
    let last = slice_index c.args.first.now next in
    let past = c.if-first-bucket-lt2.false in
    let there = c.if-bucket-first.false in
    let under = is_index.above c.args.rva (omega arith) (omega arith) in
    let ends = range_ends_below rs up last (last + 1) (omega arith) (omega arith) in
    omega arith
