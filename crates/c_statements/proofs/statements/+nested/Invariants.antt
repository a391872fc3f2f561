use Rattle.std.proofs.Common.{◌≡◌, drop}
use Rattle.c_statements.specs.Words.{with_block, environment, numbering}
use Rattle.c_statements.proofs.Going.{Going, resolved_from}
use Rattle.c_statements.proofs.statements.+nested.Given as goal

abbrev pub invariant-statements-loop-s : goal.invariant-statements-loop-s
invariant-statements-loop-s l =
    let start = l.initial.names in
    let a = environment l.env start.around in
    (l.names ≡ with_block start l.names.block)
    × Going a (drop l.s-index l.list) l.names.block l.initial.state l.state l.made.items
    (resolved_from a l.list start.block (numbering l.initial.state))
