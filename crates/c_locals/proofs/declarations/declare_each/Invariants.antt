use Rattle.std.proofs.Common.{◌≡◌, drop}
use Rattle.c_locals.proofs.DeclarationLocals.{StillToDeclare, rest_of}
use Rattle.c_locals.proofs.declarations.declare_each.Given as goal
use Rattle.c_locals.specs.Words.{environment, with_block}

abbrev pub invariant-loop-local : goal.invariant-loop-local
invariant-loop-local l =
    let start = l.initial.names in
    let a = environment l.env start.around in
    (l.names ≡ with_block start l.names.block)
    × StillToDeclare a l.base (rest_of a l.base l.locals start.block l.initial.state)
    l.initial.state l.made.items (drop l.local-index l.locals) l.names.block l.state
