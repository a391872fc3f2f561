use Rattle.std.proofs.Common.{◌∙◌, ap, sym}
use Rattle.c_expressions.proofs.Names.{known_first, unknown_next}
use Rattle.c_expressions.proofs.scopes.is_taken.Goals as goal
use Rattle.c_expressions.specs.Words.{is_some}

pub returns-in-Some : goal.returns-in-Some
returns-in-Some c = ap is_some (known_first c.args.name.now _ c.args.names.now.block
    c.in-Some.ensures)

pub returns-in-None : goal.returns-in-None
returns-in-None c = c.is_declared.ensures
    ∙ ap is_some (sym (unknown_next c.args.name.now c.args.names.now.block c.in-None.ensures))
