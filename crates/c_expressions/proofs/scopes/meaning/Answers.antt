use Rattle.std.proofs.Common.{◌∙◌, sym}
use Rattle.c_expressions.proofs.Names.{known_first, unknown_next}
use Rattle.c_expressions.proofs.scopes.meaning.Goals as goal
use Rattle.c_expressions.specs.Words.{scopes_of}

pub returns-in-Some : goal.returns-in-Some
returns-in-Some c = known_first c.args.name.now _ (scopes_of c.args.names.now) c.in-Some.ensures

pub returns-in-None : goal.returns-in-None
returns-in-None c = c.declared.ensures ∙ sym (unknown_next c.args.name.now
    (scopes_of c.args.names.now) c.in-None.ensures)
