use Rattle.std.proofs.Common.{◌∷◌, ap, ◌∙◌}
use Rattle.c_expressions.proofs.Tables.{found_is, meant}
use Rattle.c_expressions.proofs.symbol_table.SymbolTable.get.Goals as goal
use Rattle.c_expressions.specs.Declarations.{latest, latest_blocks}
use Rattle.c_expressions.specs.SymbolTables.{SymbolTable, scopes_of}
use Rattle.c_resolved.specs.Scopes.{meaning_in}

pub returns-in-Some : goal.returns-in-Some
returns-in-Some c =
    let t = c.self.inside in
    let n = c.args.name.now in
    ap meant (c.in-Some.ensures ∙ c.self.invariant.each n)
    ∙ found_is (latest t.block.items ∷ latest_blocks t.around.items) n
    ∙ ap (λ (s : SymbolTable). meaning_in (scopes_of s) n) c.self.view_is

pub returns-in-None : goal.returns-in-None
returns-in-None c =
    let t = c.self.inside in
    let n = c.args.name.now in
    ap meant (c.in-None.ensures ∙ c.self.invariant.each n)
    ∙ found_is (latest t.block.items ∷ latest_blocks t.around.items) n
    ∙ ap (λ (s : SymbolTable). meaning_in (scopes_of s) n) c.self.view_is
