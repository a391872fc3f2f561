use Rattle.std.proofs.Common.{◌≡◌, Some, length, ap, sym, ◌∙◌}
use Rattle.c_expressions.proofs.Tables.{as_many, at_is, is_at}
use Rattle.c_expressions.proofs.symbol_table.SymbolTable.is_declared.Goals as goal
use Rattle.c_expressions.specs.Declarations.{latest, latest_blocks}
use Rattle.c_expressions.specs.SymbolTables.{SymbolTable}
use Rattle.c_expressions.specs.Words.{is_some}
use Rattle.c_resolved.specs.Scopes.{meaning_in}

pub returns-in-Some : goal.returns-in-Some
returns-in-Some c =
    let t = c.self.inside in
    let n = c.args.name.now in
    let bs = latest_blocks t.around.items in
    let deep : c.depth_of-depth.result ≡ length bs = c.depth_of-depth.ensures
    ∙ sym (as_many t.around.items) in
    ap (λ k. is_at k (Some c.in-Some.found)) deep
    ∙ ap (is_at (length bs)) (c.in-Some.ensures ∙ c.self.invariant.each n)
    ∙ at_is (latest t.block.items) bs n
    ∙ ap (λ (s : SymbolTable). is_some (meaning_in s.block n)) c.self.view_is

pub returns-in-None : goal.returns-in-None
returns-in-None c =
    let t = c.self.inside in
    let n = c.args.name.now in
    let bs = latest_blocks t.around.items in
    ap (is_at (length bs)) (c.in-None.ensures ∙ c.self.invariant.each n)
    ∙ at_is (latest t.block.items) bs n
    ∙ ap (λ (s : SymbolTable). is_some (meaning_in s.block n)) c.self.view_is
