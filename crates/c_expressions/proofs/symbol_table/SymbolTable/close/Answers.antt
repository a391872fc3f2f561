use Rattle.std.proofs.Common.{◌≡◌, [], ◌∷◌, map, ap, sym, subst, ◌∙◌}
use Rattle.c_expressions.proofs.Tables.{ended, blocks_last}
use Rattle.c_expressions.proofs.symbol_table.SymbolTable.close.Goals as goal
use Rattle.c_expressions.specs.Declarations.{AreInnermost, Uncovers, latest, latest_blocks, scope}
use Rattle.c_expressions.specs.SymbolTables.{SymbolTable, closed, closed_into}
use Rattle.indexmap.specs.IndexMap as maps

pub invariant_of-self : goal.invariant_of-self
invariant_of-self c =
    let t = c.self.inside in
    let es = t.index.entries in
    let es' = c.uncover.new.index.entries in
    let left = c.pop.new.self.items in
    let outer = c.in-Some.outer in
    let h = subst (λ bs. AreInnermost es (latest t.block.items ∷ latest_blocks bs))
    c.in-Some.ensures.items c.self.invariant in
    let u = subst (λ b. Uncovers es es' b.items []) c.replace-inner.ensures.value
    c.uncover.ensures.uncovers in
    subst (λ b. AreInnermost es' (latest b.items ∷ latest_blocks left))
    (sym c.replace-inner.ensures.after) (ended es es' t.block.items outer left h u)

pub returns-in-Some : goal.returns-in-Some
returns-in-Some c =
    let t = c.self.inside in
    let left = c.pop.new.self.items in
    let outer = c.in-Some.outer in
    let seen : SymbolTable = record {
      block = scope (latest t.block.items);
      around = map scope (latest_blocks t.around.items);
      hasher = maps.hasher_of t.index;
    } in
    let around : seen.around ≡ scope (latest outer.items) ∷ map scope (latest_blocks left) =
    ap (λ bs. map scope (latest_blocks bs)) c.in-Some.ensures.items
    ∙ ap (map scope) (blocks_last left outer) in
    (λ i. record {
      block = scope (latest (c.replace-inner.ensures.after i).items);
      around = map scope (latest_blocks left);
      hasher = c.uncover.ensures.hasher i;
    })
    ∙ sym (ap (closed_into seen) around) ∙ ap closed c.self.view_is
