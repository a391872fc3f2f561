use Rattle.std.proofs.Common.{◌≡◌, [], ◌∷◌, ◌++◌, map, ap, sym, subst, ◌∙◌}
use Rattle.c_expressions.proofs.Tables.{begun, blocks_last}
use Rattle.c_expressions.proofs.symbol_table.SymbolTable.open.Goals as goal
use Rattle.c_expressions.specs.Declarations.{AreInnermost, latest, latest_blocks, scope}
use Rattle.c_expressions.specs.SymbolTables.{opened}
use Rattle.indexmap.specs.IndexMap as maps

pub invariant_of-self : goal.invariant_of-self
invariant_of-self c =
    let t = c.self.inside in
    let es = t.index.entries in
    let around = c.push.new.self.items in
    let empty : c.replace-outer.new.dest.items ≡ [] =
    ap (λ v. v.items) c.replace-outer.ensures.after ∙ c.new.ensures.items in
    let more : around ≡ t.around.items ++ t.block ∷ [] = c.in-Ok.ensures.items
    ∙ ap (λ b. t.around.items ++ b ∷ []) c.replace-outer.ensures.value in
    subst (λ b. AreInnermost es (latest b ∷ latest_blocks around)) (sym empty)
    (subst (λ bs. AreInnermost es ([] ∷ latest_blocks bs)) (sym more)
    (begun es t.block t.around.items c.self.invariant))

pub returns-in-Ok-clause-opened : goal.returns-in-Ok-clause-opened
returns-in-Ok-clause-opened c =
    let t = c.self.inside in
    let around = c.push.new.self.items in
    let empty : c.replace-outer.new.dest.items ≡ [] =
    ap (λ v. v.items) c.replace-outer.ensures.after ∙ c.new.ensures.items in
    let more : around ≡ t.around.items ++ t.block ∷ [] = c.in-Ok.ensures.items
    ∙ ap (λ b. t.around.items ++ b ∷ []) c.replace-outer.ensures.value in
    let outer = ap (λ bs. map scope (latest_blocks bs)) more
    ∙ ap (map scope) (blocks_last t.around.items t.block) in
    (λ i. record {
      block = scope (latest (empty i));
      around = outer i;
      hasher = maps.hasher_of t.index;
    }) ∙ ap opened c.self.view_is
