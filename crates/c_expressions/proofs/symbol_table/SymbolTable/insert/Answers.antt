use Rattle.std.proofs.Common.{◌∷◌, map, ap, sym, subst, ◌∙◌}
use Rattle.c_expressions.proofs.Tables.{declared, latest_last}
use Rattle.c_expressions.proofs.symbol_table.SymbolTable.insert.Goals as goal
use Rattle.c_expressions.specs.Declarations.{AreInnermost, latest, latest_blocks, scope}
use Rattle.c_expressions.specs.SymbolTables.{SymbolTable, with_block}
use Rattle.c_expressions.specs.Words.{entity}
use Rattle.c_expressions.specs.declared.symbol_table.Declaration.{Declaration}

pub invariant_of-self-in-Ok : goal.invariant_of-self-in-Ok
invariant_of-self-in-Ok c =
    let t = c.self.inside in
    subst (λ b. AreInnermost c.insert.new.self.entries (latest b ∷ latest_blocks t.around.items))
    (sym c.in_ok-push.ensures.items)
    (declared t.index.entries c.insert.new.self.entries t.block.items t.around.items c.args.name
    c.args.meaning c.innermost_of-hidden.result c.depth_of-depth.result c.self.invariant
    c.innermost_of-hidden.ensures c.depth_of-depth.ensures c.in-Ok.ensures.entries)

pub returns-in-Ok-clause-inserted : goal.returns-in-Ok-clause-inserted
returns-in-Ok-clause-inserted c =
    let t = c.self.inside in
    let d : Declaration = record {
      name = c.args.name;
      meaning = c.args.meaning;
      hidden = c.innermost_of-hidden.result;
    } in
    let block = ap (λ b. scope (latest b)) c.in_ok-push.ensures.items
    ∙ ap scope (latest_last t.block.items d) in
    (λ i. record {
      block = block i;
      around = map scope (latest_blocks t.around.items);
      hasher = c.in-Ok.ensures.hasher i;
    })
    ∙ ap (λ (s : SymbolTable). with_block s ((c.args.name.now, entity c.args.meaning) ∷ s.block))
    c.self.view_is
