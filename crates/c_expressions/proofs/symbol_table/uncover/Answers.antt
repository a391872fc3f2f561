use Rattle.std.proofs.Common.{[], ◌∷◌, ◌++◌, subst, ◌∙◌}
use Rattle.c_expressions.proofs.Tables.{uncovered}
use Rattle.c_expressions.proofs.symbol_table.uncover.Goals as goal
use Rattle.c_expressions.specs.Declarations.{Uncovers}

pub loop-last-preserved : goal.loop-last-preserved
loop-last-preserved c =
    let before = c.args.index.now.entries in
    let es = c.loop-last.index.entries in
    let ds = c.args.block.items in
    let left = c.pop.new.self.items in
    let d = c.in-Some.last in
    let u : Uncovers before es ds (left ++ d ∷ []) =
    subst (Uncovers before es ds) c.in-Some.ensures.items c.loop-last.invariant.0 in (
      uncovered before es c.set_innermost.new.index.entries ds left d u
          c.set_innermost.ensures.sets,
      c.set_innermost.ensures.hasher ∙ c.loop-last.invariant.1,
    )
