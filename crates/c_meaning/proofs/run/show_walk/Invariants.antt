use Rattle.std.specs.Prelude.{drop, map, reverse}
use Rattle.source_meaning.specs.State.{walk_events}
use Rattle.c_meaning.proofs.run.show_walk.Given as goal

abbrev pub invariant-loop-index : goal.invariant-loop-index
invariant-loop-index g l =
    g.V.Events.took l.initial.to
    (walk_events (reverse (map (λ f. f.value) (drop l.index l.functions.numbers.items)))) l.to
