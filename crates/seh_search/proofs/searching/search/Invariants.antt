use Rattle.std.proofs.Common.{◌≡◌, ◌-◌}
use Rattle.virtual_unwind.specs.CallerOf.{functions_of}
use Rattle.seh_walk.specs.Walk.{walk_in}
use Rattle.seh_search.specs.Search.{search}
use Rattle.seh_search.proofs.searching.search.Given as goal

abbrev pub invariant-loop-i : goal.invariant-loop-i
invariant-loop-i g l =
    let t = functions_of l.tables in
    let m = g.S.CodeSpace.memory l.space in
    search (0xFFFF_FFFF_FFFF_FFFF - l._i) t m l.at
    ≡ search 0xFFFF_FFFF_FFFF_FFFF t m (walk_in l.dispatch)
