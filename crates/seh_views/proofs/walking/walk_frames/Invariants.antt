use Rattle.std.proofs.Common.{◌≡◌, ◌-◌, length}
use Rattle.eh_index.specs.Ordered.{IsOrdered}
use Rattle.seh_views.specs.Walks.{walk_from, walk}
use Rattle.seh_views.proofs.walking.walk_frames.Given as goal

abbrev pub invariant-loop-k : goal.invariant-loop-k
invariant-loop-k g l =
    let m = g.S.CodeSpace.memory l.space in
    let t = l.tables in
    record {
      room : length l.frames ≡ length l.fn.frames;
      rest : IsOrdered t.ranges l.index
          → walk_from l.own t l.base m l.size (length l.fn.frames - l.k) l.k l.here l.frames
          ≡ walk l.own t l.base m l.size l.context l.fn.frames;
    }
