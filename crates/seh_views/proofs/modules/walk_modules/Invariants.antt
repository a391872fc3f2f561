use Rattle.std.proofs.Common.{◌≡◌, ◌-◌, length}
use Rattle.seh_views.specs.Modules.{AreViews, modules_from, walk_modules}
use Rattle.seh_views.proofs.modules.walk_modules.Given as goal

abbrev pub invariant-loop-k : goal.invariant-loop-k
invariant-loop-k l = record {
  room : length l.frames ≡ length l.fn.frames;
  rest : AreViews l.views
      → modules_from l.views l.ranges (length l.fn.frames - l.k) l.k l.last l.here l.frames
      ≡ walk_modules l.views l.ranges l.context l.fn.frames;
}
