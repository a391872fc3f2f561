-- What holds of every walk.
use Rattle.std.specs.Prelude.{◌≡◌, ◌^◌, ◌<◌}
use Rattle.flat_memory.specs.Memory.{Memory}
use Rattle.virtual_unwind.specs.Contexts.{rsp}
use Rattle.virtual_unwind.specs.CallerOf.{Functions}
use Rattle.seh_records.specs.Laws.{AreBytes}
use Rattle.seh_walk.specs.declared.walk.WalkState.{WalkState}
use Rattle.seh_walk.specs.Walk.{Visited, Over, Past, Frame, Broken, visited, steps}
use Rattle.seh_walk.specs.Controls.{controls, controls_from}

-- a walk can continue from there
abbrev pub ContinuesAt : Visited → WalkState → Type 0
ContinuesAt Over u = ⊥
ContinuesAt (Past v) u = v ≡ u
ContinuesAt (Frame f v) u = v ≡ u
ContinuesAt (Broken y) u = ⊥

-- RSP rises in each step
abbrev pub WalksRise : Type 0
WalksRise =
    (t : Functions) (m : Memory) (w u : WalkState) → ContinuesAt (visited t m w) u
    → rsp w.context < rsp u.context

-- and stays an address, so that no walk has more steps than there are addresses
abbrev pub WalksStayBelow : Type 0
WalksStayBelow =
    (t : Functions) (m : Memory) (w u : WalkState) → AreBytes m.byte → rsp w.context < 2 ^ 64
    → ContinuesAt (visited t m w) u → rsp u.context < 2 ^ 64

-- the control addresses of a walk are its own one, at a frame, and those of the walk that continues
-- there: no bound cuts them off
abbrev pub ControlsAreOfTheWalk : Type 0
ControlsAreOfTheWalk =
    (t : Functions) (m : Memory) (w : WalkState) → AreBytes m.byte → 0 < rsp w.context
    → rsp w.context < 2 ^ 64
    → controls steps t m w ≡ controls_from (controls steps t m) w (visited t m w)
