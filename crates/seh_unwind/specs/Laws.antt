-- What holds of every unwinding.
use Rattle.std.specs.Prelude.{◌≡◌, ℕ, ◌^◌, ◌<◌, ◌≤◌}
use Rattle.flat_memory.specs.Memory.{Memory}
use Rattle.virtual_unwind.specs.Contexts.{rsp}
use Rattle.virtual_unwind.specs.CallerOf.{Functions}
use Rattle.seh_records.specs.Laws.{AreBytes}
use Rattle.seh_walk.specs.declared.walk.WalkState.{WalkState}
use Rattle.seh_walk.specs.Walk.{steps}
use Rattle.seh_unwind.specs.Unwind.{unwind}

-- with more steps it comes to the same: the bound isn't reached
abbrev pub UnwindingsEnd : Type 0
UnwindingsEnd =
    (t : Functions) (m : Memory) (frame target : ℕ) (w : WalkState) (n : ℕ) → AreBytes m.byte
    → 0 < rsp w.context → rsp w.context < 2 ^ 64 → steps ≤ n
    → unwind n t m frame target w ≡ unwind steps t m frame target w
