-- What holds of every search.
use Rattle.std.specs.Prelude.{◌≡◌, ℕ, ◌^◌, ◌<◌, ◌≤◌}
use Rattle.flat_memory.specs.Memory.{Memory}
use Rattle.virtual_unwind.specs.Contexts.{rsp}
use Rattle.virtual_unwind.specs.CallerOf.{Functions}
use Rattle.seh_records.specs.Laws.{AreBytes}
use Rattle.seh_walk.specs.declared.walk.WalkState.{WalkState}
use Rattle.seh_walk.specs.Walk.{steps}
use Rattle.seh_search.specs.Search.{search}

-- with more steps it comes to the same: the bound isn't reached
abbrev pub SearchesEnd : Type 0
SearchesEnd =
    (t : Functions) (m : Memory) (w : WalkState) (n : ℕ) → AreBytes m.byte → 0 < rsp w.context
    → rsp w.context < 2 ^ 64 → steps ≤ n → search n t m w ≡ search steps t m w
