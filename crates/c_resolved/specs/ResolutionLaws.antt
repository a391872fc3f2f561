-- Laws of what texts are resolved to, and of the fault that is reported.
use Rattle.std.specs.Prelude.{◌≡◌, ◌<◌, ◌≤◌, ◌⊎◌, ℕ, List, [], slice_get, Some, MatchOption}
use Rattle.c_checked.specs.Sound.{IsSound}
use Rattle.c_syntax.specs.Limits.{Within}
use Rattle.c_syntax.specs.Program.{ExternalDeclaration}
use Rattle.c_resolved.specs.Accepted.{Accepted, rank, least}
use Rattle.c_resolved.specs.Expressions.{FaultAt}
use Rattle.c_resolved.specs.Program.{resolve}

-- what an accepted text within the limits is resolved to is sound
abbrev pub AcceptedIsSound : Type 0
AcceptedIsSound =
    (text : List ℕ) (program : List ExternalDeclaration) → Within text program
    → Accepted text program → IsSound (resolve text program).program

-- its place is earlier, or its rule is no later at one place
abbrev pub IsNoLater : FaultAt → FaultAt → Type 0
IsNoLater f g = (f.at < g.at) ⊎ ((f.at ≡ g.at) × (rank f.fault ≤ rank g.fault))

-- it is one of the faults, and no later than any
pub record IsLeast (fs : List FaultAt) (f : FaultAt) : Type 0 where
  pub among : (i : ℕ) × (slice_get fs i ≡ Some f)
  pub first : (i : ℕ) (g : FaultAt) → slice_get fs i ≡ Some g → IsNoLater f g

-- a fault is reported where there is one, and that is the least
abbrev pub LeastIsReported : Type 0
LeastIsReported = (fs : List FaultAt) → MatchOption (least fs) (fs ≡ []) (IsLeast fs)
