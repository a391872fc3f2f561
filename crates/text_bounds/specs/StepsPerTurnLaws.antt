-- What is claimed of every accepted text within the limits and the linear code of its program.
use Rattle.std.specs.Prelude.{◌≤◌, ℕ, ◌+◌, ◌*◌, List}
use Rattle.c_checked.specs.Program.{Program}
use Rattle.c_syntax.specs.Limits.{Within}
use Rattle.c_syntax.specs.Program.{ExternalDeclaration}
use Rattle.c_syntax.specs.Nodes.{nodes_of}
use Rattle.c_resolved.specs.Accepted.{Accepted}
use Rattle.c_resolved.specs.Program.{resolve}
use Rattle.seh_ir.specs.Lowered.{lowered}
use Rattle.lowering_follows.specs.FollowLaws.{Follows, NoMore}
use Rattle.lowering_follows.specs.StepsPerTurn.{steps_per_turn_of}

-- how many steps a turn may represent, by the number of bytes of the text (own)
abbrev pub steps_per_turn_in : ℕ → ℕ
steps_per_turn_in bytes = 8 * bytes + 256

abbrev pub StepsPerTurnAreBounded : Type 0
StepsPerTurnAreBounded =
    (text : List ℕ) (xs : List ExternalDeclaration) → Within text xs → (bytes : ℕ)
    → nodes_of xs ≤ bytes → steps_per_turn_of (resolve text xs).program ≤ steps_per_turn_in bytes

-- a text's program, by what it is resolved to
abbrev pub program_of : List ℕ → List ExternalDeclaration → Program
program_of text xs = (resolve text xs).program

abbrev pub AcceptedFollows : Type 0
AcceptedFollows =
    (text : List ℕ) (xs : List ExternalDeclaration) → Within text xs → Accepted text xs
    → Follows (program_of text xs) (lowered (program_of text xs))

abbrev pub AcceptedShowsNoMore : Type 0
AcceptedShowsNoMore =
    (text : List ℕ) (xs : List ExternalDeclaration) (bytes : ℕ) → Within text xs → Accepted text xs
    → nodes_of xs ≤ bytes
    → NoMore (program_of text xs) (lowered (program_of text xs)) (steps_per_turn_in bytes)
