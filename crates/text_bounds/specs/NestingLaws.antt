-- What is claimed of the linear code of every accepted text within the limits.
use Rattle.std.specs.Prelude.{ℕ, List}
use Rattle.c_syntax.specs.Limits.{Within}
use Rattle.c_syntax.specs.Program.{ExternalDeclaration}
use Rattle.c_resolved.specs.Accepted.{Accepted}
use Rattle.c_resolved.specs.Program.{resolve}
use Rattle.seh_ir.specs.Lowered.{lowered}
use Rattle.lowering_invariants.specs.Nesting.{AreShallow}
use Rattle.lowering_invariants.specs.Slots.{IsSmall}

-- a program is nested no deeper than its text
abbrev pub ResolvedIsShallow : Type 0
ResolvedIsShallow =
    (text : List ℕ) (xs : List ExternalDeclaration) → Within text xs
    → AreShallow (resolve text xs).program.functions

-- no frame has more than 1,000 words, with 1,024 more for each 1 that its function weighs above 1,
-- and one without locals no more than 460
abbrev pub AcceptedIsSmall : Type 0
AcceptedIsSmall =
    (text : List ℕ) (xs : List ExternalDeclaration) → Within text xs → Accepted text xs
    → IsSmall (lowered (resolve text xs).program)
