-- The same of the images of accepted texts.
use Rattle.std.specs.Prelude.{◌≡◌, ℕ, ◌+◌, ◌*◌, ◌^◌, ◌<◌, ◌≤◌, true, List, ℤ, pos, Some}
use Rattle.seh_num.specs.declared.end.RunEnd.{RunEnd}
use Rattle.c_syntax.specs.Limits.{Within}
use Rattle.c_syntax.specs.Program.{ExternalDeclaration}
use Rattle.c_syntax.specs.Nodes.{nodes_of}
use Rattle.c_resolved.specs.Accepted.{Accepted}
use Rattle.source_meaning.specs.Meaning.{Calm}
use Rattle.host_model.specs.Machine.{machine}
use Rattle.linear_machine.specs.Run.{seen}
use Rattle.seh_ir.specs.Lowered.{lowered}
use Rattle.text_bounds.specs.StepsPerTurnLaws.{steps_per_turn_in, program_of}
use Rattle.image_link.specs.Fits.{FitsProgram}
use Rattle.image_states.specs.StartLaws.{HasBytes}
use Rattle.image_runs.specs.ImageMeaning.{IsImageOf}
use Rattle.image_runs.specs.RunStates.{IsRunning}
use Rattle.image_runs.specs.RunWalks.{PassesTheFrames, IsOfProgram}

-- where its linear code is within the limits of linking, for each step of it that continues
abbrev pub AcceptedPassTheFrames : Type 0
AcceptedPassTheFrames =
    (text : List ℕ) (xs : List ExternalDeclaration) → Within text xs → Accepted text xs
    → FitsProgram (lowered (program_of text xs)) → HasBytes (lowered (program_of text xs))
    → (arg : ℤ) (n : ℕ) → IsRunning (seen (lowered (program_of text xs)) arg n)
    → PassesTheFrames (program_of text xs) arg n

-- in m turns of a text of at most L nodes that is calm within (m + 1) (8 L + 256) steps, the run
-- comes to no end but the program's
abbrev pub AcceptedEndAsPrograms : Type 0
AcceptedEndAsPrograms =
    (text : List ℕ) (xs : List ExternalDeclaration) (bytes : List ℕ) → Within text xs
    → Accepted text xs → FitsProgram (lowered (program_of text xs))
    → IsImageOf bytes (program_of text xs) → (most : ℕ) → nodes_of xs ≤ most
    → (arg m n : ℕ) → arg < 2 ^ 63 → (m + 1) * steps_per_turn_in most ≤ n
    → Calm (program_of text xs) (pos arg) n ≡ true
    → (e : RunEnd) → (machine bytes (pos arg) m).end ≡ Some e → IsOfProgram e
