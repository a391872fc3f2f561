-- What is claimed of the stacks and the ends of whole runs.
use Rattle.std.specs.Prelude.{◌≡◌, ℕ, ◌+◌, ◌*◌, ◌^◌, ◌<◌, ◌≤◌, true, List, ℤ, pos, Some}
use Rattle.seh_num.specs.declared.end.RunEnd.{RunEnd}
use Rattle.host_model.specs.Machine.{machine}
use Rattle.c_checked.specs.Program.{Program}
use Rattle.source_meaning.specs.Meaning.{Calm}
use Rattle.linear_machine.specs.Run.{seen}
use Rattle.seh_ir.specs.Lowered.{lowered}
use Rattle.lowering_follows.specs.StepsPerTurn.{steps_per_turn_of}
use Rattle.lowering_locals.specs.Reads.{ReadsNoUnset}
use Rattle.image_states.specs.StartLaws.{HasBytes}
use Rattle.image_runs.specs.SoundImages.{IsLinkable}
use Rattle.image_runs.specs.ImageMeaning.{IsImageOf}
use Rattle.image_runs.specs.RunStates.{IsRunning}
use Rattle.image_runs.specs.RunWalks.{PassesTheFrames, IsOfProgram}

-- as long as linear code continues
abbrev pub RunsPassTheFrames : Type 0
RunsPassTheFrames =
    (program : Program) → IsLinkable program → ReadsNoUnset (lowered program)
    → HasBytes (lowered program)
    → (arg : ℤ) (n : ℕ) → IsRunning (seen (lowered program) arg n)
    → PassesTheFrames program arg n

-- in m turns of a program that is calm within (m + 1) * K steps, the run comes to no end but the
-- program's
abbrev pub RunsEndAsPrograms : Type 0
RunsEndAsPrograms =
    (program : Program) → IsLinkable program → ReadsNoUnset (lowered program) → (bytes : List ℕ)
    → IsImageOf bytes program
    → (arg m n : ℕ) → arg < 2 ^ 63 → (m + 1) * steps_per_turn_of program ≤ n → Calm program
    (pos arg) n ≡ true
    → (e : RunEnd) → (machine bytes (pos arg) m).end ≡ Some e → IsOfProgram e
