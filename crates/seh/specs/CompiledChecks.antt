-- What `check` says of an image that `compile` wrote: yes.
use Rattle.std.specs.Prelude.{◌≡◌, ◌⊎◌, ℕ, ◌≤◌, List, length}
use Rattle.c_checked.specs.Program.{Program}
use Rattle.c_resolved.specs.Program.{resolve}
use Rattle.unwind_check.specs.declared.rule.Verdict.{Verdict}
use Rattle.unwind_check.specs.declared.rule.Verdict.TheVariants.{Yes}
use Rattle.command_line.specs.declared.command.CheckReport.TheVariants.{Whole}
use Rattle.command_line.specs.declared.command.Command.TheVariants.{Compile, Check}
use Rattle.seh.specs.declared.status.Status.TheVariants as statuses
use Rattle.seh.specs.Answers.{text_limit}
use Rattle.seh.specs.Calls.{Call, Asks, Gave, Took, WantedMemory}
use Rattle.seh.specs.Checks.{IsChecked, verdict_line}
use Rattle.seh.specs.Images.{IsCompiled, entry_count}
use Rattle.seh.specs.Meanings.{IsProgramOf}

-- the verdict on the image of an accepted text is yes, of one entry for each of its routines that
-- has a frame, and one for each cold part of these
abbrev pub CompiledImagesAreKept : Type 0
CompiledImagesAreKept =
    (text image : List ℕ) (compiled : IsCompiled text image)
    → IsChecked image (Yes (entry_count (resolve text compiled.whole).program))

-- and no other
abbrev pub CompiledVerdictsAreYes : Type 0
CompiledVerdictsAreYes =
    (text image : List ℕ) (verdict : Verdict) (compiled : IsCompiled text image)
    → IsChecked image verdict
    → verdict ≡ Yes (entry_count (resolve text compiled.whole).program)

-- `compile` of an accepted text, then `check` of the bytes that it wrote: `yes N`, with N the
-- number of these entries, and status 0
abbrev pub CompiledIsKept : Type 0
CompiledIsKept =
    (source image : List ℕ) (p : Program) (first second : Call)
    → length source ≤ text_limit → IsProgramOf source p → Asks Compile source first
    → first.status ≡ statuses.Done → Took image first → Asks (Check Whole) image second
    → WantedMemory second
    ⊎ Gave statuses.Done (verdict_line (Yes (entry_count p))) second
