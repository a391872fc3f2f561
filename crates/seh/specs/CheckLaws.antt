-- What `check` says: an image has one verdict; where it is yes, the caller of every frame is found.
use Rattle.std.specs.Prelude.{◌≡◌, ℕ, ◌+◌, ◌^◌, ◌<◌, ◌≤◌, List, length, Some}
use Rattle.std.specs.List.{AllByRecursion}
use Rattle.x64_machine.specs.Contexts.{context_of}
use Rattle.x64_machine.specs.Effect.{State}
use Rattle.eh_tables.specs.Tables.{Entry}
use Rattle.virtual_unwind.specs.CallerOf.{distance, entry_of, caller_in}
use Rattle.frame_rules.specs.Frame.{left_to}
use Rattle.frame_rules.specs.States.{registers, return_address}
use Rattle.frame_rules.specs.Rules.{IsFound}
use Rattle.unwind_check.specs.declared.rule.Verdict.{Verdict}
use Rattle.unwind_check.specs.declared.rule.Verdict.TheVariants.{Yes}
use Rattle.unwind_check.specs.Laws.{IsInEntry}
use Rattle.host_model.specs.Machine.{functions_in}
use Rattle.image_code.specs.Code.{code_of}
use Rattle.image_code.specs.Frames.{HasCodeOf}
use Rattle.command_line.specs.declared.command.CheckReport.TheVariants.{Whole}
use Rattle.command_line.specs.declared.command.Command.TheVariants.{Check}
use Rattle.seh.specs.declared.status.Status.TheVariants as statuses
use Rattle.seh.specs.Answers.{image_limit}
use Rattle.seh.specs.Calls.{Call, Asks}
use Rattle.seh.specs.Checks.{IsChecked}

abbrev pub ImagesHaveOneVerdict : Type 0
ImagesHaveOneVerdict =
    (bytes : List ℕ) (a b : Verdict) → IsChecked bytes a → IsChecked bytes b → a ≡ b

-- a call of `check` that ends with status 0: the verdict on its image is yes
abbrev pub DoneIsYes : Type 0
DoneIsYes =
    (bytes : List ℕ) (call : Call)
    → length bytes ≤ image_limit → Asks (Check Whole) bytes call → call.status ≡ statuses.Done
    → (n : ℕ) × IsChecked bytes (Yes n)

-- where the verdict is yes and the image's base is 4 GiB or more below 2^63, the walk over the
-- image at its base finds the caller in every state of each entry, as it was at the first byte of
-- its function (in state e)
abbrev pub CheckedCallersAreFound : Type 0
CheckedCallersAreFound =
    (bytes : List ℕ) (n : ℕ) (checked : IsChecked bytes (Yes n)) (entry : Entry) (e s : State)
    (d : ℕ)
    → let functions = functions_in checked.image in
    AllByRecursion (λ b. b < 256) bytes → checked.image.base + 2 ^ 32 ≤ 2 ^ 63
    → HasCodeOf s.memory checked.image
    → entry_of functions s.cpu.rip ≡ Some entry
    → distance functions.base s.cpu.rip ≡ entry.range.begin + d
    → s.cpu.rip ≡ functions.base + entry.range.begin + d
    → IsInEntry (code_of checked.image) functions.entries entry e s d
    → IsFound (caller_in functions s.memory (context_of s.cpu))
    (left_to (registers e) (return_address e))
