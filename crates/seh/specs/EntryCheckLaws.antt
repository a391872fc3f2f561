-- What `check --each` says: the text of the verdicts on all entries of an image, which is one text.
use Rattle.std.specs.Prelude.{◌≡◌, ◌⊎◌, ℕ, ◌≤◌, List, length, Ok}
use Rattle.pe_image.specs.Image.{Image}
use Rattle.pe_image.specs.Reading.{IsImage}
use Rattle.eh_tables.specs.Tables.{Entry, tables}
use Rattle.unwind_check.specs.declared.rule.EntryVerdict.{EntryVerdict}
use Rattle.image_code.specs.Verdicts.{AreImageVerdicts}
use Rattle.command_line.specs.declared.command.CheckReport.TheVariants.{Whole, Each}
use Rattle.command_line.specs.declared.command.Command.TheVariants.{Check}
use Rattle.x64_emit.specs.declared.entry.TheConstants.{CHECK_STACK}
use Rattle.seh.specs.Answers.{image_limit}
use Rattle.seh.specs.Calls.{Call, Asks, Gave, WantedMemory}
use Rattle.seh.specs.EntryChecks.{AreChecked, kept_count, entries_text}
use Rattle.seh.specs.Statuses.{entries_status}

-- an image whose function table is read whole: the text of the verdicts on its entries, and their
-- status
abbrev pub EntryCheckIsComplete : Type 0
EntryCheckIsComplete =
    (bytes : List ℕ) (image : Image) (entries : List Entry) (call : Call)
    → length bytes ≤ image_limit → IsImage bytes image → tables image ≡ Ok entries
    → Asks (Check Each) bytes call
    → WantedMemory call
    ⊎ ((verdicts : List EntryVerdict) × AreImageVerdicts image CHECK_STACK verdicts
    × Gave (entries_status (kept_count verdicts) (length verdicts)) (entries_text verdicts) call)

-- at most one list of verdicts is that of an image's entries, and so at most one text
abbrev pub EntriesHaveOneVerdictEach : Type 0
EntriesHaveOneVerdictEach =
    (bytes : List ℕ) (a b : List EntryVerdict) → AreChecked bytes a → AreChecked bytes b → a ≡ b

-- a call of `check` and one of `check --each` over the same bytes end with one status, where memory
-- isn't wanting in either
abbrev pub StatusesAgree : Type 0
StatusesAgree =
    (bytes : List ℕ) (whole each : Call)
    → length bytes ≤ image_limit → Asks (Check Whole) bytes whole → Asks (Check Each) bytes each
    → WantedMemory whole ⊎ (WantedMemory each ⊎ (whole.status ≡ each.status))
