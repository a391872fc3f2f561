-- What the written lines of `check --each` say: the frames of an entry whose function has yes in
-- all its lines, and that the first no is the one of `check`.
--
-- The main definition: `AreYesLines`.
use Rattle.std.specs.Prelude.{◌≡◌, ℕ, ◌+◌, ◌^◌, ◌<◌, ◌≤◌, List, ◌++◌, codes, slice_get, Some}
use Rattle.std.specs.Fmt.{decimal}
use Rattle.std.specs.List.{AllByRecursion}
use Rattle.x64_machine.specs.Contexts.{context_of}
use Rattle.x64_machine.specs.Effect.{State}
use Rattle.eh_tables.specs.Tables.{Entry}
use Rattle.virtual_unwind.specs.CallerOf.{distance, entry_of, caller_in}
use Rattle.frame_rules.specs.Frame.{left_to}
use Rattle.frame_rules.specs.States.{registers, return_address}
use Rattle.frame_rules.specs.Rules.{IsFound}
use Rattle.unwind_check.specs.declared.rule.EntryVerdict.{EntryVerdict}
use Rattle.unwind_check.specs.declared.rule.Verdict.{Verdict}
use Rattle.unwind_check.specs.EntryVerdicts.{first_no}
use Rattle.unwind_check.specs.Laws.{IsInEntry, IsPartOf, function_range}
use Rattle.host_model.specs.Machine.{functions_in}
use Rattle.image_code.specs.Code.{code_of}
use Rattle.image_code.specs.Frames.{HasCodeOf}
use Rattle.seh_io.specs.Text.{hexadecimal, ended}
use Rattle.seh.specs.declared.verdict.TheConstants.{RVA_DIGITS}
use Rattle.seh.specs.Checks.{IsChecked}
use Rattle.seh.specs.EntryChecks.{AreChecked, entry_line}

-- the line `yes K RVA` of an entry that begins there
abbrev pub yes_line : ℕ → ℕ → List ℕ
yes_line index begin =
    ended (codes "yes " ++ decimal index ++ codes " " ++ hexadecimal RVA_DIGITS begin)

-- each part of an entry's function has such a line: its own entry, that which it is chained to, and
-- each other one that is chained there
abbrev pub AreYesLines : List Entry → List EntryVerdict → Entry → Type 0
AreYesLines es verdicts entry =
    (index : ℕ) (part : Entry) (verdict : EntryVerdict) → slice_get es index ≡ Some part
    → slice_get verdicts index ≡ Some verdict
    → IsPartOf (function_range entry.range entry.info.parent) part
    → entry_line index verdict ≡ yes_line index part.range.begin

-- where the lines of all parts of an entry's function are yes, and the image's base is at least
-- 4 GiB below 2^63, the walk over the loaded image finds the caller in every state of the entry, as
-- it was at the first byte of its function (in state e), whatever the other lines say
abbrev pub YesLinesFindCallers : Type 0
YesLinesFindCallers =
    (bytes : List ℕ) (verdicts : List EntryVerdict) (checked : AreChecked bytes verdicts)
    (entry : Entry) (e s : State) (d : ℕ)
    → let functions = functions_in checked.image in
    AllByRecursion (λ b. b < 256) bytes → checked.image.base + 2 ^ 32 ≤ 2 ^ 63
    → AreYesLines functions.entries verdicts entry → HasCodeOf s.memory checked.image
    → entry_of functions s.cpu.rip ≡ Some entry
    → distance functions.base s.cpu.rip ≡ entry.range.begin + d
    → s.cpu.rip ≡ functions.base + entry.range.begin + d
    → IsInEntry (code_of checked.image) functions.entries entry e s d
    → IsFound (caller_in functions s.memory (context_of s.cpu))
    (left_to (registers e) (return_address e))

-- the verdict of `check` is the first no of those of `check --each`, or yes where there is none
abbrev pub FirstNoIsOfCheck : Type 0
FirstNoIsOfCheck =
    (bytes : List ℕ) (verdicts : List EntryVerdict) (verdict : Verdict)
    → AreChecked bytes verdicts → IsChecked bytes verdict → verdict ≡ first_no 0 verdicts
