-- What a yes of an entry of its own says, beside other entries that may have none; and what the
-- verdicts on all entries say together.
--
-- The main definition: `IsAllYes`.
use Rattle.std.specs.Prelude.{◌≡◌, ℕ, ◌+◌, List, slice_get, Some, None}
use Rattle.x64_machine.specs.Contexts.{context_of}
use Rattle.x64_machine.specs.Effect.{State}
use Rattle.pe_image.specs.Image.{Image}
use Rattle.eh_tables.specs.Tables.{Entry, Tables, entries_of, holding}
use Rattle.virtual_unwind.specs.CallerOf.{distance, caller_of}
use Rattle.frame_rules.specs.Frame.{left_to}
use Rattle.frame_rules.specs.States.{registers, return_address}
use Rattle.frame_rules.specs.Rules.{IsFound}
use Rattle.unwind_check.specs.declared.rule.EntryVerdict.{EntryVerdict}
use Rattle.unwind_check.specs.declared.rule.Verdict.{Verdict}
use Rattle.unwind_check.specs.EntryVerdicts.{AreEntryVerdicts, first_no}
use Rattle.unwind_check.specs.Laws.{IsInEntry, IsPartOf, function_range}
use Rattle.image_code.specs.Code.{code_of}
use Rattle.image_code.specs.Frames.{IsTableOf, HasCodeOf}
use Rattle.image_code.specs.Verdicts.{checked_code, IsImageVerdict, AreImageVerdicts}

-- every part of an entry's function has a verdict without a fault: its own entry, that which it is
-- chained to, and each other one that is chained there
abbrev pub IsAllYes : List Entry → List EntryVerdict → Entry → Type 0
IsAllYes es vs entry =
    (k : ℕ) (part : Entry) (v : EntryVerdict) → slice_get es k ≡ Some part
    → slice_get vs k ≡ Some v → IsPartOf (function_range entry.range entry.info.parent) part
    → v.fault ≡ None

-- then the caller is found in every state of the entry in the loaded image, as it was at the first
-- byte of its function, whatever is said of other functions
abbrev pub OwnYesFindsCallers : Type 0
OwnYesFindsCallers =
    (bytes probe : List ℕ) (t : Tables) (vs : List EntryVerdict) (entry : Entry) (e s : State)
    (d : ℕ)
    → IsTableOf bytes t → AreEntryVerdicts (checked_code t.image probe) (entries_of t) vs
    → IsAllYes (entries_of t) vs entry → HasCodeOf s.memory t.image
    → holding (distance t.image.base s.cpu.rip) (entries_of t) ≡ Some entry
    → distance t.image.base s.cpu.rip ≡ entry.range.begin + d
    → s.cpu.rip ≡ t.image.base + entry.range.begin + d
    → IsInEntry (code_of t.image) (entries_of t) entry e s d
    → IsFound (caller_of t s.memory (context_of s.cpu)) (left_to (registers e) (return_address e))

-- the one verdict on an image is the first no of the verdicts on its entries, or yes where there is
-- none
abbrev pub FirstNoIsTheImageVerdict : Type 0
FirstNoIsTheImageVerdict =
    (image : Image) (probe : List ℕ) (vs : List EntryVerdict) (v : Verdict)
    → AreImageVerdicts image probe vs → IsImageVerdict image probe v → v ≡ first_no 0 vs
