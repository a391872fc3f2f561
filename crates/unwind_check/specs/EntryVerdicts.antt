-- What is said of the entries of a table, one by one.
--
-- The main definitions: `IsEntryVerdict`, `AreEntryVerdicts`, `first_no`.
use Rattle.std.specs.Prelude.{◌≡◌, ℕ, ◌+◌, ◌^◌, ◌<◌, List, [], ◌∷◌, Option, Some, None, IfNone}
use Rattle.eh_tables.specs.Tables.{Entry}
use Rattle.unwind_check.specs.declared.rule.Fault.{Fault}
use Rattle.unwind_check.specs.declared.rule.EntryVerdict.{EntryVerdict}
use Rattle.unwind_check.specs.declared.rule.Verdict.{Verdict}
use Rattle.unwind_check.specs.declared.rule.Verdict.TheVariants.{Yes, No}
use Rattle.unwind_check.specs.FailingRules.{AreFaults}
use Rattle.unwind_check.specs.Verdicts.{ImageCode, entry_in, IsKept, IsVerdict}

-- the address of the entry's first byte, and its first fault, or none where no rule fails in it;
-- and then its frame register is less than 256 bytes above the base of its frame
pub record IsEntryVerdict (c : ImageCode) (e : Entry) (v : EntryVerdict) : Type 0 where
  pub begin : v.begin ≡ e.range.begin
  pub faults : AreFaults (entry_in c e) v.fault
  pub near : IfNone v.fault (e.info.frame_offset < 2 ^ 8)

-- one for each entry, in their order
abbrev pub AreEntryVerdicts : ImageCode → List Entry → List EntryVerdict → Type 0
AreEntryVerdicts c [] [] = Unit {0}
AreEntryVerdicts c (e ∷ es) (v ∷ vs) = IsEntryVerdict c e v × AreEntryVerdicts c es vs
AreEntryVerdicts c es vs = ⊥

-- ---- what they say together

-- the first that has a fault, by its index, of those from an index on; where none has, how many
-- entries there are
abbrev pub no_or : Verdict → ℕ → Option Fault → Verdict
no_or others k None = others
no_or others k (Some f) = No k f

abbrev pub first_no : ℕ → List EntryVerdict → Verdict
first_no k [] = Yes k
first_no k (v ∷ vs) = no_or (first_no (k + 1) vs) k v.fault

-- the verdict on the table is that of the first entry with a fault, or yes where there is none
abbrev pub FirstNoIsTheVerdict : Type 0
FirstNoIsTheVerdict =
    (c : ImageCode) (es : List Entry) (vs : List EntryVerdict) → AreEntryVerdicts c es vs
    → IsVerdict c es (first_no 0 vs)

-- an entry that has no fault of its own is kept, whatever is said of others
abbrev pub FaultlessIsKept : Type 0
FaultlessIsKept =
    (c : ImageCode) (e : Entry) (v : EntryVerdict) → IsEntryVerdict c e v → v.fault ≡ None
    → IsKept c e
