-- What comes of an image that is checked entry by entry: the verdicts on the entries of its
-- function table, and their text.
--
-- The main definitions: `AreChecked`, `entries_text`, `IsEntriesAnswer`.
use Rattle.std.specs.Prelude.{◌≡◌, ℕ, ◌+◌, List, [], ◌∷◌, ◌++◌, length, codes, count_by, is_none, Option, Some, None, Ok, Err}
use Rattle.std.specs.Fmt.{decimal}
use Rattle.seh_io.specs.Text.{hexadecimal, ended}
use Rattle.pe_image.specs.Image.{Image}
use Rattle.pe_image.specs.Reading.{IsImage}
use Rattle.image_code.specs.Verdicts.{AreImageVerdicts}
use Rattle.unwind_check.specs.declared.rule.EntryVerdict.{EntryVerdict}
use Rattle.unwind_check.specs.declared.rule.Fault.{Fault}
use Rattle.unwind_check.specs.declared.rule.Verdict.TheVariants.{No}
use Rattle.x64_emit.specs.declared.entry.TheConstants.{CHECK_STACK}
use Rattle.seh.specs.declared.outcome.CommandOutcome.TheVariants.{CheckedEntries}
use Rattle.seh.specs.declared.refusal.Refusal.TheVariants as refusals
use Rattle.seh.specs.declared.verdict.TheConstants.{RVA_DIGITS}
use Rattle.seh.specs.Streams.{TookWhole}
use Rattle.seh.specs.Answers.{Unwritten, IsCutOff, Judged}
use Rattle.seh.specs.Checks.{verdict_text, IsCheckRefusal}

-- ---- the text

-- the index of an entry without a fault, and the address of its first byte, relative to the image
-- base; or what the line of a verdict says of the entry's first fault
abbrev pub entry_text : ℕ → ℕ → Option Fault → List ℕ
entry_text index begin None =
    codes "yes " ++ decimal index ++ codes " " ++ hexadecimal RVA_DIGITS begin
entry_text index begin (Some fault) = verdict_text (No index fault)

abbrev pub entry_line : ℕ → EntryVerdict → List ℕ
entry_line index v = ended (entry_text index v.begin v.fault)

-- a line for each, from an index on
abbrev pub entry_lines : ℕ → List EntryVerdict → List ℕ
entry_lines index [] = []
entry_lines index (v ∷ vs) = entry_line index v ++ entry_lines (index + 1) vs

-- how many entries are without a fault
abbrev pub kept_count : List EntryVerdict → ℕ
kept_count vs = count_by (λ v. is_none v.fault) vs

-- how many those are of how many
abbrev pub count_line : ℕ → ℕ → List ℕ
count_line kept all = ended (codes "yes " ++ decimal kept ++ codes " of " ++ decimal all)

-- their lines, and the last with `kept_count`, how many entries are without a fault
abbrev pub entries_text : List EntryVerdict → List ℕ
entries_text vs = entry_lines 0 vs ++ count_line (kept_count vs) (length vs)

-- ---- the verdicts

-- the bytes are an image whose function table is read whole, and these are the verdicts on its
-- entries, one by one; its code is taken as for one verdict on all
pub record AreChecked (bytes : List ℕ) (verdicts : List EntryVerdict) : Type 0 where
  pub image : Image
  pub is : IsImage bytes image
  pub come : AreImageVerdicts image CHECK_STACK verdicts

-- what comes of an image's bytes: the whole text of the verdicts; why there are none, as for one
-- verdict on all; or a part of the text, where the sink had a fault
abbrev pub IsEntriesAnswer : Judged
IsEntriesAnswer bytes out out' (Ok (CheckedEntries kept all)) =
    (verdicts : List EntryVerdict) × AreChecked bytes verdicts × (kept ≡ kept_count verdicts)
    × (all ≡ length verdicts) × TookWhole (entries_text verdicts) out out'
IsEntriesAnswer bytes out out' (Err refusals.WriteFault) =
    (verdicts : List EntryVerdict) × AreChecked bytes verdicts
    × IsCutOff (entries_text verdicts) out out'
IsEntriesAnswer bytes out out' (Err r) = IsCheckRefusal bytes r × Unwritten out out'
IsEntriesAnswer bytes out out' answer = ⊥
