-- The written lines of `check --each`, and the frames of the image as it is loaded.
use Rattle.std.proofs.Common.{◌≡◌, ℕ, List, Option, Some, None, Ok, refl, sym, ap, subst, ◌∙◌, arith}
use Rattle.std.specs.Prelude.{slice_index_or}
use Rattle.x64_machine.specs.Contexts.{context_of}
use Rattle.pe_image.specs.Image.{Image}
use Rattle.pe_image.specs.Reading.{reading}
use Rattle.eh_tables.specs.Tables.{Entry, Tables, tables, or_none, entries_of, holding}
use Rattle.virtual_unwind.specs.CallerOf.{name_rows, distance, caller_in, caller_of}
use Rattle.frame_rules.specs.Frame.{left_to}
use Rattle.frame_rules.specs.States.{registers, return_address}
use Rattle.frame_rules.specs.Rules.{IsFound}
use Rattle.unwind_check.specs.declared.rule.EntryVerdict.{EntryVerdict}
use Rattle.unwind_check.specs.declared.rule.Fault.{Fault}
use Rattle.unwind_check.specs.EntryVerdicts.{AreEntryVerdicts}
use Rattle.unwind_check.specs.Laws.{IsInEntry}
use Rattle.image_code.specs.Code.{code_of}
use Rattle.image_code.specs.Verdicts.{checked_code, IsImageVerdict}
use Rattle.image_code.specs.Frames.{IsTableOf}
use Rattle.entry_frames.specs.Laws.{IsAllYes}
use Rattle.entry_frames.proofs.Frames.{own_yes_finds_callers}
use Rattle.entry_frames.proofs.Verdicts.{first_no_is_the_image_verdict}
use Rattle.x64_emit.specs.declared.entry.TheConstants.{CHECK_STACK}
use Rattle.seh_io.specs.Text.{ended}
use Rattle.seh.specs.EntryChecks.{entry_text}
use Rattle.seh.specs.EntryFrames.{yes_line, AreYesLines, YesLinesFindCallers, FirstNoIsOfCheck}
use Rattle.seh.proofs.CheckedFrames.{has_ranges}
use Rattle.seh.proofs.Completeness.{one_image}

-- ---- lines

abbrev first_byte : List ℕ → ℕ
first_byte line = slice_index_or line 0 0

-- a line that begins with y tells of no fault
no_fault : (index begin other : ℕ) (o : Option Fault)
    → ended (entry_text index begin o) ≡ yes_line index other → o ≡ None
no_fault index begin other None e = refl
no_fault index begin other (Some fault) e =
    let letter : ◌≡◌ {A = ℕ} 110 121 = ap first_byte e in absurd (omega (arith, letter))

all_yes : (es : List Entry) (vs : List EntryVerdict) (entry : Entry) → AreYesLines es vs entry
    → IsAllYes es vs entry
all_yes es vs entry lines k part v here there is =
    no_fault k v.begin part.range.begin v.fault (lines k part v here there is)

-- ---- frames

pub yes_lines_find_callers : YesLinesFindCallers
unfolding caller_of
yes_lines_find_callers bytes verdicts checked entry e s d octets low lines code held at rip
    inside =
    let image = checked.image in
    let given = checked.come in
    let has = has_ranges image given.entries given.read in
    let t : Tables = record { image = image; ranges = has.ranges } in
    let listed : entries_of t ≡ given.entries = ap or_none has.whole in
    let same : or_none (tables image) ≡ entries_of t = ap or_none given.read ∙ sym listed in
    let c = checked_code image CHECK_STACK in
    let are : AreEntryVerdicts c (entries_of t) verdicts =
    subst (λ (es : List Entry). AreEntryVerdicts c es verdicts) (sym listed) given.are in
    let faultless : IsAllYes (entries_of t) verdicts entry =
    subst (λ (es : List Entry). IsAllYes es verdicts entry) same
    (all_yes (or_none (tables image)) verdicts entry lines) in
    let table : IsTableOf bytes t = record {
      octets = octets;
      read = checked.is;
      low = low;
      ranges = has.is_directory;
      whole = record { whole = has.whole ∙ ap Ok (sym listed) };
    } in
    let holds = subst (λ (es : List Entry). holding (distance image.base s.cpu.rip) es ≡ Some entry)
    same held in
    let stands = subst (λ (es : List Entry). IsInEntry (code_of image) es entry e s d)
    same inside in
    let found = own_yes_finds_callers bytes CHECK_STACK t verdicts entry e s d table are faultless
    code holds at rip stands in
    subst (λ (es : List Entry). IsFound (caller_in
    (record { base = image.base; entries = es; rows = name_rows image })
    s.memory (context_of s.cpu)) (left_to (registers e) (return_address e))) (sym same) found

-- ---- the first no

pub first_no_is_of_check : FirstNoIsOfCheck
first_no_is_of_check bytes verdicts verdict each whole =
    let same : whole.image ≡ each.image =
    one_image (reading bytes) whole.image each.image whole.is each.is in
    first_no_is_the_image_verdict each.image CHECK_STACK verdicts verdict each.come
    (subst (λ (i : Image). IsImageVerdict i CHECK_STACK verdict) same whole.comes)
