-- A yes of `check`, and the frames of the image as it is loaded.
use Rattle.std.proofs.Common.{◌≡◌, List, Some, Ok, Err, refl, sym, ap, subst, ◌∙◌}
use Rattle.seh_num.specs.Answers.{◌>>=◌}
use Rattle.x64_machine.specs.Contexts.{context_of}
use Rattle.pe_image.specs.Image.{Image}
use Rattle.eh_tables.specs.declared.range.RuntimeFunction.{RuntimeFunction}
use Rattle.eh_tables.specs.Answer.{Table}
use Rattle.eh_tables.specs.Tables.{Entry, Tables, directory, entries, tables, or_none, entries_of, holding}
use Rattle.virtual_unwind.specs.CallerOf.{name_rows, distance, caller_in, caller_of}
use Rattle.frame_rules.specs.Frame.{left_to}
use Rattle.frame_rules.specs.States.{registers, return_address}
use Rattle.frame_rules.specs.Rules.{IsFound}
use Rattle.unwind_check.specs.declared.rule.Verdict.TheVariants.{Yes}
use Rattle.unwind_check.specs.Verdicts.{IsVerdict}
use Rattle.unwind_check.specs.Laws.{IsInEntry}
use Rattle.image_code.specs.Code.{code_of}
use Rattle.image_code.specs.Verdicts.{checked_code}
use Rattle.image_code.specs.Frames.{IsTableOf}
use Rattle.image_code.proofs.LoadedFrames.{yes_finds_callers}
use Rattle.x64_emit.specs.declared.entry.TheConstants.{CHECK_STACK}
use Rattle.seh.specs.CheckLaws.{CheckedCallersAreFound}

-- the function table that entries are read of
pub record HasRanges (image : Image) (es : List Entry) : Type 0 where
  pub ranges : List RuntimeFunction
  pub is_directory : directory image ≡ Ok ranges
  pub whole : entries image 0 0 ranges ≡ Ok es

pub has_ranges : (image : Image) (es : List Entry) → tables image ≡ Ok es → HasRanges image es
has_ranges image es h = by (directory image) refl h
  where
    by : (d : Table (List RuntimeFunction)) → directory image ≡ d
        → d >>= (λ rs. entries image 0 0 rs) ≡ Ok es → HasRanges image es
    by (Ok rs) is h = record { ranges = rs; is_directory = is; whole = h }
    by (Err e) is h = cc

pub checked_callers_are_found : CheckedCallersAreFound
unfolding caller_of
checked_callers_are_found bytes n checked entry e s d octets low code held at rip inside =
    let image = checked.image in
    let given = checked.comes in
    let has = has_ranges image given.entries given.read in
    let t : Tables = record { image = image; ranges = has.ranges } in
    let listed : entries_of t ≡ given.entries = ap or_none has.whole in
    let same : or_none (tables image) ≡ entries_of t = ap or_none given.read ∙ sym listed in
    let verdict : IsVerdict (checked_code image CHECK_STACK) (entries_of t) (Yes n) =
    subst (λ (es : List Entry). IsVerdict (checked_code image CHECK_STACK) es (Yes n)) (sym listed)
    given.is in
    let table : IsTableOf bytes t = record {
      octets = octets;
      read = checked.is;
      low = low;
      ranges = has.is_directory;
      whole = record { whole = has.whole ∙ ap Ok (sym listed) };
    } in
    let holds = subst (λ (es : List Entry). holding (distance image.base s.cpu.rip) es ≡ Some entry)
    same held in
    let stands = subst (λ (es : List Entry). IsInEntry (code_of image) es entry e s d)
    same inside in
    let found = yes_finds_callers bytes CHECK_STACK t n entry e s d table verdict code holds at rip
    stands in
    subst (λ (es : List Entry). IsFound (caller_in
    (record { base = image.base; entries = es; rows = name_rows image })
    s.memory (context_of s.cpu)) (left_to (registers e) (return_address e))) (sym same) found
