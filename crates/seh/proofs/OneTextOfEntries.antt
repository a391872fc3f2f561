-- The entries of an image have one verdict each.
use Rattle.std.proofs.Common.{◌≡◌, ℕ, List, Ok, subst}
use Rattle.eh_tables.specs.Tables.{Entry, tables}
use Rattle.unwind_check.specs.declared.rule.EntryVerdict.{EntryVerdict}
use Rattle.unwind_check.specs.EntryVerdicts.{AreEntryVerdicts}
use Rattle.unwind_check.proofs.UniqueEntryVerdicts.{entry_verdicts_once}
use Rattle.pe_image.specs.Image.{Image}
use Rattle.pe_image.specs.Reading.{reading}
use Rattle.image_code.specs.Verdicts.{checked_code}
use Rattle.x64_emit.specs.declared.entry.TheConstants.{CHECK_STACK}
use Rattle.seh.specs.EntryChecks.{AreChecked}
use Rattle.seh.specs.EntryCheckLaws.{EntriesHaveOneVerdictEach}
use Rattle.seh.proofs.Completeness.{one_image}
use Rattle.seh.proofs.OneVerdict.{one_table}

-- the verdicts are of the entries of an image that is read
pub of_table : (bytes : List ℕ) (vs : List EntryVerdict) (h : AreChecked bytes vs) (image : Image)
    (entries : List Entry) → reading bytes ≡ Ok image → tables image ≡ Ok entries
    → AreEntryVerdicts (checked_code image CHECK_STACK) entries vs
of_table bytes vs h image entries is whole =
    let same = one_image (reading bytes) h.image image h.is is in
    let read : tables image ≡ Ok h.come.entries =
    subst (λ (i : Image). tables i ≡ Ok h.come.entries) same h.come.read in
    let listed = one_table (tables image) h.come.entries entries read whole in
    let of_image : AreEntryVerdicts (checked_code image CHECK_STACK) h.come.entries vs =
    subst (λ (i : Image). AreEntryVerdicts (checked_code i CHECK_STACK) h.come.entries vs) same
    h.come.are in
    subst (λ (es : List Entry). AreEntryVerdicts (checked_code image CHECK_STACK) es vs) listed
    of_image

pub entries_have_one_verdict_each : EntriesHaveOneVerdictEach
entries_have_one_verdict_each bytes a b h g =
    entry_verdicts_once (checked_code g.image CHECK_STACK) g.come.entries a b
    (of_table bytes a h g.image g.come.entries g.is g.come.read) g.come.are
