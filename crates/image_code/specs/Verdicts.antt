-- The verdict on an image, by its code and its function table.
--
-- The main definitions: `IsImageVerdict`, `AreImageVerdicts`.
use Rattle.std.specs.Prelude.{◌≡◌, ℕ, List, [], Ok, Err}
use Rattle.pe_image.specs.Image.{Image}
use Rattle.eh_tables.specs.declared.range.RuntimeFunction.{RuntimeFunction}
use Rattle.eh_tables.specs.Answer.{Table}
use Rattle.eh_tables.specs.Tables.{Entry, directory, tables}
use Rattle.unwind_check.specs.declared.rule.EntryVerdict.{EntryVerdict}
use Rattle.unwind_check.specs.declared.rule.Verdict.{Verdict}
use Rattle.unwind_check.specs.EntryVerdicts.{AreEntryVerdicts}
use Rattle.unwind_check.specs.Verdicts.{ImageCode, IsVerdict}
use Rattle.image_code.specs.declared.refusal.ValidationErr.{ValidationErr}
use Rattle.image_code.specs.declared.refusal.ValidationErr.TheVariants as refusals
use Rattle.image_code.specs.Code.{code_of}

-- none where the exception directory is refused
abbrev pub ranges_or_none : Table (List RuntimeFunction) → List RuntimeFunction
ranges_or_none (Ok rs) = rs
ranges_or_none (Err e) = []

-- with the bytes of the stack probe, `__chkstk`
abbrev pub checked_code : Image → List ℕ → ImageCode
checked_code image probe =
    record {
      memory = code_of image;
      probe = probe;
      ranges = ranges_or_none (directory image);
    }

-- the function table is read whole, and the verdict is that of `IsVerdict` on its entries over
-- `code_of`, where `probe` are the bytes of the stack probe
pub record IsImageVerdict (image : Image) (probe : List ℕ) (v : Verdict) : Type 0 where
  pub entries : List Entry
  pub read : tables image ≡ Ok entries
  pub is : IsVerdict (checked_code image probe) entries v

-- the function table is read whole, and these are the verdicts on its entries, one by one
pub record AreImageVerdicts (image : Image) (probe : List ℕ) (vs : List EntryVerdict) : Type 0 where
  pub entries : List Entry
  pub read : tables image ≡ Ok entries
  pub are : AreEntryVerdicts (checked_code image probe) entries vs

-- there is no verdict for this reason; a want of memory says nothing of the image
abbrev pub IsValidationRefusal : Image → ValidationErr → Type 0
IsValidationRefusal image refusals.Memory = Unit {0}
IsValidationRefusal image (refusals.Table e) = tables image ≡ Err e
