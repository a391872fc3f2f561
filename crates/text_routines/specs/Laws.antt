-- The code of a linked program's image that no entry of its function table covers.
use Rattle.std.specs.Prelude.{◌≡◌, ℕ, ◌+◌, true, List, slice_get, Some}
use Rattle.pe_image.specs.Image.{Section, Image, is_executable}
use Rattle.pe_image.specs.Reading.{IsImage}
use Rattle.pe_write.specs.Program.{image_of}
use Rattle.eh_tables.specs.Tables.{Entry}
use Rattle.linear_code.specs.Program.{LinearProgram}
use Rattle.host_model.specs.Loading.{has_place}
use Rattle.image_code.specs.Code.{code_of}
use Rattle.image_link.specs.Fits.{FitsProgram}
use Rattle.image_link.specs.Linked.{linked}
use Rattle.image_tables.specs.Entries.{entries}
use Rattle.image_tables.specs.RegionRanges.{HasRegions}
use Rattle.uncovered_code.specs.References.{Code}
use Rattle.uncovered_code.specs.Routines.{UncoveredRoutinesAreFrameless}

-- a section of an image as code, with the entries of the image's function table
abbrev pub section_code : Image → List Entry → Section → Code
section_code image entries section =
    record {
      memory = code_of image;
      entries = entries;
      begin = section.address;
      end = section.address + section.size;
      entry_point = image.entry;
    }

-- of each executable section of an image, every routine without an entry is frameless
abbrev pub UncoveredCodeIsFrameless : Image → List Entry → Type 0
UncoveredCodeIsFrameless image entries =
    (index : ℕ) (section : Section) → slice_get image.sections index ≡ Some section
    → is_executable section ≡ true
    → UncoveredRoutinesAreFrameless (section_code image entries section)

-- so it is of the image of every program that fits
abbrev pub LinkedRoutinesAreFrameless : Type 0
LinkedRoutinesAreFrameless =
    (p : LinearProgram) (bytes : List ℕ) → FitsProgram p → HasRegions p
    → IsImage bytes (image_of (linked p)) → has_place (image_of (linked p)) ≡ true
    → UncoveredCodeIsFrameless (image_of (linked p)) (entries p)
