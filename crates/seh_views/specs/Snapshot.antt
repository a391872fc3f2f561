-- The memory that ranges of bytes over the code of an image are.
--
-- The main definition: `snapshot`.
use Rattle.std.specs.Prelude.{ℕ, List, [], ◌∷◌}
use Rattle.flat_memory.specs.Memory.{Memory, distance}
use Rattle.flat_memory.specs.declared.protection.Protection.{Protection}
use Rattle.flat_memory.specs.declared.protection.TheConstants.{UNMAPPED}
use Rattle.pe_image.specs.Image.{Image, section_at, stored_in}
use Rattle.seh_views.specs.declared.c_types.SehRange.{SehRange}
use Rattle.seh_views.specs.declared.snapshot.TheConstants.{DATA, CODE}
use Rattle.seh_views.specs.Ranges.{held}

-- the bytes that an image stores from an address on, where it lies at a base
abbrev pub code_from : Image → ℕ → ℕ → List ℕ
code_from image base a =
    stored_in (distance base a) (section_at (distance base a) image.sections)

-- by the bytes of a range from an address on, and by the code there
abbrev pub protection_by : List ℕ → List ℕ → Protection
protection_by (b ∷ bs) code = DATA
protection_by [] (c ∷ cs) = CODE
protection_by [] [] = UNMAPPED

abbrev pub byte_by : List ℕ → List ℕ → ℕ
byte_by (b ∷ bs) code = b
byte_by [] (c ∷ cs) = c
byte_by [] [] = 0

-- the bytes of ranges, which may be read and fetched; elsewhere those that an image stores, which
-- may be fetched
abbrev pub snapshot : Image → ℕ → List SehRange → Memory
snapshot image base ranges =
    record {
      protection = λ a. protection_by (held a ranges) (code_from image base a);
      byte = λ a. byte_by (held a ranges) (code_from image base a);
    }
