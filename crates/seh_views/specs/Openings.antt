-- What a call answers, and what it reads first: an image, and the ranges of its function table.
--
-- The main definition: `table_of`.
use Rattle.std.specs.Prelude.{◌≡◌, ℕ, List, Result, Ok, Err}
use Rattle.seh_num.specs.Answers.{◌>>=◌}
use Rattle.pe_image.specs.Image.{Image}
use Rattle.pe_image.specs.Reading.{outline_alone, reading_in}
use Rattle.pe_image.specs.declared.image_layout.ImageLayout.{ImageLayout}
use Rattle.pe_image.specs.declared.refusal.ImageErr.{ImageErr}
use Rattle.pe_image.specs.declared.refusal.ImageErr.TheVariants as images
use Rattle.eh_tables.specs.declared.refusal.TableErr.{TableErr}
use Rattle.eh_tables.specs.Tables.{Tables, directory}
use Rattle.eh_tables.specs.Covering.{ranges_checked}
use Rattle.virtual_unwind.specs.declared.refusal.UnwindErr.{UnwindErr}
use Rattle.seh_views.specs.declared.refusal.Refusal.{Refusal}
use Rattle.seh_views.specs.declared.refusal.Refusal.TheVariants as refusals

abbrev pub Answer : Type 0 → Type 0
Answer A = Result A Refusal

abbrev pub image_refusal : ImageErr → Refusal
image_refusal images.Memory = refusals.NoMemory
image_refusal e = refusals.Image e

abbrev pub of_image : {A : Type 0} → Result A ImageErr → Answer A
of_image (Ok x) = Ok x
of_image (Err e) = Err (refusals.Image e)

abbrev pub of_table : {A : Type 0} → Result A TableErr → Answer A
of_table (Ok x) = Ok x
of_table (Err e) = Err (refusals.Table e)

abbrev pub of_unwinding : {A : Type 0} → Result A UnwindErr → Answer A
of_unwinding (Ok x) = Ok x
of_unwinding (Err e) = Err (refusals.Unwinding e)

-- a call gives what is defined, or memory is wanting
abbrev pub Gives : {A : Type 0} → Answer A → Answer A → Type 0
Gives (Err refusals.NoMemory) given = Unit {0}
Gives r given = given ≡ r

-- an image by its headers and sections; none of its imports is looked at
abbrev pub opened : ImageLayout → List ℕ → Answer Image
opened layout bytes = of_image (outline_alone layout bytes)

-- and with its imports
abbrev pub opened_whole : ImageLayout → List ℕ → Answer Image
opened_whole layout bytes = of_image (reading_in layout bytes)

-- its function table, whose ranges ascend; no entry's unwind info is looked at
abbrev pub table_of : Image → Answer Tables
table_of image = do
  rs ← of_table (directory image)
  _ ← of_table (ranges_checked 0 0 rs)
  Ok (record { image = image; ranges = rs })

-- an image and its function table
abbrev pub table_in : ImageLayout → List ℕ → Answer Tables
table_in layout bytes = do
  image ← opened layout bytes
  table_of image
