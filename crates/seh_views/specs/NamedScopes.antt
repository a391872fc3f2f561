-- The scope records of an entry whose handler the caller names, so that no import is read.
--
-- The main definition: `named_of`.
use Rattle.std.specs.Prelude.{ℕ, ◌+◌, ◌-◌, ◌*◌, ◌==◌, Bool, true, false, List, [], Option, Some, None, Ok}
use Rattle.seh_num.specs.Answers.{or_refused, ◌>>=◌}
use Rattle.pe_image.specs.Field.{field}
use Rattle.pe_image.specs.Image.{Image, stored}
use Rattle.pe_image.specs.declared.image_layout.ImageLayout.{ImageLayout}
use Rattle.eh_tables.specs.declared.refusal.TableErr.TheVariants as tables
use Rattle.eh_tables.specs.Covering.{entry_covering}
use Rattle.eh_tables.specs.Records.{scope_records_rva}
use Rattle.eh_tables.specs.Scopes.{scope_records_in}
use Rattle.eh_tables.specs.Tables.{Entry}
use Rattle.seh_views.specs.declared.c_types.SehScope.{SehScope}
use Rattle.seh_views.specs.Openings.{Answer, of_table, opened, table_of}
use Rattle.seh_views.specs.Scopes.{Filled, filled, scopes_from}
use Rattle.seh_views.specs.Statuses.{no_function}

-- the bytes of the records of a scope table: their count of four bytes, and sixteen for each
abbrev pub rows_at : Image → ℕ → Answer (List ℕ)
rows_at image at = do
  head ← of_table (or_refused (stored image.sections at 4) (tables.Truncated at))
  of_table (or_refused (stored image.sections (at + 4) (16 * field 4 head 0)) (tables.Truncated at))

abbrev pub is_named : Option ℕ → ℕ → Bool
is_named None handler = false
is_named (Some rva) handler = rva == handler

abbrev pub rows_if : Answer (List ℕ) → Bool → Answer (List ℕ)
rows_if rows true = rows
rows_if rows false = Ok []

-- none where the entry's handler is another one
abbrev pub named_rows : Image → ℕ → Entry → Answer (List ℕ)
named_rows image handler e =
    rows_if (rows_at image (scope_records_rva e.range.unwind_info e.info - 4))
    (is_named e.info.handler handler)

-- those that hold an address, innermost first, as far as an array has room
abbrev pub named_of : Image → ℕ → ℕ → List SehScope → Option Entry → Answer Filled
named_of image rva handler out None = Ok (filled out 0 no_function)
named_of image rva handler out (Some e) = do
  rows ← named_rows image handler e
  Ok (scopes_from rva 0 (scope_records_in rows) out)

abbrev pub named_within : Image → ℕ → ℕ → List SehScope → Answer Filled
named_within image rva handler out = do
  t ← table_of image
  o ← of_table (entry_covering t rva)
  named_of image rva handler out o

abbrev pub named_in : ImageLayout → List ℕ → ℕ → ℕ → List SehScope → Answer Filled
named_in layout bytes rva handler out = do
  image ← opened layout bytes
  named_within image rva handler out
