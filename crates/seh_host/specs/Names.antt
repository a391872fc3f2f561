-- The names by which the events of a run are written: those in the rows of its image.
use Rattle.std.specs.Prelude.{ℕ, List, Option}
use Rattle.pe_image.specs.NameRows.{NameRow, name_of}
use Rattle.seh_host.specs.declared.names.ImageNames.{ImageNames}

abbrev pub named_by : List NameRow → ℕ → Option (List ℕ)
named_by rows number = name_of number rows

-- what `ImageNames` names
abbrev pub image_named : ImageNames → ℕ → Option (List ℕ)
image_named names = named_by names.table
