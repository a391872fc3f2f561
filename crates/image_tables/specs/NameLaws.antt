-- What is read of the names in a program's image.
use Rattle.std.specs.Prelude.{◌≡◌, ℕ, ◌+◌, true, slice_get, Some, Ok}
use Rattle.pe_image.specs.NameRows.{names_of, function_name}
use Rattle.pe_write.specs.Program.{image_of}
use Rattle.linear_code.specs.Program.{LinearFunction, LinearProgram}
use Rattle.image_link.specs.Fits.{FitsProgram}
use Rattle.image_link.specs.Linked.{linked}
use Rattle.image_link.specs.Services.{calls_walk}

-- they are the rows that are written
abbrev pub NamesAreRead : Type 0
NamesAreRead =
    (p : LinearProgram) → FitsProgram p → names_of (image_of (linked p)) ≡ Ok (linked p).names

-- where the program calls `walk`, each function's number, from 1 on, has the function's name
abbrev pub FunctionsHaveNames : Type 0
FunctionsHaveNames =
    (p : LinearProgram) (k : ℕ) (f : LinearFunction) → FitsProgram p → calls_walk p ≡ true
    → slice_get p.functions k ≡ Some f
    → function_name (image_of (linked p)) (k + 1) ≡ Some f.name
