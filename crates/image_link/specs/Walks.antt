-- What the image of a program has where the program calls `walk`: the names of its functions with
-- the ranges of their code.
--
-- The main definitions: `function_rows`, `cold_rows`.
use Rattle.std.specs.Prelude.{ℕ, ◌+◌, ◌<◌, Bool, true, false, List, [], ◌∷◌, ◌++◌, length, get_or}
use Rattle.std.specs.List.{AllByRecursion}
use Rattle.linear_code.specs.Program.{LinearFunction, LinearProgram}
use Rattle.pe_write.specs.NameTable.{NameRow}
use Rattle.x64_emit.specs.declared.body.CodeRange.{CodeRange}
use Rattle.image_link.specs.Routines.{RoutineView}
use Rattle.image_link.specs.Places.{parts_from}
use Rattle.image_link.specs.Services.{calls_walk}

-- the functions whose names the image has: all of them, or none
abbrev pub named_if : Bool → List LinearFunction → List LinearFunction
named_if true fs = fs
named_if false fs = []

abbrev pub named_functions : LinearProgram → List LinearFunction
named_functions p = named_if (calls_walk p) p.functions

-- a row for each function of routines between bounds; the first one has this index, from which the
-- numbers follow, the least of which is 1
abbrev pub function_rows : ℕ → List ℕ → List LinearFunction → List NameRow
function_rows index bounds [] = []
function_rows index bounds (f ∷ fs) =
    record {
      begin = get_or bounds index 0;
      end = get_or bounds (index + 1) 0;
      number = index + 1;
      name = f.name;
    } ∷ function_rows (index + 1) bounds fs

-- rows for the parts of a function's code after the first: its number has a name by then
abbrev pub part_rows : ℕ → List CodeRange → List NameRow
part_rows number [] = []
part_rows number (p ∷ ps) =
    record { begin = p.begin; end = p.end; number = number; name = [] } ∷ part_rows number ps

-- for the parts of functions, of which the first has this number
abbrev pub all_part_rows : ℕ → List (List CodeRange) → List NameRow
all_part_rows number [] = []
all_part_rows number (ps ∷ pss) = part_rows number ps ++ all_part_rows (number + 1) pss

-- for the cold parts of routines, which stand from an address on
abbrev pub cold_rows : (number cold : ℕ) → List RoutineView → List NameRow
cold_rows number cold rs = all_part_rows number (parts_from cold rs)

-- a name has bytes, and no 0
abbrev pub IsName : List ℕ → Type 0
IsName name = AllByRecursion (λ (b : ℕ). (0 < b) × (b < 256)) name

abbrev pub IsNamed : LinearFunction → Type 0
IsNamed f = IsName f.name

-- how many bytes the rows and the names take, with the 0 after each name
abbrev pub names_room : List LinearFunction → ℕ
names_room [] = 0
names_room (f ∷ fs) = 17 + length f.name + names_room fs
