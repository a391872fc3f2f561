-- The image of a program: the services that it imports, its globals, its routines and their cold
-- parts, their tables, and the names of its functions.
--
-- The main definition: `linked`.
use Rattle.std.specs.Prelude.{◌≡◌, ℕ, ◌+◌, ◌-◌, List, ◌++◌, length, get_or, max, take, drop}
use Rattle.host_layout.specs.declared.range.TheConstants.{DATA_AT}
use Rattle.eh_write.specs.Written.{table_bytes}
use Rattle.pe_write.specs.NameTable.{NameRow}
use Rattle.pe_write.specs.Program.{ImageContents, rdata_after, xdata_after}
use Rattle.pe_write.specs.Written.{pages}
use Rattle.linear_code.specs.Program.{LinearFunction, LinearProgram}
use Rattle.host_layout.specs.declared.imported.ImportedService.{ImportedService}
use Rattle.pe_write.specs.ImportTables.{tables_size}
use Rattle.image_link.specs.declared.placement.Placement.{Placement}
use Rattle.image_link.specs.Handlers.{blocks_at, blocks_size}
use Rattle.image_link.specs.Routines.{RoutineView, routines}
use Rattle.image_link.specs.Services.{services_of}
use Rattle.image_link.specs.Text.{SiteView, total, cold_total, bounds, front_size, first_routine_at, text_bytes}
use Rattle.image_link.specs.Tables.{all_infos, all_ranges}
use Rattle.image_link.specs.Walks.{named_functions, function_rows, cold_rows}

-- ---- where things are

-- `.data` takes whole pages, at least one
abbrev pub pages_of : ℕ → ℕ
pages_of n = pages (max n 1)

abbrev pub data_size : List ℕ → ℕ
data_size globals = pages_of (length globals)

-- the text begins after the page of the headers and the data
abbrev pub text_begin : List ℕ → ℕ
text_begin globals = DATA_AT + data_size globals

abbrev pub first : List ImportedService → List ℕ → ℕ
first imports globals = first_routine_at imports (text_begin globals)

-- the cold parts of routines stand behind all of them
abbrev pub first_cold : List ImportedService → List ℕ → List RoutineView → ℕ
first_cold imports globals rs = first imports globals + total rs

-- and the blocks of functions behind these
abbrev pub first_block : List ImportedService → List ℕ → List RoutineView → ℕ
first_block imports globals rs = first_cold imports globals rs + cold_total rs

-- so many of the routines are functions
abbrev pub text_size : List ImportedService → List RoutineView → ℕ → ℕ
text_size imports rs functions =
    front_size imports + total rs + cold_total rs + blocks_size imports functions

abbrev pub rdata_begin : List ImportedService → List ℕ → List RoutineView → ℕ → ℕ
rdata_begin imports globals rs functions =
    rdata_after (data_size globals) (text_size imports rs functions)

abbrev pub xdata_begin : List ImportedService → List ℕ → List RoutineView → ℕ → ℕ
xdata_begin imports globals rs functions =
    xdata_after (data_size globals) (text_size imports rs functions) (tables_size imports)

pub record IsPlacement (imports : List ImportedService) (globals : List ℕ) (rs : List RoutineView)
    (functions : ℕ) (p : Placement) : Type 0 where
  pub data_size : p.data_size ≡ data_size globals
  pub text : p.text ≡ text_begin globals
  pub rdata : p.rdata ≡ rdata_begin imports globals rs functions
  pub xdata : p.xdata ≡ xdata_begin imports globals rs functions

abbrev pub site : List ImportedService → List ℕ → List RoutineView → ℕ → SiteView
site imports globals rs functions = record {
  imports = imports;
  text = text_begin globals;
  rdata = rdata_begin imports globals rs functions;
  functions = take functions (bounds (first imports globals) rs);
  funclets = drop functions (bounds (first imports globals) rs);
  blocks = blocks_at imports (first_block imports globals rs) functions;
}

-- the rows of the table of names: those of functions, which are the first of the routines, and then
-- those of their cold parts
abbrev pub names_of : List ImportedService → List ℕ → List RoutineView → List LinearFunction
    → List NameRow
names_of imports globals rs named =
    function_rows 0 (bounds (first imports globals) rs) named
    ++ cold_rows 1 (first_cold imports globals rs) (take (length named) rs)

-- ---- the image, which begins at the routine of this index, and has the names of these functions

abbrev pub image_of_routines : List ImportedService → List ℕ → List RoutineView → ℕ → ℕ
    → List LinearFunction → ImageContents
image_of_routines imports globals rs functions main named =
    let s = site imports globals rs functions in record {
      imports = imports;
      data_size = data_size globals;
      data_bytes = globals;
      text = text_bytes s rs;
      entry = get_or (bounds (first imports globals) rs) main 0 - text_begin globals;
      xdata =
          all_infos s (xdata_begin imports globals rs functions) (first imports globals)
          (first_cold imports globals rs) rs;
      pdata =
          table_bytes (all_ranges s (xdata_begin imports globals rs functions)
          (first imports globals) (first_cold imports globals rs) rs);
      names = names_of imports globals rs named;
    }

-- the image of a program of linear code. It has its globals, its text with `main` as the entry
-- point, its infos and its function table, and the names of its functions where it calls `walk`.
-- The bytes of the image are `written` of it (crate `pe_write`).
abbrev pub linked : LinearProgram → ImageContents
linked p =
    image_of_routines (services_of p) p.globals (routines p) (length p.functions) p.main
    (named_functions p)
