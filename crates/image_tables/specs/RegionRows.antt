-- The scope records of a whole function table, against the regions of a program.
use Rattle.std.specs.Prelude.{◌≡◌, ℕ, ◌<◌, ◌≤◌, ◌==◌, Bool, true, false, if◌then◌else◌, List, [], ◌∷◌, ◌++◌, length}
use Rattle.std.specs.List.{AllByRecursion}
use Rattle.eh_tables.specs.declared.layout.TheConstants.{EXCEPTION_EXECUTE_HANDLER}
use Rattle.eh_tables.specs.declared.scope.ScopeRecord.{ScopeRecord}
use Rattle.eh_tables.specs.Tables.{Entry}
use Rattle.linear_code.specs.declared.program.Region.{Region}
use Rattle.linear_code.specs.declared.program.RegionKind.{RegionKind}
use Rattle.linear_code.specs.declared.program.RegionKind.TheVariants as kinds
use Rattle.linear_code.specs.Program.{LinearBody, LinearProgram}
use Rattle.x64_emit.specs.Linking.{address_or}
use Rattle.image_link.specs.Fits.{function_bodies, funclet_bodies}
use Rattle.image_link.specs.Tables.{is_finally, handler_address}
use Rattle.image_tables.specs.RoutinePlaces.{site_of}

-- ---- a table

-- entry by entry
abbrev pub rows_of : List Entry → List ScopeRecord
rows_of [] = []
rows_of (e ∷ es) = e.info.scopes ++ rows_of es

-- a `__finally` block has no JumpTarget; a filter that always accepts has HandlerAddress 1
abbrev pub is_finally_row : ScopeRecord → Bool
is_finally_row row = row.jump_target == 0

abbrev pub is_always_row : ScopeRecord → Bool
is_always_row row = row.handler_address == EXCEPTION_EXECUTE_HANDLER

-- the other handler addresses
abbrev pub handlers : List ScopeRecord → List ℕ
handlers [] = []
handlers (row ∷ rows) =
    if is_always_row row then handlers rows else row.handler_address ∷ handlers rows

-- entries one after another, none of them empty
abbrev pub AreInOrder : ℕ → List Entry → Type 0
AreInOrder last [] = Unit {0}
AreInOrder last (e ∷ es) =
    (last ≤ e.range.begin) × (e.range.begin < e.range.end) × AreInOrder e.range.end es

-- no number is there twice
abbrev pub AreDifferent : List ℕ → Type 0
AreDifferent [] = Unit {0}
AreDifferent (x ∷ xs) = AllByRecursion (λ y. (x == y) ≡ false) xs × AreDifferent xs

-- ---- a program

abbrev pub regions_in : List LinearBody → List Region
regions_in [] = []
regions_in (b ∷ bs) = b.regions ++ regions_in bs

-- those of all bodies, functions first
abbrev pub regions : LinearProgram → List Region
regions p = regions_in (function_bodies p.functions) ++ regions_in (funclet_bodies p.funclets)

abbrev pub is_always : RegionKind → Bool
is_always (kinds.Always target) = true
is_always k = false

-- the funclets that regions name
abbrev pub funclet_in : RegionKind → List ℕ
funclet_in (kinds.Finally funclet) = funclet ∷ []
funclet_in (kinds.Filter funclet target) = funclet ∷ []
funclet_in (kinds.Always target) = []

abbrev pub named : List Region → List ℕ
named [] = []
named (r ∷ rs) = funclet_in r.kind ++ named rs

-- each is there, and is named once
pub record NamesFunclets (p : LinearProgram) : Type 0 where
  pub there : AllByRecursion (λ k. k < length p.funclets) (named (regions p))
  pub once : AreDifferent (named (regions p))

-- ---- one against the other

-- where a funclet begins
abbrev pub funclet_begin : LinearProgram → ℕ → ℕ
funclet_begin p k = address_or (site_of p).funclets k 0

pub record IsRow (p : LinearProgram) (row : ScopeRecord) (r : Region) : Type 0 where
  pub finally : is_finally_row row ≡ is_finally r.kind
  pub always : is_always_row row ≡ is_always r.kind
  pub handler : row.handler_address ≡ handler_address (site_of p).funclets r.kind

-- row by row
abbrev pub AreRows : LinearProgram → List ScopeRecord → List Region → Type 0
AreRows p [] [] = Unit {0}
AreRows p (row ∷ rows) (r ∷ rs) = IsRow p row r × AreRows p rows rs
AreRows p [] (r ∷ rs) = ⊥
AreRows p (row ∷ rows) [] = ⊥
