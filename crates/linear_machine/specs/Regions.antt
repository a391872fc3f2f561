-- The regions around an instruction, and the handlers that a search comes to (Microsoft x64 ABI,
-- "Language-specific handler").
--
-- The main definitions: `handlers`, `stops`.
use Rattle.std.specs.Prelude.{ℕ, Bool, ◌&&◌, ◌||◌, false, nat_eq, nat_le, nat_lt, List, [], ◌∷◌, ◌++◌, length, filter, Option, Some, None}
use Rattle.linear_code.specs.declared.program.Region.{Region}
use Rattle.linear_code.specs.declared.program.RegionKind.{RegionKind}
use Rattle.linear_code.specs.declared.program.RegionKind.TheVariants as kinds
use Rattle.linear_code.specs.Program.{LinearProgram, LinearBody}
use Rattle.linear_machine.specs.Frames.{BodyName, body_of, Handler, Target, Item, Waits, Searches, Unwinds}

-- the instruction is in the region
abbrev pub holds : ℕ → Region → Bool
holds label r = nat_le r.begin label && nat_lt label r.end

-- the regions of a body, innermost first
abbrev pub regions_of : Option LinearBody → List Region
regions_of None = []
regions_of (Some b) = b.regions

-- the regions that hold an instruction, innermost first
abbrev pub regions_at : LinearProgram → BodyName → ℕ → List Region
regions_at program name label = filter (holds label) (regions_of (body_of program name))

-- those that are left where an unwinding has left some already
abbrev pub regions_left : Option (List Region) → List Region → List Region
regions_left None regions = regions
regions_left (Some rest) regions = rest

-- the handler of a region, if it has one
abbrev pub handlers_of : RegionKind → ℕ → ℕ → List Handler
handlers_of (kinds.Finally k) activation depth = []
handlers_of (kinds.Filter k target) activation depth =
    record { filter = Some k; activation = activation; depth = depth; target = target } ∷ []
handlers_of (kinds.Always target) activation depth =
    record { filter = None; activation = activation; depth = depth; target = target } ∷ []

-- the handlers of a frame's regions
abbrev pub handlers_in : List Region → ℕ → ℕ → List Handler
handlers_in [] activation depth = []
handlers_in (r ∷ regions) activation depth =
    handlers_of r.kind activation depth ++ handlers_in regions activation depth

-- the handlers that a search comes to, innermost first: below a search it continues where the
-- exception was raised, and below an unwinding with the regions that are left
abbrev pub handlers : LinearProgram → List Item → Option (List Region) → List Handler
handlers program [] left = []
handlers program (Waits f ∷ below) left =
    handlers_in (regions_left left (regions_at program f.body f.next)) f.activation (length below)
    ++ handlers program below None
handlers program (Searches exception resumption asked ∷ below) left =
    handlers program below None
handlers program (Unwinds rest target ∷ below) left = handlers program below (Some rest)

-- ---- where an unwinding stops

-- the region's `__except` block begins at the instruction
abbrev pub leads_to : RegionKind → ℕ → Bool
leads_to (kinds.Finally k) label = false
leads_to (kinds.Filter k target) label = nat_eq target label
leads_to (kinds.Always target) label = nat_eq target label

-- in its own frame, at the first region that holds its target or whose block is its target
abbrev pub stops : Target → Region → ℕ → Bool
stops target r depth =
    nat_eq target.depth depth && (holds target.label r || leads_to r.kind target.label)
