-- The routines of a program as functions of the rules: the unwind info, the steps of the prologue,
-- the instructions after it, and those of cold parts.
use Rattle.std.specs.Prelude.{ℕ, ◌+◌, List, [], ◌∷◌, ◌++◌, map}
use Rattle.x64_instr.specs.declared.instruction.Instr.{Instr}
use Rattle.virtual_unwind.specs.Tail.{FetchedInstr}
use Rattle.frame_rules.specs.Rules.{FramedFunction}
use Rattle.frame_rules.specs.Plan.{FramePlan, spelled_by, prologue}
use Rattle.frame_rules.specs.Bytes.{spell}
use Rattle.host_layout.specs.declared.imported.ImportedService.{ImportedService}
use Rattle.host_layout.specs.declared.imported.ImportedService.TheVariants.{AddVectored, RemoveVectored}
use Rattle.pe_write.specs.ImportTables.{slot_of}
use Rattle.linear_code.specs.Program.{LinearProgram}
use Rattle.frame_layout.specs.declared.frame.FrameLayout.{FrameLayout}
use Rattle.frame_layout.specs.Plans.{plan_of}
use Rattle.template_code.specs.Frames.{probing}
use Rattle.template_code.specs.Handlers.{name_thunk, adding_stub, removing_stub}
use Rattle.template_code.specs.Probing.{check_stack}
use Rattle.template_code.specs.Template.{code_from}
use Rattle.template_code.specs.ColdParts.{hot_code, part_code}
use Rattle.x64_emit.specs.Linking.{address_or}
use Rattle.image_link.specs.Handlers.{adding_at, removing_at}
use Rattle.image_link.specs.Text.{argument_code, service_thunk}
use Rattle.image_link.specs.Services.{services_of}
use Rattle.image_tables.specs.RoutinePlaces.{Placed, PlacedPart, body_begin, parts_of, site_of, probe_begin, blocks_of, block_begin}
use Rattle.image_tables.specs.Entries.{entry_of}
use Rattle.image_tables.specs.CodeInMemory.{links}

-- ---- with a frame

-- a large frame is taken by a call of `__chkstk`
abbrev pub plan : LinearProgram → Placed → FrameLayout → FramePlan
plan p x f = probing (plan_of f) x.begin (probe_begin p)

-- what it does with what it is called with, and its body without the cold parts
abbrev pub rest_of : LinearProgram → Placed → List Instr
rest_of p x =
    argument_code x.routine.layout x.routine.entry
    ++ code_from (links p x) x.routine.layout (body_begin x) (hot_code x.routine.body)

-- a cold part
abbrev pub code_of_part : LinearProgram → Placed → PlacedPart → List Instr
code_of_part p x q =
    code_from (links p x) x.routine.layout q.begin (part_code x.routine.body.code q.labels)

abbrev pub part : LinearProgram → Placed → PlacedPart → List FetchedInstr
part p x q = spelled_by spell (code_of_part p x q)

-- a routine with a frame: its unwind info, prologue and the rest
abbrev pub function_of : LinearProgram → Placed → FrameLayout → FramedFunction
function_of p x f = record {
  info = (entry_of (site_of p) x f).info;
  steps = prologue spell (plan p x f);
  rest = spelled_by spell (rest_of p x);
}

-- all parts of its code after the prologue
abbrev pub parts : LinearProgram → Placed → FrameLayout → List (List FetchedInstr)
parts p x f = (function_of p x f).rest ∷ map (part p x) (parts_of x)

-- ---- without: leaf functions, the thunks of services, and `__chkstk`

-- the instructions of a leaf function
abbrev pub leaf : LinearProgram → Placed → List FetchedInstr
leaf p x = spelled_by spell (rest_of p x)

-- the instruction of a service's thunk
abbrev pub thunk_of : LinearProgram → ImportedService → List FetchedInstr
thunk_of p s =
    spelled_by spell
    (service_thunk (services_of p) (site_of p).text (site_of p).rdata s ∷ [])

-- the instructions of a function's name thunk, and of its stubs where blocks have them
abbrev pub name_thunk_of : LinearProgram → ℕ → List FetchedInstr
name_thunk_of p f =
    spelled_by spell (name_thunk (block_begin p f) (address_or (site_of p).functions f 0))

abbrev pub adding_stub_of : LinearProgram → ℕ → List FetchedInstr
adding_stub_of p f =
    spelled_by spell
    (adding_stub (adding_at (block_begin p f)) (block_begin p f)
    ((site_of p).rdata + slot_of (services_of p) AddVectored))

abbrev pub removing_stub_of : LinearProgram → ℕ → List FetchedInstr
removing_stub_of p f =
    spelled_by spell
    (removing_stub (removing_at (blocks_of p).adds (block_begin p f)) (block_begin p f)
    ((site_of p).rdata + slot_of (services_of p) RemoveVectored))

-- the instructions of `__chkstk`
abbrev pub probe : List FetchedInstr
probe = spelled_by spell check_stack
