-- The bytes of the image of a linked program are octets, where its globals are.
use Rattle.std.specs.List.{AllByRecursion}
use Rattle.std.specs.Prelude.{not, ◌&&◌, ◌==◌}
use Rattle.std.proofs.Common.{ℕ, suc, ◌+◌, Bool, true, false, List, [], ◌∷◌, ◌++◌, length, map, take, Option, Some, None, arith}
use Rattle.host_layout.specs.declared.imported.ImportedService.{ImportedService}
use Rattle.host_layout.specs.declared.imported.ImportedService.TheVariants.{CSpecificHandler}
use Rattle.linear_code.specs.declared.program.Region.{Region}
use Rattle.eh_write.specs.Written.{unwind_bytes}
use Rattle.frame_layout.specs.declared.frame.FrameLayout.{FrameLayout}
use Rattle.frame_layout.specs.Infos.{info_of}
use Rattle.frame_layout.proofs.Counts.{all_both}
use Rattle.frame_layout.proofs.Steps.{HasRegisters}
use Rattle.frame_layout.proofs.Frames.{registers_few}
use Rattle.template_code.specs.Bytes.{spelled}
use Rattle.image_link.specs.declared.handlers.HandlerBlocks.{HandlerBlocks}
use Rattle.image_link.specs.Handlers.{step_of, block_code, block_bytes, blocks_bytes}
use Rattle.image_link.specs.Fits.{FitsFunction}
use Rattle.image_link.specs.Routines.{RoutineView, is_leaf, function_facts, leaf_if, functions_from, funclet_facts, funclet, routines}
use Rattle.image_link.specs.Text.{SiteView, own_addresses, routine_size, cold_size, total, front_code, first_routine_at, routine_code, routine_bytes, routines_bytes, apart_code, apart_bytes, all_apart_bytes, site_blocks, text_bytes, thunk_at, bounds}
use Rattle.image_link.specs.declared.fragments.Fragment.{Fragment}
use Rattle.image_link.specs.Places.{parts_from}
use Rattle.image_link.specs.Words.{CodeRange}
use Rattle.image_link.specs.Tables.{trailer, scope_records, scope_table, info_if, info_bytes, infos, fragments, chained_bytes, chained_infos, all_infos, all_ranges}
use Rattle.image_link.specs.Linked.{first, first_cold, site, xdata_begin, linked}
use Rattle.image_link.specs.Services.{services_of, calls_walk}
use Rattle.image_link.specs.Walks.{named_if, named_functions, IsName, IsNamed, function_rows, part_rows, all_part_rows, cold_rows}
use Rattle.linear_code.specs.Program.{LinearFunction, LinearFunclet, LinearProgram}
use Rattle.image_tables.specs.OctetLaws.{AreOctets, LinkedAreOctets}
use Rattle.image_tables.proofs.Octets.{joined, mapped}
use Rattle.image_tables.proofs.InstructionOctets.{spelled_octets}
use Rattle.image_tables.proofs.TableOctets.{table_octets, scope_octets}
use Rattle.image_tables.proofs.InfoOctets.{info_octets, chained_octets}
use Rattle.image_tables.proofs.NameOctets.{HasOctetName}
use Rattle.image_tables.proofs.ProgramOctets.{program_octets}

-- ---- code

routine_octets : (s : SiteView) (at cold : ℕ) (r : RoutineView)
    → AreOctets (routine_bytes s at cold r)
unfolding routine_bytes
routine_octets s at cold r = spelled_octets (routine_code s at cold r)

routines_octets : (s : SiteView) (at cold : ℕ) (rs : List RoutineView)
    → AreOctets (routines_bytes s at cold rs)
routines_octets s at cold [] = tt
routines_octets s at cold (r ∷ rs) =
    joined (routine_bytes s at cold r)
    (routines_bytes s (at + routine_size r) (cold + cold_size r) rs)
    (routine_octets s at cold r) (routines_octets s (at + routine_size r) (cold + cold_size r) rs)

apart_octets : (s : SiteView) (at cold : ℕ) (r : RoutineView)
    → AreOctets (apart_bytes s at cold r)
unfolding apart_bytes
apart_octets s at cold r = spelled_octets (apart_code s at cold r)

all_apart_octets : (s : SiteView) (at cold : ℕ) (rs : List RoutineView)
    → AreOctets (all_apart_bytes s at cold rs)
all_apart_octets s at cold [] = tt
all_apart_octets s at cold (r ∷ rs) =
    joined (apart_bytes s at cold r)
    (all_apart_bytes s (at + routine_size r) (cold + cold_size r) rs)
    (apart_octets s at cold r) (all_apart_octets s (at + routine_size r) (cold + cold_size r) rs)

block_octets : (imports : List ImportedService) (rdata : ℕ) (b : HandlerBlocks) (at function : ℕ)
    → AreOctets (block_bytes imports rdata b at function)
unfolding block_bytes
block_octets imports rdata b at function =
    spelled_octets (block_code imports rdata b at function)

blocks_octets : (imports : List ImportedService) (rdata : ℕ) (b : HandlerBlocks) (at : ℕ)
    (fs : List ℕ)
    → AreOctets (blocks_bytes imports rdata b at fs)
blocks_octets imports rdata b at [] = tt
blocks_octets imports rdata b at (f ∷ fs) =
    joined (block_bytes imports rdata b at f) (blocks_bytes imports rdata b (at + step_of b) fs)
    (block_octets imports rdata b at f) (blocks_octets imports rdata b (at + step_of b) fs)

text_octets : (s : SiteView) (rs : List RoutineView) → AreOctets (text_bytes s rs)
text_octets s rs =
    let first = first_routine_at s.imports s.text in
    let cold = first + total rs in
    let front = spelled (front_code s.imports s.text s.rdata) in
    joined (front ++ routines_bytes s first cold rs ++ all_apart_bytes s first cold rs)
    (site_blocks s)
    (joined (front ++ routines_bytes s first cold rs) (all_apart_bytes s first cold rs)
    (joined front (routines_bytes s first cold rs)
    (spelled_octets (front_code s.imports s.text s.rdata)) (routines_octets s first cold rs))
    (all_apart_octets s first cold rs))
    (blocks_octets s.imports s.rdata s.blocks s.blocks.first (take s.blocks.count s.functions))

-- ---- unwind infos and scope tables

rows_octets : (funclets labels : List ℕ) (end : ℕ) (rs : List Region)
    → AreOctets (scope_table funclets labels end rs)
rows_octets funclets labels end [] = tt
rows_octets funclets labels end (r ∷ rs) =
    scope_octets (scope_records funclets labels end (r ∷ rs))

-- a frame has few registers
abbrev HasFew : Option FrameLayout → Type 0
HasFew None = Unit {0}
HasFew (Some f) = HasRegisters f

framed_octets : (s : SiteView) (labels : List ℕ) (end : ℕ) (r : RoutineView)
    (frame : Option FrameLayout) → HasFew frame → AreOctets (info_if s labels end r frame)
framed_octets s labels end r None few = tt
framed_octets s labels end r (Some f) few =
    let t = trailer (thunk_at s.imports s.text CSpecificHandler) r.body.regions in
    joined (unwind_bytes (info_of f t)) (scope_table s.funclets labels end r.body.regions)
    (info_octets f t few) (rows_octets s.funclets labels end r.body.regions)

abbrev RoutineHasFew : RoutineView → Type 0
RoutineHasFew r = HasFew r.frame

one_octets : (s : SiteView) (at cold : ℕ) (r : RoutineView) → RoutineHasFew r
    → AreOctets (info_bytes s at cold r)
unfolding info_bytes
one_octets s at cold r few =
    framed_octets s (own_addresses at cold r).labels (own_addresses at cold r).end r r.frame few

infos_octets : (s : SiteView) (at cold : ℕ) (rs : List RoutineView)
    → AllByRecursion RoutineHasFew rs → AreOctets (infos s at cold rs)
infos_octets s at cold [] all = tt
infos_octets s at cold (r ∷ rs) all =
    joined (info_bytes s at cold r) (infos s (at + routine_size r) (cold + cold_size r) rs)
    (one_octets s at cold r all.0)
    (infos_octets s (at + routine_size r) (cold + cold_size r) rs all.1)

all_infos_octets : (s : SiteView) (info at cold : ℕ) (rs : List RoutineView)
    → AllByRecursion RoutineHasFew rs → AreOctets (all_infos s info at cold rs)
all_infos_octets s info at cold rs all =
    joined (infos s at cold rs) (chained_infos (fragments s info at cold rs))
    (infos_octets s at cold rs all)
    (mapped chained_bytes (fragments s info at cold rs)
    (λ (f : Fragment). chained_octets f.framed f.parent))

function_few : (b : Bool) (f : LinearFunction) → FitsFunction f → RoutineHasFew (leaf_if b f)
function_few true f fits = tt
function_few false f fits = registers_few (function_facts f) fits.registers

functions_few : (main index : ℕ) (fs : List LinearFunction) → AllByRecursion FitsFunction fs
    → AllByRecursion RoutineHasFew (functions_from main index fs)
functions_few main index [] all = tt
functions_few main index (f ∷ fs) all = (
  function_few (not (index == main) && is_leaf f) f all.0,
  functions_few main (suc index) fs all.1,
)

funclets_few : (p : LinearProgram) (fs : List LinearFunclet)
    → AllByRecursion RoutineHasFew (map (funclet p) fs)
funclets_few p [] = tt
funclets_few p (f ∷ fs) = (registers_few (funclet_facts f.body) (omega arith), funclets_few p fs)

routines_few : (p : LinearProgram) → AllByRecursion FitsFunction p.functions
    → AllByRecursion RoutineHasFew (routines p)
routines_few p fit = all_both RoutineHasFew (functions_from p.main 0 p.functions)
    (map (funclet p) p.funclets) (functions_few p.main 0 p.functions fit)
    (funclets_few p p.funclets)

-- ---- the names of functions

name_octets : (name : List ℕ) → IsName name → AreOctets name
name_octets [] is = tt
name_octets (b ∷ bs) is = (is.0.1, name_octets bs is.1)

named_octets : (walks : Bool) (fs : List LinearFunction) → AllByRecursion IsNamed fs
    → AllByRecursion IsNamed (named_if walks fs)
named_octets true fs all = all
named_octets false fs all = tt

row_names : (index : ℕ) (b : List ℕ) (fs : List LinearFunction) → AllByRecursion IsNamed fs
    → AllByRecursion HasOctetName (function_rows index b fs)
row_names index b [] all = tt
row_names index b (f ∷ fs) all = (name_octets f.name all.0, row_names (index + 1) b fs all.1)

-- the rows of cold parts have none
part_names : (number : ℕ) (ps : List CodeRange)
    → AllByRecursion HasOctetName (part_rows number ps)
part_names number [] = tt
part_names number (p ∷ ps) = (tt, part_names number ps)

all_part_names : (number : ℕ) (pss : List (List CodeRange))
    → AllByRecursion HasOctetName (all_part_rows number pss)
all_part_names number [] = tt
all_part_names number (ps ∷ pss) =
    all_both HasOctetName (part_rows number ps) (all_part_rows (number + 1) pss)
    (part_names number ps) (all_part_names (number + 1) pss)

-- ---- the image

pub linked_are_octets : LinkedAreOctets
linked_are_octets p fits globals =
    let rs = routines p in
    let s = site (services_of p) p.globals rs (length p.functions) in
    let at = first (services_of p) p.globals in
    let cold = first_cold (services_of p) p.globals rs in
    let info = xdata_begin (services_of p) p.globals rs (length p.functions) in
    let named = named_functions p in
    program_octets (linked p) globals (text_octets s rs)
    (all_infos_octets s info at cold rs (routines_few p fits.functions))
    (table_octets (all_ranges s info at cold rs))
    (all_both HasOctetName (function_rows 0 (bounds at rs) named)
    (cold_rows 1 cold (take (length named) rs))
    (row_names 0 (bounds at rs) named (named_octets (calls_walk p) p.functions fits.names))
    (all_part_names 1 (parts_from cold (take (length named) rs))))
