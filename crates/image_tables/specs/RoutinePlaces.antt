-- The routines of a program where they are: its functions, and then its funclets, by their
-- numbers; behind all of them their cold parts; and then the blocks of functions for vectored
-- handlers, where there are any.
--
-- The main definition: `placed`.
use Rattle.std.specs.Prelude.{ℕ, ◌+◌, ◌*◌, List, [], ◌∷◌, length}
use Rattle.host_layout.specs.declared.imported.ImportedService.{ImportedService}
use Rattle.linear_code.specs.declared.instruction.Instruction.{Instruction}
use Rattle.linear_code.specs.declared.program.LabelRange.{LabelRange}
use Rattle.linear_code.specs.Program.{LinearProgram}
use Rattle.template_code.specs.declared.layout.Layout.{Layout}
use Rattle.template_code.specs.Template.{body_size}
use Rattle.template_code.specs.ColdParts.{part_code}
use Rattle.image_link.specs.declared.handlers.HandlerBlocks.{HandlerBlocks}
use Rattle.image_link.specs.Handlers.{name_at}
use Rattle.image_link.specs.Routines.{RoutineView, routines}
use Rattle.image_link.specs.Text.{SiteView, routine_size, cold_size, entry_size, thunk_at, check_stack_at}
use Rattle.image_link.specs.declared.fragments.TheConstants.{CHAINED_SIZE}
use Rattle.image_link.specs.Tables.{info_bytes, infos, fragments_of}
use Rattle.image_link.specs.Linked.{text_begin, first, first_cold, xdata_begin, site}
use Rattle.image_link.specs.Services.{services_of}

-- a routine, the address of its first byte, and that of its unwind info, if it has one; where its
-- cold parts begin, and where the unwind infos of these do
pub record Placed : Type 0 where
  pub routine : RoutineView
  pub begin : ℕ
  pub info : ℕ
  pub cold : ℕ
  pub chained : ℕ

-- where its body begins, after its prologue and what takes its arguments, and where it ends without
-- its cold parts
abbrev pub body_begin : Placed → ℕ
body_begin x = x.begin + entry_size x.routine

abbrev pub end_of : Placed → ℕ
end_of x = x.begin + routine_size x.routine

-- where a routine and what belongs to it begins
pub record Cursor : Type 0 where
  pub begin : ℕ
  pub info : ℕ
  pub cold : ℕ
  pub chained : ℕ

abbrev pub put : Cursor → RoutineView → Placed
put c r =
    record {
      routine = r;
      begin = c.begin;
      info = c.info;
      cold = c.cold;
      chained = c.chained;
    }

-- where the next one does
abbrev pub past : SiteView → Cursor → RoutineView → Cursor
past s c r = record {
  begin = c.begin + routine_size r;
  info = c.info + length (info_bytes s c.begin c.cold r);
  cold = c.cold + cold_size r;
  chained = c.chained + CHAINED_SIZE * length (fragments_of c.info c.begin c.cold r);
}

-- one after another
abbrev pub placed_from : SiteView → Cursor → List RoutineView → List Placed
placed_from s c [] = []
placed_from s c (r ∷ rs) = put c r ∷ placed_from s (past s c r) rs

-- ---- cold parts

-- its labels, its code, and the address of its unwind info
pub record PlacedPart : Type 0 where
  pub labels : LabelRange
  pub begin : ℕ
  pub end : ℕ
  pub info : ℕ

-- those of code, one after another
abbrev pub parts_from : Layout → (at info : ℕ) → List LabelRange → List Instruction → List
    PlacedPart
parts_from y at info [] code = []
parts_from y at info (r ∷ rs) code =
    let end = at + body_size y (part_code code r) in
    record { labels = r; begin = at; end = end; info = info }
    ∷ parts_from y end (info + CHAINED_SIZE) rs code

abbrev pub parts_of : Placed → List PlacedPart
parts_of x =
    parts_from x.routine.layout x.cold x.chained x.routine.body.cold x.routine.body.code

-- ---- a program

abbrev pub site_of : LinearProgram → SiteView
site_of p = site (services_of p) p.globals (routines p) (length p.functions)

abbrev pub infos_begin : LinearProgram → ℕ
infos_begin p =
    xdata_begin (services_of p) p.globals (routines p) (length p.functions)

-- after the thunks of services and `__chkstk`
abbrev pub routines_begin : LinearProgram → ℕ
routines_begin p = first (services_of p) p.globals

-- after the routines
abbrev pub cold_begin : LinearProgram → ℕ
cold_begin p = first_cold (services_of p) p.globals (routines p)

-- after the cold parts: the blocks of functions for vectored handlers, and that of a function
abbrev pub blocks_of : LinearProgram → HandlerBlocks
blocks_of p = (site_of p).blocks

abbrev pub block_begin : LinearProgram → ℕ → ℕ
block_begin p f = name_at (blocks_of p) f

-- after the unwind infos of routines
abbrev pub chained_begin : LinearProgram → ℕ
chained_begin p =
    infos_begin p + length (infos (site_of p) (routines_begin p) (cold_begin p) (routines p))

abbrev pub thunk_begin : LinearProgram → ImportedService → ℕ
thunk_begin p s = thunk_at (services_of p) (text_begin p.globals) s

abbrev pub probe_begin : LinearProgram → ℕ
probe_begin p = check_stack_at (services_of p) (text_begin p.globals)

abbrev pub first_cursor : LinearProgram → Cursor
first_cursor p = record {
  begin = routines_begin p;
  info = infos_begin p;
  cold = cold_begin p;
  chained = chained_begin p;
}

-- the routines of a linked program, functions and then funclets, with where each begins
abbrev pub placed : LinearProgram → List Placed
placed p = placed_from (site_of p) (first_cursor p) (routines p)
