-- Where the code of a program is in memory, and the addresses in its bodies.
use Rattle.std.specs.Prelude.{◌≡◌, ℕ, ◌+◌, List, ◌∷◌, ◌++◌, slice_get, Some}
use Rattle.host_layout.specs.declared.range.TheConstants.{IMAGE_BASE}
use Rattle.flat_memory.specs.Memory.{Memory}
use Rattle.x64_instr.specs.declared.instruction.Instr.{Instr}
use Rattle.frame_rules.specs.Bytes as code
use Rattle.linear_code.specs.declared.instruction.Instruction.{Instruction}
use Rattle.linear_code.specs.declared.instruction.Instruction.TheVariants as instructions
use Rattle.linear_code.specs.Program.{LinearProgram}
use Rattle.template_code.specs.Bytes.{sizes}
use Rattle.template_code.specs.Template.{Links, template}
use Rattle.template_code.specs.ColdParts.{label_at}
use Rattle.x64_emit.specs.Linking.{links_of}
use Rattle.image_link.specs.Text.{addresses}
use Rattle.image_link.specs.Linked.{text_begin, linked}
use Rattle.image_tables.specs.RoutinePlaces.{Placed, body_begin, site_of}

-- where every image that is written is loaded
abbrev pub image_base : ℕ
image_base = IMAGE_BASE

-- the text is in memory, to be executed
abbrev pub HasText : Memory → LinearProgram → Type 0
HasText m p = code.IsExecutableAt m (image_base + text_begin p.globals) (linked p).text

-- ---- addresses of a routine's body, relative to the image's base as all addresses of tables

-- where the code of an instruction begins, in a cold part or not
abbrev pub template_at : Placed → ℕ → ℕ
template_at x number =
    label_at x.routine.layout (body_begin x) x.cold x.routine.body.cold x.routine.body.code number

-- what its code refers to
abbrev pub links : LinearProgram → Placed → Links
links p x = links_of (addresses (site_of p) x.begin x.cold x.routine)

-- the instruction is a return
abbrev pub IsReturn : Instruction → Type 0
IsReturn (instructions.Return from) = Unit {0}
IsReturn instruction = ⊥

-- here begins a machine instruction of an instruction that is no return
pub record IsInBody (p : LinearProgram) (x : Placed) (rva : ℕ) : Type 0 where
  pub number : ℕ
  pub instruction : Instruction
  pub there : slice_get x.routine.body.code number ≡ Some instruction
  pub continues : IsReturn instruction → ⊥
  pub done : List Instr
  pub item : Instr
  pub left : List Instr
  pub parts : template (links p x) x.routine.layout (template_at x number) instruction
      ≡ done ++ (item ∷ left)
  pub here : rva ≡ template_at x number + sizes done
