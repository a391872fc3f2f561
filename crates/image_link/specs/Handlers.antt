-- Vectored handlers in the text of a program: behind all other code it has a block for each of its
-- functions, where it calls a service on them. A block begins with the function's name thunk,
-- through which the host calls the function as a handler, and has a stub for each such service that
-- the program imports, through which its code calls the service on the function.
--
-- `HandlerBlocks`, `blocks_at`: a program that imports one of these services has a block for each
-- function behind all cold parts. That is its name thunk, and a stub for each of the two that is
-- imported.
use Rattle.std.specs.Prelude.{ℕ, ◌+◌, ◌*◌, Bool, true, false, ◌||◌, if◌then◌else◌, List, [], ◌∷◌, ◌++◌}
use Rattle.x64_instr.specs.declared.instruction.Instr.{Instr}
use Rattle.host_layout.specs.declared.imported.ImportedService.{ImportedService}
use Rattle.host_layout.specs.declared.imported.ImportedService.TheVariants.{AddVectored, RemoveVectored}
use Rattle.pe_write.specs.ImportTables.{slot_of}
use Rattle.template_code.specs.Bytes.{spelled}
use Rattle.template_code.specs.Handlers.{name_thunk, adding_stub, removing_stub}
use Rattle.x64_emit.specs.declared.links.Stubs.{Stubs}
use Rattle.image_link.specs.declared.handlers.HandlerBlocks.{HandlerBlocks}
use Rattle.x64_emit.specs.declared.handlers.TheConstants.{NAME_THUNK_SIZE, STUB_SIZE}
use Rattle.image_link.specs.Services.{is_among}

-- ---- a block

-- a stub where there is one
abbrev pub code_if : Bool → List Instr → List Instr
code_if true code = code
code_if false code = []

abbrev pub stub_size_if : Bool → ℕ
stub_size_if true = STUB_SIZE
stub_size_if false = 0

abbrev pub block_size : (adds removes : Bool) → ℕ
block_size adds removes = NAME_THUNK_SIZE + stub_size_if adds + stub_size_if removes

-- ---- all blocks, of a program that imports these services

-- of so many functions, from an address on
abbrev pub blocks_at : List ImportedService → (at functions : ℕ) → HandlerBlocks
blocks_at imports at functions =
    let adds = is_among imports AddVectored in
    let removes = is_among imports RemoveVectored in record {
      first = at;
      count = if adds || removes then functions else 0;
      adds = adds;
      removes = removes;
    }

abbrev pub step_of : HandlerBlocks → ℕ
step_of b = block_size b.adds b.removes

-- how many bytes they take
abbrev pub blocks_size : List ImportedService → (functions : ℕ) → ℕ
blocks_size imports functions =
    let b = blocks_at imports 0 functions in step_of b * b.count

-- where the stubs of a block at an address are, the one that removes behind the one that adds
abbrev pub adding_at : ℕ → ℕ
adding_at at = at + NAME_THUNK_SIZE

abbrev pub removing_at : Bool → ℕ → ℕ
removing_at adds at = adding_at at + stub_size_if adds

abbrev pub adding_of : HandlerBlocks → Stubs
adding_of b = record { first = adding_at b.first; step = step_of b; count = b.count }

abbrev pub removing_of : HandlerBlocks → Stubs
removing_of b = record { first = removing_at b.adds b.first; step = step_of b; count = b.count }

-- the name thunk of the function of an index
abbrev pub name_at : HandlerBlocks → ℕ → ℕ
name_at b f = b.first + step_of b * f

-- the stubs of a block at an address, with the slots in `.rdata`
abbrev pub adding_code : List ImportedService → (rdata : ℕ) → HandlerBlocks → ℕ → List Instr
adding_code imports rdata b at =
    code_if b.adds (adding_stub (adding_at at) at (rdata + slot_of imports AddVectored))

abbrev pub removing_code : List ImportedService → (rdata : ℕ) → HandlerBlocks → ℕ → List Instr
removing_code imports rdata b at =
    code_if b.removes
    (removing_stub (removing_at b.adds at) at (rdata + slot_of imports RemoveVectored))

-- the block at an address of a function at another
abbrev pub block_code : List ImportedService → (rdata : ℕ) → HandlerBlocks → (at function : ℕ)
    → List Instr
block_code imports rdata b at function =
    name_thunk at function ++ adding_code imports rdata b at ++ removing_code imports rdata b at

unfoldable pub block_bytes : List ImportedService → (rdata : ℕ) → HandlerBlocks → (at function : ℕ)
    → List ℕ
block_bytes imports rdata b at function = spelled (block_code imports rdata b at function)

-- one after another
abbrev pub blocks_bytes : List ImportedService → (rdata : ℕ) → HandlerBlocks → ℕ → List ℕ → List ℕ
blocks_bytes imports rdata b at [] = []
blocks_bytes imports rdata b at (f ∷ fs) =
    block_bytes imports rdata b at f ++ blocks_bytes imports rdata b (at + step_of b) fs
