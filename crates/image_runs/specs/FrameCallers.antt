-- The frames of a checked program's image, at every instruction of its code.
--
-- The main definition: `FindsCallers`.
use Rattle.std.specs.Prelude.{◌≡◌, ℕ, ◌+◌, ◌<◌, true, slice_get, Some, None}
use Rattle.x64_machine.specs.Effect.{State}
use Rattle.frame_rules.specs.Codes.{depth}
use Rattle.frame_rules.specs.Rules.{ops}
use Rattle.frame_rules.specs.States.{IsEntry}
use Rattle.unwind_check.specs.Fragments.{IsInPart}
use Rattle.host_layout.specs.declared.imported.ImportedService.{ImportedService}
use Rattle.c_checked.specs.Program.{Program}
use Rattle.linear_code.specs.Program.{LinearProgram}
use Rattle.seh_ir.specs.Lowered.{lowered}
use Rattle.x64_emit.specs.declared.entry.TheConstants.{CHECK_STACK_SIZE}
use Rattle.x64_emit.specs.declared.handlers.TheConstants.{NAME_THUNK_SIZE, STUB_SIZE}
use Rattle.frame_layout.specs.declared.frame.FrameLayout.{FrameLayout}
use Rattle.image_link.specs.Fits.{FitsProgram}
use Rattle.image_link.specs.Handlers.{adding_at, removing_at}
use Rattle.image_tables.specs.RoutinePlaces.{Placed, PlacedPart, end_of, parts_of, placed, thunk_begin, probe_begin, blocks_of, block_begin}
use Rattle.image_tables.specs.CodeInMemory.{image_base, HasText}
use Rattle.image_tables.specs.Functions.{function_of, part, parts, leaf, thunk_of, name_thunk_of, adding_stub_of, removing_stub_of, probe}
use Rattle.image_tables.specs.FrameLaws.{FindsCaller, IsInRoutine, IsInRange}

-- from each state of a routine the walk finds its caller, as it was at the routine's first byte (in
-- state e): in a function or funclet with a frame, prologue and epilogues included; in each of its
-- cold parts; in a leaf function; in the thunk of a service; in a function's name thunk and in its
-- stubs, where its block has them; in `__chkstk`
pub record FindsCallers (p : LinearProgram) : Type 0 where
  pub functions :
      (index : ℕ) (x : Placed) (f : FrameLayout) (e s : State) (distance : ℕ)
      → slice_get (placed p) index ≡ Some x → x.routine.frame ≡ Some f
      → IsEntry (depth (ops (function_of p x f))) e → HasText s.memory p
      → s.cpu.rip ≡ image_base + x.begin + distance → IsInRoutine p x f e s distance
      → FindsCaller p e s
  pub cold_parts :
      (index n : ℕ) (x : Placed) (f : FrameLayout) (q : PlacedPart) (e s : State) (distance : ℕ)
      → slice_get (placed p) index ≡ Some x → x.routine.frame ≡ Some f
      → slice_get (parts_of x) n ≡ Some q
      → IsEntry (depth (ops (function_of p x f))) e → HasText s.memory p
      → s.cpu.rip ≡ image_base + q.begin + distance
      → IsInPart (function_of p x f) (parts p x f) (part p x q) e s distance
      → FindsCaller p e s
  pub leaves :
      (index : ℕ) (x : Placed) (e s : State)
      → slice_get (placed p) index ≡ Some x → x.routine.frame ≡ None
      → IsInRange e s (leaf p x) x.begin (end_of x) → FindsCaller p e s
  pub thunks :
      (service : ImportedService) (e s : State)
      → IsInRange e s (thunk_of p service)
      (thunk_begin p service) (thunk_begin p service + 6)
      → FindsCaller p e s
  pub names :
      (f : ℕ) (e s : State) → f < (blocks_of p).count
      → IsInRange e s (name_thunk_of p f) (block_begin p f) (block_begin p f + NAME_THUNK_SIZE)
      → FindsCaller p e s
  pub adding :
      (f : ℕ) (e s : State) → f < (blocks_of p).count → (blocks_of p).adds ≡ true
      → IsInRange e s (adding_stub_of p f) (adding_at (block_begin p f))
      (adding_at (block_begin p f) + STUB_SIZE)
      → FindsCaller p e s
  pub removing :
      (f : ℕ) (e s : State) → f < (blocks_of p).count → (blocks_of p).removes ≡ true
      → IsInRange e s (removing_stub_of p f) (removing_at (blocks_of p).adds (block_begin p f))
      (removing_at (blocks_of p).adds (block_begin p f) + STUB_SIZE)
      → FindsCaller p e s
  pub probes :
      (e s : State)
      → IsInRange e s probe (probe_begin p) (probe_begin p + CHECK_STACK_SIZE)
      → FindsCaller p e s

-- so it is of every checked program whose linear code is within the limits of linking
abbrev pub LoweredFindsCallers : Type 0
LoweredFindsCallers =
    (program : Program) → FitsProgram (lowered program) → FindsCallers (lowered program)
