-- The running body as templates see it.
use Rattle.std.specs.Prelude.{◌≡◌, ℕ, ◌<◌, List, slice_get, slice_index, Some, None}
use Rattle.x64_instr.specs.declared.register.Reg.TheVariants.{Rax, Rcx, Rdx, Rsp}
use Rattle.x64_instr.specs.Registers.{number}
use Rattle.x64_machine.specs.declared.cpu.Cpu.{Cpu}
use Rattle.x64_machine.specs.Effect.{State, register}
use Rattle.source_meaning.specs.Source.{is_hidden}
use Rattle.linear_code.specs.declared.slot.Slot.TheVariants.{Local, Temporary}
use Rattle.linear_code.specs.BodyState.{BodyState, Counts}
use Rattle.linear_code.specs.Program.{LinearProgram, LinearBody}
use Rattle.template_code.specs.declared.layout.Layout.{Layout}
use Rattle.template_code.specs.Places.{parameter_register}
use Rattle.linear_machine.specs.Frames.{BodyName, FunctionBody, FuncletBody, body_of, Configuration, local_of}
use Rattle.x64_templates.specs.Straight.{local_registers, other_registers, MachineView, machine}
use Rattle.x64_templates.specs.Frames.{KeepsUnused}
use Rattle.x64_templates.specs.EntryStates.{body_in_memory}
use Rattle.x64_templates.specs.Runs.{FramePlace, Roomy, FrameHolds}
use Rattle.match_stack.specs.ImagePlan.{ImagePlan}

-- a state by its registers as templates name them
abbrev pub seen_by_templates : State → MachineView
seen_by_templates s =
    record {
      rax = register s.cpu Rax;
      rcx = register s.cpu Rcx;
      rdx = register s.cpu Rdx;
      locals = local_registers s.cpu.registers;
      rest = other_registers s.cpu.registers;
      memory = s.memory;
      vectored = s.vectored;
    }

-- the numbers in the registers in which parameters arrive
abbrev pub arrived_in : Cpu → ℕ → ℕ
arrived_in cpu i = slice_index cpu.registers (number (parameter_register i))

-- how many locals and temporaries a body has
abbrev pub counts_of : LinearBody → Counts
counts_of b = record { locals = b.locals; temporaries = b.temporaries }

-- of the registers that templates of a body keep, those that hold no local of it are as they were
pub record KeepsRegisters (y : Layout) (old new : List ℕ) : Type 0 where
  pub rest : other_registers new ≡ other_registers old
  pub locals : KeepsUnused y (local_registers old) (local_registers new)

-- a local that a body's code may name: any of a function's own, and one in the frame of a funclet's
-- function
abbrev pub IsReached : ImagePlan → BodyName → ℕ → Type 0
IsReached p (FunctionBody f) x = Unit {0}
IsReached p (FuncletBody k) x = p.register (FuncletBody k) x ≡ None

module _ (program : LinearProgram) (p : ImagePlan) where
  -- a body's frame, by RSP and by the base of its activation, with the numbers of the parameters
  -- that stay in registers
  abbrev pub frame_at : BodyName → LinearBody → (sp base : ℕ) → (arrived : ℕ → ℕ) → FramePlace
  frame_at name b sp base arrived =
      record {
        layout = p.layout name;
        counts = counts_of b;
        reserved = is_hidden program.globals;
        sp = sp;
        base = base;
        arrived = arrived;
      }

  -- its slots, as they are in memory, and the source's memory
  abbrev pub state_of : State → Configuration → (base : ℕ) → BodyState
  state_of s c base =
      body_in_memory (p.layout c.frame.body) (register s.cpu Rsp) base (arrived_in s.cpu)
      (local_registers s.cpu.registers) s.memory c.store.memory

  -- the slots hold the numbers that linear code has in them
  pub record HasSlotsOf (c : Configuration) (b : LinearBody) (slots : BodyState) : Type 0 where
    pub locals : (i : ℕ) → i < b.locals → IsReached p c.frame.body i
        → slots.slots (Local i) ≡ local_of c.store c.frame.activation i
    pub temporaries : (i v : ℕ) → slice_get c.frame.temporaries i ≡ Some v
        → slots.slots (Temporary i) ≡ v
    pub source : slots.memory ≡ c.store.memory

  -- a state as templates see it
  pub record HasView (s : State) (c : Configuration) : Type 0 where
    pub is_machine : s ≡ machine (seen_by_templates s) s.cpu.rip s.cpu.flags
    pub body : LinearBody
    pub there : body_of program c.frame.body ≡ Some body
    pub base : ℕ
    pub room : Roomy (frame_at c.frame.body body (register s.cpu Rsp) base (arrived_in s.cpu))
    pub holds : FrameHolds
        (frame_at c.frame.body body (register s.cpu Rsp) base (arrived_in s.cpu))
        (local_registers s.cpu.registers) s.memory
        (state_of s c base)
    pub slots : HasSlotsOf c body (state_of s c base)
