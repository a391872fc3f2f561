-- What a run comes to where the code of an operation is placed.
--
-- `HasCode`, `Reaches`: the bytes of instructions are in memory at an address; so many turns, each
-- an instruction, lead from a state to another.
--
-- The main definition: `FrameHolds`.
use Rattle.std.specs.Prelude.{◌≡◌, ◌≢◌, ◌⊎◌, ℕ, zero, suc, ◌+◌, ◌^◌, ◌<◌, Bool, false, List, Option, Some, Ok, Err, length}
use Rattle.seh_num.specs.declared.event.Code.{Code}
use Rattle.seh_num.specs.declared.size.TheConstants.{LONGEST_INSTRUCTION}
use Rattle.flat_memory.specs.Memory.{Memory, may_write, executable}
use Rattle.x64_instr.specs.declared.instruction.Instr.{Instr}
use Rattle.x64_instr.specs.Spelling.{leading}
use Rattle.x64_machine.specs.declared.cpu.Flags.{Flags}
use Rattle.x64_machine.specs.declared.outcome.Stop.TheVariants as stops
use Rattle.x64_machine.specs.Effect.{State}
use Rattle.x64_machine.specs.Effect as machines
use Rattle.x64_templates.specs.Placed.{IsCodeAt, IsPlaced}
use Rattle.template_code.specs.Bytes.{spelled, sizes}
use Rattle.linear_code.specs.declared.slot.Slot.{Slot}
use Rattle.c_operations.specs.declared.operation.Operation.{Operation}
use Rattle.linear_code.specs.BodyState.{BodyState, Counts, with_slot}
use Rattle.c_operations.specs.Performed.{OperationResult, Gives, Raises, Undefined}
use Rattle.linear_code.specs.Meaning.{InstructionEffect, Next, Faults, IsSlot}
use Rattle.template_code.specs.declared.layout.Layout.{Layout}
use Rattle.x64_templates.specs.Straight.{AreSmall, LocalRegisters, OtherRegisters, MachineView, machine, takes_frame}
use Rattle.template_code.specs.Slots.{operands_code, finish_code, compute_code}
use Rattle.x64_templates.specs.Frames.{SlotsHaveRoom, HasArrived, HoldsBody, KeepsUnused, Changes}
use Rattle.x64_templates.specs.Implements.{HasOperands}

-- an instruction of the image is run, which changes no protection and no byte that may not be
-- written, and leaves numbers of 64 bits in all registers
pub record Steps (s u : State) : Type 0 where
  pub live : s.cpu.rip ≢ 0
  pub rip_small : s.cpu.rip < 2 ^ 64
  pub steps : machines.step s ≡ Ok u
  pub protection : u.memory.protection ≡ s.memory.protection
  pub fixed : (a : ℕ) → may_write s.memory a ≡ false → u.memory.byte a ≡ s.memory.byte a
  pub count : length u.cpu.registers ≡ length s.cpu.registers
  pub small : AreSmall s.cpu.registers → AreSmall u.cpu.registers

-- and it isn't one that makes a frame: so no funclet begins here
pub record Runs (s u : State) : Type 0 where
  pub steps : Steps s u
  pub instruction : Instr
  pub bytes : ℕ
  pub read : leading (executable s.memory LONGEST_INSTRUCTION s.cpu.rip) ≡ Some (instruction, bytes)
  pub inside : takes_frame instruction ≡ false

-- so many such instructions lead from a state to another
abbrev pub Reaches : ℕ → State → State → Type 0
Reaches zero s t = s ≡ t
Reaches (suc n) s t = (u : State) × Runs s u × Reaches n u t

-- the same, but that an instruction may make a frame strictly between two addresses: inside a
-- prologue
abbrev pub RunsInside : (from to : ℕ) → State → State → Type 0
RunsInside from to s u = Runs s u ⊎ (Steps s u × (from < s.cpu.rip) × (s.cpu.rip < to))

abbrev pub ReachesInside : (from to : ℕ) → ℕ → State → State → Type 0
ReachesInside from to zero s t = s ≡ t
ReachesInside from to (suc n) s t =
    (u : State) × RunsInside from to s u × ReachesInside from to n u t

-- and that the first one may make one wherever it is
abbrev pub Enters : (from to : ℕ) → ℕ → State → State → Type 0
Enters from to zero s t = s ≡ t
Enters from to (suc n) s t = (u : State) × Steps s u × ReachesInside from to n u t

-- the code is placed here
pub record HasCode (m : Memory) (at : ℕ) (code : List Instr) : Type 0 where
  pub is_there : IsCodeAt m at (spelled code)
  pub placed : IsPlaced at (at + sizes code)

-- where a frame is, what its memory is agreed on, and the numbers of parameters that stay in the
-- registers in which they arrive
pub record FramePlace : Type 0 where
  pub layout : Layout
  pub counts : Counts
  pub reserved : ℕ → Bool
  pub sp : ℕ
  pub base : ℕ
  pub arrived : ℕ → ℕ

abbrev pub Roomy : FramePlace → Type 0
Roomy p = SlotsHaveRoom p.layout p.counts p.sp p.base

-- a frame in memory has the numbers of a body's slots
abbrev pub FrameHolds : FramePlace → LocalRegisters → Memory → BodyState → Type 0
FrameHolds p locals m b =
    HoldsBody p.layout p.counts p.reserved p.sp p.base p.arrived locals m b

abbrev pub AreArrived : FramePlace → MachineView → Type 0
AreArrived p v = HasArrived p.layout p.arrived v

abbrev pub ChangesOwn : FramePlace → Memory → Memory → Type 0
ChangesOwn p old new = Changes p.layout p.counts p.reserved p.sp p.base old new

abbrev pub IsThere : FramePlace → Slot → Type 0
IsThere p x = IsSlot p.counts x

-- the run comes to this address, with this body in the frame and in the registers of its locals,
-- and
-- all other registers but RAX, RCX and RDX as they were
pub record ReachesBody (p : FramePlace) (turns : ℕ) (s : State) (to : ℕ) (others : OtherRegisters)
    (same : LocalRegisters) (b : BodyState) : Type 0 where
  pub after : MachineView
  pub flags : Flags
  pub comes : Reaches turns s (machine after to flags)
  pub rest : after.rest ≡ others
  pub locals : KeepsUnused p.layout same after.locals
  pub holds : FrameHolds p after.locals after.memory b
  pub changes : ChangesOwn p s.memory after.memory

-- the run comes to an instruction that faults, with the operands that it reads in their registers
-- and nothing in memory changed
pub record ReachesFault (turns : ℕ) (v : MachineView) (rip : ℕ) (flags : Flags) (at : ℕ)
    (o : Operation) (first second : ℕ) (code : Code) (access : Option (Bool × ℕ)) : Type 0 where
  pub stopped : MachineView
  pub left : Flags
  pub comes : Reaches turns (machine v rip flags) (machine stopped at left)
  pub waits : HasOperands o first second stopped
  pub rest : stopped.rest ≡ v.rest
  pub locals : stopped.locals ≡ v.locals
  pub memory : stopped.memory ≡ v.memory
  pub fault : machines.step (machine stopped at left) ≡ Err (stops.Fault code access)

-- ---- the second half

-- with its operands in their registers an operation is made, or refused; it is made so when it is
-- made again too, whatever the memory is by then

abbrev pub Finished : FramePlace → Operation → Slot → MachineView → ℕ → Flags → BodyState
    → OperationResult
    → Type 0
Finished p o to v at flags b (Gives x m) =
    ReachesBody p (length (finish_code p.layout o to)) (machine v at flags)
    (at + sizes (finish_code p.layout o to)) v.rest v.locals
    (record { slots = with_slot b.slots to x; memory = m })
Finished p o to v at flags b (Raises code access) =
    machines.step (machine v at flags) ≡ Err (stops.Fault code access)
Finished p o to v at flags b (Undefined a) = Unit {0}

-- ---- a whole operation

abbrev pub Computed : FramePlace → Slot → Operation → Slot → Slot → MachineView → ℕ → Flags
    → BodyState
    → InstructionEffect → Type 0
Computed p to o first second v rip flags b (Next c) =
    ReachesBody p (length (compute_code p.layout to o first second)) (machine v rip flags)
    (rip + sizes (compute_code p.layout to o first second)) v.rest v.locals c
Computed p to o first second v rip flags b (Faults code access) =
    ReachesFault (length (operands_code p.layout o first second)) v rip flags
    (rip + sizes (operands_code p.layout o first second)) o (b.slots first)
    (b.slots second) code access
Computed p to o first second v rip flags b _ = Unit {0}
