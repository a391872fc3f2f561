-- The state in which a body begins.
use Rattle.std.specs.Prelude.{◌≡◌, ◌⊎◌, ℕ, zero, suc, ◌+◌, ◌-◌, ◌*◌, ◌^◌, ◌<◌, ◌≤◌, true, nat_lt, if◌then◌else◌}
use Rattle.flat_memory.specs.Memory.{Memory, may_read, may_write, number_at}
use Rattle.linear_code.specs.declared.slot.Slot.{Slot}
use Rattle.linear_code.specs.declared.slot.Slot.TheVariants.{Local, Temporary}
use Rattle.linear_code.specs.BodyState.{BodyState, with_slot}
use Rattle.template_code.specs.declared.layout.Layout.{Layout}
use Rattle.x64_templates.specs.Straight.{LocalRegisters, MachineView}
use Rattle.x64_templates.specs.Frames.{InTemporaries, InLocals, IsBytes, MemoryKeepsBase, KeepsReserved, Agrees, number_in}
use Rattle.x64_instr.specs.declared.register.Reg.{Reg}
use Rattle.x64_templates.specs.Locals.{local_in}
use Rattle.template_code.specs.Calls.{stack_parameter}
use Rattle.x64_templates.specs.Runs.{FramePlace}

-- so many arguments from one on, in the locals of their numbers
abbrev pub with_arguments : (Slot → ℕ) → (ℕ → ℕ) → ℕ → ℕ → Slot → ℕ
with_arguments slots arguments i zero = slots
with_arguments slots arguments i (suc n) =
    with_arguments (with_slot slots (Local i) (arguments i)) arguments (i + 1) n

-- what a call passes: four temporaries from the first one on, and as further arguments the first
-- temporaries of all
abbrev pub passed : (Slot → ℕ) → ℕ → ℕ → ℕ
passed slots first i =
    if nat_lt i 4 then slots (Temporary (first + i)) else slots (Temporary (i - 4))

-- the first four arguments are in registers
pub record InRegisters (v : MachineView) (arguments : ℕ → ℕ) : Type 0 where
  pub first : v.rcx ≡ arguments 0
  pub second : v.rdx ≡ arguments 1
  pub third : v.rest.r8 ≡ arguments 2
  pub fourth : v.rest.r9 ≡ arguments 3

-- the further ones are above the frame, where no slot is
pub record OnStack (p : FramePlace) (m : Memory) (count : ℕ) (arguments : ℕ → ℕ) : Type 0 where
  pub number : (i : ℕ) → 4 ≤ i → i < count
      → number_at m.byte 8 (p.sp + stack_parameter p.layout i) ≡ arguments i
  pub readable : (i a : ℕ) → 4 ≤ i → i < count → p.sp + stack_parameter p.layout i ≤ a
      → a < p.sp + stack_parameter p.layout i + 8 → may_read m a ≡ true
  pub own : (i a : ℕ) → 4 ≤ i → i < count → p.sp + stack_parameter p.layout i ≤ a
      → a < p.sp + stack_parameter p.layout i + 8 → p.reserved a ≡ true
  pub near : (i : ℕ) → i < count → stack_parameter p.layout i < 2 ^ 31
  pub small : (i : ℕ) → i < count → arguments i < 2 ^ 64

-- a function's frame, all slots of which lie below where slots end, and so below its end
pub record IsFunctionFrame (p : FramePlace) : Type 0 where
  pub none_arrive : p.layout.arrivals ≡ 0
  pub base : p.base ≡ p.sp
  pub temporaries : p.layout.temporaries + 8 * p.counts.temporaries ≤ p.layout.slots
  pub locals : p.layout.locals + 8 * p.counts.locals ≤ p.layout.slots
  pub within : p.layout.slots ≤ p.layout.frame

-- the body whose slots hold what registers and memory have at their places
abbrev pub body_in_memory : Layout → (sp base : ℕ) → (arrived : ℕ → ℕ) → LocalRegisters → Memory
    → Memory → BodyState
body_in_memory y sp base arrived locals m source =
    record { slots = number_in y sp base arrived locals m; memory = source }

-- a frame's memory, and the registers of locals, before its body begins
pub record FreshFrame (p : FramePlace) (locals : LocalRegisters) (m source : Memory) : Type 0 where
  pub small : (r : Reg) → local_in locals r < 2 ^ 64
  pub arrived : (i : ℕ) → p.arrived i < 2 ^ 64
  pub bytes : IsBytes m
  pub writable : (a : ℕ) → InTemporaries p.layout p.counts p.sp a
      ⊎ InLocals p.layout p.counts p.base a → may_write m a ≡ true
  pub own : (a : ℕ) → InTemporaries p.layout p.counts p.sp a ⊎ InLocals p.layout p.counts p.base a
      → p.reserved a ≡ true
  pub base : MemoryKeepsBase p.layout.base p.sp p.base m
  pub own_base : KeepsReserved p.layout.base p.sp p.reserved
  pub agrees : Agrees p.reserved m source
