-- How the slots of a body and the source's memory are in the machine's memory.
use Rattle.std.specs.Prelude.{◌≡◌, ℕ, ◌+◌, ◌*◌, ◌^◌, ◌<◌, ◌≤◌, Bool, true, false, ◌⊎◌, Option, Some, None, slice_index}
use Rattle.flat_memory.specs.Memory.{Memory, number_at, may_write}
use Rattle.host_layout.specs.Ranges.{in_guard}
use Rattle.host_layout.specs.declared.range.TheConstants.{DATA_STACK_START}
use Rattle.linear_code.specs.declared.slot.Slot.{Slot}
use Rattle.linear_code.specs.declared.slot.Slot.TheVariants.{Local, Temporary}
use Rattle.linear_code.specs.BodyState.{BodyState, Counts}
use Rattle.linear_code.specs.Meaning.{IsSlot}
use Rattle.template_code.specs.declared.layout.Layout.{Layout}
use Rattle.x64_instr.specs.declared.register.Reg.{Reg}
use Rattle.x64_instr.specs.Registers.{number}
use Rattle.template_code.specs.declared.layout.Place.{Place}
use Rattle.template_code.specs.declared.layout.Place.TheVariants.{InRegister, InFrame, Arriving}
use Rattle.template_code.specs.Places.{parameter_register, place_of}
use Rattle.template_code.specs.Slots.{temporary_at, local_at}
use Rattle.x64_templates.specs.Straight.{LocalRegisters, MachineView, registers_of}
use Rattle.x64_templates.specs.Locals.{is_of_local, local_in}

-- where a slot's word in the frame is, by RSP and by the base of the activation's frame
abbrev pub slot_at : Layout → ℕ → ℕ → Slot → ℕ
slot_at y sp base (Temporary i) = sp + temporary_at y i
slot_at y sp base (Local i) = base + local_at y i

-- the bytes of the temporaries, and those of the locals
abbrev pub InTemporaries : Layout → Counts → ℕ → ℕ → Type 0
InTemporaries y n sp a = (sp + y.temporaries ≤ a) × (a < sp + (y.temporaries + 8 * n.temporaries))

abbrev pub InLocals : Layout → Counts → ℕ → ℕ → Type 0
InLocals y n base a = (base + y.locals ≤ a) × (a < base + (y.locals + 8 * n.locals))

-- the place in which the base is kept lies below the temporaries and below the locals; a function's
-- base is its RSP
abbrev pub HasBase : Layout → Option ℕ → ℕ → ℕ → Type 0
HasBase y None sp base = base ≡ sp
HasBase y (Some b) sp base = (b + 8 ≤ y.temporaries) × (sp + (b + 8) ≤ base + y.locals)

-- the slots lie apart, below 2 to the 48, and displacements of 31 bits reach them
pub record SlotsHaveRoom (y : Layout) (n : Counts) (sp base : ℕ) : Type 0 where
  pub temporaries : y.temporaries + 8 * n.temporaries < 2 ^ 31
  pub locals : y.locals + 8 * n.locals < 2 ^ 31
  pub high : sp < 2 ^ 47
  pub base_high : base < 2 ^ 47
  pub apart : (base + (y.locals + 8 * n.locals) ≤ sp + y.temporaries)
      ⊎ (sp + (y.temporaries + 8 * n.temporaries) ≤ base + y.locals)
  pub kept_base : HasBase y y.base sp base

-- the base that is kept
abbrev pub MemoryKeepsBase : Option ℕ → ℕ → ℕ → Memory → Type 0
MemoryKeepsBase None sp base m = Unit {0}
MemoryKeepsBase (Some b) sp base m =
    (number_at m.byte 8 (sp + b) ≡ base)
    × ((a : ℕ) → sp + b ≤ a → a < sp + (b + 8) → may_write m a ≡ true)

abbrev pub KeepsReserved : Option ℕ → ℕ → (ℕ → Bool) → Type 0
KeepsReserved None sp reserved = Unit {0}
KeepsReserved (Some b) sp reserved = (a : ℕ) → sp + b ≤ a → a < sp + (b + 8) → reserved a ≡ true

-- a byte of the data stack's pointer is the source's, may be written, and is a number of 8 bits
pub record IsPointerByte (reserved : ℕ → Bool) (source : Memory) (a : ℕ) : Type 0 where
  pub seen : reserved a ≡ false
  pub writable : may_write source a ≡ true
  pub small : source.byte a < 256

abbrev pub HasPointer : (ℕ → Bool) → Memory → Type 0
HasPointer reserved source =
    (a : ℕ) → DATA_STACK_START ≤ a → a < DATA_STACK_START + 8 → IsPointerByte reserved source a

-- the machine's memory agrees with the source's on all bytes that aren't reserved; slots are
-- reserved, and the data stack's pointer isn't
pub record Agrees (reserved : ℕ → Bool) (m source : Memory) : Type 0 where
  pub byte : (a : ℕ) → reserved a ≡ false → m.byte a ≡ source.byte a
  pub protection : (a : ℕ) → reserved a ≡ false → m.protection a ≡ source.protection a
  pub guard : (a : ℕ) → in_guard a ≡ true → reserved a ≡ true
  pub pointer : HasPointer reserved source

-- the number in the register in which a parameter arrives
abbrev pub arriving : MachineView → ℕ → ℕ
arriving v i = slice_index (registers_of v) (number (parameter_register i))

-- the parameters that stay in the registers in which they arrive have these numbers there
abbrev pub HasArrived : Layout → (ℕ → ℕ) → MachineView → Type 0
HasArrived y arrived v = (i : ℕ) → i < y.arrivals → arriving v i ≡ arrived i

-- a slot to which a result goes: no parameter that stays in its register
abbrev pub IsKept : Layout → Slot → Type 0
IsKept y (Temporary i) = Unit {0}
IsKept y (Local i) = y.arrivals ≤ i

-- the number in a slot, by its place; `arrived` are those of parameters that stay in registers
abbrev pub number_placed : Layout → (base : ℕ) → (arrived : ℕ → ℕ) → LocalRegisters → Memory → ℕ
    → Place → ℕ
number_placed y base arrived locals m i (InRegister r) = local_in locals r
number_placed y base arrived locals m i InFrame = number_at m.byte 8 (base + local_at y i)
number_placed y base arrived locals m i Arriving = arrived i

abbrev pub number_in : Layout → (sp base : ℕ) → (arrived : ℕ → ℕ) → LocalRegisters → Memory → Slot
    → ℕ
number_in y sp base arrived locals m (Temporary i) = number_at m.byte 8 (sp + temporary_at y i)
number_in y sp base arrived locals m (Local i) =
    number_placed y base arrived locals m i (place_of y i)

-- the slots hold their numbers; those of the frame are in memory that may be written and that is
-- reserved
pub record HoldsBody (y : Layout) (n : Counts) (reserved : ℕ → Bool) (sp base : ℕ)
    (arrived : ℕ → ℕ) (locals : LocalRegisters) (m : Memory) (b : BodyState) : Type 0 where
  pub slot : (x : Slot) → IsSlot n x → number_in y sp base arrived locals m x ≡ b.slots x
  pub small : (x : Slot) → IsSlot n x → b.slots x < 2 ^ 64
  pub kept_base : MemoryKeepsBase y.base sp base m
  pub writable : (a : ℕ) → InTemporaries y n sp a ⊎ InLocals y n base a → may_write m a ≡ true
  pub own : (a : ℕ) → InTemporaries y n sp a ⊎ InLocals y n base a → reserved a ≡ true
  pub own_base : KeepsReserved y.base sp reserved
  pub source : Agrees reserved m b.memory

-- of the registers of locals, those that hold no local are as they were
abbrev pub KeepsUnused : Layout → (old new : LocalRegisters) → Type 0
KeepsUnused y old new =
    (r : Reg) → is_of_local r ≡ true → ((i : ℕ) → place_of y i ≡ InRegister r → ⊥)
    → local_in new r ≡ local_in old r

-- each byte is a number of 8 bits
abbrev pub IsBytes : Memory → Type 0
IsBytes m = (a : ℕ) → m.byte a < 256

-- what an instruction of a body leaves as it was: what may be done where, and the reserved bytes
-- outside its slots
pub record Changes (y : Layout) (n : Counts) (reserved : ℕ → Bool) (sp base : ℕ)
    (old new : Memory) : Type 0 where
  pub protection : new.protection ≡ old.protection
  pub byte : (a : ℕ) → reserved a ≡ true → (InTemporaries y n sp a ⊎ InLocals y n base a → ⊥)
      → new.byte a ≡ old.byte a
  pub bytes : IsBytes old → IsBytes new
