-- What a run comes to where the template of an instruction is placed.
--
-- The main definitions: `IsSpare`, `KeepsArrivals`.
use Rattle.std.specs.Prelude.{◌≡◌, ℕ, ◌+◌, ◌*◌, ◌^◌, ◌<◌, ◌≤◌, true, ◌⊎◌, None, List, length, get_or}
use Rattle.flat_memory.specs.Memory.{Memory}
use Rattle.x64_machine.specs.declared.cpu.Flags.{Flags}
use Rattle.x64_machine.specs.Effect.{State}
use Rattle.linear_code.specs.declared.instruction.Instruction.{Instruction}
use Rattle.linear_code.specs.declared.instruction.Instruction.TheVariants as instructions
use Rattle.linear_code.specs.BodyState.{BodyState}
use Rattle.linear_code.specs.Meaning.{InstructionEffect, Next, JumpsTo, Faults, HasSlots}
use Rattle.x64_templates.specs.Straight.{LocalRegisters, OtherRegisters, MachineView, machine}
use Rattle.template_code.specs.Bytes.{sizes}
use Rattle.template_code.specs.Slots.{operands_code}
use Rattle.template_code.specs.Template.{Links, template, template_size, body_size, code_from, HasLabels}
use Rattle.template_code.specs.declared.layout.Layout.{Layout}
use Rattle.template_code.specs.declared.layout.Place.TheVariants.{InFrame}
use Rattle.template_code.specs.Operands.{needs_rax_alone}
use Rattle.template_code.specs.Places.{place_of}
use Rattle.x64_templates.specs.Frames.{IsKept}
use Rattle.x64_templates.specs.Runs.{HasCode, FramePlace, AreArrived, ReachesBody, ReachesFault}

-- the result of an instruction goes to no parameter that stays in its register
abbrev pub KeepsArrivals : Layout → Instruction → Type 0
KeepsArrivals y (instructions.Compute to o first second) = IsKept y to
KeepsArrivals y (instructions.Information to field) = IsKept y to
KeepsArrivals y (instructions.Landing to) = IsKept y to
KeepsArrivals y instruction = Unit {0}

-- an instruction of a leaf function, which writes RAX alone
abbrev pub IsSpare : Instruction → Type 0
IsSpare (instructions.Compute to o first second) = needs_rax_alone o ≡ true
IsSpare (instructions.Jump label) = Unit {0}
IsSpare (instructions.JumpIfZero slot label) = Unit {0}
IsSpare instructions.Separator = Unit {0}
IsSpare (instructions.Return from) = Unit {0}
IsSpare instruction = ⊥

-- its slots are above RSP, but for parameters that stay in their registers
pub record IsLeafCode (y : Layout) (body : List Instruction) : Type 0 where
  pub none : y.base ≡ None
  pub in_frame : (i : ℕ) → y.arrivals ≤ i → place_of y i ≡ InFrame
  pub spare : (number : ℕ) → number < length body
      → IsSpare (get_or body number instructions.Separator)

-- the code of a body writes no register in which a parameter stays: there is none, or it is a leaf
-- function's
abbrev pub SparesArrivals : Layout → List Instruction → Type 0
SparesArrivals y body = (y.arrivals ≡ 0) ⊎ IsLeafCode y body

-- in so many turns, 1 to 16, the run comes to this address, with this body
pub record RunsTo (p : FramePlace) (turns : ℕ) (s : State) (to : ℕ) (others : OtherRegisters)
    (locals : LocalRegisters) (b : BodyState) : Type 0 where
  pub least : 1 ≤ turns
  pub most : turns ≤ 16
  pub follows : ReachesBody p turns s to others locals b

-- by what the instruction means: on to the next one, or to a label, in one turn for each machine
-- instruction of its template, or to a fault
abbrev pub InstructionDone : FramePlace → Links → MachineView → ℕ → Flags → BodyState → Instruction
    → InstructionEffect → Type 0
InstructionDone p k v here flags b instruction (Next c) =
    RunsTo p (length (template k p.layout here instruction)) (machine v here flags)
    (here + template_size p.layout instruction) v.rest v.locals c
InstructionDone p k v here flags b instruction (JumpsTo c label) =
    RunsTo p (length (template k p.layout here instruction)) (machine v here flags)
    (k.label label) v.rest v.locals c
InstructionDone p k v here flags b (instructions.Compute to o first second) (Faults code access) =
    ReachesFault (length (operands_code p.layout o first second)) v here flags
    (here + sizes (operands_code p.layout o first second)) o (b.slots first)
    (b.slots second) code access
InstructionDone p k v here flags b instruction _ = Unit {0}

-- the same for n instructions, in n to 16 n turns; parameters that stay in registers are still
-- there
pub record RunsAllTo (p : FramePlace) (n : ℕ) (s : State) (to : ℕ) (others : OtherRegisters)
    (locals : LocalRegisters) (b : BodyState) : Type 0 where
  pub turns : ℕ
  pub least : n ≤ turns
  pub most : turns ≤ 16 * n
  pub follows : ReachesBody p turns s to others locals b
  pub arrived : AreArrived p follows.after

-- a body whose code is placed where no source access reaches, with labels at its instructions
pub record IsLinked (p : FramePlace) (k : Links) (m : Memory) (start : ℕ)
    (body : List Instruction) : Type 0 where
  pub code : HasCode m start (code_from k p.layout start body)
  pub labels : HasLabels k p.layout start body
  pub small : body_size p.layout body < 2 ^ 31
  pub high : start + body_size p.layout body < 2 ^ 48
  pub own : (a : ℕ) → start ≤ a → a < start + body_size p.layout body → p.reserved a ≡ true
  pub slots : (number : ℕ) → number < length body
      → HasSlots p.counts (get_or body number instructions.Separator)
  pub kept : (number : ℕ) → number < length body
      → KeepsArrivals p.layout (get_or body number instructions.Separator)
