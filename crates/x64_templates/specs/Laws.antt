-- What holds of templates wherever they are placed.
use Rattle.std.specs.Prelude.{◌≡◌, ℕ, suc, ◌+◌, ◌^◌, ◌<◌, ◌≤◌, Bool, List, [], length, get_or, Option, Some}
use Rattle.seh_num.specs.declared.event.Code.{Code}
use Rattle.x64_machine.specs.declared.cpu.Flags.{Flags}
use Rattle.c_operations.specs.declared.operation.Operation.{Operation}
use Rattle.c_operations.specs.Performed.{performed}
use Rattle.linear_code.specs.declared.slot.Slot.{Slot}
use Rattle.linear_code.specs.declared.instruction.Instruction.{Instruction}
use Rattle.linear_code.specs.declared.instruction.Instruction.TheVariants as instructions
use Rattle.linear_code.specs.BodyState.{BodyState, Counts}
use Rattle.linear_code.specs.Meaning.{Faults, HasSlots, step, run}
use Rattle.template_code.specs.declared.layout.Layout.{Layout}
use Rattle.x64_templates.specs.Straight.{MachineView, machine}
use Rattle.template_code.specs.Bytes.{sizes}
use Rattle.template_code.specs.Slots.{operands_code, compute_code}
use Rattle.template_code.specs.Jumps.{IsNear}
use Rattle.template_code.specs.Calls.{return_at, begin_call, return_code, parameters_code}
use Rattle.template_code.specs.Probing.{check_stack}
use Rattle.x64_machine.specs.Effect.{State}
use Rattle.frame_rules.specs.Bytes.{prologue_code}
use Rattle.frame_rules.specs.Codes.{depth}
use Rattle.frame_rules.specs.Plan.{FramePlan, IsPlan, epilogue, operations_of, turned}
use Rattle.frame_rules.specs.Frame.{HoldsFrame}
use Rattle.frame_rules.specs.States.{IsEntry, registers}
use Rattle.template_code.specs.Frames.{plan_of_layout}
use Rattle.x64_templates.specs.Prologues.{AreProbed, MakesFrame}
use Rattle.template_code.specs.Template.{Links, template, offset_of}
use Rattle.x64_templates.specs.Frames.{SlotsHaveRoom, IsKept}
use Rattle.x64_templates.specs.Implements.{HasOperands}
use Rattle.x64_templates.specs.CallStates.{sp_of, HasBelow}
use Rattle.x64_templates.specs.Runs.{HasCode, FramePlace, Roomy, FrameHolds, AreArrived, IsThere, ReachesBody, Computed}
use Rattle.x64_templates.specs.InstructionRuns.{SparesArrivals, RunsAllTo, IsLinked}
use Rattle.x64_templates.specs.EntryStates.{with_arguments, InRegisters, OnStack, IsFunctionFrame}
use Rattle.x64_templates.specs.Returned.{CallBegun, Returned}
use Rattle.x64_templates.specs.Retries.{FaultsAfter, Retried}
use Rattle.x64_templates.specs.Epilogues.{NoEpilogue, IsReturn}

-- ---- operations and bodies

-- an operation's code does what the operation means: the result is in its slot, or its machine
-- instruction faults
abbrev pub OperationsRun : Type 0
OperationsRun =
    (p : FramePlace) (to : Slot) (o : Operation) (first second : Slot) (v : MachineView) (rip : ℕ)
    (f : Flags) (b : BodyState)
    → Roomy p → IsThere p to → IsThere p first → IsThere p second → IsKept p.layout to
    → AreArrived p v → sp_of v ≡ p.sp → FrameHolds p v.locals v.memory b
    → HasCode v.memory rip (compute_code p.layout to o first second)
    → Computed p to o first second v rip f b
    (step p.reserved (instructions.Compute to o first second) b)

-- so many instructions of a body, none of which needs the dispatcher, are run in at least as many
-- and at most 16 times as many turns
abbrev pub BodiesRun : Type 0
BodiesRun =
    (p : FramePlace) (k : Links) (start : ℕ) (body : List Instruction) (n : ℕ) → Roomy p
    → SparesArrivals p.layout body
    → (number : ℕ) (v : MachineView) (f : Flags) (b : BodyState) (last : ℕ) (c : BodyState)
    → IsLinked p k v.memory start body → AreArrived p v → sp_of v ≡ p.sp
    → FrameHolds p v.locals v.memory b
    → run p.reserved body n number b ≡ Some (last, c)
    → RunsAllTo p n (machine v (start + offset_of p.layout body number) f)
    (start + offset_of p.layout body last) v.rest v.locals c

-- ---- faults

-- where a body's instruction faults, so does the machine's, with its operands in their registers
abbrev pub BodiesFault : Type 0
BodiesFault =
    (p : FramePlace) (k : Links) (start : ℕ) (body : List Instruction) (n number : ℕ)
    (v : MachineView)
    (f : Flags) (b : BodyState) (last : ℕ) (c : BodyState)
    (to first second : Slot) (o : Operation) (code : Code) (access : Option (Bool × ℕ))
    → Roomy p → SparesArrivals p.layout body → IsLinked p k v.memory start body → AreArrived p v
    → sp_of v ≡ p.sp → FrameHolds p v.locals v.memory b
    → run p.reserved body n number b ≡ Some (last, c) → last < length body
    → get_or body last instructions.Separator ≡ instructions.Compute to o first second
    → step p.reserved (instructions.Compute to o first second) c ≡ Faults code access
    → FaultsAfter p n v (start + offset_of p.layout body number) f
    (start + offset_of p.layout body last + sizes (operands_code p.layout o first second))
    o (c.slots first) (c.slots second) code access c

-- the operation is made again with the same operands, in whatever memory there is by then
abbrev pub FaultsAreRetried : Type 0
FaultsAreRetried =
    (p : FramePlace) (k : Links) (start : ℕ) (body : List Instruction) (number : ℕ)
    (v : MachineView)
    (f : Flags) (b : BodyState)
    (to first second : Slot) (o : Operation) (x y : ℕ)
    → Roomy p → IsLinked p k v.memory start body → number < length body
    → get_or body number instructions.Separator ≡ instructions.Compute to o first second
    → x < 2 ^ 64 → y < 2 ^ 64 → HasOperands o x y v → sp_of v ≡ p.sp
    → FrameHolds p v.locals v.memory b
    → Retried p (start + offset_of p.layout body (suc number)) to o v
    (start + offset_of p.layout body number + sizes (operands_code p.layout o first second)) f b
    (performed p.reserved o x y b.memory)

-- ---- calls

-- a call comes to the callee's first byte, with the first four arguments in their registers and the
-- return address at RSP
abbrev pub CallsBegin : Type 0
CallsBegin =
    (p : FramePlace) (first : ℕ) (v : MachineView) (rip to : ℕ) (f : Flags) (b : BodyState)
    → Roomy p → first + 4 ≤ p.counts.temporaries → sp_of v ≡ p.sp → FrameHolds p v.locals v.memory b
    → HasBelow v.memory p.sp 8
    → IsNear (return_at p.layout first rip) to
    → HasCode v.memory rip (begin_call p.layout first rip to)
    → CallBegun p first v rip to f b

-- the prologue of a plan makes its frame
abbrev pub ProloguesMakeFrames : Type 0
ProloguesMakeFrames =
    (p : FramePlan) (check : ℕ) (e : State) → IsPlan p → IsEntry (depth (operations_of p)) e
    → HasCode e.memory e.cpu.rip (prologue_code p)
    → AreProbed p check e.cpu.rip (turned [] (operations_of p))
    → HasCode e.memory check check_stack
    → MakesFrame p e

-- in it a function brings its arguments to the locals of their numbers
abbrev pub ArgumentsAreKept : Type 0
ArgumentsAreKept =
    (p : FramePlace) (count : ℕ) (arguments : ℕ → ℕ) (v : MachineView) (rip : ℕ) (f : Flags)
    (b : BodyState)
    → Roomy p → IsFunctionFrame p → count ≤ p.counts.locals → sp_of v ≡ p.sp
    → FrameHolds p v.locals v.memory b → InRegisters v arguments
    → OnStack p v.memory count arguments
    → HasCode v.memory rip (parameters_code p.layout 0 count)
    → ReachesBody p (length (parameters_code p.layout 0 count)) (machine v rip f)
    (rip + sizes (parameters_code p.layout 0 count)) v.rest v.locals
    (record { slots = with_arguments b.slots arguments 0 count; memory = b.memory })

-- the epilogue of a plan leaves its frame, where the caller has these registers
abbrev pub EpiloguesLeaveFrames : Type 0
EpiloguesLeaveFrames =
    (p : FramePlan) (old : ℕ → ℕ) (back : ℕ) (s : State) → IsPlan p → old 4 < 2 ^ 47
    → ((r : ℕ) → old r < 2 ^ 64) → length s.cpu.registers ≡ 16
    → HoldsFrame p.frame p.distance s.memory old back (registers s) (operations_of p)
    (operations_of p)
    → HasCode s.memory s.cpu.rip (epilogue p)
    → Returned (length (epilogue p)) s old back (registers s 0)

-- a return leaves the number in RAX and gives the frame back
abbrev pub BodiesReturn : Type 0
BodiesReturn =
    (p : FramePlace) (from : Slot) (v : MachineView) (old : ℕ → ℕ) (back rip : ℕ) (f : Flags)
    (b : BodyState) → let plan = plan_of_layout p.layout 0 in
    Roomy p → IsThere p from → AreArrived p v → sp_of v ≡ p.sp → FrameHolds p v.locals v.memory b
    → IsPlan plan → old 4 < 2 ^ 47 → ((r : ℕ) → old r < 2 ^ 64)
    → HoldsFrame plan.frame plan.distance v.memory old back (registers (machine v rip f))
    (operations_of plan) (operations_of plan)
    → HasCode v.memory rip (return_code p.layout from)
    → Returned (length (return_code p.layout from)) (machine v rip f) old back (b.slots from)

-- ---- bytes

-- no template but that of a return has an instruction with which an epilogue could begin
abbrev pub TemplatesHaveNoEpilogue : Type 0
TemplatesHaveNoEpilogue =
    (k : Links) (y : Layout) (n : Counts) (sp base : ℕ) (at : ℕ) (instruction : Instruction)
    → SlotsHaveRoom y n sp base → HasSlots n instruction → (IsReturn instruction → ⊥)
    → NoEpilogue (template k y at instruction)
