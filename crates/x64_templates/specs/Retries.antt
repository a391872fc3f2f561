-- A fault of a body, and the operation made again after it.
use Rattle.std.specs.Prelude.{◌≡◌, ℕ, ◌+◌, ◌*◌, ◌≤◌, Bool, Option, Err, length}
use Rattle.seh_num.specs.declared.event.Code.{Code}
use Rattle.x64_machine.specs.declared.cpu.Flags.{Flags}
use Rattle.x64_machine.specs.declared.outcome.Stop.TheVariants as stops
use Rattle.x64_machine.specs.Effect as machines
use Rattle.c_operations.specs.declared.operation.Operation.{Operation}
use Rattle.c_operations.specs.Performed.{OperationResult, Gives, Raises, Undefined}
use Rattle.linear_code.specs.declared.slot.Slot.{Slot}
use Rattle.linear_code.specs.BodyState.{BodyState, with_slot}
use Rattle.x64_templates.specs.Straight.{MachineView, machine}
use Rattle.template_code.specs.Slots.{finish_code}
use Rattle.x64_templates.specs.Implements.{HasOperands}
use Rattle.x64_templates.specs.Frames.{KeepsUnused}
use Rattle.x64_templates.specs.Runs.{Reaches, FramePlace, FrameHolds, ChangesOwn, ReachesBody}

-- n instructions of a body, and then one that faults: the run comes to the instruction of the
-- machine that does
pub record FaultsAfter (p : FramePlace) (n : ℕ) (v : MachineView) (rip : ℕ) (f : Flags) (at : ℕ)
    (o : Operation) (first second : ℕ) (code : Code) (access : Option (Bool × ℕ))
    (b : BodyState) : Type 0 where
  pub turns : ℕ
  pub least : n ≤ turns
  pub most : turns ≤ 16 * n + 16
  pub stopped : MachineView
  pub left : Flags
  pub comes : Reaches turns (machine v rip f) (machine stopped at left)
  pub waits : HasOperands o first second stopped
  pub rest : stopped.rest ≡ v.rest
  pub locals : KeepsUnused p.layout v.locals stopped.locals
  pub holds : FrameHolds p stopped.locals stopped.memory b
  pub changes : ChangesOwn p v.memory stopped.memory
  pub fault : machines.step (machine stopped at left) ≡ Err (stops.Fault code access)

-- made again, with the same operands, on whatever the body holds by then: on to the next
-- instruction, or the fault again
abbrev pub Retried : FramePlace → ℕ → Slot → Operation → MachineView → ℕ → Flags → BodyState
    → OperationResult
    → Type 0
Retried p next to o v at f b (Gives x m) =
    ReachesBody p (length (finish_code p.layout o to)) (machine v at f) next v.rest v.locals
    (record { slots = with_slot b.slots to x; memory = m })
Retried p next to o v at f b (Raises code access) =
    machines.step (machine v at f) ≡ Err (stops.Fault code access)
Retried p next to o v at f b (Undefined a) = Unit {0}
