-- What a call and a return reach.
--
-- The main definition: `Returned`.
use Rattle.std.specs.Prelude.{◌≡◌, ◌≢◌, ℕ, ◌+◌, true, length}
use Rattle.x64_machine.specs.Effect.{State}
use Rattle.virtual_unwind.specs.Contexts.{is_nonvolatile}
use Rattle.frame_rules.specs.States.{registers}
use Rattle.x64_machine.specs.declared.cpu.Flags.{Flags}
use Rattle.linear_code.specs.declared.slot.Slot.TheVariants.{Temporary}
use Rattle.linear_code.specs.BodyState.{BodyState}
use Rattle.x64_templates.specs.Straight.{MachineView, machine}
use Rattle.template_code.specs.Calls.{return_at}
use Rattle.x64_templates.specs.CallStates.{with_four, pushed}
use Rattle.x64_templates.specs.Runs.{Reaches, FramePlace}

-- a body is left with this number in RAX: RIP is the return address, RSP is above it, the other
-- nonvolatile registers are the caller's, and no memory has changed
pub record Returned (turns : ℕ) (s : State) (old : ℕ → ℕ) (back x : ℕ) : Type 0 where
  pub after : State
  pub comes : Reaches turns s after
  pub rip : after.cpu.rip ≡ back
  pub stack : registers after 4 ≡ old 4 + 8
  pub kept : (r : ℕ) → is_nonvolatile r ≡ true → r ≢ 4 → registers after r ≡ old r
  pub rax : registers after 0 ≡ x
  pub memory : after.memory ≡ s.memory
  pub count : length after.cpu.registers ≡ 16

-- with its arguments in their registers, and the return address at RSP
pub record CallBegun (p : FramePlace) (first : ℕ) (v : MachineView) (rip to : ℕ) (f : Flags)
    (b : BodyState) : Type 0 where
  pub flags : Flags
  pub comes : Reaches 5 (machine v rip f)
      (machine (pushed (with_four v (b.slots (Temporary first))
      (b.slots (Temporary (first + 1))) (b.slots (Temporary (first + 2)))
      (b.slots (Temporary (first + 3)))) p.sp (return_at p.layout first rip)) to flags)
