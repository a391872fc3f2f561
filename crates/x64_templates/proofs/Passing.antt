-- What a caller passes is what the callee finds.
use Rattle.std.proofs.Common.{◌≡◌, ℕ, ◌+◌, refl, ap, arith}
use Rattle.x64_templates.specs.Words.{Temporary, BodyState, MachineView, return_at, with_four, pushed, InRegisters, FramePlace, passed}

-- the callee's view: the first four arguments in registers, and the return address pushed
abbrev pub called_view : FramePlace → ℕ → MachineView → ℕ → BodyState → MachineView
called_view p first v rip b = pushed (with_four v (b.slots (Temporary first))
    (b.slots (Temporary (first + 1))) (b.slots (Temporary (first + 2)))
    (b.slots (Temporary (first + 3)))) p.sp (return_at p.layout first rip)

-- the first four, in registers
pub passed_in_registers : (p : FramePlace) (first : ℕ) (v : MachineView) (rip : ℕ) (b : BodyState)
    → InRegisters (called_view p first v rip b) (passed b.slots first)
passed_in_registers p first v rip b =
    let zero_more : first ≡ first + 0 = omega arith in
    record {
      first = ap (λ (i : ℕ). b.slots (Temporary i)) zero_more;
      second = refl;
      third = refl;
      fourth = refl;
    }
