-- From a function's first byte its frame is made, by the prologue of its plan.
use Rattle.std.proofs.Common.{◌≡◌, ℕ, ◌+◌, ◌-◌, true, [], refl, sym, subst, ◌∙◌, arith}
use Rattle.match_turns.specs.Words.{Flags, sizes, check_stack, MachineView, machine, sp_of, InRegisters, HasCode, Enters, seen_by_templates}
use Rattle.frame_rules.specs.Bytes.{prologue_code}
use Rattle.frame_rules.specs.Codes.{depth}
use Rattle.frame_rules.specs.Plan.{FramePlan, IsPlan, operations_of, turned}
use Rattle.frame_rules.specs.States.{IsEntry, registers, return_address}
use Rattle.frame_rules.proofs.Undoing.{stack_depth}
use Rattle.x64_templates.specs.Prologues.{AreProbed, Within, none_stores, prologue_turns}
use Rattle.x64_templates.proofs.PrologueRuns.{prologue_run}
use Rattle.match_turns.proofs.Lemmas.{is_machine}

-- after so many turns RSP is the frame's, arguments are where they were, and memory has changed at
-- most in the frame
pub record Made (v : MachineView) (target to : ℕ) (f : Flags) (top sp : ℕ) (arguments : ℕ → ℕ)
    (n : ℕ) : Type 0 where
  pub after : MachineView
  pub flags : Flags
  pub comes : Enters target to n (machine v target f) (machine after to flags)
  pub stack : sp_of after ≡ sp
  pub registers : InRegisters after arguments
  pub within : Within sp top v.memory after.memory

-- a frame that is made, as templates see it
pub record MadeView (p : FramePlan) (v : MachineView) (target : ℕ) (f : Flags) : Type 0 where
  pub after : MachineView
  pub flags : Flags
  pub comes : Enters target (target + sizes (prologue_code p)) (prologue_turns p)
      (machine v target f) (machine after (target + sizes (prologue_code p)) flags)
  pub stack : sp_of after + depth (operations_of p) ≡ registers (machine v target f) 4
  pub rcx : after.rcx ≡ v.rcx
  pub rdx : after.rdx ≡ v.rdx
  pub r8 : after.rest.r8 ≡ v.rest.r8
  pub r9 : after.rest.r9 ≡ v.rest.r9
  pub within : Within (registers (machine v target f) 4 - depth (operations_of p))
      (registers (machine v target f) 4) v.memory after.memory
  pub same : none_stores (operations_of p) ≡ true → after.memory ≡ v.memory

pub made_view : (p : FramePlan) (check : ℕ) (v : MachineView) (target : ℕ) (f : Flags) → IsPlan p
    → IsEntry (depth (operations_of p)) (machine v target f)
    → HasCode v.memory target (prologue_code p)
    → AreProbed p check target (turned [] (operations_of p))
    → HasCode v.memory check check_stack → MadeView p v target f
made_view p check v target f is_plan entry code probed checks =
    let e = machine v target f in
    let m = prologue_run p check e is_plan entry code probed checks in
    let u = m.following in
    let w = seen_by_templates u in
    let is : u ≡ machine w (target + sizes (prologue_code p)) u.cpu.flags = is_machine u m.count
    ∙ (λ i. machine w (m.rip i) u.cpu.flags) in
    let d = stack_depth u.memory (registers e) (return_address e) (registers u 4)
    (registers u 4) (operations_of p) m.holds.stack in
    record {
      after = w;
      flags = u.cpu.flags;
      comes = subst (Enters target (target + sizes (prologue_code p)) (prologue_turns p) e) is
          m.comes;
      stack = d;
      rcx = m.volatile 1 refl (λ z. absurd (omega arith)) (λ z. absurd (omega arith))
          (λ z. absurd (omega arith));
      rdx = m.volatile 2 refl (λ z. absurd (omega arith)) (λ z. absurd (omega arith))
          (λ z. absurd (omega arith));
      r8 = m.volatile 8 refl (λ z. absurd (omega arith)) (λ z. absurd (omega arith))
          (λ z. absurd (omega arith));
      r9 = m.volatile 9 refl (λ z. absurd (omega arith)) (λ z. absurd (omega arith))
          (λ z. absurd (omega arith));
      within = m.within;
      same = m.same;
    }

module _ (v : MachineView) (target : ℕ) (f : Flags) (top : ℕ) (arguments : ℕ → ℕ)
    (at : sp_of v ≡ top) (regs : InRegisters v arguments) where
  -- where its codes lead so far down
  pub planned_frame : (p : FramePlan) (check frame : ℕ) → IsPlan p
      → depth (operations_of p) ≡ frame → IsEntry frame (machine v target f)
      → HasCode v.memory target (prologue_code p)
      → AreProbed p check target (turned [] (operations_of p))
      → HasCode v.memory check check_stack
      → Made v target (target + sizes (prologue_code p)) f top (top - frame) arguments
      (prologue_turns p)
  planned_frame p check frame is_plan deep entry code probed checks =
      let m = made_view p check v target f is_plan
      (subst (λ k. IsEntry k (machine v target f)) (sym deep) entry) code probed checks in
      let at' : registers (machine v target f) 4 ≡ top = at in
      let lower : registers (machine v target f) 4 - depth (operations_of p) ≡ top - frame = omega
      (arith, at', deep) in
      record {
        after = m.after;
        flags = m.flags;
        comes = m.comes;
        stack = omega (arith, m.stack, at', deep);
        registers = record {
          first = m.rcx ∙ regs.first;
          second = m.rdx ∙ regs.second;
          third = m.r8 ∙ regs.third;
          fourth = m.r9 ∙ regs.fourth;
        };
        within = subst (λ lo. Within lo top v.memory m.after.memory) lower
            (subst (λ hi. Within (registers (machine v target f) 4 - depth (operations_of p)) hi
            v.memory m.after.memory) at' m.within);
      }
