-- The prologue of a frame above a page calls `__chkstk`, and the machine's own run of its bytes is
-- a call that is taken whole (Microsoft x64 ABI, "Prolog and epilog").
--
-- The main definition: `ProbesComeBack`.
use Rattle.std.specs.Prelude.{◌≡◌, ℕ, ◌+◌, ◌*◌, ◌/◌, ◌^◌, ◌<◌, ◌≤◌, true, [], ◌∷◌, length}
use Rattle.host_layout.specs.declared.range.TheConstants.{PAGE}
use Rattle.flat_memory.specs.Memory.{may_write}
use Rattle.x64_machine.specs.Effect.{State}
use Rattle.frame_rules.specs.States.{registers, Called}
use Rattle.template_code.specs.Jumps.{call, IsNear}
use Rattle.template_code.specs.Probing.{check_stack}
use Rattle.x64_templates.specs.Runs.{Reaches, HasCode}

-- where a prologue calls `__chkstk`: RAX has the bytes of a frame, at least a page of them, which
-- are below RSP and may be written, as at a function's first byte (`IsEntry`)
pub record IsAtProbe (n : ℕ) (s : State) : Type 0 where
  pub length : length s.cpu.registers ≡ 16
  pub size : registers s 0 ≡ n
  pub page : PAGE ≤ n
  pub low : n ≤ registers s 4
  pub high : registers s 4 < 2 ^ 47
  pub writable : (a : ℕ) → registers s 4 ≤ a + n → a < registers s 4
      → may_write s.memory a ≡ true

-- the call comes to the first byte of `__chkstk`, and so many instructions later back to the byte
-- after its own five
pub record ComesBack (check turns : ℕ) (s : State) : Type 0 where
  pub entered : State
  pub enters : Reaches 1 s entered
  pub first : entered.cpu.rip ≡ check
  pub to : State
  pub comes : Reaches turns entered to
  pub rip : to.cpu.rip ≡ s.cpu.rip + 5
  pub called : Called s to

-- five instructions, and four for each page
abbrev pub probe_turns : ℕ → ℕ
probe_turns n = 5 + 4 * (n / PAGE)

-- a call of `__chkstk`, from each state with room for the frame
abbrev pub ProbesComeBack : Type 0
ProbesComeBack =
    (n check : ℕ) (s : State) → IsAtProbe n s
    → HasCode s.memory s.cpu.rip (call (s.cpu.rip + 5) check ∷ []) → IsNear (s.cpu.rip + 5) check
    → HasCode s.memory check check_stack → ComesBack check (probe_turns n) s
