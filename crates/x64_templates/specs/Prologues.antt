-- The prologue of a plan is run, and its frame is there.
--
-- The main definition: `MakesFrame`.
use Rattle.std.specs.Prelude.{◌≡◌, ◌≢◌, ◌⊎◌, ℕ, ◌+◌, ◌-◌, ◌*◌, ◌/◌, ◌<◌, ◌≤◌, Bool, true, false, not, ◌&&◌, nat_le, if◌then◌else◌, List, [], ◌∷◌, length}
use Rattle.host_layout.specs.declared.range.TheConstants.{PAGE}
use Rattle.flat_memory.specs.Memory.{Memory}
use Rattle.x64_machine.specs.Effect.{State}
use Rattle.eh_tables.specs.declared.code.UnwindOperation.{UnwindOperation}
use Rattle.eh_tables.specs.declared.code.UnwindOperation.TheVariants.{Push, Allocate, Save}
use Rattle.virtual_unwind.specs.Contexts.{is_nonvolatile}
use Rattle.frame_rules.specs.Bytes.{prologue_code}
use Rattle.frame_rules.specs.Codes.{depth}
use Rattle.frame_rules.specs.Frame.{HoldsFrame}
use Rattle.frame_rules.specs.Plan.{FramePlan, instructions_of, operations_of, turned}
use Rattle.frame_rules.specs.States.{registers, return_address}
use Rattle.template_code.specs.Bytes.{sizes}
use Rattle.template_code.specs.Jumps.{distance, IsNear}
use Rattle.x64_templates.specs.Frames.{IsBytes}
use Rattle.x64_templates.specs.Runs.{Enters}

-- memory that differs in a range alone
pub record Within (lo hi : ℕ) (old new : Memory) : Type 0 where
  pub byte : (a : ℕ) → (a < lo) ⊎ (hi ≤ a) → new.byte a ≡ old.byte a
  pub protection : new.protection ≡ old.protection
  pub bytes : IsBytes old → IsBytes new

-- ---- turns

-- so many instructions are a code's, those of `__chkstk` among them, and those of all: it has four
-- for each page
abbrev pub code_turns : UnwindOperation → ℕ
code_turns (Allocate n) = if nat_le n PAGE then 1 else 8 + 4 * (n / PAGE)
code_turns x = 1

abbrev pub codes_turns : List UnwindOperation → ℕ
codes_turns [] = 0
codes_turns (x ∷ xs) = code_turns x + codes_turns xs

abbrev pub prologue_turns : FramePlan → ℕ
prologue_turns p = codes_turns (turned [] (operations_of p))

-- ---- stores

-- whether its instructions store something: a register, or the return address of `__chkstk`
abbrev pub code_stores : UnwindOperation → Bool
code_stores (Push r) = true
code_stores (Allocate n) = not (nat_le n PAGE)
code_stores (Save r n) = true
code_stores x = false

abbrev pub none_stores : List UnwindOperation → Bool
none_stores [] = true
none_stores (x ∷ xs) = not (code_stores x) && none_stores xs

-- ---- `__chkstk`

-- a large allocation at this address calls it
abbrev pub IsProbed : FramePlan → (check at : ℕ) → UnwindOperation → Type 0
IsProbed p check at (Allocate n) =
    nat_le n PAGE ≡ false → (p.probe ≡ distance (at + 10) check) × IsNear (at + 10) check
IsProbed p check at x = Unit {0}

-- so do those of codes in the order of execution
abbrev pub AreProbed : FramePlan → (check at : ℕ) → List UnwindOperation → Type 0
AreProbed p check at [] = Unit {0}
AreProbed p check at (x ∷ xs) =
    IsProbed p check at x × AreProbed p check (at + sizes (instructions_of p x)) xs

-- ---- the frame

-- e: at the first byte. In memory the frame alone has changed, nothing where no code stores, and of
-- the volatile registers RAX, R10 and R11, which `__chkstk` takes
pub record MakesFrame (p : FramePlan) (e : State) : Type 0 where
  pub following : State
  pub comes : Enters e.cpu.rip (e.cpu.rip + sizes (prologue_code p)) (prologue_turns p) e following
  pub rip : following.cpu.rip ≡ e.cpu.rip + sizes (prologue_code p)
  pub count : length following.cpu.registers ≡ 16
  pub holds : HoldsFrame p.frame p.distance following.memory (registers e) (return_address e)
      (registers following) (operations_of p) (operations_of p)
  pub volatile : (r : ℕ) → is_nonvolatile r ≡ false → r ≢ 0 → r ≢ 10 → r ≢ 11
      → registers following r ≡ registers e r
  pub within : Within (registers e 4 - depth (operations_of p)) (registers e 4) e.memory
      following.memory
  pub same : none_stores (operations_of p) ≡ true → following.memory ≡ e.memory
