-- A filter or a `__finally` block shares the locals of its activation.
use Rattle.std.proofs.Common.{◌≡◌, ℕ, ◌+◌, ◌%◌, ◌^◌, ◌<◌, ◌≤◌, true, Some, None, ◌∙◌, arith}
use Rattle.x64_templates.specs.Words.{Memory, may_write, first_refused, number_at, Rdx, MachineView, Executes, keep_base, sp_of, MemoryKeepsBase}
use Rattle.x64_templates.proofs.Lemmas.{stored_is_loaded}
use Rattle.x64_templates.proofs.PlacedCode.{all_may}
use Rattle.x64_templates.proofs.Parameters.{kept_at, keeps_register}

-- ---- the base is kept where the block begins

-- the place in which it is kept
pub record HasCell (m : Memory) (at : ℕ) : Type 0 where
  pub high : at + 8 < 2 ^ 63
  pub writable : (a : ℕ) → at ≤ a → a < at + 8 → may_write m a ≡ true

kept_number : (v : MachineView) (at x : ℕ) → at + 8 < 2 ^ 63 → x < 2 ^ 64
    → number_at (kept_at v at x).memory.byte 8 at ≡ x
kept_number v at x high lt = stored_is_loaded v.memory.byte 8 at x (omega arith) (omega arith)
    ∙ (let q : x % 256 ^ 8 ≡ x = omega arith in q)

cell_may : (m : Memory) (at : ℕ) → HasCell m at → first_refused (may_write m) 8 at ≡ None
cell_may m at c = let h = c.high in all_may (may_write m) 8 at (omega arith)
    (λ a p q. c.writable a p q)

pub keeps_of_cell : (v : MachineView) (sp b base : ℕ) → HasCell v.memory (sp + b) → base < 2 ^ 64
    → MemoryKeepsBase (Some b) sp base (kept_at v (sp + b) base).memory
keeps_of_cell v sp b base c lt = (
  kept_number v (sp + b) base c.high lt,
  λ a p q. c.writable a p (omega arith),
)

-- RDX is the base
pub base_kept : (v : MachineView) (sp b base : ℕ) → sp_of v ≡ sp → v.rdx ≡ base → base < 2 ^ 64
    → HasCell v.memory (sp + b) → Executes (keep_base b) v (kept_at v (sp + b) base)
base_kept v sp b base at is lt c = let h = c.high in
    keeps_register Rdx v b (sp + b) base is (let e : (sp_of v + 0 + b) % 2 ^ 64
    ≡ sp + b = omega arith in e) (cell_may v.memory (sp + b) c) lt

-- ---- from the function's body to the block's: its locals, and the temporaries in the block's own
-- frame
