-- What is in a frame, from RSP up to the return address. Registers are functions from their
-- numbers; old: those at the function's first byte.
use Rattle.std.specs.Prelude.{◌≡◌, ◌≢◌, ℕ, ◌+◌, ◌^◌, ◌≤◌, true, false, List, [], ◌∷◌, None}
use Rattle.flat_memory.specs.Memory.{Memory, first_refused, may_read, number_at}
use Rattle.x64_machine.specs.declared.context.Context.{Context}
use Rattle.eh_tables.specs.declared.code.UnwindOperation.{UnwindOperation}
use Rattle.eh_tables.specs.declared.code.UnwindOperation.TheVariants.{Push, Allocate, SetFrame, Save}
use Rattle.virtual_unwind.specs.Contexts.{is_nonvolatile}
use Rattle.frame_rules.specs.Codes.{is_saved}

-- a word that may be read
pub record IsWord (m : Memory) (at v : ℕ) : Type 0 where
  pub readable : first_refused (may_read m) 8 at ≡ None
  pub value : number_at m.byte 8 at ≡ v
  pub high : at + 8 ≤ 2 ^ 64

-- What the instructions of the codes have left in memory: from this address up the pushed registers
-- and the return address, and above the base the saved registers.
abbrev pub Stack : Memory → (ℕ → ℕ) → ℕ → ℕ → ℕ → List UnwindOperation → Type 0
Stack m old back base at [] = (at ≡ old 4) × IsWord m at back
Stack m old back base at (Push r ∷ xs) = IsWord m at (old r) × Stack m old back base (at + 8) xs
Stack m old back base at (Allocate n ∷ xs) = Stack m old back base (at + n) xs
Stack m old back base at (SetFrame ∷ xs) = Stack m old back base at xs
Stack m old back base at (Save r n ∷ xs) = IsWord m (base + n) (old r) × Stack m old back base at xs
Stack m old back base at (x ∷ xs) = ⊥

-- the frame register f is so far above what RSP was where it was set
abbrev pub Framed : ℕ → ℕ → (ℕ → ℕ) → ℕ → List UnwindOperation → Type 0
Framed f offset now at [] = Unit {0}
Framed f offset now at (Push r ∷ xs) = Framed f offset now (at + 8) xs
Framed f offset now at (Allocate n ∷ xs) = Framed f offset now (at + n) xs
Framed f offset now at (SetFrame ∷ xs) = (now f ≡ at + offset) × Framed f offset now at xs
Framed f offset now at (x ∷ xs) = Framed f offset now at xs

-- the nonvolatile registers that these codes don't save are those of old
abbrev pub Others : (ℕ → ℕ) → (ℕ → ℕ) → List UnwindOperation → Type 0
Others old now xs =
    (r : ℕ) → is_nonvolatile r ≡ true → r ≢ 4 → is_saved r xs ≡ false → now r ≡ old r

-- a state between a prologue's begin and an epilogue's end: the codes are those of the instructions
-- that have been run and not undone; of these codes `left` are those whose registers haven't been
-- restored
pub record HoldsFrame (f offset : ℕ) (m : Memory) (old : ℕ → ℕ) (back : ℕ) (now : ℕ → ℕ)
    (codes left : List UnwindOperation) : Type 0 where
  pub stack : Stack m old back (now 4) (now 4) codes
  pub framed : Framed f offset now (now 4) codes
  pub others : Others old now left

-- the caller's context: RSP above the return address, and the other nonvolatile registers
abbrev pub left_to : (ℕ → ℕ) → ℕ → Context
left_to old back =
    record {
      rip = back;
      kept = (old 4 + 8) ∷ old 3 ∷ old 5 ∷ old 6 ∷ old 7 ∷ old 12 ∷ old 13
          ∷ old 14 ∷ old 15 ∷ [];
    }
