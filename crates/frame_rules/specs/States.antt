-- The states in which the caller of a function's frame is promised.
use Rattle.std.specs.Prelude.{◌≡◌, ◌≢◌, ◌⊎◌, ℕ, ◌+◌, ◌%◌, ◌^◌, ◌<◌, ◌≤◌, Bool, true, false, ◌&&◌, ◌||◌, List, [], ◌∷◌, length, Option, Some, Ok, slice_index}
use Rattle.flat_memory.specs.Memory.{Memory, may_read, may_write, number_at}
use Rattle.x64_machine.specs.Effect.{State, with_rip, effect}
use Rattle.eh_tables.specs.declared.code.UnwindOperation.{UnwindOperation}
use Rattle.eh_tables.specs.declared.code.UnwindOperation.TheVariants.{Push, Allocate, Save}
use Rattle.virtual_unwind.specs.Contexts.{is_nonvolatile}
use Rattle.virtual_unwind.specs.declared.tail.Role.{Role}
use Rattle.virtual_unwind.specs.declared.tail.Role.TheVariants.{Opens, Restores, Other}
use Rattle.virtual_unwind.specs.Tail.{FetchedInstr, fetched_at, role_of}
use Rattle.frame_rules.specs.Prologue.{is_call}
use Rattle.frame_rules.specs.Body.{written, has, restored_by}

abbrev pub registers : State → ℕ → ℕ
registers s r = slice_index s.cpu.registers r

-- ---- instructions that are run

-- a call that has returned, of a function that keeps RAX and what is from RSP up: `__chkstk`
pub record Called (s : State) (u : State) : Type 0 where
  pub length : length u.cpu.registers ≡ 16
  pub kept : (r : ℕ) → (is_nonvolatile r ≡ true) ⊎ (r ≡ 0) → registers u r ≡ registers s r
  pub protection : u.memory.protection ≡ s.memory.protection
  pub byte : (a : ℕ) → registers s 4 ≤ a → u.memory.byte a ≡ s.memory.byte a

abbrev pub RunsOne : State → FetchedInstr → State → Bool → Type 0
RunsOne s x u true = Called s u
RunsOne s x u false = effect (with_rip s ((s.cpu.rip + x.size) % 2 ^ 64)) x.instr ≡ Ok u

-- from one state to another, calls taken whole
abbrev pub RunsThrough : State → List FetchedInstr → State → Type 0
RunsThrough s [] t = s ≡ t
RunsThrough s (x ∷ xs) t = (u : State) × RunsOne s x u (is_call x.instr) × RunsThrough u xs t

-- ---- a function's first byte

-- RSP is low, and so many bytes below it may be written; the return address may be read
pub record IsEntry (room : ℕ) (e : State) : Type 0 where
  pub length : length e.cpu.registers ≡ 16
  pub fits : (r : ℕ) → registers e r < 2 ^ 64
  pub high : registers e 4 < 2 ^ 47
  pub low : room ≤ registers e 4
  pub writable : (a : ℕ) → registers e 4 ≤ a + room → a < registers e 4
      → may_write e.memory a ≡ true
  pub readable : (a : ℕ) → registers e 4 ≤ a → a < registers e 4 + 8 → may_read e.memory a ≡ true

abbrev pub return_address : State → ℕ
return_address e = number_at e.memory.byte 8 (registers e 4)

-- ---- the body

-- the bytes of a word are what they were, and may be read
abbrev pub KeepsWord : Memory → Memory → ℕ → Type 0
KeepsWord m n at = (a : ℕ) → at ≤ a → a < at + 8 → (may_read n a ≡ true) × (n.byte a ≡ m.byte a)

-- so are the return address and the words that the prologue's pushes and movs wrote
abbrev pub KeepsWords : Memory → Memory → ℕ → ℕ → List UnwindOperation → Type 0
KeepsWords m n base at [] = KeepsWord m n at
KeepsWords m n base at (Push r ∷ xs) = KeepsWord m n at × KeepsWords m n base (at + 8) xs
KeepsWords m n base at (Allocate k ∷ xs) = KeepsWords m n base (at + k) xs
KeepsWords m n base at (Save r k ∷ xs) = KeepsWord m n (base + k) × KeepsWords m n base at xs
KeepsWords m n base at (x ∷ xs) = KeepsWords m n base at xs

abbrev pub is_other : Role → Bool
is_other Other = true
is_other r = false

-- what an epilogue has before its end
abbrev pub is_leaving : Role → Bool
is_leaving Opens = true
is_leaving Restores = true
is_leaving r = false

-- whether the body writes a register
abbrev pub writes : ℕ → ℕ → FetchedInstr → Bool
writes f r x = is_other (role_of f x.plain x.instr) && has r (written x.instr)

abbrev pub is_written : ℕ → ℕ → List FetchedInstr → Bool
is_written f r [] = false
is_written f r (x ∷ xs) = writes f r x || is_written f r xs

-- p: the state after the prologue
pub record InBody (f : ℕ) (ops : List UnwindOperation) (rest : List FetchedInstr)
    (e p s : State) : Type 0 where
  pub length : length s.cpu.registers ≡ 16
  pub stack : registers s 4 ≡ registers p 4
  pub frame : f ≢ 0 → registers s f ≡ registers p f
  pub words : KeepsWords p.memory s.memory (registers p 4) (registers p 4) ops
  pub others : (r : ℕ) → is_nonvolatile r ≡ true → r ≢ 4 → r ≢ f → is_written f r rest ≡ false
      → registers s r ≡ registers e r

-- ---- the epilogue

abbrev pub is_some : Option ℕ → Bool
is_some (Some r) = true
is_some o = false

-- the loads of saved registers, and the instructions of epilogues before their ends
abbrev pub leaves : ℕ → ℕ → List UnwindOperation → FetchedInstr → Bool
leaves f offset ops x =
    is_some (restored_by f offset ops x.instr) || is_leaving (role_of f x.plain x.instr)

abbrev pub all_leave : ℕ → ℕ → List UnwindOperation → List FetchedInstr → Bool
all_leave f offset ops [] = true
all_leave f offset ops (x ∷ xs) = leaves f offset ops x && all_leave f offset ops xs

-- ---- instructions in memory

-- from this address to that one are these instructions
abbrev pub HasItems : Memory → ℕ → List FetchedInstr → ℕ → Type 0
HasItems m at [] to = at ≡ to
HasItems m at (x ∷ xs) to =
    (fetched_at m at ≡ Some x) × (0 < x.size) × HasItems m (at + x.size) xs to
