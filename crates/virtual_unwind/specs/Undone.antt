-- What undoing unwind codes makes of a context (Microsoft x64 ABI, "Unwind operation code").
--
-- The main definition: `undone`.
use Rattle.std.specs.Prelude.{ℕ, ◌+◌, ◌-◌, ◌*◌, ◌%◌, ◌^◌, Bool, true, false, List, [], ◌∷◌, map, Result, Ok, Err}
use Rattle.seh_num.specs.declared.width.Width.TheVariants.{W64}
use Rattle.flat_memory.specs.declared.access.RefusedAccess.{RefusedAccess}
use Rattle.flat_memory.specs.Memory.{Memory, loaded}
use Rattle.seh_num.specs.Answers.{◌>>=◌}
use Rattle.x64_machine.specs.declared.context.Context.{Context}
use Rattle.eh_tables.specs.declared.code.UnwindOperation.{UnwindOperation}
use Rattle.eh_tables.specs.declared.code.UnwindOperation.TheVariants.{Push, Allocate, SetFrame, Save, SaveVector, MachineFrame}
use Rattle.eh_tables.specs.declared.code.UnwindCode.{UnwindCode}
use Rattle.eh_tables.specs.Infos.{Info}
use Rattle.virtual_unwind.specs.declared.refusal.UnwindErr.{UnwindErr}
use Rattle.virtual_unwind.specs.declared.refusal.UnwindErr.TheVariants.{Unreadable}
use Rattle.virtual_unwind.specs.Contexts.{get, set, rsp, with_rsp, rsp_raised}

abbrev pub Answer : Type 0 → Type 0
Answer A = Result A UnwindErr

-- a word of the stack
abbrev pub readable : ℕ → Result ℕ RefusedAccess → Answer ℕ
readable at (Ok v) = Ok v
readable at (Err a) = Err (Unreadable at)

abbrev pub word : Memory → ℕ → Answer ℕ
word m at = readable at (loaded m at W64)

-- the base of the fixed allocation, by the frame register
abbrev pub below_frame : Info → Context → ℕ
below_frame i c = (get c i.frame_register + (2 ^ 64 - i.frame_offset)) % 2 ^ 64

-- a context on the way, and whether RIP is the caller's already
pub record Undo : Type 0 where
  pub context : Context
  pub is_returned : Bool

abbrev pub going : Undo → Context → Answer Undo
going u c = Ok (record { context = c; is_returned = u.is_returned })

-- one code undone. base: the establisher frame
abbrev pub undone_one : Memory → ℕ → Info → Undo → UnwindOperation → Answer Undo
undone_one m base i u (Push r) =
    word m (rsp u.context) >>= λ v. going u (rsp_raised (set u.context r v) 8)
undone_one m base i u (Allocate n) = going u (rsp_raised u.context n)
undone_one m base i u SetFrame = going u (with_rsp u.context (below_frame i u.context))
undone_one m base i u (Save r n) = word m ((base + n) % 2 ^ 64) >>= λ v. going u (set u.context r v)
undone_one m base i u (SaveVector r n) = Ok u
undone_one m base i u (MachineFrame e) = do
  rip ← word m ((rsp u.context + 8 * e) % 2 ^ 64)
  stack ← word m ((rsp u.context + 8 * e + 24) % 2 ^ 64)
  Ok (record { context = with_rsp (record u.context { rip = rip }) stack; is_returned = true })

abbrev pub operations : List UnwindCode → List UnwindOperation
operations codes = map (λ c. c.operation) codes

-- what undoing the unwind codes of an info makes of a context, code by code (Microsoft x64 ABI,
-- "Unwind procedure", "Unwind operation code"). From the last instruction of a prologue to its
-- first.
abbrev pub undone : Memory → ℕ → Info → List UnwindOperation → Undo → Answer Undo
undone m base i [] u = Ok u
undone m base i (x ∷ xs) u = undone_one m base i u x >>= undone m base i xs

-- the parents' codes whole, from the same base
abbrev pub all_undone : Memory → ℕ → List Info → Undo → Answer Undo
all_undone m base [] u = Ok u
all_undone m base (i ∷ is) u = undone m base i (operations i.codes) u >>= all_undone m base is

-- the return address popped
abbrev pub popped : Memory → Context → Answer Context
popped m c = word m (rsp c) >>= λ v. Ok (rsp_raised (record c { rip = v }) 8)

abbrev pub returned_or : Memory → Context → Bool → Answer Context
returned_or m c true = Ok c
returned_or m c false = popped m c

abbrev pub returned : Memory → Undo → Answer Context
returned m u = returned_or m u.context u.is_returned
