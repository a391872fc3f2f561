-- What the instructions past the prologue are to be: one after another they lead from mode to mode.
use Rattle.std.specs.Prelude.{ℕ, Bool, true, false, not, ◌==◌, ◌&&◌, ◌||◌, if◌then◌else◌, List, [], ◌∷◌, Option, Some, None}
use Rattle.seh_num.specs.declared.width.Width.TheVariants.{W64}
use Rattle.x64_instr.specs.declared.operand.RegisterOrMemory.TheVariants as places
use Rattle.x64_instr.specs.declared.operand.MemRef.{MemRef}
use Rattle.x64_instr.specs.declared.operand.Operand.TheVariants as operands
use Rattle.x64_instr.specs.declared.instruction.Instr.{Instr}
use Rattle.x64_instr.specs.declared.instruction.Instr.TheVariants as instrs
use Rattle.x64_instr.specs.Registers.{number}
pub use Rattle.x64_instr.specs.Written.{written_place, written}
use Rattle.eh_tables.specs.declared.code.UnwindOperation.{UnwindOperation}
use Rattle.eh_tables.specs.declared.code.UnwindOperation.TheVariants.{Save}
use Rattle.virtual_unwind.specs.Contexts.{is_nonvolatile}
use Rattle.virtual_unwind.specs.declared.tail.Role.{Role}
use Rattle.virtual_unwind.specs.declared.tail.Role.TheVariants.{Opens, Ends, Other}
use Rattle.virtual_unwind.specs.Tail.{FetchedInstr, role_of}
use Rattle.frame_rules.specs.Codes.{allocation, pushes, is_saved}
use Rattle.frame_rules.specs.Epilogue.{is_pop, gives_back}
pub use Rattle.frame_rules.specs.Prologue.{is_place}

-- ---- calls, and what may be written

abbrev pub is_a_call : Instr → Bool
is_a_call (instrs.Call to) = true
is_a_call i = false

abbrev pub has : ℕ → List ℕ → Bool
has r [] = false
has r (q ∷ qs) = (q == r) || has r qs

-- neither RSP nor the frame register, and no nonvolatile register that isn't saved
abbrev pub may_write : ℕ → List UnwindOperation → ℕ → Bool
may_write f ops r =
    not (r == 4) && (((f == 0) || not (r == f)) && (not (is_nonvolatile r) || is_saved r ops))

abbrev pub may_write_all : ℕ → List UnwindOperation → List ℕ → Bool
may_write_all f ops [] = true
may_write_all f ops (r ∷ rs) = may_write f ops r && may_write_all f ops rs

-- ---- saved registers loaded

abbrev pub saved_by : ℕ → Option ℕ → UnwindOperation → Option ℕ
saved_by r others (Save q n) = if q == r then Some n else others
saved_by r others x = others

-- where a register is saved by a mov
abbrev pub saved_at : ℕ → List UnwindOperation → Option ℕ
saved_at r [] = None
saved_at r (x ∷ xs) = saved_by r (saved_at r xs) x

abbrev pub if_place : ℕ → ℕ → MemRef → ℕ → Option ℕ → Option ℕ
if_place f offset a r None = None
if_place f offset a r (Some n) = if is_place f offset n a then Some r else None

-- the register that an instruction loads from its place
abbrev pub restored_by : ℕ → ℕ → List UnwindOperation → Instr → Option ℕ
restored_by f offset ops (instrs.Move W64 (places.Register q) (operands.Memory a)) =
    if_place f offset a (number q) (saved_at (number q) ops)
restored_by f offset ops x = None

-- those that the instructions straight before have loaded
abbrev pub with_restored : List ℕ → Option ℕ → List ℕ
with_restored rs None = []
with_restored rs (Some r) = r ∷ rs

abbrev pub is_restored : List ℕ → UnwindOperation → Bool
is_restored rs (Save r n) = has r rs
is_restored rs x = true

abbrev pub are_restored : List ℕ → List UnwindOperation → Bool
are_restored rs [] = true
are_restored rs (x ∷ xs) = is_restored rs x && are_restored rs xs

-- ---- modes

-- in the body, after the loads of these registers; or in an epilogue, with these registers still to
-- be popped
pub data Mode : Type 0 where
  Body : List ℕ → Mode
  Leaving : List ℕ → Mode

abbrev pub only_if : Option Mode → Bool → Option Mode
only_if m true = m
only_if m false = None

abbrev pub is_ends : Role → Bool
is_ends Ends = true
is_ends r = false

abbrev pub leaving : ℕ → List ℕ → FetchedInstr → Option Mode
leaving f [] x = only_if (Some (Body [])) (is_ends (role_of f x.plain x.instr))
leaving f (r ∷ rs) x = only_if (Some (Leaving rs)) (is_pop r x.instr)

-- the mode after an instruction of the body, by what it is to an epilogue
abbrev pub from_body : ℕ → ℕ → List UnwindOperation → List ℕ → FetchedInstr → Role → Option Mode
from_body f offset ops rs x Other =
    only_if (Some (Body (with_restored rs (restored_by f offset ops x.instr))))
    (may_write_all f ops (written x.instr))
from_body f offset ops rs x Opens =
    only_if (Some (Leaving (pushes ops)))
    (are_restored rs ops && gives_back f offset (allocation ops) x.instr)
from_body f offset ops rs x r =
    only_if (leaving f (pushes ops) x) (are_restored rs ops && (allocation ops == 0))

abbrev pub next : ℕ → ℕ → List UnwindOperation → FetchedInstr → Mode → Option Mode
next f offset ops x (Body rs) = from_body f offset ops rs x (role_of f x.plain x.instr)
next f offset ops x (Leaving rs) = leaving f rs x

-- the mode after instructions
abbrev pub and_then : (Mode → Option Mode) → Option Mode → Option Mode
and_then f None = None
and_then f (Some m) = f m

abbrev pub following : ℕ → ℕ → List UnwindOperation → List FetchedInstr → Mode → Option Mode
following f offset ops [] m = Some m
following f offset ops (x ∷ xs) m = and_then (following f offset ops xs) (next f offset ops x m)

-- a function doesn't end inside an epilogue
abbrev pub is_body : Option Mode → Bool
is_body (Some (Body rs)) = true
is_body m = false
