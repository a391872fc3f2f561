-- An entry by hand, and states of it: in the prologue, in the body and in the epilogue. The
-- function is push rbx; sub rsp,32; xor eax,eax; add rsp,32; pop rbx; ret.
use Rattle.std.specs.Prelude.{◌≡◌, ℕ, ◌+◌, ◌%◌, ◌^◌, true, false, List, [], ◌∷◌, ◌++◌, length, Option, Some, None, Result, Ok, Err}
use Rattle.flat_memory.specs.declared.protection.Rights.TheVariants.{ReadWrite}
use Rattle.flat_memory.specs.Memory.{Memory}
use Rattle.x64_machine.specs.Effect.{State, Answer, with_rip, effect}
use Rattle.x64_instr.specs.declared.instruction.Instr.TheVariants.{NoOperation}
use Rattle.eh_tables.specs.declared.code.UnwindOperation.{UnwindOperation}
use Rattle.eh_tables.specs.declared.code.UnwindOperation.TheVariants.{Push, Allocate}
use Rattle.eh_tables.specs.Tables.{Entry}
use Rattle.virtual_unwind.specs.Tail.{FetchedInstr, fetched_at}
use Rattle.frame_rules.specs.Prologue.{PrologueStep}
use Rattle.frame_rules.specs.Rules.{FramedFunction, InPrologue}
use Rattle.frame_rules.specs.Worked.{pushing, push_rbx, clears_eax}
use Rattle.unwind_check.specs.Worked.{code_at}
use Rattle.unwind_check.specs.Laws.{rest_of, parts_of, IsInEntry}
use Rattle.unwind_check.specs.Fragments.{IsPartLeaving}

abbrev pub code : Memory
code = code_at 0x2000 (push_rbx ++ clears_eax)

abbrev pub entry : Entry
entry = record {
  range = record { begin = 0x2000; end = 0x200D; unwind_info = 0x3000 };
  info = pushing;
  parents = [];
}

-- ---- its instructions

abbrev pub instr_or : Option FetchedInstr → FetchedInstr
instr_or None = record { instr = NoOperation; size = 1; plain = true }
instr_or (Some x) = x

abbrev pub instr_at : ℕ → FetchedInstr
instr_at at = instr_or (fetched_at code at)

-- of its prologue: one instruction at an address
abbrev pub step : ℕ → UnwindOperation → ℕ → PrologueStep
step offset operation at =
    record {
      code = record { offset = offset; operation = operation };
      items = instr_at at ∷ [];
    }

abbrev pub function : FramedFunction
function = record {
  info = pushing;
  steps =
      step 1 (Push 3) 0x2000 ∷ step 5 (Allocate 32) 0x2001 ∷ [];
  rest = instr_at 0x2005 ∷ instr_at 0x2007 ∷ instr_at 0x200B ∷ instr_at 0x200C ∷ [];
}

-- ---- states

-- memory all of which may be read and written
abbrev pub open_memory : Memory
open_memory =
    record {
      protection = λ a. record { rights = ReadWrite; execute = false };
      byte = λ a. 0;
    }

-- at the first byte, with RBX 3 and RSP 0x8000
abbrev pub first : State
first = record {
  cpu = record {
    registers =
        0 ∷ 1 ∷ 2 ∷ 3 ∷ 0x8000 ∷ 5 ∷ 6 ∷ 7 ∷ 8 ∷ 9 ∷ 10 ∷ 11 ∷ 12 ∷ 13 ∷ 14 ∷ 15 ∷ [];
    rip = 0x2000;
    flags = record { carry = false; zero = false; sign = false; overflow = false };
  };
  memory = open_memory;
  vectored = [];
}

abbrev pub state_or : State → Answer State → State
state_or s (Ok t) = t
state_or s (Err e) = s

-- after an instruction
abbrev pub after : State → FetchedInstr → State
after s x = state_or s (effect (with_rip s ((s.cpu.rip + x.size) % 2 ^ 64)) x.instr)

abbrev pub pushed : State
pushed = after first (instr_at 0x2000)

abbrev pub allocated : State
allocated = after pushed (instr_at 0x2001)

abbrev pub cleared : State
cleared = after allocated (instr_at 0x2005)

abbrev pub given_back : State
given_back = after cleared (instr_at 0x2007)

-- ---- rows

-- after the push; after the prologue; and after the epilogue's `add rsp`, where the pop comes next
abbrev pub StandRows : Type 0
StandRows =
    IsInEntry code (entry ∷ []) entry first pushed 1
    × IsInEntry code (entry ∷ []) entry first allocated 5
    × IsInEntry code (entry ∷ []) entry first given_back 11

abbrev pub StateRows : Type 0
StateRows =
    InPrologue function first pushed 1
    × IsPartLeaving function (parts_of code (entry ∷ []) entry) (rest_of code entry) first
    given_back 6
