-- The addresses in code at which a routine can begin, as the code itself has them: where its calls
-- lead, and what it takes the address of.
--
-- The main definitions: `Code`, `sweep`, `places`.
use Rattle.std.specs.Prelude.{ℕ, zero, suc, ◌+◌, ◌-◌, ◌%◌, ◌^◌, Bool, true, false, not, ◌==◌, ◌&&◌, ◌||◌, nat_lt, nat_le, is_none, if◌then◌else◌, List, [], ◌∷◌, ◌++◌, map, Option, Some, None}
use Rattle.flat_memory.specs.Memory.{Memory}
use Rattle.x64_instr.specs.declared.operand.Base.{Base}
use Rattle.x64_instr.specs.declared.operand.Base.TheVariants as bases
use Rattle.x64_instr.specs.declared.instruction.Target.TheVariants.{Relative}
use Rattle.x64_instr.specs.declared.instruction.Instr.{Instr}
use Rattle.x64_instr.specs.declared.instruction.Instr.TheVariants as instrs
use Rattle.eh_tables.specs.declared.scope.ScopeRecord.{ScopeRecord}
use Rattle.eh_tables.specs.Tables.{Entry, holding}
use Rattle.virtual_unwind.specs.Tail.{FetchedInstr, fetched_at}

-- the code of an executable section, from its first byte to before its end: the image's memory, the
-- entries of its function table, and its entry point. All addresses are relative to the image base.
pub record Code : Type 0 where
  pub memory : Memory
  pub entries : List Entry
  pub begin : ℕ
  pub end : ℕ
  pub entry_point : ℕ

-- an address of the section whose byte is in no entry's range
abbrev pub is_uncovered : Code → ℕ → Bool
is_uncovered c at = nat_le c.begin at && (nat_lt at c.end && is_none (holding at c.entries))

-- ---- instructions one after another

-- an instruction, and the address after it
pub record Swept : Type 0 where
  pub next : ℕ
  pub instr : Instr

abbrev pub swept_from : (ℕ → List Swept) → ℕ → Option FetchedInstr → List Swept
swept_from others at None = []
swept_from others at (Some x) =
    record { next = at + x.size; instr = x.instr } ∷ others (at + x.size)

-- the instructions that bytes spell one after another from an address on, as long as they begin at
-- addresses of which a test holds, and at most n
unfoldable pub sweep : (ℕ → Bool) → Memory → ℕ → ℕ → List Swept
sweep inside m zero at = []
sweep inside m (suc n) at =
    if inside at then swept_from (sweep inside m n) at (fetched_at m at) else []

-- ---- what they refer to

-- where a call leads: so far from the next instruction (Intel manual, volume 2, CALL)
abbrev pub called : ℕ → Instr → List ℕ
called next (instrs.Call (Relative d)) = (next + d) % 2 ^ 64 ∷ []
called next i = []

abbrev pub from_next : ℕ → ℕ → Base → List ℕ
from_next next d bases.Rip = (next + d) % 2 ^ 64 ∷ []
from_next next d base = []

-- the address that LEA takes relative to the next instruction
abbrev pub taken : ℕ → Instr → List ℕ
taken next (instrs.LoadAddress w to a) = from_next next a.displacement a.base
taken next i = []

abbrev pub calls : List Swept → List ℕ
calls [] = []
calls (x ∷ xs) = called x.next x.instr ++ calls xs

abbrev pub addresses_taken : List Swept → List ℕ
addresses_taken [] = []
addresses_taken (x ∷ xs) = taken x.next x.instr ++ addresses_taken xs

-- ---- in the ranges of entries

abbrev pub entry_sweep : Memory → Entry → List Swept
entry_sweep m e =
    sweep (λ at. nat_lt at e.range.end) m (e.range.end - e.range.begin) e.range.begin

abbrev pub entry_calls : Memory → List Entry → List ℕ
entry_calls m [] = []
entry_calls m (e ∷ es) = calls (entry_sweep m e) ++ entry_calls m es

-- the handlers of the scope records of all entries
abbrev pub scope_handlers : List Entry → List ℕ
scope_handlers [] = []
scope_handlers (e ∷ es) =
    map (λ (row : ScopeRecord). row.handler_address) e.info.scopes ++ scope_handlers es

-- ---- outside them

-- where uncovered code begins: at the section's first byte, or after a range
abbrev pub is_first : Code → ℕ → Bool
is_first c at = is_uncovered c at && ((at == c.begin) || not (is_uncovered c (at - 1)))

-- from there up to the next range or the section's end
abbrev pub uncovered_sweep : Code → ℕ → List Swept
uncovered_sweep c at = sweep (is_uncovered c) c.memory (c.end - at) at

abbrev pub references_of : List Swept → List ℕ
references_of xs = calls xs ++ addresses_taken xs

abbrev pub references_at : Code → ℕ → List ℕ
references_at c at = if is_first c at then references_of (uncovered_sweep c at) else []

-- from each of so many addresses
abbrev pub references : Code → ℕ → ℕ → List ℕ
references c zero at = []
references c (suc n) at = references_at c at ++ references c n (at + 1)

-- ---- all

-- where a routine can begin: the entry point; where a call of the section's code leads; the handler
-- of a scope record; and an address that uncovered code takes, as a stub takes that of a function's
-- name thunk
abbrev pub places : Code → List ℕ
places c =
    c.entry_point
    ∷ (scope_handlers c.entries
    ++ (entry_calls c.memory c.entries ++ references c (c.end - c.begin) c.begin))
