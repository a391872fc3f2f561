-- A dispatch record at its place.
--
-- `DispatchRecord`: what the host keeps of a suspended search or unwinding, or of a vectored
-- handler that is asked: the exception, the state to go back to, the walk's state and the next
-- scope record. It lies in the machine's stack, in 1,568 bytes whose fields are placed as the
-- Windows headers have EXCEPTION_RECORD, CONTEXT and DISPATCHER_CONTEXT, with a mark (own).
--
-- The main definitions: `placed`, `fetched`.
use Rattle.std.specs.Prelude.{◌≡◌, ℕ, ◌+◌, ◌-◌, ◌*◌, ◌/◌, ◌%◌, ◌^◌, Bool, true, false, ◌==◌, nat_lt, if◌then◌else◌, List, [], ◌∷◌, ◌++◌, replicate, Option, Some, None, Result, Ok, Err}
use Rattle.seh_num.specs.Widths.{if_set}
use Rattle.seh_num.specs.declared.size.TheConstants.{EXCEPTION_MAXIMUM_PARAMETERS}
use Rattle.host_layout.specs.declared.range.TheConstants.{STACK_START}
use Rattle.flat_memory.specs.Memory.{Memory, first_refused, number_at, with_bytes, may_read, may_write}
use Rattle.x64_machine.specs.declared.cpu.Cpu.{Cpu}
use Rattle.x64_machine.specs.declared.cpu.Flags.{Flags}
use Rattle.x64_machine.specs.declared.context.Context.{Context}
use Rattle.seh_records.specs.declared.dispatch.Kind.{Kind}
use Rattle.seh_records.specs.declared.dispatch.Kind.TheVariants.{Search, ExceptionUnwind, LocalUnwind, Vectored}
use Rattle.seh_records.specs.declared.dispatch.DispatchRecord.{DispatchRecord}
use Rattle.seh_records.specs.declared.refusal.Guard.{Guard}
use Rattle.seh_records.specs.declared.refusal.BadRecord.{BadRecord}
use Rattle.seh_records.specs.Words.{with_block, words_at}
use Rattle.seh_records.specs.declared.layout.TheConstants.{RECORD_SIZE, PLACED_SIZE, MARK_AT, KIND_AT, FRAME_AT, ROW_AT, TARGET_FRAME_AT, TARGET_AT, EXCEPTION_AT, FLAGS_AT, COUNT_AT, PARAMETERS_AT, CONTEXT_AT, EFLAGS_AT, REGISTERS_AT, RIP_AT, WALK_RIP_AT, WALK_KEPT_AT}

-- the bytes SEHDSPCH, the lowest first
abbrev pub mark : ℕ
mark = 0x4843505344484553

-- ---- kinds

abbrev pub number_of : Kind → ℕ
number_of Search = 1
number_of ExceptionUnwind = 2
number_of LocalUnwind = 3
number_of Vectored = 4

abbrev pub kind_of : ℕ → Option Kind
kind_of n =
    if n == 1 then Some Search else (if n == 2 then Some ExceptionUnwind
    else (if n == 3 then Some LocalUnwind else (if n == 4 then Some Vectored else None)))

-- ---- EFlags

abbrev pub eflags : Flags → ℕ
eflags f = if_set f.carry 1 + 2 + if_set f.zero 64 + if_set f.sign 128 + if_set f.overflow 2048

abbrev pub is_bit : ℕ → ℕ → Bool
is_bit k v = v / 2 ^ k % 2 == 1

abbrev pub flags_of : ℕ → Flags
flags_of v =
    record { carry = is_bit 0 v; zero = is_bit 6 v; sign = is_bit 7 v; overflow = is_bit 11 v }

-- ---- the 192 words after the home space

-- from the mark to NumberParameters
abbrev pub head : ℕ → DispatchRecord → List ℕ
head at r =
    mark
    ∷ number_of r.kind
    ∷ r.frame
    ∷ r.row
    ∷ r.target_frame
    ∷ r.target
    ∷ ((at + EXCEPTION_AT) % 2 ^ 64)
    ∷ ((at + CONTEXT_AT) % 2 ^ 64)
    ∷ (r.code.0 + 2 ^ 32 * r.flags)
    ∷ 0
    ∷ r.saved.rip
    ∷ r.count
    ∷ []

-- the CONTEXT up to the registers
abbrev pub front : DispatchRecord → List ℕ
front r =
    0 ∷ 0 ∷ 0 ∷ 0 ∷ 0 ∷ 0 ∷ 0 ∷ 0 ∷ (2 ^ 32 * eflags r.saved.flags) ∷ 0 ∷ 0 ∷ 0 ∷ 0 ∷ 0 ∷ 0 ∷ []

-- RIP and the rest of the CONTEXT
abbrev pub back : DispatchRecord → List ℕ
back r = r.saved.rip ∷ replicate 122 0

unfoldable pub words : ℕ → DispatchRecord → List ℕ
words at r =
    head at r ++ r.parameters ++ (0 ∷ []) ++ front r ++ r.saved.registers ++ back r
    ++ (r.walk.rip ∷ []) ++ r.walk.kept

-- ---- placing

-- where the return address is
abbrev pub return_address_at : ℕ → ℕ
return_address_at at = (at + (2 ^ 64 - 8)) % 2 ^ 64

-- The least address from the return address to the record's end that is below the stack or may not
-- be written. What passes the last address continues at 0.
unfoldable pub misplaced : Memory → ℕ → Option ℕ
misplaced m at =
    if nat_lt (2 ^ 64) (return_address_at at + PLACED_SIZE) then Some 0
    else (if nat_lt (return_address_at at) STACK_START then Some (return_address_at at)
    else first_refused (may_write m) PLACED_SIZE (return_address_at at))

-- all but the home space
unfoldable pub placed : Memory → ℕ → DispatchRecord → Memory
placed m at r = with_bytes m (with_block m.byte ((at + MARK_AT) % 2 ^ 64) 192 (words at r))

-- the place of a new record, below a stack pointer
abbrev pub place_below : ℕ → ℕ
place_below rsp = let a = (rsp + (2 ^ 64 - RECORD_SIZE)) % 2 ^ 64 in a - a % 16

-- ---- fetching

-- the host takes what is there
abbrev pub word : Memory → ℕ → ℕ → ℕ
word m at o = number_at m.byte 8 ((at + o) % 2 ^ 64)

abbrev pub half : Memory → ℕ → ℕ → ℕ
half m at o = number_at m.byte 4 ((at + o) % 2 ^ 64)

abbrev pub words_from : Memory → ℕ → ℕ → ℕ → List ℕ
words_from m at o n = words_at m.byte n ((at + o) % 2 ^ 64)

abbrev pub saved : Memory → ℕ → Cpu
saved m at =
    record {
      registers = words_from m at REGISTERS_AT 16;
      rip = word m at RIP_AT;
      flags = flags_of (half m at EFLAGS_AT);
    }

abbrev pub walk : Memory → ℕ → Context
walk m at = record { rip = word m at WALK_RIP_AT; kept = words_from m at WALK_KEPT_AT 9 }

abbrev pub recorded : Memory → ℕ → Kind → DispatchRecord
recorded m at kind = record {
  kind = kind;
  frame = word m at FRAME_AT;
  row = word m at ROW_AT;
  target_frame = word m at TARGET_FRAME_AT;
  target = word m at TARGET_AT;
  code = record { 0 = half m at EXCEPTION_AT };
  flags = half m at FLAGS_AT;
  count = half m at COUNT_AT;
  parameters = words_from m at PARAMETERS_AT EXCEPTION_MAXIMUM_PARAMETERS;
  saved = saved m at;
  walk = walk m at;
}

abbrev pub of_kind : Memory → ℕ → Option Kind → Option DispatchRecord
of_kind m at None = None
of_kind m at (Some kind) = Some (recorded m at kind)

abbrev pub if_marked : Memory → ℕ → Bool → Option DispatchRecord
if_marked m at true = of_kind m at (kind_of (word m at KIND_AT))
if_marked m at false = None

abbrev pub if_readable : Memory → ℕ → Option ℕ → Option DispatchRecord
if_readable m at (Some a) = None
if_readable m at None = if_marked m at (word m at MARK_AT == mark)

-- none where the bytes aren't readable, the mark differs or the kind is another
unfoldable pub fetched : Memory → ℕ → Option DispatchRecord
fetched m at = if_readable m at (first_refused (may_read m) RECORD_SIZE at)

-- the record is at its place
pub record IsRecordAt (m : Memory) (at : ℕ) (r : DispatchRecord) : Type 0 where
  pub aligned : at % 16 ≡ 0
  pub readable : first_refused (may_read m) RECORD_SIZE at ≡ None
  pub words : words_from m at MARK_AT 192 ≡ words at r

-- ---- what the code answers, and the memory after it

abbrev pub place_answer : ℕ → Option ℕ → Result ℕ Guard
place_answer at None = Ok at
place_answer at (Some a) = Err (record { address = a })

abbrev pub rewrite_answer : Option ℕ → Result Unit Guard
rewrite_answer None = Ok tt
rewrite_answer (Some a) = Err (record { address = a })

abbrev pub after_place : Memory → ℕ → DispatchRecord → Option ℕ → Memory
after_place m at r None = placed m at r
after_place m at r (Some a) = m

abbrev pub fetch_answer : ℕ → Option DispatchRecord → Result DispatchRecord BadRecord
fetch_answer at None = Err (record { address = at })
fetch_answer at (Some r) = Ok r
