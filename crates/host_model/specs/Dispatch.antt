-- The dispatcher: what is done between funclets and vectored handlers. All suspended work is in
-- records in the machine's stack.
--
-- `raised`, `asks_on`, `searches_from`, `searches_on`, `accepted`, `unwinds_on`, `land`,
-- `unwound_locally`: a record is placed below the saved stack pointer, and the vectored handlers
-- are asked one after another. Each is called below the record as a filter is, with no frame. Past
-- the last of them the record is for a search, and the search for a handler begins. A filter is
-- called below the record, an acceptance rewrites it and begins the unwinding, and a `__finally`
-- block is called in the same way. The landing gives the target's frame its stack pointer and
-- nonvolatile registers, with the exception's code in RAX (Microsoft x64 ABI, "Language-specific
-- handler", "Unwind procedure"; the values of the other registers are our own).
--
-- The main definitions: `filter_returned`, `finally_returned`, `vectored_returned`.
use Rattle.std.specs.Prelude.{ℕ, zero, suc, ◌+◌, ◌%◌, ◌^◌, Bool, true, false, ◌==◌, nat_le, List, [], ◌∷◌, replicate, Option, Some, None, slice_get, slice_index, slice_set, ◌-◌}
use Rattle.seh_num.specs.declared.width.Width.TheVariants.{W32, W64}
use Rattle.seh_num.specs.declared.event.Code.{Code}
use Rattle.seh_num.specs.declared.event.Event.TheVariants as events
use Rattle.seh_num.specs.declared.end.Reason.TheVariants as reasons
use Rattle.seh_num.specs.declared.end.RunEnd.TheVariants as ends
use Rattle.seh_num.specs.Widths.{half, low, signed}
use Rattle.seh_num.specs.declared.code.TheConstants.{NONCONTINUABLE_EXCEPTION}
use Rattle.seh_num.specs.declared.size.TheConstants.{EXCEPTION_MAXIMUM_PARAMETERS}
use Rattle.flat_memory.specs.Memory.{after_store}
use Rattle.x64_instr.specs.declared.register.Reg.TheVariants.{Rax, Rcx, Rdx, Rsp}
use Rattle.x64_instr.specs.Registers.{number}
use Rattle.x64_machine.specs.declared.cpu.Cpu.{Cpu}
use Rattle.x64_machine.specs.declared.cpu.Flags.{Flags}
use Rattle.x64_machine.specs.declared.context.Context.{Context}
use Rattle.x64_machine.specs.Contexts.{context_of}
use Rattle.x64_machine.specs.Effect.{State, register}
use Rattle.eh_tables.specs.declared.scope.ScopeRecord.{ScopeRecord}
use Rattle.eh_tables.specs.Tables.{Entry}
use Rattle.virtual_unwind.specs.CallerOf.{Functions, entry_of}
use Rattle.seh_records.specs.declared.dispatch.Kind.{Kind}
use Rattle.seh_records.specs.declared.dispatch.Kind.TheVariants.{Search, ExceptionUnwind, LocalUnwind, Vectored}
use Rattle.seh_records.specs.declared.dispatch.DispatchRecord.{DispatchRecord}
use Rattle.seh_records.specs.declared.dispatch.TheConstants.{EXCEPTION_NONCONTINUABLE}
use Rattle.seh_records.specs.Record.{placed, misplaced, return_address_at, place_below}
use Rattle.seh_records.specs.declared.layout.TheConstants.{POINTERS_AT}
use Rattle.seh_walk.specs.Walk.{stop_cause, filter_return, finally_return, vectored_return, is_search, is_unwinding, is_vectored, walk_in, steps}
use Rattle.seh_search.specs.declared.search_result.SearchResult.{SearchResult}
use Rattle.seh_search.specs.declared.search_result.SearchResult.TheVariants as searches
use Rattle.seh_search.specs.Search.{search}
use Rattle.seh_unwind.specs.declared.unwind_result.UnwindResult.{UnwindResult}
use Rattle.seh_unwind.specs.declared.unwind_result.UnwindResult.TheVariants as unwinds
use Rattle.seh_unwind.specs.Unwind.{unwind}
use Rattle.host_model.specs.Turns.{Turn, Continues, Ends, with_event, stopped}

-- ---- records

-- from the saved state, with nothing in hand
abbrev pub begun : DispatchRecord → DispatchRecord
begun r = record r { frame = 0; row = 0; walk = context_of r.saved }

-- the frame in hand, the next row there, and the state
abbrev pub in_hand : DispatchRecord → ℕ → ℕ → Context → DispatchRecord
in_hand r frame row walk = record r { frame = frame; row = row; walk = walk }

-- where a record can't be placed the run has come to the stack's limit
abbrev pub if_placed : State → ℕ → DispatchRecord → (State → Turn) → Option ℕ → Turn
if_placed s at r go (Some a) = Ends [] (ends.StackLimit a)
if_placed s at r go None = go (record s { memory = placed s.memory at r })

-- the record is placed, and then the turn goes by it
abbrev pub after_placing : State → ℕ → DispatchRecord → (State → Turn) → Turn
after_placing s at r go = if_placed s at r go (misplaced s.memory at)

-- ---- funclets

-- RCX, RDX and RSP of a funclet; its other registers and the flags stay
abbrev pub called : List ℕ → ℕ → ℕ → ℕ → List ℕ
called registers first frame rsp =
    slice_set (slice_set (slice_set registers (number Rcx) first) (number Rdx) frame)
    (number Rsp) rsp

-- the funclet is called, with its return address below the record
abbrev pub entered : State → ℕ → ℕ → ℕ → ℕ → ℕ → State
entered s at back handler first frame =
    record s {
      cpu = record {
        registers = called s.cpu.registers first frame (return_address_at at);
        rip = handler;
        flags = s.cpu.flags;
      };
      memory = after_store s.memory (return_address_at at) W64 back;
    }

-- ---- landing

-- all flags are clear
abbrev pub no_flags : Flags
no_flags = record { carry = false; zero = false; sign = false; overflow = false }

-- a nonvolatile register of a context, by its place there
abbrev pub kept : Context → ℕ → ℕ
kept c k = slice_index c.kept k

-- RSP and the nonvolatile registers of the frame; the others are 0
abbrev pub landed : Context → ℕ → ℕ → Cpu
landed c rax target = record {
  registers =
      rax ∷ 0 ∷ 0 ∷ kept c 1 ∷ kept c 0 ∷ kept c 2 ∷ kept c 3 ∷ kept c 4 ∷ 0 ∷ 0 ∷ 0 ∷ 0 ∷ kept c 5
      ∷ kept c 6 ∷ kept c 7 ∷ kept c 8 ∷ [];
  rip = target;
  flags = no_flags;
}

-- the state where a frame is landed in
abbrev pub at_landing : State → Context → ℕ → ℕ → State
at_landing s c rax target = record s { cpu = landed c rax target }

-- an unwinding for an exception shows that an `__except` block took over; a record of a search or
-- of vectored handlers lands nowhere, since each that accepts becomes one of an unwinding first
abbrev pub by_purpose : State → DispatchRecord → Context → Kind → Turn
by_purpose s r c Search = Continues (at_landing s c 0 r.target) []
by_purpose s r c ExceptionUnwind =
    Continues (at_landing s c r.code.0 r.target) (events.Except r.code ∷ [])
by_purpose s r c LocalUnwind = Continues (at_landing s c 0 r.target) []
by_purpose s r c Vectored = Continues (at_landing s c 0 r.target) []

-- an unwinding lands in its target frame
abbrev pub land : State → DispatchRecord → Context → Turn
land s r c = by_purpose s r c r.kind

-- ---- unwinding and searching, from a record that is at its place

-- an unwinding calls a `__finally` block, lands or stops
abbrev pub after_unwind : State → ℕ → DispatchRecord → UnwindResult → Turn
after_unwind s at r (unwinds.Finally handler frame row walk) =
    after_placing s at (in_hand r frame row walk)
    (λ u. Continues (entered u at finally_return handler 1 frame) [])
after_unwind s at r (unwinds.Land c) = land s r c
after_unwind s at r (unwinds.Stop y) = stopped y

-- the unwinding of a record, from its walk on
abbrev pub unwinds_on : Functions → State → ℕ → DispatchRecord → Turn
unwinds_on t s at r =
    after_unwind s at r (unwind steps t s.memory r.target_frame r.target (walk_in r))

-- an acceptance rewrites the record in place
abbrev pub accepting : DispatchRecord → ℕ → ℕ → DispatchRecord
accepting r frame target =
    begun (record r { kind = ExceptionUnwind; target_frame = frame; target = target })

-- an `__except` block accepts: the record is for an unwinding from now on
abbrev pub accepted : Functions → State → ℕ → DispatchRecord → ℕ → ℕ → Turn
accepted t s at r frame target =
    after_placing s at (accepting r frame target)
    (λ u. unwinds_on t u at (accepting r frame target))

-- a search calls a filter, accepts, finds no handler or stops
abbrev pub after_search : Functions → State → ℕ → DispatchRecord → SearchResult → Turn
after_search t s at r (searches.Filter handler frame row walk) =
    after_placing s at (in_hand r frame row walk)
    (λ u. Continues (entered u at filter_return handler ((at + POINTERS_AT) % 2 ^ 64) frame) [])
after_search t s at r (searches.Accept frame target) = accepted t s at r frame target
after_search t s at r searches.Nobody = Ends [] (ends.Unhandled r.code)
after_search t s at r (searches.Stop y) = stopped y

-- the search of a record, from its walk on
abbrev pub searches_on : Functions → State → ℕ → DispatchRecord → Turn
searches_on t s at r = after_search t s at r (search steps t s.memory (walk_in r))

-- ---- vectored handlers

-- past the last of them the record is for a search, from the saved state
abbrev pub searching : DispatchRecord → DispatchRecord
searching r = begun (record r { kind = Search })

-- the search begins
abbrev pub searches_from : Functions → State → ℕ → DispatchRecord → Turn
searches_from t s at r =
    after_placing s at (searching r) (λ u. searches_on t u at (searching r))

-- a vectored handler is called with the exception, and no frame
abbrev pub asked_vectored : State → ℕ → DispatchRecord → ℕ → Turn
asked_vectored s at r handler =
    after_placing s at r
    (λ u. Continues (entered u at vectored_return handler ((at + POINTERS_AT) % 2 ^ 64) 0) [])

-- the one at the record's place in the list, if there is one
abbrev pub asks_at : Functions → State → ℕ → DispatchRecord → Option ℕ → Turn
asks_at t s at r (Some handler) = asked_vectored s at r handler
asks_at t s at r None = searches_from t s at r

abbrev pub asks_on : Functions → State → ℕ → DispatchRecord → Turn
asks_on t s at r = asks_at t s at r (slice_get s.vectored r.row)

-- ---- raising

-- for a refused access: whether it was a write, and the address
abbrev pub write_number : Bool → ℕ
write_number true = 1
write_number false = 0

-- ExceptionInformation of a refused access; of any other exception all are 0
abbrev pub parameters : Option (Bool × ℕ) → List ℕ
parameters None = replicate EXCEPTION_MAXIMUM_PARAMETERS 0
parameters (Some x) = write_number x.0 ∷ x.1 ∷ replicate (EXCEPTION_MAXIMUM_PARAMETERS - 2) 0

-- NumberParameters
abbrev pub count : Option (Bool × ℕ) → ℕ
count None = 0
count (Some x) = 2

-- a record that has just begun, from the saved state
abbrev pub new_record : Kind → Code → ℕ → Option (Bool × ℕ) → Cpu → DispatchRecord
new_record kind code flags access saved = record {
  kind = kind;
  frame = 0;
  row = 0;
  target_frame = 0;
  target = 0;
  code = code;
  flags = flags;
  count = count access;
  parameters = parameters access;
  saved = saved;
  walk = context_of saved;
}

-- the place of a new record: below the saved stack pointer
abbrev pub place_of : Cpu → ℕ
place_of saved = place_below (register saved Rsp)

-- a new exception, of which the state is saved
abbrev pub raising : Functions → State → Code → ℕ → Option (Bool × ℕ) → Cpu → Turn
raising t s code flags access saved =
    asks_on t s (place_of saved) (new_record Vectored code flags access saved)

-- bit 0 of the flags makes it noncontinuable
abbrev pub raised : Functions → State → Code → ℕ → Option (Bool × ℕ) → Cpu → Turn
raised t s code flags access saved =
    with_event (events.Raise code (flags == EXCEPTION_NONCONTINUABLE) access)
    (raising t s code flags access saved)

-- a local unwind, to a target of a frame
abbrev pub to_target : Cpu → ℕ → ℕ → DispatchRecord
to_target saved frame target =
    record (new_record LocalUnwind (record { 0 = 0 }) 0 None saved)
    { target_frame = frame; target = target }

-- a local unwind, whose record is placed first
abbrev pub unwound_locally : Functions → State → ℕ → ℕ → Cpu → Turn
unwound_locally t s frame target saved =
    after_placing s (place_of saved) (to_target saved frame target)
    (λ u. unwinds_on t u (place_of saved) (to_target saved frame target))

-- ---- answers of filters

-- NONCONTINUABLE_EXCEPTION takes the place of an exception that can't be continued
abbrev pub noncontinuable : Code
noncontinuable = NONCONTINUABLE_EXCEPTION

-- the same record, for NONCONTINUABLE_EXCEPTION from the saved state
abbrev pub again : DispatchRecord → DispatchRecord
again r =
    begun (record r {
      kind = Vectored;
      code = noncontinuable;
      flags = EXCEPTION_NONCONTINUABLE;
      count = 0;
      parameters = replicate EXCEPTION_MAXIMUM_PARAMETERS 0;
      target_frame = 0;
      target = 0;
    })

-- it is raised in place of the one that was to be continued
abbrev pub raised_again : Functions → State → ℕ → DispatchRecord → Turn
raised_again t s at r =
    with_event (events.Raise noncontinuable true None) (asks_on t s at (again r))

-- the saved state as it is in the record
abbrev pub restored : State → DispatchRecord → State
restored s r = record s { cpu = r.saved }

-- an exception is continued unless it is noncontinuable
abbrev pub continued : Functions → State → ℕ → DispatchRecord → Bool → Turn
continued t s at r true = Continues (restored s r) []
continued t s at r false = raised_again t s at r

-- the row just before the record's next one, in the table of the entry at the walk's RIP
abbrev pub row_before : List ScopeRecord → ℕ → Option ScopeRecord
row_before [] k = None
row_before (r ∷ rows) zero = None
row_before (r ∷ rows) (suc zero) = Some r
row_before (r ∷ rows) (suc (suc k)) = row_before rows (suc k)

-- the scope records of an entry
abbrev pub rows_of : Option Entry → List ScopeRecord
rows_of None = []
rows_of (Some e) = e.info.scopes

-- the record names no row to land at
abbrev pub no_landing : ℕ → Turn
no_landing at = stopped (stop_cause reasons.BadRecord at)

-- a row of a `__finally` block has no place to land at
abbrev pub if_finally : Functions → State → ℕ → DispatchRecord → ℕ → Bool → Turn
if_finally t s at r jump true = no_landing at
if_finally t s at r jump false = accepted t s at r r.frame ((t.base + jump) % 2 ^ 64)

-- the filter's row accepts
abbrev pub jumping : Functions → State → ℕ → DispatchRecord → Option ScopeRecord → Turn
jumping t s at r None = no_landing at
jumping t s at r (Some row) = if_finally t s at r row.jump_target (row.jump_target == 0)

-- the row whose filter was asked
abbrev pub asked_row : Functions → DispatchRecord → Option ScopeRecord
asked_row t r = row_before (rows_of (entry_of t r.walk.rip)) r.row

-- below 0, above 0
abbrev pub by_sign : Functions → State → ℕ → DispatchRecord → Bool → Turn
by_sign t s at r true = continued t s at r (r.flags % 2 == 0)
by_sign t s at r false = jumping t s at r (asked_row t r)

-- 0 asks the next handler
abbrev pub by_answer : Functions → State → ℕ → DispatchRecord → ℕ → Bool → Turn
by_answer t s at r v true = searches_on t s at r
by_answer t s at r v false = by_sign t s at r (nat_le (half W32) v)

-- what a filter's answer comes to
abbrev pub answered : Functions → State → ℕ → DispatchRecord → ℕ → Turn
answered t s at r v = by_answer t s at r v (v == 0)

-- ---- the host's three return addresses

-- the low 32 bits of RAX
abbrev pub eax : State → ℕ
eax s = low W32 (register s.cpu Rax)

-- only a search's record waits for a filter's answer
abbrev pub if_searching : Functions → State → ℕ → DispatchRecord → Bool → Turn
if_searching t s at r true =
    with_event (events.Answer (signed W32 (register s.cpu Rax))) (answered t s at r (eax s))
if_searching t s at r false = stopped (stop_cause reasons.BadRecord at)

-- a filter has returned; its record is the one at RSP, if one is there
abbrev pub filter_returned : Functions → State → ℕ → Option DispatchRecord → Turn
filter_returned t s at None = stopped (stop_cause reasons.BadRecord at)
filter_returned t s at (Some r) = if_searching t s at r (is_search r.kind)

-- only an unwinding's record waits for a `__finally` block
abbrev pub if_unwinding : Functions → State → ℕ → DispatchRecord → Bool → Turn
if_unwinding t s at r true = unwinds_on t s at r
if_unwinding t s at r false = stopped (stop_cause reasons.BadRecord at)

-- a `__finally` block has returned; its record is the one at RSP, if one is there
abbrev pub finally_returned : Functions → State → ℕ → Option DispatchRecord → Turn
finally_returned t s at None = stopped (stop_cause reasons.BadRecord at)
finally_returned t s at (Some r) = if_unwinding t s at r (is_unwinding r.kind)

-- a vectored handler's answer below 0 continues; after another the next one is asked, in the list
-- as it stands then
abbrev pub by_vectored_answer : Functions → State → ℕ → DispatchRecord → Bool → Turn
by_vectored_answer t s at r true = continued t s at r (r.flags % 2 == 0)
by_vectored_answer t s at r false = asks_on t s at (record r { row = r.row + 1 })

-- only the record of a vectored handler waits for its answer
abbrev pub if_vectored : Functions → State → ℕ → DispatchRecord → Bool → Turn
if_vectored t s at r true = by_vectored_answer t s at r (nat_le (half W32) (eax s))
if_vectored t s at r false = stopped (stop_cause reasons.BadRecord at)

-- a vectored handler has returned; its record is the one at RSP, if one is there
abbrev pub vectored_returned : Functions → State → ℕ → Option DispatchRecord → Turn
vectored_returned t s at None = stopped (stop_cause reasons.BadRecord at)
vectored_returned t s at (Some r) = if_vectored t s at r (is_vectored r.kind)
