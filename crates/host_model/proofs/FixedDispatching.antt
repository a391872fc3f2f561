-- What the dispatcher keeps.
use Rattle.std.proofs.Common.{◌≡◌, ℕ, ◌+◌, ◌%◌, ◌^◌, Bool, true, false, ◌==◌, [], Option, Some, None, refl, arith}
use Rattle.std.specs.Prelude.{nat_le, slice_get}
use Rattle.seh_num.specs.declared.width.Width.TheVariants.{W32, W64}
use Rattle.seh_num.specs.Widths.{half}
use Rattle.seh_num.specs.declared.event.Code.{Code}
use Rattle.seh_num.specs.declared.event.Event.{Event}
use Rattle.flat_memory.specs.Memory.{Memory, after_store}
use Rattle.x64_machine.specs.declared.cpu.Cpu.{Cpu}
use Rattle.x64_machine.specs.declared.context.Context.{Context}
use Rattle.x64_machine.specs.Effect.{State}
use Rattle.eh_tables.specs.declared.scope.ScopeRecord.{ScopeRecord}
use Rattle.virtual_unwind.specs.CallerOf.{Functions}
use Rattle.seh_records.specs.declared.dispatch.Kind.{Kind}
use Rattle.seh_records.specs.declared.dispatch.Kind.TheVariants.{Search, ExceptionUnwind, LocalUnwind, Vectored}
use Rattle.seh_records.specs.declared.dispatch.DispatchRecord.{DispatchRecord}
use Rattle.seh_records.specs.declared.layout.TheConstants.{POINTERS_AT}
use Rattle.seh_records.specs.Record.{misplaced, placed, return_address_at}
use Rattle.seh_walk.specs.Walk.{is_search, is_unwinding, is_vectored, walk_in, steps, filter_return, finally_return, vectored_return}
use Rattle.seh_search.specs.declared.search_result.SearchResult.{SearchResult}
use Rattle.seh_search.specs.declared.search_result.SearchResult.TheVariants as searches
use Rattle.seh_search.specs.Search.{search}
use Rattle.seh_unwind.specs.declared.unwind_result.UnwindResult.{UnwindResult}
use Rattle.seh_unwind.specs.declared.unwind_result.UnwindResult.TheVariants as unwinds
use Rattle.seh_unwind.specs.Unwind.{unwind}
use Rattle.host_model.specs.Turns.{Turn, Continues, Ends, with_event}
use Rattle.host_model.specs.Dispatch.{after_placing, if_placed, land, by_purpose, after_unwind, unwinds_on, accepting, accepted, after_search, searches_on, raising, raised, new_record, place_of, to_target, unwound_locally, again, searching, asks_at, asks_on, continued, if_finally, jumping, asked_row, by_sign, by_answer, answered, if_searching, filter_returned, if_unwinding, finally_returned, by_vectored_answer, if_vectored, vectored_returned, eax, entered, in_hand}
use Rattle.x64_decoded.specs.Fixed.{KeepsFixed}
use Rattle.x64_decoded.proofs.Keeping.{keeps_same, keeps_then, stores_keep}
use Rattle.host_model.proofs.FixedPlacing.{placing_keeps}

-- the memory of a turn that continues
abbrev pub Keeps : Memory → Turn → Type 0
Keeps m (Continues u es) = KeepsFixed m u.memory
Keeps m (Ends es e) = Unit {0}

pub with_event_keeps : (m : Memory) (e : Event) (x : Turn) → Keeps m x → Keeps m (with_event e x)
with_event_keeps m e (Continues u es) k = k
with_event_keeps m e (Ends es end) k = tt

-- from a memory that keeps what is fixed in the first
from : (m n : Memory) (x : Turn) → KeepsFixed m n → Keeps n x → Keeps m x
from m n (Continues u es) h k = keeps_then m n u.memory h k
from m n (Ends es e) h k = tt

placing : (s : State) (at : ℕ) (r : DispatchRecord) (go : State → Turn)
    → ((u : State) → Keeps u.memory (go u)) → Keeps s.memory (after_placing s at r go)
placing s at r go h = by (misplaced s.memory at) refl
  where
    by : (o : Option ℕ) → misplaced s.memory at ≡ o → Keeps s.memory (if_placed s at r go o)
    by (Some a) e = tt
    by None e = from s.memory (placed s.memory at r)
        (go (record s { memory = placed s.memory at r }))
        (placing_keeps s.memory at r e) (h (record s { memory = placed s.memory at r }))

entering : (u : State) (at back : ℕ) → KeepsFixed u.memory
    (after_store u.memory (return_address_at at) W64 back)
entering u at back = stores_keep u.memory (return_address_at at) back W64 (omega arith)

land_keeps : (s : State) (r : DispatchRecord) (c : Context) → Keeps s.memory (land s r c)
land_keeps s r c = by r.kind
  where
    by : (k : Kind) → Keeps s.memory (by_purpose s r c k)
    by Search = keeps_same s.memory
    by ExceptionUnwind = keeps_same s.memory
    by LocalUnwind = keeps_same s.memory
    by Vectored = keeps_same s.memory

unwound_keeps : (s : State) (at : ℕ) (r : DispatchRecord) (x : UnwindResult)
    → Keeps s.memory (after_unwind s at r x)
unwound_keeps s at r (unwinds.Finally handler frame row walk) = placing s at
    (in_hand r frame row walk)
    (λ u. Continues (entered u at finally_return handler 1 frame) [])
    (λ u. entering u at finally_return)
unwound_keeps s at r (unwinds.Land c) = land_keeps s r c
unwound_keeps s at r (unwinds.Stop y) = tt

unwinds_keep : (t : Functions) (s : State) (at : ℕ) (r : DispatchRecord)
    → Keeps s.memory (unwinds_on t s at r)
unwinds_keep t s at r = unwound_keeps s at r
    (unwind steps t s.memory r.target_frame r.target (walk_in r))

accepted_keeps : (t : Functions) (s : State) (at : ℕ) (r : DispatchRecord) (frame target : ℕ)
    → Keeps s.memory (accepted t s at r frame target)
accepted_keeps t s at r frame target = placing s at (accepting r frame target)
    (λ u. unwinds_on t u at (accepting r frame target))
    (λ u. unwinds_keep t u at (accepting r frame target))

searched_keeps : (t : Functions) (s : State) (at : ℕ) (r : DispatchRecord) (x : SearchResult)
    → Keeps s.memory (after_search t s at r x)
searched_keeps t s at r (searches.Filter handler frame row walk) = placing s at
    (in_hand r frame row walk)
    (λ u. Continues (entered u at filter_return handler ((at + POINTERS_AT) % 2 ^ 64) frame) [])
    (λ u. entering u at filter_return)
searched_keeps t s at r (searches.Accept frame target) = accepted_keeps t s at r frame target
searched_keeps t s at r searches.Nobody = tt
searched_keeps t s at r (searches.Stop y) = tt

searches_keep : (t : Functions) (s : State) (at : ℕ) (r : DispatchRecord)
    → Keeps s.memory (searches_on t s at r)
searches_keep t s at r = searched_keeps t s at r (search steps t s.memory (walk_in r))

asking_keeps : (t : Functions) (s : State) (at : ℕ) (r : DispatchRecord) (o : Option ℕ)
    → Keeps s.memory (asks_at t s at r o)
asking_keeps t s at r (Some handler) = placing s at r
    (λ u. Continues (entered u at vectored_return handler ((at + POINTERS_AT) % 2 ^ 64) 0) [])
    (λ u. entering u at vectored_return)
asking_keeps t s at r None = placing s at (searching r) (λ u. searches_on t u at (searching r))
    (λ u. searches_keep t u at (searching r))

asks_keep : (t : Functions) (s : State) (at : ℕ) (r : DispatchRecord)
    → Keeps s.memory (asks_on t s at r)
asks_keep t s at r = asking_keeps t s at r (slice_get s.vectored r.row)

pub raised_keeps : (t : Functions) (s : State) (code : Code) (flags : ℕ)
    (access : Option (Bool × ℕ)) (saved : Cpu)
    → Keeps s.memory (raised t s code flags access saved)
raised_keeps t s code flags access saved = with_event_keeps s.memory _
    (raising t s code flags access saved)
    (asks_keep t s (place_of saved) (new_record Vectored code flags access saved))

pub locally_keeps : (t : Functions) (s : State) (frame target : ℕ) (saved : Cpu)
    → Keeps s.memory (unwound_locally t s frame target saved)
locally_keeps t s frame target saved = placing s (place_of saved) (to_target saved frame target)
    (λ u. unwinds_on t u (place_of saved) (to_target saved frame target))
    (λ u. unwinds_keep t u (place_of saved) (to_target saved frame target))

continued_keeps : (t : Functions) (s : State) (at : ℕ) (r : DispatchRecord) (b : Bool)
    → Keeps s.memory (continued t s at r b)
continued_keeps t s at r true = keeps_same s.memory
continued_keeps t s at r false = with_event_keeps s.memory _ (asks_on t s at (again r))
    (asks_keep t s at (again r))

jumping_keeps : (t : Functions) (s : State) (at : ℕ) (r : DispatchRecord) (o : Option ScopeRecord)
    → Keeps s.memory (jumping t s at r o)
jumping_keeps t s at r None = tt
jumping_keeps t s at r (Some row) = by (row.jump_target == 0)
  where
    by : (b : Bool) → Keeps s.memory (if_finally t s at r row.jump_target b)
    by true = tt
    by false = accepted_keeps t s at r r.frame _

sign_keeps : (t : Functions) (s : State) (at : ℕ) (r : DispatchRecord) (b : Bool)
    → Keeps s.memory (by_sign t s at r b)
sign_keeps t s at r true = continued_keeps t s at r (r.flags % 2 == 0)
sign_keeps t s at r false = jumping_keeps t s at r (asked_row t r)

answer_keeps : (t : Functions) (s : State) (at : ℕ) (r : DispatchRecord) (v : ℕ) (b : Bool)
    → Keeps s.memory (by_answer t s at r v b)
answer_keeps t s at r v true = searches_keep t s at r
answer_keeps t s at r v false = sign_keeps t s at r (nat_le (half W32) v)

pub filter_keeps : (t : Functions) (s : State) (at : ℕ) (o : Option DispatchRecord)
    → Keeps s.memory (filter_returned t s at o)
filter_keeps t s at None = tt
filter_keeps t s at (Some r) = by (is_search r.kind)
  where
    by : (b : Bool) → Keeps s.memory (if_searching t s at r b)
    by true = with_event_keeps s.memory _ (answered t s at r (eax s))
        (answer_keeps t s at r (eax s) (eax s == 0))
    by false = tt

pub finally_keeps : (t : Functions) (s : State) (at : ℕ) (o : Option DispatchRecord)
    → Keeps s.memory (finally_returned t s at o)
finally_keeps t s at None = tt
finally_keeps t s at (Some r) = by (is_unwinding r.kind)
  where
    by : (b : Bool) → Keeps s.memory (if_unwinding t s at r b)
    by true = unwinds_keep t s at r
    by false = tt

vectored_answer_keeps : (t : Functions) (s : State) (at : ℕ) (r : DispatchRecord) (b : Bool)
    → Keeps s.memory (by_vectored_answer t s at r b)
vectored_answer_keeps t s at r true = continued_keeps t s at r (r.flags % 2 == 0)
vectored_answer_keeps t s at r false = asks_keep t s at (record r { row = r.row + 1 })

pub vectored_keeps : (t : Functions) (s : State) (at : ℕ) (o : Option DispatchRecord)
    → Keeps s.memory (vectored_returned t s at o)
vectored_keeps t s at None = tt
vectored_keeps t s at (Some r) = by (is_vectored r.kind)
  where
    by : (b : Bool) → Keeps s.memory (if_vectored t s at r b)
    by true = vectored_answer_keeps t s at r (nat_le (half W32) (eax s))
    by false = tt
