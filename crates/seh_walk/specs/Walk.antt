-- The walk over frames: through the callers, and through the host's three return addresses at
-- the records there.
--
-- The main definition: `visited`.
use Rattle.std.specs.Prelude.{ℕ, Bool, true, false, ◌==◌, nat_lt, Option, Some, None, Result, Ok, Err}
use Rattle.seh_num.specs.declared.end.Reason.{Reason}
use Rattle.seh_num.specs.declared.end.Reason.TheVariants as reasons
use Rattle.flat_memory.specs.Memory.{Memory}
use Rattle.host_layout.specs.declared.service.Service.TheVariants.{FilterReturn, FinallyReturn, VectoredReturn}
use Rattle.x64_machine.specs.Contexts.{context_of}
use Rattle.host_layout.specs.Services.{address_of}
use Rattle.virtual_unwind.specs.declared.refusal.UnwindErr.{UnwindErr}
use Rattle.virtual_unwind.specs.declared.refusal.UnwindErr.TheVariants.{Unreadable, Backward}
use Rattle.virtual_unwind.specs.Contexts.{rsp}
use Rattle.virtual_unwind.specs.Undone.{Answer}
use Rattle.virtual_unwind.specs.CallerOf.{Functions, CallerFrame, caller_in}
use Rattle.seh_records.specs.declared.dispatch.Kind.{Kind}
use Rattle.seh_records.specs.declared.dispatch.Kind.TheVariants.{Search, ExceptionUnwind, LocalUnwind, Vectored}
use Rattle.seh_records.specs.declared.dispatch.DispatchRecord.{DispatchRecord}
use Rattle.seh_records.specs.Record.{fetched}
use Rattle.seh_walk.specs.declared.walk.WalkState.{WalkState}
use Rattle.seh_walk.specs.declared.stop_cause.StopCause.{StopCause}

abbrev pub filter_return : ℕ
filter_return = address_of FilterReturn

abbrev pub finally_return : ℕ
finally_return = address_of FinallyReturn

abbrev pub vectored_return : ℕ
vectored_return = address_of VectoredReturn

abbrev pub stop_cause : Reason → ℕ → StopCause
stop_cause r a = record { reason = r; address = a }

-- what a walk finds
pub data Visited : Type 0 where
  Over : Visited
  Past : WalkState → Visited  -- a return address of the host
  Frame : CallerFrame → WalkState → Visited  -- a frame, and what is above it
  Broken : StopCause → Visited

-- the kinds of records that wait at each of the host's return addresses: a filter's answer ...
abbrev pub is_search : Kind → Bool
is_search Search = true
is_search ExceptionUnwind = false
is_search LocalUnwind = false
is_search Vectored = false

-- ... the end of a `__finally` block ...
abbrev pub is_unwinding : Kind → Bool
is_unwinding Search = false
is_unwinding ExceptionUnwind = true
is_unwinding LocalUnwind = true
is_unwinding Vectored = false

-- ... and a vectored handler's answer
abbrev pub is_vectored : Kind → Bool
is_vectored Search = false
is_vectored ExceptionUnwind = false
is_vectored LocalUnwind = false
is_vectored Vectored = true

abbrev pub saved_in : DispatchRecord → WalkState
saved_in r = record { context = context_of r.saved; row = 0 }

abbrev pub walk_in : DispatchRecord → WalkState
walk_in r = record { context = r.walk; row = r.row }

abbrev pub if_above : ℕ → WalkState → Bool → Visited
if_above at w true = Past w
if_above at w false = Broken (stop_cause reasons.Backward at)

abbrev pub above : ℕ → WalkState → Visited
above at w = if_above at w (nat_lt at (rsp w.context))

abbrev pub bad : ℕ → Visited
bad at = Broken (stop_cause reasons.BadRecord at)

-- a record of another kind is bad
abbrev pub if_kind : ℕ → Visited → Bool → Visited
if_kind at i true = i
if_kind at i false = bad at

abbrev pub past_filter : ℕ → Option DispatchRecord → Visited
past_filter at None = bad at
past_filter at (Some r) = if_kind at (above at (saved_in r)) (is_search r.kind)

abbrev pub past_vectored : ℕ → Option DispatchRecord → Visited
past_vectored at None = bad at
past_vectored at (Some r) = if_kind at (above at (saved_in r)) (is_vectored r.kind)

abbrev pub past_finally : ℕ → Option DispatchRecord → Visited
past_finally at None = bad at
past_finally at (Some r) = if_kind at (above at (walk_in r)) (is_unwinding r.kind)

abbrev pub refusal : UnwindErr → StopCause
refusal (Unreadable a) = stop_cause reasons.Unreadable a
refusal (Backward a) = stop_cause reasons.Backward a

abbrev pub framed : Answer CallerFrame → Visited
framed (Ok f) = Frame f (record { context = f.context; row = 0 })
framed (Err e) = Broken (refusal e)

-- by RIP: at the vectored return, at the finally return, at the filter return, at the end
abbrev pub if_vectored : Functions → Memory → WalkState → Bool → Visited
if_vectored t m w true = past_vectored (rsp w.context) (fetched m (rsp w.context))
if_vectored t m w false = framed (caller_in t m w.context)

abbrev pub if_finally : Functions → Memory → WalkState → Bool → Visited
if_finally t m w true = past_finally (rsp w.context) (fetched m (rsp w.context))
if_finally t m w false = if_vectored t m w (w.context.rip == vectored_return)

abbrev pub if_filter : Functions → Memory → WalkState → Bool → Visited
if_filter t m w true = past_filter (rsp w.context) (fetched m (rsp w.context))
if_filter t m w false = if_finally t m w (w.context.rip == finally_return)

abbrev pub if_over : Functions → Memory → WalkState → Bool → Visited
if_over t m w true = Over
if_over t m w false = if_filter t m w (w.context.rip == filter_return)

-- what a walk finds at a state: the end, a frame with its caller, one of the host's three return
-- addresses, or what stops it. Past such an address it continues at the record that is there.
unfoldable pub visited : Functions → Memory → WalkState → Visited
visited t m w = if_over t m w (w.context.rip == 0)

-- at most so many steps of a walk: RSP rises in each
abbrev pub steps : ℕ
steps = 0xFFFF_FFFF_FFFF_FFFF

-- a step decides, or the walk continues
abbrev pub continue_walk : {A : Type 0} → (WalkState → A) → Result WalkState A → A
continue_walk others (Ok u) = others u
continue_walk others (Err a) = a
