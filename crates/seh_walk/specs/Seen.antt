-- What the code finds at a state of a walk, as the definitions see it.
use Rattle.std.specs.Prelude.{ℕ, Bool, true, false, nat_lt, Option, Some, None, Result, Ok, Err}
use Rattle.seh_num.specs.declared.end.Reason.TheVariants as reasons
use Rattle.eh_tables.specs.declared.lookup.FunctionEntry.{FunctionEntry}
use Rattle.eh_tables.specs.Infos.{Info}
use Rattle.virtual_unwind.specs.declared.frame.Caller.{Caller}
use Rattle.virtual_unwind.specs.declared.refusal.UnwindErr.{UnwindErr}
use Rattle.virtual_unwind.specs.Contexts.{rsp}
use Rattle.virtual_unwind.specs.CallerOf.{Functions, entry_of, asked_in}
use Rattle.seh_records.specs.declared.dispatch.Kind.{Kind}
use Rattle.seh_records.specs.declared.dispatch.Kind.TheVariants.{Search, ExceptionUnwind, LocalUnwind, Vectored}
use Rattle.seh_records.specs.declared.dispatch.DispatchRecord.{DispatchRecord}
use Rattle.seh_records.specs.declared.refusal.BadRecord.{BadRecord}
use Rattle.seh_walk.specs.declared.walk.WalkState.{WalkState}
use Rattle.seh_walk.specs.declared.walk.WalkItem as code
use Rattle.seh_walk.specs.declared.walk.WalkItem.TheVariants as items
use Rattle.seh_walk.specs.Walk.{Visited, Over, Past, Frame, Broken, stop_cause, refusal, saved_in, walk_in}

-- what is asked at a frame is that of the entry which holds RIP
abbrev pub seen : Functions → WalkState → code.WalkItem → Visited
seen t w items.Over = Over
seen t w (items.Past u) = Past u
seen t w (items.Frame c u) =
    Frame (record {
      frame = c.frame;
      context = c.context;
      asked = asked_in c.in_body (entry_of t w.context.rip);
    }) u
seen t w (items.Broken y) = Broken y

-- in the body of an entry that a look-up has found, its info
abbrev pub asked_found : Bool → Option FunctionEntry → Option Info
asked_found true (Some e) = Some e.info
asked_found true None = None
asked_found false o = None

-- ---- what the code answers

abbrev pub bad_item : ℕ → code.WalkItem
bad_item at = items.Broken (stop_cause reasons.BadRecord at)

abbrev pub if_above_item : ℕ → WalkState → Bool → code.WalkItem
if_above_item at w true = items.Past w
if_above_item at w false = items.Broken (stop_cause reasons.Backward at)

abbrev pub above_item : ℕ → WalkState → code.WalkItem
above_item at w = if_above_item at w (nat_lt at (rsp w.context))

abbrev pub searching_item : ℕ → DispatchRecord → Kind → code.WalkItem
searching_item at r Search = above_item at (saved_in r)
searching_item at r ExceptionUnwind = bad_item at
searching_item at r LocalUnwind = bad_item at
searching_item at r Vectored = bad_item at

abbrev pub unwinding_item : ℕ → DispatchRecord → Kind → code.WalkItem
unwinding_item at r Search = bad_item at
unwinding_item at r ExceptionUnwind = above_item at (walk_in r)
unwinding_item at r LocalUnwind = above_item at (walk_in r)
unwinding_item at r Vectored = bad_item at

abbrev pub vectored_item : ℕ → DispatchRecord → Kind → code.WalkItem
vectored_item at r Search = bad_item at
vectored_item at r ExceptionUnwind = bad_item at
vectored_item at r LocalUnwind = bad_item at
vectored_item at r Vectored = above_item at (saved_in r)

abbrev pub filter_item : ℕ → Result DispatchRecord BadRecord → code.WalkItem
filter_item at (Ok r) = searching_item at r r.kind
filter_item at (Err e) = bad_item at

abbrev pub finally_item : ℕ → Result DispatchRecord BadRecord → code.WalkItem
finally_item at (Ok r) = unwinding_item at r r.kind
finally_item at (Err e) = bad_item at

abbrev pub vectored_return_item : ℕ → Result DispatchRecord BadRecord → code.WalkItem
vectored_return_item at (Ok r) = vectored_item at r r.kind
vectored_return_item at (Err e) = bad_item at

abbrev pub item_of : Result Caller UnwindErr → code.WalkItem
item_of (Ok c) = items.Frame c (record { context = c.context; row = 0 })
item_of (Err e) = items.Broken (refusal e)
