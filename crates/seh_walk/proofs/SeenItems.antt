-- What the code finds at a state of a walk is what the definitions find.
use Rattle.std.proofs.Common.{◌≡◌, ℕ, Bool, true, false, ltb, Option, Some, None, Ok, Err, refl, sym, ap, ◌∙◌}
use Rattle.std.specs.Prelude.{Result}
use Rattle.eh_tables.specs.Infos.{Info}
use Rattle.eh_tables.specs.Tables.{Tables}
use Rattle.flat_memory.specs.Memory.{Memory}
use Rattle.virtual_unwind.specs.declared.frame.Caller.{Caller}
use Rattle.virtual_unwind.specs.declared.refusal.UnwindErr.{UnwindErr}
use Rattle.virtual_unwind.specs.Contexts.{rsp}
use Rattle.virtual_unwind.specs.Undone.{Answer}
use Rattle.virtual_unwind.specs.CallerOf.{Functions, CallerFrame, functions_of, caller_in, caller_of}
use Rattle.virtual_unwind.specs.Shown.{shown}
use Rattle.virtual_unwind.proofs.Asking.{the_entry_is_asked}
use Rattle.seh_records.specs.declared.dispatch.Kind.{Kind}
use Rattle.seh_records.specs.declared.dispatch.Kind.TheVariants.{Search, ExceptionUnwind, LocalUnwind, Vectored}
use Rattle.seh_records.specs.declared.dispatch.DispatchRecord.{DispatchRecord}
use Rattle.seh_records.specs.declared.refusal.BadRecord.{BadRecord}
use Rattle.seh_records.specs.Record.{fetch_answer}
use Rattle.seh_walk.specs.declared.walk.WalkState.{WalkState}
use Rattle.seh_walk.specs.declared.walk.WalkItem as code
use Rattle.seh_walk.specs.Walk as walk
use Rattle.seh_walk.specs.Walk.{above, if_above, framed, past_filter, past_finally, past_vectored}
use Rattle.seh_walk.specs.Seen.{seen, above_item, if_above_item, filter_item, finally_item, vectored_return_item, searching_item, unwinding_item, vectored_item, item_of}

above_seen : (t : Functions) (w u : WalkState) (at : ℕ) → seen t w (above_item at u) ≡ above at u
above_seen t w u at = go (ltb at (rsp u.context))
  where
    go : (b : Bool) → seen t w (if_above_item at u b) ≡ if_above at u b
    go true = refl
    go false = refl

filter_seen : (t : Functions) (w : WalkState) (at : ℕ) (o : Option DispatchRecord)
    → seen t w (filter_item at (fetch_answer at o)) ≡ past_filter at o
filter_seen t w at None = refl
filter_seen t w at (Some r) = go r.kind
  where
    go : (k : Kind) → seen t w (searching_item at r k)
        ≡ walk.if_kind at (above at (walk.saved_in r)) (walk.is_search k)
    go Search = above_seen t w (walk.saved_in r) at
    go ExceptionUnwind = refl
    go LocalUnwind = refl
    go Vectored = refl

finally_seen : (t : Functions) (w : WalkState) (at : ℕ) (o : Option DispatchRecord)
    → seen t w (finally_item at (fetch_answer at o)) ≡ past_finally at o
finally_seen t w at None = refl
finally_seen t w at (Some r) = go r.kind
  where
    go : (k : Kind) → seen t w (unwinding_item at r k)
        ≡ walk.if_kind at (above at (walk.walk_in r)) (walk.is_unwinding k)
    go Search = refl
    go ExceptionUnwind = above_seen t w (walk.walk_in r) at
    go LocalUnwind = above_seen t w (walk.walk_in r) at
    go Vectored = refl

vectored_seen : (t : Functions) (w : WalkState) (at : ℕ) (o : Option DispatchRecord)
    → seen t w (vectored_return_item at (fetch_answer at o)) ≡ past_vectored at o
vectored_seen t w at None = refl
vectored_seen t w at (Some r) = go r.kind
  where
    go : (k : Kind) → seen t w (vectored_item at r k)
        ≡ walk.if_kind at (above at (walk.saved_in r)) (walk.is_vectored k)
    go Search = refl
    go ExceptionUnwind = refl
    go LocalUnwind = refl
    go Vectored = above_seen t w (walk.saved_in r) at

framed_seen : (t : Functions) (m : Memory) (w : WalkState) (a : Answer CallerFrame)
    → caller_in t m w.context ≡ a → seen t w (item_of (shown a)) ≡ framed a
framed_seen t m w (Ok f) e = ap (λ (o : Option Info). walk.Frame
    (record { frame = f.frame; context = f.context; asked = o })
    (record { context = f.context; row = 0 })) (sym (the_entry_is_asked t m w.context f e))
framed_seen t m w (Err e) h = refl

pub item_filter : (t : Functions) (w : WalkState) (at : ℕ) (o : Option DispatchRecord)
    (a : Result DispatchRecord BadRecord) (c : code.WalkItem) → c ≡ filter_item at a
    → a ≡ fetch_answer at o → seen t w c ≡ past_filter at o
item_filter t w at o a c e f = ap (seen t w) (e ∙ ap (filter_item at) f) ∙ filter_seen t w at o

pub item_finally : (t : Functions) (w : WalkState) (at : ℕ) (o : Option DispatchRecord)
    (a : Result DispatchRecord BadRecord) (c : code.WalkItem) → c ≡ finally_item at a
    → a ≡ fetch_answer at o → seen t w c ≡ past_finally at o
item_finally t w at o a c e f = ap (seen t w) (e ∙ ap (finally_item at) f) ∙ finally_seen t w at o

pub item_vectored : (t : Functions) (w : WalkState) (at : ℕ) (o : Option DispatchRecord)
    (a : Result DispatchRecord BadRecord) (c : code.WalkItem) → c ≡ vectored_return_item at a
    → a ≡ fetch_answer at o → seen t w c ≡ past_vectored at o
item_vectored t w at o a c e f = ap (seen t w) (e ∙ ap (vectored_return_item at) f)
    ∙ vectored_seen t w at o

pub item_frame : (t : Tables) (m : Memory) (w : WalkState) (a : Result Caller UnwindErr)
    (c : code.WalkItem) → c ≡ item_of a → a ≡ shown (caller_of t m w.context)
    → seen (functions_of t) w c ≡ framed (caller_in (functions_of t) m w.context)
unfolding caller_of
item_frame t m w a c e f = ap (seen (functions_of t) w) (e ∙ ap item_of f)
    ∙ framed_seen (functions_of t) m w (caller_in (functions_of t) m w.context) refl

pub ruleset items = (item_filter, item_finally, item_vectored, item_frame)
