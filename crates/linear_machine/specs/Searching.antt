-- Raises, vectored handlers (Windows headers, `errhandlingapi.h`), and the search for a handler (C
-- reference, "Writing an exception handler").
use Rattle.std.specs.Prelude.{ℕ, ◌+◌, ◌^◌, nat_eq, nat_lt, List, [], ◌∷◌, ◌++◌, slice_get, Option, Some, None}
use Rattle.seh_num.specs.declared.width.Width.TheVariants.{W32}
use Rattle.seh_num.specs.declared.event.Event.{Event}
use Rattle.seh_num.specs.declared.event.Event.TheVariants as events
use Rattle.seh_num.specs.Widths.{low, signed}
use Rattle.linear_code.specs.Program.{LinearProgram, depth_weight}
use Rattle.source_meaning.specs.declared.ended.Ended.TheVariants.{Unhandled}
use Rattle.source_meaning.specs.State.{Exception}
use Rattle.source_meaning.specs.Raises.{noncontinuable, raise_event, handler_arguments}
use Rattle.linear_machine.specs.Frames.{FuncletBody, Handler, Target, Resumption, AfterCall, SameOperation, FilterOf, VectoredAt, Item, Waits, Searches, Store, Configuration, Seen, Finished, Stuck, Next, pick, with_some, deeper, forth, with_last}
use Rattle.linear_machine.specs.FunctionBegin.{begin_function}
use Rattle.linear_machine.specs.Regions.{handlers}
use Rattle.linear_machine.specs.Unwinding.{unwind}

-- the target of an unwinding to a handler's block
abbrev pub target_of : Handler → ℕ → ℕ → Target
target_of h code held = record { depth = h.depth; label = h.target; code = Some code; held = held }

-- a handler takes over for an exception of the frame that runs
abbrev pub accept : LinearProgram → Handler → Exception → Next → Configuration → Seen
accept program h exception next c =
    unwind program next (target_of h exception.code c.frame.held)
    (Waits c.frame ∷ c.below) None c.events c.store

-- a filter begins
abbrev pub begin_filter : ℕ → Handler → List Handler → Exception → Resumption → Configuration
    → Configuration
begin_filter k h rest exception resumption c = record {
  frame =
      record {
        body = FuncletBody k;
        next = 0;
        activation = h.activation;
        exception = exception;
        held = c.frame.held + 2;
        temporaries = [];
        landed = None;
      };
  below = Searches exception resumption (FilterOf h rest) ∷ Waits c.frame ∷ c.below;
  store = c.store;
  events = c.events ++ events.Filter (k + 1) ∷ [];
}

-- a handler's filter is asked, or it takes over at once
abbrev pub consult : LinearProgram → Option ℕ → Handler → List Handler → Exception → Resumption
    → Next → Configuration → Seen
consult program None h rest exception resumption next c = accept program h exception next c
consult program (Some k) h rest exception resumption next c =
    deeper 2 c.frame.held c.store c.events (next (begin_filter k h rest exception resumption c))

-- a search: its handlers in order; without one the exception is unhandled
abbrev pub search : LinearProgram → Next → List Handler → Exception → Resumption → Configuration
    → Seen
search program next [] exception resumption c =
    Finished (Unhandled (record { 0 = exception.code })) c.events
search program next (h ∷ rest) exception resumption c =
    consult program h.filter h rest exception resumption next c

-- ---- vectored handlers

-- one begins, which is a function: 2 are held while it runs
abbrev pub ask_vectored : LinearProgram → Next → (handler place : ℕ) → Exception → Resumption
    → Configuration → Seen
ask_vectored program next f place exception resumption c =
    with_some c.events (slice_get program.functions f) (λ function.
    deeper (2 + depth_weight function) c.frame.held c.store c.events
    (next (begin_function f function (handler_arguments exception) (c.frame.held + 2)
    (Searches exception resumption (VectoredAt place) ∷ Waits c.frame ∷ c.below) c.store c.events)))

-- the one at a place of the list as it stands, or past its end the handlers around the frame
abbrev pub ask_at : LinearProgram → Next → Option ℕ → (place : ℕ) → Exception → Resumption
    → Configuration → Seen
ask_at program next None place exception resumption c =
    search program next (handlers program (Waits c.frame ∷ c.below) None) exception resumption c
ask_at program next (Some f) place exception resumption c =
    ask_vectored program next f place exception resumption c

abbrev pub ask_from : LinearProgram → Next → (place : ℕ) → Exception → Resumption → Configuration
    → Seen
ask_from program next place exception resumption c =
    ask_at program next (slice_get c.store.vectored place) place exception resumption c

-- an exception is raised where the frame is
abbrev pub raise : LinearProgram → Next → Exception → Resumption → Configuration → Seen
raise program next exception resumption c =
    ask_from program next 0 exception resumption
    (record c { events = c.events ++ raise_event exception ∷ [] })

-- the result of a call goes to the temporary after those that waited
abbrev pub resumed : Resumption → Configuration → Configuration
resumed AfterCall c = forth (with_last (c.frame.temporaries ++ 0 ∷ []) c)
resumed SameOperation c = c

-- an exception is continued, unless it can't be
abbrev pub continued : LinearProgram → Next → Exception → Resumption → Configuration → Seen
continued program next exception resumption c =
    pick exception.flag (raise program next noncontinuable resumption c)
    (next (resumed resumption c))

-- a vectored handler's answer below 0 continues, and after any other the next one is asked
abbrev pub vectored_answered : LinearProgram → Next → ℕ → (place : ℕ) → Exception → Resumption
    → Configuration → Seen
vectored_answered program next v place exception resumption c =
    pick (nat_lt (low W32 v) (2 ^ 31))
    (ask_from program next (place + 1) exception resumption c)
    (continued program next exception resumption c)

-- a filter's answer, its low 32 bits, ends the wait of its search: above 0 takes over, 0 asks the
-- next, and below 0 continues
abbrev pub answered : LinearProgram → Next → ℕ → Exception → Resumption → Handler → List Handler
    → Configuration → Seen
answered program next v exception resumption h rest c =
    pick (nat_eq (low W32 v) 0) (search program next rest exception resumption c)
    (pick (nat_lt (low W32 v) (2 ^ 31)) (accept program h exception next c)
    (continued program next exception resumption c))

abbrev pub answer : LinearProgram → Next → ℕ → List Item → List Event → Store → Seen
answer program next v (Searches exception resumption (FilterOf h rest) ∷ Waits f ∷ below) es store =
    answered program next v exception resumption h rest
    (record {
      frame = f;
      below = below;
      store = store;
      events = es ++ events.Answer (signed W32 v) ∷ [];
    })
answer program next v items es store = Stuck es
