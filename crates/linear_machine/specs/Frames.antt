-- What a run of linear code consists of: the body that runs, and what waits below it.
--
-- The main definitions: `Configuration`, `functions_in`.
use Rattle.std.specs.Prelude.{ℕ, ◌+◌, Bool, true, false, nat_eq, nat_le, nat_lt, if◌then◌else◌, List, [], ◌∷◌, ◌++◌, length, drop, take, slice_get, slice_index, slice_set, Option, Some, None}
use Rattle.seh_num.specs.declared.event.Event.{Event}
use Rattle.flat_memory.specs.Memory.{Memory}
use Rattle.linear_code.specs.declared.slot.Slot.{Slot}
use Rattle.linear_code.specs.declared.slot.Slot.TheVariants.{Local, Temporary}
use Rattle.linear_code.specs.declared.program.Region.{Region}
use Rattle.linear_code.specs.Program.{LinearProgram, LinearBody, LinearFunction, LinearFunclet, weight}
use Rattle.source_meaning.specs.declared.ended.Ended.{Ended}
use Rattle.source_meaning.specs.declared.ended.Ended.TheVariants.{Deep}
use Rattle.source_meaning.specs.State.{Exception}
use Rattle.source_meaning.specs.declared.depth.TheConstants.{DEEPEST, TOO_DEEP}

-- ---- bodies

-- a function or a funclet, by its number
pub data BodyName : Type 0 where
  FunctionBody : ℕ → BodyName
  FuncletBody : ℕ → BodyName

-- the body of a function, if there is one
abbrev pub function_body : Option LinearFunction → Option LinearBody
function_body None = None
function_body (Some f) = Some f.body

-- how many parts the frame of a function may have, if there is one
abbrev pub weight_of : Option LinearFunction → ℕ
weight_of None = 1
weight_of (Some f) = weight f

-- the body of a funclet, if there is one
abbrev pub funclet_body : Option LinearFunclet → Option LinearBody
funclet_body None = None
funclet_body (Some f) = Some f.body

-- the body of that name
abbrev pub body_of : LinearProgram → BodyName → Option LinearBody
body_of program (FunctionBody f) = function_body (slice_get program.functions f)
body_of program (FuncletBody k) = funclet_body (slice_get program.funclets k)

-- ---- what waits

-- a body that runs or waits: its name; the number of its next instruction, or of the one that it
-- waits in; the activation whose locals it works on; in a filter, the exception that it is asked
-- about; what is held here of the depth beside the live activations: 2 for each filter and
-- `__finally` block that runs, or that an unwinding has left, and 1 for each activation that one
-- has left, until it lands; its temporaries; and where it has just taken over for an exception, the
-- exception's code
pub record Frame : Type 0 where
  pub body : BodyName
  pub next : ℕ
  pub activation : ℕ
  pub exception : Exception
  pub held : ℕ
  pub temporaries : List ℕ
  pub landed : Option ℕ

-- a handler that a search comes to: its filter, if it has one, the activation that the filter works
-- on, how many items wait below its frame, and where its block begins
pub record Handler : Type 0 where
  pub filter : Option ℕ
  pub activation : ℕ
  pub depth : ℕ
  pub target : ℕ

-- where an unwinding goes: to a frame, by the number of items below it, and an instruction of its
-- body; for an `__except` block with the exception's code; and what is held there so far, which
-- grows by 1 for each activation that it leaves
pub record Target : Type 0 where
  pub depth : ℕ
  pub label : ℕ
  pub code : Option ℕ
  pub held : ℕ

-- how a body continues where a filter continues its exception: after a call of RaiseException, with
-- the result 0, or by the same operation again
pub data Resumption : Type 0 where
  AfterCall : Resumption
  SameOperation : Resumption

-- what a search waits for: the answer of a handler's filter, with the handlers that come next; or
-- that of the vectored handler at a place of their list
pub data Asked : Type 0 where
  FilterOf : Handler → List Handler → Asked
  VectoredAt : ℕ → Asked

-- what waits: a body; a search, until what it has asked answers; an unwinding, until a `__finally`
-- block ends, with the regions of the body below that it has yet to leave
pub data Item : Type 0 where
  Waits : Frame → Item
  Searches : Exception → Resumption → Asked → Item
  Unwinds : List Region → Target → Item

-- the functions of bodies, innermost first, with one body more inside them; a funclet works on the
-- activation of a function outside it
abbrev pub with_function : BodyName → List ℕ → List ℕ
with_function (FunctionBody f) fs = f ∷ fs
with_function (FuncletBody k) fs = fs

-- the functions that wait, innermost first
abbrev pub functions_in : List Item → List ℕ
functions_in [] = []
functions_in (Waits f ∷ items) = with_function f.body (functions_in items)
functions_in (Searches exc resumption asked ∷ items) = functions_in items
functions_in (Unwinds rs target ∷ items) = functions_in items

-- memory, the locals of the live activations, outermost first, and the vectored handlers, by the
-- numbers of their functions, in the order in which they are asked
pub record Store : Type 0 where
  pub memory : Memory
  pub activations : List (List ℕ)
  pub vectored : List ℕ

-- the body that runs, what waits below it on one list, innermost first (bodies, suspended searches,
-- suspended unwindings), the locals of the live activations with the memory, and the events so far
pub record Configuration : Type 0 where
  pub frame : Frame
  pub below : List Item
  pub store : Store
  pub events : List Event

-- ---- what is seen

-- what is seen of a run: the events so far, while it continues; its end; or a place from which no
-- rule leads on
pub data Seen : Type 0 where
  Running : List Event → Seen
  Finished : Ended → List Event → Seen
  Stuck : List Event → Seen

-- what is seen from a configuration on
abbrev pub Next : Type 0
Next = Configuration → Seen

-- the first where the test holds, else the second
unfoldable pub pick : Bool → Seen → Seen → Seen
pick true a b = a
pick false a b = b

-- where there is nothing, no rule leads on
unfoldable pub with_some : {A : Type 0} → List Event → Option A → (A → Seen) → Seen
with_some es None go = Stuck es
with_some es (Some x) go = go x

-- continues unless the depth would rise above the greatest: 1 for each live activation, and what
-- is held
abbrev pub deeper : ℕ → ℕ → Store → List Event → Seen → Seen
deeper n held store es seen =
    pick (nat_lt DEEPEST (length store.activations + held + n)) (Finished (Deep TOO_DEEP) es) seen

-- ---- slots

-- the locals of an activation
abbrev pub locals_of : Store → ℕ → List ℕ
locals_of s k = elim (slice_get s.activations k) [ Some locals ↦ locals | None ↦ [] ]

-- a local of an activation
abbrev pub local_of : Store → ℕ → ℕ → ℕ
local_of s k x = slice_index (locals_of s k) x

-- the store with another number in a local
abbrev pub set_local : Store → ℕ → ℕ → ℕ → Store
set_local s k x v =
    record s { activations = slice_set s.activations k (slice_set (locals_of s k) x v) }

-- the number in a slot, unless it is a temporary that isn't there
abbrev pub read : Configuration → Slot → Option ℕ
read c (Local x) = Some (local_of c.store c.frame.activation x)
read c (Temporary i) = slice_get c.frame.temporaries i

-- a temporary is written after those before it, and those after it end
abbrev pub with_temporary : List ℕ → ℕ → ℕ → Option (List ℕ)
with_temporary ts i v = if nat_le i (length ts) then Some (take i ts ++ v ∷ []) else None

-- a configuration with these temporaries
abbrev pub with_temporaries : Configuration → Option (List ℕ) → Option Configuration
with_temporaries c None = None
with_temporaries c (Some ts) = Some (record c { frame = record c.frame { temporaries = ts } })

-- a configuration with a number in a slot, unless the temporary can't be written
abbrev pub write : Configuration → Slot → ℕ → Option Configuration
write c (Local x) v = Some (record c { store = set_local c.store c.frame.activation x v })
write c (Temporary i) v = with_temporaries c (with_temporary c.frame.temporaries i v)

-- so many temporaries from one on, which are the last
abbrev pub last_temporaries : List ℕ → ℕ → ℕ → Option (List ℕ)
last_temporaries ts first count =
    if nat_eq (length ts) (first + count) then Some (drop first ts) else None

-- ---- places

-- the configuration at another instruction of its body
abbrev pub at_label : ℕ → Configuration → Configuration
at_label label c = record c { frame = record c.frame { next = label } }

-- the configuration at the next instruction
abbrev pub forth : Configuration → Configuration
forth c = at_label (c.frame.next + 1) c

-- the configuration with these temporaries
abbrev pub with_last : List ℕ → Configuration → Configuration
with_last ts c = record c { frame = record c.frame { temporaries = ts } }
