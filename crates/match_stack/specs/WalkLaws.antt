-- What holds of every stack.
use Rattle.std.specs.Prelude.{◌≡◌, ℕ, ◌+◌, ◌^◌, ◌<◌, ◌≤◌, true, false, List, [], ◌∷◌, ◌++◌, length, None}
use Rattle.flat_memory.specs.Memory.{Memory, with_bytes, first_refused, may_read}
use Rattle.x64_machine.specs.declared.context.Context.{Context}
use Rattle.x64_machine.specs.Contexts.{context_of}
use Rattle.virtual_unwind.specs.Contexts.{rsp}
use Rattle.virtual_unwind.specs.CallerOf.{Functions}
use Rattle.seh_records.specs.declared.dispatch.DispatchRecord.{DispatchRecord}
use Rattle.seh_records.specs.Record.{placed}
use Rattle.seh_records.specs.Laws.{RecordFits, AreBytes}
use Rattle.seh_records.specs.declared.layout.TheConstants.{RECORD_SIZE}
use Rattle.seh_walk.specs.Walk as walk
use Rattle.seh_walk.specs.Walk.{visited, saved_in, walk_in, is_unwinding, finally_return}
use Rattle.seh_search.specs.Search.{search}
use Rattle.seh_unwind.specs.Unwind.{unwind}
use Rattle.match_stack.specs.Stack.{StackFrame, StackItem, Framed, Leaf, Searching, Unwinding, ItemIsAt, IsStack, is_asking, answer_return, Owned, Agree, IsBetween, after_frame, after_leaf, caller_frame, caller_of_leaf, context_at}
use Rattle.match_stack.specs.PlainWalks.{state, plain_search, plain_unwind}

-- ---- what a walk comes to

-- a frame is visited, and then its caller
abbrev pub FrameIsVisited : Type 0
FrameIsVisited =
    (t : Functions) (m : Memory) (c : Context) (row : ℕ) (f : StackFrame)
    → ItemIsAt t m c (Framed f)
    → visited t m (state c row) ≡ walk.Frame (caller_frame c f) (state (after_frame c f) 0)

-- a leaf function is visited, and then its caller
abbrev pub LeafIsVisited : Type 0
LeafIsVisited =
    (t : Functions) (m : Memory) (c : Context) (row back : ℕ) → ItemIsAt t m c (Leaf back)
    → visited t m (state c row) ≡ walk.Frame (caller_of_leaf c back) (state (after_leaf c back) 0)

-- past a search the walk is in its saved state
abbrev pub SearchIsPassed : Type 0
SearchIsPassed =
    (t : Functions) (m : Memory) (c : Context) (row : ℕ) (r : DispatchRecord)
    → ItemIsAt t m c (Searching r)
    → visited t m (state c row) ≡ walk.Past (saved_in r)

-- past an unwinding the walk is where the unwinding is
abbrev pub UnwindingIsPassed : Type 0
UnwindingIsPassed =
    (t : Functions) (m : Memory) (c : Context) (row : ℕ) (r : DispatchRecord)
    → ItemIsAt t m c (Unwinding r)
    → visited t m (state c row) ≡ walk.Past (walk_in r)

-- below the last frame the walk is over
abbrev pub StackIsOver : Type 0
StackIsOver =
    (t : Functions) (m : Memory) (c : Context) (row : ℕ) → IsStack t m c []
    → visited t m (state c row) ≡ walk.Over

-- ---- what keeps a stack

-- other bytes may change
abbrev pub KeptByOtherStores : Type 0
KeptByOtherStores =
    (t : Functions) (m : Memory) (byte : ℕ → ℕ) (c : Context) (is : List StackItem)
    → Agree m byte (Owned c is)
    → IsStack t m c is → IsStack t (with_bytes m byte) c is

-- no address below the stack pointer is owned
abbrev pub NothingBelowIsOwned : Type 0
NothingBelowIsOwned =
    (t : Functions) (m : Memory) (c : Context) (is : List StackItem) (a : ℕ) → IsStack t m c is
    → a < rsp c → Owned c is a → ⊥

-- the slots of a frame aren't owned, wherever it is in the list
abbrev pub SlotsAreFree : Type 0
SlotsAreFree =
    (t : Functions) (m : Memory) (c : Context) (inner : List StackItem) (f : StackFrame)
    (outer : List StackItem) (a : ℕ)
    → IsStack t m c (inner ++ (Framed f ∷ outer))
    → IsBetween a (rsp (context_at c inner)) (rsp (context_at c inner) + f.slots)
    → Owned c (inner ++ (Framed f ∷ outer)) a → ⊥

-- ---- one item more

-- at a return address of the host, with RSP at a record
abbrev pub context_below : ℕ → ℕ → List ℕ → Context
context_below address at others = record { rip = address; kept = at ∷ others }

-- a record can be placed below a context
pub record CanBePlaced (m : Memory) (at : ℕ) (r : DispatchRecord) (above : Context) : Type 0 where
  pub fits : RecordFits r
  pub below : at + RECORD_SIZE ≤ rsp above
  pub small : rsp above < 2 ^ 64
  pub bytes : AreBytes m.byte
  pub readable : first_refused (may_read m) RECORD_SIZE at ≡ None
  pub not_code : (x : ℕ) → IsBetween x (at + 32) (at + RECORD_SIZE)
      → (m.protection x).execute ≡ false

pub record RecordsAreItems (t : Functions) (m : Memory) (is : List StackItem) (r : DispatchRecord)
    (at : ℕ) (others : List ℕ) : Type 0 where
  pub search :
      is_asking r.kind ≡ true → CanBePlaced m at r (context_of r.saved)
      → IsStack t m (context_of r.saved) is
      → IsStack t (placed m at r) (context_below (answer_return r.kind) at others)
      (Searching r ∷ is)
  pub unwinding :
      is_unwinding r.kind ≡ true → CanBePlaced m at r r.walk → IsStack t m r.walk is
      → IsStack t (placed m at r) (context_below finally_return at others) (Unwinding r ∷ is)

abbrev pub RecordIsOneMore : Type 0
RecordIsOneMore =
    (t : Functions) (m : Memory) (is : List StackItem) (r : DispatchRecord) (at : ℕ)
    (others : List ℕ) → RecordsAreItems t m is r at others

-- ---- searches and unwindings are those of the list

-- a search gives what a search over the list gives
abbrev pub SearchIsOfTheList : Type 0
SearchIsOfTheList =
    (t : Functions) (m : Memory) (c : Context) (row : ℕ) (is : List StackItem) (n : ℕ)
    → IsStack t m c is → length is < n
    → search n t m (state c row) ≡ plain_search t c row is

-- an unwinding gives what an unwinding over the list gives
abbrev pub UnwindingIsOfTheList : Type 0
UnwindingIsOfTheList =
    (t : Functions) (m : Memory) (frame target : ℕ) (c : Context) (row : ℕ) (is : List StackItem)
    (n : ℕ) → IsStack t m c is → length is < n
    → unwind n t m frame target (state c row) ≡ plain_unwind t frame target c row is
