-- Searches and unwindings over a list of stack items, without a memory.
use Rattle.std.specs.Prelude.{ℕ, nat_lt, List, [], ◌∷◌, Option, Some, None, Result, Ok, Err}
use Rattle.x64_machine.specs.declared.context.Context.{Context}
use Rattle.x64_machine.specs.Contexts.{context_of}
use Rattle.virtual_unwind.specs.Contexts.{rsp}
use Rattle.virtual_unwind.specs.CallerOf.{Functions, distance}
use Rattle.seh_walk.specs.declared.walk.WalkState.{WalkState}
use Rattle.seh_walk.specs.Asked.{AskedRecord, searched, first_with_jump_target}
use Rattle.seh_search.specs.declared.search_result.SearchResult.{SearchResult}
use Rattle.seh_search.specs.declared.search_result.SearchResult.TheVariants.{Nobody}
use Rattle.seh_search.specs.Search.{chosen}
use Rattle.seh_unwind.specs.declared.unwind_result.UnwindResult.{UnwindResult}
use Rattle.seh_unwind.specs.Unwind.{lost, if_past}
use Rattle.match_stack.specs.Stack.{StackFrame, StackItem, Framed, Leaf, Searching, Unwinding, after_frame, after_leaf, caller_frame, caller_of_leaf}

-- a walk at a context, from a row on
abbrev pub state : Context → ℕ → WalkState
state c row = record { context = c; row = row }

-- ---- searching

-- the first row of a frame that is asked, from a row on
abbrev pub asked_row : Functions → Context → ℕ → StackFrame → Option AskedRecord
asked_row t c row f =
    first_with_jump_target (searched (Some f.entry.info) (distance t.base c.rip) row)

abbrev pub chosen_or : Functions → Context → SearchResult → Option AskedRecord → SearchResult
chosen_or t c others (Some r) = chosen t.base (rsp c) c r
chosen_or t c others None = others

-- a search over the list of the stack's items
abbrev pub plain_search : Functions → Context → ℕ → List StackItem → SearchResult
plain_search t c row [] = Nobody
plain_search t c row (Framed f ∷ is) =
    chosen_or t c (plain_search t (after_frame c f) 0 is) (asked_row t c row f)
plain_search t c row (Leaf back ∷ is) = plain_search t (after_leaf c back) 0 is
plain_search t c row (Searching r ∷ is) = plain_search t (context_of r.saved) 0 is
plain_search t c row (Unwinding r ∷ is) = plain_search t r.walk r.row is

-- ---- unwinding

abbrev pub decided_or : UnwindResult → Result WalkState UnwindResult → UnwindResult
decided_or others (Ok u) = others
decided_or others (Err a) = a

-- what the unwinding does in a frame
abbrev pub in_frame : Functions → ℕ → ℕ → Context → ℕ → StackFrame → Result WalkState UnwindResult
in_frame t frame target c row f =
    if_past t frame target (state c row) (caller_frame c f) (state (after_frame c f) 0)
    (nat_lt frame (rsp c))

abbrev pub in_leaf : Functions → ℕ → ℕ → Context → ℕ → ℕ → Result WalkState UnwindResult
in_leaf t frame target c row back =
    if_past t frame target (state c row) (caller_of_leaf c back) (state (after_leaf c back) 0)
    (nat_lt frame (rsp c))

-- an unwinding over the list of the stack's items
abbrev pub plain_unwind : Functions → ℕ → ℕ → Context → ℕ → List StackItem → UnwindResult
plain_unwind t frame target c row [] = lost frame
plain_unwind t frame target c row (Framed f ∷ is) =
    decided_or (plain_unwind t frame target (after_frame c f) 0 is)
    (in_frame t frame target c row f)
plain_unwind t frame target c row (Leaf back ∷ is) =
    decided_or (plain_unwind t frame target (after_leaf c back) 0 is)
    (in_leaf t frame target c row back)
plain_unwind t frame target c row (Searching r ∷ is) =
    plain_unwind t frame target (context_of r.saved) 0 is
plain_unwind t frame target c row (Unwinding r ∷ is) = plain_unwind t frame target r.walk r.row is
