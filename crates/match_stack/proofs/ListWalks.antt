-- Searches and unwindings over a stack are those of its list.
use Rattle.std.proofs.Common.{◌≡◌, ℕ, zero, suc, Bool, true, false, Option, Some, None, [], ◌∷◌, refl, ap, ◌∙◌, arith}
use Rattle.std.specs.Prelude.{nat_lt, nat_eq}
use Rattle.match_stack.specs.Words.{Context, context_of, rsp, Functions, distance, WalkState, AskedRecord, unwound, first_finally, SearchResult, search, UnwindResult, unwind, if_past, by_row, if_target, StackFrame, Framed, Leaf, Searching, Unwinding, after_frame, after_leaf, caller_frame, caller_of_leaf, state, chosen_or, asked_row, plain_search, decided_or, plain_unwind, continue_walk, SearchIsOfTheList, UnwindingIsOfTheList}
use Rattle.seh_walk.specs.Walk as walk
use Rattle.seh_search.specs.Search as searches
use Rattle.seh_unwind.specs.Unwind as unwinds
use Rattle.match_stack.proofs.ItemVisits.{frame_is_visited, leaf_is_visited, search_is_passed, unwinding_is_passed, stack_is_over}

-- ---- searches

chosen_either : (t : Functions) (c : Context) (others : WalkState → SearchResult) (u : WalkState)
    (plain : SearchResult) (o : Option AskedRecord) → others u ≡ plain
    → continue_walk others (searches.by_row t (rsp c) c u o) ≡ chosen_or t c plain o
chosen_either t c others u plain None e = e
chosen_either t c others u plain (Some r) e = refl

pub search_is_of_the_list : SearchIsOfTheList
unfolding search
search_is_of_the_list t m c row is zero s lt = absurd (omega arith)
search_is_of_the_list t m c row [] (suc k) s lt = ap
    (λ (i : walk.Visited). continue_walk (search k t m) (searches.decided t (state c row) i))
    (stack_is_over t m c row s)
search_is_of_the_list t m c row (Framed f ∷ is) (suc k) s lt =
    ap (λ (i : walk.Visited). continue_walk (search k t m) (searches.decided t (state c row) i))
    (frame_is_visited t m c row f s.0)
    ∙ chosen_either t c (search k t m) (state (after_frame c f) 0)
    (plain_search t (after_frame c f) 0 is) (asked_row t c row f)
    (search_is_of_the_list t m (after_frame c f) 0 is k s.1 (omega arith))
search_is_of_the_list t m c row (Leaf back ∷ is) (suc k) s lt =
    ap (λ (i : walk.Visited). continue_walk (search k t m) (searches.decided t (state c row) i))
    (leaf_is_visited t m c row back s.0) ∙ search_is_of_the_list t m (after_leaf c back) 0 is k
    s.1 (omega arith)
search_is_of_the_list t m c row (Searching r ∷ is) (suc k) s lt =
    ap (λ (i : walk.Visited). continue_walk (search k t m) (searches.decided t (state c row) i))
    (search_is_passed t m c row r s.0) ∙ search_is_of_the_list t m (context_of r.saved) 0 is k s.1
    (omega arith)
search_is_of_the_list t m c row (Unwinding r ∷ is) (suc k) s lt =
    ap (λ (i : walk.Visited). continue_walk (search k t m) (searches.decided t (state c row) i))
    (unwinding_is_passed t m c row r s.0) ∙ search_is_of_the_list t m r.walk r.row is k s.1
    (omega arith)

-- ---- unwindings

module _ (t : Functions) (others : WalkState → UnwindResult) (u : WalkState) (plain : UnwindResult)
    (e : others u ≡ plain) where
  target_either : (c : Context) (b : Bool) → continue_walk others (if_target u c b)
      ≡ decided_or plain (if_target u c b)
  target_either c true = refl
  target_either c false = e

  row_either : (frame : ℕ) (c : Context) (b : Bool) (o : Option AskedRecord)
      → continue_walk others (by_row t frame c u b o) ≡ decided_or plain (by_row t frame c u b o)
  row_either frame c b (Some r) = refl
  row_either frame c b None = target_either c b

  past_either : (frame target : ℕ) (c : Context) (row : ℕ) (f : StackFrame) (b : Bool)
      → continue_walk others (if_past t frame target (state c row) (caller_frame c f) u b)
      ≡ decided_or plain (if_past t frame target (state c row) (caller_frame c f) u b)
  past_either frame target c row f true = refl
  past_either frame target c row f false =
      row_either (rsp c) c (nat_eq (rsp c) frame)
      (first_finally (unwound (Some f.entry.info) (distance t.base c.rip) row
      (nat_eq (rsp c) frame) (distance t.base target)))

  leaf_either : (frame target : ℕ) (c : Context) (row back : ℕ) (b : Bool)
      → continue_walk others (if_past t frame target (state c row) (caller_of_leaf c back) u b)
      ≡ decided_or plain (if_past t frame target (state c row) (caller_of_leaf c back) u b)
  leaf_either frame target c row back true = refl
  leaf_either frame target c row back false = target_either c (nat_eq (rsp c) frame)

pub unwinding_is_of_the_list : UnwindingIsOfTheList
unfolding unwind
unwinding_is_of_the_list t m frame target c row is zero s lt = absurd (omega arith)
unwinding_is_of_the_list t m frame target c row [] (suc k) s lt =
    ap (λ (i : walk.Visited). continue_walk (unwind k t m frame target)
    (unwinds.decided t frame target (state c row) i)) (stack_is_over t m c row s)
unwinding_is_of_the_list t m frame target c row (Framed f ∷ is) (suc k) s lt =
    ap (λ (i : walk.Visited). continue_walk (unwind k t m frame target)
    (unwinds.decided t frame target (state c row) i)) (frame_is_visited t m c row f s.0)
    ∙ past_either t (unwind k t m frame target) (state (after_frame c f) 0)
    (plain_unwind t frame target (after_frame c f) 0 is)
    (unwinding_is_of_the_list t m frame target (after_frame c f) 0 is k s.1 (omega arith)) frame
    target c row f (nat_lt frame (rsp c))
unwinding_is_of_the_list t m frame target c row (Leaf back ∷ is) (suc k) s lt =
    ap (λ (i : walk.Visited). continue_walk (unwind k t m frame target)
    (unwinds.decided t frame target (state c row) i)) (leaf_is_visited t m c row back s.0)
    ∙ leaf_either t (unwind k t m frame target) (state (after_leaf c back) 0)
    (plain_unwind t frame target (after_leaf c back) 0 is)
    (unwinding_is_of_the_list t m frame target (after_leaf c back) 0 is k s.1 (omega arith)) frame
    target c row back (nat_lt frame (rsp c))
unwinding_is_of_the_list t m frame target c row (Searching r ∷ is) (suc k) s lt =
    ap (λ (i : walk.Visited). continue_walk (unwind k t m frame target)
    (unwinds.decided t frame target (state c row) i)) (search_is_passed t m c row r s.0)
    ∙ unwinding_is_of_the_list t m frame target (context_of r.saved) 0 is k s.1 (omega arith)
unwinding_is_of_the_list t m frame target c row (Unwinding r ∷ is) (suc k) s lt =
    ap (λ (i : walk.Visited). continue_walk (unwind k t m frame target)
    (unwinds.decided t frame target (state c row) i)) (unwinding_is_passed t m c row r s.0)
    ∙ unwinding_is_of_the_list t m frame target r.walk r.row is k s.1 (omega arith)
