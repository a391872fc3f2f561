-- What a walk gives of a stack, and chains of instructions that keep the shadow.
use Rattle.std.proofs.Common.{◌≡◌, ℕ, zero, suc, ◌+◌, List, [], ◌∷◌, sym, subst, arith}
use Rattle.match_bodies.specs.Words.{Memory, Context, context_of, State, rsp, Functions, Funclet, Reaches, StackItem, Framed, Leaf, Searching, Unwinding, IsStack, after_frame, after_leaf, caller_frame, caller_of_leaf, state, GivesCallers, AllKeep}
use Rattle.match_bodies.proofs.Lemmas.{set_head, frame_is_visited, leaf_is_visited, search_is_passed, unwinding_is_passed, past_frame, past_host, at_end, HeadAbove, head_above, keep_first}
pub use Rattle.match_bodies.specs.Callers.{callers}

-- the walk gives them
pub on_stack : (t : Functions) (m : Memory) (c : Context) (row : ℕ) (is : List StackItem)
    → IsStack t m c is → GivesCallers t m (state c row) (callers c is)
on_stack t m c row [] s = at_end t m (state c row) s
on_stack t m c row (Framed f ∷ is) s = past_frame t m (state c row) (caller_frame c f)
    (state (after_frame c f) 0) (callers (after_frame c f) is) (frame_is_visited t m c row f s.0)
    (on_stack t m (after_frame c f) 0 is s.1)
on_stack t m c row (Leaf back ∷ is) s = past_frame t m (state c row) (caller_of_leaf c back)
    (state (after_leaf c back) 0) (callers (after_leaf c back) is)
    (leaf_is_visited t m c row back s.0) (on_stack t m (after_leaf c back) 0 is s.1)
on_stack t m c row (Searching r ∷ is) s = past_host t m (state c row) (state (context_of r.saved) 0)
    (callers (context_of r.saved) is) (search_is_passed t m c row r s.0)
    (on_stack t m (context_of r.saved) 0 is s.1)
on_stack t m c row (Unwinding r ∷ is) s = past_host t m (state c row) (state r.walk r.row)
    (callers r.walk is) (unwinding_is_passed t m c row r s.0) (on_stack t m r.walk r.row is s.1)

-- each of them continues above the context where the list is
pub stack_rises : (t : Functions) (m : Memory) (c : Context) (is : List StackItem)
    → IsStack t m c is → HeadAbove (rsp c) (callers c is)
stack_rises t m c [] s = tt
stack_rises t m c (Framed f ∷ is) s = omega arith
stack_rises t m c (Leaf back ∷ is) s = let up = set_head c.kept (rsp c + 8)
    (let k = s.0.kept in omega arith) in omega arith
stack_rises t m c (Searching r ∷ is) s = let a = s.0.above in
    head_above (rsp c) (rsp (context_of r.saved)) (callers (context_of r.saved) is) (omega arith)
    (stack_rises t m (context_of r.saved) is s.1)
stack_rises t m c (Unwinding r ∷ is) s = let a = s.0.above in
    head_above (rsp c) (rsp r.walk) (callers r.walk is) (omega arith)
    (stack_rises t m r.walk is s.1)

module _ (t : Functions) (fs : List Funclet) where
  -- one chain of instructions after another
  pub keep_then : (m n : ℕ) (s u : State) → Reaches m s u → AllKeep t fs m s → AllKeep t fs n u
      → AllKeep t fs (m + n) s
  keep_then zero n s u r before after =
      let e : n ≡ 0 + n = omega arith in
      subst (λ k. AllKeep t fs k s) e (subst (AllKeep t fs n) (sym r) after)
  keep_then (suc m) n s u r before after =
      let e : suc (m + n) ≡ suc m + n = omega arith in
      let first = before r.0 r.1.steps.steps in
      subst (λ k. AllKeep t fs k s) e (keep_first t fs (m + n) s r.0 r.1.steps.steps first.0
      (keep_then m n r.0 u r.2 first.1 after))
