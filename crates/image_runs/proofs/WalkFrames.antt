-- A walk over a stack gives its frames.
use Rattle.std.proofs.Common.{◌≡◌, ℕ, zero, suc, ◌<◌, Some, List, [], ◌∷◌, length, ap, ◌∙◌, arith}
use Rattle.image_runs.specs.Words.{Memory, Context, context_of, rsp, Functions, StackItem, Framed, Leaf, Searching, Unwinding, IsStack, after_frame, after_leaf, state}
use Rattle.image_runs.proofs.Lemmas.{frame_is_visited, leaf_is_visited, search_is_passed, unwinding_is_passed, stack_is_over}
use Rattle.match_runs.specs.Walked.{LiveFrame, with_frame, given_by, walked}

-- the frames of a list of stack items
abbrev pub frames : Context → List StackItem → List LiveFrame
frames c [] = []
frames c (Framed f ∷ is) = record { at = rsp c; caller = after_frame c f }
    ∷ frames (after_frame c f) is
frames c (Leaf back ∷ is) = record { at = rsp c; caller = after_leaf c back }
    ∷ frames (after_leaf c back) is
frames c (Searching r ∷ is) = frames (context_of r.saved) is
frames c (Unwinding r ∷ is) = frames r.walk is

-- in more steps than there are items
pub gives : (t : Functions) (m : Memory) (c : Context) (row : ℕ) (is : List StackItem) (n : ℕ)
    → IsStack t m c is → length is < n → walked n t m (state c row) ≡ Some (frames c is)
unfolding walked
gives t m c row is zero s lt = absurd (omega arith)
gives t m c row [] (suc k) s lt = ap (given_by (walked k t m)) (stack_is_over t m c row s)
gives t m c row (Framed f ∷ is) (suc k) s lt =
    ap (given_by (walked k t m)) (frame_is_visited t m c row f s.0)
    ∙ ap (with_frame (record { at = rsp c; caller = after_frame c f }))
    (gives t m (after_frame c f) 0 is k s.1 (omega arith))
gives t m c row (Leaf back ∷ is) (suc k) s lt =
    ap (given_by (walked k t m)) (leaf_is_visited t m c row back s.0)
    ∙ ap (with_frame (record { at = rsp c; caller = after_leaf c back }))
    (gives t m (after_leaf c back) 0 is k s.1 (omega arith))
gives t m c row (Searching r ∷ is) (suc k) s lt = ap (given_by (walked k t m))
    (search_is_passed t m c row r s.0) ∙ gives t m (context_of r.saved) 0 is k s.1 (omega arith)
gives t m c row (Unwinding r ∷ is) (suc k) s lt = ap (given_by (walked k t m))
    (unwinding_is_passed t m c row r s.0) ∙ gives t m r.walk r.row is k s.1 (omega arith)
