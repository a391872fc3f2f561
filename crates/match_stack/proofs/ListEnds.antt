-- The list ends in the stack, and each of its parts below that.
use Rattle.std.proofs.Common.{ℕ, ◌+◌, ◌*◌, ◌≤◌, Option, List, [], ◌∷◌, length, arith}
use Rattle.match_stack.specs.Words.{STACK_END, Memory, Context, context_of, rsp, Functions, Funclet, Layout, LinearProgram, BodyName, FunctionBody, FuncletBody, Item, Waits, Searches, Unwinds, StackItem, Framed, Leaf, Searching, Unwinding, IsStack, after_frame, after_leaf, ImagePlan, Activation, activations_below, HoldsWords, HoldsPlaces, temporaries_end, HasActivation, Linked}
use Rattle.match_stack.proofs.StackKeeping.{rises}

-- ---- slots

pub words_fit : (m : Memory) (at end : ℕ) (vs : List ℕ) → HoldsWords m at end vs
    → at + 8 * length vs ≤ end
words_fit m at end [] h = let e = h in omega arith
words_fit m at end (v ∷ vs) h = let e = words_fit m (at + 8) end vs h.1 in omega arith

pub places_fit : (m : Memory) (now : ℕ → ℕ) (register : ℕ → Option ℕ) (i at end : ℕ) (vs : List ℕ)
    → HoldsPlaces m now register i at end vs → at + 8 * length vs ≤ end
places_fit m now register i at end [] h = let e = h in omega arith
places_fit m now register i at end (v ∷ vs) h =
    let e = places_fit m now register (i + 1) (at + 8) end vs h.1 in omega arith

-- temporaries end within the frame
pub end_within : (m : Memory) (now : ℕ → ℕ) (register : ℕ → Option ℕ) (y : Layout) (sp size k : ℕ)
    (acts : List Activation) (name : BodyName) → HasActivation m now register y sp size k acts name
    → sp + temporaries_end y name size ≤ sp + size
end_within m now register y sp size k [] (FunctionBody f) h = absurd h
end_within m now register y sp size k (a ∷ outer) (FunctionBody f) h =
    let e = places_fit m now register 0 (sp + y.locals) (sp + size) a.values h.values in omega arith
end_within m now register y sp size k acts (FuncletBody j) h = omega arith

-- ---- the list

module _ (t : Functions) (fs : List Funclet) (program : LinearProgram) (p : ImagePlan) where
  pub in_stack : (m : Memory) (c : Context) (is : List StackItem) (items : List Item)
      (acts : List Activation) → IsStack t m c is → Linked t fs program p m c is items acts
      → rsp c ≤ STACK_END
  in_stack m c [] [] acts s h = h.1
  in_stack m c (Framed f ∷ is) (Waits b ∷ below) acts s h = let e = rises t m c (Framed f) s.0 in
      let l = in_stack m (after_frame c f) is below (activations_below b.body acts) s.1 h.2 in
      omega arith
  in_stack m c (Leaf back ∷ is) (Waits b ∷ below) acts s h = let e = rises t m c (Leaf back) s.0 in
      let l = in_stack m (after_leaf c back) is below (activations_below b.body acts) s.1 h.2 in
      omega arith
  in_stack m c (Searching r ∷ is) (Searches exception resumption asked ∷ below) acts s h =
      let e = rises t m c (Searching r) s.0 in
      let l = in_stack m (context_of r.saved) is below acts s.1 h.1 in omega arith
  in_stack m c (Unwinding r ∷ is) (Unwinds rest target ∷ below) acts s h = let e = rises t m c
      (Unwinding r) s.0 in let l = in_stack m r.walk is below acts s.1 h.1 in omega arith
  in_stack m c is items acts s h = absurd h
