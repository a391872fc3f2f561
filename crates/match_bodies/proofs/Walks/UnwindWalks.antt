-- Where an unwinding comes to, the walk gives the callers that were not entered below.
use Rattle.std.proofs.Common.{◌≡◌, ℕ, ◌+◌, ◌<◌, ◌≤◌, Bool, true, false, Option, Some, None, List, [], ◌∷◌, length, sym, subst, ◌∙◌, arith}
use Rattle.std.specs.Prelude.{nat_lt, nat_eq}
use Rattle.match_bodies.specs.Words.{Memory, Context, context_of, rsp, Functions, distance, StackItem, Framed, Leaf, Searching, Unwinding, IsStack, after_frame, after_leaf, caller_frame, caller_of_leaf, state, CallerFrame, decided_or, plain_unwind, drop_below}
use Rattle.seh_walk.specs.declared.walk.WalkState.{WalkState}
use Rattle.seh_walk.specs.Asked.{AskedRecord, first_finally, unwound}
use Rattle.seh_unwind.specs.declared.unwind_result.UnwindResult.{UnwindResult}
use Rattle.seh_unwind.specs.declared.unwind_result.UnwindResult.TheVariants.{Finally, Land, Stop}
use Rattle.seh_unwind.specs.Unwind.{if_target, by_row, if_past, unwind}
use Rattle.match_bodies.proofs.Lemmas.{set_head, unique, none_below, one_below}
use Rattle.match_stack.proofs.ListWalks.{unwinding_is_of_the_list}
use Rattle.match_bodies.proofs.Walks.StackWalks.{callers, on_stack, stack_rises}

module _ (t : Functions) (m : Memory) where
  -- it comes to a context from which a list is: the rest of the callers
  pub record ComesTo (low : ℕ) (cs : List Context) (to : Context) : Type 0 where
    pub above : low ≤ rsp to
    pub inner : List StackItem
    pub stack : IsStack t m to inner
    pub drops : drop_below (rsp to) cs ≡ callers to inner

  abbrev pub Unwinds : ℕ → List Context → UnwindResult → Type 0
  Unwinds low cs (Finally handler frame row to) = ComesTo low cs to
  Unwinds low cs (Land to) = ComesTo low cs to
  Unwinds low cs (Stop why) = Unit {0}

  -- past a frame its caller is dropped
  past_caller : (low : ℕ) (c : Context) (cs : List Context) (x : UnwindResult) → low ≤ rsp c
      → Unwinds (rsp c) cs x → Unwinds low (c ∷ cs) x
  past_caller low c cs (Finally handler frame row to) le h = let a = h.above in
      record {
        above = omega arith;
        inner = h.inner;
        stack = h.stack;
        drops = one_below (rsp to) c cs (omega arith) ∙ h.drops;
      }
  past_caller low c cs (Land to) le h = let a = h.above in
      record {
        above = omega arith;
        inner = h.inner;
        stack = h.stack;
        drops = one_below (rsp to) c cs (omega arith) ∙ h.drops;
      }
  past_caller low c cs (Stop why) le h = tt

  -- a record leaves them as they are
  past_record : (low high : ℕ) (cs : List Context) (x : UnwindResult) → low ≤ high
      → Unwinds high cs x → Unwinds low cs x
  past_record low high cs (Finally handler frame row to) le h = let a = h.above in
      record { above = omega arith; inner = h.inner; stack = h.stack; drops = h.drops }
  past_record low high cs (Land to) le h = let a = h.above in
      record { above = omega arith; inner = h.inner; stack = h.stack; drops = h.drops }
  past_record low high cs (Stop why) le h = tt

  -- it ends in the frame of a context
  here : (c : Context) (is : List StackItem) → IsStack t m c is → ComesTo (rsp c) (callers c is) c
  here c is s = record {
    above = omega arith;
    inner = is;
    stack = s;
    drops = none_below (rsp c) (callers c is) (stack_rises t m c is s);
  }

  module _ (frame target : ℕ) (c : Context) (row : ℕ) (is : List StackItem) (s : IsStack t m c is)
      (others : UnwindResult) (rest : Unwinds (rsp c) (callers c is) others) (f : CallerFrame)
      (u : WalkState) where
    by_target : (b : Bool) → Unwinds (rsp c) (callers c is) (decided_or others (if_target u c b))
    by_target true = here c is s
    by_target false = rest

    by_record : (b : Bool) (o : Option AskedRecord)
        → Unwinds (rsp c) (callers c is) (decided_or others (by_row t f.frame c u b o))
    by_record b None = by_target b
    by_record b (Some r) = here c is s

    in_frame_or : (b : Bool) → Unwinds (rsp c) (callers c is)
        (decided_or others (if_past t frame target (state c row) f u b))
    in_frame_or true = tt
    in_frame_or false = by_record (nat_eq f.frame frame)
        (first_finally (unwound f.asked (distance t.base c.rip) row (nat_eq f.frame frame)
        (distance t.base target)))

  along : (frame target : ℕ) (c : Context) (row : ℕ) (is : List StackItem) → IsStack t m c is
      → Unwinds (rsp c) (callers c is) (plain_unwind t frame target c row is)
  along frame target c row [] s = tt
  along frame target c row (Framed f ∷ is) s =
      let next = after_frame c f in
      let others = plain_unwind t frame target next 0 is in
      in_frame_or frame target c row (Framed f ∷ is) s others
      (past_caller (rsp c) next (callers next is) others (omega arith)
      (along frame target next 0 is s.1)) (caller_frame c f) (state next 0) (nat_lt frame (rsp c))
  along frame target c row (Leaf back ∷ is) s =
      let up = set_head c.kept (rsp c + 8) (let k = s.0.kept in omega arith) in
      let next = after_leaf c back in
      let others = plain_unwind t frame target next 0 is in
      in_frame_or frame target c row (Leaf back ∷ is) s others
      (past_caller (rsp c) next (callers next is) others (omega arith)
      (along frame target next 0 is s.1)) (caller_of_leaf c back) (state next 0)
      (nat_lt frame (rsp c))
  along frame target c row (Searching r ∷ is) s =
      let a = s.0.above in
      past_record (rsp c) (rsp (context_of r.saved)) (callers (context_of r.saved) is)
      (plain_unwind t frame target (context_of r.saved) 0 is) (omega arith)
      (along frame target (context_of r.saved) 0 is s.1)
  along frame target c row (Unwinding r ∷ is) s =
      let a = s.0.above in
      past_record (rsp c) (rsp r.walk) (callers r.walk is)
      (plain_unwind t frame target r.walk r.row is) (omega arith)
      (along frame target r.walk r.row is s.1)

  module _ (frame target : ℕ) (c : Context) (row : ℕ) (is : List StackItem) (n : ℕ)
      (s : IsStack t m c is) (short : length is < n) where
    comes_to : (x : UnwindResult) → unwind n t m frame target (state c row) ≡ x
        → Unwinds (rsp c) (callers c is) x
    comes_to x e = subst (Unwinds (rsp c) (callers c is))
        (sym (unwinding_is_of_the_list t m frame target c row is n s short) ∙ e)
        (along frame target c row is s)

    rest_of : (to : Context) (inner : List StackItem) → ComesTo (rsp c) (callers c is) to
        → IsStack t m to inner → drop_below (rsp to) (callers c is) ≡ callers to inner
    rest_of to inner h there = h.drops ∙ unique t m (state to 0) (callers to h.inner)
        (callers to inner) (on_stack t m to 0 h.inner h.stack) (on_stack t m to 0 inner there)

    -- where a `__finally` block is run, and where the unwinding lands
    pub block_callers : (handler establisher next : ℕ) (to : Context) (inner : List StackItem)
        → unwind n t m frame target (state c row) ≡ Finally handler establisher next to
        → IsStack t m to inner → drop_below (rsp to) (callers c is) ≡ callers to inner
    block_callers handler establisher next to inner e there = rest_of to inner
        (comes_to (Finally handler establisher next to) e) there

    pub landing_callers : (to : Context) (inner : List StackItem)
        → unwind n t m frame target (state c row) ≡ Land to → IsStack t m to inner
        → drop_below (rsp to) (callers c is) ≡ callers to inner
    landing_callers to inner e there = rest_of to inner (comes_to (Land to) e) there

    -- it lands no lower than it began
    pub landing_above : (to : Context) → unwind n t m frame target (state c row) ≡ Land to
        → rsp c ≤ rsp to
    landing_above to e = (comes_to (Land to) e).above
