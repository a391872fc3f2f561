-- A turn that unwinds: a `__finally` block begins, or it lands.
use Rattle.std.proofs.Common.{◌≡◌, ℕ, zero, ◌+◌, ◌*◌, ◌≤◌, Bool, true, false, List, [], ◌∷◌, length, Option, Some, None, refl, ap, subst, ◌∙◌, inl, inr}
use Rattle.std.specs.Prelude.{nat_lt, slice_get}
use Rattle.seh_num.specs.declared.event.Event.TheVariants as events
use Rattle.match_turns.specs.Words.{State, DispatchRecord, Turn, arrived, unwinds_on, Deep, Frame, Item, Target, Waits, Unwinds, Seen, Finished, Next, pick, with_some, deeper, flag_of, begin_finally, exec, StackItem, store_of, on_top, Unwound, BlockBegins, LandsThere, IsUnwinding, HasRule, live_from, held_below, FlagsFit, NoneLanded, Setting, IsMachineMemory, EntersFunclet, Outcome}
use Rattle.linear_machine.specs.Unwinding as linear
use Rattle.match_stack.proofs.UnwindTurns.{unwind_turns}
use Rattle.match_turns.proofs.Funclets.FuncletSteps.{called_blocks_begin}
use Rattle.match_turns.proofs.Dispatches.DispatchMemory.{memory_untouched}
use Rattle.match_turns.proofs.Dispatches.DispatchOutcomeSteps.{represents_there}
use Rattle.match_turns.proofs.Dispatches.UnwindTurnsLeft.{counting, IsShort, counted_back, unwind_short}
use Rattle.match_turns.proofs.FinallyBlocks.LocalUnwindLanding.{noticing, IsBare, unmarked, unwind_bare}
use Rattle.match_turns.proofs.Dispatches.DispatchWalks.{block_walk}
use Rattle.match_turns.proofs.Dispatches.UnwindLanding.{landed, arrival, arrives_there, lands_as}

module _ (setting : Setting) (fits : FlagsFit setting.program) where
  open setting use {functions as t, funclets as fs, program, plan as p, sites as q, image}

  module _ (w : Unwound) (n : ℕ) (few : 3 * held_below w.items ≤ n)
      (unlanded : w.target.code ≡ None → NoneLanded w.items) where
    abbrev seen : Next → Seen
    seen next = linear.unwind program next w.target w.items w.left w.shown
        (store_of w.source w.acts)

    short : IsShort n (seen counting)
    short = unwind_short program n w.target w.items w.left w.shown (store_of w.source w.acts) few

    -- a `__finally` block
    block_enters : (s : State) (at : ℕ) (r : DispatchRecord) (is : List StackItem) (turn : Turn)
        (flag : ℕ) → IsUnwinding t fs program p s at r is w
        → (b : BlockBegins t fs program p s r turn w)
        → flag_of (slice_get program.funclets b.block) ≡ Some flag
        → IsMachineMemory setting s.memory w.source.memory
        → EntersFunclet setting turn seen w.shown n (live_from r.walk is)
    unfolding with_some pick
    block_enters s at r is turn flag u b flagged memory =
        let target : Target = record w.target { held = b.held } in
        let c = on_top b.body b.below w.source b.outer w.shown in
        let under = Unwinds b.rest target ∷ Waits b.body ∷ b.below in
        let d = begin_finally b.block flag true b.held under c in
        let memory' = memory_untouched t fs program p q s.memory b.state.memory w.source.memory
        b.untouched
        memory (b.arrives.on []).data_alone in
        let goes = λ (next : Next). b.goes next
        ∙ ap (λ (o : Option ℕ). with_some w.shown o
        (λ flag. deeper 2 b.held c.store w.shown
        (next (begin_finally b.block flag true b.held under c)))) flagged in
        record {
          state = b.state;
          event = events.Finally (b.block + 1) true;
          turns = b.turns;
          configuration = d;
          more = 2;
          held = b.held;
          store = c.store;
          few = λ shallow. counted_back n d (not_deep
              (nat_lt 1000 (length c.store.activations + b.held + 2)) shallow (counting d)
              (subst (IsShort n) (goes counting) short));
          acts = goes;
          shown = refl;
          arrives = b.named;
          walk = block_walk setting s at r is turn w u b;
          leads = λ shallow known. represents_there t fs program p q b.state d
              (called_blocks_begin t fs program p q image fits b.state b.block flag b.rest target c
              b.outer b.arrives flagged memory' refl shallow known);
        }
      where
        not_deep : (b : Bool) → b ≡ false → (x : Seen)
            → IsShort n (pick b (Finished (Deep 1001) w.shown) x) → IsShort n x
        not_deep true e x h = absurd cc
        not_deep false e x h = h

    unwinds_as : (s : State) (at : ℕ) (r : DispatchRecord) (is : List StackItem) (turn : Turn)
        → IsUnwinding t fs program p s at r is w → IsMachineMemory setting s.memory w.source.memory
        → HasRule (seen (exec program zero))
        → BlockBegins t fs program p s r turn w
        → Outcome setting turn seen w.shown n (live_from r.walk is)
    unfolding with_some
    unwinds_as s at r is turn u memory rule b = by (flag_of (slice_get program.funclets b.block))
        refl
      where
        by : (o : Option ℕ) → flag_of (slice_get program.funclets b.block) ≡ o
            → Outcome setting turn seen w.shown n (live_from r.walk is)
        by None e =
            let c = on_top b.body b.below w.source b.outer w.shown in
            let under = Unwinds b.rest (record w.target { held = b.held }) ∷ Waits b.body
            ∷ b.below in
            let z = b.goes (exec program zero)
            ∙ ap (λ (o : Option ℕ). with_some w.shown o
            (λ flag. deeper 2 b.held c.store w.shown
            (exec program zero (begin_finally b.block flag true b.held under c)))) e in
            absurd (subst HasRule z rule)
        by (Some flag) e = inr (inl (block_enters s at r is turn flag u b e memory))

    lands_with : (s : State) (at : ℕ) (r : DispatchRecord) (is : List StackItem) (turn : Turn)
        → IsUnwinding t fs program p s at r is w → IsMachineMemory setting s.memory w.source.memory
        → LandsThere t fs program p s r turn w
        → Outcome setting turn seen w.shown n (live_from r.walk is)
    lands_with s at r is turn u memory l =
        let target : Target = record w.target { held = l.held } in
        let d = arrival l.body l.below w.target.label w.target.code w.source l.outer w.shown in
        let goes = λ (next : Next). l.goes next
        ∙ arrives_there l.body l.below target w.target.code w.source l.outer w.shown next in
        inl (lands_as setting s at r is turn w n u l memory
        (counted_back n d (subst (IsShort n) (goes counting) short))
        (λ e. kept_unlanded l.body l.below w.target.label w.target.code e
        (unmarked d.frame.landed (subst IsBare (goes noticing)
        (unwind_bare program w.target w.items w.left w.shown (store_of w.source w.acts) e
        (unlanded e))))))
      where
        kept_unlanded : (body : Frame) (below : List Item) (label : ℕ) (code : Option ℕ) → code ≡
            None
            → (landed body label code).landed ≡ None → body.landed ≡ None
        kept_unlanded body below label None e h = h
        kept_unlanded body below label (Some x) e h = absurd cc

    pub unwound : (s : State) (at : ℕ) (r : DispatchRecord) (is : List StackItem)
        → IsUnwinding t fs program p s at r is w → IsMachineMemory setting s.memory w.source.memory
        → HasRule (seen (exec program zero))
        → Outcome setting (arrived t fs (unwinds_on t s at r)) seen w.shown n (live_from r.walk is)
    unwound s at r is u memory rule = elim (unwind_turns t fs program p s at r is w u) [
      | inl b ↦ unwinds_as s at r is (arrived t fs (unwinds_on t s at r)) u memory rule b
      | inr l ↦ lands_with s at r is (arrived t fs (unwinds_on t s at r)) u memory l
    ]
