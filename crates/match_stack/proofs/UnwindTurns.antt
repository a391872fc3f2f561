-- A turn that unwinds does what linear code's unwinding does.
use Rattle.std.proofs.Common.{◌≡◌, ◌⊎◌, inl, inr, ℕ, zero, suc, ◌+◌, ◌^◌, ◌<◌, ◌≤◌, Option, Some, None, List, [], ◌∷◌, ◌++◌, length, refl, sym, ap, subst, ◌∙◌, arith}
use Rattle.std.specs.Prelude.{not, ◌==◌, slice_index}
use Rattle.match_stack.specs.Words.{W32, Code, Event, low, Context, State, rsp, Functions, distance, DispatchRecord, placed, RecordFits, AllSmall, finally_return, walk_in, steps, UnwindResult, unwind, Funclet, Turn, Continues, arrivals, arrived, in_hand, if_placed, entered, unwinds_on, LinearProgram, Waits, Unwinds, Seen, Next, StackItem, Unwinding, ImagePlan, HasSpace, below_end, record_room, RecordHasRoom, IsWide, store_of, Course, RunsBlock, UnwoundAs, IsWellFormed, host_list, landed, at_landing, by_purpose, after_unwind, HasPurpose, Lands, IsUnwinding, UnwindTurns}
use Rattle.seh_num.specs.declared.event.Event.TheVariants as events
use Rattle.linear_machine.specs.Unwinding as linear
use Rattle.match_stack.proofs.ListEnds.{in_stack}
use Rattle.match_stack.proofs.RecordMemory.{pushed_record_leaves_others}
use Rattle.match_stack.proofs.DispatchItems.{unwinding_is_one_more}
use Rattle.match_stack.proofs.ContextWidths.{well_formed_with, wide_walk}
use Rattle.match_stack.proofs.UnwindBlocks.{unwinding_is_the_lists}
use Rattle.match_stack.specs.UnwindOutcomes.{landing_value, landing_events, Unwound, BlockBegins, LandsThere}
use Rattle.match_stack.proofs.FuncletEntry.{with_record, fits_in_hand, few_items, entered_first, entered_frame, arrives}
use Rattle.match_stack.proofs.DispatchSteps.{none_small}

module _ (t : Functions) (fs : List Funclet) (program : LinearProgram) (p : ImagePlan) (s : State)
    (at : ℕ) (r : DispatchRecord) (is : List StackItem) (w : Unwound)
    (h : IsUnwinding t fs program p s at r is w) where
  abbrev turn_of : UnwindResult → Turn
  turn_of x = arrived t fs (after_unwind s at r x)

  abbrev course : Course
  course = record {
    target = w.target;
    frame = r.target_frame;
    address = r.target;
    low = rsp r.walk;
    depth = length w.acts + w.target.held;
    source = w.source;
    events = w.shown;
  }

  abbrev handlers : List ℕ
  handlers = host_list p w.source

  abbrev seen : Next → Seen
  seen next = linear.unwind program next w.target w.items w.left w.shown (store_of w.source w.acts)

  -- a `__finally` block is run
  block_begins : (x : UnwindResult) → unwind steps t s.memory r.target_frame r.target (walk_in r)
      ≡ x → RunsBlock t fs program p s.memory course x seen
      → BlockBegins t fs program p s r (turn_of x) w
  unfolding arrives
  block_begins x e a =
      let above = rsp r.walk in
      let hand : DispatchRecord = in_hand r (rsp a.to) a.row a.to in
      let hand_fits : RecordFits hand = fits_in_hand r (rsp a.to) a.row a.to h.room.fits a.kept in
      let le : rsp r.walk ≤ rsp a.to = a.above in
      let frame_small = a.kept.frame_small in
      let low_enough = h.room.below in
      let room : RecordHasRoom s.memory at hand
      above = record {
        fits = hand_fits;
        below = h.room.below;
        small = h.room.small;
        room = h.room.room;
      } in
      let room_to : RecordHasRoom s.memory at hand
      (rsp a.to) = record {
        fits = hand_fits;
        below = omega arith;
        small = a.kept.frame_small;
        room = h.room.room;
      } in
      let new : State = entered (with_record t fs program p s at hand) at finally_return
      (p.funclet a.block) 1 (rsp a.to) in
      let first = entered_first handlers (with_record t fs program p s at hand) at finally_return
      (p.funclet a.block) 1 (rsp a.to) (well_formed_with handlers s (placed s.memory at hand)
      h.well_formed)
      a.funclet.small (omega arith) frame_small in
      record {
        block = a.block;
        held = a.held;
        more = a.more;
        body = a.body;
        rest = a.left;
        below = a.below;
        outer = a.acts;
        counted = a.counted;
        state = new;
        turns =
            ap turn_of a.answer
            ∙ ap (λ (o : Option ℕ). arrived t fs
            (if_placed s at hand (λ u. Continues
            (entered u at finally_return (p.funclet a.block) 1 (rsp a.to)) []) o)) h.room.room
            ∙ ap (Continues new) (a.named new.cpu
            ∙ ap (λ v. events.Finally (a.block + 1) (not (low W32 v == 0)) ∷ []) first);
        goes = a.goes;
        arrives = arrives t fs program p s at hand finally_return 1 (rsp a.to) above a.block
            a.body.activation a.body.body (Unwinding hand ∷ a.is)
            (Unwinds a.left (record w.target { held = a.held }) ∷ Waits a.body ∷ a.below) a.acts
            handlers h.well_formed h.on.data_alone room le frame_small (omega arith) (omega arith)
            a.funclet
            a.reaches
            (λ others. unwinding_is_one_more t fs program p s.memory at hand a.is
            (Waits a.body ∷ a.below) a.acts a.left (record w.target { held = a.held }) others
            (record {
              is_there = record { stack = a.stack; linked = a.linked };
              data_alone = h.on.data_alone;
            }) h.kind room_to
            (record {
              own = record { fits = hand_fits; room = h.room.room };
              purpose = purpose_kept w.target.code h.purpose;
              row = a.at_row;
              aimed = a.aimed;
              space = subst (λ n. HasSpace at (below_end + record_room) n) (sym a.counted) h.space;
            }));
        untouched = pushed_record_leaves_others s.memory at hand finally_return above
            h.on.data_alone
            room (in_stack t fs program p s.memory r.walk is w.items w.acts h.on.is_there.stack
            h.on.is_there.linked) (omega arith);
        named = a.named new.cpu ∙ ap (λ v. events.Finally (a.block + 1) (not (low W32 v == 0)) ∷ [])
            first;
        to = a.to;
        row = a.row;
        inner = a.is;
        hand = hand;
        answer = e ∙ a.answer;
        stack = a.stack;
        list = refl;
        same_walk = refl;
        frame = entered_frame handlers (with_record t fs program p s at hand) at finally_return
            (p.funclet a.block) 1 (rsp a.to) (well_formed_with handlers s (placed s.memory at hand)
            h.well_formed)
            a.funclet.small (omega arith) frame_small;
      }
    where
      purpose_kept : (o : Option ℕ) → HasPurpose t fs program p o r
          → HasPurpose t fs program p o (in_hand r (rsp a.to) a.row a.to)
      purpose_kept None e = e
      purpose_kept (Some code) e = e

  -- an exception's unwinding and a local one land
  by_code : (to : Context) (o : Option ℕ) → HasPurpose t fs program p o r
      → by_purpose s r to r.kind ≡ Continues (at_landing s to (landing_value o) r.target)
      (landing_events o)
  by_code to None e = ap (by_purpose s r to) e
  by_code to (Some code) e = ap (by_purpose s r to) e.0
      ∙ ap (λ v. Continues (at_landing s to v r.target)
      (events.Except (let c : Code = record { 0 = v } in c) ∷ [])) e.1

  value_small : (o : Option ℕ) → HasPurpose t fs program p o r → landing_value o < 2 ^ 64
  value_small None e = none_small
  value_small (Some code) e = let f = h.room.fits.code in let g : r.code.0 ≡ code = e.1 in
      let small : code < 2 ^ 64 = omega arith in small

  landed_well_formed : (to : Context) (v : ℕ) → IsWide to.kept → v < 2 ^ 64
      → IsWellFormed (host_list p w.source) (at_landing s to v r.target)
  landed_well_formed to v wide small = record {
    rip_small = h.room.fits.target;
    count = refl;
    small = each;
    listed = h.well_formed.listed;
  }
    where
      kept_small : (k : ℕ) → k < 9 → slice_index to.kept k < 2 ^ 64
      kept_small k lt = let n = wide.count in wide.each k (omega arith)

      each : AllSmall (landed to v r.target).registers
      each zero l = small
      each (suc (suc (suc zero))) l = kept_small 1 (omega arith)
      each (suc (suc (suc (suc zero)))) l = kept_small 0 (omega arith)
      each (suc (suc (suc (suc (suc zero))))) l = kept_small 2 (omega arith)
      each (suc (suc (suc (suc (suc (suc zero)))))) l = kept_small 3 (omega arith)
      each (suc (suc (suc (suc (suc (suc (suc zero))))))) l = kept_small 4 (omega arith)
      each (suc (suc (suc (suc (suc (suc (suc (suc (suc (suc (suc (suc zero)))))))))))) l =
          kept_small 5 (omega arith)
      each (suc (suc (suc (suc (suc (suc (suc (suc (suc (suc (suc (suc (suc zero))))))))))))) l =
          kept_small 6 (omega arith)
      each (suc (suc (suc (suc (suc (suc (suc (suc (suc (suc (suc (suc (suc (suc zero))))))))))))))
          l =
          kept_small 7 (omega arith)
      each (suc (suc (suc (suc (suc (suc (suc
          (suc (suc (suc (suc (suc (suc (suc (suc zero))))))))))))))) l = kept_small 8 (omega arith)
      each (suc zero) l = none_small
      each (suc (suc zero)) l = none_small
      each (suc (suc (suc (suc (suc (suc (suc (suc zero)))))))) l = none_small
      each (suc (suc (suc (suc (suc (suc (suc (suc (suc zero))))))))) l = none_small
      each (suc (suc (suc (suc (suc (suc (suc (suc (suc (suc zero)))))))))) l = none_small
      each (suc (suc (suc (suc (suc (suc (suc (suc (suc (suc (suc zero))))))))))) l = none_small
      each (suc (suc (suc (suc (suc (suc (suc
          (suc (suc (suc (suc (suc (suc (suc (suc (suc j)))))))))))))))) l = absurd (omega arith)

  appended : (o : Option ℕ) (es : List Event) → es ≡ [] → landing_events o ++ es ≡ landing_events o
  appended None es e = e
  appended (Some code) es e = ap (λ (xs : List Event). events.Except (record { 0 = code }) ∷ xs) e

  lands_there : (x : UnwindResult) → unwind steps t s.memory r.target_frame r.target (walk_in r) ≡ x
      → Lands t fs program p s.memory course x seen → LandsThere t fs program p s r (turn_of x) w
  lands_there x e a =
      let u : State = at_landing s a.to (landing_value w.target.code) r.target in
      record {
        held = a.held;
        more = a.more;
        body = a.body;
        below = a.below;
        to = a.to;
        framed = a.framed;
        is = a.is;
        outer = a.acts;
        answer = e ∙ a.answer;
        silent = a.silent;
        turns =
            ap turn_of a.answer
            ∙ ap (arrived t fs) (by_code a.to w.target.code h.purpose)
            ∙ ap (Continues u) (appended w.target.code
            (arrivals u.cpu (distance t.base r.target) 1 fs) (a.silent u.cpu));
        goes = a.goes;
        at_frame = a.at_frame;
        at_address = a.at_address;
        lands = a.lands;
        on = record {
          is_there = record { stack = a.stack; linked = a.linked };
          data_alone = h.on.data_alone;
        };
        well_formed = landed_well_formed a.to (landing_value w.target.code) a.wide
            (value_small w.target.code h.purpose);
      }

  by_answer : (x : UnwindResult) → unwind steps t s.memory r.target_frame r.target (walk_in r) ≡ x
      → UnwoundAs t fs program p s.memory course x seen
      → BlockBegins t fs program p s r (turn_of x) w ⊎ LandsThere t fs program p s r (turn_of x) w
  by_answer x e (inl a) = inl (block_begins x e a)
  by_answer x e (inr a) = inr (lands_there x e a)

  pub unwound : BlockBegins t fs program p s r (arrived t fs (unwinds_on t s at r)) w
      ⊎ LandsThere t fs program p s r (arrived t fs (unwinds_on t s at r)) w
  unwound =
      let small = h.room.small in
      let few = few_items t s.memory r.walk is h.on.is_there.stack small in
      by_answer (unwind steps t s.memory r.target_frame r.target (walk_in r)) refl
      (unwinding_is_the_lists t fs program p s.memory r.walk is w.items w.acts r.row w.left w.target
      r.target_frame r.target w.source w.shown steps
      (record {
        gives = h.gives;
        stack = h.on.is_there.stack;
        linked = h.on.is_there.linked;
        wide = wide_walk r h.room.fits;
      }) h.at_row h.aimed (omega arith))

pub unwind_turns : UnwindTurns
unwind_turns t fs program p s at r is w h = unwound t fs program p s at r is w h
