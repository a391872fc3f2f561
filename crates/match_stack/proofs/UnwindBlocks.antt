-- The host's unwinding runs the `__finally` blocks of the linear code's, and lands where it lands.
use Rattle.std.proofs.Common.{◌≡◌, ◌≢◌, ◌⊎◌, inl, inr, ℕ, suc, ◌+◌, ◌%◌, ◌^◌, ◌<◌, ◌≤◌, Bool, true, false, Option, Some, None, List, [], ◌∷◌, length, refl, sym, ap, subst, ◌∙◌, arith}
use Rattle.std.specs.Prelude.{nat_eq}
use Rattle.std.proofs.lemmas.Bool.{le-ltb, eq-eqb, ne_eqb}
use Rattle.match_stack.specs.Words.{Event, Memory, Context, context_of, get, rsp, Functions, distance, AskedRecord, rows_from, unwound, until, until_if, first_finally, UnwindResult, if_past, if_target, by_row, Funclet, arrivals, row_before, Layout, Region, LinearProgram, BodyName, FunctionBody, FuncletBody, body_of, Frame, Target, Item, Waits, Searches, Unwinds, Store, Seen, Next, pick, regions_of, left_store, unwind_body, StackFrame, StackItem, Framed, Leaf, Searching, Unwinding, FrameIsAt, LeafIsAt, IsStack, after_frame, after_leaf, caller_frame, caller_of_leaf, state, decided_or, plain_unwind, ImagePlan, Gives, Activation, activations_below, HasActivation, FrameWaits, LeafWaits, regions_from, IsAtRow, Aimed, Linked, NoBlock, Arrives, FirstBlock, left_from, IsWide, store_of, Course, RunsBlock, UnwoundAs, target_past, IsAbove, AimedHere, on_top}
use Rattle.seh_unwind.specs.declared.unwind_result.UnwindResult.TheVariants as unwinds
use Rattle.linear_machine.specs.Unwinding as linear
use Rattle.match_stack.proofs.StackKeeping.{rises}
use Rattle.match_stack.proofs.ListWalks.{unwinding_is_of_the_list}
use Rattle.match_stack.proofs.ScopeRows.{row_before_short}
use Rattle.match_stack.proofs.FrameUnwind.{unwinding_runs_the_blocks, unwinding_stops_at_the_target}
use Rattle.match_stack.proofs.ContextWidths.{wide_after, wide_after_leaf, wide_saved, wide_walk}
use Rattle.match_stack.proofs.EntryFlags.{unwound_all}
use Rattle.match_stack.proofs.SearchHandlers.{at_first_row, none_from, body_reaches, entries_of_body, flags_of_body, few_of_body, instruction_of_body}
use Rattle.match_stack.specs.UnwindLaws.{UnwindingIsTheLists}
use Rattle.match_stack.proofs.UnwindTargets.{left_activations, aimed_above, aimed_below, course_of, from_rear}

-- past a function's body one activation more is held
abbrev held_past : BodyName → ℕ → ℕ
held_past (FunctionBody f) held = held + 1
held_past (FuncletBody k) held = held

grows_past : (name : BodyName) (held : ℕ) → held ≤ held_past name held
grows_past (FunctionBody f) held = let e : held ≤ held + 1 = omega arith in e
grows_past (FuncletBody k) held = let e : held ≤ held = omega arith in e

counted_past : (m : Memory) (y : Layout) (sp size k : ℕ) (acts : List Activation) (name : BodyName)
    (held : ℕ) (now : ℕ → ℕ) (register : ℕ → Option ℕ)
    → HasActivation m now register y sp size k acts name
    → length (activations_below name acts) + held_past name held ≡ length acts + held
counted_past m y sp size k [] (FunctionBody f) held now register h = absurd h
counted_past m y sp size k (a ∷ outer) (FunctionBody f) held now register h =
    let e : length outer + (held + 1) ≡ suc (length outer) + held = omega arith in e
counted_past m y sp size k acts (FuncletBody j) held now register h = refl

past_is : (name : BodyName) (target : Target) (held : ℕ)
    → target_past name (record target { held = held })
    ≡ record target { held = held_past name held }
past_is (FunctionBody f) target held = refl
past_is (FuncletBody k) target held = refl

module _ (t : Functions) (fs : List Funclet) (program : LinearProgram) (p : ImagePlan)
    (g : Gives t fs program p) (m : Memory) (target : Target) (frame address depth : ℕ)
    (source : Store) (events : List Event) where
  abbrev to_target : ℕ → Target
  to_target held = record target { held = held }

  abbrev course : (held low : ℕ) → Course
  course held low = course_of t fs program p target held frame address low depth source events

  abbrev seen_from : ℕ → List Item → Option (List Region) → List Activation → Next → Seen
  seen_from held items left acts then = linear.unwind program
      then (to_target held) items left events (store_of source acts)

  abbrev out : (held : ℕ) → BodyName → List Item → Next → Store → Seen
  out held name below then store = linear.unwind program
      then (target_past name (to_target held)) below None events store

  -- a body that is left: its activation too, if it is a function's
  left_out : (held : ℕ) (sp size k : ℕ) (acts : List Activation) (name : BodyName)
      (below : List Item) (then : Next) (now : ℕ → ℕ)
      → HasActivation m now (p.register name) (p.layout name) sp size k acts name
      → out held name below then (left_store name k (store_of source acts))
      ≡ seen_from (held_past name held) below None (activations_below name acts) then
  left_out held sp size k acts name below then now h =
      ap (out held name below then) (left_activations m source
      (p.layout name) sp size k acts name now (p.register name) h)
      ∙ ap (λ (to : Target). linear.unwind program then to below None events
      (store_of source (activations_below name acts))) (past_is name target held)

  module _ (held : ℕ) (c : Context) (f : StackFrame) (is : List StackItem) (b : Frame)
      (below : List Item) (acts : List Activation) (row : ℕ) (left : Option (List Region))
      (is_there : FrameIsAt t m c f) (rear : IsStack t m (after_frame c f) is)
      (body : FrameWaits t fs program p m c f b below acts)
      (shape : IsAbove t fs program p b b.body below)
      (others : Linked t fs program p m (after_frame c f) is below
      (activations_below b.body acts)) (wide : IsWide c.kept)
      (at : IsAtRow t fs program p row (Waits b ∷ below) left)
      (counts : length acts + held ≡ depth) where
    abbrev rows : List AskedRecord
    rows = rows_from (distance t.base c.rip) row f.entry.info.scopes

    abbrev outer : UnwindResult
    outer = plain_unwind t frame address (after_frame c f) 0 is

    abbrev here_and_above : UnwindResult
    here_and_above = plain_unwind t frame address c row (Framed f ∷ is)

    -- the linear code is at the same row
    linear_step : (then : Next) → seen_from held (Waits b ∷ below) left acts then
        ≡ unwind_body program then (to_target held) (out held b.body below then)
        (regions_from t fs program p b row) (on_top b below source acts events)
    linear_step then = ap (λ (rs : List Region). unwind_body program then (to_target held)
        (out held b.body below then) rs (on_top b below source acts events)) at

    -- the step of the host, in a frame that isn't past the target
    host_step : (q : Bool) (o : Option AskedRecord) → rsp c ≤ frame → nat_eq (rsp c) frame ≡ q
        → first_finally (until_if q (distance t.base address) rows) ≡ o
        → here_and_above ≡ decided_or outer (by_row t (rsp c) c (state (after_frame c f) 0) q o)
    host_step q o le e first =
        let u = state (after_frame c f) 0 in
        ap (λ x. decided_or outer (if_past t frame address (state c row) (caller_frame c f) u x))
        (le-ltb frame (rsp c) le)
        ∙ ap (λ x. decided_or outer (by_row t (rsp c) c u x
        (first_finally (unwound (Some f.entry.info) (distance t.base c.rip) row x
        (distance t.base address))))) e ∙ ap (λ x. decided_or outer (by_row t (rsp c) c u q x))
        (unwound_all t fs program p f.entry.info (distance t.base c.rip) row q
        (distance t.base address) (flags_of_body t fs program p g m c f b below acts body) ∙ first)

    runs_here : (asked : List AskedRecord) (x : FirstBlock t fs program p (to_target held)
        (on_top b below source acts events) f.entry.info.scopes asked
        (regions_from t fs program p b row) (left_from b.next
        (regions_of (body_of program b.body))))
        → here_and_above ≡ unwinds.Finally ((t.base + x.row.handler_address) % 2 ^ 64) (rsp c)
        (x.index + 1) c
        → Aimed t fs program p target.depth target.label frame address c (Framed f ∷ is) (Waits b
        ∷ below)
        → RunsBlock t fs program p m (course held (rsp c)) here_and_above
        (seen_from held (Waits b ∷ below) left acts)
    runs_here asked x e aimed =
        let room = is_there.room in
        let few = few_of_body t fs program p g m c f b below acts body in
        let short = row_before_short f.entry.info.scopes x.index x.row
        (ap (row_before f.entry.info.scopes)
        (let a : suc x.index ≡ x.index + 1 = omega arith in a) ∙ x.before) in
        record {
          block = x.funclet;
          held = held;
          more = omega arith;
          left = regions_from t fs program p b (x.index + 1);
          body = b;
          below = below;
          to = c;
          row = x.index + 1;
          is = Framed f ∷ is;
          acts = acts;
          counted = counts;
          answer = e ∙ ap (λ a. unwinds.Finally a (rsp c) (x.index + 1) c) x.is.handler;
          goes = λ then. linear_step then ∙ x.runs then (out held b.body below then);
          stack = (is_there, rear);
          linked = (body, shape, others);
          at_row = refl;
          aimed = aimed;
          reaches = body_reaches t fs program p m b.body
              (rsp c) f.slots b.activation acts (get c)
              (let e = is_there.slots in let o = is_there.room in omega arith)
              body.waits.activation;
          funclet = x.is.funclet;
          named = x.is.named;
          above = omega arith;
          kept = record {
            frame_small = omega arith;
            row_small = omega arith;
            rip_small =
                body.waits.small;
            registers = wide;
          };
        }

    -- in the target's frame
    in_its_frame : AimedHere t fs program p target.depth target.label frame address c b below
        → UnwoundAs t fs program p m (course held (rsp c)) here_and_above
        (seen_from held (Waits b ∷ below) left acts)
    in_its_frame a =
        by (unwinding_stops_at_the_target t fs program p c.rip row f.entry.info.scopes
        (regions_of (body_of program b.body)) (to_target held) (on_top b below source acts events)
        (instruction_of_body t fs program p g m c f b below acts body) a.at_depth a.lands)
      where
        here : nat_eq (rsp c) frame ≡ true
        here = eq-eqb (rsp c) frame (sym a.at_frame)

        le : rsp c ≤ frame
        le = let e = a.at_frame in omega arith

        same : first_finally (until (distance t.base address) rows) ≡ first_finally
            (until (distance t.base (p.address b.body target.label)) rows)
        same = ap (λ x. first_finally (until (distance t.base x) rows)) a.at_address

        by : Arrives t fs program p (to_target held) (on_top b below source acts events)
            (until (distance t.base (p.address b.body target.label)) rows)
            (regions_from t fs program p b row)
            ⊎ FirstBlock t fs program p (to_target held) (on_top b below source acts events)
            f.entry.info.scopes (until (distance t.base (p.address b.body target.label)) rows)
            (regions_from t fs program p b row)
            (left_from b.next (regions_of (body_of program b.body)))
            → UnwoundAs t fs program p m (course held (rsp c)) here_and_above
            (seen_from held (Waits b ∷ below) left acts)
        by (inl x) =
            inr (record {
              held = held;
              more = omega arith;
              body = b;
              below = below;
              to = c;
              framed = f;
              is = is;
              acts = acts;
              counted = counts;
              answer = host_step true None le here (same ∙ x.first);
              goes = λ then. linear_step then ∙ x.arrives then (out held b.body below then);
              stack = (is_there, rear);
              linked = (body, shape, others);
              at_frame = a.at_frame;
              at_address = a.at_address;
              lands = a.lands;
              silent = λ cpu. ap (λ x. arrivals cpu (distance t.base x) 1 fs) a.at_address
                  ∙ (entries_of_body t fs program p g m c f b below acts body).landings target.label
                  a.lands cpu;
              above = omega arith;
              wide = wide;
            })
        by (inr x) = inl (runs_here _ x (host_step true (Some (x.index, x.row)) le here (same
            ∙ x.first)) (inl a))

    -- in a frame that is left
    in_a_frame : Aimed t fs program p target.depth target.label frame address
        (after_frame c f) is below
        → UnwoundAs t fs program p m (course (held_past b.body held) (rsp (after_frame c f))) outer
        (seen_from (held_past b.body held) below None (activations_below b.body acts))
        → UnwoundAs t fs program p m (course held (rsp c)) here_and_above
        (seen_from held (Waits b ∷ below) left acts)
    in_a_frame a more =
        by (unwinding_runs_the_blocks t fs program p c.rip row f.entry.info.scopes
        (regions_of (body_of program b.body)) (to_target held) (on_top b below source acts events)
        (instruction_of_body t fs program p g m c f b below acts body) away)
      where
        away : target.depth ≢ length below
        away e = let h = aimed_below t fs program p target.depth target.label frame address
            (after_frame c f) is below a in absurd (omega arith)

        lt : rsp c < frame
        lt = let r = rises t m c (Framed f) is_there in
            let e = aimed_above t fs program p m target.depth target.label frame address
            (after_frame c f) is below rear a in omega arith

        elsewhere : nat_eq (rsp c) frame ≡ false
        elsewhere = ne_eqb (rsp c) frame (λ e. let l = lt in absurd (omega arith))

        by : NoBlock t fs program p (to_target held) (on_top b below source acts events) rows
            (regions_from t fs program p b row)
            ⊎ FirstBlock t fs program p (to_target held) (on_top b below source acts events)
            f.entry.info.scopes rows (regions_from t fs program p b row)
            (left_from b.next (regions_of (body_of program b.body)))
            → UnwoundAs t fs program p m (course held (rsp c)) here_and_above
            (seen_from held (Waits b ∷ below) left acts)
        by (inl x) =
            from_rear t fs program p m target held (held_past b.body held) frame address (rsp c)
            (rsp (after_frame c f)) depth source events here_and_above outer
            (seen_from held (Waits b ∷ below) left acts)
            (seen_from (held_past b.body held) below None (activations_below b.body acts))
            (host_step false None (let l = lt in omega arith) elsewhere x.first)
            (λ then. linear_step then ∙ x.leaves then (out held b.body below then)
            ∙ left_out held (rsp c) f.slots b.activation acts b.body below
            then (get c) body.waits.activation)
            (grows_past b.body held) (let r = rises t m c (Framed f) is_there in omega arith) more
        by (inr x) = inl (runs_here rows x (host_step false (Some (x.index, x.row)) (let l = lt in
            omega arith) elsewhere x.first) (inr a))

  -- a leaf function is left: it has no regions, and isn't the target
  module _ (held : ℕ) (c : Context) (back : ℕ) (is : List StackItem) (b : Frame) (below : List Item)
      (acts : List Activation) (row : ℕ) (left : Option (List Region))
      (is_there : LeafIsAt t m c back) (rear : IsStack t m (after_leaf c back) is)
      (body : LeafWaits t fs program p m c back b below acts)
      (at : IsAtRow t fs program p row (Waits b ∷ below) left)
      (a : Aimed t fs program p target.depth target.label frame address (after_leaf c back) is
      below) where
    away : target.depth ≢ length below
    away e = let h = aimed_below t fs program p target.depth target.label frame address
        (after_leaf c back) is below a in absurd (omega arith)

    lt : rsp c < frame
    lt = let r = rises t m c (Leaf back) is_there in
        let e = aimed_above t fs program p m target.depth target.label frame address
        (after_leaf c back) is below rear a in omega arith

    leaf_left : (then : Next) → seen_from held (Waits b ∷ below) left acts then
        ≡ seen_from (held_past b.body held) below None (activations_below b.body acts) then
    unfolding pick
    leaf_left then =
        let here = on_top b below source acts events in
        ap (λ (rs : List Region). unwind_body program then (to_target held)
        (out held b.body below then) rs here)
        (at ∙ none_from t fs program p g m c back is b below acts is_there body row)
        ∙ ap (λ x. pick x (linear.arrive (to_target held) target.code then here)
        (out held b.body below then (left_store b.body b.activation (store_of source acts))))
        (ne_eqb target.depth (length below) away)
        ∙ left_out held (rsp c) (p.layout b.body).temporaries b.activation acts b.body below
        then body.now body.waits.activation

    host_left : plain_unwind t frame address c row (Leaf back ∷ is) ≡ plain_unwind t frame address
        (after_leaf c back) 0 is
    host_left =
        let u = state (after_leaf c back) 0 in
        let outer = plain_unwind t frame address u.context 0 is in
        ap (λ x. decided_or outer (if_past t frame address (state c row) (caller_of_leaf c back) u
        x)) (le-ltb frame (rsp c) (let l = lt in omega arith))
        ∙ ap (λ x. decided_or outer (if_target u c x)) (ne_eqb (rsp c) frame (λ e. let l = lt in
        absurd (omega arith)))

    past_leaf : UnwoundAs t fs program p m (course (held_past b.body held)
        (rsp (after_leaf c back))) (plain_unwind t frame address (after_leaf c back) 0 is)
        (seen_from (held_past b.body held) below None (activations_below b.body acts))
        → UnwoundAs t fs program p m (course held (rsp c))
        (plain_unwind t frame address c row (Leaf back ∷ is))
        (seen_from held (Waits b ∷ below) left acts)
    past_leaf more =
        from_rear t fs program p m target held (held_past b.body held) frame address (rsp c)
        (rsp (after_leaf c back)) depth source events _ _ _ _
        host_left leaf_left (grows_past b.body held) (let r = rises t m c (Leaf back) is_there in
        omega arith) more

  pub unwound_plainly : (held : ℕ) (acts : List Activation) (is : List StackItem)
      (items : List Item) (c : Context) (row : ℕ) (left : Option (List Region))
      → IsStack t m c is → Linked t fs program p m c is items acts
      → IsAtRow t fs program p row items left → IsWide c.kept
      → Aimed t fs program p target.depth target.label frame address c is items
      → length acts + held ≡ depth
      → UnwoundAs t fs program p m (course held (rsp c)) (plain_unwind t frame address c row is)
      (seen_from held items left acts)
  unwound_plainly held acts (Framed f ∷ is) (Waits b ∷ below) c row left s h at wide (inl a) e =
      in_its_frame held c f is b below acts row left s.0 s.1 h.0 h.1 h.2 wide at e a
  unwound_plainly held acts (Framed f ∷ is) (Waits b ∷ below) c row left s h at wide (inr a) e =
      in_a_frame held c f is b below acts row left s.0 s.1 h.0 h.1 h.2 wide at e a
      (unwound_plainly (held_past b.body held) (activations_below b.body acts) is below
      (after_frame c f) 0 None s.1 h.2 (at_first_row t fs program p below)
      (wide_after t m c f s.0 h.0.small) a
      (counted_past m (p.layout b.body) (rsp c) f.slots b.activation acts b.body held
      (get c) (p.register b.body) h.0.waits.activation ∙ e))
  unwound_plainly held acts (Leaf back ∷ is) (Waits b ∷ below) c row left s h at wide a e =
      past_leaf held c back is b below acts row left s.0 s.1 h.0 at a
      (unwound_plainly (held_past b.body held) (activations_below b.body acts) is below
      (after_leaf c back) 0 None s.1 h.2 (at_first_row t fs program p below)
      (wide_after_leaf t m c back s.0 wide) a
      (counted_past m (p.layout b.body) (rsp c)
      (p.layout b.body).temporaries b.activation acts b.body held h.0.now
      (p.register b.body) h.0.waits.activation ∙ e))
  unwound_plainly held acts (Searching r ∷ is) (Searches exception resumption asked
      ∷ below) c row left s h at wide a e =
      from_rear t fs program p m target held held frame address (rsp c) (rsp (context_of r.saved))
      depth source events _ _ _ _ refl (λ then. refl) (omega arith)
      (let q = rises t m c (Searching r) s.0 in omega arith)
      (unwound_plainly held acts is below (context_of r.saved) 0 None s.1 h.1
      (at_first_row t fs program p below) (wide_saved r h.0.own.fits) a e)
  unwound_plainly held acts (Unwinding r ∷ is) (Unwinds rest older
      ∷ below) c row left s h at wide a e =
      from_rear t fs program p m target held held frame address (rsp c) (rsp r.walk) depth source
      events _ _ _ _ refl (λ then. refl) (omega arith)
      (let q = rises t m c (Unwinding r) s.0 in omega arith)
      (unwound_plainly held acts is below r.walk r.row (Some rest) s.1 h.1 h.0.row
      (wide_walk r h.0.own.fits) a e)
  unwound_plainly held acts is items c row left s h at wide a e = absurd a

pub unwinding_is_the_lists : UnwindingIsTheLists
unwinding_is_the_lists t fs program p m c is items acts row left target frame address source events
    n s at aimed lt =
    subst (λ (u : UnwindResult). UnwoundAs t fs program p m
    (record {
      target = target;
      frame = frame;
      address = address;
      low = rsp c;
      depth = length acts + target.held;
      source = source;
      events = events;
    }) u
    (λ then. linear.unwind program then target items left events (store_of source acts)))
    (sym (unwinding_is_of_the_list t m frame address c row is n s.stack lt))
    (unwound_plainly t fs program p s.gives m target frame address (length acts + target.held)
    source events target.held acts is items c row left s.stack s.linked at s.wide aimed refl)
