-- The list is in each memory that reads the same in the stack, from its stack pointer up, and has
-- the same code.
use Rattle.std.proofs.Common.{◌≡◌, ℕ, ◌+◌, ◌≤◌, Bool, Ok, List, [], ◌∷◌, ◌∙◌, arith, Option, Some, None}
use Rattle.match_stack.specs.Words.{answer_return, is_asking, FilterOf, VectoredAt, STACK_END, Memory, Context, context_of, rsp, word, tail_at, Functions, DispatchRecord, misplaced, fetched, RECORD_SIZE, Kind, is_unwinding, finally_return, Funclet, Layout, LinearProgram, BodyName, FunctionBody, FuncletBody, Frame, Item, Waits, Searches, Unwinds, StackFrame, StackItem, Framed, Leaf, Searching, Unwinding, FrameIsAt, LeafIsAt, RecordIsAt, IsStack, after_frame, after_leaf, ImagePlan, Activation, activations_below, HoldsWords, temporaries_end, HasActivation, FrameWaits, LeafWaits, Linked, IsLinkedStack, home_end, HasPointers, BodyWaits, IsOwnRecord, IsWord, get, IsInPlace, HoldsPlaces}
use Rattle.match_stack.proofs.ItemVisits.{set_head}
use Rattle.match_stack.proofs.FrameWords.{told_above}
use Rattle.match_stack.proofs.ListEnds.{words_fit, places_fit, end_within, in_stack}

-- what a memory reads as another does, from an address up to another
pub record ReadsSame (m m' : Memory) (low top : ℕ) : Type 0 where
  pub words : (at v : ℕ) → low ≤ at → at + 8 ≤ top → word m at ≡ Ok v → word m' at ≡ Ok v
  pub saved : (at v : ℕ) → low ≤ at → at + 8 ≤ top → IsWord m at v → IsWord m' at v
  pub records : (at : ℕ) → low ≤ at → at + RECORD_SIZE ≤ top → fetched m' at ≡ fetched m at
  pub places : (at : ℕ) → low ≤ at → at + RECORD_SIZE ≤ top → misplaced m' at ≡ misplaced m at
  pub tails : (register at : ℕ) → tail_at register m' at ≡ tail_at register m at

module _ (m m' : Memory) (top : ℕ) where
  pub higher : (low high : ℕ) → low ≤ high → ReadsSame m m' low top → ReadsSame m m' high top
  higher low high le r = record {
    words = λ at v p q w. r.words at v (omega arith) q w;
    saved = λ at v p q w. r.saved at v (omega arith) q w;
    records = λ at p q. r.records at (omega arith) q;
    places = λ at p q. r.places at (omega arith) q;
    tails = r.tails;
  }

  -- ---- slots

  pub words_kept : (low at end : ℕ) (vs : List ℕ) → ReadsSame m m' low top → low ≤ at → end ≤ top
      → HoldsWords m at end vs → HoldsWords m' at end vs
  words_kept low at end [] r le fits h = h
  words_kept low at end (v ∷ vs) r le fits h =
      let e = words_fit m (at + 8) end vs h.1 in
      (r.words at v le (omega arith) h.0, words_kept low (at + 8) end vs r (omega arith) fits h.1)

  place_kept : (now : ℕ → ℕ) (low at v : ℕ) (o : Option ℕ) → ReadsSame m m' low top → low ≤ at
      → at + 8 ≤ top → IsInPlace m now at v o → IsInPlace m' now at v o
  place_kept now low at v None r le fits h = r.words at v le fits h
  place_kept now low at v (Some q) r le fits h = h

  pub places_kept : (now : ℕ → ℕ) (register : ℕ → Option ℕ) (low i at end : ℕ) (vs : List ℕ)
      → ReadsSame m m' low top → low ≤ at → end ≤ top → HoldsPlaces m now register i at end vs
      → HoldsPlaces m' now register i at end vs
  places_kept now register low i at end [] r le fits h = h
  places_kept now register low i at end (v ∷ vs) r le fits h =
      let e = places_fit m now register (i + 1) (at + 8) end vs h.1 in (
        place_kept now low at v (register i) r le (omega arith) h.0,
        places_kept now register low (i + 1) (at + 8) end vs r (omega arith) fits h.1,
      )

  pub activation_kept : (now : ℕ → ℕ) (register : ℕ → Option ℕ) (y : Layout) (sp size k : ℕ)
      (acts : List Activation) (name : BodyName) → ReadsSame m m' sp top → sp + size ≤ top
      → HasActivation m now register y sp size k acts name
      → HasActivation m' now register y sp size k acts name
  activation_kept now register y sp size k [] (FunctionBody f) r fits h = absurd h
  activation_kept now register y sp size k (x ∷ outer) (FunctionBody f) r fits h =
      record {
        none = h.none;
        activation = h.activation;
        values = places_kept now register sp 0 (sp + y.locals) (sp + size) x.values r (omega arith)
            fits h.values;
      }
  activation_kept now register y sp size k acts (FuncletBody j) r fits h =
      let room = h.room in
      record {
        slot = h.slot;
        base = h.base;
        some = h.some;
        room = h.room;
        kept = r.words (sp + h.slot) h.base (omega arith) (omega arith) h.kept;
        activation = h.activation;
      }

  module _ (t : Functions) (fs : List Funclet) (program : LinearProgram) (p : ImagePlan) where
    pub pointers_kept : (y : Layout) (sp size : ℕ) (below : List Item) → ReadsSame m m' sp top
        → sp + size ≤ top → HasPointers t fs program p m y sp size below
        → HasPointers t fs program p m' y sp size below
    pointers_kept y sp size [] r fits h = tt
    pointers_kept y sp size (Waits w ∷ below) r fits h = tt
    pointers_kept y sp size (Searches exception resumption (VectoredAt place) ∷ below) r fits h = tt
    pointers_kept y sp size (Searches exception resumption (FilterOf asked rest) ∷ below) r fits h =
        let room = h.room in record {
          room = h.room;
          kept = r.words (sp + y.pointers) (sp + size + 88) (omega arith) (omega arith) h.kept;
        }
    pointers_kept y sp size (Unwinds rest target ∷ below) r fits h = tt

    pub body_kept : (c : Context) (now : ℕ → ℕ) (size end : ℕ) (b : Frame)
        (acts : List Activation)
        → ReadsSame m m' (rsp c) top → rsp c + size ≤ top → rsp c + end ≤ top
        → BodyWaits t fs program p m c now size end b acts
        → BodyWaits t fs program p m' c now size end b acts
    body_kept c now size end b acts r fits ends h =
        let y = p.layout b.body in
        record {
          code = h.code;
          body = h.body;
          label = h.label;
          instruction = h.instruction;
          same = h.same;
          small = h.small;
          activation = activation_kept now (p.register b.body) y (rsp c) size b.activation acts
              b.body r fits h.activation;
          temporaries = words_kept (rsp c) (rsp c + y.temporaries) (rsp c + end) b.temporaries r
              (omega arith) ends h.temporaries;
          space = h.space;
        }

    pub frame_kept : (c : Context) (f : StackFrame) (b : Frame) (below : List Item)
        (acts : List Activation) → ReadsSame m m' (rsp c) top → f.slots ≤ f.size
        → rsp c + f.size ≤ top
        → FrameWaits t fs program p m c f b below acts → FrameWaits t fs program p m' c f b below
        acts
    unfolding body_kept
    frame_kept c f b below acts r within fits h =
        let y = p.layout b.body in
        let e = end_within m (get c) (p.register b.body) y (rsp c) f.slots b.activation acts b.body
        h.waits.activation in
        record {
          framed = h.framed;
          slots = h.slots;
          small = h.small;
          waits = body_kept c (get c) f.slots (temporaries_end y b.body f.slots) b acts r
              (omega arith) (omega arith) h.waits;
          entry = h.entry;
          pointers = pointers_kept y (rsp c) f.size below r fits h.pointers;
          returns = h.returns;
        }

    pub leaf_kept : (c : Context) (back : ℕ) (b : Frame) (below : List Item)
        (acts : List Activation) → ReadsSame m m' (rsp c) top → rsp c + home_end ≤ top
        → LeafWaits t fs program p m c back b below acts
        → LeafWaits t fs program p m' c back b below acts
    leaf_kept c back b below acts r fits h =
        let home = h.home in
        let w = words_fit m (rsp c + (p.layout b.body).temporaries) (rsp c + home_end) b.temporaries
        h.waits.temporaries in
        record {
          leaf = h.leaf;
          home = h.home;
          none = h.none;
          now = h.now;
          waits = body_kept c h.now (p.layout b.body).temporaries home_end b acts r (omega arith)
              fits h.waits;
          returns = h.returns;
        }

    pub own_kept : (at : ℕ) (d : DispatchRecord) → ReadsSame m m' at top → at + RECORD_SIZE ≤ top
        → IsOwnRecord t fs program p m at d → IsOwnRecord t fs program p m' at d
    own_kept at d r fits h = record {
      fits = h.fits;
      room = r.places at (omega arith) fits
          ∙ h.room;
    }

    -- ---- items of the stack

    -- a frame is kept where what is above its slots and the code are read as before
    pub frame_above : (low : ℕ) (c : Context) (f : StackFrame) → ReadsSame m m' low top
        → low ≤ rsp c + f.slots → rsp c + f.size + 8 ≤ top → FrameIsAt t m c f → FrameIsAt t m' c f
    frame_above low c f r le fits s = record {
      live = s.live;
      not_filter = s.not_filter;
      not_finally = s.not_finally;
      not_vectored = s.not_vectored;
      found = s.found;
      past_prologue = s.past_prologue;
      not_epilogue = r.tails f.entry.info.frame_register c.rip ∙ s.not_epilogue;
      chain = s.chain;
      kept = s.kept;
      eight = s.eight;
      slots = s.slots;
      room = s.room;
      is_told = told_above m m' low top c f r.saved le fits s.is_told;
    }

    pub frame_is_at : (c : Context) (f : StackFrame) → ReadsSame m m' (rsp c) top
        → rsp c + f.size + 8 ≤ top → FrameIsAt t m c f → FrameIsAt t m' c f
    frame_is_at c f r fits s = frame_above (rsp c) c f r (omega arith) fits s

    pub leaf_is_at : (c : Context) (back : ℕ) → ReadsSame m m' (rsp c) top → rsp c + 8 ≤ top
        → LeafIsAt t m c back → LeafIsAt t m' c back
    leaf_is_at c back r fits s = record {
      live = s.live;
      not_filter = s.not_filter;
      not_finally = s.not_finally;
      not_vectored = s.not_vectored;
      none = s.none;
      kept = s.kept;
      room = s.room;
      returns = r.words (rsp c) back (omega arith) fits s.returns;
    }

    pub record_is_at : (c : Context) (d : DispatchRecord) (at : ℕ) (kind : Kind → Bool)
        (next : Context) → ReadsSame m m' (rsp c) top → rsp c + RECORD_SIZE ≤ top
        → RecordIsAt m c d at kind next → RecordIsAt m' c d at kind next
    record_is_at c d at kind next r fits s = record {
      at_host = s.at_host;
      fetches = r.records (rsp c) (omega arith) fits ∙ s.fetches;
      pointers = r.words (rsp c + 80) (rsp c + 96) (omega arith) (omega arith) s.pointers;
      kind = s.kind;
      above = s.above;
      small = s.small;
    }

-- ---- the whole list

module _ (m m' : Memory) (t : Functions) (fs : List Funclet) (program : LinearProgram)
    (p : ImagePlan) where
  pub list_kept : (c : Context) (is : List StackItem) (items : List Item) (acts : List Activation)
      → ReadsSame m m' (rsp c) STACK_END → IsStack t m c is
      → Linked t fs program p m c is items acts → IsLinkedStack t fs program p m' c is items acts
  list_kept c [] [] acts r s h = record { stack = s; linked = h }
  list_kept c (Framed f ∷ is) (Waits b ∷ below) acts r s h =
      let l = in_stack t fs program p m (after_frame c f) is below (activations_below b.body acts)
      s.1 h.2 in
      let outer = list_kept (after_frame c f) is below (activations_below b.body acts)
      (higher m m' STACK_END (rsp c) (rsp (after_frame c f)) (omega arith) r) s.1 h.2 in
      record {
        stack = (
          frame_is_at m m' STACK_END t fs program p c f r (omega arith) s.0,
          outer.stack,
        );
        linked = (
          frame_kept m m' STACK_END t fs program p c f b below acts r s.0.slots
              (omega arith) h.0,
          h.1,
          outer.linked,
        );
      }
  list_kept c (Leaf back ∷ is) (Waits b ∷ below) acts r s h =
      let k = s.0.kept in
      let e = set_head c.kept (rsp c + 8) (omega arith) in
      let l = in_stack t fs program p m (after_leaf c back) is below (activations_below b.body acts)
      s.1 h.2 in
      let outer = list_kept (after_leaf c back) is below (activations_below b.body acts)
      (higher m m' STACK_END (rsp c) (rsp (after_leaf c back)) (omega arith) r) s.1 h.2 in
      record {
        stack = (
          leaf_is_at m m' STACK_END t fs program p c back r (omega arith) s.0,
          outer.stack,
        );
        linked = (
          leaf_kept m m' STACK_END t fs program p c back b below acts r
              h.0.home h.0,
          h.1,
          outer.linked,
        );
      }
  list_kept c (Searching d ∷ is) (Searches exception resumption asked ∷ below) acts r s h =
      let a = s.0.above in
      let l = in_stack t fs program p m (context_of d.saved) is below acts s.1 h.1 in
      let outer = list_kept (context_of d.saved) is below acts
      (higher m m' STACK_END (rsp c) (rsp (context_of d.saved)) (omega arith) r) s.1 h.1 in
      record {
        stack = (
          record_is_at m m' STACK_END t fs program p c d (answer_return d.kind) is_asking
              (context_of d.saved) r (omega arith) s.0,
          outer.stack,
        );
        linked = (
          record {
            own = own_kept m m' STACK_END t fs program p (rsp c) d r (omega arith) h.0.own;
            carries = h.0.carries;
            resumes = h.0.resumes;
            asks = h.0.asks;
            near = h.0.near;
          },
          outer.linked,
        );
      }
  list_kept c (Unwinding d ∷ is) (Unwinds rest target ∷ below) acts r s h =
      let a = s.0.above in
      let l = in_stack t fs program p m d.walk is below acts s.1 h.1 in
      let outer = list_kept d.walk is below acts
      (higher m m' STACK_END (rsp c) (rsp d.walk) (omega arith) r) s.1 h.1 in
      record {
        stack = (
          record_is_at m m' STACK_END t fs program p c d finally_return is_unwinding d.walk r
              (omega arith) s.0,
          outer.stack,
        );
        linked = (
          record {
            own = own_kept m m' STACK_END t fs program p (rsp c) d r (omega arith)
                h.0.own;
            purpose = h.0.purpose;
            row = h.0.row;
            aimed = h.0.aimed;
            space = h.0.space;
          },
          outer.linked,
        );
      }
  list_kept c is items acts r s h = absurd h
