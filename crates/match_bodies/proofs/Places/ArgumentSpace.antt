-- The home space and the places of further arguments at the bottom of a caller's frame are its
-- callee's (Microsoft x64 ABI, "Stack allocation"): a change of them leaves the list as it is.
use Rattle.std.proofs.Common.{◌≡◌, ℕ, ◌+◌, ◌*◌, ◌≤◌, true, false, Option, Some, None, List, [], ◌∷◌, refl, sym, subst, ◌∙◌, arith, inr}
use Rattle.std.specs.Prelude.{slice_get}
use Rattle.match_bodies.specs.Words.{weight_of, STACK_START, STACK_END, Memory, Context, get, rsp, Functions, Funclet, Layout, LinearProgram, LinearBody, BodyName, FunctionBody, FuncletBody, body_of, Frame, Item, Waits, Searches, Unwinds, StackFrame, StackItem, Framed, Leaf, Searching, Unwinding, IsStack, after_frame, ImagePlan, Activation, activations_below, temporaries_end, HasActivation, HasPointers, IsAbove, Linked, IsLinkedStack, IsFunctionLayout, IsLayoutIf, IsLaidOut, AreLaidOut, KeepsStackBut, VectoredAt, FilterOf}
use Rattle.match_bodies.proofs.Lemmas.{places_fit, end_within, in_stack, ReadsSame, higher, frame_above, words_kept, places_kept, list_kept, reads_other}

module _ (m m' : Memory) (t : Functions) (fs : List Funclet) (program : LinearProgram)
    (p : ImagePlan) (layouts : AreLaidOut program p) (room : ℕ) where
  module _ (c : Context) (keeps : KeepsStackBut m m' (rsp c) (rsp c) (rsp c + room))
      (start : STACK_START ≤ rsp c) where
    reads : ReadsSame m m' (rsp c + room) STACK_END
    reads = reads_other m m' (rsp c + room) STACK_END
        (record {
          bytes = λ x l u. keeps.bytes x (omega arith) u (inr l);
          protection = keeps.protection;
          code = keeps.code;
          no_more_code = keeps.no_more_code;
        })
        (omega arith) (omega arith)

    -- the slots of a frame begin above it
    pub record AboveHome (y : Layout) (name : BodyName) (size : ℕ) : Type 0 where
      pub frame : room ≤ size
      pub temporaries : room ≤ y.temporaries
      pub locals : (f : ℕ) → name ≡ FunctionBody f → room ≤ y.locals
      pub base : (slot : ℕ) → y.base ≡ Some slot → room ≤ slot
      pub pointers : (k : ℕ) → name ≡ FuncletBody k → room ≤ y.pointers

    above_home : (now : ℕ → ℕ) (register : ℕ → Option ℕ) (b : LinearBody) (size : ℕ) (k : ℕ)
        (acts : List Activation) (name : BodyName)
        → room ≤ 32 + 8 * b.passed → p.leaf name ≡ false → IsLaidOut program p name b
        → HasActivation m now register (p.layout name) (rsp c) size k acts name
        → AboveHome (p.layout name) name size
    above_home now register b size k [] (FunctionBody f) few framed l h = absurd h
    above_home now register b size k (a ∷ outer) (FunctionBody f) few framed l h =
        let y = p.layout (FunctionBody f) in
        let weight = weight_of (slice_get program.functions f) in
        let g : IsFunctionLayout weight y b = subst (λ x. IsLayoutIf program p weight y b x) framed
        l in
        let q = g.passed in
        let r = g.temporaries in
        let w = places_fit m now register 0 (rsp c + y.locals) (rsp c + size) a.values h.values in
        record {
          frame = omega arith;
          temporaries = omega arith;
          locals = λ n e. omega arith;
          base = λ slot e. absurd (no_base slot (sym g.none ∙ e));
          pointers = λ n e. absurd cc;
        }
      where
        no_base : (slot : ℕ) → ◌≡◌ {A = Option ℕ} None (Some slot) → ⊥
        no_base slot e = cc
    above_home now register b size k acts (FuncletBody j) few framed l h =
        let g = l.layout in
        let q = g.passed in
        let r = g.kept in
        let z = h.room in
        let s : h.slot ≡ g.slot = same h.slot g.slot (sym h.some ∙ g.base) in
        let pt = g.pointers in
        record {
          frame = omega arith;
          temporaries = omega arith;
          locals = λ n e. absurd cc;
          base = λ slot e. (let i : g.slot ≡ slot = same g.slot slot (sym g.base ∙ e) in
              omega arith);
          pointers = λ n e. omega arith;
        }
      where
        same : (x y : ℕ) → Some x ≡ Some y → x ≡ y
        same x y e = cc

    activation_free : (now : ℕ → ℕ) (register : ℕ → Option ℕ) (y : Layout) (size k : ℕ)
        (acts : List Activation) (name : BodyName)
        → AboveHome y name size → rsp c + size ≤ STACK_END
        → HasActivation m now register y (rsp c) size k acts name
        → HasActivation m' now register y (rsp c) size k acts name
    activation_free now register y size k [] (FunctionBody f) a top h = absurd h
    activation_free now register y size k (x ∷ outer) (FunctionBody f) a top h =
        let l = a.locals f refl in
        record {
          none = h.none;
          activation = h.activation;
          values = places_kept m m' STACK_END now register (rsp c + room) 0 (rsp c + y.locals)
              (rsp c + size) x.values reads (omega arith) top h.values;
        }
    activation_free now register y size k acts (FuncletBody j) a top h =
        let z = h.room in
        let l = a.base h.slot h.some in
        record {
          slot = h.slot;
          base = h.base;
          some = h.some;
          room = h.room;
          kept = reads.words (rsp c + h.slot) h.base (omega arith) (omega arith) h.kept;
          activation = h.activation;
        }

    -- a function has no record above it
    pointers_free : (y : Layout) (size : ℕ) (b : Frame) (name : BodyName) (below : List Item)
        → b.body ≡ name → AboveHome y name size → rsp c + size ≤ STACK_END
        → IsAbove t fs program p b name below → HasPointers t fs program p m y (rsp c) size below
        → HasPointers t fs program p m' y (rsp c) size below
    pointers_free y size b name [] e a top i h = tt
    pointers_free y size b name (Waits w ∷ below) e a top i h = tt
    pointers_free y size b name (Unwinds rest target ∷ below) e a top i h = tt
    pointers_free y size b (FunctionBody f)
        (Searches exception resumption (VectoredAt place) ∷ below) e a top i h = tt
    pointers_free y size b (FuncletBody k)
        (Searches exception resumption (VectoredAt place) ∷ below) e a top i h = tt
    pointers_free y size b (FunctionBody f)
        (Searches exception resumption (FilterOf asked rest) ∷ below) e a top i h = absurd i
    pointers_free y size b (FuncletBody k)
        (Searches exception resumption (FilterOf asked rest) ∷ below) e a top i h =
        let z = h.room in
        let l = a.pointers k refl in
        record {
          room = h.room;
          kept = reads.words (rsp c + y.pointers) (rsp c + size + 88)
              (omega arith) (omega arith) h.kept;
        }

    pub framed_free : (f : StackFrame) (is : List StackItem) (b : Frame) (below : List Item)
        (acts : List Activation) → ((code : LinearBody) → body_of program b.body ≡ Some code
        → room ≤ 32 + 8 * code.passed) → p.leaf b.body ≡ false → IsStack t m c (Framed f ∷ is)
        → Linked t fs program p m c (Framed f ∷ is) (Waits b ∷ below) acts
        → IsLinkedStack t fs program p m' c (Framed f ∷ is) (Waits b ∷ below) acts
    framed_free f is b below acts few framed s h =
        let y = p.layout b.body in
        let within = s.0.slots in
        let l = in_stack t fs program p m (after_frame c f) is below (activations_below b.body acts)
        s.1 h.2 in
        let w = h.0.waits in
        let a = above_home (get c) (p.register b.body) w.code f.slots b.activation acts b.body
        (few w.code w.body) framed (layouts b.body w.code w.body) w.activation in
        let size = a.frame in
        let temps = a.temporaries in
        let ends = end_within m (get c) (p.register b.body) y (rsp c) f.slots b.activation acts
        b.body w.activation in
        let outer = list_kept m m' t fs program p (after_frame c f) is below
        (activations_below b.body acts) (higher m m' STACK_END (rsp c + room)
        (rsp (after_frame c f)) (omega arith) reads) s.1 h.2 in
        record {
          stack = (
            frame_above m m' STACK_END t fs program p (rsp c + room) c f reads (omega arith)
                (omega arith) s.0,
            outer.stack,
          );
          linked = (
            record {
              framed = h.0.framed;
              entry = h.0.entry;
              slots = h.0.slots;
              small = h.0.small;
              waits = record {
                code = w.code;
                body = w.body;
                label = w.label;
                instruction = w.instruction;
                same = w.same;
                small = w.small;
                activation = activation_free (get c) (p.register b.body) y f.slots b.activation
                    acts b.body a (omega arith) w.activation;
                temporaries = words_kept m m' STACK_END (rsp c + room) (rsp c + y.temporaries)
                    (rsp c + temporaries_end y b.body f.slots) b.temporaries reads (omega arith)
                    (omega arith) w.temporaries;
                space = w.space;
              };
              pointers = pointers_free y f.size b b.body below refl (record {
                frame = omega arith;
                temporaries = a.temporaries;
                locals = a.locals;
                base = a.base;
                pointers = a.pointers;
              }) (omega arith) h.1 h.0.pointers;
              returns = h.0.returns;
            },
            h.1,
            outer.linked,
          );
        }

    pub outgoing_is_free : (is : List StackItem) (b : Frame) (below : List Item)
        (acts : List Activation) → ((code : LinearBody) → body_of program b.body ≡ Some code
        → room ≤ 32 + 8 * code.passed) → p.leaf b.body ≡ false
        → IsLinkedStack t fs program p m c is (Waits b ∷ below) acts
        → IsLinkedStack t fs program p m' c is (Waits b ∷ below) acts
    outgoing_is_free (Framed f ∷ is) b below acts few o s = framed_free f is b below acts few o
        s.stack s.linked
    outgoing_is_free (Leaf back ∷ is) b below acts few o s = absurd
        (let e : true ≡ false = sym s.linked.0.leaf ∙ o in cc)
    outgoing_is_free [] b below acts few o s = absurd s.linked
    outgoing_is_free (Searching d ∷ is) b below acts few o s = absurd s.linked
    outgoing_is_free (Unwinding d ∷ is) b below acts few o s = absurd s.linked
