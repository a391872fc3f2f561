-- Other numbers in the locals of one activation leave the list as it is.
use Rattle.std.proofs.Common.{◌≡◌, ℕ, ◌+◌, ◌*◌, ◌≤◌, true, false, Option, Some, List, [], ◌∷◌, ◌++◌, length, refl, sym, ap, subst, ◌∙◌, arith, inl, inr}
use Rattle.std.specs.Prelude.{slice_get}
use Rattle.match_bodies.specs.Words.{STACK_START, STACK_END, Memory, Context, context_of, get, rsp, Functions, Funclet, Layout, LinearProgram, BodyName, FunctionBody, FuncletBody, Frame, Item, Waits, Searches, Unwinds, StackFrame, StackItem, Framed, Leaf, Searching, Unwinding, FrameIsAt, LeafIsAt, IsStack, after_frame, after_leaf, ImagePlan, Activation, locals_of, activations_below, HoldsWords, temporaries_end, HasActivation, HoldsLocals, IsActivation, ActivationHasBase, home_end, HasPointers, IsAbove, below_end, BodyWaits, Linked, IsLinkedStack, with_values, FrameWords, LeavesRegisters, KeepsStackBut, OwnerHasFrame, record_room, FrameWaits, LeafWaits, ActivationsAreStored, VectoredAt, FilterOf}
use Rattle.seh_walk.specs.Walk.{finally_return, is_unwinding}
use Rattle.match_stack.specs.Stack.{is_asking, answer_return}
use Rattle.match_bodies.proofs.Lemmas.{set_head, rises, places_fit, in_stack, ReadsSame, higher, words_kept, frame_kept, leaf_kept, own_kept, frame_above, frame_is_at, leaf_is_at, record_is_at, list_kept, reads_other}
use Rattle.match_bodies.proofs.Places.ActivationPlaces.{are_there, locals_count, got_before, got_last}
use Rattle.match_bodies.proofs.Places.FramePlaces.{in_places, as_many}
use Rattle.match_bodies.proofs.Keeping.ActivationKeeping.{same_space, with_count, is_lower, still_is, first_changes, later_changes, resumes_kept}

module _ (m m' : Memory) (t : Functions) (fs : List Funclet) (program : LinearProgram)
    (p : ImagePlan) (k base distance : ℕ) (register : ℕ → Option ℕ) (values : List ℕ) where
  abbrev from : ℕ
  from = base + distance

  abbrev to : ℕ
  to = base + distance + 8 * length values

  -- what lies below the locals, and what lies above them
  below_them : (low : ℕ) → STACK_START ≤ low → to ≤ STACK_END → KeepsStackBut m m' low from to
      → ReadsSame m m' low from
  below_them low start end h = reads_other m m' low from
      (record {
        bytes = λ x l u. h.bytes x l (omega arith) (inl u);
        protection = h.protection;
        code = h.code;
        no_more_code = h.no_more_code;
      }) start (omega arith)

  above_them : (low : ℕ) → STACK_START ≤ low → low ≤ from → KeepsStackBut m m' low from to
      → ReadsSame m m' to STACK_END
  above_them low start le h = reads_other m m' to STACK_END
      (record {
        bytes = λ x l u. h.bytes x (omega arith) u (inr l);
        protection = h.protection;
        code = h.code;
        no_more_code = h.no_more_code;
      }) (omega arith) (omega arith)

  -- a frame that is passed: the activation is that of one above it
  abbrev passes : (acts : List Activation) (name : BodyName) → Type 0
  passes acts name = IsActivation (activations_below name acts) k base distance register

  activation_passed : (now : ℕ → ℕ) (mine : ℕ → Option ℕ) (y : Layout) (sp size number : ℕ)
      (acts : List Activation) (name : BodyName) → passes acts name
      → HasActivation m' now mine y sp size number acts name
      → HasActivation m' now mine y sp size number (with_values acts k values) name
  activation_passed now mine y sp size number [] (FunctionBody f) i h = absurd h
  activation_passed now mine y sp size number (a ∷ outer) (FunctionBody f) i h =
      let lt = is_lower outer k base distance register i in
      subst (λ x. HasActivation m' now mine y sp size number x (FunctionBody f))
      (sym (later_changes a outer k values lt))
      (record {
        none = h.none;
        activation = record {
          number = h.activation.number
              ∙ sym (with_count outer k values);
          base = h.activation.base;
          distance = h.activation.distance;
          registers = h.activation.registers;
        };
        values = h.values;
      })
  activation_passed now mine y sp size number acts (FuncletBody j) i h =
      record {
        slot = h.slot;
        base = h.base;
        some = h.some;
        room = h.room;
        kept = h.kept;
        activation = still_is acts k values number h.base y.locals mine h.activation;
      }

  below_passed : (acts : List Activation) (name : BodyName) → passes acts name
      → activations_below name (with_values acts k values)
      ≡ with_values (activations_below name acts) k values
  below_passed [] (FunctionBody f) i = absurd i
  below_passed (a ∷ outer) (FunctionBody f) i = ap (activations_below (FunctionBody f))
      (later_changes a outer k values (is_lower outer k base distance register i))
  below_passed acts (FuncletBody j) i = refl

  abbrev body_passed : (c : Context) (now : ℕ → ℕ) (size end : ℕ) (b : Frame)
      (acts : List Activation) → passes acts b.body
      → BodyWaits t fs program p m' c now size end b acts
      → BodyWaits t fs program p m' c now size end b (with_values acts k values)
  body_passed c now size end b acts i h = record {
    code = h.code;
    body = h.body;
    label = h.label;
    instruction = h.instruction;
    same = h.same;
    small = h.small;
    activation = activation_passed now (p.register b.body) (p.layout b.body)
        (rsp c) size b.activation acts b.body i h.activation;
    temporaries = h.temporaries;
    space = same_space acts k values (rsp c) below_end b.held h.space;
  }

  frame_passed : (c : Context) (f : StackFrame) (b : Frame) (below : List Item)
      (acts : List Activation) → passes acts b.body → FrameWaits t fs program p m' c f b below acts
      → FrameWaits t fs program p m' c f b below (with_values acts k values)
  frame_passed c f b below acts i h = record {
    framed = h.framed;
    entry = h.entry;
    slots = h.slots;
    small = h.small;
    waits = body_passed c (get c) f.slots (temporaries_end (p.layout b.body) b.body f.slots) b acts
        i h.waits;
    pointers = h.pointers;
    returns = h.returns;
  }

  leaf_passed : (c : Context) (back : ℕ) (b : Frame) (below : List Item) (acts : List Activation)
      → passes acts b.body → LeafWaits t fs program p m' c back b below acts
      → LeafWaits t fs program p m' c back b below (with_values acts k values)
  leaf_passed c back b below acts i h = record {
    leaf = h.leaf;
    home = h.home;
    none = h.none;
    now = h.now;
    waits = body_passed c h.now (p.layout b.body).temporaries home_end b acts i h.waits;
    returns = h.returns;
  }

  -- ---- the activation's own frame

  -- a function has no record right above it
  no_pointers : (y : Layout) (sp size f : ℕ) (b : Frame) (below : List Item)
      → IsAbove t fs program p b (FunctionBody f) below
      → HasPointers t fs program p m' y sp size below
  no_pointers y sp size f b [] a = tt
  no_pointers y sp size f b (Waits w ∷ below) a = tt
  no_pointers y sp size f b (Searches exception resumption (VectoredAt place) ∷ below) a = tt
  no_pointers y sp size f b (Searches exception resumption (FilterOf asked rest) ∷ below) a =
      absurd a
  no_pointers y sp size f b (Unwinds rest target ∷ below) a = absurd a

  -- its numbers, in a frame whose locals end before an address
  own_activation : (now : ℕ → ℕ) (mine : ℕ → Option ℕ) (y : Layout) (sp size number f : ℕ)
      (a : Activation) (outer : List Activation)
      → ActivationHasBase k base distance register a outer → to ≤ sp + size
      → FrameWords m' register 0 from to values → LeavesRegisters register 0 a.values values
      → HoldsLocals m now mine y sp size number a outer
      → HasActivation m' now mine y sp size number (record a { values = values } ∷ outer)
      (FunctionBody f)
  own_activation now mine y sp size number f a outer own le words left h =
      let at : from ≡ sp + y.locals = omega (
        arith,
        h.activation.base,
        h.activation.distance,
        own.base,
        own.distance,
      ) in
      let same : register ≡ mine = own.registers ∙ sym h.activation.registers in
      record {
        none = h.none;
        activation = record {
          number = h.activation.number;
          base = h.activation.base;
          distance = h.activation.distance;
          registers = h.activation.registers;
        };
        values = in_places m m' now mine 0 (sp + y.locals) to (sp + size) a.values values h.values
            (subst (λ x. FrameWords m' mine 0 x to values) at
            (subst (λ (r : ℕ → Option ℕ). FrameWords m' r 0 from to values) same words))
            (subst (λ (r : ℕ → Option ℕ). LeavesRegisters r 0 a.values values) same left) le;
      }

  abbrev own_body : (c : Context) (size end f : ℕ) (b : Frame) (a : Activation)
      (outer : List Activation) → b.body ≡ FunctionBody f
      → ActivationHasBase k base distance register a outer → to ≤ rsp c + size
      → FrameWords m' register 0 from to values → LeavesRegisters register 0 a.values values
      → HoldsLocals m (get c) (p.register b.body) (p.layout b.body) (rsp c) size b.activation a
      outer
      → HoldsWords m' (rsp c + (p.layout b.body).temporaries) (rsp c + end) b.temporaries
      → BodyWaits t fs program p m c (get c) size end b (a ∷ outer)
      → BodyWaits t fs program p m' c (get c) size end b (record a { values = values } ∷ outer)
  own_body c size end f b a outer is own le words left locals temporaries h = record {
    code = h.code;
    body = h.body;
    label = h.label;
    instruction = h.instruction;
    same = h.same;
    small = h.small;
    activation = subst (λ n. HasActivation m' (get c) (p.register b.body) (p.layout b.body) (rsp c)
        size b.activation (record a { values = values } ∷ outer) n) (sym is)
        (own_activation (get c) (p.register b.body) (p.layout b.body) (rsp c) size b.activation f a
        outer own le words left locals);
    temporaries = temporaries;
    space = h.space;
  }

  -- ---- all of them

  abbrev Fits : List Activation → Type 0
  Fits acts =
      (vs : List ℕ) → slice_get (locals_of acts) k ≡ Some vs → LeavesRegisters register 0 vs values

  own_left : (a : Activation) (outer : List Activation)
      → ActivationHasBase k base distance register a outer → Fits (a ∷ outer)
      → LeavesRegisters register 0 a.values values
  own_left a outer own fits =
      let n : length (locals_of outer) ≡ k = locals_count outer ∙ sym own.number in
      fits a.values (subst (λ x. slice_get (locals_of outer ++ a.values ∷ []) x ≡ Some a.values) n
      (got_last (locals_of outer) a.values))

  outer_fits : (acts : List Activation) (name : BodyName) → Fits acts
      → Fits (activations_below name acts)
  outer_fits [] (FunctionBody f) fits vs e = fits vs e
  outer_fits (a ∷ outer) (FunctionBody f) fits vs e =
      fits vs (got_before (locals_of outer) (a.values ∷ []) k vs e)
  outer_fits acts (FuncletBody j) fits vs e = fits vs e

  kept_from : (low high : ℕ) → low ≤ high → KeepsStackBut m m' low from to
      → KeepsStackBut m m' high from to
  kept_from low high le h = record {
    bytes = λ x l u o. h.bytes x (omega arith) u o;
    protection = h.protection;
    code = h.code;
    no_more_code = h.no_more_code;
  }

  module _ (start : STACK_START ≤ base) (far : 32 ≤ distance) (end : to ≤ STACK_END)
      (words : FrameWords m' register 0 from to values) where
    abbrev Stored : Context → List StackItem → List Item → List Activation → Type 0
    Stored c is items acts = IsLinkedStack t fs program p m' c is items (with_values acts k values)

    -- a function's frame whose activation it is
    own_function : (c : Context) (f : StackFrame) (is : List StackItem) (b : Frame)
        (below : List Item) (a : Activation) (outer : List Activation) (n : ℕ)
        → b.body ≡ FunctionBody n → ActivationHasBase k base distance register a outer
        → Fits (a ∷ outer)
        → KeepsStackBut m m' (rsp c) from to → STACK_START ≤ rsp c → FrameIsAt t m c f
        → IsStack t m (after_frame c f) is
        → FrameWaits t fs program p m c f b below (a ∷ outer)
        → HasActivation m (get c) (p.register b.body) (p.layout b.body) (rsp c) f.slots b.activation
        (a ∷ outer) (FunctionBody n)
        → IsAbove t fs program p b b.body below
        → Linked t fs program p m (after_frame c f) is below outer
        → Stored c (Framed f ∷ is) (Waits b ∷ below) (a ∷ outer)
    own_function c f is b below a outer n name own fits keeps low frame rest h locals above linked =
        let y = p.layout b.body in let within = frame.slots in
        let l = in_stack t fs program p m (after_frame c f) is below outer rest linked in
        let at : from ≡ rsp c + y.locals = omega
        (arith, locals.activation.base, locals.activation.distance, own.base, own.distance) in
        let w = places_fit m (get c) (p.register b.body) 0 (rsp c + y.locals) (rsp c + f.slots)
        a.values locals.values in
        let left = own_left a outer own fits in
        let count = as_many register 0 a.values values left in
        let le : to ≤ rsp c + f.slots = omega arith in
        let r = below_them (rsp c) low end keeps in
        let r' = above_them (rsp c) low (omega arith) keeps in
        let last : temporaries_end y b.body f.slots ≡ y.locals =
        ap (λ x. temporaries_end y x f.slots) name in
        let temps = words_kept m m' from (rsp c) (rsp c + y.temporaries)
        (rsp c + temporaries_end y b.body f.slots) b.temporaries r (omega arith) (omega arith)
        h.waits.temporaries in
        let outermost = list_kept m m' t fs program p (after_frame c f) is below outer
        (higher m m' STACK_END to (rsp (after_frame c f)) (omega arith) r') rest linked in
        subst (λ acts. IsLinkedStack t fs program p m' c (Framed f ∷ is) (Waits b ∷ below) acts)
        (sym (first_changes a outer k values own.number))
        (record {
          stack = (
            frame_above m m' STACK_END t fs program p to c f r' le (omega arith) frame,
            outermost.stack,
          );
          linked = (
            record {
              framed = h.framed;
              entry = h.entry;
              slots = h.slots;
              small = h.small;
              waits = own_body c f.slots (temporaries_end y b.body f.slots) n b a outer name own le
                  words left locals temps h.waits;
              pointers = no_pointers y (rsp c) f.size n b below
                  (subst (λ x. IsAbove t fs program p b x below) name above);
              returns = h.returns;
            },
            above,
            subst (λ x. Linked t fs program p m' (after_frame c f) is below
                (activations_below x (record a { values = values } ∷ outer))) (sym name)
                outermost.linked,
          );
        })

    -- an item that is passed, and the list above it
    passes_frame : (c : Context) (f : StackFrame) (is : List StackItem) (b : Frame)
        (below : List Item) (acts : List Activation) → passes acts b.body
        → KeepsStackBut m m' (rsp c) from to → STACK_START ≤ rsp c → FrameIsAt t m c f
        → rsp c + f.size + 8 ≤ from
        → FrameWaits t fs program p m c f b below acts → IsAbove t fs program p b b.body below
        → Stored (after_frame c f) is below (activations_below b.body acts)
        → Stored c (Framed f ∷ is) (Waits b ∷ below) acts
    passes_frame c f is b below acts i keeps low frame le h above rest =
        let r = below_them (rsp c) low end keeps in
        record {
          stack = (frame_is_at m m' from t fs program p c f r le frame, rest.stack);
          linked = (
            frame_passed c f b below acts i (frame_kept m m' from t fs program p c f b below acts r
                frame.slots (omega arith) h),
            above,
            subst (λ x. Linked t fs program p m' (after_frame c f) is below x)
                (sym (below_passed acts b.body i)) rest.linked,
          );
        }

    passes_leaf : (c : Context) (back : ℕ) (is : List StackItem) (b : Frame) (below : List Item)
        (acts : List Activation) → passes acts b.body
        → KeepsStackBut m m' (rsp c) from to → STACK_START ≤ rsp c → LeafIsAt t m c back
        → rsp c + home_end ≤ from
        → LeafWaits t fs program p m c back b below acts → IsAbove t fs program p b b.body below
        → Stored (after_leaf c back) is below (activations_below b.body acts)
        → Stored c (Leaf back ∷ is) (Waits b ∷ below) acts
    passes_leaf c back is b below acts i keeps low leaf le h above rest =
        let r = below_them (rsp c) low end keeps in
        record {
          stack = (leaf_is_at m m' from t fs program p c back r (omega arith) leaf, rest.stack);
          linked = (
            leaf_passed c back b below acts i
                (leaf_kept m m' from t fs program p c back b below acts r le h),
            above,
            subst (λ x. Linked t fs program p m' (after_leaf c back) is below x)
                (sym (below_passed acts b.body i)) rest.linked,
          );
        }

    upper : (c : Context) (f : StackFrame) (is : List StackItem) (b : Frame) (below : List Item)
        (acts : List Activation) (name : BodyName) → b.body ≡ name → passes acts name
        → KeepsStackBut m m' (rsp c) from to → STACK_START ≤ rsp c → FrameIsAt t m c f
        → IsStack t m (after_frame c f) is
        → FrameWaits t fs program p m c f b below acts → IsAbove t fs program p b b.body below
        → Linked t fs program p m (after_frame c f) is below (activations_below name acts)
        → Stored (after_frame c f) is below (activations_below name acts)
        → Stored c (Framed f ∷ is) (Waits b ∷ below) acts
    upper c f is b below acts name same i keeps low frame stack h above linked rest =
        let high = (are_there t fs program p m (after_frame c f) is below
        (activations_below name acts) k base distance register stack linked i).low_end in
        passes_frame c f is b below acts (subst (λ x. passes acts x) (sym same) i) keeps low frame
        (omega arith) h above
        (subst (λ x. Stored (after_frame c f) is below (activations_below x acts)) (sym same) rest)

    leaf_upper : (c : Context) (back : ℕ) (is : List StackItem) (b : Frame) (below : List Item)
        (acts : List Activation) (name : BodyName) → b.body ≡ name → passes acts name
        → KeepsStackBut m m' (rsp c) from to → STACK_START ≤ rsp c → LeafIsAt t m c back
        → IsStack t m (after_leaf c back) is
        → LeafWaits t fs program p m c back b below acts → IsAbove t fs program p b b.body below
        → Linked t fs program p m (after_leaf c back) is below (activations_below name acts)
        → Stored (after_leaf c back) is below (activations_below name acts)
        → Stored c (Leaf back ∷ is) (Waits b ∷ below) acts
    leaf_upper c back is b below acts name same i keeps low leaf stack h above linked rest =
        let nine = leaf.kept in
        let e : rsp (after_leaf c back) ≡ rsp c + 8 = set_head c.kept (rsp c + 8) (omega arith) in
        let high = (are_there t fs program p m (after_leaf c back) is below
        (activations_below name acts) k base distance register stack linked i).low_end in
        passes_leaf c back is b below acts (subst (λ x. passes acts x) (sym same) i) keeps low leaf
        (omega arith) h above
        (subst (λ x. Stored (after_leaf c back) is below (activations_below x acts))
        (sym same) rest)

    -- this frame's own, or that of one above
    by_frame : (c : Context) (f : StackFrame) (is : List StackItem) (b : Frame) (below : List Item)
        (acts : List Activation) (name : BodyName) → b.body ≡ name
        → IsActivation acts k base distance register
        → Fits acts
        → KeepsStackBut m m' (rsp c) from to → STACK_START ≤ rsp c → FrameIsAt t m c f
        → IsStack t m (after_frame c f) is
        → FrameWaits t fs program p m c f b below acts
        → HasActivation m (get c) (p.register b.body) (p.layout b.body) (rsp c) f.slots b.activation
        acts name
        → IsAbove t fs program p b b.body below
        → Linked t fs program p m (after_frame c f) is below (activations_below name acts)
        → (passes acts name → Stored (after_frame c f) is below (activations_below name acts))
        → Stored c (Framed f ∷ is) (Waits b ∷ below) acts
    by_frame c f is b below [] name same i fits keeps low frame stack h locals above linked rest =
        absurd i
    by_frame c f is b below (a ∷ outer) (FunctionBody n) same (inl own) fits keeps low frame stack h
        locals above linked rest = own_function c f is b below a outer n same own fits keeps low
        frame stack h locals above linked
    by_frame c f is b below (a ∷ outer) (FunctionBody n) same (inr i) fits keeps low frame stack h
        locals above linked rest = upper c f is b below (a ∷ outer) (FunctionBody n) same i keeps
        low frame stack h above linked (rest i)
    by_frame c f is b below (a ∷ outer) (FuncletBody j) same i fits keeps low frame stack h locals
        above linked rest = upper c f is b below (a ∷ outer) (FuncletBody j) same i keeps low frame
        stack h above linked (rest i)

    by_leaf : (c : Context) (back : ℕ) (is : List StackItem) (b : Frame) (below : List Item)
        (acts : List Activation) (name : BodyName) → b.body ≡ name
        → IsActivation acts k base distance register
        → (k ≡ length (activations_below name acts) → p.leaf b.body ≡ false)
        → KeepsStackBut m m' (rsp c) from to → STACK_START ≤ rsp c → LeafIsAt t m c back
        → IsStack t m (after_leaf c back) is
        → LeafWaits t fs program p m c back b below acts → IsAbove t fs program p b b.body below
        → Linked t fs program p m (after_leaf c back) is below (activations_below name acts)
        → (passes acts name → Stored (after_leaf c back) is below (activations_below name acts))
        → Stored c (Leaf back ∷ is) (Waits b ∷ below) acts
    by_leaf c back is b below [] name same i framed keeps low leaf stack h above linked rest =
        absurd i
    by_leaf c back is b below (a ∷ outer) (FunctionBody n) same (inl own) framed keeps low leaf
        stack h above linked rest = absurd (let f : true ≡ false = sym h.leaf ∙ framed own.number in
        cc)
    by_leaf c back is b below (a ∷ outer) (FunctionBody n) same (inr i) framed keeps low leaf stack
        h above linked rest = leaf_upper c back is b below (a ∷ outer) (FunctionBody n) same i keeps
        low leaf stack h above linked (rest i)
    by_leaf c back is b below (a ∷ outer) (FuncletBody j) same i framed keeps low leaf stack h above
        linked rest = leaf_upper c back is b below (a ∷ outer) (FuncletBody j) same i keeps low leaf
        stack h above linked (rest i)

    pub stored : (c : Context) (is : List StackItem) (items : List Item) (acts : List Activation)
        → IsStack t m c is → Linked t fs program p m c is items acts
        → IsActivation acts k base distance register → OwnerHasFrame t fs program p k items acts
        → Fits acts
        → KeepsStackBut m m' (rsp c) from to → STACK_START ≤ rsp c → Stored c is items acts
    stored c [] [] acts s h i o fits keeps low =
        absurd (subst (λ a. IsActivation a k base distance register) h.0 i)
    stored c (Framed f ∷ is) (Waits b ∷ below) acts s h i o fits keeps low =
        let e = rises t m c (Framed f) s.0 in
        by_frame c f is b below acts b.body refl i fits keeps low s.0 s.1 h.0 h.0.waits.activation
        h.1 h.2
        (λ j. stored (after_frame c f) is below (activations_below b.body acts) s.1 h.2 j o.1
        (outer_fits acts b.body fits) (kept_from (rsp c) (rsp (after_frame c f)) (omega arith)
        keeps) (omega arith))
    stored c (Leaf back ∷ is) (Waits b ∷ below) acts s h i o fits keeps low =
        let e = rises t m c (Leaf back) s.0 in
        by_leaf c back is b below acts b.body refl i o.0 keeps low s.0 s.1 h.0 h.1 h.2
        (λ j. stored (after_leaf c back) is below (activations_below b.body acts) s.1 h.2 j o.1
        (outer_fits acts b.body fits) (kept_from (rsp c) (rsp (after_leaf c back)) (omega arith)
        keeps) (omega arith))
    stored c (Searching d ∷ is) (Searches exception resumption asked
        ∷ below) acts s h i o fits keeps low =
        let e = rises t m c (Searching d) s.0 in let a = s.0.above in
        let high = (are_there t fs program p m (context_of d.saved) is below acts k base distance
        register s.1 h.1 i).low_end in
        let r = below_them (rsp c) low end keeps in
        let outer = stored (context_of d.saved) is below acts s.1 h.1 i o fits
        (kept_from (rsp c) (rsp (context_of d.saved)) (omega arith) keeps) (omega arith) in
        record {
          stack = (
            record_is_at m m' from t fs program p c d (answer_return d.kind) is_asking
                (context_of d.saved) r (omega arith) s.0,
            outer.stack,
          );
          linked = (
            record {
              own = own_kept m m' from t fs program p (rsp c) d r (omega arith) h.0.own;
              carries = h.0.carries;
              resumes = resumes_kept t fs program p k values resumption below acts d.saved o
                  h.0.resumes;
              asks = h.0.asks;
              near = h.0.near;
            },
            outer.linked,
          );
        }
    stored c (Unwinding d ∷ is) (Unwinds rest target ∷ below) acts s h i o fits keeps low =
        let e = rises t m c (Unwinding d) s.0 in
        let a = s.0.above in
        let high = (are_there t fs program p m d.walk is below acts k base distance register s.1 h.1
        i).low_end in
        let r = below_them (rsp c) low end keeps in
        let outer = stored d.walk is below acts s.1 h.1 i o fits
        (kept_from (rsp c) (rsp d.walk) (omega arith) keeps) (omega arith) in
        record {
          stack = (
            record_is_at m m' from t fs program p c d finally_return is_unwinding d.walk r
                (omega arith) s.0,
            outer.stack,
          );
          linked = (
            record {
              own = own_kept m m' from t fs program p (rsp c) d r (omega arith) h.0.own;
              purpose = h.0.purpose;
              row = h.0.row;
              aimed = h.0.aimed;
              space = same_space acts k values (rsp c) (below_end + record_room) target.held
                  h.0.space;
            },
            outer.linked,
          );
        }
    stored c is items acts s h i o fits keeps low = absurd h

pub activations_are_stored : (t : Functions) (fs : List Funclet) (program : LinearProgram)
    (p : ImagePlan) → ActivationsAreStored t fs program p
activations_are_stored t fs program p m m' c is items acts k base distance register old values s low
    i far owner number left keeps words =
    let a = are_there t fs program p m c is items acts k base distance register s.stack s.linked i
    in
    let le = a.low_end in
    let top = a.high_end in
    let same : a.values ≡ old = the_same a.values old (sym a.number ∙ number) in
    let n : length a.values ≡ length old = ap length same in
    let count = as_many register 0 old values left in
    stored m m' t fs program p k base distance register values (omega arith) far (omega arith) words
    c is items acts s.stack s.linked i owner
    (λ vs e. subst (λ (xs : List ℕ). LeavesRegisters register 0 xs values)
    (the_same old vs (sym number ∙ e)) left) keeps low
  where
    the_same : (x y : List ℕ) → Some x ≡ Some y → x ≡ y
    the_same x y e = cc
