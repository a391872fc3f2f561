-- Where the locals of an activation are in the list.
use Rattle.std.proofs.Common.{◌≡◌, ℕ, zero, suc, ◌+◌, ◌*◌, ◌≤◌, Option, Some, None, List, [], ◌∷◌, ◌++◌, length, refl, sym, subst, ◌∙◌, arith, inl, inr, length-append}
use Rattle.std.specs.Prelude.{slice_get}
use Rattle.match_bodies.specs.Words.{STACK_END, Memory, Context, context_of, get, rsp, Functions, Funclet, Layout, LinearProgram, BodyName, FunctionBody, FuncletBody, Item, Waits, Searches, Unwinds, StackItem, Framed, Leaf, Searching, Unwinding, IsStack, after_frame, after_leaf, ImagePlan, Activation, locals_of, activations_below, IsInPlace, HoldsPlaces, HasActivation, HoldsLocals, IsActivation, ActivationHasBase, home_end, Linked, IsInFrame, FrameWords, ActivationIsAt, ActivationsAreAt}
use Rattle.match_bodies.proofs.Lemmas.{rises, words_fit, places_fit, in_stack}

-- ---- lists

pub locals_count : (acts : List Activation) → length (locals_of acts) ≡ length acts
locals_count [] = refl
locals_count (a ∷ outer) = omega (
  arith,
  length-append (locals_of outer) (a.values ∷ []),
  locals_count outer,
)

pub got_before : {A : Type 0} → (xs ys : List A) (k : ℕ) (x : A) → slice_get xs k ≡ Some x
    → slice_get (xs ++ ys) k ≡ Some x
got_before [] ys k x h = cc
got_before (y ∷ xs) ys zero x h = h
got_before (y ∷ xs) ys (suc k) x h = got_before xs ys k x h

pub got_last : {A : Type 0} → (xs : List A) (y : A) → slice_get (xs ++ y ∷ []) (length xs) ≡ Some y
got_last [] y = refl
got_last (x ∷ xs) y = got_last xs y

in_frame : (m : Memory) (now : ℕ → ℕ) (at v : ℕ) (o : Option ℕ) → IsInPlace m now at v o
    → IsInFrame m at v o
in_frame m now at v None h = h
in_frame m now at v (Some r) h = tt

-- of places, those in the frame
pub frame_words : (m : Memory) (now : ℕ → ℕ) (register : ℕ → Option ℕ) (i at end : ℕ) (vs : List ℕ)
    → HoldsPlaces m now register i at end vs → FrameWords m register i at (at + 8 * length vs) vs
frame_words m now register i at end [] h = omega arith
frame_words m now register i at end (v ∷ vs) h = (
  in_frame m now at v (register i) h.0,
  let e : at + 8 + 8 * length vs ≡ at + 8 * length (v ∷ vs) = omega arith in
      subst (λ x. FrameWords m register (i + 1) (at + 8) x vs) e
      (frame_words m now register (i + 1) (at + 8) end vs h.1),
)

-- ---- the list

module _ (t : Functions) (fs : List Funclet) (program : LinearProgram) (p : ImagePlan) where
  higher : (m : Memory) (low above k base distance : ℕ) (register : ℕ → Option ℕ)
      (acts : List Activation) → low ≤ above
      → ActivationIsAt t fs program p m above k base distance register acts
      → ActivationIsAt t fs program p m low k base distance register acts
  higher m low above k base distance register acts le a = let l = a.low_end in
      record {
        values = a.values;
        number = a.number;
        low_end = omega arith;
        high_end = a.high_end;
        holds = a.holds;
      }

  one_more : (m : Memory) (low k base distance : ℕ) (register : ℕ → Option ℕ) (a : Activation)
      (outer : List Activation)
      → ActivationIsAt t fs program p m low k base distance register outer
      → ActivationIsAt t fs program p m low k base distance register (a ∷ outer)
  one_more m low k base distance register a outer s = record {
    values = s.values;
    number = got_before (locals_of outer) (a.values ∷ []) k s.values s.number;
    low_end = s.low_end;
    high_end = s.high_end;
    holds = s.holds;
  }

  -- in a function's own frame
  own : (m : Memory) (now : ℕ → ℕ) (mine : ℕ → Option ℕ) (y : Layout)
      (sp size number k base distance : ℕ) (register : ℕ → Option ℕ) (a : Activation)
      (outer : List Activation) → HoldsLocals m now mine y sp size number a outer
      → ActivationHasBase k base distance register a outer → sp + size ≤ STACK_END
      → ActivationIsAt t fs program p m sp k base distance register (a ∷ outer)
  own m now mine y sp size number k base distance register a outer h b le =
      let at : sp + y.locals ≡ base + distance = omega
      (arith, h.activation.base, h.activation.distance, b.base, b.distance) in
      let fit = places_fit m now mine 0 (sp + y.locals) (sp + size) a.values h.values in
      let n : length (locals_of outer) ≡ k = locals_count outer ∙ sym b.number in
      record {
        values = a.values;
        number = subst (λ x. slice_get (locals_of outer ++ a.values ∷ []) x ≡ Some a.values) n
            (got_last (locals_of outer) a.values);
        low_end = omega arith;
        high_end = omega arith;
        holds = subst (λ (r : ℕ → Option ℕ). FrameWords m r 0 (base + distance)
            (base + distance + 8 * length a.values) a.values)
            (h.activation.registers ∙ sym b.registers)
            (subst (λ x. FrameWords m mine 0 x (x + 8 * length a.values) a.values) at
            (frame_words m now mine 0 (sp + y.locals) (sp + size) a.values h.values));
      }

  -- a body's activation, or one of those below it
  in_body : (m : Memory) (now : ℕ → ℕ) (mine : ℕ → Option ℕ) (y : Layout)
      (sp size number above k base distance : ℕ) (register : ℕ → Option ℕ)
      (acts : List Activation) (name : BodyName)
      → HasActivation m now mine y sp size number acts name
      → IsActivation acts k base distance register → sp + size ≤ STACK_END → sp ≤ above
      → (IsActivation (activations_below name acts) k base distance register
      → ActivationIsAt t fs program p m above k base distance register
      (activations_below name acts))
      → ActivationIsAt t fs program p m sp k base distance register acts
  in_body m now mine y sp size number above k base distance register [] name h i le up rest =
      absurd i
  in_body m now mine y sp size number above k base distance register (a ∷ outer) (FunctionBody f) h
      (inl b) le up rest =
      own m now mine y sp size number k base distance register a outer h b le
  in_body m now mine y sp size number above k base distance register (a ∷ outer) (FunctionBody f) h
      (inr i) le up rest =
      one_more m sp k base distance register a outer
      (higher m sp above k base distance register outer up (rest i))
  in_body m now mine y sp size number above k base distance register (a ∷ outer) (FuncletBody j) h i
      le up rest =
      higher m sp above k base distance register (a ∷ outer) up (rest i)

  pub are_there : (m : Memory) (c : Context) (is : List StackItem) (items : List Item)
      (acts : List Activation) (k base distance : ℕ) (register : ℕ → Option ℕ) → IsStack t m c is
      → Linked t fs program p m c is items acts → IsActivation acts k base distance register
      → ActivationIsAt t fs program p m (rsp c) k base distance register acts
  are_there m c [] [] acts k base distance register s h i = absurd
      (subst (λ a. IsActivation a k base distance register) h.0 i)
  are_there m c (Framed f ∷ is) (Waits b ∷ below) acts k base distance register s h i =
      let within = s.0.slots in
      let l = in_stack t fs program p m (after_frame c f) is below (activations_below b.body acts)
      s.1 h.2 in
      in_body m (get c) (p.register b.body) (p.layout b.body) (rsp c) f.slots b.activation
      (rsp (after_frame c f)) k base distance register acts b.body h.0.waits.activation i
      (omega arith) (omega arith)
      (λ j. are_there m (after_frame c f) is below (activations_below b.body acts) k base distance
      register s.1 h.2 j)
  are_there m c (Leaf back ∷ is) (Waits b ∷ below) acts k base distance register s h i =
      let e = rises t m c (Leaf back) s.0 in
      let home = h.0.home in
      let w = words_fit m (rsp c + (p.layout b.body).temporaries) (rsp c + home_end) b.temporaries
      h.0.waits.temporaries in
      in_body m h.0.now (p.register b.body) (p.layout b.body) (rsp c)
      (p.layout b.body).temporaries b.activation (rsp (after_leaf c back)) k base distance register
      acts b.body h.0.waits.activation i (omega arith) (omega arith)
      (λ j. are_there m (after_leaf c back) is below (activations_below b.body acts) k base distance
      register s.1 h.2 j)
  are_there m c (Searching r ∷ is) (Searches exception resumption asked ∷ below) acts k base
      distance register s h i =
      let e = rises t m c (Searching r) s.0 in
      higher m (rsp c) (rsp (context_of r.saved)) k base distance register acts (omega arith)
      (are_there m (context_of r.saved) is below acts k base distance register s.1 h.1 i)
  are_there m c (Unwinding r ∷ is) (Unwinds rest target ∷ below) acts k base distance register s h
      i =
      let e = rises t m c (Unwinding r) s.0 in
      higher m (rsp c) (rsp r.walk) k base distance register acts (omega arith)
      (are_there m r.walk is below acts k base distance register s.1 h.1 i)
  are_there m c is items acts k base distance register s h i = absurd h

pub activations_are_at : (t : Functions) (fs : List Funclet) (program : LinearProgram)
    (p : ImagePlan) → ActivationsAreAt t fs program p
activations_are_at t fs program p m c is items acts k base distance register s i =
    are_there t fs program p m c is items acts k base distance register s.stack s.linked i
