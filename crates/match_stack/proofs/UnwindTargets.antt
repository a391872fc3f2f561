-- The target of the host's unwinding lies ahead of it, and one from a rear part of the stack is one
-- from the front.
use Rattle.std.proofs.Common.{◌≡◌, inl, inr, ℕ, ◌<◌, ◌≤◌, Option, List, [], ◌∷◌, length, refl, sym, ap, ◌∙◌, arith, length-append}
use Rattle.std.proofs.lemmas.List.{take_at}
use Rattle.match_stack.specs.Words.{Event, Memory, Context, context_of, rsp, Functions, UnwindResult, Funclet, Layout, LinearProgram, BodyName, FunctionBody, FuncletBody, Target, Item, Waits, Searches, Unwinds, Store, Seen, Next, left_store, StackItem, Framed, Leaf, Searching, Unwinding, IsStack, after_frame, after_leaf, ImagePlan, Activation, activations_below, HasActivation, Aimed, store_of, Course, UnwoundAs, locals_of}
use Rattle.match_stack.proofs.StackKeeping.{rises}

-- the locals that are left are those of the activations below
pub locals_length : (acts : List Activation) → length (locals_of acts) ≡ length acts
locals_length [] = refl
locals_length (a ∷ outer) = let e = locals_length outer in
    omega (arith, length-append (locals_of outer) (a.values ∷ []))

pub left_activations : (m : Memory) (source : Store) (y : Layout) (sp size k : ℕ)
    (acts : List Activation)
    (name : BodyName) (now : ℕ → ℕ) (register : ℕ → Option ℕ)
    → HasActivation m now register y sp size k acts name
    → left_store name k (store_of source acts) ≡ store_of source (activations_below name acts)
left_activations m source y sp size k [] (FunctionBody f) now register h = absurd h
left_activations m source y sp size k (a ∷ outer) (FunctionBody f) now register h =
    ap (λ (xs : List (List ℕ)). let s : Store = record source { activations = xs } in s)
    (take_at (locals_of outer) (a.values ∷ []) k (locals_length outer ∙ sym h.activation.number))
left_activations m source y sp size k acts (FuncletBody j) now register h = refl

module _ (t : Functions) (fs : List Funclet) (program : LinearProgram) (p : ImagePlan) where
  -- ---- the target lies ahead

  pub aimed_above : (m : Memory) (depth label frame address : ℕ) (c : Context) (is : List StackItem)
      (items : List Item) → IsStack t m c is → Aimed t fs program p depth label frame address c is
      items → rsp c ≤ frame
  aimed_above m depth label frame address c (Framed f ∷ is) (Waits b ∷ below) s (inl a) = let e =
      a.at_frame in omega arith
  aimed_above m depth label frame address c (Framed f ∷ is) (Waits b ∷ below) s
      (inr a) = let e = rises t m c (Framed f) s.0 in
      let h = aimed_above m depth label frame address (after_frame c f) is below s.1 a in
      omega arith
  aimed_above m depth label frame address c (Leaf back ∷ is) (Waits b ∷ below) s a = let e = rises t
      m c (Leaf back) s.0 in let h = aimed_above m depth label frame address (after_leaf c back) is
      below s.1 a in omega arith
  aimed_above m depth label frame address c (Searching r ∷ is)
      (Searches exception resumption asked ∷ below) s a = let e = rises t m c (Searching r)
      s.0 in let h = aimed_above m depth label frame address (context_of r.saved) is below s.1 a in
      omega arith
  aimed_above m depth label frame address c (Unwinding r ∷ is) (Unwinds rest older ∷ below) s a =
      let e = rises t m c (Unwinding r) s.0 in
      let h = aimed_above m depth label frame address r.walk is below s.1 a in omega arith
  aimed_above m depth label frame address c is items s a = absurd a

  pub aimed_below : (depth label frame address : ℕ) (c : Context) (is : List StackItem)
      (items : List Item) → Aimed t fs program p depth label frame address c is items
      → depth < length items
  aimed_below depth label frame address c (Framed f ∷ is) (Waits b ∷ below) (inl a) = let e =
      a.at_depth in omega arith
  aimed_below depth label frame address c (Framed f ∷ is) (Waits b ∷ below)
      (inr a) = let h = aimed_below depth label frame address (after_frame c f) is below a in
      omega arith
  aimed_below depth label frame address c (Leaf back ∷ is) (Waits b ∷ below) a = let h = aimed_below
      depth label frame address (after_leaf c back) is below a in omega arith
  aimed_below depth label frame address c (Searching r ∷ is)
      (Searches exception resumption asked ∷ below) a = let h = aimed_below depth label frame
      address (context_of r.saved) is below a in omega arith
  aimed_below depth label frame address c (Unwinding r ∷ is) (Unwinds rest older ∷ below) a =
      let h = aimed_below depth label frame address r.walk is below a in omega arith
  aimed_below depth label frame address c is items a = absurd a

  -- ---- from a rear part of the stack

  -- an unwinding's target grows by what is held for the activations that it has left
  abbrev pub course_of : Target → (held frame address low depth : ℕ) → Store → List Event → Course
  course_of target held frame address low depth source
      events = record {
        target = record target { held = held };
        frame = frame;
        address = address;
        low = low;
        depth = depth;
        source = source;
        events = events;
      }

  pub from_rear : (m : Memory) (target : Target) (held held' frame address low low' depth : ℕ)
      (source : Store) (events : List Event) (u u' : UnwindResult) (seen seen' : Next → Seen)
      → u ≡ u' → ((then : Next) → seen then ≡ seen' then) → held ≤ held' → low ≤ low'
      → UnwoundAs t fs program p m (course_of target held' frame address low' depth source events)
      u' seen' → UnwoundAs t fs program p m
      (course_of target held frame address low depth source events) u seen
  from_rear m target held held' frame address low low' depth source events u u' seen seen' e s grows
      le (inl h) =
      let above : low' ≤ rsp h.to = h.above in
      let more : held' ≤ h.held = h.more in
      inl (record {
        block = h.block;
        held = h.held;
        more = omega arith;
        left = h.left;
        body = h.body;
        below = h.below;
        to = h.to;
        row = h.row;
        is = h.is;
        acts = h.acts;
        counted = h.counted;
        answer = e ∙ h.answer;
        goes = λ then. s then ∙ h.goes then;
        stack = h.stack;
        linked = h.linked;
        at_row = h.at_row;
        aimed = h.aimed;
        reaches = h.reaches;
        funclet = h.funclet;
        named = h.named;
        above = omega arith;
        kept = h.kept;
      })
  from_rear m target held held' frame address low low' depth source events u u' seen seen' e s grows
      le (inr h) =
      let above : low' ≤ rsp h.to = h.above in
      let more : held' ≤ h.held = h.more in
      inr (record {
        held = h.held;
        more = omega arith;
        body = h.body;
        below = h.below;
        to = h.to;
        framed = h.framed;
        is = h.is;
        acts = h.acts;
        counted = h.counted;
        answer = e ∙ h.answer;
        goes = λ then. s then ∙ h.goes then;
        stack = h.stack;
        linked = h.linked;
        at_frame = h.at_frame;
        at_address = h.at_address;
        lands = h.lands;
        silent = h.silent;
        above = omega arith;
        wide = h.wide;
      })
