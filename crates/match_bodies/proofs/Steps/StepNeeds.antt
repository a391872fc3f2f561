-- What is known of a configuration says what its steps need: its locals are counted, what waits
-- below a leaf has a frame, and so has the function of a funclet.
use Rattle.linear_machine.specs.Frames.{VectoredAt, FilterOf}
use Rattle.std.proofs.Common.{◌≡◌, ℕ, zero, suc, ◌+◌, ◌≤◌, Bool, true, false, Option, Some, None, List, [], ◌∷◌, ◌++◌, length, refl, sym, ap, subst, ◌∙◌, arith, length-append}
use Rattle.std.specs.Prelude.{◌<◌, replicate, slice_get}
use Rattle.std.proofs.lemmas.Option.{slice_get_within}
use Rattle.match_bodies.specs.Words.{State, Instruction, LinearProgram, LinearBody, BodyName, FunctionBody, FuncletBody, body_of, Frame, Item, Waits, Searches, Unwinds, Configuration, instruction_at, Activation, activations_below, IsFuncletPlan, OwnerHasFrame, IsWellMade, IsKnown, Setting, RepresentsAt, LinearFunction, instruction_in, IsAt, IsCalledBy, AreWaiting, IsReady, AreListable}
use Rattle.linear_code.specs.declared.instruction.Instruction.TheVariants as instructions
use Rattle.linear_machine.specs.Frames as linear
use Rattle.linear_code.specs.Program.{weight, depth_weight}
use Rattle.match_runs.specs.Matched.{separators, separators_in}
use Rattle.lowering_invariants.specs.Bodies.{function_of, owner_of, IsVectoredCallee, IsWhole}
use Rattle.lowering_invariants.specs.Waiting.{IsAbove, CanBeAsked}
use Rattle.lowering_invariants.specs.Activations.{with_own, owners_of, WorksOn, IsActivationOf, AreActivations}
use Rattle.lowering_invariants.specs.Depths.{depth_in, depth_at}
use Rattle.match_bodies.proofs.Places.ActivationPlaces.{locals_count}
use Rattle.match_bodies.proofs.Places.HomeSpace.{CallerHasFrame}
use Rattle.match_bodies.proofs.Steps.BodyViews.{IsCounted}
use Rattle.match_bodies.proofs.Templates.TemplateRuns.{code, Surroundings}
use Rattle.match_bodies.proofs.Steps.PlainSteps.{GoesInside}

-- ---- lists

pub some_is : {A : Type 0} → (x y : A) → Some x ≡ Some y → x ≡ y
some_is x y e = cc

at_end : (xs : List ℕ) (k : ℕ) → slice_get (xs ++ k ∷ []) (length xs) ≡ Some k
at_end [] k = refl
at_end (x ∷ xs) k = at_end xs k

in_front : (xs : List ℕ) (k i v : ℕ) → slice_get xs i ≡ Some v → slice_get (xs ++ k ∷ []) i ≡ Some v
in_front [] k i v e = cc
in_front (x ∷ xs) k zero v e = e
in_front (x ∷ xs) k (suc i) v e = in_front xs k i v e

-- the label of an instruction is one of its body
pub label_in : (o : Option LinearBody) (b : LinearBody) (label : ℕ) (i : Instruction) → o ≡ Some b
    → instruction_in o label ≡ Some i → slice_get b.code label ≡ Some i
label_in None b label i e h = cc
label_in (Some x) b label i e h = subst (λ y. slice_get y.code label ≡ Some i) (some_is x b e) h

-- a body with an instruction is there
pub body_there : (o : Option LinearBody) (label : ℕ) (i : Instruction)
    → instruction_in o label ≡ Some i → (b : LinearBody) × (o ≡ Some b)
body_there None label i h = cc
body_there (Some b) label i h = (b, refl)

function_body_is : (o : Option LinearFunction) (f : LinearFunction) (b : LinearBody) → o ≡ Some f
    → linear.function_body o ≡ Some b → f.body ≡ b
function_body_is None f b e h = cc
function_body_is (Some g) f b e h = ap (λ (x : LinearFunction). x.body) (sym (some_is g f e))
    ∙ some_is g.body b h

-- ---- activations

module _ (program : LinearProgram) where
  -- an activation belongs to a function
  pub owned : (ks : List ℕ) (stored : List (List ℕ)) (i k : ℕ) → AreActivations program ks stored
      → slice_get ks i ≡ Some k → (locals : List ℕ) × (slice_get stored i ≡ Some locals)
      × IsActivationOf program k locals
  owned [] [] i k h e = cc
  owned [] (x ∷ stored) i k h e = absurd h
  owned (x ∷ ks) [] i k h e = absurd h
  owned (x ∷ ks) (locals ∷ stored) zero k h e =
      (locals, refl, subst (λ z. IsActivationOf program z locals) (some_is x k e) h.0)
  owned (x ∷ ks) (locals ∷ stored) (suc i) k h e = owned ks stored i k h.1 e

  pub owned_count : (ks : List ℕ) (stored : List (List ℕ)) → AreActivations program ks stored
      → length ks ≡ length stored
  owned_count [] [] h = refl
  owned_count [] (x ∷ stored) h = absurd h
  owned_count (x ∷ ks) [] h = absurd h
  owned_count (x ∷ ks) (locals ∷ stored) h = ap suc (owned_count ks stored h.1)

  -- the function whose locals a body works on
  owner_here : (name : BodyName) (f : Frame) (below : List Item)
      → WorksOn program f name (owners_of below)
      → (k : ℕ) × (owner_of program name ≡ Some k)
      × (slice_get (with_own name (owners_of below)) f.activation ≡ Some k)
  owner_here (FunctionBody k) f below h = (
    k,
    refl,
    subst (λ i. slice_get (owners_of below ++ k ∷ []) i ≡ Some k) (sym h)
        (at_end (owners_of below) k),
  )
  owner_here (FuncletBody k) f below h = (h.0, h.1, h.2)

  locals_are : (store : List (List ℕ)) (i : ℕ) (locals : List ℕ) → slice_get store i ≡ Some locals
      → elim (slice_get store i) [ Some x ↦ x | None ↦ [] ] ≡ locals
  locals_are store i locals e = ap (λ x. elim x [ Some y ↦ y | None ↦ [] ]) e

module _ (setting : Setting) (made : IsWellMade setting.program setting.plan) where
  open setting use {functions as t, funclets as fs, program, plan as p, image}

  -- a body has as many locals as its function
  as_many : (name : BodyName) (b : LinearBody) (k : ℕ) (function : LinearFunction)
      → body_of program name ≡ Some b → owner_of program name ≡ Some k
      → slice_get program.functions k ≡ Some function → function.body.locals ≡ b.locals
  as_many (FunctionBody f) b k function there owner is =
      ap (λ (x : LinearBody). x.locals) (function_body_is (slice_get program.functions f) function b
      (subst (λ i. slice_get program.functions i ≡ Some function) (sym (some_is f k owner)) is)
      there)
  as_many (FuncletBody f) b k function there owner is =
      let plan : IsFuncletPlan program p f b = image.laid_out (FuncletBody f) b there in
      let same : plan.funclet.function ≡ k = some_is plan.funclet.function k
      (sym (ap function_of plan.there) ∙ owner) in
      ap (λ (x : LinearBody). x.locals) (function_body_is
      (slice_get program.functions plan.funclet.function) function plan.function
      (subst (λ i. slice_get program.functions i ≡ Some function) (sym same) is)
      plan.function_there)
      ∙ sym plan.same_locals

  pub counted_here : (c : Configuration) → IsKnown program c → IsCounted setting c
  counted_here c known b there =
      let own = owner_here program c.frame.body c.frame c.below known.activations.working.0 in
      let stored = owned program (owners_of (Waits c.frame ∷ c.below)) c.store.activations
      c.frame.activation own.0 known.activations.stored own.2 in
      ap length (locals_are program c.store.activations c.frame.activation stored.0 stored.1)
      ∙ stored.2.count ∙ as_many c.frame.body b own.0 stored.2.function there own.1 stored.2.there

  -- ---- what waits below

  -- a body that waits in a call is no leaf
  calls_with_frame : (w : Frame) (k first count : ℕ)
      → IsAt program w (instructions.Call k first count) → (leaf : Bool) → p.leaf w.body ≡ leaf
      → leaf ≡ false
  calls_with_frame w k first count at false e = refl
  calls_with_frame w k first count at true e =
      let b = body_there (body_of program w.body) w.next (instructions.Call k first count) at in
      let no : true ≡ false = made.leaves w.body b.0 w.next (instructions.Call k first count) b.1 e
      (label_in (body_of program w.body) b.0 w.next (instructions.Call k first count) b.1 at) in
      no

  pub leaf_or_funclet : (c : Configuration) (b : LinearBody) (name : BodyName)
      → body_of program name ≡ Some b → p.leaf name ≡ true
      → IsAbove program c.frame.exception c.frame.activation name c.below → CallerHasFrame p c.below
  leaf_or_funclet c b (FuncletBody k) there leaf above = let plan : IsFuncletPlan program p k
      b = image.laid_out (FuncletBody k) b there in
      absurd (let no : true ≡ false = sym leaf ∙ plan.framed in cc)
  leaf_or_funclet c b (FunctionBody k) there leaf above = by c.below above
    where
      by : (below : List Item) → IsCalledBy program k below → CallerHasFrame p below
      by [] h = tt
      by (Waits w ∷ below) h = calls_with_frame w k h.0 h.1 h.2 (p.leaf w.body) refl
      by (Searches exception resumption (VectoredAt place) ∷ below) h = tt
      by (Searches exception resumption (FilterOf asked rest) ∷ below) h = absurd h
      by (Unwinds rest target ∷ below) h = absurd h

  -- the functions of the activations number k are no leaves
  abbrev pub HaveFrames : ℕ → List ℕ → Type 0
  HaveFrames k owners = (f : ℕ) → slice_get owners k ≡ Some f → p.leaf (FunctionBody f) ≡ false

  below_count : (acts : List Activation) (n : ℕ) → length acts ≡ suc n
      → length (activations_below (FunctionBody 0) acts) ≡ n
  below_count [] n e = cc
  below_count (a ∷ outer) n e = omega (arith, e)

  pub owner_waits : (k : ℕ) (items : List Item) (acts : List Activation) → AreWaiting program items
      → length acts ≡ length (owners_of items) → HaveFrames k (owners_of items)
      → OwnerHasFrame t fs program p k items acts
  owner_waits k [] acts h n frames = tt
  owner_waits k (Searches exception resumption asked ∷ below) acts h n frames = owner_waits k
      below acts h.2 n frames
  owner_waits k (Unwinds rest target ∷ below) acts h n frames = owner_waits k below acts h.2 n
      frames
  owner_waits k (Waits w ∷ below) acts h n frames = by
      (owner_waits k below (activations_below w.body acts) h.2) w.body refl h.0.at n frames
    where
      by : (length (activations_below w.body acts) ≡ length (owners_of below)
          → HaveFrames k (owners_of below) → OwnerHasFrame t fs program p k below
          (activations_below w.body acts)) → (name : BodyName) → w.body ≡ name
          → IsAt program w h.0.instruction → length acts ≡ length (with_own name (owners_of below))
          → HaveFrames k (with_own name (owners_of below))
          → OwnerHasFrame t fs program p k (Waits w ∷ below) acts
      by again (FunctionBody f) name at n frames =
          let m = below_count acts (length (owners_of below))
          (n ∙ length-append (owners_of below) (f ∷ [])
          ∙ (let o : length (owners_of below) + 1
          ≡ suc (length (owners_of below)) = omega arith in o)) in
          let same : length (activations_below w.body acts)
          ≡ length (activations_below (FunctionBody f) acts) = ap
          (λ x. length (activations_below x acts)) name in (
            λ e. ap p.leaf name ∙ frames f (subst
                (λ i. slice_get (owners_of below ++ f ∷ []) i ≡ Some f) (sym (e ∙ same ∙ m))
                (at_end (owners_of below) f)),
            again (same ∙ m) (λ g e. frames g (in_front (owners_of below) f k g e)),
          )
      by again (FuncletBody j) name at n frames =
          let b = body_there (body_of program w.body) w.next h.0.instruction at in
          let plan : IsFuncletPlan program p j b.0 = image.laid_out (FuncletBody j) b.0
          (subst (λ x. body_of program x ≡ Some b.0) name b.1) in
          let same : length (activations_below w.body acts)
          ≡ length acts = ap (λ x. length (activations_below x acts)) name in
          (λ e. ap p.leaf name ∙ plan.framed, again (same ∙ n) frames)

  module _ (s : State) (c : Configuration) (b : RepresentsAt setting s c)
      (known : IsKnown program c) where
    owner_here_framed : (k : ℕ) → c.frame.body ≡ FuncletBody k
        → OwnerHasFrame t fs program p c.frame.activation c.below b.body.acts
    owner_here_framed k name =
        let plan : IsFuncletPlan program p k b.body.slots.code = image.laid_out (FuncletBody k)
        b.body.slots.code (subst (λ x. body_of program x ≡ Some b.body.slots.code) name
        b.body.slots.body) in
        let works : WorksOn program c.frame (FuncletBody k) (owners_of c.below) = subst
        (λ x. WorksOn program c.frame x (owners_of c.below)) name known.activations.working.0 in
        let function : plan.funclet.function ≡ works.0 = some_is plan.funclet.function works.0
        (sym (ap function_of plan.there) ∙ works.1) in
        let n = owned_count program (owners_of (Waits c.frame ∷ c.below)) c.store.activations
        known.activations.stored in
        let names : length (with_own c.frame.body (owners_of c.below))
        ≡ length (owners_of c.below) = ap (λ x. length (with_own x (owners_of c.below))) name in
        owner_waits c.frame.activation c.below b.body.acts known.stacked.below
        (sym (locals_count b.body.acts) ∙ sym (ap length b.body.store) ∙ sym n ∙ names)
        (λ f e. ap (λ x. p.leaf (FunctionBody x))
        (sym (some_is works.0 f (sym works.2 ∙ e)) ∙ sym function) ∙ plan.function_framed)

    -- all that the steps ask of what is around
    pub around_here : Surroundings setting made.room s c b (counted_here c known)
    around_here = record {
      caller = λ leaf. leaf_or_funclet c b.body.slots.code c.frame.body b.body.slots.body leaf
          known.stacked.above;
      owner = owner_here_framed;
    }

    -- the instruction that the configuration is at is in the body's code
    pub code_at : (i : Instruction) → instruction_at program c ≡ Some i
        → slice_get (code setting made.room s c b (counted_here c known)).code c.frame.next ≡ Some i
    code_at i e = label_in (body_of program c.frame.body) b.body.slots.code c.frame.next i
        b.body.slots.body e

    pub held_here : length c.frame.temporaries
        ≤ (code setting made.room s c b (counted_here c known)).temporaries
    held_here =
        let d = made.room c.frame.body b.body.slots.code b.body.slots.body in
        let here : length c.frame.temporaries
        ≡ depth_at b.body.slots.code.code c.frame.next = known.depths.held
        ∙ ap (λ o. depth_in o c.frame.next) b.body.slots.body in
        let most = d.depths c.frame.next in
        omega arith

    pub goes_inside : (i : Instruction) → instruction_at program c ≡ Some i
        → GoesInside setting made.room s c b (counted_here c known) around_here i
    goes_inside i e d goes o there =
        let g = known.next i d e goes in
        slice_get_within o.code d.frame.next g.instruction
        (label_in (body_of program d.frame.body) o d.frame.next g.instruction there g.at)

    -- what an instruction needs is there
    pub ready_here : (i : Instruction) → instruction_at program c ≡ Some i → IsReady program c i
    ready_here i e = subst (IsReady program c)
        (some_is known.continues.instruction i (sym known.continues.at ∙ e)) known.continues.ready

-- code that begins with so many separators has as many at the least
separators_first : (n : ℕ) (code : List Instruction)
    → n ≤ separators (replicate n instructions.Separator ++ code)
separators_first zero code = omega arith
separators_first (suc n) code = let rest = separators_first n code in omega arith

handler_weighs : (program : LinearProgram) (f : ℕ) (h : IsVectoredCallee program f)
    → weight h.callee.function < separators_in (body_of program (FunctionBody f)) 0
handler_weighs program f h =
    let count = depth_weight h.callee.function + 1 in
    let least = separators_first count h.rest in
    let same : separators_in (body_of program (FunctionBody f)) 0
    ≡ separators (replicate count instructions.Separator ++ h.rest) =
    ap (λ o. separators_in (linear.function_body o) 0) h.callee.there ∙ ap separators h.begins in
    omega arith

-- the vectored handlers of a configuration may be asked
pub askable_here : (program : LinearProgram) (fs : List ℕ) → IsWhole program
    → CanBeAsked program fs → AreListable program fs
askable_here program [] whole h = tt
askable_here program (f ∷ fs) whole h = (
  record {
    callee = h.0.0.callee;
    fits = whole.parameters f h.0.0.callee.function h.0.0.callee.there;
    weighs = handler_weighs program f h.0.0;
    adds = h.0.1;
  },
  askable_here program fs whole h.1,
)
