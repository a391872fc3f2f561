-- What is known of a funclet that begins, from the configuration in which it does.
use Rattle.std.proofs.Common.{◌≡◌, ℕ, zero, suc, false, Option, Some, None, List, [], ◌∷◌, ◌++◌, length, refl, sym, ap, subst, ◌∙◌, arith, inl, inr, length-append}
use Rattle.std.specs.Prelude.{slice_get}
use Rattle.match_turns.specs.Words.{Memory, RegionKind, FuncletKind, LinearProgram, LinearBody, LinearFunclet, BodyName, FunctionBody, FuncletBody, body_of, function_body, funclet_body, Frame, Handler, Item, Waits, Searches, Unwinds, parent_of, function_of, owner_of, IsFuncletOf, IsFilterKind, IsKindOf, with_own, owners_of, AreWorking, IsActivationOf, AreActivations, by_parent, Activation, activations_below, Leads, parent_base, IsFuncletPlan, OwnerHasFrame, Setting, Handles, IsHandler}
use Rattle.linear_code.specs.declared.program.RegionKind.TheVariants as kinds
use Rattle.linear_code.specs.declared.program.FuncletKind.TheVariants as funclets
use Rattle.lowering_invariants.specs.Activations.{WorksOn}
use Rattle.match_turns.proofs.Lemmas.{got_before, got_last}
use Rattle.match_turns.proofs.Funclets.FuncletPrologue.{LeadsBy}

same_number : (a b : ℕ) → Some a ≡ Some b → a ≡ b
same_number a b e = cc

same_funclet : (a b : LinearFunclet) → Some a ≡ Some b → a ≡ b
same_funclet a b e = cc

same_body : (a b : LinearBody) → Some a ≡ Some b → a ≡ b
same_body a b e = cc

-- ---- a filter that is asked is one of a body

module _ (program : LinearProgram) where
  pub record IsFilterOfSome (k : ℕ) : Type 0 where
    pub parent : BodyName
    pub funclet : IsFuncletOf program parent IsFilterKind k

  by_kind : (name : BodyName) (end : ℕ) (kind : RegionKind) (filter : Option ℕ) (target k : ℕ)
      → IsKindOf program name end kind → Handles program kind filter target → filter ≡ Some k
      → IsFilterOfSome k
  by_kind name end (kinds.Finally j) filter target k is h e = absurd h
  by_kind name end (kinds.Filter j label) filter target k is h e =
      record {
        parent = name;
        funclet = subst (IsFuncletOf program name IsFilterKind)
            (same_number j k (sym h.0 ∙ e)) is.0;
      }
  by_kind name end (kinds.Always label) filter target k is h e = let f : ◌≡◌ {A = Option ℕ} None
      (Some k) = sym h.0 ∙ e in absurd cc

  pub filter_of_some : (h : Handler) (k : ℕ) (items : List Item) → h.filter ≡ Some k
      → IsHandler program h items → IsFilterOfSome k
  filter_of_some h k [] e i = absurd i
  filter_of_some h k (Waits f ∷ below) e (inl x) = by_kind f.body x.region.end x.region.kind
      h.filter h.target k x.is_there.kind x.handles e
  filter_of_some h k (Waits f ∷ below) e (inr x) = filter_of_some h k below e x
  filter_of_some h k (Searches exception resumption asked ∷ below) e i = filter_of_some h k
      below e i
  filter_of_some h k (Unwinds rest target ∷ below) e i = filter_of_some h k below e i

  pub is_filter : (kind : FuncletKind) → IsFilterKind kind → kind ≡ funclets.Filter
  is_filter funclets.Filter h = refl
  is_filter (funclets.Finally flag) h = absurd h

  -- ---- activations

  pub record HasLocals (xs : List (List ℕ)) (i function : ℕ) : Type 0 where
    pub locals : List ℕ
    pub there : slice_get xs i ≡ Some locals
    pub of : IsActivationOf program function locals

  pub activation_at : (ks : List ℕ) (xs : List (List ℕ)) (i function : ℕ)
      → AreActivations program ks xs → slice_get ks i ≡ Some function → HasLocals xs i function
  activation_at [] xs i function h e = cc
  activation_at (k ∷ ks) [] i function h e = absurd h
  activation_at (k ∷ ks) (x ∷ xs) zero function h
      e = record {
        locals = x;
        there = refl;
        of = subst (λ j. IsActivationOf program j x)
            (same_number k function e) h.0;
      }
  activation_at (k ∷ ks) (x ∷ xs) (suc i) function h e = let r = activation_at ks xs i function h.1
      e in record { locals = r.locals; there = r.there; of = r.of }

  pub as_many : (ks : List ℕ) (xs : List (List ℕ)) → AreActivations program ks xs
      → length ks ≡ length xs
  as_many [] [] h = refl
  as_many [] (x ∷ xs) h = absurd h
  as_many (k ∷ ks) [] h = absurd h
  as_many (k ∷ ks) (x ∷ xs) h = ap suc (as_many ks xs h.1)

-- ---- where a funclet is laid out

module _ (setting : Setting) where
  open setting use {functions as t, funclets as fs, program, plan as p, image}

  -- the locals of its function
  pub own_locals : (k : ℕ) (f : LinearFunclet) → slice_get program.funclets k ≡ Some f
      → (p.layout (FuncletBody k)).locals ≡ (p.layout (FunctionBody f.function)).locals
  own_locals k f there =
      let plan : IsFuncletPlan program p k f.body = image.laid_out (FuncletBody k) f.body
      (ap funclet_body there) in
      plan.layout.locals ∙ ap (λ (g : LinearFunclet). (p.layout (FunctionBody g.function)).locals)
      (same_funclet plan.funclet f (sym plan.there ∙ there))

  -- a funclet with a function is there
  pub record IsThere (k function : ℕ) : Type 0 where
    pub funclet : LinearFunclet
    pub there : slice_get program.funclets k ≡ Some funclet
    pub function_is : funclet.function ≡ function

  pub is_there : (k function : ℕ) → owner_of program (FuncletBody k) ≡ Some function
      → IsThere k function
  is_there k function e = by (slice_get program.funclets k) refl e
    where
      by : (o : Option LinearFunclet) → slice_get program.funclets k ≡ o
          → function_of o ≡ Some function → IsThere k function
      by None is e = cc
      by (Some f) is e = record {
        funclet = f;
        there = is;
        function_is = same_number f.function function e;
      }

  pub no_leaf : (k function : ℕ) → owner_of program (FuncletBody k) ≡ Some function
      → (p.leaf (FuncletBody k) ≡ false) × (p.leaf (FunctionBody function) ≡ false)
  no_leaf k function e =
      let i = is_there k function e in
      let plan : IsFuncletPlan program p k i.funclet.body = image.laid_out (FuncletBody k)
      i.funclet.body (ap funclet_body i.there) in
      let same : plan.funclet.function ≡ function = ap (λ (g : LinearFunclet). g.function)
      (same_funclet plan.funclet i.funclet (sym plan.there ∙ i.there)) ∙ i.function_is in
      (plan.framed, subst (λ j. p.leaf (FunctionBody j) ≡ false) same plan.function_framed)

  -- a funclet's parent has the same function, whose locals are as far from its base
  pub parent_locals : (k : ℕ) (f : LinearFunclet) (o : Option ℕ) (name : BodyName)
      → slice_get program.funclets k ≡ Some f → by_parent f.function o ≡ name
      → owner_of program (parent_of f.function o) ≡ Some f.function
      → (p.layout name).locals ≡ (p.layout (FuncletBody k)).locals
  parent_locals k f None name there e owner = ap (λ n. (p.layout n).locals) (sym e)
      ∙ sym (own_locals k f there)
  parent_locals k f (Some j) name there e owner =
      let i = is_there j f.function owner in
      ap (λ n. (p.layout n).locals) (sym e) ∙ own_locals j i.funclet i.there
      ∙ ap (λ g. (p.layout (FunctionBody g)).locals) i.function_is ∙ sym (own_locals k f there)

  -- and in the same registers
  own_registers : (k : ℕ) (f : LinearFunclet) → slice_get program.funclets k ≡ Some f
      → p.register (FuncletBody k) ≡ p.register (FunctionBody f.function)
  own_registers k f there =
      let plan : IsFuncletPlan program p k f.body = image.laid_out (FuncletBody k) f.body
      (ap funclet_body there) in
      (λ j x. plan.same_registers x j)
      ∙ ap (λ (g : LinearFunclet). p.register (FunctionBody g.function))
      (same_funclet plan.funclet f (sym plan.there ∙ there))

  pub parent_registers : (k : ℕ) (f : LinearFunclet) (o : Option ℕ) (name : BodyName)
      → slice_get program.funclets k ≡ Some f → by_parent f.function o ≡ name
      → owner_of program (parent_of f.function o) ≡ Some f.function
      → p.register name ≡ p.register (FuncletBody k)
  parent_registers k f None name there e owner = ap (λ n. p.register n) (sym e)
      ∙ sym (own_registers k f there)
  parent_registers k f (Some j) name there e owner =
      let i = is_there j f.function owner in
      ap (λ n. p.register n) (sym e) ∙ own_registers j i.funclet i.there
      ∙ ap (λ g. p.register (FunctionBody g)) i.function_is ∙ sym (own_registers k f there)

  -- what RDX leads to, by the parent
  pub leads_by : (m : Memory) (f : LinearFunclet) (o : Option ℕ) (name : BodyName) (frame base : ℕ)
      → by_parent f.function o ≡ name → owner_of program (parent_of f.function o) ≡ Some f.function
      → Leads m (p.layout name) name frame base → LeadsBy m (parent_base p o) frame base
  leads_by m f None name frame base e owner h = subst (λ n. Leads m (p.layout n) n frame base)
      (sym e) h
  leads_by m f (Some j) name frame base e owner h =
      let l : Leads m (p.layout (FuncletBody j)) (FuncletBody j) frame base = subst
      (λ n. Leads m (p.layout n) n frame base) (sym e) h in
      let i = is_there j f.function owner in
      let plan : IsFuncletPlan program p j i.funclet.body = image.laid_out (FuncletBody j)
      i.funclet.body (ap funclet_body i.there) in
      let slot : l.slot ≡ plan.layout.slot = same_number l.slot plan.layout.slot
      (sym l.some ∙ plan.layout.base) in
      let a = plan.layout.kept in
      let b = plan.layout.temporaries in
      let d = plan.layout.within in
      let c = plan.layout.small in
      subst (λ o. LeadsBy m o frame base) (sym l.some)
      (record { near = omega arith; room = l.room; kept = l.kept })

  -- as many locals as it names
  pub locals_counted : (k : ℕ) (f : LinearFunclet) (function : ℕ) (locals : List ℕ)
      → slice_get program.funclets k ≡ Some f → f.function ≡ function
      → IsActivationOf program function locals → length locals ≡ f.body.locals
  locals_counted k f function locals there same of =
      let plan : IsFuncletPlan program p k f.body = image.laid_out (FuncletBody k) f.body
      (ap funclet_body there) in
      let g : plan.funclet.function ≡ function = ap (λ (g : LinearFunclet). g.function)
      (same_funclet plan.funclet f (sym plan.there ∙ there)) ∙ same in
      let b : body_of program (FunctionBody function)
      ≡ Some of.function.body = ap function_body of.there in
      let e : plan.function ≡ of.function.body = same_body plan.function of.function.body
      (sym plan.function_there ∙ ap (λ j. body_of program (FunctionBody j)) g ∙ b) in
      of.count ∙ ap (λ (x : LinearBody). x.locals) (sym e) ∙ sym plan.same_locals

  -- ---- wherever the function of an activation waits, it has a frame

  abbrev pub OwnerIsFramed : ℕ → List ℕ → Type 0
  OwnerIsFramed n owners = (function : ℕ) → slice_get owners n ≡ Some function
      → p.leaf (FunctionBody function) ≡ false

  body_framed : (n : ℕ) (b : Frame) (below : List Item) (acts : List Activation) (name : BodyName)
      → WorksOn program b name (owners_of below)
      → length acts ≡ length (with_own name (owners_of below))
      → OwnerIsFramed n (with_own name (owners_of below))
      → ((xs : List Activation) → length xs ≡ length (owners_of below)
      → OwnerIsFramed n (owners_of below) → OwnerHasFrame t fs program p n below xs)
      → (n ≡ length (activations_below name acts) → p.leaf name ≡ false)
      × OwnerHasFrame t fs program p n below (activations_below name acts)
  body_framed n b below [] (FunctionBody g) is e h go = absurd
      (omega (arith, length-append (owners_of below) (g ∷ [])))
  body_framed n b below (x ∷ outer) (FunctionBody g) is e h go =
      let m : length outer ≡ length (owners_of below) = omega
      (arith, length-append (owners_of below) (g ∷ [])) in (
        λ i. h g (subst (λ j. slice_get (owners_of below ++ g ∷ []) j ≡ Some g) (sym (i ∙ m))
            (got_last (owners_of below) g)),
        go outer m (λ function z. h function (got_before (owners_of below) (g ∷ []) n function z)),
      )
  body_framed n b below acts (FuncletBody k) is e h go = (λ i. (no_leaf k is.0 is.1).0, go acts e h)

  pub owner_framed : (n : ℕ) (items : List Item) (acts : List Activation)
      → length acts ≡ length (owners_of items) → AreWorking program items
      → OwnerIsFramed n (owners_of items) → OwnerHasFrame t fs program p n items acts
  owner_framed n [] acts e w h = tt
  owner_framed n (Searches exception resumption asked ∷ below) acts e w h = owner_framed n
      below acts e w h
  owner_framed n (Unwinds rest target ∷ below) acts e w h = owner_framed n below acts e w h
  owner_framed n (Waits b ∷ below) acts e w h = body_framed n b below acts b.body w.0 e h
      (λ xs m g. owner_framed n below xs m w.1 g)
