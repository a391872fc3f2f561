-- A body returns: its result is fetched, its frame is given back by the epilogue of its plan, and
-- the return is made; the shadow is kept.
use Rattle.std.proofs.Common.{◌≡◌, ℕ, suc, ◌+◌, ◌^◌, ◌<◌, ◌==◌, Bool, Option, Some, None, true, false, List, [], ◌∷◌, ◌++◌, length, refl, sym, ap, subst, ◌∙◌, arith, inl, length-append, append_assoc}
use Rattle.std.specs.Prelude.{slice_get}
use Rattle.std.proofs.lemmas.Bool.{and_parts, eqb-true, false≢true}
use Rattle.std.proofs.lemmas.List.{append-nil}
use Rattle.match_bodies.specs.Words.{frame_info, Memory, Rax, Rsp, Instr, State, register, get, AllSmall, Functions, Funclet, Slot, Local, Temporary, LinearBody, BodyName, body_of, Layout, size, sizes, is_encodable, fetch, fetch_local, local_at, Steps, HasCode, StackItem, KeepsShadow, AllKeep, context_below, FindsReturn, FindsOwed, Owed, nothing_owed, owed_of, owed_by, Setting, return_code, Place, InRegister, InFrame, Arriving, place_of, fetch_placed}
use Rattle.eh_tables.specs.declared.code.UnwindOperation.{UnwindOperation}
use Rattle.x64_instr.specs.Registers as numbers
use Rattle.x64_instr.specs.declared.instruction.Instr.TheVariants as instrs
use Rattle.linear_code.specs.declared.instruction.Instruction.TheVariants as instructions
use Rattle.virtual_unwind.specs.Undone.{operations}
use Rattle.frame_rules.specs.Bytes.{spell}
use Rattle.frame_rules.specs.Body.{are_restored}
use Rattle.frame_rules.specs.Codes.{allocation, are_allowed, pushed}
use Rattle.frame_rules.specs.Epilogue.{gives_back}
use Rattle.frame_rules.specs.Plan.{FramePlan, Saved, all_encodable, epilogue, load_of, loads_then, opening_by, opening_then, operations_of, pops_then}
use Rattle.frame_rules.specs.Frame.{HoldsFrame}
use Rattle.frame_rules.specs.States.{registers}
use Rattle.frame_rules.proofs.Bytes.{plans_are_encodable}
use Rattle.frame_rules.proofs.Leaving.{InLoads, Known}
use Rattle.frame_rules.proofs.Order.{ordered}
use Rattle.frame_rules.proofs.Emitting.{gives_all}
use Rattle.frame_rules.proofs.Planned.{AllLoadable, all_loadable, allocation_plan, allowed_later, loaded, pushes_plan, restored_plan}
use Rattle.frame_rules.proofs.Planning.{codes_plan, framed_plan, ordered_plan}
use Rattle.template_code.specs.Frames.{plan_of_layout}
use Rattle.template_code.proofs.Frames.{epilogue_unprobed}
use Rattle.match_bodies.specs.CodeSites.{body_plan, epilogue_through}
use Rattle.match_bodies.specs.Callers.{owed_opening}
use Rattle.match_bodies.specs.Layouts.{IsFramePlan}
use Rattle.match_bodies.specs.ProgramImages.{FindsCallers, loaded_at}
use Rattle.match_bodies.specs.Setting.{HasProgram}
use Rattle.match_bodies.proofs.Lemmas.{code_split, Fine, keep_first}
use Rattle.match_bodies.proofs.Places.StackTop.{leaf_layout}
use Rattle.match_bodies.proofs.Prologues.FrameCode.{leaf_ending, loads_before, loads_through, through_pop}
use Rattle.match_bodies.proofs.Steps.BodyFrames.{codes_above, frame_plan_is, slots_some, slots_within}
use Rattle.match_bodies.proofs.Walks.SilentTurns.{program_kept}
use Rattle.match_bodies.proofs.Walks.RoutineWalks.{code_next, StepsTo, steps_split, keeps_split, Beneath, AllPlain, plain_steady, Finds, Ran, ran}
use Rattle.match_bodies.proofs.Walks.ShadowTurns.{return_keeps_shadow, returned_others}
use Rattle.match_bodies.proofs.Steps.InstructionEffects.{others_of}
use Rattle.match_bodies.proofs.Places.LabelPlaces.{template_there}
use Rattle.match_bodies.proofs.Prologues.PrologueSteps.{of_codes, fits, holds}
use Rattle.match_bodies.proofs.Prologues.EpilogueSteps.{none_left, opening_made, pop_made, returns_found}
use Rattle.match_bodies.proofs.Steps.LoadSteps.{load_made, loads_done}

-- what a return fetches
fetch_local_plain : (d whole e : ℕ) (o : Option ℕ) (k : ℕ) → Fine (fetch_local o Rax k)
    → AllPlain d whole e (fetch_local o Rax k)
fetch_local_plain d whole e None k f = ((f.0, inl refl), tt)
fetch_local_plain d whole e (Some b) k f = ((f.0, inl refl), ((f.3.0, inl refl), tt))

fetch_placed_plain : (d whole e : ℕ) (y : Layout) (i : ℕ) (p : Place)
    → Fine (fetch_placed y Rax i p) → AllPlain d whole e (fetch_placed y Rax i p)
fetch_placed_plain d whole e y i (InRegister r) f = ((f.0, inl refl), tt)
fetch_placed_plain d whole e y i InFrame f = fetch_local_plain d whole e y.base (local_at y i) f
fetch_placed_plain d whole e y i Arriving f = ((f.0, inl refl), tt)

pub fetch_plain : (d whole e : ℕ) (y : Layout) (x : Slot) → Fine (fetch y Rax x)
    → AllPlain d whole e (fetch y Rax x)
fetch_plain d whole e y (Temporary i) f = ((f.0, inl refl), tt)
fetch_plain d whole e y (Local i) f = fetch_placed_plain d whole e y i (place_of y i) f

-- so many turns lead out of a body: each keeps the shadow, and then its caller has these registers
-- again
pub record LeavesBody (t : Functions) (fs : List Funclet) (others : List ℕ) (to : State) (n : ℕ)
    (from : State) : Type 0 where
  pub keeps : AllKeep t fs n from
  pub others_are : others_of to.cpu.registers ≡ others

module _ (setting : Setting) where
  open setting use {functions as t, funclets as fs, program, plan as p, sites as q, image}

  module _ (name : BodyName) (b : LinearBody) (is : body_of program name ≡ Some b) (label : ℕ)
      (from : Slot) (at : slice_get b.code label ≡ Some (instructions.Return from))
      (s w : State) (top back : ℕ) (others : List ℕ) (list : List StackItem)
      (here : s.cpu.rip ≡ p.address name label)
      (beneath : Beneath t s (owed_of p name) top (top + 8) back others list)
      (below : register s.cpu Rsp + (p.layout name).frame ≡ top)
      (has : HasProgram setting s.memory)
      (plain : AllPlain (p.layout name).slots (p.layout name).frame 8
      (fetch (p.layout name) Rax from))
      (run : StepsTo (length (return_code (p.layout name) from)) s w) where
    abbrev y : Layout
    y = p.layout name

    abbrev fetching : List Instr
    fetching = fetch y Rax from

    abbrev last : List Instr
    last = epilogue (plan_of_layout y 0)

    halves : (u : State) × StepsTo (length fetching) s u × StepsTo (length last) u w
    halves = steps_split (length fetching) (length last) s w
        (subst (λ n. StepsTo n s w) (length-append fetching last) run)

    abbrev u : State
    u = halves.0

    codes : (m : Memory) → HasProgram setting m → HasCode m (p.address name label) fetching ×
        HasCode m (p.address name label + sizes fetching) last
    codes m h = code_split m (p.address name label) fetching last
        (template_there setting name b is m h label (instructions.Return from) at)

    abbrev owed : Owed
    owed = owed_of p name

    abbrev callers : FindsCallers t fs program p q name b
    callers = image.callers name b is

    -- past some loads
    abbrev load_place : List Saved → ℕ
    load_place done = loaded_at t fs program p q name label from done

    -- the plan of its frame, and without its saves
    abbrev framing : FramePlan
    framing = body_plan p q name

    abbrev bare : FramePlan
    bare = record framing { saves = [] }

    abbrev f : ℕ
    f = framing.frame

    abbrev offset : ℕ
    offset = framing.distance

    owed_is : p.leaf name ≡ false → owed ≡ of_codes f offset (operations_of framing)
    owed_is framed =
        let h = image.plans name b is framed in
        let codes' = ap operations h.codes ∙ codes_plan spell framing in
        ap (owed_by (frame_info p name)) framed ∙ (λ j. record {
          register = h.frame_register j;
          offset = h.frame_offset j;
          codes = codes' j;
        })

    owed_none : p.leaf name ≡ true → owed ≡ nothing_owed
    owed_none leaf = ap (owed_by (frame_info p name)) leaf

    -- where nothing is saved, the codes but for the saves are all
    bare_is : framing.saves ≡ [] → owed_opening framing ≡ of_codes f offset (operations_of framing)
    bare_is e = ap (λ (ss : List Saved). of_codes f offset
        (operations_of (record framing { saves = ss }))) (sym e)

    -- once the result is fetched
    fetched_found : (m : Memory) → HasProgram setting m
        → FindsOwed t m (p.address name label + sizes fetching) owed
    fetched_found m h = subst (λ a. FindsOwed t m a owed) (let z : p.address name label
        + sizes fetching + 0 ≡ p.address name label + sizes fetching = omega arith in z)
        (by (p.leaf name) refl)
      where
        by_saves : p.leaf name ≡ false → (ss : List Saved) → framing.saves ≡ ss
            → FindsOwed t m (load_place []) owed
        by_saves framed [] e =
            subst (FindsOwed t m (load_place [])) (bare_is e ∙ sym (owed_is framed))
            (subst (λ (ss : List Saved). FindsOwed t m
            (load_place ss) (owed_opening framing))
            e (callers.opens m label from h at framed))
        by_saves framed (s ∷ ss) e = callers.loads m label from [] ss s h at framed e

        by : (leaf : Bool) → p.leaf name ≡ leaf → FindsOwed t m (load_place []) owed
        by true leaf = subst (FindsOwed t m (load_place [])) (sym (owed_none leaf))
            (callers.leaf_ends m label from h at leaf)
        by false framed = by_saves framed framing.saves refl

    finds : Finds t fs program p q owed top (top + 8) back others list s.cpu.rip fetching
    finds done [] split m h = subst (λ a. FindsOwed t m (a + sizes done) owed) (sym here)
        (subst (λ (is' : List Instr). FindsOwed t m (p.address name label + sizes is') owed)
        (split ∙ append-nil done) (fetched_found m h))
    finds done (item ∷ left) split m h = subst (λ a. FindsOwed t m (a + sizes done) owed) (sym here)
        (callers.returns m label from done left item h at split)

    first : Ran t fs program p q owed top (top + 8) back others list y.slots y.frame 8 s u fetching
    first = ran t fs program p q owed top (top + 8) back others list fetching s u y.slots
        y.frame 8 halves.1
        (plain_steady owed y.slots y.frame 8 fetching plain)
        (subst (λ a. HasCode s.memory a fetching) (sym here) (codes s.memory has).0) has
        beneath below refl (slots_within setting name b is)
        (codes_above setting name b is (register s.cpu Rsp)) finds

    there_is : p.address name label + sizes fetching ≡ u.cpu.rip
    there_is = omega (arith, first.rip)

    epilogue_found : FindsOwed t u.memory u.cpu.rip owed
    epilogue_found = subst (λ a. FindsOwed t u.memory a owed) there_is
        (fetched_found u.memory first.has)

    -- the run from a state up to the body's last
    abbrev Leaves : ℕ → State → Type 0
    Leaves n v = LeavesBody t fs others w n v

    -- one more before them
    leaves_then : (n : ℕ) (v x : State) → Steps v x → KeepsShadow t fs v x → Leaves n x
        → Leaves (suc n) v
    leaves_then n v x st keeps l = record {
      keeps = keep_first t fs n v x st.steps keeps l.keeps;
      others_are = l.others_are;
    }

    -- the return itself
    last_leaves : (v : State) → Beneath t v nothing_owed top (top + 8) back others list
        → FindsReturn t v.memory v.cpu.rip → HasCode v.memory v.cpu.rip (instrs.Return ∷ [])
        → StepsTo 1 v w → Leaves 1 v
    last_leaves v b' found code r = record {
      keeps = keep_first t fs 0 v r.0 r.1.steps
          (return_keeps_shadow t fs top (top + 8) back others list v r.0 r.1 b' [] code found) tt;
      others_are = subst (λ (x : State). others_of x.cpu.registers ≡ others) r.2
          (returned_others t fs top (top + 8) back others list v r.0 r.1 b' [] code);
    }

    -- ---- a body with a frame

    module _ (framed : p.leaf name ≡ false) (saved : AllSmall others) (low : top < 2 ^ 47) where
      planned : IsFramePlan y (plan_of_layout y 0)
      planned = frame_plan_is setting name b is framed

      close : offset < 2 ^ 16
      close = planned.is_plan.distance

      high : top < 2 ^ 63
      high = omega arith

      abbrev Under : List UnwindOperation → State → Type 0
      Under ops v = Beneath t v (of_codes f offset ops) top (top + 8) back others list

      abbrev before : ℕ → ℕ
      before = get (context_below back top others)

      fit : (r : ℕ) → before r < 2 ^ 64
      fit = fits t fs f offset top (top + 8) back others list close saved high

      allowed : are_allowed f (operations_of framing) ≡ true
      allowed = planned.is_plan.allowed

      known : Known f offset before (operations_of framing)
      known = record {
        ordered = ordered (operations_of framing) (ordered_plan framing);
        allowed = allowed;
        frame = framed_plan framing;
        high = low;
        fits = fit;
      }

      known_bare : Known f offset before (operations_of bare)
      known_bare = record {
        ordered = ordered (operations_of bare) (ordered_plan bare);
        allowed = allowed_later f framing.saves (operations_of bare) allowed;
        frame = framed_plan bare;
        high = low;
        fits = fit;
      }

      -- after the opening and some pops
      abbrev place : List ℕ → ℕ
      place popped = p.address name label + sizes fetching
          + sizes (epilogue_through framing popped)

      place_found : (popped left : List ℕ) → framing.pushes ≡ popped ++ left → (m : Memory)
          → HasProgram setting m
          → FindsOwed t m (place popped) (of_codes f offset (pushed left))
      place_found popped left e m h = (image.callers name b is).ends m label from popped left h at
          framed e

      -- the pops that are left, and the return
      pops_leave : (left popped : List ℕ) → framing.pushes ≡ popped ++ left → (v : State)
          → v.cpu.rip ≡ place popped → Under (pushed left) v → HasProgram setting v.memory
          → HasCode v.memory v.cpu.rip (pops_then left (instrs.Return ∷ []))
          → StepsTo (length (pops_then left (instrs.Return ∷ []))) v w
          → Leaves (length (pops_then left (instrs.Return ∷ []))) v
      pops_leave [] popped e v here' b' has' code r =
          last_leaves v (none_left t v f offset top (top + 8) back others list b')
          (returns_found t v.memory v.cpu.rip f offset (omega arith)
          (subst (λ a. FindsOwed t v.memory a (of_codes f offset [])) (sym here')
          (place_found popped [] e v.memory has'))) code r
      pops_leave (k ∷ left) popped e v here' b' has' code r =
          let x = r.0 in
          let st = r.1 in
          let i = instrs.Pop (numbers.register k) in
          let more = pops_then left (instrs.Return ∷ []) in
          let e' : framing.pushes ≡ (popped ++ (k ∷ [])) ++ left =
          e ∙ sym (append_assoc popped (k ∷ []) left) in
          let to : v.cpu.rip + size i ≡ place (popped ++ (k ∷ [])) =
          omega (arith, here', through_pop framing popped k) in
          let has'' = program_kept t fs program p q v.memory x.memory
          (record { protection = st.protection; fixed = st.fixed }) has' in
          let m = pop_made t fs f offset top (top + 8) back others list close saved high low v x k
          left more st b' code (subst (λ a. FindsOwed t v.memory a (of_codes f offset
          (pushed (k ∷ left)))) (sym here') (place_found popped (k ∷ left) e v.memory has'))
          (subst (λ a. FindsOwed t x.memory a (of_codes f offset (pushed left))) (sym to)
          (place_found (popped ++ (k ∷ [])) left e' x.memory has'')) in
          leaves_then (length more) v x st m.keeps
          (pops_leave left (popped ++ (k ∷ [])) e' x (m.rip ∙ to) m.beneath has''
          (code_next v x i more refl code st m.rip) r.2)

      -- all of them
      abbrev ending : List Instr
      ending = pops_then framing.pushes (instrs.Return ∷ [])

      -- the allocation is given back
      opening_leaves : (none : Bool) → (framing.size == 0) ≡ none → (v : State)
          → v.cpu.rip ≡ load_place framing.saves → Under (operations_of bare) v
          → HasProgram setting v.memory → all_encodable (opening_then framing none ending) ≡ true
          → HasCode v.memory v.cpu.rip (opening_then framing none ending)
          → StepsTo (length (opening_then framing none ending)) v w
          → Leaves (length (opening_then framing none ending)) v
      opening_leaves true e v here' b' has' enc code r =
          absurd (let some = slots_some setting name b is framed in let room = planned.slots in
          let none = eqb-true framing.size 0 e in omega arith)
      opening_leaves false e v here' b' has' enc code r =
          let x = r.0 in
          let st = r.1 in
          let i = opening_by framing (f == 0) in
          let one = (and_parts (is_encodable i) (all_encodable ending) enc).0 in
          let gives : gives_back f offset (allocation (operations_of bare)) i ≡ true =
          subst (λ n. gives_back f offset n i ≡ true)
          (allocation_plan (plan_of_layout y 0) ∙ sym (allocation_plan bare))
          (gives_all (plan_of_layout y 0) planned.is_plan (f == 0) refl) in
          let through : sizes (epilogue_through framing [])
          ≡ sizes (loads_then framing.saves []) + (size i + 0) =
          ap (λ none. sizes (loads_then framing.saves (opening_then framing none []))) e
          ∙ loads_before framing.saves (i ∷ []) in
          let to : v.cpu.rip + size i ≡ place [] = omega (arith, here', through) in
          let has'' = program_kept t fs program p q v.memory x.memory
          (record { protection = st.protection; fixed = st.fixed }) has' in
          let m = opening_made t fs f offset top (top + 8) back others list close saved high low v
          x i ending (operations_of bare) st b' known_bare (restored_plan bare []) gives one code
          (subst (λ a. FindsOwed t v.memory a (owed_opening framing)) (sym here')
          (callers.opens v.memory label from has' at framed))
          (subst (λ (rs : List ℕ). FindsOwed t x.memory (v.cpu.rip + size i)
          (of_codes f offset (pushed rs))) (sym (pushes_plan bare))
          (subst (λ a. FindsOwed t x.memory a (of_codes f offset (pushed framing.pushes))) (sym to)
          (place_found [] framing.pushes refl x.memory has''))) in
          let below' = subst (λ (rs : List ℕ). Under (pushed rs) x) (pushes_plan bare)
          m.beneath in
          leaves_then (length ending) v x st m.keeps
          (pops_leave framing.pushes [] refl x (m.rip ∙ to) below' has''
          (code_next v x i ending one code st m.rip) r.2)

      -- ---- the loads

      abbrev opening : List Instr
      opening = opening_then framing (framing.size == 0) ending

      -- where these are left, the codes that are to be undone
      abbrev codes_at : List Saved → List UnwindOperation
      codes_at [] = operations_of bare
      codes_at (s ∷ ss) = operations_of framing

      loads_found : (left done : List Saved) → framing.saves ≡ done ++ left → (m : Memory)
          → HasProgram setting m
          → FindsOwed t m (load_place done) (of_codes f offset (codes_at left))
      loads_found [] done e m h = subst (λ (ss : List Saved). FindsOwed t m
          (load_place ss) (owed_opening framing)) (e ∙ append-nil done)
          (callers.opens m label from h at framed)
      loads_found (s ∷ left) done e m h = subst (FindsOwed t m (load_place done))
          (owed_is framed) (callers.loads m label from done left s h at framed e)

      -- once these registers are loaded, the frame is as the codes tell
      leaves : (left : List Saved) (rs : List ℕ) → loaded left rs ≡ loaded framing.saves []
          → (v : State) → InLoads f offset before back (operations_of framing) rs v
          → HoldsFrame f offset v.memory before back (registers v) (codes_at left) (codes_at left)
      leaves [] rs e v h = loads_done f offset back before framing.saves (operations_of bare) rs v h
          (subst (λ (ks : List ℕ). are_restored ks (operations_of framing) ≡ true) (sym e)
          (restored_plan framing []))
      leaves (s ∷ left) rs e v h = h.holds

      codes_allowed : (left : List Saved) → are_allowed f (codes_at left) ≡ true
      codes_allowed [] = known_bare.allowed
      codes_allowed (s ∷ left) = allowed

      loads_leave : (left done : List Saved) (rs : List ℕ) → framing.saves ≡ done ++ left
          → loaded left rs ≡ loaded framing.saves [] → AllLoadable f (operations_of framing) left
          → (v : State) → v.cpu.rip ≡ load_place done → Under (codes_at left) v
          → InLoads f offset before back (operations_of framing) rs v
          → HasProgram setting v.memory → all_encodable (loads_then left opening) ≡ true
          → HasCode v.memory v.cpu.rip (loads_then left opening)
          → StepsTo (length (loads_then left opening)) v w
          → Leaves (length (loads_then left opening)) v
      loads_leave [] done rs e k loadable v here' b' h has' enc code r =
          opening_leaves (framing.size == 0) refl v
          (subst (λ (ss : List Saved). v.cpu.rip ≡ load_place ss)
          (sym (e ∙ append-nil done)) here') b' has' enc code r
      loads_leave (sv ∷ left) done rs e k loadable v here' b' h has' enc code r =
          let x = r.0 in
          let st = r.1 in
          let i = load_of sv in
          let more = loads_then left opening in
          let both = and_parts (is_encodable i) (all_encodable more) enc in
          let e' : framing.saves ≡ (done ++ (sv ∷ [])) ++ left =
          e ∙ sym (append_assoc done (sv ∷ []) left) in
          let to : v.cpu.rip + size i ≡ load_place (done ++ (sv ∷ [])) =
          omega (arith, here', loads_through done sv) in
          let has'' = program_kept t fs program p q v.memory x.memory
          (record { protection = st.protection; fixed = st.fixed }) has' in
          let m = load_made t fs f offset top (top + 8) back others list close saved high low v x
          sv more (operations_of framing) (codes_at left) rs st b' h known loadable.0 both.0 code
          (subst (λ a. FindsOwed t v.memory a (of_codes f offset (operations_of framing)))
          (sym here') (loads_found (sv ∷ left) done e v.memory has')) (codes_allowed left)
          (leaves left (sv.register ∷ rs) k x)
          (subst (λ a. FindsOwed t x.memory a (of_codes f offset (codes_at left))) (sym to)
          (loads_found left (done ++ (sv ∷ [])) e' x.memory has'')) in
          leaves_then (length more) v x st m.made.keeps
          (loads_leave left (done ++ (sv ∷ [])) (sv.register ∷ rs) e' k loadable.1 x
          (m.made.rip ∙ to) m.made.beneath m.loaded has'' both.1
          (code_next v x i more both.0 code st m.made.rip) r.2)

      -- ---- all of it

      under_all : Under (operations_of framing) u
      under_all = subst (λ (o : Owed). Beneath t u o top (top + 8) back others list)
          (owed_is framed) first.beneath

      under_first : (ss : List Saved) → framing.saves ≡ ss → Under (codes_at ss) u
      under_first [] e = subst (λ (o : Owed). Beneath t u o top (top + 8) back others list)
          (sym (bare_is e)) under_all
      under_first (s ∷ ss) e = under_all

      not_loaded : InLoads f offset before back (operations_of framing) [] u
      not_loaded = record {
        length = under_all.count;
        holds = holds t fs f offset top (top + 8) back others list close saved high u
            (operations_of framing) under_all;
        restored = λ r e. absurd (false≢true e);
      }

      framed_leaves : Leaves (length last) u
      framed_leaves =
          let same = epilogue_unprobed framing 0 in
          let z : load_place [] ≡ u.cpu.rip = omega (arith, there_is) in
          subst (λ (c : List Instr). Leaves (length c) u) (sym same)
          (loads_leave framing.saves [] [] refl refl
          (all_loadable (plan_of_layout y 0) planned.is_plan) u (sym z)
          (under_first framing.saves refl) not_loaded first.has
          (subst (λ (c : List Instr). all_encodable c ≡ true) same
          (plans_are_encodable (plan_of_layout y 0) planned.is_plan).1)
          (subst (HasCode u.memory u.cpu.rip) same
          (subst (λ a. HasCode u.memory a last) there_is (codes u.memory first.has).1))
          (subst (λ (c : List Instr). StepsTo (length c) u w) same halves.2))

    -- ---- a leaf function has none

    leaf_leaves : p.leaf name ≡ true → Leaves (length last) u
    leaf_leaves leaf =
        let bare = leaf_ending y
        (leaf_layout t fs program p q name b leaf (image.laid_out name b is)).plan in
        let same = owed_none leaf in
        subst (λ (c : List Instr). Leaves (length c) u) (sym bare)
        (last_leaves u
        (subst (λ (o : Owed). Beneath t u o top (top + 8) back others list) same first.beneath)
        (subst (λ (o : Owed). FindsOwed t u.memory u.cpu.rip o) same epilogue_found)
        (subst (HasCode u.memory u.cpu.rip) bare
        (subst (λ a. HasCode u.memory a last) there_is (codes u.memory first.has).1))
        (subst (λ (c : List Instr). StepsTo (length c) u w) bare halves.2))

    pub returns_leave : AllSmall others → top < 2 ^ 47 → Leaves (length (return_code y from)) s
    returns_leave saved low =
        let l = by (p.leaf name) refl in
        record {
          keeps = subst (λ n. AllKeep t fs n s) (sym (length-append fetching last))
              (keeps_split t fs (length fetching) (length last) s u halves.1 first.keeps l.keeps);
          others_are = l.others_are;
        }
      where
        by : (leaf : Bool) → p.leaf name ≡ leaf → Leaves (length last) u
        by true e = leaf_leaves e
        by false e = framed_leaves e saved low
