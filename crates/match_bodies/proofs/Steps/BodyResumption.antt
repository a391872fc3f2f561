-- A body that waits runs again.
use Rattle.std.proofs.Common.{◌≡◌, ℕ, ◌+◌, ◌≤◌, Bool, true, false, List, [], ◌∷◌, length, Option, Some, Ok, refl, sym, ap, subst, ◌∙◌, arith}
use Rattle.std.specs.Prelude.{slice_set, slice_get, slice_index}
use Rattle.std.specs.List.{AllByRecursion}
use Rattle.match_bodies.specs.Words.{Event, STACK_END, Memory, Rsp, Context, context_of, State, register, rsp, Functions, word, Funclet, Layout, Region, LinearProgram, LinearBody, LinearFunclet, BodyName, FunctionBody, FuncletBody, Frame, Item, Waits, Searches, Unwinds, body_of, holds, regions_of, StackFrame, StackItem, Framed, Leaf, FrameIsAt, after_leaf, context_below, IsWellFormed, ImagePlan, InCode, Activation, activations_below, HoldsWords, HasActivation, temporaries_end, home_end, HasSpace, below_end, BodyWaits, HasPointers, IsAbove, FuncletIsAbove, On, Sites, IsLaidOut, IsProgramImage, frame_of, slots_end, last_temporary, HasFrame, InBody, setting_of, IsAsTold, get, now_of, RegistersHold, leaf_values, FilterOf, VectoredAt, Store, host_list}
use Rattle.eh_tables.specs.Infos.{Info}
use Rattle.match_stack.specs.Stack.{teller}
use Rattle.match_bodies.specs.Callers.{frame_info}
use Rattle.virtual_unwind.specs.Undone.{operations}
use Rattle.frame_rules.specs.Codes.{depth}
use Rattle.match_stack.specs.HostUnwind.{on_top}
use Rattle.match_bodies.specs.CodeSites.{body_plan}
use Rattle.match_bodies.proofs.Lemmas.{told_depth}
use Rattle.match_bodies.proofs.Steps.InstructionEffects.{others_of}
use Rattle.match_bodies.proofs.Places.StackTop.{leaf_layout}
use Rattle.match_bodies.proofs.Places.FramePlaces.{activation_with}
use Rattle.match_bodies.proofs.Places.LeafRegisters.{leaf_with}
use Rattle.match_bodies.proofs.Steps.BodyFrames.{codes_are, frame_plan_is, small_others, told_by, told_with}
use Rattle.match_bodies.proofs.Prologues.FrameCode.{plan_depth}

all_same : (label : ℕ) (rs : List Region) → AllByRecursion
    (λ (r : Region). holds label r ≡ holds label r) rs
all_same label [] = tt
all_same label (r ∷ rs) = (refl, all_same label rs)

-- the body continues at an instruction, with these temporaries
abbrev pub again : Frame → ℕ → List ℕ → Option ℕ → Frame
again b label ts landed = record b { next = label; temporaries = ts; landed = landed }

-- where some words are, these do: the first of them, or none
abbrev pub IsFront : Memory → List ℕ → List ℕ → Type 0
IsFront m vs ts = (at end : ℕ) → HoldsWords m at end vs → HoldsWords m at end ts

module _ (t : Functions) (fs : List Funclet) (program : LinearProgram) (p : ImagePlan) (q : Sites)
  where
    abbrev IsFunctionName : BodyName → Type 0
    IsFunctionName (FunctionBody f) = Unit {0}
    IsFunctionName (FuncletBody k) = ⊥

    leaf_is_function : (name : BodyName) (b : LinearBody) → p.leaf name ≡ true
        → IsLaidOut program p name b → IsFunctionName name
    leaf_is_function (FunctionBody f) b e h = tt
    leaf_is_function (FuncletBody k) b e h = let z : true ≡ false = sym e ∙ h.framed in absurd cc

    -- a function keeps no EXCEPTION_POINTERS
    leaf_pointers : (m : Memory) (y : Layout) (sp size : ℕ) (b : Frame) (name : BodyName)
        (below : List Item) → IsFunctionName name → IsAbove t fs program p b name below
        → HasPointers t fs program p m y sp size below
    leaf_pointers m y sp size b (FuncletBody k) below is h = absurd is
    leaf_pointers m y sp size b (FunctionBody f) [] is h = tt
    leaf_pointers m y sp size b (FunctionBody f) (Waits w ∷ below) is h = tt
    leaf_pointers m y sp size b (FunctionBody f)
        (Searches exception resumption (VectoredAt place) ∷ below) is h = tt
    leaf_pointers m y sp size b (FunctionBody f)
        (Searches exception resumption (FilterOf asked rest) ∷ below) is h = absurd h
    leaf_pointers m y sp size b (FunctionBody f) (Unwinds rest target ∷ below) is h = absurd h

    -- the same name, exception and what lies below
    pub above_same : (b b' : Frame) (name : BodyName) (below : List Item)
        → b'.exception ≡ b.exception
        → IsAbove t fs program p b name below → IsAbove t fs program p b' name below
    above_same b b' (FunctionBody f) below e h = h
    above_same b b' (FuncletBody k) below e h = by_funclet (slice_get program.funclets k) below h
      where
        by_funclet : (f : Option LinearFunclet) (below : List Item)
            → FuncletIsAbove t fs program p k b f below → FuncletIsAbove t fs program p k b' f below
        by_funclet (Some f) (Searches exception resumption (FilterOf asked rest) ∷ Waits w ∷ below)
            h =
            let alike = h.1 in (h.0, (alike.0, e ∙ alike.1))
        by_funclet (Some f) (Unwinds rest target ∷ Waits w ∷ below) h = h
        by_funclet (Some f) (Waits w ∷ below) h = h
        by_funclet f below h = absurd h

    module _ (image : IsProgramImage t fs program p q) where
      -- the entry of a body's instruction tells of the body's frame
      pub same_teller : (f : StackFrame) (name : BodyName) (b : LinearBody) (label : ℕ)
          → body_of program name ≡ Some b → p.leaf name ≡ false → f.entry ≡ p.entry name label
          → teller f.entry ≡ frame_info p name
      same_teller f name b label there leaf entry =
          ap teller entry ∙ (image.one_frame name b there leaf).tells label

      pub frame_size : (m : Memory) (c : Context) (f : StackFrame) (name : BodyName)
          (b : LinearBody) (label : ℕ)
          → body_of program name ≡ Some b → p.leaf name ≡ false → f.entry ≡ p.entry name label
          → FrameIsAt t m c f → f.size ≡ (p.layout name).frame
      frame_size m c f name b label there leaf entry s =
          let codes = ap (λ (i : Info). operations i.codes)
          (same_teller f name b label there leaf entry)
          ∙ codes_are (setting_of t fs program p q image) name b there leaf in
          let plan = frame_plan_is (setting_of t fs program p q image) name b there leaf in
          let d =
          ap depth codes ∙ plan_depth (body_plan p q name) (p.layout name).frame plan.whole in
          let h = told_depth m c f s.is_told in
          omega arith

      -- and its frame is as told by the entry that the body begins in
      pub frame_told : (m : Memory) (c : Context) (f : StackFrame) (name : BodyName)
          (b : LinearBody) (label : ℕ)
          → body_of program name ≡ Some b → p.leaf name ≡ false → f.entry ≡ p.entry name label
          → f.slots ≡ (p.layout name).slots → FrameIsAt t m c f
          → IsAsTold m c (frame_of p name f.return_address f.others)
      frame_told m c f name b label there leaf entry slots s =
          told_by m c (p.entry name 0) f (same_teller f name b label there leaf entry)
          (p.layout name).slots slots (p.layout name).frame
          (frame_size m c f name b label there leaf entry s) s.is_told

      -- ---- on top of the list

      framed_again : (u : State) (c : Context) (f : StackFrame) (is : List StackItem) (b : Frame)
          (below : List Item) (acts : List Activation) (label : ℕ) (ts : List ℕ) (landed : Option ℕ)
          (source : Store) (es : List Event)
          → On t fs program p u.memory c (Framed f ∷ is) (Waits b ∷ below) acts
          → (context_of u.cpu).kept ≡ c.kept → InCode p b.body label u.cpu.rip
          → IsWellFormed (host_list p source) u
          → IsFront u.memory b.temporaries ts
          → InBody t fs program p q u (on_top (again b label ts landed) below source acts es)
      framed_again u c f is b below acts label ts landed source es on same inside well front =
          let m = u.memory in
          let name = b.body in
          let y = p.layout name in
          let s = on.is_there.stack in
          let l = on.is_there.linked in
          let w = l.0.waits in
          let b' = again b label ts landed in
          let size = frame_size m c f name w.code w.label w.body l.0.framed l.0.entry s.0 in
          let sp : register u.cpu Rsp ≡ rsp c = ap (λ (ks : List ℕ). slice_index ks 0) same in
          let up : rsp c + f.size + 8 ≡ register u.cpu Rsp + y.frame + 8 =
          omega (arith, sp, size) in
          let slots : BodyWaits t fs program p m (context_of u.cpu) (get (context_of u.cpu)) y.slots
          (temporaries_end y name y.slots) b' acts = record {
            code = w.code;
            body = w.body;
            label = label;
            instruction = record { low = inside.low; high = inside.high };
            same = all_same label (regions_of (body_of program name));
            small = well.rip_small;
            activation = activation_with m (p.register name) y c (context_of u.cpu) y.slots
                b.activation acts name same
                (subst (λ n. HasActivation m (get c) (p.register name) y (rsp c) n b.activation acts
                name) l.0.slots w.activation);
            temporaries = subst (λ x. HoldsWords m (x + y.temporaries)
                (x + temporaries_end y name y.slots) ts) (sym sp)
                (front (rsp c + y.temporaries) (rsp c + temporaries_end y name y.slots)
                (subst (λ n. HoldsWords m (rsp c + y.temporaries) (rsp c + temporaries_end y name n)
                b.temporaries) l.0.slots w.temporaries));
            space = subst (λ x. HasSpace x below_end (length acts + b.held)) (sym sp) w.space;
          } in
          record {
            acts = acts;
            store = refl;
            slots = subst (λ (leaf : Bool). BodyWaits t fs program p m (context_of u.cpu)
                (now_of leaf u.cpu) (slots_end y leaf) (last_temporary y name leaf) b' acts)
                (sym l.0.framed) slots;
            pointers = subst (λ x. HasPointers t fs program p m y x y.frame below) (sym sp)
                (subst (λ n. HasPointers t fs program p m y (rsp c) n below) size l.0.pointers);
            above = above_same b b' name below refl l.1;
            home = λ yes. let z : true ≡ false = sym yes ∙ l.0.framed in absurd cc;
            back = f.return_address;
            returns_to = l.0.returns;
            others = f.others;
            eight = s.0.eight;
            small = l.0.small;
            frame = subst (λ (leaf : Bool). HasFrame u leaf (frame_of p name f.return_address
                f.others)) (sym l.0.framed)
                (told_with m c (context_of u.cpu) (frame_of p name f.return_address f.others) same
                (frame_told m c f name w.code w.label w.body l.0.framed l.0.entry l.0.slots s.0));
            is = is;
            below = subst (λ x. On t fs program p m (context_below f.return_address x f.others) is
                below (activations_below name acts)) up
                (record {
                  is_there = record { stack = s.1; linked = l.2 };
                  data_alone = on.data_alone;
                });
          }

      leaf_again : (u : State) (c : Context) (back : ℕ) (is : List StackItem) (b : Frame)
          (below : List Item) (acts : List Activation) (label : ℕ) (ts : List ℕ) (landed : Option ℕ)
          (source : Store) (es : List Event)
          → On t fs program p u.memory c (Leaf back ∷ is) (Waits b ∷ below) acts
          → (context_of u.cpu).kept ≡ c.kept → InCode p b.body label u.cpu.rip
          → IsWellFormed (host_list p source) u
          → IsFront u.memory b.temporaries ts
          → RegistersHold (now_of true u.cpu) (p.register b.body) 0
          (leaf_values (p.leaf b.body) b.body acts)
          → InBody t fs program p q u (on_top (again b label ts landed) below source acts es)
      leaf_again u c back is b below acts label ts landed source es on same inside well front hold =
          let m = u.memory in
          let name = b.body in
          let y = p.layout name in
          let s = on.is_there.stack in
          let l = on.is_there.linked in
          let w = l.0.waits in
          let b' = again b label ts landed in
          let none = leaf_layout t fs program p q name w.code l.0.leaf
          (image.laid_out name w.code w.body) in
          let zero_frame = none.frame in
          let sp : register u.cpu Rsp ≡ rsp c = ap (λ (ks : List ℕ). slice_index ks 0) same in
          let up : register u.cpu Rsp + 8 ≡ register u.cpu Rsp + y.frame + 8 = omega arith in
          let others = others_of u.cpu.registers in
          let rest : On t fs program p m (after_leaf c back) is below
          (activations_below name acts) = record {
            is_there = record { stack = s.1; linked = l.2 };
            data_alone = on.data_alone;
          } in
          let now = now_of true u.cpu in
          let slots : BodyWaits t fs program p m (context_of u.cpu) now y.temporaries home_end b'
          acts = record {
            code = w.code;
            body = w.body;
            label = label;
            instruction = record { low = inside.low; high = inside.high };
            same = all_same label (regions_of (body_of program name));
            small = well.rip_small;
            activation = subst (λ x. HasActivation m now (p.register name) y x y.temporaries
                b.activation acts name) (sym sp)
                (leaf_with m l.0.now now (p.register name) y (rsp c) y.temporaries b.activation
                acts name w.activation
                (subst (λ (leaf : Bool). RegistersHold now (p.register name) 0
                (leaf_values leaf name acts)) l.0.leaf hold));
            temporaries = subst (λ x. HoldsWords m (x + y.temporaries) (x + home_end) ts) (sym sp)
                (front (rsp c + y.temporaries) (rsp c + home_end) w.temporaries);
            space = subst (λ x. HasSpace x below_end (length acts + b.held)) (sym sp) w.space;
          } in
          record {
            acts = acts;
            store = refl;
            slots = subst (λ (leaf : Bool). BodyWaits t fs program p m (context_of u.cpu)
                (now_of leaf u.cpu) (slots_end y leaf) (last_temporary y name leaf) b' acts)
                (sym l.0.leaf) slots;
            pointers = leaf_pointers m y (register u.cpu Rsp) y.frame b name below
                (leaf_is_function name w.code l.0.leaf (image.laid_out name w.code w.body)) l.1;
            above = above_same b b' name below refl l.1;
            home = λ yes. subst (λ x. x + home_end ≤ STACK_END) (sym sp) l.0.home;
            back = back;
            returns_to = l.0.returns;
            others = others;
            eight = refl;
            small = small_others u well;
            frame = subst (λ (leaf : Bool). HasFrame u leaf (frame_of p name back others))
                (sym l.0.leaf) (record {
                  returns = subst (λ x. word m x ≡ Ok back) (sym sp) s.0.returns;
                  others = refl;
                });
            is = is;
            below = subst (λ x. On t fs program p m (context_below back x others) is below
                (activations_below name acts)) up
                (subst (λ (ks : List ℕ). let x : Context = record {
                  rip = back;
                  kept = slice_set ks 0 (slice_index ks 0 + 8);
                } in On t fs program p m x is below (activations_below name acts)) (sym same) rest);
          }

      -- whatever represents it
      pub waits_in_body : (u : State) (c : Context) (is : List StackItem) (b : Frame)
          (below : List Item) (acts : List Activation) (label : ℕ) (ts : List ℕ) (landed : Option ℕ)
          (source : Store) (es : List Event)
          → On t fs program p u.memory c is (Waits b ∷ below) acts
          → (context_of u.cpu).kept ≡ c.kept → InCode p b.body label u.cpu.rip
          → IsWellFormed (host_list p source) u
          → IsFront u.memory b.temporaries ts
          → RegistersHold (now_of true u.cpu) (p.register b.body) 0
          (leaf_values (p.leaf b.body) b.body acts)
          → InBody t fs program p q u (on_top (again b label ts landed) below source acts es)
      waits_in_body u c (Framed f ∷ is) b below acts label ts landed source es on same inside well
          front hold =
          framed_again u c f is b below acts label ts landed source es on same inside well front
      waits_in_body u c (Leaf back ∷ is) b below acts label ts landed source es on same inside well
          front hold = leaf_again u c back is b below acts label ts landed source es on same inside
          well front hold
      waits_in_body u c is b below acts label ts landed source es on same inside well front hold =
          absurd on.is_there.linked

-- no temporaries, or all of them
words_end : (m : Memory) (at end : ℕ) (vs : List ℕ) → HoldsWords m at end vs → at ≤ end
words_end m at end [] h = h
words_end m at end (v ∷ vs) h = let e = words_end m (at + 8) end vs h.1 in omega arith

pub no_front : (m : Memory) (vs : List ℕ) → IsFront m vs []
no_front m vs at end h = words_end m at end vs h

pub all_front : (m : Memory) (vs : List ℕ) → IsFront m vs vs
all_front m vs at end h = h
