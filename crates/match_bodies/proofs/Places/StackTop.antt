-- A body that runs is on top of what waits below it, as one that waits.
use Rattle.std.proofs.Common.{◌≡◌, ℕ, ◌+◌, ◌<◌, Some, Bool, true, false, List, [], ◌∷◌, drop, refl, sym, ap, subst, ◌∙◌, arith}
use Rattle.std.specs.Prelude.{slice_get}
use Rattle.match_bodies.specs.Words.{weight_of, Rsp, context_of, State, register, Functions, Funclet, LinearProgram, LinearBody, BodyName, FunctionBody, FuncletBody, Waits, Configuration, regions_of, StackItem, Framed, Leaf, FrameIsAt, LeafIsAt, context_below, ImagePlan, Activation, activations_below, BodyWaits, On, Sites, IsLayoutIf, IsLeafLayout, IsLaidOut, HasProgram, IsProgramImage, frame_of, frame_at_label, slots_end, last_temporary, HasFrame, InBody, IsGiven, IsFramed, now_of, body_of}
use Rattle.match_bodies.proofs.Lemmas.{in_stack}
use Rattle.match_bodies.specs.ProgramImages.{IsResumed}
use Rattle.match_bodies.specs.Bodies.{IsLeafFrame}
use Rattle.eh_tables.specs.Tables.{Entry}
use Rattle.virtual_unwind.specs.CallerOf.{entry_of}

-- what is there is one
entry_is : (a b : Entry) → Some a ≡ Some b → a ≡ b
entry_is a b e = cc

module _ (t : Functions) (fs : List Funclet) (program : LinearProgram) (p : ImagePlan) (q : Sites)
  where
    -- ---- leaf functions

    pub leaf_layout : (name : BodyName) (b : LinearBody) → p.leaf name ≡ true
        → IsLaidOut program p name b → IsLeafLayout (p.layout name) b
    leaf_layout (FunctionBody f) b e h = subst (λ (leaf : Bool). IsLayoutIf program p
        (weight_of (slice_get program.functions f)) (p.layout (FunctionBody f)) b leaf) e h
    leaf_layout (FuncletBody k) b e h = let z : true ≡ false = sym e ∙ h.framed in absurd cc

    -- no parameter stays in its register where a body has a frame
    pub none_arrive : (name : BodyName) (b : LinearBody) → p.leaf name ≡ false
        → IsLaidOut program p name b → (p.layout name).arrivals ≡ 0
    none_arrive (FunctionBody f) b e h =
        let l = subst (λ (leaf : Bool). IsLayoutIf program p
        (weight_of (slice_get program.functions f)) (p.layout (FunctionBody f)) b leaf) e h in
        l.none_arrive
    none_arrive (FuncletBody k) b e h = h.layout.none_arrive

    -- so where one does, it is a leaf function's
    pub arrives_in_leaf : IsProgramImage t fs program p q → (name : BodyName) (b : LinearBody)
        → body_of program name ≡ Some b → (i : ℕ) → i < (p.layout name).arrivals
        → p.leaf name ≡ true
    arrives_in_leaf image name b there i lt = by (p.leaf name) refl
      where
        by : (leaf : Bool) → p.leaf name ≡ leaf → p.leaf name ≡ true
        by true e = e
        by false e =
            let none = none_arrive name b e (image.laid_out name b there) in absurd (omega arith)

    no_regions : (name : BodyName) (b : LinearBody) → p.leaf name ≡ true
        → IsGiven t fs program p name b (p.leaf name) → b.regions ≡ []
    no_regions name b e h = subst (λ (leaf : Bool). IsGiven t fs program p name b leaf) e h

    -- ---- a body on top of the list

    pub record OnTop (u : State) (c : Configuration) (acts : List Activation) : Type 0 where
      pub is : List StackItem
      pub on : On t fs program p u.memory (context_of u.cpu) is (Waits c.frame ∷ c.below) acts

    -- a body whose frame is there, with the entry of the instruction whose code RIP is in
    pub framed_top : (u : State) (c : Configuration) (label : ℕ) (at : InBody t fs program p q u c)
        → p.entry c.frame.body label ≡ p.entry c.frame.body at.slots.label
        → p.leaf c.frame.body ≡ false → FrameIsAt t u.memory (context_of u.cpu)
        (frame_at_label p c.frame.body label at.back at.others) → OnTop u c at.acts
    framed_top u c label at same e f =
        let name = c.frame.body in
        let y = p.layout name in
        let w = subst (λ (leaf : Bool). (w : BodyWaits t fs program p u.memory (context_of u.cpu)
        (now_of leaf u.cpu) (slots_end y leaf) (last_temporary y name leaf) c.frame at.acts)
        × (w.label ≡ at.slots.label)) e (at.slots, refl) in
        record {
          is = Framed (frame_at_label p name label at.back at.others) ∷ at.is;
          on = record {
            is_there = record {
              stack = (f, at.below.is_there.stack);
              linked = (
                record {
                  framed = e;
                  slots = refl;
                  small = at.small;
                  waits = w.0;
                  entry = same ∙ ap (p.entry name) (sym w.1);
                  pointers = at.pointers;
                  returns = at.returns_to;
                },
                at.above,
                at.below.is_there.linked,
              );
            };
            data_alone = at.below.data_alone;
          };
        }

    -- the frame of a leaf function, and of any other body
    pub leaf_frame : (u : State) (c : Configuration) (at : InBody t fs program p q u c)
        → p.leaf c.frame.body ≡ true → IsLeafFrame u (frame_of p c.frame.body at.back at.others)
    leaf_frame u c at e = subst (λ (leaf : Bool). HasFrame u leaf
        (frame_of p c.frame.body at.back at.others)) e at.frame

    -- there is room for it
    pub framed_here : (u : State) (c : Configuration) (at : InBody t fs program p q u c)
        → p.leaf c.frame.body ≡ false
        → IsFramed p u.memory c.frame.body (context_of u.cpu) at.back at.others
    framed_here u c at e =
        let name = c.frame.body in
        let top = in_stack t fs program p u.memory
        (context_below at.back (register u.cpu Rsp + (p.layout name).frame + 8) at.others) at.is
        c.below (activations_below name at.acts) at.below.is_there.stack at.below.is_there.linked in
        record {
          kept = refl;
          eight = at.eight;
          room = omega arith;
          is_told = subst (λ (leaf : Bool). HasFrame u leaf (frame_of p name at.back at.others)) e
              at.frame;
        }

    module _ (image : IsProgramImage t fs program p q) where
      -- a leaf function whose return address is there
      pub leaf_top : (u : State) (c : Configuration) (at : InBody t fs program p q u c)
          → p.leaf c.frame.body ≡ true → LeafIsAt t u.memory (context_of u.cpu) at.back
          → OnTop u c at.acts
      leaf_top u c at e l =
          let name = c.frame.body in
          let y = p.layout name in
          let sp = register u.cpu Rsp in
          let b = at.slots.code in
          let none = leaf_layout name b e (image.laid_out name b at.slots.body) in
          let up : sp + y.frame + 8 ≡ sp + 8 = let z = none.frame in omega arith in
          let rest : On t fs program p u.memory
          (context_below at.back (sp + 8) (drop 1 (context_of u.cpu).kept)) at.is c.below
          (activations_below name at.acts) =
          subst (λ (os : List ℕ). On t fs program p u.memory (context_below at.back (sp + 8) os)
          at.is c.below (activations_below name at.acts)) (sym (leaf_frame u c at e).others)
          (subst (λ a. On t fs program p u.memory (context_below at.back a at.others) at.is c.below
          (activations_below name at.acts)) up at.below) in
          record {
            is = Leaf at.back ∷ at.is;
            on = record {
              is_there = record {
                stack = (l, rest.is_there.stack);
                linked = (
                  record {
                    leaf = e;
                    home = at.home e;
                    none = ap regions_of at.slots.body
                        ∙ no_regions name b e (image.gives name b at.slots.body);
                    now = now_of true u.cpu;
                    waits = subst (λ (leaf : Bool). BodyWaits t fs program p u.memory
                        (context_of u.cpu) (now_of leaf u.cpu) (slots_end y leaf)
                        (last_temporary y name leaf) c.frame at.acts) e at.slots;
                    returns = at.returns_to;
                  },
                  at.above,
                  rest.is_there.linked,
                );
              };
              data_alone = rest.data_alone;
            };
          }

      -- the entry that is found by RIP is that of each instruction whose code it is in
      pub one_entry : (u : State) (c : Configuration) (label : ℕ) (at : InBody t fs program p q u c)
          → p.leaf c.frame.body ≡ false
          → entry_of t u.cpu.rip ≡ Some (p.entry c.frame.body label)
          → p.entry c.frame.body label ≡ p.entry c.frame.body at.slots.label
      one_entry u c label at e found =
          entry_is (p.entry c.frame.body label) (p.entry c.frame.body at.slots.label)
          (sym found ∙ (image.one_frame c.frame.body at.slots.code at.slots.body e).found
          at.slots.label u.cpu.rip at.slots.instruction)

      framed_on_top : (u : State) (c : Configuration) (label : ℕ) (at : InBody t fs program p q u c)
          → IsResumed t fs program p q c.frame.body at.slots.code label u.cpu.rip
          → HasProgram t fs program p q u.memory → p.leaf c.frame.body ≡ false → OnTop u c at.acts
      framed_on_top u c label at resumed has e =
          let f = image.frames u.memory c.frame.body at.slots.code label (context_of u.cpu) at.back
          at.others at.slots.body e has resumed (framed_here u c at e) in
          framed_top u c label at (one_entry u c label at e f.found) e f

      leaf_on_top : (u : State) (c : Configuration) (label : ℕ) (at : InBody t fs program p q u c)
          → IsResumed t fs program p q c.frame.body at.slots.code label u.cpu.rip
          → p.leaf c.frame.body ≡ true → OnTop u c at.acts
      leaf_on_top u c label at resumed e =
          let name = c.frame.body in
          let y = p.layout name in
          let sp = register u.cpu Rsp in
          let top = in_stack t fs program p u.memory
          (context_below at.back (sp + y.frame + 8) at.others) at.is c.below
          (activations_below name at.acts) at.below.is_there.stack at.below.is_there.linked in
          leaf_top u c at e (image.leaves u.memory name at.slots.code label (context_of u.cpu)
          at.back at.slots.body e resumed refl (omega arith) (leaf_frame u c at e).returns)

      -- where RIP is at a machine instruction of an instruction of its code
      pub body_on_top : (u : State) (c : Configuration) (label : ℕ)
          (at : InBody t fs program p q u c)
          → IsResumed t fs program p q c.frame.body at.slots.code label u.cpu.rip
          → HasProgram t fs program p q u.memory → OnTop u c at.acts
      body_on_top u c label at resumed has = by_leaf (p.leaf c.frame.body) refl
        where
          by_leaf : (leaf : Bool) → p.leaf c.frame.body ≡ leaf → OnTop u c at.acts
          by_leaf false e = framed_on_top u c label at resumed has e
          by_leaf true e = leaf_on_top u c label at resumed e
