-- The frames of bodies, as their codes tell: what of them is to be undone, and what keeps them.
use Rattle.std.proofs.Common.{◌≡◌, ℕ, suc, ◌+◌, ◌^◌, ◌<◌, ◌≤◌, Bool, true, false, Some, Ok, List, length, drop, refl, sym, ap, subst, ◌∙◌, arith}
use Rattle.std.specs.Prelude.{slice_get, slice_index}
use Rattle.std.proofs.lemmas.Bool.{eqb-false, not-true}
use Rattle.match_bodies.specs.Words.{frame_info, weight_of, Memory, Rsp, Context, context_of, kept_of, State, register, rsp, word, LinearBody, BodyName, FunctionBody, FuncletBody, body_of, Configuration, StackFrame, frame_of, HasFrame, IsFramed, Setting, Layout, IsWellFormed, AllSmall, IsAsTold, IsOwed, nothing_owed, owed_of, owed_by, caller_owed, get, Reg, KeepsRegisters, InRegister, place_of}
use Rattle.virtual_unwind.specs.CallerOf.{base_if, has_frame, sets_frame}
use Rattle.virtual_unwind.specs.Undone.{operations}
use Rattle.frame_rules.specs.Bytes.{spell}
use Rattle.frame_rules.specs.Codes.{are_allowed, depth, is_saved}
use Rattle.x64_instr.specs.Registers.{number}
use Rattle.x64_templates.specs.Locals.{is_of_local}
use Rattle.x64_templates.proofs.Locals.{place_is_local}
use Rattle.frame_rules.specs.Plan.{FramePlan, epilogue, operations_of}
use Rattle.frame_rules.proofs.Order.{Ordered, ordered}
use Rattle.frame_rules.proofs.Planning.{codes_plan, framed_plan, ordered_plan}
use Rattle.frame_rules.proofs.Undoing.{stack_depth}
use Rattle.eh_tables.specs.Infos.{Info}
use Rattle.eh_tables.specs.Tables.{Entry}
use Rattle.frame_rules.specs.Frame as rules
use Rattle.match_stack.specs.Stack.{AreAbove, at_entry, teller}
use Rattle.match_bodies.specs.CodeSites.{body_plan}
use Rattle.template_code.specs.Frames.{plan_of_layout}
use Rattle.match_bodies.specs.Layouts.{IsFramePlan, IsLaidOut, IsLayoutIf, saved_count}
use Rattle.match_bodies.specs.Setting.{InBody}
use Rattle.match_stack.proofs.FrameWords.{told_above}
use Rattle.match_bodies.proofs.Lemmas.{wide_of, word-is, is_word}
use Rattle.x64_machine.specs.declared.cpu.Cpu.{Cpu}
use Rattle.match_bodies.proofs.Steps.InstructionEffects.{others_of}
use Rattle.match_bodies.proofs.Places.StackTop.{leaf_layout}
use Rattle.match_bodies.proofs.Prologues.FrameCode.{above_plan, epilogue_count, plan_depth}
use Rattle.match_bodies.proofs.Walks.OwedCallers.{base_is, returns_alone, at_return, IsOwn}
use Rattle.match_bodies.proofs.Places.LocalRegisters.{SavesLocals, told_kept, all_kept, local_beside_frame, not_in_register, leaf_in_none}

-- the caller's registers are small where all are
pub small_others : {handlers : List ℕ} (s : State) → IsWellFormed handlers s → AllSmall
    (others_of s.cpu.registers)
small_others s w k lt =
    (wide_of s.cpu w.count w.small).each (suc k) (let e : suc k < 9 = omega arith in e)

-- a frame is as told wherever RIP is
pub told_with : (m : Memory) (c c' : Context) (f : StackFrame) → c'.kept ≡ c.kept → IsAsTold m c f
    → IsAsTold m c' f
told_with m c c' f e h = subst (λ (ks : List ℕ).
    let x : Context = record { rip = c'.rip; kept = ks } in IsAsTold m x f) (sym e) (record {
      offset = h.offset;
      allowed = h.allowed;
      base = h.base;
      stack = h.stack;
      framed = h.framed;
      others = h.others;
      above = h.above;
    })

-- and by another entry that tells the same
told_by_info : (m : Memory) (c : Context) (e : Entry) (f : StackFrame)
    → teller f.entry ≡ teller e → IsAsTold m c f → IsAsTold m c (record f { entry = e })
told_by_info m c e f same h =
    let ops = λ (i : Info). operations i.codes in
    let old = at_entry c f in
    record {
      offset = subst (λ (i : Info). i.frame_offset ≤ 2 ^ 64) same h.offset;
      allowed = subst (λ (i : Info). are_allowed i.frame_register (ops i) ≡ true) same h.allowed;
      base = subst (λ (i : Info). base_if i c (has_frame i) ≡ rsp c) same h.base;
      stack = subst (λ (i : Info). rules.Stack m old f.return_address (rsp c) (rsp c) (ops i)) same
          h.stack;
      framed = subst (λ (i : Info). rules.Framed i.frame_register i.frame_offset (get c) (rsp c)
          (ops i)) same h.framed;
      others = subst (λ (i : Info). rules.Others old (get c) (ops i)) same h.others;
      above = subst (λ (i : Info). AreAbove (rsp c + f.slots) (rsp c) (rsp c) (ops i)) same h.above;
    }

pub told_by : (m : Memory) (c : Context) (e : Entry) (f : StackFrame)
    → teller f.entry ≡ teller e → (slots : ℕ) → f.slots ≡ slots → (size : ℕ) → f.size ≡ size
    → IsAsTold m c f → IsAsTold m c (record f { entry = e; slots = slots; size = size })
told_by m c e f same slots wide size deep h =
    subst (λ n. IsAsTold m c (record f { entry = e; slots = slots; size = n })) deep
    (subst (λ n. IsAsTold m c (record f { entry = e; slots = n })) wide
    (told_by_info m c e f same h))

-- and so is a body's, where the nonvolatile registers are the same
pub frame_with : (s : State) (cpu : Cpu) (leaf : Bool) (f : StackFrame)
    → kept_of cpu.registers ≡ kept_of s.cpu.registers → HasFrame s leaf f
    → HasFrame (record s { cpu = cpu }) leaf f
frame_with s cpu true f e h = record {
  returns = subst (λ (ks : List ℕ). word s.memory (slice_index ks 0) ≡ Ok f.return_address) (sym e)
      h.returns;
  others = ap (λ (ks : List ℕ). drop 1 ks) e ∙ h.others;
}
frame_with s cpu false f e h = told_with s.memory (context_of s.cpu) (context_of cpu) f e h

module _ (setting : Setting) where
  open setting use {functions as t, funclets as fs, program, plan as p, sites as q, image}

  module _ (name : BodyName) (b : LinearBody) (is : body_of program name ≡ Some b) where
    -- its frame has slots, and its plan is that of its layout
    pub slots_some : p.leaf name ≡ false → 0 < (p.layout name).slots
    slots_some e = some name (image.laid_out name b is) e
      where
        some : (n : BodyName) → IsLaidOut program p n b → p.leaf n ≡ false
            → 0 < (p.layout n).slots
        some (FunctionBody f) h e =
            let l = subst (λ (leaf : Bool). IsLayoutIf program p
            (weight_of (slice_get program.functions f)) (p.layout (FunctionBody f)) b leaf) e h in
            let passed = l.passed in
            let temporaries = l.temporaries in
            let locals = l.locals in
            omega arith
        some (FuncletBody k) h e =
            let passed = h.layout.passed in
            let kept = h.layout.kept in
            let temporaries = h.layout.temporaries in
            omega arith

    pub frame_plan_is : p.leaf name ≡ false
        → IsFramePlan (p.layout name) (plan_of_layout (p.layout name) 0)
    frame_plan_is e = by name (image.laid_out name b is) e
      where
        by : (n : BodyName) → IsLaidOut program p n b → p.leaf n ≡ false
            → IsFramePlan (p.layout n) (plan_of_layout (p.layout n) 0)
        by (FunctionBody f) h e =
            let l = subst (λ (leaf : Bool). IsLayoutIf program p
            (weight_of (slice_get program.functions f)) (p.layout (FunctionBody f)) b leaf) e h in
            l.plan
        by (FuncletBody k) h e = h.layout.plan

    -- it saves so many registers at most
    pub saved_few : saved_count (plan_of_layout (p.layout name) 0) ≤ 8
    saved_few = by name (image.laid_out name b is)
      where
        by_leaf : (weight : ℕ) (y : Layout) (leaf : Bool) → IsLayoutIf program p weight y b leaf
            → saved_count (plan_of_layout y 0) ≤ 8
        by_leaf weight y true l = let e = ap saved_count l.plan in omega arith
        by_leaf weight y false l = l.few

        by : (n : BodyName) → IsLaidOut program p n b
            → saved_count (plan_of_layout (p.layout n) 0) ≤ 8
        by (FunctionBody f) h = by_leaf (weight_of (slice_get program.functions f))
            (p.layout (FunctionBody f)) (p.leaf (FunctionBody f)) h
        by (FuncletBody k) h = let bare = h.layout.bare in omega arith

    -- so its epilogue has so many instructions
    pub ending_few : length (epilogue (plan_of_layout (p.layout name) 0)) ≤ 10
    ending_few =
        let few = saved_few in
        let n = (epilogue_count (plan_of_layout (p.layout name) 0)).1 in
        omega arith

    -- and a funclet's two
    pub funclet_ending_few : (k : ℕ) → name ≡ FuncletBody k
        → length (epilogue (plan_of_layout (p.layout name) 0)) ≤ 2
    funclet_ending_few k e = by name (image.laid_out name b is) e
      where
        by : (n : BodyName) → IsLaidOut program p n b → n ≡ FuncletBody k
            → length (epilogue (plan_of_layout (p.layout n) 0)) ≤ 2
        by (FunctionBody f) h e = absurd cc
        by (FuncletBody j) h e =
            let bare = h.layout.bare in
            let n = (epilogue_count (plan_of_layout (p.layout (FuncletBody j)) 0)).1 in omega arith

    -- its slots end below its return address
    pub slots_within : (p.layout name).slots ≤ (p.layout name).frame
    slots_within = by name (image.laid_out name b is)
      where
        by_leaf : (weight : ℕ) (y : Layout) (leaf : Bool) → IsLayoutIf program p weight y b leaf
            → y.slots ≤ y.frame
        by_leaf weight y true l = let none = l.slots in omega arith
        by_leaf weight y false l = l.within

        by : (n : BodyName) → IsLaidOut program p n b → (p.layout n).slots ≤ (p.layout n).frame
        by (FunctionBody f) h = by_leaf (weight_of (slice_get program.functions f))
            (p.layout (FunctionBody f)) (p.leaf (FunctionBody f)) h
        by (FuncletBody k) h = h.layout.within

    abbrev framing : FramePlan
    framing = body_plan p q name

    -- its codes are those of its plan
    pub codes_are : p.leaf name ≡ false
        → operations (frame_info p name).codes ≡ operations_of framing
    codes_are e = ap operations (image.plans name b is e).codes ∙ codes_plan spell framing

    -- and save the registers of its locals
    locals_saved : p.leaf name ≡ false
        → SavesLocals (p.layout name) (operations (frame_info p name).codes)
    locals_saved e x r at = subst (λ ops. is_saved (number r) ops ≡ true) (sym (codes_are e))
        (by name (image.laid_out name b is) e x r at)
      where
        by : (n : BodyName) → IsLaidOut program p n b → p.leaf n ≡ false
            → SavesLocals (p.layout n) (operations_of (plan_of_layout (p.layout n) 0))
        by (FunctionBody f) h e =
            let l = subst (λ (leaf : Bool). IsLayoutIf program p
            (weight_of (slice_get program.functions f)) (p.layout (FunctionBody f)) b leaf) e h in
            l.saves
        by (FuncletBody k) h e =
            λ x r at. absurd (not_in_register r (sym (h.layout.in_frame x) ∙ at))

    -- a register of a local is saved, and is no frame register
    pub locals_own : (x : ℕ) (r : Reg) → place_of (p.layout name) x ≡ InRegister r
        → IsOwn (owed_of p name) r
    locals_own x r at = by (p.leaf name) refl
      where
        local : is_of_local r ≡ true
        local = place_is_local (p.layout name) x r at

        by : (leaf : Bool) → p.leaf name ≡ leaf → IsOwn (owed_by (frame_info p name) leaf) r
        by false e = record {
          local = local;
          saved = locals_saved e x r at;
          apart = λ z. local_beside_frame r (p.layout name).framed local
              (z ∙ (image.plans name b is e).frame_register);
        }
        by true e =
            let leaf = leaf_layout t fs program p q name b e (image.laid_out name b is) in
            absurd (leaf_in_none (p.layout name) leaf.in_frame x r at)

    -- where it has a frame register, its codes set it
    sets : p.leaf name ≡ false → has_frame (frame_info p name) ≡ true
        → sets_frame (operations (frame_info p name).codes) ≡ true
    sets e h =
        let same = (image.plans name b is e).frame_register in
        ap sets_frame (codes_are e) ∙ framed_plan framing
        (λ z. eqb-false (frame_info p name).frame_register 0 (not-true _ h) (same ∙ z))

    -- what its codes tell of is owed
    pub framed_owed : (m : Memory) (c : Context) (back : ℕ) (others : List ℕ) → p.leaf name ≡ false
        → IsFramed p m name c back others
        → IsOwed m c (owed_of p name) (p.layout name).frame back others
    framed_owed m c back others e h =
        subst (λ (leaf : Bool). IsOwed m c (owed_by (frame_info p name) leaf)
        (p.layout name).frame back others) (sym e)
        (record {
          kept = h.kept;
          eight = h.eight;
          room = h.room;
          small = h.is_told.offset;
          allowed = h.is_told.allowed;
          stack = h.is_told.stack;
          framed = h.is_told.framed;
          unsaved = h.is_told.others;
        })

    -- they lead up to its return address
    pub owed_frame : (m : Memory) (c : Context) (size back : ℕ) (others : List ℕ)
        → IsOwed m c (owed_of p name) size back others → size ≡ (p.layout name).frame
    owed_frame m c size back others o =
        let deep = stack_depth m (get (caller_owed c size back others)) back (rsp c) (rsp c)
        (owed_of p name).codes o.stack in
        let d = codes_depth in
        omega arith
      where
        codes_depth : depth (owed_of p name).codes ≡ (p.layout name).frame
        codes_depth = by (p.leaf name) refl
          where
            by : (leaf : Bool) → p.leaf name ≡ leaf
                → depth (owed_by (frame_info p name) leaf).codes ≡ (p.layout name).frame
            by false e = ap depth (codes_are e)
                ∙ plan_depth framing (p.layout name).frame (frame_plan_is e).whole
            by true e = sym (leaf_layout t fs program p q name b e
                (image.laid_out name b is)).frame

    -- nothing that they tell of is below its slots
    above_slots : p.leaf name ≡ false → (at : ℕ)
        → AreAbove (at + (p.layout name).slots) at at (operations (frame_info p name).codes)
    above_slots e at =
        let plan = frame_plan_is e in
        subst (AreAbove (at + (p.layout name).slots) at at) (sym (codes_are e))
        (above_plan framing (p.layout name).slots at plan.saved plan.slots)

    -- and a frame is as they tell where they are owed
    pub owed_framed : (m : Memory) (c : Context) (size back : ℕ) (others : List ℕ)
        → p.leaf name ≡ false → IsOwed m c (owed_of p name) size back others
        → IsFramed p m name c back others
    owed_framed m c size back others e o =
        let i = frame_info p name in
        let h = subst (λ (leaf : Bool). IsOwed m c (owed_by i leaf) size back others) e o in
        let whole = owed_frame m c size back others o in
        let k = subst (λ n. IsOwed m c (owed_by i false) n back others) whole h in
        let room = k.room in
        let in_order = subst Ordered (sym (codes_are e))
        (ordered (operations_of framing) (ordered_plan framing)) in
        record {
          kept = k.kept;
          eight = k.eight;
          room = k.room;
          is_told = record {
            offset = k.small;
            allowed = k.allowed;
            base = base_is i c (operations i.codes) (has_frame i) in_order (sets e) (omega arith)
                k.small k.framed;
            stack = k.stack;
            framed = k.framed;
            others = k.unsaved;
            above = above_slots e (rsp c);
          };
        }

    -- nothing of what is owed is below its slots
    pub codes_above : (at : ℕ) → AreAbove (at + (p.layout name).slots) at at (owed_of p name).codes
    codes_above at = by (p.leaf name) refl
      where
        by : (leaf : Bool) → p.leaf name ≡ leaf → AreAbove (at + (p.layout name).slots) at at
            (owed_by (frame_info p name) leaf).codes
        by false e = above_slots e at
        by true e =
            let none = (leaf_layout t fs program p q name b e (image.laid_out name b is)).slots in
            omega arith

    -- it is there where its codes are owed
    pub frame_from : (s : State) (size back : ℕ) (others : List ℕ)
        → IsOwed s.memory (context_of s.cpu) (owed_of p name) size back others
        → HasFrame s (p.leaf name) (frame_of p name back others)
    frame_from s size back others o = by (p.leaf name) refl
      where
        by : (leaf : Bool) → p.leaf name ≡ leaf → HasFrame s leaf (frame_of p name back others)
        by false e = (owed_framed s.memory (context_of s.cpu) size back others e o).is_told
        by true e =
            let i = frame_info p name in
            let n = at_return s.memory (context_of s.cpu) size back others (subst (λ (leaf : Bool).
            IsOwed s.memory (context_of s.cpu) (owed_by i leaf) size back others) e o) in
            record { returns = n.returns; others = n.others_are }

    -- it is there in another memory that has its words, with the registers that templates keep
    pub frame_stays : (s u : State) (back : ℕ) (others : List ℕ)
        → KeepsRegisters (p.layout name) s.cpu.registers u.cpu.registers
        → ((a v : ℕ) → register s.cpu Rsp + (p.layout name).slots ≤ a
        → a + 8 ≤ register s.cpu Rsp + (p.layout name).frame + 8 → word s.memory a ≡ Ok v
        → word u.memory a ≡ Ok v)
        → HasFrame s (p.leaf name) (frame_of p name back others)
        → HasFrame u (p.leaf name) (frame_of p name back others)
    frame_stays s u back others keeps words h = by (p.leaf name) refl h
      where
        by : (leaf : Bool) → p.leaf name ≡ leaf → HasFrame s leaf (frame_of p name back others)
            → HasFrame u leaf (frame_of p name back others)
        by false e h =
            let sp = register s.cpu Rsp in
            let slots = (p.layout name).slots in
            let size = (p.layout name).frame in
            told_kept (p.layout name) s.cpu u.cpu keeps u.memory (frame_of p name back others)
            (p.layout name).framed (locals_saved e) (image.plans name b is e).frame_register
            (told_above s.memory u.memory (sp + slots) (sp + size + 8) (context_of s.cpu)
            (frame_of p name back others)
            (λ a v l k w. is_word u.memory a v w.high (words a v l k (word-is s.memory a v w)))
            (omega arith) (omega arith) h)
        by true e h =
            let l = leaf_layout t fs program p q name b e (image.laid_out name b is) in
            let none = l.slots in
            let same = all_kept (p.layout name) (leaf_in_none (p.layout name) l.in_frame)
            s.cpu.registers u.cpu.registers keeps in
            record {
              returns = ap (λ (ks : List ℕ). word u.memory (slice_index ks 0)) same
                  ∙ words (register s.cpu Rsp) back (omega arith) (omega arith) h.returns;
              others = ap (λ (ks : List ℕ). drop 1 ks) same ∙ h.others;
            }

    -- of a frame that is there
    pub frame_owed : (s : State) (back : ℕ) (others : List ℕ) → length others ≡ 8
        → register s.cpu Rsp + (p.layout name).frame + 8 < 2 ^ 64
        → HasFrame s (p.leaf name) (frame_of p name back others)
        → IsOwed s.memory (context_of s.cpu) (owed_of p name) (p.layout name).frame back others
    frame_owed s back others eight room h = by (p.leaf name) refl h
      where
        c : Context
        c = context_of s.cpu

        by : (leaf : Bool) → p.leaf name ≡ leaf → HasFrame s leaf (frame_of p name back others)
            → IsOwed s.memory c (owed_of p name) (p.layout name).frame back others
        by false e h = framed_owed s.memory c back others e
            (record { kept = refl; eight = eight; room = room; is_told = h })
        by true e h =
            let none = (leaf_layout t fs program p q name b e (image.laid_out name b is)).frame in
            subst (λ (leaf : Bool). IsOwed s.memory c (owed_by (frame_info p name) leaf)
            (p.layout name).frame back others) (sym e)
            (subst (λ n. IsOwed s.memory c nothing_owed n back others) (sym none)
            (subst (IsOwed s.memory c nothing_owed 0 back) h.others
            (returns_alone s.memory c back refl (omega arith) h.returns)))

  -- of a body that runs
  pub body_owed : (s : State) (c : Configuration) (at : InBody setting s c)
      → register s.cpu Rsp + (p.layout c.frame.body).frame + 8 < 2 ^ 64
      → IsOwed s.memory (context_of s.cpu) (owed_of p c.frame.body) (p.layout c.frame.body).frame
      at.back at.others
  body_owed s c at room = frame_owed c.frame.body at.slots.code at.slots.body s at.back at.others
      at.eight room at.frame
