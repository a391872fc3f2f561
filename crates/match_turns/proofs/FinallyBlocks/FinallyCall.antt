-- A body calls its `__finally` block: the machine comes to the block's first byte, above the body
-- that waits.
use Rattle.std.proofs.Common.{◌≡◌, ℕ, ◌+◌, ◌-◌, ◌^◌, ◌<◌, ◌≤◌, true, false, Option, Some, None, Ok, List, [], ◌∷◌, length, refl, sym, ap, subst, ◌∙◌, arith, inl}
use Rattle.std.specs.Prelude.{slice_get}
use Rattle.seh_num.specs.declared.event.Event.TheVariants as events
use Rattle.match_turns.specs.Words.{STACK_START, STACK_END, Rdx, Rsp, context_of, State, register, distance, arrivals, by_kind, of_test, LinearBody, BodyName, FuncletBody, body_of, funclet_body, Waits, Configuration, instruction_in, Layout, sizes, IsNear, finally_arguments, MachineView, machine, pushed, HasBelow, context_below, InCode, by_parent, parent_body, IsFunclet, HasActivation, return_of, ReturnsTo, KeepsAbove, On, IsWellFormed, AllKeep, Comes, AllReturnsStayInRegions, IsFinallyKind, parent_of, IsFuncletOf, HaveRoom, slots_end, Setting, InBody, IsMachineMemory, IsResumed, RepresentsAt, is_finally, frame_of, get, now_of, host_list}
use Rattle.virtual_unwind.specs.Undone.{word}
use Rattle.x64_templates.specs.Runs.{Reaches}
use Rattle.x64_instr.specs.declared.instruction.Instr.TheVariants as instrs
use Rattle.linear_code.specs.declared.instruction.Instruction.TheVariants as instructions
use Rattle.linear_code.specs.declared.program.FuncletKind.TheVariants as funclets
use Rattle.match_turns.proofs.Lemmas.{with_two, FinallyCalled, finally_begins, pushed_back, reaches_above, kept_by_stores_below, first_in_code, frame_with, slots_within, reaches_comes, others_of, reaches_steps, calls_keep, OnTop, body_on_top, may_read_written, word_of, reaches_keeps, stays_well_formed, IsCounted, sp_low, frame_top, v, same_state, template_here, sp_is, label_near}
use Rattle.match_stack.specs.ItemMatches as linked
use Rattle.match_stack.proofs.SearchHandlers.{body_reaches}
use Rattle.match_turns.proofs.Calls.ReturnAddressPlace.{top_of, begins_beneath}
use Rattle.match_turns.proofs.FinallyBlocks.FinallyCallReturn.{after_call}
use Rattle.match_turns.proofs.Funclets.FuncletFrame.{ArrivesBelow}
use Rattle.match_turns.proofs.Calls.CallRegions.{apart_same}
use Rattle.match_turns.proofs.Dispatches.DispatchMemory.{memory_untouched}
use Rattle.match_turns.proofs.Calls.ReturnAddressPush as pushing
use Rattle.match_bodies.proofs.Places.LeafRegisters.{framed_hold, activation_at}

same_parents : (function : ℕ) (o : Option ℕ) → by_parent function o ≡ parent_of function o
same_parents function None = refl
same_parents function (Some j) = refl

module _ (setting : Setting) (roomy : HaveRoom setting.program)
    (apart : AllReturnsStayInRegions setting.program) where
  open setting use {functions as t, funclets as fs, program, plan as p, sites as q, image}

  module _ (s : State) (c : Configuration) (b : RepresentsAt setting s c)
      (counted : IsCounted setting c) (k flag : ℕ)
      (at : slice_get b.body.slots.code.code c.frame.next ≡ Some (instructions.CallFinally k))
      (separator : slice_get b.body.slots.code.code (c.frame.next + 1)
      ≡ Some instructions.Separator) (framed : p.leaf c.frame.body ≡ false)
      (block : IsFuncletOf program c.frame.body IsFinallyKind k)
      (kind : block.funclet.kind ≡ funclets.Finally flag) where
    abbrev name : BodyName
    name = c.frame.body

    abbrev y : Layout
    y = p.layout c.frame.body

    abbrev code : LinearBody
    code = b.body.slots.code

    abbrev sp : ℕ
    sp = register s.cpu Rsp

    abbrev back : ℕ
    back = s.cpu.rip + sizes finally_arguments + 5

    abbrev before : MachineView
    before = with_two (v setting roomy s c b counted) 0 sp

    low : STACK_START + 196568 ≤ sp
    low = sp_low setting s c b counted

    top : sp + y.frame + 8 ≤ STACK_END
    top = frame_top setting s c b counted

    -- ---- the return address is that of the next instruction

    back_is : back ≡ p.address name (c.frame.next + 1)
    back_is = ap (λ r. r + sizes finally_arguments + 5) b.rip
        ∙ after_call setting roomy apart name code c.frame.next k b.body.slots.body at

    inside : c.frame.next + 1 < length code.code
    inside = (apart name code b.body.slots.body).within c.frame.next (instructions.CallFinally k) at
        refl

    back_code : InCode p name (c.frame.next + 1) back
    back_code = subst (InCode p name (c.frame.next + 1)) (sym back_is)
        (first_in_code t fs program p q image name code (c.frame.next + 1) b.body.slots.body inside)

    target_there : body_of program (FuncletBody k) ≡ Some block.funclet.body
    target_there = ap funclet_body block.there

    target_small : p.funclet k < 2 ^ 64
    target_small =
        let a = image.addresses (FuncletBody k) block.funclet.body target_there in
        let high = a.inside.high in
        let first = a.first in
        omega arith

    back_near : IsNear back (p.funclet k)
    back_near =
        let n = label_near setting name code b.body.slots.body (c.frame.next + 1) in
        let low = n.0 in
        let high = n.1 in
        let z = image.addresses (FuncletBody k) block.funclet.body target_there in
        let to_low = z.inside.low in
        let to_high = z.inside.high in
        let to_first = z.first in
        let e = back_is in
        (omega arith, omega arith, omega arith, omega arith)

    back_small : back < 2 ^ 64
    back_small = let n = back_near.0 in omega arith

    -- ---- the call

    low_enough : STACK_START + 8 ≤ sp
    low_enough = let l = low in omega arith

    high_enough : sp ≤ STACK_END
    high_enough = let h = top in omega arith

    abbrev bytes : ℕ → ℕ
    bytes = pushing.bytes before sp back low_enough high_enough b.memory.data_alone b.memory.stack

    below_sp : HasBelow s.memory sp 8
    below_sp = pushing.below before sp back low_enough high_enough b.memory.data_alone
        b.memory.stack

    pub run : FinallyCalled (v setting roomy s c b counted) sp s.cpu.rip (p.funclet k) s.cpu.flags
    run =
        finally_begins (v setting roomy s c b counted) sp s.cpu.rip (p.funclet k) s.cpu.flags
        (sp_is setting roomy s c b counted) below_sp back_near
        (template_here setting roomy s c b counted (instructions.CallFinally k) at)

    -- at the block's first byte
    abbrev pub called : State
    called = machine (pushed before sp back) (p.funclet k) run.flags

    reaches : Reaches 3 s called
    reaches = subst (λ z. Reaches 3 z called)
        (sym (same_state setting roomy s c b counted)) run.comes

    shown : arrivals called.cpu (distance t.base called.cpu.rip) 1 fs
        ≡ events.Finally (k + 1) false ∷ []
    shown = image.funclets.named k block.funclet block.there called.cpu
        ∙ ap (λ z. by_kind called.cpu (k + 1) (is_finally t fs program p q z) ∷ []) kind

    -- each turn keeps the shadow
    abbrev next : ℕ
    next = p.address name c.frame.next + sizes finally_arguments + 5

    back_next : back ≡ next
    back_next = ap (λ r. r + sizes finally_arguments + 5) b.rip

    next_resumed : IsResumed setting name code (c.frame.next + 1) next
    next_resumed = record {
      instruction = instructions.Separator;
      there = separator;
      continues = λ r. absurd r;
      done = [];
      item = instrs.NoOperation;
      left = [];
      parts = refl;
      here = sym back_next ∙ back_is ∙ (let z : p.address name (c.frame.next + 1)
          ≡ p.address name (c.frame.next + 1) + 0 = omega arith in z);
    }

    keeps_shadow : AllKeep t fs 3 s
    keeps_shadow =
        calls_keep setting name code b.body.slots.body c.frame.next (instructions.CallFinally k) at
        (λ h. h) finally_arguments [] next (p.funclet k) refl refl
        (subst (λ a. IsNear a (p.funclet k)) back_next back_near) (c.frame.next + 1) next_resumed
        (λ m. (image.callers (FuncletBody k) block.funclet.body target_there).entries m
        (λ e. absurd (let z : true ≡ false = sym e ∙ block_framed in cc)))
        s called (top_of setting s c b counted) b.body.back b.body.others b.body.is
        b.rip (begins_beneath setting s c b counted) refl (let l = low in omega arith) b.memory.code
        ((refl, inl refl), ((refl, inl refl), tt)) (reaches_steps 3 s called reaches)
      where
        block_framed : p.leaf (FuncletBody k) ≡ false
        block_framed = (image.laid_out (FuncletBody k) block.funclet.body target_there).framed

    pub comes : Comes t fs 3 s (events.Finally (k + 1) false ∷ []) called
    comes = reaches_comes t fs program p q image 2 s called (events.Finally (k + 1) false ∷ [])
        reaches keeps_shadow b.memory.code shown

    pub memory : IsMachineMemory setting called.memory c.store.memory
    memory =
        memory_untouched t fs program p q s.memory called.memory c.store.memory
        (pushing.pushed_untouched before sp back low_enough high_enough b.memory.data_alone
        b.memory.stack) b.memory
        (pushing.pushed_data before sp back low_enough high_enough b.memory.data_alone
        b.memory.stack)

    keeps_above : KeepsAbove s.memory bytes sp
    keeps_above = pushing.keeps_above before sp back low_enough high_enough b.memory.data_alone
        b.memory.stack

    stack_there : register called.cpu Rsp ≡ sp - 8
    stack_there =
        refl

    returns : word called.memory (register called.cpu Rsp) ≡ Ok back
    returns =
        let l = low in
        let h = top in
        subst (λ a. word called.memory a ≡ Ok back) (sym stack_there)
        (word_of called.memory (sp - 8) back (omega arith)
        (λ x from to. may_read_written called.memory x
        (b.memory.stack x (omega arith) (omega arith)))
        (pushed_back before sp back below_sp back_small).number)

    returns_to : ReturnsTo t fs program p (Waits c.frame ∷ c.below) back
    returns_to =
        ap (λ o. return_of y (p.address name c.frame.next) (instruction_in o c.frame.next))
        b.body.slots.body
        ∙ ap (return_of y (p.address name c.frame.next)) at
        ∙ ap (λ r. Some (r + sizes finally_arguments + 5)) (sym b.rip)

    -- ---- the body waits, at the next instruction

    abbrev later : State
    later = record s {
      cpu = record { registers = s.cpu.registers; rip = back; flags = s.cpu.flags };
    }

    resumed : IsResumed setting name code (c.frame.next + 1) back
    resumed = record {
      instruction = instructions.Separator;
      there = separator;
      continues = λ r. absurd r;
      done = [];
      item = instrs.NoOperation;
      left = [];
      parts = refl;
      here = back_is ∙ (let z : p.address name (c.frame.next + 1)
          ≡ p.address name (c.frame.next + 1) + 0 = omega arith in z);
    }

    abbrev in_body : InBody setting later c
    in_body = record {
      acts = b.body.acts;
      store = b.body.store;
      slots = record {
        code = b.body.slots.code;
        body = b.body.slots.body;
        label = c.frame.next + 1;
        instruction = back_code;
        same = apart_same t fs program p apart name code c.frame.next (instructions.CallFinally k)
            b.body.slots.body at refl;
        small = back_small;
        activation = activation_at s.memory (p.register name) y s.cpu later.cpu (p.leaf name)
            (slots_end y (p.leaf name)) c.frame.activation b.body.acts name refl
            (framed_hold (now_of true later.cpu) (p.register name) (p.leaf name) b.body.acts name
            framed) b.body.slots.activation;
        temporaries = b.body.slots.temporaries;
        space = b.body.slots.space;
      };
      pointers = b.body.pointers;
      above = b.body.above;
      home = b.body.home;
      back = b.body.back;
      returns_to = b.body.returns_to;
      others = b.body.others;
      eight = b.body.eight;
      small = b.body.small;
      frame = frame_with s later.cpu (p.leaf c.frame.body)
          (frame_of p c.frame.body b.body.back b.body.others) refl b.body.frame;
      is = b.body.is;
      below = b.body.below;
    }

    on_top : OnTop t fs program p q later c b.body.acts
    on_top = body_on_top t fs program p q image later c (c.frame.next + 1) in_body resumed
        b.memory.code

    -- the nonvolatile registers are those of the call
    others_there : others_of called.cpu.registers ≡ others_of s.cpu.registers
    others_there = refl

    list : On t fs program p called.memory (context_below back sp (others_of called.cpu.registers))
        on_top.is (Waits c.frame ∷ c.below) b.body.acts
    list = subst (λ (os : List ℕ). On t fs program p called.memory (context_below back sp os)
        on_top.is (Waits c.frame ∷ c.below) b.body.acts) (sym others_there) (record {
          is_there = kept_by_stores_below t fs program p s.memory bytes (context_of later.cpu)
              on_top.is (Waits c.frame ∷ c.below) b.body.acts keeps_above on_top.on.is_there;
          data_alone = pushing.pushed_data before sp back low_enough high_enough b.memory.data_alone
              b.memory.stack;
        })

    -- ---- what the block finds

    held : HasActivation s.memory (get (context_of s.cpu)) (p.register name) y sp y.slots
        c.frame.activation b.body.acts name
    held = subst (λ z. HasActivation s.memory (now_of z s.cpu) (p.register name) y sp
        (slots_end y z) c.frame.activation b.body.acts name) framed b.body.slots.activation

    activation : linked.Reaches t fs program p called.memory name (register called.cpu Rdx)
        c.frame.activation b.body.acts
    activation =
        let h = top in
        let within = slots_within setting name code b.body.slots.body in
        reaches_above t fs program p s.memory bytes sp name sp c.frame.activation b.body.acts
        keeps_above (omega arith)
        (body_reaches t fs program p s.memory name sp y.slots c.frame.activation b.body.acts
        (get (context_of s.cpu)) (omega arith) held)

    is_funclet : IsFunclet t fs program p name k
    is_funclet = record {
      parent = ap parent_body block.there
          ∙ ap (λ n. Some n) (same_parents block.funclet.function block.funclet.parent ∙
          block.parent);
      small = target_small;
    }

    well_formed : IsWellFormed (host_list p c.store) called
    well_formed = stays_well_formed s called (reaches_keeps 3 s called reaches) target_small
        b.well_formed

    pub arrives : ArrivesBelow t fs program p called k c.frame.activation (of_test false)
        (Waits c.frame ∷ c.below) b.body.acts
    arrives =
        let l = low in
        let h = top in
        record {
          rip = refl;
          name = name;
          funclet = is_funclet;
          argument = refl;
          reaches = activation;
          at = sp;
          stack = (let e = stack_there in omega arith);
          at_small = omega arith;
          back = back;
          returns = returns;
          returns_to = returns_to;
          is = on_top.is;
          on = list;
          handlers = host_list p c.store;
          well_formed = well_formed;
        }

    -- above the caller's stack pointer
    pub arrives_at : arrives.at ≡ sp
    unfolding arrives
    arrives_at = refl

    -- with the handlers that are listed there
    pub listed_there : arrives.handlers ≡ host_list p c.store
    unfolding arrives
    listed_there = refl
