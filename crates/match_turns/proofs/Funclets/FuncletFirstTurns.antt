-- A funclet's first turns: its frame is made, and keeps the base of its activation.
use Rattle.std.proofs.Common.{◌≡◌, ℕ, ◌+◌, ◌-◌, ◌*◌, ◌^◌, ◌<◌, ◌≤◌, Option, Some, None, List, [], ◌++◌, length, refl, sym, ap, subst, ◌∙◌, arith, append_assoc}
use Rattle.template_code.specs.ColdParts.{hot_code}
use Rattle.match_turns.specs.Words.{STACK_START, STACK_END, number_at, Memory, Rcx, Rdx, Rsp, Instr, Flags, State, register, distance, arrivals, FuncletBody, body_of, funclet_body, Item, Layout, sizes, code_from, MachineView, machine, sp_of, HasCode, Enters, Activation, below_end, record_room, links_of, parent_base, keep_argument, funclet_arguments, frame_code, making_size, entry_code, IsWellFormed, seen_by_templates, FRAME_BY_WEIGHT, Setting, HasProgram, IsMachineMemory}
use Rattle.match_bodies.specs.CodeSites.{arguments_code, body_plan}
use Rattle.frame_rules.specs.Bytes.{prologue_code}
use Rattle.frame_rules.specs.Plan.{FramePlan}
use Rattle.frame_rules.specs.States.{IsEntry}
use Rattle.x64_templates.specs.Prologues.{prologue_turns}
use Rattle.match_bodies.proofs.Prologues.FrameCode.{IsBare, bare_turns, bare_unstored, funclet_bare, plan_depth}
use Rattle.match_bodies.proofs.Prologues.PlannedPrologues.{body_planned, body_probed}
use Rattle.match_bodies.proofs.Prologues.PrologueSteps.{small_at}
use Rattle.match_turns.proofs.Lemmas.{sizes_append, code_split, Within, within_keeps_code, in_stack, activations_are_at, is_machine, may_read_written}
use Rattle.match_bodies.specs.CodeSites as sites
use Rattle.match_turns.proofs.Funclets.FuncletPrologue.{LeadsBy, first_code, Made, HasRoom, made}
use Rattle.match_turns.proofs.Funclets.FuncletFrame.{ArrivesBelow, IsPlanned}

-- the base is kept in one instruction or two
base_length : (o : Option ℕ) (b : ℕ) → length (sites.keep_base o b) ≤ 2
base_length None b = omega arith
base_length (Some parent) b = omega arith

module _ (setting : Setting) where
  open setting use {functions as t, funclets as fs, program, plan as p, sites as q, image}

  module _ (k : ℕ) (l : IsPlanned setting k) where
    abbrev y : Layout
    y = p.layout (FuncletBody k)

    abbrev slot : ℕ
    slot = l.plan.layout.slot

    abbrev is : body_of program (FuncletBody k) ≡ Some l.funclet.body
    is = ap funclet_body l.there

    abbrev pub plan : FramePlan
    plan = body_plan p q (FuncletBody k)

    pub bare : IsBare y
    bare = funclet_bare y _ l.funclet.body l.plan.layout

    -- its prologue's end
    abbrev pub begun : ℕ
    begun = p.funclet k + making_size p q (FuncletBody k)

    abbrev pub base_code : List Instr
    base_code = sites.keep_base (parent_base p l.funclet.parent) slot

    abbrev pub front : List Instr
    front = first_code plan (parent_base p l.funclet.parent) slot

    abbrev pub last : List Instr
    last = keep_argument y l.funclet.kind

    entry_is : entry_code program p q (FuncletBody k) ≡ front ++ last
    entry_is =
        ap (λ leaf. frame_code plan leaf
        ++ arguments_code program p (FuncletBody k)) l.plan.framed
        ∙ ap (λ o. prologue_code plan ++ funclet_arguments p y o) l.there
        ∙ ap (λ o. prologue_code plan ++ (sites.keep_base (parent_base p l.funclet.parent)
        (elim o [ Some b ↦ b | None ↦ 0 ]) ++ last)) l.plan.layout.base
        ∙ sym (append_assoc (prologue_code plan) base_code last)

    making_is : making_size p q (FuncletBody k) ≡ sizes (prologue_code plan)
    making_is = ap (λ leaf. sizes (frame_code plan leaf))
        l.plan.framed

    pub entry_codes : (m : Memory) → HasProgram setting m
        → HasCode m (p.funclet k) front × HasCode m (p.funclet k + sizes front) last
    entry_codes m has =
        let h = code_split m (p.funclet k) (entry_code program p q (FuncletBody k))
        (code_from (links_of p q (FuncletBody k)) y (p.address (FuncletBody k) 0)
        (hot_code l.funclet.body)) (has.code (FuncletBody k) l.funclet.body is) in
        code_split m (p.funclet k) front last (subst (HasCode m (p.funclet k)) entry_is h.0)

    pub first_is : p.address (FuncletBody k) 0 ≡ p.funclet k + sizes front + sizes last
    first_is =
        let a = image.addresses (FuncletBody k) l.funclet.body is in
        omega (arith, a.first, ap sizes entry_is, sizes_append front last)

    pub first_small : p.address (FuncletBody k) 0 < 2 ^ 64
    first_small = let h = (image.addresses (FuncletBody k) l.funclet.body is).inside.high in
        omega arith

    -- no funclet begins at the first instruction
    pub silent_there : (u : State) → u.cpu.rip ≡ p.address (FuncletBody k) 0
        → 0 < length l.funclet.body.code → arrivals u.cpu (distance t.base u.cpu.rip) 1 fs ≡ []
    silent_there u here some =
        let a = image.addresses (FuncletBody k) l.funclet.body is in
        subst (λ r. arrivals u.cpu (distance t.base r) 1 fs ≡ []) (sym here)
        (image.funclets.none (p.address (FuncletBody k) 0) first_small
        (λ j inside e. a.not_first 0 j some inside e) u.cpu)

  -- the state after these turns: RSP is at the frame, which keeps the base, and the rest of the
  -- entry follows
  pub record HasEntered (s : State) (k : ℕ) (l : IsPlanned setting k) (base : ℕ) : Type 0 where
    pub sp : ℕ
    pub sp_is : register s.cpu Rsp ≡ sp + (p.layout (FuncletBody k)).frame
    pub low : STACK_START ≤ sp
    pub top : sp + (p.layout (FuncletBody k)).frame + 8 ≤ STACK_END
    pub turns : ℕ
    pub exact : turns ≡ prologue_turns (plan k l) + length (base_code k l)
    pub few : turns ≤ 3
    pub after : MachineView
    pub rip : ℕ
    pub flags : Flags
    pub comes : Enters (p.funclet k) (begun k l) turns s (machine after rip flags)
    pub at : sp_of after ≡ sp
    pub rcx : after.rcx ≡ register s.cpu Rcx
    pub number : number_at after.memory.byte 8 (sp + l.plan.layout.slot) ≡ base
    pub within : Within sp (sp + (p.layout (FuncletBody k)).frame) s.memory after.memory
    pub code : HasCode after.memory rip (last k l)
    pub place : rip + sizes (last k l) ≡ p.address (FuncletBody k) 0

  -- the frame, and the base in it
  module _ (s : State) (k first activation : ℕ) (items : List Item) (acts : List Activation)
      (l : IsPlanned setting k) (a : ArrivesBelow t fs program p s k activation first
      items acts) (source : Memory) (memory : IsMachineMemory setting s.memory source)
      (depth : ℕ) (space : STACK_END ≤ a.at + (below_end + record_room) + FRAME_BY_WEIGHT * depth)
      (shallow : depth + 2 ≤ 1000) (some : 0 < length l.funclet.body.code)
      (leads : LeadsBy s.memory (parent_base p l.funclet.parent) (register s.cpu Rdx)
      a.reaches.base) where
    abbrev frame : ℕ
    frame = (p.layout (FuncletBody k)).frame

    abbrev pub sp : ℕ
    sp = register s.cpu Rsp - frame

    abbrev pub v : MachineView
    v = seen_by_templates s

    pub top : a.at ≤ STACK_END
    top = in_stack t fs program p s.memory _ a.is items acts
        a.on.is_there.stack a.on.is_there.linked

    pub low : STACK_START + FRAME_BY_WEIGHT ≤ register s.cpu Rsp
    low = let e = a.stack in omega (arith, space, shallow)

    pub sp_is : register s.cpu Rsp ≡ sp + frame
    sp_is = let e = low in let f = l.plan.layout.small in omega arith

    pub base_small : a.reaches.base < 2 ^ 64
    base_small = let r = activations_are_at t fs program p s.memory _ a.is items acts activation
        a.reaches.base _ _ a.on.is_there a.reaches.activation in
        let h = r.high_end in omega arith

    pub room : HasRoom v sp frame (l.plan.layout.slot)
    room =
        let e = a.stack in
        let f = top in
        let g = low in
        let h = sp_is in
        let x = l.plan.layout.small in
        let z = l.plan.layout.kept in
        let w = l.plan.layout.temporaries in
        record {
          at = sp_is;
          high = omega arith;
          small = x;
          inside = omega arith;
          writable = λ b c d. memory.stack b (omega arith) (omega arith);
        }

    -- the state at its first byte
    abbrev begin : State
    begin = machine v (p.funclet k) s.cpu.flags

    begin_is : s ≡ begin
    begin_is = is_machine s a.well_formed.count ∙ ap (λ r. machine v r s.cpu.flags) a.rip

    pub begins : IsEntry frame begin
    begins =
        let e = a.stack in
        let f = top in
        let g = low in
        let x = l.plan.layout.small in
        let well = subst (IsWellFormed a.handlers) begin_is a.well_formed in
        let sp_here : register s.cpu Rsp ≡ register begin.cpu Rsp = ap
        (λ (u : State). register u.cpu Rsp) begin_is in
        record {
          length = well.count;
          fits = small_at begin.cpu.registers well.small;
          high = omega arith;
          low = omega arith;
          writable = λ b c d. memory.stack b (omega arith) (omega arith);
          readable = λ b c d. may_read_written s.memory b
              (memory.stack b (omega arith) (omega arith));
        }

    abbrev pub run : Made (plan k l) (parent_base p l.funclet.parent) v sp frame
        (l.plan.layout.slot) a.reaches.base (p.funclet k) s.cpu.flags
    run = made (plan k l) q.check_stack (parent_base p l.funclet.parent) v sp frame
        (l.plan.layout.slot) a.reaches.base (p.funclet k) s.cpu.flags
        (body_planned setting (FuncletBody k) l.funclet.body (is k l) some l.plan.framed)
        (plan_depth (plan k l) frame l.plan.layout.plan.whole)
        (bare_unstored (y k l) (plan k l).probe (bare k l)) begins
        (body_probed setting (FuncletBody k) l.funclet.body (is k l) some)
        memory.code.check_stack room base_small leads
        (entry_codes k l s.memory memory.code).0

    pub rest_code : HasCode run.after.memory (p.funclet k + sizes (front k l)) (last k l)
    rest_code = within_keeps_code sp (sp + frame) s.memory run.after.memory
        (p.funclet k + sizes (front k l)) (last k l) room.writable run.within
        (entry_codes k l s.memory memory.code).1

    few_turns : prologue_turns (plan k l) + length (base_code k l) ≤ 3
    few_turns =
        let one = bare_turns (y k l) (plan k l).probe (bare k l) in
        let two = base_length (parent_base p l.funclet.parent) l.plan.layout.slot in
        omega arith

    pub entered : HasEntered s k l a.reaches.base
    entered = record {
      sp = sp;
      sp_is = sp_is;
      low = (let e = low in let f = sp_is in let g = l.plan.layout.small in omega arith);
      top = (let e = top in let f = a.stack in let g = sp_is in omega arith);
      turns = prologue_turns (plan k l) + length (base_code k l);
      exact = refl;
      few = few_turns;
      after = run.after;
      rip = p.funclet k + sizes (front k l);
      flags = run.flags;
      comes = subst (λ x. Enters (p.funclet k) (begun k l)
          (prologue_turns (plan k l) + length (base_code k l)) x
          (machine run.after (p.funclet k + sizes (front k l)) run.flags)) (sym begin_is)
          (subst (λ to. Enters (p.funclet k) to
          (prologue_turns (plan k l) + length (base_code k l)) begin
          (machine run.after (p.funclet k + sizes (front k l)) run.flags))
          (ap (λ n. p.funclet k + n) (sym (making_is k l))) run.comes);
      at = run.lowered;
      rcx = run.rcx;
      number = run.number;
      within = run.within;
      code = rest_code;
      place = sym (first_is k l);
    }
