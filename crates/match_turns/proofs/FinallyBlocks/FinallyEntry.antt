-- A `__finally` block begins: base and flag are kept, and its first instruction follows.
use Rattle.std.proofs.Common.{◌≡◌, ℕ, ◌+◌, ◌*◌, ◌^◌, ◌<◌, ◌≤◌, Bool, true, false, Some, None, List, [], ◌∷◌, ◌++◌, length, refl, sym, ap, subst, ◌∙◌, arith, inl, inr, append_assoc}
use Rattle.std.specs.Prelude.{slice_get, slice_index, slice_set}
use Rattle.std.proofs.lemmas.Option.{slice_get_within, slice_get_cases}
use Rattle.std.proofs.lemmas.List.{append-nil}
use Rattle.match_turns.specs.Words.{STACK_START, STACK_END, W32, low, Event, Memory, number_at, Rax, Rcx, Rdx, Rsp, Instr, State, register, of_test, no_exception, Local, BodyState, with_slot, LinearFunclet, BodyName, FuncletBody, funclet_body, Item, Store, Configuration, flag_of, Layout, sizes, move, put_back, keep, local_at, keep_local, fetched, machine, HasCode, Enters, FramePlace, ReachesBody, Steps, StackItem, is_encodable, IsFinallyKind, parent_of, owner_of, IsFuncletOf, by_parent, Activation, locals_of, IsActivation, HasSpace, below_end, record_room, HasPointers, FuncletIsAbove, IsWellFormed, KeepsShadow, AllKeep, is_call, LeadsTo, parent_base, keep_argument, begin_of, making_size, context_of, FindsOwed, Owed, owed_of, with_values, OwnerHasFrame, IsKnown, entry_turns, FlagsFit, FRAME_BY_WEIGHT, Setting, HasProgram, IsMachineMemory, RepresentsAt, frame_at, state_of, OtherRegisters, keep_placed, IsReached, arrived_in, host_list}
use Rattle.match_bodies.specs.CodeSites.{arguments_code}
use Rattle.linear_code.specs.declared.program.FuncletKind.TheVariants as funclets
use Rattle.lowering_invariants.specs.Registers.{FlagHas}
use Rattle.linear_machine.specs.Frames as linear
use Rattle.match_bodies.specs.ProgramImages.{frame_of}
use Rattle.match_turns.proofs.Lemmas.{frame_from, frame_with, sizes_append, code_split, near, enters_then, flag_run, Within, straight, keep_first, others_of, program_kept, enters_silently, none_inside, read_here, StepsTo, reaches_steps, enters_steps, keeps_split, Beneath, beneath_by, callers_above, Finds, plain_steady, ran, label_found, argument_found, frame_there, EntryRan, locals_count, activated, reaches_keeps, enters_keeps, stays_well_formed, SlotsPlaced, IsCounted, frame_top, room_here, holds_here, slots_here, locals_here, leaves_set, Leaves, Ran, frame_after, new_on, represents_next, set_length, local_after, gives_above, owed_with, frame_owed, keep_length}
use Rattle.match_bodies.proofs.Walks.RoutineWalks.{Ran as MidRan}
use Rattle.match_bodies.proofs.Steps.BodyFrames.{codes_above}
use Rattle.match_bodies.proofs.Steps.BodyViews.{placed, count}
use Rattle.match_turns.proofs.Funclets.FuncletPrologue.{LeadsBy}
use Rattle.match_turns.proofs.Funclets.FuncletFrame.{ArrivesBelow, IsPlanned, funclet_planned, HasFrame, first_frame, beginning, begins}
use Rattle.match_turns.proofs.Funclets.FuncletConfiguration.{parent_locals, parent_registers, leads_by}
use Rattle.match_turns.proofs.Funclets.FuncletFirstTurns.{HasEntered, begun, entered, first_small, silent_there}
use Rattle.match_turns.proofs.Calls.ReturnAddressPlace.{top_of, begins_beneath}
use Rattle.match_turns.proofs.Funclets.FuncletShadow.{base_code, arguments_are, base_is_plain, funclet_ran}
use Rattle.match_turns.proofs.Filters.FilterEntry.{has_first, parent_is}
use Rattle.match_turns.proofs.FinallyBlocks.FinallyActivation.{block_counted, owner_has_frame}
use Rattle.match_turns.proofs.FinallyBlocks.FinallyFlag.{kind_of_flag, low_test, nothing_landed, block_begins}

module _ (setting : Setting) where
  open setting use {functions as t, funclets as fs, program, plan as p, sites as q, image}

  module _ (s : State) (k flag activation held : ℕ) (abnormal : Bool) (items : List Item)
      (store : Store) (events : List Event) (acts : List Activation)
      (a : ArrivesBelow t fs program p s k activation (of_test abnormal) items acts)
      (name : BodyName) (known : IsFuncletOf program name IsFinallyKind k)
      (flagged : flag_of (slice_get program.funclets k) ≡ Some flag) (fits : FlagsFit program)
      (memory : IsMachineMemory setting s.memory store.memory) (stored : store.activations ≡
      locals_of acts) (listed : a.handlers ≡ host_list p store)
      (space : STACK_END ≤ a.at + (below_end + record_room) + FRAME_BY_WEIGHT *
      (length acts + held))
      (few : length acts + held + 2 ≤ 1000)
      (pointers : (m : Memory) (sp size : ℕ) → HasPointers t fs program p m
      (p.layout (FuncletBody k)) sp size items)
      (above : (g : LinearFunclet) → g.kind ≡ funclets.Finally flag → FuncletIsAbove t fs program p
      k (first_frame setting k activation no_exception (held + 2)) (Some g) items)
      (typed : IsKnown program (block_begins k flag activation held abnormal items store
      events)) where
    abbrev f : LinearFunclet
    f = known.funclet

    abbrev l : IsPlanned setting k
    l = funclet_planned setting k f known.there

    abbrev y : Layout
    y = p.layout (FuncletBody k)

    kind_is : f.kind ≡ funclets.Finally flag
    kind_is = kind_of_flag f.kind flag (sym (ap flag_of known.there) ∙ flagged)

    parent : by_parent f.function f.parent ≡ a.name
    parent = parent_is setting a.name a.name k f known.there a.funclet.parent

    owner : owner_of program (parent_of f.function f.parent) ≡ Some f.function
    owner = subst (λ n. owner_of program n ≡ Some f.function) (sym known.parent) known.owner

    leads : LeadsBy s.memory (parent_base p f.parent) (register s.cpu Rdx) a.reaches.base
    leads = leads_by setting s.memory f f.parent a.name (register s.cpu Rdx) a.reaches.base parent
        owner a.reaches.leads

    some : 0 < length f.body.code
    some = has_first program (FuncletBody k) f.body typed.continues.instruction
        (ap funclet_body known.there) typed.continues.at

    flag_fits : flag < f.body.locals
    flag_fits = fits k flag f known.there flagged

    abbrev e : HasEntered setting s k l a.reaches.base
    e = entered setting s k (of_test abnormal) activation items acts l a store.memory memory
        (length acts + held) space few some leads

    -- its prologue
    abbrev from : ℕ
    from = p.funclet k

    abbrev to : ℕ
    to = begun setting k l

    -- ---- each turn up to the one that keeps the base keeps the shadow

    abbrev y1 : State
    y1 = machine e.after e.rip e.flags

    low_enough : STACK_START ≤ register s.cpu Rsp
    low_enough = let lo = e.low in let z = e.sp_is in omega arith

    high_enough : a.at ≤ STACK_END
    high_enough = let hi = e.top in let z = e.sp_is in let n = a.stack in omega arith

    abbrev base : List Instr
    base = base_code setting s k activation (of_test abnormal) items acts l a store.memory memory
        some low_enough high_enough (register s.cpu Rdx) a.reaches.base leads

    parts : arguments_code program p (FuncletBody k) ≡ base ++ keep_argument y f.kind
    parts = arguments_are setting s k activation (of_test abnormal) items acts l a store.memory
        memory some low_enough high_enough (register s.cpu Rdx) a.reaches.base leads

    kept_base : EntryRan t fs program p q image (FuncletBody k) f.body
        (ap funclet_body l.there) some (register s.cpu Rsp) (register s.cpu Rsp + 8) a.back
        (others_of s.cpu.registers) a.is e.turns s y1 base
    kept_base =
        funclet_ran setting s k activation (of_test abnormal) items acts l a store.memory memory
        some low_enough high_enough (register s.cpu Rdx) a.reaches.base leads e.turns y1 base
        (keep_argument y f.kind) parts (let n = e.exact in omega arith)
        (enters_steps from to e.turns s y1 e.comes)
        (base_is_plain setting s k activation (of_test abnormal) items acts l a store.memory memory
        some low_enough high_enough (register s.cpu Rdx) a.reaches.base leads)

    -- ---- the frame is before the flag is stored: as at the first instruction

    abbrev s1 : State
    s1 = machine e.after (p.address (FuncletBody k) 0) e.flags

    abbrev c1 : Configuration
    c1 = beginning setting (first_frame setting k activation no_exception (held + 2)) items store
        events

    stack_1 : register s1.cpu Rsp ≡ e.sp
    stack_1 = e.at

    well_formed_1 : IsWellFormed a.handlers s1
    well_formed_1 =
        let z = enters_keeps from to e.turns s (machine e.after e.rip e.flags) e.comes in
        stays_well_formed s s1
        (record {
          protection = z.protection;
          fixed = z.fixed;
          count = z.count;
          small = z.small;
          handlers = z.handlers;
        }) (first_small setting k l) a.well_formed

    frame_1 : HasFrame setting s s1 k (of_test abnormal) activation items acts l a
    frame_1 = record {
      stack = subst (λ r. register s.cpu Rsp ≡ r + y.frame) (sym stack_1) e.sp_is;
      low = subst (λ r. STACK_START ≤ r) (sym stack_1) e.low;
      within = subst (λ r. Within r (r + y.frame) s.memory s1.memory) (sym stack_1) e.within;
      number = subst (λ r. number_at s1.memory.byte 8 (r + l.plan.layout.slot) ≡ a.reaches.base)
          (sym stack_1) e.number;
      distance = subst (IsActivation acts activation a.reaches.base y.locals)
          (parent_registers setting k f f.parent a.name known.there parent owner)
          (subst (λ d. IsActivation acts activation a.reaches.base d (p.register a.name))
          (parent_locals setting k f f.parent a.name known.there parent owner)
          a.reaches.activation);
      frame = (let r = kept_base.beneath in
          frame_with y1 s1.cpu (p.leaf (FuncletBody k))
          (frame_of p (FuncletBody k) a.back (others_of s.cpu.registers)) refl
          (frame_from setting (FuncletBody k) f.body (ap funclet_body l.there) y1 r.size a.back
          (others_of s.cpu.registers) r.owed));
      rip = refl;
      well_formed = well_formed_1;
    }

    space_1 : HasSpace e.sp below_end (length acts + (held + 2))
    space_1 =
        let z = e.sp_is in
        let w = a.stack in
        let r = l.plan.layout.small in
        let g = space in
        let h = few in
        record { space = omega arith; shallow = omega arith }

    abbrev b1 : RepresentsAt setting s1 c1
    b1 = begins setting s s1 k (of_test abnormal) activation items acts l a frame_1 no_exception
        (held + 2) store events memory stored listed (let h = e.top in let z = e.sp_is in let w =
        a.stack
        in omega arith) some
        (subst (λ r. HasSpace r below_end (length acts + (held + 2))) (sym stack_1) space_1)
        (above f kind_is)
        (pointers s1.memory (register s1.cpu Rsp) y.frame)

    -- ---- the activation of the block

    counted : IsCounted setting c1
    counted = block_counted setting k flag activation held abnormal items store events f known.there
        typed

    framed_owner : OwnerHasFrame t fs program p activation items acts
    framed_owner = owner_has_frame setting k flag activation held abnormal items store events f
        known.there typed acts stored

    -- ---- the flag is stored

    abbrev here : SlotsPlaced s1.memory y f.body.temporaries (register s1.cpu Rsp) activation acts
    here = placed setting s1 c1 b1 counted

    abbrev fr : FramePlace
    fr = frame_at program p (FuncletBody k) f.body (register s1.cpu Rsp) here.base
        (arrived_in s1.cpu)

    abbrev old : BodyState
    old = state_of program p s1 c1 here.base

    abbrev last : List Instr
    last = move W32 Rax Rcx ∷ keep y (Local flag)

    code_here : HasCode e.after.memory e.rip last
    code_here = subst (λ z. HasCode e.after.memory e.rip (keep_argument y z)) kind_is e.code

    abbrev r : ReachesBody fr (length last) (machine e.after e.rip e.flags)
        (e.rip + sizes last) e.after.rest e.after.locals (record {
          slots =
              with_slot old.slots (Local flag) (low W32 e.after.rcx);
          memory = old.memory;
        })
    r = flag_run fr (Local flag) e.after e.rip e.flags old (room_here setting s1 c1 b1 counted)
        flag_fits (let none = l.plan.layout.none_arrive in omega arith) (e.at ∙ sym stack_1)
        (holds_here setting s1 c1 b1 counted) code_here

    abbrev u : State
    u = machine r.after (e.rip + sizes last) r.flags

    abbrev stored_flag : ℕ
    stored_flag = low W32 e.after.rcx

    flag_is : stored_flag ≡ of_test abnormal
    flag_is = ap (low W32) (e.rcx ∙ a.argument) ∙ low_test abnormal

    abbrev values : List ℕ
    values = slice_set here.values flag stored_flag

    abbrev d : BodyState
    d = record { slots = with_slot old.slots (Local flag) stored_flag; memory = old.memory }

    reached : IsReached p (FuncletBody k) flag
    reached = subst (FlagHas (IsReached p (FuncletBody k))) kind_is
        (image.spares k f known.there).flag

    leaves : Leaves p (FuncletBody k) f.body d here.values values []
    leaves =
        let n = count setting s1 c1 b1 counted in
        let w = slots_here setting s1 c1 b1 counted in
        record {
          count = set_length here.values flag stored_flag ∙ n;
          locals = λ i lt named. local_after old.slots here.values (Local flag) stored_flag i
              (omega arith) (w.locals i lt named ∙ ap (λ xs. slice_index xs i) (locals_here setting
              s1 c1 b1 counted));
          others = λ j e. leaves_set (p.register (FuncletBody k)) here.values flag stored_flag
              reached;
          few = omega arith;
          temporaries = λ i v z. cc;
        }

    ran_here : Ran setting s1 c1 b1 counted u d values []
    ran_here =
        let z = reaches_keeps (length last) (machine e.after e.rip e.flags) u r.comes in
        record {
          changed = record {
            changes = record {
              protection = r.changes.protection;
              byte = r.changes.byte;
              bytes = r.changes.bytes;
            };
            keeps =
                record {
                  protection = z.protection;
                  fixed = z.fixed;
                  count = z.count;
                  small = z.small;
                  handlers = z.handlers;
                };
          };
          holds = r.holds;
          kept = record { rest = r.rest; locals = r.locals };
          leaves = leaves;
        }

    run : Enters from to (e.turns + length last) s u
    run = enters_then from to e.turns (length last) s (machine e.after e.rip e.flags) u e.comes
        r.comes

    rip_here : u.cpu.rip ≡ p.address (FuncletBody k) 0
    rip_here = subst (λ z. e.rip + sizes (keep_argument y z) ≡ p.address (FuncletBody k) 0) kind_is
        e.place

    well_formed_here : IsWellFormed (host_list p store) u
    well_formed_here = stays_well_formed s u (enters_keeps from to (e.turns + length last) s u run)
        (let z = rip_here in let w = first_small setting k l in omega arith)
        (subst (λ hs. IsWellFormed hs s) listed a.well_formed)

    store_is : locals_of (with_values acts activation values) ≡ slice_set store.activations
        activation (slice_set (linear.locals_of store activation) flag (of_test abnormal))
    store_is =
        let lt = slice_get_within (locals_of acts) activation here.values here.number in
        let n = locals_count acts in
        activated acts activation values (omega arith)
        ∙ ap (λ xs. slice_set xs activation values) (sym stored)
        ∙ ap (λ w. slice_set store.activations activation (slice_set here.values flag w)) flag_is
        ∙ ap (λ vs. slice_set store.activations activation (slice_set vs flag (of_test abnormal)))
        (sym (locals_here setting s1 c1 b1 counted))

    represents_here : RepresentsAt setting u (block_begins k flag activation held abnormal items
        store events)
    represents_here =
        subst (λ (xs : List (List ℕ)). let o : Configuration = record {
          frame = record {
            body = FuncletBody k;
            next = 0;
            activation = activation;
            exception = no_exception;
            held = held + 2;
            temporaries = [];
            landed = None;
          };
          below = items;
          store = record store { activations = xs };
          events = events;
        } in RepresentsAt setting u o) store_is
        (represents_next setting s1 c1 b1 counted u d values [] ran_here 0 None events rip_here some
        well_formed_here (λ x z. absurd (nothing_landed x z))
        (λ z. let w : true ≡ false = sym z ∙ l.plan.framed in absurd cc) (λ j z. framed_owner)
        (λ i lt. let none = l.plan.layout.none_arrive in absurd (omega arith)))

    last_few : length last ≤ 3
    last_few = let few = keep_length y (Local flag) in omega arith

    -- ---- each turn keeps the shadow

    -- the flag is in RAX, and the base in RCX
    abbrev slot : ℕ
    slot = l.plan.layout.slot

    abbrev mid : List Instr
    mid = move W32 Rax Rcx ∷ fetched Rcx Rsp slot ∷ []

    abbrev storing : Instr
    storing = put_back Rcx (local_at y flag)

    last_is : last ≡ mid ++ (storing ∷ [])
    last_is = ap (λ q. move W32 Rax Rcx ∷ keep_placed y flag q)
        (l.plan.layout.in_frame flag)
        ∙ ap (λ o. move W32 Rax Rcx ∷ keep_local o (local_at y flag)) l.plan.layout.base

    all_parts : arguments_code program p (FuncletBody k) ≡ (base ++ mid) ++ (storing ∷ [])
    all_parts = parts ∙ ap (λ z. base ++ keep_argument y z) kind_is
        ∙ ap (λ (xs : List Instr). base ++ xs) last_is ∙ sym (append_assoc base mid (storing ∷ []))

    abbrev top1 : ℕ
    top1 = top_of setting s1 c1 b1 counted

    abbrev list1 : List StackItem
    list1 = b1.body.is

    abbrev others1 : List ℕ
    others1 = b1.body.others

    abbrev owed : Owed
    owed = owed_of p (FuncletBody k)

    beneath_1 : Beneath t y1 owed top1 (top1 + 8) b1.body.back others1 list1
    beneath_1 =
        let g = begins_beneath setting s1 c1 b1 counted in
        record {
          above = g.above;
          count = g.count;
          size = g.size;
          at = g.at;
          owed = owed_with y1.memory (context_of s1.cpu) (context_of y1.cpu) owed g.size
              b1.body.back others1 refl g.owed;
        }

    run_3 : StepsTo 3 y1 u
    run_3 = subst (λ n. StepsTo n y1 u) (ap (λ (xs : List Instr). length xs) last_is)
        (reaches_steps (length last) y1 u r.comes)

    abbrev run_2 : StepsTo 2 run_3.0 u
    run_2 = run_3.2

    abbrev x : State
    x = run_2.0

    abbrev run_1 : StepsTo 1 x u
    run_1 = run_2.2

    abbrev begin : ℕ
    begin = begin_of p q (FuncletBody k) + making_size p q (FuncletBody k)

    codes : (m : Memory) → HasProgram setting m → HasCode m begin (base ++ mid) × HasCode m
        (begin + sizes (base ++ mid)) (storing ∷ [])
    codes m h = code_split m begin (base ++ mid) (storing ∷ []) (subst (HasCode m begin) all_parts
        (frame_there setting (FuncletBody k) f.body (ap funclet_body l.there) some m h).1)

    finds : Finds t fs program p q owed top1 (top1 + 8) b1.body.back others1 list1 y1.cpu.rip mid
    finds done left split m h =
        let z : begin + sizes (base ++ done) ≡ y1.cpu.rip + sizes done =
        omega (arith, kept_base.rip, sizes_append base done) in
        subst (λ n. FindsOwed t m n owed) z
        (argument_found setting (FuncletBody k) f.body (ap funclet_body l.there) m h some
        (base ++ done) (left ++ (storing ∷ []))
        (all_parts ∙ ap (λ (xs : List Instr). (base ++ xs) ++ (storing ∷ [])) split
        ∙ assoc base done left (storing ∷ [])))
      where
        assoc : (a b c d : List Instr) → (a ++ (b ++ c)) ++ d ≡ (a ++ b) ++ (c ++ d)
        assoc a b c d = ap (λ (xs : List Instr). xs ++ d) (sym (append_assoc a b c))
            ∙ append_assoc (a ++ b) c d

    middle : MidRan t fs program p q owed top1 (top1 + 8) b1.body.back others1 list1 y.slots
        y.frame 8 y1 x mid
    middle =
        let place : begin + sizes base ≡ y1.cpu.rip = sym kept_base.rip in
        let code = (code_split y1.memory (begin + sizes base) mid []
        (subst (HasCode y1.memory (begin + sizes base)) (sym (append-nil mid))
        (code_split y1.memory begin base mid (codes y1.memory kept_base.has).0).1)).0 in
        let small = l.plan.layout.small in
        let kept = l.plan.layout.kept in
        let at = l.plan.layout.temporaries in
        let within = l.plan.layout.within in
        ran t fs program p q owed top1 (top1 + 8) b1.body.back others1 list1 mid y1 x y.slots
        y.frame 8 (run_3.0, run_3.1, (x, run_2.1, refl))
        (plain_steady owed y.slots y.frame 8 mid
        ((refl, inl refl), ((near slot (omega arith), inl refl), tt)))
        (subst (λ n. HasCode y1.memory n mid) place code) kept_base.has beneath_1 refl refl
        (omega arith) (codes_above setting (FuncletBody k) f.body (ap funclet_body l.there)
        (register y1.cpu Rsp)) finds

    -- the store leads to another memory, in which the same list is
    stack_there : register u.cpu Rsp + y.frame ≡ top1
    stack_there = ap (λ (r : OtherRegisters). r.rsp + y.frame) r.rest

    beneath_u : Beneath t u owed top1 (top1 + 8) b1.body.back others1 list1
    beneath_u =
        let h = frame_top setting s1 c1 b1 counted in
        let on = new_on setting s1 c1 b1 counted u d values [] ran_here (λ z. let w : true ≡ false =
        sym z ∙ l.plan.framed in absurd cc) (λ j z. framed_owner) in
        let at = stack_there in
        beneath_by t u owed y.frame top1 b1.body.back others1 list1 well_formed_here.count at
        (frame_owed setting (FuncletBody k) f.body (ap funclet_body l.there) u b1.body.back others1
        b1.body.eight (let z : register u.cpu Rsp + y.frame + 8 < 2 ^ 64 = omega arith in z)
        (frame_after setting s1 c1 b1 counted u d values [] ran_here))
        on.is_there.stack (omega arith) on.data_alone.no_code

    last_step : Steps x u
    last_step = subst (Steps x) run_1.2 run_1.1

    storing_keeps : KeepsShadow t fs x u
    storing_keeps =
        let here' : begin + sizes (base ++ mid) ≡ x.cpu.rip =
        omega (arith, middle.rip, kept_base.rip, sizes_append base mid) in
        let code = subst (λ n. HasCode x.memory n (storing ∷ [])) here'
        (codes x.memory middle.has).1 in
        let z = room_here setting s1 c1 b1 counted in
        let near_local = z.locals in
        let fitting = flag_fits in
        let enc : is_encodable storing ≡ true = near (local_at y flag) (omega arith) in
        let found_x = subst (λ n. FindsOwed t x.memory n owed) (sym middle.rip)
        (finds mid [] (sym (append-nil mid)) x.memory middle.has) in
        let has_u = program_kept t fs program p q x.memory u.memory
        (record { protection = last_step.protection; fixed = last_step.fixed }) middle.has in
        let found_u = subst (λ n. FindsOwed t u.memory n owed) (sym rip_here)
        (first_found u.memory has_u) in
        let up = stack_there in
        straight t fs x u (callers_above t top1 b1.body.back others1 list1) last_step.steps
        (ap is_call (read_here x u storing [] enc code))
        (gives_above t x owed top1 (top1 + 8) b1.body.back others1 list1 middle.beneath found_x)
        (gives_above t u owed top1 (top1 + 8) b1.body.back others1 list1 beneath_u found_u)
        (let h : register u.cpu Rsp + 8 ≤ top1 + 8 = omega arith in h)
      where
        first_found : (m : Memory) → HasProgram setting m → FindsOwed t m
            (p.address (FuncletBody k) 0) owed
        first_found m h = elim (slice_get_cases f.body.code 0).1 [
          | inl i ↦ label_found setting (FuncletBody k) f.body (ap funclet_body l.there) m h 0 i.0
              i.2
          | inr i ↦ let le = i.0 in absurd (let lt = some in omega arith)
        ]

    keeps_shadow : AllKeep t fs (e.turns + length last) s
    keeps_shadow =
        let three = keeps_split t fs 2 1 y1 x (run_3.0, run_3.1, (x, run_2.1, refl)) middle.keeps
        (keep_first t fs 0 x u last_step.steps storing_keeps tt) in
        keeps_split t fs e.turns (length last) s y1
        (enters_steps from to e.turns s y1 e.comes) kept_base.keeps
        (subst (λ n. AllKeep t fs n y1) (sym (ap (λ (xs : List Instr). length xs) last_is))
        three)

    pub block_leads : LeadsTo t fs entry_turns (RepresentsAt setting) s
        (block_begins k flag activation held abnormal items store events)
    block_leads = record {
      turns = e.turns + length last;
      few = (let z = e.few in let w = last_few in omega arith);
      state = u;
      comes = enters_silently t fs program p q image from to
          (none_inside t fs program p q image (FuncletBody k) f.body (ap funclet_body l.there))
          (e.turns + length last) s u run keeps_shadow
          memory.code (silent_there setting k l u rip_here some);
      is_there = represents_here;
    }
