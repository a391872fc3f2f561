-- A filter begins: it keeps the base and the address of its EXCEPTION_POINTERS, and its first
-- instruction follows.
use Rattle.std.proofs.Common.{◌≡◌, ℕ, ◌+◌, ◌%◌, ◌^◌, ◌<◌, ◌≤◌, false, Some, Ok, List, [], ◌∷◌, ◌++◌, length, refl, sym, ap, subst, ◌∙◌, arith, inl, length-append}
use Rattle.std.proofs.lemmas.List.{append-nil}
use Rattle.std.specs.Prelude.{nat_lt, slice_get}
use Rattle.std.proofs.lemmas.Option.{slice_get_within}
use Rattle.match_turns.specs.Words.{STACK_START, STACK_END, number_at, Rcx, Rdx, Rsp, Instr, State, register, Functions, Funclet, Exception, Instruction, LinearProgram, LinearBody, LinearFunclet, BodyName, FuncletBody, body_of, funclet_body, Handler, Resumption, Item, Waits, Searches, Configuration, begin_filter, instruction_in, Layout, sizes, keep_register, MachineView, machine, HasCode, Enters, parent_of, owner_of, ImagePlan, by_parent, parent_body, Activation, locals_of, IsActivation, HasSpace, below_end, KeepsPointers, context_below, IsWellFormed, Arrives, LeadsTo, Sites, parent_base, keep_argument, IsProgramImage, IsKnown, entry_turns, FiltersBegin, Setting, setting_of, IsMachineMemory, RepresentsAt, FilterOf, host_list}
use Rattle.virtual_unwind.specs.Undone.{word}
use Rattle.x64_templates.specs.Prologues.{prologue_turns}
use Rattle.match_turns.proofs.Lemmas.{others_of, EntryRan, frame_from, stored_is_loaded, enters_then, same_number, Reached, kept_at, HasCell, pointers_kept, Within, within_then, within_cell, enters_silently, none_inside, enters_steps, plain_both, kept_plain, locals_count, enters_keeps, stays_well_formed}
use Rattle.linear_code.specs.declared.program.FuncletKind.TheVariants as funclets
use Rattle.match_turns.proofs.Funclets.FuncletShadow.{base_code, arguments_are, base_is_plain, funclet_ran}
use Rattle.match_turns.proofs.Funclets.FuncletPrologue.{LeadsBy}
use Rattle.match_turns.proofs.Funclets.FuncletFrame.{ArrivesBelow, arrives_below, IsPlanned, funclet_planned, HasFrame, begins, word_within, stack_writable}
use Rattle.match_turns.proofs.Funclets.FuncletConfiguration.{IsFilterOfSome, filter_of_some, is_filter, parent_locals, parent_registers, leads_by}
use Rattle.match_turns.proofs.Dispatches.DispatchSpace.{shallow_is, HasRecordSpace, search_space}
use Rattle.match_turns.proofs.Funclets.FuncletFirstTurns.{HasEntered, begun, plan, entered, first_small, silent_there}

same_name : (a b : BodyName) → Some a ≡ Some b → a ≡ b
same_name a b e = cc

-- a body that is at its first instruction has one
pub has_first : (program : LinearProgram) (name : BodyName) (b : LinearBody) (i : Instruction)
    → body_of program name ≡ Some b → instruction_in (body_of program name) 0 ≡ Some i
    → 0 < length b.code
has_first program name b i is e = slice_get_within b.code 0 i
    (sym (ap (λ o. instruction_in o 0) is) ∙ e)

-- the word at the place of a cell, and bytes beside it
pub cell_number : (v : MachineView) (at x : ℕ) → at + 8 < 2 ^ 63 → x < 2 ^ 64
    → number_at (kept_at v at x).memory.byte 8 at ≡ x
cell_number v at x high lt = stored_is_loaded v.memory.byte 8 at x (omega arith) (omega arith)
    ∙ (let q : x % 256 ^ 8 ≡ x = omega arith in q)

module _ (setting : Setting) where
  open setting use {functions as t, funclets as fs, program, plan as p, sites as q, image}

  -- the parent of a funclet, by what is known of it
  pub parent_is : (name other : BodyName) (k : ℕ) (f : LinearFunclet)
      → slice_get program.funclets k ≡ Some f
      → parent_body (slice_get program.funclets k) ≡ Some name
      → by_parent f.function f.parent ≡ name
  parent_is name other k f there e = same_name (by_parent f.function f.parent) name
      (sym (ap parent_body there) ∙ e)

  module _ (s : State) (k argument : ℕ) (handler : Handler) (rest : List Handler)
      (exception : Exception) (resumption : Resumption) (c : Configuration) (acts : List Activation)
      (a : Arrives t fs program p s k handler.activation argument
      (Searches exception resumption (FilterOf handler rest) ∷ Waits c.frame ∷ c.below) acts
      (host_list p c.store))
      (points : register s.cpu Rcx ≡ register s.cpu Rsp + 88) (asked : handler.filter ≡ Some k)
      (memory : IsMachineMemory setting s.memory c.store.memory)
      (stored : c.store.activations ≡ locals_of acts)
      (shallow : nat_lt 1000 (length c.store.activations + c.frame.held + 2) ≡ false)
      (typed : IsKnown program (begin_filter k handler rest exception resumption c)) where
    abbrev items : List Item
    items = Searches exception resumption (FilterOf handler rest) ∷ Waits c.frame ∷ c.below

    abbrev w : ArrivesBelow t fs program p s k handler.activation argument items acts
    w = arrives_below t fs program p s k handler.activation argument items acts
        (host_list p c.store)
        a tt

    abbrev known : IsFilterOfSome program k
    known = filter_of_some program handler k (Waits c.frame ∷ c.below) asked typed.stacked.below.0.0

    abbrev f : LinearFunclet
    f = known.funclet.funclet

    abbrev l : IsPlanned setting k
    l = funclet_planned setting k f known.funclet.there

    abbrev y : Layout
    y = p.layout (FuncletBody k)

    kind_is : f.kind ≡ funclets.Filter
    kind_is = is_filter program f.kind known.funclet.fits

    parent : by_parent f.function f.parent ≡ a.name
    parent = parent_is a.name a.name k f known.funclet.there a.funclet.parent

    owner : owner_of program (parent_of f.function f.parent) ≡ Some f.function
    owner = subst (λ n. owner_of program n ≡ Some f.function) (sym known.funclet.parent)
        known.funclet.owner

    leads : LeadsBy s.memory (parent_base p f.parent) (register s.cpu Rdx) a.reaches.base
    leads = leads_by setting s.memory f f.parent a.name (register s.cpu Rdx) a.reaches.base parent
        owner a.reaches.leads

    depth_is : length c.store.activations ≡ length acts
    depth_is = ap length stored ∙ locals_count acts

    some : 0 < length f.body.code
    some = has_first program (FuncletBody k) f.body typed.continues.instruction
        (ap funclet_body known.funclet.there) typed.continues.at

    few : length acts + c.frame.held + 2 ≤ 1000
    few = let n = shallow_is (length c.store.activations + c.frame.held + 2) shallow in
        let e = depth_is in omega arith

    record_space : HasRecordSpace t fs program p a.at (length acts + c.frame.held)
    record_space = search_space t fs program p s.memory (context_below a.back a.at []) a.is
        exception resumption (FilterOf handler rest) c.frame c.below acts (a.on []).is_there.linked

    abbrev e : HasEntered setting s k l a.reaches.base
    e = entered setting s k argument handler.activation items acts l w c.store.memory memory
        (length acts + c.frame.held) record_space.space few some leads

    -- its prologue
    abbrev from : ℕ
    from = p.funclet k

    abbrev to : ℕ
    to = begun setting k l

    -- the address of the EXCEPTION_POINTERS
    abbrev x : ℕ
    x = register s.cpu Rcx

    x_small : x < 2 ^ 64
    x_small = let h = e.top in let z = e.sp_is in let r = points in omega arith

    fits_slots : y.pointers + 8 ≤ y.slots
    fits_slots = let g = l.plan.layout.pointers in let z = l.plan.layout.kept in
        let r = l.plan.layout.temporaries in omega arith

    fits : y.pointers + 8 ≤ y.frame
    fits = let g = fits_slots in let w = l.plan.layout.within in omega arith

    cell : HasCell e.after.memory (e.sp + y.pointers)
    cell =
        let h = e.top in
        let lo = e.low in
        let g = fits in
        record {
          high = omega arith;
          writable = λ b r z. stack_writable setting s.memory e.after.memory c.store.memory e.sp
              (e.sp + y.frame) e.within e.low (omega arith) memory b (omega arith) (omega arith);
        }

    abbrev last : List Instr
    last = keep_register Rcx y.pointers ∷ []

    code_here : HasCode e.after.memory e.rip last
    code_here = subst (λ z. HasCode e.after.memory e.rip (keep_argument y z)) kind_is e.code

    abbrev keeps : Reached 1 e.after (kept_at e.after (e.sp + y.pointers) x) e.rip
        (e.rip + sizes last) e.flags
    keeps = pointers_kept e.after e.sp y.pointers x e.rip e.flags e.at e.rcx x_small
        (let g = fits in let z = l.plan.layout.small in omega arith) cell code_here

    abbrev u : State
    u = machine (kept_at e.after (e.sp + y.pointers) x) (e.rip + sizes last) keeps.left

    run : Enters from to (e.turns + 1) s u
    run = enters_then from to e.turns 1 s (machine e.after e.rip e.flags) u e.comes keeps.comes

    stack_here : register u.cpu Rsp ≡ e.sp
    stack_here = e.at

    rip_here : u.cpu.rip ≡ p.address (FuncletBody k) 0
    rip_here = subst (λ z. e.rip + sizes (keep_argument y z) ≡ p.address (FuncletBody k) 0) kind_is
        e.place

    well_formed_here : IsWellFormed (host_list p c.store) u
    well_formed_here = stays_well_formed s u (enters_keeps from to (e.turns + 1) s u run)
        (let z = rip_here in let r = first_small setting k l in omega arith) a.well_formed

    beside : Within (e.sp + y.pointers) (e.sp + y.pointers + 8) e.after.memory u.memory
    beside = let h = cell.high in
        within_cell e.after.memory (e.sp + y.pointers) (e.sp + y.pointers + 8) (e.sp + y.pointers) x
        (omega arith) (omega arith) (omega arith)

    within_here : Within e.sp (e.sp + y.frame) s.memory u.memory
    within_here =
        let h = cell.high in
        let g = fits in
        within_then e.sp (e.sp + y.frame) s.memory e.after.memory u.memory e.within
        (within_cell e.after.memory e.sp (e.sp + y.frame) (e.sp + y.pointers) x (omega arith)
        (omega arith) (omega arith))

    base_here : number_at u.memory.byte 8 (e.sp + l.plan.layout.slot) ≡ a.reaches.base
    base_here =
        let h = e.top in
        let g = l.plan.layout.pointers in
        let z = fits in
        same_number u.memory.byte e.after.memory.byte 8 (e.sp + l.plan.layout.slot) (omega arith)
        (λ b lo hi. beside.byte b (inl (omega arith))) ∙ e.number

    pointers_here : word u.memory (e.sp + y.pointers) ≡ Ok (e.sp + y.frame + 88)
    pointers_here =
        let h = e.top in
        let g = fits in
        let z = cell.high in
        let same : x ≡ e.sp + y.frame + 88 = points ∙ ap (λ n. n + 88) e.sp_is in
        word_within setting s.memory u.memory c.store.memory e.sp (e.sp + y.frame) within_here e.low
        (omega arith) memory (e.sp + y.pointers) (e.sp + y.frame + 88) (omega arith) (omega arith)
        (cell_number e.after (e.sp + y.pointers) x (omega arith) x_small ∙ same)

    -- all of it keeps the shadow
    low_enough : STACK_START ≤ register s.cpu Rsp
    low_enough = let lo = e.low in let z = e.sp_is in omega arith

    high_enough : w.at ≤ STACK_END
    high_enough = let hi = e.top in let z = e.sp_is in let n = w.stack in omega arith

    abbrev base : List Instr
    base = base_code setting s k handler.activation argument items acts l w c.store.memory memory
        some low_enough high_enough (register s.cpu Rdx) a.reaches.base leads

    entry_run : EntryRan t fs program p q image (FuncletBody k) f.body (ap funclet_body l.there)
        some (register s.cpu Rsp) (register s.cpu Rsp + 8) w.back (others_of s.cpu.registers) w.is
        (e.turns + 1) s u (base ++ last)
    entry_run =
        let small = l.plan.layout.small in
        let whole = arguments_are setting s k handler.activation argument items acts l w
        c.store.memory memory some low_enough high_enough (register s.cpu Rdx) a.reaches.base
        leads in
        let plain = base_is_plain setting s k handler.activation argument items acts l w
        c.store.memory memory some low_enough high_enough (register s.cpu Rdx) a.reaches.base
        leads in
        let count : e.turns + 1 ≡ prologue_turns (plan setting k l) + length (base ++ last) = omega
        (arith, e.exact, length-append base last) in
        let parts = whole ∙ ap (λ x. base ++ keep_argument y x) kind_is
        ∙ sym (append-nil (base ++ last)) in
        funclet_ran setting s k handler.activation argument items acts l w c.store.memory memory
        some low_enough high_enough (register s.cpu Rdx) a.reaches.base leads (e.turns + 1) u
        (base ++ last) [] parts count (enters_steps from to (e.turns + 1) s u run)
        (plain_both y.slots y.frame 8 base last plain (
          kept_plain y.slots y.frame 8 Rcx y.pointers (let g = fits in omega arith)
              (inl fits_slots),
          tt,
        ))

    frame_here : HasFrame setting s u k argument handler.activation items acts l w
    frame_here = record {
      stack = subst (λ r. register s.cpu Rsp ≡ r + y.frame) (sym stack_here) e.sp_is;
      low = subst (λ r. STACK_START ≤ r) (sym stack_here) e.low;
      within = subst (λ r. Within r (r + y.frame) s.memory u.memory) (sym stack_here) within_here;
      number = subst (λ r. number_at u.memory.byte 8 (r + l.plan.layout.slot) ≡ a.reaches.base)
          (sym stack_here) base_here;
      distance = subst (IsActivation acts handler.activation a.reaches.base y.locals)
          (parent_registers setting k f f.parent a.name known.funclet.there parent owner)
          (subst (λ d. IsActivation acts handler.activation a.reaches.base d (p.register a.name))
          (parent_locals setting k f f.parent a.name known.funclet.there parent owner)
          a.reaches.activation);
      frame = (let r = entry_run.beneath in
          frame_from setting (FuncletBody k) f.body (ap funclet_body l.there) u r.size w.back
          (others_of s.cpu.registers) r.owed);
      rip = rip_here;
      well_formed = well_formed_here;
    }

    space_here : HasSpace e.sp below_end (length acts + (c.frame.held + 2))
    space_here =
        let g = record_space.space in
        let z = e.sp_is in
        let n = a.stack in
        let r = l.plan.layout.small in
        let m = few in
        record { space = omega arith; shallow = omega arith }

    represents_here : RepresentsAt setting u (begin_filter k handler rest exception resumption c)
    represents_here =
        let h = e.top in
        let z = e.sp_is in
        let n = a.stack in
        begins setting s u k argument handler.activation items acts l w frame_here exception
        (c.frame.held + 2) c.store (begin_filter k handler rest exception resumption c).events
        memory stored refl (omega arith) some
        (subst (λ r. HasSpace r below_end (length acts + (c.frame.held + 2))) (sym stack_here)
        space_here)
        (kind_is, (asked, refl))
        (subst (λ r. KeepsPointers t fs program p u.memory y r y.frame) (sym stack_here)
        (record { room = fits; kept = pointers_here }))

    pub filter_leads : LeadsTo t fs entry_turns (RepresentsAt setting) s
        (begin_filter k handler rest exception resumption c)
    filter_leads = record {
      turns = e.turns + 1;
      few = (let z = e.few in omega arith);
      state = u;
      comes = enters_silently t fs program p q image from to
          (none_inside t fs program p q image (FuncletBody k) f.body (ap funclet_body l.there))
          (e.turns + 1) s u run entry_run.keeps
          memory.code (silent_there setting k l u rip_here some);
      is_there = represents_here;
    }

pub filters_begin : (t : Functions) (fs : List Funclet) (program : LinearProgram) (p : ImagePlan)
    (q : Sites) → IsProgramImage t fs program p q → FiltersBegin t fs program p q
filters_begin t fs program p q image s k argument handler rest exception resumption c acts a points
    asked memory stored shallow typed =
    filter_leads (setting_of t fs program p q image) s k argument handler rest exception resumption
    c acts a
    points asked memory stored shallow typed
