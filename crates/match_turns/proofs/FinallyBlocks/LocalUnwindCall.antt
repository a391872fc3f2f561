-- A local unwind: the host is asked with the body's own frame and the label's address, and saves
-- the state after the call.
use Rattle.std.proofs.Common.{◌≡◌, ℕ, zero, ◌+◌, ◌-◌, ◌%◌, ◌^◌, ◌<◌, ◌≤◌, Bool, true, false, List, [], ◌∷◌, length, Option, Some, None, Ok, refl, sym, ap, subst, ◌∙◌, arith, inl, length-set}
use Rattle.std.specs.Prelude.{slice_get}
use Rattle.std.proofs.lemmas.Option.{slice_get_within}
use Rattle.match_turns.specs.Words.{kept_of, W64, IMAGE_BASE, IMAGE_RANGE_END, STACK_START, STACK_END, address_of, Memory, loaded, Rcx, Rsp, Instr, Context, Cpu, context_of, State, register, Functions, Funclet, arrived, unwound_locally, Local, Instruction, LinearProgram, LinearBody, Frame, Item, Waits, Configuration, body_of, local_unwind, act, instruction_at, exec, Layout, size, sizes, move, IsNear, MachineView, machine, pushed, HasCode, StackItem, Framed, Leaf, ImagePlan, InCode, Activation, SameRegions, Aimed, Linked, AimedHere, KeepsAbove, IsWellFormed, AllKeep, Comes, HasRule, IsMatched, LandsWell, live_from, links_of, turns_left, IsWellMade, IsKnown, KnownNext, turns_per_step, FlagsFit, NoneLanded, Setting, setting_of, InBody, IsMachineMemory, IsResumed, RepresentsAt, Represents, modrm, address_to, local_unwind_code, LocalUnwindsAreMatched, host_list}
use Rattle.x64_templates.specs.Runs.{Reaches}
use Rattle.host_layout.specs.declared.service.Service.TheVariants as services
use Rattle.x64_instr.specs.declared.instruction.Instr.TheVariants as instrs
use Rattle.linear_code.specs.declared.instruction.Instruction.TheVariants as instructions
use Rattle.match_turns.proofs.Lemmas.{address_size, call_size, short, template_sizes, reaches_then, thunk_reaches, pushed_thunk, with_two, local_unwind_begins, set_small, reaches_silently, others_of, StepsTo, reaches_steps, steps_split, keeps_split, AllPlain, calls_keep, CalleeBegins, callee_begins, thunk_keeps, all_front, some_is, counted_here, code_at, reaches_keeps, stays_well_formed, v, same_state, template_here, next_address, sp_is, IsCounted, sp_low, frame_top}
use Rattle.match_turns.proofs.Calls.ReturnAddressPlace.{top_of, begins_beneath}
use Rattle.match_turns.proofs.Calls.CallResult.{caller_framed}
use Rattle.match_bodies.proofs.Places.LabelPlaces as labels
use Rattle.match_turns.proofs.Calls.CallRegions.{apart_same}
use Rattle.match_turns.proofs.Dispatches.DispatchStart.{unwound_to}
use Rattle.match_turns.proofs.Services.HostRequest.{Asks, asks_host}
use Rattle.match_turns.proofs.Dispatches.DispatchMemory.{memory_untouched}
use Rattle.match_turns.proofs.Calls.ReturnAddressPush as pushing
use Rattle.match_turns.proofs.Services.HostPage.{host_silent}
use Rattle.match_turns.proofs.Dispatches.DispatchWalks.{service_walk}
use Rattle.match_turns.proofs.HostTurns.{local_unwind_turns, local_unwind_keeps, matched_when_shown}
use Rattle.match_turns.specs.LocalUnwindPlaces.{AreFollowed, StayInside}
use Rattle.match_turns.proofs.Bodies.WaitingBodies.{none_landed_below}
use Rattle.match_turns.proofs.Bodies.BodySavedState.{in_body}

-- ---- sizes

move_size : size (move W64 Rcx Rsp) ≡ 3
unfolding size modrm
move_size = refl

unwind_size : (at target to : ℕ) → sizes (local_unwind_code at target to) ≡ 15
unwind_size at target to =
    let a = move_size in
    let b = address_size (at + 10) target in
    let c = call_size (at + 15) to in
    omega arith

-- ---- nothing has landed at an instruction that isn't a landing

abbrev is_landing : Instruction → Bool
is_landing (instructions.Landing to) = true
is_landing i = false

nothing_landed : (program : LinearProgram) (c : Configuration) (i : Instruction) (landed : Option ℕ)
    → LandsWell program c.frame.body c.frame.next landed → instruction_at program c ≡ Some i
    → is_landing i ≡ false → landed ≡ None
nothing_landed program c i None h e f = refl
nothing_landed program c i (Some code) h e f =
    let same : instructions.Landing (Local h.0)
    ≡ i = some_is (instructions.Landing (Local h.0)) i (sym h.1 ∙ e) in
    absurd (let x : true ≡ false = ap is_landing same ∙ f in cc)

-- ---- the target, in the first frame of the list

aimed_first : (t : Functions) (fs : List Funclet) (program : LinearProgram) (p : ImagePlan)
    (m : Memory) (c : Context) (is : List StackItem) (b : Frame) (below : List Item)
    (acts : List Activation) (label frame address : ℕ)
    → Linked t fs program p m c is (Waits b ∷ below) acts → p.leaf b.body ≡ false
    → AimedHere t fs program p (length below) label frame address c b below
    → Aimed t fs program p (length below) label frame address c is (Waits b ∷ below)
aimed_first t fs program p m c (Framed f ∷ is) b below acts label frame address l framed here = inl
    here
aimed_first t fs program p m c (Leaf back ∷ is) b below acts label frame address l framed here =
    absurd (let z : true ≡ false = sym l.0.leaf ∙ framed in cc)
aimed_first t fs program p m c is b below acts label frame address l framed here = absurd l

module _ (setting : Setting) (made : IsWellMade setting.program setting.plan)
    (follows : AreFollowed setting.program) (stays : StayInside setting.program)
    (fits : FlagsFit setting.program) where
  open setting use {functions as t, funclets as fs, program, plan as p, sites as q, image}

  module _ (s : State) (c : Configuration) (b : RepresentsAt setting s c)
      (known : IsKnown program c) (label : ℕ)
      (at : instruction_at program c ≡ Some (instructions.LocalUnwind label)) where
    abbrev i : Instruction
    i = instructions.LocalUnwind label

    abbrev counted : IsCounted setting c
    counted = counted_here setting made c known

    abbrev body : LinearBody
    body = b.body.slots.code

    abbrev y : Layout
    y = p.layout c.frame.body

    abbrev sp : ℕ
    sp = register s.cpu Rsp

    abbrev place : ℕ
    place = p.address c.frame.body c.frame.next

    abbrev target : ℕ
    target = p.address c.frame.body label

    abbrev back : ℕ
    back = place + 15

    abbrev service : ℕ
    service = address_of services.LocalUnwind

    abbrev view : MachineView
    view = v setting made.room s c b counted

    here : slice_get body.code c.frame.next ≡ Some i
    here = code_at setting made s c b known i at

    low : STACK_START + 196568 ≤ sp
    low = sp_low setting s c b counted

    top : sp + y.frame + 8 ≤ STACK_END
    top = frame_top setting s c b counted

    low_enough : STACK_START + 8 ≤ sp
    low_enough = let l = low in omega arith

    high_enough : sp ≤ STACK_END
    high_enough = let h = top in omega arith

    framed : p.leaf c.frame.body ≡ false
    framed = caller_framed setting made c.frame.body body c.frame.next i b.body.slots.body here refl

    free : c.frame.landed ≡ None
    free = nothing_landed program c i c.frame.landed known.stacked.landed at refl

    -- ---- the return address, where the separator begins

    separator : slice_get body.code (c.frame.next + 1) ≡ Some instructions.Separator
    separator = follows c.frame.body body b.body.slots.body c.frame.next i here refl

    back_is : p.address c.frame.body (c.frame.next + 1) ≡ back
    back_is =
        let n = next_address setting made.room s c b counted i here refl in
        let z = template_sizes (links_of p q c.frame.body) y place i in
        let k = unwind_size place target q.local_unwind in
        omega (arith, n, z, k, b.rip)

    inside : InCode p c.frame.body (c.frame.next + 1) back
    inside =
        let within = slice_get_within body.code (c.frame.next + 1) instructions.Separator
        separator in
        let r = (image.addresses c.frame.body body b.body.slots.body).rises (c.frame.next + 1)
        within in
        let e = back_is in
        record { low = omega arith; high = omega arith }

    same_regions : SameRegions t fs program p (body_of program c.frame.body) (c.frame.next + 1)
        c.frame.next
    same_regions = apart_same t fs program p made.apart c.frame.body body c.frame.next i
        b.body.slots.body here refl

    label_near : (l : ℕ) → (IMAGE_BASE < p.address c.frame.body l)
        × (p.address c.frame.body l < IMAGE_RANGE_END)
    label_near l = labels.label_near setting c.frame.body body b.body.slots.body l

    near_target : IsNear (place + 10) target
    near_target =
        let a = label_near c.frame.next in
        let a0 = a.0 in
        let z = label_near (c.frame.next + 1) in
        let z1 = z.1 in
        let n = label_near label in
        let n0 = n.0 in
        let n1 = n.1 in
        let e = back_is in
        (omega arith, omega arith, omega arith, omega arith)

    near_thunk : IsNear back q.local_unwind
    near_thunk =
        let a = label_near c.frame.next in
        let a0 = a.0 in
        let z = label_near (c.frame.next + 1) in
        let z1 = z.1 in
        let n0 = b.memory.code.local_unwind.inside.low in
        let n1 = b.memory.code.local_unwind.inside.high in
        let e = back_is in
        (omega arith, omega arith, omega arith, omega arith)

    back_small : back < 2 ^ 64
    back_small = let z = label_near (c.frame.next + 1) in let z1 = z.1 in let e = back_is in
        omega arith

    resumed : IsResumed setting c.frame.body body (c.frame.next + 1) back
    resumed = record {
      instruction = instructions.Separator;
      there = separator;
      continues = λ r. absurd r;
      done = [];
      item = instrs.NoOperation;
      left = [];
      parts = refl;
      here = (let e = back_is in omega arith);
    }

    -- ---- the run to the service

    same : s ≡ machine view place s.cpu.flags
    same = same_state setting made.room s c b counted ∙ ap (λ a. machine view a s.cpu.flags) b.rip

    code_here : HasCode s.memory place (local_unwind_code place target q.local_unwind)
    code_here = subst (λ a. HasCode s.memory a (local_unwind_code a target q.local_unwind)) b.rip
        (template_here setting made.room s c b counted i here)

    -- with its frame and the label's address in RCX and RDX
    abbrev given : MachineView
    given = with_two view sp target

    abbrev state : State
    state = machine (pushed given sp back) service s.cpu.flags

    reaches : Reaches 4 s state
    reaches =
        let below = pushing.below view sp back low_enough high_enough b.memory.data_alone
        b.memory.stack in
        let three = local_unwind_begins view sp place target q.local_unwind s.cpu.flags
        (sp_is setting made.room s c b counted) below near_target near_thunk code_here in
        let last = thunk_reaches (pushed given sp back) q.local_unwind service s.cpu.flags
        (pushed_thunk given sp back q.local_unwind service below
        b.memory.code.local_unwind.thunk) in
        subst (λ x. Reaches 4 x state) (sym same)
        (reaches_then 3 1 (machine view place s.cpu.flags)
        (machine (pushed given sp back) q.local_unwind s.cpu.flags) state three last)

    -- each turn keeps the shadow
    abbrev before : List Instr
    before = move W64 Rcx Rsp ∷ address_to (place + 10) target ∷ []

    plain : AllPlain y.slots y.frame 8 before
    plain = ((refl, inl refl), ((short (place + 10) target near_target, inl refl), tt))

    before_size : place + sizes before + 5 ≡ back
    before_size = let a = move_size in let k = address_size (place + 10) target in omega arith

    halves : (u : State) × StepsTo 3 s u × StepsTo 1 u state
    halves = steps_split 3 1 s state (reaches_steps 4 s state reaches)

    called : CalleeBegins setting c.frame.body body b.body.slots.body c.frame.next i here (λ h. h)
        before [] back q.local_unwind refl before_size near_thunk (c.frame.next + 1) resumed
        (λ m. image.callers_outside.local_unwind m) s halves.0 (top_of setting s c b counted)
        b.body.back b.body.others b.body.is b.rip
        (begins_beneath setting s c b counted) refl (let l = low in omega arith) b.memory.code plain
        halves.1 sp
    called =
        callee_begins setting c.frame.body body b.body.slots.body c.frame.next i here (λ h. h)
        before [] back q.local_unwind refl before_size near_thunk (c.frame.next + 1) resumed
        (λ m. image.callers_outside.local_unwind m) s halves.0 (top_of setting s c b counted)
        b.body.back b.body.others b.body.is b.rip
        (begins_beneath setting s c b counted) refl (let l = low in omega arith) b.memory.code plain
        halves.1 sp (omega arith) (omega arith)

    keeps_shadow : AllKeep t fs 4 s
    keeps_shadow =
        keeps_split t fs 3 1 s halves.0 halves.1
        (calls_keep setting c.frame.body body b.body.slots.body c.frame.next i here (λ h. h) before
        [] back q.local_unwind refl before_size near_thunk (c.frame.next + 1) resumed
        (λ m. image.callers_outside.local_unwind m) s halves.0 (top_of setting s c b counted)
        b.body.back b.body.others b.body.is b.rip
        (begins_beneath setting s c b counted) refl (let l = low in omega arith) b.memory.code plain
        halves.1) (thunk_keeps setting halves.0 state (sp - 8) sp back (others_of s.cpu.registers) _
        called.beneath_it q.local_unwind service called.rip
        called.program_there.local_unwind.thunk halves.2 refl
        (λ m. image.callers_outside.local_unwind m)
        (λ m. image.callers_outside.services m service (omega arith) (omega arith)
        (λ e. absurd (omega arith)) (λ e. absurd (omega arith)) (λ e. absurd (omega arith))))

    comes : Comes t fs 4 s [] state
    comes = reaches_silently t fs program p q image 4 s state reaches keeps_shadow b.memory.code
        (host_silent setting s.memory service state.cpu b.memory.code (omega arith))

    well_formed : IsWellFormed (host_list p c.store) state
    well_formed = stays_well_formed s state (reaches_keeps 4 s state reaches) (omega arith)
        b.well_formed

    -- ---- the state that is saved

    abbrev saved : Cpu
    saved = pushing.saved given sp back low_enough high_enough b.memory.data_alone b.memory.stack
        service s.cpu.flags back_small

    returns : loaded state.memory (register state.cpu Rsp) W64 ≡ Ok back
    returns = pushing.returns_there given sp back low_enough high_enough b.memory.data_alone
        b.memory.stack service s.cpu.flags back_small

    sp_saved : register saved Rsp ≡ sp
    sp_saved = pushing.sp_saved given sp back low_enough high_enough b.memory.data_alone
        b.memory.stack service s.cpu.flags back_small

    sp_there : register state.cpu Rsp ≡ sp - 8
    sp_there = pushing.sp_there given sp back low_enough high_enough b.memory.data_alone
        b.memory.stack service s.cpu.flags back_small

    registers_saved : kept_of saved.registers ≡ kept_of s.cpu.registers
    registers_saved = ap (λ x. x ∷ others_of s.cpu.registers) sp_saved

    well_formed_saved : IsWellFormed (host_list p c.store) (record state { cpu = saved })
    well_formed_saved =
        let raised = (register state.cpu Rsp + 8) % 2 ^ 64 % 2 ^ 64 in
        record {
          rip_small = back_small;
          count = length-set state.cpu.registers 4 raised ∙ well_formed.count;
          small = set_small state.cpu.registers 4 raised well_formed.small (omega arith);
          listed = well_formed.listed;
        }

    memory : IsMachineMemory setting state.memory c.store.memory
    memory =
        memory_untouched t fs program p q s.memory state.memory c.store.memory
        (pushing.pushed_untouched given sp back low_enough high_enough b.memory.data_alone
        b.memory.stack) b.memory
        (pushing.pushed_data given sp back low_enough high_enough b.memory.data_alone
        b.memory.stack)

    abbrev at_return : InBody setting (record s { cpu = saved }) c
    at_return = in_body t fs program p q s c b saved (c.frame.next + 1) c.frame.temporaries
        registers_saved
        (record { low = inside.low; high = inside.high }) same_regions back_small
        (all_front s.memory c.frame.temporaries) framed

    asks : Asks setting state (record s { cpu = saved })
        (pushing.bytes given sp back low_enough high_enough b.memory.data_alone b.memory.stack) c
        b.body.acts
    asks =
        asks_host setting state (record s { cpu = saved })
        (pushing.bytes given sp back low_enough high_enough b.memory.data_alone b.memory.stack) c
        (c.frame.next + 1) c.store.memory
        at_return resumed b.memory.code
        (subst (KeepsAbove s.memory (pushing.bytes given sp back low_enough high_enough
        b.memory.data_alone b.memory.stack)) (sym sp_saved)
        (pushing.keeps_above given sp back low_enough high_enough b.memory.data_alone
        b.memory.stack))
        memory well_formed well_formed_saved

    -- ---- the target is the body's own frame

    aims : AimedHere t fs program p (length c.below) label sp target (context_of saved) c.frame
        c.below
    aims = record {
      at_depth = refl;
      at_frame = sym sp_saved;
      at_address = refl;
      lands = image.lands c.frame.body body label b.body.slots.body
          (stays c.frame.body body b.body.slots.body c.frame.next label here);
    }

    aimed : Aimed t fs program p (length c.below) label sp target (context_of saved) asks.is
        (Waits c.frame ∷ c.below)
    aimed = aimed_first t fs program p state.memory (context_of saved) asks.is c.frame c.below
        b.body.acts label sp target asks.asks.on.is_there.linked framed aims

    unlanded : NoneLanded (Waits c.frame ∷ c.below)
    unlanded = (free, none_landed_below program c.below known.stacked.below)

    pub unwind_step : HasRule (act program i (exec program zero) c) → KnownNext program c i
        → IsMatched t fs program turns_per_step turns_left (Represents setting) s c i
    unwind_step rule after =
        let n = label_near label in
        let n1 = n.1 in
        let h = high_enough in
        let l = low_enough in
        let there = pushing.sp_there given sp back low_enough high_enough b.memory.data_alone
        b.memory.stack service s.cpu.flags back_small in
        let up = sp_saved in
        let walk =
        service_walk setting state service back asks.is refl (omega arith) (omega arith)
        (λ e. absurd (omega arith)) (λ e. absurd (omega arith)) (λ e. absurd (omega arith)) returns
        well_formed.count
        (omega arith) asks.asks.on.is_there.stack in
        let shown = unwound_to setting fits state saved asks.is b.body.acts c
        asks.asks memory b.body.store sp target label (omega arith) (omega arith) aimed rule
        unlanded in
        matched_when_shown t fs program p q 16 4 (turns_left c) s state c i
        (arrived t fs (unwound_locally t state sp target saved)) []
        (λ next. local_unwind program next label c) (live_from (context_of saved) asks.is)
        comes refl (local_unwind_turns t fs state back refl returns)
        (local_unwind_keeps t fs program p q state walk.0 (live_from (context_of saved) asks.is)
        refl (omega arith) walk.1) shown (λ next. refl) (omega arith) after

pub local_unwinds_are_matched : LocalUnwindsAreMatched
local_unwinds_are_matched t fs program p q image made follows stays fits s c label b known at rule
    after =
    unwind_step (setting_of t fs program p q image) made follows stays fits s c b known label at
    rule after
