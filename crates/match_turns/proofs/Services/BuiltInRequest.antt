-- A built-in function is called: the service is reached, and what it saves of the body is on top of
-- the list.
use Rattle.std.proofs.Common.{◌≡◌, ℕ, ◌+◌, ◌-◌, ◌%◌, ◌^◌, ◌<◌, ◌≤◌, Some, List, [], ◌∷◌, Ok, refl, sym, ap, subst, ◌∙◌, arith, length-set}
use Rattle.std.specs.Prelude.{◌==◌, false, slice_get, take}
use Rattle.match_turns.specs.Words.{kept_of, W64, loaded, IMAGE_BASE, IMAGE_RANGE_END, STACK_START, STACK_END, address_of, Rsp, Instr, opcode_register, Cpu, Flags, State, register, BuiltIn, Put, Protect, RaiseException, Walk, AddVectored, RemoveVectored, Temporary, BodyState, LinearBody, Configuration, body_of, regions_of, waiting, instruction_at, Layout, size, sizes, put_back, keep, temporary_at, call, IsNear, return_at, begin_call, clear_result, template, template_size, MachineView, machine, pushed, HasCode, InCode, KeepsAbove, IsWellFormed, IsLive, Comes, links_of, host_service_of, CallsBuiltIn, IsWellMade, IsKnown, Setting, InBody, IsMachineMemory, IsResumed, RepresentsAt, arguments_code, host_list}
use Rattle.x64_templates.specs.Runs.{Reaches}
use Rattle.linear_code.specs.declared.instruction.Instruction.TheVariants as instructions
use Rattle.match_turns.proofs.Services.BuiltInRun.{thunk_turns, named, service_reaches}
use Rattle.match_turns.proofs.Lemmas.{sizes_append, call_size, template_sizes, set_small, template_some, reaches_then, reaches_silently, program_reaches, counted_here, code_at, reaches_keeps, stays_well_formed, frame, slots, v, same_state, template_here, has_slots, label_near, end_near, code_end, sp_is, IsCounted, sp_low, frame_top, room_here, holds_here, others_of}
use Rattle.match_turns.proofs.Functions.FunctionFrame.{same_itself}
use Rattle.match_turns.proofs.Calls.CallResult.{caller_framed}
use Rattle.match_turns.proofs.Services.BuiltInCall.{with_arguments_of, ThunkReached, thunk_reached}
use Rattle.match_turns.proofs.Services.BuiltInShadow.{calls_it, built_in_keeps}
use Rattle.match_turns.proofs.Services.HostRequest.{Asks, asks_host}
use Rattle.match_turns.proofs.Dispatches.DispatchMemory.{memory_untouched}
use Rattle.match_turns.proofs.Calls.ReturnAddressPush as pushing
use Rattle.match_turns.proofs.Services.HostPage.{host_silent}
use Rattle.match_turns.proofs.Bodies.BodySavedState.{first_words, in_body}

-- the services are in the host's page
service_low : (f : BuiltIn) → (1 ≤ address_of (host_service_of f))
    × (address_of (host_service_of f) < 0x100000000)
service_low Put = (omega arith, omega arith)
service_low Protect = (omega arith, omega arith)
service_low RaiseException = (omega arith, omega arith)
service_low Walk = (omega arith, omega arith)
service_low (AddVectored f) = (omega arith, omega arith)
service_low (RemoveVectored f) = (omega arith, omega arith)

service_live : (f : BuiltIn) → (address_of (host_service_of f) == 0) ≡ false
service_live Put = refl
service_live Protect = refl
service_live RaiseException = refl
service_live Walk = refl
service_live (AddVectored f) = refl
service_live (RemoveVectored f) = refl

pub clear_size : size clear_result ≡ 5
unfolding size opcode_register
clear_size = refl

keep_some : (y : Layout) (first : ℕ) → 1 ≤ sizes (keep y (Temporary first))
unfolding template_size
keep_some y first = template_some y (instructions.Landing (Temporary first))

module _ (setting : Setting) (made : IsWellMade setting.program setting.plan) where
  open setting use {functions as t, funclets as fs, program, plan as p, sites as q, image}

  module _ (s : State) (c : Configuration) (b : RepresentsAt setting s c)
      (known : IsKnown program c) (f : BuiltIn) (first : ℕ)
      (at : instruction_at program c ≡ Some (instructions.CallBuiltIn f first)) where
    abbrev counted : IsCounted setting c
    counted = counted_here setting made c known

    abbrev body : LinearBody
    body = b.body.slots.code

    abbrev y : Layout
    y = p.layout c.frame.body

    abbrev sp : ℕ
    sp = register s.cpu Rsp

    abbrev place : ℕ
    place = p.address c.frame.body c.frame.next

    -- where the call returns to
    abbrev pub back : ℕ
    back = return_at y first (place + 5)

    abbrev service : ℕ
    service = address_of (host_service_of f)

    abbrev view : MachineView
    view = v setting made.room s c b counted

    abbrev pub numbers : BodyState
    numbers = slots setting made.room s c b counted

    pub here : slice_get body.code c.frame.next ≡ Some (instructions.CallBuiltIn f first)
    here = code_at setting made s c b known (instructions.CallBuiltIn f first) at

    abbrev called_here : CallsBuiltIn program f
    called_here = calls_it setting made.room s c b f first here

    pub room : first + 4 ≤ body.temporaries
    room = has_slots setting made.room s c b counted (instructions.CallBuiltIn f first) here

    low : STACK_START + 196568 ≤ sp
    low = sp_low setting s c b counted

    top : sp + y.frame + 8 ≤ STACK_END
    top = frame_top setting s c b counted

    -- ---- the return address

    abbrev pub done : List Instr
    done = clear_result ∷ begin_call y first (place + 5) (q.thunk f)

    pub back_is : back ≡ place + sizes done
    back_is =
        let n = clear_size in
        let five = call_size back (q.thunk f) in
        omega (arith, sizes_append (arguments_code y first) (call back (q.thunk f) ∷ []))

    back_inside : (place ≤ back)
        × (back < place + template_size y (instructions.CallBuiltIn f first))
    back_inside =
        let z = template_sizes (links_of p q c.frame.body) y place
        (instructions.CallBuiltIn f first) in
        let k = keep_some y first in
        let e = back_is in
        (omega arith, omega (arith, z, b.rip, k, sizes_append done (keep y (Temporary first))))

    in_code : InCode p c.frame.body c.frame.next back
    in_code =
        let e = code_end setting made.room s c b counted (instructions.CallBuiltIn f first) here in
        let h = back_inside.1 in
        record { low = back_inside.0; high = omega (arith, b.rip) }

    back_near : (IMAGE_BASE < back) × (back < IMAGE_RANGE_END)
    back_near =
        let n = (label_near setting c.frame.body body b.body.slots.body c.frame.next).0 in
        let e = end_near setting c.frame.body body b.body.slots.body c.frame.next
        (instructions.CallBuiltIn f first) here in
        let r = back_inside.1 in
        let l = back_inside.0 in
        let at = b.rip in
        (omega arith, omega arith)

    near : IsNear back (q.thunk f)
    near =
        let n = back_near in
        let l = n.0 in
        let h = n.1 in
        let has = b.memory.code.built_in f called_here in
        let a = has.inside.low in
        let z = has.inside.high in
        (omega arith, omega arith, omega arith, omega arith)

    resumed : IsResumed setting c.frame.body body c.frame.next back
    resumed = record {
      instruction = instructions.CallBuiltIn f first;
      there = here;
      continues = λ r. absurd r;
      done = done;
      item = put_back Rsp (temporary_at y first);
      left = [];
      parts = refl;
      here = back_is;
    }

    -- ---- the run to the service

    same : s ≡ machine view place s.cpu.flags
    same = same_state setting made.room s c b counted ∙ ap (λ a. machine view a s.cpu.flags) b.rip

    code_here : HasCode s.memory place (template (links_of p q c.frame.body) y place
        (instructions.CallBuiltIn f first))
    code_here =
        subst (λ a. HasCode s.memory a (template (links_of p q c.frame.body) y a
        (instructions.CallBuiltIn f first))) b.rip
        (template_here setting made.room s c b counted (instructions.CallBuiltIn f first) here)

    begun : ThunkReached (frame setting made.room s c b counted) first view place (q.thunk f)
        s.cpu.flags numbers
    begun =
        thunk_reached (frame setting made.room s c b counted) first view place (q.thunk f)
        s.cpu.flags numbers (room_here setting s c b counted) room
        (sp_is setting made.room s c b counted) (holds_here setting s c b counted)
        (let l = low in let h = top in pushing.below view sp back (omega arith) (omega arith)
        b.memory.data_alone b.memory.stack)
        near code_here

    -- with the arguments in their registers, and with what a stub puts there
    abbrev passed : MachineView
    passed = with_arguments_of view numbers first

    abbrev pub given : MachineView
    given = named p f passed

    pub flags_there : Flags
    flags_there = begun.flags

    -- at the stub or the thunk
    abbrev at_thunk : State
    at_thunk = machine (pushed passed sp back) (q.thunk f) flags_there

    reaches_thunk : Reaches 6 s at_thunk
    unfolding flags_there
    reaches_thunk = subst (λ x. Reaches 6 x at_thunk) (sym same) begun.comes

    abbrev pub state : State
    state = machine (pushed given sp back) service flags_there

    pub reaches : Reaches (6 + thunk_turns f) s state
    reaches = reaches_then 6 (thunk_turns f) s at_thunk state reaches_thunk
        (service_reaches setting f (pushed passed sp back) flags_there
        ((program_reaches t fs program p q 6 s at_thunk reaches_thunk b.memory.code).built_in f
        called_here))

    pub comes : Comes t fs (6 + thunk_turns f) s [] state
    comes = reaches_silently t fs program p q image (6 + thunk_turns f) s state reaches
        (built_in_keeps setting made.room s c b counted f first here (pushed passed sp back)
        flags_there reaches_thunk near)
        b.memory.code (host_silent setting s.memory service state.cpu b.memory.code
        (service_low f).1)

    pub live : IsLive state
    live = service_live f

    pub well_formed : IsWellFormed (host_list p c.store) state
    well_formed = let l = (service_low f).1 in stays_well_formed s state
        (reaches_keeps (6 + thunk_turns f) s state reaches)
        (omega arith) b.well_formed

    -- ---- the return

    pub low_enough : STACK_START + 8 ≤ sp
    low_enough = let l = low in omega arith

    pub high_enough : sp ≤ STACK_END
    high_enough = let h = top in omega arith

    pub back_small : back < 2 ^ 64
    back_small = let n = back_near.1 in omega arith

    -- the state that the service continues from, and that it may save
    abbrev pub saved : Cpu
    saved = pushing.saved given sp back low_enough high_enough b.memory.data_alone b.memory.stack
        service flags_there back_small

    pub returns : loaded state.memory (register state.cpu Rsp) W64 ≡ Ok back
    returns = pushing.returns_there given sp back low_enough high_enough b.memory.data_alone
        b.memory.stack service flags_there back_small

    pub sp_there : register state.cpu Rsp ≡ sp - 8
    sp_there = pushing.sp_there given sp back low_enough high_enough b.memory.data_alone
        b.memory.stack service flags_there back_small

    pub sp_saved : register saved Rsp ≡ sp
    sp_saved = pushing.sp_saved given sp back low_enough high_enough b.memory.data_alone
        b.memory.stack service flags_there back_small

    registers_saved : kept_of saved.registers ≡ kept_of s.cpu.registers
    registers_saved = ap (λ x. x ∷ others_of s.cpu.registers) sp_saved

    pub well_formed_saved : IsWellFormed (host_list p c.store) (record state { cpu = saved })
    well_formed_saved =
        let raised = (register state.cpu Rsp + 8) % 2 ^ 64 % 2 ^ 64 in
        record {
          rip_small = back_small;
          count = length-set state.cpu.registers 4 raised ∙ well_formed.count;
          small = set_small state.cpu.registers 4 raised well_formed.small (omega arith);
          listed = well_formed.listed;
        }

    -- ---- memory, and the list

    pub memory : IsMachineMemory setting state.memory c.store.memory
    memory =
        memory_untouched t fs program p q s.memory state.memory c.store.memory
        (pushing.pushed_untouched given sp back low_enough high_enough b.memory.data_alone
        b.memory.stack) b.memory
        (pushing.pushed_data given sp back low_enough high_enough b.memory.data_alone
        b.memory.stack)

    abbrev at_return : InBody setting (record s { cpu = saved }) (waiting c first)
    at_return =
        in_body t fs program p q s c b saved c.frame.next (take first c.frame.temporaries)
        registers_saved
        in_code
        (same_itself (regions_of (body_of program c.frame.body)) c.frame.next) back_small
        (first_words s.memory c.frame.temporaries first)
        (caller_framed setting made c.frame.body body c.frame.next
        (instructions.CallBuiltIn f first) b.body.slots.body here refl)

    pub asks : Asks setting state (record s { cpu = saved })
        (pushing.bytes given sp back low_enough high_enough b.memory.data_alone b.memory.stack)
        (waiting c first) b.body.acts
    asks =
        asks_host setting state (record s { cpu = saved })
        (pushing.bytes given sp back low_enough high_enough b.memory.data_alone b.memory.stack)
        (waiting c first) c.frame.next c.store.memory
        at_return resumed b.memory.code
        (subst (KeepsAbove s.memory (pushing.bytes given sp back low_enough high_enough
        b.memory.data_alone b.memory.stack)) (sym sp_saved)
        (pushing.keeps_above given sp back low_enough high_enough b.memory.data_alone
        b.memory.stack))
        memory well_formed well_formed_saved
