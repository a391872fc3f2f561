-- A body calls a service: the service is reached, with the arguments in RCX and RDX.
use Rattle.std.proofs.Common.{◌≡◌, ℕ, ◌+◌, ◌^◌, ◌<◌, ◌≤◌, [], ◌∷◌, Some, Ok, refl, sym, subst, arith}
use Rattle.std.specs.Prelude.{slice_get}
use Rattle.std.proofs.lemmas.Bool.{ne_eqb}
use Rattle.match_turns.specs.Words.{opcode_register, IMAGE_BASE, IMAGE_RANGE_END, STACK_START, STACK_END, address_of, W64, loaded, Rsp, Flags, State, register, BuiltIn, Put, Protect, RaiseException, Walk, AddVectored, RemoveVectored, Temporary, BodyState, Configuration, Layout, size, sizes, keep, IsNear, call, return_at, begin_call, call_code, clear_result, template_size, MachineView, machine, pushed, HasCode, IsLive, Comes, HaveRoom, host_service_of, CallsBuiltIn, Setting, RepresentsAt, arguments_code}
use Rattle.x64_templates.specs.Runs.{Reaches}
use Rattle.linear_code.specs.declared.instruction.Instruction.TheVariants as instructions
use Rattle.match_turns.proofs.Services.BuiltInRun.{thunk_turns, named, service_reaches}
use Rattle.match_turns.proofs.Lemmas.{sizes_append, call_size, call_code_size, code_split, reaches_then, reaches_silently, program_reaches, IsCounted, room_here, holds_here, sp_low, frame_top, frame, slots, v, sp_is, same_state, has_slots, template_here, next_address, label_near, end_near}
use Rattle.match_turns.proofs.Services.BuiltInCall.{ThunkReached, with_arguments_of, thunk_reached}
use Rattle.match_turns.proofs.Services.BuiltInShadow.{calls_it, built_in_keeps}
use Rattle.match_turns.proofs.Services.HostPage.{host_silent}
use Rattle.match_turns.proofs.Calls.ReturnAddressPush.{below, returns_there}

clear_size : size clear_result ≡ 5
unfolding size opcode_register
clear_size = refl

service_low : (f : BuiltIn) → (0 < address_of (host_service_of f))
    × (address_of (host_service_of f) < 0x100000000)
service_low Put = (omega arith, omega arith)
service_low Protect = (omega arith, omega arith)
service_low RaiseException = (omega arith, omega arith)
service_low Walk = (omega arith, omega arith)
service_low (AddVectored f) = (omega arith, omega arith)
service_low (RemoveVectored f) = (omega arith, omega arith)

built_in_size : (y : Layout) (f : BuiltIn) (first : ℕ)
    → template_size y (instructions.CallBuiltIn f first)
    ≡ 5 + (sizes (arguments_code y first) + 5 + sizes (keep y (Temporary first)))
unfolding template_size
built_in_size y f first = let a = call_code_size y (Temporary first) first 5 0 in
    let b = clear_size in omega arith

module _ (setting : Setting) (roomy : HaveRoom setting.program) where
  open setting use {functions as t, funclets as fs, program, plan as p, sites as q, image}

  module _ (s : State) (c : Configuration) (b : RepresentsAt setting s c)
      (counted : IsCounted setting c) (f : BuiltIn) (first : ℕ)
      (at : slice_get b.body.slots.code.code c.frame.next ≡ Some (instructions.CallBuiltIn f first))
    where
      abbrev called_here : CallsBuiltIn program f
      called_here = calls_it setting roomy s c b f first at

      abbrev pub layout : Layout
      layout = p.layout c.frame.body

      abbrev pub sp : ℕ
      sp = register s.cpu Rsp

      abbrev pub view : MachineView
      view = v setting roomy s c b counted

      abbrev pub numbers : BodyState
      numbers = slots setting roomy s c b counted

      -- where the service returns to
      abbrev pub back : ℕ
      back = return_at layout first (s.cpu.rip + 5)

      abbrev pub service : ℕ
      service = address_of (host_service_of f)

      pub low : STACK_START + 196568 ≤ sp
      low = sp_low setting s c b counted

      pub top : sp ≤ STACK_END
      top = let h = frame_top setting s c b counted in omega arith

      -- with the arguments in their registers, and with what a stub puts there
      abbrev passed : MachineView
      passed = with_arguments_of view numbers first

      abbrev pub given : MachineView
      given = named p f passed

      -- the next instruction begins after the result is kept
      pub next_is : p.address c.frame.body (c.frame.next + 1)
          ≡ back + sizes (keep layout (Temporary first))
      next_is =
          let n = next_address setting roomy s c b counted
          (instructions.CallBuiltIn f first) at refl in
          let z = built_in_size layout f first in
          omega arith

      pub back_near : (IMAGE_BASE < back) × (back < IMAGE_RANGE_END)
      back_near =
          let code = b.body.slots.code in
          let low = (label_near setting c.frame.body code b.body.slots.body c.frame.next).0 in
          let high = end_near setting c.frame.body code b.body.slots.body c.frame.next
          (instructions.CallBuiltIn f first) at in
          let z = built_in_size layout f first in
          let e = b.rip in
          (omega arith, omega arith)

      near : IsNear back (q.thunk f)
      near =
          let n = back_near in
          let l = n.0 in
          let h = n.1 in
          let has = b.memory.code.built_in f called_here in
          let k = has.inside.low in
          let z = has.inside.high in
          (omega arith, omega arith, omega arith, omega arith)

      begun : ThunkReached (frame setting roomy s c b counted) first view s.cpu.rip (q.thunk f)
          s.cpu.flags numbers
      begun =
          thunk_reached (frame setting roomy s c b counted) first view s.cpu.rip (q.thunk f)
          s.cpu.flags numbers (room_here setting s c b counted)
          (has_slots setting roomy s c b counted (instructions.CallBuiltIn f first) at)
          (sp_is setting roomy s c b counted) (holds_here setting s c b counted)
          (below view sp back (let l = low in omega arith) top b.memory.data_alone b.memory.stack)
          near
          (template_here setting roomy s c b counted (instructions.CallBuiltIn f first) at)

      pub flags_there : Flags
      flags_there = begun.flags

      -- at the stub or the thunk
      abbrev at_thunk : State
      at_thunk = machine (pushed passed sp back) (q.thunk f) flags_there

      reaches_thunk : Reaches 6 s at_thunk
      unfolding flags_there
      reaches_thunk = subst (λ x. Reaches 6 x at_thunk)
          (sym (same_state setting roomy s c b counted)) begun.comes

      -- at the service
      abbrev pub at_service : State
      at_service = machine (pushed given sp back) service flags_there

      pub reaches : Reaches (6 + thunk_turns f) s at_service
      reaches = reaches_then 6 (thunk_turns f) s at_thunk at_service reaches_thunk
          (service_reaches setting f (pushed passed sp back) flags_there
          ((program_reaches t fs program p q 6 s at_thunk reaches_thunk b.memory.code).built_in f
          called_here))

      pub comes_there : Comes t fs (6 + thunk_turns f) s [] at_service
      comes_there = reaches_silently t fs program p q image (6 + thunk_turns f) s at_service reaches
          (built_in_keeps setting roomy s c b counted f first at (pushed passed sp back) flags_there
          reaches_thunk
          (subst (λ r. IsNear (return_at layout first (r + 5)) (q.thunk f)) b.rip near))
          b.memory.code
          (host_silent setting s.memory service at_service.cpu b.memory.code (service_low f).1)

      pub live_there : IsLive at_service
      live_there = let l = (service_low f).0 in ne_eqb service 0 (λ e. absurd (omega arith))

      pub back_small : back < 2 ^ 64
      back_small = let n = back_near.1 in omega arith

      pub returns : loaded at_service.memory (register at_service.cpu Rsp) W64 ≡ Ok back
      returns = returns_there given sp back (let l = low in omega arith) top b.memory.data_alone
          b.memory.stack service flags_there back_small

      -- after the call the result is kept
      pub code_after : HasCode s.memory back (keep layout (Temporary first))
      code_after =
          let whole = template_here setting roomy s c b counted
          (instructions.CallBuiltIn f first) at in
          let parts = code_split s.memory s.cpu.rip (clear_result ∷ [])
          (call_code layout (Temporary first) first (s.cpu.rip + 5) (q.thunk f)) whole in
          let n = clear_size in
          let there : s.cpu.rip + sizes (clear_result ∷ []) ≡ s.cpu.rip + 5 = omega arith in
          let rest = subst (λ a. HasCode s.memory a
          (call_code layout (Temporary first) first (s.cpu.rip + 5) (q.thunk f))) there parts.1 in
          let last = code_split s.memory (s.cpu.rip + 5)
          (begin_call layout first (s.cpu.rip + 5) (q.thunk f)) (keep layout (Temporary first))
          rest in
          let five = call_size back (q.thunk f) in
          let long : s.cpu.rip + 5 + sizes (begin_call layout first (s.cpu.rip + 5) (q.thunk f))
          ≡ back = omega (
            arith,
            sizes_append (arguments_code layout first)
                (call back (q.thunk f) ∷ []),
          ) in
          subst (λ x. HasCode s.memory x (keep layout (Temporary first))) long last.1
