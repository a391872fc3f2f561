-- A call of a function: the callee's first instruction begins, with its arguments in its first
-- locals and what the stack and the registers held in the others.
use Rattle.std.proofs.Common.{◌≡◌, ℕ, ◌+◌, ◌-◌, ◌*◌, ◌^◌, ◌<◌, ◌≤◌, Bool, true, false, Some, List, [], ◌∷◌, ◌++◌, length, refl, sym, ap, subst, ◌∙◌, arith, inl, inr, length-append, append_assoc}
use Rattle.std.specs.Prelude.{slice_get, drop}
use Rattle.std.proofs.lemmas.Option.{slice_get_within}
use Rattle.std.proofs.lemmas.List.{append-nil, length-drop, length-take}
use Rattle.match_turns.specs.Words.{weight, weight_of, STACK_START, STACK_END, Memory, may_write, Protection, Rsp, Instr, State, register, distance, arrivals, Temporary, LinearBody, FunctionBody, body_of, Waits, Configuration, instruction_in, waiting, Layout, sizes, put_back, keep, temporary_at, IsNear, call, return_at, passing_code, parameters_code, passing_call_code, context_below, home_end, HoldsPlaces, return_of, ReturnsTo, On, AllKeep, Comes, function_arguments, FindsReturn, IsLayoutIf, turns_left, slots_end, KeepsStackBut, begun, FRAME_BY_WEIGHT, Setting, IsMachineMemory, IsResumed, RepresentsAt, arguments_code, IsWellFormed, LocalRegisters, local_registers, number_placed, owed_of, now_of, arrived_in, host_list}
use Rattle.template_code.specs.Places.{place_of}
use Rattle.match_turns.specs.CallOutcome.{turns_per_call}
use Rattle.lowering_invariants.specs.SmallNumbers.{AreSmall}
use Rattle.linear_code.specs.declared.instruction.Instruction.TheVariants as instructions
use Rattle.match_turns.proofs.Lemmas.{sizes_append, call_size, comes_then, others_of, StepsTo, reaches_steps, enters_steps, AllPlain, AllSteady, locals_own, plain_both, arguments_plain, passing_plain, parameters_steady, EntryRan, entry_ran, calls_keep, CalleeBegins, small_others as small_registers, frame_from, reaches_silently, enters_silently, none_inside, program_reaches, locals_count, KeepsImage, Keeps, keeps_then, enters_keeps, stays_well_formed, stack_is_hidden, room_here, slots_here, locals_small, may_read_written, word_of}
use Rattle.match_bodies.specs.Bodies.{HasFrame}
use Rattle.match_bodies.specs.CodeSites as sites
use Rattle.match_bodies.specs.ProgramImages.{frame_of}
use Rattle.match_bodies.proofs.Keeping.CallKeeping.{callee_begins as callee_entered}
use Rattle.match_bodies.proofs.Keeping.MemoryKeeping.{memory_stays}
use Rattle.match_turns.proofs.Calls.ReturnAddressPlace.{top_of, begins_beneath}
use Rattle.match_turns.proofs.Functions.FunctionFrame.{function_begins}
use Rattle.match_turns.proofs.Calls.CallWaitingCaller as awaiting
use Rattle.match_turns.proofs.Calls.CallArguments as calling
use Rattle.match_turns.proofs.Functions.FunctionParameters as entering
use Rattle.match_turns.proofs.Functions.FunctionLocals.{numbers_placed, numbers_count, numbers_small, arguments_then_places}
use Rattle.match_turns.proofs.Functions.FunctionEntry as entries
use Rattle.match_turns.proofs.Calls.AtCall.{AtCall, callee_weight}
use Rattle.match_turns.proofs.Calls.CallActs.{passed_in, got_past}
use Rattle.match_bodies.proofs.Steps.BodyViews.{arrived_small}

module _ {setting : Setting} (at_call : AtCall setting) where
  open setting use {functions as t, funclets as fs, program, plan as p, sites as q, image}
  open at_call use {
    state as s,
    configuration as c,
    represents as b,
    counted,
    number as f,
    first,
    count,
    at,
    few,
    few_passed,
    framed,
    function as fn,
    found as callee,
    parameters,
    fits,
    some,
    shallow,
    held,
    apart,
  }

  abbrev caller : ℕ
  caller = register s.cpu Rsp

  abbrev layout : Layout
  layout = p.layout (FunctionBody f)

  abbrev o : LinearBody
  o = fn.body

  abbrev there : body_of program (FunctionBody f) ≡ Some o
  there = entering.there at_call

  abbrev inside : entering.InCallee at_call
  inside = entries.entered at_call

  abbrev pub after : State
  after = inside.state

  abbrev at_callee : State
  at_callee = entering.at_callee at_call

  -- the callee's prologue
  abbrev from : ℕ
  from = q.function f

  abbrev to : ℕ
  to = from + sites.making_size p q (FunctionBody f)

  abbrev called_in : ℕ
  called_in = length (passing_code (p.layout c.frame.body) first 4 (count - 4)) + 5

  low : STACK_START + 196568 + FRAME_BY_WEIGHT * weight fn ≤ caller
  low = calling.low_callee at_call

  abbrev weighs : ℕ
  weighs = weight_of (slice_get program.functions f)

  top : caller + 40 ≤ STACK_END
  top = let a = calling.room_top at_call in omega arith

  keeps : Keeps s after
  keeps = keeps_then s at_callee after (entering.keeps at_call)
      (enters_keeps from to inside.turns at_callee after inside.comes)

  -- ---- turns

  pub turns : ℕ
  turns = called_in + inside.turns

  rip_small : after.cpu.rip < 2 ^ 64
  rip_small = let a = image.addresses (FunctionBody f) o there in let h = a.inside.high in let r =
      inside.rip in omega arith

  silent_called : arrivals at_callee.cpu (distance t.base at_callee.cpu.rip) 1 fs ≡ []
  silent_called = let a = image.addresses (FunctionBody f) o there in let h = a.inside.high in
      let r = a.first in image.funclets.none (q.function f) (omega arith) apart at_callee.cpu

  silent_after : arrivals after.cpu (distance t.base after.cpu.rip) 1 fs ≡ []
  silent_after = image.funclets.none after.cpu.rip rip_small
      (λ k lt e. (image.addresses (FunctionBody f) o there).not_first 0 k some lt
      (sym inside.rip ∙ e)) after.cpu

  -- each of them keeps the shadow: those up to the call
  abbrev y : Layout
  y = p.layout c.frame.body

  abbrev place : ℕ
  place = p.address c.frame.body c.frame.next

  abbrev passing : List Instr
  passing = passing_code y first 4 (count - 4)

  abbrev next : ℕ
  next = return_at y first (place + sizes passing)

  abbrev call_it : Instr
  call_it = call next (q.function f)

  abbrev before : List Instr
  before = passing ++ arguments_code y first

  abbrev rest : List Instr
  rest = keep y (Temporary first)

  abbrev whole : List Instr
  whole = passing_call_code y first count place (q.function f)

  parts : whole ≡ before ++ (call_it ∷ rest)
  parts = ap (λ (xs : List Instr). passing ++ xs)
      (append_assoc (arguments_code y first) (call_it ∷ []) rest)
      ∙ sym (append_assoc passing (arguments_code y first) (call_it ∷ rest))

  next_is : place + sizes before + 5 ≡ next
  next_is = omega (arith, sizes_append passing (arguments_code y first))

  resumed : IsResumed setting c.frame.body b.body.slots.code c.frame.next next
  resumed = record {
    instruction = instructions.Call f first count;
    there = at;
    continues = λ h. h;
    done = before ++ (call_it ∷ []);
    item = put_back Rsp (temporary_at y first);
    left = [];
    parts = parts ∙ sym (append_assoc before (call_it ∷ []) rest);
    here = let n = next_is in let k = call_size next (q.function f) in omega
        (arith, sizes_append before (call_it ∷ []));
  }

  near_next : IsNear next (q.function f)
  near_next = subst (λ r. IsNear (return_at y first (r + sizes passing)) (q.function f)) b.rip
      (entering.near at_call)

  plain : AllPlain y.slots y.frame 8 before
  plain =
      let h = few_passed in
      let room = (room_here setting s c b counted).temporaries in
      let z = calling.bottom at_call in
      let z0 = z.temporaries in
      let z1 = z.slots in
      let z2 = z.within in
      let z3 = z.small in
      let slots = calling.has_room at_call in
      let s0 = slots.0 in
      let s1 = slots.1 in
      plain_both y.slots y.frame 8 passing (arguments_code y first)
      (passing_plain y.slots y.frame 8 y first 4 (count - 4) (omega arith) (omega arith)
      (omega arith))
      (arguments_plain y.slots y.frame 8 y first (omega arith))

  abbrev callee_found : (m : Memory) → FindsReturn t m (q.function f)
  callee_found m = (image.callers (FunctionBody f) o there).entries m (λ e. some)

  count_call : called_in ≡ length before + 1
  count_call = omega (arith, length-append passing (arguments_code y first))

  steps_there : StepsTo (length before + 1) s at_callee
  steps_there = subst (λ n. StepsTo n s at_callee) count_call
      (reaches_steps called_in s at_callee (entering.calls at_call))

  call_keeps : AllKeep t fs called_in s
  call_keeps =
      subst (λ n. AllKeep t fs n s) (sym count_call)
      (calls_keep setting c.frame.body b.body.slots.code b.body.slots.body c.frame.next
      (instructions.Call f first count) at (λ h. h) before rest next (q.function f) parts next_is
      near_next c.frame.next resumed callee_found s at_callee (top_of setting s c b counted)
      b.body.back b.body.others b.body.is b.rip (begins_beneath setting s c b counted)
      refl (let l = low in omega arith) b.memory.code plain steps_there)

  -- and those of the callee's entry, which may store its arguments in the caller's home space
  callee_there : CalleeBegins setting c.frame.body b.body.slots.code b.body.slots.body c.frame.next
      (instructions.Call f first count) at (λ h. h) before rest next (q.function f) parts next_is
      near_next c.frame.next resumed callee_found s at_callee (top_of setting s c b counted)
      b.body.back b.body.others b.body.is b.rip (begins_beneath setting s c b counted)
      refl (let l = low in omega arith) b.memory.code plain steps_there (caller + 32)
  callee_there =
      let z = calling.bottom at_call in
      let z0 = z.temporaries in
      let z1 = z.slots in
      let z2 = z.within in
      callee_entered setting c.frame.body b.body.slots.code b.body.slots.body c.frame.next
      (instructions.Call f first count) at (λ h. h) before rest next (q.function f) parts next_is
      near_next c.frame.next resumed callee_found s at_callee (top_of setting s c b counted)
      b.body.back b.body.others b.body.is b.rip (begins_beneath setting s c b counted)
      refl (let l = low in omega arith) b.memory.code plain steps_there (caller + 32) (omega arith)
      (omega arith)

  arguments_are : sites.arguments_code program p (FunctionBody f) ≡ parameters_code layout 0 count
  arguments_are = ap (λ x. function_arguments layout x) callee ∙ ap (λ n. parameters_code layout 0
      n) parameters

  arguments_stored : (leaf : Bool) → IsLayoutIf program p weighs layout o leaf
      → AllSteady (owed_of p (FunctionBody f)) layout.slots layout.frame 40
      (parameters_code layout 0 count)
  arguments_stored true l =
      let h = fits in
      let e = l.frame in
      let a = l.locals in
      let n = l.few in
      parameters_steady (owed_of p (FunctionBody f)) layout.slots layout.frame 40 layout 0 count
      (locals_own setting (FunctionBody f) o there) (omega arith) (omega arith)
      (λ j lt. inr (omega arith, omega arith))
  arguments_stored false l =
      let h = fits in
      let a = l.locals in
      let w = l.within in
      let z = l.small in
      let y = l.light in
      parameters_steady (owed_of p (FunctionBody f)) layout.slots layout.frame 40 layout 0 count
      (locals_own setting (FunctionBody f) o there) (omega arith) (omega arith)
      (λ j lt. inl (omega arith))

  abbrev HasPlan : Bool → Type 0
  HasPlan leaf = IsLayoutIf program p weighs layout o leaf

  planned : HasPlan (p.leaf (FunctionBody f))
  planned = image.laid_out (FunctionBody f) o there

  frame_small : (leaf : Bool) → HasPlan leaf → layout.frame + 8 ≤ FRAME_BY_WEIGHT * weight fn
  frame_small true l = let e = l.frame in omega arith
  frame_small false l = let z = l.small in let e = callee_weight at_call in omega arith

  entry_run : EntryRan t fs program p q image (FunctionBody f) o there some (caller - 8)
      (caller + 32) next (others_of s.cpu.registers) (callee_there.item ∷ b.body.is) inside.turns
      at_callee after (sites.arguments_code program p (FunctionBody f))
  entry_run =
      let k = callee_there in
      let stored = arguments_stored (p.leaf (FunctionBody f)) (image.laid_out (FunctionBody f) o
      there) in
      let lo = low in
      let small = frame_small (p.leaf (FunctionBody f)) planned in
      entry_ran t fs program p q image (FunctionBody f) o there some (caller - 8) (caller + 32)
      next (others_of s.cpu.registers) (k.item ∷ b.body.is) inside.turns at_callee after
      (sites.arguments_code program p (FunctionBody f)) [] 40
      (sym (append-nil (sites.arguments_code program p (FunctionBody f)))) inside.exact
      (enters_steps from to inside.turns at_callee after inside.comes) k.rip k.stack k.beneath_it
      (small_registers s b.well_formed) k.program_there (omega arith) (omega arith)
      (subst (λ (xs : List Instr). AllSteady (owed_of p (FunctionBody f)) layout.slots
      layout.frame 40 xs) (sym arguments_are) stored)

  entry_keeps : AllKeep t fs inside.turns at_callee
  entry_keeps = entry_run.keeps

  -- its frame is there, with the registers of the call
  frame_there : HasFrame after (p.leaf (FunctionBody f))
      (frame_of p (FunctionBody f) next (others_of s.cpu.registers))
  frame_there =
      let e = entry_run.beneath in
      frame_from setting (FunctionBody f) o there after e.size next (others_of s.cpu.registers)
      e.owed

  pub comes : Comes t fs turns s [] after
  unfolding turns
  comes =
      comes_then t fs called_in inside.turns s at_callee after [] []
      (reaches_silently t fs program p q image called_in s at_callee (entering.calls at_call)
      call_keeps b.memory.code silent_called)
      (enters_silently t fs program p q image from to
      (none_inside t fs program p q image (FunctionBody f) o there) inside.turns at_callee after
      inside.comes entry_keeps
      (program_reaches t fs program p q called_in s at_callee (entering.calls at_call)
      b.memory.code) silent_after)

  pub some_turns : 1 ≤ turns
  unfolding turns
  some_turns = omega arith

  -- ---- linear code

  abbrev pub arguments : List ℕ
  arguments = drop first c.frame.temporaries

  pub counted_arguments : length arguments ≡ count
  counted_arguments = length-drop first c.frame.temporaries ∙ (let h = held in omega arith)

  well_formed : IsWellFormed (host_list p c.store) after
  well_formed = stays_well_formed s after keeps rip_small b.well_formed

  abbrev registers : LocalRegisters
  registers = local_registers after.cpu.registers

  -- the other locals
  abbrev pub others : List ℕ
  others = numbers_placed layout inside.sp (arrived_in after.cpu) registers after.memory
      (length arguments) (o.locals - count)

  pub counted_others : length others ≡ o.locals - count
  counted_others = numbers_count layout inside.sp (arrived_in after.cpu) registers after.memory
      (length arguments) (o.locals - count)

  pub small_others : AreSmall others
  small_others = numbers_small layout inside.sp (arrived_in after.cpu) registers after.memory
      (length arguments) (o.locals - count)
      (arrived_small after.cpu well_formed.count well_formed.small)
      (locals_small after.cpu.registers well_formed.count well_formed.small) inside.bytes

  -- where the callee begins
  abbrev pub callee_begins : Configuration
  callee_begins = begun f (arguments ++ others) (c.frame.held + (fn.surplus + fn.data_surplus))
      (Waits (waiting c first).frame ∷ c.below) c.store c.store.activations c.events

  pub soon : turns + turns_left callee_begins ≤ turns_per_call fn.surplus + turns_left c
  unfolding turns
  soon =
      let a = inside.soon in
      let m = few in
      let n = passed_in (p.layout c.frame.body) first 4 (count - 4) in
      let h = held in
      let w = length-take first c.frame.temporaries in
      omega arith

  -- ---- memory

  protection_same : (a : ℕ) → after.memory.protection a ≡ s.memory.protection a
  protection_same a = ap (λ (g : ℕ → Protection). g a) keeps.protection

  abbrev room : ℕ
  room = calling.room at_call

  stack_kept : KeepsStackBut s.memory after.memory caller caller (caller + room)
  stack_kept = record {
    bytes = λ a l u out. elim out [
      | inl x ↦ absurd (omega arith)
      | inr x ↦ (let z = low in inside.same a (stack_is_hidden program.globals a (omega arith) u)
          (inr (inr (inr (omega arith)))) ∙ calling.same_above at_call a l (inr x))
    ];
    protection = λ a l u. protection_same a;
    code = λ a e. (keeps.fixed a (fixed a e (may_write s.memory a) refl), protection_same a);
    no_more_code = λ a e. ap (λ (g : Protection). g.execute) (protection_same a) ∙ e;
  }
    where
      fixed : (a : ℕ) → (s.memory.protection a).execute ≡ true → (x : Bool) → may_write s.memory a ≡
          x → may_write s.memory a ≡ false
      fixed a e true w = let z : true ≡ false = sym e ∙ b.memory.data_alone.no_code a w in absurd cc
      fixed a e false w = w

  image_kept : KeepsImage program.globals s.memory after.memory
  image_kept = record {
    byte = λ a l u own. (let z = top in let w = calling.room_top at_call in
        inside.same a own (inr (inl (omega arith))) ∙ calling.same_above at_call a (omega arith)
        (inr (omega arith)));
    protection = λ a l u own. protection_same a;
  }

  memory : IsMachineMemory setting after.memory c.store.memory
  memory = memory_stays t fs program p q image s.memory after.memory c.store.memory c.store.memory
      image_kept inside.bytes protection_same inside.agrees b.memory

  -- ---- the frame

  slots_fit : (leaf : Bool) → HasPlan leaf → (layout.locals + 8 * o.locals ≤ slots_end layout leaf)
      × (inside.sp + slots_end layout leaf ≤ caller + 32)
  slots_fit true l = let e = l.frame in let a = l.locals in let k = l.temporaries in let n = l.few
      in let z = inside.place in (omega arith, omega arith)
  slots_fit false l = let a = l.locals in let w = l.within in let z = inside.place in
      (omega arith, omega arith)

  at_home : (leaf : Bool) → HasPlan leaf → leaf ≡ true → inside.sp + home_end ≤ STACK_END
  at_home true l e = let k = l.frame in let z = inside.place in let w = top in omega arith
  at_home false l e = absurd (let no : false ≡ true = e in cc)

  sp_low : STACK_START ≤ inside.sp
  sp_low = let z = low in let e = inside.place in let n = frame_small (p.leaf (FunctionBody f))
      planned in omega arith

  argument_there : (i v : ℕ) → slice_get arguments i ≡ Some v
      → number_placed layout inside.sp (arrived_in after.cpu) registers after.memory i
      (place_of layout i) ≡ v
  argument_there i v e =
      let lt = slice_get_within arguments i v e in
      let n = counted_arguments in
      inside.locals i (omega arith)
      ∙ (slots_here setting s c b counted).temporaries (first + i) v
      (sym (got_past c.frame.temporaries first i) ∙ e)

  abbrev HasNumbers : ℕ → Type 0
  HasNumbers sp = HoldsPlaces after.memory (now_of (p.leaf (FunctionBody f)) after.cpu)
      (p.register (FunctionBody f)) 0 (sp + layout.locals)
      (sp + slots_end layout (p.leaf (FunctionBody f))) (arguments ++ others)

  numbers : HasNumbers inside.sp
  numbers =
      let r = slots_fit (p.leaf (FunctionBody f)) planned in
      let r0 = r.0 in
      let r1 = r.1 in
      let n = counted_arguments in
      let z = top in
      let lo = sp_low in
      let h = fits in
      arguments_then_places setting f o there inside.sp
      (inside.sp + slots_end layout (p.leaf (FunctionBody f))) after.cpu after.memory arguments
      (o.locals - count) (omega arith) argument_there
      (λ a v l u e. word_of after.memory a v (omega arith) (λ x g h. may_read_written after.memory x
      (memory.stack x (omega arith) (omega arith))) e)

  -- ---- the return address

  abbrev pub back : ℕ
  back = awaiting.back at_call

  returns_to : ReturnsTo t fs program p (Waits (waiting c first).frame ∷ c.below) back
  returns_to =
      ap (λ o. return_of (p.layout c.frame.body) (p.address c.frame.body c.frame.next)
      (instruction_in o c.frame.next)) b.body.slots.body
      ∙ ap (return_of (p.layout c.frame.body) (p.address c.frame.body c.frame.next)) at

  -- ---- all of it

  pub begins : RepresentsAt setting after callee_begins
  begins =
      let waits = awaiting.awaits at_call
      after.memory room (omega arith) framed stack_kept memory.data_alone in
      let small = frame_small (p.leaf (FunctionBody f)) planned in
      let e = inside.place in
      let stack = inside.stack in
      let space = b.body.slots.space.space in
      let deep = b.body.slots.space.shallow in
      let depth : length c.store.activations ≡ length b.body.acts = ap length b.body.store ∙
      locals_count b.body.acts in
      let limit = shallow in
      let up : register after.cpu Rsp + layout.frame + 8 ≡ caller = omega arith in
      let begins = function_begins t fs program p q image after c.store f o there
      (Waits (waiting c first).frame ∷ c.below) b.body.acts
      (c.frame.held + (fn.surplus + fn.data_surplus)) c.events
      (arguments ++ others) well_formed memory
      inside.rip some (record { space = omega arith; shallow = omega arith }) tt
      (λ leaf. subst (λ x. x + home_end ≤ STACK_END) (sym stack) (at_home (p.leaf (FunctionBody f))
      planned leaf))
      back returns_to (others_of s.cpu.registers) refl (small_registers s b.well_formed) frame_there
      (subst HasNumbers (sym stack) numbers)
      waits.0 (subst (λ x. On t fs program p after.memory (context_below back x
      (others_of s.cpu.registers)) waits.0 (Waits (waiting c first).frame ∷ c.below) b.body.acts)
      (sym up) waits.1) in
      subst (λ (xs : List (List ℕ)). RepresentsAt setting after
      (begun f (arguments ++ others) (c.frame.held + (fn.surplus + fn.data_surplus))
      (Waits (waiting c first).frame ∷ c.below) c.store xs c.events)) (sym b.body.store)
      begins
