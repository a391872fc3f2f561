-- A function is entered after its call: its frame is made, and its parameters go to their locals.
use Rattle.std.proofs.Common.{◌≡◌, ℕ, zero, suc, ◌+◌, ◌-◌, ◌*◌, ◌^◌, ◌<◌, ◌≤◌, true, false, Some, None, List, [], ◌++◌, length, refl, sym, ap, subst, ◌∙◌, arith, inl, inr, length-append}
use Rattle.std.specs.Prelude.{◌⊎◌, nat_lt, slice_index}
use Rattle.std.proofs.lemmas.Bool.{cases_lt, lt-ltb, le-ltb}
use Rattle.match_turns.specs.Words.{STACK_START, STACK_END, Memory, may_write, number_at, Protection, is_writable, Rsp, Flags, State, register, is_hidden, Local, Temporary, LinearBody, FunctionBody, body_of, function_body, Layout, sizes, spelled, IsNear, return_at, passing_code, parameters_code, stack_parameter, parameter_code, MachineView, machine, with_arguments, OnStack, IsFunctionFrame, body_in_memory, FreshFrame, HasBase, MemoryKeepsBase, IsBytes, Agrees, InTemporaries, InLocals, KeepsReserved, HasCode, Enters, FramePlace, Roomy, ReachesBody, counts_of, FRAME_BY_WEIGHT, MOST_WEIGHT, Setting, OtherRegisters, LocalRegisters, local_in, registers_of, Place, InRegister, InFrame, Arriving, InRegisters, arrived_in, parameter_register, parameter_placed, number_placed, local_registers}
use Rattle.template_code.specs.Places.{place_of}
use Rattle.template_code.proofs.Places.{arriving_low}
use Rattle.x64_instr.specs.Registers.{number}
use Rattle.match_bodies.proofs.Places.LocalRegisters.{place_early}
use Rattle.match_bodies.specs.CodeSites.{arguments_code, body_plan, making_size}
use Rattle.x64_templates.specs.Runs.{Reaches}
use Rattle.match_turns.proofs.Lemmas.{bytes_kept, same_number, enters_then, within_agrees, making_steps, stack_is_hidden, may_read_written, holds_here, Keeps, keeps_then, reaches_keeps, enters_keeps, locals_small}
use Rattle.x64_instr.specs.declared.register.Reg.{Reg}
use Rattle.match_bodies.proofs.Keeping.ChainKeeping.{all_are, are_all}
use Rattle.x64_templates.proofs.Entering.{fresh_holds, parameters_run}
use Rattle.match_turns.proofs.Calls.CallArguments as calling
use Rattle.match_turns.proofs.Calls.CallWaitingCaller.{back_near}
use Rattle.match_turns.proofs.Functions.FunctionLocals.{argument_is}
use Rattle.match_turns.proofs.Functions.FunctionPrologue.{Made}
use Rattle.match_turns.proofs.Calls.AtCall.{AtCall}

-- ---- what a frame needs

module _ (globals : List ℕ) (y : Layout) (o : LinearBody) (sp : ℕ) where
  abbrev pub own_frame : FramePlace
  own_frame = record {
    layout = y;
    counts = counts_of o;
    reserved = is_hidden globals;
    sp = sp;
    base = sp;
    arrived = λ i. 0;
  }

  -- slots of the stack, apart from one another
  pub record IsOwn : Type 0 where
    pub none : y.base ≡ None
    pub low : STACK_START ≤ sp
    pub temporaries : sp + (y.temporaries + 8 * o.temporaries) ≤ STACK_END
    pub locals : sp + (y.locals + 8 * o.locals) ≤ STACK_END
    pub temporaries_small : y.temporaries + 8 * o.temporaries < 2 ^ 31
    pub locals_small : y.locals + 8 * o.locals < 2 ^ 31
    pub apart : (y.locals + 8 * o.locals ≤ y.temporaries)
        ⊎ (y.temporaries + 8 * o.temporaries ≤ y.locals)

  pub roomy_own : IsOwn → Roomy own_frame
  roomy_own h =
      let a = h.temporaries in
      let z = h.locals in
      record {
        temporaries = h.temporaries_small;
        locals = h.locals_small;
        high = omega arith;
        base_high = omega arith;
        apart = elim h.apart [ inl x ↦ inl (omega arith) | inr x ↦ inr (omega arith) ];
        kept_base = subst (λ i. HasBase y i sp sp) (sym h.none) refl;
      }

  own_slots : (a : ℕ) → IsOwn → InTemporaries y (counts_of o) sp a ⊎ InLocals y (counts_of o) sp a
      → (STACK_START ≤ a) × (a < STACK_END)
  own_slots a h i =
      let l = h.low in
      let t = h.temporaries in
      let z = h.locals in
      elim i [
        | inl x ↦ (let g = x.0 in let k = x.1 in (omega arith, omega arith))
        | inr
            x ↦ (let g = x.0 in let k = x.1 in (omega arith, omega arith))
      ]

  pub fresh_own : (l : LocalRegisters) (m source : Memory) → IsOwn
      → ((r : Reg) → local_in l r < 2 ^ 64) → IsBytes m
      → ((a : ℕ) → STACK_START ≤ a → a < STACK_END → may_write m a ≡ true)
      → Agrees (is_hidden globals) m source → FreshFrame own_frame l m source
  fresh_own l m source h small bytes may agrees = record {
    small = small;
    arrived = λ i. omega arith;
    bytes = bytes;
    writable = λ a i. (let r = own_slots a h i in may a r.0 r.1);
    own = λ a i. (let r = own_slots a h i in stack_is_hidden globals a r.0 r.1);
    base = subst (λ i. MemoryKeepsBase i sp sp m) (sym h.none) tt;
    own_base = subst (λ i. KeepsReserved i sp (is_hidden globals)) (sym h.none) tt;
    agrees = agrees;
  }

-- ---- a leaf function's parameters, which stay in the registers in which they come

pub parameters_stay : (y : Layout) (i n : ℕ) → i + n ≤ y.arrivals → parameters_code y i n ≡ []
parameters_stay y i zero le = refl
parameters_stay y i (suc n) le =
    ap (λ q. parameter_placed y i q ++ parameters_code y (i + 1) n)
    (place_early y i (omega arith)) ∙ parameters_stay y (i + 1) n (omega arith)

-- they are there where a call has put them
pub arguments_arrive : (v : MachineView) (arguments : ℕ → ℕ) → InRegisters v arguments → (i : ℕ)
    → i < 4 → slice_index (registers_of v) (number (parameter_register i)) ≡ arguments i
arguments_arrive v arguments h zero lt = h.first
arguments_arrive v arguments h (suc zero) lt = h.second
arguments_arrive v arguments h (suc (suc zero)) lt = h.third
arguments_arrive v arguments h (suc (suc (suc zero))) lt = h.fourth
arguments_arrive v arguments h (suc (suc (suc (suc i)))) lt = absurd (omega arith)

-- where a body has a frame numbers don't rest on them
pub number_unarrived : (y : Layout) (base : ℕ) (a r : ℕ → ℕ) (l : LocalRegisters) (m : Memory)
    (i : ℕ) → y.arrivals ≡ 0 → number_placed y base a l m i (place_of y i)
    ≡ number_placed y base r l m i (place_of y i)
number_unarrived y base a r l m i none = by (place_of y i) (λ e.
    let lt = arriving_low y i e in absurd (omega arith))
  where
    by : (q : Place) → (q ≡ Arriving → ⊥)
        → number_placed y base a l m i q ≡ number_placed y base r l m i q
    by (InRegister x) away = refl
    by InFrame away = refl
    by Arriving away = absurd (away refl)

-- ---- how many turns parameters take

one_placed : (y : Layout) (i : ℕ) (q : Place) → (i < 4 → length (parameter_placed y i q) ≤ 1)
    × (length (parameter_placed y i q) ≤ 2)
one_placed y i (InRegister r) = elim (cases_lt i 4) [
  | inl l ↦ (let e : nat_lt i 4 ≡ true = lt-ltb i 4 l in
      let z : length (parameter_placed y i (InRegister r)) ≡ 1 = rw e refl in
      (λ h. omega arith, omega arith))
  | inr g ↦ (let e : nat_lt i 4 ≡ false = le-ltb i 4 g in
      let z : length (parameter_placed y i (InRegister r)) ≡ 1 = rw e refl in
      (λ h. omega arith, omega arith))
]
one_placed y i InFrame = elim (cases_lt i 4) [
  | inl l ↦ (let e : nat_lt i 4 ≡ true = lt-ltb i 4 l in
      let z : length (parameter_placed y i InFrame) ≡ 1 = rw e refl in
      (λ h. omega arith, omega arith))
  | inr g ↦ (let e : nat_lt i 4 ≡ false = le-ltb i 4 g in
      let z : length (parameter_placed y i InFrame) ≡ 2 = rw e refl in
      (λ h. absurd (omega arith), omega arith))
]
one_placed y i Arriving = (λ h. omega arith, omega arith)

one_parameter : (y : Layout) (i : ℕ) → (i < 4 → length (parameter_code y i) ≤ 1)
    × (length (parameter_code y i) ≤ 2)
one_parameter y i = one_placed y i (place_of y i)

two_each : (y : Layout) (i n : ℕ) → length (parameters_code y i n) ≤ 2 * n
two_each y i zero = omega arith
two_each y i (suc n) =
    let a = (one_parameter y i).1 in
    let z = two_each y (i + 1) n in
    omega (arith, length-append (parameter_code y i) (parameters_code y (i + 1) n))

pub parameters_soon : (y : Layout) (i n : ℕ) → i ≤ 4
    → length (parameters_code y i n) ≤ n + (i + n - 4)
parameters_soon y i zero le = omega arith
parameters_soon y i (suc n) le = elim (cases_lt i 4) [
  | inl l ↦ (let a = (one_parameter y i).0 l in let z = parameters_soon y (i + 1) n (omega arith) in
      omega (arith, length-append (parameter_code y i) (parameters_code y (i + 1) n)))
  | inr g ↦ (let z = two_each y i (suc n) in omega arith)
]

module _ {setting : Setting} (at_call : AtCall setting) where
  open setting use {program, plan as p, sites as q, image}
  open at_call use {
    state as s,
    configuration as c,
    represents as b,
    counted,
    number as f,
    first,
    count,
    few,
    few_passed,
    function as fn,
    found as callee,
    fits,
  }

  abbrev caller : ℕ
  caller = register s.cpu Rsp

  abbrev layout : Layout
  layout = p.layout (FunctionBody f)

  abbrev target : ℕ
  target = q.function f

  abbrev o : LinearBody
  o = fn.body

  pub there : body_of program (FunctionBody f) ≡ Some o
  there = ap function_body callee

  pub near : IsNear (calling.back at_call) target
  near =
      let n = back_near at_call in
      let e = ap (λ x. return_at (p.layout c.frame.body) first
      (x + sizes (passing_code (p.layout c.frame.body) first 4 (count - 4)))) b.rip in
      let a = image.addresses (FunctionBody f) o there in
      let low = a.inside.low in
      let high = a.inside.high in
      let begin = a.first in
      let l = n.0 in
      let h = n.1 in
      (omega arith, omega arith, omega arith, omega arith)

  abbrev pub called : MachineView
  called = calling.called at_call

  abbrev pub arguments : ℕ → ℕ
  arguments = calling.arguments at_call

  abbrev pub flags : Flags
  flags = calling.flags_called at_call near

  abbrev pub at_callee : State
  at_callee = machine called target flags

  abbrev turns_of_call : ℕ
  turns_of_call = length (passing_code (p.layout c.frame.body) first 4 (count - 4)) + 5

  pub calls : Reaches turns_of_call s at_callee
  calls = calling.calls at_call near

  pub keeps : Keeps s at_callee
  keeps = reaches_keeps turns_of_call s at_callee calls

  -- what is outside of the callee's slots: all but the stack, the return address, and the
  -- caller's frame above its home space
  abbrev pub Outside : ℕ → Type 0
  Outside a = (a < STACK_START) ⊎ ((STACK_END ≤ a)
      ⊎ (((caller ≤ a + 8) × (a < caller)) ⊎ (caller + 32 ≤ a)))

  pub record InCallee : Type 0 where
    pub sp : ℕ
    pub place : sp + layout.frame + 8 ≡ caller
    pub state : State
    pub turns : ℕ
    pub exact : turns ≡ making_steps (p.leaf (FunctionBody f)) (body_plan p q (FunctionBody f))
        + length (arguments_code program p (FunctionBody f))
    pub soon : turns ≤ 21 + 8 * fn.surplus + (count + (count - 4))
    pub comes : Enters target (target + making_size p q (FunctionBody f)) turns at_callee state
    pub rip : state.cpu.rip ≡ p.address (FunctionBody f) 0
    pub stack : register state.cpu Rsp ≡ sp
    pub locals : (i : ℕ) → i < count → number_placed layout sp (arrived_in state.cpu)
        (local_registers state.cpu.registers) state.memory i (place_of layout i) ≡ arguments i
    pub bytes : IsBytes state.memory
    pub agrees : Agrees (is_hidden program.globals) state.memory c.store.memory
    pub same : (a : ℕ) → is_hidden program.globals a ≡ true → Outside a
        → state.memory.byte a ≡ called.memory.byte a

  small_argument : (i : ℕ) → i < count → arguments i < 2 ^ 64
  small_argument i lt =
      let r = (calling.has_room at_call).1 in
      (holds_here setting s c b counted).small (Temporary (first + i))
      (let z : first + i < b.body.slots.code.temporaries = omega arith in z)

  pub may_stack : (a : ℕ) → STACK_START ≤ a → a < STACK_END → may_write called.memory a ≡ true
  may_stack a l u = ap (λ (g : ℕ → Protection). is_writable (g a).rights)
      (calling.called_protection at_call) ∙ b.memory.stack a l u

  -- ---- once the frame is made, the parameters

  module _ (sp to n : ℕ) (made : Made called target to flags (caller - 8) sp arguments n)
      (own : IsOwn program.globals layout o sp)
      (whole : IsFunctionFrame (own_frame program.globals layout o sp))
      (short : layout.frame + 8 ≤ FRAME_BY_WEIGHT * MOST_WEIGHT)
      (early : n ≤ 21 + 8 * fn.surplus) (place : sp + layout.frame + 8 ≡ caller)
      (code : HasCode s.memory to (parameters_code layout 0 count))
      (ends : to + sizes (parameters_code layout 0 count) ≡ p.address (FunctionBody f) 0)
      (outside : (a : ℕ) → Outside a → InTemporaries layout (counts_of o) sp a
      ⊎ InLocals layout (counts_of o) sp a → ⊥)
      (counted_turns : n + length (parameters_code layout 0 count)
      ≡ making_steps (p.leaf (FunctionBody f)) (body_plan p q (FunctionBody f)) + length
      (arguments_code program p (FunctionBody f)))
      (prologue : to ≡ target + making_size p q (FunctionBody f)) where
    abbrev y : Layout
    y = layout

    abbrev k : State
    k = machine made.after to made.flags

    made_keeps : Keeps s k
    made_keeps = keeps_then s at_callee k keeps (enters_keeps target to n at_callee k made.comes)

    made_bytes : IsBytes made.after.memory
    made_bytes = made.within.bytes (calling.called_bytes at_call)

    made_small : (r : Reg) → local_in made.after.locals r < 2 ^ 64
    made_small = locals_small (registers_of made.after) refl (are_all (registers_of made.after)
        (made_keeps.small (all_are s.cpu.registers b.well_formed.small)))

    made_agrees : Agrees (is_hidden program.globals) made.after.memory c.store.memory
    made_agrees =
        let low = own.low in
        let z = calling.top at_call in
        within_agrees (is_hidden program.globals) sp (caller - 8) called.memory made.after.memory
        c.store.memory (λ a l u. stack_is_hidden program.globals a (omega arith) (omega arith))
        made.within (calling.called_agrees at_call)

    made_may : (a : ℕ) → STACK_START ≤ a → a < STACK_END → may_write made.after.memory a ≡ true
    made_may a l u = ap (λ (g : ℕ → Protection). is_writable (g a).rights) made.within.protection
        ∙ may_stack a l u

    stack_arguments : OnStack (own_frame program.globals y o sp) made.after.memory count arguments
    stack_arguments =
        let m = few in
        let n = few_passed in
        let x = calling.low at_call in
        let z = calling.room_top at_call in
        record {
          number = λ i ge lt. (let e = place in
              ap (number_at made.after.memory.byte 8)
              (let w : sp + stack_parameter y i ≡ caller + 8 * i = omega arith in w)
              ∙ same_number made.after.memory.byte called.memory.byte 8 (caller + 8 * i)
              (omega arith) (λ a l h. made.within.byte a (inr (omega arith)))
              ∙ calling.on_stack at_call i ge lt);
          readable = λ i a ge lt l u. (let e = place in
              may_read_written made.after.memory a (made_may a (omega arith) (omega arith)));
          own = λ i a ge lt l u. (let e = place in
              stack_is_hidden program.globals a (omega arith) (omega arith));
          near = λ i lt. (let w : stack_parameter y i < 2 ^ 31 = omega arith in w);
          small = small_argument;
        }

    run : ReachesBody (own_frame program.globals y o sp) (length (parameters_code y 0 count)) k
        (to + sizes (parameters_code y 0 count)) made.after.rest made.after.locals (record {
          slots = with_arguments (body_in_memory y sp sp (λ i. 0) made.after.locals
              made.after.memory
              c.store.memory).slots
              arguments 0 count;
          memory = c.store.memory;
        })
    run =
        parameters_run (own_frame program.globals y o sp) count arguments made.after to made.flags
        (body_in_memory y sp sp (λ i. 0) made.after.locals made.after.memory c.store.memory)
        (roomy_own program.globals y o sp own) whole fits made.stack
        (fresh_holds (own_frame program.globals y o sp) made.after.locals made.after.memory
        c.store.memory
        (fresh_own program.globals y o sp made.after.locals made.after.memory c.store.memory own
        made_small made_bytes made_may
        made_agrees)) made.registers stack_arguments (record {
          is_there = bytes_kept s.memory made.after.memory to (spelled (parameters_code y 0 count))
              made_keeps.fixed made_keeps.protection code.is_there;
          placed = code.placed;
        })

    pub entered : InCallee
    entered =
        let long = parameters_soon y 0 count (omega arith) in
        record {
          sp = sp;
          place = place;
          state = machine run.after (to + sizes (parameters_code y 0 count)) run.flags;
          turns = n + length (parameters_code y 0 count);
          exact = counted_turns;
          soon = omega arith;
          comes = subst (λ x. Enters target x (n + length (parameters_code y 0 count)) at_callee
              (machine run.after (to + sizes (parameters_code y 0 count)) run.flags)) prologue
              (enters_then target to n (length (parameters_code y 0 count)) at_callee k
              (machine run.after (to + sizes (parameters_code y 0 count)) run.flags) made.comes
              run.comes);
          rip = ends;
          stack = ap (λ (r : OtherRegisters). r.rsp) run.rest ∙ made.stack;
          locals = λ i lt. (number_unarrived y sp
              (arrived_in (machine run.after (to + sizes (parameters_code y 0 count))
              run.flags).cpu) (λ j. 0) run.after.locals run.after.memory i
              whole.none_arrive ∙ run.holds.slot (Local i)
              (let z : i < o.locals = omega (arith, fits) in z)
              ∙ argument_is (body_in_memory y sp sp (λ i. 0) made.after.locals made.after.memory
              c.store.memory).slots
              arguments 0 count i (omega arith) (omega arith));
          bytes = run.changes.bytes made_bytes;
          agrees = run.holds.source;
          same = λ a own_byte out. run.changes.byte a own_byte (outside a out) ∙ made.within.byte a
              (let x = calling.low at_call in
              let z = calling.top at_call in
              elim out [
                | inl h ↦ inl (omega arith)
                | inr (inl h) ↦ inr (omega arith)
                | inr (inr (inl h)) ↦ (let g = h.0 in inr (omega arith))
                | inr (inr (inr h)) ↦ inr (omega arith)
              ]);
        }
