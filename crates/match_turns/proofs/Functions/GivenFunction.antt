-- A function with at most four parameters is entered from its first byte: once its frame is made,
-- the parameters go to their locals.
use Rattle.std.proofs.Common.{◌≡◌, ℕ, ◌+◌, ◌*◌, ◌^◌, ◌<◌, ◌≤◌, true, Some, List, length, ap, subst, ◌∙◌, arith, inl, inr, refl}
use Rattle.match_bodies.specs.ProgramImages.{IsMachineMemory}
use Rattle.std.specs.Prelude.{◌⊎◌, slice_get}
use Rattle.match_turns.specs.Words.{STACK_START, STACK_END, Memory, may_write, Protection, Rsp, State, register, Functions, Funclet, Local, LinearProgram, depth_weight, LinearBody, LinearFunction, FunctionBody, body_of, function_body, Layout, sizes, spelled, parameters_code, stack_parameter, MachineView, InRegisters, with_arguments, OnStack, IsFunctionFrame, body_in_memory, HasCode, Enters, ReachesBody, ImagePlan, Sites, IsProgramImage, OtherRegisters, seen_by_templates, counts_of, FRAME_BY_WEIGHT, MOST_WEIGHT, weight, is_hidden, machine}
use Rattle.source_meaning.specs.declared.depth.TheConstants.{DEEPEST}
use Rattle.flat_memory.specs.Protections.{is_writable}
use Rattle.x64_templates.specs.CallStates.{sp_of}
use Rattle.match_bodies.specs.CodeSites.{arguments_code, body_plan, making_size}
use Rattle.seh_records.specs.Laws.{AllSmall}
use Rattle.x64_templates.specs.Frames.{InTemporaries, InLocals, IsBytes, Agrees}
use Rattle.x64_instr.specs.declared.register.Reg.{Reg}
use Rattle.template_code.specs.Places.{place_of}
use Rattle.x64_templates.specs.Straight.{local_registers, registers_of}
use Rattle.x64_templates.specs.Locals.{local_in}
use Rattle.x64_templates.specs.Frames.{number_placed}
use Rattle.match_bodies.specs.BodyViews.{arrived_in}
use Rattle.match_bodies.proofs.Steps.BodyViews.{locals_small}
use Rattle.x64_templates.proofs.PrologueParts.{registers_are}
use Rattle.match_bodies.proofs.Keeping.ChainKeeping.{all_are, are_all}
use Rattle.match_turns.proofs.Lemmas.{bytes_kept, enters_then, making_steps, stack_is_hidden, Keeps, enters_keeps}
use Rattle.match_turns.proofs.Functions.FunctionParameters.{own_frame, IsOwn, roomy_own, fresh_own, parameters_soon, number_unarrived}
use Rattle.match_turns.proofs.Functions.FunctionLocals.{argument_is}
use Rattle.match_turns.proofs.Functions.FunctionPrologue.{Made}
use Rattle.x64_templates.proofs.Ranges.{within_agrees}
use Rattle.x64_templates.proofs.Entering.{fresh_holds, parameters_run}

-- a state at a function's first byte: its arguments are in registers, the return address is at RSP,
-- above that is room for a home space, and below it for the largest frame
pub record IsCalled (t : Functions) (fs : List Funclet) (program : LinearProgram) (p : ImagePlan)
    (q : Sites) (s : State) (source : Memory) (f : ℕ) (fn : LinearFunction) (top : ℕ)
    (arguments : ℕ → ℕ) : Type 0 where
  pub function : slice_get program.functions f ≡ Some fn
  pub rip : s.cpu.rip ≡ q.function f
  pub stack : register s.cpu Rsp ≡ top
  pub shallow : depth_weight fn ≤ DEEPEST
  pub low : STACK_START + FRAME_BY_WEIGHT * weight fn + 8192 ≤ top
  pub high : top + 40 ≤ STACK_END
  pub count : length s.cpu.registers ≡ 16
  pub numbers : AllSmall s.cpu.registers
  pub few : fn.parameters ≤ 4
  pub fits : fn.parameters ≤ fn.body.locals
  pub registers : InRegisters (seen_by_templates s) arguments
  pub small : (i : ℕ) → arguments i < 2 ^ 64
  pub all_small : AllSmall s.cpu.registers
  pub memory : IsMachineMemory t fs program p q s.memory source

module _ (t : Functions) (fs : List Funclet) (program : LinearProgram) (p : ImagePlan) (q : Sites)
    (image : IsProgramImage t fs program p q) (s : State) (source : Memory) (f : ℕ)
    (fn : LinearFunction) (top : ℕ) (arguments : ℕ → ℕ)
    (h : IsCalled t fs program p q s source f fn top arguments) where
  abbrev pub layout : Layout
  layout = p.layout (FunctionBody f)

  abbrev pub target : ℕ
  target = q.function f

  abbrev pub o : LinearBody
  o = fn.body

  abbrev pub count : ℕ
  count = fn.parameters

  abbrev pub view : MachineView
  view = seen_by_templates s

  pub there : body_of program (FunctionBody f) ≡ Some o
  there = ap function_body h.function

  abbrev pub first : State
  first = machine view target s.cpu.flags

  pub view_stack : sp_of view ≡ top
  view_stack = h.stack

  -- what is outside of the function's slots: all but the stack, and the return address and what is
  -- above it
  abbrev pub Outside : ℕ → Type 0
  Outside a = (a < STACK_START) ⊎ ((STACK_END ≤ a) ⊎ (top ≤ a))

  pub record InFunction : Type 0 where
    pub sp : ℕ
    pub place : sp + layout.frame ≡ top
    pub state : State
    pub turns : ℕ
    pub exact : turns ≡ making_steps (p.leaf (FunctionBody f)) (body_plan p q (FunctionBody f))
        + length (arguments_code program p (FunctionBody f))
    pub soon : turns ≤ 21 + fn.parameters + 8 * fn.surplus
    pub comes : Enters target (target + making_size p q (FunctionBody f)) turns first state
    pub rip : state.cpu.rip ≡ p.address (FunctionBody f) 0
    pub stack : register state.cpu Rsp ≡ sp
    pub locals : (i : ℕ) → i < count → number_placed layout sp (arrived_in state.cpu)
        (local_registers state.cpu.registers) state.memory i (place_of layout i) ≡ arguments i
    pub bytes : IsBytes state.memory
    pub agrees : Agrees (is_hidden program.globals) state.memory source
    pub same : (a : ℕ) → is_hidden program.globals a ≡ true → Outside a
        → state.memory.byte a ≡ s.memory.byte a

  -- ---- once the frame is made, the parameters

  module _ (sp to n : ℕ) (made : Made view target to s.cpu.flags top sp arguments n)
      (own : IsOwn program.globals layout o sp)
      (whole : IsFunctionFrame (own_frame program.globals layout o sp))
      (short : layout.frame + 8 ≤ FRAME_BY_WEIGHT * MOST_WEIGHT) (early : n ≤ 21 + 8 * fn.surplus)
      (place : sp + layout.frame ≡ top)
      (code : HasCode s.memory to (parameters_code layout 0 count))
      (ends : to + sizes (parameters_code layout 0 count) ≡ p.address (FunctionBody f) 0)
      (outside : (a : ℕ) → Outside a → InTemporaries layout (counts_of o) sp a
      ⊎ InLocals layout (counts_of o) sp a → ⊥)
      (counted_turns : n + length (parameters_code layout 0 count)
      ≡ making_steps (p.leaf (FunctionBody f)) (body_plan p q (FunctionBody f))
      + length (arguments_code program p (FunctionBody f)))
      (prologue : to ≡ target + making_size p q (FunctionBody f)) where
    abbrev y : Layout
    y = layout

    abbrev k : State
    k = machine made.after to made.flags

    made_keeps : Keeps first k
    made_keeps = enters_keeps target to n first k made.comes

    made_bytes : IsBytes made.after.memory
    made_bytes = made.within.bytes h.memory.data_alone.bytes

    made_small : (r : Reg) → local_in made.after.locals r < 2 ^ 64
    made_small = locals_small (registers_of made.after) refl (are_all (registers_of made.after)
        (made_keeps.small (all_are (registers_of view)
        (subst AllSmall (registers_are s.cpu.registers h.count) h.numbers))))

    made_agrees : Agrees (is_hidden program.globals) made.after.memory source
    made_agrees =
        let l = own.low in
        let u = h.high in
        within_agrees (is_hidden program.globals) sp top s.memory made.after.memory source
        (λ a x z. stack_is_hidden program.globals a (omega arith) (omega arith)) made.within
        h.memory.agrees

    made_may : (a : ℕ) → STACK_START ≤ a → a < STACK_END → may_write made.after.memory a ≡ true
    made_may a l u = ap (λ (g : ℕ → Protection). is_writable (g a).rights) made.within.protection
        ∙ h.memory.stack a l u

    -- no parameter is on the stack
    stack_arguments : OnStack (own_frame program.globals y o sp) made.after.memory count arguments
    stack_arguments = let few = h.few in record {
      number = λ i ge lt. absurd (omega arith);
      readable = λ i a ge lt l u. absurd (omega arith);
      own = λ i a ge lt l u. absurd (omega arith);
      near = λ i lt. (let w : stack_parameter y i < 2 ^ 31 = omega arith in w);
      small = λ i lt. h.small i;
    }

    run : ReachesBody (own_frame program.globals y o sp) (length (parameters_code y 0 count)) k
        (to + sizes (parameters_code y 0 count)) made.after.rest made.after.locals
        (record {
          slots = with_arguments (body_in_memory y sp sp (λ i. 0) made.after.locals
              made.after.memory source).slots
              arguments 0 count;
          memory = source;
        })
    run =
        parameters_run (own_frame program.globals y o sp) count arguments made.after to made.flags
        (body_in_memory y sp sp (λ i. 0) made.after.locals made.after.memory source) (roomy_own
        program.globals y o sp own)
        whole h.fits made.stack
        (fresh_holds (own_frame program.globals y o sp) made.after.locals made.after.memory source
        (fresh_own program.globals y o sp made.after.locals made.after.memory source own made_small
        made_bytes made_may
        made_agrees)) made.registers stack_arguments
        (record {
          is_there = bytes_kept s.memory made.after.memory to
              (spelled (parameters_code y 0 count)) made_keeps.fixed made_keeps.protection
              code.is_there;
          placed = code.placed;
        })

    pub entered : InFunction
    entered =
        let long = parameters_soon y 0 count (omega arith) in
        let few = h.few in
        record {
          sp = sp;
          place = place;
          state = machine run.after (to + sizes (parameters_code y 0 count)) run.flags;
          turns = n + length (parameters_code y 0 count);
          exact = counted_turns;
          soon = omega arith;
          comes = subst (λ x. Enters target x (n + length (parameters_code y 0 count)) first
              (machine run.after (to + sizes (parameters_code y 0 count)) run.flags)) prologue
              (enters_then target to n (length (parameters_code y 0 count)) first k
              (machine run.after (to + sizes (parameters_code y 0 count)) run.flags) made.comes
              run.comes);
          rip = ends;
          stack = ap (λ (r : OtherRegisters). r.rsp) run.rest ∙ made.stack;
          locals = λ i lt. (let fits = h.fits in
              number_unarrived y sp
              (arrived_in (machine run.after (to + sizes (parameters_code y 0 count))
              run.flags).cpu) (λ j. 0) run.after.locals run.after.memory i whole.none_arrive
              ∙ run.holds.slot (Local i) (let z : i < o.locals = omega arith in z)
              ∙ argument_is (body_in_memory y sp sp (λ i. 0) made.after.locals made.after.memory
              source).slots arguments 0
              count i (omega arith) (omega arith));
          bytes = run.changes.bytes made_bytes;
          agrees = run.holds.source;
          same = λ a own_byte out. run.changes.byte a own_byte (outside a out) ∙ made.within.byte a
              (let l = h.low in
              let u = h.high in
              elim out [
                | inl x ↦ inl (omega arith)
                | inr (inl x) ↦ inr (omega arith)
                | inr
                    (inr x) ↦ (let g = x in inr (omega arith))
              ]);
        }
