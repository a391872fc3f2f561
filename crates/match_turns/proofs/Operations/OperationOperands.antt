-- From where an operation begins to where its operands are in their registers.
use Rattle.std.proofs.Common.{◌≡◌, ℕ, ◌+◌, ◌^◌, ◌<◌, ◌≤◌, true, false, Bool, List, [], ◌++◌, length, Some, refl, sym, ap, subst, ◌∙◌, arith, length-append}
use Rattle.std.specs.Prelude.{slice_get}
use Rattle.match_turns.specs.Words.{Memory, Rax, Rcx, Instr, kept_of, State, distance, arrivals, Operation, Slot, Temporary, Instruction, HasSlots, LinearBody, Configuration, is_constant, instruction_at, Layout, sizes, operands_code, finish_code, machine, InCode, IsWellFormed, AllKeep, Comes, LeadsTo, view_of, WorksAgain, IsWellMade, IsKnown, counts_of, Setting, setting_of, InBody, RepresentsAt, WorksOn, before, fetch_turns, OperandsAreFetched, leaf_values, slots_end, rsp, context_of, arrived_in, parameter_register, IsSpare, register, Rsp, host_list}
use Rattle.x64_instr.specs.declared.register.Reg.{Reg}
use Rattle.template_code.specs.Operands as operands
use Rattle.template_code.specs.Slots.{fetch_if}
use Rattle.x64_templates.specs.Runs.{Reaches}
use Rattle.linear_code.specs.declared.instruction.Instruction.TheVariants as instructions
use Rattle.match_turns.proofs.Lemmas.{before_length, code_split, Begun, operands_run, reaches_silently, IsCounted, room_here, holds_here, is_here, operands_keep, code, frame, slots, v, same_state, template_here, has_slots, next_address, code_end, sp_is, Surroundings, reaches_keeps, stays_well_formed, is_read, counted_here, around_here, code_at, ready_here, kept_by_view}
use Rattle.lowering_invariants.specs.Ready as ready
use Rattle.match_turns.proofs.Operations.OperationCode.{some_finish, whole_size, finish_is_at, silent_within}
use Rattle.match_bodies.proofs.Places.LeafRegisters.{running_hold, leaf_held}
use Rattle.match_turns.proofs.Bodies.BodyWithin.{in_body_at}
use Rattle.match_turns.proofs.Operations.OperationInProgress.{ready_same}
use Rattle.match_bodies.proofs.Places.StackTop.{arrives_in_leaf, leaf_layout}
use Rattle.x64_templates.proofs.SparedRegisters.{run_spares, rax_spares, operands_rax, parameter_number}
use Rattle.x64_templates.proofs.Encoded.{encodable_of, operands_fine}
use Rattle.x64_instr.specs.Registers.{number}
use Rattle.match_bodies.proofs.Steps.BodyViews.{placed}
use Rattle.match_bodies.proofs.Places.ArrivedParameters.{each}
use Rattle.match_bodies.proofs.Templates.TemplateRuns.{are_here}

-- a temporary is fetched in one turn
few_fetched : (read : Bool) (y : Layout) (r : Reg) (i : ℕ)
    → length (fetch_if read y r (Temporary i)) ≤ 1
few_fetched true y r i = omega arith
few_fetched false y r i = omega arith

few_operands : (y : Layout) (o : Operation) (first second : ℕ)
    → length (operands_code y o (Temporary first) (Temporary second)) ≤ 3
few_operands y o first second =
    let f = few_fetched (operands.has_first o) y Rax first in
    let g = few_fetched (operands.has_second o) y Rcx second in
    let b = before_length o in
    omega (
      arith,
      length-append (fetch_if (operands.has_first o) y Rax (Temporary first))
          (fetch_if (operands.has_second o) y Rcx (Temporary second) ++ before o),
      length-append (fetch_if (operands.has_second o) y Rcx (Temporary second)) (before o),
    )

module _ (setting : Setting) (made : IsWellMade setting.program setting.plan)
    (s : State) (c : Configuration) (to : Slot) (o : Operation) (first second : ℕ)
    (b : RepresentsAt setting s c) (known : IsKnown setting.program c)
    (reads : is_constant o ≡ false)
    (e : instruction_at setting.program c ≡ Some (instructions.Compute to o (Temporary first)
    (Temporary second))) where
  open setting use {functions as t, funclets as fs, program, plan as p, sites as q, image}

  abbrev here : Instruction
  here = instructions.Compute to o (Temporary first) (Temporary second)

  abbrev counted : IsCounted setting c
  counted = counted_here setting made c known

  around : Surroundings setting made.room s c b counted
  around = around_here setting made s c b known

  abbrev body : LinearBody
  body = code setting made.room s c b counted

  at_here : slice_get body.code c.frame.next ≡ Some here
  at_here = code_at setting made s c b known here e

  there : HasSlots (counts_of body) here
  there = has_slots setting made.room s c b counted here at_here

  abbrev ops : List Instr
  ops = operands_code (p.layout c.frame.body) o (Temporary first) (Temporary second)

  abbrev n : ℕ
  n = length ops

  begun : Begun (frame setting made.room s c b counted) o (Temporary first) (Temporary second)
      (v setting made.room s c b counted) s.cpu.rip s.cpu.flags
      (slots setting made.room s c b counted)
  begun =
      operands_run (frame setting made.room s c b counted) o (Temporary first) (Temporary second)
      (v setting made.room s c b counted) s.cpu.rip s.cpu.flags
      (slots setting made.room s c b counted) (room_here setting s c b counted) there.1 there.2
      (are_here setting made.room s c b counted) (sp_is setting made.room s c b counted)
      (holds_here setting s c b counted)
      (code_split s.memory s.cpu.rip ops (finish_code (p.layout c.frame.body) o to)
      (template_here setting made.room s c b counted here at_here)).0

  -- the state that is reached, in the same memory, with the same handlers of the host
  abbrev u : State
  u = machine (record begun.stopped { memory = s.memory; vectored = s.vectored })
      (s.cpu.rip + sizes ops) begun.left

  same_handlers : begun.stopped.vectored ≡ s.vectored
  same_handlers =
      (reaches_keeps n (machine (v setting made.room s c b counted) s.cpu.rip s.cpu.flags)
      (machine begun.stopped (s.cpu.rip + sizes ops) begun.left) begun.comes).handlers

  comes : Reaches n s u
  comes =
      subst (λ (hs : List ℕ). Reaches n s (machine
      (record begun.stopped { memory = s.memory; vectored = hs }) (s.cpu.rip + sizes ops)
      begun.left)) same_handlers
      (subst (λ (m : Memory). Reaches n s (machine
      (record begun.stopped { memory = m }) (s.cpu.rip + sizes ops) begun.left)) begun.memory
      (subst (λ (x : State). Reaches n x (machine begun.stopped (s.cpu.rip + sizes ops) begun.left))
      (sym (same_state setting made.room s c b counted)) begun.comes))

  at_end : u.cpu.rip ≡ p.address c.frame.body c.frame.next + sizes ops
  at_end = ap (λ a. a + sizes ops) b.rip

  next_at : p.address c.frame.body (c.frame.next + 1)
      ≡ s.cpu.rip + (sizes ops + sizes (finish_code (p.layout c.frame.body) o to))
  next_at = next_address setting made.room s c b counted here at_here refl
      ∙ ap (λ x. s.cpu.rip + x) (whole_size (p.layout c.frame.body) to o (Temporary first)
      (Temporary second))

  inside : InCode p c.frame.body c.frame.next u.cpu.rip
  inside =
      let some = some_finish (p.layout c.frame.body) o to in
      let a = next_at in
      let n = next_address setting made.room s c b counted here at_here refl in
      let e = code_end setting made.room s c b counted here at_here in
      let r = b.rip in
      record { low = omega arith; high = omega arith }

  small : u.cpu.rip < 2 ^ 64
  small =
      let code = finish_is_at t fs program p q image s.memory c.frame.body b.body.slots.code
      c.frame.next to o (Temporary first) (Temporary second) b.memory.code b.body.slots.body
      at_here in
      let high = code.placed.high in
      let a = at_end in
      omega arith

  well_formed : IsWellFormed (host_list p c.store) u
  well_formed = stays_well_formed s u (reaches_keeps n s u comes) small b.well_formed

  registers : kept_of u.cpu.registers ≡ kept_of s.cpu.registers
  registers = kept_by_view begun.stopped s.cpu.registers begun.rest begun.locals

  -- the operands are the temporaries
  has_temporary : (i x : ℕ) → (slots setting made.room s c b counted).slots (Temporary i) ≡ x
      → ready.IsRead (is_constant o) (length c.frame.temporaries) (Temporary i)
      → (h : i < body.temporaries) → slice_get c.frame.temporaries i ≡ Some x
  has_temporary i x is held h =
      let r = is_read setting made.room s c b counted around (Temporary i) h
      (subst (λ (constant : Bool). ready.IsRead constant (length c.frame.temporaries)
      (Temporary i)) reads held) tt in
      r.reads ∙ ap (λ z. Some z) (sym r.same ∙ is)

  -- the parameters of a leaf function are where they arrived
  spared : (i : ℕ) → i < (p.layout c.frame.body).arrivals
      → arrived_in u.cpu i ≡ arrived_in s.cpu i
  spared i lt =
      let y = p.layout c.frame.body in
      let name = c.frame.body in
      let leaf = arrives_in_leaf t fs program p q image name body b.body.slots.body i lt in
      let l = leaf_layout t fs program p q name body leaf
      (image.laid_out name body b.body.slots.body) in
      let spare = each IsSpare body.code c.frame.next here l.spares at_here in
      run_spares ops s u
      (encodable_of ops (operands_fine y (counts_of body) (register s.cpu Rsp)
      (placed setting s c b counted).base o (Temporary first) (Temporary second)
      (room_here setting s c b counted) there.1 there.2))
      (rax_spares ops (operands_rax y o (Temporary first) (Temporary second) spare))
      (code_split s.memory s.cpu.rip ops (finish_code y o to)
      (template_here setting made.room s c b counted here at_here)).0
      comes (number (parameter_register i)) (parameter_number i)

  in_body : InBody setting u c
  in_body = in_body_at t fs program p q s c u.cpu b.body registers
      (leaf_held setting c.frame.body b.body.slots.code b.body.slots.body s.cpu u.cpu b.body.acts
      spared
      (running_hold s.memory (p.register c.frame.body) (p.layout c.frame.body) s.cpu
      (p.leaf c.frame.body) (rsp (context_of s.cpu))
      (slots_end (p.layout c.frame.body) (p.leaf c.frame.body)) c.frame.activation b.body.acts
      c.frame.body b.body.slots.activation)) inside small

  again : WorksAgain t fs program p q c.frame
      (leaf_values (p.leaf c.frame.body) c.frame.body in_body.acts) u.cpu
  again =
      let r = ready_here setting made s c b known here e in
      record {
        to = to;
        operation = o;
        first = first;
        second = second;
        works = e;
        here = at_end;
        has_first = λ h. has_temporary first begun.stopped.rax (sym (begun.waits.first h)) r.0
            there.1;
        has_second = λ h. has_temporary second begun.stopped.rcx (sym (begun.waits.second h)) r.1
            there.2;
        ready = ready_same o begun.stopped (view_of u.cpu) refl refl begun.waits.ready;
        locals = running_hold u.memory (p.register c.frame.body) (p.layout c.frame.body) u.cpu
            (p.leaf c.frame.body) (rsp (context_of u.cpu))
            (slots_end (p.layout c.frame.body) (p.leaf c.frame.body)) c.frame.activation
            in_body.acts c.frame.body in_body.slots.activation;
      }

  works : WorksOn setting u c
  works = record { well_formed = well_formed; memory = b.memory; body = in_body; again = again }

  -- each turn keeps the shadow
  keeps_shadow : AllKeep t fs n s
  keeps_shadow =
      operands_keep setting made.room s c b counted around to o (Temporary first) (Temporary second)
      at_here u comes (record {
        rip = at_end;
        registers = registers;
        is_there = is_here setting s c b counted;
      })

  silently : Comes t fs n s [] u
  silently =
      reaches_silently t fs program p q image n s u comes keeps_shadow b.memory.code
      (subst (λ a. arrivals u.cpu (distance t.base a) 1 fs ≡ []) (sym at_end)
      (silent_within t fs program p q image made.room s.memory c.frame.body b.body.slots.code
      c.frame.next to o (Temporary first) (Temporary second) b.memory.code b.body.slots.body
      at_here u.cpu))

  pub fetched : LeadsTo t fs fetch_turns (WorksOn setting) s c
  fetched = record {
    turns = n;
    few = few_operands (p.layout c.frame.body) o first second;
    state = u;
    comes = silently;
    is_there = works;
  }

pub operands_are_fetched : OperandsAreFetched
operands_are_fetched t fs program p q image made s c to o first second b known reads e = fetched
    (setting_of t fs program p q image) made s c to o first second b known reads e
