-- Within an operation: the body is as where the operation's instruction begins, and the
-- operation is made on what memory holds.
use Rattle.std.proofs.Common.{◌≡◌, ℕ, ◌^◌, ◌<◌, true, false, Option, Some, None, refl, sym, subst, ◌∙◌, arith, length}
use Rattle.std.specs.Prelude.{slice_get}
use Rattle.std.proofs.lemmas.Option.{slice_get_within}
use Rattle.match_turns.specs.Words.{Rax, Rcx, State, register, Operation, OperationResult, performed, is_hidden, Slot, Temporary, Instruction, BodyState, LinearBody, body_of, Configuration, is_constant, operand, Layout, finish_code, MachineView, HasCode, FramePlace, view_of, IsWellMade, IsKnown, seen_by_templates, ComesTo, Setting, RepresentsAt, WorksOn, arrived_in, parameter_register, IsSpare, counts_of, Rsp}
use Rattle.c_operations.specs.declared.operation.Operation.TheVariants as operations
use Rattle.c_operations.specs.declared.operation.Pure.TheVariants.{Constant}
use Rattle.linear_code.specs.declared.instruction.Instruction.TheVariants as instructions
use Rattle.template_code.specs.Operands as operands
use Rattle.x64_templates.specs.Implements.{IsReady, HasOperands}
use Rattle.x64_templates.specs.Runs.{Finished, Reaches}
use Rattle.match_turns.proofs.Lemmas.{finish_run, performed_same, first_in_code, IsCounted, room_here, holds_here, code, frame, slots, has_slots, sp_is, Surroundings, some_is, label_in, counted_here, around_here, code_at, IsSaid, said_of_hidden}
use Rattle.match_turns.proofs.Bodies.BodyWithin.{in_body_at}
use Rattle.match_turns.proofs.Operations.OperationMeaning.{nothing_landed}
use Rattle.match_turns.proofs.Operations.OperationCode.{finish_is_at}
use Rattle.match_bodies.proofs.Places.StackTop.{arrives_in_leaf, leaf_layout}
use Rattle.x64_templates.proofs.SparedRegisters.{run_spares, rax_spares, finish_rax, parameter_number}
use Rattle.x64_templates.proofs.Encoded.{encodable_of, finish_fine}
use Rattle.x64_instr.specs.Registers.{number}
use Rattle.match_bodies.proofs.Steps.BodyViews.{placed}
use Rattle.match_bodies.proofs.Places.ArrivedParameters.{each}
use Rattle.match_bodies.proofs.Templates.TemplateRuns.{keeps_here}

-- what an operation needs beside its operands is in RAX and RDX
pub ready_same : (o : Operation) (v w : MachineView) → v.rax ≡ w.rax → v.rdx ≡ w.rdx → IsReady o v
    → IsReady o w
ready_same (operations.Pure p) v w a d h = tt
ready_same (operations.Divide s z) v w a d h = rw (← a, ← d) h
ready_same (operations.Remainder s z) v w a d h = rw (← a, ← d) h
ready_same o v w a d h = tt

-- an operation that reads an operand is no constant
reads_first : (o : Operation) → operands.has_first o ≡ true → is_constant o ≡ false
reads_first (operations.Pure (Constant n)) h = absurd cc
reads_first (operations.Allocate n) h = absurd cc
reads_first o h = refl

reads_second : (o : Operation) → operands.has_second o ≡ true → is_constant o ≡ false
reads_second (operations.Pure (Constant n)) h = absurd cc
reads_second (operations.Allocate n) h = absurd cc
reads_second o h = refl

module _ (setting : Setting) (made : IsWellMade setting.program setting.plan)
    (s : State) (c : Configuration) (w : WorksOn setting s c) (known : IsKnown setting.program c)
  where
    open setting use {functions as t, funclets as fs, program, plan as p, sites as q, image}

    abbrev to : Slot
    to = w.again.to

    abbrev o : Operation
    o = w.again.operation

    abbrev first : Slot
    first = Temporary w.again.first

    abbrev second : Slot
    second = Temporary w.again.second

    abbrev y : Layout
    y = p.layout c.frame.body

    abbrev here : Instruction
    here = instructions.Compute to o first second

    pub free : c.frame.landed ≡ None
    free = nothing_landed program c to o first second c.frame.landed known.stacked.landed
        w.again.works

    pub there : slice_get w.body.slots.code.code c.frame.next ≡ Some here
    there = label_in (body_of program c.frame.body) w.body.slots.code c.frame.next here
        w.body.slots.body w.again.works

    -- ---- the state in which the instruction had begun, but for the registers that it has taken

    abbrev pub before : State
    before = record s {
      cpu = record {
        registers = s.cpu.registers;
        rip = p.address c.frame.body c.frame.next;
        flags = s.cpu.flags;
      };
    }

    begin_small : p.address c.frame.body c.frame.next < 2 ^ 64
    begin_small = let h = w.again.here in let l = w.well_formed.rip_small in omega arith

    pub represents_before : RepresentsAt setting before c
    represents_before = record {
      rip = refl;
      well_formed = record {
        rip_small = begin_small;
        count = w.well_formed.count;
        small = w.well_formed.small;
        listed = w.well_formed.listed;
      };
      memory = w.memory;
      body = in_body_at t fs program p q s c before.cpu w.body refl w.again.locals
          (first_in_code t fs program p q image c.frame.body w.body.slots.code c.frame.next
          w.body.slots.body (slice_get_within w.body.slots.code.code c.frame.next here there))
          begin_small;
      landed = λ code e. let z : ◌≡◌ {A = Option ℕ} None (Some code) = sym free ∙ e in absurd cc;
    }

    abbrev pub counted : IsCounted setting c
    counted = counted_here setting made c known

    pub around : Surroundings setting made.room before c represents_before counted
    around = around_here setting made before c represents_before known

    abbrev pub body : LinearBody
    body = code setting made.room before c represents_before counted

    pub at_here : slice_get body.code c.frame.next ≡ Some here
    at_here = code_at setting made before c represents_before known here w.again.works

    -- its frame, and what its slots hold
    abbrev pub frame_here : FramePlace
    frame_here = frame setting made.room before c represents_before counted

    abbrev pub slots_now : BodyState
    slots_now = slots setting made.room before c represents_before counted

    -- ---- the operation is made

    pub first_small : register s.cpu Rax < 2 ^ 64
    first_small = let n = w.well_formed.count in w.well_formed.small 0 (omega arith)

    pub second_small : register s.cpu Rcx < 2 ^ 64
    second_small = let n = w.well_formed.count in w.well_formed.small 1 (omega arith)

    pub operands_wait : HasOperands o (register s.cpu Rax) (register s.cpu Rcx)
        (seen_by_templates s)
    operands_wait = record {
      first = λ reads. refl;
      second = λ reads. refl;
      ready = ready_same o (view_of s.cpu) (seen_by_templates s) refl refl w.again.ready;
    }

    pub code_here : HasCode s.memory s.cpu.rip (finish_code y o to)
    code_here =
        subst (λ a. HasCode s.memory a (finish_code y o to)) (sym w.again.here)
        (finish_is_at t fs program p q image s.memory c.frame.body w.body.slots.code c.frame.next to
        o
        first second w.memory.code w.body.slots.body there)

    abbrev pub outcome : OperationResult
    outcome = performed (is_hidden program.globals) o (register s.cpu Rax) (register s.cpu Rcx)
        c.store.memory

    pub made_here : Finished frame_here o to (seen_by_templates s) s.cpu.rip s.cpu.flags
        slots_now outcome
    made_here =
        finish_run frame_here o to (seen_by_templates s) s.cpu.rip s.cpu.flags slots_now
        (register s.cpu Rax) (register s.cpu Rcx)
        (room_here setting before c represents_before counted)
        (has_slots setting made.room before c represents_before counted here at_here).0
        (keeps_here setting made.room before c represents_before counted here at_here) first_small
        second_small operands_wait (sp_is setting made.room before c represents_before counted)
        (holds_here setting before c represents_before counted) code_here

    -- a run over what is left of its template leaves the parameters of a leaf function where they
    -- arrived
    pub finish_spared : (u : State) → Reaches (length (finish_code y o to)) s u → (i : ℕ)
        → i < y.arrivals → arrived_in u.cpu i ≡ arrived_in s.cpu i
    finish_spared u comes i lt =
        let name = c.frame.body in
        let there = represents_before.body.slots.body in
        let leaf = arrives_in_leaf t fs program p q image name body there i lt in
        let l = leaf_layout t fs program p q name body leaf
        (image.laid_out name body there) in
        let spare = each IsSpare body.code c.frame.next here l.spares at_here in
        run_spares (finish_code y o to) s u
        (encodable_of (finish_code y o to) (finish_fine y (counts_of body) (register s.cpu Rsp)
        (placed setting before c represents_before counted).base o to
        (room_here setting before c represents_before counted)
        (has_slots setting made.room before c represents_before counted here at_here).0))
        (rax_spares (finish_code y o to)
        (finish_rax y o to l.none l.in_frame
        (keeps_here setting made.room before c represents_before counted here at_here) spare))
        code_here comes (number (parameter_register i)) (parameter_number i)

    -- on the same numbers as in linear code
    module _ (x : OperationResult) (h : ComesTo program c o first second x) where
      holds_first : operands.has_first o ≡ true → register s.cpu Rax ≡ h.a
      holds_first reads =
          some_is (register s.cpu Rax) h.a (sym (w.again.has_first reads)
          ∙ subst (λ constant. operand constant c first ≡ Some h.a) (reads_first o reads)
          h.reads_first)

      holds_second : operands.has_second o ≡ true → register s.cpu Rcx ≡ h.b
      holds_second reads =
          some_is (register s.cpu Rcx) h.b (sym (w.again.has_second reads)
          ∙ subst (λ constant. operand constant c second ≡ Some h.b) (reads_second o reads)
          h.reads_second)

      pub same_outcome : IsSaid x → outcome ≡ x
      same_outcome said =
          performed_same (is_hidden program.globals) c.store.memory o (register s.cpu Rax)
          (register s.cpu Rcx) h.a h.b holds_first holds_second
          ∙ said_of_hidden program.globals o h.a h.b c.store.memory x said h.comes
