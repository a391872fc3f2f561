-- Each turn of the run of an instruction's template keeps the shadow.
use Rattle.std.proofs.Common.{◌≡◌, ℕ, ◌+◌, ◌^◌, ◌<◌, ◌≤◌, List, [], ◌++◌, Option, Some, None, length, refl, sym, ap, subst, ◌∙◌, arith, length-append, append_assoc}
use Rattle.std.specs.Prelude.{slice_get}
use Rattle.match_bodies.specs.Words.{Memory, Rsp, Instr, State, register, Operation, Gives, performed, is_hidden, Slot, Local, Temporary, Instruction, LinearBody, Configuration, Layout, size, sizes, local_at, keep_local, keep, operands_code, finish_code, compute_code, IsNear, template, template_size, local_registers, other_registers, MachineView, machine, Reaches, FrameHolds, HasCode, AllKeep, HaveRoom, links_of, counts_of, Setting, RepresentsAt, work, test_code, information_code, Place, InRegister, InFrame, Arriving, place_of, keep_placed}
use Rattle.c_operations.specs.declared.field.Field.{Field}
use Rattle.linear_code.specs.declared.instruction.Instruction.TheVariants as instructions
use Rattle.match_bodies.proofs.Lemmas.{sizes_append, template_sizes, jump_if_zero_size, rest_of, code_split, Begun, operands_run, Worked, work_run, work_flow, separator_flow, jump_flow, keep_flow, operands_flow, information_flow, jump_if_zero_flow}
use Rattle.x64_templates.specs.Exceptions.{IsField}
use Rattle.x64_templates.specs.Implements.{HasOperands}
use Rattle.match_bodies.proofs.Templates.TemplatePieces.{piece_there}
use Rattle.match_bodies.proofs.Steps.BodyViews.{IsCounted, placed, room_here, holds_here}
use Rattle.match_bodies.proofs.Keeping.ChainKeeping.{Keeps, keeps_then, reaches_keeps}
use Rattle.match_bodies.proofs.Templates.TemplateShadows.{kept_by_view, kept_here, Below, is_here, is_after, ran_same, RunsKeep, whole, IsPast, past_none, one_piece, piece_to, piece_then, near_here}
use Rattle.match_bodies.proofs.Templates.TemplateRuns.{code, frame, slots, v, same_state, template_here, sp_is, are_here, has_slots, Surroundings}

jump_size : (y : Layout) (at label : ℕ) → at + template_size y (instructions.Jump label) ≡ at + 5
unfolding template_size size
jump_size y at label = refl

keep_some : (y : Layout) (x : Slot) → 1 ≤ length (keep y x)
keep_some y (Temporary i) = omega arith
keep_some y (Local i) = placed (place_of y i)
  where
    by : (o : Option ℕ) → 1 ≤ length (keep_local o (local_at y i))
    by None = omega arith
    by (Some b) = omega arith

    placed : (q : Place) → 1 ≤ length (keep_placed y i q)
    placed (InRegister s) = omega arith
    placed InFrame = by y.base
    placed Arriving = omega arith

pub finish_some : (y : Layout) (o : Operation) (x : Slot) → 1 ≤ length (finish_code y o x)
finish_some y o x = let k = keep_some y x in omega (arith, length-append (work o) (keep y x))

module _ (setting : Setting) (roomy : HaveRoom setting.program) (s : State)
    (c : Configuration) (b : RepresentsAt setting s c) (counted : IsCounted setting c) where
  open setting use {functions as t, funclets as fs, program, plan as p, sites as q}

  abbrev body : LinearBody
  body = code setting roomy s c b counted

  abbrev layout : Layout
  layout = p.layout c.frame.body

  abbrev here : ℕ
  here = p.address c.frame.body c.frame.next

  abbrev Keeping : ℕ → State → Type 0
  Keeping = RunsKeep setting s c b counted

  abbrev base : ℕ
  base = (placed setting s c b counted).base

  pub separator_keeps : slice_get body.code c.frame.next ≡ Some instructions.Separator → Keeping 1 s
  separator_keeps at = one_piece setting s c b counted instructions.Separator at (λ h. h) []
      (whole setting s c b counted instructions.Separator at (λ h. h)) s refl separator_flow
      (past_none setting s c b counted instructions.Separator at (λ h. h))

  pub jump_keeps : (label : ℕ) → slice_get body.code c.frame.next ≡ Some (instructions.Jump label)
      → Keeping 1 s
  jump_keeps label at =
      let i = instructions.Jump label in
      let near = subst (λ a. IsNear a (p.address c.frame.body label)) (jump_size layout here label)
      (near_here setting s c b counted i at (λ h. h)) in
      one_piece setting s c b counted i at (λ h. h) []
      (whole setting s c b counted i at (λ h. h)) s refl
      (jump_flow here (p.address c.frame.body label) near)
      (past_none setting s c b counted i at (λ h. h))

  pub jump_if_zero_keeps : (slot : Slot) (label : ℕ)
      → slice_get body.code c.frame.next ≡ Some (instructions.JumpIfZero slot label)
      → Keeping (length (template (links_of p q c.frame.body) layout s.cpu.rip
      (instructions.JumpIfZero slot label))) s
  jump_if_zero_keeps slot label at =
      let i = instructions.JumpIfZero slot label in
      let links = links_of p q c.frame.body in
      let room = room_here setting s c b counted in
      let there = has_slots setting roomy s c b counted i at in
      let e : sizes (test_code layout slot) + 6
      ≡ template_size layout i = sym (jump_if_zero_size layout slot here
      (p.address c.frame.body label)) ∙ template_sizes links layout here i in
      let z : here + template_size layout i ≡ here + sizes (test_code layout slot)
      + 6 = omega arith in
      let near = subst (λ a. IsNear a (p.address c.frame.body label)) z
      (near_here setting s c b counted i at (λ h. h)) in
      subst (λ a. Keeping (length (template links layout a i)) s) (sym b.rip)
      (one_piece setting s c b counted i at (λ h. h) []
      (whole setting s c b counted i at (λ h. h)) s refl
      (jump_if_zero_flow layout (counts_of body) (register s.cpu Rsp) base room slot here
      (p.address c.frame.body label) there near)
      (past_none setting s c b counted i at (λ h. h)))

  pub landing_keeps : (to : Slot) → slice_get body.code c.frame.next
      ≡ Some (instructions.Landing to) → Keeping (length (keep layout to)) s
  landing_keeps to at =
      let i = instructions.Landing to in
      let room = room_here setting s c b counted in
      one_piece setting s c b counted i at (λ h. h) [] (keep layout to) s refl
      (keep_flow layout (counts_of body) (register s.cpu Rsp) base room to
      (has_slots setting roomy s c b counted i at)) (past_none setting s c b counted i at (λ h. h))

  pub information_keeps : (to : Slot) (field : Field)
      → slice_get body.code c.frame.next ≡ Some (instructions.Information to field) → IsField field
      → layout.pointers < 2 ^ 31 → Keeping (length (information_code layout to field)) s
  information_keeps to field at is small =
      let i = instructions.Information to field in
      let room = room_here setting s c b counted in
      one_piece setting s c b counted i at (λ h. h) []
      (information_code layout to field) s refl
      (information_flow layout (counts_of body) (register s.cpu Rsp) base room to field
      (has_slots setting roomy s c b counted i at) is small)
      (past_none setting s c b counted i at (λ h. h))

  -- ---- operations

  module _ (around : Surroundings setting roomy s c b counted) (to : Slot)
      (o : Operation) (first second : Slot) (at : slice_get body.code c.frame.next
      ≡ Some (instructions.Compute to o first second)) where
    abbrev here_now : Instruction
    here_now = instructions.Compute to o first second

    abbrev ops : List Instr
    ops = operands_code layout o first second

    abbrev Past : List Instr → State → Type 0
    Past = IsPast setting s c b counted here_now at (λ h. h)

    -- from where the operands wait, on the source's memory
    module _ (x : State) (view : MachineView) (is : x ≡ machine view x.cpu.rip x.cpu.flags)
        (past : Past ops x) (rest : view.rest ≡ other_registers s.cpu.registers)
        (locals : view.locals ≡ local_registers s.cpu.registers)
        (same : view.memory ≡ s.memory) (keeps : Keeps s x)
        (m n value : ℕ) (source : Memory) (m_small : m < 2 ^ 64) (n_small : n < 2 ^ 64)
        (waits : HasOperands o m n view) (gives : performed (is_hidden program.globals) o m n
        c.store.memory ≡ Gives value source) where
      code_there : HasCode view.memory x.cpu.rip (work o)
      code_there =
          let has = subst (λ (k : Memory). HasCode k (here + sizes ops) (work o)) (sym same)
          (piece_there setting c.frame.body body c.frame.next here_now b.body.slots.body at (λ h. h)
          ops (work o) (keep layout to) refl s.memory b.memory.code) in
          subst (λ a. HasCode view.memory a (work o)) (sym past.rip) has

      worked : Worked (frame setting roomy s c b counted) o view x.cpu.rip x.cpu.flags value source
      worked = work_run (frame setting roomy s c b counted) o view x.cpu.rip x.cpu.flags
          (slots setting roomy s c b counted) m n value source m_small n_small waits
          (subst (λ l. FrameHolds (frame setting roomy s c b counted) l view.memory
          (slots setting roomy s c b counted)) (sym locals)
          (subst (λ (k : Memory). FrameHolds (frame setting roomy s c b counted)
          (local_registers s.cpu.registers) k
          (slots setting roomy s c b counted)) (sym same) (holds_here setting s c b counted)))
          code_there gives

      abbrev mid : State
      mid = machine (record view {
        rax = value;
        rcx = worked.result.yields.rcx;
        rdx = worked.result.yields.rdx;
        memory = worked.result.after;
      })
          (x.cpu.rip + sizes (work o)) worked.left

      comes : Reaches (length (work o)) x mid
      comes = subst (λ (z : State). Reaches (length (work o)) z mid) (sym is) worked.comes

      past_work : Past (ops ++ work o) mid
      past_work =
          let e = past.rip in
          let registers = kept_by_view view s.cpu.registers rest locals in
          let kept = keeps_then s x mid keeps (reaches_keeps (length (work o)) x mid comes) in
          let ran = ran_same setting s c b counted mid source kept
          (λ a h. worked.result.own a h ∙ ap (λ (k : Memory). k.byte a) same)
          (λ h. worked.result.bytes (subst (λ (k : Memory). (a : ℕ) → k.byte a < 256) (sym same) h))
          worked.result.agrees rest locals in
          record {
            rip = omega (arith, sizes_append ops (work o));
            registers = registers;
            is_there = subst (λ (ks : List ℕ). Below setting s c b counted ks mid.memory) registers
                (is_after setting s c b counted mid _ _ [] ran around.caller around.owner);
          }

      -- the rest of the template
      pub finish_keeps : Keeping (length (finish_code layout o to)) x
      finish_keeps u r ends =
          let room = room_here setting s c b counted in
          let there = has_slots setting roomy s c b counted here_now at in
          let parts : whole setting s c b counted here_now at (λ h. h)
          ≡ (ops ++ work o) ++ keep layout to = sym
          (append_assoc ops (work o) (keep layout to)) in
          let rest = rest_of (length (work o)) (length (keep layout to))
          (length (finish_code layout o to)) x mid u (length-append (work o) (keep layout to))
          comes r in
          piece_then setting s c b counted here_now at (λ h. h) ops (work o) (keep layout to) x mid
          refl (work_flow o) (keep_some layout to) past comes past_work
          (one_piece setting s c b counted here_now at (λ h. h) (ops ++ work o) (keep layout to) mid
          parts (keep_flow layout (counts_of body) (register s.cpu Rsp) base room to there.0)
          past_work u rest ends)

    -- from where the instruction begins
    abbrev begun : Begun (frame setting roomy s c b counted) o first second
        (v setting roomy s c b counted) s.cpu.rip s.cpu.flags (slots setting roomy s c b counted)
    begun =
        let there = has_slots setting roomy s c b counted here_now at in
        operands_run (frame setting roomy s c b counted) o first second
        (v setting roomy s c b counted) s.cpu.rip s.cpu.flags (slots setting roomy s c b counted)
        (room_here setting s c b counted) there.1 there.2 (are_here setting roomy s c b counted)
        (sp_is setting roomy s c b counted) (holds_here setting s c b counted)
        (code_split s.memory s.cpu.rip ops (finish_code layout o to)
        (template_here setting roomy s c b counted here_now at)).0

    abbrev fetched : State
    fetched = machine begun.stopped (s.cpu.rip + sizes ops) begun.left

    comes_there : Reaches (length ops) s fetched
    comes_there = subst (λ (z : State). Reaches (length ops) z fetched)
        (sym (same_state setting roomy s c b counted)) begun.comes

    past_operands : Past ops fetched
    past_operands =
        let e = b.rip in
        record {
          rip = omega arith;
          registers = kept_by_view begun.stopped s.cpu.registers begun.rest begun.locals;
          is_there = subst (Below setting s c b counted (kept_here setting s c b counted))
              (sym begun.memory)
              (is_here setting s c b counted);
        }

    -- up to where the operands wait
    pub operands_keep : (u : State) → Reaches (length ops) s u → Past ops u
        → AllKeep t fs (length ops) s
    operands_keep u r past =
        let there = has_slots setting roomy s c b counted here_now at in
        piece_to setting s c b counted here_now at (λ h. h) [] ops (finish_code layout o to) s u
        refl (operands_flow layout (counts_of body) (register s.cpu Rsp) base
        (room_here setting s c b counted) o first second there.1 there.2) (finish_some layout o to)
        (past_none setting s c b counted here_now at (λ h. h)) r past

    pub compute_keeps : (value : ℕ) (source : Memory)
        → performed (is_hidden program.globals) o
        ((slots setting roomy s c b counted).slots first)
        ((slots setting roomy s c b counted).slots second) c.store.memory ≡ Gives value source
        → Keeping (length (compute_code layout to o first second)) s
    compute_keeps value source gives u r ends =
        let now = slots setting roomy s c b counted in
        let held = holds_here setting s c b counted in
        let there = has_slots setting roomy s c b counted here_now at in
        let rest = rest_of (length ops) (length (finish_code layout o to))
        (length (compute_code layout to o first second)) s fetched u
        (length-append ops (finish_code layout o to)) comes_there r in
        piece_then setting s c b counted here_now at (λ h. h) [] ops (finish_code layout o to) s
        fetched refl (operands_flow layout (counts_of body) (register s.cpu Rsp) base
        (room_here setting s c b counted) o first second there.1 there.2) (finish_some layout o to)
        (past_none setting s c b counted here_now at (λ h. h)) comes_there past_operands
        (finish_keeps fetched begun.stopped refl past_operands begun.rest begun.locals begun.memory
        (reaches_keeps (length ops) s fetched comes_there) (now.slots first) (now.slots second)
        value source (held.small first there.1) (held.small second there.2) begun.waits gives u
        rest ends)
