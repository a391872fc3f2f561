-- A run of a template of the body that runs, and the turn of linear code that it is.
use Rattle.std.proofs.Common.{◌≡◌, ℕ, ◌+◌, ◌^◌, ◌<◌, true, Option, Some, None, List, [], length, get_or, refl, sym, ap, subst, ◌∙◌}
use Rattle.std.specs.Prelude.{slice_get}
use Rattle.std.proofs.lemmas.Option.{slice_get_within, get_or_from_slice_get}
use Rattle.match_bodies.specs.Words.{Event, Rsp, State, register, distance, arrivals, Instruction, BodyState, LinearBody, BodyName, FuncletBody, Configuration, Layout, template, template_size, MachineView, machine, HasCode, ReachesBody, InstructionDone, Comes, HaveRoom, links_of, seen_by_templates, counts_of, frame_at, state_of, OwnerHasFrame, Setting, RepresentsAt, HasSlots, step, FramePlace, OtherRegisters, AreArrived, KeepsArrivals, IsSpare, IsReturn, Reaches, arrived_in, parameter_register}
use Rattle.match_bodies.proofs.Lemmas.{instruction_run, LabelsNear}
use Rattle.template_code.specs.ColdParts.{falls_through}
use Rattle.match_bodies.proofs.Places.LabelPlaces.{template_there, labels_near, code_ends, address_next}
use Rattle.x64_templates.specs.CallStates.{sp_of}
use Rattle.x64_instr.specs.Registers.{number}
use Rattle.x64_templates.proofs.SparedRegisters.{run_spares, template_spares, parameter_number}
use Rattle.x64_templates.proofs.Stretches.{template_encodable}
use Rattle.match_bodies.proofs.Places.StackTop.{leaf_layout, arrives_in_leaf}
use Rattle.match_bodies.proofs.Places.ArrivedParameters.{each, arriving_is, keeps_arrivals}
use Rattle.match_bodies.proofs.Walks.SilentTurns.{reaches_silently}
use Rattle.match_bodies.proofs.Places.HomeSpace.{CallerHasFrame}
use Rattle.match_bodies.proofs.Templates.TemplateShadows.{is_after, ends_at, RunsKeep}
use Rattle.match_bodies.proofs.Steps.BodyViews.{IsCounted, is_machine, room_here, holds_here, placed}
use Rattle.match_bodies.proofs.Keeping.ChainKeeping.{reaches_keeps, stays_well_formed}
use Rattle.match_bodies.proofs.Templates.TemplateSlots.{Leaves}
use Rattle.match_bodies.proofs.Places.NextSlots.{Ran}
use Rattle.match_bodies.proofs.Steps.NextInstruction.{further, represents_next}

pub get_or_is : {A : Type 0} → (xs : List A) (i : ℕ) (x d : A) → slice_get xs i ≡ Some x
    → (get_or xs i d ≡ x) × (i < length xs)
get_or_is xs i x d e = (get_or_from_slice_get xs i x d e, slice_get_within xs i x e)

-- nothing has landed
nothing : (landed : Option ℕ) (value : ℕ) → landed ≡ None → landed ≡ Some value → ⊥
nothing None value e f = cc
nothing (Some x) value e f = cc

-- ---- the body's code

module _ (setting : Setting) (roomy : HaveRoom setting.program) where
  open setting use {functions as t, funclets as fs, program, plan as p, sites as q, image}

  module _ (s : State) (c : Configuration) (b : RepresentsAt setting s c)
      (counted : IsCounted setting c) where
    abbrev pub code : LinearBody
    code = b.body.slots.code

    abbrev pub name : BodyName
    name = c.frame.body

    abbrev pub y : Layout
    y = p.layout c.frame.body

    abbrev pub v : MachineView
    v = seen_by_templates s

    abbrev pub base : ℕ
    base = (placed setting s c b counted).base

    abbrev pub frame : FramePlace
    frame = frame_at program p name code (register s.cpu Rsp) base (arrived_in s.cpu)

    abbrev pub slots : BodyState
    slots = state_of program p s c base

    pub same_state : s ≡ machine v s.cpu.rip s.cpu.flags
    same_state = is_machine s b.well_formed.count

    -- the template of an instruction
    pub template_here : (i : Instruction) → slice_get code.code c.frame.next ≡ Some i
        → HasCode s.memory s.cpu.rip (template (links_of p q name) y s.cpu.rip i)
    template_here i e =
        subst (λ x. HasCode s.memory x (template (links_of p q name) y x i)) (sym b.rip)
        (template_there setting name code b.body.slots.body s.memory b.memory.code c.frame.next i e)

    pub has_slots : (i : Instruction) → slice_get code.code c.frame.next ≡ Some i
        → HasSlots (counts_of code) i
    has_slots i e = each (HasSlots (counts_of code)) code.code c.frame.next i
        (roomy name code b.body.slots.body).slots e

    -- the next instruction is right after the template, where this one falls through
    pub next_address : (i : Instruction) → slice_get code.code c.frame.next ≡ Some i
        → falls_through i ≡ true
        → p.address name (c.frame.next + 1) ≡ s.cpu.rip + template_size y i
    next_address i e falls =
        address_next setting name code b.body.slots.body c.frame.next i e falls
        ∙ ap (λ n. n + template_size y i) (sym b.rip)

    -- where the instruction's code ends
    pub code_end : (i : Instruction) → slice_get code.code c.frame.next ≡ Some i
        → p.after name c.frame.next ≡ s.cpu.rip + template_size y i
    code_end i e = code_ends setting name code b.body.slots.body c.frame.next i e
        ∙ ap (λ n. n + template_size y i) (sym b.rip)

    -- the parameters that stay in registers are there
    pub are_here : AreArrived frame v
    are_here = λ i lt. arriving_is s i

    -- and the instruction's result goes to none of them
    pub keeps_here : (i : Instruction) → slice_get code.code c.frame.next ≡ Some i
        → KeepsArrivals y i
    keeps_here = keeps_arrivals setting name code b.body.slots.body c.frame.next

    pub sp_is : sp_of v ≡ register s.cpu Rsp
    sp_is = refl

    -- what the template of the instruction here does
    pub done : (i : Instruction) → slice_get code.code c.frame.next ≡ Some i
        → InstructionDone frame (links_of p q name) v s.cpu.rip s.cpu.flags slots i
        (step frame.reserved i slots)
    done i e =
        instruction_run frame (links_of p q name) i v s.cpu.rip s.cpu.flags slots
        (room_here setting s c b counted) (has_slots i e) (keeps_here i e) are_here
        (subst (λ x. LabelsNear (links_of p q name) y x i) (sym b.rip)
        (labels_near setting name code b.body.slots.body c.frame.next i e)) sp_is
        (holds_here setting s c b counted) (template_here i e)

    -- a run over the template leaves them where they are
    abbrev pub RunsSpare : ℕ → Type 0
    RunsSpare n = (u : State) → Reaches n s u → (i : ℕ) → i < y.arrivals
        → arrived_in u.cpu i ≡ arrived_in s.cpu i

    pub template_spared : (i : Instruction) → slice_get code.code c.frame.next ≡ Some i
        → (IsReturn i → ⊥) → RunsSpare (length (template (links_of p q name) y s.cpu.rip i))
    template_spared i e goes u comes j lt =
        let leaf = arrives_in_leaf t fs program p q image name code b.body.slots.body j lt in
        let l = leaf_layout t fs program p q name code leaf
        (image.laid_out name code b.body.slots.body) in
        let spare = each IsSpare code.code c.frame.next i l.spares e in
        let links = links_of p q name in
        let near = subst (λ a. LabelsNear links y a i) (sym b.rip)
        (labels_near setting name code b.body.slots.body c.frame.next i e) in
        run_spares (template links y s.cpu.rip i) s u
        (template_encodable frame links (room_here setting s c b counted) i s.cpu.rip
        (has_slots i e) near spare goes)
        (template_spares links y s.cpu.rip i l.none l.in_frame spare (keeps_here i e) goes)
        (template_here i e) comes (number (parameter_register j)) (parameter_number j)

    -- ---- a turn of linear code that stays in the body

    -- RIP at an instruction is at no funclet's first byte
    pub silent_at : (label rip : ℕ) → rip ≡ p.address name label → label < length code.code
        → rip < 2 ^ 64 → (u : State) → u.cpu.rip ≡ rip
        → arrivals u.cpu (distance t.base u.cpu.rip) 1 fs ≡ []
    silent_at label rip at lt small u here =
        let a = image.addresses name code b.body.slots.body in
        subst (λ r. arrivals u.cpu (distance t.base r) 1 fs ≡ []) (sym here)
        (image.funclets.none rip small (λ k inside e. a.not_first label k lt inside (sym at ∙ e))
        u.cpu)

    -- what holds below of a leaf's caller, and of the activation of a funclet
    pub record Surroundings : Type 0 where
      pub caller : p.leaf c.frame.body ≡ true → CallerHasFrame p c.below
      pub owner : (k : ℕ) → c.frame.body ≡ FuncletBody k
          → OwnerHasFrame t fs program p c.frame.activation c.below b.body.acts

    module _ (around : Surroundings) where
      -- a run of so many turns to an instruction of the body, with these slots
      pub to_label : (n label rip : ℕ) (d : BodyState) (values ts : List ℕ) (landed : Option ℕ)
          (events : List Event) → ReachesBody frame n s rip v.rest v.locals d → rip
          ≡ p.address name label
          → label < length code.code → rip < 2 ^ 64
          → Leaves p name code d (placed setting s c b counted).values values ts → landed ≡ None
          → RunsKeep setting s c b counted n s → RunsSpare n → (u : State) × (Comes t fs n s [] u) ×
          (RepresentsAt setting u (further setting c b.body.acts label values ts landed d.memory
          events))
      to_label n label rip d values ts landed events r at lt small leaves free keep spare =
          let u : State = machine r.after rip r.flags in
          let keeps = reaches_keeps n s u r.comes in
          let ran : Ran setting s c b counted u d values
          ts = record {
            changed = record { changes = r.changes; keeps = keeps };
            holds = r.holds;
            kept = record { rest = r.rest; locals = r.locals };
            leaves = leaves;
          } in
          let stack = ap (λ (o : OtherRegisters). o.rsp) r.rest in
          let ends = ends_at setting s c b counted u label at lt stack
          (is_after setting s c b counted u d values ts ran around.caller around.owner) in (
            u,
            reaches_silently t fs program p q image n s u r.comes (keep u r.comes ends)
                b.memory.code
                (silent_at label rip at lt small u refl),
            represents_next setting s c b counted u d values ts ran label landed events at lt
                (stays_well_formed s u keeps small b.well_formed)
                (λ value e. absurd (nothing landed value free e)) around.caller around.owner
                (spare u r.comes),
          )
