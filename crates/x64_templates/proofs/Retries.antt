-- A fault in a body, and the operation made again.
use Rattle.std.proofs.Common.{◌≡◌, ℕ, suc, ◌+◌, ◌^◌, ◌<◌, ◌≤◌, Bool, List, ◌++◌, length, get_or, Option, Some, sym, ap, subst, ◌∙◌, arith, length-append}
use Rattle.x64_templates.specs.Words.{OtherRegisters, Code, Flags, Slot, Instruction, Operation, BodyState, with_slot, OperationResult, Gives, Raises, Undefined, performed, InstructionEffect, Faults, step, run, HasSlots, Layout, MachineView, machine, sizes, operands_code, finish_code, Links, template, template_size, offset_of, HasOperands, HasCode, FramePlace, Roomy, FrameHolds, AreArrived, SparesArrivals, IsKept, KeepsArrivals, ChangesOwn, ReachesBody, Finished, InstructionDone, IsLinked, ReachesFault, KeepsUnused}
use Rattle.x64_templates.proofs.PlacedCode.{reaches_then}
use Rattle.linear_code.specs.declared.instruction.Instruction.TheVariants as instructions
use Rattle.x64_templates.proofs.Lemmas.{sizes_append, compute_length, template_sizes, offset_next}
use Rattle.x64_templates.proofs.Cells.{sp_of}
use Rattle.x64_templates.proofs.Computes.{code_split, finish_run}
use Rattle.x64_templates.proofs.Linked.{template_placed}
use Rattle.x64_templates.proofs.InstructionRuns.{body_instruction_run}
use Rattle.x64_templates.proofs.Stretches.{linked_stays, body_runs}
use Rattle.x64_templates.specs.Retries.{FaultsAfter, Retried}

refused : (p : FramePlace) (k : Links) (instruction : Instruction) (to first second : Slot)
    (o : Operation) (v : MachineView) (here : ℕ) (f : Flags) (b : BodyState) (s : InstructionEffect)
    (code : Code) (access : Option (Bool × ℕ))
    → instruction ≡ instructions.Compute to o first second → s ≡ Faults code access
    → InstructionDone p k v here f b instruction s
    → ReachesFault (length (operands_code p.layout o first second)) v here f
    (here + sizes (operands_code p.layout o first second)) o (b.slots first) (b.slots second) code
    access
refused p k instruction to first second o v here f b s code access is e done = subst
    (λ t. InstructionDone p k v here f b (instructions.Compute to o first second) t) e
    (subst (λ l. InstructionDone p k v here f b l s) is done)

few_operands : (y : Layout) (to : Slot) (o : Operation) (first second : Slot)
    → length (operands_code y o first second) ≤ 16
few_operands y to o first second = let l = compute_length y to o first second in
    omega (arith, length-append (operands_code y o first second) (finish_code y o to))

pub body_faults : (p : FramePlace) (k : Links) (start : ℕ) (body : List Instruction) (n number : ℕ)
    (v : MachineView) (f : Flags) (b : BodyState) (last : ℕ) (c : BodyState)
    (to first second : Slot) (o : Operation) (code : Code) (access : Option (Bool × ℕ)) → Roomy p
    → SparesArrivals p.layout body → IsLinked p k v.memory start body → AreArrived p v
    → sp_of v ≡ p.sp → FrameHolds p v.locals v.memory b
    → run p.reserved body n number b ≡ Some (last, c) → last < length body
    → get_or body last instructions.Separator ≡ instructions.Compute to o first second
    → step p.reserved (instructions.Compute to o first second) c ≡ Faults code access
    → FaultsAfter p n v (start + offset_of p.layout body number) f
    (start + offset_of p.layout body last + sizes (operands_code p.layout o first second)) o
    (c.slots first) (c.slots second) code access c
body_faults p k start body n number v f b last c to first second o code access room sparing l
    arrived at h runs lt is e =
    let g = body_runs p k start body n room sparing number v f b last c l arrived at h runs in
    let w = g.follows.after in
    let here = start + offset_of p.layout body last in
    let l' = linked_stays p k v.locals v.memory w.memory start body b g.follows.changes h l in
    let at' = ap (λ (r : OtherRegisters). r.rsp) g.follows.rest ∙ at in
    let done = body_instruction_run p k start body last w g.follows.flags c room l'.labels l'.small
    l'.high lt (l'.slots last lt) (l'.kept last lt) g.arrived at' g.follows.holds l'.code in
    let instruction = get_or body last instructions.Separator in
    let r = refused p k instruction to first second o w here g.follows.flags c
    (step p.reserved instruction c) code access is
    (ap (λ (x : Instruction). step p.reserved x c) is ∙ e) done in
    let few = few_operands p.layout to o first second in
    let least = g.least in
    let most = g.most in
    record {
      turns = g.turns + length (operands_code p.layout o first second);
      least = omega arith;
      most = omega arith;
      stopped = r.stopped;
      left = r.left;
      comes = reaches_then g.turns (length (operands_code p.layout o first second))
          (machine v (start + offset_of p.layout body number) f) (machine w here g.follows.flags)
          (machine r.stopped (here + sizes (operands_code p.layout o first second)) r.left)
          g.follows.comes r.comes;
      waits = r.waits;
      rest = r.rest ∙ g.follows.rest;
      locals = subst (KeepsUnused p.layout v.locals) (sym r.locals) g.follows.locals;
      holds = subst (λ l. FrameHolds p l r.stopped.memory c) (sym r.locals)
          (subst (λ m. FrameHolds p w.locals m c) (sym r.memory) g.follows.holds);
      changes = subst (λ m. ChangesOwn p v.memory m) (sym r.memory) g.follows.changes;
      fault = r.fault;
    }

retried_by : (p : FramePlace) (next : ℕ) (to : Slot) (o : Operation) (v : MachineView) (at : ℕ)
    (f : Flags) (b : BodyState) (outcome : OperationResult)
    → at + sizes (finish_code p.layout o to) ≡ next → Finished p o to v at f b outcome
    → Retried p next to o v at f b outcome
retried_by p next to o v at f b (Gives x m) e g = subst
    (λ a. ReachesBody p (length (finish_code p.layout o to)) (machine v at f) a v.rest v.locals
    (record { slots = with_slot b.slots to x; memory = m })) e g
retried_by p next to o v at f b (Raises code access) e g = g
retried_by p next to o v at f b (Undefined a) e g = tt

pub body_retries : (p : FramePlace) (k : Links) (start : ℕ) (body : List Instruction) (number : ℕ)
    (v : MachineView) (f : Flags) (b : BodyState) (to first second : Slot) (o : Operation) (x y : ℕ)
    → Roomy p → IsLinked p k v.memory start body → number < length body
    → get_or body number instructions.Separator ≡ instructions.Compute to o first second
    → x < 2 ^ 64 → y < 2 ^ 64 → HasOperands o x y v → sp_of v ≡ p.sp
    → FrameHolds p v.locals v.memory b
    → Retried p (start + offset_of p.layout body (suc number)) to o v
    (start + offset_of p.layout body number + sizes (operands_code p.layout o first second)) f b
    (performed p.reserved o x y b.memory)
body_retries p k start body number v f b to first second o x y room l lt is lx ly waits at h =
    let here = start + offset_of p.layout body number in
    let ops = operands_code p.layout o first second in
    let fin = finish_code p.layout o to in
    let is_there = template_placed k p.layout v.memory start body number instructions.Separator
    l.code lt in
    let code : HasCode v.memory here (ops ++ fin) = subst
    (λ instruction. HasCode v.memory here (template k p.layout here instruction)) is is_there in
    let parts = code_split v.memory here ops fin code in
    let has : HasSlots p.counts (instructions.Compute to o first second) = subst
    (λ instruction. HasSlots p.counts instruction) is (l.slots number lt) in
    let kept : IsKept p.layout to = subst (KeepsArrivals p.layout) is (l.kept number lt) in
    let g = finish_run p o to v (here + sizes ops) f b x y room has.0 kept lx ly waits at h
    parts.1 in
    let s : sizes (ops ++ fin) ≡ template_size p.layout
    (get_or body number instructions.Separator) = template_sizes k p.layout here
    (instructions.Compute to o first second) ∙ sym (ap (template_size p.layout) is) in
    let o' = offset_next p.layout body number instructions.Separator lt in
    let next : here + sizes ops + sizes fin ≡ start
    + offset_of p.layout body (suc number) = omega (arith, sizes_append ops fin) in
    retried_by p (start + offset_of p.layout body (suc number)) to o v (here + sizes ops) f b
    (performed p.reserved o x y b.memory) next g
