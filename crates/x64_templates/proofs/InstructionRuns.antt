-- Every instruction that needs no dispatcher does what it means, wherever its template is placed.
use Rattle.std.proofs.Common.{◌≡◌, ℕ, zero, suc, ◌+◌, ◌^◌, ◌<◌, ◌≤◌, Bool, true, false, cond, eqb, List, [], ◌∷◌, length, get_or, Option, Some, None, refl, sym, subst, ◌∙◌, arith, length-append}
use Rattle.x64_templates.specs.Words.{Place, InRegister, InFrame, Arriving, place_of, keep_placed, Rax, Flags, Slot, Local, Temporary, Operation, Instruction, BodyState, with_slot, OperationResult, Gives, Raises, Undefined, performed, Next, JumpsTo, kept, step, HasSlots, Layout, MachineView, machine, size, sizes, work, fetch, keep, keep_local, local_at, operands_code, finish_code, compute_code, compare_zero, jump_equal, jump_if_zero_code, test_code, IsNear, Links, template, template_size, offset_of, code_from, HasCode, FramePlace, Roomy, FrameHolds, AreArrived, KeepsArrivals, ReachesBody, Computed, InstructionDone, nowhere, body_size, HasLabels}
use Rattle.linear_code.specs.declared.instruction.Instruction.TheVariants as instructions
use Rattle.x64_templates.proofs.Cells.{sp_of}
use Rattle.x64_templates.proofs.Lemmas.{fetch_length, compute_length, jump_if_zero_size, template_sizes, offset_next}
use Rattle.x64_templates.proofs.Computes.{compute_run}
use Rattle.x64_templates.proofs.Jumps.{jump_run, separator_run, jump_if_zero_comes}
use Rattle.x64_templates.proofs.Linked.{template_placed}

-- ---- turns

keep_local_some : (o : Option ℕ) (d : ℕ) → 1 ≤ length (keep_local o d)
keep_local_some None d = omega arith
keep_local_some (Some b) d = omega arith

keep_placed_some : (y : Layout) (i : ℕ) (p : Place) → 1 ≤ length (keep_placed y i p)
keep_placed_some y i (InRegister r) = omega arith
keep_placed_some y i Arriving = omega arith
keep_placed_some y i InFrame = keep_local_some y.base (local_at y i)

keep_some : (y : Layout) (x : Slot) → 1 ≤ length (keep y x)
keep_some y (Temporary i) = omega arith
keep_some y (Local i) = keep_placed_some y i (place_of y i)

compute_some : (y : Layout) (to : Slot) (o : Operation) (first second : Slot)
    → 1 ≤ length (compute_code y to o first second)
compute_some y to o first second = let k = keep_some y to in
    omega (
      arith,
      length-append (operands_code y o first second) (finish_code y o to),
      length-append (work o) (keep y to),
    )

-- ---- by the outcome

compute_done : (p : FramePlace) (k : Links) (to : Slot) (o : Operation) (first second : Slot)
    (v : MachineView) (here : ℕ) (f : Flags) (b : BodyState) (outcome : OperationResult)
    → Computed p to o first second v here f b (kept to b.slots outcome)
    → InstructionDone p k v here f b (instructions.Compute to o first second)
    (kept to b.slots outcome)
compute_done p k to o first second v here f b (Gives x m) g =
    record {
      least = compute_some p.layout to o first second;
      most = let l = compute_length p.layout to o first second in omega arith;
      follows = subst (λ n. ReachesBody p (length (compute_code p.layout to o first second))
          (machine v here f) (here + n) v.rest v.locals (record
          { slots = with_slot b.slots to x; memory = m }))
          (template_sizes nowhere p.layout here (instructions.Compute to o first second)) g;
    }
compute_done p k to o first second v here f b (Raises code access) g = g
compute_done p k to o first second v here f b (Undefined a) g = tt

branch_done : (p : FramePlace) (k : Links) (slot : Slot) (label : ℕ) (v : MachineView) (here : ℕ)
    (f : Flags) (b : BodyState) (z : Bool) → ReachesBody p
    (length (jump_if_zero_code p.layout slot here (k.label label))) (machine v here f)
    (cond z (k.label label) (here + sizes (test_code p.layout slot) + 6)) v.rest v.locals b
    → InstructionDone p k v here f b (instructions.JumpIfZero slot label)
    (cond z (JumpsTo b label) (Next b))
branch_done p k slot label v here f b true g =
    let l = fetch_length p.layout Rax slot in
    record {
      least = omega (
        arith,
        length-append (fetch p.layout Rax slot)
            (compare_zero ∷ jump_equal (here + sizes (test_code p.layout slot) + 6) (k.label label)
            ∷ []),
      );
      most = omega (
        arith,
        length-append (fetch p.layout Rax slot)
            (compare_zero ∷ jump_equal (here + sizes (test_code p.layout slot) + 6) (k.label label)
            ∷ []),
      );
      follows = g;
    }
branch_done p k slot label v here f b false g =
    let l = fetch_length p.layout Rax slot in
    let e : sizes (test_code p.layout slot) + 6
    ≡ template_size p.layout (instructions.JumpIfZero slot label) = sym
    (jump_if_zero_size p.layout slot here (k.label label))
    ∙ template_sizes k p.layout here (instructions.JumpIfZero slot label) in
    let z : here + sizes (test_code p.layout slot) + 6
    ≡ here + template_size p.layout (instructions.JumpIfZero slot label) = omega arith in
    record {
      least = omega (
        arith,
        length-append (fetch p.layout Rax slot)
            (compare_zero ∷ jump_equal (here + sizes (test_code p.layout slot) + 6) (k.label label)
            ∷ []),
      );
      most = omega (
        arith,
        length-append (fetch p.layout Rax slot)
            (compare_zero ∷ jump_equal (here + sizes (test_code p.layout slot) + 6) (k.label label)
            ∷ []),
      );
      follows = subst (λ a. ReachesBody p (length
          (jump_if_zero_code p.layout slot here (k.label label))) (machine v here f) a v.rest
          v.locals b) z
          g;
    }

-- the labels that an instruction goes to are near to the end of its template
abbrev pub LabelsNear : Links → Layout → ℕ → Instruction → Type 0
LabelsNear k y here (instructions.Jump label) = IsNear
    (here + template_size y (instructions.Jump label)) (k.label label)
LabelsNear k y here (instructions.JumpIfZero slot label) = IsNear
    (here + template_size y (instructions.JumpIfZero slot label)) (k.label label)
LabelsNear k y here instruction = Unit {0}

pub jump_template : (y : Layout) (here label : ℕ)
    → here + 5 ≡ here + template_size y (instructions.Jump label)
unfolding template_size size
jump_template y here label = refl

pub instruction_run : (p : FramePlace) (k : Links) (instruction : Instruction) (v : MachineView)
    (here : ℕ) (f : Flags) (b : BodyState) → Roomy p → HasSlots p.counts instruction
    → KeepsArrivals p.layout instruction → AreArrived p v
    → LabelsNear k p.layout here instruction → sp_of v ≡ p.sp → FrameHolds p v.locals v.memory b
    → HasCode v.memory here (template k p.layout here instruction)
    → InstructionDone p k v here f b instruction (step p.reserved instruction b)
instruction_run p k (instructions.Compute to o first second) v here f b room has kept arrived near
    at h code =
    compute_done p k to o first second v here f b
    (performed p.reserved o (b.slots first) (b.slots second) b.memory)
    (compute_run p to o first second v here f b room has.0 has.1 has.2 kept arrived at h code)
instruction_run p k (instructions.Jump label) v here f b room has kept arrived near at h code =
    record {
      least = omega arith;
      most = omega arith;
      follows = jump_run p v here (k.label label) f b
          (subst (λ a. IsNear a (k.label label)) (sym (jump_template p.layout here label)) near) h
          code;
    }
instruction_run p k (instructions.JumpIfZero slot label) v here f b room has kept arrived near at h
    code =
    let e : sizes (test_code p.layout slot) + 6
    ≡ template_size p.layout (instructions.JumpIfZero slot label) = sym
    (jump_if_zero_size p.layout slot here (k.label label))
    ∙ template_sizes k p.layout here (instructions.JumpIfZero slot label) in
    let z : here + template_size p.layout (instructions.JumpIfZero slot label)
    ≡ here + sizes (test_code p.layout slot) + 6 = omega arith in
    branch_done p k slot label v here f b (eqb (b.slots slot) 0)
    (jump_if_zero_comes p slot v here (k.label label) f b (eqb (b.slots slot) 0) refl room has
    arrived at
    (subst (λ a. IsNear a (k.label label)) z near) h code)
instruction_run p k instructions.Separator v here f b room has kept arrived near at h code =
    record {
      least = omega arith;
      most = omega arith;
      follows = subst (λ n. ReachesBody p 1 (machine v here f) (here + n) v.rest v.locals b)
          (template_sizes k p.layout here instructions.Separator)
          (separator_run p v here f b h code);
    }
instruction_run p k (instructions.Information to field) v here f b room has kept arrived near at h
    code = tt
instruction_run p k (instructions.Landing to) v here f b room has kept arrived near at h code = tt
instruction_run p k (instructions.Call function first count) v here f b room has kept arrived near
    at h code = tt
instruction_run p k (instructions.CallBuiltIn function first) v here f b room has kept arrived near
    at h code =
    tt
instruction_run p k (instructions.CallFinally funclet) v here f b room has kept arrived near at h
    code = tt
instruction_run p k (instructions.LocalUnwind label) v here f b room has kept arrived near at h code
    = tt
instruction_run p k (instructions.Return from) v here f b room has kept arrived near at h code = tt

-- ---- inside a body

pub body_most : (y : Layout) (body : List Instruction) (number : ℕ)
    → offset_of y body number ≤ body_size y body
body_most y [] zero = omega arith
body_most y [] (suc number) = omega arith
body_most y (instruction ∷ more) zero = omega arith
body_most y (instruction ∷ more) (suc number) = let r = body_most y more number in omega arith

-- addresses in one body of less than 2 GiB are near to each other
inside : (start n a b : ℕ) → start + n < 2 ^ 48 → n < 2 ^ 31 → a ≤ n → b ≤ n
    → IsNear (start + a) (start + b)
inside start n a b high small la lb = (omega arith, omega arith, omega arith, omega arith)

-- those of an instruction in a body are
pub labels_near : (k : Links) (y : Layout) (start : ℕ) (body : List Instruction) (number : ℕ)
    (instruction : Instruction) → HasLabels k y start body → start + body_size y body < 2 ^ 48
    → body_size y body < 2 ^ 31 → offset_of y body number + template_size y instruction
    ≤ body_size y body → LabelsNear k y (start + offset_of y body number) instruction
labels_near k y start body number (instructions.Jump label) is high small le =
    let near = inside start (body_size y body)
    (offset_of y body number + template_size y (instructions.Jump label)) (offset_of y body label)
    high small le (body_most y body label) in
    let z : start + (offset_of y body number + template_size y (instructions.Jump label))
    ≡ start + offset_of y body number + template_size y (instructions.Jump label) = omega arith in
    subst (λ a. IsNear a (k.label label)) z (subst
    (IsNear (start + (offset_of y body number + template_size y (instructions.Jump label))))
    (sym (is label)) near)
labels_near k y start body number (instructions.JumpIfZero slot label) is high small le =
    let near = inside start (body_size y body)
    (offset_of y body number + template_size y (instructions.JumpIfZero slot label))
    (offset_of y body label) high small le (body_most y body label) in
    let z : start + (offset_of y body number + template_size y (instructions.JumpIfZero slot label))
    ≡ start + offset_of y body number + template_size y
    (instructions.JumpIfZero slot label) = omega arith in
    subst (λ a. IsNear a (k.label label)) z (subst
    (IsNear (start + (offset_of y body number
    + template_size y (instructions.JumpIfZero slot label)))) (sym (is label)) near)
labels_near k y start body number instruction is high small le = tt

-- the instruction of a number in a body
pub body_instruction_run : (p : FramePlace) (k : Links) (start : ℕ) (body : List Instruction)
    (number : ℕ) (v : MachineView) (f : Flags) (b : BodyState) → Roomy p
    → HasLabels k p.layout start body → body_size p.layout body < 2 ^ 31
    → start + body_size p.layout body < 2 ^ 48 → number < length body
    → HasSlots p.counts (get_or body number instructions.Separator)
    → KeepsArrivals p.layout (get_or body number instructions.Separator) → AreArrived p v
    → sp_of v ≡ p.sp
    → FrameHolds p v.locals v.memory b → HasCode v.memory start (code_from k p.layout start body)
    → InstructionDone p k v (start + offset_of p.layout body number) f b
    (get_or body number instructions.Separator)
    (step p.reserved (get_or body number instructions.Separator) b)
body_instruction_run p k start body number v f b room is small high lt has kept arrived at h code =
    let y = p.layout in
    let instruction = get_or body number instructions.Separator in
    let here = start + offset_of y body number in
    let next = offset_next y body number instructions.Separator lt in
    let most = body_most y body (suc number) in
    instruction_run p k instruction v here f b room has kept arrived
    (labels_near k y start body number instruction is high small (omega arith)) at h
    (template_placed k y v.memory start body number instructions.Separator code lt)
