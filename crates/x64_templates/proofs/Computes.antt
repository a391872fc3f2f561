-- The code of an operation does what the operation means.
use Rattle.std.proofs.Common.{◌≡◌, ℕ, ◌+◌, ◌%◌, ◌^◌, ◌<◌, ◌≤◌, Bool, true, false, List, [], ◌∷◌, ◌++◌, length, Option, Some, Err, refl, sym, ap, subst, ◌∙◌, arith, length-append}
use Rattle.std.specs.Prelude.{if◌then◌else◌}
use Rattle.std.proofs.lemmas.Grind.{flat_map-append}
use Rattle.x64_templates.specs.Words.{Code, Memory, executable, Rax, Rcx, Instr, IsEncoding, leading, chosen, Flags, State, with_rip, effect, IsCodeAt, IsPlaced, spelled, Slot, Operation, BodyState, with_slot, OperationResult, Gives, Raises, Undefined, performed, step, kept, LocalRegisters, OtherRegisters, MachineView, machine, Executes, size, sizes, before, work, fetch_if, has_first, has_second, keep, operands_code, finish_code, compute_code, IsBytes, IsReady, HasOperands, LeavesResult, Implements, Reaches, HasCode, FramePlace, Roomy, FrameHolds, AreArrived, IsKept, IsThere, ReachesBody, Finished, Computed, HeadFaults, KeepsUnused}
use Rattle.x64_templates.proofs.Lemmas.{longest, sizes_spelled, sizes_append}
use Rattle.x64_machine.specs.declared.outcome.Stop.TheVariants as stops
use Rattle.x64_machine.specs.Effect as machines
use Rattle.x64_templates.proofs.PlacedCode.{fetches, Encodable, outside_page, bytes_split, spells, leading-again, reaches_then}
use Rattle.c_operations.specs.declared.operation.Operation.TheVariants as operations
use Rattle.linear_code.specs.declared.instruction.Instruction.TheVariants as instructions
use Rattle.x64_templates.proofs.Straight.{straight_runs, executes_nothing, executes_then}
use Rattle.x64_templates.proofs.Divisions.{half_set}
use Rattle.x64_templates.proofs.Locals.{arriving_beside}
use Rattle.x64_templates.proofs.Implements.{works}
use Rattle.x64_templates.proofs.Operands.{performed_same}
use Rattle.x64_templates.proofs.Cells.{reg, put, got, sp_of, fetch_does}
use Rattle.x64_templates.proofs.Bodies.{kept_in, unused_slot, changes_then, keep_does, holds_after, changes_slot, holds_same, changes_same}
use Rattle.x64_templates.proofs.Encoded.{Fine, fine_both, encodable_of, straight_of, none_taking, keep_fine, work_fine, operands_fine, finish_fine}

-- ---- code and its parts

pub spelled_append : (a b : List Instr) → spelled (a ++ b) ≡ spelled a ++ spelled b
spelled_append a b = flat_map-append chosen a b

pub code_split : (m : Memory) (at : ℕ) (a b : List Instr) → HasCode m at (a ++ b)
    → HasCode m at a × HasCode m (at + sizes a) b
code_split m at a b h =
    let p = bytes_split m at (spelled a) (spelled b)
    (subst (λ x. IsCodeAt m at x) (spelled_append a b) h.is_there) in
    let l = h.placed.low in
    let u = h.placed.high in (
      record {
        is_there = p.0;
        placed = record { low = l; high = omega (arith, sizes_append a b) };
      },
      record {
        is_there = subst (λ k. IsCodeAt m (at + k) (spelled b)) (sizes_spelled a) p.1;
        placed = record { low = omega arith; high = omega (arith, sizes_append a b) };
      },
    )

-- ---- an instruction that faults

step_faults : (s : State) (i : Instr) (bytes : List ℕ) (code : Code) (access : Option (Bool × ℕ))
    → bytes ≡ chosen i → Encodable (i ∷ []) → IsCodeAt s.memory s.cpu.rip bytes
    → IsPlaced s.cpu.rip (s.cpu.rip + length bytes)
    → effect (with_rip s (s.cpu.rip + length bytes)) i ≡ Err (stops.Fault code access)
    → machines.step s ≡ Err (stops.Fault code access)
unfolding machines.step
step_faults s i bytes code access same enc is_there placed e =
    let low = placed.low in
    let high = placed.high in
    let short : length bytes ≤ 15 = subst (λ (x : List ℕ). length x ≤ 15) (sym same) (longest i) in
    let f = fetches s.memory bytes 15 s.cpu.rip short is_there (omega arith) in
    let read : leading (executable s.memory 15 s.cpu.rip) ≡ Some (i, length bytes) = ap leading f.1
    ∙ leading-again i bytes f.0 (subst (λ (x : List ℕ). IsEncoding i x) (sym same)
    (spells i enc.0)) in
    let rip : (s.cpu.rip + length bytes) % 2 ^ 64 ≡ s.cpu.rip + length bytes = omega arith in
    rw (outside_page s.cpu.rip low, read, rip) e

head_faults : (is : List Instr) (v : MachineView) (rip : ℕ) (f : Flags) (code : Code)
    (access : Option (Bool × ℕ)) → Fine is → HasCode v.memory rip is → HeadFaults is v code access
    → machines.step (machine v rip f) ≡ Err (stops.Fault code access)
unfolding size
head_faults [] v rip f code access fine c h = absurd h
head_faults (i ∷ is) v rip f code access fine c h =
    let p = bytes_split v.memory rip (chosen i) (spelled is) c.is_there in
    let l = c.placed.low in
    let u = c.placed.high in
    step_faults (machine v rip f) i (chosen i) code access refl (fine.0, tt) p.0
    (record { low = l; high = omega arith }) (h (rip + length (chosen i)) f)

more_faults : (is js : List Instr) (v : MachineView) (code : Code) (access : Option (Bool × ℕ))
    → HeadFaults is v code access → HeadFaults (is ++ js) v code access
more_faults [] js v code access h = absurd h
more_faults (i ∷ is) js v code access h = h

-- ---- straight code between views

pub record Reached (turns : ℕ) (v w : MachineView) (rip at : ℕ) (f : Flags) : Type 0 where
  pub left : Flags
  pub comes : Reaches turns (machine v rip f) (machine w at left)

pub runs_view : (is : List Instr) (v w : MachineView) (rip : ℕ) (f : Flags) → Fine is
    → HasCode v.memory rip is → Executes is v w → Reached (length is) v w rip (rip + sizes is) f
runs_view is v w rip f fine code d =
    let r = d rip f in
    let went = straight_runs is (machine v rip f) (machine w (rip + sizes is) r.0)
    (encodable_of is fine) (straight_of is fine) (none_taking is fine) code.is_there code.placed
    r.1 in
    record { left = r.0; comes = went.ran.comes }

-- ---- operands are brought to their registers

-- with what was there, where an operand isn't read
abbrev waiting : MachineView → ℕ → ℕ → ℕ → MachineView
waiting v a b d = record v { rax = a; rcx = b; rdx = d }

record Prepared (o : Operation) (v : MachineView) (a b : ℕ) : Type 0 where
  rdx : ℕ
  does : Executes (before o) (waiting v a b v.rdx) (waiting v a b rdx)
  ready : IsReady o (waiting v a b rdx)

prepared : (o : Operation) (v : MachineView) (a b : ℕ) → Prepared o v a b
prepared (operations.Pure p) v a b = record {
  rdx = v.rdx;
  does = executes_nothing (waiting v a b v.rdx);
  ready = tt;
}
prepared (operations.Divide s z) v a b = let h = half_set s z (waiting v a b v.rdx) in
    record { rdx = h.rdx; does = h.does; ready = h.half }
prepared (operations.Remainder s z) v a b = let h = half_set s z (waiting v a b v.rdx) in
    record { rdx = h.rdx; does = h.does; ready = h.half }
prepared o v a b = record {
  rdx = v.rdx;
  does = executes_nothing (waiting v a b v.rdx);
  ready = tt;
}

-- an operand that is read, else what stands in the register
abbrev taken : Bool → (operand there : ℕ) → ℕ
taken read operand there = if read then operand else there

taken_read : (read : Bool) (operand there : ℕ) → read ≡ true → taken read operand there ≡ operand
taken_read true operand there e = refl
taken_read false operand there e = absurd cc

fetch_if_does : (p : FramePlace) (read r : Bool) (x : Slot) (v : MachineView) (b : BodyState)
    → Roomy p → IsThere p x → AreArrived p v → sp_of v ≡ p.sp → FrameHolds p v.locals v.memory b
    → Executes (fetch_if read p.layout (reg r) x) v
    (put r v (taken read (b.slots x) (got r v)))
fetch_if_does p true r x v b room is here at h =
    fetch_does p.layout p.counts p.reserved p.sp p.base p.arrived room r x v b is here at h
fetch_if_does p false true x v b room is here at h = executes_nothing v
fetch_if_does p false false x v b room is here at h = executes_nothing v

record Fetched (p : FramePlace) (o : Operation) (first second : Slot) (v : MachineView)
    (a b : ℕ) : Type 0 where
  rdx : ℕ
  does : Executes (operands_code p.layout o first second) v (waiting v a b rdx)
  ready : IsReady o (waiting v a b rdx)

operands_do : (p : FramePlace) (o : Operation) (first second : Slot) (v : MachineView)
    (b : BodyState) → Roomy p → IsThere p first → IsThere p second → AreArrived p v
    → sp_of v ≡ p.sp → FrameHolds p v.locals v.memory b → Fetched p o first second v
    (taken (has_first o) (b.slots first) v.rax) (taken (has_second o) (b.slots second) v.rcx)
operands_do p o first second v b room f s here at h =
    let y = p.layout in
    let x = taken (has_first o) (b.slots first) v.rax in
    let z = taken (has_second o) (b.slots second) v.rcx in
    let v1 = put true v x in
    let v2 = put false v1 z in
    let q = prepared o v x z in
    let one = fetch_if (has_first o) y Rax first in
    let two = fetch_if (has_second o) y Rcx second in
    record {
      rdx = q.rdx;
      does = executes_then one (two ++ before o) v v1 (waiting v x z q.rdx)
          (fetch_if_does p (has_first o) true first v b room f here at h)
          (executes_then two (before o) v1 v2 (waiting v x z q.rdx)
          (fetch_if_does p (has_second o) false second v1 b room s
          (λ i lt. arriving_beside v x i ∙ here i lt) at h)
          q.does);
      ready = q.ready;
    }

-- the run comes to where the operation begins
pub record Begun (p : FramePlace) (o : Operation) (first second : Slot) (v : MachineView) (rip : ℕ)
    (f : Flags) (b : BodyState) : Type 0 where
  pub stopped : MachineView
  pub left : Flags
  pub comes : Reaches (length (operands_code p.layout o first second)) (machine v rip f)
      (machine stopped (rip + sizes (operands_code p.layout o first second)) left)
  pub waits : HasOperands o (b.slots first) (b.slots second) stopped
  pub rest : stopped.rest ≡ v.rest
  pub locals : stopped.locals ≡ v.locals
  pub memory : stopped.memory ≡ v.memory

pub operands_run : (p : FramePlace) (o : Operation) (first second : Slot) (v : MachineView)
    (rip : ℕ) (f : Flags) (b : BodyState) → Roomy p → IsThere p first → IsThere p second
    → AreArrived p v → sp_of v ≡ p.sp → FrameHolds p v.locals v.memory b
    → HasCode v.memory rip (operands_code p.layout o first second)
    → Begun p o first second v rip f b
operands_run p o first second v rip f b room i j here at h code =
    let d = operands_do p o first second v b room i j here at h in
    let x = taken (has_first o) (b.slots first) v.rax in
    let z = taken (has_second o) (b.slots second) v.rcx in
    let w = waiting v x z d.rdx in
    let r = runs_view (operands_code p.layout o first second) v w rip f
    (operands_fine p.layout p.counts p.sp p.base o first second room i j) code d.does in
    record {
      stopped = w;
      left = r.left;
      comes = r.comes;
      waits = record {
        first = taken_read (has_first o) (b.slots first) v.rax;
        second = taken_read (has_second o) (b.slots second) v.rcx;
        ready = d.ready;
      };
      rest = refl;
      locals = refl;
      memory = refl;
    }

-- ---- the operation is made

-- code that leads to a number in RAX, and the slot to which the number goes
pub leads_kept : (p : FramePlace) (code : List Instr) (to : Slot) (v : MachineView) (at : ℕ)
    (f : Flags) (b : BodyState) (x : ℕ) (source : Memory) → Fine code → Roomy p → IsThere p to
    → IsKept p.layout to → sp_of v ≡ p.sp → FrameHolds p v.locals v.memory b
    → HasCode v.memory at (code ++ keep p.layout to)
    → LeavesResult p.reserved code v x source
    → ReachesBody p (length (code ++ keep p.layout to)) (machine v at f)
    (at + sizes (code ++ keep p.layout to)) v.rest v.locals
    (record { slots = with_slot b.slots to x; memory = source })
leads_kept p code to v at f b x source fine room is kept sp h is_there l =
    let y = p.layout in
    let mid : MachineView = record v {
      rax = x;
      rcx = l.yields.rcx;
      rdx = l.yields.rdx;
      memory = l.after;
    } in
    let body : BodyState = record { slots = b.slots; memory = source } in
    let held = holds_same y p.counts p.reserved p.sp p.base p.arrived room v.locals v.memory l.after
    source b
    l.own l.protection l.agrees h in
    let k = keep_does y p.counts p.reserved p.sp p.base p.arrived room to mid body is kept sp
    held l.small in
    let last : MachineView = record (kept_in y p.sp p.base mid x to) { rcx = k.rcx } in
    let r = runs_view (code ++ keep y to) v last at f
    (fine_both code (keep y to) fine (keep_fine y p.counts p.sp p.base to room is)) is_there
    (executes_then code (keep y to) v mid last l.yields.does k.does) in
    record {
      after = last;
      flags = r.left;
      comes = r.comes;
      rest = refl;
      locals = unused_slot y p.counts p.reserved p.sp p.base p.arrived room v.locals to x;
      holds = holds_after y p.counts p.reserved p.sp p.base p.arrived room v.locals l.after body to
          x
          held is kept l.small;
      changes = changes_then y p.counts p.reserved p.sp p.base v.memory l.after last.memory
          (changes_same y p.counts p.reserved p.sp p.base p.arrived room v.memory l.after l.own
          l.protection
          l.bytes) (changes_slot y p.counts p.reserved p.sp p.base p.arrived room l.after to x is);
    }

finish_by : (p : FramePlace) (o : Operation) (to : Slot) (v : MachineView) (at : ℕ) (f : Flags)
    (b : BodyState) (outcome : OperationResult) → Roomy p → IsThere p to → IsKept p.layout to
    → sp_of v ≡ p.sp
    → FrameHolds p v.locals v.memory b → HasCode v.memory at (finish_code p.layout o to)
    → Implements p.reserved (work o) v outcome → Finished p o to v at f b outcome
finish_by p o to v at f b (Gives x source) room is kept sp h code w =
    leads_kept p (work o) to v at f b x source (work_fine o) room is kept sp h code w
finish_by p o to v at f b (Raises c access) room is kept sp h code w = head_faults
    (finish_code p.layout o to) v at f c access
    (finish_fine p.layout p.counts p.sp p.base o to room is) code
    (more_faults (work o) (keep p.layout to) v c access w)
finish_by p o to v at f b (Undefined a) room is kept sp h code w = tt

-- from where its operands wait, an operation is made or refused as it means on the memory there
pub finish_run : (p : FramePlace) (o : Operation) (to : Slot) (v : MachineView) (at : ℕ) (f : Flags)
    (b : BodyState) (x y : ℕ) → Roomy p → IsThere p to → IsKept p.layout to → x < 2 ^ 64
    → y < 2 ^ 64 → HasOperands o x y v → sp_of v ≡ p.sp → FrameHolds p v.locals v.memory b
    → HasCode v.memory at (finish_code p.layout o to)
    → Finished p o to v at f b (performed p.reserved o x y b.memory)
finish_run p o to v at f b x y room is kept lx ly waits sp h code =
    let w = works p.reserved o v b.memory (λ e. let q = waits.first e in omega arith)
    (λ e. let q = waits.second e in omega arith) waits.ready h.source in
    finish_by p o to v at f b (performed p.reserved o x y b.memory) room is kept sp h code
    (subst (Implements p.reserved (work o) v)
    (performed_same p.reserved b.memory o v.rax v.rcx x y waits.first waits.second) w)

-- an operation that gives a number has been made: the number is in RAX, and not yet in its slot
pub record Worked (p : FramePlace) (o : Operation) (v : MachineView) (at : ℕ) (f : Flags) (x : ℕ)
    (source : Memory) : Type 0 where
  pub result : LeavesResult p.reserved (work o) v x source
  pub left : Flags
  pub comes : Reaches (length (work o)) (machine v at f)
      (machine (record v {
        rax = x;
        rcx = result.yields.rcx;
        rdx = result.yields.rdx;
        memory = result.after;
      }) (at + sizes (work o)) left)

pub work_run : (p : FramePlace) (o : Operation) (v : MachineView) (at : ℕ) (f : Flags)
    (b : BodyState) (x y value : ℕ) (source : Memory) → x < 2 ^ 64 → y < 2 ^ 64
    → HasOperands o x y v → FrameHolds p v.locals v.memory b → HasCode v.memory at (work o)
    → performed p.reserved o x y b.memory ≡ Gives value source → Worked p o v at f value source
work_run p o v at f b x y value source lx ly waits h code gives =
    let w = works p.reserved o v b.memory (λ e. let q = waits.first e in omega arith)
    (λ e. let q = waits.second e in omega arith) waits.ready h.source in
    let l : LeavesResult p.reserved (work o) v value source =
    subst (Implements p.reserved (work o) v)
    (performed_same p.reserved b.memory o v.rax v.rcx x y waits.first waits.second ∙ gives) w in
    let r = runs_view (work o) v (record v {
      rax = value;
      rcx = l.yields.rcx;
      rdx = l.yields.rdx;
      memory = l.after;
    }) at f (work_fine o) code l.yields.does in
    record { result = l; left = r.left; comes = r.comes }

-- ---- a whole operation

pub follows_after : (p : FramePlace) (m n : ℕ) (s t : State) (to : ℕ) (others : OtherRegisters)
    (locals : LocalRegisters) (b : BodyState) → Reaches m s t → ◌≡◌ {A = Memory} t.memory s.memory
    → ReachesBody p n t to others locals b → ReachesBody p (m + n) s to others locals b
follows_after p m n s t to others locals b c same g = record {
  after = g.after;
  flags = g.flags;
  comes = reaches_then m n s t (machine g.after to g.flags) c g.comes;
  rest = g.rest;
  locals = g.locals;
  holds = g.holds;
  changes = record {
    protection = g.changes.protection ∙ ap (λ (m : Memory). m.protection) same;
    byte = λ a own out. g.changes.byte a own out ∙ ap (λ (m : Memory). m.byte a) same;
    bytes = λ x. g.changes.bytes (subst IsBytes (sym same) x);
  };
}

-- the registers that it leaves may be named by others that are the same
pub named_alike : (p : FramePlace) (n : ℕ) (s : State) (to : ℕ) (rest others : OtherRegisters)
    (locals same : LocalRegisters) (b : BodyState) → rest ≡ others → locals ≡ same
    → ReachesBody p n s to rest locals b → ReachesBody p n s to others same b
named_alike p n s to rest others locals same b e d g = record {
  after = g.after;
  flags = g.flags;
  comes = g.comes;
  rest = g.rest ∙ e;
  locals = subst (λ l. KeepsUnused p.layout l g.after.locals) d g.locals;
  holds = g.holds;
  changes = g.changes;
}

compute_by : (p : FramePlace) (to : Slot) (o : Operation) (first second : Slot) (v : MachineView)
    (rip : ℕ) (f : Flags) (b : BodyState) (outcome : OperationResult)
    → (g : Begun p o first second v rip f b) → Finished p o to g.stopped
    (rip + sizes (operands_code p.layout o first second)) g.left b outcome
    → Computed p to o first second v rip f b (kept to b.slots outcome)
compute_by p to o first second v rip f b (Gives x m) g fin =
    let ops = operands_code p.layout o first second in
    let rest = finish_code p.layout o to in
    let c : BodyState = record { slots = with_slot b.slots to x; memory = m } in
    let whole = follows_after p (length ops) (length rest) (machine v rip f)
    (machine g.stopped (rip + sizes ops) g.left) (rip + sizes ops + sizes rest) g.stopped.rest
    g.stopped.locals c
    g.comes g.memory fin in
    let turns : length ops + length rest ≡ length (ops ++ rest) = sym (length-append ops rest) in
    let place : rip + sizes ops + sizes rest ≡ rip
    + sizes (ops ++ rest) = omega (arith, sizes_append ops rest) in
    subst (λ k. ReachesBody p k (machine v rip f) (rip + sizes (ops ++ rest)) v.rest v.locals c)
    turns
    (subst (λ a. ReachesBody p (length ops + length rest) (machine v rip f) a v.rest v.locals c)
    place
    (named_alike p (length ops + length rest) (machine v rip f) (rip + sizes ops + sizes rest)
    g.stopped.rest v.rest g.stopped.locals v.locals c g.rest g.locals whole))
compute_by p to o first second v rip f b (Raises code access) g fin = record {
  stopped = g.stopped;
  left = g.left;
  comes = g.comes;
  waits = g.waits;
  rest = g.rest;
  locals = g.locals;
  memory = g.memory;
  fault = fin;
}
compute_by p to o first second v rip f b (Undefined a) g fin = tt

pub compute_run : (p : FramePlace) (to : Slot) (o : Operation) (first second : Slot)
    (v : MachineView) (rip : ℕ) (f : Flags) (b : BodyState) → Roomy p → IsThere p to
    → IsThere p first → IsThere p second → IsKept p.layout to → AreArrived p v → sp_of v ≡ p.sp
    → FrameHolds p v.locals v.memory b
    → HasCode v.memory rip (compute_code p.layout to o first second)
    → Computed p to o first second v rip f b (step p.reserved
    (instructions.Compute to o first second) b)
compute_run p to o first second v rip f b room it ifst isnd kept here at h code =
    let ops = operands_code p.layout o first second in
    let parts = code_split v.memory rip ops (finish_code p.layout o to) code in
    let g = operands_run p o first second v rip f b room ifst isnd here at h parts.0 in
    compute_by p to o first second v rip f b (performed p.reserved o (b.slots first)
    (b.slots second) b.memory) g
    (finish_run p o to g.stopped (rip + sizes ops) g.left b (b.slots first) (b.slots second) room it
    kept (h.small first ifst) (h.small second isnd) g.waits
    (ap (λ (r : OtherRegisters). r.rsp) g.rest ∙ at)
    (subst (λ l. FrameHolds p l g.stopped.memory b) (sym g.locals)
    (subst (λ (m : Memory). FrameHolds p v.locals m b) (sym g.memory) h))
    (subst (λ (m : Memory). HasCode m (rip + sizes ops) (finish_code p.layout o to)) (sym g.memory)
    parts.1))
