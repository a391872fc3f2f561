-- A plan's epilogue is run, one instruction after another: loads, the allocation given back, pops,
-- and the return.
use Rattle.std.proofs.Common.{◌≡◌, ℕ, ◌+◌, ◌-◌, ◌%◌, ◌^◌, ◌<◌, Bool, true, false, not, ◌&&◌, eqb, List, [], ◌∷◌, length, set, Some, None, Ok, refl, sym, ap, subst, ◌∙◌, arith, cond, length-set}
use Rattle.std.proofs.lemmas.Bool.{and_parts, eq-eqb, eqb-true, or_left}
use Rattle.x64_templates.specs.Words.{W64, Instr, Memory, State, Cpu, with_rip, effect, address_of, added, is_encodable, chosen, takes_frame, size, Reaches, HasCode}
use Rattle.x64_templates.specs.Returned.{Returned}
use Rattle.x64_templates.specs.Laws.{EpiloguesLeaveFrames}
use Rattle.eh_tables.specs.declared.code.UnwindOperation.{UnwindOperation}
use Rattle.virtual_unwind.specs.Contexts.{is_nonvolatile}
use Rattle.x64_instr.specs.Registers as numbers
use Rattle.x64_instr.specs.Registers.{number}
use Rattle.x64_instr.specs.declared.operand.Base.TheVariants as bases
use Rattle.x64_instr.specs.declared.operand.MemRef.{MemRef}
use Rattle.x64_instr.specs.declared.instruction.Instr.TheVariants as instrs
use Rattle.frame_rules.specs.Body.{are_restored, if_place, is_place, restored_by, saved_at}
use Rattle.frame_rules.specs.Codes.{allocation, are_allowed, is_saved, may_save, pushed}
use Rattle.frame_rules.specs.Frame.{HoldsFrame}
use Rattle.frame_rules.specs.Plan.{FramePlan, IsPlan, Saved, all_encodable, epilogue, load_of, loads_then, opening_by, opening_then, operations_of, pops_then, stack_place}
use Rattle.frame_rules.specs.States.{registers}
use Rattle.frame_rules.proofs.Bytes.{plans_are_encodable}
use Rattle.frame_rules.proofs.Emitting.{gives_all}
use Rattle.frame_rules.proofs.EpilogueRuns.{opened, opens, pop_effect, popped}
use Rattle.frame_rules.proofs.Leaving.{InLoads, InPops, Known, load_at, load_effect, loads, saved_place}
use Rattle.frame_rules.proofs.Order.{ordered}
use Rattle.frame_rules.proofs.Planned.{AllLoadable, Loadable, all_loadable, allocation_plan, loaded, pushes_plan, restored_plan}
use Rattle.frame_rules.proofs.Planning.{framed_plan, nonvolatile_number, ordered_plan}
use Rattle.frame_rules.proofs.Returning.{return_effect}
use Rattle.frame_rules.proofs.Steps.{allocation_depth, set_other, set_same, stack_address}
use Rattle.frame_rules.proofs.Undoing.{stack_depth}
use Rattle.x64_templates.proofs.Computes.{code_split}
use Rattle.x64_templates.proofs.PlacedCode.{bytes_split, reaches_then}
use Rattle.x64_templates.proofs.PrologueParts.{other_kind}
use Rattle.x64_templates.proofs.Straight.{one_runs}

-- the instruction at RIP is run, and makes no frame
one_reaches : (i : Instr) (is : List Instr) (s t : State) → is_encodable i ≡ true
    → takes_frame i ≡ false → HasCode s.memory s.cpu.rip (i ∷ is)
    → effect (with_rip s (s.cpu.rip + size i)) i ≡ Ok t → Reaches 1 s t
one_reaches i is s t enc quiet code ef =
    let parts = code_split s.memory s.cpu.rip (i ∷ []) is code in
    let l = parts.0.placed.low in
    let h = parts.0.placed.high in
    (one_runs i s t (enc, tt) quiet (bytes_split s.memory s.cpu.rip (chosen i) []
    parts.0.is_there).0 (record { low = l; high = omega arith }) ef).comes

module _ (p : FramePlan) (is_plan : IsPlan p) (old : ℕ → ℕ) (back : ℕ) (high : old 4 < 2 ^ 47)
    (fits : (r : ℕ) → old r < 2 ^ 64) where
  abbrev f : ℕ
  f = p.frame

  abbrev offset : ℕ
  offset = p.distance

  abbrev ops : List UnwindOperation
  ops = operations_of p

  known : Known f offset old ops
  known = record {
    ordered = ordered ops (ordered_plan p);
    allowed = is_plan.allowed;
    frame = framed_plan p;
    high = high;
    fits = fits;
  }

  -- an instruction that leaves memory and RAX comes before those that leave the frame
  then_leaves : (i : Instr) (is : List Instr) (s t : State) → is_encodable i ≡ true
      → takes_frame i ≡ false → HasCode s.memory s.cpu.rip (i ∷ is)
      → effect (with_rip s (s.cpu.rip + size i)) i ≡ Ok t → t.cpu.rip ≡ s.cpu.rip + size i
      → t.memory ≡ s.memory → registers t 0 ≡ registers s 0
      → (HasCode t.memory t.cpu.rip is → Returned (length is) t old back (registers t 0))
      → Returned (length (i ∷ is)) s old back (registers s 0)
  then_leaves i is s t enc quiet code ef rip same rax rest =
      let flat : s.cpu.rip + (size i + 0) ≡ t.cpu.rip = omega (arith, rip) in
      let more = subst (λ (m : Memory). HasCode m t.cpu.rip is) (sym same)
      (subst (λ a. HasCode s.memory a is) flat
      (code_split s.memory s.cpu.rip (i ∷ []) is code).1) in
      let r = rest more in
      let n : 1 + length is ≡ length (i ∷ is) = omega arith in
      record {
        after = r.after;
        comes = subst (λ k. Reaches k s r.after) n
            (reaches_then 1 (length is) s t r.after (one_reaches i is s t enc quiet code ef)
            r.comes);
        rip = r.rip;
        stack = r.stack;
        kept = r.kept;
        rax = r.rax ∙ rax;
        memory = r.memory ∙ same;
        count = r.count;
      }

  -- ---- pops, and the return

  pops_leave : (rs : List ℕ) (s : State) → InPops f old back rs s
      → all_encodable (pops_then rs (instrs.Return ∷ [])) ≡ true
      → HasCode s.memory s.cpu.rip (pops_then rs (instrs.Return ∷ []))
      → Returned (length (pops_then rs (instrs.Return ∷ []))) s old back (registers s 0)
  pops_leave [] s h enc code =
      let top = h.stack.0 in
      let w = (registers s 4 + 8) % 2 ^ 64 % 2 ^ 64 in
      let up : w ≡ old 4 + 8 = omega arith in
      record {
        after = record s {
          cpu = record { registers = set s.cpu.registers 4 w; rip = back; flags = s.cpu.flags };
        };
        comes = one_reaches instrs.Return [] s _ refl refl code
            (return_effect s (s.cpu.rip + size instrs.Return) back
            (load_at s.memory (registers s 4) back h.stack.1));
        rip = refl;
        stack = set_same s.cpu.registers 4 w h.length (omega arith) ∙ up;
        kept = λ r nv ne. set_other s.cpu.registers 4 r w ne ∙ h.others r nv ne refl;
        rax = set_other s.cpu.registers 4 0 w (λ z. absurd (omega arith));
        memory = refl;
        count = length-set s.cpu.registers 4 w ∙ h.length;
      }
  pops_leave (r ∷ rs) s h enc code =
      let is = pops_then rs (instrs.Return ∷ []) in
      let allowed = and_parts (may_save r (pushed rs)) (are_allowed f (pushed rs)) h.allowed in
      let nv = (and_parts (is_nonvolatile r) (not (eqb r 4) && not (is_saved r (pushed rs)))
      allowed.0).0 in
      let q = numbers.register r in
      let same = nonvolatile_number r nv in
      let a = s.cpu.rip + size (instrs.Pop q) in
      let w = (registers s 4 + 8) % 2 ^ 64 % 2 ^ 64 in
      let t : State = record s {
        cpu = record {
          registers = set (set s.cpu.registers 4 w) (number q) (old r % 2 ^ 64);
          rip = a;
          flags = s.cpu.flags;
        };
      } in
      let ef : effect (with_rip s a) (instrs.Pop q) ≡ Ok t = pop_effect s a (old r) q
      (load_at s.memory (registers s 4) (old r) h.stack.0) in
      let next = popped f back a old r rs s t (instrs.Pop q) high fits h
      (eq-eqb (number q) r same) ef in
      let e = and_parts (is_encodable (instrs.Pop q)) (all_encodable is) enc in
      then_leaves (instrs.Pop q) is s t e.0 refl code ef refl refl
      (set_other (set s.cpu.registers 4 w) (number q) 0 (old r % 2 ^ 64)
      (λ z. other_kind 0 r refl nv (z ∙ same))
      ∙ set_other s.cpu.registers 4 0 w (λ z. absurd (omega arith)))
      (λ more. pops_leave rs t next e.1 more)

  -- ---- the allocation given back

  abbrev ending : List Instr
  ending = pops_then p.pushes (instrs.Return ∷ [])

  opening_leaves : (framed : Bool) → eqb p.frame 0 ≡ framed → (rs : List ℕ) (s : State)
      → InLoads f offset old back ops rs s → are_restored rs ops ≡ true
      → all_encodable (opening_by p framed ∷ ending) ≡ true
      → HasCode s.memory s.cpu.rip (opening_by p framed ∷ ending)
      → Returned (length (opening_by p framed ∷ ending)) s old back (registers s 0)
  opening_leaves true same rs s h done enc code =
      let i = opening_by p true in
      let a = s.cpu.rip + size i in
      let x = added W64 (registers s 4 % 2 ^ 64) (p.size % 2 ^ 64) in
      let t : State = record s {
        cpu = record {
          registers = set s.cpu.registers 4 (x.0 % 2 ^ 64);
          rip = a;
          flags = x.1;
        };
      } in
      let ef : effect (with_rip s a) i ≡ Ok t = refl in
      let next = subst (λ ps. InPops f old back ps t) (pushes_plan p)
      (opens f offset back a old ops rs s t i known h done (gives_all p is_plan true same) ef) in
      let e = and_parts (is_encodable i) (all_encodable ending) enc in
      then_leaves i ending s t e.0 refl code ef refl refl
      (set_other s.cpu.registers 4 0 (x.0 % 2 ^ 64) (λ z. absurd (omega arith)))
      (λ more. pops_leave p.pushes t next e.1 more)
  opening_leaves false same rs s h done enc code =
      let i = opening_by p false in
      let a = s.cpu.rip + size i in
      let c : Cpu = record { registers = s.cpu.registers; rip = a; flags = s.cpu.flags } in
      let m : MemRef = record {
        base = bases.Register (numbers.register p.frame);
        index = None;
        displacement = (p.size + (2 ^ 64 - p.distance)) % 2 ^ 64;
      } in
      let w = address_of c m % 2 ^ 64 in
      let t : State = record s {
        cpu = record { registers = set s.cpu.registers 4 w; rip = a; flags = s.cpu.flags };
      } in
      let ef : effect (with_rip s a) i ≡ Ok t = refl in
      let next = subst (λ ps. InPops f old back ps t) (pushes_plan p)
      (opens f offset back a old ops rs s t i known h done (gives_all p is_plan false same) ef) in
      let e = and_parts (is_encodable i) (all_encodable ending) enc in
      then_leaves i ending s t e.0 refl code ef refl refl
      (set_other s.cpu.registers 4 0 w (λ z. absurd (omega arith)))
      (λ more. pops_leave p.pushes t next e.1 more)

  given_back : (none : Bool) → eqb p.size 0 ≡ none → (rs : List ℕ) (s : State)
      → InLoads f offset old back ops rs s → are_restored rs ops ≡ true
      → all_encodable (opening_then p none ending) ≡ true
      → HasCode s.memory s.cpu.rip (opening_then p none ending)
      → Returned (length (opening_then p none ending)) s old back (registers s 0)
  given_back true empty rs s h done enc code =
      let zero' = eqb-true p.size 0 empty in
      let all = allocation_plan p in
      let sp : registers s 4 ≡ registers s 4 + allocation ops = omega arith in
      pops_leave p.pushes s (subst (λ ps. InPops f old back ps s) (pushes_plan p)
      (opened f offset back old ops rs s s known h done h.length refl sp (λ q ne. refl))) enc code
  given_back false empty rs s h done enc code =
      opening_leaves (eqb p.frame 0) refl rs s h done enc code

  -- ---- loads

  -- where a register is saved, it is loaded
  record Loads (x : Saved) (s : State) : Type 0 where
    to : State
    is : effect (with_rip s (s.cpu.rip + size (load_of x))) (load_of x) ≡ Ok to
    rip : to.cpu.rip ≡ s.cpu.rip + size (load_of x)
    memory : to.memory ≡ s.memory
    rax : registers to 0 ≡ registers s 0

  one_loads : (x : Saved) (rs : List ℕ) (s : State) → Loadable f ops x
      → InLoads f offset old back ops rs s → Loads x s
  one_loads x rs s l h =
      let r = x.register in
      let n = x.offset in
      let q = numbers.register r in
      let a = s.cpu.rip + size (load_of x) in
      let base = registers s 4 in
      let same = nonvolatile_number r l.kept in
      let at = ap (λ j. saved_at j ops) same ∙ l.at in
      let place = saved_place f offset s.memory old back base base (number q) n ops known.ordered
      known.allowed h.holds.stack at in
      let inside = place.inside in
      let d = stack_depth s.memory old back base base ops h.holds.stack in
      let shallow = allocation_depth ops in
      let c : Cpu = record { registers = s.cpu.registers; rip = a; flags = s.cpu.flags } in
      let lt : base + n < 2 ^ 64 = omega arith in
      record {
        to = record s {
          cpu = record {
            registers = set s.cpu.registers (number q) (old (number q) % 2 ^ 64);
            rip = a;
            flags = s.cpu.flags;
          };
        };
        is = load_effect s a (base + n) (old (number q)) q (stack_place n)
            (stack_address c n (stack_place n) (eq-eqb n n refl) lt)
            (load_at s.memory (base + n) (old (number q)) place.word);
        rip = refl;
        memory = refl;
        rax = set_other s.cpu.registers (number q) 0 (old (number q) % 2 ^ 64)
            (λ z. other_kind 0 r refl l.kept (z ∙ same));
      }

  restores : (x : Saved) → Loadable f ops x → restored_by f offset ops (load_of x)
      ≡ Some x.register
  restores x l =
      let r = x.register in
      let n = x.offset in
      let same = nonvolatile_number r l.kept in
      ap (λ q. if_place f offset (stack_place n) q (saved_at q ops)) same
      ∙ ap (if_place f offset (stack_place n) r) l.at
      ∙ ap (λ b. cond b (Some r) None)
      (let place : is_place f offset n (stack_place n) ≡ true =
      or_left (true && eqb n n) _ (eq-eqb n n refl) in place)

  loads_leave : (ss : List Saved) (rs : List ℕ) (s : State) → AllLoadable f ops ss
      → InLoads f offset old back ops rs s → are_restored (loaded ss rs) ops ≡ true
      → all_encodable (loads_then ss (opening_then p (eqb p.size 0) ending)) ≡ true
      → HasCode s.memory s.cpu.rip (loads_then ss (opening_then p (eqb p.size 0) ending))
      → Returned (length (loads_then ss (opening_then p (eqb p.size 0) ending))) s old back
      (registers s 0)
  loads_leave [] rs s l h done enc code = given_back (eqb p.size 0) refl rs s h done enc code
  loads_leave (x ∷ ss) rs s l h done enc code =
      let is = loads_then ss (opening_then p (eqb p.size 0) ending) in
      let d = one_loads x rs s l.0 h in
      let a = s.cpu.rip + size (load_of x) in
      let next = loads f offset back a old ops rs s d.to (load_of x) x.register known h
      (restores x l.0) d.is in
      let e = and_parts (is_encodable (load_of x)) (all_encodable is) enc in
      then_leaves (load_of x) is s d.to e.0 refl code d.is d.rip d.memory d.rax
      (λ more. loads_leave ss (x.register ∷ rs) d.to l.1 next done e.1 more)

  leaves : (s : State) → length s.cpu.registers ≡ 16
      → HoldsFrame f offset s.memory old back (registers s) ops ops
      → HasCode s.memory s.cpu.rip (epilogue p)
      → Returned (length (epilogue p)) s old back (registers s 0)
  leaves s count holds code =
      loads_leave p.saves [] s (all_loadable p is_plan)
      (record { length = count; holds = holds; restored = λ r e. absurd cc }) (restored_plan p [])
      (plans_are_encodable p is_plan).1 code

pub epilogue_leaves : EpiloguesLeaveFrames
epilogue_leaves p old back s is_plan high fits count holds code =
    leaves p is_plan old back high fits s count holds code
