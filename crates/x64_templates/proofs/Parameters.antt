-- Parameters go to their locals.
use Rattle.std.proofs.Common.{◌≡◌, ℕ, zero, suc, ◌+◌, ◌%◌, ◌^◌, ◌<◌, ◌≤◌, true, cond, [], ◌∷◌, None, refl, sym, ap, subst, ◌∙◌, arith, inl, inr}
use Rattle.std.specs.Prelude.{◌⊎◌, slice_index}
use Rattle.std.proofs.lemmas.Bool.{cases_lt, lt-ltb, le-ltb}
use Rattle.x64_templates.specs.Words.{W64, low, Protection, is_readable, Memory, first_refused, may_read, may_write, with_number, with_bytes, Reg, Rax, Rsp, number, store, Local, BodyState, with_slot, registers_of, MachineView, machine, Executes, fetched, local_at, parameter_register, keep_register, stack_parameter, parameter_code, parameters_code, sp_of, slot_at, InTemporaries, InLocals, with_arguments, InRegisters, OnStack, IsFunctionFrame, FramePlace, Roomy, FrameHolds, ChangesOwn, move, LocalRegisters, is_of_local, with_local, Place, InRegister, InFrame, Arriving, place_of, parameter_placed, KeepsUnused}
use Rattle.x64_templates.proofs.PlacedCode.{all_may, same_number, store_at}
use Rattle.x64_templates.proofs.Straight.{executes_one, executes_then, executes_nothing}
use Rattle.x64_templates.proofs.Cells.{put, from_sp, may_write_slot}
use Rattle.template_code.proofs.Places.{arriving_low}
use Rattle.x64_templates.proofs.Locals.{moved_to_local, loaded_to_local, place_is_local, unused_same, unused_then}
use Rattle.x64_templates.proofs.Bodies.{kept_in, locals_placed, memory_placed, unused_slot, holds_after, changes_slot, changes_then}
use Rattle.x64_templates.proofs.Calls.{word_is}

-- ---- a register is kept in memory

abbrev pub kept_at : MachineView → ℕ → ℕ → MachineView
kept_at v at x = record v { memory = with_bytes v.memory (with_number v.memory.byte 8 at x) }

abbrev pub held_by : MachineView → Reg → ℕ
held_by v r = slice_index (registers_of v) (number r)

pub keeps_register : (r : Reg) (v : MachineView) (d at x : ℕ) → held_by v r ≡ x
    → (sp_of v + 0 + d) % 2 ^ 64 ≡ at → first_refused (may_write v.memory) 8 at ≡ None → x < 2 ^ 64
    → Executes (keep_register r d ∷ []) v (kept_at v at x)
keeps_register r v d at x is e may lt = executes_one (keep_register r d) v (kept_at v at x)
    (λ rip f. (
      f,
      ap (λ (a : ℕ). store (machine v rip f) a W64 (low W64 (held_by v r))) e
          ∙ ap (store (machine v rip f) at W64) (word_is (held_by v r) x is lt)
          ∙ store_at (machine v rip f) at x may,
    ))

-- ---- one parameter

register_holds : (v : MachineView) (arguments : ℕ → ℕ) (i : ℕ) → i < 4 → InRegisters v arguments
    → held_by v (parameter_register i) ≡ arguments i
register_holds v arguments zero lt h = h.first
register_holds v arguments (suc zero) lt h = h.second
register_holds v arguments (suc (suc zero)) lt h = h.third
register_holds v arguments (suc (suc (suc zero))) lt h = h.fourth
register_holds v arguments (suc (suc (suc (suc i)))) lt h = absurd (omega arith)

pub record Kept (p : FramePlace) (i : ℕ) (v : MachineView) (x : ℕ) : Type 0 where
  pub rax : ℕ
  pub does : Executes (parameter_code p.layout i) v
      (record (kept_in p.layout p.sp p.base v x (Local i)) { rax = rax })

-- by its place
record KeptPlaced (p : FramePlace) (i : ℕ) (q : Place) (v : MachineView) (x : ℕ) : Type 0 where
  rax : ℕ
  does : Executes (parameter_placed p.layout i q) v (record v {
    rax = rax;
    locals = locals_placed v.locals x q;
    memory = memory_placed p.layout p.base v.memory x i q;
  })

local_address : (p : FramePlace) (i sp : ℕ) → Roomy p → IsFunctionFrame p → i < p.counts.locals
    → sp ≡ p.sp → (sp + 0 + local_at p.layout i) % 2 ^ 64 ≡ slot_at p.layout p.sp p.base (Local i)
local_address p i sp room fn lt e = let a = room.locals in let h = room.high in let b = fn.base in
    omega arith

framed_does : (p : FramePlace) (i count : ℕ) (v : MachineView) (b : BodyState)
    (arguments : ℕ → ℕ) → Roomy p → IsFunctionFrame p → i < count → i < p.counts.locals
    → sp_of v ≡ p.sp → FrameHolds p v.locals v.memory b → InRegisters v arguments
    → OnStack p v.memory count arguments → KeptPlaced p i InFrame v (arguments i)
framed_does p i count v b arguments room fn lc ll at h regs stack =
    let y = p.layout in
    let to = slot_at y p.sp p.base (Local i) in
    let may = may_write_slot y p.counts p.reserved p.sp p.base p.arrived room v.locals v.memory b
    (Local i) h
    ll in
    let e = local_address p i (sp_of v) room fn ll at in
    let in_register = keep_register (parameter_register i) (local_at y i) ∷ [] in
    let on_stack = fetched Rax Rsp (stack_parameter y i) ∷ keep_register Rax (local_at y i) ∷ [] in
    elim (cases_lt i 4) [
      | inl lt ↦ record {
        rax = v.rax;
        does = subst (λ c. Executes (cond c in_register on_stack) v (kept_at v to (arguments i)))
            (sym (lt-ltb i 4 lt)) (keeps_register (parameter_register i) v (local_at y i) to
            (arguments i) (register_holds v arguments i lt regs) e may (stack.small i lc));
      }
      | inr ge ↦
          let w = put true v (arguments i) in
          let hi = room.high in
          let near = stack.near i lc in
          let spot : (sp_of v + 0 + stack_parameter y i) % 2 ^ 64
          ≡ p.sp + stack_parameter y i = omega arith in
          let read = all_may (may_read v.memory) 8 (p.sp + stack_parameter y i) (omega arith)
          (λ a x z. stack.readable i a ge lc x z) in
          record {
            rax = arguments i;
            does = subst (λ c. Executes (cond c in_register on_stack) v
                (kept_at w to (arguments i))) (sym (le-ltb i 4 ge))
                (executes_then (fetched Rax Rsp (stack_parameter y i) ∷ [])
                (keep_register Rax (local_at y i) ∷ []) v w (kept_at w to (arguments i))
                (from_sp true v (stack_parameter y i) (p.sp + stack_parameter y i) (arguments i)
                spot read (stack.number i ge lc) (stack.small i lc))
                (keeps_register Rax w (local_at y i) to (arguments i) refl e may
                (stack.small i lc)));
          }
    ]

-- a parameter that stands in a register
register_does : (p : FramePlace) (i count : ℕ) (r : Reg) (v : MachineView) (arguments : ℕ → ℕ)
    → Roomy p → is_of_local r ≡ true → i < count → sp_of v ≡ p.sp → InRegisters v arguments
    → OnStack p v.memory count arguments → KeptPlaced p i (InRegister r) v (arguments i)
register_does p i count r v arguments room l lc at regs stack =
    let y = p.layout in
    let in_register = move W64 r (parameter_register i) ∷ [] in
    let on_stack = fetched r Rsp (stack_parameter y i) ∷ [] in
    let after = record v { locals = with_local v.locals r (arguments i) } in
    elim (cases_lt i 4) [
      | inl lt ↦ record {
        rax = v.rax;
        does = subst (λ c. Executes (cond c in_register on_stack) v after) (sym (lt-ltb i 4 lt))
            (moved_to_local r (parameter_register i) v (arguments i) l
            (register_holds v arguments i lt regs) (stack.small i lc));
      }
      | inr ge ↦
          let hi = room.high in
          let near = stack.near i lc in
          let spot : (sp_of v + 0 + stack_parameter y i) % 2 ^ 64
          ≡ p.sp + stack_parameter y i = omega arith in
          let read = all_may (may_read v.memory) 8 (p.sp + stack_parameter y i) (omega arith)
          (λ a x z. stack.readable i a ge lc x z) in
          record {
            rax = v.rax;
            does = subst (λ c. Executes (cond c in_register on_stack) v after) (sym (le-ltb i 4 ge))
                (loaded_to_local r v (stack_parameter y i) (p.sp + stack_parameter y i)
                (arguments i) l spot read (stack.number i ge lc) (stack.small i lc));
          }
    ]

parameter_does : (p : FramePlace) (i count : ℕ) (v : MachineView) (b : BodyState)
    (arguments : ℕ → ℕ) → Roomy p → IsFunctionFrame p → i < count → i < p.counts.locals
    → sp_of v ≡ p.sp → FrameHolds p v.locals v.memory b → InRegisters v arguments
    → OnStack p v.memory count arguments → Kept p i v (arguments i)
parameter_does p i count v b arguments room fn lc ll at h regs stack =
    let k = by (place_of p.layout i) refl in record { rax = k.rax; does = k.does }
  where
    by : (q : Place) → place_of p.layout i ≡ q → KeptPlaced p i q v (arguments i)
    by (InRegister r) e = register_does p i count r v arguments room (place_is_local p.layout i r e)
        lc at regs stack
    by Arriving e =
        let low = arriving_low p.layout i e in let none = fn.none_arrive in absurd (omega arith)
    by InFrame e = framed_does p i count v b arguments room fn lc ll at h regs stack

-- ---- all of them

pub record AllKept (p : FramePlace) (i n : ℕ) (v : MachineView) (b : BodyState)
    (arguments : ℕ → ℕ) : Type 0 where
  pub rax : ℕ
  pub locals : LocalRegisters
  pub memory : Memory
  pub does : Executes (parameters_code p.layout i n) v
      (record v { rax = rax; locals = locals; memory = memory })
  pub unused : KeepsUnused p.layout v.locals locals
  pub holds : FrameHolds p locals memory (record {
    slots = with_arguments b.slots arguments i n;
    memory = b.memory;
  })
  pub changes : ChangesOwn p v.memory memory

above_slots : (p : FramePlace) (i a : ℕ) → IsFunctionFrame p → p.sp + stack_parameter p.layout i ≤ a
    → InTemporaries p.layout p.counts p.sp a ⊎ InLocals p.layout p.counts p.base a → ⊥
above_slots p i a fn le is = let b = fn.base in let t = fn.temporaries in let l = fn.locals in
    let w = fn.within in
    elim is [
      | inl x ↦ (let u = x.1 in absurd (omega arith))
      | inr
          x ↦ (let u = x.1 in absurd (omega arith))
    ]

still_on_stack : (p : FramePlace) (m m' : Memory) (count : ℕ) (arguments : ℕ → ℕ) → Roomy p
    → IsFunctionFrame p → ChangesOwn p m m' → OnStack p m count arguments
    → OnStack p m' count arguments
still_on_stack p m m' count arguments room fn c s = record {
  number = λ i ge lt. let hi = room.high in let near = s.near i lt in
      same_number m'.byte m.byte 8 (p.sp + stack_parameter p.layout i) (omega arith)
      (λ a x z. c.byte a (s.own i a ge lt x z) (above_slots p i a fn x)) ∙ s.number i ge lt;
  readable = λ i a ge lt x z. ap (λ (f : ℕ → Protection). is_readable (f a).rights) c.protection
      ∙ s.readable i a ge lt x z;
  own = s.own;
  near = s.near;
  small = s.small;
}

pub parameters_do : (p : FramePlace) (i n count : ℕ) (v : MachineView) (b : BodyState)
    (arguments : ℕ → ℕ) → Roomy p → IsFunctionFrame p → i + n ≤ count → i + n ≤ p.counts.locals
    → sp_of v ≡ p.sp → FrameHolds p v.locals v.memory b → InRegisters v arguments
    → OnStack p v.memory count arguments → AllKept p i n v b arguments
parameters_do p i zero count v b arguments room fn lc ll at h regs stack =
    record {
      rax = v.rax;
      locals = v.locals;
      memory = v.memory;
      does = executes_nothing v;
      unused = unused_same p.layout v.locals;
      holds = h;
      changes = record { protection = refl; byte = λ a own out. refl; bytes = λ x. x };
    }
parameters_do p i (suc n) count v b arguments room fn lc ll at h regs stack =
    let y = p.layout in
    let il : i < p.counts.locals = omega arith in
    let k = parameter_does p i count v b arguments room fn (omega arith) il at h regs stack in
    let x = arguments i in
    let lt = stack.small i (let q : i < count = omega arith in q) in
    let w : MachineView = record (kept_in y p.sp p.base v x (Local i)) { rax = k.rax } in
    let m = w.memory in
    let c : BodyState = record { slots = with_slot b.slots (Local i) x; memory = b.memory } in
    let ch = changes_slot y p.counts p.reserved p.sp p.base p.arrived room v.memory (Local i) x il
    in
    let none = fn.none_arrive in
    let hold = holds_after y p.counts p.reserved p.sp p.base p.arrived room v.locals v.memory b
    (Local i) x h il (let late : y.arrivals ≤ i = omega arith in late) lt in
    let r = parameters_do p (i + 1) n count w c arguments room fn (omega arith) (omega arith) at
    hold (record {
      first = regs.first;
      second = regs.second;
      third = regs.third;
      fourth = regs.fourth;
    }) (still_on_stack p v.memory m count arguments room fn ch stack) in
    record {
      rax = r.rax;
      locals = r.locals;
      memory = r.memory;
      does = executes_then (parameter_code y i) (parameters_code y (i + 1) n) v w
          (record v { rax = r.rax; locals = r.locals; memory = r.memory })
          k.does
          r.does;
      unused = unused_then y v.locals w.locals r.locals
          (unused_slot y p.counts p.reserved p.sp p.base p.arrived room v.locals (Local i) x)
          r.unused;
      holds = r.holds;
      changes = changes_then y p.counts p.reserved p.sp p.base v.memory m r.memory ch r.changes;
    }
