-- A function begins: its frame holds its arguments.
use Rattle.std.proofs.Common.{◌≡◌, ℕ, zero, suc, ◌+◌, ◌^◌, ◌<◌, ◌≤◌, cond, [], ◌∷◌, length, refl, sym, subst, arith, inl, inr, true, false, ltb}
use Rattle.std.specs.Prelude.{◌⊎◌}
use Rattle.std.proofs.lemmas.Bool.{cases_lt, lt-ltb, le-ltb}
use Rattle.x64_templates.specs.Words.{Memory, Rax, Rsp, Flags, BodyState, MachineView, machine, sizes, fetched, local_at, parameter_register, keep_register, stack_parameter, parameter_code, parameters_code, sp_of, with_arguments, InRegisters, OnStack, IsFunctionFrame, body_in_memory, FreshFrame, HasCode, FramePlace, Roomy, FrameHolds, ReachesBody, W64, move, Place, InRegister, InFrame, Arriving, place_of, parameter_placed, LocalRegisters}
use Rattle.x64_templates.proofs.Encoded.{Fine, fine_both, near}
use Rattle.x64_templates.proofs.Computes.{runs_view}
use Rattle.x64_templates.proofs.Entries.{holds_body_in_memory}
use Rattle.x64_templates.proofs.Parameters.{parameters_do}

parameter_fine : (p : FramePlace) (i count : ℕ) (arguments : ℕ → ℕ) (m : Memory) → Roomy p
    → i < count → i < p.counts.locals → OnStack p m count arguments
    → Fine (parameter_code p.layout i)
parameter_fine p i count arguments m room lc ll stack =
    let y = p.layout in
    let l = room.locals in
    let small : local_at y i < 2 ^ 31 = omega arith in
    by (place_of y i) (elim (cases_lt i 4) [
      | inl lt ↦ inl (lt-ltb i 4 lt)
      | inr ge ↦ inr (le-ltb i 4 ge)
    ]) small
  where
    by : (q : Place) → (ltb i 4 ≡ true) ⊎ (ltb i 4 ≡ false) → local_at p.layout i < 2 ^ 31
        → Fine (parameter_placed p.layout i q)
    by (InRegister r) (inl e) small = subst (λ c. Fine (cond c
        (move W64 r (parameter_register i) ∷ []) (fetched r Rsp (stack_parameter p.layout i) ∷ [])))
        (sym e) (refl, refl, refl, tt)
    by (InRegister r) (inr e) small = subst (λ c. Fine (cond c
        (move W64 r (parameter_register i) ∷ []) (fetched r Rsp (stack_parameter p.layout i) ∷ [])))
        (sym e) (near (stack_parameter p.layout i) (stack.near i lc), refl, refl, tt)
    by Arriving few small = tt
    by InFrame (inl e) small = subst (λ c. Fine (cond c
        (keep_register (parameter_register i) (local_at p.layout i) ∷ [])
        (fetched Rax Rsp (stack_parameter p.layout i) ∷ keep_register Rax (local_at p.layout i)
        ∷ []))) (sym e) (near (local_at p.layout i) small, refl, refl, tt)
    by InFrame (inr e) small = subst (λ c. Fine (cond c
        (keep_register (parameter_register i) (local_at p.layout i) ∷ [])
        (fetched Rax Rsp (stack_parameter p.layout i) ∷ keep_register Rax (local_at p.layout i)
        ∷ []))) (sym e) (
          near (stack_parameter p.layout i) (stack.near i lc),
          refl,
          refl,
          (near (local_at p.layout i) small, refl, refl, tt),
        )

pub parameters_fine : (p : FramePlace) (i n count : ℕ) (arguments : ℕ → ℕ) (m : Memory) → Roomy p
    → i + n ≤ count → i + n ≤ p.counts.locals → OnStack p m count arguments
    → Fine (parameters_code p.layout i n)
parameters_fine p i zero count arguments m room lc ll stack = tt
parameters_fine p i (suc n) count arguments m room lc ll stack = fine_both
    (parameter_code p.layout i) (parameters_code p.layout (i + 1) n)
    (parameter_fine p i count arguments m room (omega arith) (omega arith) stack)
    (parameters_fine p (i + 1) n count arguments m room (omega arith) (omega arith) stack)

pub fresh_holds : (p : FramePlace) (l : LocalRegisters) (m source : Memory)
    → FreshFrame p l m source
    → FrameHolds p l m (body_in_memory p.layout p.sp p.base p.arrived l m source)
fresh_holds p l m source b = holds_body_in_memory p.layout p.counts p.reserved p.sp p.base p.arrived
    l m source
    b.arrived b.small b.bytes b.base b.writable b.own b.own_base b.agrees

-- ---- parameters, once RSP is the frame's

pub parameters_run : (p : FramePlace) (count : ℕ) (arguments : ℕ → ℕ) (v : MachineView) (rip : ℕ)
    (f : Flags) (b : BodyState) → Roomy p → IsFunctionFrame p → count ≤ p.counts.locals
    → sp_of v ≡ p.sp → FrameHolds p v.locals v.memory b → InRegisters v arguments
    → OnStack p v.memory count arguments → HasCode v.memory rip (parameters_code p.layout 0 count)
    → ReachesBody p (length (parameters_code p.layout 0 count)) (machine v rip f)
    (rip + sizes (parameters_code p.layout 0 count)) v.rest v.locals
    (record { slots = with_arguments b.slots arguments 0 count; memory = b.memory })
parameters_run p count arguments v rip f b room fn le at h regs stack code =
    let params = parameters_code p.layout 0 count in
    let k = parameters_do p 0 count count v b arguments room fn (omega arith) (omega arith) at h
    regs stack in
    let last : MachineView = record v { rax = k.rax; locals = k.locals; memory = k.memory } in
    let r = runs_view params v last rip f (parameters_fine p 0 count count arguments v.memory room
    (omega arith) (omega arith) stack) code k.does in
    record {
      after = last;
      flags = r.left;
      comes = r.comes;
      rest = refl;
      locals = k.unused;
      holds = k.holds;
      changes = k.changes;
    }
