-- Code that flows, in a routine whose return address is found by the walk, keeps the shadow at each
-- of its turns.
use Rattle.std.proofs.Common.{◌≡◌, ℕ, zero, suc, ◌+◌, ◌^◌, ◌<◌, false, List, ◌∷◌, ◌++◌, inl, inr, length, get_or, refl, sym, ap, subst, ◌∙◌, arith}
use Rattle.match_bodies.specs.Words.{Memory, executable, Rsp, Instr, leading, Context, kept_of, context_of, State, register, Functions, Funclet, LinearProgram, size, sizes, Reaches, HasCode, state, ImagePlan, GivesCallers, WalkGives, KeepsShadow, AllKeep, Sites, FindsOwed, Owed, IsOwed, HasProgram, Flows, StoresOnce}
use Rattle.x64_instr.specs.declared.instruction.Instr.TheVariants as instrs
use Rattle.x64_templates.specs.Keeping.{is_call}
use Rattle.x64_templates.specs.Chains.{AllTurns, IsInside, IsTurnOf}
use Rattle.match_bodies.proofs.Lemmas.{Encodable, all_turns, HeadAbove, straight}
use Rattle.match_runs.specs.Shadow as shadows
use Rattle.match_bodies.proofs.Walks.OwedCallers.{owed_both}
use Rattle.match_bodies.proofs.Walks.BodyCallers.{gives_caller}

no_call : (i : Instr) → is_call i ≡ false → shadows.calls i ≡ false
no_call (instrs.Call to) e = absurd cc
no_call i e = refl

pub all_keep : (t : Functions) (fs : List Funclet) (n : ℕ) (s : State)
    → AllTurns (KeepsShadow t fs) n s → AllKeep t fs n s
all_keep t fs zero s h = tt
all_keep t fs (suc n) s h = λ u e. (let x = h u e in (x.0, all_keep t fs n u x.1))

-- what a routine's caller continues with, where the return address is so far above RSP
abbrev pub caller_by : List ℕ → ℕ → ℕ → List ℕ → Context
caller_by kept size back others = record {
  rip = back;
  kept = (get_or kept 0 0 + size + 8) ∷ others;
}

module _ (t : Functions) (fs : List Funclet) (program : LinearProgram) (p : ImagePlan) (q : Sites)
    (o : Owed) where
  -- in this memory of a routine, by RSP and its nonvolatile registers, these codes are still to be
  -- undone, and the walk gives these callers from its caller on
  pub record IsBelow (m : Memory) (kept : List ℕ) (size back : ℕ) (others : List ℕ)
      (cs : List Context) : Type 0 where
    pub program_there : HasProgram t fs program p q m
    pub owed : (rip : ℕ) → IsOwed m (record { rip = rip; kept = kept }) o size back others
    pub beyond : GivesCallers t m (state (caller_by kept size back others) 0) cs

  -- with the words of another memory, where RSP is the same
  pub below_both : (m m' : Memory) (kept kept' : List ℕ) (size back : ℕ) (others : List ℕ)
      (cs : List Context) → get_or kept' 0 0 ≡ get_or kept 0 0
      → IsBelow m kept size back others cs → IsBelow m' kept' size back others cs
      → IsBelow m' kept size back others cs
  below_both m m' kept kept' size back others cs same h h' = record {
    program_there = h'.program_there;
    owed = λ rip. owed_both m m' (record { rip = rip; kept = kept })
        (record { rip = rip; kept = kept' }) o size back others same (h.owed rip) (h'.owed rip);
    beyond = subst (λ n. let x : Context = record { rip = back; kept = (n + size + 8) ∷ others } in
        GivesCallers t m' (state x 0) cs) same h'.beyond;
  }

  -- the walk from a state gives the caller and what lies beyond
  pub from_state : (u : State) (kept : List ℕ) (size back : ℕ) (others : List ℕ)
      (cs : List Context)
      → FindsOwed t u.memory u.cpu.rip o → kept_of u.cpu.registers ≡ kept
      → IsBelow u.memory kept size back others cs
      → WalkGives t u (caller_by kept size back others ∷ cs)
  from_state u kept size back others cs finds same h =
      let c : Context = record { rip = u.cpu.rip; kept = kept } in
      let is : c ≡ context_of u.cpu = ap (λ (ks : List ℕ).
      let x : Context = record { rip = u.cpu.rip; kept = ks } in x) (sym same) in
      subst (λ (x : Context). GivesCallers t u.memory (state x 0)
      (caller_by kept size back others ∷ cs)) is
      (gives_caller t u.memory c (caller_by kept size back others) cs
      (finds c size back others refl (h.owed u.cpu.rip)) h.beyond)

  module _ (code : List Instr) (s w : State) (size back : ℕ) (others : List ℕ)
      (cs : List Context)
      (room : register s.cpu Rsp + size + 8 < 2 ^ 64)
      (finds : (m : Memory) (done left : List Instr) (item : Instr) → HasProgram t fs program p q
      m
      → code ≡ done ++ (item ∷ left) → FindsOwed t m (s.cpu.rip + sizes done) o)
      (begin : IsBelow s.memory (kept_of s.cpu.registers) size back others cs)
      (end : IsBelow w.memory (kept_of s.cpu.registers) size back others cs) where
    abbrev kept : List ℕ
    kept = kept_of s.cpu.registers

    abbrev callers : List Context
    callers = caller_by kept size back others ∷ cs

    inside_code : (u : State) → IsInside code s w u → WalkGives t u callers
    inside_code u h = from_state u kept size back others cs
        (subst (λ a. FindsOwed t u.memory a o) (sym h.rip)
        (finds u.memory h.done h.left h.item there.program_there h.parts)) h.registers there
      where
        there : IsBelow u.memory kept size back others cs
        there = elim h.memory [
          | inl e ↦ subst (λ (m : Memory). IsBelow m kept size back others cs) (sym e) begin
          | inr e ↦ subst (λ (m : Memory). IsBelow m kept size back others cs) (sym e) end
        ]

    same_sp : (u : State) → IsInside code s w u → register u.cpu Rsp ≡ register s.cpu Rsp
    same_sp u h = ap (λ (ks : List ℕ). get_or ks 0 0) h.registers

    -- each turn of a run over the code keeps the shadow, where the walk gives it at the end too
    pub flow_keeps : Encodable code → Flows code → StoresOnce code → HasCode s.memory s.cpu.rip
        code
        → Reaches (length code) s w → WalkGives t w callers → HeadAbove (register w.cpu Rsp)
        callers
        → AllKeep t fs (length code) s
    flow_keeps spelling flow once is_there r gives above = all_keep t fs (length code) s
        (all_turns (KeepsShadow t fs) code s w turn spelling flow once is_there r)
      where
        turn : (u v : State) → IsTurnOf code s w u v → KeepsShadow t fs u v
        turn u v h =
            let call : shadows.is_call (leading (executable u.memory 15 u.cpu.rip))
            ≡ false = ap shadows.is_call h.read ∙ no_call h.instruction h.no_call in
            elim h.to [
              | inl x ↦ (let e = same_sp v x in
                  straight t fs u v callers h.steps call (inside_code u h.from) (inside_code v x)
                  (omega arith))
              | inr e ↦ straight t fs u v callers h.steps call (inside_code u h.from)
                  (subst (λ (x : State). WalkGives t x callers) (sym e) gives)
                  (subst (λ (x : State). HeadAbove (register x.cpu Rsp) callers) (sym e) above)
            ]
