-- Each turn of a name thunk keeps the shadow: its caller is the host, by the return address at RSP.
use Rattle.std.proofs.Common.{◌≡◌, ℕ, ◌+◌, ◌^◌, ◌<◌, true, false, Ok, List, [], ◌∷◌, refl, sym, ap, subst, ◌∙◌, arith}
use Rattle.match_turns.specs.Words.{Rax, Rcx, Rdx, Rsp, Context, context_of, State, register, step, Instr, Flags, Setting, MachineView, machine, HasCode, context_below, WalkGives, GivesCallers, KeepsShadow, AllKeep, caller_at}
use Rattle.virtual_unwind.specs.Undone.{word}
use Rattle.x64_encode.specs.Chosen.{is_encodable}
use Rattle.x64_templates.specs.Runs.{Reaches}
use Rattle.template_code.specs.Handlers.{loaded}
use Rattle.template_code.specs.Slots.{fetched}
use Rattle.template_code.specs.Jumps.{jump}
use Rattle.match_runs.specs.Shadow.{is_call, calls}
use Rattle.match_stack.specs.PlainWalks.{state}
use Rattle.match_bodies.specs.Callers.{FindsReturn, caller_above}
use Rattle.match_bodies.proofs.Steps.InstructionEffects.{others_of}
use Rattle.match_turns.proofs.Lemmas.{straight, keep_first, read_here, gives_caller, finds_return, word_is}

module _ (setting : Setting) where
  open setting use {functions as t, funclets as fs}

  steps_of : (s u : State) → Reaches 1 s u → step s ≡ Ok u
  steps_of s u r = subst (λ (x : State). step s ≡ Ok x) r.2 r.1.steps.steps

  -- the same registers but for three, anywhere
  module _ (v : MachineView) (f : Flags) (back : ℕ) (cs : List Context)
      (returns : word v.memory v.rest.rsp ≡ Ok back) (room : v.rest.rsp + 8 < 2 ^ 64)
      (below : (others : List ℕ)
      → GivesCallers t v.memory (state (context_below back (v.rest.rsp + 8) others) 0) cs) where
    abbrev pub there : (a b c rip : ℕ) → State
    there a b c rip = machine (record v { rax = a; rcx = b; rdx = c }) rip f

    abbrev pub caller : Context
    caller = caller_at (there 0 0 0 0)

    pub gives : (a b c rip : ℕ) → FindsReturn t v.memory rip
        → WalkGives t (there a b c rip) (caller ∷ cs)
    gives a b c rip finds =
        let sp = v.rest.rsp in
        let x = there a b c rip in
        let others = others_of x.cpu.registers in
        let here : sp + 0 ≡ sp = omega arith in
        let flat : sp + 8 ≡ sp + 0 + 8 = omega arith in
        let found = finds_return t v.memory rip finds (context_of x.cpu) back refl refl
        (omega arith)
        (ap (word v.memory) here ∙ returns) in
        let above = subst (λ n. GivesCallers t v.memory (state (context_below back n others) 0) cs)
        flat (below others) in
        let number = word_is v.memory sp back returns in
        let same : context_below back (sp + 0 + 8) others ≡ caller =
        ap (λ n. context_below back n others) (sym flat)
        ∙ ap (λ y. context_below y (sp + 8) others) (sym number) in
        subst (λ (k : Context). WalkGives t x (k ∷ cs)) same
        (gives_caller t v.memory (context_of x.cpu) (caller_above (context_of x.cpu) 0 back) cs
        found
        above)

    one : (s u : State) (i : Instr) → Reaches 1 s u → is_encodable i ≡ true
        → HasCode s.memory s.cpu.rip (i ∷ []) → calls i ≡ false → WalkGives t s (caller ∷ cs)
        → WalkGives t u (caller ∷ cs) → register u.cpu Rsp ≡ v.rest.rsp → KeepsShadow t fs s u
    one s u i r enc code plain before after same =
        straight t fs s u (caller ∷ cs) (steps_of s u r)
        (ap is_call (read_here s u i [] enc code) ∙ plain) before after (omega arith)

    -- four instructions, none of which is a call
    pub four : (s0 s1 s2 s3 s4 : State) → Reaches 1 s0 s1 → Reaches 1 s1 s2
        → Reaches 1 s2 s3 → Reaches 1 s3 s4 → KeepsShadow t fs s0 s1 → KeepsShadow t fs s1 s2
        → KeepsShadow t fs s2 s3 → KeepsShadow t fs s3 s4 → AllKeep t fs 4 s0
    four s0 s1 s2 s3 s4 r0 r1 r2 r3 k0 k1 k2 k3 =
        keep_first t fs 3 s0 s1 (steps_of s0 s1 r0) k0
        (keep_first t fs 2 s1 s2 (steps_of s1 s2 r1) k1
        (keep_first t fs 1 s2 s3 (steps_of s2 s3 r2) k2
        (keep_first t fs 0 s3 s4 (steps_of s3 s4 r3) k3 tt)))

    -- the instructions of a name thunk, at their places
    pub name_thunk_keeps : (at function r code flags : ℕ)
        → (let s0 = there v.rax v.rcx v.rdx at in
        let s1 = there r v.rcx v.rdx (at + 4) in
        let s2 = there r code v.rdx (at + 7) in
        let s3 = there r code flags (at + 10) in
        let s4 = there r code flags function in
        Reaches 1 s0 s1 → Reaches 1 s1 s2 → Reaches 1 s2 s3 → Reaches 1 s3 s4
        → HasCode v.memory at (fetched Rax Rcx 0 ∷ [])
        → HasCode v.memory (at + 4) (loaded Rcx 0 ∷ [])
        → HasCode v.memory (at + 7) (loaded Rdx 4 ∷ [])
        → HasCode v.memory (at + 10) (jump (at + 15) function ∷ [])
        → is_encodable (jump (at + 15) function) ≡ true
        → FindsReturn t v.memory at → FindsReturn t v.memory (at + 4)
        → FindsReturn t v.memory (at + 7) → FindsReturn t v.memory (at + 10)
        → FindsReturn t v.memory function → AllKeep t fs 4 s0)
    name_thunk_keeps at function r code flags r0 r1 r2 r3 c0 c1 c2 c3 enc f0 f1 f2 f3 f4 =
        let s0 = there v.rax v.rcx v.rdx at in
        let s1 = there r v.rcx v.rdx (at + 4) in
        let s2 = there r code v.rdx (at + 7) in
        let s3 = there r code flags (at + 10) in
        let s4 = there r code flags function in
        let i0 = fetched Rax Rcx 0 in
        let i1 = loaded Rcx 0 in
        let i2 = loaded Rdx 4 in
        let i3 = jump (at + 15) function in
        let g0 = gives v.rax v.rcx v.rdx at f0 in
        let g1 = gives r v.rcx v.rdx (at + 4) f1 in
        let g2 = gives r code v.rdx (at + 7) f2 in
        let g3 = gives r code flags (at + 10) f3 in
        let g4 = gives r code flags function f4 in
        four s0 s1 s2 s3 s4 r0 r1 r2 r3 (one s0 s1 i0 r0 refl c0 refl g0 g1 refl)
        (one s1 s2 i1 r1 refl c1 refl g1 g2 refl) (one s2 s3 i2 r2 refl c2 refl g2 g3 refl)
        (one s3 s4 i3 r3 enc c3 refl g3 g4 refl)
