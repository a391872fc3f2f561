-- Both turns of a vectored handler's stub keep the shadow: the first one changes a volatile
-- register alone, and the return address of the call stays at RSP.
use Rattle.std.proofs.Common.{◌≡◌, ℕ, ◌+◌, ◌≤◌, true, false, List, [], ◌∷◌, sym, ap, subst, ◌∙◌, arith}
use Rattle.match_turns.specs.Words.{Memory, Rsp, Instr, State, register, StackItem, AllKeep, FindsReturn, nothing_owed, Setting, HasCode}
use Rattle.x64_encode.specs.Chosen.{is_encodable}
use Rattle.x64_templates.specs.Runs.{Steps}
use Rattle.x64_templates.specs.Thunks.{HasThunk}
use Rattle.match_runs.specs.Shadow.{is_call, calls}
use Rattle.match_bodies.proofs.Steps.InstructionEffects.{others_of}
use Rattle.match_bodies.proofs.Walks.RoutineWalks.{StepsTo, Beneath, beneath_stays, callers_above, gives_above, read_here}
use Rattle.match_bodies.proofs.Keeping.CallKeeping.{thunk_keeps}
use Rattle.match_turns.proofs.Lemmas.{straight, keep_first}

module _ (setting : Setting) where
  open setting use {functions as t, funclets as fs}

  module _ (s u w : State) (top from back : ℕ) (others : List ℕ) (list : List StackItem)
      (beneath : Beneath t s nothing_owed top from back others list) (i : Instr)
      (enc : is_encodable i ≡ true) (code : HasCode s.memory s.cpu.rip (i ∷ []))
      (plain : calls i ≡ false) (first : Steps s u)
      (stack : register u.cpu Rsp ≡ register s.cpu Rsp)
      (same : others_of u.cpu.registers ≡ others_of s.cpu.registers)
      (bytes : (a : ℕ) → u.memory.byte a ≡ s.memory.byte a) (at service : ℕ)
      (here : u.cpu.rip ≡ at) (there : HasThunk u.memory at service) (last : StepsTo 1 u w)
      (to : w.cpu.rip ≡ service) (begins : (m : Memory) → FindsReturn t m s.cpu.rip)
      (middle : (m : Memory) → FindsReturn t m at)
      (served : (m : Memory) → FindsReturn t m service) where
    beneath_next : Beneath t u nothing_owed top from back others list
    beneath_next = beneath_stays t s u nothing_owed top from back others list first stack same
        (λ a o. bytes a) beneath

    pub stub_keeps : AllKeep t fs 2 s
    stub_keeps =
        let b = beneath_next in
        let size_is = b.at in
        keep_first t fs 1 s u first.steps
        (straight t fs s u (callers_above t top back others list) first.steps
        (ap is_call (read_here s u i [] enc code) ∙ plain)
        (gives_above t s nothing_owed top from back others list beneath (begins s.memory))
        (gives_above t u nothing_owed top from back others list b
        (subst (λ a. FindsReturn t u.memory a) (sym here) (middle u.memory)))
        (let h : register u.cpu Rsp + 8 ≤ top + 8 = omega arith in h))
        (thunk_keeps setting u w top from back others list b at service here there last to middle
        served)
