-- Each load of a saved register before an epilogue keeps the shadow: below the routine's return
-- address all codes are still to be undone, and past the last load those that aren't saves.
use Rattle.std.proofs.Common.{◌≡◌, ℕ, ◌+◌, ◌%◌, ◌^◌, ◌<◌, true, false, ◌&&◌, ◌||◌, cond, eqb, List, [], ◌∷◌, set, Some, None, Ok, refl, sym, ap, ◌∙◌, inl, inr}
use Rattle.std.specs.Prelude.{◌⊎◌}
use Rattle.std.proofs.lemmas.Bool.{cases_eq, and_parts, eq-eqb, ne_eqb, or_left}
use Rattle.match_bodies.specs.Words.{Memory, W64, Reg, Instr, is_encodable, State, with_rip, effect, load, Functions, Funclet, size, AllSmall, Steps, HasCode, StackItem, is_call, FindsOwed}
use Rattle.eh_tables.specs.declared.code.UnwindOperation.{UnwindOperation}
use Rattle.x64_instr.specs.Registers.{number}
use Rattle.x64_instr.specs.Registers as numbers
use Rattle.x64_instr.specs.declared.operand.MemRef.{MemRef}
use Rattle.x64_instr.specs.declared.operand.RegisterOrMemory.TheVariants as places
use Rattle.x64_instr.specs.declared.operand.Operand.TheVariants as operands
use Rattle.x64_instr.specs.declared.instruction.Instr.TheVariants as instrs
use Rattle.x64_machine.specs.Effect.{address_of}
use Rattle.x64_machine.specs.declared.cpu.Cpu.{Cpu}
use Rattle.frame_rules.specs.Body.{are_restored, has, if_place, is_place, restored_by, saved_at}
use Rattle.frame_rules.specs.Codes.{are_allowed, is_saved}
use Rattle.frame_rules.specs.Frame.{Framed, HoldsFrame, Stack}
use Rattle.frame_rules.specs.Plan.{Saved, load_of, saves_then, stack_place}
use Rattle.frame_rules.specs.States.{registers}
use Rattle.frame_rules.proofs.Leaving.{InLoads, Known, loads}
use Rattle.frame_rules.proofs.Planned.{Loadable}
use Rattle.frame_rules.proofs.Planning.{nonvolatile_number}
use Rattle.match_bodies.proofs.Steps.InstructionEffects.{bound}
use Rattle.match_bodies.proofs.Walks.RoutineWalks.{read_here, effect_here}
use Rattle.match_bodies.proofs.Prologues.PrologueInstructions.{same_state}
use Rattle.match_bodies.proofs.Prologues.PrologueSteps.{of_codes, Below, Finds, old, Made}
use Rattle.match_bodies.proofs.Prologues.EpilogueSteps.{Passes, passes, frame_made}

-- ---- what a load leaves

load_passes : (s u : State) (a : ℕ) (q : Reg) (m : MemRef)
    → effect (with_rip s a) (instrs.Move W64 (places.Register q) (operands.Memory m)) ≡ Ok u
    → Passes s u a
load_passes s u a q m ef =
    let c : Cpu = record { registers = s.cpu.registers; rip = a; flags = s.cpu.flags } in
    let after : ℕ → State = λ v. record s {
      cpu = record {
        registers = set s.cpu.registers (number q) (v % 2 ^ 64);
        rip = a;
        flags = s.cpu.flags;
      };
    } in
    let b = bound (load s.memory (address_of c m) W64) (λ v. Ok (after v)) u ef in
    passes s u a (after b.value) (same_state (after b.value) u (Ok (after b.value)) refl b.then)
    refl refl

-- a plan's load is of the register that it saves
pub loadable_restored : (f offset : ℕ) (ops : List UnwindOperation) (x : Saved)
    → Loadable f ops x → restored_by f offset ops (load_of x) ≡ Some x.register
loadable_restored f offset ops x h =
    let r = x.register in
    let n = x.offset in
    let k : ℕ = number (numbers.register r) in
    let same : k ≡ r = nonvolatile_number r h.kept in
    let place : is_place f offset n (stack_place n)
    ≡ true = or_left (true && eqb n n) _ (eq-eqb n n refl) in
    ap (λ q. if_place f offset (stack_place n) q (saved_at q ops)) same
    ∙ ap (if_place f offset (stack_place n) r) h.at ∙ ap (λ b. cond b (Some r) None) place

-- ---- past the loads

stack_unsaved : (m : Memory) (before : ℕ → ℕ) (back base at : ℕ) (ss : List Saved)
    (xs : List UnwindOperation) → Stack m before back base at (saves_then ss xs)
    → Stack m before back base at xs
stack_unsaved m before back base at [] xs h = h
stack_unsaved m before back base at (s ∷ ss) xs h =
    stack_unsaved m before back base at ss xs h.1

framed_unsaved : (f offset : ℕ) (now : ℕ → ℕ) (at : ℕ) (ss : List Saved)
    (xs : List UnwindOperation) → Framed f offset now at (saves_then ss xs)
    → Framed f offset now at xs
framed_unsaved f offset now at [] xs h = h
framed_unsaved f offset now at (s ∷ ss) xs h = framed_unsaved f offset now at ss xs h

-- a register that isn't saved below the saves isn't saved at all, or is loaded
unsaved_or_loaded : (q : ℕ) (rs : List ℕ) (ss : List Saved) (xs : List UnwindOperation)
    → are_restored rs (saves_then ss xs) ≡ true → is_saved q xs ≡ false
    → (is_saved q (saves_then ss xs) ≡ false) ⊎ (has q rs ≡ true)
unsaved_or_loaded q rs [] xs h s = inl s
unsaved_or_loaded q rs (x ∷ ss) xs h s =
    let r = x.register in
    let p = and_parts (has r rs) (are_restored rs (saves_then ss xs)) h in
    elim (cases_eq r q) [
      | inl same ↦ inr (ap (λ j. has j rs) (sym same) ∙ p.0)
      | inr ne ↦ elim (unsaved_or_loaded q rs ss xs p.1 s) [
        | inl z ↦ inl (ap (λ b. b || is_saved q (saves_then ss xs)) (ne_eqb r q ne) ∙ z)
        | inr z ↦ inr z
      ]
    ]

-- the frame is as the codes that aren't saves tell
pub loads_done : (f offset back : ℕ) (before : ℕ → ℕ) (ss : List Saved)
    (xs : List UnwindOperation) (rs : List ℕ) (u : State)
    → InLoads f offset before back (saves_then ss xs) rs u
    → are_restored rs (saves_then ss xs) ≡ true
    → HoldsFrame f offset u.memory before back (registers u) xs xs
loads_done f offset back before ss xs rs u h done = record {
  stack = stack_unsaved u.memory before back (registers u 4) (registers u 4) ss xs h.holds.stack;
  framed = framed_unsaved f offset (registers u) (registers u 4) ss xs h.holds.framed;
  others = λ q nv ne z. elim (unsaved_or_loaded q rs ss xs done z) [
    | inl x ↦ h.holds.others q nv ne x
    | inr x ↦ h.restored q x
  ];
}

module _ (t : Functions) (fs : List Funclet) (f offset top from back : ℕ) (others : List ℕ)
    (is : List StackItem) (close : offset < 2 ^ 16) (small : AllSmall others) (high : top < 2 ^ 63)
    (low : top < 2 ^ 47) where
  abbrev before : ℕ → ℕ
  before = old t fs f offset top from back others is

  -- a register is loaded; these codes are still to be undone then
  pub record LoadMade (s u : State) (next : ℕ) (ops after : List UnwindOperation) (rs : List ℕ) :
      Type 0 where
    pub made : Made t fs f offset top from back others is close small high s u next after
    pub loaded : InLoads f offset before back ops rs u

  pub load_made : (s u : State) (x : Saved) (more : List Instr)
      (ops after : List UnwindOperation) (rs : List ℕ)
      → Steps s u → Below t fs f offset top from back others is ops s
      → InLoads f offset before back ops rs s → Known f offset before ops → Loadable f ops x
      → is_encodable (load_of x) ≡ true → HasCode s.memory s.cpu.rip (load_of x ∷ more)
      → Finds t fs f offset top from back others is s ops → are_allowed f after ≡ true
      → (InLoads f offset before back ops (x.register ∷ rs) u
      → HoldsFrame f offset u.memory before back (registers u) after after)
      → FindsOwed t u.memory (s.cpu.rip + size (load_of x)) (of_codes f offset after)
      → LoadMade s u (s.cpu.rip + size (load_of x)) ops after (x.register ∷ rs)
  load_made s u x more ops after rs st b h known loadable enc code found allowed leaves finds =
      let i = load_of x in
      let next = s.cpu.rip + size i in
      let ef = effect_here s u i more enc code st.steps in
      let loaded = loads f offset back next before ops rs s u i x.register known h
      (loadable_restored f offset ops x loadable) ef in
      record {
        made = frame_made t fs f offset top from back others is close small high low s
            u (of_codes f offset ops) next after st b loaded.length allowed (leaves loaded)
            (load_passes s u next (numbers.register x.register) (stack_place x.offset) ef)
            (ap is_call (read_here s u i more enc code)) found finds;
        loaded = loaded;
      }
