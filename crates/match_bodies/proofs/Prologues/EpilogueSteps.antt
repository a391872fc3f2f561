-- Each instruction of an epilogue keeps the shadow: below the routine's return address the pushes
-- of the registers that haven't been popped are still to be undone.
use Rattle.std.proofs.Common.{◌≡◌, ℕ, ◌+◌, ◌%◌, ◌^◌, ◌<◌, ◌≤◌, true, false, eqb, List, [], ◌∷◌, length, set, Ok, refl, sym, ap, subst, ◌∙◌, arith}
use Rattle.std.proofs.lemmas.Bool.{false≢true, or_left, eq-eqb}
use Rattle.seh_num.specs.Answers.{◌>>=◌}
use Rattle.match_bodies.specs.Words.{Memory, executable, W64, Reg, Rsp, Instr, leading, is_encodable, State, Answer, register, with_rip, with_register, effect, load, Functions, Funclet, size, AllSmall, Steps, HasCode, StackItem, is_call, FindsReturn, FindsOwed, Owed, nothing_owed, calls}
use Rattle.eh_tables.specs.declared.code.UnwindOperation.{UnwindOperation}
use Rattle.x64_instr.specs.Registers.{number}
use Rattle.x64_instr.specs.Registers as numbers
use Rattle.x64_instr.specs.declared.operand.RegisterOrMemory.TheVariants as places
use Rattle.x64_instr.specs.declared.operand.Operand.TheVariants as operands
use Rattle.x64_instr.specs.declared.instruction.Operation.TheVariants as arithmetic
use Rattle.x64_instr.specs.declared.instruction.Instr.TheVariants as instrs
use Rattle.x64_machine.specs.Effect.{address_of}
use Rattle.x64_machine.specs.Words.{added}
use Rattle.x64_machine.specs.declared.cpu.Cpu.{Cpu}
use Rattle.frame_rules.specs.Body.{are_restored}
use Rattle.frame_rules.specs.Codes.{allocation, are_allowed, depth, pushed, pushes, are_pushes}
use Rattle.frame_rules.specs.Epilogue.{gives_back}
use Rattle.frame_rules.specs.Frame.{HoldsFrame}
use Rattle.frame_rules.specs.States.{registers}
use Rattle.frame_rules.proofs.EpilogueRuns.{opens, popped}
use Rattle.frame_rules.proofs.Leaving.{InLoads, InPops, Known, load_at}
use Rattle.frame_rules.proofs.Order.{unframed, pushes_unframed}
use Rattle.frame_rules.proofs.Planning.{nonvolatile_number}
use Rattle.frame_rules.proofs.Undoing.{saved_register, stack_depth}
use Rattle.frame_rules.proofs.Words.{rebased}
use Rattle.match_bodies.proofs.Lemmas.{straight}
use Rattle.match_bodies.proofs.Walks.RoutineWalks.{read_here, effect_here, Beneath, above_stays, callers_above, gives_above}
use Rattle.match_bodies.proofs.Prologues.PrologueInstructions.{same_state}
use Rattle.match_bodies.proofs.Prologues.PrologueSteps.{of_codes, Below, Finds, old, fits, holds, owed_from, Made}

-- ---- what an instruction leaves

-- the memory is left, and RIP is here
pub record Passes (s u : State) (a : ℕ) : Type 0 where
  pub memory : u.memory ≡ s.memory
  pub rip : u.cpu.rip ≡ a

pub passes : (s u : State) (a : ℕ) (t : State) → u ≡ t → t.memory ≡ s.memory → t.cpu.rip ≡ a
    → Passes s u a
passes s u a t is memory rip = record {
  memory = ap (λ (x : State). x.memory) is ∙ memory;
  rip = ap (λ (x : State). x.cpu.rip) is ∙ rip;
}

opening_passes : (f offset n a : ℕ) (s u : State) (i : Instr) → gives_back f offset n i ≡ true
    → effect (with_rip s a) i ≡ Ok u → Passes s u a
opening_passes f offset n a s u
    (instrs.Arithmetic arithmetic.Add W64 (places.Register Rsp) (operands.Immediate v)) e ef =
    let x = added W64 (registers s 4 % 2 ^ 64) (v % 2 ^ 64) in
    let t : State = record s {
      cpu = record {
        registers = set s.cpu.registers 4 (x.0 % 2 ^ 64);
        rip = a;
        flags = x.1;
      };
    } in
    passes s u a t (same_state t u (effect (with_rip s a)
    (instrs.Arithmetic arithmetic.Add W64 (places.Register Rsp) (operands.Immediate v))) refl ef)
    refl refl
opening_passes f offset n a s u (instrs.LoadAddress W64 Rsp m) e ef =
    let c : Cpu = record { registers = s.cpu.registers; rip = a; flags = s.cpu.flags } in
    let t : State = record s {
      cpu = record {
        registers = set s.cpu.registers 4 (address_of c m % 2 ^ 64);
        rip = a;
        flags = s.cpu.flags;
      };
    } in
    passes s u a t (same_state t u (effect (with_rip s a) (instrs.LoadAddress W64 Rsp m)) refl ef)
    refl refl
opening_passes f offset n a s u i e ef = absurd (false≢true e)

opening_is_no_call : (f offset n : ℕ) (i : Instr) → gives_back f offset n i ≡ true
    → calls i ≡ false
opening_is_no_call f offset n (instrs.Call to) e = absurd (false≢true e)
opening_is_no_call f offset n i e = refl

pop_passes : (s u : State) (a v : ℕ) (q : Reg) → load s.memory (registers s 4) W64 ≡ Ok v
    → effect (with_rip s a) (instrs.Pop q) ≡ Ok u → Passes s u a
pop_passes s u a v q got ef =
    let lower : State = record s {
      cpu = record {
        registers = set s.cpu.registers 4 ((registers s 4 + 8) % 2 ^ 64 % 2 ^ 64);
        rip = a;
        flags = s.cpu.flags;
      };
    } in
    let G : Answer ℕ → Answer State = λ r. ◌>>=◌ {A = ℕ × State} (r >>= λ v. Ok (v, lower))
    (λ x. Ok (record x.1 { cpu = with_register W64 x.1.cpu q x.0 })) in
    let t : State = record lower { cpu = with_register W64 lower.cpu q v } in
    passes s u a t (same_state t u (effect (with_rip s a) (instrs.Pop q)) (ap G got) ef) refl refl

pushed_alone : (rs : List ℕ) → are_pushes (pushed rs) ≡ true
pushed_alone [] = refl
pushed_alone (r ∷ rs) = pushed_alone rs

module _ (t : Functions) (fs : List Funclet) (f offset top from back : ℕ) (others : List ℕ)
    (is : List StackItem) (close : offset < 2 ^ 16) (small : AllSmall others) (high : top < 2 ^ 63)
    (low : top < 2 ^ 47) where
  abbrev pub before : ℕ → ℕ
  before = old t fs f offset top from back others is

  abbrev pub Under : List UnwindOperation → State → Type 0
  Under ops s = Below t fs f offset top from back others is ops s

  abbrev pub After : (s u : State) → (next : ℕ) → List ℕ → Type 0
  After s u next rs = Made t fs f offset top from back others is close small high s u next
      (pushed rs)

  -- the frame is as these codes tell
  pub frame_made : (s u : State) (o : Owed) (next : ℕ) (ops : List UnwindOperation) → Steps s u
      → Beneath t s o top from back others is → length u.cpu.registers ≡ 16
      → are_allowed f ops ≡ true
      → HoldsFrame f offset u.memory before back (registers u) ops ops → Passes s u next
      → is_call (leading (executable s.memory 15 s.cpu.rip)) ≡ false
      → FindsOwed t s.memory s.cpu.rip o → FindsOwed t u.memory next (of_codes f offset ops)
      → Made t fs f offset top from back others is close small high s u next ops
  frame_made s u o next ops st b long allowed there pass quiet found after =
      let deep : registers u 4 + depth ops ≡ top = stack_depth u.memory before back
      (registers u 4) (registers u 4) ops there.stack in
      let b' : Under ops u = record {
        above = above_stays t s u top from back others is st
            (λ x le. ap (λ (m : Memory). m.byte x) pass.memory) b.above;
        count = long;
        size = depth ops;
        at = deep;
        owed = owed_from t fs f offset top from back others is close small high u ops allowed
            b.owed.eight there deep;
      } in
      record {
        keeps = straight t fs s u (callers_above t top back others is) st.steps quiet
            (gives_above t s o top from back others is b found)
            (gives_above t u (of_codes f offset ops) top from back others is b'
            (subst (λ a. FindsOwed t u.memory a (of_codes f offset ops)) (sym pass.rip) after))
            (let k : register u.cpu Rsp + 8 ≤ top + 8 = omega arith in k);
        beneath = b';
        rip = pass.rip;
      }

  -- these registers are still to be popped
  left_made : (s u : State) (o : Owed) (next : ℕ) (rs : List ℕ) → Steps s u
      → Beneath t s o top from back others is → InPops f before back rs u → Passes s u next
      → is_call (leading (executable s.memory 15 s.cpu.rip)) ≡ false
      → FindsOwed t s.memory s.cpu.rip o
      → FindsOwed t u.memory next (of_codes f offset (pushed rs)) → After s u next rs
  left_made s u o next rs st b h pass quiet found after =
      let p = pushed_alone rs in
      let there : HoldsFrame f offset u.memory before back (registers u) (pushed rs) (pushed rs) =
      record {
        stack = rebased u.memory before back h.base (registers u 4) (registers u 4) (pushed rs) p
            h.stack;
        framed = unframed f offset (registers u) (registers u 4) (pushed rs)
            (pushes_unframed (pushed rs) p);
        others = h.others;
      } in
      frame_made s u o next (pushed rs) st b h.length h.allowed there pass quiet found after

  -- the allocation is given back
  pub opening_made : (s u : State) (i : Instr) (more : List Instr) (ops : List UnwindOperation)
      → Steps s u → Under ops s → Known f offset before ops → are_restored [] ops ≡ true
      → gives_back f offset (allocation ops) i ≡ true → is_encodable i ≡ true
      → HasCode s.memory s.cpu.rip (i ∷ more) → Finds t fs f offset top from back others is s ops
      → FindsOwed t u.memory (s.cpu.rip + size i) (of_codes f offset (pushed (pushes ops)))
      → After s u (s.cpu.rip + size i) (pushes ops)
  opening_made s u i more ops st b known done gives enc code found after =
      let next = s.cpu.rip + size i in
      let ef = effect_here s u i more enc code st.steps in
      let loaded : InLoads f offset before back ops [] s = record {
        length = b.count;
        holds = holds t fs f offset top from back others is close small high s ops b;
        restored = λ r e. absurd (false≢true e);
      } in
      left_made s u (of_codes f offset ops) next (pushes ops) st b
      (opens f offset back next before ops [] s u i known loaded done gives ef)
      (opening_passes f offset (allocation ops) next s u i gives ef)
      (ap is_call (read_here s u i more enc code)
      ∙ opening_is_no_call f offset (allocation ops) i gives) found after

  -- a register is popped
  pub pop_made : (s u : State) (r : ℕ) (rs : List ℕ) (more : List Instr) → Steps s u
      → Under (pushed (r ∷ rs)) s
      → HasCode s.memory s.cpu.rip (instrs.Pop (numbers.register r) ∷ more)
      → Finds t fs f offset top from back others is s (pushed (r ∷ rs))
      → FindsOwed t u.memory (s.cpu.rip + size (instrs.Pop (numbers.register r)))
      (of_codes f offset (pushed rs))
      → After s u (s.cpu.rip + size (instrs.Pop (numbers.register r))) rs
  pop_made s u r rs more st b code found after =
      let i = instrs.Pop (numbers.register r) in
      let next = s.cpu.rip + size i in
      let ef = effect_here s u i more refl code st.steps in
      let there = holds t fs f offset top from back others is close small high s (pushed (r ∷ rs))
      b in
      let same : number (numbers.register r) ≡ r = nonvolatile_number r (saved_register f r
      (pushed (r ∷ rs)) b.owed.allowed (or_left (eqb r r) _ (eq-eqb r r refl))).0 in
      let h : InPops f before back (r ∷ rs) s = record {
        length = b.count;
        base = registers s 4;
        stack = there.stack;
        others = there.others;
        allowed = b.owed.allowed;
      } in
      left_made s u (of_codes f offset (pushed (r ∷ rs))) next rs st b
      (popped f back next before r rs s u i low
      (fits t fs f offset top from back others is close small high) h
      (eq-eqb (number (numbers.register r)) r same) ef)
      (pop_passes s u next (before r) (numbers.register r)
      (load_at s.memory (registers s 4) (before r) there.stack.0) ef)
      (ap is_call (read_here s u i more refl code)) found after

-- ---- where nothing is left to be popped

pub none_left : (t : Functions) (v : State) (f offset top from back : ℕ) (others : List ℕ)
    (is : List StackItem) → Beneath t v (of_codes f offset []) top from back others is
    → Beneath t v nothing_owed top from back others is
none_left t v f offset top from back others is b =
    let o = b.owed in
    record {
      above = b.above;
      count = b.count;
      size = b.size;
      at = b.at;
      owed = record {
        kept = o.kept;
        eight = o.eight;
        room = o.room;
        small = omega arith;
        allowed = refl;
        stack = o.stack;
        framed = tt;
        unsaved = o.unsaved;
      };
    }

pub returns_found : (t : Functions) (m : Memory) (at f offset : ℕ) → offset ≤ 2 ^ 64
    → FindsOwed t m at (of_codes f offset []) → FindsReturn t m at
returns_found t m at f offset le finds c size back others here o =
    finds c size back others here (record {
      kept = o.kept;
      eight = o.eight;
      room = o.room;
      small = le;
      allowed = refl;
      stack = o.stack;
      framed = tt;
      unsaved = o.unsaved;
    })
