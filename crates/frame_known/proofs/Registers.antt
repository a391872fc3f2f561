-- The registers after an instruction.
use Rattle.std.proofs.Common.{◌≡◌, ℕ, ◌+◌, ◌-◌, ◌%◌, ◌^◌, ◌<◌, Bool, true, false, cond, List, set, get_or, length, Option, Some, None, Ok, refl, sym, ap, ◌∙◌, arith, inl, inr, get_or-set_same, get_or-set_other, length-set}
use Rattle.std.proofs.lemmas.Bool.{cases_eq}
use Rattle.seh_num.specs.declared.width.Width.{Width}
use Rattle.seh_num.specs.declared.width.Width.TheVariants.{W32, W64}
use Rattle.frame_rules.specs.Words.{Memory, access, granted, may_read, first_refused, number_at, State, Answer, Cpu, Instr, Reg, Rsp, number, register, with_register, load, store, write, pop, effect, address_of, registers, after_store, stored as storable}
use Rattle.x64_machine.specs.Words.{added, subtracted}
use Rattle.x64_instr.specs.declared.operand.RegisterOrMemory.TheVariants as places
use Rattle.x64_instr.specs.declared.operand.Operand.TheVariants as operands
use Rattle.x64_instr.specs.declared.instruction.Operation.TheVariants as operations
use Rattle.x64_instr.specs.declared.instruction.Instr.TheVariants as instrs
use Rattle.x64_instr.proofs.RegisterNumbers.{number_small}
use Rattle.frame_rules.specs.Body.{is_a_call, written, has}
use Rattle.frame_rules.proofs.Writing.{writes_no_other}
use Rattle.frame_known.specs.Knowledge.{Known, Entry, Place, Number, Nothing, Knowledge, place, Is, word_of, HasRegisters, with_known}
use Rattle.frame_known.specs.Known.{raised, held, risen}
use Rattle.frame_known.specs.After.{address, word_at, sum, difference, forgotten, registers_after}
use Rattle.frame_known.proofs.Fitting.{is_same, is_raised, with-same, with-other}
use Rattle.frame_known.proofs.Answers.{bound, ok_same}
use Rattle.frame_known.proofs.Memories.{address_is}

-- ---- one register set

abbrev pub AllAre : State → State → (ℕ → Known) → Type 0
AllAre e s now = (r : ℕ) → Is e (registers s r) (now r)

-- a register set to a number of 64 bits
put_is : (e s t : State) (now : ℕ → Known) (r : Reg) (v : ℕ) (x : Known)
    → length s.cpu.registers ≡ 16 → AllAre e s now → Is e v x
    → t.cpu.registers ≡ set s.cpu.registers (number r) v
    → AllAre e t (with_known now (number r) x)
put_is e s t now r v x n i is same q =
    let small = number_small r in
    elim (cases_eq q (number r)) [
      | inl here ↦ is_same e v (registers t q) x (with_known now (number r) x q)
          (ap (λ xs. get_or xs q 0) same ∙ ap (λ a. get_or (set s.cpu.registers (number r) v) a 0)
          here
          ∙ get_or-set_same s.cpu.registers (number r) v 0 (omega arith))
          (with-same now (number r) q x here) is
      | inr other ↦ is_same e (registers s q) (registers t q) (now q)
          (with_known now (number r) x q)
          (ap (λ xs. get_or xs q 0) same
          ∙ get_or-set_other s.cpu.registers (number r) q v 0 other)
          (with-other now (number r) q x other) (i q)
    ]

-- by the answer that an instruction gives
put_by : (e s u t : State) (now : ℕ → Known) (r : Reg) (v : ℕ) (x : Known) → HasRegisters s
    → AllAre e s now → Is e v x → u.cpu.registers ≡ set s.cpu.registers (number r) v
    → ◌≡◌ {A = Answer State} (Ok u) (Ok t) → AllAre e t (with_known now (number r) x)
put_by e s u t now r v x hs i is same answer = put_is e s t now r v x hs.length i is
    (ap (λ (y : State). y.cpu.registers) (sym (ok_same answer)) ∙ same)

low_is : (e : State) (v : ℕ) (x : Known) → v < 2 ^ 64 → Is e v x → Is e (v % 2 ^ 64) x
low_is e v x lt h = is_same e v (v % 2 ^ 64) x x (omega arith) refl h

-- ---- a word that is loaded

held_low : (e : State) (v : ℕ) (o : Option ℕ) → HasRegisters e
    → ((r : ℕ) → o ≡ Some r → v ≡ registers e r) → Is e (v % 2 ^ 64) (held o)
held_low e v (Some r) he h =
    let b = he.bounded r in
    let same = h r refl in
    omega arith
held_low e v None he h = tt

load_value : (m : Memory) (at v : ℕ) → load m at W64 ≡ Ok v → v ≡ number_at m.byte 8 at
load_value m at v h = go (first_refused (may_read m) 8 at) h
  where
    go : (o : Option ℕ) → granted (access false o (number_at m.byte 8 at)) ≡ Ok v
        → v ≡ number_at m.byte 8 at
    go None h = sym (ok_same h)
    go (Some a) h = absurd cc

load_is : (e s : State) (known : Knowledge) (at v : ℕ) (p : Known) → HasRegisters e
    → ((j r : ℕ) → known.words j ≡ Some r → word_of s.memory (place e j) ≡ registers e r)
    → Is e at p → load s.memory at W64 ≡ Ok v → Is e (v % 2 ^ 64) (word_at known p)
load_is e s known at v (Place k) he w i l =
    let value = load_value s.memory at v l ∙ ap (word_of s.memory) i in
    held_low e v (known.words k) he (λ r h. value ∙ w k r h)
load_is e s known at v (Entry q) he w i l = tt
load_is e s known at v (Number n) he w i l = tt
load_is e s known at v Nothing he w i l = tt

-- ---- sums

sum_is : (e : State) (v w : ℕ) (x y : Known) → Is e v x → Is e w y
    → Is e ((v + w) % 2 ^ 64) (sum x y)
sum_is e v w (Place k) (Number n) a b = omega arith
sum_is e v w (Number n) (Place k) a b = omega arith
sum_is e v w (Entry q) y a b = tt
sum_is e v w Nothing y a b = tt
sum_is e v w (Place k) (Entry q) a b = tt
sum_is e v w (Place k) (Place q) a b = tt
sum_is e v w (Place k) Nothing a b = tt
sum_is e v w (Number k) (Entry q) a b = tt
sum_is e v w (Number k) (Number q) a b = tt
sum_is e v w (Number k) Nothing a b = tt

difference_is : (e : State) (v w : ℕ) (x y : Known) → Is e v x → Is e w y
    → Is e ((v + (2 ^ 64 - w)) % 2 ^ 64) (difference x y)
difference_is e v w (Place k) (Number n) a b = omega arith
difference_is e v w (Place k) (Entry q) a b = tt
difference_is e v w (Place k) (Place q) a b = tt
difference_is e v w (Place k) Nothing a b = tt
difference_is e v w (Entry q) y a b = tt
difference_is e v w Nothing y a b = tt
difference_is e v w (Number k) y a b = tt

-- ---- what isn't asked

forgotten_is : (e s t : State) (x : Instr) (now : ℕ → Known) → is_a_call x ≡ false
    → effect s x ≡ Ok t → AllAre e s now → AllAre e t (forgotten (written x) now)
forgotten_is e s t x now n h i r = go (has r (written x)) refl
  where
    go : (b : Bool) → has r (written x) ≡ b → Is e (registers t r) (cond b Nothing (now r))
    go true z = tt
    go false z = is_same e (registers s r) (registers t r) (now r) (now r)
        (writes_no_other s t x r n h z) refl (i r)

-- ---- the instructions

store_cpu : (s t : State) (at : ℕ) (w : Width) (v : ℕ) → store s at w v ≡ Ok t → t.cpu ≡ s.cpu
store_cpu s t at w v e =
    let b = bound (granted (storable s.memory at w))
    (λ _. Ok (record s { memory = after_store s.memory at w v })) t e in
    ap (λ (x : State). x.cpu) (sym (ok_same b.next))

pushed : (e s t : State) (known : Knowledge) (r : Reg) → HasRegisters s
    → AllAre e s known.registers → effect s (instrs.Push r) ≡ Ok t
    → AllAre e t (risen (2 ^ 64 - 8) known.registers)
pushed e s t known r hs i h =
    let at = (register s.cpu Rsp + (2 ^ 64 - 8)) % 2 ^ 64 in
    let low : State = record s { cpu = with_register W64 s.cpu Rsp at } in
    let x = raised (2 ^ 64 - 8) (known.registers 4) in
    put_is e s t known.registers Rsp (at % 2 ^ 64) x hs.length i
    (low_is e at x (omega arith)
    (is_raised e (register s.cpu Rsp) (2 ^ 64 - 8) (known.registers 4) (i 4)))
    (ap (λ (c : Cpu). c.registers) (store_cpu low t at W64 (register s.cpu r) h))

record Popped (s : State) (x : ℕ × State) : Type 0 where
  loads : load s.memory (register s.cpu Rsp) W64 ≡ Ok x.0
  rises : x.1 ≡ record s {
    cpu = with_register W64 s.cpu Rsp ((register s.cpu Rsp + 8) % 2 ^ 64);
  }

pops : (s : State) (x : ℕ × State) → pop s ≡ Ok x → Popped s x
pops s x e =
    let low : State = record s {
      cpu = with_register W64 s.cpu Rsp
          ((register s.cpu Rsp + 8) % 2 ^ 64);
    } in
    let b = bound (load s.memory (register s.cpu Rsp) W64) (λ v. Ok (v, low)) x e in
    let same = ok_same b.next in
    record {
      loads = b.is ∙ ap (λ (p : ℕ × State). Ok p.0) same;
      rises = ap (λ (p : ℕ × State). p.1) (sym same);
    }

popped_registers : (e s t : State) (known : Knowledge) (r : Reg) → HasRegisters e → HasRegisters s
    → AllAre e s known.registers
    → ((j q : ℕ) → known.words j ≡ Some q → word_of s.memory (place e j) ≡ registers e q)
    → effect s (instrs.Pop r) ≡ Ok t
    → AllAre e t (with_known (risen 8 known.registers) (number r)
    (word_at known (known.registers 4)))
popped_registers e s t known r he hs i w h =
    let b = bound (pop s) (λ x. Ok (record x.1 { cpu = with_register W64 x.1.cpu r x.0 })) t h in
    let p = pops s b.value b.is in
    let at = (register s.cpu Rsp + 8) % 2 ^ 64 in
    let up = raised 8 (known.registers 4) in
    let u = b.value.1 in
    let same : u.cpu.registers ≡ set s.cpu.registers 4 (at % 2 ^ 64) =
    ap (λ (x : State). x.cpu.registers) p.rises in
    let first = put_is e s u known.registers Rsp (at % 2 ^ 64) up hs.length i
    (low_is e at up (omega arith)
    (is_raised e (register s.cpu Rsp) 8 (known.registers 4) (i 4))) same in
    put_is e u t (risen 8 known.registers) r (b.value.0 % 2 ^ 64)
    (word_at known (known.registers 4))
    (ap (λ (xs : List ℕ). length xs) same ∙ length-set s.cpu.registers 4 (at % 2 ^ 64) ∙ hs.length)
    first
    (load_is e s known (register s.cpu Rsp) b.value.0 (known.registers 4) he w (i 4) p.loads)
    (ap (λ (x : State). x.cpu.registers) (sym (ok_same b.next)))

pub registers_are : (e s t : State) (known : Knowledge) (x : Instr) → HasRegisters e
    → HasRegisters s → is_a_call x ≡ false → AllAre e s known.registers
    → ((j q : ℕ) → known.words j ≡ Some q → word_of s.memory (place e j) ≡ registers e q)
    → effect s x ≡ Ok t → AllAre e t (registers_after x known)
unfolding added subtracted
registers_are e s t known (instrs.Push r) he hs n i w h = pushed e s t known r hs i h
registers_are e s t known (instrs.Pop r) he hs n i w h = popped_registers e s t known r he hs i w h
registers_are e s t known
    (instrs.Arithmetic operations.Add W64 (places.Register r) (operands.Immediate v)) p hs n i w h =
    let a = register s.cpu r in
    let x = known.registers (number r) in
    put_by e s _ t known.registers r ((a % 2 ^ 64 + v % 2 ^ 64) % 2 ^ 64 % 2 ^ 64) (raised v x) hs i
    (is_same e ((a + v) % 2 ^ 64) ((a % 2 ^ 64 + v % 2 ^ 64) % 2 ^ 64 % 2 ^ 64) (raised v x)
    (raised v x) (omega arith) refl (is_raised e a v x (i (number r)))) refl h
registers_are e s t known
    (instrs.Arithmetic operations.Sub W64 (places.Register r) (operands.Immediate v)) p hs n i w h =
    let a = register s.cpu r in
    let k = 2 ^ 64 - v % 2 ^ 64 in
    let x = known.registers (number r) in
    put_by e s _ t known.registers r ((a % 2 ^ 64 + k) % 2 ^ 64 % 2 ^ 64) (raised k x) hs i
    (is_same e ((a + k) % 2 ^ 64) ((a % 2 ^ 64 + k) % 2 ^ 64 % 2 ^ 64) (raised k x)
    (raised k x) (omega arith) refl (is_raised e a k x (i (number r)))) refl h
registers_are e s t known
    (instrs.Arithmetic operations.Add W64 (places.Register r) (operands.Register q)) he hs n i w h =
    let a = register s.cpu r in
    let b = register s.cpu q in
    let x = sum (known.registers (number r)) (known.registers (number q)) in
    put_by e s _ t known.registers r ((a % 2 ^ 64 + b % 2 ^ 64) % 2 ^ 64 % 2 ^ 64) x hs i
    (is_same e ((a + b) % 2 ^ 64) ((a % 2 ^ 64 + b % 2 ^ 64) % 2 ^ 64 % 2 ^ 64) x x
    (omega arith) refl (sum_is e a b (known.registers (number r)) (known.registers (number q))
    (i (number r)) (i (number q)))) refl h
registers_are e s t known
    (instrs.Arithmetic operations.Sub W64 (places.Register r) (operands.Register q)) he hs n i w h =
    let a = register s.cpu r in
    let b = register s.cpu q in
    let lt = hs.bounded (number q) in
    let x = difference (known.registers (number r)) (known.registers (number q)) in
    put_by e s _ t known.registers r
    ((a % 2 ^ 64 + (2 ^ 64 - b % 2 ^ 64)) % 2 ^ 64 % 2 ^ 64) x hs i
    (is_same e ((a + (2 ^ 64 - b)) % 2 ^ 64)
    ((a % 2 ^ 64 + (2 ^ 64 - b % 2 ^ 64)) % 2 ^ 64 % 2 ^ 64) x x
    (omega arith) refl (difference_is e a b (known.registers (number r))
    (known.registers (number q)) (i (number r)) (i (number q)))) refl h
registers_are e s t known (instrs.LoadAddress W64 r m) he hs n i w h =
    let at = address_of s.cpu m in
    let x = address known.registers m in
    put_by e s _ t known.registers r (at % 2 ^ 64) x hs i
    (low_is e at x (omega arith) (address_is e s known.registers m i)) refl h
registers_are e s t known (instrs.Move W64 (places.Register r) (operands.Register q)) p hs n i w h =
    let b = register s.cpu q in
    let lt = hs.bounded (number q) in
    let x = known.registers (number q) in
    put_by e s _ t known.registers r (b % 2 ^ 64 % 2 ^ 64) x hs i
    (is_same e b (b % 2 ^ 64 % 2 ^ 64) x x (omega arith) refl (i (number q))) refl h
registers_are e s t k (instrs.Move W64 (places.Register r) (operands.Immediate v)) p hs n i w h =
    put_by e s _ t k.registers r (v % 2 ^ 64 % 2 ^ 64) (Number (v % 2 ^ 64)) hs i
    (omega arith) refl h
registers_are e s t k (instrs.Move W32 (places.Register r) (operands.Immediate v)) p hs n i w h =
    put_by e s _ t k.registers r (v % 2 ^ 32 % 2 ^ 32) (Number (v % 2 ^ 32)) hs i
    (omega arith) refl h
registers_are e s t known (instrs.Move W64 (places.Register r) (operands.Memory m)) he hs n i w h =
    let at = address_of s.cpu m in
    let b = bound (load s.memory at W64) (write s W64 (places.Register r)) t h in
    let x = word_at known (address known.registers m) in
    put_by e s (record s { cpu = with_register W64 s.cpu r b.value }) t known.registers r
    (b.value % 2 ^ 64) x hs i
    (load_is e s known at b.value (address known.registers m) he w
    (address_is e s known.registers m i) b.is) refl b.next
registers_are e s t known x he hs n i w h = forgotten_is e s t x known.registers n h i
