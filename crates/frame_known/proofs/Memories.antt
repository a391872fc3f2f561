-- The memory after an instruction.
use Rattle.std.proofs.Common.{◌≡◌, ℕ, ◌+◌, ◌-◌, ◌%◌, ◌^◌, Bool, true, false, Option, Some, None, Ok, refl, sym, ap, ◌∙◌, arith}
use Rattle.std.proofs.lemmas.Bool.{false≢true}
use Rattle.seh_num.specs.Answers.{◌>>=◌}
use Rattle.seh_num.specs.Widths.{bytes_of}
use Rattle.seh_num.specs.declared.width.Width.{Width}
use Rattle.seh_num.specs.declared.width.Width.TheVariants.{W8, W64}
use Rattle.frame_rules.specs.Words.{Memory, State, Answer, Cpu, Instr, MemRef, Base, Index, Rsp, number, register, with_register, with_flags, with_rip, load, read, operand, write, may_change, computed, change, compare, with_quotient, pop, jumped, target_of, effect, address_of, base_of, index_of, registers}
use Rattle.x64_instr.specs.declared.operand.Base.TheVariants as bases
use Rattle.x64_instr.specs.declared.operand.RegisterOrMemory.{RegisterOrMemory}
use Rattle.x64_instr.specs.declared.operand.RegisterOrMemory.TheVariants as places
use Rattle.x64_instr.specs.declared.operand.Operand.{Operand}
use Rattle.x64_instr.specs.declared.operand.Operand.TheVariants as operands
use Rattle.x64_instr.specs.declared.instruction.Operation.{Operation}
use Rattle.x64_instr.specs.declared.instruction.Operation.TheVariants as operations
use Rattle.x64_instr.specs.declared.instruction.Instr.TheVariants as instrs
use Rattle.seh_num.specs.declared.division.DivFault.{DivFault}
use Rattle.std.specs.Prelude.{Result, Err}
use Rattle.x64_machine.specs.declared.cpu.Flags.{Flags}
use Rattle.frame_rules.specs.Words.{Rax, Rdx}
use Rattle.frame_rules.specs.Body.{is_a_call}
use Rattle.frame_known.specs.Knowledge.{Known, Entry, Place, Number, Nothing, Knowledge, place, Is, word_of, HasRegisters}
use Rattle.frame_known.specs.Known.{raised}
use Rattle.frame_known.specs.After.{base_known, address, place_of, destination, store_to, store_of, stored, SparesAll}
use Rattle.frame_known.proofs.Fitting.{is_same, is_raised}
use Rattle.frame_known.proofs.Answers.{bound, ok_same}
use Rattle.frame_known.proofs.Storing.{Stored, stores, IsStored, IsLow, KeepsNamed, keeps_named, same_named}

-- ---- by the operand that is written

pub record StoredSome (m : Memory) (t : State) (n at : ℕ) : Type 0 where
  pub v : ℕ
  pub is : Stored m t n at v

abbrev pub MemoryIs : Memory → State → Cpu → Option (MemRef × Width) → Type 0
MemoryIs m t c None = t.memory ≡ m
MemoryIs m t c (Some x) = StoredSome m t (bytes_of x.1) (address_of c x.0)

same_memory : (m : Memory) (u t : State) → u.memory ≡ m → ◌≡◌ {A = Answer State} (Ok u) (Ok t)
    → t.memory ≡ m
same_memory m u t h e = ap (λ (x : State). x.memory) (sym (ok_same e)) ∙ h

write_memory : (s t : State) (w : Width) (to : RegisterOrMemory) (v : ℕ) → write s w to v ≡ Ok t
    → MemoryIs s.memory t s.cpu (place_of w to)
write_memory s t w (places.Register r) v e = same_memory s.memory
    (record s { cpu = with_register w s.cpu r v }) t refl e
write_memory s t w (places.Memory a) v e = record {
  v = v;
  is = stores s t (address_of s.cpu a) w v (omega arith) e;
}

-- the flags don't matter
flagged_memory : (s t : State) (f : Flags) (w : Width) (to : RegisterOrMemory) (v : ℕ)
    → write (with_flags s f) w to v ≡ Ok t → MemoryIs s.memory t s.cpu (place_of w to)
flagged_memory s t f w (places.Register r) v e = write_memory (with_flags s f) t w
    (places.Register r) v e
flagged_memory s t f w (places.Memory a) v e = write_memory (with_flags s f) t w
    (places.Memory a) v e

change_memory : (s t : State) (o : Operation) (w : Width) (to : RegisterOrMemory) (from : Operand)
    → change s o w to from ≡ Ok t → MemoryIs s.memory t s.cpu (place_of w to)
change_memory s t o w to from e =
    let b = bound (operand s w from) (λ b. may_change s w to >>= λ _. read s w to
    >>= λ a. write (with_flags s (computed o w a b).1) w to (computed o w a b).0) t e in
    let c = bound (may_change s w to) (λ _. read s w to
    >>= λ a. write (with_flags s (computed o w a b.value).1) w to (computed o w a b.value).0) t
    b.next in
    let d = bound (read s w to) (λ a. write (with_flags s (computed o w a b.value).1) w to
    (computed o w a b.value).0) t c.next in
    flagged_memory s t (computed o w d.value b.value).1 w to (computed o w d.value b.value).0 d.next

compare_memory : (s t : State) (o : Operation) (w : Width) (to : RegisterOrMemory) (from : Operand)
    → compare s o w to from ≡ Ok t → t.memory ≡ s.memory
compare_memory s t o w to from e =
    let b = bound (operand s w from) (λ b. read s w to
    >>= λ a. Ok (with_flags s (computed o w a b).1)) t e in
    let c = bound (read s w to) (λ a. Ok (with_flags s (computed o w a b.value).1)) t b.next in
    same_memory s.memory (with_flags s (computed o w c.value b.value).1) t refl c.next

pop_memory : (s : State) (x : ℕ × State) → pop s ≡ Ok x → x.1.memory ≡ s.memory
pop_memory s x e =
    let low : State = record s {
      cpu = with_register W64 s.cpu Rsp
          ((register s.cpu Rsp + 8) % 2 ^ 64);
    } in
    let b = bound (load s.memory (register s.cpu Rsp) W64) (λ v. Ok (v, low)) x e in
    ap (λ (p : ℕ × State). p.1.memory) (sym (ok_same b.next))

quotient_memory : (s t : State) (w : Width) (q : Result (ℕ × ℕ) DivFault)
    → with_quotient s w q ≡ Ok t → t.memory ≡ s.memory
quotient_memory s t w (Ok x) e = same_memory s.memory
    (record s { cpu = with_register w (with_register w s.cpu Rax x.0) Rdx x.1 }) t refl e
quotient_memory s t w (Err x) e = absurd cc

-- ---- the instructions

abbrev pub is_push : Instr → Bool
is_push (instrs.Push r) = true
is_push x = false

pub memory_is : (s t : State) (x : Instr) → is_a_call x ≡ false → is_push x ≡ false
    → effect s x ≡ Ok t → MemoryIs s.memory t s.cpu (destination x)
memory_is s t (instrs.Move w to from) n p h = let b = bound (operand s w from) (write s w to) t h in
    write_memory s t w to b.value b.next
memory_is s t (instrs.LoadAddress w to m) n p h = same_memory s.memory _ t refl h
memory_is s t (instrs.Arithmetic operations.Add w to from) n p h = change_memory s t operations.Add
    w to from h
memory_is s t (instrs.Arithmetic operations.Or w to from) n p h = change_memory s t operations.Or w
    to from h
memory_is s t (instrs.Arithmetic operations.And w to from) n p h = change_memory s t operations.And
    w to from h
memory_is s t (instrs.Arithmetic operations.Sub w to from) n p h = change_memory s t operations.Sub
    w to from h
memory_is s t (instrs.Arithmetic operations.Xor w to from) n p h = change_memory s t operations.Xor
    w to from h
memory_is s t (instrs.Arithmetic operations.Compare w to from) n p h = compare_memory s t
    operations.Compare w to from h
memory_is s t (instrs.Test w first second) n p h = compare_memory s t operations.And w first second
    h
memory_is s t (instrs.Divide d w by) n p h = let b = bound (read s w by) _ t h in
    quotient_memory s t w _ b.next
memory_is s t (instrs.ExtendRax w) n p h = same_memory s.memory _ t refl h
memory_is s t (instrs.Set c to) n p h = write_memory s t W8 to _ h
memory_is s t (instrs.JumpIf c d) n p h = same_memory s.memory
    (record s { cpu = jumped s.cpu c d }) t refl h
memory_is s t (instrs.Jump to) n p h = let b = bound (target_of s to) _ t h in
    same_memory s.memory (with_rip s b.value) t refl b.next
memory_is s t (instrs.Call to) n p h = absurd (false≢true (sym n))
memory_is s t (instrs.Push k) n p h = absurd (false≢true (sym p))
memory_is s t (instrs.Pop k) n p h =
    let b = bound (pop s) (λ x. Ok (record x.1 { cpu = with_register W64 x.1.cpu k x.0 })) t h in
    same_memory s.memory (record b.value.1 { cpu = with_register W64 b.value.1.cpu k b.value.0 }) t
    (pop_memory s b.value b.is) b.next
memory_is s t instrs.Return n p h =
    let b = bound (pop s) (λ x. Ok (with_rip x.1 x.0)) t h in
    same_memory s.memory (with_rip b.value.1 b.value.0) t (pop_memory s b.value b.is) b.next
memory_is s t instrs.NoOperation n p h = same_memory s.memory s t refl h
memory_is s t instrs.Breakpoint n p h = absurd cc
memory_is s t instrs.Undefined n p h = absurd cc
memory_is s t (instrs.Extend x w to narrow from) n p h = let b = bound (read s narrow from) _ t h in
    same_memory s.memory _ t refl b.next
memory_is s t (instrs.Multiply w to from) n p h = let b = bound (read s w from) _ t h in
    same_memory s.memory _ t refl b.next
memory_is s t (instrs.MultiplyBy w to from v) n p h = let b = bound (read s w from) _ t h in
    same_memory s.memory _ t refl b.next
memory_is s t (instrs.Unary o w to) n p h =
    let b = bound (may_change s w to) _ t h in
    let c = bound (read s w to) _ t b.next in
    flagged_memory s t _ w to _ c.next
memory_is s t (instrs.Shift d w to by) n p h =
    let b = bound (may_change s w to) _ t h in
    let c = bound (read s w to) _ t b.next in
    flagged_memory s t _ w to _ c.next

-- ---- the words that are named

pub low_raised : (n : ℕ) (x : Known) → IsLow (raised n x)
low_raised n (Place k) = omega arith
low_raised n (Entry r) = tt
low_raised n (Number k) = tt
low_raised n Nothing = tt

base_is : (e s : State) (now : ℕ → Known) (b : Base) (i : Option Index)
    → ((r : ℕ) → Is e (registers s r) (now r))
    → Is e (base_of s.cpu b + index_of s.cpu i) (base_known now b i)
base_is e s now (bases.Register r) None h = is_same e (register s.cpu r) (register s.cpu r + 0)
    (now (number r)) (now (number r)) (omega arith) refl (h (number r))
base_is e s now (bases.Register r) (Some i) h = tt
base_is e s now bases.Rip i h = tt
base_is e s now bases.Nothing i h = tt

pub address_is : (e s : State) (now : ℕ → Known) (m : MemRef)
    → ((r : ℕ) → Is e (registers s r) (now r)) → Is e (address_of s.cpu m) (address now m)
address_is e s now m h = is_raised e (base_of s.cpu m.base + index_of s.cpu m.index)
    m.displacement (base_known now m.base m.index) (base_is e s now m.base m.index h)

-- the store of an instruction whose value isn't asked
named_by : (e s t : State) (known : Knowledge) (o : Option (MemRef × Width)) → HasRegisters e
    → ((r : ℕ) → Is e (registers s r) (known.registers r))
    → ((j r : ℕ) → known.words j ≡ Some r → word_of s.memory (place e j) ≡ registers e r)
    → MemoryIs s.memory t s.cpu o → SparesAll e s.memory t.memory known (store_to known.registers o)
    → KeepsNamed e s t known.words (stored known.words (store_to known.registers o))
named_by e s t known None he i w m sp = same_named e s t known.words m w
named_by e s t known (Some x) he i w m sp =
    let a = x.0 in
    keeps_named e s t (bytes_of x.1) (address_of s.cpu a) m.v
    (address known.registers a) Nothing known he
    (low_raised a.displacement (base_known known.registers a.base a.index))
    (address_is e s known.registers a i) m.is tt w sp.0 sp.1

is_stored : (e : State) (v : ℕ) (x : Known) → Is e v x → IsStored e 8 v x
is_stored e v (Entry r) h = (refl, h)
is_stored e v (Place k) h = tt
is_stored e v (Number n) h = tt
is_stored e v Nothing h = tt

-- what is left of the named words by an instruction
pub named_after : (e s t : State) (known : Knowledge) (x : Instr) → HasRegisters e → HasRegisters s
    → is_a_call x ≡ false → ((r : ℕ) → Is e (registers s r) (known.registers r))
    → ((j r : ℕ) → known.words j ≡ Some r → word_of s.memory (place e j) ≡ registers e r)
    → effect s x ≡ Ok t → SparesAll e s.memory t.memory known (store_of x known.registers)
    → KeepsNamed e s t known.words (stored known.words (store_of x known.registers))
named_after e s t known (instrs.Push r) he hs n i w h sp =
    let at = (register s.cpu Rsp + (2 ^ 64 - 8)) % 2 ^ 64 in
    let v = registers s (number r) in
    keeps_named e s t 8 at v (raised (2 ^ 64 - 8) (known.registers 4)) (known.registers (number r))
    known he (low_raised (2 ^ 64 - 8) (known.registers 4))
    (is_raised e (register s.cpu Rsp) (2 ^ 64 - 8) (known.registers 4) (i 4))
    (stores (record s { cpu = with_register W64 s.cpu Rsp at }) t at W64 v (omega arith) h)
    (is_stored e v (known.registers (number r)) (i (number r))) w sp.0 sp.1
named_after e s t known (instrs.Move W64 (places.Memory m) (operands.Register r)) he hs n i w h sp =
    let at = address_of s.cpu m in
    let v = registers s (number r) % 2 ^ 64 in
    let b = hs.bounded (number r) in
    let same : v ≡ registers s (number r) = omega arith in
    keeps_named e s t 8 at v (address known.registers m) (known.registers (number r))
    known he (low_raised m.displacement (base_known known.registers m.base m.index))
    (address_is e s known.registers m i)
    (stores s t at W64 v (omega arith) h)
    (is_stored e v (known.registers (number r))
    (is_same e (registers s (number r)) v (known.registers (number r))
    (known.registers (number r)) same refl (i (number r)))) w sp.0 sp.1
named_after e s t known x he hs n i w h sp = named_by e s t known (destination x) he i w
    (memory_is s t x n refl h) sp

protection_by : (s t : State) (o : Option (MemRef × Width)) → MemoryIs s.memory t s.cpu o
    → t.memory.protection ≡ s.memory.protection
protection_by s t None m = ap (λ (x : Memory). x.protection) m
protection_by s t (Some a) m = ap (λ (x : Memory). x.protection) m.is.is

pub protection_after : (s t : State) (x : Instr) → is_a_call x ≡ false → effect s x ≡ Ok t
    → t.memory.protection ≡ s.memory.protection
protection_after s t (instrs.Push r) n h =
    let at = (register s.cpu Rsp + (2 ^ 64 - 8)) % 2 ^ 64 in
    let st = stores (record s { cpu = with_register W64 s.cpu Rsp at }) t at W64
    (registers s (number r)) (omega arith) h in
    ap (λ (x : Memory). x.protection) st.is
protection_after s t x n h = protection_by s t (destination x) (memory_is s t x n refl h)
