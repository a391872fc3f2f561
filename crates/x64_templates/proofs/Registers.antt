-- Registers stay as many as they are, and numbers of 64 bits.
use Rattle.std.proofs.Common.{◌≡◌, ℕ, zero, suc, ◌+◌, ◌-◌, ◌%◌, ◌^◌, ◌<◌, Bool, true, false, cond, Option, Some, None, Ok, Err, refl, sym, ap, subst, ◌∙◌, arith}
use Rattle.std.specs.Prelude.{Result}
use Rattle.x64_templates.specs.Words.{Width, W8, W64, DivFault, bytes_of, low, first_refused, may_write, access, unless_refused, with_number, with_bytes, Reg, Rax, Rdx, Rsp, RegisterOrMemory, Operand, Unary, Direction, Target, Instr, Cpu, multiplied, count_of, shifted, shift_flags, divided, joined, ◌>>=◌, State, Answer, granted, register, with_register, with_flags, with_rip, address_of, load, store, read, operand, write, may_change, computed, change, is_compare, unary, unary_of, amount, shift_by, multiply, multiply_by, with_quotient, sign_of_rax, widened, condition_byte, jumped, push, pop, target_of, effect, number, W16, W32, merged, holds, AreSmall}
use Rattle.x64_instr.specs.declared.operand.RegisterOrMemory.TheVariants as places
use Rattle.x64_instr.specs.declared.instruction.Operation.{Operation}
use Rattle.x64_instr.specs.declared.instruction.Operation.TheVariants as operations
use Rattle.x64_instr.specs.declared.instruction.Instr.TheVariants as instrs
use Rattle.x64_machine.specs.Effect.{compare}
use Rattle.std.specs.Prelude.{List, [], ◌∷◌, length, slice_index, slice_set}
use Rattle.x64_templates.proofs.Leaves.{bound}

-- ---- registers

-- as many registers, and small if they were
pub record Registers (s t : State) : Type 0 where
  pub count : length t.cpu.registers ≡ length s.cpu.registers
  pub small : AreSmall s.cpu.registers → AreSmall t.cpu.registers

merged_small : (w : Width) (old v : ℕ) → old < 2 ^ 64 → merged w old v < 2 ^ 64
merged_small W8 old v lt = omega arith
merged_small W16 old v lt = omega arith
merged_small W32 old v lt = omega arith
merged_small W64 old v lt = omega arith

index_small : (rs : List ℕ) (i : ℕ) → AreSmall rs → slice_index rs i < 2 ^ 64
index_small [] i h = omega arith
index_small (r ∷ rs) zero h = h.0
index_small (r ∷ rs) (suc i) h = index_small rs i h.1

set_small : (rs : List ℕ) (i v : ℕ) → v < 2 ^ 64 → AreSmall rs → AreSmall (slice_set rs i v)
set_small [] i v lt h = h
set_small (r ∷ rs) zero v lt h = (lt, h.1)
set_small (r ∷ rs) (suc i) v lt h = (h.0, set_small rs i v lt h.1)

set_count : (rs : List ℕ) (i v : ℕ) → length (slice_set rs i v) ≡ length rs
set_count [] i v = refl
set_count (r ∷ rs) zero v = refl
set_count (r ∷ rs) (suc i) v = ap suc (set_count rs i v)

-- from one set of registers to another
pub record Sets (a b : List ℕ) : Type 0 where
  pub count : length b ≡ length a
  pub small : AreSmall a → AreSmall b

sets_none : (a : List ℕ) → Sets a a
sets_none a = record { count = refl; small = λ h. h }

sets_one : (w : Width) (c : Cpu) (r : Reg) (v : ℕ)
    → Sets c.registers (with_register w c r v).registers
sets_one w c r v = record {
  count = set_count c.registers (number r) (merged w (register c r) v);
  small = λ h. set_small c.registers (number r) (merged w (register c r) v)
      (merged_small w (register c r) v (index_small c.registers (number r) h)) h;
}

sets_then : (a b c : List ℕ) → Sets a b → Sets b c → Sets a c
sets_then a b c x y = record { count = y.count ∙ x.count; small = λ h. y.small (x.small h) }

same : (s : State) (c : Cpu) (t : State) → Sets s.cpu.registers c.registers
    → ◌≡◌ {A = Answer State} (Ok (record s { cpu = c })) (Ok t) → Registers s t
same s c t r e =
    let u : State = record s { cpu = c } in
    let at : u ≡ t = cc in
    subst (Registers s) at (record { count = r.count; small = r.small })

stored_kept : (s : State) (at : ℕ) (w : Width) (v : ℕ) (t : State) → store s at w v ≡ Ok t
    → Registers s t
stored_kept s at w v t e = go (first_refused (may_write s.memory) (bytes_of w) at) e
  where
    go : (o : Option ℕ) → (granted (access {A = Unit {0}} true o tt)
        >>= λ _. Ok (record s {
          memory = unless_refused o
              (with_bytes s.memory (with_number s.memory.byte (bytes_of w) at v)) s.memory;
        })) ≡ Ok t
        → Registers s t
    go None h =
        let u : State = record s {
          cpu = s.cpu;
          memory = with_bytes s.memory (with_number s.memory.byte (bytes_of w) at v);
        } in
        let at' : u ≡ t = cc in
        subst (Registers s) at' (record { count = refl; small = λ h. h })
    go (Some b) h = absurd cc

written : (s : State) (w : Width) (p : RegisterOrMemory) (v : ℕ) (t : State) → write s w p v ≡ Ok t
    → Registers s t
written s w (places.Register r) v t e = same s (with_register w s.cpu r v) t (sets_one w s.cpu r v)
    e
written s w (places.Memory a) v t e = stored_kept s (address_of s.cpu a) w v t e

pushed : (s : State) (v : ℕ) (t : State) → push s v ≡ Ok t → Registers s t
pushed s v t e =
    let at = (register s.cpu Rsp + (2 ^ 64 - 8)) % 2 ^ 64 in
    let u : State = record s { cpu = with_register W64 s.cpu Rsp at } in
    let k = stored_kept u at W64 v t e in
    let r = sets_one W64 s.cpu Rsp at in
    record { count = k.count ∙ r.count; small = λ h. k.small (r.small h) }

popped : (s : State) (x : ℕ × State) → pop s ≡ Ok x → Registers s x.1
popped s x e =
    let b = bound (load s.memory (register s.cpu Rsp) W64)
    (λ v. Ok (
      v,
      record s {
        cpu = with_register W64 s.cpu Rsp ((register s.cpu Rsp + 8) % 2 ^ 64);
      },
    )) x e in
    let f : ◌≡◌ {A = Answer State} (Ok (record s
    { cpu = with_register W64 s.cpu Rsp ((register s.cpu Rsp + 8) % 2 ^ 64) })) (Ok x.1) = ap
    (λ (r : Answer (ℕ × State)). r >>= λ y. Ok y.1) b.2 in
    same s (with_register W64 s.cpu Rsp ((register s.cpu Rsp + 8) % 2 ^ 64)) x.1
    (sets_one W64 s.cpu Rsp ((register s.cpu Rsp + 8) % 2 ^ 64)) f

-- ---- instructions

compare_kept : (s : State) (o : Operation) (w : Width) (first : RegisterOrMemory) (second : Operand)
    (t : State) → compare s o w first second ≡ Ok t → Registers s t
compare_kept s o w first second t e =
    let b = bound (operand s w second) (λ b. read s w first
    >>= λ a. Ok (with_flags s (computed o w a b).1)) t e in
    let a = bound (read s w first) (λ a. Ok (with_flags s (computed o w a b.0).1)) t b.2 in
    same s (record s.cpu { flags = (computed o w a.0 b.0).1 }) t (sets_none s.cpu.registers) a.2

change_kept : (s : State) (o : Operation) (w : Width) (to : RegisterOrMemory) (from : Operand)
    (t : State) → change s o w to from ≡ Ok t → Registers s t
change_kept s o w to from t e =
    let b = bound (operand s w from) (λ b. may_change s w to >>= λ _. read s w to
    >>= λ a. write (with_flags s (computed o w a b).1) w to (computed o w a b).0) t e in
    let m = bound (may_change s w to) (λ _. read s w to
    >>= λ a. write (with_flags s (computed o w a b.0).1) w to (computed o w a b.0).0) t b.2 in
    let a = bound (read s w to) (λ a. write (with_flags s (computed o w a b.0).1) w to
    (computed o w a b.0).0) t m.2 in
    let r = written (with_flags s (computed o w a.0 b.0).1) w to (computed o w a.0 b.0).0 t a.2 in
    record { count = r.count; small = r.small }

either_kept : (c : Bool) (s : State) (x y : Answer State) (t : State) → (x ≡ Ok t → Registers s t)
    → (y ≡ Ok t → Registers s t) → cond c x y ≡ Ok t → Registers s t
either_kept true s x y t p q e = p e
either_kept false s x y t p q e = q e

divided_kept : (s : State) (w : Width) (r : Result (ℕ × ℕ) DivFault) (t : State)
    → with_quotient s w r ≡ Ok t → Registers s t
divided_kept s w (Ok x) t e = same s (with_register w (with_register w s.cpu Rax x.0) Rdx x.1) t
    (sets_then s.cpu.registers (with_register w s.cpu Rax x.0).registers
    (with_register w (with_register w s.cpu Rax x.0) Rdx x.1).registers (sets_one w s.cpu Rax x.0)
    (sets_one w (with_register w s.cpu Rax x.0) Rdx x.1)) e
divided_kept s w (Err z) t e = absurd cc

-- it goes elsewhere
went : (s u : State) (a : ℕ) (t : State) → Registers s u
    → ◌≡◌ {A = Answer State} (Ok (with_rip u a)) (Ok t) → Registers s t
went s u a t k e =
    let at : with_rip u a ≡ t = cc in
    subst (Registers s) at (record { count = k.count; small = k.small })

unchanged : (s : State) → Registers s s
unchanged s = record { count = refl; small = λ h. h }

jump_left : (s : State) (to : Target) (t : State)
    → (target_of s to >>= λ target. Ok (with_rip s target)) ≡ Ok t → Registers s t
jump_left s to t e = let b = bound (target_of s to) (λ target. Ok (with_rip s target)) t e in
    went s s b.0 t (unchanged s) b.2

call_left : (s : State) (to : Target) (t : State)
    → (target_of s to >>= λ target. push s s.cpu.rip >>= λ after. Ok (with_rip after target)) ≡ Ok t
    → Registers s t
call_left s to t e =
    let b = bound (target_of s to) (λ target. push s s.cpu.rip
    >>= λ after. Ok (with_rip after target)) t e in
    let p = bound (push s s.cpu.rip) (λ after. Ok (with_rip after b.0)) t b.2 in
    went s p.0 b.0 t (pushed s s.cpu.rip p.0 p.1) p.2

return_left : (s t : State) → (pop s >>= λ x. Ok (with_rip x.1 x.0)) ≡ Ok t → Registers s t
return_left s t e =
    let b = bound (pop s) (λ x. Ok (with_rip x.1 x.0)) t e in
    went s b.0.1 b.0.0 t (popped s b.0 b.1) b.2

shift_kept : (s : State) (d : Direction) (w : Width) (to : RegisterOrMemory) (n : ℕ) (t : State)
    → shift_by s d w to n ≡ Ok t → Registers s t
shift_kept s d w to n t e =
    let m = bound (may_change s w to) (λ _. read s w to
    >>= λ a. write (with_flags s (shift_flags d w a n s.cpu.flags)) w to (shifted d w a n)) t e in
    let a = bound (read s w to) (λ a. write (with_flags s (shift_flags d w a n s.cpu.flags)) w to
    (shifted d w a n)) t m.2 in
    let r = written (with_flags s (shift_flags d w a.0 n s.cpu.flags)) w to (shifted d w a.0 n) t
    a.2 in record { count = r.count; small = r.small }

unary_kept : (s : State) (o : Unary) (w : Width) (to : RegisterOrMemory) (t : State)
    → unary s o w to ≡ Ok t → Registers s t
unary_kept s o w to t e =
    let m = bound (may_change s w to) (λ _. read s w to
    >>= λ a. write (with_flags s (unary_of o w a s.cpu.flags).1) w to
    (unary_of o w a s.cpu.flags).0) t e in
    let a = bound (read s w to) (λ a. write (with_flags s (unary_of o w a s.cpu.flags).1) w to
    (unary_of o w a s.cpu.flags).0) t m.2 in
    let r = written (with_flags s (unary_of o w a.0 s.cpu.flags).1) w to
    (unary_of o w a.0 s.cpu.flags).0 t a.2 in record { count = r.count; small = r.small }

multiply_kept : (s : State) (w : Width) (to : Reg) (from : RegisterOrMemory) (t : State)
    → multiply s w to from ≡ Ok t → Registers s t
multiply_kept s w to from t e =
    let after = λ (b : ℕ). let p = multiplied w (low w (register s.cpu to)) b s.cpu.flags in
    record (with_register w s.cpu to p.0) { flags = p.1 } in
    let b = bound (read s w from) (λ b. let u : State =
    record s { cpu = after b } in Ok u) t e in
    same s (after b.0) t (let q = multiplied w (low w (register s.cpu to)) b.0 s.cpu.flags in
    sets_one w s.cpu to q.0) b.2

multiply_by_kept : (s : State) (w : Width) (to : Reg) (from : RegisterOrMemory) (v : ℕ) (t : State)
    → multiply_by s w to from v ≡ Ok t → Registers s t
multiply_by_kept s w to from v t e =
    let after = λ (a : ℕ). let p = multiplied w a (low w v) s.cpu.flags in
    record (with_register w s.cpu to p.0) { flags = p.1 } in
    let b = bound (read s w from) (λ a. let u : State =
    record s { cpu = after a } in Ok u) t e in
    same s (after b.0) t (let q = multiplied w b.0 (low w v) s.cpu.flags in sets_one w s.cpu to q.0)
    b.2

jumped_registers : (b : Bool) (c : Cpu) (a : ℕ)
    → (cond b (record c { rip = a }) c).registers ≡ c.registers
jumped_registers true c a = refl
jumped_registers false c a = refl

pub registers_stay : (i : Instr) (s t : State) → effect s i ≡ Ok t → Registers s t
registers_stay (instrs.Move w to from) s t e =
    let b = bound (operand s w from) (λ v. write s w to v) t e in (written s w to b.0 t b.2)
registers_stay (instrs.Extend x w to narrow from) s t e =
    let after = λ (v : ℕ). with_register w s.cpu to (widened x w narrow v) in
    let b = bound (read s narrow from) (λ v. Ok (record s { cpu = after v })) t e in
    (same s (after b.0) t (sets_one w s.cpu to (widened x w narrow b.0)) b.2)
registers_stay (instrs.LoadAddress w to m) s t
    e = (same s (with_register w s.cpu to (address_of s.cpu m)) t
    (sets_one w s.cpu to (address_of s.cpu m)) e)
registers_stay (instrs.Arithmetic o w to from) s t
    e = (either_kept (is_compare o) s (compare s o w to from) (change s o w to from) t
    (compare_kept s o w to from t) (change_kept s o w to from t) e)
registers_stay (instrs.Test w first second) s t
    e = (compare_kept s operations.And w first second t e)
registers_stay (instrs.Multiply w to from) s t e = (multiply_kept s w to from t e)
registers_stay (instrs.MultiplyBy w to from v) s t e = (multiply_by_kept s w to from v t e)
registers_stay (instrs.Unary o w to) s t e = (unary_kept s o w to t e)
registers_stay (instrs.Divide d w by) s t e =
    let high = low w (register s.cpu Rdx) in
    let b = bound (read s w by) (λ v. with_quotient s w
    (divided d w (joined w high (low w (register s.cpu Rax))) v)) t e in
    (divided_kept s w (divided d w (joined w high (low w (register s.cpu Rax))) b.0) t b.2)
registers_stay (instrs.ExtendRax w) s t e = (same s
    (with_register w s.cpu Rdx (sign_of_rax w s.cpu)) t (sets_one w s.cpu Rdx (sign_of_rax w s.cpu))
    e)
registers_stay (instrs.Shift d w to by) s t e =
    (shift_kept s d w to (count_of w (amount s.cpu by)) t e)
registers_stay (instrs.Set c to) s t e = (written s W8 to (condition_byte s.cpu.flags c) t e)
registers_stay (instrs.JumpIf c d) s t e =
    let u : State = record s { cpu = jumped s.cpu c d } in
    let at : u ≡ t = cc in
    let e = jumped_registers (holds s.cpu.flags c) s.cpu ((s.cpu.rip + d) % 2 ^ 64) in
    subst (Registers s) at (record { count = ap length e; small = λ h. subst AreSmall (sym e) h })
registers_stay (instrs.Jump to) s t e = jump_left s to t e
registers_stay (instrs.Call to) s t e = call_left s to t e
registers_stay (instrs.Push r) s t e = (pushed s (register s.cpu r) t e)
registers_stay (instrs.Pop r) s t e =
    let b = bound (pop s) (λ x. Ok (record x.1 { cpu = with_register W64 x.1.cpu r x.0 })) t e in
    let k = popped s b.0 b.1 in
    let l = same b.0.1 (with_register W64 b.0.1.cpu r b.0.0) t (sets_one W64 b.0.1.cpu r b.0.0)
    b.2 in
    record { count = l.count ∙ k.count; small = λ h. l.small (k.small h) }
registers_stay instrs.Return s t e = return_left s t e
registers_stay instrs.NoOperation s t e = (same s s.cpu t (sets_none s.cpu.registers) e)
registers_stay instrs.Breakpoint s t e = absurd cc
registers_stay instrs.Undefined s t e = absurd cc
