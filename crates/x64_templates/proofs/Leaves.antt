-- What an instruction leaves as it was: what may be done where, and the bytes that may not be
-- written; and RIP, but for a jump, a call and a return.
use Rattle.std.proofs.Common.{◌≡◌, ℕ, zero, suc, ◌+◌, ◌-◌, ◌%◌, ◌^◌, ◌<◌, Bool, true, false, cond, Option, Some, None, Ok, Err, refl, sym, ap, subst, ◌∙◌, arith, inl, inr}
use Rattle.std.specs.Prelude.{Result}
use Rattle.std.proofs.lemmas.Bool.{cases_eq}
use Rattle.x64_templates.specs.Words.{Width, W8, W64, DivFault, bytes_of, low, Protection, is_writable, Memory, next, first_refused, may_write, access, unless_refused, with_number, with_bytes, IsApart, Reg, Rax, Rdx, Rsp, RegisterOrMemory, Operand, Unary, Direction, Target, Instr, Cpu, multiplied, count_of, shifted, shift_flags, divided, joined, ◌>>=◌, State, Answer, granted, register, with_register, with_flags, with_rip, address_of, load, store, read, operand, write, may_change, computed, change, is_compare, unary, unary_of, amount, shift_by, multiply, multiply_by, with_quotient, sign_of_rax, widened, condition_byte, jumped, push, pop, target_of, effect, is_straight}
use Rattle.x64_templates.proofs.Lemmas.{untouched}
use Rattle.x64_instr.specs.declared.operand.RegisterOrMemory.TheVariants as places
use Rattle.x64_instr.specs.declared.instruction.Operation.{Operation}
use Rattle.x64_instr.specs.declared.instruction.Operation.TheVariants as operations
use Rattle.x64_instr.specs.declared.instruction.Instr.TheVariants as instrs
use Rattle.x64_machine.specs.Effect.{compare}

pub record Left (m : Memory) (t : State) : Type 0 where
  pub protection : t.memory.protection ≡ m.protection
  pub byte : (a : ℕ) → may_write m a ≡ false → t.memory.byte a ≡ m.byte a

pub record Kept (m : Memory) (at : ℕ) (t : State) : Type 0 where
  pub left : Left m t
  pub rip : t.cpu.rip ≡ at

pub bound : {A B : Type 0} (x : Answer A) (f : A → Answer B) (t : B) → (x >>= f) ≡ Ok t
    → (a : A) × (x ≡ Ok a) × (f a ≡ Ok t)
bound (Ok a) f t e = (a, refl, e)
bound (Err z) f t e = absurd cc

-- registers and flags alone changed
same : (s : State) (c : Cpu) (t : State) → c.rip ≡ s.cpu.rip
    → ◌≡◌ {A = Answer State} (Ok (record s { cpu = c })) (Ok t)
    → Kept s.memory s.cpu.rip t
same s c t r e =
    let u : State = record s { cpu = c } in
    let at : u ≡ t = cc in
    subst (Kept s.memory s.cpu.rip) at (record
    { left = record { protection = refl; byte = λ a fix. refl }; rip = r })

-- ---- stores

pub allowed : (may : ℕ → Bool) (n at i : ℕ) → at < 2 ^ 64 → first_refused may n at ≡ None → i < n
    → may ((at + i) % 2 ^ 64) ≡ true
unfolding first_refused
allowed may zero at i lt e il = absurd (omega arith)
allowed may (suc n) at i lt e il = go (λ r j jl. allowed may n (next at) j (omega arith) r jl)
    (may at) refl e
  where
    go : (first_refused may n (next at) ≡ None → (j : ℕ) → j < n
        → may ((next at + j) % 2 ^ 64) ≡ true) → (b : Bool) → may at ≡ b
        → cond b (first_refused may n (next at)) (Some at) ≡ None → may ((at + i) % 2 ^ 64) ≡ true
    go more true h r = elim (cases_eq i 0) [
      | inl z ↦ let q : (at + i) % 2 ^ 64 ≡ at = omega arith in ap may q ∙ h
      | inr p ↦ let q : (at + i) % 2 ^ 64 ≡ (next at + (i - 1)) % 2 ^ 64 = omega arith in ap may q
          ∙ more r (i - 1) (omega arith)
    ]
    go more false h r = absurd cc

fixed_apart : (m : Memory) (n at a : ℕ) → at < 2 ^ 64 → first_refused (may_write m) n at ≡ None
    → may_write m a ≡ false → IsApart a at n
fixed_apart m n at a lt e fix i il is =
    let yes = allowed (may_write m) n at i lt e il in
    let both : may_write m a ≡ true = ap (may_write m) is ∙ yes in
    let f : true ≡ false = sym both ∙ fix in absurd cc

stored_kept : (s : State) (at : ℕ) (w : Width) (v : ℕ) (t : State) → at < 2 ^ 64
    → store s at w v ≡ Ok t → Kept s.memory s.cpu.rip t
stored_kept s at w v t lt e = go (first_refused (may_write s.memory) (bytes_of w) at) refl e
  where
    go : (o : Option ℕ) → first_refused (may_write s.memory) (bytes_of w) at ≡ o
        → (granted (access {A = Unit {0}} true o tt)
        >>= λ _. Ok (record s {
          memory = unless_refused o
              (with_bytes s.memory (with_number s.memory.byte (bytes_of w) at v)) s.memory;
        })) ≡ Ok t
        → Kept s.memory s.cpu.rip t
    go None f h =
        let u : State = record s {
          cpu = s.cpu;
          memory = with_bytes s.memory (with_number s.memory.byte (bytes_of w) at v);
        } in
        let at' : u ≡ t = cc in
        subst (Kept s.memory s.cpu.rip) at' (record {
          left = record {
            protection = refl;
            byte = λ a fix. untouched s.memory.byte (bytes_of w) at v a
                (fixed_apart s.memory (bytes_of w) at a lt f fix) lt;
          };
          rip = refl;
        })
    go (Some b) f h = absurd cc

written : (s : State) (w : Width) (p : RegisterOrMemory) (v : ℕ) (t : State) → write s w p v ≡ Ok t
    → Kept s.memory s.cpu.rip t
written s w (places.Register r) v t e = same s (with_register w s.cpu r v) t refl e
written s w (places.Memory a) v t e = stored_kept s (address_of s.cpu a) w v t (omega arith) e

pushed : (s : State) (v : ℕ) (t : State) → push s v ≡ Ok t → Kept s.memory s.cpu.rip t
pushed s v t e =
    let at = (register s.cpu Rsp + (2 ^ 64 - 8)) % 2 ^ 64 in
    stored_kept (record s { cpu = with_register W64 s.cpu Rsp at }) at W64 v t (omega arith) e

popped : (s : State) (x : ℕ × State) → pop s ≡ Ok x → Kept s.memory s.cpu.rip x.1
popped s x e =
    let b = bound (load s.memory (register s.cpu Rsp) W64)
    (λ v. Ok (
      v,
      record s {
        cpu = with_register W64 s.cpu Rsp ((register s.cpu Rsp + 8) % 2 ^ 64);
      },
    )) x e in
    let f : ◌≡◌ {A = Answer State} (Ok (record s
    { cpu = with_register W64 s.cpu Rsp ((register s.cpu Rsp + 8) % 2 ^ 64) })) (Ok x.1) = ap
    (λ (r : Answer (ℕ × State)). r >>= λ y. Ok y.1) b.2 in
    same s (with_register W64 s.cpu Rsp ((register s.cpu Rsp + 8) % 2 ^ 64)) x.1 refl f

-- ---- instructions

compare_kept : (s : State) (o : Operation) (w : Width) (first : RegisterOrMemory) (second : Operand)
    (t : State) → compare s o w first second ≡ Ok t → Kept s.memory s.cpu.rip t
compare_kept s o w first second t e =
    let b = bound (operand s w second) (λ b. read s w first
    >>= λ a. Ok (with_flags s (computed o w a b).1)) t e in
    let a = bound (read s w first) (λ a. Ok (with_flags s (computed o w a b.0).1)) t b.2 in
    same s (record s.cpu { flags = (computed o w a.0 b.0).1 }) t refl a.2

change_kept : (s : State) (o : Operation) (w : Width) (to : RegisterOrMemory) (from : Operand)
    (t : State) → change s o w to from ≡ Ok t → Kept s.memory s.cpu.rip t
change_kept s o w to from t e =
    let b = bound (operand s w from) (λ b. may_change s w to >>= λ _. read s w to
    >>= λ a. write (with_flags s (computed o w a b).1) w to (computed o w a b).0) t e in
    let m = bound (may_change s w to) (λ _. read s w to
    >>= λ a. write (with_flags s (computed o w a b.0).1) w to (computed o w a b.0).0) t b.2 in
    let a = bound (read s w to) (λ a. write (with_flags s (computed o w a b.0).1) w to
    (computed o w a b.0).0) t m.2 in
    written (with_flags s (computed o w a.0 b.0).1) w to (computed o w a.0 b.0).0 t a.2

either_kept : (c : Bool) (s : State) (x y : Answer State) (t : State)
    → (x ≡ Ok t → Kept s.memory s.cpu.rip t) → (y ≡ Ok t → Kept s.memory s.cpu.rip t)
    → cond c x y ≡ Ok t → Kept s.memory s.cpu.rip t
either_kept true s x y t p q e = p e
either_kept false s x y t p q e = q e

divided_kept : (s : State) (w : Width) (r : Result (ℕ × ℕ) DivFault) (t : State)
    → with_quotient s w r ≡ Ok t → Kept s.memory s.cpu.rip t
divided_kept s w (Ok x) t e = same s (with_register w (with_register w s.cpu Rax x.0) Rdx x.1) t
    refl e
divided_kept s w (Err z) t e = absurd cc

-- what is left by an instruction
pub record Leaves (i : Instr) (s t : State) : Type 0 where
  pub left : Left s.memory t
  pub rip : is_straight i ≡ true → t.cpu.rip ≡ s.cpu.rip

of_kept : (i : Instr) (s t : State) → Kept s.memory s.cpu.rip t → Leaves i s t
of_kept i s t k = record { left = k.left; rip = λ h. k.rip }

-- it goes elsewhere
went : (i : Instr) (s u : State) (a : ℕ) (t : State) → is_straight i ≡ false → Left s.memory u
    → ◌≡◌ {A = Answer State} (Ok (with_rip u a)) (Ok t) → Leaves i s t
went i s u a t fix k e =
    let at : with_rip u a ≡ t = cc in
    record {
      left = subst (Left s.memory) at (record { protection = k.protection; byte = k.byte });
      rip = λ h. let f : true ≡ false = sym h ∙ fix in absurd cc;
    }

unchanged : (s : State) → Left s.memory s
unchanged s = record { protection = refl; byte = λ a fix. refl }

jump_left : (i : Instr) (s : State) (to : Target) (t : State) → is_straight i ≡ false
    → (target_of s to >>= λ target. Ok (with_rip s target)) ≡ Ok t → Leaves i s t
jump_left i s to t fix e = let b = bound (target_of s to) (λ target. Ok (with_rip s target)) t e in
    went i s s b.0 t fix (unchanged s) b.2

call_left : (i : Instr) (s : State) (to : Target) (t : State) → is_straight i ≡ false
    → (target_of s to >>= λ target. push s s.cpu.rip >>= λ after. Ok (with_rip after target)) ≡ Ok t
    → Leaves i s t
call_left i s to t fix e =
    let b = bound (target_of s to) (λ target. push s s.cpu.rip
    >>= λ after. Ok (with_rip after target)) t e in
    let p = bound (push s s.cpu.rip) (λ after. Ok (with_rip after b.0)) t b.2 in
    went i s p.0 b.0 t fix (pushed s s.cpu.rip p.0 p.1).left p.2

return_left : (i : Instr) (s t : State) → is_straight i ≡ false
    → (pop s >>= λ x. Ok (with_rip x.1 x.0)) ≡ Ok t → Leaves i s t
return_left i s t fix e =
    let b = bound (pop s) (λ x. Ok (with_rip x.1 x.0)) t e in
    went i s b.0.1 b.0.0 t fix (popped s b.0 b.1).left b.2

shift_kept : (s : State) (d : Direction) (w : Width) (to : RegisterOrMemory) (n : ℕ) (t : State)
    → shift_by s d w to n ≡ Ok t → Kept s.memory s.cpu.rip t
shift_kept s d w to n t e =
    let m = bound (may_change s w to) (λ _. read s w to
    >>= λ a. write (with_flags s (shift_flags d w a n s.cpu.flags)) w to (shifted d w a n)) t e in
    let a = bound (read s w to) (λ a. write (with_flags s (shift_flags d w a n s.cpu.flags)) w to
    (shifted d w a n)) t m.2 in
    written (with_flags s (shift_flags d w a.0 n s.cpu.flags)) w to (shifted d w a.0 n) t a.2

unary_kept : (s : State) (o : Unary) (w : Width) (to : RegisterOrMemory) (t : State)
    → unary s o w to ≡ Ok t → Kept s.memory s.cpu.rip t
unary_kept s o w to t e =
    let m = bound (may_change s w to) (λ _. read s w to
    >>= λ a. write (with_flags s (unary_of o w a s.cpu.flags).1) w to
    (unary_of o w a s.cpu.flags).0) t e in
    let a = bound (read s w to) (λ a. write (with_flags s (unary_of o w a s.cpu.flags).1) w to
    (unary_of o w a s.cpu.flags).0) t m.2 in
    written (with_flags s (unary_of o w a.0 s.cpu.flags).1) w to (unary_of o w a.0 s.cpu.flags).0 t
    a.2

multiply_kept : (s : State) (w : Width) (to : Reg) (from : RegisterOrMemory) (t : State)
    → multiply s w to from ≡ Ok t → Kept s.memory s.cpu.rip t
multiply_kept s w to from t e =
    let after = λ (b : ℕ). let p = multiplied w (low w (register s.cpu to)) b s.cpu.flags in
    record (with_register w s.cpu to p.0) { flags = p.1 } in
    let b = bound (read s w from) (λ b. let u : State =
    record s { cpu = after b } in Ok u) t e in
    same s (after b.0) t refl b.2

multiply_by_kept : (s : State) (w : Width) (to : Reg) (from : RegisterOrMemory) (v : ℕ) (t : State)
    → multiply_by s w to from v ≡ Ok t → Kept s.memory s.cpu.rip t
multiply_by_kept s w to from v t e =
    let after = λ (a : ℕ). let p = multiplied w a (low w v) s.cpu.flags in
    record (with_register w s.cpu to p.0) { flags = p.1 } in
    let b = bound (read s w from) (λ a. let u : State =
    record s { cpu = after a } in Ok u) t e in
    same s (after b.0) t refl b.2

pub leaves : (i : Instr) (s t : State) → effect s i ≡ Ok t → Leaves i s t
leaves (instrs.Move w to from) s t e =
    let b = bound (operand s w from) (λ v. write s w to v) t e in
    of_kept (instrs.Move w to from) s t (written s w to b.0 t b.2)
leaves (instrs.Extend x w to narrow from) s t e =
    let after = λ (v : ℕ). with_register w s.cpu to (widened x w narrow v) in
    let b = bound (read s narrow from) (λ v. Ok (record s { cpu = after v })) t e in
    of_kept (instrs.Extend x w to narrow from) s t (same s (after b.0) t refl b.2)
leaves (instrs.LoadAddress w to m) s t e = of_kept (instrs.LoadAddress w to m) s t
    (same s (with_register w s.cpu to (address_of s.cpu m)) t refl e)
leaves (instrs.Arithmetic o w to from) s t e = of_kept (instrs.Arithmetic o w to from) s t
    (either_kept (is_compare o) s (compare s o w to from) (change s o w to from) t
    (compare_kept s o w to from t) (change_kept s o w to from t) e)
leaves (instrs.Test w first second) s t e = of_kept (instrs.Test w first second) s t
    (compare_kept s operations.And w first second t e)
leaves (instrs.Multiply w to from) s t e = of_kept (instrs.Multiply w to from) s t
    (multiply_kept s w to from t e)
leaves (instrs.MultiplyBy w to from v) s t e = of_kept (instrs.MultiplyBy w to from v) s t
    (multiply_by_kept s w to from v t e)
leaves (instrs.Unary o w to) s t e = of_kept (instrs.Unary o w to) s t (unary_kept s o w to t e)
leaves (instrs.Divide d w by) s t e =
    let high = low w (register s.cpu Rdx) in
    let b = bound (read s w by) (λ v. with_quotient s w
    (divided d w (joined w high (low w (register s.cpu Rax))) v)) t e in
    of_kept (instrs.Divide d w by) s t (divided_kept s w
    (divided d w (joined w high (low w (register s.cpu Rax))) b.0) t b.2)
leaves (instrs.ExtendRax w) s t e = of_kept (instrs.ExtendRax w) s t
    (same s (with_register w s.cpu Rdx (sign_of_rax w s.cpu)) t refl e)
leaves (instrs.Shift d w to by) s t e = of_kept (instrs.Shift d w to by) s t
    (shift_kept s d w to (count_of w (amount s.cpu by)) t e)
leaves (instrs.Set c to) s t e = of_kept (instrs.Set c to) s t
    (written s W8 to (condition_byte s.cpu.flags c) t e)
leaves (instrs.JumpIf c d) s t e =
    let u : State = record s { cpu = jumped s.cpu c d } in
    let at : u ≡ t = cc in
    record {
      left = subst (Left s.memory) at (record { protection = refl; byte = λ a fix. refl });
      rip = λ h. absurd cc;
    }
leaves (instrs.Jump to) s t e = jump_left (instrs.Jump to) s to t refl e
leaves (instrs.Call to) s t e = call_left (instrs.Call to) s to t refl e
leaves (instrs.Push r) s t e = of_kept (instrs.Push r) s t (pushed s (register s.cpu r) t e)
leaves (instrs.Pop r) s t e =
    let b = bound (pop s) (λ x. Ok (record x.1 { cpu = with_register W64 x.1.cpu r x.0 })) t e in
    let k = popped s b.0 b.1 in
    let l = same b.0.1 (with_register W64 b.0.1.cpu r b.0.0) t refl b.2 in
    of_kept (instrs.Pop r) s t (record {
      left = record {
        protection = l.left.protection ∙ k.left.protection;
        byte = λ a fix. l.left.byte a (ap (λ (f : ℕ → Protection). is_writable (f a).rights)
            k.left.protection ∙ fix) ∙ k.left.byte a fix;
      };
      rip = l.rip ∙ k.rip;
    })
leaves instrs.Return s t e = return_left instrs.Return s t refl e
leaves instrs.NoOperation s t e = of_kept instrs.NoOperation s t (same s s.cpu t refl e)
leaves instrs.Breakpoint s t e = absurd cc
leaves instrs.Undefined s t e = absurd cc
