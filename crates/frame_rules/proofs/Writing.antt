-- Instructions leave the registers that they don't write.
use Rattle.std.proofs.Common.{◌≡◌, ℕ, ◌+◌, ◌-◌, ◌%◌, ◌^◌, Bool, true, false, cond, ◌||◌, eqb, [], ◌∷◌, get_or, Result, Ok, Err, refl, sym, ap, subst, ◌∙◌}
use Rattle.std.proofs.lemmas.Bool.{false≢true, or_parts, eqb-false}
use Rattle.seh_num.specs.declared.width.Width.{Width}
use Rattle.frame_rules.specs.Words.{W8, W64, stored, after_store, Reg, Rax, Rdx, Rsp, number, Cpu, ◌>>=◌, State, Answer, granted, register, with_register, with_flags, with_rip, load, store, read, operand, write, may_change, computed, change, compare, with_quotient, push, pop, relative, jumped, target_of, written_place, has, registers, WritesNoOther}
use Rattle.seh_num.specs.declared.division.DivFault.{DivFault}
use Rattle.x64_instr.specs.declared.operand.RegisterOrMemory.{RegisterOrMemory}
use Rattle.x64_instr.specs.declared.operand.RegisterOrMemory.TheVariants as places
use Rattle.x64_instr.specs.declared.operand.Operand.{Operand}
use Rattle.x64_instr.specs.declared.instruction.Operation.{Operation}
use Rattle.x64_instr.specs.declared.instruction.Operation.TheVariants as operations
use Rattle.x64_instr.specs.declared.instruction.Instr.TheVariants as instrs
use Rattle.x64_machine.specs.Conditions.{holds}
use Rattle.frame_rules.proofs.Steps.{ok_same, set_other}

-- ---- an answer after another one

pub record Bound {A B : Type 0} (a : Answer A) (f : A → Answer B) (y : B) : Type 0 where
  pub value : A
  pub is : a ≡ Ok value
  pub then : f value ≡ Ok y

bound : {A B : Type 0} (a : Answer A) (f : A → Answer B) (y : B) → (a >>= f) ≡ Ok y → Bound a f y
bound (Ok x) f y e = record { value = x; is = refl; then = e }
bound (Err x) f y e = absurd cc

-- ---- one register set

abbrev Same : State → State → ℕ → Type 0
Same s t r = registers t r ≡ registers s r

same_cpu : (s t u : State) (r : ℕ) → ◌≡◌ {A = Answer State} (Ok u) (Ok t)
    → registers u r ≡ registers s r → Same s t r
same_cpu s t u r e h = subst (λ (x : State). registers x r ≡ registers s r) (ok_same e) h

kept : (w : Width) (c : Cpu) (k : Reg) (v r : ℕ) → eqb (number k) r ≡ false
    → get_or (with_register w c k v).registers r 0 ≡ get_or c.registers r 0
kept w c k v r e = set_other c.registers (number k) r _ (λ z. eqb-false (number k) r e (sym z))

store_keeps : (s t : State) (at : ℕ) (w : Width) (v r : ℕ) → store s at w v ≡ Ok t → Same s t r
store_keeps s t at w v r e =
    let b = bound (granted (stored s.memory at w))
    (λ _. Ok (record s { memory = after_store s.memory at w v })) t e in
    same_cpu s t (record s { memory = after_store s.memory at w v }) r b.then refl

write_keeps : (s t : State) (w : Width) (to : RegisterOrMemory) (v r : ℕ)
    → has r (written_place to) ≡ false → write s w to v ≡ Ok t → Same s t r
write_keeps s t w (places.Register k) v r h e = same_cpu s t
    (record s { cpu = with_register w s.cpu k v }) r e
    (kept w s.cpu k v r (or_parts (eqb (number k) r) false h).0)
write_keeps s t w (places.Memory a) v r h e = store_keeps s t _ w v r e

set_keeps : (s t : State) (w : Width) (k : Reg) (v r : ℕ) → has r (number k ∷ []) ≡ false
    → ◌≡◌ {A = Answer State} (Ok (record s { cpu = with_register w s.cpu k v })) (Ok t) → Same s t r
set_keeps s t w k v r h e = same_cpu s t (record s { cpu = with_register w s.cpu k v }) r e
    (kept w s.cpu k v r (or_parts (eqb (number k) r) false h).0)

-- ---- the instructions

change_keeps : (s t : State) (o : Operation) (w : Width) (to : RegisterOrMemory) (from : Operand)
    (r : ℕ) → has r (written_place to) ≡ false → change s o w to from ≡ Ok t → Same s t r
change_keeps s t o w to from r h e =
    let b = bound (operand s w from) (λ b. may_change s w to >>= λ _. read s w to
    >>= λ a. write (with_flags s (computed o w a b).1) w to (computed o w a b).0) t e in
    let c = bound (may_change s w to) (λ _. read s w to
    >>= λ a. write (with_flags s (computed o w a b.value).1) w to (computed o w a b.value).0) t
    b.then in
    let d = bound (read s w to) (λ a. write (with_flags s (computed o w a b.value).1) w to
    (computed o w a b.value).0) t c.then in
    write_keeps (with_flags s (computed o w d.value b.value).1) t w to
    (computed o w d.value b.value).0 r h d.then

compare_keeps : (s t : State) (o : Operation) (w : Width) (to : RegisterOrMemory) (from : Operand)
    (r : ℕ) → compare s o w to from ≡ Ok t → Same s t r
compare_keeps s t o w to from r e =
    let b = bound (operand s w from) (λ b. read s w to
    >>= λ a. Ok (with_flags s (computed o w a b).1)) t e in
    let c = bound (read s w to) (λ a. Ok (with_flags s (computed o w a b.value).1)) t b.then in
    same_cpu s t (with_flags s (computed o w c.value b.value).1) r c.then refl

push_keeps : (s t : State) (v r : ℕ) → eqb 4 r ≡ false → push s v ≡ Ok t → Same s t r
push_keeps s t v r h e =
    let at = (register s.cpu Rsp + (2 ^ 64 - 8)) % 2 ^ 64 in
    store_keeps (record s { cpu = with_register W64 s.cpu Rsp at }) t at W64 v r e
    ∙ kept W64 s.cpu Rsp at r h

pop_keeps : (s : State) (x : ℕ × State) (r : ℕ) → eqb 4 r ≡ false → pop s ≡ Ok x → Same s x.1 r
pop_keeps s x r h e =
    let low : State = record s {
      cpu = with_register W64 s.cpu Rsp
          ((register s.cpu Rsp + 8) % 2 ^ 64);
    } in
    let b = bound (load s.memory (register s.cpu Rsp) W64) (λ v. Ok (v, low)) x e in
    ap (λ (p : ℕ × State). registers p.1 r) (sym (ok_same b.then))
    ∙ kept W64 s.cpu Rsp ((register s.cpu Rsp + 8) % 2 ^ 64) r h

jumped_keeps : (c : Cpu) (b : Bool) (a r : ℕ)
    → get_or (cond b (record c { rip = a }) c).registers r 0 ≡ get_or c.registers r 0
jumped_keeps c true a r = refl
jumped_keeps c false a r = refl

quotient_keeps : (s t : State) (w : Width) (q : Result (ℕ × ℕ) DivFault) (r : ℕ)
    → has r (0 ∷ 2 ∷ []) ≡ false → with_quotient s w q ≡ Ok t → Same s t r
quotient_keeps s t w (Ok x) r h e =
    let p = or_parts (eqb 0 r) (eqb 2 r || false) h in
    let q = or_parts (eqb 2 r) false p.1 in
    same_cpu s t (record s { cpu = with_register w (with_register w s.cpu Rax x.0) Rdx x.1 }) r e
    (kept w (with_register w s.cpu Rax x.0) Rdx x.1 r q.0 ∙ kept w s.cpu Rax x.0 r p.0)
quotient_keeps s t w (Err x) r h e = absurd cc

pub writes_no_other : WritesNoOther
writes_no_other s t (instrs.Move w to from) r n e h = let b = bound (operand s w from)
    (write s w to) t e in write_keeps s t w to b.value r h b.then
writes_no_other s t (instrs.LoadAddress w to m) r n e h = set_keeps s t w to _ r h e
writes_no_other s t (instrs.Arithmetic operations.Add w to from) r n e h = change_keeps s t
    operations.Add w to from r h e
writes_no_other s t (instrs.Arithmetic operations.Or w to from) r n e h = change_keeps s t
    operations.Or w to from r h e
writes_no_other s t (instrs.Arithmetic operations.And w to from) r n e h = change_keeps s t
    operations.And w to from r h e
writes_no_other s t (instrs.Arithmetic operations.Sub w to from) r n e h = change_keeps s t
    operations.Sub w to from r h e
writes_no_other s t (instrs.Arithmetic operations.Xor w to from) r n e h = change_keeps s t
    operations.Xor w to from r h e
writes_no_other s t (instrs.Arithmetic operations.Compare w to from) r n e h = compare_keeps s t
    operations.Compare w to from r e
writes_no_other s t (instrs.Test w first second) r n e h = compare_keeps s t operations.And w first
    second r e
writes_no_other s t (instrs.Divide d w by) r n e h = let b = bound (read s w by) _ t e in
    quotient_keeps s t w _ r h b.then
writes_no_other s t (instrs.ExtendRax w) r n e h = set_keeps s t w Rdx _ r h e
writes_no_other s t (instrs.Set c to) r n e h = write_keeps s t W8 to _ r h e
writes_no_other s t (instrs.JumpIf c d) r n e h = same_cpu s t (record s { cpu = jumped s.cpu c d })
    r e (jumped_keeps s.cpu (holds s.cpu.flags c) (relative s.cpu d) r)
writes_no_other s t (instrs.Jump to) r n e h = let b = bound (target_of s to)
    (λ a. Ok (with_rip s a)) t e in same_cpu s t (with_rip s b.value) r b.then refl
writes_no_other s t (instrs.Call to) r n e h = absurd (false≢true (sym n))
writes_no_other s t (instrs.Push k) r n e h = push_keeps s t _ r (or_parts (eqb 4 r) false h).0 e
writes_no_other s t (instrs.Pop k) r n e h =
    let p = or_parts (eqb 4 r) (eqb (number k) r || false) h in
    let q = or_parts (eqb (number k) r) false p.1 in
    let b = bound (pop s) (λ x. Ok (record x.1 { cpu = with_register W64 x.1.cpu k x.0 })) t e in
    same_cpu s t (record b.value.1 { cpu = with_register W64 b.value.1.cpu k b.value.0 }) r b.then
    (kept W64 b.value.1.cpu k b.value.0 r q.0 ∙ pop_keeps s b.value r p.0 b.is)
writes_no_other s t instrs.Return r n e h =
    let b = bound (pop s) (λ x. Ok (with_rip x.1 x.0)) t e in
    same_cpu s t (with_rip b.value.1 b.value.0) r b.then
    (pop_keeps s b.value r (or_parts (eqb 4 r) false h).0 b.is)
writes_no_other s t instrs.NoOperation r n e h = same_cpu s t s r e refl
writes_no_other s t instrs.Breakpoint r n e h = absurd cc
writes_no_other s t instrs.Undefined r n e h = absurd cc
writes_no_other s t (instrs.Extend x w to narrow from) r n e h = let b = bound (read s narrow from)
    _ t e in set_keeps s t w to _ r h b.then
writes_no_other s t (instrs.Multiply w to from) r n e h = let b = bound (read s w from) _ t e in
    same_cpu s t _ r b.then (kept w s.cpu to _ r (or_parts (eqb (number to) r) false h).0)
writes_no_other s t (instrs.MultiplyBy w to from v) r n e h = let b = bound (read s w from) _ t e in
    same_cpu s t _ r b.then (kept w s.cpu to _ r (or_parts (eqb (number to) r) false h).0)
writes_no_other s t (instrs.Unary o w to) r n e h =
    let b = bound (may_change s w to) _ t e in
    let c = bound (read s w to) _ t b.then in
    write_keeps (with_flags s _) t w to _ r h c.then
writes_no_other s t (instrs.Shift d w to by) r n e h =
    let b = bound (may_change s w to) _ t e in
    let c = bound (read s w to) _ t b.then in
    write_keeps (with_flags s _) t w to _ r h c.then
