-- Registers stay sixteen numbers of 64 bits.
use Rattle.std.proofs.Common.{◌≡◌, ℕ, ◌+◌, ◌-◌, ◌%◌, ◌^◌, ◌<◌, Bool, true, false, cond, set, get_or, length, Ok, sym, ap, subst, ◌∙◌, arith, inl, inr, get_or-set_same, get_or-set_other, length-set}
use Rattle.std.specs.Prelude.{Result, Err}
use Rattle.std.proofs.lemmas.Bool.{cases_eq}
use Rattle.seh_num.specs.Answers.{◌>>=◌}
use Rattle.seh_num.specs.declared.width.Width.{Width}
use Rattle.seh_num.specs.declared.width.Width.TheVariants.{W8, W16, W32, W64}
use Rattle.seh_num.specs.declared.division.DivFault.{DivFault}
use Rattle.frame_rules.specs.Words.{State, Answer, Cpu, Instr, Reg, Rsp, Rax, Rdx, number, register, with_register, with_flags, with_rip, load, store, read, operand, write, may_change, computed, change, compare, with_quotient, pop, push, relative, jumped, target_of, effect, granted, stored as storable, after_store}
use Rattle.x64_machine.specs.Words.{merged}
use Rattle.x64_machine.specs.Conditions.{holds}
use Rattle.x64_machine.specs.declared.cpu.Flags.{Flags}
use Rattle.x64_instr.specs.declared.operand.RegisterOrMemory.{RegisterOrMemory}
use Rattle.x64_instr.specs.declared.operand.RegisterOrMemory.TheVariants as places
use Rattle.x64_instr.specs.declared.operand.Operand.{Operand}
use Rattle.x64_instr.specs.declared.instruction.Operation.{Operation}
use Rattle.x64_instr.specs.declared.instruction.Operation.TheVariants as operations
use Rattle.x64_instr.specs.declared.instruction.Instr.TheVariants as instrs
use Rattle.x64_instr.proofs.RegisterNumbers.{number_small}
use Rattle.frame_known.specs.Knowledge.{HasRegisters}
use Rattle.frame_known.proofs.Answers.{bound, ok_same}

-- of a processor
pub record Are (c : Cpu) : Type 0 where
  pub length : length c.registers ≡ 16
  pub bounded : (r : ℕ) → get_or c.registers r 0 < 2 ^ 64

merged_small : (w : Width) (old v : ℕ) → old < 2 ^ 64 → merged w old v < 2 ^ 64
merged_small W64 old v lt = omega arith
merged_small W32 old v lt = omega arith
merged_small W16 old v lt = omega arith
merged_small W8 old v lt = omega arith

set_are : (w : Width) (c : Cpu) (r : Reg) (v : ℕ) → Are c → Are (with_register w c r v)
set_are w c r v h = record {
  length = length-set c.registers (number r) x ∙ h.length;
  bounded = λ q. elim (cases_eq q (number r)) [
    | inl same ↦ subst (λ a. a < 2 ^ 64) (sym (ap (λ k. get_or (set c.registers (number r) x) k 0)
        same ∙ get_or-set_same c.registers (number r) x 0
        (let n = h.length in let small = number_small r in omega arith)))
        (merged_small w (register c r) v (h.bounded (number r)))
    | inr other ↦ subst (λ a. a < 2 ^ 64)
        (sym (get_or-set_other c.registers (number r) q x 0 other)) (h.bounded q)
  ];
}
  where
    x : ℕ
    x = merged w (register c r) v

-- by the answer that an instruction gives
same_are : (u t : State) → Are u.cpu → ◌≡◌ {A = Answer State} (Ok u) (Ok t) → Are t.cpu
same_are u t h e = subst (λ (x : State). Are x.cpu) (ok_same e) h

with_rip_are : (c : Cpu) (a : ℕ) → Are c → Are (record c { rip = a })
with_rip_are c a h = record { length = h.length; bounded = h.bounded }

with_flags_are : (c : Cpu) (f : Flags) → Are c → Are (record c { flags = f })
with_flags_are c f h = record { length = h.length; bounded = h.bounded }

store_are : (s t : State) (at : ℕ) (w : Width) (v : ℕ) → Are s.cpu → store s at w v ≡ Ok t
    → Are t.cpu
store_are s t at w v h e =
    let b = bound (granted (storable s.memory at w))
    (λ _. Ok (record s { memory = after_store s.memory at w v })) t e in
    same_are (record s { memory = after_store s.memory at w v }) t h b.next

write_are : (s t : State) (w : Width) (to : RegisterOrMemory) (v : ℕ) → Are s.cpu
    → write s w to v ≡ Ok t → Are t.cpu
write_are s t w (places.Register r) v h e =
    let u : State = record s { cpu = with_register w s.cpu r v } in
    same_are u t (set_are w s.cpu r v h) e
write_are s t w (places.Memory a) v h e = store_are s t _ w v h e

set_answer : (s t : State) (w : Width) (r : Reg) (v : ℕ) → Are s.cpu
    → ◌≡◌ {A = Answer State} (Ok (record s { cpu = with_register w s.cpu r v })) (Ok t) → Are t.cpu
set_answer s t w r v h e =
    let u : State = record s { cpu = with_register w s.cpu r v } in
    same_are u t (set_are w s.cpu r v h) e

change_are : (s t : State) (o : Operation) (w : Width) (to : RegisterOrMemory) (from : Operand)
    → Are s.cpu → change s o w to from ≡ Ok t → Are t.cpu
change_are s t o w to from h e =
    let b = bound (operand s w from) (λ b. may_change s w to >>= λ _. read s w to
    >>= λ a. write (with_flags s (computed o w a b).1) w to (computed o w a b).0) t e in
    let c = bound (may_change s w to) (λ _. read s w to
    >>= λ a. write (with_flags s (computed o w a b.value).1) w to (computed o w a b.value).0) t
    b.next in
    let d = bound (read s w to) (λ a. write (with_flags s (computed o w a b.value).1) w to
    (computed o w a b.value).0) t c.next in
    let x = computed o w d.value b.value in
    write_are (with_flags s x.1) t w to x.0 (with_flags_are s.cpu x.1 h) d.next

compare_are : (s t : State) (o : Operation) (w : Width) (to : RegisterOrMemory) (from : Operand)
    → Are s.cpu → compare s o w to from ≡ Ok t → Are t.cpu
compare_are s t o w to from h e =
    let b = bound (operand s w from) (λ b. read s w to
    >>= λ a. Ok (with_flags s (computed o w a b).1)) t e in
    let c = bound (read s w to) (λ a. Ok (with_flags s (computed o w a b.value).1)) t b.next in
    same_are (with_flags s (computed o w c.value b.value).1) t
    (with_flags_are s.cpu (computed o w c.value b.value).1 h) c.next

push_are : (s t : State) (v : ℕ) → Are s.cpu → push s v ≡ Ok t → Are t.cpu
push_are s t v h e =
    let at = (register s.cpu Rsp + (2 ^ 64 - 8)) % 2 ^ 64 in
    store_are (record s { cpu = with_register W64 s.cpu Rsp at }) t at W64 v
    (set_are W64 s.cpu Rsp at h) e

pop_are : (s : State) (x : ℕ × State) → Are s.cpu → pop s ≡ Ok x → Are x.1.cpu
pop_are s x h e =
    let at = (register s.cpu Rsp + 8) % 2 ^ 64 in
    let low : State = record s { cpu = with_register W64 s.cpu Rsp at } in
    let b = bound (load s.memory (register s.cpu Rsp) W64) (λ v. Ok (v, low)) x e in
    subst (λ (p : ℕ × State). Are p.1.cpu) (ok_same b.next) (set_are W64 s.cpu Rsp at h)

jumped_are : (c : Cpu) (b : Bool) (a : ℕ) → Are c → Are (cond b (record c { rip = a }) c)
jumped_are c true a h = with_rip_are c a h
jumped_are c false a h = h

quotient_are : (s t : State) (w : Width) (q : Result (ℕ × ℕ) DivFault) → Are s.cpu
    → with_quotient s w q ≡ Ok t → Are t.cpu
quotient_are s t w (Ok x) h e = same_are
    (record s { cpu = with_register w (with_register w s.cpu Rax x.0) Rdx x.1 }) t
    (set_are w (with_register w s.cpu Rax x.0) Rdx x.1 (set_are w s.cpu Rax x.0 h)) e
quotient_are s t w (Err x) h e = absurd cc

effect_are : (s t : State) (x : Instr) → Are s.cpu → effect s x ≡ Ok t → Are t.cpu
effect_are s t (instrs.Move w to from) a h = let b = bound (operand s w from) (write s w to) t h in
    write_are s t w to b.value a b.next
effect_are s t (instrs.LoadAddress w to m) a h = set_answer s t w to _ a h
effect_are s t (instrs.Arithmetic operations.Add w to from) a h = change_are s t operations.Add w to
    from a h
effect_are s t (instrs.Arithmetic operations.Or w to from) a h = change_are s t operations.Or w to
    from a h
effect_are s t (instrs.Arithmetic operations.And w to from) a h = change_are s t operations.And w to
    from a h
effect_are s t (instrs.Arithmetic operations.Sub w to from) a h = change_are s t operations.Sub w to
    from a h
effect_are s t (instrs.Arithmetic operations.Xor w to from) a h = change_are s t operations.Xor w to
    from a h
effect_are s t (instrs.Arithmetic operations.Compare w to from) a h = compare_are s t
    operations.Compare w to from a h
effect_are s t (instrs.Test w first second) a h = compare_are s t operations.And w first second a h
effect_are s t (instrs.Divide d w by) a h = let b = bound (read s w by) _ t h in
    quotient_are s t w _ a b.next
effect_are s t (instrs.ExtendRax w) a h = set_answer s t w Rdx _ a h
effect_are s t (instrs.Set c to) a h = write_are s t W8 to _ a h
effect_are s t (instrs.JumpIf c d) a h = same_are (record s { cpu = jumped s.cpu c d }) t
    (jumped_are s.cpu (holds s.cpu.flags c) (relative s.cpu d) a) h
effect_are s t (instrs.Jump to) a h = let b = bound (target_of s to) (λ x. Ok (with_rip s x)) t h in
    same_are (with_rip s b.value) t (with_rip_are s.cpu b.value a) b.next
effect_are s t (instrs.Call to) a h =
    let b = bound (target_of s to) _ t h in
    let c = bound (push s s.cpu.rip) (λ x. Ok (with_rip x b.value)) t b.next in
    same_are (with_rip c.value b.value) t
    (with_rip_are c.value.cpu b.value (push_are s c.value s.cpu.rip a c.is)) c.next
effect_are s t (instrs.Push k) a h = push_are s t _ a h
effect_are s t (instrs.Pop k) a h =
    let b = bound (pop s) (λ x. Ok (record x.1 { cpu = with_register W64 x.1.cpu k x.0 })) t h in
    set_answer b.value.1 t W64 k b.value.0 (pop_are s b.value a b.is) b.next
effect_are s t instrs.Return a h =
    let b = bound (pop s) (λ x. Ok (with_rip x.1 x.0)) t h in
    same_are (with_rip b.value.1 b.value.0) t
    (with_rip_are b.value.1.cpu b.value.0 (pop_are s b.value a b.is)) b.next
effect_are s t instrs.NoOperation a h = same_are s t a h
effect_are s t instrs.Breakpoint a h = absurd cc
effect_are s t instrs.Undefined a h = absurd cc
effect_are s t (instrs.Extend x w to narrow from) a h = let b = bound (read s narrow from) _ t h in
    set_answer s t w to _ a b.next
effect_are s t (instrs.Multiply w to from) a h =
    let b = bound (read s w from) _ t h in
    same_are _ t (with_flags_are _ _ (set_are w s.cpu to _ a)) b.next
effect_are s t (instrs.MultiplyBy w to from v) a h =
    let b = bound (read s w from) _ t h in
    same_are _ t (with_flags_are _ _ (set_are w s.cpu to _ a)) b.next
effect_are s t (instrs.Unary o w to) a h =
    let b = bound (may_change s w to) _ t h in
    let c = bound (read s w to) _ t b.next in
    write_are (with_flags s _) t w to _ (with_flags_are s.cpu _ a) c.next
effect_are s t (instrs.Shift d w to by) a h =
    let b = bound (may_change s w to) _ t h in
    let c = bound (read s w to) _ t b.next in
    write_are (with_flags s _) t w to _ (with_flags_are s.cpu _ a) c.next

pub numbers_stay : (s t : State) (a : ℕ) (x : Instr)
    → HasRegisters s → effect (with_rip s a) x ≡ Ok t → HasRegisters t
numbers_stay s t a x h e =
    let first : Are (with_rip s a).cpu = record { length = h.length; bounded = h.bounded } in
    let last = effect_are (with_rip s a) t x first e in
    record { length = last.length; bounded = last.bounded }
