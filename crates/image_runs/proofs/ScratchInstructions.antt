-- What machine instructions leave that write RAX, RCX and RDX alone.
use Rattle.std.proofs.Common.{◌≡◌, ℕ, true, Result, Ok, Err, refl, subst}
use Rattle.image_runs.specs.Words.{RegisterOrMemory, Instr, State, effect, Answer, with_register, with_flags, read, operand, write, may_change, computed, change, compare, with_quotient, is_free_place, scratch_only, W8}
use Rattle.seh_num.specs.declared.width.Width.{Width}
use Rattle.seh_num.specs.declared.division.DivFault.{DivFault}
use Rattle.x64_instr.specs.declared.register.Reg.TheVariants as regs
use Rattle.x64_instr.specs.declared.operand.RegisterOrMemory.TheVariants as places
use Rattle.x64_instr.specs.declared.operand.Operand.{Operand}
use Rattle.x64_instr.specs.declared.instruction.Operation.{Operation}
use Rattle.x64_instr.specs.declared.instruction.Operation.TheVariants as operations
use Rattle.x64_instr.specs.declared.instruction.Instr.TheVariants as instrs
use Rattle.seh_num.specs.Answers.{◌>>=◌}

record Bound {A B : Type 0} (a : Answer A) (f : A → Answer B) (y : B) : Type 0 where
  pub value : A
  pub is : a ≡ Ok value
  pub then : f value ≡ Ok y

bound : {A B : Type 0} (a : Answer A) (f : A → Answer B) (y : B) → (a >>= f) ≡ Ok y → Bound a f y
bound (Ok x) f y e = record { value = x; is = refl; then = e }
bound (Err x) f y e = absurd cc

-- memory is as it was, and RIP
pub record Leaves (s t : State) : Type 0 where
  pub memory : t.memory ≡ s.memory
  pub rip : t.cpu.rip ≡ s.cpu.rip

same_state : (s t u : State) → ◌≡◌ {A = Answer State} (Ok u) (Ok t) → Leaves s u → Leaves s t
same_state s t u e h = subst (Leaves s) (let q : u ≡ t = cc in q) h

write_leaves : (s t : State) (w : Width) (to : RegisterOrMemory) (v : ℕ) → is_free_place to ≡ true
    → write s w to v ≡ Ok t → Leaves s t
write_leaves s t w (places.Register k) v q e = same_state s t
    (record s { cpu = with_register w s.cpu k v }) e (record { memory = refl; rip = refl })
write_leaves s t w (places.Memory a) v q e = absurd cc

change_leaves : (s t : State) (o : Operation) (w : Width) (to : RegisterOrMemory) (from : Operand)
    → is_free_place to ≡ true → change s o w to from ≡ Ok t → Leaves s t
change_leaves s t o w to from q e =
    let b = bound (operand s w from) (λ b. may_change s w to >>= λ _. read s w to
    >>= λ a. write (with_flags s (computed o w a b).1) w to (computed o w a b).0) t e in
    let c = bound (may_change s w to) (λ _. read s w to
    >>= λ a. write (with_flags s (computed o w a b.value).1) w to (computed o w a b.value).0) t
    b.then in
    let d = bound (read s w to) (λ a. write (with_flags s (computed o w a b.value).1) w to
    (computed o w a b.value).0) t c.then in
    let r = write_leaves (with_flags s (computed o w d.value b.value).1) t w to
    (computed o w d.value b.value).0 q d.then in
    record { memory = r.memory; rip = r.rip }

compare_leaves : (s t : State) (o : Operation) (w : Width) (to : RegisterOrMemory) (from : Operand)
    → compare s o w to from ≡ Ok t → Leaves s t
compare_leaves s t o w to from e =
    let b = bound (operand s w from) (λ b. read s w to
    >>= λ a. Ok (with_flags s (computed o w a b).1)) t e in
    let c = bound (read s w to) (λ a. Ok (with_flags s (computed o w a b.value).1)) t b.then in
    same_state s t (with_flags s (computed o w c.value b.value).1) c.then
    (record { memory = refl; rip = refl })

quotient_leaves : (s t : State) (w : Width) (q : Result (ℕ × ℕ) DivFault)
    → with_quotient s w q ≡ Ok t → Leaves s t
quotient_leaves s t w (Ok x) e = same_state s t
    (record s { cpu = with_register w (with_register w s.cpu regs.Rax x.0) regs.Rdx x.1 }) e
    (record { memory = refl; rip = refl })
quotient_leaves s t w (Err x) e = absurd cc

pub leaves : (s t : State) (i : Instr) → scratch_only i ≡ true → effect s i ≡ Ok t → Leaves s t
leaves s t (instrs.Move w to from) q e = let b = bound (operand s w from) (write s w to) t e in
    write_leaves s t w to b.value q b.then
leaves s t (instrs.LoadAddress w to m) q e = same_state s t _ e
    (record { memory = refl; rip = refl })
leaves s t (instrs.Arithmetic operations.Add w to from) q e = change_leaves s t operations.Add w to
    from q e
leaves s t (instrs.Arithmetic operations.Or w to from) q e = change_leaves s t operations.Or w to
    from q e
leaves s t (instrs.Arithmetic operations.And w to from) q e = change_leaves s t operations.And w to
    from q e
leaves s t (instrs.Arithmetic operations.Sub w to from) q e = change_leaves s t operations.Sub w to
    from q e
leaves s t (instrs.Arithmetic operations.Xor w to from) q e = change_leaves s t operations.Xor w to
    from q e
leaves s t (instrs.Arithmetic operations.Compare w to from) q e = compare_leaves s t
    operations.Compare w to from e
leaves s t (instrs.Test w first second) q e = compare_leaves s t operations.And w first second e
leaves s t (instrs.Divide d w by) q e = let b = bound (read s w by) _ t e in
    quotient_leaves s t w _ b.then
leaves s t (instrs.ExtendRax w) q e = same_state s t _ e (record { memory = refl; rip = refl })
leaves s t (instrs.Set c to) q e = write_leaves s t W8 to _ q e
leaves s t instrs.NoOperation q e = same_state s t s e (record { memory = refl; rip = refl })
leaves s t (instrs.Extend x w to narrow from) q e = let b = bound (read s narrow from) _ t e in
    same_state s t _ b.then (record { memory = refl; rip = refl })
leaves s t (instrs.Multiply w to from) q e = let b = bound (read s w from) _ t e in
    same_state s t _ b.then (record { memory = refl; rip = refl })
leaves s t (instrs.MultiplyBy w to from v) q e = let b = bound (read s w from) _ t e in
    same_state s t _ b.then (record { memory = refl; rip = refl })
leaves s t (instrs.Unary o w to) q e =
    let b = bound (may_change s w to) _ t e in
    let c = bound (read s w to) _ t b.then in
    let r = write_leaves (with_flags s _) t w to _ q c.then in
    record { memory = r.memory; rip = r.rip }
leaves s t (instrs.Shift d w to by) q e =
    let b = bound (may_change s w to) _ t e in
    let c = bound (read s w to) _ t b.then in
    let r = write_leaves (with_flags s _) t w to _ q c.then in
    record { memory = r.memory; rip = r.rip }
leaves s t i q e = absurd cc
