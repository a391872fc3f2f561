-- Where an instruction goes on.
use Rattle.std.proofs.Common.{◌≡◌, ℕ, ◌+◌, ◌-◌, ◌%◌, ◌^◌, Bool, true, false, cond, [], ◌∷◌, Ok, refl, sym, ap, subst, ◌∙◌, inl, inr}
use Rattle.std.specs.Prelude.{◌⊎◌, Result, Err, List}
use Rattle.std.proofs.lemmas.Bool.{false≢true}
use Rattle.seh_num.specs.Answers.{◌>>=◌}
use Rattle.seh_num.specs.declared.width.Width.{Width}
use Rattle.seh_num.specs.declared.width.Width.TheVariants.{W8, W64}
use Rattle.seh_num.specs.declared.division.DivFault.{DivFault}
use Rattle.frame_rules.specs.Words.{State, Answer, Cpu, Instr, Rsp, Rax, Rdx, register, with_register, with_flags, load, store, read, operand, write, may_change, computed, change, compare, with_quotient, pop, relative, effect, granted, stored as storable, after_store}
use Rattle.x64_machine.specs.Conditions.{holds}
use Rattle.x64_instr.specs.declared.operand.RegisterOrMemory.{RegisterOrMemory}
use Rattle.x64_instr.specs.declared.operand.RegisterOrMemory.TheVariants as places
use Rattle.x64_instr.specs.declared.operand.Operand.{Operand}
use Rattle.x64_instr.specs.declared.instruction.Target.TheVariants.{Relative, Indirect}
use Rattle.x64_instr.specs.declared.instruction.Operation.{Operation}
use Rattle.x64_instr.specs.declared.instruction.Operation.TheVariants as operations
use Rattle.x64_instr.specs.declared.instruction.Instr.TheVariants as instrs
use Rattle.frame_rules.specs.Body.{is_a_call}
use Rattle.frame_known.specs.Measured.{OneOf, ways, leaves}
use Rattle.frame_known.proofs.Answers.{bound, ok_same}

abbrev Same : State → State → Type 0
Same s t = t.cpu.rip ≡ s.cpu.rip

same_rip : (s u t : State) → Same s u → ◌≡◌ {A = Answer State} (Ok u) (Ok t) → Same s t
same_rip s u t h e = ap (λ (x : State). x.cpu.rip) (sym (ok_same e)) ∙ h

store_rip : (s t : State) (at : ℕ) (w : Width) (v : ℕ) → store s at w v ≡ Ok t → Same s t
store_rip s t at w v e =
    let b = bound (granted (storable s.memory at w))
    (λ _. Ok (record s { memory = after_store s.memory at w v })) t e in
    same_rip s (record s { memory = after_store s.memory at w v }) t refl b.next

write_rip : (s t : State) (w : Width) (to : RegisterOrMemory) (v : ℕ) → write s w to v ≡ Ok t
    → Same s t
write_rip s t w (places.Register r) v e =
    let u : State = record s { cpu = with_register w s.cpu r v } in same_rip s u t refl e
write_rip s t w (places.Memory a) v e = store_rip s t _ w v e

change_rip : (s t : State) (o : Operation) (w : Width) (to : RegisterOrMemory) (from : Operand)
    → change s o w to from ≡ Ok t → Same s t
change_rip s t o w to from e =
    let b = bound (operand s w from) (λ b. may_change s w to >>= λ _. read s w to
    >>= λ a. write (with_flags s (computed o w a b).1) w to (computed o w a b).0) t e in
    let c = bound (may_change s w to) (λ _. read s w to
    >>= λ a. write (with_flags s (computed o w a b.value).1) w to (computed o w a b.value).0) t
    b.next in
    let d = bound (read s w to) (λ a. write (with_flags s (computed o w a b.value).1) w to
    (computed o w a b.value).0) t c.next in
    write_rip (with_flags s (computed o w d.value b.value).1) t w to
    (computed o w d.value b.value).0 d.next

compare_rip : (s t : State) (o : Operation) (w : Width) (to : RegisterOrMemory) (from : Operand)
    → compare s o w to from ≡ Ok t → Same s t
compare_rip s t o w to from e =
    let b = bound (operand s w from) (λ b. read s w to
    >>= λ a. Ok (with_flags s (computed o w a b).1)) t e in
    let c = bound (read s w to) (λ a. Ok (with_flags s (computed o w a b.value).1)) t b.next in
    same_rip s (with_flags s (computed o w c.value b.value).1) t refl c.next

pop_rip : (s : State) (x : ℕ × State) → pop s ≡ Ok x → Same s x.1
pop_rip s x e =
    let at = (register s.cpu Rsp + 8) % 2 ^ 64 in
    let low : State = record s { cpu = with_register W64 s.cpu Rsp at } in
    let b = bound (load s.memory (register s.cpu Rsp) W64) (λ v. Ok (v, low)) x e in
    ap (λ (p : ℕ × State). p.1.cpu.rip) (sym (ok_same b.next))

quotient_rip : (s t : State) (w : Width) (q : Result (ℕ × ℕ) DivFault) → with_quotient s w q ≡ Ok t
    → Same s t
quotient_rip s t w (Ok x) e = same_rip s
    (record s { cpu = with_register w (with_register w s.cpu Rax x.0) Rdx x.1 }) t refl e
quotient_rip s t w (Err x) e = absurd cc

-- ---- the ways

jumped_way : (c : Cpu) (b : Bool) (a : ℕ) → OneOf (cond b (record c { rip = a }) c).rip
    (c.rip ∷ a ∷ [])
jumped_way c true a = inr (inl refl)
jumped_way c false a = inl refl

pub way : (s t : State) (x : Instr) → is_a_call x ≡ false → leaves x ≡ false → effect s x ≡ Ok t
    → OneOf t.cpu.rip (ways x s.cpu.rip)
way s t (instrs.Move w to from) n l h = let b = bound (operand s w from) (write s w to) t h in
    inl (write_rip s t w to b.value b.next)
way s t (instrs.LoadAddress w to m) n l h = inl (same_rip s _ t refl h)
way s t (instrs.Arithmetic operations.Add w to from) n l h = inl (change_rip s t operations.Add w to
    from h)
way s t (instrs.Arithmetic operations.Or w to from) n l h = inl (change_rip s t operations.Or w to
    from h)
way s t (instrs.Arithmetic operations.And w to from) n l h = inl (change_rip s t operations.And w to
    from h)
way s t (instrs.Arithmetic operations.Sub w to from) n l h = inl (change_rip s t operations.Sub w to
    from h)
way s t (instrs.Arithmetic operations.Xor w to from) n l h = inl (change_rip s t operations.Xor w to
    from h)
way s t (instrs.Arithmetic operations.Compare w to from) n l h = inl (compare_rip s t
    operations.Compare w to from h)
way s t (instrs.Test w first second) n l h = inl (compare_rip s t operations.And w first second h)
way s t (instrs.Divide d w by) n l h = let b = bound (read s w by) _ t h in
    inl (quotient_rip s t w _ b.next)
way s t (instrs.ExtendRax w) n l h = inl (same_rip s _ t refl h)
way s t (instrs.Set c to) n l h = inl (write_rip s t W8 to _ h)
way s t (instrs.JumpIf c d) n l h = subst
    (λ (u : State). OneOf u.cpu.rip (s.cpu.rip ∷ ((s.cpu.rip + d) % 2 ^ 64) ∷ [])) (ok_same h)
    (jumped_way s.cpu (holds s.cpu.flags c) (relative s.cpu d))
way s t (instrs.Jump (Relative d)) n l h = inl (ap (λ (u : State). u.cpu.rip) (sym (ok_same h)))
way s t (instrs.Jump (Indirect to)) n l h = absurd (false≢true (sym l))
way s t (instrs.Call to) n l h = absurd (false≢true (sym n))
way s t (instrs.Push k) n l h =
    let at = (register s.cpu Rsp + (2 ^ 64 - 8)) % 2 ^ 64 in
    let u : State = record s { cpu = with_register W64 s.cpu Rsp at } in
    inl (store_rip u t at W64 _ h)
way s t (instrs.Pop k) n l h =
    let b = bound (pop s) (λ x. Ok (record x.1 { cpu = with_register W64 x.1.cpu k x.0 })) t h in
    inl (same_rip s (record b.value.1 { cpu = with_register W64 b.value.1.cpu k b.value.0 }) t
    (pop_rip s b.value b.is) b.next)
way s t instrs.Return n l h = absurd (false≢true (sym l))
way s t instrs.NoOperation n l h = inl (same_rip s s t refl h)
way s t instrs.Breakpoint n l h = absurd cc
way s t instrs.Undefined n l h = absurd cc
way s t (instrs.Extend x w to narrow from) n l h = let b = bound (read s narrow from) _ t h in
    inl (same_rip s _ t refl b.next)
way s t (instrs.Multiply w to from) n l h = let b = bound (read s w from) _ t h in
    inl (same_rip s _ t refl b.next)
way s t (instrs.MultiplyBy w to from v) n l h = let b = bound (read s w from) _ t h in
    inl (same_rip s _ t refl b.next)
way s t (instrs.Unary o w to) n l h =
    let b = bound (may_change s w to) _ t h in
    let c = bound (read s w to) _ t b.next in
    inl (write_rip (with_flags s _) t w to _ c.next)
way s t (instrs.Shift d w to by) n l h =
    let b = bound (may_change s w to) _ t h in
    let c = bound (read s w to) _ t b.next in
    inl (write_rip (with_flags s _) t w to _ c.next)
