-- What an instruction keeps.
use Rattle.std.proofs.Common.{◌≡◌, ℕ, ◌+◌, ◌%◌, ◌^◌, ◌<◌, Bool, true, false, cond, Option, Some, None, Result, Ok, Err, refl, sym, subst, arith}
use Rattle.seh_num.specs.declared.width.Width.{Width}
use Rattle.seh_num.specs.declared.width.Width.TheVariants.{W8, W64}
use Rattle.seh_num.specs.declared.division.DivFault.{DivFault}
use Rattle.seh_num.specs.Answers.{◌>>=◌}
use Rattle.seh_num.specs.declared.size.TheConstants.{LONGEST_INSTRUCTION}
use Rattle.host_layout.specs.Services.{in_host_page}
use Rattle.flat_memory.specs.declared.access.RefusedAccess.{RefusedAccess}
use Rattle.flat_memory.specs.Memory.{Memory, executable, stored, after_store}
use Rattle.x64_instr.specs.declared.register.Reg.TheVariants.{Rsp}
use Rattle.x64_instr.specs.declared.operand.RegisterOrMemory.{RegisterOrMemory}
use Rattle.x64_instr.specs.declared.operand.RegisterOrMemory.TheVariants as places
use Rattle.x64_instr.specs.declared.operand.Operand.{Operand}
use Rattle.x64_instr.specs.declared.instruction.Operation.{Operation}
use Rattle.x64_instr.specs.declared.instruction.Operation.TheVariants as operations
use Rattle.x64_instr.specs.declared.instruction.Instr.{Instr}
use Rattle.x64_instr.specs.declared.instruction.Instr.TheVariants as instrs
use Rattle.x64_instr.specs.Spelling.{leading}
use Rattle.x64_machine.specs.Effect.{State, Answer, granted, memory_after, store, read, write, operand, may_change, push, register, address_of, with_rip, load, target_of, compare, change, is_compare, with_quotient, step, execute}
use Rattle.x64_decoded.specs.Fixed.{KeepsFixed}
use Rattle.x64_decoded.specs.Laws.{EffectsKeepFixed, StepsKeepFixed}
use Rattle.x64_decoded.proofs.Keeping.{keeps_same, stores_keep}

abbrev Keeps : Memory → Answer State → Type 0
Keeps m x = KeepsFixed m (memory_after m x)

-- what is asked first changes nothing
then : {A : Type 0} (m : Memory) (x : Answer A) (f : A → Answer State) → ((a : A) → Keeps m (f a))
    → Keeps m (x >>= f)
then m (Ok a) f h = h a
then m (Err e) f h = keeps_same m

-- what follows changes no memory
later : (m : Memory) (x : Answer State) (f : State → State)
    → ((u : State) → (f u).memory ≡ u.memory) → Keeps m x → Keeps m (x >>= λ u. Ok (f u))
later m (Ok u) f h k = subst (KeepsFixed m) (sym (h u)) k
later m (Err e) f h k = k

granted_keeps : (s : State) (at v : ℕ) (w : Width) (x : Result Unit RefusedAccess) → at < 2 ^ 64
    → Keeps s.memory (granted x >>= λ _. Ok (record s { memory = after_store s.memory at w v }))
granted_keeps s at v w (Ok u) lt = stores_keep s.memory at v w lt
granted_keeps s at v w (Err e) lt = keeps_same s.memory

store_keeps : (s : State) (at v : ℕ) (w : Width) → at < 2 ^ 64 → Keeps s.memory (store s at w v)
store_keeps s at v w lt = granted_keeps s at v w (stored s.memory at w) lt

write_keeps : (s : State) (w : Width) (to : RegisterOrMemory) (v : ℕ)
    → Keeps s.memory (write s w to v)
write_keeps s w (places.Register r) v = keeps_same s.memory
write_keeps s w (places.Memory a) v = store_keeps s (address_of s.cpu a) v w (omega arith)

push_keeps : (s : State) (v : ℕ) → Keeps s.memory (push s v)
push_keeps s v = store_keeps _ _ v W64 (omega arith)

popped_keeps : (s : State) (x : Answer ℕ) (g : ℕ → ℕ × State) (f : ℕ × State → State)
    → ((v : ℕ) → (f (g v)).memory ≡ s.memory)
    → Keeps s.memory ((x >>= λ v. Ok (g v)) >>= λ p. Ok (f p))
popped_keeps s (Ok v) g f h = subst (KeepsFixed s.memory) (sym (h v)) (keeps_same s.memory)
popped_keeps s (Err e) g f h = keeps_same s.memory

change_keeps : (s : State) (o : Operation) (w : Width) (to : RegisterOrMemory) (from : Operand)
    → Keeps s.memory (change s o w to from)
change_keeps s o w to from = then s.memory (operand s w from) _ (λ b. then s.memory
    (may_change s w to) _ (λ _. then s.memory (read s w to) _ (λ a. write_keeps _ w to _)))

compare_keeps : (s : State) (o : Operation) (w : Width) (to : RegisterOrMemory) (from : Operand)
    → Keeps s.memory (compare s o w to from)
compare_keeps s o w to from = then s.memory (operand s w from) _ (λ b. then s.memory
    (read s w to) _ (λ a. keeps_same s.memory))

either : (m : Memory) (b : Bool) (x y : Answer State) → Keeps m x → Keeps m y
    → Keeps m (cond b x y)
either m true x y h k = h
either m false x y h k = k

quotient_keeps : (s : State) (w : Width) (x : Result (ℕ × ℕ) DivFault)
    → Keeps s.memory (with_quotient s w x)
quotient_keeps s w (Ok x) = keeps_same s.memory
quotient_keeps s w (Err e) = keeps_same s.memory

pub effects_keep : EffectsKeepFixed
effects_keep s (instrs.Move w to from) =
    then s.memory (operand s w from) _ (λ v. write_keeps s w to v)
effects_keep s (instrs.Extend e w to narrow from) =
    then s.memory (read s narrow from) _ (λ v. keeps_same s.memory)
effects_keep s (instrs.LoadAddress w to m) = keeps_same s.memory
effects_keep s (instrs.Arithmetic o w to from) =
    either s.memory (is_compare o) _ _ (compare_keeps s o w to from) (change_keeps s o w to from)
effects_keep s (instrs.Test w first second) = compare_keeps s operations.And w first second
effects_keep s (instrs.Multiply w to from) =
    then s.memory (read s w from) _ (λ b. keeps_same s.memory)
effects_keep s (instrs.MultiplyBy w to from v) =
    then s.memory (read s w from) _ (λ b. keeps_same s.memory)
effects_keep s (instrs.Unary o w to) =
    then s.memory (may_change s w to) _ (λ _. then s.memory (read s w to) _
    (λ a. write_keeps _ w to _))
effects_keep s (instrs.Divide d w by) = then s.memory (read s w by) _ (λ v. quotient_keeps s w _)
effects_keep s (instrs.ExtendRax w) = keeps_same s.memory
effects_keep s (instrs.Shift d w to by) =
    then s.memory (may_change s w to) _ (λ _. then s.memory (read s w to) _
    (λ a. write_keeps _ w to _))
effects_keep s (instrs.Set c to) = write_keeps s W8 to _
effects_keep s (instrs.JumpIf c d) = keeps_same s.memory
effects_keep s (instrs.Jump to) = then s.memory (target_of s to) _ (λ t. keeps_same s.memory)
effects_keep s (instrs.Call to) =
    then s.memory (target_of s to) _ (λ t. later s.memory (push s s.cpu.rip) (λ u. with_rip u t)
    (λ u. refl) (push_keeps s s.cpu.rip))
effects_keep s (instrs.Push r) = push_keeps s (register s.cpu r)
effects_keep s (instrs.Pop r) =
    popped_keeps s (load s.memory (register s.cpu Rsp) W64) _ _ (λ v. refl)
effects_keep s instrs.Return =
    popped_keeps s (load s.memory (register s.cpu Rsp) W64) _ _ (λ v. refl)
effects_keep s instrs.NoOperation = keeps_same s.memory
effects_keep s instrs.Breakpoint = keeps_same s.memory
effects_keep s instrs.Undefined = keeps_same s.memory

pub execute_keeps : (s : State) (x : Option (Instr × ℕ)) → Keeps s.memory (execute s x)
execute_keeps s None = keeps_same s.memory
execute_keeps s (Some x) = effects_keep (with_rip s ((s.cpu.rip + x.1) % 2 ^ 64)) x.0

pub steps_keep : StepsKeepFixed
unfolding step
steps_keep s = either s.memory (in_host_page s.cpu.rip) _ _ (keeps_same s.memory)
    (execute_keeps s (leading (executable s.memory LONGEST_INSTRUCTION s.cpu.rip)))
