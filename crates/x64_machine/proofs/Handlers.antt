-- No instruction reads or writes the vectored handlers.
use Rattle.std.proofs.Common.{◌≡◌, ℕ, ◌%◌, ◌+◌, ◌^◌, Option, None, Some, Ok, Err, Bool, true, false, List, refl, sym, ap, ◌∙◌}
use Rattle.std.specs.Prelude.{if◌then◌else◌, Result}
use Rattle.seh_num.specs.declared.width.Width.{Width}
use Rattle.seh_num.specs.declared.width.Width.TheVariants.{W8, W64}
use Rattle.seh_num.specs.declared.division.DivFault.{DivFault}
use Rattle.seh_num.specs.Answers.{◌>>=◌}
use Rattle.seh_num.specs.declared.size.TheConstants.{LONGEST_INSTRUCTION}
use Rattle.flat_memory.specs.Memory.{stored, loaded, executable}
use Rattle.host_layout.specs.Services.{service_at, in_host_page}
use Rattle.x64_instr.specs.Spelling.{leading}
use Rattle.x64_instr.specs.declared.instruction.Instr.{Instr}
use Rattle.x64_instr.specs.declared.instruction.Instr.TheVariants as instrs
use Rattle.x64_instr.specs.declared.instruction.Operation.{Operation}
use Rattle.x64_instr.specs.declared.instruction.Operation.TheVariants as operations
use Rattle.x64_instr.specs.declared.instruction.Unary.{Unary}
use Rattle.x64_instr.specs.declared.instruction.Direction.{Direction}
use Rattle.x64_instr.specs.declared.instruction.Target.{Target}
use Rattle.x64_instr.specs.declared.instruction.Target.TheVariants.{Relative, Indirect}
use Rattle.x64_instr.specs.declared.operand.Operand.{Operand}
use Rattle.x64_instr.specs.declared.operand.Operand.TheVariants as operands
use Rattle.x64_instr.specs.declared.operand.RegisterOrMemory.{RegisterOrMemory}
use Rattle.x64_instr.specs.declared.operand.RegisterOrMemory.TheVariants as places
use Rattle.x64_instr.specs.declared.register.Reg.{Reg}
use Rattle.x64_instr.specs.declared.register.Reg.TheVariants.{Rsp}
use Rattle.x64_machine.specs.Effect.{State, Answer, with_vectored, granted, store, load, read, operand, write, may_change, compare, change, arithmetic, is_compare, unary, shift_by, with_quotient, push, pop, target_of, jump, call, effect, execute, hosted, register, with_register, with_rip}
unfoldable use Rattle.x64_machine.specs.Effect.{step}

-- the same answer, with these vectored handlers in the state after it
abbrev pub answer_with : List ℕ → Answer State → Answer State
answer_with v (Ok s) = Ok (with_vectored v s)
answer_with v (Err e) = Err e

-- ---- what follows an answer

same_answer : {A : Type 0} (v : List ℕ) (r : Answer A) (k k' : A → Answer State)
    → ((x : A) → k' x ≡ answer_with v (k x)) → (r >>= k') ≡ answer_with v (r >>= k)
same_answer v (Ok x) k k' h = h x
same_answer v (Err e) k k' h = refl

after : {A : Type 0} (v : List ℕ) (r r' : Answer A) (k k' : A → Answer State) → r' ≡ r
    → ((x : A) → k' x ≡ answer_with v (k x)) → (r' >>= k') ≡ answer_with v (r >>= k)
after v r r' k k' e h = ap (λ (x : Answer _). x >>= k') e ∙ same_answer v r k k' h

after_state : (v : List ℕ) (a : Answer State) (k : State → Answer State)
    → ((u : State) → k (with_vectored v u) ≡ answer_with v (k u))
    → (answer_with v a >>= k) ≡ answer_with v (a >>= k)
after_state v (Ok u) k h = h u
after_state v (Err e) k h = refl

-- ---- operands

read_same : (v : List ℕ) (s : State) (w : Width) (from : RegisterOrMemory)
    → read (with_vectored v s) w from ≡ read s w from
read_same v s w (places.Register r) = refl
read_same v s w (places.Memory a) = refl

operand_same : (v : List ℕ) (s : State) (w : Width) (from : Operand)
    → operand (with_vectored v s) w from ≡ operand s w from
operand_same v s w (operands.Register r) = refl
operand_same v s w (operands.Memory a) = refl
operand_same v s w (operands.Immediate n) = refl

may_change_same : (v : List ℕ) (s : State) (w : Width) (to : RegisterOrMemory)
    → may_change (with_vectored v s) w to ≡ may_change s w to
may_change_same v s w (places.Register r) = refl
may_change_same v s w (places.Memory a) = refl

store_with : (v : List ℕ) (s : State) (at : ℕ) (w : Width) (n : ℕ)
    → store (with_vectored v s) at w n ≡ answer_with v (store s at w n)
store_with v s at w n = same_answer v (granted (stored s.memory at w)) _ _ (λ x. refl)

write_with : (v : List ℕ) (s : State) (w : Width) (to : RegisterOrMemory) (n : ℕ)
    → write (with_vectored v s) w to n ≡ answer_with v (write s w to n)
write_with v s w (places.Register r) n = refl
write_with v s w (places.Memory a) n = store_with v s _ w n

-- ---- instructions

compare_with : (v : List ℕ) (s : State) (o : Operation) (w : Width) (first : RegisterOrMemory)
    (second : Operand)
    → compare (with_vectored v s) o w first second ≡ answer_with v (compare s o w first second)
compare_with v s o w first second =
    after v (operand s w second) _ _ _ (operand_same v s w second)
    (λ b. after v (read s w first) _ _ _ (read_same v s w first) (λ a. refl))

change_with : (v : List ℕ) (s : State) (o : Operation) (w : Width) (to : RegisterOrMemory)
    (from : Operand)
    → change (with_vectored v s) o w to from ≡ answer_with v (change s o w to from)
change_with v s o w to from =
    after v (operand s w from) _ _ _ (operand_same v s w from)
    (λ b. after v (may_change s w to) _ _ _ (may_change_same v s w to)
    (λ x. after v (read s w to) _ _ _ (read_same v s w to) (λ a. write_with v _ w to _)))

arithmetic_with : (v : List ℕ) (s : State) (o : Operation) (w : Width) (to : RegisterOrMemory)
    (from : Operand)
    → arithmetic (with_vectored v s) o w to from ≡ answer_with v (arithmetic s o w to from)
arithmetic_with v s o w to from = go (is_compare o)
  where
    go : (b : Bool) → (let t = with_vectored v s in
        if b then compare t o w to from else change t o w to from)
        ≡ answer_with v (if b then compare s o w to from else change s o w to from)
    go true = compare_with v s o w to from
    go false = change_with v s o w to from

unary_with : (v : List ℕ) (s : State) (o : Unary) (w : Width) (to : RegisterOrMemory)
    → unary (with_vectored v s) o w to ≡ answer_with v (unary s o w to)
unary_with v s o w to =
    after v (may_change s w to) _ _ _ (may_change_same v s w to)
    (λ x. after v (read s w to) _ _ _ (read_same v s w to) (λ a. write_with v _ w to _))

shift_with : (v : List ℕ) (s : State) (d : Direction) (w : Width) (to : RegisterOrMemory) (n : ℕ)
    → shift_by (with_vectored v s) d w to n ≡ answer_with v (shift_by s d w to n)
shift_with v s d w to n =
    after v (may_change s w to) _ _ _ (may_change_same v s w to)
    (λ x. after v (read s w to) _ _ _ (read_same v s w to) (λ a. write_with v _ w to _))

quotient_with : (v : List ℕ) (s : State) (w : Width) (r : Result (ℕ × ℕ) DivFault)
    → with_quotient (with_vectored v s) w r ≡ answer_with v (with_quotient s w r)
quotient_with v s w (Ok x) = refl
quotient_with v s w (Err e) = refl

target_same : (v : List ℕ) (s : State) (to : Target)
    → target_of (with_vectored v s) to ≡ target_of s to
target_same v s (Relative d) = refl
target_same v s (Indirect at) = read_same v s W64 at

call_with : (v : List ℕ) (s : State) (to : Target)
    → call (with_vectored v s) to ≡ answer_with v (call s to)
call_with v s to =
    after v (target_of s to) _ _ _ (target_same v s to)
    (λ t. ap (λ (a : Answer State). a >>= λ u. Ok (with_rip u t))
    (store_with v _ _ W64 s.cpu.rip)
    ∙ after_state v (push s s.cpu.rip) (λ u. Ok (with_rip u t)) (λ u. refl))

pop_with : (v : List ℕ) (s : State) (r : Reg)
    → effect (with_vectored v s) (instrs.Pop r) ≡ answer_with v (effect s (instrs.Pop r))
pop_with v s r = go (load s.memory (register s.cpu Rsp) W64)
  where
    popped : Answer ℕ → State → Answer State
    popped a t = (a >>= λ n. let x : ℕ × State = (
      n,
      record t {
        cpu = with_register W64 t.cpu Rsp ((register t.cpu Rsp + 8) % 2 ^ 64);
      },
    ) in Ok x) >>= λ x. Ok (record x.1 { cpu = with_register W64 x.1.cpu r x.0 })

    go : (a : Answer ℕ) → popped a (with_vectored v s) ≡ answer_with v (popped a s)
    go (Ok n) = refl
    go (Err e) = refl

return_with : (v : List ℕ) (s : State)
    → effect (with_vectored v s) instrs.Return ≡ answer_with v (effect s instrs.Return)
return_with v s = go (load s.memory (register s.cpu Rsp) W64)
  where
    returned : Answer ℕ → State → Answer State
    returned a t = (a >>= λ n. let x : ℕ × State = (
      n,
      record t {
        cpu = with_register W64 t.cpu Rsp ((register t.cpu Rsp + 8) % 2 ^ 64);
      },
    ) in Ok x) >>= λ x. Ok (with_rip x.1 x.0)

    go : (a : Answer ℕ) → returned a (with_vectored v s) ≡ answer_with v (returned a s)
    go (Ok n) = refl
    go (Err e) = refl

effect_with : (v : List ℕ) (s : State) (i : Instr)
    → effect (with_vectored v s) i ≡ answer_with v (effect s i)
effect_with v s (instrs.Move w to from) =
    after v (operand s w from) _ _ _ (operand_same v s w from) (λ n. write_with v s w to n)
effect_with v s (instrs.Extend e w to narrow from) =
    after v (read s narrow from) _ _ _ (read_same v s narrow from) (λ n. refl)
effect_with v s (instrs.LoadAddress w to m) = refl
effect_with v s (instrs.Arithmetic o w to from) = arithmetic_with v s o w to from
effect_with v s (instrs.Test w first second) = compare_with v s operations.And w first second
effect_with v s (instrs.Multiply w to from) =
    after v (read s w from) _ _ _ (read_same v s w from) (λ n. refl)
effect_with v s (instrs.MultiplyBy w to from n) =
    after v (read s w from) _ _ _ (read_same v s w from) (λ a. refl)
effect_with v s (instrs.Unary o w to) = unary_with v s o w to
effect_with v s (instrs.Divide d w by) =
    after v (read s w by) _ _ _ (read_same v s w by) (λ n. quotient_with v s w _)
effect_with v s (instrs.ExtendRax w) = refl
effect_with v s (instrs.Shift d w to by) = shift_with v s d w to _
effect_with v s (instrs.Set c to) = write_with v s W8 to _
effect_with v s (instrs.JumpIf c d) = refl
effect_with v s (instrs.Jump to) =
    after v (target_of s to) _ _ _ (target_same v s to) (λ t. refl)
effect_with v s (instrs.Call to) = call_with v s to
effect_with v s (instrs.Push r) = store_with v _ _ W64 (register s.cpu r)
effect_with v s (instrs.Pop r) = pop_with v s r
effect_with v s instrs.Return = return_with v s
effect_with v s instrs.NoOperation = refl
effect_with v s instrs.Breakpoint = refl
effect_with v s instrs.Undefined = refl

execute_with : (v : List ℕ) (s : State) (i : Option (Instr × ℕ))
    → execute (with_vectored v s) i ≡ answer_with v (execute s i)
execute_with v s None = refl
execute_with v s (Some x) = effect_with v (with_rip s ((s.cpu.rip + x.1) % 2 ^ 64)) x.0

-- ---- steps

-- a step of a machine whose host has vectored handlers is that of the machine
pub step_with_vectored : (v : List ℕ) (s : State)
    → step (with_vectored v s) ≡ answer_with v (step s)
unfolding step
step_with_vectored v s = go (in_host_page s.cpu.rip)
  where
    x : Option (Instr × ℕ)
    x = leading (executable s.memory LONGEST_INSTRUCTION s.cpu.rip)

    go : (b : Bool) → (let a : Answer State = if b
        then Err (hosted s.cpu.rip (service_at s.cpu.rip)) else execute (with_vectored v s) x in a)
        ≡ answer_with v (if b then Err (hosted s.cpu.rip (service_at s.cpu.rip)) else execute s x)
    go true = refl
    go false = execute_with v s x

-- a step leaves them
pub step_keeps_vectored : (s u : State) → step s ≡ Ok u → u.vectored ≡ s.vectored
step_keeps_vectored s u e = same (answer_with s.vectored (Ok u))
    (step_with_vectored s.vectored s ∙ ap (answer_with s.vectored) e)
  where
    vectored_of : Answer State → List ℕ
    vectored_of (Ok t) = t.vectored
    vectored_of (Err x) = s.vectored

    same : (a : Answer State) → step s ≡ a → u.vectored ≡ vectored_of a
    same a f = ap vectored_of (sym e ∙ f)
