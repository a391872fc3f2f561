-- What one instruction does (Intel manual, volume 2, each instruction's page).
--
-- The main definitions: `effect`, `step`.
use Rattle.std.specs.Prelude.{◌≡◌, ℕ, ◌+◌, ◌-◌, ◌*◌, ◌%◌, ◌^◌, Bool, true, false, nat_lt, if◌then◌else◌, List, [], Option, Some, None, Result, Ok, Err, slice_index, slice_set, bit_and, bit_or, bit_xor}
use Rattle.seh_num.specs.declared.width.Width.{Width}
use Rattle.seh_num.specs.declared.width.Width.TheVariants.{W8, W64}
use Rattle.seh_num.specs.declared.division.DivFault.{DivFault}
use Rattle.seh_num.specs.declared.division.DivFault.TheVariants as faults
use Rattle.seh_num.specs.Answers.{◌>>=◌}
use Rattle.seh_num.specs.Widths.{limit, half, low, signed, wrapped}
use Rattle.seh_num.specs.declared.code.TheConstants.{ACCESS_VIOLATION, INTEGER_DIVIDE_BY_ZERO, INTEGER_OVERFLOW}
use Rattle.seh_num.specs.declared.size.TheConstants.{LONGEST_INSTRUCTION}
use Rattle.flat_memory.specs.declared.access.RefusedAccess.{RefusedAccess}
use Rattle.flat_memory.specs.declared.access.RefusedAccess.TheVariants as accesses
use Rattle.flat_memory.specs.Memory.{Memory, executable, loaded, stored, after_store}
use Rattle.x64_instr.specs.declared.register.Reg.{Reg}
use Rattle.x64_instr.specs.declared.register.Reg.TheVariants.{Rax, Rcx, Rdx, Rsp}
use Rattle.x64_instr.specs.declared.operand.Scale.{Scale}
use Rattle.x64_instr.specs.declared.operand.Scale.TheVariants.{One, Two, Four, Eight}
use Rattle.x64_instr.specs.declared.operand.Base.{Base}
use Rattle.x64_instr.specs.declared.operand.Base.TheVariants as bases
use Rattle.x64_instr.specs.declared.operand.Index.{Index}
use Rattle.x64_instr.specs.declared.operand.MemRef.{MemRef}
use Rattle.x64_instr.specs.declared.operand.RegisterOrMemory.{RegisterOrMemory}
use Rattle.x64_instr.specs.declared.operand.RegisterOrMemory.TheVariants as places
use Rattle.x64_instr.specs.declared.operand.Operand.{Operand}
use Rattle.x64_instr.specs.declared.operand.Operand.TheVariants as operands
use Rattle.x64_instr.specs.declared.instruction.Operation.{Operation}
use Rattle.x64_instr.specs.declared.instruction.Operation.TheVariants as operations
use Rattle.x64_instr.specs.declared.instruction.Unary.{Unary}
use Rattle.x64_instr.specs.declared.instruction.Unary.TheVariants.{Not, Negate}
use Rattle.x64_instr.specs.declared.instruction.Extension.{Extension}
use Rattle.x64_instr.specs.declared.instruction.Extension.TheVariants.{Sign, Zero}
use Rattle.x64_instr.specs.declared.instruction.Division.{Division}
use Rattle.x64_instr.specs.declared.instruction.Direction.{Direction}
use Rattle.x64_instr.specs.declared.instruction.Count.{Count}
use Rattle.x64_instr.specs.declared.instruction.Count.TheVariants as counts
use Rattle.x64_instr.specs.declared.instruction.Condition.{Condition}
use Rattle.x64_instr.specs.declared.instruction.Target.{Target}
use Rattle.x64_instr.specs.declared.instruction.Target.TheVariants.{Relative, Indirect}
use Rattle.x64_instr.specs.declared.instruction.Instr.{Instr}
use Rattle.x64_instr.specs.declared.instruction.Instr.TheVariants as instrs
use Rattle.x64_instr.specs.Registers.{number}
use Rattle.x64_instr.specs.Spelling.{leading}
use Rattle.x64_machine.specs.declared.cpu.Cpu.{Cpu}
use Rattle.x64_machine.specs.declared.cpu.Flags.{Flags}
use Rattle.x64_machine.specs.declared.outcome.Stop.{Stop}
use Rattle.x64_machine.specs.declared.outcome.Stop.TheVariants as stops
use Rattle.x64_machine.specs.declared.outcome.StepOutcome.{StepOutcome}
use Rattle.x64_machine.specs.declared.outcome.StepOutcome.TheVariants as steps
use Rattle.host_layout.specs.declared.service.Service.{Service}
use Rattle.host_layout.specs.declared.service.Service.TheVariants as services
use Rattle.host_layout.specs.Services.{service_at, in_host_page}
use Rattle.x64_machine.specs.Words.{merged, added, subtracted, multiplied, logical, inverted}
use Rattle.x64_machine.specs.Shifts.{count_of, shifted, shift_flags}
use Rattle.x64_machine.specs.Conditions.{holds}
use Rattle.x64_machine.specs.Dividing.{joined, divided}

-- the registers, the memory, and what the host keeps beside them: its vectored handlers, by their
-- addresses, in the order in which it asks them. No instruction reads or writes the list
pub record State : Type 0 where
  pub cpu : Cpu
  pub memory : Memory
  pub vectored : List ℕ

-- what a step gives: the state after it, or why there is none
abbrev pub Answer : Type 0 → Type 0
Answer A = Result A Stop

-- ---- registers

abbrev pub register : Cpu → Reg → ℕ
register c r = slice_index c.registers (number r)

abbrev pub with_register : Width → Cpu → Reg → ℕ → Cpu
with_register w c r v =
    record c { registers = slice_set c.registers (number r) (merged w (register c r) v) }

abbrev pub with_flags : State → Flags → State
with_flags s f = record s { cpu = record s.cpu { flags = f } }

abbrev pub with_rip : State → ℕ → State
with_rip s a = record s { cpu = record s.cpu { rip = a } }

-- ---- memory

-- a refused access is an access violation, but of the guard
abbrev pub refusal : RefusedAccess → Stop
refusal (accesses.Fault a write) = stops.Fault ACCESS_VIOLATION (Some (write, a))
refusal (accesses.Guard a) = stops.Guard a

abbrev pub granted : {A : Type 0} → Result A RefusedAccess → Answer A
granted (Ok x) = Ok x
granted (Err a) = Err (refusal a)

abbrev pub factor : Scale → ℕ
factor One = 1
factor Two = 2
factor Four = 4
factor Eight = 8

-- RIP is that of the next instruction
abbrev pub base_of : Cpu → Base → ℕ
base_of c bases.Nothing = 0
base_of c bases.Rip = c.rip
base_of c (bases.Register r) = register c r

abbrev pub index_of : Cpu → Option Index → ℕ
index_of c None = 0
index_of c (Some i) = factor i.scale * register c i.register

abbrev pub address_of : Cpu → MemRef → ℕ
address_of c a = (base_of c a.base + index_of c a.index + a.displacement) % 2 ^ 64

abbrev pub load : Memory → ℕ → Width → Answer ℕ
load m at w = granted (loaded m at w)

abbrev pub store : State → ℕ → Width → ℕ → Answer State
store s at w v =
    granted (stored s.memory at w) >>= λ _. Ok (record s { memory = after_store s.memory at w v })

-- ---- operands

abbrev pub read : State → Width → RegisterOrMemory → Answer ℕ
read s w (places.Register r) = Ok (low w (register s.cpu r))
read s w (places.Memory a) = load s.memory (address_of s.cpu a) w

abbrev pub operand : State → Width → Operand → Answer ℕ
operand s w (operands.Register r) = Ok (low w (register s.cpu r))
operand s w (operands.Memory a) = load s.memory (address_of s.cpu a) w
operand s w (operands.Immediate v) = Ok (low w v)

abbrev pub write : State → Width → RegisterOrMemory → ℕ → Answer State
write s w (places.Register r) v = Ok (record s { cpu = with_register w s.cpu r v })
write s w (places.Memory a) v = store s (address_of s.cpu a) w v

-- a place in memory that is read and written is refused as a write
abbrev pub may_change : State → Width → RegisterOrMemory → Answer Unit
may_change s w (places.Register r) = Ok tt
may_change s w (places.Memory a) = granted (stored s.memory (address_of s.cpu a) w)

-- ---- instructions

abbrev pub computed : Operation → Width → ℕ → ℕ → ℕ × Flags
computed operations.Add w a b = added w a b
computed operations.Or w a b = logical w (bit_or a b)
computed operations.And w a b = logical w (bit_and a b)
computed operations.Sub w a b = subtracted w a b
computed operations.Xor w a b = logical w (bit_xor a b)
computed operations.Compare w a b = subtracted w a b

-- the second operand is read first, then the first, which takes the result
abbrev pub change : State → Operation → Width → RegisterOrMemory → Operand → Answer State
change s o w to from = do
  b ← operand s w from
  _ ← may_change s w to
  a ← read s w to
  write (with_flags s (computed o w a b).1) w to (computed o w a b).0

-- the flags alone are kept, and no operand is written
abbrev pub compare : State → Operation → Width → RegisterOrMemory → Operand → Answer State
compare s o w first second = do
  b ← operand s w second
  a ← read s w first
  Ok (with_flags s (computed o w a b).1)

abbrev pub is_compare : Operation → Bool
is_compare operations.Compare = true
is_compare o = false

abbrev pub arithmetic : State → Operation → Width → RegisterOrMemory → Operand → Answer State
arithmetic s o w to from = if is_compare o then compare s o w to from else change s o w to from

abbrev pub unary_of : Unary → Width → ℕ → Flags → ℕ × Flags
unary_of Not w a f = (inverted w a, f)
unary_of Negate w a f = subtracted w 0 a

abbrev pub unary : State → Unary → Width → RegisterOrMemory → Answer State
unary s o w to = do
  _ ← may_change s w to
  a ← read s w to
  write (with_flags s (unary_of o w a s.cpu.flags).1) w to (unary_of o w a s.cpu.flags).0

abbrev pub amount : Cpu → Count → ℕ
amount c (counts.Immediate n) = n
amount c counts.Cl = low W8 (register c Rcx)

-- a count of 0 writes the operand too
abbrev pub shift_by : State → Direction → Width → RegisterOrMemory → ℕ → Answer State
shift_by s d w to n = do
  _ ← may_change s w to
  a ← read s w to
  write (with_flags s (shift_flags d w a n s.cpu.flags)) w to (shifted d w a n)

abbrev pub shift : State → Direction → Width → RegisterOrMemory → Count → Answer State
shift s d w to by = shift_by s d w to (count_of w (amount s.cpu by))

abbrev pub multiply : State → Width → Reg → RegisterOrMemory → Answer State
multiply s w to from = do
  b ← read s w from
  let p = multiplied w (low w (register s.cpu to)) b s.cpu.flags in
      Ok (with_flags (record s { cpu = with_register w s.cpu to p.0 }) p.1)

abbrev pub multiply_by : State → Width → Reg → RegisterOrMemory → ℕ → Answer State
multiply_by s w to from v = do
  a ← read s w from
  let p = multiplied w a (low w v) s.cpu.flags in
      Ok (with_flags (record s { cpu = with_register w s.cpu to p.0 }) p.1)

-- no quotient: by 0, or one that doesn't fit
abbrev pub division_stop : DivFault → Stop
division_stop faults.Zero = stops.Fault INTEGER_DIVIDE_BY_ZERO None
division_stop faults.Overflow = stops.Fault INTEGER_OVERFLOW None

abbrev pub with_quotient : State → Width → Result (ℕ × ℕ) DivFault → Answer State
with_quotient s w (Ok x) =
    Ok (record s { cpu = with_register w (with_register w s.cpu Rax x.0) Rdx x.1 })
with_quotient s w (Err e) = Err (division_stop e)

-- the flags stay
abbrev pub divide : State → Division → Width → RegisterOrMemory → Answer State
divide s d w by = do
  v ← read s w by
  with_quotient s w (divided d w (joined w (low w (register s.cpu Rdx))
      (low w (register s.cpu Rax))) v)

-- copies of the top bit of RAX
abbrev pub sign_of_rax : Width → Cpu → ℕ
sign_of_rax w c = if nat_lt (low w (register c Rax)) (half w) then 0 else limit w - 1

abbrev pub widened : Extension → Width → Width → ℕ → ℕ
widened Sign w narrow v = wrapped w (signed narrow v)
widened Zero w narrow v = low narrow v

abbrev pub extend : State → Extension → Width → Reg → Width → RegisterOrMemory → Answer State
extend s e w to narrow from = do
  v ← read s narrow from
  Ok (record s { cpu = with_register w s.cpu to (widened e w narrow v) })

-- RSP falls by 8, and the number is stored there
abbrev pub push : State → ℕ → Answer State
push s v =
    let at = (register s.cpu Rsp + (2 ^ 64 - 8)) % 2 ^ 64 in
    store (record s { cpu = with_register W64 s.cpu Rsp at }) at W64 v

-- the number at RSP, and the state with RSP risen by 8
abbrev pub pop : State → Answer (ℕ × State)
pop s = do
  v ← load s.memory (register s.cpu Rsp) W64
  Ok (v, record s { cpu = with_register W64 s.cpu Rsp ((register s.cpu Rsp + 8) % 2 ^ 64) })

-- relative to the next instruction
abbrev pub relative : Cpu → ℕ → ℕ
relative c d = (c.rip + d) % 2 ^ 64

abbrev pub target_of : State → Target → Answer ℕ
target_of s (Relative d) = Ok (relative s.cpu d)
target_of s (Indirect at) = read s W64 at

abbrev pub jumped : Cpu → Condition → ℕ → Cpu
jumped c condition d = if holds c.flags condition then record c { rip = relative c d } else c

abbrev pub condition_byte : Flags → Condition → ℕ
condition_byte f condition = if holds f condition then 1 else 0

abbrev pub jump : State → Target → Answer State
jump s to = do
  target ← target_of s to
  Ok (with_rip s target)

-- the target is read before the return address is stored
abbrev pub call : State → Target → Answer State
call s to = do
  target ← target_of s to
  after ← push s s.cpu.rip
  Ok (with_rip after target)

-- what each instruction does to the registers, the flags and the memory (Intel manual, volume 2,
-- each instruction's page), by whole numbers. CF is set where the unsigned result doesn't fit, OF
-- where the signed one doesn't. AND, OR, XOR and TEST clear both; NOT, moves, LEA, SETcc, jumps and
-- divisions leave the flags. IMUL leaves ZF and SF as they are, and DIV and IDIV all flags (own;
-- the manual leaves them open). An instruction that reads and writes one place in memory is refused
-- as a write. CALL reads its target before it stores the return address. INT3 and UD2 can't be run:
-- the step is Illegal, and RIP stays at them (own). The effect is on a state whose RIP is that
-- of the next instruction.
abbrev pub effect : State → Instr → Answer State
effect s (instrs.Move w to from) = do
  v ← operand s w from
  write s w to v
effect s (instrs.Extend e w to narrow from) = extend s e w to narrow from
effect s (instrs.LoadAddress w to m) =
    Ok (record s { cpu = with_register w s.cpu to (address_of s.cpu m) })
effect s (instrs.Arithmetic o w to from) = arithmetic s o w to from
effect s (instrs.Test w first second) = compare s operations.And w first second
effect s (instrs.Multiply w to from) = multiply s w to from
effect s (instrs.MultiplyBy w to from v) = multiply_by s w to from v
effect s (instrs.Unary o w to) = unary s o w to
effect s (instrs.Divide d w by) = divide s d w by
effect s (instrs.ExtendRax w) =
    Ok (record s { cpu = with_register w s.cpu Rdx (sign_of_rax w s.cpu) })
effect s (instrs.Shift d w to by) = shift s d w to by
effect s (instrs.Set c to) = write s W8 to (condition_byte s.cpu.flags c)
effect s (instrs.JumpIf c d) = Ok (record s { cpu = jumped s.cpu c d })
effect s (instrs.Jump to) = jump s to
effect s (instrs.Call to) = call s to
effect s (instrs.Push r) = push s (register s.cpu r)
effect s (instrs.Pop r) = do
  x ← pop s
  Ok (record x.1 { cpu = with_register W64 x.1.cpu r x.0 })
effect s instrs.Return = do
  x ← pop s
  Ok (with_rip x.1 x.0)
effect s instrs.NoOperation = Ok s
effect s instrs.Breakpoint = Err stops.Illegal
effect s instrs.Undefined = Err stops.Illegal

-- ---- one step

abbrev pub execute : State → Option (Instr × ℕ) → Answer State
execute s None = Err stops.Illegal
execute s (Some x) = effect (with_rip s ((s.cpu.rip + x.1) % 2 ^ 64)) x.0

-- in the host's page its services alone can be reached, but the language handler isn't run as code
abbrev pub hosted : ℕ → Option Service → Stop
hosted a None = stops.Illegal
hosted a (Some services.CSpecificHandler) = stops.Illegal
hosted a (Some service) = stops.Host a

-- fetch, `leading`, `effect`. In the host's page no instruction is fetched: the services are there
-- (own). Beside registers and memory a state has the host's list of vectored handlers, by their
-- addresses, which no step reads or changes.
unfoldable pub step : State → Answer State
step s =
    if in_host_page s.cpu.rip then Err (hosted s.cpu.rip (service_at s.cpu.rip))
    else execute s (leading (executable s.memory LONGEST_INSTRUCTION s.cpu.rip))

-- ---- what the code answers

abbrev pub state : Cpu → Memory → State
state c m = record { cpu = c; memory = m; vectored = [] }

-- with a host that has vectored handlers
abbrev pub with_vectored : List ℕ → State → State
with_vectored v s = record s { vectored = v }

abbrev pub cpu_of : Answer State → Answer Cpu
cpu_of (Ok s) = Ok s.cpu
cpu_of (Err e) = Err e

-- whether the instruction was run
abbrev pub done_of : Answer State → Answer (Unit {0})
done_of (Ok s) = Ok tt
done_of (Err e) = Err e

abbrev pub memory_after : Memory → Answer State → Memory
memory_after m (Ok s) = s.memory
memory_after m (Err e) = m

-- the code answers with the registers of the state after it, or with what stopped it
abbrev pub IsCpuOf : Result Cpu Stop → Answer State → Type 0
IsCpuOf result done = result ≡ cpu_of done

-- the code leaves the memory of the state after it, and after a stop the memory before
abbrev pub LeavesMemory : Memory → Memory → Answer State → Type 0
LeavesMemory before after done = after ≡ memory_after before done

abbrev pub popped : Answer (ℕ × State) → Answer (ℕ × Cpu)
popped (Ok x) = Ok (x.0, x.1.cpu)
popped (Err e) = Err e

abbrev pub step_of : Stop → StepOutcome
step_of (stops.Fault c a) = steps.Fault c a
step_of (stops.Host a) = steps.Host a
step_of stops.Illegal = steps.Illegal
step_of (stops.Guard a) = steps.Guard a

abbrev pub step_answer : Answer State → StepOutcome
step_answer (Ok s) = steps.Next
step_answer (Err e) = step_of e

abbrev pub cpu_after : Cpu → Answer State → Cpu
cpu_after c (Ok s) = s.cpu
cpu_after c (Err e) = c
