-- A prologue as a list of steps, each of them an unwind code with the instructions that it
-- describes (Microsoft x64 ABI, "Prolog").
use Rattle.std.specs.Prelude.{◌≡◌, ℕ, ◌+◌, ◌%◌, ◌^◌, Bool, true, false, ◌==◌, ◌&&◌, ◌||◌, nat_lt, List, [], ◌∷◌, ◌++◌, Option, None}
use Rattle.seh_num.specs.declared.width.Width.TheVariants.{W32, W64}
use Rattle.x64_instr.specs.declared.register.Reg.TheVariants.{Rax, Rsp}
use Rattle.x64_instr.specs.declared.operand.Base.{Base}
use Rattle.x64_instr.specs.declared.operand.Base.TheVariants as bases
use Rattle.x64_instr.specs.declared.operand.Index.{Index}
use Rattle.x64_instr.specs.declared.operand.MemRef.{MemRef}
use Rattle.x64_instr.specs.declared.operand.RegisterOrMemory.TheVariants as places
use Rattle.x64_instr.specs.declared.operand.Operand.TheVariants as operands
use Rattle.x64_instr.specs.declared.instruction.Operation.TheVariants.{Sub}
use Rattle.x64_instr.specs.declared.instruction.Target.TheVariants.{Relative}
use Rattle.x64_instr.specs.declared.instruction.Instr.{Instr}
use Rattle.x64_instr.specs.declared.instruction.Instr.TheVariants as instrs
use Rattle.x64_instr.specs.Registers.{number}
use Rattle.eh_tables.specs.declared.code.UnwindOperation.{UnwindOperation}
use Rattle.eh_tables.specs.declared.code.UnwindOperation.TheVariants.{Push, Allocate, SetFrame, Save}
use Rattle.eh_tables.specs.declared.code.UnwindCode.{UnwindCode}
use Rattle.virtual_unwind.specs.Tail.{FetchedInstr, is_of}

-- how many bytes instructions have
abbrev pub bytes : List FetchedInstr → ℕ
bytes [] = 0
bytes (x ∷ xs) = x.size + bytes xs

-- ---- what an instruction does, as its code says it

-- [rsp + n]
abbrev pub is_stack_base : Base → Option Index → Bool
is_stack_base (bases.Register Rsp) None = true
is_stack_base b i = false

abbrev pub is_stack : ℕ → MemRef → Bool
is_stack n a = is_stack_base a.base a.index && (a.displacement == n)

-- the place n bytes above the base of the frame, by RSP or by the frame register, which is `offset`
-- bytes above it
abbrev pub is_place : ℕ → ℕ → ℕ → MemRef → Bool
is_place f offset n a =
    is_stack n a || (is_of f a.base a.index && ((offset + a.displacement) % 2 ^ 64 == n))

-- a save comes after the instruction that sets the frame register (`is_ordered`), so that this
-- tells its place too
abbrev pub does : ℕ → ℕ → UnwindOperation → Instr → Bool
does f offset (Push r) (instrs.Push q) = number q == r
does f offset (Allocate n) (instrs.Arithmetic Sub W64 (places.Register Rsp) (operands.Immediate v))
    = v == n
does f offset SetFrame (instrs.LoadAddress W64 to a) = (number to == f) && is_stack offset a
does f offset (Save r n) (instrs.Move W64 (places.Memory a) (operands.Register q)) =
    (number q == r) && is_place f offset n a
does f offset op x = false

-- a large allocation: its size to EAX or RAX, a call that probes the pages, and RAX subtracted from
-- RSP
abbrev pub sets_size : ℕ → Instr → Bool
sets_size n (instrs.Move W32 (places.Register Rax) (operands.Immediate v)) =
    (v == n) && nat_lt n (2 ^ 32)
sets_size n (instrs.Move W64 (places.Register Rax) (operands.Immediate v)) =
    (v == n) && nat_lt n (2 ^ 32)
sets_size n x = false

abbrev pub is_call : Instr → Bool
is_call (instrs.Call (Relative d)) = true
is_call x = false

abbrev pub subtracts : Instr → Bool
subtracts (instrs.Arithmetic Sub W64 (places.Register Rsp) (operands.Register Rax)) = true
subtracts x = false

abbrev pub allocates : UnwindOperation → Instr → Instr → Instr → Bool
allocates (Allocate n) x y z = sets_size n x && (is_call y && subtracts z)
allocates op x y z = false

abbrev pub is_step : ℕ → ℕ → UnwindOperation → List FetchedInstr → Bool
is_step f offset op [] = false
is_step f offset op (x ∷ []) = does f offset op x.instr
is_step f offset op (x ∷ y ∷ []) = false
is_step f offset op (x ∷ y ∷ z ∷ []) = allocates op x.instr y.instr z.instr
is_step f offset op (x ∷ y ∷ z ∷ w ∷ xs) = false

-- ---- a prologue

pub record PrologueStep : Type 0 where
  pub code : UnwindCode
  pub items : List FetchedInstr

abbrev pub items : List PrologueStep → List FetchedInstr
items [] = []
items (s ∷ ss) = s.items ++ items ss

-- the codes are in the order from the last step to the first
abbrev pub codes_onto : List UnwindCode → List PrologueStep → List UnwindCode
codes_onto done [] = done
codes_onto done (s ∷ ss) = codes_onto (s.code ∷ done) ss

-- no instruction is empty
abbrev pub are_sized : List FetchedInstr → Bool
are_sized [] = true
are_sized (x ∷ xs) = nat_lt 0 x.size && are_sized xs

-- the instructions do what the code says, none of them is empty, and the code has the offset of
-- their end
pub record IsPrologueStep (f offset at : ℕ) (s : PrologueStep) : Type 0 where
  pub does : is_step f offset s.code.operation s.items ≡ true
  pub sized : are_sized s.items ≡ true
  pub ends : s.code.offset ≡ at + bytes s.items

-- steps, each at the end of the one before it
abbrev pub ArePrologueSteps : ℕ → ℕ → ℕ → List PrologueStep → Type 0
ArePrologueSteps f offset at [] = Unit {0}
ArePrologueSteps f offset at (s ∷ ss) =
    IsPrologueStep f offset at s × ArePrologueSteps f offset (at + bytes s.items) ss

-- a prologue without calls
abbrev pub is_single : List FetchedInstr → Bool
is_single (x ∷ []) = true
is_single xs = false

abbrev pub are_single : List PrologueStep → Bool
are_single [] = true
are_single (s ∷ ss) = is_single s.items && are_single ss
