-- The instructions of each operation: the first operand is in RAX, the second in RCX, where the
-- operation reads them, and RAX takes the result.
use Rattle.std.specs.Prelude.{ℕ, List, [], ◌∷◌, Some, None}
use Rattle.seh_num.specs.declared.width.Width.{Width}
use Rattle.seh_num.specs.declared.width.Width.TheVariants.{W8, W16, W32, W64}
use Rattle.seh_num.specs.Widths.{bytes_of, low}
use Rattle.host_layout.specs.declared.range.TheConstants.{DATA_STACK_START}
use Rattle.x64_instr.specs.declared.register.Reg.{Reg}
use Rattle.x64_instr.specs.declared.register.Reg.TheVariants.{Rax, Rcx, Rdx}
use Rattle.x64_instr.specs.declared.operand.MemRef.{MemRef}
use Rattle.x64_instr.specs.declared.operand.Scale.TheVariants.{One}
use Rattle.x64_instr.specs.declared.operand.Base.TheVariants as bases
use Rattle.x64_instr.specs.declared.operand.RegisterOrMemory.TheVariants as places
use Rattle.x64_instr.specs.declared.operand.Operand.TheVariants as operands
use Rattle.x64_instr.specs.declared.instruction.Operation.TheVariants as arithmetic
use Rattle.x64_instr.specs.declared.instruction.Unary.TheVariants as unary
use Rattle.x64_instr.specs.declared.instruction.Extension.TheVariants as extensions
use Rattle.x64_instr.specs.declared.instruction.Division.{Division}
use Rattle.x64_instr.specs.declared.instruction.Division.TheVariants as divisions
use Rattle.x64_instr.specs.declared.instruction.Direction.{Direction}
use Rattle.x64_instr.specs.declared.instruction.Direction.TheVariants as directions
use Rattle.x64_instr.specs.declared.instruction.Count.TheVariants as counts
use Rattle.x64_instr.specs.declared.instruction.Condition.{Condition}
use Rattle.x64_instr.specs.declared.instruction.Condition.TheVariants as conditions
use Rattle.x64_instr.specs.declared.instruction.Instr.{Instr}
use Rattle.x64_instr.specs.declared.instruction.Instr.TheVariants as instrs
use Rattle.c_operations.specs.declared.operation.Size.{Size}
use Rattle.c_operations.specs.declared.operation.Size.TheVariants.{Long}
use Rattle.c_operations.specs.declared.operation.Signedness.{Signedness}
use Rattle.c_operations.specs.declared.operation.Signedness.TheVariants.{Unsigned, Signed}
use Rattle.c_operations.specs.declared.operation.Relation.{Relation}
use Rattle.c_operations.specs.declared.operation.Relation.TheVariants as relations
use Rattle.c_operations.specs.declared.operation.Pure.{Pure}
use Rattle.c_operations.specs.declared.operation.Pure.TheVariants as pures
use Rattle.c_operations.specs.declared.operation.Operation.{Operation}
use Rattle.c_operations.specs.declared.operation.Operation.TheVariants as operations
use Rattle.c_operations.specs.Numbers.{width}

-- the place that a register and a displacement give
abbrev pub above : Reg → ℕ → MemRef
above r d = record { base = bases.Register r; index = None; displacement = d }

-- the place that two registers give together
abbrev pub at_sum : Reg → Reg → MemRef
at_sum r i =
    record {
      base = bases.Register r;
      index = Some (record { register = i; scale = One });
      displacement = 0;
    }

-- where the data stack's pointer stands
abbrev pub data_pointer : MemRef
data_pointer = record { base = bases.Nothing; index = None; displacement = DATA_STACK_START }

abbrev pub move : Width → Reg → Reg → Instr
move w to from = instrs.Move w (places.Register to) (operands.Register from)

-- the low 64 bits of a number to a register
abbrev pub set : Reg → ℕ → Instr
set to v = instrs.Move W64 (places.Register to) (operands.Immediate (low W64 v))

-- a number of 32 bits in RAX, the upper half 0, by MOVZX where it has fewer
abbrev pub zero_extended : Width → Size → List Instr
zero_extended W8 z = instrs.Extend extensions.Zero W32 Rax W8 (places.Register Rax) ∷ []
zero_extended W16 z = instrs.Extend extensions.Zero W32 Rax W16 (places.Register Rax) ∷ []
zero_extended W32 z = move W32 Rax Rax ∷ []
zero_extended W64 z = move (width z) Rax Rax ∷ []

abbrev pub sign_extended : Width → Size → List Instr
sign_extended W8 z = instrs.Extend extensions.Sign (width z) Rax W8 (places.Register Rax) ∷ []
sign_extended W16 z = instrs.Extend extensions.Sign (width z) Rax W16 (places.Register Rax) ∷ []
sign_extended W32 Long = instrs.Extend extensions.Sign W64 Rax W32 (places.Register Rax) ∷ []
sign_extended w z = move (width z) Rax Rax ∷ []

abbrev pub extended : Signedness → Width → Size → List Instr
extended Unsigned w z = zero_extended w z
extended Signed w z = sign_extended w z

abbrev pub right : Signedness → Direction
right Unsigned = directions.Right
right Signed = directions.ArithmeticRight

-- ---- comparisons

-- of less and greater-or-equal alone, with the operands the other way round for the others

abbrev pub less : Signedness → Condition
less Unsigned = conditions.Below
less Signed = conditions.Less

abbrev pub not_less : Signedness → Condition
not_less Unsigned = conditions.AboveOrEqual
not_less Signed = conditions.GreaterOrEqual

abbrev pub compared : Width → Reg → Reg → Condition → List Instr
compared w a b condition =
    instrs.Arithmetic arithmetic.Compare w (places.Register a) (operands.Register b)
    ∷ instrs.Set condition (places.Register Rax)
    ∷ instrs.Extend extensions.Zero W32 Rax W8 (places.Register Rax)
    ∷ []

abbrev pub compare : Relation → Signedness → Width → List Instr
compare relations.Equal s w = compared w Rax Rcx conditions.Equal
compare relations.NotEqual s w = compared w Rax Rcx conditions.NotEqual
compare relations.Less s w = compared w Rax Rcx (less s)
compare relations.LessOrEqual s w = compared w Rcx Rax (not_less s)
compare relations.Greater s w = compared w Rcx Rax (less s)
compare relations.GreaterOrEqual s w = compared w Rax Rcx (not_less s)

-- ---- operations without faults

abbrev pub pure_code : Pure → List Instr
pure_code (pures.Constant v) = set Rax v ∷ []
pure_code pures.First = []
pure_code (pures.Extend s from z) = extended s from z
pure_code (pures.Not z) = instrs.Unary unary.Not (width z) (places.Register Rax) ∷ []
pure_code (pures.Negate z) = instrs.Unary unary.Negate (width z) (places.Register Rax) ∷ []
pure_code (pures.Add z) =
    instrs.Arithmetic arithmetic.Add (width z) (places.Register Rax) (operands.Register Rcx) ∷ []
pure_code (pures.Subtract z) =
    instrs.Arithmetic arithmetic.Sub (width z) (places.Register Rax) (operands.Register Rcx) ∷ []
pure_code (pures.Multiply z) = instrs.Multiply (width z) Rax (places.Register Rcx) ∷ []
pure_code (pures.MultiplyBy n) =
    set Rcx n ∷ instrs.Multiply W64 Rax (places.Register Rcx) ∷ []
pure_code (pures.And z) =
    instrs.Arithmetic arithmetic.And (width z) (places.Register Rax) (operands.Register Rcx) ∷ []
pure_code (pures.Or z) =
    instrs.Arithmetic arithmetic.Or (width z) (places.Register Rax) (operands.Register Rcx) ∷ []
pure_code (pures.Xor z) =
    instrs.Arithmetic arithmetic.Xor (width z) (places.Register Rax) (operands.Register Rcx) ∷ []
pure_code (pures.ShiftLeft z) =
    instrs.Shift directions.Left (width z) (places.Register Rax) counts.Cl ∷ []
pure_code (pures.ShiftRight s z) =
    instrs.Shift (right s) (width z) (places.Register Rax) counts.Cl ∷ []
pure_code (pures.Compare r s z) = compare r s (width z)

-- ---- operations that can fault, and those of variables on the data stack

-- what comes before the instruction that can fault, that instruction, and what comes after it

abbrev pub high_half : Signedness → Width → Instr
high_half Unsigned w = instrs.Move W32 (places.Register Rdx) (operands.Immediate 0)
high_half Signed w = instrs.ExtendRax w

abbrev pub division : Signedness → Division
division Unsigned = divisions.Unsigned
division Signed = divisions.Signed

abbrev pub load : Width → Instr
load W8 = instrs.Extend extensions.Zero W32 Rax W8 (places.Memory (above Rax 0))
load W16 = instrs.Extend extensions.Zero W32 Rax W16 (places.Memory (above Rax 0))
load W32 = instrs.Move W32 (places.Register Rax) (operands.Memory (above Rax 0))
load W64 = instrs.Move W64 (places.Register Rax) (operands.Memory (above Rax 0))

abbrev pub before : Operation → List Instr
before (operations.Divide s z) = high_half s (width z) ∷ []
before (operations.Remainder s z) = high_half s (width z) ∷ []
before o = []

abbrev pub work : Operation → List Instr
work (operations.Pure p) = pure_code p
work (operations.Divide s z) = instrs.Divide (division s) (width z) (places.Register Rcx) ∷ []
work (operations.Remainder s z) =
    instrs.Divide (division s) (width z) (places.Register Rcx) ∷ move W64 Rax Rdx ∷ []
work (operations.Load w) = load w ∷ []
work (operations.Store w) =
    instrs.Move w (places.Memory (above Rax 0)) (operands.Register Rcx) ∷ move W64 Rax Rcx ∷ []
-- the pointer to RAX, and the number added to it in memory
work (operations.Allocate n) =
    instrs.Move W64 (places.Register Rax) (operands.Memory data_pointer)
    ∷ set Rcx n
    ∷ instrs.Arithmetic arithmetic.Add W64 (places.Memory data_pointer) (operands.Register Rcx)
    ∷ []
work (operations.SetPointer n) =
    set Rcx n
    ∷ instrs.Arithmetic arithmetic.Add W64 (places.Register Rcx) (operands.Register Rax)
    ∷ instrs.Move W64 (places.Memory data_pointer) (operands.Register Rcx)
    ∷ []
work (operations.Place w offset) =
    set Rdx offset
    ∷ instrs.Move w (places.Memory (at_sum Rax Rdx)) (operands.Register Rcx)
    ∷ move W64 Rax Rcx
    ∷ []
-- RCX becomes what is before the element, which stands so far above the array's first byte
work (operations.Clear w offset) =
    set Rdx offset
    ∷ instrs.Arithmetic arithmetic.Add W64 (places.Register Rax) (operands.Register Rdx)
    ∷ instrs.Arithmetic arithmetic.Sub W64 (places.Register Rcx) (operands.Immediate (bytes_of w))
    ∷ instrs.Move w (places.Memory (at_sum Rax Rcx)) (operands.Immediate 0)
    ∷ move W64 Rax Rcx
    ∷ []
