-- What an operation on two numbers comes to, in the memory of a program.
--
-- The main definition: `performed`.
use Rattle.std.specs.Prelude.{ℕ, ◌+◌, ◌-◌, ◌^◌, Bool, true, false, not, ◌&&◌, ℤ, Option, Some, None, Result, Ok, Err}
use Rattle.seh_num.specs.declared.width.Width.{Width}
use Rattle.seh_num.specs.declared.width.Width.TheVariants.{W64}
use Rattle.seh_num.specs.declared.event.Code.{Code}
use Rattle.seh_num.specs.declared.division.DivFault.{DivFault}
use Rattle.seh_num.specs.declared.division.DivFault.TheVariants as faults
use Rattle.seh_num.specs.Widths.{bytes_of, low, signed, wrapped}
use Rattle.seh_num.specs.Division.{divided_signed, divided_unsigned}
use Rattle.seh_num.specs.declared.code.TheConstants.{ACCESS_VIOLATION, INTEGER_DIVIDE_BY_ZERO}
use Rattle.seh_num.specs.declared.code.TheConstants.{INTEGER_OVERFLOW}
use Rattle.flat_memory.specs.Memory.{Memory, first_refused, may_read, may_write, number_at}
use Rattle.flat_memory.specs.Memory.{with_number, with_bytes, pointer_of, with_pointer}
use Rattle.c_operations.specs.declared.operation.Signedness.{Signedness}
use Rattle.c_operations.specs.declared.operation.Signedness.TheVariants.{Unsigned, Signed}
use Rattle.c_operations.specs.declared.operation.Operation.{Operation}
use Rattle.c_operations.specs.declared.operation.Operation.TheVariants as operations
use Rattle.c_operations.specs.Numbers.{width, result_of}

-- what an operation comes to: a number, and the memory after it; a fault with its access (whether
-- it is a write, and the address), where memory is unchanged; or an access to a reserved byte, of
-- which the language says nothing
pub data OperationResult : Type 0 where
  Gives : ℕ → Memory → OperationResult
  Raises : Code → Option (Bool × ℕ) → OperationResult
  Undefined : ℕ → OperationResult

-- ---- division and its faults

abbrev pub fault_of : DivFault → OperationResult
fault_of faults.Zero = Raises INTEGER_DIVIDE_BY_ZERO None
fault_of faults.Overflow = Raises INTEGER_OVERFLOW None

abbrev pub signed_part : (ℤ × ℤ → ℤ) → Width → Memory → Result (ℤ × ℤ) DivFault → OperationResult
signed_part part w m (Ok x) = Gives (wrapped w (part x)) m
signed_part part w m (Err e) = fault_of e

abbrev pub unsigned_part : (ℕ × ℕ → ℕ) → Memory → Result (ℕ × ℕ) DivFault → OperationResult
unsigned_part part m (Ok x) = Gives (part x) m
unsigned_part part m (Err e) = fault_of e

abbrev pub quotient : Signedness → Width → ℕ → ℕ → Memory → OperationResult
quotient Signed w a b m = signed_part (λ x. x.0) w m (divided_signed w (signed w a) (signed w b))
quotient Unsigned w a b m = unsigned_part (λ x. x.0) m (divided_unsigned w (low w a) (low w b))

abbrev pub remainder : Signedness → Width → ℕ → ℕ → Memory → OperationResult
remainder Signed w a b m = signed_part (λ x. x.1) w m (divided_signed w (signed w a) (signed w b))
remainder Unsigned w a b m = unsigned_part (λ x. x.1) m (divided_unsigned w (low w a) (low w b))

-- ---- accesses: an access is undefined at its first reserved byte, else an access violation at its
-- first byte that may not be accessed

abbrev pub unless_reserved : Option ℕ → OperationResult → OperationResult
unless_reserved None outcome = outcome
unless_reserved (Some a) outcome = Undefined a

abbrev pub unless_refused : Bool → Option ℕ → OperationResult → OperationResult
unless_refused write None outcome = outcome
unless_refused write (Some a) outcome = Raises ACCESS_VIOLATION (Some (write, a))

abbrev pub accessed : (ℕ → Bool) → Bool → (ℕ → Bool) → ℕ → ℕ → OperationResult → OperationResult
accessed reserved write may n at outcome =
    unless_reserved (first_refused (λ a. not (reserved a)) n at)
    (unless_refused write (first_refused may n at) outcome)

abbrev pub load : (ℕ → Bool) → Width → ℕ → Memory → OperationResult
load reserved w at m =
    accessed reserved false (may_read m) (bytes_of w) at
    (Gives (low w (number_at m.byte (bytes_of w) at)) m)

abbrev pub store : (ℕ → Bool) → Width → ℕ → ℕ → Memory → OperationResult
store reserved w at v m =
    accessed reserved true (may_write m) (bytes_of w) at
    (Gives v (with_bytes m (with_number m.byte (bytes_of w) at (low w v))))

-- ---- variables on the data stack: an access by a variable's name has the variable's bytes alone,
-- and nothing is said where one of them is reserved or may not be written

abbrev pub placed : (ℕ → Bool) → Width → (at v result : ℕ) → Memory → OperationResult
placed reserved w at v result m =
    unless_reserved
    (first_refused (λ a. not (reserved a) && may_write m a) (bytes_of w) at)
    (Gives result (with_bytes m (with_number m.byte (bytes_of w) at (low w v))))

-- how many bytes of an array are before the last element of so many
abbrev pub before_last : Width → ℕ → ℕ
before_last w n = low W64 (n + (2 ^ 64 - bytes_of w))

-- ---- operations on two operands of 64 bits

-- what an operation on two operands in a memory comes to. It is a number and the memory after it; a
-- fault, which changes nothing; or Undefined, with the first reserved byte of the access. The
-- faults are division by zero C0000094, a quotient that doesn't fit C0000095 (own), and a refused
-- access C0000005 with its first refused byte.
abbrev pub performed : (ℕ → Bool) → Operation → ℕ → ℕ → Memory → OperationResult
performed reserved (operations.Pure p) a b m = Gives (result_of p a b) m
performed reserved (operations.Divide s z) a b m = quotient s (width z) a b m
performed reserved (operations.Remainder s z) a b m = remainder s (width z) a b m
performed reserved (operations.Load w) a b m = load reserved w a m
performed reserved (operations.Store w) a b m = store reserved w a b m
performed reserved (operations.Allocate n) a b m =
    Gives (pointer_of m) (with_pointer m (low W64 (pointer_of m + n)))
performed reserved (operations.SetPointer n) a b m = Gives a (with_pointer m (low W64 (a + n)))
performed reserved (operations.Place w offset) a b m =
    placed reserved w (low W64 (a + offset)) b b m
performed reserved (operations.Clear w offset) a b m =
    placed reserved w (low W64 (a + offset + before_last w b)) 0 (before_last w b) m
