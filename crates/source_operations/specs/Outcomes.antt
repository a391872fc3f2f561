-- What the code's outcomes of operations represent, with the memory after them.
use Rattle.std.specs.Prelude.{ℕ, Bool, true, false, Option, Some, None}
use Rattle.seh_num.specs.declared.width.Width.{Width}
use Rattle.seh_num.specs.Widths.{bytes_of, low}
use Rattle.seh_num.specs.declared.code.TheConstants.{ACCESS_VIOLATION}
use Rattle.flat_memory.specs.Memory.{Memory, first_refused, may_read, number_at}
use Rattle.flat_memory.specs.declared.access.RefusedAccess.{RefusedAccess}
use Rattle.flat_memory.specs.declared.access.RefusedAccess.TheVariants as refused
use Rattle.c_operations.specs.declared.operation.Operation.{Operation}
use Rattle.c_operations.specs.declared.operation.Operation.TheVariants as operations
use Rattle.c_operations.specs.Performed as performing
use Rattle.c_operations.specs.Performed.{OperationResult, Gives, Raises, Undefined, unless_refused}
use Rattle.source_operations.specs.declared.performing.Performed.{Performed}
use Rattle.source_operations.specs.declared.performing.Performed.TheVariants as performed

abbrev pub outcome_of : Performed → Memory → OperationResult
outcome_of (performed.Gives v) m = Gives v m
outcome_of (performed.Raises code access) m = Raises code access
outcome_of (performed.Undefined a) m = Undefined a

abbrev pub is_given : Performed → Bool
is_given (performed.Gives v) = true
is_given other = false

-- the fault of an access that was refused at an address
abbrev pub violation : Bool → RefusedAccess → OperationResult
violation write (refused.Fault a w) = Raises ACCESS_VIOLATION (Some (write, a))
violation write (refused.Guard a) = Raises ACCESS_VIOLATION (Some (write, a))

-- a load of bytes that aren't reserved
abbrev pub loaded : Width → ℕ → Memory → OperationResult
loaded w at m =
    unless_refused false (first_refused (may_read m) (bytes_of w) at)
    (Gives (low w (number_at m.byte (bytes_of w) at)) m)

-- the number that an operation gives
abbrev pub number_of : OperationResult → Option ℕ
number_of (Gives v m) = Some v
number_of r = None

-- the number that an operation gives which changes no memory
abbrev pub computed : (ℕ → Bool) → Operation → ℕ → ℕ → Memory → Option ℕ
computed reserved (operations.Store w) a b m = None
computed reserved (operations.Allocate n) a b m = None
computed reserved (operations.SetPointer n) a b m = None
computed reserved (operations.Place w offset) a b m = None
computed reserved (operations.Clear w offset) a b m = None
computed reserved o a b m = number_of (performing.performed reserved o a b m)
