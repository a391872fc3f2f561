-- What the lowering relies on: numbers of locals, functions and fields that mean something, and
-- numbers of 64 bits.
use Rattle.std.specs.Prelude.{◌≡◌, ◌<◌, ℕ, ◌^◌, Bool, true, false, length, slice_get, Some}
use Rattle.c_operations.specs.declared.operation.Operation.TheVariants.{Pure}
use Rattle.c_operations.specs.declared.built_in.BuiltIn.{BuiltIn}
use Rattle.c_operations.specs.declared.built_in.BuiltIn.TheVariants.{AddVectored, RemoveVectored}
use Rattle.c_checked.specs.Expression as nodes
use Rattle.c_checked.specs.Expression.{Expression, On, Node, Lvalue, Local, Global, Stacked, Indirection, Element, Arguments, Done, Next}
use Rattle.c_checked.specs.Program.{Program, Function}
use Rattle.c_checked.specs.Sound.{is_in_memory, can_handle}
use Rattle.linear_machine.specs.Instructions.{is_constant, count_of}
use Rattle.lowering_expressions.specs.Expressions.{argument_count}

-- a function that takes so many arguments
pub record IsCalled (program : Program) (f count : ℕ) : Type 0 where
  pub function : Function
  pub there : slice_get program.functions f ≡ Some function
  pub takes : count ≡ length function.parameters

-- a function that can be a vectored handler: it takes a code and flags, and gives an answer
pub record IsVectoredHandler (program : Program) (f : ℕ) : Type 0 where
  pub called : IsCalled program f 2
  pub handles : can_handle (Some called.function) ≡ true

-- a function that a call puts among the vectored handlers, or takes out, can be one
abbrev pub BuiltInFits : Program → BuiltIn → Type 0
BuiltInFits program (AddVectored f) = IsVectoredHandler program f
BuiltInFits program (RemoveVectored f) = IsVectoredHandler program f
BuiltInFits program k = Unit {0}

-- the size of what pointers that are subtracted point to
pub record IsElementSize (n : ℕ) : Type 0 where
  pub positive : 0 < n
  pub small : n < 2 ^ 63

-- the base of a place on the data stack is a local, and the place is so many bytes above it
pub record IsStackedPlace (own base offset : ℕ) : Type 0 where
  pub is_local : base < own
  pub small : offset < 2 ^ 64

-- in a function with so many locals; the flag says that an exception's fields may be read
abbrev mutual
  pub ExpressionFits : Program → ℕ → Bool → Expression → Type 0
  ExpressionFits program own info (On n c) = NodeFits program own info n

  pub LvalueFits : Program → ℕ → Bool → Lvalue → Type 0
  LvalueFits program own info (Local x) = x < own
  LvalueFits program own info (Global access a) = a < 2 ^ 64
  LvalueFits program own info (Stacked access base offset) = IsStackedPlace own base offset
  LvalueFits program own info (Indirection access e) = ExpressionFits program own info e
  LvalueFits program own info (Element access e i) =
      ExpressionFits program own info e × ExpressionFits program own info i

  pub ArgumentsFit : Program → ℕ → Bool → Arguments → Type 0
  ArgumentsFit program own info Done = Unit {0}
  ArgumentsFit program own info (Next e es) =
      ExpressionFits program own info e × ArgumentsFit program own info es

  pub NodeFits : Program → ℕ → Bool → Node → Type 0
  NodeFits program own info (nodes.Constant z n) = n < 2 ^ 64
  NodeFits program own info (nodes.StackedArray base offset) = IsStackedPlace own base offset
  NodeFits program own info (nodes.Read p) = LvalueFits program own info p
  NodeFits program own info (nodes.AddressOf p) =
      LvalueFits program own info p × (is_in_memory p ≡ true)
  NodeFits program own info (nodes.Assign p e) =
      LvalueFits program own info p × ExpressionFits program own info e
  NodeFits program own info (nodes.CompoundAssign p before o e after) =
      LvalueFits program own info p × ExpressionFits program own info e × (is_constant o ≡ false)
  NodeFits program own info (nodes.Increment m p before o n after) =
      LvalueFits program own info p × (n < 2 ^ 64) × (is_constant o ≡ false)
  NodeFits program own info (nodes.Unary o e) =
      ExpressionFits program own info e × (is_constant (Pure o) ≡ false)
  NodeFits program own info (nodes.Binary o e f) =
      ExpressionFits program own info e × ExpressionFits program own info f
      × (is_constant o ≡ false)
  NodeFits program own info (nodes.PointerDifference n e f) =
      ExpressionFits program own info e × ExpressionFits program own info f × IsElementSize n
  NodeFits program own info (nodes.Not e) = ExpressionFits program own info e
  NodeFits program own info (nodes.And e f) =
      ExpressionFits program own info e × ExpressionFits program own info f
  NodeFits program own info (nodes.Or e f) =
      ExpressionFits program own info e × ExpressionFits program own info f
  NodeFits program own info (nodes.Conditional c e f) =
      ExpressionFits program own info c × ExpressionFits program own info e
      × ExpressionFits program own info f
  NodeFits program own info (nodes.Comma e f) =
      ExpressionFits program own info e × ExpressionFits program own info f
  NodeFits program own info (nodes.Call f es) =
      ArgumentsFit program own info es × IsCalled program f (argument_count es)
  NodeFits program own info (nodes.CallBuiltIn k es) =
      ArgumentsFit program own info es × (argument_count es ≡ count_of k) × BuiltInFits program k
  NodeFits program own info nodes.ExceptionCode = Unit {0}
  NodeFits program own info (nodes.Information f) = info ≡ true
  NodeFits program own info nodes.AbnormalTermination = Unit {0}
