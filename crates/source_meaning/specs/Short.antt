-- Short forms of the parts of programs that are written by hand.
use Rattle.std.specs.Prelude.{ℕ, List, [], ◌∷◌, ◌++◌, length, Some, None}
use Rattle.seh_num.specs.declared.width.Width.TheVariants.{W32, W64}
use Rattle.c_operations.specs.declared.operation.Operation.TheVariants.{Pure, Divide}
use Rattle.c_operations.specs.declared.operation.Pure.TheVariants as pures
use Rattle.c_operations.specs.declared.operation.Relation.{Relation}
use Rattle.c_operations.specs.declared.operation.Relation.TheVariants.{Equal}
use Rattle.c_operations.specs.declared.operation.Size.{Size}
use Rattle.c_operations.specs.declared.operation.Size.TheVariants.{Int, Long}
use Rattle.c_operations.specs.declared.operation.Signedness.TheVariants.{Signed, Unsigned}
use Rattle.c_checked.specs.declared.expression.Access.{Access}
use Rattle.c_checked.specs.declared.expression.Conversion.TheVariants.{Kept, Extend}
use Rattle.c_operations.specs.declared.built_in.BuiltIn.TheVariants.{Put, Protect, RaiseException, Walk}
use Rattle.c_operations.specs.declared.built_in.BuiltIn.TheVariants.{AddVectored, RemoveVectored}
use Rattle.c_checked.specs.Expression.{Expression, On, Node, Constant, Read, Unary, Binary}
use Rattle.c_checked.specs.Expression.{CallBuiltIn, ExceptionCode, AbnormalTermination, Lvalue}
use Rattle.c_checked.specs.Expression.{Local, Global, Done, Next, arguments}
use Rattle.c_checked.specs.Statement.{Filter, Statement, Evaluate, Return, TryExcept, TryFinally}
use Rattle.c_checked.specs.Statement.{statements}
use Rattle.c_checked.specs.Program.{Program, Function}

-- a value as it is, and an `int` as `long long` or as an address
abbrev pub kept : Node → Expression
kept n = On n Kept

abbrev pub long : Node → Expression
long n = On n (Extend Signed W32 Long)

abbrev pub unsigned_long : Node → Expression
unsigned_long n = On n (Extend Unsigned W32 Long)

abbrev pub lit : ℕ → Expression
lit n = kept (Constant Int n)

abbrev pub minus : ℕ → Node
minus n = Unary (pures.Negate Int) (lit n)

abbrev pub plus : Expression → Expression → Node
plus a b = Binary (Pure (pures.Add Int)) a b

abbrev pub subtract : Expression → Expression → Node
subtract a b = Binary (Pure (pures.Subtract Int)) a b

abbrev pub multiply : Expression → Expression → Node
multiply a b = Binary (Pure (pures.Multiply Int)) a b

abbrev pub divide : Expression → Expression → Node
divide a b = Binary (Divide Signed Int) a b

abbrev pub compare : Relation → Expression → Expression → Node
compare r a b = Binary (Pure (pures.Compare r Signed Int)) a b

abbrev pub equal : Expression → Expression → Node
equal a b = compare Equal a b

-- ---- places

-- an array's name
abbrev pub address : ℕ → Expression
address a = kept (Constant Long a)

abbrev pub int : Access
int = record { width = W32; signedness = Signed }

abbrev pub pointer : Access
pointer = record { width = W64; signedness = Unsigned }

-- a number as an address, by a cast
abbrev pub cast : ℕ → Expression
cast a = kept (Unary pures.First (long (Constant Int a)))

abbrev pub local : ℕ → Expression
local x = kept (Read (Local x))

abbrev pub global : ℕ → Lvalue
global n = Global int n

-- ---- statements

abbrev pub evaluate : Node → Statement
evaluate n = Evaluate (Some (kept n))

abbrev pub put : Expression → Statement
put e = evaluate (CallBuiltIn Put (Next e Done))

abbrev pub raise : ℕ → ℕ → Statement
raise code flags =
    evaluate (CallBuiltIn RaiseException (arguments (lit code ∷ lit flags ∷ lit 0 ∷ lit 0 ∷ [])))

abbrev pub protect : ℕ → ℕ → Statement
protect a mode = evaluate (CallBuiltIn Protect (arguments (cast a ∷ lit mode ∷ [])))

-- the function of this number becomes a vectored handler, the first one where `first` isn't 0, and
-- is one no more
abbrev pub add_vectored : (handler first : ℕ) → Node
add_vectored handler first = CallBuiltIn (AddVectored handler) (Next (lit first) Done)

abbrev pub remove_vectored : (handler : ℕ) → Node
remove_vectored handler = CallBuiltIn (RemoveVectored handler) Done

abbrev pub walk : Statement
walk = evaluate (CallBuiltIn Walk Done)

abbrev pub answer : Expression → Statement
answer e = Return (Some e)

abbrev pub except : List Statement → Filter → List Statement → Statement
except body filter block = TryExcept (statements body) filter (statements block)

abbrev pub finally : List Statement → ℕ → List Statement → Statement
finally body k last = TryFinally (statements body) k (statements last)

abbrev pub code : Expression
code = kept ExceptionCode

-- whether GetExceptionCode answers a code
abbrev pub code_is : ℕ → Node
code_is c = equal code (lit c)

abbrev pub abnormal : Node
abnormal = AbnormalTermination

-- ---- functions

abbrev pub function : List Size → List Size → List Statement → Function
function parameters locals body =
    record {
      name = [];
      parameters = parameters;
      locals = locals;
      data_frame = None;
      returns = Some Int;
      body = statements body;
    }

-- a program of `main` alone, without locals, and one with globals, and with further functions
-- before it
abbrev pub main_alone : List Statement → Program
main_alone body = record { functions = function [] [] body ∷ []; main = 0; globals = [] }

abbrev pub with_main : List ℕ → List Function → List Statement → Program
with_main globals others body =
    record {
      functions = others ++ function [] [] body ∷ [];
      main = length others;
      globals = globals;
    }
