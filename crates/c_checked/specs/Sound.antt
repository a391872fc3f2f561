-- What holds of an accepted program beside its shape: numbers name what is there, each operand has
-- the size that its operator takes, jumps and the names of exceptions are where they mean
-- something, filters and `__finally` blocks are numbered in their order.
--
-- The main definition: `is_sound`.
use Rattle.std.specs.Prelude.{◌≡◌, ℕ, ◌+◌, ◌-◌, ◌^◌, Bool, true, false, ◌&&◌, ◌||◌, nat_lt, nat_le}
use Rattle.std.specs.Prelude.{nat_eq, if◌then◌else◌, List, [], ◌∷◌, ◌++◌, length, slice_get, Option}
use Rattle.std.specs.Prelude.{Some, None}
use Rattle.seh_num.specs.declared.width.Width.{Width}
use Rattle.seh_num.specs.declared.width.Width.TheVariants.{W8, W16, W32, W64}
use Rattle.seh_num.specs.declared.limit.TheConstants.{MOST_LOCALS, MOST_PARAMETERS, MOST_FUNCTIONS}
use Rattle.seh_num.specs.declared.limit.TheConstants.{MOST_GLOBALS, MOST_FUNCLETS}
use Rattle.c_operations.specs.declared.field.Field.{Field}
use Rattle.c_operations.specs.declared.field.Field.TheVariants as fields
use Rattle.c_operations.specs.declared.operation.Operation.{Operation}
use Rattle.c_operations.specs.declared.operation.Operation.TheVariants as operations
use Rattle.c_operations.specs.declared.operation.Pure.{Pure}
use Rattle.c_operations.specs.declared.operation.Pure.TheVariants as pures
use Rattle.c_operations.specs.declared.operation.Size.{Size}
use Rattle.c_operations.specs.declared.operation.Size.TheVariants.{Int, Long}
use Rattle.c_checked.specs.declared.expression.Conversion.{Conversion}
use Rattle.c_checked.specs.declared.expression.Conversion.TheVariants.{Kept, Extend, Scale}
use Rattle.c_operations.specs.declared.built_in.BuiltIn.{BuiltIn}
use Rattle.c_operations.specs.declared.built_in.BuiltIn.TheVariants.{Put, Protect, RaiseException, Walk, AddVectored, RemoveVectored}
use Rattle.c_checked.specs.Expression as nodes
use Rattle.c_checked.specs.Expression.{Expression, On, Node, Lvalue, Local, Global, Stacked}
use Rattle.c_checked.specs.Expression.{Indirection}
use Rattle.c_checked.specs.Expression.{Element, Arguments, Done, Next}
use Rattle.c_checked.specs.Statement.{Declared, Filter, Always, Funclet, Statement, Declare, Block}
use Rattle.c_checked.specs.Statement.{Evaluate, If, IfElse, For, DoWhile, Return, Break, Continue}
use Rattle.c_checked.specs.Statement.{Leave, TryExcept, TryFinally, Statements, Empty, Then}
use Rattle.c_checked.specs.Program.{DataFrame, Program, Function, declared_locals}
use Rattle.c_checked.specs.declared.function.StackedParameter.{StackedParameter}
use Rattle.c_checked.specs.declared.statement.StackedVariable.{StackedVariable}

-- what is around a part of a program: the functions; the sizes of the function's parameters and
-- locals; whether GetExceptionCode, GetExceptionInformation and AbnormalTermination mean something
pub record TypingContext : Type 0 where
  pub functions : List Function
  pub sizes : List Size
  pub code : Bool
  pub information : Bool
  pub abnormal : Bool

-- ---- sizes; an expression of no size has no value

abbrev pub same_size : Size → Size → Bool
same_size Int Int = true
same_size Long Long = true
same_size a b = false

abbrev pub is_size : Size → Option Size → Bool
is_size z None = false
is_size z (Some y) = same_size z y

abbrev pub is_number : Option Size → Bool
is_number None = false
is_number (Some z) = true

abbrev pub same_sizes : Option Size → Option Size → Bool
same_sizes None None = true
same_sizes (Some a) (Some b) = same_size a b
same_sizes a b = false

abbrev pub are_sizes : List Size → List (Option Size) → Bool
are_sizes [] [] = true
are_sizes (z ∷ zs) (y ∷ ys) = is_size z y && are_sizes zs ys
are_sizes zs ys = false

abbrev pub size_in_memory : Width → Size
size_in_memory W8 = Int
size_in_memory W16 = Int
size_in_memory W32 = Int
size_in_memory W64 = Long

-- a number of this size has so many bits
abbrev pub has_bits : Width → Option Size → Bool
has_bits from None = false
has_bits W64 (Some Int) = false
has_bits from (Some z) = true

abbrev pub size_after : Conversion → Option Size → Option Size
size_after Kept z = z
size_after (Extend s from size) z = Some size
size_after (Scale s from by) z = Some Long

abbrev pub can_convert : Conversion → Option Size → Bool
can_convert Kept z = true
can_convert (Extend s from size) z = has_bits from z
can_convert (Scale s from by) z = has_bits from z

-- the size of the operand and the result of an operator with one operand; casts and unary + take
-- both sizes
abbrev pub unary_takes : Pure → Option Size → Option Size
unary_takes pures.First z = z
unary_takes (pures.Not z) y = if is_size z y then Some z else None
unary_takes (pures.Negate z) y = if is_size z y then Some z else None
unary_takes other y = None

abbrev pub when : Bool → Size → Option Size
when true z = Some z
when false z = None

-- the size of the result of an operator with two operands, where it takes operands of these sizes
abbrev pub pure_takes : Pure → Option Size → Option Size → Option Size
pure_takes (pures.Add z) a b = when (is_size z a && is_size z b) z
pure_takes (pures.Subtract z) a b = when (is_size z a && is_size z b) z
pure_takes (pures.Multiply z) a b = when (is_size z a && is_size z b) z
pure_takes (pures.And z) a b = when (is_size z a && is_size z b) z
pure_takes (pures.Or z) a b = when (is_size z a && is_size z b) z
pure_takes (pures.Xor z) a b = when (is_size z a && is_size z b) z
pure_takes (pures.ShiftLeft z) a b = when (is_size z a && is_number b) z
pure_takes (pures.ShiftRight s z) a b = when (is_size z a && is_number b) z
pure_takes (pures.Compare r s z) a b = when (is_size z a && is_size z b) Int
pure_takes other a b = None

abbrev pub takes : Operation → Option Size → Option Size → Option Size
takes (operations.Pure p) a b = pure_takes p a b
takes (operations.Divide s z) a b = when (is_size z a && is_size z b) z
takes (operations.Remainder s z) a b = when (is_size z a && is_size z b) z
takes other a b = None

abbrev pub built_in_takes : BuiltIn → List Size
built_in_takes Put = Long ∷ []
built_in_takes Protect = Long ∷ Int ∷ []
built_in_takes RaiseException = Int ∷ Int ∷ Int ∷ Int ∷ []
built_in_takes Walk = []
built_in_takes (AddVectored f) = Int ∷ []
built_in_takes (RemoveVectored f) = []

abbrev pub built_in_gives : BuiltIn → Option Size
built_in_gives Put = None
built_in_gives Protect = Some Int
built_in_gives RaiseException = None
built_in_gives Walk = None
built_in_gives (AddVectored f) = Some Int
built_in_gives (RemoveVectored f) = Some Int

-- a parameter of an exception is an `unsigned long long`, and the other fields are `unsigned`
abbrev pub information_size : Field → Size
information_size (fields.ExceptionInformation k) = Long
information_size other = Int

abbrev pub some_sizes : List Size → List (Option Size)
some_sizes [] = []
some_sizes (z ∷ zs) = Some z ∷ some_sizes zs

abbrev pub both : Option Size → Option Size → Bool
both a b = is_number a && is_number b

-- what a function that is called is: its parameters and its result
abbrev pub call_fits : Option Function → List (Option Size) → Bool
call_fits None sizes = false
call_fits (Some f) sizes = are_sizes f.parameters sizes

abbrev pub result_size : Option Function → Option Size
result_size None = None
result_size (Some f) = f.returns

-- ---- vectored handlers

abbrev pub is_pair_of_ints : List Size → Bool
is_pair_of_ints (Int ∷ Int ∷ []) = true
is_pair_of_ints zs = false

-- a function that can be a vectored handler: it takes a code and flags, and gives an answer
abbrev pub can_handle : Option Function → Bool
can_handle None = false
can_handle (Some f) = is_pair_of_ints f.parameters && is_size Int f.returns

-- the vectored handler that a call names is one
abbrev pub handler_fits : List Function → BuiltIn → Bool
handler_fits fs (AddVectored f) = can_handle (slice_get fs f)
handler_fits fs (RemoveVectored f) = can_handle (slice_get fs f)
handler_fits fs k = true

-- ---- expressions: their sizes

abbrev pub lvalue_size : TypingContext → Lvalue → Option Size
lvalue_size s (Local x) = slice_get s.sizes x
lvalue_size s (Global access a) = Some (size_in_memory access.width)
lvalue_size s (Stacked access base offset) = Some (size_in_memory access.width)
lvalue_size s (Indirection access e) = Some (size_in_memory access.width)
lvalue_size s (Element access e i) = Some (size_in_memory access.width)

abbrev mutual
  pub expression_size : TypingContext → Expression → Option Size
  expression_size s (On n c) = size_after c (node_size s n)

  pub node_size : TypingContext → Node → Option Size
  node_size s (nodes.Constant z n) = Some z
  node_size s (nodes.StackedArray base offset) = Some Long
  node_size s (nodes.Read p) = lvalue_size s p
  node_size s (nodes.AddressOf p) = Some Long
  node_size s (nodes.Assign p e) = lvalue_size s p
  node_size s (nodes.CompoundAssign p before o e after) = lvalue_size s p
  node_size s (nodes.Increment m p before o n after) = lvalue_size s p
  node_size s (nodes.Unary o e) = unary_takes o (expression_size s e)
  node_size s (nodes.Binary o e f) = takes o (expression_size s e) (expression_size s f)
  node_size s (nodes.PointerDifference n e f) = Some Long
  node_size s (nodes.Not e) = Some Int
  node_size s (nodes.And e f) = Some Int
  node_size s (nodes.Or e f) = Some Int
  node_size s (nodes.Conditional c e f) = expression_size s e
  node_size s (nodes.Comma e f) = expression_size s f
  node_size s (nodes.Call f es) = result_size (slice_get s.functions f)
  node_size s (nodes.CallBuiltIn k es) = built_in_gives k
  node_size s nodes.ExceptionCode = Some Int
  node_size s (nodes.Information f) = Some (information_size f)
  node_size s nodes.AbnormalTermination = Some Int

abbrev pub argument_sizes : TypingContext → Arguments → List (Option Size)
argument_sizes s Done = []
argument_sizes s (Next e es) = expression_size s e ∷ argument_sizes s es

abbrev pub is_in_memory : Lvalue → Bool
is_in_memory (Local x) = false
is_in_memory other = true

abbrev pub constant_fits : Size → ℕ → Bool
constant_fits Int n = nat_lt n (2 ^ 32)
constant_fits Long n = nat_lt n (2 ^ 64)

-- the size of what pointers point to, by which their distance is divided as a signed number of 64
-- bits
abbrev pub is_divisor : ℕ → Bool
is_divisor n = nat_lt 0 n && nat_lt n (2 ^ 63)

-- a constant of the size of an operand
abbrev pub amount_fits : Option Size → ℕ → Bool
amount_fits None n = false
amount_fits (Some z) n = constant_fits z n

-- a value of a place is changed so, and is a value of the place again
abbrev pub change_fits : Option Size → Conversion → Operation → Option Size → Conversion → Bool
change_fits place before o amount after =
    let result = takes o (size_after before place) amount in
    can_convert before place && is_number result && can_convert after result && same_sizes
    (size_after after result) place

-- a local has the size of a base, and above it a place is so many bytes
abbrev pub place_sound : TypingContext → (base offset : ℕ) → Bool
place_sound s base offset = is_size Long (slice_get s.sizes base) && nat_lt offset (2 ^ 32)

-- ---- expressions: whether they are sound

abbrev mutual
  pub expression_sound : TypingContext → Expression → Bool
  expression_sound s (On n c) = node_sound s n && can_convert c (node_size s n)

  pub node_sound : TypingContext → Node → Bool
  node_sound s (nodes.Constant z n) = constant_fits z n
  node_sound s (nodes.StackedArray base offset) = place_sound s base offset
  node_sound s (nodes.Read p) = lvalue_sound s p
  node_sound s (nodes.AddressOf p) = lvalue_sound s p && is_in_memory p
  node_sound s (nodes.Assign p e) =
      lvalue_sound s p && expression_sound s e && same_sizes (expression_size s e) (lvalue_size s p)
  node_sound s (nodes.CompoundAssign p before o e after) =
      lvalue_sound s p && expression_sound s e && change_fits (lvalue_size s p) before o
      (expression_size s e) after
  node_sound s (nodes.Increment m p before o n after) =
      let operand = size_after before (lvalue_size s p) in
      lvalue_sound s p && change_fits (lvalue_size s p) before o operand after && amount_fits
      operand n
  node_sound s (nodes.Unary o e) = expression_sound s e && is_number (node_size s (nodes.Unary o e))
  node_sound s (nodes.Binary o e f) =
      expression_sound s e && expression_sound s f && is_number (node_size s (nodes.Binary o e f))
  node_sound s (nodes.PointerDifference n e f) =
      expression_sound s e && expression_sound s f && is_size Long
      (expression_size s e) && is_size Long (expression_size s f) && is_divisor n
  node_sound s (nodes.Not e) = expression_sound s e && is_number (expression_size s e)
  node_sound s (nodes.And e f) =
      expression_sound s e && expression_sound s f && both (expression_size s e)
      (expression_size s f)
  node_sound s (nodes.Or e f) =
      expression_sound s e && expression_sound s f && both (expression_size s e)
      (expression_size s f)
  node_sound s (nodes.Conditional c e f) =
      expression_sound s c && expression_sound s e && expression_sound s f && is_number
      (expression_size s c) && same_sizes (expression_size s e) (expression_size s f)
  node_sound s (nodes.Comma e f) = expression_sound s e && expression_sound s f
  node_sound s (nodes.Call f es) =
      arguments_sound s es && call_fits (slice_get s.functions f) (argument_sizes s es)
  node_sound s (nodes.CallBuiltIn k es) =
      arguments_sound s es && are_sizes (built_in_takes k) (argument_sizes s es) && handler_fits
      s.functions k
  node_sound s nodes.ExceptionCode = s.code
  node_sound s (nodes.Information f) = s.information
  node_sound s nodes.AbnormalTermination = s.abnormal

  pub lvalue_sound : TypingContext → Lvalue → Bool
  lvalue_sound s (Local x) = nat_lt x (length s.sizes)
  lvalue_sound s (Global access a) = nat_lt a (2 ^ 64)
  lvalue_sound s (Stacked access base offset) = place_sound s base offset
  lvalue_sound s (Indirection access e) = expression_sound s e && is_size Long (expression_size s e)
  lvalue_sound s (Element access e i) =
      expression_sound s e && expression_sound s i && is_size Long
      (expression_size s e) && is_size Long (expression_size s i)

  pub arguments_sound : TypingContext → Arguments → Bool
  arguments_sound s Done = true
  arguments_sound s (Next e es) = expression_sound s e && arguments_sound s es

-- ---- statements

-- where a statement is, beside its scope: what its function returns; whether a loop, a `__try`
-- body and the function can be left from here
pub record Inside : Type 0 where
  pub scope : TypingContext
  pub returns : Option Size
  pub loop : Bool
  pub body : Bool
  pub function : Bool

abbrev pub optional_sound : TypingContext → Option Expression → Bool
optional_sound s None = true
optional_sound s (Some e) = expression_sound s e

abbrev pub condition_sound : TypingContext → Expression → Bool
condition_sound s e = expression_sound s e && is_number (expression_size s e)

abbrev pub test_sound : TypingContext → Option Expression → Bool
test_sound s None = true
test_sound s (Some e) = condition_sound s e

abbrev pub value_fits : TypingContext → Option Size → Option Expression → Bool
value_fits s size None = true
value_fits s size (Some e) = expression_sound s e && same_sizes (expression_size s e) size

-- an array has no initialiser
abbrev pub is_array_sound : Option ℕ → Option Expression → Bool
is_array_sound None value = true
is_array_sound (Some n) None = nat_lt n (2 ^ 32)
is_array_sound (Some n) (Some e) = false

abbrev pub stacked_sound : TypingContext → Option StackedVariable → Option Expression → Bool
stacked_sound s None value = true
stacked_sound s (Some v) value =
    place_sound s v.base v.offset && is_array_sound v.elements value

abbrev pub declared_sound : TypingContext → Declared → Bool
declared_sound s d =
    nat_lt d.local (length s.sizes) && value_fits s (slice_get s.sizes d.local) d.value &&
    stacked_sound s d.stacked d.value

abbrev pub all_declared_sound : TypingContext → List Declared → Bool
all_declared_sound s [] = true
all_declared_sound s (d ∷ ds) = declared_sound s d && all_declared_sound s ds

abbrev pub result_sound : Inside → Option Expression → Bool
result_sound i None = same_sizes None i.returns
result_sound i (Some e) =
    expression_sound i.scope e && is_number i.returns && same_sizes
    (expression_size i.scope e) i.returns

abbrev pub filter_sound : TypingContext → Filter → Bool
filter_sound s Always = true
filter_sound s (Funclet k e) =
    let t = record s { code = true; information = true }
    in expression_sound t e && is_size Int (expression_size t e)

abbrev mutual
  pub statement_sound : Inside → Statement → Bool
  statement_sound i (Declare d) = declared_sound i.scope d
  statement_sound i (Block ss) = statements_sound i ss
  statement_sound i (Evaluate e) = optional_sound i.scope e
  statement_sound i (If c s) = condition_sound i.scope c && statement_sound i s
  statement_sound i (IfElse c s t) =
      condition_sound i.scope c && statement_sound i s && statement_sound i t
  statement_sound i (For ds first c next s) =
      all_declared_sound i.scope ds && optional_sound i.scope first && test_sound i.scope c &&
      optional_sound i.scope next && statement_sound (record i { loop = true }) s
  statement_sound i (DoWhile s c) =
      condition_sound i.scope c && statement_sound (record i { loop = true }) s
  statement_sound i (Return e) = i.function && result_sound i e
  statement_sound i Break = i.loop
  statement_sound i Continue = i.loop
  statement_sound i Leave = i.body
  statement_sound i (TryExcept body filter block) =
      statements_sound (record i { body = true }) body && filter_sound i.scope filter &&
      statements_sound (record i { scope = record i.scope { code = true } }) block
  -- no jump out of a `__finally` block
  statement_sound i (TryFinally body k finally_block) =
      statements_sound (record i { body = true }) body
      && statements_sound (record {
        scope = record i.scope { abnormal = true };
        returns = i.returns;
        loop = false;
        body = false;
        function = false;
      }) finally_block

  pub statements_sound : Inside → Statements → Bool
  statements_sound i Empty = true
  statements_sound i (Then s ss) = statement_sound i s && statements_sound i ss

-- ---- the numbers of filters and `__finally` blocks, in the order of their keywords

abbrev pub filter_funclet : Filter → List ℕ
filter_funclet Always = []
filter_funclet (Funclet k e) = k ∷ []

abbrev mutual
  pub funclets_in : Statement → List ℕ
  funclets_in (Declare d) = []
  funclets_in (Block ss) = funclets ss
  funclets_in (Evaluate e) = []
  funclets_in (If c s) = funclets_in s
  funclets_in (IfElse c s t) = funclets_in s ++ funclets_in t
  funclets_in (For ds first c next s) = funclets_in s
  funclets_in (DoWhile s c) = funclets_in s
  funclets_in (Return e) = []
  funclets_in Break = []
  funclets_in Continue = []
  funclets_in Leave = []
  funclets_in (TryExcept body filter block) =
      funclets body ++ filter_funclet filter ++ funclets block
  funclets_in (TryFinally body k finally_block) = funclets body ++ k ∷ funclets finally_block

  pub funclets : Statements → List ℕ
  funclets Empty = []
  funclets (Then s ss) = funclets_in s ++ funclets ss

abbrev pub count_up : ℕ → List ℕ → Bool
count_up n [] = true
count_up n (k ∷ ks) = nat_eq k n && count_up (n + 1) ks

abbrev pub all_funclets : List Function → List ℕ
all_funclets [] = []
all_funclets (f ∷ fs) = funclets f.body ++ all_funclets fs

-- ---- programs

-- its parameters on the data stack are among the function's
abbrev pub parameters_sound : ℕ → List StackedParameter → Bool
parameters_sound count [] = true
parameters_sound count (p ∷ ps) =
    nat_lt p.parameter count && nat_lt p.offset (2 ^ 32) && parameters_sound count ps

-- the base is the last of the locals, and no parameter
abbrev pub data_sound : (parameters : ℕ) → List Size → Option DataFrame → Bool
data_sound parameters locals None = true
data_sound parameters locals (Some d) =
    nat_lt 0 (length locals) && nat_eq d.base (parameters + (length locals - 1))
    && is_size Long (slice_get locals (length locals - 1)) && nat_lt d.size (2 ^ 21)
    && nat_le (length d.parameters) parameters && parameters_sound parameters d.parameters

abbrev pub function_sound : List Function → Function → Bool
function_sound functions f =
    statements_sound
    (record {
      scope = record {
        functions = functions;
        sizes = f.parameters ++ f.locals;
        code = false;
        information = false;
        abnormal = false;
      };
      returns = f.returns;
      loop = false;
      body = false;
      function = true;
    }) f.body
    && nat_le (length f.parameters) MOST_PARAMETERS && nat_le (declared_locals f) MOST_LOCALS
    && data_sound (length f.parameters) f.locals f.data_frame

abbrev pub functions_sound : List Function → List Function → Bool
functions_sound functions [] = true
functions_sound functions (f ∷ fs) = function_sound functions f && functions_sound functions fs

-- `main` takes nothing or one `long long`, and returns an `int`
abbrev pub main_sound : Option Function → Bool
main_sound None = false
main_sound (Some f) =
    (are_sizes [] (some_sizes f.parameters) || are_sizes (Long ∷ []) (some_sizes f.parameters)) &&
    is_size Int f.returns

-- numbers name what is there, each operand has the size that its operator takes, and constants and
-- the amounts of increments are numbers of their size. Jumps and the names of exceptions are where
-- they mean something. A function that is named as a vectored handler takes a code and flags, and
-- gives an answer. Filters and `__finally` blocks are numbered from 1 in the order of their
-- keywords.
abbrev pub is_sound : Program → Bool
is_sound p =
    functions_sound p.functions p.functions && main_sound
    (slice_get p.functions p.main) && count_up 1 (all_funclets p.functions)
    && nat_le (length p.functions) MOST_FUNCTIONS && nat_le
    (length (all_funclets p.functions)) MOST_FUNCLETS && nat_le
    (length p.globals) MOST_GLOBALS

abbrev pub IsSound : Program → Type 0
IsSound p = is_sound p ≡ true
