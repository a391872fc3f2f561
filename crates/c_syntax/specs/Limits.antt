-- What is counted of a program, and the limits of the counts.
--
-- `Limit`, `order`, `IsInForce`: the limits, nesting and the numbers of what can be counted
-- (`Count`), in the order nesting, locals of a function, parameters, functions, bytes of globals,
-- numbered filters and `finally` blocks (own). The first n of them are in force.
--
-- The main definitions: `Within`, `WithinFirst`.
use Rattle.std.specs.Prelude.{◌≤◌, ℕ, zero, suc, ◌+◌, ◌*◌, ◌/◌, max, Bool, false, cond, nat_eq}
use Rattle.std.specs.Prelude.{List, [], ◌∷◌, ◌++◌, length, Option, Some, None, codes, slice_range}
use Rattle.std.specs.Str.{bytes_eq}
use Rattle.c_syntax.specs.declared.declaration.Length.{Length}
use Rattle.c_syntax.specs.declared.declaration.Parameter.{Parameter}
use Rattle.c_syntax.specs.declared.expression.Base.{Base}
use Rattle.c_syntax.specs.declared.expression.Base.TheVariants as bases
use Rattle.c_syntax.specs.declared.expression.Literal.TheVariants as literals
use Rattle.c_syntax.specs.declared.limit.Count.{Count}
use Rattle.c_syntax.specs.declared.limit.Count.TheVariants as counts
use Rattle.c_syntax.specs.declared.limit.TheConstants.{MOST_EXPRESSIONS, MOST_STATEMENTS}
use Rattle.c_syntax.specs.declared.limit.TheConstants.{MOST_LOCALS, MOST_ARRAY_BYTES, MOST_PARAMETERS}
use Rattle.c_syntax.specs.declared.limit.TheConstants.{MOST_FUNCTIONS, MOST_GLOBALS, MOST_FUNCLETS}
use Rattle.c_syntax.specs.Expression.{Expression, Constant, Variable, Information, Call}
use Rattle.c_syntax.specs.Expression.{Parentheses, Index, Postfix, Prefix, Unary, Cast, Binary}
use Rattle.c_syntax.specs.Expression.{Conditional, Assign, Comma, height}
use Rattle.c_syntax.specs.Program.{Global, ExternalDeclaration, Globals, Function}
use Rattle.c_syntax.specs.Statement.{Local, ForInitialiser, Declaring, Evaluating, Statement}
use Rattle.c_syntax.specs.Statement.{Declare, Block, Evaluate, If, IfElse, While, DoWhile, For}
use Rattle.c_syntax.specs.Statement.{Return, Break, Continue, Leave, TryExcept, TryFinally}
use Rattle.c_syntax.specs.Statement.{Statements, Empty, Then}

-- ---- expressions around a node: the greatest height

abbrev pub height_of : Option Expression → ℕ
height_of None = 0
height_of (Some e) = height e

abbrev pub height_of_locals : List Local → ℕ
height_of_locals [] = 0
height_of_locals (l ∷ ls) = max (height_of l.initialiser) (height_of_locals ls)

abbrev pub height_of_for_initialiser : ForInitialiser → ℕ
height_of_for_initialiser (Declaring base ls) = height_of_locals ls
height_of_for_initialiser (Evaluating e) = height_of e

abbrev mutual
  pub expressions_over : Statement → ℕ
  expressions_over (Declare base ls) = height_of_locals ls
  expressions_over (Block ss) = expressions_over_all ss
  expressions_over (Evaluate e) = height_of e
  expressions_over (If at c s) = max (height c) (expressions_over s)
  expressions_over (IfElse at c s t) =
      max (height c) (max (expressions_over s) (expressions_over t))
  expressions_over (While at c s) = max (height c) (expressions_over s)
  expressions_over (DoWhile s at c) = max (expressions_over s) (height c)
  expressions_over (For at f c n s) =
      max (height_of_for_initialiser f) (max (height_of c) (max (height_of n) (expressions_over s)))
  expressions_over (Return at e) = height_of e
  expressions_over (Break at) = 0
  expressions_over (Continue at) = 0
  expressions_over (Leave at) = 0
  expressions_over (TryExcept body at f handler) =
      max (expressions_over_all body) (max (height f) (expressions_over_all handler))
  expressions_over (TryFinally body at finally_block) =
      max (expressions_over_all body) (expressions_over_all finally_block)

  pub expressions_over_all : Statements → ℕ
  expressions_over_all Empty = 0
  expressions_over_all (Then s ss) = max (expressions_over s) (expressions_over_all ss)

-- ---- statements around a statement or an expression

-- one where there is an expression
abbrev pub one_over : Option Expression → ℕ
one_over None = 0
one_over (Some e) = 1

abbrev pub one_over_locals : List Local → ℕ
one_over_locals [] = 0
one_over_locals (l ∷ ls) = max (one_over l.initialiser) (one_over_locals ls)

-- How many statements at most are around a part, and around what is in a block. A declaration is
-- no statement, nor are the blocks of a `__try` statement.
abbrev mutual
  pub statements_over : Statement → ℕ
  statements_over (Declare base ls) = 0
  statements_over (Block ss) = statements_over_all ss
  statements_over (Evaluate e) = one_over e
  statements_over (If at c s) = 1 + statements_over s
  statements_over (IfElse at c s t) = 1 + max (statements_over s) (statements_over t)
  statements_over (While at c s) = 1 + statements_over s
  statements_over (DoWhile s at c) = 1 + statements_over s
  statements_over (For at f c n s) = 1 + statements_over s
  statements_over (Return at e) = one_over e
  statements_over (Break at) = 0
  statements_over (Continue at) = 0
  statements_over (Leave at) = 0
  statements_over (TryExcept body at f handler) =
      max 1 (max (statements_over_all body) (statements_over_all handler))
  statements_over (TryFinally body at finally_block) =
      max (statements_over_all body) (statements_over_all finally_block)

  pub statements_over_all : Statements → ℕ
  statements_over_all Empty = 0
  statements_over_all (Then s ss) =
      max (over_block_item s (statements_over s)) (statements_over_all ss)

  pub over_block_item : Statement → ℕ → ℕ
  over_block_item (Declare base ls) n = one_over_locals ls
  over_block_item (Block ss) n = 1 + n
  over_block_item (Evaluate e) n = 1 + n
  over_block_item (If at c s) n = 1 + n
  over_block_item (IfElse at c s t) n = 1 + n
  over_block_item (While at c s) n = 1 + n
  over_block_item (DoWhile s at c) n = 1 + n
  over_block_item (For at f c n s) m = 1 + m
  over_block_item (Return at e) n = 1 + n
  over_block_item (Break at) n = 1 + n
  over_block_item (Continue at) n = 1 + n
  over_block_item (Leave at) n = 1 + n
  over_block_item (TryExcept body at f handler) n = 1 + n
  over_block_item (TryFinally body at finally_block) n = 1 + n

-- ---- locals of a function

abbrev pub locals_of_for_initialiser : ForInitialiser → ℕ
locals_of_for_initialiser (Declaring base ls) = length ls
locals_of_for_initialiser (Evaluating e) = 0

abbrev mutual
  pub locals : Statement → ℕ
  locals (Declare base ls) = length ls
  locals (Block ss) = locals_of_all ss
  locals (Evaluate e) = 0
  locals (If at c s) = locals s
  locals (IfElse at c s t) = locals s + locals t
  locals (While at c s) = locals s
  locals (DoWhile s at c) = locals s
  locals (For at f c n s) = locals_of_for_initialiser f + locals s
  locals (Return at e) = 0
  locals (Break at) = 0
  locals (Continue at) = 0
  locals (Leave at) = 0
  locals (TryExcept body at f handler) = locals_of_all body + locals_of_all handler
  locals (TryFinally body at finally_block) = locals_of_all body + locals_of_all finally_block

  pub locals_of_all : Statements → ℕ
  locals_of_all Empty = 0
  locals_of_all (Then s ss) = locals s + locals_of_all ss

-- ---- filters and finally blocks

-- The filter accepts whatever was raised: it is an integer literal of value 1 or the name of that
-- value, parentheses aside.
abbrev pub accepts : List ℕ → Expression → Bool
accepts text (Constant at (literals.Integer value type)) = nat_eq value 1
accepts text (Constant at (literals.CharacterConstant value)) = false
accepts text (Variable name) =
    bytes_eq (slice_range text name.start name.end) (codes "EXCEPTION_EXECUTE_HANDLER")
accepts text (Information at field) = false
accepts text (Call name es) = false
accepts text (Parentheses at e) = accepts text e
accepts text (Index a at i) = false
accepts text (Postfix e op at) = false
accepts text (Prefix at op e) = false
accepts text (Unary at op e) = false
accepts text (Cast at to e) = false
accepts text (Binary a at op b) = false
accepts text (Conditional c at a b) = false
accepts text (Assign a at op b) = false
accepts text (Comma a at b) = false

-- The keywords' places of the filters and finally blocks that have a number, in their order in the
-- text: the first has the number 1, and a filter that accepts always has none.
abbrev mutual
  pub numbered : List ℕ → Statement → List ℕ
  numbered text (Declare base ls) = []
  numbered text (Block ss) = funclets_of_all text ss
  numbered text (Evaluate e) = []
  numbered text (If at c s) = numbered text s
  numbered text (IfElse at c s t) = numbered text s ++ numbered text t
  numbered text (While at c s) = numbered text s
  numbered text (DoWhile s at c) = numbered text s
  numbered text (For at f c n s) = numbered text s
  numbered text (Return at e) = []
  numbered text (Break at) = []
  numbered text (Continue at) = []
  numbered text (Leave at) = []
  numbered text (TryExcept body at f handler) =
      funclets_of_all text body ++ cond (accepts text f) [] (at ∷ [])
      ++ funclets_of_all text handler
  numbered text (TryFinally body at finally_block) =
      funclets_of_all text body ++ at ∷ [] ++ funclets_of_all text finally_block

  pub funclets_of_all : List ℕ → Statements → List ℕ
  funclets_of_all text Empty = []
  funclets_of_all text (Then s ss) = numbered text s ++ funclets_of_all text ss

abbrev pub funclets_in : List ℕ → List ExternalDeclaration → List ℕ
funclets_in text [] = []
funclets_in text (Globals base gs ∷ xs) = funclets_in text xs
funclets_in text (Function returns name ps body ∷ xs) =
    funclets_of_all text body ++ funclets_in text xs

-- ---- bytes of globals

abbrev pub size_of_base : Base → ℕ
size_of_base bases.Void = 0
size_of_base bases.Char = 1
size_of_base bases.UnsignedChar = 1
size_of_base bases.Short = 2
size_of_base bases.UnsignedShort = 2
size_of_base bases.Int = 4
size_of_base bases.Unsigned = 4
size_of_base bases.LongLong = 8
size_of_base bases.UnsignedLongLong = 8

-- how many bytes a type has; pointers have 8
abbrev pub size : Base → ℕ → ℕ
size base zero = size_of_base base
size base (suc n) = 8

abbrev pub elements : Option Length → ℕ
elements None = 1
elements (Some n) = n.value

-- the first place from one on that is a multiple of the size; each place is one of 0
abbrev pub aligned : ℕ → ℕ → ℕ
aligned at zero = at
aligned at (suc n) = (at + n) / suc n * suc n

-- where the globals end that begin at a place, one after another
abbrev pub end_of_globals : Base → List Global → ℕ → ℕ
end_of_globals base [] at = at
end_of_globals base (g ∷ gs) at =
    end_of_globals base gs (aligned at (size base g.pointers)
    + size base g.pointers * elements g.length)

abbrev pub bytes_from : List ExternalDeclaration → ℕ → ℕ
bytes_from [] at = at
bytes_from (Globals base gs ∷ xs) at = bytes_from xs (end_of_globals base gs at)
bytes_from (Function returns name ps body ∷ xs) at = bytes_from xs at

-- ---- bytes of a function's arrays

-- where a local ends that is placed after so many bytes; one that isn't an array takes none
abbrev pub end_of_local : Base → ℕ → Option Length → ℕ → ℕ
end_of_local base pointers None at = at
end_of_local base pointers (Some n) at =
    aligned at (size base pointers) + size base pointers * n.value

-- where the arrays among these locals end that begin at a place, one after another
abbrev pub end_of_locals : Base → List Local → ℕ → ℕ
end_of_locals base [] at = at
end_of_locals base (l ∷ ls) at =
    end_of_locals base ls (end_of_local base l.pointers l.length at)

abbrev pub end_of_for_initialiser : ForInitialiser → ℕ → ℕ
end_of_for_initialiser (Declaring base ls) at = end_of_locals base ls at
end_of_for_initialiser (Evaluating e) at = at

abbrev mutual
  pub end_of_arrays : Statement → ℕ → ℕ
  end_of_arrays (Declare base ls) from = end_of_locals base ls from
  end_of_arrays (Block ss) from = end_of_all_arrays ss from
  end_of_arrays (Evaluate e) from = from
  end_of_arrays (If at c s) from = end_of_arrays s from
  end_of_arrays (IfElse at c s t) from = end_of_arrays t (end_of_arrays s from)
  end_of_arrays (While at c s) from = end_of_arrays s from
  end_of_arrays (DoWhile s at c) from = end_of_arrays s from
  end_of_arrays (For at f c n s) from = end_of_arrays s (end_of_for_initialiser f from)
  end_of_arrays (Return at e) from = from
  end_of_arrays (Break at) from = from
  end_of_arrays (Continue at) from = from
  end_of_arrays (Leave at) from = from
  end_of_arrays (TryExcept body at f handler) from =
      end_of_all_arrays handler (end_of_all_arrays body from)
  end_of_arrays (TryFinally body at finally_block) from =
      end_of_all_arrays finally_block (end_of_all_arrays body from)

  pub end_of_all_arrays : Statements → ℕ → ℕ
  end_of_all_arrays Empty from = from
  end_of_all_arrays (Then s ss) from = end_of_all_arrays ss (end_of_arrays s from)

-- how many bytes the arrays of a function take
abbrev pub array_bytes : Statements → ℕ
array_bytes body = end_of_all_arrays body 0

-- ---- functions of a program

abbrev pub functions : List ExternalDeclaration → ℕ
functions [] = 0
functions (Globals base gs ∷ xs) = functions xs
functions (Function returns name ps body ∷ xs) = suc (functions xs)

-- ---- the limits

-- of nesting, and of the number of something
pub data Limit : Type 0 where
  Nesting : Limit
  Number : Count → Limit

-- the limits are in this order
abbrev pub order : Limit → ℕ
order Nesting = 1
order (Number counts.Locals) = 2
order (Number counts.ArrayBytes) = 3
order (Number counts.Parameters) = 4
order (Number counts.Functions) = 5
order (Number counts.Globals) = 6
order (Number counts.Funclets) = 7

-- how many there are
abbrev pub every_limit : ℕ
every_limit = order (Number counts.Funclets)

-- The first n limits are in force.
abbrev pub IsInForce : Limit → ℕ → Type 0
IsInForce l n = order l ≤ n

-- A function is within the first n limits.
pub record FunctionWithinFirst (n : ℕ) (ps : List Parameter) (body : Statements) : Type 0 where
  -- the function's own block is no statement
  pub statements : IsInForce Nesting n → statements_over_all body ≤ MOST_STATEMENTS
  pub expressions : IsInForce Nesting n → expressions_over_all body ≤ MOST_EXPRESSIONS
  pub locals : IsInForce (Number counts.Locals) n → locals_of_all body ≤ MOST_LOCALS
  pub arrays : IsInForce (Number counts.ArrayBytes) n → array_bytes body ≤ MOST_ARRAY_BYTES
  pub parameters : IsInForce (Number counts.Parameters) n → length ps ≤ MOST_PARAMETERS

abbrev pub EachWithinFirst : ℕ → List ExternalDeclaration → Type 0
EachWithinFirst n [] = Unit {0}
EachWithinFirst n (Globals base gs ∷ xs) = EachWithinFirst n xs
EachWithinFirst n (Function returns name ps body ∷ xs) =
    FunctionWithinFirst n ps body × EachWithinFirst n xs

-- the bounds of the limits in force alone; `Within` is this with all of them
pub record WithinFirst (n : ℕ) (text : List ℕ) (program : List ExternalDeclaration) : Type 0 where
  pub each : EachWithinFirst n program
  pub functions : IsInForce (Number counts.Functions) n → functions program ≤ MOST_FUNCTIONS
  pub bytes : IsInForce (Number counts.Globals) n → bytes_from program 0 ≤ MOST_GLOBALS
  pub numbered : IsInForce (Number counts.Funclets) n
      → length (funclets_in text program) ≤ MOST_FUNCLETS

-- the limits of nesting, parameters, locals, functions, numbered handlers and bytes of globals
-- (own). `parse` answers a program exactly where one within them derives the tokens, unless memory
-- runs out
abbrev pub Within : List ℕ → List ExternalDeclaration → Type 0
Within text program = WithinFirst every_limit text program
