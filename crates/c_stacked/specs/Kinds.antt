-- Kinds of nodes and statements, as the language's references group them.
use Rattle.std.specs.Prelude.{Bool, true, false}
use Rattle.c_checked.specs.Expression as nodes
use Rattle.c_checked.specs.Expression.{Node}
use Rattle.c_checked.specs.Statement.{Statement, Declare, Block, Evaluate, If, IfElse, For, DoWhile, Return, TryExcept, TryFinally}

-- ---- nodes

-- `&&`, `||` and `? :` (C11, 6.5.13 to 6.5.15), and a comma (C11, 6.5.17)
abbrev pub is_logical : Node → Bool
is_logical (nodes.And e f) = true
is_logical (nodes.Or e f) = true
is_logical (nodes.Conditional c e f) = true
is_logical (nodes.Comma e f) = true
is_logical n = false

-- with several operands, or an assignment with an operator (C11, 6.5.16.2)
abbrev pub has_several : Node → Bool
has_several (nodes.Binary o e f) = true
has_several (nodes.PointerDifference n e f) = true
has_several (nodes.CompoundAssign p before o e after) = true
has_several n = is_logical n

-- also `=`, `++` and `--`, and a call of a built-in function
abbrev pub has_more : Node → Bool
has_more (nodes.Assign p e) = true
has_more (nodes.Increment m p before o n after) = true
has_more (nodes.CallBuiltIn k es) = true
has_more n = has_several n

-- ---- statements

-- a declared local, an expression (C11, 6.8.3) or a `return` (C11, 6.8.6.4)
abbrev pub is_simple : Statement → Bool
is_simple (Declare d) = true
is_simple (Evaluate e) = true
is_simple (Return e) = true
is_simple s = false

-- a block (C11, 6.8.2) or an `if` (C11, 6.8.4.1)
abbrev pub is_block_or_if : Statement → Bool
is_block_or_if (Block ss) = true
is_block_or_if (If c s) = true
is_block_or_if (IfElse c s t) = true
is_block_or_if s = false

-- a loop (C11, 6.8.5)
abbrev pub is_loop : Statement → Bool
is_loop (For ds first c next s) = true
is_loop (DoWhile s c) = true
is_loop s = false

-- a `__try` (Microsoft C reference, "try-except statement", "try-finally statement")
abbrev pub is_try : Statement → Bool
is_try (TryExcept body filter block) = true
is_try (TryFinally body k finally_block) = true
is_try s = false

-- a loop or a `__try`
abbrev pub is_loop_or_try : Statement → Bool
is_loop_or_try (For ds first c next s) = true
is_loop_or_try (DoWhile s c) = true
is_loop_or_try s = is_try s
