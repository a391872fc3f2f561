-- Kinds of nodes and of statements, as the standard groups them.
use Rattle.std.specs.Prelude.{Bool, true, false}
use Rattle.c_checked.specs.Expression as nodes
use Rattle.c_checked.specs.Expression.{Node}
use Rattle.c_checked.specs.Statement.{Statement, Declare, Block, Evaluate, If, IfElse, For, DoWhile, Return, Break, Continue, Leave, TryExcept, TryFinally}

-- ---- nodes

-- `=`, also with an operator (C11, 6.5.16)
abbrev pub is_assignment : Node → Bool
is_assignment (nodes.Assign p e) = true
is_assignment (nodes.CompoundAssign p before o e after) = true
is_assignment n = false

-- `&&`, `||` and `? :`, which may leave an operand out (C11, 6.5.13 to 6.5.15), and assignments
abbrev pub is_branch_or_assignment : Node → Bool
is_branch_or_assignment (nodes.And e f) = true
is_branch_or_assignment (nodes.Or e f) = true
is_branch_or_assignment (nodes.Conditional c e f) = true
is_branch_or_assignment n = is_assignment n

-- with several operands
abbrev pub has_several : Node → Bool
has_several (nodes.Binary o e f) = true
has_several (nodes.PointerDifference n e f) = true
has_several (nodes.Comma e f) = true
has_several n = is_branch_or_assignment n

-- ---- statements

-- a `__try` (Microsoft C reference, "try-except statement", "try-finally statement")
abbrev pub is_try : Statement → Bool
is_try (TryExcept body filter block) = true
is_try (TryFinally body k finally_block) = true
is_try s = false

-- a loop (C11, 6.8.5) or a `__try`
abbrev pub is_loop_or_try : Statement → Bool
is_loop_or_try (For ds first c next s) = true
is_loop_or_try (DoWhile s c) = true
is_loop_or_try s = is_try s

-- a block (C11, 6.8.2) or an `if` (C11, 6.8.4.1)
abbrev pub is_block_or_if : Statement → Bool
is_block_or_if (Block ss) = true
is_block_or_if (If c s) = true
is_block_or_if (IfElse c s t) = true
is_block_or_if s = false

-- without statements in it: an expression (C11, 6.8.3), a jump (C11, 6.8.6) or a declared local
abbrev pub is_simple : Statement → Bool
is_simple (Declare d) = true
is_simple (Evaluate e) = true
is_simple (Return e) = true
is_simple Break = true
is_simple Continue = true
is_simple Leave = true
is_simple s = false
