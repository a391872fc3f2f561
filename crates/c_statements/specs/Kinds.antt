-- Kinds of statements, as the language's references group them.
use Rattle.std.specs.Prelude.{Bool, true, false}
use Rattle.c_syntax.specs.Statement.{Statement, If, IfElse, While, DoWhile, TryExcept, TryFinally}

-- a `__try` (Microsoft C reference, "try-except statement", "try-finally statement")
abbrev pub is_try : Statement → Bool
is_try (TryExcept body at f handler) = true
is_try (TryFinally body at finally_block) = true
is_try s = false

-- `while` and `do` (C11, 6.8.5), and a `__try`
abbrev pub is_loop_or_try : Statement → Bool
is_loop_or_try (While at c s) = true
is_loop_or_try (DoWhile s at c) = true
is_loop_or_try s = is_try s

-- `if` (C11, 6.8.4), `while`, `do` and a `__try`: what holds statements, but for a block and `for`
abbrev pub has_parts : Statement → Bool
has_parts (If at c s) = true
has_parts (IfElse at c s t) = true
has_parts s = is_loop_or_try s
