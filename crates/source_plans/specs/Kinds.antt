-- Kinds of expressions.
use Rattle.c_checked.specs.Expression.{Node, CompoundAssign, Increment, Unary, Binary, Not, And, Or}
use Rattle.c_checked.specs.Expression.{PointerDifference, Conditional, Comma}

-- `target operation= value` (C11, 6.5.16.2)
abbrev pub IsCompoundAssign : Node → Type 0
IsCompoundAssign (CompoundAssign l before o e after) = Unit {0}
IsCompoundAssign n = ⊥

-- `++` and `--` (C11, 6.5.2.4, 6.5.3.1)
abbrev pub IsIncrement : Node → Type 0
IsIncrement (Increment m l before o n after) = Unit {0}
IsIncrement n = ⊥

-- an operator that changes no place, with its operands
abbrev pub IsOperator : Node → Type 0
IsOperator (Unary o e) = Unit {0}
IsOperator (Binary o e f) = Unit {0}
IsOperator (PointerDifference n e f) = Unit {0}
IsOperator (Not e) = Unit {0}
IsOperator (And e f) = Unit {0}
IsOperator (Or e f) = Unit {0}
IsOperator (Conditional c e f) = Unit {0}
IsOperator (Comma e f) = Unit {0}
IsOperator n = ⊥
