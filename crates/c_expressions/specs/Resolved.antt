-- What is found of expressions of the text, and of calls with arguments of the text.
use Rattle.std.specs.Prelude.{ℕ, List, ◌++◌, map, Option, option_map}
use Rattle.c_checked.specs.Expression.{Node, Arguments}
use Rattle.c_expressions.specs.Calls.{resolved_all}
use Rattle.c_expressions.specs.Rules.{rule_of_two}
use Rattle.c_expressions.specs.Views.{entity, names_of, wanted}
use Rattle.c_expressions.specs.declared.context.Context.{Context}
use Rattle.c_expressions.specs.declared.scopes.Entity.{Entity}
use Rattle.c_expressions.specs.declared.rules.TwoOperands.{TwoOperands}
use Rattle.c_expressions.specs.declared.wanted.Wanted.{Wanted}
use Rattle.c_resolved.specs.Expressions.{FaultAt, Passed, ResolvedExpression, resolve_expression, pass_all, call, call_with, rule_2}
use Rattle.c_syntax.specs.declared.expression.CType.{CType}
use Rattle.c_syntax.specs.declared.expression.Expr.{Expr}
use Rattle.c_syntax.specs.Expression.{expression}
use Rattle.c_types.specs.declared.typed.TypedNode.{TypedNode}
use Rattle.c_types.specs.Views.{typed_node}

abbrev pub resolved : Context → Expr → ResolvedExpression
resolved context e = resolve_expression (names_of context) (expression e)

-- an operator on an operand with these faults, and on one of the text
abbrev pub resolved_with : Context → ℕ → TwoOperands → Option TypedNode → Expr → List FaultAt
    → ResolvedExpression
resolved_with context at o a second fs =
    rule_2 at (rule_of_two o) (fs ++ (resolved context second).faults) (option_map typed_node a)
    (resolved context second).found

-- arguments, each as what is wanted at its place
abbrev pub all_passed : Context → List Wanted → List Expr → Passed
all_passed context wants given = pass_all (map wanted wants) (resolved_all (names_of context) given)

-- a call of this type and node, whose arguments have to be what is wanted
abbrev pub called_with : Context → ℕ → List Wanted → List Expr → CType → (Arguments → Node)
    → ResolvedExpression
called_with context at wants given t make =
    call_with at (map wanted wants) t make (resolved_all (names_of context) given)

-- a call of a name with this meaning
abbrev pub called : Context → ℕ → Option Entity → List Expr → ResolvedExpression
called context at meaning given =
    call (names_of context) at (option_map entity meaning) (resolved_all (names_of context) given)
