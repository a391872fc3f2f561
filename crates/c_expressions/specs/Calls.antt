-- Arguments of calls, wherever they lie in memory.
use Rattle.std.specs.Global.{Vec}
use Rattle.std.specs.Prelude.{◌≡◌, List, [], ◌∷◌, ◌++◌, map, Option, Some, None, option_map}
use Rattle.c_checked.specs.declared.expression.Expr.{Expr as Checked}
use Rattle.c_checked.specs.Expression as nodes
use Rattle.c_expressions.specs.Kept.{least_of, kept, AddsFaults}
use Rattle.c_expressions.specs.Views.{wanted}
use Rattle.c_expressions.specs.declared.least.LeastFault.{LeastFault}
use Rattle.c_expressions.specs.declared.wanted.Wanted.{Wanted}
use Rattle.c_resolved.specs.Expressions.{FaultAt, Names, Argument, Passed, ResolvedExpression, resolve_arguments, pass}
use Rattle.c_resolved.specs.Operators.{TypedNode, typed}
use Rattle.c_syntax.specs.declared.expression.CType.{CType}
use Rattle.c_syntax.specs.declared.expression.Expr.{Expr}
use Rattle.c_syntax.specs.Expression.{expression, arguments, start}
use Rattle.c_types.specs.declared.typed.TypedNode.{TypedNode as TypedNode'}
use Rattle.c_types.specs.Views.{typed_node}

abbrev pub passed_of : List Checked → nodes.Arguments
passed_of es = nodes.arguments (map nodes.expression es)

abbrev pub resolved_all : Names → List Expr → List Argument
resolved_all s es = resolve_arguments s (arguments (map expression es))

-- an argument before others, if all are good
abbrev pub put_before : Option nodes.Expression → Option nodes.Arguments → Option nodes.Arguments
put_before (Some e) (Some es) = Some (nodes.Next e es)
put_before e es = None

abbrev pub PassesFirst : Option nodes.Expression → Passed → Passed → Type 0
PassesFirst e rest all = put_before e rest.found ≡ all.found

-- an argument of the text that is wanted so, after operands with these faults and before others
abbrev pub passed_first : Wanted → Expr → Option TypedNode' → List FaultAt → Passed → Passed
passed_first want e found fs rest =
    pass (wanted want) (start (expression e)) fs (option_map typed_node found) rest

-- the code passes what the rule passes, whatever the other arguments are
abbrev pub Passes : Option Checked → (List FaultAt → Passed → Passed) → Type 0
Passes e rule =
    (fs : List FaultAt) (rest : Passed)
    → PassesFirst (option_map nodes.expression e) rest (rule fs rest)

-- where the argument's own faults are kept, the others' are to be kept after those that the rule
-- adds
abbrev pub AddsBefore : LeastFault → LeastFault → (List FaultAt → Passed → Passed) → Type 0
AddsBefore before after rule =
    (first : Option FaultAt) (fs : List FaultAt) (rest : Passed) → least_of before ≡ kept first fs
    → kept (least_of after) rest.faults ≡ kept first (rule fs rest).faults

abbrev pub expressions_of : Option (Vec Checked) → Option (List nodes.Expression)
expressions_of passed = option_map (λ v. map nodes.expression v.items) passed

-- one more argument, if all are good
abbrev pub put_after : Option (List nodes.Expression) → Option nodes.Expression
    → Option (List nodes.Expression)
put_after (Some es) (Some e) = Some (es ++ e ∷ [])
put_after es e = None

-- ---- calls

-- of this type and node with these arguments, if all are good
abbrev pub call_of : CType → (nodes.Arguments → nodes.Node) → Option (Vec Checked)
    → Option TypedNode
call_of t make passed = option_map (λ v. typed t (make (passed_of v.items))) passed

-- whatever the type and the node of the call are
abbrev pub FindsCall : Option (Vec Checked)
    → (CType → (nodes.Arguments → nodes.Node) → ResolvedExpression) → Type 0
FindsCall passed rule =
    (t : CType) (make : nodes.Arguments → nodes.Node) → call_of t make passed ≡ (rule t make).found

abbrev pub AddsCall : LeastFault → LeastFault
    → (CType → (nodes.Arguments → nodes.Node) → ResolvedExpression)
    → Type 0
AddsCall before after rule =
    (t : CType) (make : nodes.Arguments → nodes.Node) → AddsFaults before after (rule t make).faults
