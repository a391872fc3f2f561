-- What the code of a rule on the value of a statement's expression gives, and what it keeps.
use Rattle.std.specs.Prelude.{◌≡◌, List, Option, option_map}
use Rattle.c_expressions.specs.declared.least.LeastFault.{LeastFault}
use Rattle.c_expressions.specs.Kept.{least_of, kept}
use Rattle.c_checked.specs.declared.expression.Expr.{Expr}
use Rattle.c_checked.specs.Expression.{expression}
use Rattle.c_resolved.specs.Expressions.{FaultAt, ResolvedExpression}
use Rattle.c_resolved.specs.Statements.{Value}
use Rattle.c_types.specs.declared.typed.TypedNode.{TypedNode}
use Rattle.c_types.specs.Views.{typed_node}

-- whatever the faults of the expression are
pub record Values (before after : LeastFault) (found : Option TypedNode) (e : Expr)
    (rule : ResolvedExpression → Value) : Type 0 where
  pub value : (fs : List FaultAt) → expression e ≡ (rule
      (record { found = option_map typed_node found; faults = fs })).value
  pub faults : (first : Option FaultAt) (fs : List FaultAt) → least_of before ≡ kept first fs
      → least_of after ≡ kept first (rule (record {
        found = option_map typed_node found;
        faults = fs;
      })).faults
