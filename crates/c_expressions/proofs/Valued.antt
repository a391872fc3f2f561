-- A rule on the value of an expression that broke none so far.
use Rattle.std.proofs.Common.{◌≡◌, List, ◌++◌, Option, Some, sym, ap, ◌∙◌}
use Rattle.std.specs.Prelude.{option_map}
use Rattle.c_checked.specs.declared.expression.Expr.{Expr}
use Rattle.c_checked.specs.Expression as nodes
use Rattle.c_checked.specs.Expression.{expression}
use Rattle.c_expressions.proofs.Kept.{kept_more}
use Rattle.c_expressions.specs.declared.least.LeastFault.{LeastFault}
use Rattle.c_expressions.specs.Words.{least_of, kept, FaultAt, ResolvedExpression, Value, typed_node}
use Rattle.c_expressions.specs.Values.{Values}
use Rattle.c_types.specs.declared.typed.TypedNode.{TypedNode}

abbrev resolved : Option TypedNode → List FaultAt → ResolvedExpression
resolved found fs = record { found = option_map typed_node found; faults = fs }

-- it gives v, and adds further faults
pub valued : (before after : LeastFault) (found : Option TypedNode) (a : TypedNode) (e : Expr)
    (rule : ResolvedExpression → Value) (v : nodes.Expression) (extra : List FaultAt)
    → found ≡ Some a → expression e ≡ v → least_of after ≡ kept (least_of before) extra
    → ((fs : List FaultAt) → rule (resolved (Some a) fs)
    ≡ record { value = v; faults = fs ++ extra }) → Values before after found e rule
valued before after found a e rule v extra is made added computes =
    let all : (fs : List FaultAt) → rule (resolved found fs)
    ≡ record { value = v; faults = fs ++ extra } = λ fs. ap (λ o. rule (resolved o fs)) is
    ∙ computes fs in
    record {
      value = λ fs. made ∙ sym (ap (λ (r : Value). r.value) (all fs));
      faults = λ first fs p. kept_more first (least_of before) (least_of after) fs extra p added
          ∙ ap (kept first) (sym (ap (λ (r : Value). r.faults) (all fs)));
    }
