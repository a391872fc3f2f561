-- Steps, wherever they lie in memory.
use Rattle.std.specs.Prelude.{ℕ, max}
use Rattle.c_syntax.specs.Expression.{expression, height}
use Rattle.c_syntax.specs.Steps as steps
use Rattle.c_parse_expr.specs.declared.step.Step.{Step}
use Rattle.c_parse_expr.specs.declared.step.Step.TheVariants.{Index, Postfix, Infix, Conditional}
use Rattle.c_parse_expr.specs.Operations.{with}

abbrev pub step : Step → steps.Step
step (Index at i) = steps.At at (expression i.value)
step (Postfix op at) = steps.After op at
step (Infix at op e) = with op at (expression e.value)
step (Conditional at a b) = steps.Choose at (expression a.value) (expression b.value)

-- the greatest height of its parts
abbrev pub over : steps.Step → ℕ
over (steps.At at i) = height i
over (steps.After op at) = 0
over (steps.With at op e) = height e
over (steps.Choose at a b) = max (height a) (height b)
over (steps.Set at op e) = height e
over (steps.And at e) = height e
