-- What the code makes of an expression of a statement, and what it keeps.
use Rattle.std.specs.Prelude.{◌≡◌, ℕ, ◌+◌, Option, Some, None, option_map}
use Rattle.c_checked.specs.declared.expression.Expr.{Expr}
use Rattle.c_checked.specs.Expression.{Expression, expression}
use Rattle.c_checked.specs.Statement.{Filter, Always, Funclet}
use Rattle.c_expressions.specs.declared.least.LeastFault.{LeastFault}
use Rattle.c_expressions.specs.Kept.{least_of, kept}
use Rattle.c_resolved.specs.Statements.{Value, Optional, ResolvedFilter}

-- a value, and its faults after those before
pub record Evaluates (before after : LeastFault) (e : Expr) (v : Value) : Type 0 where
  pub value : expression e ≡ v.value
  pub faults : least_of after ≡ kept (least_of before) v.faults

pub record MayEvaluate (before after : LeastFault) (e : Option Expr) (v : Optional) : Type 0 where
  pub value : option_map expression e ≡ v.value
  pub faults : least_of after ≡ kept (least_of before) v.faults

-- ---- filters: without an answer one is always the same

abbrev pub filter_with : ℕ → Option Expression → Filter
filter_with number None = Always
filter_with number (Some e) = Funclet number e

abbrev pub number_after : ℕ → Option Expression → ℕ
number_after number None = number
number_after number (Some e) = number + 1

-- the answer of a filter, whatever its number is
pub record ResolvesFilter (before after : LeastFault) (e : Option Expr) (r : ℕ
    → ResolvedFilter) : Type 0 where
  pub filter : (number : ℕ) → filter_with number (option_map expression e) ≡ (r number).filter
  pub number : (number : ℕ) → number_after number (option_map expression e) ≡ (r number).number
  pub faults : (number : ℕ) → least_of after ≡ kept (least_of before) (r number).faults
