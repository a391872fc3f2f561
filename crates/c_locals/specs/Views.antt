-- Where a statement is, wherever that lies in memory.
use Rattle.std.specs.Prelude.{List, Option, true, option_map}
use Rattle.c_expressions.specs.SymbolTables.{SymbolTable, names_around}
use Rattle.c_locals.specs.declared.environment.Environment.{Environment as Environment'}
use Rattle.c_locals.specs.declared.environment.Reach.{Reach as Reach'}
use Rattle.c_locals.specs.declared.environment.Reach.TheVariants as reaches
use Rattle.c_locals.specs.declared.environment.FunctionState.{FunctionState}
use Rattle.c_resolved.specs.Expressions.{ResolvedExpression, resolve_expression}
use Rattle.c_resolved.specs.Scopes.{Scope}
use Rattle.c_resolved.specs.Statements.{Reach, Nowhere, Beyond, Near, past_finally, Environment, Numbering, Value, Optional, optional, local_value, names_at, filter_names}
use Rattle.c_syntax.specs.declared.declaration.Length.{Length}
use Rattle.c_syntax.specs.declared.expression.CType.{CType}
use Rattle.c_syntax.specs.declared.expression.Expr.{Expr}
use Rattle.c_syntax.specs.Expression.{Expression, expression}

abbrev pub reach : Reach' → Reach
reach reaches.Nowhere = Nowhere
reach reaches.Beyond = Beyond
reach reaches.Near = Near

-- in a block that these are around
abbrev pub environment : Environment' → List Scope → Environment
environment a around =
    record {
      text = a.text.now;
      outer = names_around around;
      returns = a.returns;
      loop = reach a.loops;
      body = reach a.body;
      function = reach a.function;
      code = a.code;
      abnormal = a.abnormal;
    }

abbrev pub numbering : FunctionState → Numbering
numbering w =
    record { sizes = w.sizes.items; variables = w.variables.items; number = w.number }

-- ---- further inside

abbrev pub in_loop : Environment → Environment
in_loop a = record a { loop = Near }

-- the body of a `__try`
abbrev pub in_body : Environment → Environment
in_body a = record a { body = Near }

-- the block of an `__except`
abbrev pub in_handler : Environment → Environment
in_handler a = record a { code = true }

-- the block of a `__finally`
abbrev pub in_finally : Environment → Environment
in_finally a =
    record a {
      loop = past_finally a.loop;
      body = past_finally a.body;
      function = Beyond;
      abnormal = true;
    }

-- ---- expressions

abbrev pub resolved_at : Environment → Scope → Expression → ResolvedExpression
resolved_at a block e = resolve_expression (names_at a block) e

abbrev pub filter_resolved_at : Environment → Scope → Expression → ResolvedExpression
filter_resolved_at a block e = resolve_expression (filter_names a block) e

-- ---- expressions of the text, in the innermost of these blocks

abbrev pub resolved_in : Environment' → SymbolTable → Expr → ResolvedExpression
resolved_in a names e = resolved_at (environment a names.around) names.block (expression e)

abbrev pub filter_resolved_in : Environment' → SymbolTable → Expr → ResolvedExpression
filter_resolved_in a names e =
    filter_resolved_at (environment a names.around) names.block (expression e)

-- the value of a local of a type, or of an array of this length
abbrev pub local_value_in : CType → Option Length → Environment' → SymbolTable → Option Expr
    → Optional
local_value_in t length a names e =
    local_value (names_at (environment a names.around) names.block) t length
    (option_map expression e)

-- by a rule on its value, where there is an expression
abbrev pub optional_in : (Expression → ResolvedExpression → Value) → Environment' → SymbolTable
    → Option Expr → Optional
optional_in rule a names e =
    optional (λ x. rule x (resolved_at (environment a names.around) names.block x))
    (option_map expression e)
