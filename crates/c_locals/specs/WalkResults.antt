-- What a walk made of declarations and statements, and what it carries on.
use Rattle.std.specs.Prelude.{◌≡◌, List, ◌++◌, map, option_map}
use Rattle.c_checked.specs.declared.statement.Declared.{Declared}
use Rattle.c_checked.specs.Expression.{expression}
use Rattle.c_checked.specs.Statement as checked
use Rattle.c_checked.specs.Statement.{declared}
use Rattle.c_expressions.specs.Kept.{least_of, kept}
use Rattle.c_expressions.specs.SymbolTables.{SymbolTable, with_block}
use Rattle.c_locals.specs.declared.declarations.Beginning.{Beginning}
use Rattle.c_locals.specs.declared.environment.FunctionState.{FunctionState}
use Rattle.c_locals.specs.Views.{numbering}
use Rattle.c_resolved.specs.Statements.{ResolvedStatements, ResolvedForInitialiser}

-- a declared local as a statement
abbrev pub declares : Declared → checked.Statement
declares d = checked.Declare (declared d)

-- what was made, the numbering and the names of the block after it, those around it as before, and
-- its faults after those before
pub record Resolves (was now : SymbolTable) (before after : FunctionState)
    (made : List checked.Statement) (r : ResolvedStatements) : Type 0 where
  pub done : made ≡ r.done
  pub counts : numbering after ≡ r.counts
  pub names : now ≡ with_block was r.block
  pub faults : least_of after.faults ≡ kept (least_of before.faults) r.faults

-- what a `for` does first, likewise
pub record IsBeginning (was now : SymbolTable) (before after : FunctionState) (b : Beginning)
    (r : ResolvedForInitialiser) : Type 0 where
  pub declared : map declared b.declared.items ≡ r.declared
  pub first : option_map expression b.first ≡ r.first.value
  pub counts : numbering after ≡ r.resolved.counts
  pub names : now ≡ with_block was r.resolved.block
  pub faults : least_of after.faults ≡ kept (least_of before.faults)
      (r.resolved.faults ++ r.first.faults)
