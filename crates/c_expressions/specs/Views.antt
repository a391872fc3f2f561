-- What the checker's values mean.
use Rattle.std.specs.Prelude.{◌++◌, take, drop}
use Rattle.c_expressions.specs.declared.context.Context.{Context}
use Rattle.c_expressions.specs.declared.wanted.Wanted.{Wanted as Wanted'}
use Rattle.c_expressions.specs.declared.wanted.Wanted.TheVariants as wants
use Rattle.c_expressions.specs.SymbolTables.{scopes_of}
use Rattle.c_resolved.specs.Expressions.{Names, Wanted, OfType, ZeroLiteral}
use Rattle.c_resolved.specs.Scopes.{Scope, spelled, meaning_in, built_ins}
pub use Rattle.c_expressions.specs.Entities.{entity}

-- the functions among the built-in names, and the constants
abbrev pub built_in_functions : Scope
built_in_functions = take 8 built_ins

abbrev pub built_in_constants : Scope
built_in_constants = drop 8 built_ins

abbrev pub names_of : Context → Names
names_of c =
    record {
      entity = λ n. meaning_in (built_ins ++ scopes_of c.names.now) (spelled c.text.now n);
      code = c.code;
      information = c.information;
      abnormal = c.abnormal;
    }

abbrev pub wanted : Wanted' → Wanted
wanted (wants.OfType t) = OfType t
wanted wants.ZeroLiteral = ZeroLiteral
