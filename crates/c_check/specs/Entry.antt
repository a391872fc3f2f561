-- The function that a run begins with, by the names of the file.
use Rattle.std.specs.Prelude.{◌&&◌, Bool, List}
use Rattle.c_resolved.specs.Operators.{int}
use Rattle.c_resolved.specs.Program.{Main, main_name, main_of, parameter_types, are_main_parameters}
use Rattle.c_resolved.specs.Scopes.{Scope, meaning_in}
use Rattle.c_resolved.specs.Types.{same_type}
use Rattle.c_syntax.specs.declared.declaration.Parameter.{Parameter}
use Rattle.c_syntax.specs.declared.expression.CType.{CType}
use Rattle.c_syntax.specs.Program.{ExternalDeclaration}

abbrev pub main_in : List ExternalDeclaration → Scope → Main
main_in xs names = main_of xs (meaning_in names main_name)

-- it returns an `int`, and takes nothing or a `long long`
abbrev pub is_main : CType → List Parameter → Bool
is_main returns ps = same_type returns int && are_main_parameters (parameter_types ps)
