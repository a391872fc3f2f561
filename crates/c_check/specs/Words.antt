-- The words of this crate's proofs: what its lemma files import, by the crates below.
pub use Rattle.c_syntax.specs.Program.{external_declaration, ExternalDeclaration, Globals, Function}
pub use Rattle.c_syntax.specs.declared.declaration.Parameter.{Parameter}
pub use Rattle.c_syntax.specs.declared.expression.CType.{CType}
pub use Rattle.c_syntax.specs.declared.expression.Identifier.{Identifier}
pub use Rattle.c_checked.specs.Program.{function, program_of}
pub use Rattle.c_resolved.specs.Accepted.{Accepted, reported, rank, is_earlier}
pub use Rattle.c_resolved.specs.Expressions.{UserFunction, FaultAt, Entity, LocalVariable}
pub use Rattle.c_resolved.specs.Program.{File, parameter_types, named, file_of, with_parameters, parameter_faults, result_size, around, function_of, functions_of, place_of_function, empty_file, resolve, with_external_declaration}
pub use Rattle.c_resolved.specs.Scopes.{spelled, Scope, same_bytes, meaning_in, built_ins}
pub use Rattle.c_resolved.specs.Statements.{is_taken, with_name, unless_holds, Numbering, resolve_statements, is_some}
pub use Rattle.c_resolved.specs.declared.fault.Fault.TheVariants.{Duplicate, TypeClash, NoMain, UnknownName, NotLvalue, ArgCount, LeaveOutsideTry, JumpOutOfFinally, JumpOutsideLoop, CodeOutsideFilter, InfoOutsideFilter, AbnormalOutsideFinally, BadInitialiser}
pub use Rattle.c_expressions.specs.Kept.{least_of, kept, broken, kept_one}
pub use Rattle.c_expressions.specs.SymbolTables.{SymbolTable, names_around, scopes_of, opened, closed, with_block}
pub use Rattle.c_locals.specs.Files.{IsFile}
pub use Rattle.c_check.specs.Parameters.{sizes_of, variables_of, faults_of_parameter}
pub use Rattle.c_check.specs.declared.functions.Progress.{Progress}
