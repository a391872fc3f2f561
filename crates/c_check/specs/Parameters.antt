-- Parameters, one by one.
use Rattle.std.specs.Prelude.{ℕ, List, ◌++◌, map, not}
use Rattle.c_operations.specs.declared.operation.Size.{Size}
use Rattle.c_resolved.specs.declared.fault.Fault.TheVariants.{Duplicate, TypeClash}
use Rattle.c_resolved.specs.declared.variable.Variable.{Variable}
use Rattle.c_resolved.specs.Expressions.{FaultAt}
use Rattle.c_resolved.specs.Program.{parameter_variable}
use Rattle.c_resolved.specs.Scopes.{Scope, spelled}
use Rattle.c_resolved.specs.Statements.{is_taken, unless_holds}
use Rattle.c_resolved.specs.Types.{is_scalar, size_of}
use Rattle.c_syntax.specs.declared.declaration.Parameter.{Parameter}

abbrev pub sizes_of : List Parameter → List Size
sizes_of ps = map (λ p. size_of p.of) ps

abbrev pub variables_of : List Parameter → List Variable
variables_of ps = map parameter_variable ps

-- the rules that a parameter breaks where the block has these names
abbrev pub faults_of_parameter : List ℕ → Parameter → Scope → List FaultAt
faults_of_parameter text p block =
    unless_holds (not (is_taken block (spelled text p.name))) p.name.start Duplicate
    ++ unless_holds (is_scalar p.of) p.name.start TypeClash
