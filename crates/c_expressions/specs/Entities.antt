-- What names mean, wherever it lies in memory.
use Rattle.c_expressions.specs.declared.scopes.Entity.{Entity as Entity'}
use Rattle.c_expressions.specs.declared.scopes.Entity.TheVariants as entities
use Rattle.c_resolved.specs.Expressions.{Entity, LocalVariable, LocalArray, GlobalVariable, GlobalArray, UserFunction, BuiltInFunction, CodeFunction, AbnormalFunction, AddingFunction, RemovingFunction, BuiltInConstant}
use Rattle.c_resolved.specs.Program.{parameter_types}

abbrev pub entity : Entity' → Entity
entity (entities.LocalVariable number t) = LocalVariable number t
entity (entities.LocalArray number t) = LocalArray number t
entity (entities.GlobalVariable a t) = GlobalVariable a t
entity (entities.GlobalArray a t) = GlobalArray a t
entity (entities.UserFunction number t ps) = UserFunction number t (parameter_types ps.now)
entity (entities.BuiltInFunction f) = BuiltInFunction f
entity entities.CodeFunction = CodeFunction
entity entities.AbnormalFunction = AbnormalFunction
entity entities.AddingFunction = AddingFunction
entity entities.RemovingFunction = RemovingFunction
entity (entities.BuiltInConstant n) = BuiltInConstant n
