-- The checked functions of a program, wherever they lie in memory.
use Rattle.std.specs.Prelude.{◌≡◌, ◌++◌, map}
use Rattle.c_check.specs.declared.functions.Progress.{Progress}
use Rattle.c_checked.specs.Program.{function}
use Rattle.c_expressions.specs.Kept.{least_of, kept}
use Rattle.c_resolved.specs.Program.{DeclaredFunctions}

-- the functions that a walk made, the number of the next funclet and the least fault after them are
-- what the definition says
pub record AddsFunctions (before after : Progress) (f : DeclaredFunctions) : Type 0 where
  pub done : map function after.done.items ≡ map function before.done.items ++ f.done
  pub number : after.number ≡ f.number
  pub faults : least_of after.faults ≡ kept (least_of before.faults) f.faults
