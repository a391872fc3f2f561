-- What a refusal of the checker says.
use Rattle.std.specs.Prelude.{◌≡◌, ℕ, List, Some}
use Rattle.c_check.specs.declared.check.CheckErr.{CheckErr}
use Rattle.c_check.specs.declared.check.CheckErr.TheVariants.{Broken, Memory}
use Rattle.c_expressions.specs.Kept.{broken}
use Rattle.c_resolved.specs.Accepted.{reported}
use Rattle.c_syntax.specs.Program.{ExternalDeclaration}

-- the fault that is reported of the program, or that memory ran out
abbrev pub IsRefusal : CheckErr → List ℕ → List ExternalDeclaration → Type 0
IsRefusal (Broken b) text xs = reported text xs ≡ Some (broken b)
IsRefusal Memory text xs = Unit {0}
