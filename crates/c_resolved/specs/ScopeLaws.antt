-- What is claimed of the program that a text is resolved to.
use Rattle.std.specs.Prelude.{ℕ, List}
use Rattle.c_syntax.specs.Program.{ExternalDeclaration}
use Rattle.c_resolved.specs.Program.{resolve}
use Rattle.c_checked.specs.LocalScopes.{IsScoped}

-- A resolved program names each local where it is declared, whatever rules its text breaks: an
-- expression that is at fault is resolved to a constant, and a name that is declared twice keeps
-- its first meaning.
abbrev pub ResolvedIsScoped : Type 0
ResolvedIsScoped =
    (text : List ℕ) (xs : List ExternalDeclaration) → IsScoped (resolve text xs).program
