-- The place of a function by its number.
use Rattle.std.proofs.Common.{ℕ, List, map, drop}
use Rattle.c_check.specs.Words.{place_of_function, external_declaration}
use Rattle.c_syntax.specs.declared.declaration.ExternalDeclaration.{ExternalDeclaration as ExternalDeclaration'}

abbrev pub place_from : List ExternalDeclaration' → ℕ → ℕ → ℕ
place_from list i k = place_of_function (map external_declaration (drop i list)) k
