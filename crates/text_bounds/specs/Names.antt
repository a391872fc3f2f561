-- How many bytes of a text the names of its functions take.
use Rattle.std.specs.Prelude.{ℕ, ◌+◌, ◌-◌, List, [], ◌∷◌}
use Rattle.c_syntax.specs.Program.{ExternalDeclaration, Globals, Function}

abbrev pub name_bytes : List ExternalDeclaration → ℕ
name_bytes [] = 0
name_bytes (Globals base gs ∷ xs) = name_bytes xs
name_bytes (Function t n ps body ∷ xs) = n.end - n.start + name_bytes xs
