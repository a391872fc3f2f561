-- What is claimed of the bytes of written images.
use Rattle.std.specs.Prelude.{ℕ, ◌<◌, List}
use Rattle.std.specs.List.{AllByRecursion}
use Rattle.c_syntax.specs.Program.{ExternalDeclaration}
use Rattle.c_resolved.specs.Program.{resolve}
use Rattle.linear_code.specs.Program.{LinearProgram}
use Rattle.pe_write.specs.Program.{parts_of}
use Rattle.pe_write.specs.Written.{written}
use Rattle.image_link.specs.Fits.{FitsProgram}
use Rattle.image_link.specs.Linked.{linked}

-- the list can be the bytes of a file
abbrev pub AreOctets : List ℕ → Type 0
AreOctets bytes = AllByRecursion (λ b. b < 256) bytes

-- the image of a program that can be linked
abbrev pub LinkedAreOctets : Type 0
LinkedAreOctets =
    (p : LinearProgram) → FitsProgram p → AreOctets p.globals
    → AreOctets (written (parts_of (linked p)))

-- the globals of the program that a text is resolved to
abbrev pub ResolvedAreOctets : Type 0
ResolvedAreOctets =
    (text : List ℕ) (xs : List ExternalDeclaration) → AreOctets (resolve text xs).program.globals
