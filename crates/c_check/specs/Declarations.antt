-- External declarations, one by one.
use Rattle.std.specs.Prelude.{ℕ, List}
use Rattle.c_locals.specs.declared.globals.File.{File as File'}
use Rattle.c_locals.specs.Files.{IsFile}
use Rattle.c_resolved.specs.Program.{File, with_external_declaration}
use Rattle.c_syntax.specs.Program.{ExternalDeclaration}

-- whatever the file is before, afterwards it has the names and the bytes of the declaration too
abbrev pub Declares : List ℕ → ExternalDeclaration → File' → File' → Type 0
Declares text x before after =
    (d : File) → IsFile before d → IsFile after (with_external_declaration text x d)
