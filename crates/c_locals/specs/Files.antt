-- The names, the bytes and the faults of the file, wherever they lie in memory.
use Rattle.std.specs.Prelude.{◌≡◌, [], None}
use Rattle.c_locals.specs.declared.globals.File.{File as File'}
use Rattle.c_expressions.specs.Kept.{least_of, kept}
use Rattle.c_resolved.specs.Program.{File}

pub record IsFile (f : File') (d : File) : Type 0 where
  pub scope : f.names.block ≡ d.scope
  pub around : f.names.around ≡ []
  pub bytes : f.bytes.items ≡ d.bytes
  pub functions : f.functions ≡ d.functions
  pub faults : least_of f.faults ≡ kept None d.faults

-- after it the file is what the rule makes of the file before, whatever that is
abbrev pub DeclaresByRule : File' → File' → (File → File) → Type 0
DeclaresByRule before after rule = (d : File) → IsFile before d → IsFile after (rule d)
