-- The names of all open blocks.
use Rattle.std.specs.Prelude.{List, [], ◌∷◌, ◌++◌}
use Rattle.c_expressions.specs.declared.text_hasher.TextHasher.{TextHasher}
use Rattle.c_resolved.specs.Scopes.{Scope}

-- the names of the innermost block, those of each block around it, the innermost first and the file
-- last, and what hashes them
pub record SymbolTable : Type 0 where
  pub block : Scope
  pub around : List Scope
  pub hasher : TextHasher

-- the names of blocks, innermost first
abbrev pub names_around : List Scope → Scope
names_around [] = []
names_around (b ∷ bs) = b ++ names_around bs

-- all names that are visible in the innermost block
abbrev pub scopes_of : SymbolTable → Scope
scopes_of t = t.block ++ names_around t.around

-- at the begin of a block
abbrev pub opened : SymbolTable → SymbolTable
opened t = record { block = []; around = t.block ∷ t.around; hasher = t.hasher }

abbrev pub with_block : SymbolTable → Scope → SymbolTable
with_block t b = record { block = b; around = t.around; hasher = t.hasher }

-- after the end of a block that is in these; the file has no end
abbrev pub closed_into : SymbolTable → List Scope → SymbolTable
closed_into t [] = t
closed_into t (b ∷ bs) = record { block = b; around = bs; hasher = t.hasher }

-- after the end of the innermost block
abbrev pub closed : SymbolTable → SymbolTable
closed t = closed_into t t.around
