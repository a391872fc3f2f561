-- Words that C reserves and that no rule uses (C11, 6.4.1).
use Rattle.std.specs.Prelude.{ℕ, List, [], ◌∷◌, Option, find, codes}
use Rattle.std.specs.Str.{bytes_eq}
use Rattle.c_lex.specs.declared.reserved.Reserved.{Reserved}
use Rattle.c_lex.specs.declared.reserved.Reserved.TheVariants.{Auto, Case, Const, Default, Double}
use Rattle.c_lex.specs.declared.reserved.Reserved.TheVariants.{Enum, Extern, Float, Goto, Inline}
use Rattle.c_lex.specs.declared.reserved.Reserved.TheVariants.{Register, Restrict, Sizeof, Static}
use Rattle.c_lex.specs.declared.reserved.Reserved.TheVariants.{Struct, Switch, Typedef, Union}
use Rattle.c_lex.specs.declared.reserved.Reserved.TheVariants.{Volatile}

abbrev pub spelling : Reserved → List ℕ
spelling Auto = codes "auto"
spelling Case = codes "case"
spelling Const = codes "const"
spelling Default = codes "default"
spelling Double = codes "double"
spelling Enum = codes "enum"
spelling Extern = codes "extern"
spelling Float = codes "float"
spelling Goto = codes "goto"
spelling Inline = codes "inline"
spelling Register = codes "register"
spelling Restrict = codes "restrict"
spelling Sizeof = codes "sizeof"
spelling Static = codes "static"
spelling Struct = codes "struct"
spelling Switch = codes "switch"
spelling Typedef = codes "typedef"
spelling Union = codes "union"
spelling Volatile = codes "volatile"

abbrev pub reserved_words : List Reserved
reserved_words =
    Auto ∷ Case ∷ Const ∷ Default ∷ Double ∷
    Enum ∷ Extern ∷ Float ∷ Goto ∷ Inline ∷
    Register ∷ Restrict ∷ Sizeof ∷ Static ∷ Struct ∷
    Switch ∷ Typedef ∷ Union ∷ Volatile ∷ []

-- the reserved word that is spelled so
unfoldable pub reserved_of : List ℕ → Option Reserved
reserved_of word = find (λ r. bytes_eq (spelling r) word) reserved_words
