-- ExternalDeclaration declarations, wherever they lie in memory.
use Rattle.std.specs.Prelude.{ℕ, List, map, Option, option_map}
use Rattle.c_syntax.specs.declared.declaration.Constant.{Constant}
use Rattle.c_syntax.specs.declared.declaration.ExternalDeclaration.{ExternalDeclaration as ExternalDeclaration'}
use Rattle.c_syntax.specs.declared.declaration.ExternalDeclaration.TheVariants as external_declarations
use Rattle.c_syntax.specs.declared.declaration.Global.{Global as Global'}
use Rattle.c_syntax.specs.declared.declaration.Initialiser.{Initialiser as Initialiser'}
use Rattle.c_syntax.specs.declared.declaration.Initialiser.TheVariants as initialisers
use Rattle.c_syntax.specs.declared.declaration.Length.{Length}
use Rattle.c_syntax.specs.declared.declaration.Parameter.{Parameter}
use Rattle.c_syntax.specs.declared.expression.Base.{Base}
use Rattle.c_syntax.specs.declared.expression.CType.{CType}
use Rattle.c_syntax.specs.declared.expression.Identifier.{Identifier}
use Rattle.c_syntax.specs.Statement.{Statements, statement, statements}

pub data Initialiser : Type 0 where
  Single : Constant → Initialiser
  Several : ℕ → List Constant → Initialiser

pub record Global : Type 0 where
  pub pointers : ℕ
  pub name : Identifier
  pub length : Option Length
  pub initialiser : Option Initialiser

pub data ExternalDeclaration : Type 0 where
  Globals : Base → List Global → ExternalDeclaration
  Function : CType → Identifier → List Parameter → Statements → ExternalDeclaration

-- ---- the code's declarations

abbrev pub initialiser : Initialiser' → Initialiser
initialiser (initialisers.Single c) = Single c
initialiser (initialisers.List at cs) = Several at cs.items

abbrev pub global : Global' → Global
global g =
    record {
      pointers = g.pointers;
      name = g.name;
      length = g.length;
      initialiser = option_map initialiser g.initialiser;
    }

abbrev pub external_declaration : ExternalDeclaration' → ExternalDeclaration
external_declaration (external_declarations.Globals base gs) = Globals base (map global gs.items)
external_declaration (external_declarations.Function returns name ps body) =
    Function returns name ps.items (statements (map statement body.items))
