-- Statements, wherever they lie in memory.
use Rattle.std.specs.Prelude.{ℕ, List, [], ◌∷◌, map, Option, Some, None, option_map}
use Rattle.c_syntax.specs.declared.declaration.Length.{Length}
use Rattle.c_syntax.specs.declared.expression.Base.{Base}
use Rattle.c_syntax.specs.declared.expression.Identifier.{Identifier}
use Rattle.c_syntax.specs.declared.statement.ForInitialiser.{ForInitialiser as ForInitialiser'}
use Rattle.c_syntax.specs.declared.statement.ForInitialiser.TheVariants as firsts
use Rattle.c_syntax.specs.declared.statement.Local.{Local as Local'}
use Rattle.c_syntax.specs.declared.statement.Stmt.{Stmt}
use Rattle.c_syntax.specs.declared.statement.Stmt.TheOpen as opened
use Rattle.c_syntax.specs.declared.statement.Stmt.TheFolds.{fold-Stmt}
use Rattle.c_syntax.specs.Expression.{Expression, expression}

pub record Local : Type 0 where
  pub pointers : ℕ
  pub name : Identifier
  pub length : Option Length
  pub initialiser : Option Expression

pub data ForInitialiser : Type 0 where
  Declaring : Base → List Local → ForInitialiser
  Evaluating : Option Expression → ForInitialiser

mutual
  pub data Statement : Type 0 where
    Declare : Base → List Local → Statement
    Block : Statements → Statement
    Evaluate : Option Expression → Statement
    If : ℕ → Expression → Statement → Statement
    IfElse : ℕ → Expression → Statement → Statement → Statement
    While : ℕ → Expression → Statement → Statement
    DoWhile : Statement → ℕ → Expression → Statement
    For : ℕ → ForInitialiser → Option Expression → Option Expression → Statement → Statement
    Return : ℕ → Option Expression → Statement
    Break : ℕ → Statement
    Continue : ℕ → Statement
    Leave : ℕ → Statement
    TryExcept : Statements → ℕ → Expression → Statements → Statement
    TryFinally : Statements → ℕ → Statements → Statement

  pub data Statements : Type 0 where
    Empty : Statements
    Then : Statement → Statements → Statements

-- ---- the code's statements

abbrev pub statements : List Statement → Statements
statements [] = Empty
statements (s ∷ ss) = Then s (statements ss)

abbrev pub local : Local' → Local
local l =
    record {
      pointers = l.pointers;
      name = l.name;
      length = l.length;
      initialiser = option_map expression l.initialiser;
    }

abbrev pub first : ForInitialiser' → ForInitialiser
first (firsts.Declaration d) = Declaring d.base (map local d.locals.items)
first (firsts.Expression e) = Evaluating (option_map expression e)

abbrev pub choice : ℕ → Expression → Statement → Option Statement → Statement
choice at c s None = If at c s
choice at c s (Some t) = IfElse at c s t

abbrev pub node : opened.Stmt-F Statement → Statement
node (opened.Declaration d) = Declare d.base (map local d.locals.items)
node (opened.Block ss) = Block (statements ss.items)
node (opened.Expression e) = Evaluate (option_map expression e)
node (opened.If at c s t) = choice at (expression c) s.value (option_map (λ b. b.value) t)
node (opened.While at c s) = While at (expression c) s.value
node (opened.Do s at c) = DoWhile s.value at (expression c)
node (opened.For at f c n s) =
    For at (first f) (option_map expression c) (option_map expression n) s.value
node (opened.Return at e) = Return at (option_map expression e)
node (opened.Break at) = Break at
node (opened.Continue at) = Continue at
node (opened.Leave at) = Leave at
node (opened.TryExcept b at f h) =
    TryExcept (statements b.items) at (expression f) (statements h.items)
node (opened.TryFinally b at l) = TryFinally (statements b.items) at (statements l.items)

abbrev pub statement : Stmt → Statement
statement = fold-Stmt Statement node
