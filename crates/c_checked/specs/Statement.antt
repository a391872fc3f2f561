-- Statements, wherever they lie in memory.
use Rattle.std.specs.Prelude.{ℕ, List, [], ◌∷◌, map, Option, Some, None, option_map}
use Rattle.c_checked.specs.declared.statement.Declared.{Declared as Declared'}
use Rattle.c_checked.specs.declared.statement.StackedVariable.{StackedVariable}
use Rattle.c_checked.specs.declared.statement.Filter.{Filter as Filter'}
use Rattle.c_checked.specs.declared.statement.Filter.TheVariants as filters
use Rattle.c_checked.specs.declared.statement.Stmt.{Stmt}
use Rattle.c_checked.specs.declared.statement.Stmt.TheOpen as opened
use Rattle.c_checked.specs.declared.statement.Stmt.TheFolds.{fold-Stmt}
use Rattle.c_checked.specs.Expression.{Expression, expression}

pub record Declared : Type 0 where
  pub local : ℕ
  pub stacked : Option StackedVariable
  pub value : Option Expression

pub data Filter : Type 0 where
  Always : Filter
  Funclet : ℕ → Expression → Filter

mutual
  pub data Statement : Type 0 where
    Declare : Declared → Statement
    Block : Statements → Statement
    Evaluate : Option Expression → Statement
    If : Expression → Statement → Statement
    IfElse : Expression → Statement → Statement → Statement
    -- what is declared, what is evaluated first, the condition, what is evaluated after each
    -- iteration, the body
    For : List Declared → Option Expression → Option Expression → Option Expression → Statement
        → Statement
    DoWhile : Statement → Expression → Statement
    Return : Option Expression → Statement
    Break : Statement
    Continue : Statement
    Leave : Statement
    TryExcept : Statements → Filter → Statements → Statement
    TryFinally : Statements → ℕ → Statements → Statement

  pub data Statements : Type 0 where
    Empty : Statements
    Then : Statement → Statements → Statements

-- ---- the code's statements

abbrev pub statements : List Statement → Statements
statements [] = Empty
statements (s ∷ ss) = Then s (statements ss)

abbrev pub declared : Declared' → Declared
declared d =
    record { local = d.local; stacked = d.stacked; value = option_map expression d.value }

abbrev pub filter : Filter' → Filter
filter filters.Always = Always
filter (filters.Funclet k e) = Funclet k (expression e)

abbrev pub choice : Expression → Statement → Option Statement → Statement
choice c s None = If c s
choice c s (Some t) = IfElse c s t

abbrev pub layer : opened.Stmt-F Statement → Statement
layer (opened.Declare d) = Declare (declared d)
layer (opened.Block ss) = Block (statements ss.items)
layer (opened.Evaluate e) = Evaluate (option_map expression e)
layer (opened.If c s t) = choice (expression c) s.value (option_map (λ b. b.value) t)
layer (opened.For ds first c next s) =
    For (map declared ds.items) (option_map expression first) (option_map expression c)
    (option_map expression next) s.value
layer (opened.Do s c) = DoWhile s.value (expression c)
layer (opened.Return e) = Return (option_map expression e)
layer opened.Break = Break
layer opened.Continue = Continue
layer opened.Leave = Leave
layer (opened.TryExcept b f h) = TryExcept (statements b.items) (filter f) (statements h.items)
layer (opened.TryFinally b k l) = TryFinally (statements b.items) k (statements l.items)

abbrev pub statement : Stmt → Statement
statement = fold-Stmt Statement layer
