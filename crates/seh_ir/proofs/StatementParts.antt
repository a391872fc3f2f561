-- What is known of each expression in statements, of each filter's, of each declared local, and of
-- the base of each declared variable on the data stack.
use Rattle.std.proofs.Common.{ℕ, List, [], ◌∷◌}
use Rattle.std.specs.Prelude.{Option, Some, None}
use Rattle.seh_ir.specs.Words.{StackedVariable, Expression, Declared, Filter, Always, Funclet, Statement, Declare, Block, Evaluate, If, IfElse, For, DoWhile, Return, Break, Continue, Leave, TryExcept, TryFinally, Statements, Empty, Then}

abbrev pub OptionalHas : (Expression → Type 0) → Option Expression → Type 0
OptionalHas E None = Unit {0}
OptionalHas E (Some e) = E e

abbrev pub StackedHas : (ℕ → Type 0) → Option StackedVariable → Type 0
StackedHas D None = Unit {0}
StackedHas D (Some v) = D v.base

abbrev pub DeclaredHas : (Expression → Type 0) → (ℕ → Type 0) → Declared → Type 0
DeclaredHas E D d = D d.local × OptionalHas E d.value × StackedHas D d.stacked

abbrev pub AllDeclaredHave : (Expression → Type 0) → (ℕ → Type 0) → List Declared → Type 0
AllDeclaredHave E D [] = Unit {0}
AllDeclaredHave E D (d ∷ ds) = DeclaredHas E D d × AllDeclaredHave E D ds

abbrev pub FilterHas : (Expression → Type 0) → Filter → Type 0
FilterHas F Always = Unit {0}
FilterHas F (Funclet k e) = F e

module _ (E F : Expression → Type 0) (D : ℕ → Type 0) where
  abbrev mutual
    pub StatementHas : Statement → Type 0
    StatementHas (Declare d) = DeclaredHas E D d
    StatementHas (Block ss) = StatementsHave ss
    StatementHas (Evaluate e) = OptionalHas E e
    StatementHas (If c s) = E c × StatementHas s
    StatementHas (IfElse c s t) = E c × StatementHas s × StatementHas t
    StatementHas (For ds first c next s) =
        AllDeclaredHave E D ds × OptionalHas E first × OptionalHas E c × OptionalHas E next
        × StatementHas s
    StatementHas (DoWhile s c) = StatementHas s × E c
    StatementHas (Return e) = OptionalHas E e
    StatementHas Break = Unit {0}
    StatementHas Continue = Unit {0}
    StatementHas Leave = Unit {0}
    StatementHas (TryExcept body filter block) =
        StatementsHave body × FilterHas F filter × StatementsHave block
    StatementHas (TryFinally body k last) = StatementsHave body × StatementsHave last

    pub StatementsHave : Statements → Type 0
    StatementsHave Empty = Unit {0}
    StatementsHave (Then s ss) = StatementHas s × StatementsHave ss

-- ---- what is known of all expressions and locals

module _ (E F : Expression → Type 0) (D : ℕ → Type 0) (of_value : (e : Expression) → E e)
    (of_filter : (e : Expression) → F e) (of_local : (x : ℕ) → D x) where
  optional_has : (e : Option Expression) → OptionalHas E e
  optional_has None = tt
  optional_has (Some e) = of_value e

  stacked_has : (v : Option StackedVariable) → StackedHas D v
  stacked_has None = tt
  stacked_has (Some v) = of_local v.base

  declared_has : (d : Declared) → DeclaredHas E D d
  declared_has d = (of_local d.local, optional_has d.value, stacked_has d.stacked)

  all_declared_have : (ds : List Declared) → AllDeclaredHave E D ds
  all_declared_have [] = tt
  all_declared_have (d ∷ ds) = (declared_has d, all_declared_have ds)

  filter_has : (f : Filter) → FilterHas F f
  filter_has Always = tt
  filter_has (Funclet k e) = of_filter e

  mutual
    -- of a statement
    pub statement_has : (s : Statement) → StatementHas E F D s
    statement_has (Declare d) = declared_has d
    statement_has (Block ss) = statements_have ss
    statement_has (Evaluate e) = optional_has e
    statement_has (If c s) = (of_value c, statement_has s)
    statement_has (IfElse c s t) = (of_value c, statement_has s, statement_has t)
    statement_has (For ds first c next s) = (
      all_declared_have ds,
      optional_has first,
      optional_has
          c,
      optional_has next,
      statement_has s,
    )
    statement_has (DoWhile s c) = (statement_has s, of_value c)
    statement_has (Return e) = optional_has e
    statement_has Break = tt
    statement_has Continue = tt
    statement_has Leave = tt
    statement_has (TryExcept body filter block) = (
      statements_have body,
      filter_has filter,
      statements_have block,
    )
    statement_has (TryFinally body k last) = (statements_have body, statements_have last)

    -- of statements
    pub statements_have : (ss : Statements) → StatementsHave E F D ss
    statements_have Empty = tt
    statements_have (Then s ss) = (statement_has s, statements_have ss)
