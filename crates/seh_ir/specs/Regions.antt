-- The regions of a body: one for each `__try`, inner ones first.
use Rattle.std.specs.Prelude.{ℕ, ◌+◌, ◌-◌, List, [], ◌∷◌, ◌++◌}
use Rattle.c_checked.specs.Statement.{Filter, Always, Funclet, Statement, Declare, Block, Evaluate, If, IfElse, For, DoWhile, Return, Break, Continue, Leave, TryExcept, TryFinally, Statements, Empty, Then}
use Rattle.linear_code.specs.declared.program.Region.{Region}
use Rattle.linear_code.specs.declared.program.RegionKind.{RegionKind}
use Rattle.linear_code.specs.declared.program.RegionKind.TheVariants as kinds
use Rattle.lowering_sizes.specs.Sizes.{expression_size, discarded_size, condition_size, all_declared_size, statement_size, statements_size}

-- of a `__try` with an `__except` block at this target
abbrev pub except_kind : Filter → ℕ → RegionKind
except_kind Always target = kinds.Always target
except_kind (Funclet k e) target = kinds.Filter (k - 1) target

abbrev pub region : ℕ → ℕ → RegionKind → Region
region begin end kind = record { begin = begin; end = end; kind = kind }

abbrev mutual
  pub statement_regions : Statement → ℕ → List Region
  statement_regions (Declare d) at = []
  statement_regions (Block ss) at = statements_regions ss at
  statement_regions (Evaluate e) at = []
  statement_regions (If c s) at = statement_regions s (at + expression_size c + 1)
  statement_regions (IfElse c s t) at =
      statement_regions s (at + expression_size c + 1)
      ++ statement_regions t (at + expression_size c + 1 + statement_size s + 1)
  statement_regions (For ds first c next s) at =
      statement_regions s (at + all_declared_size ds + discarded_size first + condition_size c)
  statement_regions (DoWhile s c) at = statement_regions s at
  statement_regions (Return e) at = []
  statement_regions Break at = []
  statement_regions Continue at = []
  statement_regions Leave at = []
  statement_regions (TryExcept body filter block) at =
      let target = at + statements_size body + 1 in
      statements_regions body at ++ (region at target (except_kind filter target)
      ∷ statements_regions block (target + 2))
  statement_regions (TryFinally body k finally_block) at =
      statements_regions body at ++ region at (at + statements_size body + 1)
      (kinds.Finally (k - 1)) ∷ []

  pub statements_regions : Statements → ℕ → List Region
  statements_regions Empty at = []
  statements_regions (Then s ss) at =
      statement_regions s at ++ statements_regions ss (at + statement_size s)
