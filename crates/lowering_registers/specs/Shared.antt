-- Which locals of a function stand in registers: the first seven that no filter and no `__finally`
-- block of it names, without those of variables on the data stack and of its base.
--
-- The main definition: `register_locals`.
use Rattle.std.specs.Prelude.{ℕ, zero, suc, ◌+◌, Bool, true, false, ◌||◌, nat_eq, List, [], ◌∷◌, length, take, Option, Some, None}
use Rattle.c_checked.specs.Statement.{Declared, Statement, Declare, Block, Evaluate, If, IfElse, For, DoWhile, Return, Break, Continue, Leave, TryExcept, TryFinally, Statements, Empty, Then}
use Rattle.c_checked.specs.declared.function.StackedParameter.{StackedParameter}
use Rattle.c_checked.specs.declared.statement.StackedVariable.{StackedVariable}
use Rattle.c_checked.specs.Program.{DataFrame, Function}
use Rattle.lowering_registers.specs.Naming.{filter_names, statements_name}

-- it is declared on the data stack
abbrev pub is_declared_at : ℕ → Option StackedVariable → (local : ℕ) → Bool
is_declared_at x None local = false
is_declared_at x (Some v) local = nat_eq x local

abbrev pub is_stacked : ℕ → List Declared → Bool
is_stacked x [] = false
is_stacked x (d ∷ ds) = is_declared_at x d.stacked d.local || is_stacked x ds

-- a filter or a `__finally` block of a part names it, or the part declares it on the data stack
abbrev mutual
  pub statement_shares : ℕ → Statement → Bool
  statement_shares x (Declare d) = is_declared_at x d.stacked d.local
  statement_shares x (Block ss) = statements_share x ss
  statement_shares x (Evaluate e) = false
  statement_shares x (If c s) = statement_shares x s
  statement_shares x (IfElse c s t) = statement_shares x s || statement_shares x t
  statement_shares x (For ds first c next s) = is_stacked x ds || statement_shares x s
  statement_shares x (DoWhile s c) = statement_shares x s
  statement_shares x (Return e) = false
  statement_shares x Break = false
  statement_shares x Continue = false
  statement_shares x Leave = false
  statement_shares x (TryExcept body filter block) =
      statements_share x body || (filter_names x filter || statements_share x block)
  statement_shares x (TryFinally body k finally_block) =
      statements_share x body || statements_name x finally_block

  pub statements_share : ℕ → Statements → Bool
  statements_share x Empty = false
  statements_share x (Then s ss) = statement_shares x s || statements_share x ss

-- a parameter that is brought to the data stack
abbrev pub is_brought : ℕ → List StackedParameter → Bool
is_brought x [] = false
is_brought x (p ∷ ps) = nat_eq x p.parameter || is_brought x ps

-- it, or the base
abbrev pub is_kept : ℕ → Option DataFrame → Bool
is_kept x None = false
is_kept x (Some d) = nat_eq x d.base || is_brought x d.parameters

-- of so many locals from a number on, those that aren't shared, in their order
abbrev pub unshared_if : Bool → ℕ → List ℕ → List ℕ
unshared_if true x others = others
unshared_if false x others = x ∷ others

abbrev pub unshared : Option DataFrame → Statements → ℕ → ℕ → List ℕ
unshared frame body x zero = []
unshared frame body x (suc n) =
    unshared_if (is_kept x frame || statements_share x body) x (unshared frame body (x + 1) n)

-- parameters come first, then the others in the order of their declarations
abbrev pub own_locals : Function → ℕ
own_locals f = length f.parameters + length f.locals

-- the first seven of a function's parameters and locals, in the order of their declarations, that
-- aren't shared, whose variables don't stand on the data stack, and that aren't its base
-- (`is_kept`) (own). They may stand in registers (Microsoft x64 ABI, "Callee-saved registers").
-- Laws: they are at most seven, in rising order, and the first such ones.
abbrev pub register_locals : Function → List ℕ
register_locals f = take 7 (unshared f.data_frame f.body 0 (own_locals f))
