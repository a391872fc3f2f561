-- The `__try` statements of a checked program.
use Rattle.std.specs.Prelude.{ℕ, Bool, true, false, List, [], ◌∷◌, ◌++◌}
use Rattle.c_checked.specs.Statement.{Filter, Always, Funclet, Statement, Declare, Block, Evaluate, If, IfElse, For, DoWhile, Return, Break, Continue, Leave, TryExcept, TryFinally, Statements, Empty, Then}
use Rattle.c_checked.specs.Program.{Function, Program}

-- one with an `__except` block, whose filter always accepts or has a number, or one with a
-- `__finally` block of a number
pub data Try : Type 0 where
  Accepts : Try
  Asks : ℕ → Try
  Finishes : ℕ → Try

abbrev pub with_filter : Filter → Try
with_filter Always = Accepts
with_filter (Funclet k e) = Asks k

abbrev mutual
  pub tries_in : Statement → List Try
  tries_in (Declare d) = []
  tries_in (Block ss) = tries ss
  tries_in (Evaluate e) = []
  tries_in (If c s) = tries_in s
  tries_in (IfElse c s t) = tries_in s ++ tries_in t
  tries_in (For ds first c next s) = tries_in s
  tries_in (DoWhile s c) = tries_in s
  tries_in (Return e) = []
  tries_in Break = []
  tries_in Continue = []
  tries_in Leave = []
  tries_in (TryExcept body filter block) = tries body ++ (with_filter filter ∷ tries block)
  tries_in (TryFinally body k last) = tries body ++ (Finishes k ∷ tries last)

  pub tries : Statements → List Try
  tries Empty = []
  tries (Then s ss) = tries_in s ++ tries ss

abbrev pub tries_of : List Function → List Try
tries_of [] = []
tries_of (f ∷ fs) = tries f.body ++ tries_of fs

abbrev pub all_tries : Program → List Try
all_tries p = tries_of p.functions

abbrev pub finishes : Try → Bool
finishes (Finishes k) = true
finishes t = false

abbrev pub accepts : Try → Bool
accepts Accepts = true
accepts t = false
