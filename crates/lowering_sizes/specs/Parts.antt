-- The sizes of the parts of statements: a stack, from which each is taken when the part is lowered.
--
-- The main definition: `with_parts`.
use Rattle.std.specs.Prelude.{ℕ, List, [], ◌∷◌, ◌++◌}
use Rattle.c_checked.specs.Statement.{Statement, Declare, Block, Evaluate, If, IfElse, For, DoWhile, Return, Break, Continue, Leave, TryExcept, TryFinally, Statements, Empty, Then}
use Rattle.lowering_sizes.specs.Sizes.{statement_size, statements_size}

-- a list with the sizes of a statement's parts after it. What is last is needed first: the size of
-- a part before those inside it, and those of a part before those of the next one. A `__finally`
-- block is lowered for itself
abbrev mutual
  -- a list with the sizes of a statement's parts after it, in such an order that the lowering takes
  -- each from the end when it comes to the part
  pub with_parts : Statement → List ℕ → List ℕ
  with_parts (Declare d) rest = rest
  with_parts (Block ss) rest = with_all_parts ss rest
  with_parts (Evaluate e) rest = rest
  with_parts (If c s) rest = with_parts s rest ++ statement_size s ∷ []
  with_parts (IfElse c s t) rest =
      (with_parts s (with_parts t rest) ++ statement_size s ∷ []) ++ statement_size t ∷ []
  with_parts (For ds first c next s) rest = with_parts s rest ++ statement_size s ∷ []
  with_parts (DoWhile s c) rest = with_parts s rest ++ statement_size s ∷ []
  with_parts (Return e) rest = rest
  with_parts Break rest = rest
  with_parts Continue rest = rest
  with_parts Leave rest = rest
  with_parts (TryExcept body filter block) rest =
      (with_all_parts body (with_all_parts block rest) ++ statements_size body ∷ [])
      ++ statements_size block ∷ []
  with_parts (TryFinally body k finally_block) rest =
      with_all_parts body rest ++ statements_size body ∷ []

  pub with_all_parts : Statements → List ℕ → List ℕ
  with_all_parts Empty rest = rest
  with_all_parts (Then s ss) rest = with_parts s (with_all_parts ss rest)
