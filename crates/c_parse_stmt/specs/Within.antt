-- Limits of statements, with what is left of the counts; and what is read, and what refusals say.
-- The first n limits are in force.
use Rattle.std.specs.Prelude.{◌≡◌, ◌≤◌, ◌⊎◌, ℕ, ◌+◌, List, [], ◌++◌, length, Option, IsFalse}
use Rattle.c_lex.specs.declared.keyword.Keyword.{Keyword}
use Rattle.c_lex.specs.declared.token.Token.{Token}
use Rattle.c_syntax.specs.declared.limit.Count.TheVariants.{Locals, ArrayBytes, Funclets}
use Rattle.c_syntax.specs.declared.limit.TheConstants.{MOST_EXPRESSIONS, MOST_ARRAY_BYTES}
use Rattle.c_syntax.specs.Expression.{Expression}
use Rattle.c_syntax.specs.Follow.{Closed}
use Rattle.c_syntax.specs.Limits.{Nesting, Number, IsInForce, one_over, expressions_over, expressions_over_all, statements_over, statements_over_all, over_block_item, locals, locals_of_all, end_of_arrays, end_of_all_arrays, numbered, funclets_of_all}
use Rattle.c_syntax.specs.Statement.{Statement, Statements, Evaluate}
use Rattle.c_syntax.specs.Statements.{is_declaration, IsBlockItem, AreBlockItems}
use Rattle.c_syntax.specs.Tokens.{IsKeyword}
use Rattle.c_parse_stmt.specs.ArrayBytes.{bytes_so_far}
use Rattle.c_parse_stmt.specs.declared.remaining.Remaining.{Remaining}

-- ---- what a block holds

-- at most so many statements around each part, not too many expressions around each expression, and
-- no more of the counts than is left
pub record AllWithin (n : ℕ) (text : List ℕ) (room : ℕ) (left : Remaining)
    (ss : Statements) : Type 0 where
  pub statements : IsInForce Nesting n → statements_over_all ss ≤ room
  pub expressions : IsInForce Nesting n → expressions_over_all ss ≤ MOST_EXPRESSIONS
  pub locals : IsInForce (Number Locals) n → locals_of_all ss ≤ left.locals
  pub bytes : IsInForce (Number ArrayBytes) n
      → end_of_all_arrays ss (bytes_so_far left.bytes) ≤ MOST_ARRAY_BYTES
  pub funclets : IsInForce (Number Funclets) n → length (funclets_of_all text ss) ≤ left.funclets

-- within the limits, and of the counts so much is left after it
pub record AllTaken (text : List ℕ) (room : ℕ) (left after : Remaining)
    (ss : Statements) : Type 0 where
  pub statements : statements_over_all ss ≤ room
  pub expressions : expressions_over_all ss ≤ MOST_EXPRESSIONS
  pub locals : after.locals + locals_of_all ss ≡ left.locals
  pub bytes : bytes_so_far after.bytes ≡ end_of_all_arrays ss (bytes_so_far left.bytes)
  pub funclets : after.funclets + length (funclets_of_all text ss) ≡ left.funclets

-- nothing that a block holds is at the front with the brace that ends it, within the limits
abbrev pub NoBlockItems : ℕ → Remaining → ℕ → List ℕ → List Token → Type 0
NoBlockItems room left n text ts =
    (ss : Statements) (end : List Token) → AreBlockItems text ss ts end
    → AllWithin n text room left ss → ⊥

pub record HasBlockItems (room : ℕ) (left : Remaining) (n : ℕ) (text : List ℕ)
    (ts : List Token) : Type 0 where
  pub trees : Statements
  pub are : (other : List Token) → AreBlockItems text trees (ts ++ other) other
  pub within : AllWithin n text room left trees

-- ---- one statement, with so many statements over its parts

pub record Within (n : ℕ) (text : List ℕ) (over room : ℕ) (left : Remaining)
    (s : Statement) : Type 0 where
  pub statements : IsInForce Nesting n → over ≤ room
  pub expressions : IsInForce Nesting n → expressions_over s ≤ MOST_EXPRESSIONS
  pub locals : IsInForce (Number Locals) n → locals s ≤ left.locals
  pub bytes : IsInForce (Number ArrayBytes) n
      → end_of_arrays s (bytes_so_far left.bytes) ≤ MOST_ARRAY_BYTES
  pub funclets : IsInForce (Number Funclets) n → length (numbered text s) ≤ left.funclets

pub record Taken (text : List ℕ) (over room : ℕ) (left after : Remaining)
    (s : Statement) : Type 0 where
  pub statements : over ≤ room
  pub expressions : expressions_over s ≤ MOST_EXPRESSIONS
  pub locals : after.locals + locals s ≡ left.locals
  pub bytes : bytes_so_far after.bytes ≡ end_of_arrays s (bytes_so_far left.bytes)
  pub funclets : after.funclets + length (numbered text s) ≡ left.funclets

-- a statement that isn't a declaration, as far as it continues
pub record IsStatementWithin (text : List ℕ) (room : ℕ) (left after : Remaining) (s : Statement)
    (ts rest : List Token) : Type 0 where
  pub is : IsBlockItem text s ts rest
  pub statement : IsFalse (is_declaration s)
  pub closed : Closed s rest
  pub taken : Taken text (statements_over s) room left after s

abbrev pub NoStatement : ℕ → Remaining → ℕ → List ℕ → List Token → Type 0
NoStatement room left n text ts =
    (s : Statement) (end : List Token) → IsBlockItem text s ts end → IsFalse (is_declaration s)
    → Closed s end → Within n text (statements_over s) room left s → ⊥

pub record HasStatement (room : ℕ) (left : Remaining) (n : ℕ) (text : List ℕ)
    (ts : List Token) : Type 0 where
  pub tree : Statement
  pub is : (other : List Token) → IsBlockItem text tree (ts ++ other) other
  pub statement : IsFalse (is_declaration tree)
  pub within : Within n text (statements_over tree) room left tree

-- a statement or a declaration in a block
pub record ReadsBlockItem (text : List ℕ) (room : ℕ) (left after : Remaining) (s : Statement)
    (ts rest : List Token) : Type 0 where
  pub is : IsBlockItem text s ts rest
  pub closed : Closed s rest
  pub taken : Taken text (over_block_item s (statements_over s)) room left after s

abbrev pub NoBlockItem : ℕ → Remaining → ℕ → List ℕ → List Token → Type 0
NoBlockItem room left n text ts =
    (s : Statement) (end : List Token) → IsBlockItem text s ts end → Closed s end
    → Within n text (over_block_item s (statements_over s)) room left s → ⊥

pub record AnItem (room : ℕ) (left : Remaining) (n : ℕ) (text : List ℕ)
    (ts : List Token) : Type 0 where
  pub tree : Statement
  pub is : (other : List Token) → IsBlockItem text tree (ts ++ other) other
  pub within : Within n text (over_block_item tree (statements_over tree)) room left tree

-- the block may end before it: with no room for a statement and no local left there is no other way
abbrev pub HasBlockItem : ℕ → Remaining → ℕ → List ℕ → List Token → Type 0
HasBlockItem room left n text ts = (ts ≡ []) ⊎ AnItem room left n text ts

-- whatever the tokens are that begin with this keyword and continue with those after it
abbrev pub AfterKeyword : Keyword → ℕ → List Token → (List Token → Type 0) → Type 0
AfterKeyword keyword at following P = (ts : List Token) → IsKeyword keyword at ts following → P ts

-- no expression statement is at the front
abbrev pub NoEvaluation : ℕ → Remaining → ℕ → List ℕ → List Token → Type 0
NoEvaluation room left n text ts =
    (e : Option Expression) (end : List Token) → IsBlockItem text (Evaluate e) ts end
    → Within n text (one_over e) room left (Evaluate e) → ⊥

pub record HasEvaluation (room : ℕ) (left : Remaining) (n : ℕ) (text : List ℕ)
    (ts : List Token) : Type 0 where
  pub tree : Option Expression
  pub is : (other : List Token) → IsBlockItem text (Evaluate tree) (ts ++ other) other
  pub within : Within n text (one_over tree) room left (Evaluate tree)
