-- What holds of each instruction in the code of statements, and of the code of each expression in
-- them, holds of all instructions.
use Rattle.std.proofs.Common.{ℕ, ◌≤◌, List, [], ◌∷◌, ◌++◌, Option, None, Some}
use Rattle.std.specs.List.{AllByRecursion}
use Rattle.seh_ir.specs.Words.{Pure, Place, Clear, Constant, StackedVariable, Expression, Statements, Local, Temporary, Instruction, Compute, Jump, JumpIfZero, CallFinally, LocalUnwind, Landing, Separator, Names, Way, Nowhere, Jumps, Unwinds, constant, copy, expression_code, LoweringContext, statements_notes, return_code, returned_code, put_code, reset_code, repeated, statements_code}
use Rattle.seh_ir.proofs.StatementParts.{OptionalHas, StatementsHave}
use Rattle.seh_ir.proofs.EveryStatement.{WayHas, any_ways, any_neutral, any_place, InExcept, HoldsOfPieces, statements_every}

-- parts of a list, and what they make
pub all_append : {X : Type 0} (P : X → Type 0) (xs ys : List X) → AllByRecursion P xs
    → AllByRecursion P ys → AllByRecursion P (xs ++ ys)
all_append P [] ys h k = k
all_append P (x ∷ xs) ys h k = (h.0, all_append P xs ys h.1 k)

pub record HoldsOfInstructions (Q : Instruction → Type 0) (L X : ℕ → Type 0)
    (N : Names → ℕ → Type 0) (E : Expression → Type 0) (D : ℕ → Type 0) : Type 0 where
  pub of_value : (names : Names) (m : ℕ) (e : Expression) (at : ℕ) → N names m → E e
      → AllByRecursion Q (expression_code names e 0 at)
  pub of_constant : Q (constant 0 0)
  pub of_zeroed : (x : ℕ) → D x
      → Q (Compute (Local x) (Pure (Constant 0)) (Local x) (Local x))
  pub of_kept : (x : ℕ) → D x → Q (copy (Local x) (Temporary 0))
  pub of_put : (v : StackedVariable) → D v.base
      → Q (Compute (Temporary 0) (Place v.width v.offset) (Local v.base) (Temporary 0))
  pub of_counted : (names : Names) (m n : ℕ) → 1 ≤ m → N names m
      → Q (Compute (Local names.free) (Pure (Constant n)) (Local names.free) (Local names.free))
  pub of_rest_test : (names : Names) (m label : ℕ) → 1 ≤ m → N names m → L label
      → Q (JumpIfZero (Local names.free) label)
  pub of_cleared : (names : Names) (m : ℕ) (v : StackedVariable) → 1 ≤ m → N names m → D v.base
      → Q (Compute (Local names.free) (Clear v.width v.offset) (Local v.base) (Local names.free))
  pub of_separator : Q Separator
  pub of_jump : (label : ℕ) → L label → Q (Jump label)
  pub of_test : (label : ℕ) → L label → Q (JumpIfZero (Temporary 0) label)
  pub of_unwind : (label : ℕ) → L label → Q (LocalUnwind label)
  pub of_exit_jump : (label : ℕ) → X label → Q (Jump label)
  pub of_exit : (label : ℕ) → X label → Q (LocalUnwind label)
  pub of_landing : (names : Names) (m : ℕ) → 1 ≤ m → N names m → Q (Landing (Local names.free))
  pub of_reset : (names : Names) (m : ℕ) → 1 ≤ m → N names m → Q (reset_code names.part)
  pub of_finally : (k : ℕ) → Q (CallFinally k)

module _ (Q : Instruction → Type 0) (C : ℕ → List Instruction → Type 0) (L X : ℕ → Type 0)
    (N : Names → ℕ → Type 0) (E : Expression → Type 0) (D : ℕ → Type 0)
    (holds : HoldsOfInstructions Q L X N E D) where
  abbrev All : List Instruction → Type 0
  All xs = AllByRecursion Q xs

  exit_all : (w : Way) → WayHas X w → All (return_code w)
  exit_all Nowhere h = (holds.of_separator, (holds.of_separator, tt))
  exit_all (Jumps label) h = (holds.of_exit_jump label h, (holds.of_separator, tt))
  exit_all (Unwinds label) h = (holds.of_exit label h, (holds.of_separator, tt))

  -- the value of an expression, and what is done with it
  value_all : (names : Names) (m : ℕ) (e : Expression) (at : ℕ) (rest : List Instruction)
      → N names m → E e → All rest → All (expression_code names e 0 at ++ rest)
  value_all names m e at rest n h k = all_append Q (expression_code names e 0 at) rest
      (holds.of_value names m e at n h) k

  returned_all : (names : Names) (m : ℕ) (e : Option Expression) (exit : Way) (at : ℕ)
      → N names m → OptionalHas E e → WayHas X exit
      → All (returned_code names e at ++ return_code exit)
  returned_all names m None exit at n h w = (holds.of_constant, exit_all exit w)
  returned_all names m (Some e) exit at n h w = value_all names m e at (return_code exit) n h
      (exit_all exit w)

  -- it holds of pieces
  pub all_pieces : HoldsOfPieces (λ at xs rs. AllByRecursion Q xs) C L X N E D
  all_pieces = record {
    none = λ at. tt;
    both = λ at to xs ys rs qs e h k. all_append Q xs ys h k;
    of_separator = λ at. (holds.of_separator, tt);
    of_jump = λ at label l. (holds.of_jump label l, tt);
    of_unwind = λ at label l. (holds.of_unwind label l, (holds.of_separator, tt));
    of_landing = λ names m begin end at f le n o b t l. (
      holds.of_jump end l,
      (holds.of_landing names m le n, (holds.of_reset names m le n, tt)),
    );
    of_finally = λ k begin at o b t. (
      holds.of_separator,
      (holds.of_finally k, (holds.of_separator, tt)),
    );
    of_zeroed = λ x at d. (holds.of_zeroed x d, tt);
    of_discarded = λ names m e at n h c. value_all names m e at (Separator ∷ []) n h
        (holds.of_separator, tt);
    of_condition = λ names m e label at n h l c. value_all names m e at
        (JumpIfZero (Temporary 0) label ∷ []) n h (holds.of_test label l, tt);
    of_initialiser = λ names m x e at n d h c. value_all names m e at
        (copy (Local x) (Temporary 0) ∷ Separator ∷ []) n h
        (holds.of_kept x d, (holds.of_separator, tt));
    of_put_zero = λ v at d. (holds.of_constant, (holds.of_put v d, (holds.of_separator, tt)));
    of_put_initialiser = λ names m v e at n d h c. value_all names m e at (put_code v) n h
        (holds.of_put v d, (holds.of_separator, tt));
    of_counted = λ names m k at le n. (holds.of_counted names m k le n, tt);
    of_clearing = λ names m v end begin at le n d l b. (
      holds.of_rest_test names m end le n l,
      (holds.of_cleared names m v le n d, (holds.of_jump begin b, tt)),
    );
    of_repeated = λ names m e end begin at n h l b c. value_all names m e at (repeated end begin) n
        h (holds.of_test end l, (holds.of_jump begin b, (holds.of_separator, tt)));
    of_return = λ names m e exit at n h w c. returned_all names m e exit at n h w;
  }

-- ---- where nothing is asked of places and labels

module _ (Q : Instruction → Type 0) (N : Names → ℕ → Type 0) (E F : Expression → Type 0)
    (D : ℕ → Type 0) (in_block : InExcept N)
    (holds : HoldsOfInstructions Q (λ label. Unit {0}) (λ label. Unit {0}) N E D) where
  -- it holds of the code of statements
  pub statements_all : (ss : Statements) (scope : LoweringContext) (at m : ℕ)
      → statements_notes ss ≤ m → N scope.names m → StatementsHave E F D ss
      → AllByRecursion Q (statements_code scope ss at)
  statements_all ss scope at m le n h = statements_every (λ at xs rs. AllByRecursion Q xs)
      (λ at xs. Unit {0}) (λ xs. Unit {0}) (λ label. Unit {0}) (λ label. Unit {0}) N E F D
      any_neutral any_place
      in_block (all_pieces Q (λ at xs. Unit {0}) (λ label. Unit {0}) (λ label. Unit {0}) N E D
      holds)
      ss scope at m le n (any_ways scope) h tt
