-- What holds of each piece of code, wherever it is and whatever is around it, holds of the code of
-- all statements.
use Rattle.std.proofs.Common.{ℕ, ◌+◌, List, [], ◌∷◌, Option, None, Some, arith}
use Rattle.seh_ir.specs.Words.{Expression, Declared, Always, Statement, Declare, Evaluate, Statements, Instruction, Region, Names, DataPart, Nowhere, LoweringContext, declared_size, statement_notes, statements_notes, discarded_code, condition_code, declared_code, all_declared_code, statement_code, statements_code, statement_regions, statements_regions}
use Rattle.lowering_expressions.specs.declared.scope.ExceptionSource.TheVariants.{NoException}
use Rattle.seh_ir.proofs.DeclaredCodes.{declared_length}
use Rattle.seh_ir.proofs.StatementParts.{statement_has, statements_have}
use Rattle.seh_ir.proofs.EveryStatement.{IsNeutral, HoldsOfPieces, any_neutral, any_place, any_ways, statement_every, statements_every}

abbrev pub HoldsOfAnyPieces : (ℕ → List Instruction → List Region → Type 0) → Type 0
HoldsOfAnyPieces P = HoldsOfPieces P (λ at xs. Unit {0}) (λ label. Unit {0}) (λ label. Unit {0})
    (λ names m. Unit {0}) (λ e. Unit {0}) (λ x. Unit {0})

module _ (P : ℕ → List Instruction → List Region → Type 0)
    (holds : HoldsOfAnyPieces P) where
  -- it holds of the code of a statement
  pub statement_any : (s : Statement) (scope : LoweringContext) (at : ℕ)
      → P at (statement_code scope s at) (statement_regions s at)
  statement_any s scope at = statement_every P (λ at xs. Unit {0}) (λ xs. Unit {0})
      (λ label. Unit {0}) (λ label. Unit {0}) (λ names m. Unit {0}) (λ e. Unit {0}) (λ e. Unit {0})
      (λ x. Unit {0}) any_neutral any_place (λ names m k le n. tt) holds s scope at
      (statement_notes s)
      (omega arith) tt (any_ways scope) (statement_has (λ e. Unit {0}) (λ e. Unit {0})
      (λ x. Unit {0}) (λ e. tt) (λ e. tt) (λ x. tt) s) tt

  -- it holds of the code of statements
  pub statements_any : (ss : Statements) (scope : LoweringContext) (at : ℕ)
      → P at (statements_code scope ss at) (statements_regions ss at)
  statements_any ss scope at = statements_every P (λ at xs. Unit {0}) (λ xs. Unit {0})
      (λ label. Unit {0}) (λ label. Unit {0}) (λ names m. Unit {0}) (λ e. Unit {0}) (λ e. Unit {0})
      (λ x. Unit {0}) any_neutral any_place (λ names m k le n. tt) holds ss scope at
      (statements_notes ss)
      (omega arith) tt (any_ways scope) (statements_have (λ e. Unit {0}) (λ e. Unit {0})
      (λ x. Unit {0}) (λ e. tt) (λ e. tt) (λ x. tt) ss) tt

  -- ---- parts of statements

  abbrev any_scope : Names → LoweringContext
  any_scope names = record {
    names = names;
    exit = Nowhere;
    loop_end = Nowhere;
    loop_next = Nowhere;
    leave = None;
  }

  discarded_any : (names : Names) (e : Option Expression) (at : ℕ)
      → P at (discarded_code names e at) []
  discarded_any names e at = statement_any (Evaluate e) (any_scope names) at

  condition_any : (names : Names) (e : Option Expression) (label at : ℕ)
      → P at (condition_code names e label at) []
  condition_any names None label at = holds.none at
  condition_any names (Some e) label at = holds.of_condition names 0 e label at tt tt tt tt

  declared_any : (names : Names) (d : Declared) (at : ℕ) → P at (declared_code names d at) []
  declared_any names d at = statement_any (Declare d) (any_scope names) at

  all_declared_any : (names : Names) (ds : List Declared) (at : ℕ)
      → P at (all_declared_code names ds at) []
  all_declared_any names [] at = holds.none at
  all_declared_any names (d ∷ ds) at =
      let to = at + declared_size d in
      let l = declared_length names d at in
      holds.both at to (declared_code names d at) (all_declared_code names ds to) [] []
      (omega arith)
      (declared_any names d at) (all_declared_any names ds to)

abbrev any_names : Option DataPart → ℕ → Names
any_names part x = record { exception = NoException; abnormal = None; free = x; part = part }

-- what pieces of any kind have, parts have that hold as much at their ends as where they begin
pub neutral_of : (M : List Instruction → Type 0) → HoldsOfAnyPieces (λ at xs rs. M xs) → IsNeutral M
neutral_of M pieces = record {
  separator = pieces.of_separator 0;
  jump = λ label. pieces.of_jump 0 label tt;
  landing = λ part end x. pieces.of_landing (any_names part x) 1 0 end 0 Always (omega arith) tt
      (omega arith) tt tt tt;
  zeroed = λ x. pieces.of_zeroed x 0 tt;
  counted = λ x n. pieces.of_counted (any_names None x) 1 n 0 (omega arith) tt;
  clearing = λ x v end begin. pieces.of_clearing (any_names None x) 1 v end begin 0 (omega arith) tt
      tt tt tt;
  put_zero = λ v. pieces.of_put_zero v 0 tt;
  discarded = λ names e at. discarded_any (λ at xs rs. M xs) pieces names e at;
  condition = λ names e label at. condition_any (λ at xs rs. M xs) pieces names e label at;
  declared = λ names d at. declared_any (λ at xs rs. M xs) pieces names d at;
  all_declared = λ names ds at. all_declared_any (λ at xs rs. M xs) pieces names ds at;
  statement = λ scope s at. statement_any (λ at xs rs. M xs) pieces s scope at;
  statements = λ scope ss at. statements_any (λ at xs rs. M xs) pieces ss scope at;
}
