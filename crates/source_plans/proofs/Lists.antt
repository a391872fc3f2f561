-- What is in a list from an index on.
use Rattle.std.proofs.Common.{◌≡◌, ℕ, ◌+◌, ◌<◌, ◌≤◌, List, length, map, refl, sym, ap}
use Rattle.std.proofs.Common.{◌∙◌, arith, inl, inr}
use Rattle.std.specs.Prelude.{get_or, option_map}
use Rattle.std.proofs.lemmas.Option.{slice_get_cases, slice_get_past, slice_get_read}
use Rattle.std.proofs.Math.ListN.{drop_of_length-le}
use Rattle.c_checked.proofs.Items.{next_of}
use Rattle.c_checked.specs.declared.statement.Stmt.{Stmt}
use Rattle.c_checked.specs.Statement.{Empty, Then, Block, statement, statements}
use Rattle.source_plans.specs.Views.{some_statement, statement_at, statements_from}

-- ---- statements

pub statements_past : (ss : List Stmt) (i : ℕ) → length ss ≤ i → statements_from ss i ≡ Empty
statements_past ss i le = ap (λ xs. statements (map statement xs)) (drop_of_length-le ss le)

pub statements_next : (ss : List Stmt) (i : ℕ) → i < length ss
    → statements_from ss i ≡ Then (statement_at ss i) (statements_from ss (i + 1))
statements_next ss i lt =
    elim ((slice_get_cases ss i).1) [
      | inl w ↦
          ap (λ xs. statements (map statement xs)) (next_of ss i w.0 lt (sym w.3))
          ∙ ap (λ o. Then (some_statement (option_map statement o)) (statements_from ss (i + 1)))
          (sym w.2)
      | inr w ↦ let past = w.0 in absurd (omega arith)
    ]

-- ---- declared names

-- ---- arguments

-- ---- a statement by its index

pub statement_there : (ss : List Stmt) (i : ℕ) (s : Stmt) → i < length ss → s ≡ get_or ss i s
    → statement_at ss i ≡ statement s
statement_there ss i s lt e =
    ap (λ o. some_statement (option_map statement o)) (slice_get_read ss (length ss) i s refl lt e)

pub statement_past : (ss : List Stmt) (i : ℕ) → length ss ≤ i → statement_at ss i ≡ Block Empty
statement_past ss i le = ap (λ o. some_statement (option_map statement o)) (slice_get_past ss i le)
