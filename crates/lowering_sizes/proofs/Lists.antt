-- Arguments and statements, one after another.
use Rattle.std.proofs.Common.{◌≡◌, ℕ, zero, suc, ◌+◌, ◌<◌, max, List, [], ◌∷◌, length, map, take, get_or, ap, arith}
use Rattle.c_checked.specs.declared.expression.Expr.{Expr}
use Rattle.c_checked.specs.Expression.{expression, arguments}
use Rattle.c_checked.specs.declared.statement.Declared.{Declared}
use Rattle.c_checked.specs.declared.statement.Stmt.{Stmt}
use Rattle.c_checked.specs.Statement.{statement, statements, declared}
use Rattle.lowering_sizes.specs.Sizes.{expression_size, arguments_size, declared_size, all_declared_size, stacked_notes, declared_notes, statement_notes, statements_notes}

-- one argument more
size_next : (items : List Expr) (i : ℕ) (d : Expr) → i < length items
    → arguments_size (arguments (map expression (take (suc i) items)))
    ≡ arguments_size (arguments (map expression (take i items)))
    + expression_size (expression (get_or items i d))
size_next [] i d lt = absurd (omega arith)
size_next (x ∷ xs) zero d lt = omega arith
size_next (x ∷ xs) (suc i) d lt = let r = size_next xs i d (omega arith) in omega arith

pub call_size_next : (items : List Expr) (i total size next : ℕ) (item : Expr) → i < length items
    → item ≡ get_or items i item → total ≡ arguments_size
    (arguments (map expression (take i items))) + 1 → size ≡ expression_size (expression item)
    → next ≡ total + size → next ≡ arguments_size (arguments (map expression (take (i + 1) items)))
    + 1
call_size_next items i total size next item lt is t s n =
    let one : i + 1 ≡ suc i = omega arith in
    let e = size_next items i item lt in
    let f : expression_size (expression item)
    ≡ expression_size (expression (get_or items i item)) = ap
    (λ x. expression_size (expression x)) is in
    rw one (omega arith)

-- one declared name or statement more

name_size_next : (items : List Declared) (i : ℕ) (d : Declared) → i < length items
    → all_declared_size (map declared (take (suc i) items))
    ≡ all_declared_size (map declared (take i items)) + declared_size (declared (get_or items i d))
name_size_next [] i d lt = absurd (omega arith)
name_size_next (x ∷ xs) zero d lt = omega arith
name_size_next (x ∷ xs) (suc i) d lt = let r = name_size_next xs i d (omega arith) in omega arith

pub declared_size_next : (items : List Declared) (i total size next : ℕ) (item : Declared)
    → i < length items → item ≡ get_or items i item
    → total ≡ all_declared_size (map declared (take i items)) → size ≡ declared_size (declared item)
    → next ≡ total + size → next ≡ all_declared_size (map declared (take (i + 1) items))
declared_size_next items i total size next item lt is t s n =
    let one : i + 1 ≡ suc i = omega arith in
    let e = name_size_next items i item lt in
    let f : declared_size (declared item) ≡ declared_size (declared (get_or items i item)) = ap
    (λ x. declared_size (declared x)) is in
    rw one (omega arith)

note_next : (items : List Stmt) (i : ℕ) (d : Stmt) → i < length items
    → statements_notes (statements (map statement (take (suc i) items)))
    ≡ max (statements_notes (statements (map statement (take i items))))
    (statement_notes (statement (get_or items i d)))
note_next [] i d lt = absurd (omega arith)
note_next (x ∷ xs) zero d lt = omega arith
note_next (x ∷ xs) (suc i) d lt = let r = note_next xs i d (omega arith) in omega arith

pub notes_next : (items : List Stmt) (i most own next : ℕ) (item : Stmt) → i < length items
    → item ≡ get_or items i item → most ≡ statements_notes
    (statements (map statement (take i items))) → own ≡ statement_notes (statement item)
    → next ≡ max most own → next ≡ statements_notes
    (statements (map statement (take (i + 1) items)))
notes_next items i most own next item lt is t s n =
    let one : i + 1 ≡ suc i = omega arith in
    let e = note_next items i item lt in
    let f : statement_notes (statement item) ≡ statement_notes
    (statement (get_or items i item)) = ap (λ x. statement_notes (statement x)) is in
    rw one (omega arith)

variable_note_next : (items : List Declared) (i : ℕ) (d : Declared) → i < length items
    → declared_notes (map declared (take (suc i) items))
    ≡ max (declared_notes (map declared (take i items)))
    (stacked_notes (declared (get_or items i d)).stacked)
variable_note_next [] i d lt = absurd (omega arith)
variable_note_next (x ∷ xs) zero d lt = omega arith
variable_note_next (x ∷ xs) (suc i) d lt =
    let r = variable_note_next xs i d (omega arith) in omega arith

pub declared_notes_next : (items : List Declared) (i most own next : ℕ) (item : Declared)
    → i < length items → item ≡ get_or items i item
    → most ≡ declared_notes (map declared (take i items)) → own ≡ stacked_notes item.stacked
    → next ≡ max most own → next ≡ declared_notes (map declared (take (i + 1) items))
declared_notes_next items i most own next item lt is t s n =
    let one : i + 1 ≡ suc i = omega arith in
    let e = variable_note_next items i item lt in
    let f : stacked_notes (declared item).stacked
    ≡ stacked_notes (declared (get_or items i item)).stacked = ap
    (λ (x : Declared). stacked_notes (declared x).stacked) is in
    rw one (omega arith)
