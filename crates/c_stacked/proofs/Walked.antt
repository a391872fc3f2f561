-- Lists whose variables are marked, one item after another, and lists whose items are placed.
use Rattle.std.proofs.Common.{◌≡◌, ◌≤◌, ◌<◌, ◌⊎◌, inl, inr, ℕ, zero, suc, ◌+◌, refl, ap, sym, ◌∙◌, arith}
use Rattle.std.proofs.lemmas.Bool.{eqb-true, eq-eqb, both_ways}
use Rattle.std.proofs.lemmas.List.{drop_all}
use Rattle.std.specs.Prelude.{Bool, List, [], ◌∷◌, map, length, drop, get_or, slice_set, nat_eq, option_map, ◌||◌, true, false}
use Rattle.c_checked.proofs.Items.{next_of}
use Rattle.c_checked.specs.declared.expression.Expr.{Expr}
use Rattle.c_checked.specs.declared.statement.Declared.{Declared as Declared'}
use Rattle.c_checked.specs.declared.statement.Stmt.{Stmt}
use Rattle.c_checked.specs.Expression.{Next, arguments, expression}
use Rattle.c_checked.specs.Statement.{Then, declared, statement, statements}
use Rattle.c_resolved.specs.Addresses.{mark_arguments, mark_expression, mark_all_declared, mark_optional, mark_statement, mark_statements, holds_try, hold_try}
use Rattle.c_resolved.specs.Layout.{Layout}
use Rattle.c_resolved.specs.Placed.{place_expression, place_arguments, place_declared, place_all_declared, place_statement, place_statements}

-- ---- marking

-- the marks after the items from here on
abbrev pub ArgumentsLeft : List Expr → ℕ → List Bool → List Bool
ArgumentsLeft es i marks = mark_arguments (arguments (map expression (drop i es))) marks

pub argument_marked : (es : List Expr) (i : ℕ) (e : Expr) (marks marks' whole : List Bool)
    → i < length es → e ≡ get_or es i e → marks' ≡ mark_expression (expression e) marks
    → ArgumentsLeft es i marks ≡ whole → ArgumentsLeft es (i + 1) marks' ≡ whole
argument_marked es i e marks marks' whole lt is step h =
    ap (ArgumentsLeft es (i + 1)) step
    ∙ ap (λ k. mark_arguments (arguments (map expression k)) marks) (sym (next_of es i e lt is)) ∙ h

pub arguments_marked : (es : List Expr) (i : ℕ) (marks whole : List Bool) → length es ≤ i
    → ArgumentsLeft es i marks ≡ whole → marks ≡ whole
arguments_marked es i marks whole past h =
    ap (λ k. mark_arguments (arguments (map expression k)) marks) (sym (drop_all i es past)) ∙ h

abbrev pub DeclaredLeft : List Declared' → ℕ → List Bool → List Bool
DeclaredLeft ds i marks = mark_all_declared (map declared (drop i ds)) marks

pub declared_marked : (ds : List Declared') (i : ℕ) (d : Declared') (marks marks' whole : List Bool)
    → i < length ds → d ≡ get_or ds i d
    → marks' ≡ mark_optional (option_map expression d.value) marks
    → DeclaredLeft ds i marks ≡ whole → DeclaredLeft ds (i + 1) marks' ≡ whole
declared_marked ds i d marks marks' whole lt is step h =
    ap (DeclaredLeft ds (i + 1)) step
    ∙ ap (λ k. mark_all_declared (map declared k) marks) (sym (next_of ds i d lt is)) ∙ h

pub all_declared_marked : (ds : List Declared') (i : ℕ) (marks whole : List Bool) → length ds ≤ i
    → DeclaredLeft ds i marks ≡ whole → marks ≡ whole
all_declared_marked ds i marks whole past h =
    ap (λ k. mark_all_declared (map declared k) marks) (sym (drop_all i ds past)) ∙ h

abbrev pub StatementsLeft : List Stmt → ℕ → List Bool → List Bool
StatementsLeft ss i marks = mark_statements (statements (map statement (drop i ss))) marks

pub statement_marked : (ss : List Stmt) (i : ℕ) (s : Stmt) (marks marks' whole : List Bool)
    → i < length ss → s ≡ get_or ss i s → marks' ≡ mark_statement (statement s) marks
    → StatementsLeft ss i marks ≡ whole → StatementsLeft ss (i + 1) marks' ≡ whole
statement_marked ss i s marks marks' whole lt is step h =
    ap (StatementsLeft ss (i + 1)) step
    ∙ ap (λ k. mark_statements (statements (map statement k)) marks) (sym (next_of ss i s lt is))
    ∙ h

pub statements_marked : (ss : List Stmt) (i : ℕ) (marks whole : List Bool) → length ss ≤ i
    → StatementsLeft ss i marks ≡ whole → marks ≡ whole
statements_marked ss i marks whole past h =
    ap (λ k. mark_statements (statements (map statement k)) marks) (sym (drop_all i ss past)) ∙ h

-- ---- a `__try` among statements

abbrev pub TryLeft : List Stmt → ℕ → Bool
TryLeft ss i = hold_try (statements (map statement (drop i ss)))

pub try_found : (ss : List Stmt) (i : ℕ) (s : Stmt) → i < length ss → s ≡ get_or ss i s
    → holds_try (statement s) ≡ true → TryLeft ss i ≡ true
try_found ss i s lt is h =
    ap (λ k. hold_try (statements (map statement k))) (next_of ss i s lt is)
    ∙ ap (λ b. b || TryLeft ss (i + 1)) h

pub try_after : (ss : List Stmt) (i : ℕ) (s : Stmt) → i < length ss → s ≡ get_or ss i s
    → holds_try (statement s) ≡ false → TryLeft ss (i + 1) ≡ TryLeft ss i
try_after ss i s lt is h =
    sym (ap (λ k. hold_try (statements (map statement k))) (next_of ss i s lt is)
    ∙ ap (λ b. b || TryLeft ss (i + 1)) h)

pub no_try : (ss : List Stmt) (i : ℕ) → length ss ≤ i → TryLeft ss i ≡ false
no_try ss i past = ap (λ k. hold_try (statements (map statement k))) (drop_all i ss past)

-- ---- placing

-- lists whose items are the same in other terms
pub mapped : {A B : Type 0} (f g : A → B) (xs ys : List A) → length xs ≡ length ys
    → ((k : ℕ) (d : A) → k < length ys → f (get_or xs k d) ≡ g (get_or ys k d))
    → map f xs ≡ map g ys
mapped f g [] [] same h = refl
mapped f g [] (y ∷ ys) same h = absurd (omega (arith, same))
mapped f g (x ∷ xs) [] same h = absurd (omega (arith, same))
mapped f g (x ∷ xs) (y ∷ ys) same h =
    let first : f x ≡ g y = h zero x (omega arith) in
    ap (λ z. z ∷ map f xs) first
    ∙ ap (λ zs. g y ∷ zs) (mapped f g xs ys (omega (arith, same))
    (λ k d lt. h (suc k) d (omega (arith, lt))))

pub arguments_placed : (l : Layout) (es : List Expr)
    → arguments (map (λ e. place_expression l (expression e)) es)
    ≡ place_arguments l (arguments (map expression es))
arguments_placed l [] = refl
arguments_placed l (e ∷ es) = ap (λ k. Next
    (place_expression l (expression e)) k) (arguments_placed l es)

pub declared_placed : (l : Layout) (ds : List Declared')
    → map (λ d. place_declared l (declared d)) ds ≡ place_all_declared l (map declared ds)
declared_placed l [] = refl
declared_placed l (d ∷ ds) = ap (λ k. place_declared l (declared d) ∷ k) (declared_placed l ds)

pub statements_placed : (l : Layout) (ss : List Stmt)
    → statements (map (λ s. place_statement l (statement s)) ss)
    ≡ place_statements l (statements (map statement ss))
statements_placed l [] = refl
statements_placed l (s ∷ ss) = ap (λ k. Then (place_statement l (statement s)) k)
    (statements_placed l ss)

-- ---- items that are written in their order

-- from here on the items are as they were, and those before are placed
abbrev pub AreUnvisited : {A : Type 0} → ℕ → List A → List A → Type 0
AreUnvisited {A} i xs ys = (length xs ≡ length ys)
    × ((k : ℕ) (d : A) → i ≤ k → get_or xs k d ≡ get_or ys k d)

abbrev pub AreVisited : {A B : Type 0} → (A → B) → (A → B) → ℕ → List A → List A → Type 0
AreVisited {A} f g i xs ys = (k : ℕ) (d : A) → k < i → f (get_or xs k d) ≡ g (get_or ys k d)

pub get_any : {A : Type 0} (xs : List A) (i : ℕ) (d e : A) → i < length xs
    → get_or xs i d ≡ get_or xs i e
get_any [] i d e lt = absurd (omega (arith, lt))
get_any (x ∷ xs) zero d e lt = refl
get_any (x ∷ xs) (suc i) d e lt = get_any xs i d e (omega (arith, lt))

set_length : {A : Type 0} (xs : List A) (i : ℕ) (x : A) → length (slice_set xs i x) ≡ length xs
set_length [] i x = refl
set_length (y ∷ xs) zero x = refl
set_length (y ∷ xs) (suc i) x = ap suc (set_length xs i x)

set_same : {A : Type 0} (xs : List A) (i : ℕ) (x d : A) → i < length xs
    → get_or (slice_set xs i x) i d ≡ x
set_same [] i x d lt = absurd (omega (arith, lt))
set_same (y ∷ xs) zero x d lt = refl
set_same (y ∷ xs) (suc i) x d lt = set_same xs i x d (omega (arith, lt))

set_other : {A : Type 0} (xs : List A) (i k : ℕ) (x d : A) → (k ≡ i → ⊥)
    → get_or (slice_set xs i x) k d ≡ get_or xs k d
set_other [] i k x d ne = refl
set_other (y ∷ xs) zero zero x d ne = absurd (ne refl)
set_other (y ∷ xs) zero (suc k) x d ne = refl
set_other (y ∷ xs) (suc i) zero x d ne = refl
set_other (y ∷ xs) (suc i) (suc k) x d ne = set_other xs i k x d (λ e. ne (ap suc e))

pub next_unvisited : {A : Type 0} (xs ys : List A) (i : ℕ) (x' : A) → AreUnvisited i xs ys
    → AreUnvisited (i + 1) (slice_set xs i x') ys
next_unvisited xs ys i x' h = (
  set_length xs i x' ∙ h.0,
  λ k d le. set_other xs i k x' d (λ e. absurd (omega (arith, le, e))) ∙ h.1 k d
      (omega (arith, le)),
)

lower : (k i : ℕ) → k < i + 1 → (k ≡ i → ⊥) → k < i
lower k i lt ne = omega (arith, lt, ne)

pub next_visited : {A B : Type 0} (f g : A → B) (xs ys : List A) (i : ℕ) (x x' : A)
    → i < length ys → AreUnvisited i xs ys → AreVisited f g i xs ys → x ≡ get_or xs i x
    → f x' ≡ g x → AreVisited f g (i + 1) (slice_set xs i x') ys
next_visited {A} {B} f g xs ys i x x' lt h v is made k d below = of (k_is (nat_eq k i) refl)
  where
    k_is : (b : Bool) → nat_eq k i ≡ b → (k ≡ i) ⊎ (k ≡ i → ⊥)
    k_is true e = inl (eqb-true k i e)
    k_is false e = inr (λ s. absurd (both_ways (nat_eq k i) e (eq-eqb k i s)))

    of : (k ≡ i) ⊎ (k ≡ i → ⊥) → f (get_or (slice_set xs i x') k d) ≡ g (get_or ys k d)
    of (inl e) =
        let there : i < length xs = omega (arith, lt, h.0) in
        ap (λ j. f (get_or (slice_set xs i x') j d)) e ∙ ap f (set_same xs i x' d there) ∙ made
        ∙ ap g (is ∙ get_any xs i x d there ∙ h.1 i d (omega arith))
        ∙ ap (λ j. g (get_or ys j d)) (sym e)
    of (inr ne) = ap f (set_other xs i k x' d ne) ∙ v k d (lower k i below ne)

-- all are placed
pub all_visited : {A B : Type 0} (f g : A → B) (xs ys : List A) (i : ℕ) → length ys ≤ i
    → AreUnvisited i xs ys → AreVisited f g i xs ys → map f xs ≡ map g ys
all_visited f g xs ys i past h v = mapped f g xs ys h.0 (λ k d lt. v k d (omega (arith, past, lt)))
