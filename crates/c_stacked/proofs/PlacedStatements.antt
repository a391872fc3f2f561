-- What each kind of statement is with its parts placed.
use Rattle.std.proofs.Common.{◌≡◌, ℕ, refl, sym, ap, ◌∙◌, Box, Global}
use Rattle.std.proofs.lemmas.List.{with_items_is}
use Rattle.std.specs.Box.{with_value}
use Rattle.std.specs.Prelude.{List, length, map, Option, Some, None, option_map}
use Rattle.std.specs.Vec.{with_items}
use Rattle.c_checked.specs.declared.expression.Expr.{Expr}
use Rattle.c_checked.specs.declared.statement.Declared.{Declared}
use Rattle.c_checked.specs.declared.statement.Filter.{Filter}
use Rattle.c_checked.specs.declared.statement.Stmt.{Stmt}
use Rattle.c_checked.specs.declared.statement.Stmt.TheVariants as stmts
use Rattle.c_checked.specs.declared.statement.Stmt.TheOpen as opened
use Rattle.c_checked.specs.declared.statement.Stmt.TheFolds.{fold-roll-Stmt}
use Rattle.c_checked.specs.Expression.{Expression, expression}
use Rattle.c_checked.specs.Statement as trees
use Rattle.c_checked.specs.Statement.{Statement, statement, statements, declared, filter, choice, layer}
use Rattle.c_checked.proofs.StatementTrees.{if_is, try_except_is}
use Rattle.c_resolved.specs.Layout.{Layout}
use Rattle.c_resolved.specs.Placed.{place_expression, place_optional, place_declared, place_all_declared, place_filter, place_statement, place_statements}

-- statements in their places
abbrev pub ArePlaced : Layout → List Stmt → List Stmt → Type 0
ArePlaced l ss ss' = statements (map statement ss')
    ≡ place_statements l (statements (map statement ss))

pub all_placed_at : (l : Layout) (xs ys ss' : List Stmt) → xs ≡ ys → ArePlaced l xs ss'
    → ArePlaced l ys ss'
all_placed_at l xs ys ss' e h = h
    ∙ ap (λ k. place_statements l (statements (map statement k))) e

abbrev pub IsPlaced : Layout → Stmt → Stmt → Type 0
IsPlaced l s s' = statement s' ≡ place_statement l (statement s)

pub placed_at : (l : Layout) (x y s' : Stmt) → x ≡ y → IsPlaced l x s' → IsPlaced l y s'
placed_at l x y s' e h = h ∙ ap (λ k. place_statement l (statement k)) e

pub declared_at : (l : Layout) (xs ys ds' : List Declared) → xs ≡ ys
    → map declared ds' ≡ place_all_declared l (map declared xs)
    → map declared ds' ≡ place_all_declared l (map declared ys)
declared_at l xs ys ds' e h = h ∙ ap (λ k. place_all_declared l (map declared k)) e

-- ---- kinds

declare_is : (d : Declared) → statement (stmts.Declare d) ≡ trees.Declare (declared d)
declare_is d = ap statement (sym (stmts.rolls-Declare d))
    ∙ fold-roll-Stmt Statement layer (opened.Declare d)

block_is : (ss : _) → statement (stmts.Block ss)
    ≡ trees.Block (statements (map statement ss.items))
block_is ss = ap statement (sym (stmts.rolls-Block ss))
    ∙ fold-roll-Stmt Statement layer (opened.Block ss)

for_is : (ds : _) (first c next : Option Expr) (s : _) → statement (stmts.For ds first c next s)
    ≡ trees.For (map declared ds.items) (option_map expression first) (option_map expression c)
    (option_map expression next) (statement s.value)
for_is ds first c next s = ap statement (sym (stmts.rolls-For ds first c next s))
    ∙ fold-roll-Stmt Statement layer (opened.For ds first c next s)

do_is : (s : _) (c : Expr) → statement (stmts.Do s c)
    ≡ trees.DoWhile (statement s.value) (expression c)
do_is s c = ap statement (sym (stmts.rolls-Do s c))
    ∙ fold-roll-Stmt Statement layer (opened.Do s c)

try_finally_is : (b : _) (k : ℕ) (h : _) → statement (stmts.TryFinally b k h)
    ≡ trees.TryFinally (statements (map statement b.items)) k (statements (map statement h.items))
try_finally_is b k h = ap statement (sym (stmts.rolls-TryFinally b k h))
    ∙ fold-roll-Stmt Statement layer (opened.TryFinally b k h)

-- ---- with placed parts

pub declare_placed : (l : Layout) (d d' : Declared) (s : Stmt) → s ≡ stmts.Declare d
    → declared d' ≡ place_declared l (declared d)
    → statement (stmts.Declare d') ≡ place_statement l (statement s)
declare_placed l d d' s is h = declare_is d' ∙ ap trees.Declare h
    ∙ sym (ap (place_statement l) (ap statement is ∙ declare_is d))

pub block_placed : (l : Layout) (ss : _) (ss' : List Stmt) (s : Stmt) → s ≡ stmts.Block ss
    → length ss' ≡ ss.len → ArePlaced l ss.items ss'
    → statement (stmts.Block (with_items ss ss')) ≡ place_statement l (statement s)
block_placed l ss ss' s is same h =
    block_is (with_items ss ss')
    ∙ ap (λ k. trees.Block (statements (map statement k))) (with_items_is ss ss' same)
    ∙ ap trees.Block h ∙ sym (ap (place_statement l) (ap statement is ∙ block_is ss))

choice_placed : (l : Layout) (c : Expression) (s : Statement) (o : Option Statement)
    → choice (place_expression l c) (place_statement l s) (option_map (place_statement l) o)
    ≡ place_statement l (choice c s o)
choice_placed l c s None = refl
choice_placed l c s (Some t) = refl

mapped_twice : {A : Type 0} (f : A → Statement) (g : Statement → Statement) (o : Option A)
    → option_map (λ x. g (f x)) o ≡ option_map g (option_map f o)
mapped_twice f g None = refl
mapped_twice f g (Some x) = refl

pub if_placed : (l : Layout) (c c' : Expr) (b : _) (b' : Stmt) (t t' : Option (Box Stmt Global))
    (s : Stmt) → s ≡ stmts.If c b t → expression c' ≡ place_expression l (expression c)
    → IsPlaced l b.value b'
    → option_map (λ (x : Box Stmt Global). statement x.value) t'
    ≡ option_map (λ (x : Box Stmt Global). place_statement l (statement x.value)) t
    → statement (stmts.If c' (with_value b b') t') ≡ place_statement l (statement s)
if_placed l c c' b b' t t' s is p q r =
    if_is c' (with_value b b') t'
    ∙ (λ i. choice (p i) (q i) (r i))
    ∙ ap (choice (place_expression l (expression c)) (place_statement l (statement b.value)))
    (mapped_twice (λ (x : Box Stmt Global). statement x.value) (place_statement l) t)
    ∙ choice_placed l (expression c) (statement b.value)
    (option_map (λ (x : Box Stmt Global). statement x.value) t)
    ∙ sym (ap (place_statement l) (ap statement is ∙ if_is c b t))

pub for_placed : (l : Layout) (ds : _) (ds' : List Declared) (first first' c c' next next' : Option
    Expr) (b : _) (b' : Stmt) (s : Stmt) → s ≡ stmts.For ds first c next b
    → length ds' ≡ ds.len
    → map declared ds' ≡ place_all_declared l (map declared ds.items)
    → option_map expression first' ≡ place_optional l (option_map expression first)
    → option_map expression c' ≡ place_optional l (option_map expression c)
    → option_map expression next' ≡ place_optional l (option_map expression next)
    → IsPlaced l b.value b'
    → statement (stmts.For (with_items ds ds') first' c' next' (with_value b b'))
    ≡ place_statement l (statement s)
for_placed l ds ds' first first' c c' next next' b b' s is same d p q r h =
    for_is (with_items ds ds') first' c' next' (with_value b b')
    ∙ ap (λ k. trees.For (map declared k) (option_map expression first') (option_map expression c')
    (option_map expression next') (statement b')) (with_items_is ds ds' same)
    ∙ (λ i. trees.For (d i) (p i) (q i) (r i) (h i))
    ∙ sym (ap (place_statement l) (ap statement is ∙ for_is ds first c next b))

pub do_placed : (l : Layout) (b : _) (b' : Stmt) (c c' : Expr) (s : Stmt) → s ≡ stmts.Do b c
    → IsPlaced l b.value b' → expression c' ≡ place_expression l (expression c)
    → statement (stmts.Do (with_value b b') c') ≡ place_statement l (statement s)
do_placed l b b' c c' s is h p =
    do_is (with_value b b') c' ∙ (λ i. trees.DoWhile (h i) (p i))
    ∙ sym (ap (place_statement l) (ap statement is ∙ do_is b c))

pub try_except_placed : (l : Layout) (b : _) (b' : List Stmt) (f f' : Filter) (h : _)
    (h' : List Stmt) (s : Stmt) → s ≡ stmts.TryExcept b f h → length b' ≡ b.len
    → ArePlaced l b.items b' → filter f' ≡ place_filter l (filter f) → length h' ≡ h.len
    → ArePlaced l h.items h'
    → statement (stmts.TryExcept (with_items b b') f' (with_items h h'))
    ≡ place_statement l (statement s)
try_except_placed l b b' f f' h h' s is bn bp fp hn hp =
    try_except_is (with_items b b') f' (with_items h h')
    ∙ (λ i. trees.TryExcept (statements (map statement (with_items_is b b' bn i))) (filter f')
    (statements (map statement (with_items_is h h' hn i))))
    ∙ (λ i. trees.TryExcept (bp i) (fp i) (hp i))
    ∙ sym (ap (place_statement l) (ap statement is ∙ try_except_is b f h))

pub try_finally_placed : (l : Layout) (b : _) (b' : List Stmt) (k : ℕ) (h : _) (h' : List Stmt)
    (s : Stmt) → s ≡ stmts.TryFinally b k h → length b' ≡ b.len → ArePlaced l b.items b'
    → length h' ≡ h.len → ArePlaced l h.items h'
    → statement (stmts.TryFinally (with_items b b') k (with_items h h'))
    ≡ place_statement l (statement s)
try_finally_placed l b b' k h h' s is bn bp hn hp =
    try_finally_is (with_items b b') k (with_items h h')
    ∙ (λ i. trees.TryFinally (statements (map statement (with_items_is b b' bn i))) k
    (statements (map statement (with_items_is h h' hn i))))
    ∙ (λ i. trees.TryFinally (bp i) k (hp i))
    ∙ sym (ap (place_statement l) (ap statement is ∙ try_finally_is b k h))

evaluate_is : (e : Option Expr) → statement (stmts.Evaluate e)
    ≡ trees.Evaluate (option_map expression e)
evaluate_is e = ap statement (sym (stmts.rolls-Evaluate e))
    ∙ fold-roll-Stmt Statement layer (opened.Evaluate e)

return_is : (e : Option Expr) → statement (stmts.Return e)
    ≡ trees.Return (option_map expression e)
return_is e = ap statement (sym (stmts.rolls-Return e))
    ∙ fold-roll-Stmt Statement layer (opened.Return e)

pub evaluate_placed : (l : Layout) (e e' : Option Expr) (s : Stmt) → s ≡ stmts.Evaluate e
    → option_map expression e' ≡ place_optional l (option_map expression e)
    → statement (stmts.Evaluate e') ≡ place_statement l (statement s)
evaluate_placed l e e' s is h = evaluate_is e' ∙ ap trees.Evaluate h
    ∙ sym (ap (place_statement l) (ap statement is ∙ evaluate_is e))

pub return_placed : (l : Layout) (e e' : Option Expr) (s : Stmt) → s ≡ stmts.Return e
    → option_map expression e' ≡ place_optional l (option_map expression e)
    → statement (stmts.Return e') ≡ place_statement l (statement s)
return_placed l e e' s is h = return_is e' ∙ ap trees.Return h
    ∙ sym (ap (place_statement l) (ap statement is ∙ return_is e))
