-- A statement by what was made of its parts, one after another.
use Rattle.std.proofs.Common.{◌≡◌, ℕ, List, [], ◌∷◌, ◌++◌, map, refl, sym, ap, subst, ◌∙◌, append_assoc}
use Rattle.c_statements.specs.Words.{Expr, Stmt, SymbolTable, with_block, opened, closed, environment, least_of, kept, FunctionState, Resolves, numbering, resolved_at, Scope, Environment, Numbering, ResolvedStatements, Value, inside, condition, only, resolve_statement, resolve_statements, MakesOne, MakesPart, MakesBlock, MakesConditionAndBody, Expression, Statement, Statements, statement, statements}
use Rattle.c_checked.specs.Expression.{expression}
use Rattle.c_checked.specs.Statement as checked
use Rattle.c_locals.specs.declared.environment.Environment.{Environment as Environment'}
use Rattle.c_statements.proofs.Lemmas.{kept_more}
use Rattle.c_syntax.specs.Statement as trees
use Rattle.c_syntax.specs.declared.statement.Stmt.{Stmt as Read}

-- ---- one statement of a list

pub one_is : (was now : SymbolTable) (w0 w1 : FunctionState) (made : Stmt)
    (out : List checked.Statement)
    (t t' : Statement) (a : Environment)
    → t ≡ t' → now ≡ was
    → MakesOne was.block w0 w1 made (resolve_statement t' a was.block (numbering w0))
    → out ≡ checked.statement made ∷ []
    → Resolves was now w0 w1 out (resolve_statement t a was.block (numbering w0))
one_is was now w0 w1 made out t t' a e same m o =
    subst (λ s. Resolves was now w0 w1 out (resolve_statement s a was.block (numbering w0))) (sym e)
    (record {
      done = o ∙ m.done;
      counts = m.counts;
      names = same ∙ ap (with_block was) m.block;
      faults = m.faults;
    })

-- ---- parts at another numbering that is the same

pub part_at : (was now : SymbolTable) (w0 w1 : FunctionState) (made : Stmt)
    (f : Numbering → ResolvedStatements) (n n' : Numbering)
    → n ≡ n' → MakesPart was now w0 w1 made (f n) → MakesPart was now w0 w1 made (f n')
part_at was now w0 w1 made f n n' e m = subst (λ k. MakesPart was now w0 w1 made (f k)) e m

pub block_at : (was now : SymbolTable) (w0 w1 : FunctionState) (made : List Stmt)
    (f : Numbering → ResolvedStatements) (n n' : Numbering) → n ≡ n'
    → MakesBlock was now w0 w1 made (f n) → MakesBlock was now w0 w1 made (f n')
block_at was now w0 w1 made f n n' e m = subst (λ k. MakesBlock was now w0 w1 made (f k)) e m

-- ---- parts of the same statements in the same environment

pub part_in : (was now : SymbolTable) (w0 w1 : FunctionState) (made : Stmt) (t' t : Statement)
    (a' a : Environment) (n : Numbering)
    → t' ≡ t → a' ≡ a
    → MakesPart was now w0 w1 made (resolve_statement t' a' [] n)
    → MakesPart was now w0 w1 made (resolve_statement t a [] n)
part_in was now w0 w1 made t' t a' a n p q m =
    subst (λ k. MakesPart was now w0 w1 made (resolve_statement t k [] n)) q
    (subst (λ k. MakesPart was now w0 w1 made (resolve_statement k a' [] n)) p m)

pub block_in : (was now : SymbolTable) (w0 w1 : FunctionState) (made : List Stmt)
    (list' list : List Read)
    (a' a : Environment)
    (n : Numbering) → list' ≡ list → a' ≡ a
    → MakesBlock was now w0 w1 made (resolve_statements (statements (map statement list')) a' [] n)
    → MakesBlock was now w0 w1 made (resolve_statements (statements (map statement list)) a [] n)
block_in was now w0 w1 made list' list a' a n p q m =
    subst (λ k. MakesBlock was now w0 w1 made (resolve_statements (statements (map statement list))
    k [] n)) q
    (subst (λ k. MakesBlock was now w0 w1 made (resolve_statements (statements (map statement k)) a'
    [] n)) p m)

pub condition_and_body_in : (was now : SymbolTable) (w0 w1 : FunctionState) (e : Expr) (made : Stmt)
    (v : Value)
    (t' t : Statement)
    (a' a : Environment) (n : Numbering) → t' ≡ t → a' ≡ a
    → MakesConditionAndBody was now w0 w1 e made v (resolve_statement t' a' [] n)
    → MakesConditionAndBody was now w0 w1 e made v (resolve_statement t a [] n)
condition_and_body_in was now w0 w1 e made v t' t a' a n p q m =
    subst (λ k. MakesConditionAndBody was now w0 w1 e made v (resolve_statement t k [] n)) q
    (subst (λ k. MakesConditionAndBody was now w0 w1 e made v (resolve_statement k a' [] n)) p m)

-- ---- a condition and what it governs

pub condition_and_body_is : (was now : SymbolTable) (w0 w1 w2 : FunctionState) (e : Expr) (s : Stmt)
    (v : Value)
    (f : Numbering → ResolvedStatements)
    → expression e ≡ v.value → least_of w1.faults ≡ kept (least_of w0.faults) v.faults
    → numbering w1 ≡ numbering w0
    → MakesPart was now w1 w2 s (f (numbering w1))
    → MakesConditionAndBody was now w0 w2 e s v (f (numbering w0))
condition_and_body_is was now w0 w1 w2 e s v f value faults n m =
    let k = part_at was now w1 w2 s f (numbering w1) (numbering w0) n m in
    record {
      condition = value;
      names = k.names;
      done = k.done;
      counts = k.counts;
      faults = kept_more (least_of w0.faults) (least_of w1.faults) (least_of w2.faults) v.faults
          (f (numbering w0)).faults faults k.faults;
    }

pub if_else_is : (was middle now : SymbolTable) (b : Scope) (w0 w1 w2 : FunctionState) (e : Expr)
    (s o made : Stmt) (a : Environment)
    (at : ℕ) (c : Expression) (t u : Statement)
    → MakesConditionAndBody was middle w0 w1 e s (condition at (resolved_at a b c))
    (resolve_statement t (inside a b) [] (numbering w0))
    → MakesPart was now w1 w2 o (resolve_statement u (inside a b) [] (numbering w1))
    → checked.statement made ≡ checked.IfElse (expression e) (checked.statement s)
    (checked.statement o)
    → MakesOne b w0 w2 made (resolve_statement (trees.IfElse at c t u) a b (numbering w0))
if_else_is was middle now b w0 w1 w2 e s o made a at c t u m k p =
    let v = condition at (resolved_at a b c) in
    let r = resolve_statement t (inside a b) [] (numbering w0) in
    let j = part_at was now w1 w2 o (λ n. resolve_statement u (inside a b) [] n) (numbering w1)
    r.counts m.counts k in
    let q = resolve_statement u (inside a b) [] r.counts in
    record {
      done =
          ap (λ x. x ∷ [])
          (p ∙ ap (λ x. checked.IfElse x (checked.statement s) (checked.statement o)) m.condition
          ∙ ap (λ x. checked.IfElse v.value x (checked.statement o)) m.done
          ∙ ap (checked.IfElse v.value (only r.done)) j.done);
      counts = j.counts;
      block = refl;
      faults =
          kept_more (least_of w0.faults) (least_of w1.faults) (least_of w2.faults)
          (v.faults ++ r.faults) q.faults m.faults j.faults
          ∙ ap (kept (least_of w0.faults)) (append_assoc v.faults r.faults q.faults);
    }

-- ---- in a block of its own, whose names end with it

pub part_is : (e : Environment') (t t1 t2 t3 : SymbolTable) (w w' : FunctionState)
    (list : List Stmt)
    (made : Stmt) (s : Statement)
    → t1 ≡ opened t
    → Resolves t1 t2 w w' (map checked.statement list)
    (resolve_statement s (environment e t1.around) t1.block (numbering w))
    → t3 ≡ closed t2 → checked.statement made ≡ only (map checked.statement list)
    → MakesPart t t3 w w' made
    (resolve_statement s (environment e (t.block ∷ t.around)) [] (numbering w))
part_is e t t1 t2 t3 w w' list made s begins m0 ends is =
    let m : Resolves (opened t) t2 w w' (map checked.statement list)
    (resolve_statement s (environment e (t.block ∷ t.around)) [] (numbering w)) = subst
    (λ (k : SymbolTable). Resolves k t2 w w' (map checked.statement list)
    (resolve_statement s (environment e k.around) k.block (numbering w))) begins m0 in
    record {
      names = ends ∙ ap closed m.names;
      done = is ∙ ap only m.done;
      counts = m.counts;
      faults = m.faults;
    }

pub block_is : (e : Environment') (t t1 t2 t3 : SymbolTable) (w w' : FunctionState)
    (made : List Stmt)
    (ss : Statements)
    → t1 ≡ opened t
    → Resolves t1 t2 w w' (map checked.statement made)
    (resolve_statements ss (environment e t1.around) t1.block (numbering w))
    → t3 ≡ closed t2
    → MakesBlock t t3 w w' made
    (resolve_statements ss (environment e (t.block ∷ t.around)) [] (numbering w))
block_is e t t1 t2 t3 w w' made ss begins m0 ends =
    let m : Resolves (opened t) t2 w w' (map checked.statement made)
    (resolve_statements ss (environment e (t.block ∷ t.around)) [] (numbering w)) = subst
    (λ (k : SymbolTable). Resolves k t2 w w' (map checked.statement made)
    (resolve_statements ss (environment e k.around) k.block (numbering w))) begins m0 in
    record {
      names = ends ∙ ap closed m.names;
      done = m.done;
      counts = m.counts;
      faults = m.faults;
    }
