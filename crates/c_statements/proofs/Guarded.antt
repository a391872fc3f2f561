-- A `for` and a `__try` by what was made of their parts, one after another.
use Rattle.std.proofs.Common.{◌≡◌, ℕ, ◌+◌, List, [], ◌∷◌, ◌++◌, map, Option, refl, ap, subst, ◌∙◌}
use Rattle.std.specs.Prelude.{option_map}
use Rattle.c_statements.specs.Words.{Expr, Stmt, declared, SymbolTable, with_block, opened, closed, environment, least_of, kept, FunctionState, IsBeginning, numbering, resolved_at, in_loop, in_body, in_handler, in_finally, Scope, Environment, Numbering, ResolvedStatements, Optional, inside, condition, any, optional, with_number, resolve_filter, resolve_for_initialiser, resolve_statement, resolve_statements, MakesOne, MakesPart, MakesBlock, Expression, Statement, Statements, ForInitialiser}
use Rattle.c_checked.specs.declared.statement.Filter.{Filter}
use Rattle.c_checked.specs.Expression.{expression}
use Rattle.c_checked.specs.Statement as checked
use Rattle.c_statements.proofs.Lemmas.{kept_more}
use Rattle.c_locals.specs.declared.declarations.Beginning.{Beginning}
use Rattle.c_locals.specs.declared.environment.Environment.{Environment as Environment'}
use Rattle.c_locals.specs.Values.{MayEvaluate, ResolvesFilter, filter_with, number_after}
use Rattle.c_resolved.specs.Expressions.{FaultAt}
use Rattle.c_statements.proofs.Parts.{part_at, block_at}
use Rattle.c_syntax.specs.Statement as trees

-- ---- `__try` with a `__finally` block

pub finally_is : (t t1 t2 : SymbolTable) (b : Scope) (w0 w1 w2 w3 : FunctionState)
    (vs ks : List Stmt)
    (number : ℕ) (made : Stmt)
    (a : Environment) (ss : Statements) (at : ℕ) (ls : Statements)
    → MakesBlock t t1 w0 w1 vs (resolve_statements ss (in_body (inside a b)) [] (numbering w0))
    → number ≡ w1.number → numbering w2 ≡ with_number (numbering w1) (w1.number + 1)
    → w2.faults ≡ w1.faults
    → MakesBlock t t2 w2 w3 ks (resolve_statements ls (in_finally (inside a b)) [] (numbering w2))
    → checked.statement made ≡ checked.TryFinally (checked.statements (map checked.statement vs))
    number (checked.statements (map checked.statement ks))
    → MakesOne b w0 w3 made (resolve_statement (trees.TryFinally ss at ls) a b (numbering w0))
finally_is t t1 t2 b w0 w1 w2 w3 vs ks number made a ss at ls m is n kept_so k p =
    let r = resolve_statements ss (in_body (inside a b)) [] (numbering w0) in
    let f : Numbering → ResolvedStatements = λ n. resolve_statements ls (in_finally (inside a b)) []
    n in
    let to : numbering w2 ≡ with_number r.counts (r.counts.number + 1) = n
    ∙ ap (λ (c : Numbering). with_number c (c.number + 1)) m.counts in
    let j = block_at t t2 w2 w3 ks f (numbering w2) (with_number r.counts (r.counts.number + 1)) to
    k in
    let q = f (with_number r.counts (r.counts.number + 1)) in
    record {
      done =
          ap (λ x. x ∷ [])
          (p ∙ ap (λ x. checked.TryFinally (checked.statements x) number
          (checked.statements (map checked.statement ks))) m.done
          ∙ ap (λ x. checked.TryFinally (checked.statements r.done) x
          (checked.statements (map checked.statement ks)))
          (is ∙ ap (λ (c : Numbering). c.number) m.counts)
          ∙ ap (λ x. checked.TryFinally (checked.statements r.done) r.counts.number
          (checked.statements x)) j.done);
      counts = j.counts;
      block = refl;
      faults = kept_more (least_of w0.faults) (least_of w1.faults) (least_of w3.faults) r.faults
          q.faults m.faults (j.faults ∙ ap (λ l. kept (least_of l) q.faults) kept_so);
    }

-- ---- `__try` with a filter

pub except_is : (t t1 t2 : SymbolTable) (b : Scope) (w0 w1 w2 w3 w4 : FunctionState)
    (answer : Option Expr)
    (filter : Filter)
    (vs ks : List Stmt) (made : Stmt) (a : Environment) (ss : Statements) (at : ℕ) (e : Expression)
    (hs : Statements)
    → numbering w1 ≡ numbering w0 → ResolvesFilter w0.faults w1.faults answer (resolve_filter a b e)
    → MakesBlock t t1 w1 w2 vs (resolve_statements ss (in_body (inside a b)) [] (numbering w1))
    → checked.filter filter ≡ filter_with w2.number (option_map expression answer)
    → numbering w3 ≡ with_number (numbering w2)
    (number_after w2.number (option_map expression answer)) → w3.faults ≡ w2.faults
    → MakesBlock t t2 w3 w4 ks (resolve_statements hs (in_handler (inside a b)) [] (numbering w3))
    → checked.statement made ≡ checked.TryExcept (checked.statements (map checked.statement vs))
    (checked.filter filter) (checked.statements (map checked.statement ks))
    → MakesOne b w0 w4 made (resolve_statement (trees.TryExcept ss at e hs) a b (numbering w0))
except_is t t1 t2 b w0 w1 w2 w3 w4 answer filter vs ks made a ss at e hs same v m0 is n kept_so k
    p =
    let body : Numbering → ResolvedStatements = λ n. resolve_statements ss (in_body (inside a b)) []
    n in
    let handler : Numbering → ResolvedStatements = λ n. resolve_statements hs
    (in_handler (inside a b)) [] n in
    let m = block_at t t1 w1 w2 vs body (numbering w1) (numbering w0) same m0 in
    let r = body (numbering w0) in
    let number = r.counts.number in
    let q = resolve_filter a b e number in
    let at_number : w2.number ≡ number = ap (λ (c : Numbering). c.number) m.counts in
    let to : numbering w3 ≡ with_number r.counts q.number =
    n ∙ ap (λ (c : Numbering). with_number c (number_after c.number (option_map expression answer)))
    m.counts ∙ ap (with_number r.counts) (v.number number) in
    let j = block_at t t2 w3 w4 ks handler (numbering w3) (with_number r.counts q.number) to k in
    let h = handler (with_number r.counts q.number) in
    record {
      done =
          ap (λ x. x ∷ [])
          (p ∙ ap (λ x. checked.TryExcept (checked.statements x) (checked.filter filter)
          (checked.statements (map checked.statement ks))) m.done
          ∙ ap (λ x. checked.TryExcept (checked.statements r.done) x
          (checked.statements (map checked.statement ks)))
          (is ∙ ap (λ x. filter_with x (option_map expression answer)) at_number
          ∙ v.filter number)
          ∙ ap (λ x. checked.TryExcept (checked.statements r.done) q.filter (checked.statements x))
          j.done);
      counts = j.counts;
      block = refl;
      faults =
          kept_more (least_of w0.faults) (least_of w1.faults) (least_of w4.faults) q.faults
          (r.faults ++ h.faults) (v.faults number)
          (kept_more (least_of w1.faults) (least_of w2.faults)
          (least_of w4.faults) r.faults h.faults
          m.faults (j.faults ∙ ap (λ l. kept (least_of l) h.faults) kept_so));
    }

-- ---- `for`

-- faults of four parts, one after another
four : (first w1 w2 w3 w4 : Option FaultAt) (x y z u : List FaultAt) → w1 ≡ kept first x
    → w2 ≡ kept w1 y → w3 ≡ kept w2 z → w4 ≡ kept w3 u → w4 ≡ kept first (((x ++ y) ++ z) ++ u)
four first w1 w2 w3 w4 x y z u p q r s = kept_more first w3 w4 ((x ++ y) ++ z) u
    (kept_more first w2 w3 (x ++ y) z (kept_more first w1 w2 x y p q) r) s

-- t1 and w0 at the begin of its block, t2 and w1 after what it does first, w2 after the condition,
-- w3 after what follows each iteration, t3 and w4 after the body
pub for_is : (e inner : Environment') (t t1 t2 t3 : SymbolTable) (w0 w1 w2 w3 w4 : FunctionState)
    (beginning : Beginning) (value next : Option Expr) (s made : Stmt) (at : ℕ)
    (first : ForInitialiser) (c n : Option Expression) (body : Statement)
    → t1 ≡ opened t
    → ((around : List Scope) → environment inner around ≡ in_loop (environment e around))
    → IsBeginning t1 t2 w0 w1 beginning
    (resolve_for_initialiser (environment e t1.around) first (numbering w0))
    → MayEvaluate w1.faults w2.faults value (optional
    (λ x. condition at (resolved_at (environment e t2.around) t2.block x)) c)
    → MayEvaluate w2.faults w3.faults next (optional
    (λ x. any (resolved_at (environment e t2.around) t2.block x)) n)
    → numbering w3 ≡ numbering w1
    → MakesPart t2 t3 w3 w4 s
    (resolve_statement body (environment inner (t2.block ∷ t2.around)) [] (numbering w3))
    → checked.statement made ≡ checked.For (map declared beginning.declared.items)
    (option_map expression beginning.first) (option_map expression value)
    (option_map expression next) (checked.statement s)
    → MakesOne t.block w0 w4 made
    (resolve_statement (trees.For at first c n body) (environment e t.around) t.block
    (numbering w0))
for_is e inner t t1 t2 t3 w0 w1 w2 w3 w4 beginning value next s made at first c n body begins loops
    m0 v0 u0 same k0 p =
    let here = environment e (t.block ∷ t.around) in
    let i = resolve_for_initialiser here first (numbering w0) in
    let block = i.resolved.block in
    let m : IsBeginning (opened t) t2 w0 w1 beginning i = subst
    (λ (x : SymbolTable). IsBeginning x t2 w0 w1 beginning
    (resolve_for_initialiser (environment e x.around) first (numbering w0))) begins m0 in
    let vs : Optional = optional (λ x. condition at (resolved_at here block x)) c in
    let us : Optional = optional (λ x. any (resolved_at here block x)) n in
    let v : MayEvaluate w1.faults w2.faults value vs = subst
    (λ (x : SymbolTable). MayEvaluate w1.faults w2.faults value
    (optional (λ y. condition at (resolved_at (environment e x.around) x.block y)) c)) m.names v0 in
    let u : MayEvaluate w2.faults w3.faults next us = subst
    (λ (x : SymbolTable). MayEvaluate w2.faults w3.faults next
    (optional (λ y. any (resolved_at (environment e x.around) x.block y)) n)) m.names u0 in
    let within : Numbering → ResolvedStatements = λ x. resolve_statement body
    (in_loop (inside here block)) [] x in
    let k1 = subst (λ (x : SymbolTable). MakesPart t2 t3 w3 w4 s
    (resolve_statement body (environment inner (x.block ∷ x.around)) [] (numbering w3))) m.names
    k0 in
    let k2 : MakesPart t2 t3 w3 w4 s (within (numbering w3)) = subst
    (λ x. MakesPart t2 t3 w3 w4 s (resolve_statement body x [] (numbering w3)))
    (loops (block ∷ t.block ∷ t.around)) k1 in
    let k = part_at t2 t3 w3 w4 s within (numbering w3) i.resolved.counts (same ∙ m.counts) k2 in
    let r = within i.resolved.counts in
    record {
      done =
          ap (λ x. x ∷ [])
          (p ∙ ap (λ x. checked.For x (option_map expression beginning.first)
          (option_map expression value) (option_map expression next) (checked.statement s))
          m.declared
          ∙ ap (λ x. checked.For i.declared x (option_map expression value)
          (option_map expression next) (checked.statement s)) m.first
          ∙ ap (λ x. checked.For i.declared i.first.value x (option_map expression next)
          (checked.statement s)) v.value
          ∙ ap (λ x. checked.For i.declared i.first.value vs.value x (checked.statement s)) u.value
          ∙ ap (λ x. checked.For i.declared i.first.value vs.value us.value x) k.done);
      counts = k.counts;
      block = refl;
      faults = four (least_of w0.faults) (least_of w1.faults) (least_of w2.faults)
          (least_of w3.faults)
          (least_of w4.faults) (i.resolved.faults ++ i.first.faults) vs.faults us.faults r.faults
          m.faults v.faults u.faults k.faults;
    }

-- the names after a block of its own are those before
pub ends_as_before : (t t1 t2 t3 t4 : SymbolTable) (block : Scope) → t1 ≡ opened t
    → t2 ≡ with_block t1 block → t3 ≡ t2 → t4 ≡ closed t3 → t4 ≡ t
ends_as_before t t1 t2 t3 t4 block begins inside_it same ends =
    ends ∙ ap closed (same ∙ inside_it ∙ ap (λ x. with_block x block) begins)
