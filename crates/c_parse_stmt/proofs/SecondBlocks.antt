-- Failures in the second block of a `__try` statement.
use Rattle.std.proofs.Common.{◌≤◌, ◌+◌, ◌++◌, ℕ, List, length-append, refl, ap, ◌∙◌, subst, arith}
use Rattle.c_lex.specs.declared.keyword.Keyword.TheVariants as keywords
use Rattle.c_lex.specs.declared.punctuator.Punctuator.TheVariants as punctuators
use Rattle.c_parse_stmt.specs.Words.{Token, expression, Wraps, accepts, TryExcept, TryFinally, Statements, AreBlockItems, Remaining, IsClause, ClauseIsTaken, with_clause, IsTry, Guards, AllTaken, NoBlockItems, HasBlockItems, IsStatementWithin, NoStatement, HasStatement, bytes_so_far, end_of_all_arrays}
use Rattle.c_parse_stmt.proofs.Lemmas.{Moves, has_punctuator, condition, items, filter}
use Rattle.c_parse_stmt.specs.declared.endings.Clause.{Clause}
use Rattle.c_parse_stmt.specs.declared.endings.Clause.TheVariants as clauses
use Rattle.c_parse_stmt.proofs.Heading.{Key, Sig, Condition, key_moves}
use Rattle.c_parse_stmt.proofs.Sequences.{Both, both_fixed, both_moves, moves_so, able_now, wraps}
use Rattle.c_parse_stmt.proofs.Tries.{number_length, no_braced, no_handler, except_found, no_last, finally_found}
use Rattle.c_parse_stmt.proofs.Clauses.{Items, Guard, Except, Finally, excepted, finished, brace}
use Rattle.c_parse_stmt.proofs.Guarding.{guard_moves, taken_moved, braced, filter_moved}

-- ---- the second block

clause_moves : (c : Clause) (text : List ℕ) (ts rest : List Token) → IsClause text c ts rest
    → Moves (λ t. IsClause t c) text ts rest
clause_moves (clauses.Except at f) text ts rest h =
    moves_so (Both (Both (Key keywords.Except at) (Condition (expression f)))
    (Sig punctuators.OpenBrace)) (λ t. IsClause t (clauses.Except at f)) text ts rest
    (λ t us end x. record {
      after_keyword = x.first.mid;
      after_filter = x.mid;
      keyword = x.first.first;
      filter = x.first.second;
      brace = x.second;
    })
    (both_moves (Both (Key keywords.Except at) (Condition (expression f)))
    (Sig punctuators.OpenBrace) text ts h.after_filter rest
    (both_moves (Key keywords.Except at)
    (Condition (expression f)) text ts h.after_keyword h.after_filter
    (key_moves keywords.Except at text ts h.after_keyword h.keyword)
    (condition (expression f) text h.after_keyword h.after_filter h.filter))
    (has_punctuator punctuators.OpenBrace text h.after_filter rest h.brace))
clause_moves (clauses.Finally at) text ts rest h =
    moves_so (Both (Key keywords.Finally at) (Sig punctuators.OpenBrace))
    (λ t. IsClause t (clauses.Finally at)) text ts rest (λ t us end x. (x.mid, x.first, x.second))
    (both_moves (Key keywords.Finally at) (Sig punctuators.OpenBrace) text ts h.0 rest
    (key_moves keywords.Finally at text ts h.0 h.1)
    (has_punctuator punctuators.OpenBrace text h.0 rest h.2))

abbrev pub Clausing : Statements → Clause → List ℕ → List Token → List Token → Type 0
Clausing body c = Both (Guard body) (λ t. IsClause t c)

clausing_moves : (room : ℕ) (whole left : Remaining) (body : Statements) (c : Clause)
    (text : List ℕ)
    (ts rest j : List Token) → Guards text room whole left body ts rest → IsClause text c rest j
    → Moves (Clausing body c) text ts j
clausing_moves room whole left body c text ts rest j g is = both_moves (Guard body)
    (λ t. IsClause t c) text ts rest j (guard_moves room whole left body text ts rest g)
    (clause_moves c text rest j is)

pub last_block : (room : ℕ) (whole left next : Remaining) (body : Statements) (c : Clause)
    (text : List ℕ) (ts rest j : List Token) → Guards text room whole left body ts rest
    → ClauseIsTaken text room left next c rest j
    → Wraps (NoBlockItems room next) (HasBlockItems room next) (NoStatement room whole)
    (HasStatement room whole) text j ts
last_block room whole left next body (clauses.Except at f) text ts rest j g c =
    wraps (Clausing body (clauses.Except at f)) (NoBlockItems room next) (HasBlockItems room next)
    (NoStatement room whole) (HasStatement room whole) text ts j
    (clausing_moves room whole left body (clauses.Except at f) text ts rest j g c.is)
    (λ n text' all other h e r none.
    let x = r.first in
    no_handler n text' room x.first.1.0 at whole left next body
    (expression f) x.first.0 r.mid r.second.after_keyword r.second.after_filter
    (braced body text' all r.mid x)
    (taken_moved room whole left body text text' ts rest h g) r.second.keyword r.second.filter
    (filter_moved room at whole left next body
    (expression f) text text' ts rest c.is.after_keyword c.is.after_filter h g c.is.keyword
    c.is.filter c.funclets) c.locals c.bytes
    (no_braced n text' room next r.second.after_filter other r.second.brace none) all x.first.1.1)
    (λ n text' front inner h r has. able_now (HasStatement room whole) n text' (front ++ inner) (
    let t = taken_moved room whole left body text text' ts rest h g in
    let q = filter_moved room at whole left next body
    (expression f) text text' ts rest c.is.after_keyword c.is.after_filter h g c.is.keyword
    c.is.filter c.funclets in
    let l = c.locals in let s = c.statements in let y = c.low in
    record {
      tree = TryExcept body at (expression f) has.trees;
      is = λ other.
          let x = both_fixed (Clausing body (clauses.Except at f)) (Items has.trees) text' front
          inner r has.are other in let z = x.first.second in
          excepted body has.trees at (expression f) text' ((front ++ inner) ++ other) other
          (record {
            mid = x.first.mid;
            first = x.first.first;
            second = record {
              after_keyword = z.after_keyword;
              after_filter = z.after_filter;
              keyword = z.keyword;
              filter = z.filter;
              handler = record { after_brace = x.mid; brace = z.brace; items = x.second };
            };
          });
      statement = refl;
      within = record {
        statements = λ i. let a = t.statements in let b = has.within.statements i in omega arith;
        expressions = λ i. let a = t.expressions in let b = has.within.expressions i in omega arith;
        locals = λ i. let a = t.locals in let b = has.within.locals i in omega arith;
        bytes = λ i. subst (λ x. end_of_all_arrays has.trees x ≤ 65536)
            (ap bytes_so_far c.bytes ∙ t.bytes) (has.within.bytes i);
        funclets = λ i. let a = t.funclets in let b = has.within.funclets i in
            let d = number_length (accepts text' (expression f)) at in
            omega (arith, length-append {A = ℕ});
      };
    }))
last_block room whole left next body (clauses.Finally at) text ts rest j g c =
    wraps (Clausing body (clauses.Finally at)) (NoBlockItems room next) (HasBlockItems room next)
    (NoStatement room whole) (HasStatement room whole) text ts j
    (clausing_moves room whole left body (clauses.Finally at) text ts rest j g c.is)
    (λ n text' all other h e r none.
    let x = r.first in
    no_last n text' room x.first.1.0 at whole left next body x.first.0 r.mid r.second.0
    (braced body text' all r.mid x) (taken_moved room whole left body text text' ts rest h g)
    r.second.1 c.funclets c.locals c.bytes
    (no_braced n text' room next r.second.0 other r.second.2 none) all x.first.1.1)
    (λ n text' front inner h r has. able_now (HasStatement room whole) n text' (front ++ inner) (
    let t = taken_moved room whole left body text text' ts rest h g in
    let l = c.locals in let q = c.funclets in
    record {
      tree = TryFinally body at has.trees;
      is = λ other.
          let x = both_fixed (Clausing body (clauses.Finally at)) (Items has.trees) text' front
          inner r has.are other in let z = x.first.second in
          finished body has.trees at text' ((front ++ inner) ++ other) other (record {
            mid = x.first.mid;
            first = x.first.first;
            second = (z.0, z.1, record { after_brace = x.mid; brace = z.2; items = x.second });
          });
      statement = refl;
      within = record {
        statements = λ i. let a = t.statements in let b = has.within.statements i in omega arith;
        expressions = λ i. let a = t.expressions in let b = has.within.expressions i in omega arith;
        locals = λ i. let a = t.locals in let b = has.within.locals i in omega arith;
        bytes = λ i. subst (λ x. end_of_all_arrays has.trees x ≤ 65536)
            (ap bytes_so_far c.bytes ∙ t.bytes) (has.within.bytes i);
        funclets = λ i. let a = t.funclets in let b = has.within.funclets i in
            omega (arith, length-append {A = ℕ});
      };
    }))

pub try_statement_found : (room : ℕ) (whole left next after : Remaining) (body last : Statements)
    (c : Clause)
    (text : List ℕ) (ts rest j end : List Token) → Guards text room whole left body ts rest
    → ClauseIsTaken text room left next c rest j → AreBlockItems text last j end
    → AllTaken text room next after last → IsStatementWithin text room whole after
    (with_clause body c last) ts end
try_statement_found room whole left next after body last
    (clauses.Except at f) text ts rest j end g c are
    t =
    except_found text room g.is.1.0 at whole left next after body last
    (expression f) g.is.0 rest c.is.after_keyword c.is.after_filter end c.statements
    (record {
      after_brace = g.mid;
      brace = g.is.2;
      items = g.are;
    }) g.taken c.is.keyword c.is.filter c.low c.funclets c.locals c.bytes
    (record { after_brace = j; brace = c.is.brace; items = are }) t ts g.is.1.1
try_statement_found room whole left next after body last
    (clauses.Finally at) text ts rest j end g c are
    t =
    finally_found text room g.is.1.0 at whole left next after body last g.is.0 rest c.is.0 end
    (record {
      after_brace = g.mid;
      brace = g.is.2;
      items = g.are;
    }) g.taken c.is.1 c.funclets c.locals c.bytes
    (record { after_brace = j; brace = c.is.2; items = are }) t ts g.is.1.1

abbrev pub guards : (text : List ℕ) (room : ℕ) (left after : Remaining) (body : Statements)
    (ts mid rest : List Token) → 1 ≤ room + left.funclets → IsTry ts mid
    → AreBlockItems text body mid rest → AllTaken text room left after body
    → Guards text room left after body ts rest
guards text room left after body ts mid rest o t i
    k = record { some = o; mid = mid; is = t; are = i; taken = k }
