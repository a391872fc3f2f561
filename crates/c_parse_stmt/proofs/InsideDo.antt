-- Failures in a `do`, from its statement on.
use Rattle.std.proofs.Common.{◌≤◌, ◌+◌, ◌++◌, ℕ, IsFalse, List, length, refl, ap, ◌∙◌, arith}
use Rattle.c_lex.specs.declared.keyword.Keyword.TheVariants as keywords
use Rattle.c_lex.specs.declared.punctuator.Punctuator.TheVariants as punctuators
use Rattle.c_parse_stmt.specs.Words.{Token, Expression, height, Alike, place, Failed, Wraps, Closed, statements_over, Statement, While, DoWhile, first, statement, IsCondition, is_declaration, IsBlockItem, IsKeyword, HasPunctuator, HasKeyword, Remaining, Holds, NoPunctuator, APunctuator, NoCondition, HasCondition, Within, IsStatementWithin, NoStatement, HasStatement, end_of_arrays}
use Rattle.c_parse_stmt.proofs.Lemmas.{while_else, alike_inner, closed, no_keyword, Moves, condition, item}
use Rattle.c_syntax.proofs.MovesStatements.{numbered as same_funclets}
use Rattle.c_parse_stmt.specs.declared.openings.Head.TheVariants as heads
use Rattle.c_parse_stmt.specs.Openings.{locals}
use Rattle.c_parse_stmt.proofs.Heading.{Key, Sig, Condition, key_moves, semicolon, unit, while_end}
use Rattle.c_parse_stmt.proofs.Sequences.{Both, both_fixed, both_moves, able_now, wraps, failed, a_punctuator}
use Rattle.c_parse_stmt.proofs.Loops.{no_do_while, no_do_condition, no_do_end, do_found}
use Rattle.c_parse_stmt.proofs.Inside.{head_moves, same_left, reads_from, WhileEnd, is_while_end, Inner, inner_moves, inner_reads}

-- ---- `do`

pub do_ends : (room p : ℕ) (whole left : Remaining) (s : Statement) (c : Expression) (text : List ℕ)
    (ts rest d e end : List Token) → Holds text room whole left heads.Do s ts rest
    → IsKeyword keywords.While p rest d → IsCondition text c d e → height c ≤ 64
    → HasPunctuator punctuators.Semicolon e end
    → IsStatementWithin text room whole left (DoWhile s p c) ts end
do_ends room p whole left s c text ts rest d e end g k is low semi =
    let l = g.head.locals in
    let q = same_left g.between whole (omega arith) g.head.bytes g.head.funclets in
    let i = g.head.is in
    do_found text room g.less i.0 p whole left s c g.mid rest d e end g.more
    (reads_from text g.less g.between whole left s g.mid rest q g.inner) k is low semi ts i.1

do_reads : (room : ℕ) (whole left : Remaining) (s : Statement) (text text' : List ℕ)
    (ts rest all other : List Token) (g : Holds text room whole left heads.Do s ts rest)
    → Alike text text' ts → (r : Inner heads.Do s text' all other) → Closed s other
    → IsStatementWithin text' g.less whole left s r.mid other
do_reads room whole left s text text' ts rest all other g k r c =
    let l = g.head.locals in
    let q = same_left g.between whole (omega arith) g.head.bytes g.head.funclets in
    reads_from text' g.less g.between whole left s r.mid other q
    (inner_reads room whole left heads.Do s text text' ts rest all r.mid other g k r.second c)

do_within : (n room : ℕ) (whole left : Remaining) (s : Statement) (c : Expression) (at : ℕ)
    (text text' : List ℕ) (ts rest : List Token) → Holds text room whole left heads.Do s ts rest
    → Alike text text' ts → (1 ≤ n → height c ≤ 64)
    → Within n text' (statements_over (DoWhile s at c)) room whole (DoWhile s at c)
do_within n room whole left s c at text text' ts rest g k low =
    let m = head_moves heads.Do text ts g.mid g.head.is in
    let d = ap (λ (x : List ℕ). length x) (same_funclets s text text' g.mid rest g.inner.is
    (alike_inner text text' m.front g.mid ts m.split k)) in
    let t = g.inner.taken in let t0 = t.statements in let t1 = t.expressions in let t2 = t.locals in
    let t3 = t.funclets in
    let h0 = g.head.locals in let h1 = g.head.funclets in let h2 = g.more in
    let b = t.bytes ∙ ap (end_of_arrays s) g.head.bytes in
    record {
      statements = λ i. omega arith;
      expressions = λ i. let a = low i in omega arith;
      locals = λ i. omega arith;
      bytes = λ i. omega arith;
      funclets = λ i. omega arith;
    }

do_moves : (room : ℕ) (whole left : Remaining) (s : Statement) (text : List ℕ)
    (ts rest : List Token)
    → Holds text room whole left heads.Do s ts rest → Moves (Inner heads.Do s) text ts rest
do_moves room whole left s text ts rest g = inner_moves heads.Do s text ts g.mid rest g.head.is
    g.inner.is

pub do_unended : (room : ℕ) (whole left : Remaining) (s : Statement) (text : List ℕ)
    (ts rest : List Token) → Holds text room whole left heads.Do s ts rest
    → ((z : List Token) → HasKeyword keywords.While rest z → ⊥)
    → Failed 0 (place text rest) (NoStatement room whole) (HasStatement room whole) text ts
do_unended room whole left s text ts rest g none =
    failed (Inner heads.Do s) 0 (NoStatement room whole) (HasStatement room whole) text ts rest
    (do_moves room whole left s text ts rest g)
    (λ text' all other k e r. no_do_while 0 text' room g.less r.first.0 whole left s r.mid other
    (do_reads room whole left s text text' ts rest all other g k r
    (closed s rest other e g.inner.closed)) (no_keyword keywords.While rest other e none) all
    r.first.1)
    (λ text' front k r. record {
      more = while_end;
      has = record {
        tree = DoWhile s 0 unit;
        is = λ other.
            let x = both_fixed (Inner heads.Do s) WhileEnd text' front while_end r
            (is_while_end text') other in let y = x.second in
            record {
              after_do = x.first.mid;
              after_body = x.mid;
              after_while = y.after_while;
              after_condition = y.after_condition;
              do_keyword = x.first.first;
              body = record { no_declaration = g.inner.statement; item = x.first.second };
              keyword = y.keyword;
              condition = y.condition;
              semicolon = y.semicolon;
            };
        statement = refl;
        within = do_within 7 room whole left s unit 0 text text' ts rest g k (λ i. omega arith);
      };
    })
    (λ text' k front h r e. absurd (omega arith))

abbrev pub DoWhiles : Statement → ℕ → List ℕ → List Token → List Token → Type 0
DoWhiles s p = Both (Inner heads.Do s) (Key keywords.While p)

abbrev pub DoCondition : Statement → ℕ → Expression → List ℕ → List Token → List Token → Type 0
DoCondition s p c = Both (DoWhiles s p) (Condition c)

abbrev pub DoAll : Statement → ℕ → Expression → List ℕ → List Token → List Token → Type 0
DoAll s p c = Both (DoCondition s p c) (Sig punctuators.Semicolon)

do_item : (s : Statement) (p : ℕ) (c : Expression) (text : List ℕ) (ts rest : List Token)
    → IsFalse (is_declaration s) → DoAll s p c text ts rest
    → IsBlockItem text (DoWhile s p c) ts rest
do_item s p c text ts rest f x =
    let y = x.first.first in
    record {
      after_do = y.first.mid;
      after_body = y.mid;
      after_while = x.first.mid;
      after_condition = x.mid;
      do_keyword = y.first.first;
      body = record { no_declaration = f; item = y.first.second };
      keyword = y.second;
      condition = x.first.second;
      semicolon = x.second;
    }

before_while : (s : Statement) (p : ℕ) (ts rest : List Token) → IsKeyword keywords.While p ts rest
    → Closed s ts
before_while s p ts rest k i = while_else p ts rest k

whiles_moves : (room p : ℕ) (whole left : Remaining) (s : Statement) (text : List ℕ)
    (ts rest d : List Token) → Holds text room whole left heads.Do s ts rest
    → IsKeyword keywords.While p rest d → Moves (DoWhiles s p) text ts d
whiles_moves room p whole left s text ts rest d g k = both_moves (Inner heads.Do s)
    (Key keywords.While p) text ts rest d (do_moves room whole left s text ts rest g)
    (key_moves keywords.While p text rest d k)

pub do_condition : (room p : ℕ) (whole left : Remaining) (s : Statement) (text : List ℕ)
    (ts rest d : List Token) → Holds text room whole left heads.Do s ts rest
    → IsKeyword keywords.While p rest d → Wraps NoCondition HasCondition (NoStatement room whole)
    (HasStatement room whole) text d ts
do_condition room p whole left s text ts rest d g key =
    wraps (DoWhiles s p) NoCondition HasCondition (NoStatement room whole) (HasStatement room whole)
    text ts d (whiles_moves room p whole left s text ts rest d g key)
    (λ n text' all other k e r none.
    let x = r.first in
    no_do_condition n text' room g.less x.first.0 p whole left s x.mid r.mid other
    (do_reads room whole left s text text' ts rest all r.mid g k x
    (before_while s p r.mid other r.second)) r.second none all x.first.1)
    (λ n text' front inner k r has. record {
      more = semicolon;
      has = record {
        tree = DoWhile s p has.tree;
        is = λ other. do_item s p has.tree text' (((front ++ inner) ++ semicolon) ++ other) other
            g.inner.statement (both_fixed (DoCondition s p has.tree)
            (Sig punctuators.Semicolon) text'
            (front ++ inner) semicolon (both_fixed (DoWhiles s p) (Condition has.tree) text' front
            inner r has.is) (λ o. a_punctuator punctuators.Semicolon o) other);
        statement = refl;
        within = do_within n room whole left s has.tree p text text' ts rest g k has.low;
      };
    })

pub do_semicolon : (room p : ℕ) (whole left : Remaining) (s : Statement) (c : Expression)
    (text : List ℕ)
    (ts rest d e : List Token) → Holds text room whole left heads.Do s ts rest
    → IsKeyword keywords.While p rest d → IsCondition text c d e → height c ≤ 64
    → Wraps (NoPunctuator punctuators.Semicolon) (APunctuator punctuators.Semicolon)
    (NoStatement room whole) (HasStatement room whole) text e ts
do_semicolon room p whole left s c text ts rest d f g key is low =
    wraps (DoCondition s p c) (NoPunctuator punctuators.Semicolon)
    (APunctuator punctuators.Semicolon) (NoStatement room whole) (HasStatement room whole) text ts
    f
    (both_moves (DoWhiles s p) (Condition c) text ts d f
    (whiles_moves room p whole left s text ts rest d g key) (condition c text d f is))
    (λ n text' all other k e r none.
    let x = r.first.first in
    no_do_end n text' room g.less x.first.0 p whole left s c x.mid r.first.mid r.mid other
    (do_reads room whole left s text text' ts rest all r.first.mid g k x
    (before_while s p r.first.mid r.mid r.first.second)) r.first.second r.second none all
    x.first.1)
    (λ n text' front inner k r has. able_now (HasStatement room whole) n text' (front ++ inner)
    (record {
      tree = DoWhile s p c;
      is = λ other. do_item s p c text' ((front ++ inner) ++ other) other g.inner.statement
          (both_fixed (DoCondition s p c) (Sig punctuators.Semicolon) text' front inner r has
          other);
      statement = refl;
      within = do_within n room whole left s c p text text' ts rest g k (λ i. low);
    }))
