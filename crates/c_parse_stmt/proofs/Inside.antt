-- Statements after a head, and failures in them.
use Rattle.std.proofs.Common.{◌≡◌, ◌≤◌, ◌+◌, ◌++◌, ◌∙◌, ℕ, List, length, length-append, Option, option_map, refl, sym, ap, subst, arith}
use Rattle.c_lex.specs.declared.keyword.Keyword.TheVariants as keywords
use Rattle.c_lex.specs.declared.punctuator.Punctuator.TheVariants as punctuators
use Rattle.c_parse_stmt.specs.Words.{Token, Stmt, expression, Alike, Able, Wraps, NoElse, Closed, Statement, If, IfElse, While, DoWhile, For, first, statement, IsCondition, dangles, IsBlockItem, IsKeyword, HasPunctuator, HasKeyword, Remaining, Opening, Ends, IsStatementHead, expressions_over, Heads, Opens, Holds, IsStatementWithin, NoStatement, HasStatement, bytes_so_far, end_of_arrays}
use Rattle.c_syntax.specs.declared.expression.Expr.{Expr}
use Rattle.c_syntax.specs.declared.statement.ForInitialiser.{ForInitialiser}
use Rattle.c_parse_stmt.proofs.Lemmas.{absent, alike_inner, closed, Moves, has_keyword, condition, item}
use Rattle.c_syntax.proofs.MovesStatements as statements
use Rattle.c_syntax.proofs.MovesStatements.{numbered as same_funclets}
use Rattle.c_parse_stmt.specs.declared.endings.Ending.{Ending}
use Rattle.c_parse_stmt.specs.declared.endings.Ending.TheVariants as endings
use Rattle.c_parse_stmt.specs.declared.openings.Head.{Head}
use Rattle.c_parse_stmt.specs.declared.openings.Head.TheVariants as heads
use Rattle.c_parse_stmt.specs.declared.openings.Opening.TheVariants as openings
use Rattle.c_parse_stmt.specs.Openings.{locals, end_of_arrays as end_of_head}
use Rattle.c_parse_stmt.proofs.Heading.{Key, Condition, key_moves, for_item, semicolon, in_parentheses, is_unit, unit, while_end}
use Rattle.c_parse_stmt.proofs.Sequences.{Both, Fixed, both_fixed, both_moves, moves_so, able_now, wraps, a_punctuator, a_word}
use Rattle.c_parse_stmt.proofs.Loops.{no_while_body, while_found, no_do_body, no_for_body, for_found}
use Rattle.c_parse_stmt.proofs.Wholes.{no_then, no_otherwise, if_found, if_else_found, not_dangling}

-- ---- relations

abbrev pub Headed : Head → List ℕ → List Token → List Token → Type 0
Headed h text = IsStatementHead text h

abbrev pub Item : Statement → List ℕ → List Token → List Token → Type 0
Item s text = IsBlockItem text s

pub head_moves : (h : Head) (text : List ℕ) (ts rest : List Token) → IsStatementHead text h ts rest
    → Moves (Headed h) text ts rest
head_moves (heads.If at c) text ts rest h =
    moves_so (Both (Key keywords.If at) (Condition (expression c))) (Headed (heads.If at c)) text ts
    rest (λ t us end x. (x.mid, x.first, x.second))
    (both_moves (Key keywords.If at) (Condition (expression c)) text ts h.0 rest
    (key_moves keywords.If at text ts h.0 h.1) (condition (expression c) text h.0 rest h.2))
head_moves (heads.While at c) text ts rest h =
    moves_so (Both (Key keywords.While at) (Condition (expression c))) (Headed (heads.While at c))
    text ts rest (λ t us end x. (x.mid, x.first, x.second))
    (both_moves (Key keywords.While at) (Condition (expression c)) text ts h.0 rest
    (key_moves keywords.While at text ts h.0 h.1) (condition (expression c) text h.0 rest h.2))
head_moves heads.Do text ts rest h = has_keyword keywords.Do text ts rest h
head_moves (heads.For at f c n) text ts rest h =
    statements.for_head at (first f) (option_map expression c)
    (option_map expression n) text ts rest h

-- ---- the same counts

pub record SameLeft (a b : Remaining) : Type 0 where
  pub locals : a.locals ≡ b.locals
  pub bytes : bytes_so_far a.bytes ≡ bytes_so_far b.bytes
  pub funclets : a.funclets ≡ b.funclets

abbrev pub same_left : (a b : Remaining) → a.locals ≡ b.locals
    → bytes_so_far a.bytes ≡ bytes_so_far b.bytes → a.funclets ≡ b.funclets → SameLeft a b
same_left a b p q r = record { locals = p; bytes = q; funclets = r }

pub reads_from : (text : List ℕ) (room : ℕ) (left mid after : Remaining) (s : Statement)
    (ts rest : List Token) → SameLeft left mid → IsStatementWithin text room left after s ts rest
    → IsStatementWithin text room mid after s ts rest
reads_from text room left mid after s ts rest e r =
    let t = r.taken in
    record {
      is = r.is;
      statement = r.statement;
      closed = r.closed;
      taken = record {
        statements = t.statements;
        expressions = t.expressions;
        locals = t.locals ∙ e.locals;
        bytes = t.bytes ∙ ap (end_of_arrays s) e.bytes;
        funclets = t.funclets ∙ e.funclets;
      };
    }

none_from : (n : ℕ) (text : List ℕ) (room : ℕ) (left mid : Remaining) (ts : List Token)
    → SameLeft left mid → NoStatement room left n text ts → NoStatement room mid n text ts
none_from n text room left mid ts e none s end h d c w = none s end h d c (record {
  statements = w.statements;
  expressions = w.expressions;
  locals = λ i. let a = w.locals i in let b = e.locals in omega arith;
  bytes = λ i. subst (λ x. end_of_arrays s x ≤ 65536) (sym e.bytes) (w.bytes i);
  funclets = λ i. let a = w.funclets i in let b = e.funclets in omega arith;
})

-- a statement that was read, in a text that spells it alike and before what begins alike
pub reads_moved : (text text' : List ℕ) (room : ℕ) (left after : Remaining) (s : Statement)
    (ts rest all other : List Token) → Alike text text' ts
    → IsStatementWithin text room left after s ts rest → IsBlockItem text' s all other
    → Closed s other → IsStatementWithin text' room left after s all other
reads_moved text text' room left after s ts rest all other h r i c =
    let e = ap (λ (x : List ℕ). length x) (same_funclets s text text' ts rest r.is h) in
    let t = r.taken in let f = t.funclets in
    record {
      is = i;
      statement = r.statement;
      closed = c;
      taken = record {
        statements = t.statements;
        expressions = t.expressions;
        locals = t.locals;
        bytes = t.bytes;
        funclets = omega arith;
      };
    }

-- ---- what ends a `do`

pub record WhileEnd (text : List ℕ) (ts rest : List Token) : Type 0 where
  pub after_while : List Token
  pub after_condition : List Token
  pub keyword : IsKeyword keywords.While 0 ts after_while
  pub condition : IsCondition text unit after_while after_condition
  pub semicolon : HasPunctuator punctuators.Semicolon after_condition rest

pub is_while_end : (text : List ℕ) → Fixed WhileEnd text while_end
is_while_end text other = record {
  after_while = in_parentheses ++ semicolon ++ other;
  after_condition = semicolon ++ other;
  keyword = a_word keywords.While (in_parentheses ++ semicolon ++ other);
  condition = is_unit text (semicolon ++ other);
  semicolon = a_punctuator punctuators.Semicolon other;
}

-- ---- the first statement

no_inner : (h : Head) (n : ℕ) (text : List ℕ) (room less : ℕ) (whole left : Remaining)
    (all other : List Token) → less + 1 ≡ room → IsStatementHead text h all other
    → expressions_over h ≤ 64 → left.locals + locals h ≡ whole.locals
    → bytes_so_far left.bytes ≡ end_of_head h (bytes_so_far whole.bytes)
    → left.funclets ≡ whole.funclets → NoStatement less left n text other
    → NoStatement room whole n text all
no_inner (heads.If at c) n text room less whole left all other m h w l b f none =
    no_then n text room less at whole (expression c) h.0 other m h.2
    (none_from n text less left whole other (same_left left whole (omega arith) b f) none) all h.1
no_inner (heads.While at c) n text room less whole left all other m h w l b f none =
    no_while_body n text room less at whole (expression c) h.0 other m h.2
    (none_from n text less left whole other (same_left left whole (omega arith) b f) none) all h.1
no_inner heads.Do n text room less whole left all other m h w l b f none =
    no_do_body n text room less h.0 whole other m
    (none_from n text less left whole other (same_left left whole (omega arith) b f) none) all h.1
no_inner (heads.For at g c e) n text room less whole left all other m h w l b f none =
    no_for_body n text room less at whole left (first g) (option_map expression c)
    (option_map expression e) h.after_keyword h.after_opening h.after_first h.after_condition other
    m (record {
      opens = h.opening;
      is = h.first;
      low = omega arith;
      locals = l;
      bytes = b;
      funclets = f;
    }) h.condition h.next none all h.keyword

has_inner : (h : Head) (n : ℕ) (text : List ℕ) (room less : ℕ) (whole left : Remaining)
    (front inner : List Token) → less + 1 ≡ room → expressions_over h ≤ 64
    → left.locals + locals h ≡ whole.locals
    → bytes_so_far left.bytes ≡ end_of_head h (bytes_so_far whole.bytes)
    → left.funclets ≡ whole.funclets → Fixed (Headed h) text front
    → HasStatement less left n text inner
    → Able (HasStatement room whole) n text (front ++ inner)
has_inner (heads.If at c) n text room less whole left front inner m w l b f r has = able_now
    (HasStatement room whole) n text (front ++ inner) (record {
      tree = If at (expression c) has.tree;
      is = λ other.
          let x = both_fixed (Headed (heads.If at c))
          (Item has.tree) text front inner r has.is other in
          record {
            after_keyword = x.first.0;
            after_condition = x.mid;
            keyword = x.first.1;
            condition = x.first.2;
            body = record { no_declaration = has.statement; item = x.second };
          };
      statement = refl;
      within = record {
        statements = λ i. let a = has.within.statements i in omega arith;
        expressions = λ i. let a = has.within.expressions i in omega arith;
        locals = λ i. let a = has.within.locals i in omega arith;
        bytes = λ i. subst (λ x. end_of_arrays has.tree x ≤ 65536) b (has.within.bytes i);
        funclets = λ i. let a = has.within.funclets i in omega arith;
      };
    })
has_inner (heads.While at c) n text room less whole left front inner m w l b f r has = able_now
    (HasStatement room whole) n text (front ++ inner) (record {
      tree = While at (expression c) has.tree;
      is = λ other.
          let x = both_fixed (Headed (heads.While at c))
          (Item has.tree) text front inner r has.is other in
          record {
            after_keyword = x.first.0;
            after_condition = x.mid;
            keyword = x.first.1;
            condition = x.first.2;
            body = record { no_declaration = has.statement; item = x.second };
          };
      statement = refl;
      within = record {
        statements = λ i. let a = has.within.statements i in omega arith;
        expressions = λ i. let a = has.within.expressions i in omega arith;
        locals = λ i. let a = has.within.locals i in omega arith;
        bytes = λ i. subst (λ x. end_of_arrays has.tree x ≤ 65536) b (has.within.bytes i);
        funclets = λ i. let a = has.within.funclets i in omega arith;
      };
    })
has_inner heads.Do n text room less whole left front inner m w l b f r has = record {
  more = while_end;
  has = record {
    tree = DoWhile has.tree 0 unit;
    is = λ other.
        let x = both_fixed (Both (Headed heads.Do) (Item has.tree)) WhileEnd text (front ++ inner)
        while_end (both_fixed (Headed heads.Do) (Item has.tree) text front inner r has.is)
        (is_while_end text) other in let y = x.second in
        record {
          after_do = x.first.mid;
          after_body = x.mid;
          after_while = y.after_while;
          after_condition = y.after_condition;
          do_keyword = x.first.first;
          body = record { no_declaration = has.statement; item = x.first.second };
          keyword = y.keyword;
          condition = y.condition;
          semicolon = y.semicolon;
        };
    statement = refl;
    within = record {
      statements = λ i. let a = has.within.statements i in omega arith;
      expressions = λ i. let a = has.within.expressions i in omega arith;
      locals = λ i. let a = has.within.locals i in omega arith;
      bytes = λ i. subst (λ x. end_of_arrays has.tree x ≤ 65536) b (has.within.bytes i);
      funclets = λ i. let a = has.within.funclets i in omega arith;
    };
  };
}
has_inner (heads.For at g c e) n text room less whole left front inner m w l b f r has = able_now
    (HasStatement room whole) n text (front ++ inner) (record {
      tree = For at (first g) (option_map expression c) (option_map expression e) has.tree;
      is = λ other.
          let x = both_fixed (Headed (heads.For at g c e)) (Item has.tree) text front inner r has.is
          other in let y = x.first in
          for_item text at (first g) (option_map expression c) (option_map expression e) has.tree
          ((front ++ inner) ++ other) y.after_keyword y.after_opening y.after_first
          y.after_condition
          x.mid other y.keyword y.opening y.first y.condition y.next has.statement x.second;
      statement = refl;
      within = record {
        statements = λ i. let a = has.within.statements i in omega arith;
        expressions = λ i. let a = has.within.expressions i in omega arith;
        locals = λ i. let a = has.within.locals i in omega arith;
        bytes = λ i. subst (λ x. end_of_arrays has.tree x ≤ 65536) b (has.within.bytes i);
        funclets = λ i. let a = has.within.funclets i in omega arith;
      };
    })

pub inner_fails : (h : Head) (room less : ℕ) (whole left : Remaining) (text : List ℕ)
    (ts rest : List Token) → less + 1 ≡ room → Heads text room whole left h ts rest
    → Wraps (NoStatement less left) (HasStatement less left) (NoStatement room whole)
    (HasStatement room whole) text rest ts
inner_fails h room less whole left text ts rest m g =
    wraps (Headed h) (NoStatement less left) (HasStatement less left) (NoStatement room whole)
    (HasStatement room whole) text ts rest (head_moves h text ts rest g.is)
    (λ n text' all other k e r none. no_inner h n text' room less whole left all other m r g.low
    g.locals g.bytes g.funclets none)
    (λ n text' front inner k r has. has_inner h n text' room less whole left front inner m g.low
    g.locals g.bytes g.funclets r has)

-- ---- after the first statement

abbrev pub Inner : Head → Statement → List ℕ → List Token → List Token → Type 0
Inner h s = Both (Headed h) (Item s)

pub inner_moves : (h : Head) (s : Statement) (text : List ℕ) (ts mid rest : List Token)
    → IsStatementHead text h ts mid → IsBlockItem text s mid rest → Moves (Inner h s) text ts rest
inner_moves h s text ts mid rest i j = both_moves (Headed h) (Item s) text ts mid rest
    (head_moves h text ts mid i) (item s text mid rest j)

-- the statement after the head, wherever both are, before what begins alike
pub inner_reads : (room : ℕ) (whole left : Remaining) (h : Head) (s : Statement)
    (text text' : List ℕ)
    (ts rest all mid other : List Token) (g : Holds text room whole left h s ts rest)
    → Alike text text' ts → IsBlockItem text' s mid other → Closed s other
    → IsStatementWithin text' g.less g.between left s mid other
inner_reads room whole left h s text text' ts rest all mid other g k i c =
    let m = head_moves h text ts g.mid g.head.is in
    reads_moved text text' g.less g.between left s g.mid rest mid other
    (alike_inner text text' m.front g.mid ts m.split k) g.inner i c

-- ---- `else`

abbrev pub Else : ℕ → Expr → Statement → List ℕ → List Token → List Token → Type 0
Else at c s = Both (Inner (heads.If at c) s) (λ t. HasKeyword keywords.Else)

pub else_fails : (at room : ℕ) (whole left : Remaining) (c : Expr) (s : Statement) (text : List ℕ)
    (ts rest j : List Token) (g : Holds text room whole left (heads.If at c) s ts rest)
    → HasKeyword keywords.Else rest j → Wraps (NoStatement g.less left) (HasStatement g.less left)
    (NoStatement room whole) (HasStatement room whole) text j ts
else_fails at room whole left c s text ts rest j g els =
    let l = g.head.locals in
    let p = same_left g.between whole (omega arith) g.head.bytes g.head.funclets in
    wraps (Else at c s) (NoStatement g.less left) (HasStatement g.less left)
    (NoStatement room whole) (HasStatement room whole) text ts j
    (both_moves (Inner (heads.If at c) s) (λ t. HasKeyword keywords.Else) text ts rest j
    (inner_moves (heads.If at c) s text ts g.mid rest g.head.is g.inner.is)
    (has_keyword keywords.Else text rest j els))
    (λ n text' all other k e r none.
    let x = r.first.first in
    let d = reads_from text' g.less g.between whole left s r.first.mid r.mid p
    (inner_reads room whole left (heads.If at c) s text text' ts rest all r.first.mid r.mid g k
    r.first.second (absent s r.mid (not_dangling (dangles s) (λ i. g.inner.closed i j els)))) in
    no_otherwise n text' room g.less at whole left (expression c) s x.0 r.first.mid r.mid other
    g.more x.2 d r.second none all x.1)
    (λ n text' front inner k r has. able_now (HasStatement room whole) n text' (front ++ inner) (
    let m = head_moves (heads.If at c) text ts g.mid g.head.is in
    let d = ap (λ (x : List ℕ). length x) (same_funclets s text text' g.mid rest g.inner.is
    (alike_inner text text' m.front g.mid ts m.split k)) in
    let t = g.inner.taken in let t0 = t.statements in let t1 = t.expressions in let t2 = t.locals in
    let t3 = t.funclets in
    let h0 = g.head.low in let h1 = g.head.funclets in let h2 = g.more in
    record {
      tree = IfElse at (expression c) s has.tree;
      is = λ other.
          let x = both_fixed (Else at c s) (Item has.tree) text' front inner r has.is other in
          let y = x.first.first.first in
          record {
            after_if = y.0;
            after_condition = x.first.first.mid;
            after_body = x.first.mid;
            after_else = x.mid;
            keyword = y.1;
            condition = y.2;
            complete = not_dangling (dangles s) (λ i. g.inner.closed i j els);
            body = record { no_declaration = g.inner.statement; item = x.first.first.second };
            else_keyword = x.first.second;
            else_body = record { no_declaration = has.statement; item = x.second };
          };
      statement = refl;
      within = record {
        statements = λ i. let a = has.within.statements i in omega arith;
        expressions = λ i. let a = has.within.expressions i in omega arith;
        locals = λ i. let a = has.within.locals i in omega arith;
        bytes = λ i. subst (λ x. end_of_arrays has.tree x ≤ 65536)
            (t.bytes ∙ ap (end_of_arrays s) g.head.bytes) (has.within.bytes i);
        funclets = λ i. let a = has.within.funclets i in omega (arith, length-append {A = ℕ});
      };
    }))

pub else_found : (at room : ℕ) (whole left after : Remaining) (c : Expr) (s z : Statement)
    (text : List ℕ) (ts rest j end : List Token)
    (g : Holds text room whole left (heads.If at c) s ts rest) → HasKeyword keywords.Else rest j
    → IsStatementWithin text g.less left after z j end
    → IsStatementWithin text room whole after (IfElse at (expression c) s z) ts end
else_found at room whole left after c s z text ts rest j end g els r =
    let l = g.head.locals in
    let p = same_left g.between whole (omega arith) g.head.bytes g.head.funclets in
    let i = g.head.is in
    if_else_found text room g.less at whole left after (expression c) s z i.0 g.mid rest j end
    g.more i.2 g.head.low (reads_from text g.less g.between whole left s g.mid rest p g.inner) els
    r ts i.1

-- ---- without another statement

pub if_ends : (at room : ℕ) (whole left : Remaining) (c : Expr) (s : Statement) (text : List ℕ)
    (ts rest : List Token) → Holds text room whole left (heads.If at c) s ts rest → NoElse rest
    → IsStatementWithin text room whole left (If at (expression c) s) ts rest
if_ends at room whole left c s text ts rest g els =
    let l = g.head.locals in
    let p = same_left g.between whole (omega arith) g.head.bytes g.head.funclets in
    let i = g.head.is in
    if_found text room g.less at whole left (expression c) s i.0 g.mid rest g.more i.2 g.head.low
    (reads_from text g.less g.between whole left s g.mid rest p g.inner) els ts i.1

pub while_ends : (at room : ℕ) (whole left : Remaining) (c : Expr) (s : Statement) (text : List ℕ)
    (ts rest : List Token) → Holds text room whole left (heads.While at c) s ts rest
    → IsStatementWithin text room whole left (While at (expression c) s) ts rest
while_ends at room whole left c s text ts rest g =
    let l = g.head.locals in
    let p = same_left g.between whole (omega arith) g.head.bytes g.head.funclets in
    let i = g.head.is in
    while_found text room g.less at whole left (expression c) s i.0 g.mid rest g.more i.2 g.head.low
    (reads_from text g.less g.between whole left s g.mid rest p g.inner) ts i.1

pub for_ends : (at room : ℕ) (whole left : Remaining) (f : ForInitialiser) (c n : Option Expr)
    (s : Statement) (text : List ℕ) (ts rest : List Token)
    → Holds text room whole left (heads.For at f c n) s ts rest
    → IsStatementWithin text room whole left (For at (first f) (option_map expression c)
    (option_map expression n) s) ts rest
for_ends at room whole left f c n s text ts rest g =
    let i = g.head.is in let low = g.head.low in
    for_found text room g.less at whole g.between left (first f) (option_map expression c)
    (option_map expression n) s i.after_keyword i.after_opening i.after_first i.after_condition
    g.mid rest g.more (record {
      opens = i.opening;
      is = i.first;
      low = omega arith;
      locals = g.head.locals;
      bytes = g.head.bytes;
      funclets = g.head.funclets;
    }) i.condition (omega arith) i.next (omega arith) g.inner ts i.keyword

-- ---- by what was read

abbrev pub holds : (text : List ℕ) (room less : ℕ) (whole left after : Remaining) (h : Head)
    (s : Statement) (ts mid rest : List Token) → less + 1 ≡ room
    → Heads text room whole left h ts mid → IsStatementWithin text less left after s mid rest
    → Holds text room whole after h s ts rest
holds text room less whole left after h s ts mid rest m g
    r = record { less = less; more = m; between = left; mid = mid; head = g; inner = r }

pub otherwise_fails : (text : List ℕ) (room less at : ℕ) (whole left after : Remaining) (h : Head)
    (c : Expr) (t : Stmt) (s : Statement) (z : Ending) (ts mid rest j : List Token)
    → less + 1 ≡ room → Heads text room whole left h ts mid
    → IsStatementWithin text less left after s mid rest → Ends text h s z rest j
    → z ≡ endings.Else at c t → Wraps (NoStatement less after) (HasStatement less after)
    (NoStatement room whole) (HasStatement room whole) text j ts
otherwise_fails text room less at whole left after h c t s z ts mid rest j m g r i e =
    let q : Ends text h s (endings.Else at c t) rest j = subst
    (λ (x : Ending). Ends text h s x rest j) e i in
    let g' : Heads text room whole left (heads.If at c) ts mid = subst
    (λ (x : Head). Heads text room whole left x ts mid) q.0 g in
    else_fails at room whole after c s text ts rest j
    (holds text room less whole left after (heads.If at c) s ts mid rest m g' r) q.2

pub otherwise_found : (text : List ℕ) (room less at : ℕ) (whole left after last : Remaining)
    (h : Head)
    (c : Expr) (t : Stmt) (s y : Statement) (z : Ending) (ts mid rest j end : List Token)
    → less + 1 ≡ room → Heads text room whole left h ts mid
    → IsStatementWithin text less left after s mid rest → Ends text h s z rest j
    → z ≡ endings.Else at c t → IsStatementWithin text less after last y j end
    → IsStatementWithin text room whole last (IfElse at (expression c) (statement t) y) ts end
otherwise_found text room less at whole left after last h c t s y z ts mid rest j end m g r i e d =
    let q : Ends text h s (endings.Else at c t) rest j = subst
    (λ (x : Ending). Ends text h s x rest j) e i in
    let g' : Heads text room whole left (heads.If at c) ts mid = subst
    (λ (x : Head). Heads text room whole left x ts mid) q.0 g in
    subst (λ (x : Statement). IsStatementWithin text room whole last (IfElse at (expression c) x y)
    ts end) (sym q.1)
    (else_found at room whole after last c s y text ts rest j end
    (holds text room less whole left after (heads.If at c) s ts mid rest m g' r) q.2 d)

pub whole_found : (text : List ℕ) (room less : ℕ) (whole left after : Remaining) (h : Head)
    (made : Stmt)
    (s : Statement) (z : Ending) (ts mid rest end : List Token) → less + 1 ≡ room
    → Heads text room whole left h ts mid → IsStatementWithin text less left after s mid rest
    → Ends text h s z rest end → z ≡ endings.Whole made
    → IsStatementWithin text room whole after (statement made) ts end
whole_found text room less whole left after h made s z ts mid rest end m g r i e =
    let q : Ends text h s (endings.Whole made) rest end = subst
    (λ (x : Ending). Ends text h s x rest end) e i in
    q room whole after ts (holds text room less whole left after h s ts mid rest m g r)

pub holds_as : (text : List ℕ) (room : ℕ) (left after : Remaining) (h k : Head) (s : Statement)
    (ts rest : List Token) → h ≡ k → Holds text room left after h s ts rest
    → Holds text room left after k s ts rest
holds_as text room left after h k s ts rest e g = subst
    (λ (x : Head). Holds text room left after x s ts rest) e g

pub opens_head : (text : List ℕ) (room : ℕ) (left after : Remaining) (o : Opening) (h : Head)
    (ts rest : List Token) → Opens text room left after o ts rest → o ≡ openings.Head h
    → Heads text room left after h ts rest
opens_head text room left after o h ts rest i e = subst
    (λ (x : Opening). Opens text room left after x ts rest) e i
