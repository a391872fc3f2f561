-- Failures in a `__try` statement, from the brace of its block on.
use Rattle.std.proofs.Common.{◌≡◌, ◌≤◌, ◌+◌, ◌++◌, ℕ, Bool, zero, suc, List, ◌∷◌, length, length-append, refl, sym, ap, subst, arith}
use Rattle.c_lex.specs.declared.keyword.Keyword.TheVariants as keywords
use Rattle.c_lex.specs.declared.punctuator.Punctuator.TheVariants as punctuators
use Rattle.c_lex.specs.declared.token.Kind.TheVariants as kinds
use Rattle.c_parse_stmt.specs.Words.{Token, Expression, height, Alike, place, Able, Failed, Wraps, statements_over_all, accepts, numbered, funclets_of_all, Statement, Declare, TryExcept, TryFinally, Statements, Empty, Then, IsCondition, IsBlockItem, AreBlockItems, token, IsKeyword, HasPunctuator, HasKeyword, Remaining, numbers_of, NoFilter, HasFilter, IsTry, Guards, NoPunctuator, APunctuator, AllWithin, AllTaken, NoBlockItems, HasBlockItems, NoStatement, HasStatement}
use Rattle.c_parse_stmt.proofs.Lemmas.{alike_inner, no_keyword, Moves, condition, items, filter}
use Rattle.c_syntax.proofs.MovesStatements.{funclets_of_all as same_funclets}
use Rattle.c_parse_stmt.proofs.Heading.{Key, Sig, Condition, key_moves, key_wraps, unit, braces, finally}
use Rattle.c_parse_stmt.proofs.Sequences.{able_more, Both, Fixed, both_fixed, both_moves, wraps, failed, first_kind, kind_place}
use Rattle.c_parse_stmt.proofs.Tails.{IsBraced}
use Rattle.c_parse_stmt.proofs.Tries.{NoneBraced, number_length, no_braced, no_try_body, no_except_room, no_filter, no_handler, unguarded, no_finally_left, no_last}
use Rattle.c_parse_stmt.proofs.Clauses.{Tries, Items, Guard, Except, Finally, excepted, finished, try_moves, Braces, is_braces, unit_braces, except, is_except, is_finally, brace, is_brace}

-- ---- where no statement may be there is no number

bare_item : (text : List ℕ) (s : Statement) → statements_over_all (Then s Empty) ≤ 0
    → length (numbered text s) ≡ 0
bare_item text (Declare b ls) h = refl
bare_item text s h = absurd (omega arith)

pub bare : (text : List ℕ) (ss : Statements) → statements_over_all ss ≤ 0
    → length (funclets_of_all text ss) ≡ 0
bare text Empty h = refl
bare text (Then s ss) h =
    let a = bare_item text s (omega arith) in
    let b = bare text ss (omega arith) in
    omega (arith, length-append {A = ℕ})

-- after the block of a `__try` that can continue, a statement may be or a number is left
pub still : (text : List ℕ) (room : ℕ) (left after : Remaining) (body : Statements)
    → 1 ≤ room + left.funclets → AllTaken text room left after body → 1 ≤ room + after.funclets
still text zero left after body h t = let b = bare text body t.statements in let f = t.funclets in
    omega arith
still text (suc room) left after body h t = omega arith

pub guard_able : (room : ℕ) (left : Remaining) (n : ℕ) (text : List ℕ) (body : Statements)
    (front : List Token) → 1 ≤ room + left.funclets → AllWithin n text room left body
    → Fixed (Guard body) text front → Able (HasStatement room left) n text front
guard_able zero left n text body front h w r = record {
  more = finally;
  has = record {
    tree = TryFinally body 0 Empty;
    is = λ other. finished body Empty 0 text ((front ++ finally) ++ other) other
        (both_fixed (Guard body) (Finally 0 Empty) text front finally r
        (is_finally text 0 0) other);
    statement = refl;
    within = record {
      statements = λ i. let a = w.statements i in omega arith;
      expressions = λ i. let a = w.expressions i in omega arith;
      locals = λ i. let a = w.locals i in omega arith;
      bytes = w.bytes;
      funclets = λ i. let b = bare text body (w.statements (omega arith)) in
          omega (arith, length-append {A = ℕ});
    };
  };
}
guard_able (suc room) left n text body front h w r = record {
  more = except;
  has = record {
    tree = TryExcept body 0 unit Empty;
    is = λ other. excepted body Empty 0 unit text ((front ++ except) ++ other) other
        (both_fixed (Guard body) (Except 0 unit Empty) text front except r (is_except text 0 0)
        other);
    statement = refl;
    within = record {
      statements = λ i. let a = w.statements i in omega arith;
      expressions = λ i. let a = w.expressions i in omega arith;
      locals = λ i. let a = w.locals i in omega arith;
      bytes = w.bytes;
      funclets = λ i. let a = w.funclets i in omega (arith, length-append {A = ℕ});
    };
  };
}

-- ---- the first block

no_open : (room : ℕ) (left : Remaining) (n : ℕ) (text : List ℕ) (ts : List Token)
    → NoPunctuator punctuators.OpenBrace n text ts → NoneBraced room left n text ts
no_open room left n text ts none ss end h w = none h.after_brace h.brace

pub try_open : (room at : ℕ) (left : Remaining) (text : List ℕ) (ts a : List Token)
    → 1 ≤ room + left.funclets → IsKeyword keywords.Try at ts a
    → Wraps (NoPunctuator punctuators.OpenBrace) (APunctuator punctuators.OpenBrace)
    (NoStatement room left) (HasStatement room left) text a ts
try_open room at left text ts a o k =
    key_wraps keywords.Try at room left (NoPunctuator punctuators.OpenBrace)
    (APunctuator punctuators.OpenBrace) text ts a k
    (λ n text' other none. no_try_body n text' room at left other
    (no_open room left n text' other none))
    (λ n text' inner end has.
    let front = token (kinds.Keyword keywords.Try) at end ∷ inner in
    able_more (HasStatement room left) n text' front brace
    (guard_able room left n text' Empty (front ++ brace) o
    (record {
      statements = λ i. omega arith;
      expressions = λ i. omega arith;
      locals = λ i. omega arith;
      bytes = λ i. omega arith;
      funclets = λ i. omega arith;
    })
    (both_fixed Tries (Items Empty) text' front brace
    (λ other. (inner ++ other, (at, (end, refl)), has other)) (is_brace text'))))

pub try_body : (room : ℕ) (left : Remaining) (text : List ℕ) (ts rest : List Token)
    → 1 ≤ room + left.funclets → IsTry ts rest
    → Wraps (NoBlockItems room left) (HasBlockItems room left) (NoStatement room left)
    (HasStatement room left) text rest ts
try_body room left text ts rest o t =
    wraps Tries (NoBlockItems room left) (HasBlockItems room left) (NoStatement room left)
    (HasStatement room left) text ts rest (try_moves text ts rest t)
    (λ n text' all other h e r none. no_try_body n text' room r.1.0 left r.0
    (no_braced n text' room left r.0 other r.2 none) all r.1.1)
    (λ n text' front inner h r has. guard_able room left n text' has.trees (front ++ inner) o
    has.within (both_fixed Tries (Items has.trees) text' front inner r has.are))

-- ---- after the first block

pub guard_moves : (room : ℕ) (whole left : Remaining) (body : Statements) (text : List ℕ)
    (ts rest : List Token) → Guards text room whole left body ts rest
    → Moves (Guard body) text ts rest
guard_moves room whole left body text ts rest g = both_moves Tries (Items body) text ts g.mid rest
    (try_moves text ts g.mid g.is) (items body text g.mid rest g.are)

-- as many numbers are taken in a text that spells it alike
pub taken_moved : (room : ℕ) (whole left : Remaining) (body : Statements) (text text' : List ℕ)
    (ts rest : List Token) → Alike text text' ts → Guards text room whole left body ts rest
    → AllTaken text' room whole left body
taken_moved room whole left body text text' ts rest h g =
    let m = try_moves text ts g.mid g.is in
    let e = ap (λ (x : List ℕ). length x) (same_funclets body text text' g.mid rest g.are
    (alike_inner text text' m.front g.mid ts m.split h)) in
    let t = g.taken in let f = t.funclets in
    record {
      statements = t.statements;
      expressions = t.expressions;
      locals = t.locals;
      bytes = t.bytes;
      funclets = omega arith;
    }

pub all_within : (n room : ℕ) (whole left : Remaining) (body : Statements) (text : List ℕ)
    → AllTaken text room whole left body → AllWithin n text room whole body
all_within n room whole left body text t =
    let l = t.locals in let f = t.funclets in let b = t.bytes in
    record {
      statements = λ i. t.statements;
      expressions = λ i. t.expressions;
      locals = λ i. omega arith;
      bytes = λ i. omega arith;
      funclets = λ i. omega arith;
    }

pub braced : (body : Statements) (text : List ℕ) (ts rest : List Token)
    (r : Guard body text ts rest) → IsBraced text body r.first.0 rest
braced body text ts rest r = record { after_brace = r.mid; brace = r.first.2; items = r.second }

guard_stays : (n room : ℕ) (whole left : Remaining) (body : Statements) (text text' : List ℕ)
    (ts rest front : List Token) → Alike text text' ts → Guards text room whole left body ts rest
    → Fixed (Guard body) text' front → Able (HasStatement room whole) n text' front
guard_stays n room whole left body text text' ts rest front h g r = guard_able room whole n text'
    body front g.some (all_within n room whole left body text'
    (taken_moved room whole left body text text' ts rest h g)) r

pub unguarded_fails : (room : ℕ) (whole left : Remaining) (body : Statements) (text : List ℕ)
    (ts rest : List Token) → Guards text room whole left body ts rest
    → ((z : List Token) → HasKeyword keywords.Except rest z → ⊥)
    → ((z : List Token) → HasKeyword keywords.Finally rest z → ⊥) →
    Failed 0 (place text rest) (NoStatement room whole) (HasStatement room whole) text ts
unguarded_fails room whole left body text ts rest g x y =
    failed (Guard body) 0 (NoStatement room whole) (HasStatement room whole) text ts rest
    (guard_moves room whole left body text ts rest g)
    (λ text' all other h e r. unguarded 0 text' room r.first.1.0 whole body r.first.0 other
    (braced body text' all other r) (no_keyword keywords.Except rest other e x)
    (no_keyword keywords.Finally rest other e y) all r.first.1.1)
    (λ text' front h r. guard_stays 7 room whole left body text text' ts rest front h g r)
    (λ text' k front h r e. absurd (omega arith))

pub except_too_deep : (room at : ℕ) (whole left : Remaining) (body : Statements) (text : List ℕ)
    (ts rest j : List Token) → room ≡ 0 → Guards text room whole left body ts rest
    → IsKeyword keywords.Except at rest j → Failed 1 at (NoStatement room whole)
    (HasStatement room whole) text ts
except_too_deep room at whole left body text ts rest j z g key =
    subst (λ (x : ℕ). Failed 1 x (NoStatement room whole) (HasStatement room whole) text ts)
    (sym (kind_place (kinds.Keyword keywords.Except) at text rest j key))
    (failed (Guard body) 1 (NoStatement room whole) (HasStatement room whole) text ts rest
    (guard_moves room whole left body text ts rest g)
    (λ text' all other h e r. let q = first_kind (kinds.Keyword keywords.Except) at rest other j e
    key in no_except_room 1 text' room r.first.1.0 at whole body r.first.0 other q.0 (omega arith)
    z (braced body text' all other r) q.1 all r.first.1.1)
    (λ text' front h r. guard_stays 7 room whole left body text text' ts rest front h g r)
    (λ text' k front h r e. record {
      token = token (kinds.Keyword keywords.Except) at key.0;
      rest = j;
      more = unit_braces;
      is = key.1;
      has = record {
        tree = TryExcept body at unit Empty;
        is = λ other. excepted body Empty at unit text'
            ((front ++ token (kinds.Keyword keywords.Except) at key.0 ∷ unit_braces) ++ other) other
            (both_fixed (Guard body) (Except at unit Empty) text' front
            (token (kinds.Keyword keywords.Except) at key.0 ∷ unit_braces) r
            (is_except text' at key.0) other);
        statement = refl;
        within = record {
          statements = λ i. omega arith;
          expressions = λ i. omega arith;
          locals = λ i. omega arith;
          bytes = λ i. omega arith;
          funclets = λ i. omega arith;
        };
      };
    }))

pub finally_too_many : (room at : ℕ) (whole left : Remaining) (body : Statements) (text : List ℕ)
    (ts rest j : List Token) → left.funclets ≡ 0 → Guards text room whole left body ts rest
    → IsKeyword keywords.Finally at rest j → Failed 7 at (NoStatement room whole)
    (HasStatement room whole) text ts
finally_too_many room at whole left body text ts rest j z g key =
    subst (λ (x : ℕ). Failed 7 x (NoStatement room whole) (HasStatement room whole) text ts)
    (sym (kind_place (kinds.Keyword keywords.Finally) at text rest j key))
    (failed (Guard body) 7 (NoStatement room whole) (HasStatement room whole) text ts rest
    (guard_moves room whole left body text ts rest g)
    (λ text' all other h e r. let q = first_kind (kinds.Keyword keywords.Finally) at rest other j e
    key in no_finally_left 7 text' room r.first.1.0 at whole left body r.first.0 other q.0
    (braced body text' all other r) (taken_moved room whole left body text text' ts rest h g) q.1
    (omega arith) z all r.first.1.1)
    (λ text' front h r. guard_stays 7 room whole left body text text' ts rest front h g r)
    (λ text' k front h r e. let w = all_within k room whole left body text'
    (taken_moved room whole left body text text' ts rest h g) in
    record {
      token = token (kinds.Keyword keywords.Finally) at key.0;
      rest = j;
      more = braces;
      is = key.1;
      has = record {
        tree = TryFinally body at Empty;
        is = λ other. finished body Empty at text'
            ((front ++ token (kinds.Keyword keywords.Finally) at key.0 ∷ braces) ++ other) other
            (both_fixed (Guard body) (Finally at Empty) text' front
            (token (kinds.Keyword keywords.Finally) at key.0 ∷ braces) r (is_finally text' at key.0)
            other);
        statement = refl;
        within = record {
          statements = λ i. let a = w.statements i in omega arith;
          expressions = λ i. let a = w.expressions i in omega arith;
          locals = λ i. let a = w.locals i in omega arith;
          bytes = w.bytes;
          funclets = λ i. omega arith;
        };
      };
    }))

-- ---- `__except`

abbrev pub Excepting : Statements → ℕ → List ℕ → List Token → List Token → Type 0
Excepting body at = Both (Guard body) (Key keywords.Except at)

abbrev pub Filtering : Statements → ℕ → Expression → List ℕ → List Token → List Token → Type 0
Filtering body at f = Both (Excepting body at) (Condition f)

excepting_moves : (room at : ℕ) (whole left : Remaining) (body : Statements) (text : List ℕ)
    (ts rest j : List Token) → Guards text room whole left body ts rest
    → IsKeyword keywords.Except at rest j → Moves (Excepting body at) text ts j
excepting_moves room at whole left body text ts rest j g k = both_moves (Guard body)
    (Key keywords.Except at) text ts rest j (guard_moves room whole left body text ts rest g)
    (key_moves keywords.Except at text rest j k)

filtering_moves : (room at : ℕ) (whole left : Remaining) (body : Statements) (f : Expression)
    (text : List ℕ) (ts rest j c : List Token) → Guards text room whole left body ts rest
    → IsKeyword keywords.Except at rest j → IsCondition text f j c
    → Moves (Filtering body at f) text ts c
filtering_moves room at whole left body f text ts rest j c g k is = both_moves (Excepting body at)
    (Condition f) text ts j c (excepting_moves room at whole left body text ts rest j g k)
    (condition f text j c is)

pub filter_moved : (room at : ℕ) (whole left next : Remaining) (body : Statements) (f : Expression)
    (text text' : List ℕ) (ts rest j c : List Token) → Alike text text' ts
    → Guards text room whole left body ts rest → IsKeyword keywords.Except at rest j
    → IsCondition text f j c → next.funclets + numbers_of (accepts text f) ≡ left.funclets
    → next.funclets + numbers_of (accepts text' f) ≡ left.funclets
filter_moved room at whole left next body f text text' ts rest j c h g k is fu =
    let m = excepting_moves room at whole left body text ts rest j g k in
    let a = alike_inner text text' m.front j ts m.split h in
    let e = filter f text text' j c is a in
    subst (λ (x : Bool). next.funclets + numbers_of x ≡ left.funclets) (sym e) fu

filtered : (body : Statements) (at : ℕ) (f : Expression) (last : Statements) (text : List ℕ)
    (ts rest c : List Token) (w : Filtering body at f text ts rest) (end : List Token)
    → HasPunctuator punctuators.OpenBrace rest c → AreBlockItems text last c end
    → IsBlockItem text (TryExcept body at f last) ts end
filtered body at f last text ts rest c w end o i = excepted body last at f text ts end (record {
  mid = w.first.mid;
  first = w.first.first;
  second = record {
    after_keyword = w.mid;
    after_filter = rest;
    keyword = w.first.second;
    filter = w.second;
    handler = record { after_brace = c; brace = o; items = i };
  };
})

pub filter_fails : (room at : ℕ) (whole left : Remaining) (body : Statements) (text : List ℕ)
    (ts rest j : List Token) → 1 ≤ room → Guards text room whole left body ts rest
    → IsKeyword keywords.Except at rest j → Wraps (NoFilter left.funclets) (HasFilter left.funclets)
    (NoStatement room whole) (HasStatement room whole) text j ts
filter_fails room at whole left body text ts rest j o g k =
    wraps (Excepting body at) (NoFilter left.funclets) (HasFilter left.funclets)
    (NoStatement room whole) (HasStatement room whole) text ts j
    (excepting_moves room at whole left body text ts rest j g k)
    (λ n text' all other h e r none. no_filter n text' room r.first.first.1.0 at whole left body
    r.first.first.0 r.mid other (braced body text' all r.mid r.first)
    (taken_moved room whole left body text text' ts rest h g) r.second none all r.first.first.1.1)
    (λ n text' front inner h r has. record {
      more = braces;
      has =
          let t = taken_moved room whole left body text text' ts rest h g in
          let w = all_within n room whole left body text' t in
          record {
            tree = TryExcept body at has.tree Empty;
            is = λ other.
                let x = both_fixed (Filtering body at has.tree) Braces text' (front ++ inner) braces
                (both_fixed (Excepting body at) (Condition has.tree) text' front inner r has.is)
                (is_braces text') other in
                filtered body at has.tree Empty text'
                (((front ++ inner) ++ braces) ++ other) x.mid x.second.after_brace x.first other
                x.second.brace x.second.items;
            statement = refl;
            within = record {
              statements = λ i. let a = w.statements i in omega arith;
              expressions = λ i. let a = w.expressions i in let b = has.low i in omega arith;
              locals = λ i. let a = w.locals i in omega arith;
              bytes = w.bytes;
              funclets = λ i. let a = t.funclets in let b = has.count i in
                  let c = number_length (accepts text' has.tree) at in
                  omega (arith, length-append {A = ℕ});
            };
          };
    })

pub except_open : (room at : ℕ) (whole left next : Remaining) (body : Statements) (f : Expression)
    (text : List ℕ) (ts rest j c : List Token) → 1 ≤ room → Guards text room whole left body ts rest
    → IsKeyword keywords.Except at rest j → IsCondition text f j c → height f ≤ 64
    → next.funclets + numbers_of (accepts text f) ≡ left.funclets → next.locals ≡ left.locals
    → next.bytes ≡ left.bytes →
    Wraps (NoPunctuator punctuators.OpenBrace) (APunctuator punctuators.OpenBrace)
    (NoStatement room whole) (HasStatement room whole) text c ts
except_open room at whole left next body f text ts rest j c o g k is low fu lo ends =
    wraps (Filtering body at f) (NoPunctuator punctuators.OpenBrace)
    (APunctuator punctuators.OpenBrace) (NoStatement room whole) (HasStatement room whole) text ts
    c (filtering_moves room at whole left body f text ts rest j c g k is)
    (λ n text' all other h e r none.
    let x = r.first.first in
    no_handler n text' room x.first.1.0 at whole left next body f x.first.0 r.first.mid r.mid other
    (braced body text' all r.first.mid x) (taken_moved room whole left body text text' ts rest h
    g) r.first.second r.second
    (filter_moved room at whole left next body f text text' ts rest j c h g k is fu) lo ends
    (no_open room next n text' other none) all x.first.1.1)
    (λ n text' front inner h r has. record {
      more = brace;
      has =
          let t = taken_moved room whole left body text text' ts rest h g in
          let w = all_within n room whole left body text' t in
          let q = filter_moved room at whole left next body f text text' ts rest j c h g k is fu in
          record {
            tree = TryExcept body at f Empty;
            is = λ other.
                let x = both_fixed (Both (Filtering body at f) (Sig punctuators.OpenBrace))
                (Items Empty) text' (front ++ inner) brace
                (both_fixed (Filtering body at f) (Sig punctuators.OpenBrace) text' front inner r
                has) (is_brace text') other in
                filtered body at f Empty text' (((front ++ inner) ++ brace) ++ other) x.first.mid
                x.mid x.first.first other x.first.second x.second;
            statement = refl;
            within = record {
              statements = λ i. let a = w.statements i in omega arith;
              expressions = λ i. let a = w.expressions i in omega arith;
              locals = λ i. let a = w.locals i in omega arith;
              bytes = w.bytes;
              funclets = λ i. let a = t.funclets in let d = number_length (accepts text' f) at in
                  omega (arith, length-append {A = ℕ});
            };
          };
    })

-- ---- `__finally`

abbrev pub Finishing : Statements → ℕ → List ℕ → List Token → List Token → Type 0
Finishing body at = Both (Guard body) (Key keywords.Finally at)

finished_so : (body : Statements) (at : ℕ) (last : Statements) (text : List ℕ)
    (ts rest c : List Token) (w : Finishing body at text ts rest) (end : List Token)
    → HasPunctuator punctuators.OpenBrace rest c → AreBlockItems text last c end
    → IsBlockItem text (TryFinally body at last) ts end
finished_so body at last text ts rest c w end o i = finished body last at text ts end (record {
  mid = w.mid;
  first = w.first;
  second = (rest, w.second, record { after_brace = c; brace = o; items = i });
})

pub finally_open : (room at : ℕ) (whole left next : Remaining) (body : Statements) (text : List ℕ)
    (ts rest j : List Token) → Guards text room whole left body ts rest
    → IsKeyword keywords.Finally at rest j → next.funclets + 1 ≡ left.funclets
    → next.locals ≡ left.locals → next.bytes ≡ left.bytes →
    Wraps (NoPunctuator punctuators.OpenBrace) (APunctuator punctuators.OpenBrace)
    (NoStatement room whole) (HasStatement room whole) text j ts
finally_open room at whole left next body text ts rest j g k fu lo ends =
    wraps (Finishing body at) (NoPunctuator punctuators.OpenBrace)
    (APunctuator punctuators.OpenBrace) (NoStatement room whole) (HasStatement room whole) text ts
    j (both_moves (Guard body) (Key keywords.Finally at) text ts rest j
    (guard_moves room whole left body text ts rest g)
    (key_moves keywords.Finally at text rest j k))
    (λ n text' all other h e r none. no_last n text' room r.first.first.1.0 at whole left next body
    r.first.first.0 r.mid other (braced body text' all r.mid r.first)
    (taken_moved room whole left body text text' ts rest h g) r.second fu lo ends
    (no_open room next n text' other none) all r.first.first.1.1)
    (λ n text' front inner h r has. record {
      more = brace;
      has =
          let t = taken_moved room whole left body text text' ts rest h g in
          let w = all_within n room whole left body text' t in
          record {
            tree = TryFinally body at Empty;
            is = λ other.
                let x = both_fixed (Both (Finishing body at) (Sig punctuators.OpenBrace))
                (Items Empty) text' (front ++ inner) brace
                (both_fixed (Finishing body at) (Sig punctuators.OpenBrace) text' front inner r
                has) (is_brace text') other in
                finished_so body at Empty text' (((front ++ inner) ++ brace) ++ other) x.first.mid
                x.mid x.first.first other x.first.second x.second;
            statement = refl;
            within = record {
              statements = λ i. let a = w.statements i in omega arith;
              expressions = λ i. let a = w.expressions i in omega arith;
              locals = λ i. let a = w.locals i in omega arith;
              bytes = w.bytes;
              funclets = λ i. let a = t.funclets in omega (arith, length-append {A = ℕ});
            };
          };
    })
