-- Failures in the parentheses of a `for`, and in expression statements.
use Rattle.std.proofs.Common.{◌≡◌, ◌≤◌, ◌+◌, ◌++◌, ℕ, List, [], ◌∷◌, Option, None, refl, sym, subst, arith}
use Rattle.c_parse_stmt.specs.Words.{Keyword, Punctuator, Token, Expression, Wraps, height_of, height_of_for_initialiser, locals_of_for_initialiser, ForInitialiser, Evaluating, Evaluate, For, IsUpTo, IsForInitialiser, token, IsKeyword, HasPunctuator, HasKeyword, Remaining, NoPunctuator, APunctuator, NoneUpTo, HasUpTo, NoForInitialiser, HasForInitialiser, NoStatement, HasStatement, NoEvaluation, HasEvaluation, bytes_so_far, end_of_for_initialiser}
use Rattle.c_lex.specs.declared.keyword.Keyword.TheVariants as keywords
use Rattle.c_lex.specs.declared.punctuator.Punctuator.TheVariants as punctuators
use Rattle.c_lex.specs.declared.token.Kind.TheVariants as kinds
use Rattle.c_parse_stmt.proofs.Lemmas.{first_back, no_punctuator, kind_same, keyword_same, Moves, has_punctuator}
use Rattle.c_syntax.proofs.MovesStatements.{first, up_to as up_to_moves}
use Rattle.c_parse_stmt.proofs.Sequences.{Both, both_fixed, both_moves, able_now, wraps, first_kind}
use Rattle.c_parse_stmt.proofs.Loops.{no_for_open, no_for_initialiser, Started, no_for_condition, no_for_next}
use Rattle.c_parse_stmt.proofs.Wholes.{no_evaluation, Lacks, Plain, only_evaluations}
use Rattle.c_parse_stmt.proofs.Heading.{Key, Sig, UpTo, key_moves, semicolon, Empties, is_empty, for_item, For3, For2, For1, for3, for2, for1, is_for3, is_for2, is_for1, key_wraps}

-- ---- in the parentheses of a `for`

pub for_open : (room at : ℕ) (left : Remaining) (text : List ℕ) (ts a : List Token) → 1 ≤ room
    → IsKeyword keywords.For at ts a → Wraps (NoPunctuator punctuators.OpenParenthesis)
    (APunctuator punctuators.OpenParenthesis) (NoStatement room left) (HasStatement room left)
    text a ts
for_open room at left text ts a o k =
    key_wraps keywords.For at room left (NoPunctuator punctuators.OpenParenthesis)
    (APunctuator punctuators.OpenParenthesis) text ts a k
    (λ n text' other none. no_for_open n text' room at left other none)
    (λ n text' inner end has. record {
      more = for1;
      has = record {
        tree = For at (Evaluating None) None None (Evaluate None);
        is = λ other.
            let y = both_fixed (Sig punctuators.OpenParenthesis) For1 text' inner for1 has
            (is_for1 text') other in let x = y.second in
            for_item text' at (Evaluating None) None None (Evaluate None)
            (token (kinds.Keyword keywords.For) at end ∷ (inner ++ for1) ++ other)
            ((inner ++ for1) ++ other) y.mid x.mid x.second.mid x.second.second.mid other
            (end, refl) y.first x.first x.second.first x.second.second.first refl
            x.second.second.second;
        statement = refl;
        within = record {
          statements = λ i. omega arith;
          expressions = λ i. omega arith;
          locals = λ i. omega arith;
          bytes = λ i. omega arith;
          funclets = λ i. omega arith;
        };
      };
    })

abbrev pub ForOpen : ℕ → List ℕ → List Token → List Token → Type 0
ForOpen at = Both (Key keywords.For at) (Sig punctuators.OpenParenthesis)

abbrev pub ForFirst : ℕ → ForInitialiser → List ℕ → List Token → List Token → Type 0
ForFirst at f = Both (ForOpen at) (λ t. IsForInitialiser t f)

abbrev pub ForCondition : ℕ → ForInitialiser → Option Expression → List ℕ → List Token → List Token
    → Type 0
ForCondition at f c = Both (ForFirst at f) (UpTo punctuators.Semicolon c)

abbrev pub ForHead : ℕ → ForInitialiser → Option Expression → Option Expression → List ℕ
    → List Token → List Token → Type 0
ForHead at f c n = Both (ForCondition at f c) (UpTo punctuators.CloseParenthesis n)

pub for_open_moves : (at : ℕ) (text : List ℕ) (ts a b : List Token) → IsKeyword keywords.For at ts a
    → HasPunctuator punctuators.OpenParenthesis a b → Moves (ForOpen at) text ts b
for_open_moves at text ts a b k o = both_moves (Key keywords.For at)
    (Sig punctuators.OpenParenthesis) text ts a b (key_moves keywords.For at text ts a k)
    (has_punctuator punctuators.OpenParenthesis text a b o)

pub for_first_moves : (at : ℕ) (f : ForInitialiser) (text : List ℕ) (ts a b d : List Token)
    → IsKeyword keywords.For at ts a → HasPunctuator punctuators.OpenParenthesis a b
    → IsForInitialiser text f b d → Moves (ForFirst at f) text ts d
for_first_moves at f text ts a b d k o h = both_moves (ForOpen at) (λ t. IsForInitialiser t f) text
    ts b d (for_open_moves at text ts a b k o) (first f text b d h)

pub for_condition_moves : (at : ℕ) (f : ForInitialiser) (c : Option Expression) (text : List ℕ)
    (ts a b d g : List Token) → IsKeyword keywords.For at ts a
    → HasPunctuator punctuators.OpenParenthesis a b → IsForInitialiser text f b d
    → IsUpTo text punctuators.Semicolon c d g → Moves (ForCondition at f c) text ts g
for_condition_moves at f c text ts a b d g k o h u = both_moves (ForFirst at f)
    (UpTo punctuators.Semicolon c) text ts d g (for_first_moves at f text ts a b d k o h)
    (up_to_moves punctuators.Semicolon c text d g u)

pub for_initialiser : (room at : ℕ) (left : Remaining) (text : List ℕ) (ts a b : List Token)
    → 1 ≤ room
    → IsKeyword keywords.For at ts a → HasPunctuator punctuators.OpenParenthesis a b
    → Wraps (NoForInitialiser left) (HasForInitialiser left) (NoStatement room left)
    (HasStatement room left) text b ts
for_initialiser room at left text ts a b o k s =
    wraps (ForOpen at) (NoForInitialiser left) (HasForInitialiser left)
    (NoStatement room left) (HasStatement room left) text ts b (for_open_moves at text ts a b k s)
    (λ n text' all other h e r none. no_for_initialiser n text' room at left r.mid other r.second
    none all r.first)
    (λ n text' front inner h r has. record {
      more = for2;
      has = record {
        tree = For at has.tree None None (Evaluate None);
        is = λ other.
            let w = both_fixed (ForFirst at has.tree) For2 text' (front ++ inner) for2
            (both_fixed (ForOpen at) (λ t. IsForInitialiser t has.tree) text' front inner r
            has.is) (is_for2 text') other in
            let x = w.first in let y = w.second in
            for_item text' at has.tree None None (Evaluate None)
            (((front ++ inner) ++ for2) ++ other) x.first.mid x.mid w.mid y.mid y.second.mid other
            x.first.first x.first.second x.second y.first y.second.first refl y.second.second;
        statement = refl;
        within = record {
          statements = λ i. omega arith;
          expressions = λ i. let b = has.low i in
              omega arith;
          locals = λ i. let b = has.count i in omega arith;
          bytes = has.bytes;
          funclets = λ i. omega arith;
        };
      };
    })

started : (at : ℕ) (text : List ℕ) (left mid : Remaining) (f : ForInitialiser)
    (ts rest : List Token)
    (r : ForFirst at f text ts rest) → height_of_for_initialiser f ≤ 64
    → mid.locals + locals_of_for_initialiser f ≡ left.locals → mid.funclets ≡ left.funclets
    → bytes_so_far mid.bytes ≡ end_of_for_initialiser f (bytes_so_far left.bytes)
    → Started text left mid f r.first.mid r.mid rest
started at text left mid f ts rest r low l m ends = record {
  opens = r.first.second;
  is = r.second;
  low = low;
  locals = l;
  bytes = ends;
  funclets = m;
}

pub for_condition : (room at : ℕ) (left mid : Remaining) (f : ForInitialiser) (text : List ℕ)
    (ts a b d : List Token) → 1 ≤ room → IsKeyword keywords.For at ts a
    → HasPunctuator punctuators.OpenParenthesis a b → IsForInitialiser text f b d
    → height_of_for_initialiser f ≤ 64 → mid.locals + locals_of_for_initialiser f ≡ left.locals
    → mid.funclets ≡ left.funclets
    → bytes_so_far mid.bytes ≡ end_of_for_initialiser f (bytes_so_far left.bytes) →
    Wraps (NoneUpTo punctuators.Semicolon 1) (HasUpTo punctuators.Semicolon 1)
    (NoStatement room left) (HasStatement room left) text d ts
for_condition room at left mid f text ts a b d o k s u low l m ends =
    wraps (ForFirst at f) (NoneUpTo punctuators.Semicolon 1) (HasUpTo punctuators.Semicolon 1)
    (NoStatement room left) (HasStatement room left) text ts d
    (for_first_moves at f text ts a b d k s u)
    (λ n text' all other h e r none. no_for_condition n text' room at left mid f r.first.mid r.mid
    other (started at text' left mid f all other r low l m ends) none all r.first.first)
    (λ n text' front inner h r has. record {
      more = for3;
      has = record {
        tree = For at f has.tree None (Evaluate None);
        is = λ other.
            let w = both_fixed (ForCondition at f has.tree) For3 text' (front ++ inner) for3
            (both_fixed (ForFirst at f) (UpTo punctuators.Semicolon has.tree) text' front inner r
            has.is) (is_for3 text') other in
            let x = w.first in let y = w.second in
            for_item text' at f has.tree None (Evaluate None) (((front ++ inner) ++ for3) ++ other)
            x.first.first.mid x.first.mid x.mid w.mid y.mid other x.first.first.first
            x.first.first.second x.first.second x.second y.first refl y.second;
        statement = refl;
        within = record {
          statements = λ i. omega arith;
          expressions = λ i. let b = has.low i in
              omega arith;
          locals = λ i. omega arith;
          bytes = λ i. omega arith;
          funclets = λ i. omega arith;
        };
      };
    })

pub for_next : (room at : ℕ) (left mid : Remaining) (f : ForInitialiser) (c : Option Expression)
    (text : List ℕ) (ts a b d g : List Token) → 1 ≤ room → IsKeyword keywords.For at ts a
    → HasPunctuator punctuators.OpenParenthesis a b → IsForInitialiser text f b d
    → height_of_for_initialiser f ≤ 64 → mid.locals + locals_of_for_initialiser f ≡ left.locals
    → mid.funclets ≡ left.funclets
    → bytes_so_far mid.bytes ≡ end_of_for_initialiser f (bytes_so_far left.bytes)
    → IsUpTo text punctuators.Semicolon c d g → height_of c ≤ 64 →
    Wraps (NoneUpTo punctuators.CloseParenthesis 1) (HasUpTo punctuators.CloseParenthesis 1)
    (NoStatement room left) (HasStatement room left) text g ts
for_next room at left mid f c text ts a b d g o k s u low l m ends v low' =
    wraps (ForCondition at f c) (NoneUpTo punctuators.CloseParenthesis 1)
    (HasUpTo punctuators.CloseParenthesis 1) (NoStatement room left) (HasStatement room left) text
    ts g (for_condition_moves at f c text ts a b d g k s u v)
    (λ n text' all other h e r none. no_for_next n text' room at left mid f c r.first.first.mid
    r.first.mid r.mid other (started at text' left mid f all r.mid r.first low l m ends) r.second
    none all r.first.first.first)
    (λ n text' front inner h r has. record {
      more = semicolon;
      has = record {
        tree = For at f c has.tree (Evaluate None);
        is = λ other.
            let w = both_fixed (ForHead at f c has.tree) Empties text' (front ++ inner) semicolon
            (both_fixed (ForCondition at f c) (UpTo punctuators.CloseParenthesis has.tree) text'
            front inner r has.is) (is_empty text') other in
            let x = w.first in
            for_item text' at f c has.tree (Evaluate None)
            (((front ++ inner) ++ semicolon) ++ other) x.first.first.first.mid x.first.first.mid
            x.first.mid x.mid w.mid other x.first.first.first.first x.first.first.first.second
            x.first.first.second x.first.second x.second refl w.second;
        statement = refl;
        within = record {
          statements = λ i. omega arith;
          expressions = λ i. let b = has.low i in
              omega arith;
          locals = λ i. omega arith;
          bytes = λ i. omega arith;
          funclets = λ i. omega arith;
        };
      };
    })

-- ---- expression statements

pub evaluation : (room : ℕ) (left : Remaining) (text : List ℕ) (ts : List Token)
    → Wraps (NoneUpTo punctuators.Semicolon room) (HasUpTo punctuators.Semicolon room)
    (NoEvaluation room left) (HasEvaluation room left) text ts ts
evaluation room left text ts = record {
  before = [];
  split = refl;
  no = λ n text' other h e none. no_evaluation n text' room left other none;
  has = λ n text' inner h k has. able_now (HasEvaluation room left) n text' inner
      (record {
        tree = has.tree;
        is = has.is;
        within = record {
          statements = has.over;
          expressions = has.low;
          locals = λ i. omega arith;
          bytes = λ i. omega arith;
          funclets = λ i. omega arith;
        };
      });
}

evaluation_wraps : (room : ℕ) (left : Remaining) (text : List ℕ) (ts : List Token)
    → Lacks punctuators.OpenBrace ts → ((k : Keyword) (rest : List Token) → HasKeyword k ts rest
    → Plain k) → Wraps (NoEvaluation room left) (HasEvaluation room left) (NoStatement room left)
    (HasStatement room left) text ts ts
evaluation_wraps room left text ts o p = record {
  before = [];
  split = refl;
  no = λ n text' other h e none.
      only_evaluations n text' room left other (no_punctuator punctuators.OpenBrace ts other e o)
      (λ k rest i. let q = first_kind (kinds.Keyword k) i.0 other ts rest (first_back ts other e)
      i.1 in p k q.0 (i.0, q.1)) none;
  has = λ n text' inner h k has. able_now (HasStatement room left) n text' inner
      (record { tree = Evaluate has.tree; is = has.is; statement = refl; within = has.within });
}

-- no statement but one of an expression begins with the keyword
pub evaluation_after : (room at : ℕ) (left : Remaining) (k : Keyword) (text : List ℕ)
    (ts a : List Token)
    → IsKeyword k at ts a → Plain k → Wraps (NoEvaluation room left) (HasEvaluation room left)
    (NoStatement room left) (HasStatement room left) text ts ts
evaluation_after room at left k text ts a is p =
    evaluation_wraps room left text ts
    (λ rest h. let q = kind_same (kinds.Punctuator punctuators.OpenBrace) (kinds.Keyword k) h.0 at
    ts ts rest a refl h.1 is in let e : kinds.Punctuator punctuators.OpenBrace
    ≡ kinds.Keyword k = q.0 in cc)
    (λ j rest h. subst Plain (sym (keyword_same j k ts ts rest a refl h (at, is)).0) p)

pub evaluation_alone : (room : ℕ) (left : Remaining) (text : List ℕ) (ts : List Token)
    → Lacks punctuators.OpenBrace ts → ((k : Keyword) (rest : List Token) → HasKeyword k ts rest
    → ⊥) → Wraps (NoEvaluation room left) (HasEvaluation room left) (NoStatement room left)
    (HasStatement room left) text ts ts
evaluation_alone room left text ts o none = evaluation_wraps room left text ts o
    (λ k rest h. absurd (none k rest h))
