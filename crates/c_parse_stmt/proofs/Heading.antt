-- Failures in what a statement begins with.
use Rattle.std.proofs.Common.{◌≡◌, ◌≤◌, IsFalse, ◌+◌, ◌++◌, ℕ, suc, List, [], ◌∷◌, Option, None, refl, arith}
use Rattle.c_parse_stmt.specs.Words.{Keyword, Punctuator, Token, Expression, Constant, Family, Able, Failed, Wraps, ForInitialiser, Evaluating, Statement, Evaluate, If, While, DoWhile, For, TryFinally, Empty, IsUpTo, IsCondition, IsForInitialiser, is_declaration, IsBlockItem, token, IsKeyword, HasPunctuator, Remaining, NoCondition, HasCondition, NoStatement, HasStatement, AfterKeyword}
use Rattle.c_lex.specs.declared.keyword.Keyword.TheVariants as keywords
use Rattle.c_lex.specs.declared.punctuator.Punctuator.TheVariants as punctuators
use Rattle.c_lex.specs.declared.token.IntegerType.TheVariants as types
use Rattle.c_lex.specs.declared.token.Kind.TheVariants as kinds
use Rattle.c_syntax.specs.declared.expression.Literal.TheVariants as literals
use Rattle.c_parse_stmt.proofs.Lemmas.{Moves, kind}
use Rattle.c_syntax.proofs.MovesStatements.{first}
use Rattle.c_parse_stmt.proofs.Sequences.{Both, Fixed, both_fixed, punctuator, word, a_punctuator, a_word, first_kind, kind_place}
use Rattle.c_parse_stmt.proofs.Tries.{no_try}
use Rattle.c_parse_stmt.proofs.Loops.{no_while_room, no_while_condition, no_do_room, no_for_room}
use Rattle.c_parse_stmt.proofs.Wholes.{no_if_room, no_if_condition}

-- ---- relations

abbrev pub Key : Keyword → ℕ → List ℕ → List Token → List Token → Type 0
Key k at text = IsKeyword k at

abbrev pub Sig : Punctuator → List ℕ → List Token → List Token → Type 0
Sig s text = HasPunctuator s

abbrev pub Condition : Expression → List ℕ → List Token → List Token → Type 0
Condition e text = IsCondition text e

abbrev pub UpTo : Punctuator → Option Expression → List ℕ → List Token → List Token → Type 0
UpTo s e text = IsUpTo text s e

abbrev pub key_moves : (k : Keyword) (at : ℕ) (text : List ℕ) (ts rest : List Token)
    → IsKeyword k at ts rest → Moves (Key k at) text ts rest
key_moves k at text ts rest h = kind (kinds.Keyword k) at text ts rest h

-- ---- the least statement

-- `;`
abbrev pub semicolon : List Token
semicolon = punctuator punctuators.Semicolon ∷ []

abbrev pub Empties : List ℕ → List Token → List Token → Type 0
Empties text = IsBlockItem text (Evaluate None)

pub is_empty : (text : List ℕ) → Fixed Empties text semicolon
is_empty text other = (
  punctuator punctuators.Semicolon ∷ other,
  refl,
  a_punctuator punctuators.Semicolon other,
)

pub least : (room : ℕ) (left : Remaining) (n : ℕ) (text : List ℕ)
    → HasStatement room left n text semicolon
least room left n text = record {
  tree = Evaluate None;
  is = is_empty text;
  statement = refl;
  within = record {
    statements = λ i. omega arith;
    expressions = λ i. omega arith;
    locals = λ i. omega arith;
    bytes = λ i. omega arith;
    funclets = λ i. omega arith;
  };
}

pub any_able : (room : ℕ) (left : Remaining) (n : ℕ) (text : List ℕ)
    → Able (HasStatement room left) n text []
any_able room left n text = record { more = semicolon; has = least room left n text }

-- ---- `(1)`

abbrev pub unit : Expression
unit = Constant 0 (literals.Integer 1 types.Int)

abbrev pub in_parentheses : List Token
in_parentheses = punctuator punctuators.OpenParenthesis ∷ token (kinds.Integer 1 types.Int) 0 0
    ∷ punctuator punctuators.CloseParenthesis ∷ []

pub is_unit : (text : List ℕ) → Fixed (Condition unit) text in_parentheses
is_unit text other = record {
  after_opening =
      token (kinds.Integer 1 types.Int) 0 0 ∷ punctuator punctuators.CloseParenthesis ∷ other;
  after_inner = punctuator punctuators.CloseParenthesis ∷ other;
  opening =
      a_punctuator punctuators.OpenParenthesis
      (token (kinds.Integer 1 types.Int) 0 0 ∷ punctuator punctuators.CloseParenthesis ∷ other);
  inner = record { fits = omega arith; spells = (0, refl) };
  closing = a_punctuator punctuators.CloseParenthesis other;
}

-- ---- at the keyword itself

-- a limit excludes what the keyword begins
pub at_keyword : (k : Keyword) (at kind room : ℕ) (left : Remaining) (text : List ℕ)
    (ts a : List Token)
    → IsKeyword k at ts a →
    ((text' : List ℕ) → (all more : List Token) → IsKeyword k at all more
    → NoStatement room left kind text' all) →
    ((text' : List ℕ) (n end : ℕ) → kind ≡ suc n
    → (more : List Token) × HasStatement room left n text'
    (token (kinds.Keyword k) at end ∷ more)) →
    Failed kind at (NoStatement room left) (HasStatement room left) text ts
at_keyword k at kind room left text ts a key excludes go = record {
  front = [];
  fault = ts;
  split = refl;
  located = kind_place (kinds.Keyword k) at text ts a key;
  against = λ text' other h s. let q = first_kind (kinds.Keyword k) at ts other a s key in
      excludes text' other q.0 q.1;
  able = λ text' h s. any_able room left 7 text';
  further = λ text' n h s e. let m = go text' n key.0 e in
      record {
        token = token (kinds.Keyword k) at key.0;
        rest = a;
        more = m.0;
        is = key.1;
        has = m.1;
      };
}

pub if_too_deep : (room at : ℕ) (left : Remaining) (text : List ℕ) (ts a : List Token) → room ≡ 0
    → IsKeyword keywords.If at ts a → Failed 1 at (NoStatement room left) (HasStatement room left)
    text ts
if_too_deep room at left text ts a z k =
    at_keyword keywords.If at 1 room left text ts a k
    (λ text' all more key. no_if_room 1 text' room at left more (omega arith) z all key)
    (λ text' n end e. (
      in_parentheses ++ semicolon,
      record {
        tree = If at unit (Evaluate None);
        is = λ other. record {
          after_keyword = in_parentheses ++ semicolon ++ other;
          after_condition = semicolon ++ other;
          keyword = (end, refl);
          condition = is_unit text' (semicolon ++ other);
          body = record { no_declaration = refl; item = is_empty text' other };
        };
        statement = refl;
        within = record {
          statements = λ i. omega arith;
          expressions = λ i. omega arith;
          locals = λ i. omega arith;
          bytes = λ i. omega arith;
          funclets = λ i. omega arith;
        };
      },
    ))

pub while_too_deep : (room at : ℕ) (left : Remaining) (text : List ℕ) (ts a : List Token) → room ≡ 0
    → IsKeyword keywords.While at ts a → Failed 1 at (NoStatement room left)
    (HasStatement room left) text ts
while_too_deep room at left text ts a z k =
    at_keyword keywords.While at 1 room left text ts a k
    (λ text' all more key. no_while_room 1 text' room at left more (omega arith) z all key)
    (λ text' n end e. (
      in_parentheses ++ semicolon,
      record {
        tree = While at unit (Evaluate None);
        is = λ other. record {
          after_keyword = in_parentheses ++ semicolon ++ other;
          after_condition = semicolon ++ other;
          keyword = (end, refl);
          condition = is_unit text' (semicolon ++ other);
          body = record { no_declaration = refl; item = is_empty text' other };
        };
        statement = refl;
        within = record {
          statements = λ i. omega arith;
          expressions = λ i. omega arith;
          locals = λ i. omega arith;
          bytes = λ i. omega arith;
          funclets = λ i. omega arith;
        };
      },
    ))

-- `while (1);`
abbrev pub while_end : List Token
while_end = word keywords.While ∷ in_parentheses ++ semicolon

pub do_too_deep : (room at : ℕ) (left : Remaining) (text : List ℕ) (ts a : List Token) → room ≡ 0
    → IsKeyword keywords.Do at ts a → Failed 1 at (NoStatement room left) (HasStatement room left)
    text ts
do_too_deep room at left text ts a z k =
    at_keyword keywords.Do at 1 room left text ts a k
    (λ text' all more key. no_do_room 1 text' room at left more (omega arith) z all key)
    (λ text' n end e. (
      semicolon ++ while_end,
      record {
        tree = DoWhile (Evaluate None) 0 unit;
        is = λ other. record {
          after_do = semicolon ++ while_end ++ other;
          after_body = while_end ++ other;
          after_while = in_parentheses ++ semicolon ++ other;
          after_condition = semicolon ++ other;
          do_keyword = (at, (end, refl));
          body = record { no_declaration = refl; item = is_empty text' (while_end ++ other) };
          keyword = a_word keywords.While (in_parentheses ++ semicolon ++ other);
          condition = is_unit text' (semicolon ++ other);
          semicolon = a_punctuator punctuators.Semicolon other;
        };
        statement = refl;
        within = record {
          statements = λ i. omega arith;
          expressions = λ i. omega arith;
          locals = λ i. omega arith;
          bytes = λ i. omega arith;
          funclets = λ i. omega arith;
        };
      },
    ))

pub for_item : (text : List ℕ) (at : ℕ) (f : ForInitialiser) (c n : Option Expression)
    (s : Statement) (ts a b d g i rest : List Token) → IsKeyword keywords.For at ts a
    → HasPunctuator punctuators.OpenParenthesis a b → IsForInitialiser text f b d
    → IsUpTo text punctuators.Semicolon c d g → IsUpTo text punctuators.CloseParenthesis n g i
    → IsFalse (is_declaration s) → IsBlockItem text s i rest
    → IsBlockItem text (For at f c n s) ts rest
for_item text at f c n s ts a b d g i rest k o h u v z t = record {
  after_head = i;
  head = record {
    after_keyword = a;
    after_opening = b;
    after_first = d;
    after_condition = g;
    keyword = k;
    opening = o;
    first = h;
    condition = u;
    next = v;
  };
  body = record { no_declaration = z; item = t };
}

-- what may be after `for`, the shortest
abbrev pub For3 : List ℕ → List Token → List Token → Type 0
For3 = Both (UpTo punctuators.CloseParenthesis None) Empties

abbrev pub For2 : List ℕ → List Token → List Token → Type 0
For2 = Both (UpTo punctuators.Semicolon None) For3

abbrev pub For1 : List ℕ → List Token → List Token → Type 0
For1 = Both (λ t. IsForInitialiser t (Evaluating None)) For2

abbrev pub for3 : List Token
for3 = punctuator punctuators.CloseParenthesis ∷ semicolon

abbrev pub for2 : List Token
for2 = punctuator punctuators.Semicolon ∷ for3

abbrev pub for1 : List Token
for1 = punctuator punctuators.Semicolon ∷ for2

pub is_for3 : (text : List ℕ) → Fixed For3 text for3
is_for3 text other = record {
  mid = semicolon ++ other;
  first = (for3 ++ other, refl, a_punctuator punctuators.CloseParenthesis (semicolon ++ other));
  second = is_empty text other;
}

pub is_for2 : (text : List ℕ) → Fixed For2 text for2
is_for2 text other = record {
  mid = for3 ++ other;
  first = (for2 ++ other, refl, a_punctuator punctuators.Semicolon (for3 ++ other));
  second = is_for3 text other;
}

pub is_for1 : (text : List ℕ) → Fixed For1 text for1
is_for1 text other = record {
  mid = for2 ++ other;
  first = (for1 ++ other, refl, a_punctuator punctuators.Semicolon (for2 ++ other));
  second = is_for2 text other;
}

pub for_too_deep : (room at : ℕ) (left : Remaining) (text : List ℕ) (ts a : List Token) → room ≡ 0
    → IsKeyword keywords.For at ts a → Failed 1 at (NoStatement room left) (HasStatement room left)
    text ts
for_too_deep room at left text ts a z k =
    at_keyword keywords.For at 1 room left text ts a k
    (λ text' all more key. no_for_room 1 text' room at left more (omega arith) z all key)
    (λ text' n end e. (
      punctuator punctuators.OpenParenthesis ∷ for1,
      record {
        tree = For at (Evaluating None) None None (Evaluate None);
        is = λ other. let x = is_for1 text' other in
            for_item text' at (Evaluating None) None None (Evaluate None) _
            (punctuator punctuators.OpenParenthesis ∷ for1 ++ other) (for1 ++ other) x.mid
            x.second.mid x.second.second.mid other (end, refl)
            (a_punctuator punctuators.OpenParenthesis (for1 ++ other)) x.first x.second.first
            x.second.second.first refl x.second.second.second;
        statement = refl;
        within = record {
          statements = λ i. omega arith;
          expressions = λ i. omega arith;
          locals = λ i. omega arith;
          bytes = λ i. omega arith;
          funclets = λ i. omega arith;
        };
      },
    ))

-- `{}`
abbrev pub braces : List Token
braces = punctuator punctuators.OpenBrace ∷ punctuator punctuators.CloseBrace ∷ []

-- `__finally {}`
abbrev pub finally : List Token
finally = word keywords.Finally ∷ braces

pub try_too_many : (room at : ℕ) (left : Remaining) (text : List ℕ) (ts a : List Token) → room ≡ 0
    → left.funclets ≡ 0 → IsKeyword keywords.Try at ts a
    → Failed 7 at (NoStatement room left) (HasStatement room left) text ts
try_too_many room at left text ts a z y k =
    at_keyword keywords.Try at 7 room left text ts a k
    (λ text' all more key. no_try 7 text' room at left more (omega arith) z y all key)
    (λ text' n end e. (
      braces ++ finally,
      record {
        tree = TryFinally Empty 0 Empty;
        is = λ other. record {
          after_try = braces ++ finally ++ other;
          after_body = finally ++ other;
          after_finally = braces ++ other;
          try_keyword = (at, (end, refl));
          body = record {
            after_brace = punctuator punctuators.CloseBrace ∷ finally ++ other;
            brace =
                a_punctuator punctuators.OpenBrace
                (punctuator punctuators.CloseBrace ∷ finally ++ other);
            items = a_punctuator punctuators.CloseBrace (finally ++ other);
          };
          keyword = a_word keywords.Finally (braces ++ other);
          last = record {
            after_brace = punctuator punctuators.CloseBrace ∷ other;
            brace = a_punctuator punctuators.OpenBrace (punctuator punctuators.CloseBrace ∷ other);
            items = a_punctuator punctuators.CloseBrace other;
          };
        };
        statement = refl;
        within = record {
          statements = λ i. omega arith;
          expressions = λ i. omega arith;
          locals = λ i. omega arith;
          bytes = λ i. omega arith;
          funclets = λ i. omega arith;
        };
      },
    ))

-- ---- after the keyword

pub key_wraps : (k : Keyword) (at room : ℕ) (left : Remaining) (No Has : Family) (text : List ℕ)
    (ts a : List Token) → IsKeyword k at ts a →
    ((n : ℕ) (text' : List ℕ) (other : List Token) → No n text' other
    → AfterKeyword k at other (NoStatement room left n text')) →
    ((n : ℕ) (text' : List ℕ) (inner : List Token) (end : ℕ) → Has n text' inner
    → Able (HasStatement room left) n text' (token (kinds.Keyword k) at end ∷ inner)) →
    Wraps No Has (NoStatement room left) (HasStatement room left) text a ts
key_wraps k at room left No Has text ts a key f g = record {
  before = token (kinds.Keyword k) at key.0 ∷ [];
  split = key.1;
  no = λ n text' other h s none. f n text' other none (token (kinds.Keyword k) at key.0 ∷ other)
      (key.0, refl);
  has = λ n text' inner h s has. g n text' inner key.0 has;
}

pub while_condition : (room at : ℕ) (left : Remaining) (text : List ℕ) (ts a : List Token)
    → 1 ≤ room
    → IsKeyword keywords.While at ts a → Wraps NoCondition HasCondition (NoStatement room left)
    (HasStatement room left) text a ts
while_condition room at left text ts a o k =
    key_wraps keywords.While at room left NoCondition HasCondition text ts a k
    (λ n text' other none. no_while_condition n text' room at left other none)
    (λ n text' inner end has. record {
      more = semicolon;
      has = record {
        tree = While at has.tree (Evaluate None);
        is = λ other.
            let x = both_fixed (Condition has.tree) Empties text' inner semicolon has.is
            (is_empty text') other in
            record {
              after_keyword = (inner ++ semicolon) ++ other;
              after_condition = x.mid;
              keyword = (end, refl);
              condition = x.first;
              body = record { no_declaration = refl; item = x.second };
            };
        statement = refl;
        within = record {
          statements = λ i. omega arith;
          expressions = λ i. let b = has.low i in
              omega arith;
          locals = λ i. omega arith;
          bytes = λ i. omega arith;
          funclets = λ i. omega arith;
        };
      };
    })

pub if_condition : (room at : ℕ) (left : Remaining) (text : List ℕ) (ts a : List Token) → 1 ≤ room
    → IsKeyword keywords.If at ts a → Wraps NoCondition HasCondition (NoStatement room left)
    (HasStatement room left) text a ts
if_condition room at left text ts a o k =
    key_wraps keywords.If at room left NoCondition HasCondition text ts a k
    (λ n text' other none. no_if_condition n text' room at left other none)
    (λ n text' inner end has. record {
      more = semicolon;
      has = record {
        tree = If at has.tree (Evaluate None);
        is = λ other.
            let x = both_fixed (Condition has.tree) Empties text' inner semicolon has.is
            (is_empty text') other in
            record {
              after_keyword = (inner ++ semicolon) ++ other;
              after_condition = x.mid;
              keyword = (end, refl);
              condition = x.first;
              body = record { no_declaration = refl; item = x.second };
            };
        statement = refl;
        within = record {
          statements = λ i. omega arith;
          expressions = λ i. let b = has.low i in
              omega arith;
          locals = λ i. omega arith;
          bytes = λ i. omega arith;
          funclets = λ i. omega arith;
        };
      };
    })
