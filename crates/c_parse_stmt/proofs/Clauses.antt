-- `__try` with its block and a clause is a statement; and which clause ends it, the shortest.
use Rattle.std.proofs.Common.{◌++◌, ℕ, List, [], ◌∷◌, refl}
use Rattle.c_lex.specs.declared.keyword.Keyword.TheVariants as keywords
use Rattle.c_lex.specs.declared.punctuator.Punctuator.TheVariants as punctuators
use Rattle.c_lex.specs.declared.token.Kind.TheVariants as kinds
use Rattle.c_parse_stmt.specs.Words.{Token, Expression, TryExcept, TryFinally, Statements, Empty, IsCondition, IsBlockItem, AreBlockItems, Phrase, token, IsKeyword, HasKeyword, IsTry}
use Rattle.c_syntax.specs.Phrases.{InTurn}
use Rattle.c_parse_stmt.proofs.Lemmas.{Moves, has_punctuator, has_keyword}
use Rattle.c_parse_stmt.proofs.Heading.{Sig, unit, in_parentheses, is_unit, braces}
use Rattle.c_parse_stmt.proofs.Sequences.{Both, Fixed, both_moves, moves_so, punctuator, word, a_punctuator}
use Rattle.c_parse_stmt.proofs.Tails.{IsBraced}

-- ---- relations

abbrev pub Tries : List ℕ → List Token → List Token → Type 0
Tries text = IsTry

abbrev pub Items : Statements → List ℕ → List Token → List Token → Type 0
Items ss text = AreBlockItems text ss

abbrev pub Guard : Statements → List ℕ → List Token → List Token → Type 0
Guard body = Both Tries (Items body)

pub record Except (at : ℕ) (f : Expression) (last : Statements) (text : List ℕ)
    (ts rest : List Token) : Type 0 where
  pub after_keyword : List Token
  pub after_filter : List Token
  pub keyword : IsKeyword keywords.Except at ts after_keyword
  pub filter : IsCondition text f after_keyword after_filter
  pub handler : IsBraced text last after_filter rest

abbrev pub Finally : ℕ → Statements → List ℕ → Phrase
Finally at last text = InTurn (IsKeyword keywords.Finally at) (IsBraced text last)

pub excepted : (body last : Statements) (at : ℕ) (f : Expression) (text : List ℕ)
    (ts rest : List Token) → Both (Guard body) (Except at f last) text ts rest
    → IsBlockItem text (TryExcept body at f last) ts rest
excepted body last at f text ts rest x = record {
  after_try = x.first.first.0;
  after_body = x.mid;
  after_except = x.second.after_keyword;
  after_filter = x.second.after_filter;
  try_keyword = x.first.first.1;
  body = record { after_brace = x.first.mid; brace = x.first.first.2; items = x.first.second };
  keyword = x.second.keyword;
  filter = x.second.filter;
  handler = x.second.handler;
}

pub finished : (body last : Statements) (at : ℕ) (text : List ℕ) (ts rest : List Token)
    → Both (Guard body) (Finally at last) text ts rest
    → IsBlockItem text (TryFinally body at last) ts rest
finished body last at text ts rest x = record {
  after_try = x.first.first.0;
  after_body = x.mid;
  after_finally = x.second.0;
  try_keyword = x.first.first.1;
  body = record { after_brace = x.first.mid; brace = x.first.first.2; items = x.first.second };
  keyword = x.second.1;
  last = x.second.2;
}

pub try_moves : (text : List ℕ) (ts rest : List Token) → IsTry ts rest → Moves Tries text ts rest
try_moves text ts rest t =
    moves_so (Both (λ s. HasKeyword keywords.Try) (Sig punctuators.OpenBrace)) Tries text ts rest
    (λ t us end x. (x.mid, x.first, x.second))
    (both_moves (λ s. HasKeyword keywords.Try) (Sig punctuators.OpenBrace) text ts t.0 rest
    (has_keyword keywords.Try text ts t.0 t.1)
    (has_punctuator punctuators.OpenBrace text t.0 rest t.2))

-- ---- what always ends it

-- `{}`
abbrev pub Braces : List ℕ → Phrase
Braces text = IsBraced text Empty

pub is_braces : (text : List ℕ) → Fixed Braces text braces
is_braces text other = record {
  after_brace = punctuator punctuators.CloseBrace ∷ other;
  brace = a_punctuator punctuators.OpenBrace (punctuator punctuators.CloseBrace ∷ other);
  items = a_punctuator punctuators.CloseBrace other;
}

-- `(1) {}`
abbrev pub unit_braces : List Token
unit_braces = in_parentheses ++ braces

abbrev pub except : List Token
except = word keywords.Except ∷ unit_braces

pub is_except : (text : List ℕ) (at end : ℕ) → Fixed (Except at unit Empty) text
    (token (kinds.Keyword keywords.Except) at end ∷ unit_braces)
is_except text at end other = record {
  after_keyword = in_parentheses ++ braces ++ other;
  after_filter = braces ++ other;
  keyword = (end, refl);
  filter = is_unit text (braces ++ other);
  handler = is_braces text other;
}

pub is_finally : (text : List ℕ) (at end : ℕ)
    → Fixed (Finally at Empty) text (token (kinds.Keyword keywords.Finally) at end ∷ braces)
is_finally text at end other = (braces ++ other, (end, refl), is_braces text other)

-- `}`
abbrev pub brace : List Token
brace = punctuator punctuators.CloseBrace ∷ []

pub is_brace : (text : List ℕ) → Fixed (Items Empty) text brace
is_brace text other = a_punctuator punctuators.CloseBrace other
