-- What spells a phrase before a rest spells it before any other rest, and in any text that spells
-- its names alike.
use Rattle.std.proofs.Common.{◌≡◌, ◌≤◌, ◌<◌, ℕ, zero, suc, List, [], ◌∷◌, ◌++◌, codes, slice_range}
use Rattle.std.proofs.Common.{refl, sym, ap, ◌∙◌, subst, append_assoc, inl, inr}
use Rattle.std.specs.Str.{bytes_eq}
use Rattle.c_syntax.specs.Words.{Keyword, Punctuator, Kind, Token, Base, CType, Field, Identifier, Expression, Constant, Variable, Information, Call, Parentheses, Index, Postfix, Prefix, Unary, Cast, Binary, Conditional, Assign, Comma, Arguments, Done, Next, rank, literal_kind, IsInteger, OfLevel, TighterThan, IsApplied, IsContinued, IsIntroduced, IsElement, IsField, SpellsExpression, SpellsArguments, SpellsMoreArguments, Derives, Alike, postfix, unary, cast, logical_or, conditional, assignment, comma, level, binary_punctuator, unary_punctuator, increment_punctuator, assignment_punctuator, IsEnclosed, token, IsKind, IsPunctuator, IsIdentifier, HasPunctuator, HasKeyword, HasWord, spellings, AreKeywords, IsOneOf, IsBase, AreStars, IsType}
use Rattle.c_lex.specs.declared.keyword.Keyword.TheVariants as keywords
use Rattle.c_lex.specs.declared.punctuator.Punctuator.TheVariants as punctuators
use Rattle.c_lex.specs.declared.token.Kind.TheVariants as kinds
use Rattle.c_syntax.specs.declared.expression.Field.TheVariants as fields
use Rattle.c_syntax.specs.declared.expression.Literal.TheVariants as literals
use Rattle.c_syntax.specs.Limits as limits
use Rattle.c_syntax.proofs.Failing.{alike_inner}

-- how a text and tokens spell a phrase up to a rest
abbrev pub Phrase : Type 1
Phrase = List ℕ → List Token → List Token → Type 0

pub record Moves (R : List ℕ → List Token → List Token → Type 0) (text : List ℕ)
    (ts rest : List Token) : Type 0 where
  pub front : List Token
  pub split : ts ≡ front ++ rest
  pub again : (text' : List ℕ) (other : List Token) → Alike text text' ts
      → R text' (front ++ other) other

-- ---- phrases in general

-- one phrase after another
abbrev pub Both : Phrase → Phrase → Phrase
Both R S text ts rest = (mid : List Token) × R text ts mid × S text mid rest

pub map : {R S : Phrase} {text : List ℕ} {ts rest : List Token} → Moves R text ts rest
    → ((text' : List ℕ) (us vs : List Token) → R text' us vs → S text' us vs) → Moves S text ts rest
map m f = record {
  front = m.front;
  split = m.split;
  again = λ text' other a. f text' (m.front ++ other) other (m.again text' other a);
}

-- texts that spell a phrase and what follows alike spell what follows alike
pub alike_after : {R : Phrase} {text : List ℕ} {ts rest : List Token} (text' : List ℕ)
    → Moves R text ts rest → Alike text text' ts → Alike text text' rest
alike_after {text = text} {ts = ts} {rest = rest} text' m a =
    alike_inner text text' m.front rest ts m.split a

pub both : {R S : Phrase} {text : List ℕ} {ts mid rest : List Token} → Moves R text ts mid
    → Moves S text mid rest → Moves (Both R S) text ts rest
both {R = R} {rest = rest} m n = record {
  front = m.front ++ n.front;
  split = m.split ∙ ap (λ z. m.front ++ z) n.split ∙ sym (append_assoc m.front n.front rest);
  again = λ text' other a. (
    n.front ++ other,
    subst (λ z. R text' z (n.front ++ other)) (sym (append_assoc m.front n.front other))
        (m.again text' (n.front ++ other) a),
    n.again text' other (alike_after text' m a),
  );
}

pub nothing : (text : List ℕ) (ts rest : List Token) → ts ≡ rest
    → Moves (λ t us vs. us ≡ vs) text ts rest
nothing text ts rest h = record { front = []; split = h; again = λ text' other a. refl }

pub one_token : {R : Phrase} (t : Token) (text : List ℕ) (ts rest : List Token) → ts ≡ t ∷ rest
    → ((text' : List ℕ) (other : List Token)
    → slice_range text t.start t.end ≡ slice_range text' t.start t.end → R text' (t ∷ other) other)
    → Moves R text ts rest
one_token t text ts rest h f =
    record {
      front = t ∷ [];
      split = h;
      again = λ text' other a. f text' other
          (subst (λ z. Alike text text' z) h a).0;
    }

-- ---- tokens

pub kind : (k : Kind) (at : ℕ) (text : List ℕ) (ts rest : List Token) → IsKind k at ts rest
    → Moves (λ t. IsKind k at) text ts rest
kind k at text ts rest h =
    one_token (token k at h.0) text ts rest h.1 (λ text' other a. (h.0, refl))

pub has_punctuator : (s : Punctuator) (text : List ℕ) (ts rest : List Token)
    → HasPunctuator s ts rest → Moves (λ t. HasPunctuator s) text ts rest
has_punctuator s text ts rest h = map (kind (kinds.Punctuator s) h.0 text ts rest h.1)
    (λ t us vs g. (h.0, g))

pub has_keyword : (k : Keyword) (text : List ℕ) (ts rest : List Token) → HasKeyword k ts rest
    → Moves (λ t. HasKeyword k) text ts rest
has_keyword k text ts rest h =
    map (kind (kinds.Keyword k) h.0 text ts rest h.1) (λ t us vs g. (h.0, g))

pub name : (n : Identifier) (text : List ℕ) (ts rest : List Token) → IsIdentifier n ts rest
    → Moves (λ t. IsIdentifier n) text ts rest
name n text ts rest h = one_token (token kinds.Identifier n.start n.end) text ts rest h
    (λ text' other a. refl)

pub has_word : (word : List ℕ) (text : List ℕ) (ts rest : List Token) → HasWord text word ts rest
    → Moves (λ t. HasWord t word) text ts rest
has_word word text ts rest h = one_token (token kinds.Identifier h.0.start h.0.end) text ts rest h.1
    (λ text' other a. (h.0, refl, sym a ∙ h.2))

pub integer : (value at : ℕ) (text : List ℕ) (ts rest : List Token) → IsInteger value at ts rest
    → Moves (λ t. IsInteger value at) text ts rest
integer value at text ts rest h = map (kind (kinds.Integer value h.0) at text ts rest h.1)
    (λ t us vs g. (h.0, g))

-- ---- types

keywords_of : (ks : List Keyword) (text : List ℕ) (ts rest : List Token) → AreKeywords ks ts rest
    → Moves (λ t. AreKeywords ks) text ts rest
keywords_of [] text ts rest h = nothing text ts rest h
keywords_of (k ∷ ks) text ts rest h =
    map (both (has_keyword k text ts h.0 h.1) (keywords_of ks text h.0 rest h.2))
    (λ t us vs g. (g.0, g.1, g.2))

one_of : (kss : List (List Keyword)) (text : List ℕ) (ts rest : List Token) → IsOneOf kss ts rest
    → Moves (λ t. IsOneOf kss) text ts rest
one_of [] text ts rest h = absurd h
one_of (ks ∷ kss) text ts rest (inl h) = map (keywords_of ks text ts rest h) (λ t us vs g. inl g)
one_of (ks ∷ kss) text ts rest (inr h) = map (one_of kss text ts rest h) (λ t us vs g. inr g)

pub base : (b : Base) (text : List ℕ) (ts rest : List Token) → IsBase b ts rest
    → Moves (λ t. IsBase b) text ts rest
base b text ts rest h = one_of (spellings b) text ts rest h

pub stars : (n : ℕ) (text : List ℕ) (ts rest : List Token) → AreStars n ts rest
    → Moves (λ t. AreStars n) text ts rest
stars zero text ts rest h = nothing text ts rest h
stars (suc n) text ts rest h =
    map (both (has_punctuator punctuators.Star text ts h.0 h.1) (stars n text h.0 rest h.2))
    (λ t us vs g. (g.0, g.1, g.2))

pub type : (c : CType) (text : List ℕ) (ts rest : List Token) → IsType c ts rest
    → Moves (λ t. IsType c) text ts rest
type c text ts rest h =
    map (both (base c.base text ts h.0 h.1) (stars c.pointers text h.0 rest h.2))
    (λ t us vs g. (g.0, g.1, g.2))

-- ---- expressions

pub punctuator : (s : Punctuator) (at : ℕ) (text : List ℕ) (ts rest : List Token)
    → IsPunctuator s at ts rest → Moves (λ t. IsPunctuator s at) text ts rest
punctuator s at text ts rest h = kind (kinds.Punctuator s) at text ts rest h

of_level : {R : Phrase} {text : List ℕ} {ts rest : List Token} (l : ℕ) (e : Expression)
    → rank e ≤ l → Moves R text ts rest → Moves (λ t. OfLevel l e (R t)) text ts rest
of_level l e f m = map m (λ t us vs g. record { fits = f; spells = g })

tighter_than : {R : Phrase} {text : List ℕ} {ts rest : List Token} (l : ℕ) (e : Expression)
    → rank e < l → Moves R text ts rest → Moves (λ t. TighterThan l e (R t)) text ts rest
tighter_than l e f m = map m (λ t us vs g. record { fits = f; spells = g })

-- An enclosed phrase moves where what opens it and what is in it do.
pub enclosed : {O R : Phrase} {text : List ℕ} {ts a b rest : List Token} (close : Punctuator)
    → Moves O text ts a → Moves R text a b → HasPunctuator close b rest
    → Moves (λ t. IsEnclosed (O t) (R t) close) text ts rest
enclosed {text = text} {b = b} {rest = rest} close opening m closing =
    map (both opening (both m (has_punctuator close text b rest closing)))
    (λ t us vs (after_opening, opening, (after_inner, inner, closing)). record {
      after_opening = after_opening;
      after_inner = after_inner;
      opening = opening;
      inner = inner;
      closing = closing;
    })

applied : {R S : Phrase} {text : List ℕ} {ts mid rest : List Token} → Moves R text ts mid
    → Moves S text mid rest → Moves (λ t. IsApplied (R t) (S t)) text ts rest
applied m n =
    map (both m n) (λ t us vs g. record { after_operator = g.0; operator = g.1; operand = g.2 })

continued : {R S : Phrase} {text : List ℕ} {ts mid rest : List Token} → Moves R text ts mid
    → Moves S text mid rest → Moves (λ t. IsContinued (R t) (S t)) text ts rest
continued m n =
    map (both m n) (λ t us vs g. record { after_operand = g.0; operand = g.1; step = g.2 })

introduced : (at : ℕ) (text : List ℕ) (ts rest : List Token) → IsIntroduced text at ts rest
    → Moves (λ t. IsIntroduced t at) text ts rest
introduced at text ts rest h =
    map
    (both
    (kind (kinds.Keyword keywords.GetExceptionInformation) at text ts h.after_keyword h.keyword)
    (both
    (has_punctuator punctuators.OpenParenthesis text h.after_keyword h.after_opening h.opening)
    (both
    (has_punctuator punctuators.CloseParenthesis text h.after_opening h.after_closing h.closing)
    (both (has_punctuator punctuators.Arrow text h.after_closing h.after_arrow h.arrow)
    (both (has_word (codes "ExceptionRecord") text h.after_arrow h.after_record h.of_record)
    (has_punctuator punctuators.Arrow text h.after_record rest h.last_arrow))))))
    (λ t us vs g.
    let from_opening = g.2 in
    let from_closing = from_opening.2 in
    let from_arrow = from_closing.2 in
    let from_record = from_arrow.2 in
    record {
      after_keyword = g.0;
      after_opening = from_opening.0;
      after_closing = from_closing.0;
      after_arrow = from_arrow.0;
      after_record = from_record.0;
      keyword = g.1;
      opening = from_opening.1;
      closing = from_closing.1;
      arrow = from_arrow.1;
      of_record = from_record.1;
      last_arrow = from_record.2;
    })

element : (n at : ℕ) (text : List ℕ) (ts rest : List Token) → IsElement text n at ts rest
    → Moves (λ t. IsElement t n at) text ts rest
element n at text ts rest h =
    map
    (both (has_word (codes "ExceptionInformation") text ts h.after_word h.word)
    (both (has_punctuator punctuators.OpenBracket text h.after_word h.after_opening h.opening)
    (both (integer n at text h.after_opening h.after_index h.index)
    (has_punctuator punctuators.CloseBracket text h.after_index rest h.closing))))
    (λ t us vs g.
    let from_opening = g.2 in
    let from_index = from_opening.2 in
    record {
      after_word = g.0;
      after_opening = from_opening.0;
      after_index = from_index.0;
      word = g.1;
      opening = from_opening.1;
      index = from_index.1;
      closing = from_index.2;
    })

pub field : (f : Field) (text : List ℕ) (ts rest : List Token) → IsField text f ts rest
    → Moves (λ t. IsField t f) text ts rest
field fields.Code text ts rest h = has_word (codes "ExceptionCode") text ts rest h
field fields.Flags text ts rest h = has_word (codes "ExceptionFlags") text ts rest h
field fields.Count text ts rest h = has_word (codes "NumberParameters") text ts rest h
field (fields.Information n at) text ts rest h = element n at text ts rest h

mutual
  pub expression : (e : Expression) (text : List ℕ) (ts rest : List Token)
      → SpellsExpression text e ts rest → Moves (λ t. SpellsExpression t e) text ts rest
  expression (Constant at literal) text ts rest h = kind (literal_kind literal) at text ts rest h
  expression (Variable n) text ts rest h = name n text ts rest h
  expression (Information at f) text ts rest h =
      map
      (both (introduced at text ts h.after_introduction h.introduction)
      (field f text h.after_introduction rest h.field))
      (λ t us vs g. record { after_introduction = g.0; introduction = g.1; field = g.2 })
  expression (Call n es) text ts rest h =
      map
      (both (name n text ts h.after_name h.called)
      (both
      (has_punctuator punctuators.OpenParenthesis text h.after_name h.after_opening h.opening)
      (arguments es text h.after_opening rest h.arguments)))
      (λ t us vs (after_name, called, (after_opening, opening, arguments)). record {
        after_name = after_name;
        after_opening = after_opening;
        called = called;
        opening = opening;
        arguments = arguments;
      })
  expression (Parentheses at e) text ts rest h =
      enclosed punctuators.CloseParenthesis
      (punctuator punctuators.OpenParenthesis at text ts h.after_opening h.opening)
      (expression e text h.after_opening h.after_inner h.inner) h.closing
  expression (Index e at i) text ts rest h =
      continued
      (of_level postfix e h.operand.fits (expression e text ts h.after_operand h.operand.spells))
      (enclosed punctuators.CloseBracket
      (punctuator punctuators.OpenBracket at text h.after_operand h.step.after_opening
      h.step.opening)
      (expression i text h.step.after_opening h.step.after_inner h.step.inner) h.step.closing)
  expression (Postfix e op at) text ts rest h =
      continued
      (of_level postfix e h.operand.fits (expression e text ts h.after_operand h.operand.spells))
      (punctuator (increment_punctuator op) at text h.after_operand rest h.step)
  expression (Prefix at op e) text ts rest h =
      applied (punctuator (increment_punctuator op) at text ts h.after_operator h.operator)
      (of_level unary e h.operand.fits (expression e text h.after_operator rest h.operand.spells))
  expression (Unary at op e) text ts rest h =
      applied (punctuator (unary_punctuator op) at text ts h.after_operator h.operator)
      (of_level cast e h.operand.fits (expression e text h.after_operator rest h.operand.spells))
  expression (Cast at to e) text ts rest h =
      applied
      (enclosed punctuators.CloseParenthesis
      (punctuator punctuators.OpenParenthesis at text ts h.operator.after_opening
      h.operator.opening)
      (type to text h.operator.after_opening h.operator.after_inner h.operator.inner)
      h.operator.closing)
      (of_level cast e h.operand.fits (expression e text h.after_operator rest h.operand.spells))
  expression (Binary e at op f) text ts rest h =
      continued
      (of_level (level op) e h.operand.fits
      (expression e text ts h.after_operand h.operand.spells))
      (applied
      (punctuator (binary_punctuator op) at text h.after_operand h.step.after_operator
      h.step.operator)
      (tighter_than (level op) f h.step.operand.fits
      (expression f text h.step.after_operator rest h.step.operand.spells)))
  expression (Conditional e at f i) text ts rest h =
      continued
      (of_level logical_or e h.operand.fits
      (expression e text ts h.after_operand h.operand.spells))
      (applied
      (enclosed punctuators.Colon
      (punctuator punctuators.Question at text h.after_operand h.step.operator.after_opening
      h.step.operator.opening)
      (expression f text h.step.operator.after_opening h.step.operator.after_inner
      h.step.operator.inner) h.step.operator.closing)
      (of_level conditional i h.step.operand.fits
      (expression i text h.step.after_operator rest h.step.operand.spells)))
  expression (Assign e at op f) text ts rest h =
      continued
      (of_level unary e h.operand.fits (expression e text ts h.after_operand h.operand.spells))
      (applied
      (punctuator (assignment_punctuator op) at text h.after_operand h.step.after_operator
      h.step.operator)
      (of_level assignment f h.step.operand.fits
      (expression f text h.step.after_operator rest h.step.operand.spells)))
  expression (Comma e at f) text ts rest h =
      continued
      (of_level comma e h.operand.fits (expression e text ts h.after_operand h.operand.spells))
      (applied
      (punctuator punctuators.Comma at text h.after_operand h.step.after_operator h.step.operator)
      (of_level assignment f h.step.operand.fits
      (expression f text h.step.after_operator rest h.step.operand.spells)))

  pub arguments : (es : Arguments) (text : List ℕ) (ts rest : List Token)
      → SpellsArguments text es ts rest → Moves (λ t. SpellsArguments t es) text ts rest
  arguments Done text ts rest h = has_punctuator punctuators.CloseParenthesis text ts rest h
  arguments (Next e es) text ts rest h =
      map
      (both
      (of_level assignment e h.first.fits (expression e text ts h.after_first h.first.spells))
      (more_arguments es text h.after_first rest h.others))
      (λ t us vs g. record { after_first = g.0; first = g.1; others = g.2 })

  pub more_arguments : (es : Arguments) (text : List ℕ) (ts rest : List Token)
      → SpellsMoreArguments text es ts rest → Moves (λ t. SpellsMoreArguments t es) text ts rest
  more_arguments Done text ts rest h = has_punctuator punctuators.CloseParenthesis text ts rest h
  more_arguments (Next e es) text ts rest h =
      map
      (both (has_punctuator punctuators.Comma text ts h.after_comma h.comma)
      (both
      (of_level assignment e h.element.fits
      (expression e text h.after_comma h.after_element h.element.spells))
      (more_arguments es text h.after_element rest h.others)))
      (λ t us vs (after_comma, comma, (after_element, element, others)). record {
        after_comma = after_comma;
        after_element = after_element;
        comma = comma;
        element = element;
        others = others;
      })

pub derives : (l : ℕ) (e : Expression) (text : List ℕ) (ts rest : List Token)
    → Derives text l e ts rest → Moves (λ t. Derives t l e) text ts rest
derives l e text ts rest h = of_level l e h.fits (expression e text ts rest h.spells)

-- ---- filters

pub accepts : (e : Expression) (text text' : List ℕ) (ts rest : List Token)
    → SpellsExpression text e ts rest → Alike text text' ts
    → limits.accepts text' e ≡ limits.accepts text e
accepts (Constant at (literals.Integer value integer_type)) text text' ts rest h a = refl
accepts (Variable n) text text' ts rest h a =
    ap (λ z. bytes_eq z (codes "EXCEPTION_EXECUTE_HANDLER"))
    (sym (subst (λ z. Alike text text' z) h a).0)
accepts (Parentheses at e) text text' ts rest h a =
    accepts e text text' h.after_opening h.after_inner h.inner
    (subst (λ z. Alike text text' z) h.opening.1 a).1
accepts e text text' ts rest h a = refl
