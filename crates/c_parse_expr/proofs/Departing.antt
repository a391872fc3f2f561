-- Where `GetExceptionInformation()->ExceptionRecord->field` isn't gone on with.
use Rattle.std.proofs.Common.{◌≡◌, ℕ, List, [], ◌∷◌, ◌++◌, codes, slice_range, refl, sym, ap, ◌∙◌, subst}
use Rattle.c_lex.specs.declared.keyword.Keyword.TheVariants as keywords
use Rattle.c_parse_expr.specs.Words.{Punctuator, Token, Field, Information, IsInteger, IsField, SpellsExpression, Alike, SameFirst, place, Speaks, Failed, Wraps, token, IsKeyword, HasPunctuator, HasWord, NoField, HasField, NoInformation, HasInformation}
use Rattle.c_lex.specs.declared.punctuator.Punctuator.TheVariants as punctuators
use Rattle.c_lex.specs.declared.token.IntegerType.TheVariants as integers
use Rattle.c_lex.specs.declared.token.Kind.TheVariants as kinds
use Rattle.c_syntax.specs.declared.expression.Field.TheVariants as fields
use Rattle.c_syntax.proofs.Firsts as firsts
use Rattle.c_parse_atom.proofs.Fields.{NoElement, no_field, no_element, no_bracket, no_index, no_close}
use Rattle.c_parse_expr.proofs.Placing.{unexpected_at, able_now, one, punctuator_token}

-- ---- tokens and a field after them

pub data Piece : Type 0 where
  Mark : Punctuator → Piece
  Record : Piece

abbrev pub Test : List ℕ → Piece → Token → Type 0
Test text (Mark s) t = t.kind ≡ kinds.Punctuator s
Test text Record t = (t.kind ≡ kinds.Identifier)
    × (slice_range text t.start t.end ≡ codes "ExceptionRecord")

-- a token that passes a test, and others after it
pub record IsFirst (Passes : Token → Type 0) (Others : List Token → Type 0) (ts : List Token)
    : Type 0 where
  pub first : Token
  pub after_first : List Token
  pub split : ts ≡ first ∷ after_first
  pub passes : Passes first
  pub others : Others after_first

abbrev pub Form : List Piece → List ℕ → Field → List Token → List Token → Type 0
Form [] text field ts end = IsField text field ts end
Form (p ∷ ps) text field ts end = IsFirst (Test text p) (λ rest. Form ps text field rest end) ts

abbrev pub NoForm : List Piece → ℕ → List ℕ → List Token → Type 0
NoForm ps n text ts = (field : Field) (end : List Token) → Form ps text field ts end → ⊥

pub record HasForm (ps : List Piece) (n : ℕ) (text : List ℕ) (ts : List Token) : Type 0 where
  pub field : Field
  pub is : (other : List Token) → Form ps text field (ts ++ other) other

alike_head : (text text' : List ℕ) (t : Token) (ts rest : List Token) → ts ≡ t ∷ rest
    → Alike text text' ts → slice_range text t.start t.end ≡ slice_range text' t.start t.end
alike_head text text' t ts rest e a = (subst (λ (z : List Token). Alike text text' z) e a).0

test_again : (text text' : List ℕ) (p : Piece) (t : Token)
    → slice_range text t.start t.end ≡ slice_range text' t.start t.end → Test text p t
    → Test text' p t
test_again text text' (Mark s) t e h = h
test_again text text' Record t e h = (h.0, sym e ∙ h.1)

abbrev piece : (text : List ℕ) → Speaks text → Piece → Token
piece text k (Mark s) = punctuator_token s
piece text k Record = token kinds.Identifier k.of_record.start k.of_record.end

piece_is : (text : List ℕ) (k : Speaks text) (p : Piece) → Test text p (piece text k p)
piece_is text k (Mark s) = refl
piece_is text k Record = (refl, k.spells_record)

abbrev pub ends : (text : List ℕ) → Speaks text → List Piece → List Token
ends text k [] = token kinds.Identifier k.of_code.start k.of_code.end ∷ []
ends text k (p ∷ ps) = piece text k p ∷ ends text k ps

ends_are : (text : List ℕ) (k : Speaks text) (ps : List Piece) (other : List Token)
    → Form ps text fields.Code (ends text k ps ++ other) other
ends_are text k [] other = (k.of_code, refl, k.spells_code)
ends_are text k (p ∷ ps) other = record {
  first = piece text k p;
  after_first = ends text k ps ++ other;
  split = refl;
  passes = piece_is text k p;
  others = ends_are text k ps other;
}

gone : (p : Piece) (ps : List Piece) (text : List ℕ) (ts : List Token)
    → ((t : Token) (rest : List Token) → ts ≡ t ∷ rest → Test text p t → ⊥)
    → Failed 0 (place text ts) (NoForm (p ∷ ps)) (HasForm (p ∷ ps)) text ts
gone p ps text ts n =
    unexpected_at (NoForm (p ∷ ps)) (HasForm (p ∷ ps)) text ts [] ts refl
    (λ text' other a s field end f.
    let b = firsts.first_token f.first f.after_first ts other s f.split in
    let same = sym (alike_head text text' f.first ts b.0 b.1 a) in
    n f.first b.0 b.1 (test_again text' text p f.first same f.passes))
    (λ text' a k. record {
      more = ends text' k (p ∷ ps);
      has = record { field = fields.Code; is = ends_are text' k (p ∷ ps) };
    })

same_tail : (t u : Token) (xs ys : List Token) → t ∷ xs ≡ u ∷ ys → xs ≡ ys
same_tail t u xs ys e = cc

there : (p : Piece) (ps : List Piece) (text : List ℕ) (t : Token) (ts rest : List Token)
    → ts ≡ t ∷ rest → Test text p t → Wraps (NoForm ps) (HasForm ps) (NoForm (p ∷ ps))
    (HasForm (p ∷ ps)) text rest ts
there p ps text t ts rest e h = record {
  before = t ∷ [];
  split = e;
  no = λ n text' other a s x field end f. x field end
      (subst (λ (z : List Token). Form ps text' field z end)
      (sym (same_tail t f.first other f.after_first f.split)) f.others);
  has = λ n text' inner a k f. able_now (HasForm (p ∷ ps)) n text' (t ∷ inner)
      (record {
        field = f.field;
        is = λ other. record {
          first = t;
          after_first = inner ++ other;
          split = refl;
          passes = test_again text text' p t (alike_head text text' t ts rest e a) h;
          others = f.is other;
        };
      });
}

pub punctuator_gone : (s : Punctuator) (ps : List Piece) (text : List ℕ) (ts : List Token)
    → ((rest : List Token) → HasPunctuator s ts rest → ⊥)
    → Failed 0 (place text ts) (NoForm (Mark s ∷ ps)) (HasForm (Mark s ∷ ps)) text ts
punctuator_gone s ps text ts n = gone (Mark s) ps text ts
    (λ t rest e h. n rest (t.start, (t.end, e ∙ ap (λ z. token z t.start t.end ∷ rest) h)))

pub punctuator_there : (s : Punctuator) (ps : List Piece) (text : List ℕ) (ts rest : List Token)
    → HasPunctuator s ts rest → Wraps (NoForm ps) (HasForm ps) (NoForm (Mark s ∷ ps))
    (HasForm (Mark s ∷ ps)) text rest ts
punctuator_there s ps text ts rest h = there (Mark s) ps text (token (kinds.Punctuator s) h.0 h.1.0)
    ts rest h.1.1 refl

pub record_gone : (ps : List Piece) (text : List ℕ) (ts : List Token)
    → ((rest : List Token) → HasWord text (codes "ExceptionRecord") ts rest → ⊥)
    → Failed 0 (place text ts) (NoForm (Record ∷ ps)) (HasForm (Record ∷ ps)) text ts
record_gone ps text ts n = gone Record ps text ts
    (λ t rest e h. n rest (
      record { start = t.start; end = t.end },
      e
          ∙ ap (λ z. token z t.start t.end ∷ rest) h.0,
      h.1,
    ))

pub record_there : (ps : List Piece) (text : List ℕ) (ts rest : List Token)
    → HasWord text (codes "ExceptionRecord") ts rest
    → Wraps (NoForm ps) (HasForm ps) (NoForm (Record ∷ ps)) (HasForm (Record ∷ ps)) text rest ts
record_there ps text ts rest h = there Record ps text (token kinds.Identifier h.0.start h.0.end) ts
    rest h.1 (refl, h.2)

pub field_there : (text : List ℕ) (ts : List Token)
    → Wraps NoField HasField (NoForm []) (HasForm []) text ts ts
field_there text ts = record {
  before = [];
  split = refl;
  no = λ n text' other a s x. x;
  has = λ n text' inner a k h. able_now (HasForm []) n text' inner
      (record { field = h.field; is = h.is });
}

-- ---- the keyword before them

abbrev pub from_record : List Piece
from_record = Record ∷ Mark punctuators.Arrow ∷ []

abbrev pub from_arrow : List Piece
from_arrow = Mark punctuators.Arrow ∷ from_record

abbrev pub from_closing : List Piece
from_closing = Mark punctuators.CloseParenthesis ∷ from_arrow

abbrev pub introduction : List Piece
introduction = Mark punctuators.OpenParenthesis ∷ from_closing

formed_by : (s : Punctuator) (ps : List Piece) (text : List ℕ) (field : Field)
    (ts rest end : List Token)
    → HasPunctuator s ts rest → Form ps text field rest end → Form (Mark s ∷ ps) text field ts end
formed_by s ps text field ts rest end h f = record {
  first = token (kinds.Punctuator s) h.0 h.1.0;
  after_first = rest;
  split = h.1.1;
  passes = refl;
  others = f;
}

formed : (text : List ℕ) (at : ℕ) (field : Field) (ts end : List Token)
    → (h : SpellsExpression text (Information at field) ts end)
    → Form introduction text field h.introduction.after_keyword end
formed text at field ts end h =
    let i = h.introduction in
    let last = formed_by punctuators.Arrow [] text field i.after_record h.after_introduction end
    i.last_arrow h.field in
    let named : Form from_record text field i.after_arrow end = record {
      first = token kinds.Identifier i.of_record.0.start i.of_record.0.end;
      after_first = i.after_record;
      split = i.of_record.1;
      passes = (refl, i.of_record.2);
      others = last;
    } in
    let arrow = formed_by punctuators.Arrow from_record text field i.after_closing i.after_arrow end
    i.arrow named in
    let closing = formed_by punctuators.CloseParenthesis from_arrow text field i.after_opening
    i.after_closing end i.closing arrow in
    formed_by punctuators.OpenParenthesis from_closing text field i.after_keyword i.after_opening
    end
    i.opening closing

marked : (s : Punctuator) (t : Token) (ts rest : List Token) → ts ≡ t ∷ rest
    → t.kind ≡ kinds.Punctuator s → HasPunctuator s ts rest
marked s t ts rest e h = (t.start, (t.end, e ∙ ap (λ z. token z t.start t.end ∷ rest) h))

worded : (text : List ℕ) (t : Token) (ts rest : List Token) → ts ≡ t ∷ rest → Test text Record t
    → HasWord text (codes "ExceptionRecord") ts rest
worded text t ts rest e h = (
  record { start = t.start; end = t.end },
  e
      ∙ ap (λ z. token z t.start t.end ∷ rest) h.0,
  h.1,
)

spelled : (text : List ℕ) (at : ℕ) (field : Field) (ts a end : List Token)
    → IsKeyword keywords.GetExceptionInformation at ts a → Form introduction text field a end
    → SpellsExpression text (Information at field) ts end
spelled text at field ts a end k opening =
    let closing = opening.others in
    let arrow = closing.others in
    let of_record = arrow.others in
    let last_arrow = of_record.others in
    record {
      after_introduction = last_arrow.after_first;
      introduction = record {
        after_keyword = a;
        after_opening = opening.after_first;
        after_closing = closing.after_first;
        after_arrow = arrow.after_first;
        after_record = of_record.after_first;
        keyword = k;
        opening =
            marked punctuators.OpenParenthesis opening.first a opening.after_first opening.split
            opening.passes;
        closing =
            marked punctuators.CloseParenthesis closing.first opening.after_first
            closing.after_first
            closing.split closing.passes;
        arrow =
            marked punctuators.Arrow arrow.first closing.after_first arrow.after_first arrow.split
            arrow.passes;
        of_record =
            worded text of_record.first arrow.after_first of_record.after_first of_record.split
            of_record.passes;
        last_arrow =
            marked punctuators.Arrow last_arrow.first of_record.after_first last_arrow.after_first
            last_arrow.split last_arrow.passes;
      };
      field = last_arrow.others;
    }

pub keyword_gone : (text : List ℕ) (ts : List Token)
    → ((at : ℕ) (rest : List Token) → IsKeyword keywords.GetExceptionInformation at ts rest → ⊥)
    → Failed 0 (place text ts) NoInformation HasInformation text ts
keyword_gone text ts n =
    unexpected_at NoInformation HasInformation text ts [] ts refl
    (λ text' other a s at field end h. firsts.no_kind
    (kinds.Keyword keywords.GetExceptionInformation) ts other s n at h.introduction.after_keyword
    h.introduction.keyword)
    (λ text' a k. record {
      more = token (kinds.Keyword keywords.GetExceptionInformation) 0 0 ∷ ends text' k introduction;
      has = record {
        at = 0;
        field = fields.Code;
        spells = λ other.
            spelled text' 0 fields.Code (token (kinds.Keyword keywords.GetExceptionInformation) 0 0
            ∷ (ends text' k introduction ++ other)) (ends text' k introduction ++ other) other
            (0, refl) (ends_are text' k introduction other);
      };
    })

pub keyword_there : (text : List ℕ) (at : ℕ) (ts rest : List Token)
    → IsKeyword keywords.GetExceptionInformation at ts rest
    → Wraps (NoForm introduction) (HasForm introduction) NoInformation HasInformation text rest ts
keyword_there text at ts rest k =
    let word = token (kinds.Keyword keywords.GetExceptionInformation) at k.0 in
    record {
      before = word ∷ [];
      split = k.1;
      no = λ n text' other a s x to field end h.
          let i = h.introduction in
          let again = token (kinds.Keyword keywords.GetExceptionInformation) to i.keyword.0 in
          let same = same_tail word again other i.after_keyword i.keyword.1 in
          x field end
          (subst (λ (z : List Token). Form introduction text' field z end) (sym same)
          (formed text' to field (word ∷ other) end h));
      has = λ n text' inner a z f. able_now HasInformation n text' (word ∷ inner)
          (record {
            at = at;
            field = f.field;
            spells = λ other. spelled text' at f.field (word ∷ (inner ++ other)) (inner ++ other)
                other (k.0, refl) (f.is other);
          });
    }

-- the shortest reading, by which some expression begins with the keyword
pub has_information : (n : ℕ) (text : List ℕ) (k : Speaks text) (at end : ℕ)
    → HasInformation n text (token (kinds.Keyword keywords.GetExceptionInformation) at end
    ∷ ends text k introduction)
has_information n text k at end = record {
  at = at;
  field = fields.Code;
  spells = λ other.
      spelled text at fields.Code (token (kinds.Keyword keywords.GetExceptionInformation) at end
      ∷ (ends text k introduction ++ other)) (ends text k introduction ++ other) other (end, refl)
      (ends_are text k introduction other);
}

-- ---- fields

abbrev element : List ℕ
element = codes "ExceptionInformation"

none_again : (n : ℕ) (text text' : List ℕ) (ts other : List Token) → NoField 0 text ts
    → Alike text text' ts → SameFirst ts other → NoElement text' other → NoField n text' other
none_again n text text' ts other x a s e =
    no_field text' other
    (firsts.no_word (codes "ExceptionCode") text text' ts other a s (x fields.Code))
    (firsts.no_word (codes "ExceptionFlags") text text' ts other a s (x fields.Flags))
    (firsts.no_word (codes "NumberParameters") text text' ts other a s (x fields.Count))
    e

-- no field's name is at the front
pub nameless : (text : List ℕ) (ts : List Token) → NoField 0 text ts
    → ((rest : List Token) → HasWord text element ts rest → ⊥)
    → Failed 0 (place text ts) NoField HasField text ts
nameless text ts x n =
    unexpected_at NoField HasField text ts [] ts refl
    (λ text' other a s. none_again 0 text text' ts other x a s
    (no_element text' other (firsts.no_word element text text' ts other a s n)))
    (λ text' a k. record {
      more = ends text' k [];
      has = record { field = fields.Code; is = ends_are text' k [] };
    })

first_there : (t : Token) (ts rest other : List Token) → ts ≡ t ∷ rest → SameFirst ts (t ∷ other)
first_there t ts rest other e = subst (λ (z : List Token). SameFirst z (t ∷ other)) (sym e)
    (other, refl)

abbrev index_end : List Token
index_end = one ∷ punctuator_token punctuators.CloseBracket ∷ []

pub no_bracket_there : (text : List ℕ) (ts a : List Token) → NoField 0 text ts
    → HasWord text element ts a → ((rest : List Token)
    → HasPunctuator punctuators.OpenBracket a rest → ⊥)
    → Failed 0 (place text a) NoField HasField text ts
no_bracket_there text ts a x w n =
    let t = token kinds.Identifier w.0.start w.0.end in
    unexpected_at NoField HasField text ts (t ∷ []) a w.1
    (λ text' other l s.
    let v : HasWord text' element (t ∷ other)
    other = (w.0, refl, sym (alike_head text text' t ts a w.1 l) ∙ w.2) in
    none_again 0 text text' ts (t ∷ other) x l (first_there t ts a other w.1)
    (no_bracket text' (t ∷ other) other v (firsts.no_punctuator punctuators.OpenBracket a other s
    n)))
    (λ text' l k. record {
      more = punctuator_token punctuators.OpenBracket ∷ index_end;
      has = record {
        field = fields.Information 1 0;
        is = λ other. record {
          after_word = punctuator_token punctuators.OpenBracket ∷ (index_end ++ other);
          after_opening = index_end ++ other;
          after_index = punctuator_token punctuators.CloseBracket ∷ other;
          word = (w.0, refl, sym (alike_head text text' t ts a w.1 l) ∙ w.2);
          opening = (0, (0, refl));
          index = (integers.Int, (0, refl));
          closing = (0, (0, refl));
        };
      };
    })

pub no_index_there : (text : List ℕ) (ts a b : List Token) → NoField 0 text ts
    → HasWord text element ts a → HasPunctuator punctuators.OpenBracket a b
    → ((value at : ℕ) (rest : List Token) → IsInteger value at b rest → ⊥)
    → Failed 0 (place text b) NoField HasField text ts
no_index_there text ts a b x w h n =
    let t = token kinds.Identifier w.0.start w.0.end in
    let u = token (kinds.Punctuator punctuators.OpenBracket) h.0 h.1.0 in
    unexpected_at NoField HasField text ts (t ∷ u ∷ []) b
    (w.1 ∙ ap (λ (z : List Token). t ∷ z) h.1.1)
    (λ text' other l s.
    let v : HasWord text' element (t ∷ u ∷ other)
    (u ∷ other) = (w.0, refl, sym (alike_head text text' t ts a w.1 l) ∙ w.2) in
    none_again 0 text text' ts (t ∷ u ∷ other) x l (first_there t ts a (u ∷ other) w.1)
    (no_index text' (t ∷ u ∷ other) (u ∷ other) other v (h.0, (h.1.0, refl))
    (firsts.no_integer b other s n)))
    (λ text' l k. record {
      more = index_end;
      has = record {
        field = fields.Information 1 0;
        is = λ other. record {
          after_word = u ∷ (index_end ++ other);
          after_opening = index_end ++ other;
          after_index = punctuator_token punctuators.CloseBracket ∷ other;
          word = (w.0, refl, sym (alike_head text text' t ts a w.1 l) ∙ w.2);
          opening = (h.0, (h.1.0, refl));
          index = (integers.Int, (0, refl));
          closing = (0, (0, refl));
        };
      };
    })

pub no_close_there : (text : List ℕ) (ts a b c : List Token) (value at : ℕ) → NoField 0 text ts
    → HasWord text element ts a → HasPunctuator punctuators.OpenBracket a b → IsInteger value at b c
    → Failed 0 (place text c) NoField HasField text ts
no_close_there text ts a b c value at x w h i =
    let t = token kinds.Identifier w.0.start w.0.end in
    let u = token (kinds.Punctuator punctuators.OpenBracket) h.0 h.1.0 in
    let v = token (kinds.Integer value i.0) at i.1.0 in
    unexpected_at NoField HasField text ts (t ∷ u ∷ v ∷ []) c
    (w.1 ∙ ap (λ (z : List Token). t ∷ z) (h.1.1 ∙ ap (λ (z : List Token). u ∷ z) i.1.1))
    (λ text' other l s.
    let y : HasWord text' element (t ∷ u ∷ v ∷ other)
    (u ∷ v ∷ other) = (w.0, refl, sym (alike_head text text' t ts a w.1 l) ∙ w.2) in
    none_again 0 text text' ts (t ∷ u ∷ v ∷ other) x l (first_there t ts a (u ∷ v ∷ other) w.1)
    (no_close text' (t ∷ u ∷ v ∷ other) (u ∷ v ∷ other) (v ∷ other) other value at y
    (h.0, (h.1.0, refl)) (i.0, (i.1.0, refl))
    (firsts.no_punctuator punctuators.CloseBracket c other s
    (λ rest g. x (fields.Information value at) rest
    (record {
      after_word = a;
      after_opening = b;
      after_index = c;
      word = w;
      opening = h;
      index = i;
      closing = g;
    })))))
    (λ text' l k. record {
      more = punctuator_token punctuators.CloseBracket ∷ [];
      has = record {
        field = fields.Information value at;
        is = λ other. record {
          after_word = u ∷ v ∷ punctuator_token punctuators.CloseBracket ∷ other;
          after_opening = v ∷ punctuator_token punctuators.CloseBracket ∷ other;
          after_index = punctuator_token punctuators.CloseBracket ∷ other;
          word = (w.0, refl, sym (alike_head text text' t ts a w.1 l) ∙ w.2);
          opening = (h.0, (h.1.0, refl));
          index = (i.0, (i.1.0, refl));
          closing = (0, (0, refl));
        };
      };
    })
