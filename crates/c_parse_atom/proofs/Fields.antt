-- Where fields of the exception's record can continue.
use Rattle.std.specs.Prelude.{codes}
use Rattle.std.proofs.Common.{◌≡◌, ℕ, List, refl, sym, subst}
use Rattle.c_lex.specs.declared.punctuator.Punctuator.TheVariants as punctuators
use Rattle.c_lex.specs.declared.token.Token.{Token}
use Rattle.c_syntax.specs.declared.expression.Field.{Field}
use Rattle.c_syntax.specs.declared.expression.Field.TheVariants as fields
use Rattle.c_syntax.specs.Expression.{Information}
use Rattle.c_syntax.specs.Expressions.{IsInteger, IsElement, IsIntroduced, IsField}
use Rattle.c_syntax.specs.Expressions.{SpellsExpression}
use Rattle.c_syntax.specs.Tokens.{HasPunctuator, HasWord}
use Rattle.c_syntax.proofs.Fronts.{has_same, name_same}
use Rattle.c_syntax.proofs.Once.{integer_same}
use Rattle.c_parse_atom.proofs.Introduced.{Never, Nowhere, introduced_once}

abbrev pub NoWord : List ℕ → List ℕ → List Token → Type 0
NoWord text word ts = Never (HasWord text word) ts

abbrev pub NoField : List ℕ → List Token → Type 0
NoField text ts = (field : Field) (rest : List Token) → IsField text field ts rest → ⊥

abbrev pub NoElement : List ℕ → List Token → Type 0
NoElement text ts = (index at : ℕ) → Never (IsElement text index at) ts

pub no_field : (text : List ℕ) (ts : List Token) → NoWord text (codes "ExceptionCode") ts
    → NoWord text (codes "ExceptionFlags") ts → NoWord text (codes "NumberParameters") ts
    → NoElement text ts → NoField text ts
no_field text ts a b c d fields.Code rest h = a rest h
no_field text ts a b c d fields.Flags rest h = b rest h
no_field text ts a b c d fields.Count rest h = c rest h
no_field text ts a b c d (fields.Information index at) rest h = d index at rest h

word_same : (text word : List ℕ) (ts rest end : List Token) → HasWord text word ts rest
    → HasWord text word ts end → rest ≡ end
word_same text word ts rest end h g = (name_same h.0 g.0 ts ts rest end refl h.1 g.1).1

abbrev IsElementWord : List ℕ → List Token → List Token → Type 0
IsElementWord text ts rest = HasWord text (codes "ExceptionInformation") ts rest

pub no_element : (text : List ℕ) (ts : List Token) → NoWord text (codes "ExceptionInformation") ts
    → NoElement text ts
no_element text ts n index at rest h = n h.after_word h.word

after_word : (text : List ℕ) (ts x : List Token) (index at : ℕ) (rest : List Token)
    (h : IsElement text index at ts rest) → IsElementWord text ts x → x ≡ h.after_word
after_word text ts x index at rest h w =
    word_same text (codes "ExceptionInformation") ts x h.after_word w h.word

pub no_bracket : (text : List ℕ) (ts x : List Token)
    → HasWord text (codes "ExceptionInformation") ts x
    → Never (HasPunctuator punctuators.OpenBracket) x → NoElement text ts
no_bracket text ts x w n index at rest h =
    n h.after_opening
    (subst (λ (z : List Token). HasPunctuator punctuators.OpenBracket z h.after_opening)
    (sym (after_word text ts x index at rest h w)) h.opening)

after_bracket : (text : List ℕ) (ts x y : List Token) (index at : ℕ) (rest : List Token)
    (h : IsElement text index at ts rest) → IsElementWord text ts x
    → HasPunctuator punctuators.OpenBracket x y → y ≡ h.after_opening
after_bracket text ts x y index at rest h w b =
    has_same punctuators.OpenBracket x h.after_word y h.after_opening
    (after_word text ts x index at rest h w) b h.opening

pub no_index : (text : List ℕ) (ts x y : List Token)
    → HasWord text (codes "ExceptionInformation") ts x → HasPunctuator punctuators.OpenBracket x y
    → ((value at : ℕ) → Never (IsInteger value at) y) → NoElement text ts
no_index text ts x y w b n index at rest h =
    n index at h.after_index
    (subst (λ (z : List Token). IsInteger index at z h.after_index)
    (sym (after_bracket text ts x y index at rest h w b)) h.index)

pub no_close : (text : List ℕ) (ts x y z : List Token) (value place : ℕ)
    → HasWord text (codes "ExceptionInformation") ts x → HasPunctuator punctuators.OpenBracket x y
    → IsInteger value place y z → Never (HasPunctuator punctuators.CloseBracket) z
    → NoElement text ts
no_close text ts x y z value place w b i n index at rest h =
    let p = after_bracket text ts x y index at rest h w b in
    let q = integer_same value index place at y h.after_opening z h.after_index p i h.index in
    n rest
    (subst (λ (v : List Token). HasPunctuator punctuators.CloseBracket v rest) (sym q.2) h.closing)

-- ---- the whole

abbrev pub NoInformation : List ℕ → List Token → Type 0
NoInformation text ts =
    (at : ℕ) (field : Field) → Never (SpellsExpression text (Information at field)) ts

pub whole : (text : List ℕ) (at : ℕ) (field : Field) (ts x rest : List Token)
    → IsIntroduced text at ts x → IsField text field x rest
    → SpellsExpression text (Information at field) ts rest
whole text at field ts x rest i f =
    record { after_introduction = x; introduction = i; field = f }

pub not_introduced : (text : List ℕ) (ts : List Token) → Nowhere text ts → NoInformation text ts
not_introduced text ts n at field rest h = n at h.after_introduction h.introduction

pub not_a_field : (text : List ℕ) (ts x : List Token) (place : ℕ) → IsIntroduced text place ts x
    → NoField text x → NoInformation text ts
not_a_field text ts x place i n at field rest h =
    let p = introduced_once text ts x h.after_introduction place at i h.introduction in
    n field rest (subst (λ (z : List Token). IsField text field z rest) (sym p) h.field)
