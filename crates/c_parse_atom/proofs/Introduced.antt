-- Where `GetExceptionInformation()->ExceptionRecord->` can continue.
use Rattle.std.specs.Prelude.{IfNone, codes}
use Rattle.std.proofs.Common.{◌≡◌, ℕ, List, Option, Some, None, refl, sym, subst}
use Rattle.c_lex.specs.declared.keyword.Keyword.TheVariants as keywords
use Rattle.c_lex.specs.declared.punctuator.Punctuator.TheVariants as punctuators
use Rattle.c_lex.specs.declared.token.Kind.TheVariants as kinds
use Rattle.c_lex.specs.declared.token.Token.{Token}
use Rattle.c_syntax.specs.Expressions.{IsIntroduced}
use Rattle.c_syntax.specs.Tokens.{Phrase, IsKeyword, HasPunctuator, HasWord}
use Rattle.c_syntax.proofs.Fronts.{kind_same, has_same, name_same}

pub if_none : {A : Type 0} (P : Type 0) (o : Option A) → P → IfNone o P
if_none P None p = p
if_none P (Some x) p = tt

abbrev pub Nowhere : List ℕ → List Token → Type 0
Nowhere text ts = (at : ℕ) (rest : List Token) → IsIntroduced text at ts rest → ⊥

-- no phrase of the kind is at the front
abbrev pub Never : Phrase → List Token → Type 0
Never R ts = (rest : List Token) → R ts rest → ⊥

none_at : (R : Phrase) (x y rest : List Token) → Never R x → x ≡ y → R y rest → ⊥
none_at R x y rest n p h = n rest (subst (λ (z : List Token). R z rest) (sym p) h)

-- ---- what was read is the front of every introduction that is there

abbrev pub AfterKeyword : List ℕ → List Token → List Token → Type 0
AfterKeyword text ts x =
    (at : ℕ) (rest : List Token) (h : IsIntroduced text at ts rest) → x ≡ h.after_keyword

abbrev pub AfterOpening : List ℕ → List Token → List Token → Type 0
AfterOpening text ts x =
    (at : ℕ) (rest : List Token) (h : IsIntroduced text at ts rest) → x ≡ h.after_opening

abbrev pub AfterClosing : List ℕ → List Token → List Token → Type 0
AfterClosing text ts x =
    (at : ℕ) (rest : List Token) (h : IsIntroduced text at ts rest) → x ≡ h.after_closing

abbrev pub AfterArrow : List ℕ → List Token → List Token → Type 0
AfterArrow text ts x =
    (at : ℕ) (rest : List Token) (h : IsIntroduced text at ts rest) → x ≡ h.after_arrow

abbrev pub AfterRecord : List ℕ → List Token → List Token → Type 0
AfterRecord text ts x =
    (at : ℕ) (rest : List Token) (h : IsIntroduced text at ts rest) → x ≡ h.after_record

pub after_keyword : (text : List ℕ) (ts x : List Token) (at : ℕ)
    → IsKeyword keywords.GetExceptionInformation at ts x → AfterKeyword text ts x
after_keyword text ts x at g to rest h =
    let word = kinds.Keyword keywords.GetExceptionInformation in
    (kind_same word word at to ts ts x h.after_keyword refl g h.keyword).2

pub after_opening : (text : List ℕ) (ts x y : List Token) → AfterKeyword text ts x
    → HasPunctuator punctuators.OpenParenthesis x y → AfterOpening text ts y
after_opening text ts x y p g to rest h =
    has_same punctuators.OpenParenthesis x h.after_keyword y h.after_opening (p to rest h) g
    h.opening

pub after_closing : (text : List ℕ) (ts x y : List Token) → AfterOpening text ts x
    → HasPunctuator punctuators.CloseParenthesis x y → AfterClosing text ts y
after_closing text ts x y p g to rest h =
    has_same punctuators.CloseParenthesis x h.after_opening y h.after_closing (p to rest h) g
    h.closing

pub after_arrow : (text : List ℕ) (ts x y : List Token) → AfterClosing text ts x
    → HasPunctuator punctuators.Arrow x y → AfterArrow text ts y
after_arrow text ts x y p g to rest h =
    has_same punctuators.Arrow x h.after_closing y h.after_arrow (p to rest h) g h.arrow

pub after_record : (text : List ℕ) (ts x y : List Token) → AfterArrow text ts x
    → HasWord text (codes "ExceptionRecord") x y → AfterRecord text ts y
after_record text ts x y p g to rest h =
    let r = h.of_record in
    (name_same g.0 r.0 x h.after_arrow y h.after_record (p to rest h) g.1 r.1).1

-- ---- where the next token is none of an introduction

pub no_opening : (text : List ℕ) (ts x : List Token) → AfterKeyword text ts x
    → Never (HasPunctuator punctuators.OpenParenthesis) x → Nowhere text ts
no_opening text ts x p n to rest h =
    none_at (HasPunctuator punctuators.OpenParenthesis) x h.after_keyword h.after_opening n
    (p to rest h) h.opening

pub no_closing : (text : List ℕ) (ts x : List Token) → AfterOpening text ts x
    → Never (HasPunctuator punctuators.CloseParenthesis) x → Nowhere text ts
no_closing text ts x p n to rest h =
    none_at (HasPunctuator punctuators.CloseParenthesis) x h.after_opening h.after_closing n
    (p to rest h) h.closing

pub no_arrow : (text : List ℕ) (ts x : List Token) → AfterClosing text ts x
    → Never (HasPunctuator punctuators.Arrow) x → Nowhere text ts
no_arrow text ts x p n to rest h =
    none_at (HasPunctuator punctuators.Arrow) x h.after_closing h.after_arrow n (p to rest h)
    h.arrow

pub no_record : (text : List ℕ) (ts x : List Token) → AfterArrow text ts x
    → Never (HasWord text (codes "ExceptionRecord")) x → Nowhere text ts
no_record text ts x p n to rest h =
    none_at (HasWord text (codes "ExceptionRecord")) x h.after_arrow h.after_record n (p to rest h)
    h.of_record

pub no_last_arrow : (text : List ℕ) (ts x : List Token) → AfterRecord text ts x
    → Never (HasPunctuator punctuators.Arrow) x → Nowhere text ts
no_last_arrow text ts x p n to rest h =
    none_at (HasPunctuator punctuators.Arrow) x h.after_record rest n (p to rest h) h.last_arrow

-- introductions of the same tokens end at the same place
pub introduced_once : (text : List ℕ) (ts x rest : List Token) (place at : ℕ)
    → IsIntroduced text place ts x → IsIntroduced text at ts rest → x ≡ rest
introduced_once text ts x rest place at i h =
    let keyword = after_keyword text ts i.after_keyword place i.keyword in
    let opening = after_opening text ts i.after_keyword i.after_opening keyword i.opening in
    let closing = after_closing text ts i.after_opening i.after_closing opening i.closing in
    let arrow = after_arrow text ts i.after_closing i.after_arrow closing i.arrow in
    let of_record = after_record text ts i.after_arrow i.after_record arrow i.of_record in
    has_same punctuators.Arrow i.after_record h.after_record x rest (of_record at rest h)
    i.last_arrow h.last_arrow
