-- There is one tree at most for an expression that stops.
use Rattle.std.proofs.Common.{◌≡◌, ◌≤◌, ℕ, zero, suc, List, codes, slice_range, length, refl, sym}
use Rattle.std.proofs.Common.{ap, ◌∙◌, subst, arith}
use Rattle.c_lex.specs.declared.keyword.Keyword.TheVariants as keywords
use Rattle.c_syntax.specs.Words.{Punctuator, Token, UnaryOperator, Increment, CType, Field, Literal, Identifier, Expression, Constant, Variable, Information, Call, Parentheses, Index, Postfix, Prefix, Unary, Cast, Binary, Conditional, Assign, Comma, Arguments, Done, Next, height, heights, literal_kind, IsInteger, IsField, SpellsExpression, SpellsArguments, SpellsMoreArguments, Derives, follows, Stops, OneExpression, primary, unary, cast, assignment, comma, unary_punctuator, increment_punctuator, HasPunctuator, HasWord, Run, IsOperandAlone, Closes}
use Rattle.c_lex.specs.declared.punctuator.Punctuator.TheVariants as punctuators
use Rattle.c_lex.specs.declared.token.Kind.TheVariants as kinds
use Rattle.c_syntax.specs.declared.expression.Field.TheVariants as fields
use Rattle.c_syntax.specs.declared.expression.Literal.TheVariants as literals
use Rattle.c_syntax.proofs.Spine.{spine, follows_punctuator, closes, run_reach, run_height}
use Rattle.c_syntax.proofs.Fronts.{kind_same, punctuator_same, has_same, name_same, same_unary}
use Rattle.c_syntax.proofs.Fronts.{same_increment, punctuator_class, kind_class, front}
use Rattle.c_syntax.proofs.Fronts.{increment_class, unary_class, base_front, type_once, close_type}
use Rattle.c_syntax.proofs.Fronts.{close_star}
pub use Rattle.c_syntax.proofs.OneStep.{Below, rank_low, has_stops, same_tail}
use Rattle.c_syntax.proofs.OneStep.{part, whole, same_run}

-- ---- the first token

abbrev head_class : Expression → ℕ
head_class (Constant at literal) = 2
head_class (Information at field) = 1
head_class (Parentheses at e) = 3
head_class (Prefix at op e) = 4
head_class (Unary at op e) = 5
head_class (Cast at to e) = 3
head_class e = 0

literal_class : (literal : Literal) → kind_class (literal_kind literal) ≡ 2
literal_class (literals.Integer value type) = refl
literal_class (literals.CharacterConstant value) = refl

pub head_front : (text : List ℕ) (e : Expression) (ts rest : List Token) → IsOperandAlone e
    → SpellsExpression text e ts rest → front ts ≡ head_class e
head_front text (Constant at literal) ts rest i h = ap front h.1 ∙ literal_class literal
head_front text (Variable name) ts rest i h = ap front h
head_front text (Information at field) ts rest i h = ap front h.introduction.keyword.1
head_front text (Call name es) ts rest i h = ap front h.called
head_front text (Parentheses at e) ts rest i h = ap front h.opening.1
head_front text (Prefix at op e) ts rest i h = ap front h.operator.1 ∙ increment_class op
head_front text (Unary at op e) ts rest i h = ap front h.operator.1 ∙ unary_class op
head_front text (Cast at to e) ts rest i h = ap front h.operator.opening.1
head_front text e ts rest i h = absurd i

class_low : (e : Expression) → head_class e ≤ 5
class_low (Constant at literal) = omega arith
class_low e = omega arith

pub expression_front : (text : List ℕ) (e : Expression) (ts rest : List Token)
    → SpellsExpression text e ts rest → front ts ≤ 5
expression_front text e ts rest h =
    let c = spine text e ts rest h in
    let p = head_front text c.head ts c.after c.is_head c.spells in
    let q = class_low c.head in omega arith

pub has_front : (s : Punctuator) (ts rest : List Token) → HasPunctuator s ts rest
    → front ts ≡ punctuator_class s
has_front s ts rest (at, (last, split)) = ap front split

-- ---- arguments

more_stops : (text : List ℕ) (es : Arguments) (ts rest : List Token)
    → SpellsMoreArguments text es ts rest → Stops assignment ts
more_stops text Done ts rest h =
    has_stops punctuators.CloseParenthesis ts rest assignment h (omega arith)
more_stops text (Next e es) ts rest h =
    has_stops punctuators.Comma ts h.after_comma assignment h.comma (omega arith)

other_punctuator : (s z : Punctuator) (ts us rest end : List Token) → ts ≡ us
    → HasPunctuator s ts rest → HasPunctuator z us end → s ≡ z
other_punctuator s z ts us rest end p h g = (punctuator_same s z h.0 g.0 ts us rest end p h.1 g.1).0

more_once : (text : List ℕ) (n : ℕ) (es fs : Arguments) (ts us rest end : List Token) → Below text n
    → ts ≡ us → heights es ≤ n → SpellsMoreArguments text es ts rest
    → SpellsMoreArguments text fs us end → (es ≡ fs) × (rest ≡ end)
more_once text n Done Done ts us rest end u p low h g =
    (refl, has_same punctuators.CloseParenthesis ts us rest end p h g)
more_once text n Done (Next f fs) ts us rest end u p low h g =
    let e : punctuators.CloseParenthesis ≡ punctuators.Comma = other_punctuator
    punctuators.CloseParenthesis punctuators.Comma ts us rest g.after_comma p h g.comma in
    absurd cc
more_once text n (Next e es) Done ts us rest end u p low h g =
    let e : punctuators.Comma ≡ punctuators.CloseParenthesis = other_punctuator punctuators.Comma
    punctuators.CloseParenthesis ts us h.after_comma end p h.comma g in
    absurd cc
more_once text n (Next e es) (Next f fs) ts us rest end u p low h g =
    let a = has_same punctuators.Comma ts us h.after_comma g.after_comma p h.comma g.comma in
    let b = part text n assignment e f h.after_comma g.after_comma h.after_element g.after_element u
    a
    (omega arith) h.element g.element (more_stops text es h.after_element rest h.others)
    (more_stops text fs g.after_element end g.others) in
    let c = more_once text n es fs h.after_element g.after_element rest end u b.1
    (omega arith) h.others
    g.others in
    (ap (λ (x : Expression). Next x es) b.0 ∙ ap (λ (x : Arguments). Next f x) c.0, c.1)

arguments_once : (text : List ℕ) (n : ℕ) (es fs : Arguments) (ts us rest end : List Token)
    → Below text n → ts ≡ us → heights es ≤ n → SpellsArguments text es ts rest
    → SpellsArguments text fs us end → (es ≡ fs) × (rest ≡ end)
arguments_once text n Done Done ts us rest end u p low h g =
    (refl, has_same punctuators.CloseParenthesis ts us rest end p h g)
arguments_once text n Done (Next f fs) ts us rest end u p low h g =
    let a = has_front punctuators.CloseParenthesis ts rest h in
    let b = expression_front text f us g.after_first g.first.spells in
    let c = ap front p in absurd (omega arith)
arguments_once text n (Next e es) Done ts us rest end u p low h g =
    let a = has_front punctuators.CloseParenthesis us end g in
    let b = expression_front text e ts h.after_first h.first.spells in
    let c = ap front p in absurd (omega arith)
arguments_once text n (Next e es) (Next f fs) ts us rest end u p low h g =
    let b = part text n assignment e f ts us h.after_first g.after_first u p (omega arith) h.first
    g.first (more_stops text es h.after_first rest h.others)
    (more_stops text fs g.after_first end g.others) in
    let c = more_once text n es fs h.after_first g.after_first rest end u b.1 (omega arith) h.others
    g.others in
    (ap (λ (x : Expression). Next x es) b.0 ∙ ap (λ (x : Arguments). Next f x) c.0, c.1)

-- ---- fields and literals

pub literal_same : (a b : Literal) → literal_kind a ≡ literal_kind b → a ≡ b
literal_same (literals.Integer v t) (literals.Integer w u) e = cc
literal_same (literals.Integer v t) (literals.CharacterConstant w) e = absurd cc
literal_same (literals.CharacterConstant v) (literals.Integer w u) e = absurd cc
literal_same (literals.CharacterConstant v) (literals.CharacterConstant w) e = cc

word_same : (text a b : List ℕ) (ts us rest end : List Token) → ts ≡ us → HasWord text a ts rest
    → HasWord text b us end → (a ≡ b) × (rest ≡ end)
word_same text a b ts us rest end p h g =
    let q = name_same h.0 g.0 ts us rest end p h.1 g.1 in
    (sym h.2 ∙ ap (λ (x : Identifier). slice_range text x.start x.end) q.0 ∙ g.2, q.1)

pub integer_same : (v w at to : ℕ) (ts us rest end : List Token) → ts ≡ us → IsInteger v at ts rest
    → IsInteger w to us end → (v ≡ w) × (at ≡ to) × (rest ≡ end)
integer_same v w at to ts us rest end p h g =
    let q = kind_same (kinds.Integer v h.0) (kinds.Integer w g.0) at to ts us rest end p h.1 g.1 in
    let e : kinds.Integer v h.0 ≡ kinds.Integer w g.0 = q.0 in
    let f : v ≡ w = cc in
    (f, q.1, q.2)

field_once : (text : List ℕ) (a b : Field) (ts us rest end : List Token) → ts ≡ us
    → IsField text a ts rest → IsField text b us end → (a ≡ b) × (rest ≡ end)
field_once text fields.Code fields.Code ts us rest end p h g =
    (refl, (word_same text (codes "ExceptionCode") (codes "ExceptionCode") ts us rest end p h g).1)
field_once text fields.Code fields.Flags ts us rest end p h g =
    let e : codes "ExceptionCode" ≡ codes "ExceptionFlags" =
    (word_same text (codes "ExceptionCode") (codes "ExceptionFlags") ts us rest end p h g).0 in
    let q = ap length e in absurd (omega arith)
field_once text fields.Code fields.Count ts us rest end p h g =
    let e : codes "ExceptionCode" ≡ codes "NumberParameters" =
    (word_same text (codes "ExceptionCode") (codes "NumberParameters") ts us rest end p h g).0 in
    let q = ap length e in absurd (omega arith)
field_once text fields.Code (fields.Information number to) ts us rest end p h g =
    let e : codes "ExceptionCode" ≡ codes "ExceptionInformation" =
    (word_same text (codes "ExceptionCode") (codes "ExceptionInformation") ts us rest
    g.after_word p h g.word).0 in
    let q = ap length e in
    absurd (omega arith)
field_once text fields.Flags fields.Code ts us rest end p h g =
    let e : codes "ExceptionFlags" ≡ codes "ExceptionCode" =
    (word_same text (codes "ExceptionFlags") (codes "ExceptionCode") ts us rest end p h g).0 in
    let q = ap length e in absurd (omega arith)
field_once text fields.Flags fields.Flags ts us rest end p h g = (
  refl,
  (word_same text (codes "ExceptionFlags") (codes "ExceptionFlags") ts us rest end p h
      g).1,
)
field_once text fields.Flags fields.Count ts us rest end p h g =
    let e : codes "ExceptionFlags" ≡ codes "NumberParameters" =
    (word_same text (codes "ExceptionFlags") (codes "NumberParameters") ts us rest end p h g).0 in
    let q = ap length e in absurd (omega arith)
field_once text fields.Flags (fields.Information number to) ts us rest end p h g =
    let e : codes "ExceptionFlags" ≡ codes "ExceptionInformation" =
    (word_same text (codes "ExceptionFlags") (codes "ExceptionInformation") ts us rest
    g.after_word p h g.word).0 in
    let q = ap length e in
    absurd (omega arith)
field_once text fields.Count fields.Code ts us rest end p h g =
    let e : codes "NumberParameters" ≡ codes "ExceptionCode" =
    (word_same text (codes "NumberParameters") (codes "ExceptionCode") ts us rest end p h g).0 in
    let q = ap length e in absurd (omega arith)
field_once text fields.Count fields.Flags ts us rest end p h g =
    let e : codes "NumberParameters" ≡ codes "ExceptionFlags" =
    (word_same text (codes "NumberParameters") (codes "ExceptionFlags") ts us rest end p h g).0 in
    let q = ap length e in absurd (omega arith)
field_once text fields.Count fields.Count ts us rest end p h g = (
  refl,
  (word_same text (codes "NumberParameters") (codes "NumberParameters") ts us rest end p h
      g).1,
)
field_once text fields.Count (fields.Information number to) ts us rest end p h g =
    let e : codes "NumberParameters" ≡ codes "ExceptionInformation" =
    (word_same text (codes "NumberParameters") (codes "ExceptionInformation") ts us rest
    g.after_word p h g.word).0 in
    let q = ap length e in
    absurd (omega arith)
field_once text (fields.Information index at) fields.Code ts us rest end p h g =
    let e : codes "ExceptionInformation" ≡ codes "ExceptionCode" =
    (word_same text (codes "ExceptionInformation") (codes "ExceptionCode") ts us h.after_word
    end p h.word g).0 in
    let q = ap length e in
    absurd (omega arith)
field_once text (fields.Information index at) fields.Flags ts us rest end p h g =
    let e : codes "ExceptionInformation" ≡ codes "ExceptionFlags" =
    (word_same text (codes "ExceptionInformation") (codes "ExceptionFlags") ts us h.after_word
    end p h.word g).0 in
    let q = ap length e in
    absurd (omega arith)
field_once text (fields.Information index at) fields.Count ts us rest end p h g =
    let e : codes "ExceptionInformation" ≡ codes "NumberParameters" =
    (word_same text (codes "ExceptionInformation") (codes "NumberParameters") ts us h.after_word
    end p h.word g).0 in
    let q = ap length e in
    absurd (omega arith)
field_once text (fields.Information index at) (fields.Information number to) ts us rest end p h g =
    let a = word_same text (codes "ExceptionInformation") (codes "ExceptionInformation") ts us
    h.after_word g.after_word p h.word g.word in
    let b = has_same punctuators.OpenBracket h.after_word g.after_word h.after_opening
    g.after_opening a.1 h.opening g.opening in
    let c = integer_same index number at to h.after_opening g.after_opening h.after_index
    g.after_index b h.index g.index in (
      ap (λ (x : ℕ). fields.Information x at) c.0 ∙ ap (λ (x : ℕ). fields.Information number x) c.1,
      has_same punctuators.CloseBracket h.after_index g.after_index rest end c.2 h.closing
          g.closing,
    )

-- ---- first operands

pub same_head : (text : List ℕ) (n : ℕ) (e f : Expression) (ts rest end : List Token) → Below text n
    → height e ≤ n → IsOperandAlone e → IsOperandAlone f → Closes e rest → Closes f end
    → SpellsExpression text e ts rest → SpellsExpression text f ts end → (e ≡ f) × (rest ≡ end)
same_head text n (Constant at literal) (Constant at' literal') ts rest end u low k m r z h g =
    let a = kind_same (literal_kind literal) (literal_kind literal') at at' ts ts rest end refl h
    g in (
      ap (λ (x : ℕ). Constant x literal) a.1 ∙ ap (λ (x : Literal). Constant at' x)
          (literal_same literal literal' a.0),
      a.2,
    )
same_head text n (Constant at literal) (Index v vt w) ts rest end u low k m r z h g = absurd m
same_head text n (Constant at literal) (Postfix v op2 vt) ts rest end u low k m r z h g = absurd m
same_head text n (Constant at literal) (Binary v vt op2 w) ts rest end u low k m r z h g = absurd m
same_head text n (Constant at literal) (Conditional y vt v w) ts rest end u low k m r z h g =
    absurd m
same_head text n (Constant at literal) (Assign v vt op2 w) ts rest end u low k m r z h g = absurd m
same_head text n (Constant at literal) (Comma v vt w) ts rest end u low k m r z h g = absurd m
same_head text n (Variable name) (Variable name') ts rest end u low k m r z h g =
    let a = name_same name name' ts ts rest end refl h g in
    (ap (λ (x : Identifier). Variable x) a.0, a.1)
same_head text n (Variable name) (Call name' es') ts rest end u low k m r z h g =
    let a = name_same name name' ts ts rest g.after_name refl h g.called in
    let b = follows_punctuator punctuators.OpenParenthesis g.opening.0 g.after_name g.after_opening
    primary g.opening.1 refl in
    let c = ap follows a.1 in
    absurd (omega arith)
same_head text n (Variable name) (Index v vt w) ts rest end u low k m r z h g = absurd m
same_head text n (Variable name) (Postfix v op2 vt) ts rest end u low k m r z h g = absurd m
same_head text n (Variable name) (Binary v vt op2 w) ts rest end u low k m r z h g = absurd m
same_head text n (Variable name) (Conditional y vt v w) ts rest end u low k m r z h g = absurd m
same_head text n (Variable name) (Assign v vt op2 w) ts rest end u low k m r z h g = absurd m
same_head text n (Variable name) (Comma v vt w) ts rest end u low k m r z h g = absurd m
same_head text n (Information at field) (Information at' field') ts rest end u low k m r z h g =
    let k = kind_same (kinds.Keyword keywords.GetExceptionInformation)
    (kinds.Keyword keywords.GetExceptionInformation) at at' ts ts h.introduction.after_keyword
    g.introduction.after_keyword refl h.introduction.keyword g.introduction.keyword in
    let b = has_same punctuators.OpenParenthesis h.introduction.after_keyword
    g.introduction.after_keyword h.introduction.after_opening g.introduction.after_opening k.2
    h.introduction.opening g.introduction.opening in
    let c = has_same punctuators.CloseParenthesis h.introduction.after_opening
    g.introduction.after_opening h.introduction.after_closing g.introduction.after_closing b
    h.introduction.closing g.introduction.closing in
    let d = has_same punctuators.Arrow h.introduction.after_closing g.introduction.after_closing
    h.introduction.after_arrow g.introduction.after_arrow c h.introduction.arrow
    g.introduction.arrow in
    let w = word_same text (codes "ExceptionRecord") (codes "ExceptionRecord")
    h.introduction.after_arrow g.introduction.after_arrow h.introduction.after_record
    g.introduction.after_record d h.introduction.of_record g.introduction.of_record in
    let v = has_same punctuators.Arrow h.introduction.after_record g.introduction.after_record
    h.after_introduction g.after_introduction w.1 h.introduction.last_arrow
    g.introduction.last_arrow in
    let q = field_once text field field' h.after_introduction g.after_introduction rest end v
    h.field g.field in
    (ap (λ (x : ℕ). Information x field) k.1 ∙ ap (λ (x : Field). Information at' x) q.0, q.1)
same_head text n (Information at field) (Index v vt w) ts rest end u low k m r z h g = absurd m
same_head text n (Information at field) (Postfix v op2 vt) ts rest end u low k m r z h g = absurd m
same_head text n (Information at field) (Binary v vt op2 w) ts rest end u low k m r z h g = absurd m
same_head text n (Information at field) (Conditional y vt v w) ts rest end u low k m r z h g =
    absurd m
same_head text n (Information at field) (Assign v vt op2 w) ts rest end u low k m r z h g = absurd m
same_head text n (Information at field) (Comma v vt w) ts rest end u low k m r z h g = absurd m
same_head text n (Call name es) (Variable name') ts rest end u low k m r z h g =
    let a = name_same name name' ts ts h.after_name end refl h.called g in
    let b = follows_punctuator punctuators.OpenParenthesis h.opening.0 h.after_name h.after_opening
    primary h.opening.1 refl in
    let c = ap follows a.1 in
    absurd (omega arith)
same_head text n (Call name es) (Call name' es') ts rest end u low k m r z h g =
    let a = name_same name name' ts ts h.after_name g.after_name refl h.called g.called in
    let b = has_same punctuators.OpenParenthesis h.after_name g.after_name h.after_opening
    g.after_opening a.1 h.opening g.opening in
    let c = arguments_once text n es es' h.after_opening g.after_opening rest end u b low
    h.arguments g.arguments in
    (ap (λ (x : Identifier). Call x es) a.0 ∙ ap (λ (x : Arguments). Call name' x) c.0, c.1)
same_head text n (Call name es) (Index v vt w) ts rest end u low k m r z h g = absurd m
same_head text n (Call name es) (Postfix v op2 vt) ts rest end u low k m r z h g = absurd m
same_head text n (Call name es) (Binary v vt op2 w) ts rest end u low k m r z h g = absurd m
same_head text n (Call name es) (Conditional y vt v w) ts rest end u low k m r z h g = absurd m
same_head text n (Call name es) (Assign v vt op2 w) ts rest end u low k m r z h g = absurd m
same_head text n (Call name es) (Comma v vt w) ts rest end u low k m r z h g = absurd m
same_head text n (Parentheses at e) (Parentheses at' e') ts rest end u low k m r z h g =
    let a = punctuator_same punctuators.OpenParenthesis punctuators.OpenParenthesis at at' ts ts
    h.after_opening g.after_opening refl h.opening g.opening in
    let b = whole text n e e' h.after_opening g.after_opening h.after_inner g.after_inner u a.2
    (omega arith) h.inner g.inner
    (has_stops punctuators.CloseParenthesis h.after_inner rest comma h.closing (omega arith))
    (has_stops punctuators.CloseParenthesis g.after_inner end comma g.closing (omega arith)) in (
      ap (λ (x : ℕ). Parentheses x e) a.1 ∙ ap (λ (x : Expression). Parentheses at' x) b.0,
      has_same punctuators.CloseParenthesis h.after_inner g.after_inner rest end b.1 h.closing
          g.closing,
    )
same_head text n (Parentheses at e) (Cast at' to' e') ts rest end u low k m r z h g =
    let a = punctuator_same punctuators.OpenParenthesis punctuators.OpenParenthesis at at' ts ts
    h.after_opening g.operator.after_opening refl h.opening g.operator.opening in
    let b = expression_front text e h.after_opening h.after_inner h.inner in
    let c = base_front to'.base g.operator.after_opening g.operator.inner.0 g.operator.inner.1 in
    let d = ap front a.2 in
    absurd (omega arith)
same_head text n (Parentheses at e) (Index v vt w) ts rest end u low k m r z h g = absurd m
same_head text n (Parentheses at e) (Postfix v op2 vt) ts rest end u low k m r z h g = absurd m
same_head text n (Parentheses at e) (Binary v vt op2 w) ts rest end u low k m r z h g = absurd m
same_head text n (Parentheses at e) (Conditional y vt v w) ts rest end u low k m r z h g = absurd m
same_head text n (Parentheses at e) (Assign v vt op2 w) ts rest end u low k m r z h g = absurd m
same_head text n (Parentheses at e) (Comma v vt w) ts rest end u low k m r z h g = absurd m
same_head text n (Prefix at op e) (Prefix at' op' e') ts rest end u low k m r z h g =
    let a = punctuator_same (increment_punctuator op) (increment_punctuator op') at at' ts ts
    h.after_operator g.after_operator refl h.operator g.operator in
    let b = part text n unary e e' h.after_operator g.after_operator rest end u a.2 (omega arith)
    h.operand g.operand r z in (
      ap (λ (x : ℕ). Prefix x op e) a.1 ∙ ap (λ (x : Increment). Prefix at' x e)
          (same_increment op op' a.0) ∙ ap (λ (x : Expression). Prefix at' op' x) b.0,
      b.1,
    )
same_head text n (Prefix at op e) (Index v vt w) ts rest end u low k m r z h g = absurd m
same_head text n (Prefix at op e) (Postfix v op2 vt) ts rest end u low k m r z h g = absurd m
same_head text n (Prefix at op e) (Binary v vt op2 w) ts rest end u low k m r z h g = absurd m
same_head text n (Prefix at op e) (Conditional y vt v w) ts rest end u low k m r z h g = absurd m
same_head text n (Prefix at op e) (Assign v vt op2 w) ts rest end u low k m r z h g = absurd m
same_head text n (Prefix at op e) (Comma v vt w) ts rest end u low k m r z h g = absurd m
same_head text n (Unary at op e) (Unary at' op' e') ts rest end u low k m r z h g =
    let a = punctuator_same (unary_punctuator op) (unary_punctuator op') at at' ts ts
    h.after_operator g.after_operator refl h.operator g.operator in
    let b = part text n cast e e' h.after_operator g.after_operator rest end u a.2 (omega arith)
    h.operand g.operand r z in (
      ap (λ (x : ℕ). Unary x op e) a.1 ∙ ap (λ (x : UnaryOperator). Unary at' x e)
          (same_unary op op' a.0) ∙ ap (λ (x : Expression). Unary at' op' x) b.0,
      b.1,
    )
same_head text n (Unary at op e) (Index v vt w) ts rest end u low k m r z h g = absurd m
same_head text n (Unary at op e) (Postfix v op2 vt) ts rest end u low k m r z h g = absurd m
same_head text n (Unary at op e) (Binary v vt op2 w) ts rest end u low k m r z h g = absurd m
same_head text n (Unary at op e) (Conditional y vt v w) ts rest end u low k m r z h g = absurd m
same_head text n (Unary at op e) (Assign v vt op2 w) ts rest end u low k m r z h g = absurd m
same_head text n (Unary at op e) (Comma v vt w) ts rest end u low k m r z h g = absurd m
same_head text n (Cast at to e) (Parentheses at' e') ts rest end u low k m r z h g =
    let a = punctuator_same punctuators.OpenParenthesis punctuators.OpenParenthesis at at' ts ts
    h.operator.after_opening g.after_opening refl h.operator.opening g.opening in
    let b = expression_front text e' g.after_opening g.after_inner g.inner in
    let c = base_front to.base h.operator.after_opening h.operator.inner.0 h.operator.inner.1 in
    let d = ap front a.2 in
    absurd (omega arith)
same_head text n (Cast at to e) (Cast at' to' e') ts rest end u low k m r z h g =
    let a = punctuator_same punctuators.OpenParenthesis punctuators.OpenParenthesis at at' ts ts
    h.operator.after_opening g.operator.after_opening refl h.operator.opening
    g.operator.opening in
    let t = type_once to to' h.operator.after_opening g.operator.after_opening
    h.operator.after_inner g.operator.after_inner a.2
    (close_type h.operator.after_inner h.after_operator h.operator.closing)
    (close_type g.operator.after_inner g.after_operator g.operator.closing)
    (close_star h.operator.after_inner h.after_operator h.operator.closing)
    (close_star g.operator.after_inner g.after_operator g.operator.closing) h.operator.inner
    g.operator.inner in
    let c = has_same punctuators.CloseParenthesis h.operator.after_inner g.operator.after_inner
    h.after_operator g.after_operator t.1 h.operator.closing g.operator.closing in
    let b = part text n cast e e' h.after_operator g.after_operator rest end u c (omega arith)
    h.operand g.operand r z in (
      ap (λ (x : ℕ). Cast x to e) a.1 ∙ ap (λ (x : CType). Cast at' x e) t.0
          ∙ ap (λ (x : Expression). Cast at' to' x) b.0,
      b.1,
    )
same_head text n (Cast at to e) (Index v vt w) ts rest end u low k m r z h g = absurd m
same_head text n (Cast at to e) (Postfix v op2 vt) ts rest end u low k m r z h g = absurd m
same_head text n (Cast at to e) (Binary v vt op2 w) ts rest end u low k m r z h g = absurd m
same_head text n (Cast at to e) (Conditional y vt v w) ts rest end u low k m r z h g = absurd m
same_head text n (Cast at to e) (Assign v vt op2 w) ts rest end u low k m r z h g = absurd m
same_head text n (Cast at to e) (Comma v vt w) ts rest end u low k m r z h g = absurd m
same_head text n (Index a at b) f ts rest end u low k m r z h g = absurd k
same_head text n (Postfix a op at) f ts rest end u low k m r z h g = absurd k
same_head text n (Binary a at op b) f ts rest end u low k m r z h g = absurd k
same_head text n (Conditional c at a b) f ts rest end u low k m r z h g = absurd k
same_head text n (Assign a at op b) f ts rest end u low k m r z h g = absurd k
same_head text n (Comma a at b) f ts rest end u low k m r z h g = absurd k
same_head text n e f ts rest end u low k m r z h g = let a = head_front text e ts rest k h in
    let b = head_front text f ts end m g in absurd (omega arith)

-- ---- all expressions

same : (text : List ℕ) (n l : ℕ) (e f : Expression) (ts rest end : List Token) → Below text n
    → height e ≤ n → Derives text l e ts rest → Derives text l f ts end → Stops l rest → Stops l end
    → (e ≡ f) × (rest ≡ end)
same text n l e f ts rest end u low h g s z =
    let c = spine text e ts rest h.spells in
    let d = spine text f ts end g.spells in
    let k = run_height text c.head c.steps c.after e rest c.run in
    let p = same_head text n c.head d.head ts c.after d.after u (omega arith) c.is_head d.is_head
    (closes c.head c.after (run_reach text c.head c.steps c.after e rest l c.run h.fits s))
    (closes d.head d.after (run_reach text d.head d.steps d.after f end l d.run g.fits z))
    c.spells d.spells in
    let v : Run text c.head d.steps d.after f end =
    subst (λ (x : Expression). Run text x d.steps d.after f end) (sym p.0) d.run in
    let w : Run text c.head d.steps c.after f end =
    subst (λ (x : List Token). Run text c.head d.steps x f end) (sym p.1) v in
    same_run text n l c.head c.steps d.steps c.after e f rest end u low h.fits g.fits s z c.run w

pub below : (text : List ℕ) (n : ℕ) → Below text n
below text zero l e f ts rest end low h g s z = absurd (omega arith)
below text (suc n) l e f ts rest end low h g s z =
    same text n l e f ts rest end (below text n) (omega arith) h g s z

pub one_expression : OneExpression
one_expression text l e f ts rest end h g s z =
    below text (suc (height e)) l e f ts rest end (omega arith) h g s z
