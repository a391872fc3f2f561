-- ForInitialiser operands by the token at the front.
use Rattle.std.proofs.Common.{◌≡◌, ◌≤◌, ◌<◌, ◌+◌, ◌-◌, ℕ, List, [], ◌∷◌, Some, None, refl, sym, ap, ◌∙◌, subst, arith}
use Rattle.c_lex.specs.declared.keyword.Keyword.TheVariants as keywords
use Rattle.c_parse_expr.specs.Words.{Punctuator, Kind, Token, CType, Field, Literal, Identifier, Increment, UnaryOperator, Expression, Constant, Variable, Information, Call, Parentheses, Prefix, Unary, Cast, Arguments, height, heights, literal_kind, SpellsExpression, SpellsArguments, Derives, punctuator_follows, kind_follows, follows, Stops, unary, cast, unary_punctuator, increment_punctuator, primary, unary_of, increment_of, token, IsKind, IsPunctuator, IsIdentifier, HasPunctuator, IsType, NoBase, NoExpression, Encloses, NoneEnclosed, NoArguments, NoOperand}
use Rattle.c_lex.specs.declared.punctuator.Punctuator.TheVariants as punctuators
use Rattle.c_lex.specs.declared.token.Kind.TheVariants as kinds
use Rattle.c_syntax.specs.declared.expression.Literal.TheVariants as literals
use Rattle.c_syntax.specs.declared.operator.Increment.TheVariants as increments
use Rattle.c_syntax.specs.declared.operator.UnaryOperator.TheVariants as unary_operators
use Rattle.c_parse_expr.proofs.Lemmas.{kind_same, punctuator_same, name_same, has_same, base_front, close_star, front, NoStar, unary_again, increment_again, expression_front}

-- ---- no operand

pub none_begins : (text : List ℕ) (w l room : ℕ) (ts : List Token)
    → ((x : Literal) (at : ℕ) (rest : List Token) → IsKind (literal_kind x) at ts rest → ⊥)
    → ((x : Identifier) (rest : List Token) → IsIdentifier x ts rest → ⊥)
    → ((at : ℕ) (x : Field) (rest : List Token) → SpellsExpression text (Information at x) ts rest
    → ⊥)
    → ((s : Punctuator) (at : ℕ) (rest : List Token) → IsPunctuator s at ts rest → ⊥)
    → NoOperand l room w text ts
none_begins text w l room ts a b c d (Constant at x) end o low = a x at end o.derives.spells
none_begins text w l room ts a b c d (Variable x) end o low = b x end o.derives.spells
none_begins text w l room ts a b c d (Information at x) end o low = c at x end o.derives.spells
none_begins text w l room ts a b c d (Call x es) end o low =
    let h = o.derives.spells in
    b x h.after_name h.called
none_begins text w l room ts a b c d (Parentheses at e) end o low =
    let h = o.derives.spells in
    d punctuators.OpenParenthesis at h.after_opening h.opening
none_begins text w l room ts a b c d (Prefix at op e) end o low =
    let h = o.derives.spells in
    d (increment_punctuator op) at h.after_operator h.operator
none_begins text w l room ts a b c d (Unary at op e) end o low =
    let h = o.derives.spells in
    d (unary_punctuator op) at h.after_operator h.operator
none_begins text w l room ts a b c d (Cast at to e) end o low =
    let h = o.derives.spells in
    d punctuators.OpenParenthesis at h.operator.after_opening h.operator.opening
none_begins text w l room ts a b c d k end o low = o.head

literal_name : (x : Literal) → literal_kind x ≡ kinds.Identifier → ⊥
literal_name (literals.Integer value type) e = cc
literal_name (literals.CharacterConstant value) e = cc

literal_punctuator : (x : Literal) (s : Punctuator) → literal_kind x ≡ kinds.Punctuator s → ⊥
literal_punctuator (literals.Integer value type) s e = cc
literal_punctuator (literals.CharacterConstant value) s e = cc

other_kind : (k j : Kind) (at to : ℕ) (ts rest end : List Token) → IsKind k at ts rest
    → IsKind j to ts end → k ≡ j
other_kind k j at to ts rest end h g = (kind_same k j at to ts ts rest end refl h g).0

identifier_kind : (x : Identifier) (ts rest : List Token) → IsIdentifier x ts rest
    → IsKind kinds.Identifier x.start ts rest
identifier_kind x ts rest h = (x.end, h)

punctuator_not_name : (s : Punctuator) → kinds.Punctuator s ≡ kinds.Identifier → ⊥
punctuator_not_name s e = cc

keyword_not_name : kinds.Keyword keywords.GetExceptionInformation ≡ kinds.Identifier → ⊥
keyword_not_name e = cc

keyword_not_punctuator : (s : Punctuator) → kinds.Keyword keywords.GetExceptionInformation
    ≡ kinds.Punctuator s → ⊥
keyword_not_punctuator s e = cc

name_not_punctuator : (s : Punctuator) → kinds.Identifier ≡ kinds.Punctuator s → ⊥
name_not_punctuator s e = cc

-- ---- after a name

pub none_named : (text : List ℕ) (w l room : ℕ) (x : Identifier) (ts rest : List Token)
    → IsIdentifier x ts rest
    → (primary < follows rest → ⊥)
    → ((es : Arguments) (b end : List Token) → HasPunctuator punctuators.OpenParenthesis rest b
    → SpellsArguments text es b end → (1 ≤ w → heights es ≤ room) → ⊥)
    → NoOperand l room w text ts
none_named text w l room x ts rest n v c (Constant at y) end o low = literal_name y
    (other_kind _ _ at x.start ts end rest o.derives.spells (identifier_kind x ts rest n))
none_named text w l room x ts rest n v c (Variable y) end o low =
    let q = (name_same x y ts ts rest end refl n o.derives.spells).1 in let p = ap follows q in
    let k = o.closes in v (omega arith)
none_named text w l room x ts rest n v c (Information at y) end o low =
    let h = o.derives.spells in
    keyword_not_name (other_kind _ _ at x.start ts h.introduction.after_keyword rest
    h.introduction.keyword (identifier_kind x ts rest n))
none_named text w l room x ts rest n v c (Call y es) end o low =
    let h = o.derives.spells in
    let q = (name_same y x ts ts h.after_name rest refl h.called n).1 in
    c es h.after_opening end (subst
    (λ (z : List Token). HasPunctuator punctuators.OpenParenthesis z h.after_opening) q h.opening)
    h.arguments low
none_named text w l room x ts rest n v c (Parentheses at e) end o low =
    let h = o.derives.spells in
    punctuator_not_name _ (other_kind _ _ at x.start ts h.after_opening rest h.opening
    (identifier_kind x ts rest n))
none_named text w l room x ts rest n v c (Prefix at op e) end o low =
    let h = o.derives.spells in
    punctuator_not_name _ (other_kind _ _ at x.start ts h.after_operator rest h.operator
    (identifier_kind x ts rest n))
none_named text w l room x ts rest n v c (Unary at op e) end o low =
    let h = o.derives.spells in
    punctuator_not_name _ (other_kind _ _ at x.start ts h.after_operator rest h.operator
    (identifier_kind x ts rest n))
none_named text w l room x ts rest n v c (Cast at to e) end o low =
    let h = o.derives.spells in
    punctuator_not_name _ (other_kind _ _ at x.start ts h.operator.after_opening rest
    h.operator.opening (identifier_kind x ts rest n))
none_named text w l room x ts rest n v c k end o low = o.head

call_follows : (rest b : List Token) → HasPunctuator punctuators.OpenParenthesis rest b
    → follows rest ≡ primary
call_follows rest b h = ap follows h.1.1

pub no_call : (text : List ℕ) (w l room : ℕ) (x : Identifier) (ts rest b : List Token)
    → IsIdentifier x ts rest → HasPunctuator punctuators.OpenParenthesis rest b
    → NoArguments room w text b → NoOperand l room w text ts
no_call text w l room x ts rest b n h a =
    none_named text w l room x ts rest n
    (λ p. let q = call_follows rest b h in absurd (omega arith))
    (λ es d end g s low. a es end (subst (λ (z : List Token). SpellsArguments text es z end)
    (has_same punctuators.OpenParenthesis rest rest d b refl g h) s) low)

-- no `(` is at the front
positive_sign : (s : Punctuator) → (s ≡ punctuators.OpenParenthesis → ⊥)
    → primary < punctuator_follows s
positive_sign punctuators.OpenParenthesis n = absurd (n refl)
positive_sign s n = omega arith

positive_kind : (k : Kind) (at end : ℕ) (ts : List Token)
    → ((b : List Token) → HasPunctuator punctuators.OpenParenthesis (token k at end ∷ ts) b → ⊥)
    → primary < kind_follows k
positive_kind (kinds.Punctuator s) at end ts n = positive_sign s
    (λ e. n ts (at, (end, ap (λ (z : Punctuator). token (kinds.Punctuator z) at end ∷ ts) e)))
positive_kind k at end ts n = omega arith

pub no_parenthesis : (ts : List Token) → ((b : List Token)
    → HasPunctuator punctuators.OpenParenthesis ts b → ⊥) → primary < follows ts
no_parenthesis [] n = omega arith
no_parenthesis (t ∷ ts) n = positive_kind t.kind t.start t.end ts n

-- ---- after a punctuator

pub none_signed : (text : List ℕ) (w l room : ℕ) (s : Punctuator) (at : ℕ) (ts rest : List Token)
    → IsPunctuator s at ts rest
    → ((e : Expression) (end : List Token) → s ≡ punctuators.OpenParenthesis
    → Encloses text punctuators.CloseParenthesis e rest end → (1 ≤ w → height e < room) → ⊥)
    → ((op : Increment) (e : Expression) (end : List Token) → s ≡ increment_punctuator op → Derives
    text unary e rest end → Stops unary end → (1 ≤ w → height e < room) → ⊥)
    → ((op : UnaryOperator) (e : Expression) (end : List Token) → s ≡ unary_punctuator op → Derives
    text cast e rest end → Stops cast end → (1 ≤ w → height e < room) → ⊥)
    → ((to : CType) (e : Expression) (b c end : List Token) → s ≡ punctuators.OpenParenthesis →
    cast ≤ l → IsType to rest b → HasPunctuator punctuators.CloseParenthesis b c → Derives text cast
    e c end → Stops cast end → (1 ≤ w → height e < room) → ⊥)
    → NoOperand l room w text ts
none_signed text w l room s at ts rest n pa pr un ca (Constant to y) end o low = literal_punctuator
    y s (other_kind _ _ to at ts end rest o.derives.spells n)
none_signed text w l room s at ts rest n pa pr un ca (Variable y) end o low = name_not_punctuator s
    (other_kind _ _ y.start at ts end rest (identifier_kind y ts end o.derives.spells) n)
none_signed text w l room s at ts rest n pa pr un ca (Information to y) end o low =
    let h = o.derives.spells in
    keyword_not_punctuator s (other_kind _ _ to at ts h.introduction.after_keyword rest
    h.introduction.keyword n)
none_signed text w l room s at ts rest n pa pr un ca (Call y es) end o low =
    let h = o.derives.spells in
    name_not_punctuator s (other_kind _ _ y.start at ts h.after_name rest
    (identifier_kind y ts h.after_name h.called) n)
none_signed text w l room s at ts rest n pa pr un ca (Parentheses to e) end o low =
    let h = o.derives.spells in
    let q = punctuator_same s punctuators.OpenParenthesis at to ts ts rest h.after_opening refl n
    h.opening in
    pa e end q.0 (record {
      mid = h.after_inner;
      spells = subst
          (λ (z : List Token). SpellsExpression text e z h.after_inner) (sym q.2) h.inner;
      closed =
          h.closing;
    }) (λ k. let a = low k in omega arith)
none_signed text w l room s at ts rest n pa pr un ca (Prefix to op e) end o low =
    let h = o.derives.spells in
    let q = punctuator_same s (increment_punctuator op) at to ts ts rest h.after_operator refl n
    h.operator in
    pr op e end q.0 (subst (λ (z : List Token). Derives text unary e z end) (sym q.2) h.operand)
    o.closes (λ k. let a = low k in omega arith)
none_signed text w l room s at ts rest n pa pr un ca (Unary to op e) end o low =
    let h = o.derives.spells in
    let q = punctuator_same s (unary_punctuator op) at to ts ts rest h.after_operator refl n
    h.operator in
    un op e end q.0 (subst (λ (z : List Token). Derives text cast e z end) (sym q.2) h.operand)
    o.closes (λ k. let a = low k in omega arith)
none_signed text w l room s at ts rest n pa pr un ca (Cast to type e) end o low =
    let h = o.derives.spells in
    let q = punctuator_same s punctuators.OpenParenthesis at to ts ts rest h.operator.after_opening
    refl n h.operator.opening in
    ca type e h.operator.after_inner h.after_operator end q.0 o.derives.fits
    (subst (λ (z : List Token). IsType type z h.operator.after_inner) (sym q.2) h.operator.inner)
    h.operator.closing h.operand o.closes (λ k. let a = low k in omega arith)
none_signed text w l room s at ts rest n pa pr un ca k end o low = o.head

pub not_open : (s : Punctuator) → s ≡ punctuators.OpenParenthesis → (op : Increment)
    → increment_of s ≡ Some op → ⊥
not_open s e op p = let q : increment_of punctuators.OpenParenthesis
    ≡ Some op = ap increment_of (sym e) ∙ p in cc

pub not_open_unary : (s : Punctuator) → s ≡ punctuators.OpenParenthesis → (op : UnaryOperator)
    → unary_of s ≡ Some op → ⊥
not_open_unary s e op p = let q : unary_of punctuators.OpenParenthesis
    ≡ Some op = ap unary_of (sym e) ∙ p in cc

-- a punctuator that is no operator before an operand and no parenthesis
pub no_operator : (text : List ℕ) (w l room : ℕ) (s : Punctuator) (at : ℕ) (ts rest : List Token)
    → IsPunctuator s at ts rest → (s ≡ punctuators.OpenParenthesis → ⊥) → increment_of s ≡ None
    → unary_of s ≡ None → NoOperand l room w text ts
no_operator text w l room s at ts rest n a b c =
    none_signed text w l room s at ts rest n
    (λ e end p x low. a p)
    (λ op e end p d st low. let q : None ≡ Some op = sym b ∙ ap increment_of p
    ∙ increment_again op in cc)
    (λ op e end p d st low. let q : None ≡ Some op = sym c ∙ ap unary_of p ∙ unary_again op in cc)
    (λ to e b c end p f t z d st low. a p)

pub no_room : (text : List ℕ) (l : ℕ) (s : Punctuator) (at : ℕ) (ts rest : List Token)
    → IsPunctuator s at ts rest → NoOperand l 0 1 text ts
no_room text l s at ts rest n =
    none_signed text 1 l 0 s at ts rest n (λ e end p x low. let a = low (omega arith) in
    absurd (omega arith)) (λ op e end p d st low. let a = low (omega arith) in
    absurd (omega arith)) (λ op e end p d st low. let a = low (omega arith) in
    absurd (omega arith)) (λ to e b c end p f t z d st low. let a = low (omega arith) in
    absurd (omega arith))

unary_no_increment : (o : UnaryOperator) (op : Increment)
    → increment_of (unary_punctuator o) ≡ Some op → ⊥
unary_no_increment unary_operators.Plus op e = cc
unary_no_increment o op e = cc

increment_no_unary : (o : Increment) (op : UnaryOperator)
    → unary_of (increment_punctuator o) ≡ Some op → ⊥
increment_no_unary increments.Increment op e = cc
increment_no_unary increments.Decrement op e = cc

open_no_increment : (o : Increment) → punctuators.OpenParenthesis ≡ increment_punctuator o → ⊥
open_no_increment increments.Increment e = cc
open_no_increment increments.Decrement e = cc

open_no_unary : (o : UnaryOperator) → punctuators.OpenParenthesis ≡ unary_punctuator o → ⊥
open_no_unary unary_operators.Plus e = cc
open_no_unary o e = cc

pub no_prefixed : (text : List ℕ) (w l room : ℕ) (s : Punctuator) (op : Increment) (at : ℕ)
    (ts rest : List Token) → IsPunctuator s at ts rest → increment_of s ≡ Some op → NoExpression
    unary (room - 1) w text rest → NoOperand l room w text ts
no_prefixed text w l room s op at ts rest n p x =
    none_signed text w l room s at ts rest n
    (λ e end q y low. not_open s q op p)
    (λ o e end q d st low. x e end d st (λ k. let a = low k in omega arith))
    (λ o e end q d st low. let r : increment_of (unary_punctuator o)
    ≡ Some op = ap increment_of (sym q) ∙ p in unary_no_increment o op r)
    (λ to e b c end q f t z d st low. not_open s q op p)

pub no_unary : (text : List ℕ) (w l room : ℕ) (s : Punctuator) (op : UnaryOperator) (at : ℕ)
    (ts rest : List Token) → IsPunctuator s at ts rest → unary_of s ≡ Some op → NoExpression cast
    (room - 1) w text rest → NoOperand l room w text ts
no_unary text w l room s op at ts rest n p x =
    none_signed text w l room s at ts rest n
    (λ e end q y low. not_open_unary s q op p)
    (λ o e end q d st low. let r : unary_of (increment_punctuator o) ≡ Some op = ap unary_of (sym q)
    ∙ p in increment_no_unary o op r)
    (λ o e end q d st low. x e end d st (λ k. let a = low k in omega arith))
    (λ to e b c end q f t z d st low. not_open_unary s q op p)

-- ---- after `(`

abbrev Open : ℕ → List Token → List Token → Type 0
Open at ts rest = IsPunctuator punctuators.OpenParenthesis at ts rest

pub none_open : (text : List ℕ) (w l room at : ℕ) (ts rest : List Token) → Open at ts rest
    → ((e : Expression) (end : List Token) → Encloses text punctuators.CloseParenthesis e rest end
    → (1 ≤ w → height e ≤ room) → ⊥)
    → ((to : CType) (e : Expression) (b c end : List Token) → cast ≤ l → IsType to rest b →
    HasPunctuator punctuators.CloseParenthesis b c → Derives text cast e c end → Stops cast end →
    (1 ≤ w → height e ≤ room) → ⊥)
    → NoOperand l (room + 1) w text ts
none_open text w l room at ts rest n pa ca =
    none_signed text w l (room + 1) punctuators.OpenParenthesis at ts rest n
    (λ e end q x low. pa e end x (λ k. let a = low k in omega arith))
    (λ o e end q d st low. open_no_increment o q)
    (λ o e end q d st low. open_no_unary o q)
    (λ to e b c end q f t z d st low. ca to e b c end f t z d st
    (λ k. let a = low k in omega arith))

type_front : (to : CType) (ts rest : List Token) → IsType to ts rest → front ts ≡ 7
type_front to ts rest t = base_front to.base ts t.0 t.1

no_type_inside : (text : List ℕ) (to : CType) (e : Expression) (ts rest end : List Token)
    → IsType to ts rest → Encloses text punctuators.CloseParenthesis e ts end → ⊥
no_type_inside text to e ts rest end t x = let a = type_front to ts rest t in
    let b = expression_front text e ts x.mid x.spells in absurd (omega arith)

close_base : (ts rest : List Token) → HasPunctuator punctuators.CloseParenthesis ts rest → NoBase ts
close_base ts rest h b end g = let a = base_front b ts end g in
    let q : front ts ≡ 6 = ap front h.1.1 in absurd (omega arith)

-- the type at the front, where nothing of a type follows
abbrev pub OnlyType : List Token → List Token → Type 0
OnlyType ts mid = (to : CType) (rest : List Token) → IsType to ts rest → NoBase rest → NoStar rest
    → mid ≡ rest

pub no_cast : (text : List ℕ) (w l room at : ℕ) (to : CType) (ts rest mid : List Token)
    → Open at ts rest → IsType to rest mid → OnlyType rest mid
    → ((e : Expression) (c end : List Token) → HasPunctuator punctuators.CloseParenthesis mid c →
    Derives text cast e c end → Stops cast end → (1 ≤ w → height e ≤ room) → ⊥)
    → NoOperand l (room + 1) w text ts
no_cast text w l room at to ts rest mid n t only x =
    none_open text w l room at ts rest n
    (λ e end y low. no_type_inside text to e rest mid end t y)
    (λ u e b c end f g z d st low. x e c end (subst
    (λ (y : List Token). HasPunctuator punctuators.CloseParenthesis y c)
    (sym (only u b g (close_base b c z) (close_star b c z))) z) d st low)

pub not_cast : (text : List ℕ) (w l room at : ℕ) (to : CType) (ts rest mid after : List Token)
    → Open at ts rest → IsType to rest mid → OnlyType rest mid
    → HasPunctuator punctuators.CloseParenthesis mid after → NoExpression cast room w text after
    → NoOperand l (room + 1) w text ts
not_cast text w l room at to ts rest mid after n t only h x =
    no_cast text w l room at to ts rest mid n t only
    (λ e c end z d st low. x e end
    (let q = has_same punctuators.CloseParenthesis mid mid c after refl z h in subst
    (λ (y : List Token). Derives text cast e y end) q d) st low)

pub no_group : (text : List ℕ) (w l room at : ℕ) (ts rest : List Token) → Open at ts rest
    → ((cast ≤ l) → NoBase rest) → NoneEnclosed punctuators.CloseParenthesis room w text rest
    → NoOperand l (room + 1) w text ts
no_group text w l room at ts rest n b x =
    none_open text w l room at ts rest n (λ e end y low. x e end y low)
    (λ u e m c end f g z d st low. b f u.base g.0 g.1)
