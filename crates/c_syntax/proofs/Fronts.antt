-- Tokens at the front: which they are, and what they begin.
use Rattle.std.proofs.Common.{◌≡◌, ◌+◌, ℕ, zero, suc, cond, nat_eq, List, [], ◌∷◌, Option, Some}
use Rattle.std.proofs.Common.{None, refl, sym, ap, ◌∙◌, arith, inl, inr}
use Rattle.c_syntax.specs.Words.{Keyword, Punctuator, Kind, Token, Arithmetic, BinaryOperator, UnaryOperator, Increment, Base, CType, Identifier, binary_punctuator, unary_punctuator, increment_punctuator, assignment_punctuator, token, IsKind, IsPunctuator, IsIdentifier, HasPunctuator, HasKeyword, spellings, AreKeywords, IsOneOf, IsBase, AreStars, IsType}
use Rattle.c_lex.specs.declared.keyword.Keyword.TheVariants as keywords
use Rattle.c_lex.specs.declared.punctuator.Punctuator.TheVariants as punctuators
use Rattle.c_lex.specs.declared.token.Kind.TheVariants as kinds
use Rattle.c_syntax.specs.declared.operator.Arithmetic.TheVariants as arithmetic
use Rattle.c_syntax.specs.declared.operator.Comparison.TheVariants as comparisons
use Rattle.c_syntax.specs.declared.operator.BinaryOperator.TheVariants as binary
use Rattle.c_syntax.specs.declared.operator.UnaryOperator.TheVariants as unary_operators
use Rattle.c_syntax.specs.declared.operator.Increment.TheVariants as increments
use Rattle.c_syntax.specs.declared.expression.Base.TheVariants as bases
use Rattle.c_syntax.specs.PunctuatorReaders.{binary_of, assignment_of, unary_of, increment_of}

-- ---- one token

pub kind_same : (k j : Kind) (at to : ℕ) (ts us rest end : List Token) → ts ≡ us
    → IsKind k at ts rest → IsKind j to us end → (k ≡ j) × (at ≡ to) × (rest ≡ end)
kind_same k j at to ts us rest end p h g =
    let e : token k at h.0 ∷ rest ≡ token j to g.0 ∷ end = sym h.1 ∙ p ∙ g.1 in
    let t : token k at h.0 ≡ token j to g.0 = cc in
    let r : rest ≡ end = cc in
    (ap (λ (x : Token). x.kind) t, ap (λ (x : Token). x.start) t, r)

pub punctuator_same : (s z : Punctuator) (at to : ℕ) (ts us rest end : List Token) → ts ≡ us
    → IsPunctuator s at ts rest → IsPunctuator z to us end → (s ≡ z) × (at ≡ to) × (rest ≡ end)
punctuator_same s z at to ts us rest end p h g =
    let x = kind_same (kinds.Punctuator s) (kinds.Punctuator z) at to ts us rest end p h g in
    let e : kinds.Punctuator s ≡ kinds.Punctuator z = x.0 in
    let f : s ≡ z = cc in
    (f, x.1, x.2)

pub has_same : (s : Punctuator) (ts us rest end : List Token) → ts ≡ us → HasPunctuator s ts rest
    → HasPunctuator s us end → rest ≡ end
has_same s ts us rest end p h g =
    (kind_same (kinds.Punctuator s) (kinds.Punctuator s) h.0 g.0 ts us rest end p h.1 g.1).2

pub keyword_same : (k j : Keyword) (ts us rest end : List Token) → ts ≡ us → HasKeyword k ts rest
    → HasKeyword j us end → (k ≡ j) × (rest ≡ end)
keyword_same k j ts us rest end p h g =
    let x = kind_same (kinds.Keyword k) (kinds.Keyword j) h.0 g.0 ts us rest end p h.1 g.1 in
    let e : kinds.Keyword k ≡ kinds.Keyword j = x.0 in
    let f : k ≡ j = cc in
    (f, x.2)

abbrev named : ℕ → ℕ → Identifier
named start end = record { start = start; end = end }

pub name_same : (a b : Identifier) (ts us rest end : List Token) → ts ≡ us → IsIdentifier a ts rest
    → IsIdentifier b us end → (a ≡ b) × (rest ≡ end)
name_same a b ts us rest end p h g =
    let e : token kinds.Identifier a.start a.end ∷ rest ≡ token kinds.Identifier b.start b.end
    ∷ end = sym h ∙ p ∙ g in
    let t : token kinds.Identifier a.start a.end ≡ token kinds.Identifier b.start b.end = cc in
    let r : rest ≡ end = cc in
    let q : a.start ≡ b.start = ap (λ (x : Token). x.start) t in
    let v : a.end ≡ b.end = ap (λ (x : Token). x.end) t in
    (ap (λ (n : ℕ). named n a.end) q ∙ ap (λ (n : ℕ). named b.start n) v, r)

-- ---- operators by their punctuators

some_same : {A : Type 0} (a b : A) (o : Option A) → o ≡ Some a → o ≡ Some b → a ≡ b
some_same a b o p q = let e = sym p ∙ q in cc

-- Each operator is what its punctuator is.
pub binary_again : (op : BinaryOperator) → binary_of (binary_punctuator op) ≡ Some op
binary_again (binary.Arithmetic arithmetic.Multiply) = refl
binary_again (binary.Comparison comparisons.Less) = refl
binary_again op = refl

pub assignment_again : (op : Option Arithmetic) → assignment_of (assignment_punctuator op) ≡ Some op
assignment_again None = refl
assignment_again (Some arithmetic.Multiply) = refl
assignment_again op = refl

pub unary_again : (op : UnaryOperator) → unary_of (unary_punctuator op) ≡ Some op
unary_again unary_operators.Plus = refl
unary_again op = refl

pub increment_again : (op : Increment) → increment_of (increment_punctuator op) ≡ Some op
increment_again increments.Increment = refl
increment_again increments.Decrement = refl

pub same_binary : (a b : BinaryOperator) → binary_punctuator a ≡ binary_punctuator b → a ≡ b
same_binary a b e = some_same a b (binary_of (binary_punctuator a)) (binary_again a)
    (ap binary_of e ∙ binary_again b)

pub same_assignment : (a b : Option Arithmetic) → assignment_punctuator a ≡ assignment_punctuator b
    → a ≡ b
same_assignment a b e = some_same a b (assignment_of (assignment_punctuator a)) (assignment_again a)
    (ap assignment_of e ∙ assignment_again b)

pub same_unary : (a b : UnaryOperator) → unary_punctuator a ≡ unary_punctuator b → a ≡ b
same_unary a b e = some_same a b (unary_of (unary_punctuator a)) (unary_again a)
    (ap unary_of e ∙ unary_again b)

pub same_increment : (a b : Increment) → increment_punctuator a ≡ increment_punctuator b → a ≡ b
same_increment a b e = some_same a b (increment_of (increment_punctuator a)) (increment_again a)
    (ap increment_of e ∙ increment_again b)

-- ---- what the first token begins: 0 to 5 an expression, 7 a type, 6 neither

abbrev pub keyword_class : Keyword → ℕ
keyword_class keywords.Char = 7
keyword_class keywords.Int = 7
keyword_class keywords.Long = 7
keyword_class keywords.Short = 7
keyword_class keywords.Signed = 7
keyword_class keywords.Unsigned = 7
keyword_class keywords.Void = 7
keyword_class keywords.GetExceptionInformation = 1
keyword_class k = 6

abbrev pub punctuator_class : Punctuator → ℕ
punctuator_class punctuators.OpenParenthesis = 3
punctuator_class punctuators.Ampersand = 5
punctuator_class punctuators.Plus = 5
punctuator_class punctuators.Minus = 5
punctuator_class punctuators.Star = 5
punctuator_class punctuators.Exclamation = 5
punctuator_class punctuators.Tilde = 5
punctuator_class punctuators.PlusPlus = 4
punctuator_class punctuators.MinusMinus = 4
punctuator_class s = 6

abbrev pub kind_class : Kind → ℕ
kind_class kinds.Identifier = 0
kind_class (kinds.Keyword k) = keyword_class k
kind_class (kinds.Reserved r) = 6
kind_class (kinds.Integer value type) = 2
kind_class (kinds.CharacterConstant value) = 2
kind_class (kinds.Punctuator s) = punctuator_class s

abbrev pub front : List Token → ℕ
front [] = 6
front (t ∷ ts) = kind_class t.kind

pub increment_class : (op : Increment) → punctuator_class (increment_punctuator op) ≡ 4
increment_class increments.Increment = refl
increment_class increments.Decrement = refl

pub unary_class : (op : UnaryOperator) → punctuator_class (unary_punctuator op) ≡ 5
unary_class unary_operators.Plus = refl
unary_class op = refl

-- ---- types

-- the base that keywords write is reported by how many there are of each
abbrev weight_of : Keyword → ℕ
weight_of keywords.Char = 10
weight_of keywords.Long = 1000
weight_of keywords.Short = 100
weight_of keywords.Unsigned = 10000
weight_of keywords.Void = 1
weight_of k = 0

abbrev weight : List Keyword → ℕ
weight [] = 0
weight (k ∷ ks) = weight_of k + weight ks

abbrev base_by : ℕ → Base
base_by w =
    cond (nat_eq w 1) bases.Void
    (cond (nat_eq w 10) bases.Char
    (cond (nat_eq w 10010) bases.UnsignedChar
    (cond (nat_eq w 100) bases.Short (cond (nat_eq w 10100) bases.UnsignedShort
    (cond (nat_eq w 10000) bases.Unsigned
    (cond (nat_eq w 11000) bases.Unsigned
    (cond (nat_eq w 2000) bases.LongLong
    (cond (nat_eq w 12000) bases.UnsignedLongLong bases.Int))))))))

abbrev pub Typed : List Keyword → Type 0
Typed [] = Unit {0}
Typed (k ∷ ks) = (keyword_class k ≡ 7) × Typed ks

abbrev pub Begun : List Keyword → Type 0
Begun [] = ⊥
Begun (k ∷ ks) = Unit {0}

abbrev pub Sound : Base → List (List Keyword) → Type 0
Sound b [] = Unit {0}
Sound b (ks ∷ more) = (base_by (weight ks) ≡ b) × Typed ks × Begun ks × Sound b more

pub record Picked (b : Base) (ts rest : List Token) : Type 0 where
  pub words : List Keyword
  base : base_by (weight words) ≡ b
  pub typed : Typed words
  pub begun : Begun words
  pub are : AreKeywords words ts rest

pub pick : (b : Base) (kss : List (List Keyword)) (ts rest : List Token) → Sound b kss
    → IsOneOf kss ts rest → Picked b ts rest
pick b [] ts rest s h = absurd h
pick b (ks ∷ more) ts rest s (inl h) =
    record { words = ks; base = s.0; typed = s.1; begun = s.2; are = h }
pick b (ks ∷ more) ts rest s (inr h) = pick b more ts rest s.3 h

pub sound : (b : Base) → Sound b (spellings b)
sound bases.Void = (refl, (refl, tt), tt, tt)
sound bases.Char = (refl, (refl, tt), tt, (refl, (refl, (refl, tt)), tt, tt))
sound bases.UnsignedChar = (refl, (refl, (refl, tt)), tt, tt)
sound bases.Short = (
  refl,
  (refl, tt),
  tt,
  (
    refl,
    (refl, (refl, tt)),
    tt,
    (refl, (refl, (refl, tt)), tt, (refl, (refl, (refl, (refl, tt))), tt, tt)),
  ),
)
sound bases.UnsignedShort =
    (refl, (refl, (refl, tt)), tt, (refl, (refl, (refl, (refl, tt))), tt, tt))
sound bases.Int = (
  refl,
  (refl, tt),
  tt,
  (
    refl,
    (refl, tt),
    tt,
    (
      refl,
      (refl, (refl, tt)),
      tt,
      (
        refl,
        (refl, tt),
        tt,
        (
          refl,
          (refl, (refl, tt)),
          tt,
          (refl, (refl, (refl, tt)), tt, (refl, (refl, (refl, (refl, tt))), tt, tt)),
        ),
      ),
    ),
  ),
)
sound bases.Unsigned = (
  refl,
  (refl, tt),
  tt,
  (
    refl,
    (refl, (refl, tt)),
    tt,
    (refl, (refl, (refl, tt)), tt, (refl, (refl, (refl, (refl, tt))), tt, tt)),
  ),
)
sound bases.LongLong = (
  refl,
  (refl, (refl, tt)),
  tt,
  (
    refl,
    (refl, (refl, (refl, tt))),
    tt,
    (refl, (refl, (refl, (refl, tt))), tt, (refl, (refl, (refl, (refl, (refl, tt)))), tt, tt)),
  ),
)
sound bases.UnsignedLongLong =
    (refl, (refl, (refl, (refl, tt))), tt, (refl, (refl, (refl, (refl, (refl, tt)))), tt, tt))

abbrev pub NoType : List Token → Type 0
NoType ts = front ts ≡ 7 → ⊥

keywords_once : (ks js : List Keyword) (ts us rest end : List Token) → ts ≡ us → Typed ks → Typed js
    → NoType rest → NoType end → AreKeywords ks ts rest → AreKeywords js us end
    → (ks ≡ js) × (rest ≡ end)
keywords_once [] [] ts us rest end p x y n m h g = (refl, sym h ∙ p ∙ g)
keywords_once [] (j ∷ js) ts us rest end p x y n m h (mid, (at, (last, split)), others) =
    absurd (n (ap front (sym h ∙ p ∙ split) ∙ y.0))
keywords_once (k ∷ ks) [] ts us rest end p x y n m (mid, (at, (last, split)), others) g =
    absurd (m (ap front (sym g ∙ sym p ∙ split) ∙ x.0))
keywords_once (k ∷ ks) (j ∷ js) ts us rest end p x y n m h g =
    let q = keyword_same k j ts us h.0 g.0 p h.1 g.1 in
    let r = keywords_once ks js h.0 g.0 rest end q.1 x.1 y.1 n m h.2 g.2 in
    (ap (λ (z : Keyword). z ∷ ks) q.0 ∙ ap (λ (z : List Keyword). j ∷ z) r.0, r.1)

pub base_once : (b d : Base) (ts us rest end : List Token) → ts ≡ us → NoType rest → NoType end
    → IsBase b ts rest → IsBase d us end → (b ≡ d) × (rest ≡ end)
base_once b d ts us rest end p n m h g =
    let x = pick b (spellings b) ts rest (sound b) h in
    let y = pick d (spellings d) us end (sound d) g in
    let q = keywords_once x.words y.words ts us rest end p x.typed y.typed n m x.are y.are in
    (sym x.base ∙ ap (λ (z : List Keyword). base_by (weight z)) q.0 ∙ y.base, q.1)

begun_front : (ks : List Keyword) (ts rest : List Token) → Typed ks → Begun ks
    → AreKeywords ks ts rest → front ts ≡ 7
begun_front [] ts rest x b h = absurd b
begun_front (k ∷ ks) ts rest x b (mid, (at, (last, split)), others) = ap front split ∙ x.0

pub base_front : (b : Base) (ts rest : List Token) → IsBase b ts rest → front ts ≡ 7
base_front b ts rest h = let x = pick b (spellings b) ts rest (sound b) h in
    begun_front x.words ts rest x.typed x.begun x.are

abbrev pub NoStar : List Token → Type 0
NoStar ts = (rest : List Token) → HasPunctuator punctuators.Star ts rest → ⊥

pub stars_once : (n m : ℕ) (ts us rest end : List Token) → ts ≡ us → NoStar rest → NoStar end
    → AreStars n ts rest → AreStars m us end → (n ≡ m) × (rest ≡ end)
stars_once zero zero ts us rest end p x y h g = (refl, sym h ∙ p ∙ g)
stars_once zero (suc m) ts us rest end p x y h (mid, (at, (last, split)), others) =
    absurd (x mid (at, (last, sym h ∙ p ∙ split)))
stars_once (suc n) zero ts us rest end p x y (mid, (at, (last, split)), others) g =
    absurd (y mid (at, (last, sym g ∙ sym p ∙ split)))
stars_once (suc n) (suc m) ts us rest end p x y h g =
    let q = has_same punctuators.Star ts us h.0 g.0 p h.1 g.1 in
    let r = stars_once n m h.0 g.0 rest end q x y h.2 g.2 in
    (ap (λ (z : ℕ). suc z) r.0, r.1)

pub stars_front : (n : ℕ) (ts rest : List Token) → NoType rest → AreStars n ts rest → NoType ts
stars_front zero ts rest x h = λ e. x (ap front (sym h) ∙ e)
stars_front (suc n) ts rest x (mid, (at, (last, split)), others) = λ e. let q : front ts ≡ 5 =
    ap front split in absurd (omega (arith, e))

abbrev typed : Base → ℕ → CType
typed base pointers = record { base = base; pointers = pointers }

pub type_once : (t u : CType) (ts us rest end : List Token) → ts ≡ us → NoType rest → NoType end
    → NoStar rest → NoStar end → IsType t ts rest → IsType u us end → (t ≡ u) × (rest ≡ end)
type_once t u ts us rest end p a b x y h g =
    let q = base_once t.base u.base ts us h.0 g.0 p (stars_front t.pointers h.0 rest a h.2)
    (stars_front u.pointers g.0 end b g.2) h.1 g.1 in
    let r = stars_once t.pointers u.pointers h.0 g.0 rest end q.1 x y h.2 g.2 in
    (ap (λ (z : Base). typed z t.pointers) q.0 ∙ ap (λ (z : ℕ). typed u.base z) r.0, r.1)

pub close_type : (ts rest : List Token) → HasPunctuator punctuators.CloseParenthesis ts rest
    → NoType ts
close_type ts rest (at, (last, split)) = λ e. let q : front ts ≡ 6 = ap front split in
    absurd (omega (arith, e))

pub close_star : (ts rest : List Token) → HasPunctuator punctuators.CloseParenthesis ts rest
    → NoStar ts
close_star ts rest h = λ end g. let q =
    punctuator_same punctuators.CloseParenthesis punctuators.Star h.0 g.0 ts ts rest end refl h.1
    g.1 in let e : punctuators.CloseParenthesis ≡ punctuators.Star = q.0 in cc
