-- What has a type in the grammar is read as that type.
use Rattle.std.proofs.Common.{◌≡◌, ℕ, zero, suc, ◌+◌, List, [], ◌∷◌, Option, Some, None, refl}
use Rattle.std.proofs.Common.{sym, ap, ◌∙◌, subst, inl, inr, arith, length}
use Rattle.c_lex.specs.declared.keyword.Keyword.{Keyword}
use Rattle.c_lex.specs.declared.keyword.Keyword.TheVariants as keywords
use Rattle.c_lex.specs.declared.punctuator.Punctuator.{Punctuator}
use Rattle.c_lex.specs.declared.punctuator.Punctuator.TheVariants as punctuators
use Rattle.c_lex.specs.declared.token.Kind.{Kind}
use Rattle.c_lex.specs.declared.token.Kind.TheVariants as kinds
use Rattle.c_lex.specs.declared.token.Token.{Token}
use Rattle.c_syntax.specs.declared.expression.Base.{Base}
use Rattle.c_syntax.specs.declared.expression.Base.TheVariants as bases
use Rattle.c_syntax.specs.Tokens.{token, IsPunctuator, HasPunctuator, HasKeyword}
use Rattle.c_syntax.specs.Types.{IsBase, AreStars}
use Rattle.c_parse_type.specs.Fronts.{after_keyword, keyword_of, after_punctuator, punctuator_of}
use Rattle.c_parse_type.specs.Bases.{int_or, long_or, signed_or, unsigned_or}
use Rattle.c_parse_type.specs.Bases.{base_or, base}

-- ---- fronts

pub keyword_at : (k : Keyword) (ts rest : List Token) → HasKeyword k ts rest
    → after_keyword ts ≡ Some (k, rest)
keyword_at k ts rest h = ap after_keyword h.1.1

of_kind : (kind : Kind) (start end : ℕ) (ts rest : List Token) (k : Keyword)
    → keyword_of kind ts ≡ Some (k, rest) → HasKeyword k (token kind start end ∷ ts) rest
of_kind (kinds.Keyword j) start end ts rest k e =
    let p : ◌≡◌ {A = Keyword × List Token} (j, ts) (k, rest) = cc in
    subst (λ (x : Keyword × List Token). HasKeyword x.0 (token (kinds.Keyword j) start end ∷ ts)
    x.1) p (start, (end, refl))
of_kind kind start end ts rest k e = absurd cc

pub keyword_is : (ts rest : List Token) (k : Keyword) → after_keyword ts ≡ Some (k, rest)
    → HasKeyword k ts rest
keyword_is [] rest k e = absurd cc
keyword_is (t ∷ ts) rest k e = of_kind t.kind t.start t.end ts rest k e

pub punctuator_at : (s : Punctuator) (at : ℕ) (ts rest : List Token) → IsPunctuator s at ts rest
    → after_punctuator ts ≡ Some (s, at, rest)
punctuator_at s at ts rest h = ap after_punctuator h.1

of_punctuator : (kind : Kind) (start end : ℕ) (ts rest : List Token) (s : Punctuator) (at : ℕ)
    → punctuator_of kind start ts ≡ Some (s, at, rest)
    → IsPunctuator s at (token kind start end ∷ ts) rest
of_punctuator (kinds.Punctuator z) start end ts rest s at e =
    let p : ◌≡◌ {A = Punctuator × ℕ × List Token} (z, start, ts) (s, at, rest) = cc in
    subst (λ (x : Punctuator × ℕ × List Token). IsPunctuator x.0 x.1
    (token (kinds.Punctuator z) start end ∷ ts) x.2) p (end, refl)
of_punctuator kind start end ts rest s at e = absurd cc

pub punctuator_is : (ts rest : List Token) (s : Punctuator) (at : ℕ)
    → after_punctuator ts ≡ Some (s, at, rest) → IsPunctuator s at ts rest
punctuator_is [] rest s at e = absurd cc
punctuator_is (t ∷ ts) rest s at e = of_punctuator t.kind t.start t.end ts rest s at e

-- ---- nothing of a type is at the front

still_int : (o : Option (Keyword × List Token)) (ts : List Token) → base_or o ≡ None
    → int_or o ts ≡ ts
still_int (Some (keywords.Char, rest)) ts e = absurd cc
still_int (Some (keywords.Int, rest)) ts e = absurd cc
still_int (Some (keywords.Long, rest)) ts e = absurd cc
still_int (Some (keywords.Short, rest)) ts e = absurd cc
still_int (Some (keywords.Signed, rest)) ts e = absurd cc
still_int (Some (keywords.Unsigned, rest)) ts e = absurd cc
still_int (Some (keywords.Void, rest)) ts e = absurd cc
still_int o ts e = refl

abbrev paired : Base → List Token → Base × List Token
paired p ts = (p, ts)

long_pair : (p : Base) {ts us : List Token} → ts ≡ us → paired p ts ≡ paired p us
long_pair p e = ap (paired p) e

still_long : (p w : Base) (o : Option (Keyword × List Token)) (ts : List Token) → base_or o ≡ None
    → after_keyword ts ≡ o → long_or p w o ts ≡ (p, ts)
still_long p w (Some (keywords.Char, rest)) ts e q = absurd cc
still_long p w (Some (keywords.Int, rest)) ts e q = absurd cc
still_long p w (Some (keywords.Long, rest)) ts e q = absurd cc
still_long p w (Some (keywords.Short, rest)) ts e q = absurd cc
still_long p w (Some (keywords.Signed, rest)) ts e q = absurd cc
still_long p w (Some (keywords.Unsigned, rest)) ts e q = absurd cc
still_long p w (Some (keywords.Void, rest)) ts e q = absurd cc
still_long p w o ts e q = long_pair p (rw q refl)

still_signed : (o : Option (Keyword × List Token)) (ts : List Token) → base_or o ≡ None
    → signed_or o ts ≡ (bases.Int, ts)
still_signed (Some (keywords.Char, rest)) ts e = absurd cc
still_signed (Some (keywords.Int, rest)) ts e = absurd cc
still_signed (Some (keywords.Long, rest)) ts e = absurd cc
still_signed (Some (keywords.Short, rest)) ts e = absurd cc
still_signed (Some (keywords.Signed, rest)) ts e = absurd cc
still_signed (Some (keywords.Unsigned, rest)) ts e = absurd cc
still_signed (Some (keywords.Void, rest)) ts e = absurd cc
still_signed o ts e = refl

still_unsigned : (o : Option (Keyword × List Token)) (ts : List Token) → base_or o ≡ None
    → unsigned_or o ts ≡ (bases.Unsigned, ts)
still_unsigned (Some (keywords.Char, rest)) ts e = absurd cc
still_unsigned (Some (keywords.Int, rest)) ts e = absurd cc
still_unsigned (Some (keywords.Long, rest)) ts e = absurd cc
still_unsigned (Some (keywords.Short, rest)) ts e = absurd cc
still_unsigned (Some (keywords.Signed, rest)) ts e = absurd cc
still_unsigned (Some (keywords.Unsigned, rest)) ts e = absurd cc
still_unsigned (Some (keywords.Void, rest)) ts e = absurd cc
still_unsigned o ts e = refl

-- ---- what has a type is read

abbrev pub found : Base → List Token → Option (Base × List Token)
found b ts = Some (b, ts)

pub base_complete : (b : Base) (ts rest : List Token) → IsBase b ts rest → base rest ≡ None
    → base ts ≡ Some (b, rest)
base_complete bases.Void ts rest (inl h) n = let e0 = keyword_at keywords.Void ts h.0 h.1 in
    rw e0 (ap (found bases.Void) h.2)
base_complete bases.Void ts rest (inr h) n = absurd h
base_complete bases.Char ts rest (inl h) n = let e0 = keyword_at keywords.Char ts h.0 h.1 in
    rw e0 (ap (found bases.Char) h.2)
base_complete bases.Char ts rest (inr (inl h)) n = let e0 = keyword_at keywords.Signed ts h.0 h.1 in
    let e1 = keyword_at keywords.Char h.0 h.2.0 h.2.1 in rw (e0, e1) (ap (found bases.Char) h.2.2)
base_complete bases.Char ts rest (inr (inr h)) n = absurd h
base_complete bases.UnsignedChar ts rest (inl h) n = let e0 =
    keyword_at keywords.Unsigned ts h.0 h.1 in let e1 = keyword_at keywords.Char h.0 h.2.0 h.2.1 in
    rw (e0, e1) (ap (found bases.UnsignedChar) h.2.2)
base_complete bases.UnsignedChar ts rest (inr h) n = absurd h
base_complete bases.Short ts rest (inl h) n = let m : base h.0 ≡ None = ap base h.2 ∙ n in let e0 =
    keyword_at keywords.Short ts h.0 h.1 in let e1 = still_int (after_keyword h.0) h.0 m in
    rw (e0, e1) (ap (found bases.Short) h.2)
base_complete bases.Short ts rest (inr (inl h)) n = let e0 = keyword_at keywords.Short ts h.0 h.1 in
    let e1 = keyword_at keywords.Int h.0 h.2.0 h.2.1 in rw (e0, e1) (ap (found bases.Short) h.2.2)
base_complete bases.Short ts rest (inr (inr (inl h))) n = let m : base h.2.0 ≡ None =
    ap base h.2.2 ∙ n in let e0 = keyword_at keywords.Signed ts h.0 h.1 in let e1 =
    keyword_at keywords.Short h.0 h.2.0 h.2.1 in let e2 = still_int (after_keyword h.2.0) h.2.0 m in
    rw (e0, e1, e2) (ap (found bases.Short) h.2.2)
base_complete bases.Short ts rest (inr (inr (inr (inl h)))) n = let e0 =
    keyword_at keywords.Signed ts h.0 h.1 in let e1 = keyword_at keywords.Short h.0 h.2.0 h.2.1 in
    let e2 = keyword_at keywords.Int h.2.0 h.2.2.0 h.2.2.1 in
    rw (e0, e1, e2) (ap (found bases.Short) h.2.2.2)
base_complete bases.Short ts rest (inr (inr (inr (inr h)))) n = absurd h
base_complete bases.UnsignedShort ts rest (inl h) n = let m : base h.2.0 ≡ None =
    ap base h.2.2 ∙ n in let e0 = keyword_at keywords.Unsigned ts h.0 h.1 in let e1 =
    keyword_at keywords.Short h.0 h.2.0 h.2.1 in let e2 = still_int (after_keyword h.2.0) h.2.0 m in
    rw (e0, e1, e2) (ap (found bases.UnsignedShort) h.2.2)
base_complete bases.UnsignedShort ts rest (inr (inl h)) n = let e0 =
    keyword_at keywords.Unsigned ts h.0 h.1 in let e1 = keyword_at keywords.Short h.0 h.2.0 h.2.1 in
    let e2 = keyword_at keywords.Int h.2.0 h.2.2.0 h.2.2.1 in
    rw (e0, e1, e2) (ap (found bases.UnsignedShort) h.2.2.2)
base_complete bases.UnsignedShort ts rest (inr (inr h)) n = absurd h
base_complete bases.Int ts rest (inl h) n = let e0 = keyword_at keywords.Int ts h.0 h.1 in
    rw e0 (ap (found bases.Int) h.2)
base_complete bases.Int ts rest (inr (inl h)) n = let m : base h.0 ≡ None = ap base h.2 ∙ n in
    let e0 = keyword_at keywords.Signed ts h.0 h.1 in let e1 =
    still_signed (after_keyword h.0) h.0 m in rw (e0, e1) (ap (found bases.Int) h.2)
base_complete bases.Int ts rest (inr (inr (inl h))) n = let e0 =
    keyword_at keywords.Signed ts h.0 h.1 in let e1 = keyword_at keywords.Int h.0 h.2.0 h.2.1 in
    rw (e0, e1) (ap (found bases.Int) h.2.2)
base_complete bases.Int ts rest (inr (inr (inr (inl h)))) n = let m : base h.0 ≡ None =
    ap base h.2 ∙ n in let e0 = keyword_at keywords.Long ts h.0 h.1 in let e1 =
    still_long bases.Int bases.LongLong (after_keyword h.0) h.0 m refl in
    rw (e0, e1) (ap (found bases.Int) h.2)
base_complete bases.Int ts rest (inr (inr (inr (inr (inl h))))) n = let e0 =
    keyword_at keywords.Long ts h.0 h.1 in let e1 = keyword_at keywords.Int h.0 h.2.0 h.2.1 in
    rw (e0, e1, e1) (ap (found bases.Int) h.2.2)
base_complete bases.Int ts rest (inr (inr (inr (inr (inr (inl h)))))) n =
    let m : base h.2.0 ≡ None = ap base h.2.2 ∙ n in let e0 =
    keyword_at keywords.Signed ts h.0 h.1 in let e1 = keyword_at keywords.Long h.0 h.2.0 h.2.1 in
    let e2 = still_long bases.Int bases.LongLong (after_keyword h.2.0) h.2.0 m refl in
    rw (e0, e1, e2) (ap (found bases.Int) h.2.2)
base_complete bases.Int ts rest (inr (inr (inr (inr (inr (inr (inl h))))))) n = let e0 =
    keyword_at keywords.Signed ts h.0 h.1 in let e1 = keyword_at keywords.Long h.0 h.2.0 h.2.1 in
    let e2 = keyword_at keywords.Int h.2.0 h.2.2.0 h.2.2.1 in
    rw (e0, e1, e2, e2) (ap (found bases.Int) h.2.2.2)
base_complete bases.Int ts rest (inr (inr (inr (inr (inr (inr (inr h))))))) n = absurd h
base_complete bases.Unsigned ts rest (inl h) n = let m : base h.0 ≡ None = ap base h.2 ∙ n in
    let e0 = keyword_at keywords.Unsigned ts h.0 h.1 in let e1 =
    still_unsigned (after_keyword h.0) h.0 m in rw (e0, e1) (ap (found bases.Unsigned) h.2)
base_complete bases.Unsigned ts rest (inr (inl h)) n = let e0 =
    keyword_at keywords.Unsigned ts h.0 h.1 in let e1 = keyword_at keywords.Int h.0 h.2.0 h.2.1 in
    rw (e0, e1) (ap (found bases.Unsigned) h.2.2)
base_complete bases.Unsigned ts rest (inr (inr (inl h))) n = let m : base h.2.0 ≡ None =
    ap base h.2.2 ∙ n in let e0 = keyword_at keywords.Unsigned ts h.0 h.1 in let e1 =
    keyword_at keywords.Long h.0 h.2.0 h.2.1 in let e2 =
    still_long bases.Unsigned bases.UnsignedLongLong (after_keyword h.2.0) h.2.0 m refl in
    rw (e0, e1, e2) (ap (found bases.Unsigned) h.2.2)
base_complete bases.Unsigned ts rest (inr (inr (inr (inl h)))) n = let e0 =
    keyword_at keywords.Unsigned ts h.0 h.1 in let e1 = keyword_at keywords.Long h.0 h.2.0 h.2.1 in
    let e2 = keyword_at keywords.Int h.2.0 h.2.2.0 h.2.2.1 in
    rw (e0, e1, e2, e2) (ap (found bases.Unsigned) h.2.2.2)
base_complete bases.Unsigned ts rest (inr (inr (inr (inr h)))) n = absurd h
base_complete bases.LongLong ts rest (inl h) n = let m : base h.2.0 ≡ None = ap base h.2.2 ∙ n in
    let e0 = keyword_at keywords.Long ts h.0 h.1 in let e1 =
    keyword_at keywords.Long h.0 h.2.0 h.2.1 in let e2 = still_int (after_keyword h.2.0) h.2.0 m in
    rw (e0, e1, e2) (ap (found bases.LongLong) h.2.2)
base_complete bases.LongLong ts rest (inr (inl h)) n = let e0 =
    keyword_at keywords.Long ts h.0 h.1 in let e1 = keyword_at keywords.Long h.0 h.2.0 h.2.1 in
    let e2 = keyword_at keywords.Int h.2.0 h.2.2.0 h.2.2.1 in
    rw (e0, e1, e2) (ap (found bases.LongLong) h.2.2.2)
base_complete bases.LongLong ts rest (inr (inr (inl h))) n = let m : base h.2.2.0 ≡ None =
    ap base h.2.2.2 ∙ n in let e0 = keyword_at keywords.Signed ts h.0 h.1 in let e1 =
    keyword_at keywords.Long h.0 h.2.0 h.2.1 in let e2 =
    keyword_at keywords.Long h.2.0 h.2.2.0 h.2.2.1 in let e3 =
    still_int (after_keyword h.2.2.0) h.2.2.0 m in
    rw (e0, e1, e2, e3) (ap (found bases.LongLong) h.2.2.2)
base_complete bases.LongLong ts rest (inr (inr (inr (inl h)))) n = let e0 =
    keyword_at keywords.Signed ts h.0 h.1 in let e1 = keyword_at keywords.Long h.0 h.2.0 h.2.1 in
    let e2 = keyword_at keywords.Long h.2.0 h.2.2.0 h.2.2.1 in let e3 =
    keyword_at keywords.Int h.2.2.0 h.2.2.2.0 h.2.2.2.1 in
    rw (e0, e1, e2, e3) (ap (found bases.LongLong) h.2.2.2.2)
base_complete bases.LongLong ts rest (inr (inr (inr (inr h)))) n = absurd h
base_complete bases.UnsignedLongLong ts rest (inl h) n = let m : base h.2.2.0 ≡ None =
    ap base h.2.2.2 ∙ n in let e0 = keyword_at keywords.Unsigned ts h.0 h.1 in let e1 =
    keyword_at keywords.Long h.0 h.2.0 h.2.1 in let e2 =
    keyword_at keywords.Long h.2.0 h.2.2.0 h.2.2.1 in let e3 =
    still_int (after_keyword h.2.2.0) h.2.2.0 m in
    rw (e0, e1, e2, e3) (ap (found bases.UnsignedLongLong) h.2.2.2)
base_complete bases.UnsignedLongLong ts rest (inr (inl h)) n = let e0 =
    keyword_at keywords.Unsigned ts h.0 h.1 in let e1 = keyword_at keywords.Long h.0 h.2.0 h.2.1 in
    let e2 = keyword_at keywords.Long h.2.0 h.2.2.0 h.2.2.1 in let e3 =
    keyword_at keywords.Int h.2.2.0 h.2.2.2.0 h.2.2.2.1 in
    rw (e0, e1, e2, e3) (ap (found bases.UnsignedLongLong) h.2.2.2.2)
base_complete bases.UnsignedLongLong ts rest (inr (inr h)) n = absurd h

-- ---- stars

more_stars : (n : ℕ) (ts rest after : List Token) → AreStars n ts rest
    → HasPunctuator punctuators.Star rest after → AreStars (suc n) ts after
more_stars zero ts rest after h g =
    (after, subst (λ (x : List Token). HasPunctuator punctuators.Star x after) (sym h) g, refl)
more_stars (suc n) ts rest after h g = (h.0, h.1, more_stars n h.0 rest after h.2 g)

pub one_star : (n : ℕ) (ts rest after : List Token) → AreStars n ts rest
    → HasPunctuator punctuators.Star rest after → AreStars (n + 1) ts after
one_star n ts rest after h g = let p : suc n ≡ n + 1 = omega arith in
    subst (λ (m : ℕ). AreStars m ts after) p (more_stars n ts rest after h g)

pub star_shorter : (ts rest : List Token) → HasPunctuator punctuators.Star ts rest
    → length ts ≡ suc (length rest)
star_shorter ts rest h = ap length h.1.1

pub punctuator_shorter : (s : Punctuator) (at : ℕ) (ts rest : List Token)
    → IsPunctuator s at ts rest → length ts ≡ suc (length rest)
punctuator_shorter s at ts rest h = ap length h.1
