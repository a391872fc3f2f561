-- The reader of types is exact.
use Rattle.std.specs.Prelude.{option_map, IfSome}
use Rattle.std.proofs.Common.{◌≡◌, ◌⊎◌, ℕ, zero, suc, List, [], ◌∷◌, Option, Some, None, refl}
use Rattle.std.proofs.Common.{sym, ap, ◌∙◌, subst, inl, inr}
use Rattle.c_lex.specs.declared.keyword.Keyword.{Keyword}
use Rattle.c_lex.specs.declared.keyword.Keyword.TheVariants as keywords
use Rattle.c_lex.specs.declared.token.Token.{Token}
use Rattle.c_syntax.specs.declared.expression.Base.{Base}
use Rattle.c_syntax.specs.declared.expression.Base.TheVariants as bases
use Rattle.c_syntax.specs.declared.expression.CType.{CType}
use Rattle.c_syntax.specs.Tokens.{HasKeyword}
use Rattle.c_syntax.specs.Types.{IsOneOf, IsBase, AreStars}
use Rattle.c_syntax.proofs.Fronts.{stars_once}
use Rattle.c_parse_type.specs.Fronts.{after_keyword}
use Rattle.c_parse_type.specs.Bases.{int_or, past_int, long_or, long, signed_or, unsigned_or}
use Rattle.c_parse_type.specs.Bases.{base_or, base, NoBase, NoStar}
use Rattle.c_parse_type.proofs.TypesAreRead.{keyword_at, keyword_is, found, base_complete}

-- ---- what is read is a type

abbrev prefixed : Keyword → List (List Keyword) → List (List Keyword)
prefixed k [] = []
prefixed k (ks ∷ more) = (k ∷ ks) ∷ prefixed k more

-- the keywords of one of these lists, after one keyword
following : (k : Keyword) (kss : List (List Keyword)) (ts mid rest : List Token)
    → HasKeyword k ts mid → IsOneOf kss mid rest → IsOneOf (prefixed k kss) ts rest
following k [] ts mid rest h g = absurd g
following k (ks ∷ more) ts mid rest h (inl g) = inl (mid, h, g)
following k (ks ∷ more) ts mid rest h (inr g) = inr (following k more ts mid rest h g)

abbrev maybe_int : List (List Keyword)
maybe_int = [] ∷ (keywords.Int ∷ []) ∷ []

int_read : (o : Option (Keyword × List Token)) (ts : List Token) → after_keyword ts ≡ o
    → IsOneOf maybe_int ts (int_or o ts)
int_read (Some (keywords.Int, rest)) ts e =
    inr (inl (rest, keyword_is ts rest keywords.Int e, refl))
int_read o ts e = inl refl

-- `long` names the one base or the other
record Longs (plain wide b : Base) (ts rest : List Token) : Type 0 where
  read : ((b ≡ plain) × IsOneOf maybe_int ts rest)
      ⊎ ((b ≡ wide) × IsOneOf (prefixed keywords.Long maybe_int) ts rest)

long_read : (p w : Base) (o : Option (Keyword × List Token)) (ts : List Token)
    → after_keyword ts ≡ o → Longs p w (long_or p w o ts).0 ts (long_or p w o ts).1
long_read p w (Some (keywords.Long, rest)) ts e =
    record {
      read = inr (
        refl,
        following keywords.Long maybe_int ts rest (past_int rest)
            (keyword_is ts rest keywords.Long e) (int_read (after_keyword rest) rest refl),
      );
    }
long_read p w o ts e = record { read = inl (refl, int_read (after_keyword ts) ts refl) }

-- Lists after keywords that were read, as spellings of a base.
abbrev Puts : List (List Keyword) → Base → Type 0
Puts kss b = (ts rest : List Token) → IsOneOf kss ts rest → IsBase b ts rest

short_puts : Puts ((keywords.Short ∷ []) ∷ (keywords.Short ∷ keywords.Int ∷ []) ∷ []) bases.Short
short_puts ts rest (inl h) = inl h
short_puts ts rest (inr (inl h)) = inr (inl h)
short_puts ts rest (inr (inr h)) = absurd h

signed_short_puts : Puts
    ((keywords.Signed ∷ keywords.Short ∷ [])
    ∷ (keywords.Signed ∷ keywords.Short ∷ keywords.Int ∷ []) ∷ []) bases.Short
signed_short_puts ts rest (inl h) = inr (inr (inl h))
signed_short_puts ts rest (inr (inl h)) = inr (inr (inr (inl h)))
signed_short_puts ts rest (inr (inr h)) = absurd h

unsigned_short_puts : Puts
    ((keywords.Unsigned ∷ keywords.Short ∷ [])
    ∷ (keywords.Unsigned ∷ keywords.Short ∷ keywords.Int ∷ []) ∷ []) bases.UnsignedShort
unsigned_short_puts ts rest (inl h) = inl h
unsigned_short_puts ts rest (inr (inl h)) = inr (inl h)
unsigned_short_puts ts rest (inr (inr h)) = absurd h

long_puts : Puts ((keywords.Long ∷ []) ∷ (keywords.Long ∷ keywords.Int ∷ []) ∷ []) bases.Int
long_puts ts rest (inl h) = inr (inr (inr (inl h)))
long_puts ts rest (inr (inl h)) = inr (inr (inr (inr (inl h))))
long_puts ts rest (inr (inr h)) = absurd h

long_long_puts : Puts
    ((keywords.Long ∷ keywords.Long ∷ []) ∷ (keywords.Long ∷ keywords.Long ∷ keywords.Int ∷ [])
    ∷ []) bases.LongLong
long_long_puts ts rest (inl h) = inl h
long_long_puts ts rest (inr (inl h)) = inr (inl h)
long_long_puts ts rest (inr (inr h)) = absurd h

signed_long_puts : Puts
    ((keywords.Signed ∷ keywords.Long ∷ []) ∷ (keywords.Signed ∷ keywords.Long ∷ keywords.Int ∷ [])
    ∷ []) bases.Int
signed_long_puts ts rest (inl h) = inr (inr (inr (inr (inr (inl h)))))
signed_long_puts ts rest (inr (inl h)) = inr (inr (inr (inr (inr (inr (inl h))))))
signed_long_puts ts rest (inr (inr h)) = absurd h

signed_long_long_puts : Puts
    ((keywords.Signed ∷ keywords.Long ∷ keywords.Long ∷ [])
    ∷ (keywords.Signed ∷ keywords.Long ∷ keywords.Long ∷ keywords.Int ∷ []) ∷ []) bases.LongLong
signed_long_long_puts ts rest (inl h) = inr (inr (inl h))
signed_long_long_puts ts rest (inr (inl h)) = inr (inr (inr (inl h)))
signed_long_long_puts ts rest (inr (inr h)) = absurd h

unsigned_long_puts : Puts
    ((keywords.Unsigned ∷ keywords.Long ∷ [])
    ∷ (keywords.Unsigned ∷ keywords.Long ∷ keywords.Int ∷ []) ∷ []) bases.Unsigned
unsigned_long_puts ts rest (inl h) = inr (inr (inl h))
unsigned_long_puts ts rest (inr (inl h)) = inr (inr (inr (inl h)))
unsigned_long_puts ts rest (inr (inr h)) = absurd h

unsigned_long_long_puts : Puts
    ((keywords.Unsigned ∷ keywords.Long ∷ keywords.Long ∷ [])
    ∷ (keywords.Unsigned ∷ keywords.Long ∷ keywords.Long ∷ keywords.Int ∷ []) ∷ [])
    bases.UnsignedLongLong
unsigned_long_long_puts ts rest (inl h) = inl h
unsigned_long_long_puts ts rest (inr (inl h)) = inr (inl h)
unsigned_long_long_puts ts rest (inr (inr h)) = absurd h

as_base : (b c : Base) (ts rest : List Token) → c ≡ b → IsBase b ts rest → IsBase c ts rest
as_base b c ts rest e h = subst (λ (x : Base). IsBase x ts rest) (sym e) h

signed_read : (o : Option (Keyword × List Token)) (ts mid : List Token)
    → HasKeyword keywords.Signed ts mid → after_keyword mid ≡ o
    → IsBase (signed_or o mid).0 ts (signed_or o mid).1
signed_read (Some (keywords.Char, rest)) ts mid h e =
    inr (inl (mid, h, (rest, keyword_is mid rest keywords.Char e, refl)))
signed_read (Some (keywords.Int, rest)) ts mid h e =
    inr (inr (inl (mid, h, (rest, keyword_is mid rest keywords.Int e, refl))))
signed_read (Some (keywords.Long, rest)) ts mid h e =
    let r = long_read bases.Int bases.LongLong (after_keyword rest) rest refl in
    let k = keyword_is mid rest keywords.Long e in
    elim (r.read) [
      | inl x ↦ as_base bases.Int (long bases.Int bases.LongLong rest).0 ts
          ((long bases.Int bases.LongLong rest).1) x.0
          (signed_long_puts ts ((long bases.Int bases.LongLong rest).1)
          (following keywords.Signed (prefixed keywords.Long maybe_int) ts mid
          ((long bases.Int bases.LongLong rest).1) h
          (following keywords.Long maybe_int mid rest ((long bases.Int bases.LongLong rest).1) k
          x.1)))
      | inr x ↦ as_base bases.LongLong (long bases.Int bases.LongLong rest).0 ts
          ((long bases.Int bases.LongLong rest).1) x.0
          (signed_long_long_puts ts ((long bases.Int bases.LongLong rest).1)
          (following keywords.Signed (prefixed keywords.Long (prefixed keywords.Long maybe_int)) ts
          mid ((long bases.Int bases.LongLong rest).1) h
          (following keywords.Long (prefixed keywords.Long maybe_int) mid rest
          ((long bases.Int bases.LongLong rest).1) k x.1)))
    ]
signed_read (Some (keywords.Short, rest)) ts mid h e =
    signed_short_puts ts (past_int rest)
    (following keywords.Signed (prefixed keywords.Short maybe_int) ts mid (past_int rest) h
    (following keywords.Short maybe_int mid rest (past_int rest)
    (keyword_is mid rest keywords.Short e) (int_read (after_keyword rest) rest refl)))
signed_read o ts mid h e = inr (inl (mid, h, refl))

unsigned_read : (o : Option (Keyword × List Token)) (ts mid : List Token)
    → HasKeyword keywords.Unsigned ts mid → after_keyword mid ≡ o
    → IsBase (unsigned_or o mid).0 ts (unsigned_or o mid).1
unsigned_read (Some (keywords.Char, rest)) ts mid h e =
    inl (mid, h, (rest, keyword_is mid rest keywords.Char e, refl))
unsigned_read (Some (keywords.Int, rest)) ts mid h e =
    inr (inl (mid, h, (rest, keyword_is mid rest keywords.Int e, refl)))
unsigned_read (Some (keywords.Long, rest)) ts mid h e =
    let r = long_read bases.Unsigned bases.UnsignedLongLong (after_keyword rest) rest refl in
    let k = keyword_is mid rest keywords.Long e in
    elim (r.read) [
      | inl x ↦ as_base bases.Unsigned (long bases.Unsigned bases.UnsignedLongLong rest).0 ts
          ((long bases.Unsigned bases.UnsignedLongLong rest).1) x.0
          (unsigned_long_puts ts ((long bases.Unsigned bases.UnsignedLongLong rest).1)
          (following keywords.Unsigned (prefixed keywords.Long maybe_int) ts mid
          ((long bases.Unsigned bases.UnsignedLongLong rest).1) h
          (following keywords.Long maybe_int mid rest
          ((long bases.Unsigned bases.UnsignedLongLong rest).1) k x.1)))
      | inr x ↦ as_base bases.UnsignedLongLong (long bases.Unsigned bases.UnsignedLongLong rest).0
          ts ((long bases.Unsigned bases.UnsignedLongLong rest).1) x.0
          (unsigned_long_long_puts ts ((long bases.Unsigned bases.UnsignedLongLong rest).1)
          (following keywords.Unsigned (prefixed keywords.Long (prefixed keywords.Long maybe_int))
          ts mid ((long bases.Unsigned bases.UnsignedLongLong rest).1) h
          (following keywords.Long (prefixed keywords.Long maybe_int) mid rest
          ((long bases.Unsigned bases.UnsignedLongLong rest).1) k x.1)))
    ]
unsigned_read (Some (keywords.Short, rest)) ts mid h e =
    unsigned_short_puts ts (past_int rest)
    (following keywords.Unsigned (prefixed keywords.Short maybe_int) ts mid (past_int rest) h
    (following keywords.Short maybe_int mid rest (past_int rest)
    (keyword_is mid rest keywords.Short e) (int_read (after_keyword rest) rest refl)))
unsigned_read o ts mid h e = inl (mid, h, refl)

abbrev Based : List Token → Option (Base × List Token) → Type 0
Based ts None = Unit {0}
Based ts (Some x) = IsBase x.0 ts x.1

base_read : (o : Option (Keyword × List Token)) (ts : List Token) → after_keyword ts ≡ o
    → Based ts (base_or o)
base_read (Some (keywords.Char, rest)) ts e = inl (rest, keyword_is ts rest keywords.Char e, refl)
base_read (Some (keywords.Int, rest)) ts e = inl (rest, keyword_is ts rest keywords.Int e, refl)
base_read (Some (keywords.Long, rest)) ts e =
    let r = long_read bases.Int bases.LongLong (after_keyword rest) rest refl in
    let k = keyword_is ts rest keywords.Long e in
    elim (r.read) [
      | inl x ↦ as_base bases.Int (long bases.Int bases.LongLong rest).0 ts
          ((long bases.Int bases.LongLong rest).1) x.0
          (long_puts ts ((long bases.Int bases.LongLong rest).1)
          (following keywords.Long maybe_int ts rest ((long bases.Int bases.LongLong rest).1) k
          x.1))
      | inr x ↦ as_base bases.LongLong (long bases.Int bases.LongLong rest).0 ts
          ((long bases.Int bases.LongLong rest).1) x.0
          (long_long_puts ts ((long bases.Int bases.LongLong rest).1)
          (following keywords.Long (prefixed keywords.Long maybe_int) ts rest
          ((long bases.Int bases.LongLong rest).1) k x.1))
    ]
base_read (Some (keywords.Short, rest)) ts e =
    short_puts ts (past_int rest) (following keywords.Short maybe_int ts rest (past_int rest)
    (keyword_is ts rest keywords.Short e) (int_read (after_keyword rest) rest refl))
base_read (Some (keywords.Signed, rest)) ts e =
    signed_read (after_keyword rest) ts rest (keyword_is ts rest keywords.Signed e) refl
base_read (Some (keywords.Unsigned, rest)) ts e =
    unsigned_read (after_keyword rest) ts rest (keyword_is ts rest keywords.Unsigned e) refl
base_read (Some (keywords.Void, rest)) ts e = inl (rest, keyword_is ts rest keywords.Void e, refl)
base_read o ts e = tt

pub base_sound : (ts : List Token) (x : Base × List Token) → base ts ≡ Some x → IsBase x.0 ts x.1
base_sound ts x e = subst (λ (o : Option (Base × List Token)). Based ts o) e
    (base_read (after_keyword ts) ts refl)

-- ---- whole types

stars_none : (n : ℕ) (ts rest : List Token) → AreStars n ts rest → base rest ≡ None → base ts ≡ None
stars_none zero ts rest h e = ap base h ∙ e
stars_none (suc n) ts rest h e = ap base h.1.1.1

abbrev pub typed : Base → ℕ → List Token → Option (CType × List Token)
typed b n rest = Some (record { base = b; pointers = n }, rest)

none_read : (ts : List Token) (o : Option (Base × List Token)) → base ts ≡ o → NoBase ts → o ≡ None
none_read ts None e n = refl
none_read ts (Some x) e n = absurd (n x.0 x.1 (base_sound ts x e))

pub no_base : (ts : List Token) → NoBase ts → base ts ≡ None
no_base ts n = none_read ts (base ts) refl n

pub base_only : (b : Base) (ts rest : List Token) → IsBase b ts rest → NoBase rest
    → base ts ≡ found b rest
base_only b ts rest h n = base_complete b ts rest h (no_base rest n)

-- a base is at the front of whatever one is read from
base_begins : (b : Base) (ts rest : List Token) → IsBase b ts rest → base ts ≡ None → ⊥
base_begins bases.Void ts rest (inl h) e = let k =
    ap base_or (keyword_at keywords.Void ts h.0 h.1) in cc
base_begins bases.Void ts rest (inr h) e = absurd h
base_begins bases.Char ts rest (inl h) e = let k =
    ap base_or (keyword_at keywords.Char ts h.0 h.1) in cc
base_begins bases.Char ts rest (inr (inl h)) e = let k =
    ap base_or (keyword_at keywords.Signed ts h.0 h.1) in cc
base_begins bases.Char ts rest (inr (inr h)) e = absurd h
base_begins bases.UnsignedChar ts rest (inl h) e = let k =
    ap base_or (keyword_at keywords.Unsigned ts h.0 h.1) in cc
base_begins bases.UnsignedChar ts rest (inr h) e = absurd h
base_begins bases.Short ts rest (inl h) e = let k =
    ap base_or (keyword_at keywords.Short ts h.0 h.1) in cc
base_begins bases.Short ts rest (inr (inl h)) e = let k =
    ap base_or (keyword_at keywords.Short ts h.0 h.1) in cc
base_begins bases.Short ts rest (inr (inr (inl h))) e = let k =
    ap base_or (keyword_at keywords.Signed ts h.0 h.1) in cc
base_begins bases.Short ts rest (inr (inr (inr (inl h)))) e = let k =
    ap base_or (keyword_at keywords.Signed ts h.0 h.1) in cc
base_begins bases.Short ts rest (inr (inr (inr (inr h)))) e = absurd h
base_begins bases.UnsignedShort ts rest (inl h) e = let k =
    ap base_or (keyword_at keywords.Unsigned ts h.0 h.1) in cc
base_begins bases.UnsignedShort ts rest (inr (inl h)) e = let k =
    ap base_or (keyword_at keywords.Unsigned ts h.0 h.1) in cc
base_begins bases.UnsignedShort ts rest (inr (inr h)) e = absurd h
base_begins bases.Int ts rest (inl h) e = let k = ap base_or (keyword_at keywords.Int ts h.0 h.1) in
    cc
base_begins bases.Int ts rest (inr (inl h)) e = let k =
    ap base_or (keyword_at keywords.Signed ts h.0 h.1) in cc
base_begins bases.Int ts rest (inr (inr (inl h))) e = let k =
    ap base_or (keyword_at keywords.Signed ts h.0 h.1) in cc
base_begins bases.Int ts rest (inr (inr (inr (inl h)))) e = let k =
    ap base_or (keyword_at keywords.Long ts h.0 h.1) in cc
base_begins bases.Int ts rest (inr (inr (inr (inr (inl h))))) e = let k =
    ap base_or (keyword_at keywords.Long ts h.0 h.1) in cc
base_begins bases.Int ts rest (inr (inr (inr (inr (inr (inl h)))))) e = let k =
    ap base_or (keyword_at keywords.Signed ts h.0 h.1) in cc
base_begins bases.Int ts rest (inr (inr (inr (inr (inr (inr (inl h))))))) e = let k =
    ap base_or (keyword_at keywords.Signed ts h.0 h.1) in cc
base_begins bases.Int ts rest (inr (inr (inr (inr (inr (inr (inr h))))))) e = absurd h
base_begins bases.Unsigned ts rest (inl h) e = let k =
    ap base_or (keyword_at keywords.Unsigned ts h.0 h.1) in cc
base_begins bases.Unsigned ts rest (inr (inl h)) e = let k =
    ap base_or (keyword_at keywords.Unsigned ts h.0 h.1) in cc
base_begins bases.Unsigned ts rest (inr (inr (inl h))) e = let k =
    ap base_or (keyword_at keywords.Unsigned ts h.0 h.1) in cc
base_begins bases.Unsigned ts rest (inr (inr (inr (inl h)))) e = let k =
    ap base_or (keyword_at keywords.Unsigned ts h.0 h.1) in cc
base_begins bases.Unsigned ts rest (inr (inr (inr (inr h)))) e = absurd h
base_begins bases.LongLong ts rest (inl h) e = let k =
    ap base_or (keyword_at keywords.Long ts h.0 h.1) in cc
base_begins bases.LongLong ts rest (inr (inl h)) e = let k =
    ap base_or (keyword_at keywords.Long ts h.0 h.1) in cc
base_begins bases.LongLong ts rest (inr (inr (inl h))) e = let k =
    ap base_or (keyword_at keywords.Signed ts h.0 h.1) in cc
base_begins bases.LongLong ts rest (inr (inr (inr (inl h)))) e = let k =
    ap base_or (keyword_at keywords.Signed ts h.0 h.1) in cc
base_begins bases.LongLong ts rest (inr (inr (inr (inr h)))) e = absurd h
base_begins bases.UnsignedLongLong ts rest (inl h) e = let k =
    ap base_or (keyword_at keywords.Unsigned ts h.0 h.1) in cc
base_begins bases.UnsignedLongLong ts rest (inr (inl h)) e = let k =
    ap base_or (keyword_at keywords.Unsigned ts h.0 h.1) in cc
base_begins bases.UnsignedLongLong ts rest (inr (inr h)) e = absurd h

pub read_none : (ts : List Token) → base ts ≡ None → NoBase ts
read_none ts e = λ b rest h. base_begins b ts rest h e

pub stars_no_base : (n : ℕ) (ts rest : List Token) → AreStars n ts rest → NoBase rest → NoBase ts
stars_no_base n ts rest h x = read_none ts (stars_none n ts rest h (no_base rest x))

pub type_from : (mid rest end : List Token) (b : Base) (n : ℕ) (t : CType) {o : List Token}
    → found b mid ≡ found t.base o → AreStars n mid rest → NoStar rest → AreStars t.pointers o end
    → NoStar end → typed b n rest ≡ typed t.base t.pointers end
type_from mid rest end b n t {o = o} d a s h y =
    let f : ◌≡◌ {A = Base × List Token} (b, mid) (t.base, o) = cc in
    let q = stars_once n t.pointers mid o rest end (ap (λ (z : Base × List Token). z.1) f) s y a
    h in
    ap (λ (z : Base × List Token). typed z.0 n rest) f ∙ ap (λ (m : ℕ). typed t.base m rest) q.0
    ∙ ap (λ (z : List Token). typed t.base t.pointers z) q.1

pub found_so : {U : Type 0} (r : Option U) (f : U → Base × List Token) (ts : List Token)
    → option_map f r ≡ base ts → IfSome r (λ x. IsBase (f x).0 ts (f x).1)
found_so None f ts e = tt
found_so (Some x) f ts e = base_sound ts (f x) (sym e)
