-- The readers of specifiers and of types look at one token after what they read.
use Rattle.std.specs.Prelude.{option_map, IfSome}
use Rattle.std.proofs.Common.{◌≡◌, ℕ, List, [], ◌∷◌, ◌++◌, Option, Some, None, refl, sym, ap, ◌∙◌}
use Rattle.std.proofs.Common.{subst}
use Rattle.c_lex.specs.declared.keyword.Keyword.TheVariants as keywords
use Rattle.c_lex.specs.declared.punctuator.Punctuator.TheVariants as punctuators
use Rattle.c_lex.specs.declared.token.Kind.{Kind}
use Rattle.c_lex.specs.declared.token.Kind.TheVariants as kinds
use Rattle.c_lex.specs.declared.token.Token.{Token}
use Rattle.c_syntax.specs.declared.expression.Base.{Base}
use Rattle.c_syntax.specs.declared.expression.Base.TheVariants as bases
use Rattle.c_syntax.specs.declared.expression.CType.{CType}
use Rattle.c_syntax.specs.Faults.{SameFirst}
use Rattle.c_syntax.specs.Tokens.{token}
use Rattle.c_syntax.specs.Types.{IsBase, AreStars}
use Rattle.c_syntax.proofs.Failing.{append_append, alike_same, first_after}
use Rattle.c_syntax.proofs.Firsts.{no_punctuator}
use Rattle.c_syntax.proofs.Fronts.{stars_once}
use Rattle.c_syntax.proofs.Moves as moves
use Rattle.c_parse_type.specs.Bases.{past_int, long, signed, unsigned, base, NoStar, EndsBase}
use Rattle.c_parse_type.specs.Bases.{EndsType}
use Rattle.c_parse_type.proofs.Types.{base_only, stars_no_base}

-- ---- what looks at one token more

record Kept (f : List Token → Base × List Token) (ts : List Token) (b : Base)
    (rest : List Token) : Type 0 where
  front : List Token
  split : ts ≡ front ++ rest
  again : (other : List Token) → SameFirst rest other → f (front ++ other) ≡ (b, other)

same : (b : Base) (ts : List Token) → Kept (λ z. (b, z)) ts b ts
same b ts = record { front = []; split = refl; again = λ other s. refl }

empty : (f : List Token → Base × List Token) (b : Base) → f [] ≡ (b, []) → Kept f [] b []
empty f b e = record {
  front = [];
  split = refl;
  again = λ other s. ap f s ∙ e
      ∙ ap (λ (z : List Token). (b, z)) (sym s);
}

stay : (f : List Token → Base × List Token) (b : Base) (t : Token) (ts : List Token)
    → ((more : List Token) → f (t ∷ more) ≡ (b, t ∷ more)) → Kept f (t ∷ ts) b (t ∷ ts)
stay f b t ts e = record {
  front = [];
  split = refl;
  again = λ other s. ap f s.1 ∙ e s.0
      ∙ ap (λ (z : List Token). (b, z)) (sym s.1);
}

step : (f g : List Token → Base × List Token) (t : Token) (ts : List Token) (b : Base)
    (rest : List Token) → ((more : List Token) → f (t ∷ more) ≡ g more) → Kept g ts b rest
    → Kept f (t ∷ ts) b rest
step f g t ts b rest e k =
    record {
      front = t ∷ k.front;
      split = ap (λ (z : List Token). t ∷ z) k.split;
      again = λ other s. e (k.front ++ other) ∙ k.again other s;
    }

abbrev Of : (List Token → Base × List Token) → List Token → Type 0
Of f ts = Kept f ts (f ts).0 (f ts).1

abbrev int_after : Base → List Token → Base × List Token
int_after b ts = (b, past_int ts)

int_kind : (b : Base) (kind : Kind) (start end : ℕ) (ts : List Token)
    → Of (int_after b) (token kind start end ∷ ts)
int_kind b (kinds.Keyword keywords.Int) start end ts =
    step (int_after b) (λ z. (b, z)) (token (kinds.Keyword keywords.Int) start end) ts b ts
    (λ more. refl) (same b ts)
int_kind b kind start end ts = stay (int_after b) b (token kind start end) ts (λ more. refl)

int : (b : Base) (ts : List Token) → Of (int_after b) ts
int b [] = empty (int_after b) b refl
int b (t ∷ ts) = int_kind b t.kind t.start t.end ts

long_kind : (plain wide : Base) (kind : Kind) (start end : ℕ) (ts : List Token)
    → Of (long plain wide) (token kind start end ∷ ts)
long_kind plain wide (kinds.Keyword keywords.Int) start end ts =
    step (long plain wide) (λ z. (plain, z)) (token (kinds.Keyword keywords.Int) start end) ts plain
    ts (λ more. refl) (same plain ts)
long_kind plain wide (kinds.Keyword keywords.Long) start end ts =
    step (long plain wide) (int_after wide) (token (kinds.Keyword keywords.Long) start end) ts wide
    (past_int ts) (λ more. refl) (int wide ts)
long_kind plain wide kind start end ts = stay (long plain wide) plain (token kind start end) ts
    (λ more. refl)

longs : (plain wide : Base) (ts : List Token) → Of (long plain wide) ts
longs plain wide [] = empty (long plain wide) plain refl
longs plain wide (t ∷ ts) = long_kind plain wide t.kind t.start t.end ts

signed_kind : (kind : Kind) (start end : ℕ) (ts : List Token)
    → Of signed (token kind start end ∷ ts)
signed_kind (kinds.Keyword keywords.Char) start end ts =
    step signed (λ z. (bases.Char, z)) (token (kinds.Keyword keywords.Char) start end) ts bases.Char
    ts (λ more. refl) (same bases.Char ts)
signed_kind (kinds.Keyword keywords.Short) start end ts =
    step signed (int_after bases.Short) (token (kinds.Keyword keywords.Short) start end) ts
    bases.Short (past_int ts) (λ more. refl) (int bases.Short ts)
signed_kind (kinds.Keyword keywords.Int) start end ts =
    step signed (λ z. (bases.Int, z)) (token (kinds.Keyword keywords.Int) start end) ts bases.Int ts
    (λ more. refl) (same bases.Int ts)
signed_kind (kinds.Keyword keywords.Long) start end ts = let k =
    longs bases.Int bases.LongLong ts in
    step signed (long bases.Int bases.LongLong) (token (kinds.Keyword keywords.Long) start end) ts
    (long bases.Int bases.LongLong ts).0 (long bases.Int bases.LongLong ts).1 (λ more. refl) k
signed_kind kind start end ts = stay signed bases.Int (token kind start end) ts (λ more. refl)

signeds : (ts : List Token) → Of signed ts
signeds [] = empty signed bases.Int refl
signeds (t ∷ ts) = signed_kind t.kind t.start t.end ts

unsigned_kind : (kind : Kind) (start end : ℕ) (ts : List Token)
    → Of unsigned (token kind start end ∷ ts)
unsigned_kind (kinds.Keyword keywords.Char) start end ts =
    step unsigned (λ z. (bases.UnsignedChar, z)) (token (kinds.Keyword keywords.Char) start end) ts
    bases.UnsignedChar ts (λ more. refl) (same bases.UnsignedChar ts)
unsigned_kind (kinds.Keyword keywords.Short) start end ts =
    step unsigned (int_after bases.UnsignedShort) (token (kinds.Keyword keywords.Short) start end)
    ts bases.UnsignedShort (past_int ts) (λ more. refl) (int bases.UnsignedShort ts)
unsigned_kind (kinds.Keyword keywords.Int) start end ts =
    step unsigned (λ z. (bases.Unsigned, z)) (token (kinds.Keyword keywords.Int) start end) ts
    bases.Unsigned ts (λ more. refl) (same bases.Unsigned ts)
unsigned_kind (kinds.Keyword keywords.Long) start end ts = let k =
    longs bases.Unsigned bases.UnsignedLongLong ts in
    step unsigned (long bases.Unsigned bases.UnsignedLongLong)
    (token (kinds.Keyword keywords.Long) start end) ts
    (long bases.Unsigned bases.UnsignedLongLong ts).0
    (long bases.Unsigned bases.UnsignedLongLong ts).1 (λ more. refl) k
unsigned_kind kind start end ts = stay unsigned bases.Unsigned (token kind start end) ts
    (λ more. refl)

unsigneds : (ts : List Token) → Of unsigned ts
unsigneds [] = empty unsigned bases.Unsigned refl
unsigneds (t ∷ ts) = unsigned_kind t.kind t.start t.end ts

-- ---- bases

ends_from : (g : List Token → Base × List Token) (t : Token) (ts : List Token) (b : Base)
    (rest : List Token) → ((more : List Token) → base (t ∷ more) ≡ Some (g more)) → Kept g ts b rest
    → EndsBase b (t ∷ ts) rest
ends_from g t ts b rest e k = record {
  front = t ∷ k.front;
  split = ap (λ (z : List Token). t ∷ z) k.split;
  only = λ other s d end h n.
      let q : ◌≡◌ {A = Option (Base × List Token)} (Some (b, other)) (Some (d, end)) =
      ap (λ (z : Base × List Token). Some z) (sym (k.again other s))
      ∙ sym (e (k.front ++ other)) ∙ base_only d (t ∷ (k.front ++ other)) end h n in
      let f : ◌≡◌ {A = Base × List Token} (b, other) (d, end) = cc in
      (ap (λ (z : Base × List Token). z.0) f, ap (λ (z : Base × List Token). z.1) f);
}

abbrev EndsAll : List Token → Option (Base × List Token) → Type 0
EndsAll ts None = Unit {0}
EndsAll ts (Some x) = EndsBase x.0 ts x.1

by_kind : (kind : Kind) (start end : ℕ) (ts : List Token)
    → EndsAll (token kind start end ∷ ts) (base (token kind start end ∷ ts))
by_kind (kinds.Keyword keywords.Void) start end ts =
    ends_from (λ z. (bases.Void, z)) (token (kinds.Keyword keywords.Void) start end) ts bases.Void
    ts (λ more. refl) (same bases.Void ts)
by_kind (kinds.Keyword keywords.Char) start end ts =
    ends_from (λ z. (bases.Char, z)) (token (kinds.Keyword keywords.Char) start end) ts bases.Char
    ts (λ more. refl) (same bases.Char ts)
by_kind (kinds.Keyword keywords.Short) start end ts =
    ends_from (int_after bases.Short) (token (kinds.Keyword keywords.Short) start end) ts
    bases.Short (past_int ts) (λ more. refl) (int bases.Short ts)
by_kind (kinds.Keyword keywords.Int) start end ts =
    ends_from (λ z. (bases.Int, z)) (token (kinds.Keyword keywords.Int) start end) ts bases.Int ts
    (λ more. refl) (same bases.Int ts)
by_kind (kinds.Keyword keywords.Long) start end ts =
    ends_from (long bases.Int bases.LongLong) (token (kinds.Keyword keywords.Long) start end) ts
    (long bases.Int bases.LongLong ts).0 (long bases.Int bases.LongLong ts).1 (λ more. refl)
    (longs bases.Int bases.LongLong ts)
by_kind (kinds.Keyword keywords.Signed) start end ts =
    ends_from signed (token (kinds.Keyword keywords.Signed) start end) ts (signed ts).0
    (signed ts).1 (λ more. refl) (signeds ts)
by_kind (kinds.Keyword keywords.Unsigned) start end ts =
    ends_from unsigned (token (kinds.Keyword keywords.Unsigned) start end) ts (unsigned ts).0
    (unsigned ts).1 (λ more. refl) (unsigneds ts)
by_kind kind start end ts = tt

ends_all : (ts : List Token) → EndsAll ts (base ts)
ends_all [] = tt
ends_all (t ∷ ts) = by_kind t.kind t.start t.end ts

pub ends_base : {U : Type 0} (r : Option U) (f : U → Base × List Token) (ts : List Token)
    → option_map f r ≡ base ts → IfSome r (λ x. EndsBase (f x).0 ts (f x).1)
ends_base None f ts e = tt
ends_base (Some x) f ts e = subst (λ (o : Option (Base × List Token)). EndsAll ts o) (sym e)
    (ends_all ts)

-- ---- types

abbrev made : Base → ℕ → CType
made b n = record { base = b; pointers = n }

pub ends_type : (b : Base) (n : ℕ) (ts mid rest : List Token) → EndsBase b ts mid
    → AreStars n mid rest → NoStar rest → EndsType (made b n) ts rest
ends_type b n ts mid rest e h x =
    let s = moves.stars n [] mid rest h in record {
      front = e.front ++ s.front;
      split = e.split ∙ ap (λ (z : List Token). e.front ++ z) s.split
          ∙ sym (append_append e.front s.front rest);
      only = λ other f d end g p q.
          let k = e.only (s.front ++ other)
          (subst (λ (z : List Token). SameFirst z (s.front ++ other)) (sym s.split)
          (first_after s.front rest other f)) d.base g.0
          (subst (λ (z : List Token). IsBase d.base z g.0) (append_append e.front s.front other)
          g.1) (stars_no_base d.pointers g.0 end g.2 p) in
          let r = stars_once n d.pointers (s.front ++ other) g.0 other end k.1
          (no_punctuator punctuators.Star rest other f x) q
          (s.again [] other (alike_same [] mid)) g.2 in
          (ap (λ (z : Base). made z n) k.0 ∙ ap (λ (z : ℕ). made d.base z) r.0, r.1);
    }
