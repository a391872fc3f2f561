-- The length of a local array is read as far as it goes.
use Rattle.std.proofs.Common.{◌≡◌, ◌≤◌, ◌<◌, ℕ, List, [], ◌∷◌, ◌++◌, Option, Some, None, refl, sym, ap, ◌∙◌, subst, arith}
use Rattle.std.specs.Prelude.{IfNone}
use Rattle.c_parse_stmt.specs.Words.{Token, Length, Base, Expression, IsInteger, SameFirst, place, Failed, Wraps, follows, Stops, postfix, assignment, end_of_local, IsLength, IsInitialiser, token, HasPunctuator, NoPunctuator, APunctuator, IsBracketed, NoneBracketed, HasBracketed, NoLength, HasLength}
use Rattle.c_lex.specs.declared.punctuator.Punctuator.TheVariants as punctuators
use Rattle.c_lex.specs.declared.token.IntegerType.TheVariants as types
use Rattle.c_lex.specs.declared.token.Kind.TheVariants as kinds
use Rattle.c_syntax.proofs.Declarations.{initialiser_stops}
use Rattle.c_syntax.proofs.Firsts as firsts
use Rattle.c_syntax.proofs.Once.{integer_same}
use Rattle.c_parse_stmt.proofs.Lemmas.{has_same, follows_punctuator}
use Rattle.c_parse_stmt.proofs.Begins.{punctuator}
use Rattle.c_parse_stmt.proofs.Ends.{flat}
use Rattle.c_parse_stmt.proofs.Placing.{Lacks, lacks_first, missing}
use Rattle.c_parse_stmt.proofs.ArrayEnds.{no_elements}

-- ---- lengths in brackets

abbrev pub length_of : ℕ → ℕ → Length
length_of at value = record { at = at; value = value }

abbrev digit : Token
digit = token (kinds.Integer 0 types.Int) 0 0

-- a length of 0, and the bracket
shortest : (base : Base) (pointers at n : ℕ) (text : List ℕ) → at ≤ 65536
    → HasBracketed base pointers at n text (digit ∷ punctuator punctuators.CloseBracket ∷ [])
shortest base pointers at n text w = record {
  tree = length_of 0 0;
  is = λ other. (
    punctuator punctuators.CloseBracket ∷ other,
    (types.Int, (0, refl)),
    (0, (0, refl)),
  );
  low = λ k. no_elements base pointers at w;
}

pub no_integer : (text : List ℕ) (base : Base) (pointers at : ℕ) (ts : List Token) → at ≤ 65536
    → ((value place : ℕ) (rest : List Token) → IsInteger value place ts rest → ⊥)
    → Failed 0 (place text ts) (NoneBracketed base pointers at) (HasBracketed base pointers at) text
    ts
no_integer text base pointers at ts w none =
    missing (NoneBracketed base pointers at) (HasBracketed base pointers at) text ts [] ts refl
    (λ text' other a s l end h low. firsts.no_integer ts other s none l.value l.at h.0 h.1)
    (λ text' a k. record {
      more = digit ∷ punctuator punctuators.CloseBracket ∷ [];
      has = shortest base pointers at 7 text' w;
    })

integer_first : (value p : ℕ) (ts b other : List Token) → IsInteger value p ts b
    → SameFirst ts other → (more : List Token) × IsInteger value p other more
integer_first value p ts b other is s = let (literal_type, (literal_end, literal_split)) = is in
    let q = subst (λ (z : List Token). SameFirst z other) literal_split s in
    (q.0, (literal_type, (literal_end, q.1)))

far : (base : Base) (pointers at value p n : ℕ) (text : List ℕ) (ts b : List Token) → 3 ≤ n
    → IsInteger value p ts b → 65536 < end_of_local base pointers (Some (length_of p value)) at
    → NoneBracketed base pointers at n text ts
far base pointers at value p n text ts b three is f l end h low =
    let q = integer_same value l.value p l.at ts ts b h.0 refl is h.1 in
    let e : end_of_local base pointers (Some (length_of p value)) at
    ≡ end_of_local base pointers (Some l) at =
    ap (λ (v : ℕ). end_of_local base pointers (Some (length_of p v)) at) q.0 in
    let a = low three in
    absurd (omega arith)

pub too_long : (text : List ℕ) (base : Base) (pointers at value p : ℕ) (ts b : List Token)
    → at ≤ 65536 → IsInteger value p ts b
    → 65536 < end_of_local base pointers (Some (length_of p value)) at
    → Failed 3 p (NoneBracketed base pointers at) (HasBracketed base pointers at) text ts
too_long text base pointers at value p ts b w is f =
    let (literal_type, (literal_end, literal_split)) = is in
    let t = token (kinds.Integer value literal_type) p literal_end in record {
      front = [];
      fault = ts;
      split = refl;
      located = sym (ap (λ (z : List Token). place text z) literal_split);
      against = λ text' other a s. let i = integer_first value p ts b other is s in
          far base pointers at value p 3 text' other i.0 (omega arith) i.1 f;
      able = λ text' a k. record {
        more = digit ∷ punctuator punctuators.CloseBracket ∷ [];
        has = shortest base pointers at 7 text' w;
      };
      further = λ text' k a s e. record {
        token = t;
        rest = b;
        more = punctuator punctuators.CloseBracket ∷ [];
        is = literal_split;
        has = record {
          tree = length_of p value;
          is = λ other. (
            punctuator punctuators.CloseBracket ∷ other,
            (literal_type, (literal_end, refl)),
            (0, (0, refl)),
          );
          low = λ three. absurd (omega arith);
        };
      };
    }

pub in_close : (text : List ℕ) (base : Base) (pointers at value p : ℕ) (ts b : List Token)
    → IsInteger value p ts b → end_of_local base pointers (Some (length_of p value)) at ≤ 65536
    → Wraps (NoPunctuator punctuators.CloseBracket) (APunctuator punctuators.CloseBracket)
    (NoneBracketed base pointers at) (HasBracketed base pointers at) text b ts
in_close text base pointers at value p ts b is w =
    let (literal_type, (literal_end, literal_split)) = is in
    let t = token (kinds.Integer value literal_type) p literal_end in record {
      before = t ∷ [];
      split = literal_split;
      no = λ n text' other a s x l end h low.
          let q = integer_same value l.value p l.at (t ∷ other) (t ∷ other) other h.0 refl
          (literal_type, (literal_end, refl)) h.1 in
          x end (subst (λ (z : List Token). HasPunctuator punctuators.CloseBracket z end)
          (sym q.2) h.2);
      has = λ n text' inner a s h. record {
        more = [];
        has = record {
          tree = length_of p value;
          is = λ other. subst (λ (z : List Token). IsBracketed (length_of p value) z other)
              (sym (flat (t ∷ []) inner [] other))
              (inner ++ other, (literal_type, (literal_end, refl)), h other);
          low = λ three. w;
        };
      };
    }

-- ---- lengths

pub bracketed : (n : Length) (ts a rest : List Token) → HasPunctuator punctuators.OpenBracket ts a
    → IsBracketed n a rest → IsLength (Some n) ts rest
bracketed n ts a rest o h = record {
  after_opening = a;
  after_inner = h.0;
  opening = o;
  inner = h.1;
  closing = h.2;
}

-- no initialiser begins with a bracket
pub bracket_not : (text : List ℕ) (e : Option Expression) (ts mid end b : List Token) → ts ≡ mid
    → IsInitialiser text e mid end → Stops assignment end
    → HasPunctuator punctuators.OpenBracket ts b → ⊥
bracket_not text e ts mid end b p h st o =
    let s = initialiser_stops text e mid end st h in
    let a = follows_punctuator punctuators.OpenBracket o.0 ts b postfix o.1 refl in
    let c = ap follows p in absurd (omega arith)

none_bracketed : (base : Base) (pointers at n : ℕ) (text : List ℕ) (ts a : List Token)
    → HasPunctuator punctuators.OpenBracket ts a → NoneBracketed base pointers at n text a
    → NoLength base pointers at n text ts
none_bracketed base pointers at n text ts a o none None e end h st low =
    absurd (bracket_not text e ts h.after_length end a h.length h.initialiser st o)
none_bracketed base pointers at n text ts a o none (Some l) e end h st low =
    none l h.after_length (
      h.length.after_inner,
      subst (λ (x : List Token). IsInteger l.value l.at x h.length.after_inner)
          (has_same punctuators.OpenBracket ts ts h.length.after_opening a refl h.length.opening o)
          h.length.inner,
      h.length.closing,
    ) low

pub in_bracketed : (text : List ℕ) (base : Base) (pointers at : ℕ) (ts a : List Token)
    → HasPunctuator punctuators.OpenBracket ts a
    → Wraps (NoneBracketed base pointers at) (HasBracketed base pointers at)
    (NoLength base pointers at) (HasLength base pointers at) text a ts
in_bracketed text base pointers at ts a o =
    let (opening_at, (opening_end, opening_split)) = o in
    let t = token (kinds.Punctuator punctuators.OpenBracket) opening_at opening_end in record {
      before = t ∷ [];
      split = opening_split;
      no = λ n text' other b s x. none_bracketed base pointers at n text' (t ∷ other) other
          (opening_at, (opening_end, refl)) x;
      has = λ n text' inner b s h. record {
        more = [];
        has = record {
          tree = h.tree;
          is = λ other. subst (λ (z : List Token). IsLength (Some h.tree) z other)
              (sym (flat (t ∷ []) inner [] other))
              (bracketed h.tree (t ∷ (inner ++ other)) (inner ++ other) other
              (opening_at, (opening_end, refl)) (h.is other));
          low = h.low;
        };
      };
    }

-- ---- the same length

-- no bracket is there where there is no length
abbrev pub Bare : Option Length → List Token → Type 0
Bare l ts = IfNone l (Lacks punctuators.OpenBracket ts)

abbrev sized : ℕ → ℕ → Option Length
sized at value = Some (record { at = at; value = value })

pub same_length : (text : List ℕ) (i j : Option Length) (e : Option Expression)
    (ts rest mid end : List Token) → IsLength i ts rest → Bare i ts → IsLength j ts mid
    → IsInitialiser text e mid end → Stops assignment end → (i ≡ j) × (rest ≡ mid)
same_length text None None e ts rest mid end h bare g is st = (refl, sym h ∙ g)
same_length text None (Some m) e ts rest mid end h bare g is st =
    absurd (bare g.after_opening g.opening)
same_length text (Some n) None e ts rest mid end h bare g is st =
    absurd (bracket_not text e ts mid end h.after_opening g is st h.opening)
same_length text (Some n) (Some m) e ts rest mid end h bare g is st =
    let a = has_same punctuators.OpenBracket ts ts h.after_opening g.after_opening refl h.opening
    g.opening in
    let b = integer_same n.value m.value n.at m.at h.after_opening g.after_opening h.after_inner
    g.after_inner a h.inner g.inner in (
      ap (λ (x : ℕ). sized n.at x) b.0 ∙ ap (λ (x : ℕ). sized x m.value) b.1,
      has_same punctuators.CloseBracket h.after_inner g.after_inner rest mid b.2 h.closing
          g.closing,
    )

-- where other tokens follow
pub still_bare : (i : Option Length) (ts rest us other : List Token) → IsLength i ts rest
    → Bare i ts → IsLength i us other → SameFirst rest other → Bare i us
still_bare None ts rest us other h bare g same = lacks_first punctuators.OpenBracket ts us
    (subst (λ (z : List Token). SameFirst z us) (sym h)
    (subst (λ (z : List Token). SameFirst rest z) (sym g) same)) bare
still_bare (Some n) ts rest us other h bare g same = tt
