-- The length of an array is read as far as it goes.
use Rattle.std.proofs.Common.{◌≡◌, ◌≤◌, ◌<◌, ℕ, List, [], ◌∷◌, ◌++◌}
use Rattle.std.proofs.Common.{Option, Some, None, refl, sym, ap, ◌∙◌, subst, arith}
use Rattle.c_lex.specs.declared.punctuator.Punctuator.TheVariants as punctuators
use Rattle.c_lex.specs.declared.token.IntegerType.TheVariants as types
use Rattle.c_lex.specs.declared.token.Kind.TheVariants as kinds
use Rattle.c_parse.specs.Words.{Token, Length, Base, IsInteger, SameFirst, place, Failed, Wraps, follows, Stops, postfix, Initialiser, Global, IsInitialiser, IsLength, AreMoreGlobals, token, HasPunctuator, NoPunctuator, APunctuator, end_of, IsBracketed, NoneBracketed, HasBracketed, IsAfterName, NoLength, HasLength}
use Rattle.c_syntax.proofs.Firsts as firsts
use Rattle.c_parse.proofs.Lemmas.{has_same, integer_same, initialiser_stops, globals_stop}
use Rattle.c_syntax.proofs.Spine.{follows_punctuator}
use Rattle.c_parse.proofs.Refusing.{missing, punctuator, digit, has_it, following}
use Rattle.c_parse.proofs.Refusing.{NoInteger, continues as refusing_continues}
use Rattle.c_parse.proofs.Placing.{no_elements}

-- ---- lengths in brackets

abbrev pub length_of : ℕ → ℕ → Length
length_of at value = record { at = at; value = value }

pub no_integer : (text : List ℕ) (base : Base) (pointers at : ℕ) (ts : List Token) → at ≤ 1048576
    → NoInteger ts → Failed 0 (place text ts) (NoneBracketed base pointers at)
    (HasBracketed base pointers at) text ts
no_integer text base pointers at ts w none =
    missing (NoneBracketed base pointers at) (HasBracketed base pointers at) text ts [] ts refl
    (λ text' other s l end h st low. firsts.no_integer ts other s none l.value l.at h.0 h.1)
    (λ text'. record {
      more = digit 0 ∷ punctuator punctuators.CloseBracket ∷ [];
      has = record {
        tree = length_of 0 0;
        is = λ other. (
          punctuator punctuators.CloseBracket ∷ other,
          (types.Int, (0, refl)),
          has_it
              punctuators.CloseBracket other,
        );
        low = λ k. no_elements base pointers at w;
      };
    })

integer_first : (value p : ℕ) (ts b other : List Token) → IsInteger value p ts b
    → SameFirst ts other → (more : List Token) × IsInteger value p other more
integer_first value p ts b other is s = let (literal_type, (literal_end, literal_split)) = is in
    let q = subst (λ (z : List Token). SameFirst z other) literal_split s in
    (q.0, (literal_type, (literal_end, q.1)))

far : (base : Base) (pointers at value p n : ℕ) (text : List ℕ) (ts b : List Token) → 6 ≤ n
    → IsInteger value p ts b → 1048576 < end_of base pointers (Some (length_of p value)) at
    → NoneBracketed base pointers at n text ts
far base pointers at value p n text ts b six is f l end h s low =
    let q = integer_same value l.value p l.at ts ts b h.0 refl is h.1 in
    let e : end_of base pointers (Some (length_of p value)) at ≡ end_of base pointers (Some l) at =
    ap (λ (v : ℕ). end_of base pointers (Some (length_of p v)) at) q.0 in
    let a = low six in
    absurd (omega arith)

pub too_long : (text : List ℕ) (base : Base) (pointers at value p : ℕ) (ts b : List Token)
    → at ≤ 1048576 → IsInteger value p ts b
    → 1048576 < end_of base pointers (Some (length_of p value)) at
    → Failed 6 p (NoneBracketed base pointers at) (HasBracketed base pointers at) text ts
too_long text base pointers at value p ts b w is f =
    let (literal_type, (literal_end, literal_split)) = is in
    let t = token (kinds.Integer value literal_type) p literal_end in record {
      front = [];
      fault = ts;
      split = refl;
      located = sym (ap (λ (z : List Token). place text z) literal_split);
      against = λ text' other a s. let i = integer_first value p ts b other is s in
          far base pointers at value p 6 text' other i.0 (omega arith) i.1 f;
      able = λ text' a k. record {
        more = digit 0 ∷ punctuator punctuators.CloseBracket ∷ [];
        has = record {
          tree = length_of 0 0;
          is = λ other. (
            punctuator punctuators.CloseBracket ∷ other,
            (types.Int, (0, refl)),
            has_it punctuators.CloseBracket other,
          );
          low = λ k. no_elements base pointers at w;
        };
      };
      further = λ text' k a s e. record {
        token = t;
        rest = b;
        more = punctuator punctuators.CloseBracket ∷ [];
        is = literal_split;
        has = record {
          tree = length_of p value;
          is = λ other. (
            punctuator punctuators.CloseBracket ∷ other,
            (literal_type, (literal_end, refl)),
            has_it punctuators.CloseBracket other,
          );
          low = λ six. absurd (omega arith);
        };
      };
    }

pub in_close : (text : List ℕ) (base : Base) (pointers at value p : ℕ) (ts b : List Token)
    → IsInteger value p ts b → end_of base pointers (Some (length_of p value)) at ≤ 1048576
    → Wraps (NoPunctuator punctuators.CloseBracket) (APunctuator punctuators.CloseBracket)
    (NoneBracketed base pointers at) (HasBracketed base pointers at) text b ts
in_close text base pointers at value p ts b is w =
    let (literal_type, (literal_end, literal_split)) = is in
    let t = token (kinds.Integer value literal_type) p literal_end in record {
      before = t ∷ [];
      split = literal_split;
      no = λ n text' other a s x l end h st low.
          let q = integer_same value l.value p l.at (t ∷ other) (t ∷ other) other h.0 refl
          (literal_type, (literal_end, refl)) h.1 in
          x end (subst (λ (z : List Token). HasPunctuator punctuators.CloseBracket z end)
          (sym q.2) h.2);
      has = λ n text' inner a s h. record {
        more = [];
        has = record {
          tree = length_of p value;
          is = λ other. following (λ z. IsBracketed (length_of p value) z other)
              (t ∷ inner) [] other (inner ++ other, (literal_type, (literal_end, refl)), h other);
          low = λ six. w;
        };
      };
    }

pub goes_further : (text : List ℕ) (base : Base) (pointers at value p : ℕ) (ts b rest : List Token)
    → IsInteger value p ts b → HasPunctuator punctuators.CloseBracket b rest
    → end_of base pointers (Some (length_of p value)) at ≤ 1048576 → (Stops postfix rest → ⊥)
    → Failed 0 (place text rest) (NoneBracketed base pointers at) (HasBracketed base pointers at)
    text ts
goes_further text base pointers at value p ts b rest is c w z =
    let (literal_type, (literal_end, literal_split)) = is in
    let (closing_at, (closing_end, closing_split)) = c in
    let t = token (kinds.Integer value literal_type) p literal_end in
    let u = token (kinds.Punctuator punctuators.CloseBracket) closing_at closing_end in
    missing (NoneBracketed base pointers at) (HasBracketed base pointers at) text ts
    (t ∷ u ∷ []) rest (literal_split ∙ ap (λ (x : List Token). t ∷ x) closing_split)
    (λ text' other s l end h st low.
    let q = integer_same value l.value p l.at (t ∷ u ∷ other) (t ∷ u ∷ other) (u ∷ other) h.0 refl
    (literal_type, (literal_end, refl)) h.1 in
    refusing_continues postfix rest other s z
    (subst (λ (x : List Token). Stops postfix x)
    (sym (has_same punctuators.CloseBracket (u ∷ other) h.0 other end q.2
    (closing_at, (closing_end, refl)) h.2)) st))
    (λ text'. record {
      more = [];
      has = record {
        tree = length_of p value;
        is = λ other. (
          u ∷ other,
          (literal_type, (literal_end, refl)),
          (closing_at, (closing_end, refl)),
        );
        low = λ six. w;
      };
    })

-- ---- lengths

pub bracketed : (n : Length) (ts a rest : List Token) → HasPunctuator punctuators.OpenBracket ts a
    → IsBracketed n a rest → IsLength (Some n) ts rest
bracketed n ts a rest o h = record {
  after_opening = a;
  after_inner = h.0;
  opening = o;
  inner = h.1;
  closing = h.2;
}

bracket_not : (ts end b : List Token) → ts ≡ end → Stops postfix end
    → HasPunctuator punctuators.OpenBracket ts b → ⊥
bracket_not ts end b p s o = let a =
    follows_punctuator punctuators.OpenBracket o.0 ts b postfix o.1 refl in let c = ap follows p in
    absurd (omega arith)

-- nothing continues with a length
pub stops : (i : Option Initialiser) (gs : List Global) (a b end : List Token) → IsInitialiser i a b
    → AreMoreGlobals gs b end → Stops postfix a
stops i gs a b end h m = initialiser_stops i a b (globals_stop gs b end m) h

none_bracketed : (base : Base) (pointers at n : ℕ) (text : List ℕ) (ts a : List Token)
    → HasPunctuator punctuators.OpenBracket ts a → NoneBracketed base pointers at n text a
    → NoLength base pointers at n text ts
none_bracketed base pointers at n text ts a o none None i gs end h low =
    absurd (bracket_not ts h.after_length a h.length
    (stops i gs h.after_length h.after_initialiser end h.initialiser h.others) o)
none_bracketed base pointers at n text ts a o none (Some l) i gs end h low =
    none l h.after_length (
      h.length.after_inner,
      subst (λ (x : List Token). IsInteger l.value l.at x h.length.after_inner)
          (has_same punctuators.OpenBracket ts ts h.length.after_opening a refl h.length.opening o)
          h.length.inner,
      h.length.closing,
    )
    (stops i gs h.after_length h.after_initialiser end h.initialiser h.others) low

pub in_bracketed : (text : List ℕ) (base : Base) (pointers at : ℕ) (ts a : List Token)
    → HasPunctuator punctuators.OpenBracket ts a
    → Wraps (NoneBracketed base pointers at) (HasBracketed base pointers at)
    (NoLength base pointers at) (HasLength base pointers at) text a ts
in_bracketed text base pointers at ts a o =
    let (opening_at, (opening_end, opening_split)) = o in
    let t = token (kinds.Punctuator punctuators.OpenBracket) opening_at opening_end in record {
      before = t ∷ [];
      split = opening_split;
      no = λ n text' other b s x. none_bracketed base pointers at n text' (t ∷ other) other
          (opening_at, (opening_end, refl)) x;
      has = λ n text' inner b s h. record {
        more = punctuator punctuators.Semicolon ∷ [];
        has = record {
          length = Some h.tree;
          initialiser = None;
          others = [];
          is = λ other.
              let rest = punctuator punctuators.Semicolon ∷ other in
              following (λ z. IsAfterName (Some h.tree) None [] z other) (t ∷ inner)
              (punctuator punctuators.Semicolon ∷ []) other
              (record {
                after_length = rest;
                after_initialiser = rest;
                length =
                    bracketed h.tree (t ∷ (inner ++ rest)) (inner ++ rest) rest
                    (opening_at, (opening_end, refl))
                    (h.is rest);
                initialiser = refl;
                others = has_it punctuators.Semicolon other;
              });
          low = h.low;
        };
      };
    }
