-- Refusals of one phrase are such of another, and what refuses a token.
use Rattle.std.proofs.Common.{◌≡◌, ℕ, List, [], ◌∷◌, ◌++◌, refl, ap, arith}
use Rattle.c_parse_stmt.specs.Words.{Punctuator, Token, Family, Alike, SameFirst, place, Speaks, Able, Failed, Wraps, token, HasPunctuator, Number, order, ParseErr, Unexpected, TooDeep, TooMany, Memory, IsPlacedRefusal, NoPunctuator, APunctuator}
use Rattle.c_lex.specs.declared.token.Kind.TheVariants as kinds
use Rattle.c_parse_stmt.proofs.Lemmas.{first_keeps, wrapped, front}

-- a refusal of a phrase in a greater one
pub placed_so : (e : ParseErr) (No Has No' Has' : Family) (text : List ℕ) (ts ts' : List Token)
    → Wraps No Has No' Has' text ts ts' → IsPlacedRefusal e No Has text ts
    → IsPlacedRefusal e No' Has' text ts'
placed_so (Unexpected at) No Has No' Has' text ts ts' w f = wrapped No Has No' Has' 0 at text ts ts'
    w f
placed_so (TooDeep at) No Has No' Has' text ts ts' w f = wrapped No Has No' Has' 1 at text ts ts' w
    f
placed_so (TooMany at what) No Has No' Has' text ts ts' w f = wrapped No Has No' Has'
    (order (Number what)) at text ts ts' w f
placed_so Memory No Has No' Has' text ts ts' w f = tt

-- ---- what is reported by the first token

-- the punctuator isn't at the front
abbrev pub Lacks : Punctuator → List Token → Type 0
Lacks s ts = (rest : List Token) → HasPunctuator s ts rest → ⊥

pub has_elsewhere : (s : Punctuator) (t : Token) (xs ys rest : List Token)
    → HasPunctuator s (t ∷ xs) rest → HasPunctuator s (t ∷ ys) ys
has_elsewhere s t xs ys rest h =
    let e : t ∷ xs ≡ token (kinds.Punctuator s) h.0 h.1.0 ∷ rest = h.1.1 in
    let p : t ≡ token (kinds.Punctuator s) h.0 h.1.0 = cc in
    (h.0, (h.1.0, ap (λ (z : Token). z ∷ ys) p))

pub lacks_first : (s : Punctuator) (ts other : List Token) → SameFirst ts other → Lacks s ts
    → Lacks s other
lacks_first s ts other same none = first_keeps (Lacks s)
    (λ t xs ys n rest h. n xs (has_elsewhere s t ys xs rest h)) ts other same none

pub front_first : (ts other : List Token) → SameFirst ts other → front ts ≡ front other
front_first ts other same = first_keeps (λ z. front ts ≡ front z) (λ t xs ys n. n) ts other same
    refl

-- ---- a token that is missing

pub missing : (No Has : Family) (text : List ℕ) (ts before fault : List Token)
    → ts ≡ before ++ fault → ((text' : List ℕ) (other : List Token) → Alike text text' ts
    → SameFirst fault other → No 0 text' (before ++ other))
    → ((text' : List ℕ) → Alike text text' ts → Speaks text' → Able Has 7 text' before)
    → Failed 0 (place text fault) No Has text ts
missing No Has text ts before fault split against
    able = record {
      front = before;
      fault = fault;
      split = split;
      located = refl;
      against = against;
      able = able;
      further = λ text' k a s e. absurd (omega arith);
    }

pub no_punctuator : (s : Punctuator) (text : List ℕ) (ts : List Token) → Lacks s ts
    → Failed 0 (place text ts) (NoPunctuator s) (APunctuator s) text ts
no_punctuator s text ts none = missing (NoPunctuator s) (APunctuator s) text ts [] ts refl
    (λ text' other a same. lacks_first s ts other same none)
    (λ text' a k. record {
      more = token (kinds.Punctuator s) 0 0 ∷ [];
      has = λ other. (0, (0, refl));
    })
