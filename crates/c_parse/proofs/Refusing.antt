-- What one refusal says of another phrase; tokens that close phrases; and what isn't at the front.
use Rattle.std.specs.Prelude.{Result, Ok, Err, IfErr}
use Rattle.std.proofs.Common.{◌≡◌, ℕ, List, ◌∷◌, ◌++◌, refl, sym, subst, arith}
use Rattle.c_parse.specs.Words.{Punctuator, Token, Literal, Identifier, literal_kind, IsInteger, Family, SameFirst, place, Able, Failed, Wraps, Stops, token, IsKind, IsPunctuator, IsIdentifier, HasPunctuator, Number, order, ParseErr, Unexpected, TooDeep, TooMany, Memory, IsPlacedRefusal}
use Rattle.c_lex.specs.declared.token.IntegerType.TheVariants as types
use Rattle.c_lex.specs.declared.token.Kind.TheVariants as kinds
use Rattle.c_parse.proofs.Lemmas.{append_append, wrapped}
use Rattle.c_syntax.proofs.Firsts.{first_back, stops}

-- ---- refusals

-- in a greater phrase
pub placed_in : (e : ParseErr) (No Has No' Has' : Family) (text : List ℕ) (ts ts' : List Token)
    → Wraps No Has No' Has' text ts ts' → IsPlacedRefusal e No Has text ts
    → IsPlacedRefusal e No' Has' text ts'
placed_in (Unexpected at) No Has No' Has' text ts ts' w p =
    wrapped No Has No' Has' 0 at text ts ts' w p
placed_in (TooDeep at) No Has No' Has' text ts ts' w p =
    wrapped No Has No' Has' 1 at text ts ts' w p
placed_in (TooMany at what) No Has No' Has' text ts ts' w p =
    wrapped No Has No' Has' (order (Number what)) at text ts ts' w p
placed_in Memory No Has No' Has' text ts ts' w p = tt

-- by what each failure is
pub placed_so : (e : ParseErr) (No Has No' Has' : Family) (text : List ℕ) (ts ts' : List Token)
    → ((kind at : ℕ) → Failed kind at No Has text ts → Failed kind at No' Has' text ts')
    → IsPlacedRefusal e No Has text ts → IsPlacedRefusal e No' Has' text ts'
placed_so (Unexpected at) No Has No' Has' text ts ts' w p = w 0 at p
placed_so (TooDeep at) No Has No' Has' text ts ts' w p = w 1 at p
placed_so (TooMany at what) No Has No' Has' text ts ts' w p = w (order (Number what)) at p
placed_so Memory No Has No' Has' text ts ts' w p = tt

pub refused_so : {A : Type 0} (r : Result A ParseErr) (No Has No' Has' : Family) (text : List ℕ)
    (ts ts' : List Token)
    → ((kind at : ℕ) → Failed kind at No Has text ts → Failed kind at No' Has' text ts')
    → IfErr r (λ e. IsPlacedRefusal e No Has text ts)
    → IfErr r (λ e. IsPlacedRefusal e No' Has' text ts')
refused_so (Ok x) No Has No' Has' text ts ts' w p = tt
refused_so (Err e) No Has No' Has' text ts ts' w p = placed_so e No Has No' Has' text ts ts' w p

-- no phrase continues with the first token of the fault
pub missing : (No Has : Family) (text : List ℕ) (ts front fault : List Token) → ts ≡ front ++ fault
    → ((text' : List ℕ) (other : List Token) → SameFirst fault other → No 0 text' (front ++ other))
    → ((text' : List ℕ) → Able Has 7 text' front)
    → Failed 0 (place text fault) No Has text ts
missing No Has text ts front fault p none able = record {
  front = front;
  fault = fault;
  split = p;
  located = refl;
  against = λ text' other a s. none text' other s;
  able = λ text' a k. able text';
  further = λ text' k a s e. absurd (omega arith);
}

-- ---- tokens that close phrases

abbrev pub punctuator : Punctuator → Token
punctuator s = token (kinds.Punctuator s) 0 0

abbrev pub named : Identifier
named = record { start = 0; end = 0 }

abbrev pub name : Token
name = token kinds.Identifier 0 0

abbrev pub digit : ℕ → Token
digit n = token (kinds.Integer n types.Int) 0 0

pub has_it : (s : Punctuator) (other : List Token) → HasPunctuator s (punctuator s ∷ other) other
has_it s other = (0, (0, refl))

-- two tokens, or some and others, before the rest
pub following : (P : List Token → Type 0) (xs ys zs : List Token) → P (xs ++ (ys ++ zs))
    → P (xs ++ ys ++ zs)
following P xs ys zs h = subst P (sym (append_append xs ys zs)) h

-- ---- what isn't at the front

abbrev pub Lacks : Punctuator → List Token → Type 0
Lacks s ts = (rest : List Token) → HasPunctuator s ts rest → ⊥

abbrev pub LacksAt : Punctuator → List Token → Type 0
LacksAt s ts = (at : ℕ) (rest : List Token) → IsPunctuator s at ts rest → ⊥

abbrev pub NoLiteral : List Token → Type 0
NoLiteral ts = (literal : Literal) (at : ℕ) (rest : List Token)
    → IsKind (literal_kind literal) at ts rest → ⊥

abbrev pub NoInteger : List Token → Type 0
NoInteger ts = (value at : ℕ) (rest : List Token) → IsInteger value at ts rest → ⊥

abbrev pub NoIdentifier : List Token → Type 0
NoIdentifier ts = (n : Identifier) (rest : List Token) → IsIdentifier n ts rest → ⊥

pub continues : (l : ℕ) (ts other : List Token) → SameFirst ts other → (Stops l ts → ⊥)
    → Stops l other → ⊥
continues l ts other h n s = n (stops l other ts (first_back ts other h) s)
