-- Refusals of phrases: what they carry along, and the shortest ends of phrases.
use Rattle.std.proofs.Common.{◌≡◌, ℕ, List, [], ◌∷◌, ◌++◌, refl, sym, subst, arith}
use Rattle.c_parse_expr.specs.Words.{Punctuator, Token, Expression, Constant, Family, Alike, SameFirst, place, Speaks, Able, Onward, Failed, Wraps, token, HasExpression, IsPlacedRefusal}
use Rattle.c_lex.specs.declared.token.IntegerType.TheVariants as integers
use Rattle.c_lex.specs.declared.token.Kind.TheVariants as kinds
use Rattle.c_syntax.specs.declared.expression.Literal.TheVariants as literals
use Rattle.c_parse_expr.proofs.Lemmas.{append_nothing, wrapped}
use Rattle.c_syntax.specs.Limits.{Number, order}
use Rattle.c_parse_expr.specs.declared.refusal.ParseErr.{ParseErr}
use Rattle.c_parse_expr.specs.declared.refusal.ParseErr.TheVariants as errs

-- ---- refusals

pub placed_so : (e : ParseErr) (No Has No' Has' : Family) (text : List ℕ) (ts ts' : List Token)
    → Wraps No Has No' Has' text ts ts' → IsPlacedRefusal e No Has text ts
    → IsPlacedRefusal e No' Has' text ts'
placed_so (errs.Unexpected at) No Has No' Has' text ts ts' w h = wrapped No Has No' Has' 0 at text
    ts ts' w h
placed_so (errs.TooDeep at) No Has No' Has' text ts ts' w h = wrapped No Has No' Has' 1 at text ts
    ts' w h
placed_so (errs.TooMany at what) No Has No' Has' text ts ts' w h = wrapped No Has No' Has'
    (order (Number what)) at text ts ts' w h
placed_so errs.Memory No Has No' Has' text ts ts' w h = tt

pub placed_as : (e f : ParseErr) (No Has : Family) (text : List ℕ) (ts : List Token) → e ≡ f
    → IsPlacedRefusal f No Has text ts → IsPlacedRefusal e No Has text ts
placed_as e f No Has text ts p h = subst (λ (x : ParseErr). IsPlacedRefusal x No Has text ts)
    (sym p) h

pub unexpected_at : (No Has : Family) (text : List ℕ) (ts front fault : List Token)
    → ts ≡ front ++ fault
    → ((text' : List ℕ) (other : List Token) → Alike text text' ts → SameFirst fault other
    → No 0 text' (front ++ other))
    → ((text' : List ℕ) → Alike text text' ts → Speaks text' → Able Has 7 text' front)
    → Failed 0 (place text fault) No Has text ts
unexpected_at No Has text ts front fault p f g = record {
  front = front;
  fault = fault;
  split = p;
  located = refl;
  against = f;
  able = g;
  further = λ text' k a s e. absurd (omega (arith, e));
}

pub deep_at : (No Has : Family) (text : List ℕ) (ts front fault : List Token) → ts ≡ front ++ fault
    → ((text' : List ℕ) (other : List Token) → Alike text text' ts → SameFirst fault other
    → No 1 text' (front ++ other))
    → ((text' : List ℕ) → Alike text text' ts → Speaks text' → Able Has 7 text' front)
    → ((text' : List ℕ) → Alike text text' ts → Speaks text' → Onward Has 0 text' front fault)
    → Failed 1 (place text fault) No Has text ts
deep_at No Has text ts front fault p f g h = record {
  front = front;
  fault = fault;
  split = p;
  located = refl;
  against = f;
  able = g;
  further = λ text' k a s e. let q : 0 ≡ k = omega (arith, e) in
      subst (λ (z : ℕ). Onward Has z text' front fault) q (h text' a s);
}

pub able_now : (Has : Family) (n : ℕ) (text : List ℕ) (ts : List Token) → Has n text ts
    → Able Has n text ts
able_now Has n text ts h = record {
  more = [];
  has = subst (λ (z : List Token). Has n text z) (sym (append_nothing ts)) h;
}

-- ---- short ends

abbrev pub one : Token
one = token (kinds.Integer 1 integers.Int) 0 0

abbrev pub one_tree : Expression
one_tree = Constant 0 (literals.Integer 1 integers.Int)

abbrev pub punctuator_token : Punctuator → Token
punctuator_token s = token (kinds.Punctuator s) 0 0

pub has_one : (l room n : ℕ) (text : List ℕ) → HasExpression l room n text (one ∷ [])
has_one l room n text = record {
  tree = one_tree;
  derives = λ other. record { fits = omega arith; spells = (0, refl) };
  low = λ k. omega arith;
}

-- without the limit of nesting the room is nothing
pub loosen : (l room other : ℕ) (text : List ℕ) (ts : List Token) → HasExpression l room 0 text ts
    → HasExpression l other 0 text ts
loosen l room other text ts h = record {
  tree = h.tree;
  derives = h.derives;
  low = λ k. omega arith;
}
