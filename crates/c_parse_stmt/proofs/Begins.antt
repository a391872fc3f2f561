-- What begins with a token: expressions, statements and types.
use Rattle.std.proofs.Common.{◌≡◌, ◌≤◌, ℕ, List, [], ◌∷◌, Some, None, refl, sym, ap, ◌∙◌, arith, inl, inr, ◌⊎◌}
use Rattle.c_parse_stmt.specs.Words.{Keyword, Punctuator, Kind, Token, Base, Identifier, Increment, Expression, Constant, Variable, Information, Parentheses, Prefix, Unary, SameFirst, Speaks, unary_punctuator, increment_punctuator, token, IsBase, NoBase, Expressed, BeginsExpression, BeginsNoExpression}
use Rattle.c_lex.specs.declared.keyword.Keyword.TheVariants as keywords
use Rattle.c_lex.specs.declared.punctuator.Punctuator.TheVariants as punctuators
use Rattle.c_lex.specs.declared.token.Kind.TheVariants as kinds
use Rattle.c_syntax.specs.declared.expression.Base.TheVariants as bases
use Rattle.c_syntax.specs.declared.expression.Field.TheVariants as fields
use Rattle.c_syntax.specs.declared.expression.Literal.TheVariants as literals
use Rattle.c_syntax.specs.declared.operator.UnaryOperator.{UnaryOperator}
use Rattle.c_syntax.specs.declared.operator.UnaryOperator.TheVariants as unary_operators
use Rattle.c_syntax.specs.declared.operator.Increment.TheVariants as increments
use Rattle.c_parse_stmt.proofs.Lemmas.{keyword_class, punctuator_class, kind_class, front, base_front, expression_front}
use Rattle.c_parse_type.specs.Fronts.{first}
use Rattle.c_parse_stmt.proofs.Placing.{front_first}

-- ---- tokens of the shortest endings

abbrev pub punctuator : Punctuator → Token
punctuator s = token (kinds.Punctuator s) 0 0

abbrev pub keyword : Keyword → Token
keyword k = token (kinds.Keyword k) 0 0

-- a name, as a token and as an expression
abbrev pub a_name : Identifier
a_name = record { start = 0; end = 0 }

abbrev pub name : Token
name = token kinds.Identifier 0 0

abbrev pub variable : Expression
variable = Variable a_name

-- ---- expressions

expressed_by_keyword : (text : List ℕ) → Speaks text → (k : Keyword) (at end : ℕ)
    → keyword_class k ≤ 5 → Expressed text (token (kinds.Keyword k) at end)
expressed_by_keyword text s keywords.GetExceptionInformation at end h = record {
  more = punctuator punctuators.OpenParenthesis ∷ punctuator punctuators.CloseParenthesis
      ∷ punctuator punctuators.Arrow ∷ token kinds.Identifier s.of_record.start s.of_record.end
      ∷ punctuator punctuators.Arrow ∷ token kinds.Identifier s.of_code.start s.of_code.end ∷ [];
  tree = Information at fields.Code;
  derives = λ other. record {
    fits = omega arith;
    spells = record {
      after_introduction = _;
      introduction = record {
        after_keyword = _;
        after_opening = _;
        after_closing = _;
        after_arrow = _;
        after_record = _;
        keyword = (end, refl);
        opening = (0, (0, refl));
        closing = (0, (0, refl));
        arrow = (0, (0, refl));
        of_record = (s.of_record, refl, s.spells_record);
        last_arrow = (0, (0, refl));
      };
      field = (s.of_code, refl, s.spells_code);
    };
  };
  over = refl;
}
expressed_by_keyword text s k at end h = absurd (omega arith)

expressed_by_unary : (text : List ℕ) (op : UnaryOperator) (at end : ℕ)
    → Expressed text (token (kinds.Punctuator (unary_punctuator op)) at end)
expressed_by_unary text op at end = record {
  more = name ∷ [];
  tree = Unary at op variable;
  derives = λ other. record {
    fits = omega arith;
    spells = record {
      after_operator = _;
      operator = (end, refl);
      operand = record { fits = omega arith; spells = refl };
    };
  };
  over = refl;
}

expressed_by_increment : (text : List ℕ) (op : Increment) (at end : ℕ)
    → Expressed text (token (kinds.Punctuator (increment_punctuator op)) at end)
expressed_by_increment text op at end = record {
  more = name ∷ [];
  tree = Prefix at op variable;
  derives = λ other. record {
    fits = omega arith;
    spells = record {
      after_operator = _;
      operator = (end, refl);
      operand = record { fits = omega arith; spells = refl };
    };
  };
  over = refl;
}

expressed_by_punctuator : (text : List ℕ) (s : Punctuator) (at end : ℕ) → punctuator_class s ≤ 5
    → Expressed text (token (kinds.Punctuator s) at end)
expressed_by_punctuator text punctuators.OpenParenthesis at end h = record {
  more = name ∷ punctuator punctuators.CloseParenthesis ∷ [];
  tree = Parentheses at variable;
  derives = λ other. record {
    fits = omega arith;
    spells = record {
      after_opening = _;
      after_inner = _;
      opening = (end, refl);
      inner = refl;
      closing = (0, (0, refl));
    };
  };
  over = refl;
}
expressed_by_punctuator text punctuators.Ampersand at end h = expressed_by_unary text
    unary_operators.AddressOf at end
expressed_by_punctuator text punctuators.Plus at end h = expressed_by_unary text
    unary_operators.Plus at end
expressed_by_punctuator text punctuators.Minus at end h = expressed_by_unary text
    unary_operators.Minus at end
expressed_by_punctuator text punctuators.Star at end h = expressed_by_unary text
    unary_operators.Indirection at end
expressed_by_punctuator text punctuators.Exclamation at end h = expressed_by_unary text
    unary_operators.LogicalNot at end
expressed_by_punctuator text punctuators.Tilde at end h = expressed_by_unary text
    unary_operators.Complement at end
expressed_by_punctuator text punctuators.PlusPlus at end h = expressed_by_increment text
    increments.Increment at end
expressed_by_punctuator text punctuators.MinusMinus at end h = expressed_by_increment text
    increments.Decrement at end
expressed_by_punctuator text s at end h = absurd (omega arith)

expressed_by : (text : List ℕ) → Speaks text → (k : Kind) (at end : ℕ) → kind_class k ≤ 5
    → Expressed text (token k at end)
expressed_by text s kinds.Identifier at end h =
    record {
      more = [];
      tree = Variable (record { start = at; end = end });
      derives = λ other. record { fits = omega arith; spells = refl };
      over = refl;
    }
expressed_by text s (kinds.Keyword k) at end h = expressed_by_keyword text s k at end h
expressed_by text s (kinds.Reserved r) at end h = absurd (omega arith)
expressed_by text s (kinds.Integer value type) at end
    h = record {
      more = [];
      tree = Constant at (literals.Integer value type);
      derives = λ other. record { fits = omega arith; spells = (end, refl) };
      over = refl;
    }
expressed_by text s (kinds.CharacterConstant value) at end
    h = record {
      more = [];
      tree = Constant at (literals.CharacterConstant value);
      derives = λ other. record { fits = omega arith; spells = (end, refl) };
      over = refl;
    }
expressed_by text s (kinds.Punctuator z) at end h = expressed_by_punctuator text z at end h

pub expressed : (text : List ℕ) → Speaks text → (t : Token) → kind_class t.kind ≤ 5
    → Expressed text t
expressed text s t h = expressed_by text s t.kind t.start t.end h

pub begins_expression : (ts : List Token) → front ts ≤ 5 → BeginsExpression ts
begins_expression [] h = absurd (omega arith)
begins_expression (t ∷ ts) h = record {
  first = t;
  rest = ts;
  split = refl;
  holds = λ text s. expressed text s t h;
}

pub begins_none : (ts : List Token) → (front ts ≤ 5 → ⊥) → BeginsNoExpression ts
begins_none ts shut text other same e rest h = let p = front_first ts other same in
    let q = expression_front text e other rest h.spells in shut (omega arith)

-- ---- which punctuators and keywords begin an expression

abbrev Opening : Punctuator → Type 0
Opening s = (s ≡ punctuators.OpenParenthesis)
    ⊎ ((s ≡ punctuators.PlusPlus) ⊎ ((s ≡ punctuators.MinusMinus)
    ⊎ ((s ≡ punctuators.Plus) ⊎ ((s ≡ punctuators.Minus)
    ⊎ ((s ≡ punctuators.Exclamation) ⊎ ((s ≡ punctuators.Tilde)
    ⊎ ((s ≡ punctuators.Star) ⊎ (s ≡ punctuators.Ampersand))))))))

punctuator_low : (s z : Punctuator) → s ≡ z → punctuator_class z ≤ 5 → punctuator_class s ≤ 5
punctuator_low s z e h = let p = ap punctuator_class e in omega arith

pub opening_class : (s : Punctuator) → Opening s → punctuator_class s ≤ 5
opening_class s (inl e) = punctuator_low s _ e (omega arith)
opening_class s (inr (inl e)) = punctuator_low s _ e (omega arith)
opening_class s (inr (inr (inl e))) = punctuator_low s _ e (omega arith)
opening_class s (inr (inr (inr (inl e)))) = punctuator_low s _ e (omega arith)
opening_class s (inr (inr (inr (inr (inl e))))) = punctuator_low s _ e (omega arith)
opening_class s (inr (inr (inr (inr (inr (inl e)))))) = punctuator_low s _ e (omega arith)
opening_class s (inr (inr (inr (inr (inr (inr (inl e))))))) = punctuator_low s _ e (omega arith)
opening_class s (inr (inr (inr (inr (inr (inr (inr (inl e)))))))) = punctuator_low s _ e
    (omega arith)
opening_class s (inr (inr (inr (inr (inr (inr (inr (inr e)))))))) = punctuator_low s _ e
    (omega arith)

class_opening : (s : Punctuator) → punctuator_class s ≤ 5 → Opening s
class_opening punctuators.OpenParenthesis h = inl refl
class_opening punctuators.Ampersand h = inr (inr (inr (inr (inr (inr (inr (inr refl)))))))
class_opening punctuators.Plus h = inr (inr (inr (inl refl)))
class_opening punctuators.Minus h = inr (inr (inr (inr (inl refl))))
class_opening punctuators.Star h = inr (inr (inr (inr (inr (inr (inr (inl refl)))))))
class_opening punctuators.Exclamation h = inr (inr (inr (inr (inr (inl refl)))))
class_opening punctuators.Tilde h = inr (inr (inr (inr (inr (inr (inl refl))))))
class_opening punctuators.PlusPlus h = inr (inl refl)
class_opening punctuators.MinusMinus h = inr (inr (inl refl))
class_opening s h = absurd (omega arith)

class_intrinsic : (k : Keyword) → keyword_class k ≤ 5 → k ≡ keywords.GetExceptionInformation
class_intrinsic keywords.GetExceptionInformation h = refl
class_intrinsic k h = absurd (omega arith)

unopened : (s : Punctuator) → (s ≡ punctuators.OpenParenthesis → ⊥) → (s ≡ punctuators.PlusPlus → ⊥)
    → (s ≡ punctuators.MinusMinus → ⊥) → (s ≡ punctuators.Plus → ⊥) → (s ≡ punctuators.Minus → ⊥)
    → (s ≡ punctuators.Exclamation → ⊥) → (s ≡ punctuators.Tilde → ⊥) → (s ≡ punctuators.Star → ⊥)
    → (s ≡ punctuators.Ampersand → ⊥) → Opening s → ⊥
unopened s a b c d e f g i j (inl h) = a h
unopened s a b c d e f g i j (inr (inl h)) = b h
unopened s a b c d e f g i j (inr (inr (inl h))) = c h
unopened s a b c d e f g i j (inr (inr (inr (inl h)))) = d h
unopened s a b c d e f g i j (inr (inr (inr (inr (inl h))))) = e h
unopened s a b c d e f g i j (inr (inr (inr (inr (inr (inl h)))))) = f h
unopened s a b c d e f g i j (inr (inr (inr (inr (inr (inr (inl h))))))) = g h
unopened s a b c d e f g i j (inr (inr (inr (inr (inr (inr (inr (inl h)))))))) = i h
unopened s a b c d e f g i j (inr (inr (inr (inr (inr (inr (inr (inr h)))))))) = j h

pub shut_punctuator : (s : Punctuator) → (s ≡ punctuators.OpenParenthesis → ⊥)
    → (s ≡ punctuators.PlusPlus → ⊥) → (s ≡ punctuators.MinusMinus → ⊥) → (s ≡ punctuators.Plus → ⊥)
    → (s ≡ punctuators.Minus → ⊥) → (s ≡ punctuators.Exclamation → ⊥) → (s ≡ punctuators.Tilde → ⊥)
    → (s ≡ punctuators.Star → ⊥) → (s ≡ punctuators.Ampersand → ⊥) → punctuator_class s ≤ 5 → ⊥
shut_punctuator s a b c d e f g i j h = unopened s a b c d e f g i j (class_opening s h)

pub shut_keyword : (k : Keyword) → (k ≡ keywords.GetExceptionInformation → ⊥) → keyword_class k ≤ 5
    → ⊥
shut_keyword k other h = other (class_intrinsic k h)

-- ---- by the token that was found at the front

pub front_is : (ts rest : List Token) (t : Token) → Some (t, rest) ≡ first ts → ts ≡ t ∷ rest
front_is [] rest t e = cc
front_is (x ∷ xs) rest t e = let p : (t, rest) ≡ (x, xs) = cc in
    ap (λ (z : Token × List Token). z.0 ∷ z.1) (sym p)

pub front_none : (ts : List Token) → None ≡ first ts → ts ≡ []
front_none [] e = refl
front_none (x ∷ xs) e = cc

pub class_is : (ts rest : List Token) (t : Token) (k : Kind) → Some (t, rest) ≡ first ts
    → t.kind ≡ k → front ts ≡ kind_class k
class_is ts rest t k e q = ap front (front_is ts rest t e) ∙ ap kind_class q

-- ---- types

keyword_base : (k : Keyword) (at end : ℕ) (xs : List Token) → keyword_class k ≡ 7
    → (b : Base) × IsBase b (token (kinds.Keyword k) at end ∷ xs) xs
keyword_base keywords.Char at end xs h = (bases.Char, inl (xs, (at, (end, refl)), refl))
keyword_base keywords.Int at end xs h = (bases.Int, inl (xs, (at, (end, refl)), refl))
keyword_base keywords.Long at end xs h = (
  bases.Int,
  inr (inr (inr (inl (xs, (at, (end, refl)), refl)))),
)
keyword_base keywords.Short at end xs h = (bases.Short, inl (xs, (at, (end, refl)), refl))
keyword_base keywords.Signed at end xs h = (bases.Int, inr (inl (xs, (at, (end, refl)), refl)))
keyword_base keywords.Unsigned at end xs h = (bases.Unsigned, inl (xs, (at, (end, refl)), refl))
keyword_base keywords.Void at end xs h = (bases.Void, inl (xs, (at, (end, refl)), refl))
keyword_base k at end xs h = absurd (omega arith)

pub punctuator_untyped : (s : Punctuator) → punctuator_class s ≡ 7 → ⊥
punctuator_untyped punctuators.OpenParenthesis h = absurd (omega arith)
punctuator_untyped s h = absurd (omega arith)

kind_base : (k : Kind) (at end : ℕ) (xs : List Token) → kind_class k ≡ 7
    → (b : Base) × IsBase b (token k at end ∷ xs) xs
kind_base kinds.Identifier at end xs h = absurd (omega arith)
kind_base (kinds.Keyword k) at end xs h = keyword_base k at end xs h
kind_base (kinds.Reserved r) at end xs h = absurd (omega arith)
kind_base (kinds.Integer value type) at end xs h = absurd (omega arith)
kind_base (kinds.CharacterConstant value) at end xs h = absurd (omega arith)
kind_base (kinds.Punctuator s) at end xs h = absurd (punctuator_untyped s h)

pub base_at : (t : Token) (xs : List Token) → kind_class t.kind ≡ 7
    → (b : Base) × IsBase b (t ∷ xs) xs
base_at t xs h = kind_base t.kind t.start t.end xs h

pub untyped : (ts : List Token) → NoBase ts → front ts ≡ 7 → ⊥
untyped [] none h = absurd (omega arith)
untyped (t ∷ ts) none h = let b = base_at t ts h in none b.0 ts b.1

pub base_first : (ts other : List Token) → SameFirst ts other → NoBase ts → NoBase other
base_first ts other same none b rest h =
    let p = front_first ts other same in
    untyped ts none (p ∙ base_front b other rest h)
