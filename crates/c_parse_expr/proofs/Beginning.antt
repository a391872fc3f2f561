-- Operands whose parts fail, and first tokens of operands that fail themselves.
use Rattle.std.proofs.Common.{◌≡◌, ◌≤◌, ◌<◌, ◌+◌, ◌-◌, ◌⊎◌, ℕ, ℤ, List, [], ◌∷◌, ◌++◌, Option, Some, None, true, is_some, refl, sym, ap, ◌∙◌, subst, inl, inr, arith}
use Rattle.std.proofs.lemmas.List.{append_cancel_right}
use Rattle.c_parse_expr.specs.Words.{Keyword, Punctuator, Kind, Token, CType, Literal, Identifier, Increment, UnaryOperator, Constant, Variable, Information, Call, Parentheses, Prefix, Unary, Cast, literal_kind, SameFirst, place, Failed, Wraps, unary, cast, assignment, increment_punctuator, unary_punctuator, unary_of, increment_of, token, IsKind, IsPunctuator, IsIdentifier, HasPunctuator, IsType, NoBase, EndsType, first, NoExpression, HasExpression, NoneEnclosed, HasEnclosed, NoArguments, HasArguments, NoOperand, NoInformation, HasInformation, CanBeginExpression, NeverBegins, BeginsOperand, Parenthesis, Steps, Operates}
use Rattle.c_lex.specs.declared.keyword.Keyword.TheVariants as keywords
use Rattle.c_lex.specs.declared.punctuator.Punctuator.TheVariants as punctuators
use Rattle.c_lex.specs.declared.token.IntegerType.{IntegerType}
use Rattle.c_lex.specs.declared.token.Kind.TheVariants as kinds
use Rattle.c_syntax.specs.declared.expression.Literal.TheVariants as literals
use Rattle.c_syntax.specs.declared.operator.Increment.TheVariants as increments
use Rattle.c_syntax.specs.declared.operator.UnaryOperator.TheVariants as unary_operators
use Rattle.c_syntax.proofs.Firsts as firsts
use Rattle.c_parse_expr.proofs.Lemmas.{append_append, alike_inner, front, kind_class, expression_front, increment_only, unary_only}
use Rattle.c_syntax.proofs.Moves as moved
use Rattle.c_parse_expr.proofs.Departing.{introduction, ends, has_information}
use Rattle.c_parse_expr.proofs.Operands.{none_begins, no_call, no_operator, no_room, no_prefixed, no_unary, no_cast, not_cast, no_group, OnlyType}
use Rattle.c_parse_expr.proofs.Placing.{unexpected_at, deep_at, able_now, one, one_tree, punctuator_token, has_one, loosen}

abbrev Open : ℕ → List Token → List Token → Type 0
Open at ts rest = IsPunctuator punctuators.OpenParenthesis at ts rest

-- ---- names and the exception's record

pub call_wraps : (l room : ℕ) (x : Identifier) (text : List ℕ) (ts rest b : List Token)
    → IsIdentifier x ts rest → HasPunctuator punctuators.OpenParenthesis rest b
    → Wraps (NoArguments room) (HasArguments room) (NoOperand l room) (HasExpression l room) text b
    ts
call_wraps l room x text ts rest b i h =
    let name = token kinds.Identifier x.start x.end in
    let paren = token (kinds.Punctuator punctuators.OpenParenthesis) h.0 h.1.0 in
    record {
      before = name ∷ paren ∷ [];
      split = i ∙ ap (λ (z : List Token). name ∷ z) h.1.1;
      no = λ n text' other a s y. no_call text' n l room x (name ∷ paren ∷ other) (paren ∷ other)
          other refl (h.0, (h.1.0, refl)) y;
      has = λ n text' inner a k g. able_now (HasExpression l room) n text' (name ∷ paren ∷ inner)
          (record {
            tree = Call x g.trees;
            derives = λ other. record {
              fits = omega arith;
              spells = record {
                after_name = paren ∷ (inner ++ other);
                after_opening = inner ++ other;
                called = refl;
                opening = (h.0, (h.1.0, refl));
                arguments = g.spells other;
              };
            };
            low = g.low;
          });
    }

pub information_wraps : (l room : ℕ) (text : List ℕ) (ts : List Token)
    → ((x : Literal) (at : ℕ) (rest : List Token) → IsKind (literal_kind x) at ts rest → ⊥)
    → ((x : Identifier) (rest : List Token) → IsIdentifier x ts rest → ⊥)
    → ((s : Punctuator) (at : ℕ) (rest : List Token) → IsPunctuator s at ts rest → ⊥)
    → Wraps NoInformation HasInformation (NoOperand l room) (HasExpression l room) text ts ts
information_wraps l room text ts no_literal no_name no_punctuator = record {
  before = [];
  split = refl;
  no = λ n text' other a s x.
      none_begins text' n l room other
      (firsts.no_literal ts other s no_literal)
      (firsts.no_name ts other s no_name)
      x
      (λ y. firsts.no_kind (kinds.Punctuator y) ts other s (no_punctuator y));
  has = λ n text' inner a k h. able_now (HasExpression l room) n text' inner
      (record {
        tree = Information h.at h.field;
        derives = λ other. record { fits = omega arith; spells = h.spells other };
        low = λ q. omega arith;
      });
}

-- ---- operators before an operand

prefixed : (l room n : ℕ) (s : Punctuator) (op : Increment) (at end : ℕ) (text : List ℕ)
    (inner : List Token) → unary ≤ l → (1 ≤ n → 1 ≤ room) → increment_of s ≡ Some op → HasExpression
    unary (room - 1) n text inner → HasExpression l room n text (token (kinds.Punctuator s) at end
    ∷ inner)
prefixed l room n s op at end text inner p r e h =
    let q : s ≡ increment_punctuator op = increment_only op s e in
    record {
      tree = Prefix at op h.tree;
      derives = λ other. record {
        fits = omega arith;
        spells = record {
          after_operator = inner ++ other;
          operator = (
            end,
            ap (λ (z : Punctuator). token (kinds.Punctuator z) at end ∷ (inner ++ other)) q,
          );
          operand = h.derives other;
        };
      };
      low = λ k. let y = h.low k in let z = r k in omega arith;
    }

unaried : (l room n : ℕ) (s : Punctuator) (op : UnaryOperator) (at end : ℕ) (text : List ℕ)
    (inner : List Token) → unary ≤ l → (1 ≤ n → 1 ≤ room) → unary_of s ≡ Some op → HasExpression
    cast (room - 1) n text inner → HasExpression l room n text (token (kinds.Punctuator s) at end
    ∷ inner)
unaried l room n s op at end text inner p r e h =
    let q : s ≡ unary_punctuator op = unary_only op s e in
    record {
      tree = Unary at op h.tree;
      derives = λ other. record {
        fits = omega arith;
        spells = record {
          after_operator = inner ++ other;
          operator = (
            end,
            ap (λ (z : Punctuator). token (kinds.Punctuator z) at end ∷ (inner ++ other)) q,
          );
          operand = h.derives other;
        };
      };
      low = λ k. let y = h.low k in let z = r k in omega arith;
    }

pub prefix_wraps : (l room : ℕ) (s : Punctuator) (op : Increment) (at : ℕ) (text : List ℕ)
    (ts rest : List Token) → unary ≤ l → 1 ≤ room → IsPunctuator s at ts rest → increment_of s ≡
    Some op → Wraps (NoExpression unary (room - 1)) (HasExpression unary (room - 1))
    (NoOperand l room)
    (HasExpression l room) text rest ts
prefix_wraps l room s op at text ts rest p r h e = record {
  before = token (kinds.Punctuator s) at h.0 ∷ [];
  split = h.1;
  no = λ n text' other a f x. no_prefixed text' n l room s op at
      (token (kinds.Punctuator s) at h.0 ∷ other) other (h.0, refl) e x;
  has = λ n text' inner a k g. able_now (HasExpression l room) n text'
      (token (kinds.Punctuator s) at h.0 ∷ inner)
      (prefixed l room n s op at h.0 text' inner p (λ q. r) e g);
}

pub unary_wraps : (l room : ℕ) (s : Punctuator) (op : UnaryOperator) (at : ℕ) (text : List ℕ)
    (ts rest : List Token) → unary ≤ l → 1 ≤ room → IsPunctuator s at ts rest → unary_of s ≡ Some op
    → Wraps (NoExpression cast (room - 1)) (HasExpression cast (room - 1)) (NoOperand l room)
    (HasExpression l room) text rest ts
unary_wraps l room s op at text ts rest p r h e = record {
  before = token (kinds.Punctuator s) at h.0 ∷ [];
  split = h.1;
  no = λ n text' other a f x. no_unary text' n l room s op at
      (token (kinds.Punctuator s) at h.0 ∷ other) other (h.0, refl) e x;
  has = λ n text' inner a k g. able_now (HasExpression l room) n text'
      (token (kinds.Punctuator s) at h.0 ∷ inner)
      (unaried l room n s op at h.0 text' inner p (λ q. r) e g);
}

-- ---- after `(`

grouped : (l room n at end : ℕ) (text : List ℕ) (inner : List Token)
    → HasEnclosed punctuators.CloseParenthesis room n text inner
    → HasExpression l (room + 1) n text (token (kinds.Punctuator punctuators.OpenParenthesis) at end
    ∷ inner)
grouped l room n at end text inner h = record {
  tree = Parentheses at h.tree;
  derives = λ other.
      let x = h.encloses other in
      record {
        fits = omega arith;
        spells = record {
          after_opening = inner ++ other;
          after_inner = x.mid;
          opening = (end, refl);
          inner = x.spells;
          closing = x.closed;
        };
      };
  low = λ k. let y = h.low k in omega arith;
}

pub group_wraps : (l room at : ℕ) (text : List ℕ) (ts rest : List Token) → Open at ts rest
    → ((cast ≤ l) → NoBase rest) → Wraps (NoneEnclosed punctuators.CloseParenthesis room)
    (HasEnclosed punctuators.CloseParenthesis room) (NoOperand l (room + 1))
    (HasExpression l (room + 1)) text rest ts
group_wraps l room at text ts rest h b =
    let paren = token (kinds.Punctuator punctuators.OpenParenthesis) at h.0 in
    record {
      before = paren ∷ [];
      split = h.1;
      no = λ n text' other a s x. no_group text' n l room at (paren ∷ other) other (h.0, refl)
          (λ q. firsts.no_base rest other s (b q)) x;
      has = λ n text' inner a k g. able_now (HasExpression l (room + 1)) n text' (paren ∷ inner)
          (grouped l room n at h.0 text' inner g);
    }

-- the type that is read there is read there with other tokens after it that begin alike
only_there : (to : CType) (rest mid front other : List Token) → EndsType to rest mid
    → rest ≡ front ++ mid → SameFirst mid other → OnlyType (front ++ other) other
only_there to rest mid front other w p s =
    let q : w.front ≡ front = append_cancel_right w.front front mid (sym w.split ∙ p) in
    λ u end t n m. (w.only other s u end (subst (λ (z : List Token). IsType u (z ++ other) end)
    (sym q) t) n m).1

pub cast_wraps : (l room at : ℕ) (to : CType) (text : List ℕ) (ts rest mid after : List Token)
    → cast ≤ l → Open at ts rest → IsType to rest mid → EndsType to rest mid
    → HasPunctuator punctuators.CloseParenthesis mid after
    → Wraps (NoExpression cast room) (HasExpression cast room) (NoOperand l (room + 1))
    (HasExpression l (room + 1)) text after ts
cast_wraps l room at to text ts rest mid after p h t w g =
    let m = moved.type to text rest mid t in
    let paren = token (kinds.Punctuator punctuators.OpenParenthesis) at h.0 in
    let close = token (kinds.Punctuator punctuators.CloseParenthesis) g.0 g.1.0 in
    record {
      before = paren ∷ (m.front ++ (close ∷ []));
      split = h.1 ∙ ap (λ (z : List Token). paren ∷ z)
          (m.split ∙ ap (λ z. m.front ++ z) g.1.1 ∙ sym (append_append m.front (close ∷ []) after));
      no = λ n text' other a s x.
          let b = alike_inner text text' (paren ∷ []) rest ts h.1 a in
          subst (λ (z : List Token). NoOperand l (room + 1) n text' (paren ∷ z))
          (sym (append_append m.front (close ∷ []) other))
          (not_cast text' n l room at to (paren ∷ (m.front ++ close ∷ other))
          (m.front ++ close ∷ other) (close ∷ other) other (h.0, refl)
          (m.again text' (close ∷ other) b)
          (only_there to rest mid m.front (close ∷ other) w m.split
          (subst (λ (z : List Token). SameFirst z (close ∷ other)) (sym g.1.1) (other, refl)))
          (g.0, (g.1.0, refl)) x);
      has = λ n text' inner a k f. able_now (HasExpression l (room + 1)) n text'
          (paren ∷ ((m.front ++ (close ∷ [])) ++ inner))
          (record {
            tree = Cast at to f.tree;
            derives = λ other.
                let b = alike_inner text text' (paren ∷ []) rest ts h.1 a in
                let e : ((m.front ++ (close ∷ [])) ++ inner) ++ other
                ≡ m.front ++ (close ∷ (inner ++ other)) =
                append_append (m.front ++ (close ∷ [])) inner other
                ∙ append_append m.front (close ∷ []) (inner ++ other) in
                let y = subst (λ (z : List Token). IsType to z (close ∷ (inner ++ other))) (sym e)
                (m.again text' (close ∷ (inner ++ other)) b) in
                record {
                  fits = p;
                  spells = record {
                    after_operator = inner ++ other;
                    operator = record {
                      after_opening = ((m.front ++ (close ∷ [])) ++ inner) ++ other;
                      after_inner = close ∷ (inner ++ other);
                      opening = (h.0, refl);
                      inner = y;
                      closing = (g.0, (g.1.0, refl));
                    };
                    operand = f.derives other;
                  };
                };
            low = λ q. let y = f.low q in omega arith;
          });
    }

pub cast_unclosed : (l room at : ℕ) (to : CType) (text : List ℕ) (ts rest mid : List Token)
    → cast ≤ l → Open at ts rest → IsType to rest mid → EndsType to rest mid
    → ((end : List Token) → HasPunctuator punctuators.CloseParenthesis mid end → ⊥)
    → Failed 0 (place text mid) (NoOperand l (room + 1)) (HasExpression l (room + 1)) text ts
cast_unclosed l room at to text ts rest mid p h t w x =
    let m = moved.type to text rest mid t in
    let paren = token (kinds.Punctuator punctuators.OpenParenthesis) at h.0 in
    let close = punctuator_token punctuators.CloseParenthesis in
    unexpected_at (NoOperand l (room + 1)) (HasExpression l (room + 1)) text ts (paren ∷ m.front)
    mid (h.1 ∙ ap (λ (z : List Token). paren ∷ z) m.split)
    (λ text' other a s.
    no_cast text' 0 l room at to (paren ∷ (m.front ++ other)) (m.front ++ other) other (h.0, refl)
    (m.again text' other (alike_inner text text' (paren ∷ []) rest ts h.1 a))
    (only_there to rest mid m.front other w m.split s)
    (λ e c end z d st low. firsts.no_punctuator punctuators.CloseParenthesis mid other s x c z))
    (λ text' a k. record {
      more = close ∷ one ∷ [];
      has = record {
        tree = Cast at to one_tree;
        derives = λ other.
            let b = alike_inner text text' (paren ∷ []) rest ts h.1 a in
            let y = subst (λ (z : List Token). IsType to z (close ∷ one ∷ other))
            (sym (append_append m.front (close ∷ one ∷ []) other))
            (m.again text' (close ∷ one ∷ other) b) in
            record {
              fits = p;
              spells = record {
                after_operator = one ∷ other;
                operator = record {
                  after_opening = (m.front ++ (close ∷ one ∷ [])) ++ other;
                  after_inner = close ∷ one ∷ other;
                  opening = (h.0, refl);
                  inner = y;
                  closing = (0, (0, refl));
                };
                operand = record { fits = omega arith; spells = (0, refl) };
              };
            };
        low = λ q. omega arith;
      };
    })

-- ---- a punctuator at the front

none_of : {A : Type 0} (o : Option A) → ((x : A) → o ≡ Some x → ⊥) → o ≡ None
none_of None n = refl
none_of (Some x) n = absurd (n x refl)

pub no_operand_there : (l room : ℕ) (s : Punctuator) (at : ℕ) (text : List ℕ) (ts rest : List Token)
    → IsPunctuator s at ts rest → (BeginsOperand s → ⊥)
    → Failed 0 (place text ts) (NoOperand l room) (HasExpression l room) text ts
no_operand_there l room s at text ts rest h x =
    unexpected_at (NoOperand l room) (HasExpression l room) text ts [] ts refl
    (λ text' other q f. let g = subst (λ (z : List Token). SameFirst z other) h.1 f in
    no_operator text' 0 l room s at other g.0 (h.0, g.1) (λ e. x (Parenthesis e))
    (none_of (increment_of s) (λ op e. x (Steps op e)))
    (none_of (unary_of s) (λ op e. x (Operates op e))))
    (λ text' q k. record { more = one ∷ []; has = has_one l room 7 text' })

abbrev pub shortest : (s : Punctuator) → BeginsOperand s → List Token
shortest s (Parenthesis e) = one ∷ punctuator_token punctuators.CloseParenthesis ∷ []
shortest s (Steps op e) = one ∷ []
shortest s (Operates op e) = one ∷ []

pub has_shortest : (l room : ℕ) (s : Punctuator) (o : BeginsOperand s) (at end : ℕ) (text : List ℕ)
    → unary ≤ l → HasExpression l room 0 text (token (kinds.Punctuator s) at end ∷ shortest s o)
has_shortest l room s (Parenthesis e) at end text p = subst
    (λ (z : Punctuator). HasExpression l room 0 text
    (token (kinds.Punctuator z) at end ∷ one ∷ punctuator_token punctuators.CloseParenthesis ∷ []))
    (sym e)
    (loosen l (0 + 1) room text (token (kinds.Punctuator punctuators.OpenParenthesis) at end ∷ one
    ∷ punctuator_token punctuators.CloseParenthesis ∷ [])
    (grouped l 0 0 at end text (one ∷ punctuator_token punctuators.CloseParenthesis ∷ [])
    (record {
      tree = one_tree;
      encloses = λ other.
          record {
            mid = punctuator_token punctuators.CloseParenthesis ∷ other;
            spells = (0, refl);
            closed = (0, (0, refl));
          };
      low = λ k. omega arith;
    })))
has_shortest l room s (Steps op e) at end text p =
    prefixed l room 0 s op at end text (one ∷ []) p (λ k. omega arith) e
    (has_one unary (room - 1) 0 text)
has_shortest l room s (Operates op e) at end text p =
    unaried l room 0 s op at end text (one ∷ []) p (λ k. omega arith) e
    (has_one cast (room - 1) 0 text)

pub no_room_there : (l : ℕ) (s : Punctuator) (at : ℕ) (text : List ℕ) (ts rest : List Token)
    → unary ≤ l → IsPunctuator s at ts rest → BeginsOperand s
    → Failed 1 (place text ts) (NoOperand l 0) (HasExpression l 0) text ts
no_room_there l s at text ts rest p h o =
    deep_at (NoOperand l 0) (HasExpression l 0) text ts [] ts refl
    (λ text' other q f. let g = subst (λ (z : List Token). SameFirst z other) h.1 f in
    no_room text' l s at other g.0 (h.0, g.1))
    (λ text' q k. record { more = one ∷ []; has = has_one l 0 7 text' })
    (λ text' q k. record {
      token = token (kinds.Punctuator s) at h.0;
      rest = rest;
      more = shortest s o;
      is = h.1;
      has = has_shortest l 0 s o at h.0 text' p;
    })

-- ---- whether an expression begins with a token

pub name_begins : (start end : ℕ) (rest : List Token)
    → CanBeginExpression (token kinds.Identifier start end ∷ rest)
name_begins start end rest = λ text k. record {
  token = token kinds.Identifier start end;
  rest = rest;
  more = [];
  is = refl;
  has = record {
    tree = Variable (record { start = start; end = end });
    derives = λ other. record { fits = omega arith; spells = refl };
    low = λ q. omega arith;
  };
}

pub literal_begins : (x : Literal) (start end : ℕ) (rest : List Token)
    → CanBeginExpression (token (literal_kind x) start end ∷ rest)
literal_begins x start end rest = λ text k. record {
  token = token (literal_kind x) start end;
  rest = rest;
  more = [];
  is = refl;
  has = record {
    tree = Constant start x;
    derives = λ other.
        record { fits = omega arith; spells = (end, refl) };
    low = λ q. omega arith;
  };
}

pub keyword_begins : (start end : ℕ) (rest : List Token)
    → CanBeginExpression (token (kinds.Keyword keywords.GetExceptionInformation) start end ∷ rest)
keyword_begins start end rest = λ text k.
    let h = has_information 0 text k start end in
    record {
      token = token (kinds.Keyword keywords.GetExceptionInformation) start end;
      rest = rest;
      more = ends text k introduction;
      is = refl;
      has = record {
        tree = Information h.at h.field;
        derives = λ other. record { fits = omega arith; spells = h.spells other };
        low = λ q. omega arith;
      };
    }

pub punctuator_begins : (s : Punctuator) (start end : ℕ) (rest : List Token) → BeginsOperand s
    → CanBeginExpression (token (kinds.Punctuator s) start end ∷ rest)
punctuator_begins s start end rest o =
    λ text k. record {
      token = token (kinds.Punctuator s) start end;
      rest = rest;
      more = shortest s
          o;
      is = refl;
      has = has_shortest assignment 0 s o start end text (omega arith);
    }

pub never_kind : (k : Kind) (start end : ℕ) (rest : List Token) → 5 < kind_class k
    → NeverBegins (token k start end ∷ rest)
never_kind k start end rest p = λ text other s e after h.
    let a = expression_front text e other after h in
    let b : front other ≡ kind_class k = ap front s.1 in
    absurd (omega arith)

pub never_end : NeverBegins []
never_end = λ text other s e after h.
    let a = expression_front text e other after h in
    let b : front other ≡ 6 = ap front s in
    absurd (omega arith)

pub other_keyword : (k : Keyword) → (k ≡ keywords.GetExceptionInformation → ⊥)
    → 5 < kind_class (kinds.Keyword k)
other_keyword keywords.GetExceptionInformation n = absurd (n refl)
other_keyword k n = omega arith

pub other_punctuator : (s : Punctuator) → (BeginsOperand s → ⊥)
    → 5 < kind_class (kinds.Punctuator s)
other_punctuator punctuators.OpenParenthesis n = absurd (n (Parenthesis refl))
other_punctuator punctuators.Ampersand n = absurd (n (Operates unary_operators.AddressOf refl))
other_punctuator punctuators.Plus n = absurd (n (Operates unary_operators.Plus refl))
other_punctuator punctuators.Minus n = absurd (n (Operates unary_operators.Minus refl))
other_punctuator punctuators.Star n = absurd (n (Operates unary_operators.Indirection refl))
other_punctuator punctuators.Exclamation n = absurd (n (Operates unary_operators.LogicalNot refl))
other_punctuator punctuators.Tilde n = absurd (n (Operates unary_operators.Complement refl))
other_punctuator punctuators.PlusPlus n = absurd (n (Steps increments.Increment refl))
other_punctuator punctuators.MinusMinus n = absurd (n (Steps increments.Decrement refl))
other_punctuator s n = omega arith

pub plain_begins : (k : Kind) → (k ≡ kinds.Identifier)
    ⊎ (((value : ℕ) × (type : IntegerType) × (k ≡ kinds.Integer value type))
    ⊎ ((value : ℤ) × (k ≡ kinds.CharacterConstant value))) → (start end : ℕ) (rest : List Token)
    → CanBeginExpression (token k start end ∷ rest)
plain_begins k (inl e) start end rest = subst
    (λ (z : Kind). CanBeginExpression (token z start end ∷ rest)) (sym e)
    (name_begins start end rest)
plain_begins k (inr (inl e)) start end rest = subst
    (λ (z : Kind). CanBeginExpression (token z start end ∷ rest)) (sym e.2)
    (literal_begins (literals.Integer e.0 e.1) start end rest)
plain_begins k (inr (inr e)) start end rest = subst
    (λ (z : Kind). CanBeginExpression (token z start end ∷ rest)) (sym e.1)
    (literal_begins (literals.CharacterConstant e.0) start end rest)

some_of : {A : Type 0} (o : Option A) → is_some o ≡ true → (x : A) × (o ≡ Some x)
some_of None e = absurd cc
some_of (Some x) e = (x, refl)

pub steps_by : (s : Punctuator) → is_some (increment_of s) ≡ true → BeginsOperand s
steps_by s e = let h = some_of (increment_of s) e in Steps h.0 h.1

pub operates_by : (s : Punctuator) → is_some (unary_of s) ≡ true → BeginsOperand s
operates_by s e = let h = some_of (unary_of s) e in Operates h.0 h.1

pub first_is : (ts : List Token) (t : Token) (rest : List Token) → first ts ≡ Some (t, rest)
    → ts ≡ t ∷ rest
first_is [] t rest e = absurd cc
first_is (u ∷ us) t rest e = let q : ◌≡◌ {A = Token × List Token} (u, us) (t, rest) = cc in
    ap (λ (z : Token × List Token). z.0 ∷ z.1) q

pub first_none : (ts : List Token) → first ts ≡ None → ts ≡ []
first_none [] e = refl
first_none (u ∷ us) e = absurd cc
