-- Readings whose parts fail, and steps and closing punctuators that fail themselves.
use Rattle.std.proofs.Common.{◌≡◌, ◌≤◌, ◌<◌, ◌-◌, ℕ, List, [], ◌∷◌, ◌++◌, Some, None, refl, sym, ap, ◌∙◌, subst, inl, inr, arith}
use Rattle.c_parse_expr.specs.Words.{Punctuator, Token, Expression, height, rank, SpellsExpression, Derives, SameFirst, place, Failed, Wraps, punctuator_follows, follows, Stops, conditional, comma, never, At, After, With, Choose, Set, And, apply, Tail, Closes, token, IsPunctuator, HasPunctuator, Operation, Index, Postfix, Infix, Conditional, operation_of, punctuator, right, NoExpression, HasExpression, Encloses, NoneEnclosed, HasEnclosed, NoOperand, NoStep, HasStep, NoneAfterPunctuator, HasAfterPunctuator}
use Rattle.c_lex.specs.declared.punctuator.Punctuator.TheVariants as punctuators
use Rattle.c_lex.specs.declared.token.Kind.TheVariants as kinds
use Rattle.c_syntax.proofs.Firsts as firsts
use Rattle.c_parse_expr.proofs.Lemmas.{append_append, append_nothing, Moves, levels, step_follows}
use Rattle.c_syntax.proofs.Moves as moved
use Rattle.c_parse_expr.specs.declared.step.Infix.{Infix as Infix'}
use Rattle.c_parse_expr.specs.declared.step.Infix.TheVariants as infixes
use Rattle.c_parse_expr.specs.Operations.{bound}
use Rattle.c_parse_expr.proofs.Climbing.{no_operand, no_step, joined, none_inside, not_closed}
use Rattle.c_parse_expr.proofs.Operations.{only, same_bound, applied_height, none_indexed, none_right, none_first, none_second, no_punctuator, no_operation, too_loose, too_high, none_after_punctuator}
use Rattle.c_parse_expr.proofs.Placing.{unexpected_at, deep_at, able_now, one, one_tree, punctuator_token, has_one}

-- ---- expressions

pub operand_wraps : (l room : ℕ) (text : List ℕ) (ts : List Token)
    → Wraps (NoOperand l room) (HasExpression l room) (NoExpression l room) (HasExpression l room)
    text ts ts
operand_wraps l room text ts = record {
  before = [];
  split = refl;
  no = λ n text' other a s x. no_operand text' n l room other x;
  has = λ n text' inner a k h. able_now (HasExpression l room) n text' inner h;
}

step_has : (l room f n : ℕ) (left : Expression) (text : List ℕ) (front inner : List Token)
    → ((other : List Token) → Derives text l left (front ++ other) other) → f ≤ l
    → height left ≤ room → HasStep room left f n text inner
    → HasExpression l room n text (front ++ inner)
step_has l room f n left text front inner d p low (inl e) =
    let q : front ++ inner ≡ front = ap (λ z. front ++ z) e ∙ append_nothing front in
    record {
      tree = left;
      derives = λ other. subst (λ (z : List Token). Derives text l left z other)
          (ap (λ z. z ++ other) (sym q)) (d other);
      low = λ k. low;
    }
step_has l room f n left text front inner d p low (inr s) = record {
  tree = apply left s.step;
  derives = λ other.
      let q = s.loose in
      subst (λ (z : List Token). Derives text l (apply left s.step) z other)
      (sym (append_append front inner other))
      (record {
        fits = omega arith;
        spells = joined text left s.step (front ++ (inner ++ other))
            (inner ++ other) other (d (inner ++ other)).spells s.fits (s.tail other);
      });
  low = s.low;
}

pub step_wraps : (l room : ℕ) (left : Expression) (text : List ℕ) (ts rest : List Token)
    → Derives text l left ts rest → Closes left rest → follows rest ≤ l → height left ≤ room
    → Wraps (NoStep room left) (HasStep room left (follows rest)) (NoExpression l room)
    (HasExpression l room) text rest ts
step_wraps l room left text ts rest d c f low =
    let m = moved.derives l left text ts rest d in
    record {
      before = m.front;
      split = m.split;
      no = λ n text' other a s x. no_step text' n l room left (m.front ++ other) other
          (m.again text' other a) (firsts.closes left rest other s c)
          (subst (λ n. n ≤ l) (sym (firsts.same_follows rest other s)) f) x;
      has = λ n text' inner a k h. able_now (HasExpression l room) n text' (m.front ++ inner)
          (step_has l room (follows rest) n left text' m.front inner
          (λ other. m.again text' other a)
          f low h);
    }

-- ---- an expression and the punctuator that ends it

pub enclosed_wraps : (close : Punctuator) (room : ℕ) (text : List ℕ) (ts : List Token)
    → punctuator_follows close ≡ never
    → Wraps (NoExpression comma room) (HasExpression comma room) (NoneEnclosed close room)
    (HasEnclosed close room) text ts ts
enclosed_wraps close room text ts p = record {
  before = [];
  split = refl;
  no = λ n text' other a s x. none_inside text' n close room other p x;
  has = λ n text' inner a k h. record {
    more = punctuator_token close ∷ [];
    has = record {
      tree = h.tree;
      encloses = λ other. record {
        mid = punctuator_token close ∷ other;
        spells = subst (λ (z : List Token). SpellsExpression text' h.tree z
            (punctuator_token close ∷ other)) (sym
            (append_append inner (punctuator_token close ∷ []) other))
            (h.derives (punctuator_token close ∷ other)).spells;
        closed = (0, (0, refl));
      };
      low = h.low;
    };
  };
}

pub unclosed : (close : Punctuator) (room : ℕ) (e : Expression) (text : List ℕ)
    (ts rest : List Token) → punctuator_follows close ≡ never → Derives text comma e ts rest → Stops
    comma rest → ((end : List Token) → HasPunctuator close rest end → ⊥) → height e ≤ room
    → Failed 0 (place text rest) (NoneEnclosed close room) (HasEnclosed close room) text ts
unclosed close room e text ts rest p d st n low =
    let m = moved.derives comma e text ts rest d in
    unexpected_at (NoneEnclosed close room) (HasEnclosed close room) text ts m.front rest m.split
    (λ text' other a s. not_closed text' 0 close room e (m.front ++ other) other p
    (m.again text' other a) (firsts.stops comma rest other s st)
    (firsts.no_punctuator close rest other s n))
    (λ text' a k. record {
      more = punctuator_token close ∷ [];
      has = record {
        tree = e;
        encloses = λ other. record {
          mid = punctuator_token close ∷ other;
          spells = subst (λ (z : List Token). SpellsExpression text' e z
              (punctuator_token close ∷ other))
              (sym (append_append m.front (punctuator_token close ∷ []) other))
              (m.again text' (punctuator_token close ∷ other) a).spells;
          closed = (0, (0, refl));
        };
        low = λ q. low;
      };
    })

encloses_moves : (close : Punctuator) (e : Expression) (text : List ℕ) (ts rest : List Token)
    → Encloses text close e ts rest → Moves (λ t. Encloses t close e) text ts rest
encloses_moves close e text ts rest x = moved.map
    (moved.both (moved.expression e text ts x.mid x.spells)
    (moved.has_punctuator close text x.mid rest x.closed))
    (λ t us vs g. record { mid = g.0; spells = g.1; closed = g.2 })

-- ---- what follows the punctuator of a step

pub index_wraps : (room at : ℕ) (text : List ℕ) (ts : List Token)
    → Wraps (NoneEnclosed punctuators.CloseBracket room) (HasEnclosed punctuators.CloseBracket room)
    (NoneAfterPunctuator room Index) (HasAfterPunctuator room Index at) text ts ts
index_wraps room at text ts = record {
  before = [];
  split = refl;
  no = λ n text' other a s x. none_indexed text' n room other x;
  has = λ n text' inner a k h. able_now (HasAfterPunctuator room Index at) n text' inner
      (record {
        step = At at h.tree;
        operation = refl;
        tail = λ begin other g. let x = h.encloses
            other in record {
              after_opening = inner ++ other;
              after_inner = x.mid;
              opening = g;
              inner =
                  x.spells;
              closing = x.closed;
            };
        low = h.low;
      });
}

right_has : (room : ℕ) (op : Infix') (at n : ℕ) (text : List ℕ) (inner : List Token)
    → HasExpression (right op) room n text inner
    → HasAfterPunctuator room (Infix op) at n text inner
right_has room (infixes.Binary op) at n text inner h = record {
  step = With at op h.tree;
  operation = refl;
  tail = λ begin other g. let d = h.derives other in let x = (levels op).0 in let y = d.fits in
      record {
        after_operator = inner ++ other;
        operator = g;
        operand = record
            { fits = omega arith; spells = d.spells };
      };
  low = h.low;
}
right_has room (infixes.Assign op) at n text inner h =
    record {
      step = Set at op h.tree;
      operation = refl;
      tail = λ begin other g. record
          { after_operator = inner ++ other; operator = g; operand = h.derives other };
      low = h.low;
    }
right_has room infixes.Comma at n text inner h =
    record {
      step = And at h.tree;
      operation = refl;
      tail = λ begin other g. record
          { after_operator = inner ++ other; operator = g; operand = h.derives other };
      low = h.low;
    }

pub right_wraps : (room : ℕ) (op : Infix') (at : ℕ) (text : List ℕ) (ts : List Token)
    → Wraps (NoExpression (right op) room) (HasExpression (right op) room)
    (NoneAfterPunctuator room (Infix op)) (HasAfterPunctuator room (Infix op) at) text ts ts
right_wraps room op at text ts = record {
  before = [];
  split = refl;
  no = λ n text' other a s x. none_right text' n room op other x;
  has = λ n text' inner a k h. able_now (HasAfterPunctuator room (Infix op) at) n text' inner
      (right_has room op at n text' inner h);
}

pub first_branch_wraps : (room at : ℕ) (text : List ℕ) (ts : List Token)
    → Wraps (NoneEnclosed punctuators.Colon room) (HasEnclosed punctuators.Colon room)
    (NoneAfterPunctuator room Conditional) (HasAfterPunctuator room Conditional at) text ts ts
first_branch_wraps room at text ts = record {
  before = [];
  split = refl;
  no = λ n text' other a s x. none_first text' n room other x;
  has = λ n text' inner a k h. record {
    more = one ∷ [];
    has = record {
      step = Choose at h.tree one_tree;
      operation = refl;
      tail = λ begin other g.
          let x = h.encloses (one ∷ other) in
          let s = subst (λ (z : List Token). SpellsExpression text' h.tree z x.mid)
          (sym (append_append inner (one ∷ []) other)) x.spells in
          record {
            after_operator = one ∷ other;
            operator = record {
              after_opening = (inner ++ (one ∷ [])) ++ other;
              after_inner = x.mid;
              opening = g;
              inner = s;
              closing = x.closed;
            };
            operand = record { fits = omega arith; spells = (0, refl) };
          };
      low = λ q. let y = h.low q in omega arith;
    };
  };
}

pub second_branch_wraps : (room at : ℕ) (e : Expression) (text : List ℕ) (ts mid : List Token)
    → Encloses text punctuators.Colon e ts mid → height e ≤ room
    → Wraps (NoExpression conditional room) (HasExpression conditional room)
    (NoneAfterPunctuator room Conditional) (HasAfterPunctuator room Conditional at) text mid ts
second_branch_wraps room at e text ts mid x low =
    let m = encloses_moves punctuators.Colon e text ts mid x in
    record {
      before = m.front;
      split = m.split;
      no = λ n text' other a s y. none_second text' n room e (m.front ++ other) other
          (m.again text' other a) y;
      has = λ n text' inner a k h. able_now (HasAfterPunctuator room Conditional at) n text'
          (m.front ++ inner)
          (record {
            step = Choose at e h.tree;
            operation = refl;
            tail = λ begin other g.
                let y = m.again text' (inner ++ other) a in
                let s = subst (λ (z : List Token). SpellsExpression text' e z y.mid)
                (sym (append_append m.front inner other)) y.spells in
                record {
                  after_operator = inner ++ other;
                  operator = record {
                    after_opening = (m.front ++ inner) ++ other;
                    after_inner = y.mid;
                    opening = g;
                    inner = s;
                    closing = y.closed;
                  };
                  operand = h.derives other;
                };
            low = λ q. let y = h.low q in omega arith;
          });
    }

-- the shortest that continues after the punctuator
abbrev shortest : Operation → List Token
shortest Index = one ∷ punctuator_token punctuators.CloseBracket ∷ []
shortest (Postfix op) = []
shortest (Infix op) = one ∷ []
shortest Conditional = one ∷ punctuator_token punctuators.Colon ∷ one ∷ []

has_shortest : (room : ℕ) (o : Operation) (at n : ℕ) (text : List ℕ)
    → HasAfterPunctuator room o at n text (shortest o)
has_shortest room Index at n text = record {
  step = At at one_tree;
  operation = refl;
  tail = λ begin other h. record {
    after_opening = one ∷ punctuator_token punctuators.CloseBracket ∷ other;
    after_inner = punctuator_token punctuators.CloseBracket ∷ other;
    opening = h;
    inner = (0, refl);
    closing = (0, (0, refl));
  };
  low = λ k. omega arith;
}
has_shortest room (Postfix op) at n text = record {
  step = After op at;
  operation = refl;
  tail = λ begin other h. h;
  low = λ k. omega arith;
}
has_shortest room (Infix op) at n text = right_has room op at n text (one ∷ [])
    (has_one (right op) room n text)
has_shortest room Conditional at n text = record {
  step = Choose at one_tree one_tree;
  operation = refl;
  tail = λ begin other h. record {
    after_operator = one ∷ other;
    operator = record {
      after_opening = one ∷ punctuator_token punctuators.Colon ∷ one ∷ other;
      after_inner = punctuator_token punctuators.Colon ∷ one ∷ other;
      opening = h;
      inner = (0, refl);
      closing = (0, (0, refl));
    };
    operand = record { fits = omega arith; spells = (0, refl) };
  };
  low = λ k. omega arith;
}

-- ---- steps

a_step : (room : ℕ) (e : Expression) (o : Operation) (punctuator' : Punctuator) (at end l n : ℕ)
    (text : List ℕ) (inner : List Token) → punctuator_follows punctuator' ≡ l
    → operation_of punctuator' ≡ Some o → rank e ≤ bound o → (1 ≤ n → height e < room)
    → HasAfterPunctuator (room - 1) o at n text inner
    → HasStep room e l n text (token (kinds.Punctuator punctuator') at end ∷ inner)
a_step room e o punctuator' at end l n text inner f p fits low b =
    let q : punctuator' ≡ punctuator o = only o punctuator' p in
    let tail : (other : List Token) → Tail text b.step
    (token (kinds.Punctuator punctuator') at end ∷ (inner ++ other)) other =
    λ other. b.tail (token (kinds.Punctuator punctuator') at end ∷ (inner ++ other)) other
    (end, ap (λ (z : Punctuator). token (kinds.Punctuator z) at end ∷ (inner ++ other)) q) in
    let r = same_bound b.step in
    let i = ap bound b.operation in
    let j = step_follows text e b.step (token (kinds.Punctuator punctuator') at end ∷ (inner ++ []))
    [] (tail []) in
    let x = applied_height e b.step in
    inr (record {
      step = b.step;
      fits = omega arith;
      loose = omega arith;
      tail = tail;
      low = λ k. let h = low k in let w = b.low k in omega arith;
    })

pub after_punctuator_wraps : (room : ℕ) (e : Expression) (punctuator' : Punctuator) (o : Operation)
    (at : ℕ) (text : List ℕ) (ts rest : List Token) → IsPunctuator punctuator' at ts rest
    → operation_of punctuator' ≡ Some o → rank e ≤ bound o → height e < room
    → Wraps (NoneAfterPunctuator (room - 1) o) (HasAfterPunctuator (room - 1) o at) (NoStep room e)
    (HasStep room e (follows ts)) text rest ts
after_punctuator_wraps room e punctuator' o at text ts rest h p fits low = record {
  before = token (kinds.Punctuator punctuator') at h.0 ∷ [];
  split = h.1;
  no = λ n text' other a s x. none_after_punctuator text' n room e punctuator' o at
      (token (kinds.Punctuator punctuator') at h.0 ∷ other) other (h.0, refl) p x;
  has = λ n text' inner a k b. able_now (HasStep room e (follows ts)) n text'
      (token (kinds.Punctuator punctuator') at h.0 ∷ inner)
      (a_step room e o punctuator' at h.0 (follows ts) n text' inner (sym (ap follows h.1)) p fits
      (λ q. low) b);
}

is_alone : (room : ℕ) (e : Expression) (l : ℕ) (text : List ℕ) (ts : List Token)
    → ((other : List Token) → SameFirst ts other → (text' : List ℕ) → NoStep room e 0 text' other)
    → Failed 0 (place text ts) (NoStep room e) (HasStep room e l) text ts
is_alone room e l text ts n =
    unexpected_at (NoStep room e) (HasStep room e l) text ts [] ts refl
    (λ text' other a s. n other s text') (λ text' a k. able_now (HasStep room e l) 7 text' []
    (inl refl))

pub signless : (room : ℕ) (e : Expression) (l : ℕ) (text : List ℕ) (ts : List Token)
    → ((s : Punctuator) (at : ℕ) (rest : List Token) → IsPunctuator s at ts rest → ⊥)
    → Failed 0 (place text ts) (NoStep room e) (HasStep room e l) text ts
signless room e l text ts n = is_alone room e l text ts
    (λ other f text'. no_punctuator text' 0 room e other
    (λ s. firsts.no_kind (kinds.Punctuator s) ts other f (n s)))

-- the same punctuator is at the front of tokens that begin alike
same_punctuator : (s : Punctuator) (at : ℕ) (ts rest other : List Token) → IsPunctuator s at ts rest
    → SameFirst ts other → (more : List Token) × IsPunctuator s at other more
same_punctuator s at ts rest other h f = let g : SameFirst
    (token (kinds.Punctuator s) at h.0 ∷ rest) other = subst (λ (z : List Token). SameFirst z other)
    h.1 f in (g.0, (h.0, g.1))

pub no_operator_there : (room : ℕ) (e : Expression) (l : ℕ) (punctuator' : Punctuator) (at : ℕ)
    (text : List ℕ) (ts rest : List Token) → IsPunctuator punctuator' at ts rest
    → operation_of punctuator' ≡ None → Failed 0 (place text ts) (NoStep room e) (HasStep room e l)
    text ts
no_operator_there room e l punctuator' at text ts rest h p = is_alone room e l text ts
    (λ other f text'. let g = same_punctuator punctuator' at ts rest other h f in
    no_operation text' 0 room e punctuator' at other g.0 g.1 p)

pub loose_there : (room : ℕ) (e : Expression) (l : ℕ) (punctuator' : Punctuator) (o : Operation)
    (at : ℕ) (text : List ℕ) (ts rest : List Token) → IsPunctuator punctuator' at ts rest
    → operation_of punctuator' ≡ Some o → bound o < rank e
    → Failed 0 (place text ts) (NoStep room e) (HasStep room e l) text ts
loose_there room e l punctuator' o at text ts rest h p b = is_alone room e l text ts
    (λ other f text'. let g = same_punctuator punctuator' at ts rest other h f in
    too_loose text' 0 room e punctuator' o at other g.0 g.1 p b)

pub high_there : (room : ℕ) (e : Expression) (punctuator' : Punctuator) (o : Operation) (at : ℕ)
    (text : List ℕ) (ts rest : List Token) → IsPunctuator punctuator' at ts rest
    → operation_of punctuator' ≡ Some o → rank e ≤ bound o → room ≤ height e
    → Failed 1 (place text ts) (NoStep room e) (HasStep room e (follows ts)) text ts
high_there room e punctuator' o at text ts rest h p fits high =
    deep_at (NoStep room e) (HasStep room e (follows ts)) text ts [] ts refl
    (λ text' other a s. too_high text' room e other high)
    (λ text' a k. able_now (HasStep room e (follows ts)) 7 text' [] (inl refl))
    (λ text' a k. record {
      token = token (kinds.Punctuator punctuator') at h.0;
      rest = rest;
      more = shortest o;
      is = h.1;
      has = a_step room e o punctuator' at h.0 (follows ts) 0 text' (shortest o)
          (sym (ap follows h.1)) p fits (λ q. omega arith) (has_shortest (room - 1) o at 0 text');
    })
