-- Arguments of which one fails, or what follows them.
use Rattle.std.proofs.Common.{◌≡◌, ◌≤◌, ◌-◌, ℕ, List, [], ◌∷◌, ◌++◌, refl, sym, ap, ◌∙◌, subst, arith}
use Rattle.c_lex.specs.declared.punctuator.Punctuator.TheVariants as punctuators
use Rattle.c_lex.specs.declared.token.Kind.TheVariants as kinds
use Rattle.c_parse_expr.specs.Words.{Token, Expression, Done, Next, arguments, heights, SpellsArguments, Derives, SameFirst, place, Failed, Wraps, Stops, assignment, token, HasPunctuator, NoExpression, HasExpression, NoArguments, HasArguments, AreMoreExpressions, AreListed, CanBeginExpression, NeverBegins}
use Rattle.c_syntax.proofs.Firsts as firsts
use Rattle.c_parse_expr.proofs.Lemmas.{append_append, Moves}
use Rattle.c_syntax.proofs.Moves as moved
use Rattle.c_parse_expr.proofs.Listing.{listed_after, heights_after, listed_spelled, stuck, no_next, no_first, no_place}
use Rattle.c_parse_expr.proofs.Placing.{unexpected_at, deep_at, punctuator_token}

abbrev close : Token
close = punctuator_token punctuators.CloseParenthesis

-- ---- the first

one_argument : (room n : ℕ) (text : List ℕ) (inner : List Token) → (1 ≤ n → 1 ≤ room)
    → HasExpression assignment (room - 1) n text inner
    → HasArguments room n text (inner ++ (close ∷ []))
one_argument room n text inner r h = record {
  trees = Next h.tree Done;
  spells = λ other. record {
    after_first = close ∷ other;
    first =
        subst (λ (z : List Token). Derives text assignment h.tree z (close ∷ other))
        (sym (append_append inner (close ∷ []) other)) (h.derives (close ∷ other));
    others = (0, (0, refl));
  };
  low = λ k. let a = h.low k in let b = r k in omega arith;
}

pub first_wraps : (room : ℕ) (text : List ℕ) (ts : List Token) → 1 ≤ room
    → ((rest : List Token) → HasPunctuator punctuators.CloseParenthesis ts rest → ⊥)
    → Wraps (NoExpression assignment (room - 1)) (HasExpression assignment (room - 1))
    (NoArguments room) (HasArguments room) text ts ts
first_wraps room text ts r c = record {
  before = [];
  split = refl;
  no = λ n text' other a s x. no_first text' n room other
      (firsts.no_punctuator punctuators.CloseParenthesis ts other s c) x;
  has = λ n text' inner a k h. record {
    more = close ∷ [];
    has = one_argument room n text' inner (λ q. r) h;
  };
}

has_none : (room n : ℕ) (text : List ℕ) → HasArguments room n text (close ∷ [])
has_none room n text = record {
  trees = Done;
  spells = λ other. (0, (0, refl));
  low = λ k. omega arith;
}

pub deep_there : (text : List ℕ) (ts : List Token)
    → ((rest : List Token) → HasPunctuator punctuators.CloseParenthesis ts rest → ⊥)
    → CanBeginExpression ts → Failed 1 (place text ts) (NoArguments 0) (HasArguments 0) text ts
deep_there text ts c b =
    deep_at (NoArguments 0) (HasArguments 0) text ts [] ts refl
    (λ text' other a s. no_place text' other (firsts.no_punctuator punctuators.CloseParenthesis ts
    other s c))
    (λ text' a k. record { more = close ∷ []; has = has_none 0 7 text' })
    (λ text' a k.
    let o = b text' k in
    record {
      token = o.token;
      rest = o.rest;
      more = o.more ++ (close ∷ []);
      is = o.is;
      has = one_argument 0 0 text' (o.token ∷ o.more) (λ q. omega arith) o.has;
    })

no_argument : (text : List ℕ) (n room : ℕ) (ts other : List Token) → SameFirst ts other
    → ((rest : List Token) → HasPunctuator punctuators.CloseParenthesis ts rest → ⊥)
    → NeverBegins ts → NoArguments room n text other
no_argument text n room ts other s c b Done end g low = firsts.no_punctuator
    punctuators.CloseParenthesis ts other s c end g
no_argument text n room ts other s c b (Next x xs) end g low =
    b text other s x g.after_first g.first.spells

pub none_there : (text : List ℕ) (ts : List Token)
    → ((rest : List Token) → HasPunctuator punctuators.CloseParenthesis ts rest → ⊥)
    → NeverBegins ts → Failed 0 (place text ts) (NoArguments 0) (HasArguments 0) text ts
none_there text ts c b =
    unexpected_at (NoArguments 0) (HasArguments 0) text ts [] ts refl
    (λ text' other a s. no_argument text' 0 0 ts other s c b)
    (λ text' a k. record { more = close ∷ []; has = has_none 0 7 text' })

-- ---- after others

more_moves : (text : List ℕ) (es : List Expression) (ts rest : List Token)
    → AreMoreExpressions text es ts rest → Moves (λ t. AreMoreExpressions t es) text ts rest
more_moves text [] ts rest h = moved.nothing text ts rest h
more_moves text (e ∷ es) ts rest h =
    moved.map
    (moved.both (moved.has_punctuator punctuators.Comma text ts h.after_comma h.comma)
    (moved.both (moved.derives assignment e text h.after_comma h.after_element h.element)
    (more_moves text es h.after_element rest h.others)))
    (λ t us vs g. record {
      after_comma = g.0;
      after_element = g.2.0;
      comma = g.1;
      element = g.2.1;
      others = g.2.2;
    })

listed_moves : (text : List ℕ) (es : List Expression) (ts rest : List Token)
    → AreListed text es ts rest → Moves (λ t. AreListed t es) text ts rest
listed_moves text [] ts rest h = absurd h
listed_moves text (e ∷ es) ts rest h =
    moved.map
    (moved.both (moved.derives assignment e text ts h.after_first h.first)
    (more_moves text es h.after_first rest h.others))
    (λ t us vs g. record { after_first = g.0; first = g.1; others = g.2 })

pub next_wraps : (room : ℕ) (es : List Expression) (text : List ℕ) (ts rest following : List Token)
    → 1 ≤ room → AreListed text es ts rest → Stops assignment rest
    → HasPunctuator punctuators.Comma rest following → heights (arguments es) ≤ room
    → Wraps (NoExpression assignment (room - 1)) (HasExpression assignment (room - 1))
    (NoArguments room) (HasArguments room) text following ts
next_wraps room es text ts rest following r h st c low =
    let m = listed_moves text es ts rest h in
    let comma = token (kinds.Punctuator punctuators.Comma) c.0 c.1.0 in
    record {
      before = m.front ++ (comma ∷ []);
      split = m.split ∙ ap (λ z. m.front ++ z) c.1.1
          ∙ sym (append_append m.front (comma ∷ []) following);
      no = λ n text' other a s x.
          subst (λ (z : List Token). NoArguments room n text' z)
          (sym (append_append m.front (comma ∷ []) other))
          (no_next text' n room es (m.front ++ comma ∷ other) (comma ∷ other) other
          (m.again text' (comma ∷ other) a) (omega arith) (c.0, (c.1.0, refl)) x);
      has = λ n text' inner a k g. record {
        more = close ∷ [];
        has = record {
          trees = arguments (es ++ g.tree ∷ []);
          spells = λ other.
              let q : (((m.front ++ (comma ∷ [])) ++ inner) ++ (close ∷ [])) ++ other
              ≡ m.front ++ (comma ∷ (inner ++ (close ∷ other))) =
              append_append ((m.front ++ (comma ∷ [])) ++ inner) (close ∷ []) other
              ∙ append_append (m.front ++ (comma ∷ [])) inner (close ∷ other)
              ∙ append_append m.front (comma ∷ []) (inner ++ close ∷ other) in
              let l = listed_after text' es g.tree (m.front ++ (comma ∷ (inner ++ (close ∷ other))))
              (comma ∷ (inner ++ (close ∷ other))) (inner ++ (close ∷ other)) (close ∷ other)
              (m.again text' (comma ∷ (inner ++ (close ∷ other))) a) (c.0, (c.1.0, refl))
              (g.derives (close ∷ other)) in
              subst (λ (z : List Token). SpellsArguments text' (arguments (es ++ g.tree ∷ [])) z
              other) (sym q)
              (listed_spelled text' (es ++ g.tree ∷ [])
              (m.front ++ (comma ∷ (inner ++ (close ∷ other)))) (close ∷ other) other l
              (0, (0, refl)));
          low = λ q. let y = g.low q in let z = heights_after es g.tree in omega arith;
        };
      };
    }

pub stuck_there : (room : ℕ) (es : List Expression) (text : List ℕ) (ts rest : List Token)
    → AreListed text es ts rest → Stops assignment rest
    → ((b : List Token) → HasPunctuator punctuators.CloseParenthesis rest b → ⊥)
    → ((b : List Token) → HasPunctuator punctuators.Comma rest b → ⊥)
    → heights (arguments es) ≤ room
    → Failed 0 (place text rest) (NoArguments room) (HasArguments room) text ts
stuck_there room es text ts rest h st n c low =
    let m = listed_moves text es ts rest h in
    unexpected_at (NoArguments room) (HasArguments room) text ts m.front rest m.split
    (λ text' other a s. stuck text' 0 room es (m.front ++ other) other (m.again text' other a)
    (firsts.stops assignment rest other s st)
    (firsts.no_punctuator punctuators.CloseParenthesis rest other s n)
    (firsts.no_punctuator punctuators.Comma rest other s c))
    (λ text' a k. record {
      more = close ∷ [];
      has = record {
        trees = arguments es;
        spells = λ other.
            subst (λ (z : List Token). SpellsArguments text' (arguments es) z other)
            (sym (append_append m.front (close ∷ []) other))
            (listed_spelled text' es (m.front ++ (close ∷ other)) (close ∷ other) other
            (m.again text' (close ∷ other) a) (0, (0, refl)));
        low = λ q. low;
      };
    })
