-- Statements by the tokens that begin them.
use Rattle.std.proofs.Common.{◌≡◌, ◌≤◌, ℕ, List, [], ◌∷◌, ◌++◌, ◌⊎◌, Some, None, refl, sym, ap, ◌∙◌, subst, append_assoc, arith, inl, inr}
use Rattle.c_parse_stmt.specs.Words.{Keyword, Punctuator, Kind, Token, Derives, comma, Block, Evaluate, If, While, DoWhile, For, Return, Break, Continue, Leave, TryFinally, Evaluating, Empty, IsCondition, IsBlockItem, token, Expressed, BeginsExpression, Stated, BeginsStatement}
use Rattle.c_lex.specs.declared.keyword.Keyword.TheVariants as keywords
use Rattle.c_lex.specs.declared.punctuator.Punctuator.TheVariants as punctuators
use Rattle.c_lex.specs.declared.token.Kind.TheVariants as kinds
use Rattle.c_parse_stmt.proofs.Lemmas.{keyword_begins, punctuator_begins, kind_begins, begins}
use Rattle.c_parse_type.specs.Fronts.{first}
use Rattle.c_parse_stmt.proofs.Begins.{punctuator, keyword, name, variable, front_is}

-- ---- statements in full

-- `(` a name `)`
abbrev conditional : List Token → List Token
conditional ts = punctuator punctuators.OpenParenthesis ∷ name
    ∷ punctuator punctuators.CloseParenthesis ∷ ts

of_condition : (text : List ℕ) (other : List Token)
    → IsCondition text variable (conditional other) other
of_condition text other = record {
  after_opening = _;
  after_inner = _;
  opening = (0, (0, refl));
  inner = record { fits = omega arith; spells = refl };
  closing = (0, (0, refl));
}

-- `;`
empty : (text : List ℕ) (other : List Token) → IsBlockItem text (Evaluate None)
    (punctuator punctuators.Semicolon ∷ other) other
empty text other = (_, refl, (0, (0, refl)))

stated_by_keyword : (text : List ℕ) (k : Keyword) (at end : ℕ) → 2 ≤ keyword_begins k
    → keyword_begins k ≤ 11 → Stated text (token (kinds.Keyword k) at end)
stated_by_keyword text keywords.Break at end h
    l = record {
      more = punctuator punctuators.Semicolon ∷ [];
      tree = Break at;
      is = λ other. (_, (end, refl), (0, (0, refl)));
      statement = refl;
    }
stated_by_keyword text keywords.Continue at end h
    l = record {
      more = punctuator punctuators.Semicolon ∷ [];
      tree = Continue at;
      is = λ other. (_, (end, refl), (0, (0, refl)));
      statement = refl;
    }
stated_by_keyword text keywords.Do at end h l = record {
  more =
      punctuator punctuators.Semicolon ∷ keyword keywords.While
      ∷ conditional (punctuator punctuators.Semicolon ∷ []);
  tree = DoWhile (Evaluate None) 0 variable;
  is = λ other. record {
    after_do = _;
    after_body = _;
    after_while = _;
    after_condition = _;
    do_keyword = (at, (end, refl));
    body = record { no_declaration = refl; item = empty text _ };
    keyword = (0, refl);
    condition = of_condition text _;
    semicolon = (0, (0, refl));
  };
  statement = refl;
}
stated_by_keyword text keywords.For at end h l = record {
  more =
      punctuator punctuators.OpenParenthesis ∷ punctuator punctuators.Semicolon
      ∷ punctuator punctuators.Semicolon
      ∷ punctuator punctuators.CloseParenthesis ∷ punctuator punctuators.Semicolon ∷ [];
  tree = For at (Evaluating None) None None (Evaluate None);
  is = λ other. record {
    after_head = _;
    head = record {
      after_keyword = _;
      after_opening = _;
      after_first = _;
      after_condition = _;
      keyword = (end, refl);
      opening = (0, (0, refl));
      first = (_, refl, (0, (0, refl)));
      condition = (_, refl, (0, (0, refl)));
      next = (_, refl, (0, (0, refl)));
    };
    body = record { no_declaration = refl; item = empty text other };
  };
  statement = refl;
}
stated_by_keyword text keywords.If at end h l = record {
  more = conditional (punctuator punctuators.Semicolon ∷ []);
  tree = If at variable (Evaluate None);
  is = λ other. record {
    after_keyword = _;
    after_condition = _;
    keyword = (end, refl);
    condition = of_condition text _;
    body = record { no_declaration = refl; item = empty text other };
  };
  statement = refl;
}
stated_by_keyword text keywords.Return at end h l = record {
  more = punctuator punctuators.Semicolon ∷ [];
  tree = Return at None;
  is = λ other. (_, (end, refl), empty text other);
  statement = refl;
}
stated_by_keyword text keywords.While at end h l = record {
  more = conditional (punctuator punctuators.Semicolon ∷ []);
  tree = While at variable (Evaluate None);
  is = λ other. record {
    after_keyword = _;
    after_condition = _;
    keyword = (end, refl);
    condition = of_condition text _;
    body = record { no_declaration = refl; item = empty text other };
  };
  statement = refl;
}
stated_by_keyword text keywords.Try at end h l = record {
  more =
      punctuator punctuators.OpenBrace ∷ punctuator punctuators.CloseBrace
      ∷ keyword keywords.Finally
      ∷ punctuator punctuators.OpenBrace ∷ punctuator punctuators.CloseBrace ∷ [];
  tree = TryFinally Empty 0 Empty;
  is = λ other. record {
    after_try = _;
    after_body = _;
    after_finally = _;
    try_keyword = (at, (end, refl));
    body = record { after_brace = _; brace = (0, (0, refl)); items = (0, (0, refl)) };
    keyword = (0, refl);
    last = record { after_brace = _; brace = (0, (0, refl)); items = (0, (0, refl)) };
  };
  statement = refl;
}
stated_by_keyword text keywords.Leave at end h
    l = record {
      more = punctuator punctuators.Semicolon ∷ [];
      tree = Leave at;
      is = λ other. (_, (end, refl), (0, (0, refl)));
      statement = refl;
    }
stated_by_keyword text k at end h l = absurd (omega arith)

stated_by_punctuator : (text : List ℕ) (s : Punctuator) (at end : ℕ) → 2 ≤ punctuator_begins s
    → punctuator_begins s ≤ 11 → Stated text (token (kinds.Punctuator s) at end)
stated_by_punctuator text punctuators.OpenBrace at end h l = record {
  more = punctuator punctuators.CloseBrace ∷ [];
  tree = Block Empty;
  is = λ other. record { after_brace = _; brace = (at, (end, refl)); items = (0, (0, refl)) };
  statement = refl;
}
stated_by_punctuator text s at end h l = absurd (omega arith)

stated_by : (text : List ℕ) (k : Kind) (at end : ℕ) → 2 ≤ kind_begins k → kind_begins k ≤ 11
    → Stated text (token k at end)
stated_by text kinds.Identifier at end h l = absurd (omega arith)
stated_by text (kinds.Keyword k) at end h l = stated_by_keyword text k at end h l
stated_by text (kinds.Reserved r) at end h l = absurd (omega arith)
stated_by text (kinds.Integer value type) at end h l = absurd (omega arith)
stated_by text (kinds.CharacterConstant value) at end h l = absurd (omega arith)
stated_by text (kinds.Punctuator s) at end h l = stated_by_punctuator text s at end h l

pub begins_statement : (ts : List Token) → 2 ≤ begins ts → begins ts ≤ 11 → BeginsStatement ts
begins_statement [] h l = absurd (omega arith)
begins_statement (t ∷ ts) h l = record {
  first = t;
  rest = ts;
  split = refl;
  holds = λ text s. stated_by text t.kind t.start t.end h l;
}

alone : (text : List ℕ) (k : Kind) (at end : ℕ) → k ≡ kinds.Punctuator punctuators.Semicolon
    → Stated text (token k at end)
alone text k at end e = subst (λ (z : Kind). Stated text (token z at end)) (sym e)
    (record {
      more = [];
      tree = Evaluate None;
      is = λ other. (_, refl, (at, (end, refl)));
      statement = refl;
    })

pub begins_empty : (ts rest : List Token) (t : Token) → ts ≡ t ∷ rest
    → t.kind ≡ kinds.Punctuator punctuators.Semicolon → BeginsStatement ts
begins_empty ts rest t e q = record {
  first = t;
  rest = rest;
  split = e;
  holds = λ text s. alone text t.kind t.start t.end q;
}

evaluated : (text : List ℕ) (t : Token) → Expressed text t → Stated text t
evaluated text t x = record {
  more = x.more ++ punctuator punctuators.Semicolon ∷ [];
  tree = Evaluate (Some x.tree);
  is = λ other. (
    punctuator punctuators.Semicolon ∷ other,
    subst (λ z. Derives text comma x.tree (t ∷ z) (punctuator punctuators.Semicolon ∷ other))
        (sym (append_assoc x.more (punctuator punctuators.Semicolon ∷ []) other))
        (x.derives (punctuator punctuators.Semicolon ∷ other)),
    (0, (0, refl)),
  );
  statement = refl;
}

pub begins_evaluation : (ts : List Token) → BeginsExpression ts → BeginsStatement ts
begins_evaluation ts h = record {
  first = h.first;
  rest = h.rest;
  split = h.split;
  holds = λ text s. evaluated text h.first (h.holds text s);
}

-- ---- by the token that was found at the front

pub begins_is : (ts rest : List Token) (t : Token) (k : Kind) → Some (t, rest) ≡ first ts
    → t.kind ≡ k → begins ts ≡ kind_begins k
begins_is ts rest t k e q = ap begins (front_is ts rest t e) ∙ ap kind_begins q

abbrev pub Stating : Keyword → Type 0
Stating k = (k ≡ keywords.If) ⊎ ((k ≡ keywords.While)
    ⊎ ((k ≡ keywords.Do) ⊎ ((k ≡ keywords.For)
    ⊎ ((k ≡ keywords.Return) ⊎ ((k ≡ keywords.Break)
    ⊎ ((k ≡ keywords.Continue) ⊎ ((k ≡ keywords.Leave) ⊎ (k ≡ keywords.Try))))))))

keyword_states : (k z : Keyword) → k ≡ z → 2 ≤ keyword_begins z → keyword_begins z ≤ 11
    → (2 ≤ keyword_begins k) × (keyword_begins k ≤ 11)
keyword_states k z e h l = let p = ap keyword_begins e in (omega arith, omega arith)

pub stating_class : (k : Keyword) → Stating k → (2 ≤ keyword_begins k) × (keyword_begins k ≤ 11)
stating_class k (inl e) = keyword_states k _ e (omega arith) (omega arith)
stating_class k (inr (inl e)) = keyword_states k _ e (omega arith) (omega arith)
stating_class k (inr (inr (inl e))) = keyword_states k _ e (omega arith) (omega arith)
stating_class k (inr (inr (inr (inl e)))) = keyword_states k _ e (omega arith) (omega arith)
stating_class k (inr (inr (inr (inr (inl e))))) = keyword_states k _ e (omega arith) (omega arith)
stating_class k (inr (inr (inr (inr (inr (inl e)))))) = keyword_states k _ e (omega arith)
    (omega arith)
stating_class k (inr (inr (inr (inr (inr (inr (inl e))))))) = keyword_states k _ e (omega arith)
    (omega arith)
stating_class k (inr (inr (inr (inr (inr (inr (inr (inl e)))))))) = keyword_states k _ e
    (omega arith) (omega arith)
stating_class k (inr (inr (inr (inr (inr (inr (inr (inr e)))))))) = keyword_states k _ e
    (omega arith) (omega arith)

pub not_stating : (k : Keyword) → (k ≡ keywords.If → ⊥) → (k ≡ keywords.While → ⊥)
    → (k ≡ keywords.Do → ⊥) → (k ≡ keywords.For → ⊥) → (k ≡ keywords.Return → ⊥)
    → (k ≡ keywords.Break → ⊥) → (k ≡ keywords.Continue → ⊥) → (k ≡ keywords.Leave → ⊥)
    → (k ≡ keywords.Try → ⊥) → Stating k → ⊥
not_stating k a b c d e f g h i (inl x) = a x
not_stating k a b c d e f g h i (inr (inl x)) = b x
not_stating k a b c d e f g h i (inr (inr (inl x))) = c x
not_stating k a b c d e f g h i (inr (inr (inr (inl x)))) = d x
not_stating k a b c d e f g h i (inr (inr (inr (inr (inl x))))) = e x
not_stating k a b c d e f g h i (inr (inr (inr (inr (inr (inl x)))))) = f x
not_stating k a b c d e f g h i (inr (inr (inr (inr (inr (inr (inl x))))))) = g x
not_stating k a b c d e f g h i (inr (inr (inr (inr (inr (inr (inr (inl x)))))))) = h x
not_stating k a b c d e f g h i (inr (inr (inr (inr (inr (inr (inr (inr x)))))))) = i x
