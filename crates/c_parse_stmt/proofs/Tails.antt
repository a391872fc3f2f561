-- A statement that begins with a keyword is one of its production: what is after the keyword.
use Rattle.std.proofs.Common.{◌≡◌, ℕ, List, Option, IsFalse, refl, sym, ap, subst, arith, inl, inr}
use Rattle.std.specs.Prelude.{◌⊎◌}
use Rattle.c_lex.specs.declared.keyword.Keyword.TheVariants as keywords
use Rattle.c_lex.specs.declared.punctuator.Punctuator.TheVariants as punctuators
use Rattle.c_parse_stmt.specs.Words.{Token, Expression, ForInitialiser, Statement, Block, If, IfElse, While, DoWhile, For, Return, Break, Continue, Leave, TryExcept, TryFinally, Statements, IsUpTo, IsCondition, IsForInitialiser, dangles, IsStatement, IsBlock, IsBlockItem, AreBlockItems, Phrase, IsKeyword, HasPunctuator, HasKeyword}
use Rattle.c_parse_stmt.proofs.Lemmas.{has_same, begins, item_begins, word}
use Rattle.c_syntax.proofs.Blocks.{place}

-- a block, with both braces
abbrev pub IsBraced : List ℕ → Statements → Phrase
IsBraced text ss = IsBlock (AreBlockItems text ss)

-- ---- what is after each keyword, in some statement

pub record AfterIf (text : List ℕ) (at : ℕ) (z : Statement) (ts end : List Token) : Type 0 where
  pub condition : Expression
  pub body : Statement
  pub after_condition : List Token
  pub same : z ≡ If at condition body
  pub is_condition : IsCondition text condition ts after_condition
  pub is_body : IsStatement body (IsBlockItem text body) after_condition end

pub record AfterIfElse (text : List ℕ) (at : ℕ) (z : Statement) (ts end : List Token) : Type 0 where
  pub condition : Expression
  pub body : Statement
  pub else_body : Statement
  pub after_condition : List Token
  pub after_body : List Token
  pub after_else : List Token
  pub same : z ≡ IfElse at condition body else_body
  pub is_condition : IsCondition text condition ts after_condition
  pub complete : IsFalse (dangles body)
  pub is_body : IsStatement body (IsBlockItem text body) after_condition after_body
  pub else_keyword : HasKeyword keywords.Else after_body after_else
  pub is_else_body : IsStatement else_body (IsBlockItem text else_body) after_else end

pub record AfterWhile (text : List ℕ) (at : ℕ) (z : Statement) (ts end : List Token) : Type 0 where
  pub condition : Expression
  pub body : Statement
  pub after_condition : List Token
  pub same : z ≡ While at condition body
  pub is_condition : IsCondition text condition ts after_condition
  pub is_body : IsStatement body (IsBlockItem text body) after_condition end

pub record AfterDo (text : List ℕ) (z : Statement) (ts end : List Token) : Type 0 where
  pub body : Statement
  pub at : ℕ
  pub condition : Expression
  pub after_body : List Token
  pub after_while : List Token
  pub after_condition : List Token
  pub same : z ≡ DoWhile body at condition
  pub is_body : IsStatement body (IsBlockItem text body) ts after_body
  pub keyword : IsKeyword keywords.While at after_body after_while
  pub is_condition : IsCondition text condition after_while after_condition
  pub semicolon : HasPunctuator punctuators.Semicolon after_condition end

pub record AfterFor (text : List ℕ) (at : ℕ) (z : Statement) (ts end : List Token) : Type 0 where
  pub first : ForInitialiser
  pub condition : Option Expression
  pub next : Option Expression
  pub body : Statement
  pub after_opening : List Token
  pub after_first : List Token
  pub after_condition : List Token
  pub after_head : List Token
  pub same : z ≡ For at first condition next body
  pub opening : HasPunctuator punctuators.OpenParenthesis ts after_opening
  pub is_first : IsForInitialiser text first after_opening after_first
  pub is_condition : IsUpTo text punctuators.Semicolon condition after_first after_condition
  pub is_next : IsUpTo text punctuators.CloseParenthesis next after_condition after_head
  pub is_body : IsStatement body (IsBlockItem text body) after_head end

abbrev pub AfterReturn : List ℕ → ℕ → Statement → Phrase
AfterReturn text at z ts end =
    (e : Option Expression) × (z ≡ Return at e) × IsUpTo text punctuators.Semicolon e ts end

pub record AfterExcept (text : List ℕ) (z : Statement) (ts end : List Token) : Type 0 where
  pub body : Statements
  pub at : ℕ
  pub filter : Expression
  pub handler : Statements
  pub after_body : List Token
  pub after_except : List Token
  pub after_filter : List Token
  pub same : z ≡ TryExcept body at filter handler
  pub is_body : IsBraced text body ts after_body
  pub keyword : IsKeyword keywords.Except at after_body after_except
  pub is_filter : IsCondition text filter after_except after_filter
  pub is_handler : IsBraced text handler after_filter end

pub record AfterFinally (text : List ℕ) (z : Statement) (ts end : List Token) : Type 0 where
  pub body : Statements
  pub at : ℕ
  pub last : Statements
  pub after_body : List Token
  pub after_finally : List Token
  pub same : z ≡ TryFinally body at last
  pub is_body : IsBraced text body ts after_body
  pub keyword : IsKeyword keywords.Finally at after_body after_finally
  pub is_last : IsBraced text last after_finally end

-- ---- each statement that begins with the keyword

pub after_if : (text : List ℕ) (at : ℕ) (z : Statement) (ts a end : List Token)
    → IsKeyword keywords.If at ts a → IsBlockItem text z ts end
    → AfterIf text at z a end ⊎ AfterIfElse text at z a end
after_if text at (If at' c s) ts a end k h =
    let p = place keywords.If at at' ts ts a h.after_keyword refl k h.keyword in
    inl (record {
      condition = c;
      body = s;
      after_condition = h.after_condition;
      same = ap (λ (x : ℕ). If x c s) (sym p.0);
      is_condition =
          subst (λ (x : List Token). IsCondition text c x h.after_condition) (sym p.1) h.condition;
      is_body = h.body;
    })
after_if text at (IfElse at' c s t) ts a end k h =
    let p = place keywords.If at at' ts ts a h.after_if refl k h.keyword in
    inr (record {
      condition = c;
      body = s;
      else_body = t;
      after_condition = h.after_condition;
      after_body = h.after_body;
      after_else = h.after_else;
      same = ap (λ (x : ℕ). IfElse x c s t) (sym p.0);
      is_condition =
          subst (λ (x : List Token). IsCondition text c x h.after_condition) (sym p.1) h.condition;
      complete = h.complete;
      is_body = h.body;
      else_keyword = h.else_keyword;
      is_else_body = h.else_body;
    })
after_if text at z ts a end k h = absurd (let p : begins ts ≡ 3 = ap begins k.1 in
    let q = item_begins text z ts end h in omega arith)

pub after_while : (text : List ℕ) (at : ℕ) (z : Statement) (ts a end : List Token)
    → IsKeyword keywords.While at ts a → IsBlockItem text z ts end → AfterWhile text at z a end
after_while text at (While at' c s) ts a end k h =
    let p = place keywords.While at at' ts ts a h.after_keyword refl k h.keyword in
    record {
      condition = c;
      body = s;
      after_condition = h.after_condition;
      same = ap (λ (x : ℕ). While x c s) (sym p.0);
      is_condition =
          subst (λ (x : List Token). IsCondition text c x h.after_condition) (sym p.1) h.condition;
      is_body = h.body;
    }
after_while text at z ts a end k h = absurd (let p : begins ts ≡ 4 = ap begins k.1 in
    let q = item_begins text z ts end h in omega arith)

pub after_do : (text : List ℕ) (at : ℕ) (z : Statement) (ts a end : List Token)
    → IsKeyword keywords.Do at ts a → IsBlockItem text z ts end → AfterDo text z a end
after_do text at (DoWhile s at' c) ts a end k h =
    let p = word keywords.Do ts ts a h.after_do refl (at, k) h.do_keyword in
    record {
      body = s;
      at = at';
      condition = c;
      after_body = h.after_body;
      after_while = h.after_while;
      after_condition = h.after_condition;
      same = refl;
      is_body =
          subst (λ (x : List Token). IsStatement s (IsBlockItem text s) x h.after_body)
          (sym p) h.body;
      keyword = h.keyword;
      is_condition = h.condition;
      semicolon = h.semicolon;
    }
after_do text at z ts a end k h = absurd (let p : begins ts ≡ 5 = ap begins k.1 in
    let q = item_begins text z ts end h in omega arith)

pub after_for : (text : List ℕ) (at : ℕ) (z : Statement) (ts a end : List Token)
    → IsKeyword keywords.For at ts a → IsBlockItem text z ts end → AfterFor text at z a end
after_for text at (For at' f c n s) ts a end k h =
    let p = place keywords.For at at' ts ts a h.after_keyword refl k h.keyword in
    record {
      first = f;
      condition = c;
      next = n;
      body = s;
      after_opening = h.after_opening;
      after_first = h.after_first;
      after_condition = h.after_condition;
      after_head = h.after_head;
      same = ap (λ (x : ℕ). For x f c n s) (sym p.0);
      opening =
          subst (λ (x : List Token). HasPunctuator punctuators.OpenParenthesis x h.after_opening)
          (sym p.1) h.opening;
      is_first = h.first;
      is_condition = h.condition;
      is_next = h.next;
      is_body = h.body;
    }
after_for text at z ts a end k h = absurd (let p : begins ts ≡ 6 = ap begins k.1 in
    let q = item_begins text z ts end h in omega arith)

pub after_return : (text : List ℕ) (at : ℕ) (z : Statement) (ts a end : List Token)
    → IsKeyword keywords.Return at ts a → IsBlockItem text z ts end → AfterReturn text at z a end
after_return text at (Return at' e) ts a end k h =
    let p = place keywords.Return at at' ts ts a h.0 refl k h.1 in (
      e,
      ap (λ (x : ℕ). Return x e) (sym p.0),
      subst (λ (x : List Token). IsUpTo text punctuators.Semicolon e x end) (sym p.1) h.2,
    )
after_return text at z ts a end k h = absurd (let p : begins ts ≡ 7 = ap begins k.1 in
    let q = item_begins text z ts end h in omega arith)

pub after_break : (text : List ℕ) (at : ℕ) (z : Statement) (ts a end : List Token)
    → IsKeyword keywords.Break at ts a → IsBlockItem text z ts end
    → HasPunctuator punctuators.Semicolon a end
after_break text at (Break at') ts a end k h = let p = place keywords.Break at at' ts ts a h.0 refl
    k h.1 in subst (λ (x : List Token). HasPunctuator punctuators.Semicolon x end) (sym p.1) h.2
after_break text at z ts a end k h = absurd (let p : begins ts ≡ 8 = ap begins k.1 in
    let q = item_begins text z ts end h in omega arith)

pub after_continue : (text : List ℕ) (at : ℕ) (z : Statement) (ts a end : List Token)
    → IsKeyword keywords.Continue at ts a → IsBlockItem text z ts end
    → HasPunctuator punctuators.Semicolon a end
after_continue text at (Continue at') ts a end k h = let p = place keywords.Continue at at' ts ts a
    h.0 refl k h.1 in subst (λ (x : List Token). HasPunctuator punctuators.Semicolon x end)
    (sym p.1) h.2
after_continue text at z ts a end k h = absurd
    (let p : begins ts ≡ 9 = ap begins k.1 in let q = item_begins text z ts end h in omega arith)

pub after_leave : (text : List ℕ) (at : ℕ) (z : Statement) (ts a end : List Token)
    → IsKeyword keywords.Leave at ts a → IsBlockItem text z ts end
    → HasPunctuator punctuators.Semicolon a end
after_leave text at (Leave at') ts a end k h = let p = place keywords.Leave at at' ts ts a h.0 refl
    k h.1 in subst (λ (x : List Token). HasPunctuator punctuators.Semicolon x end) (sym p.1) h.2
after_leave text at z ts a end k h = absurd (let p : begins ts ≡ 10 = ap begins k.1 in
    let q = item_begins text z ts end h in omega arith)

pub after_try : (text : List ℕ) (at : ℕ) (z : Statement) (ts a end : List Token)
    → IsKeyword keywords.Try at ts a → IsBlockItem text z ts end
    → AfterExcept text z a end ⊎ AfterFinally text z a end
after_try text at (TryExcept body at' f handler) ts a end k h =
    let p = word keywords.Try ts ts a h.after_try refl (at, k) h.try_keyword in
    inl (record {
      body = body;
      at = at';
      filter = f;
      handler = handler;
      after_body = h.after_body;
      after_except = h.after_except;
      after_filter = h.after_filter;
      same = refl;
      is_body = subst (λ (x : List Token). IsBraced text body x h.after_body) (sym p) h.body;
      keyword = h.keyword;
      is_filter = h.filter;
      is_handler = h.handler;
    })
after_try text at (TryFinally body at' last) ts a end k h =
    let p = word keywords.Try ts ts a h.after_try refl (at, k) h.try_keyword in
    inr (record {
      body = body;
      at = at';
      last = last;
      after_body = h.after_body;
      after_finally = h.after_finally;
      same = refl;
      is_body = subst (λ (x : List Token). IsBraced text body x h.after_body) (sym p) h.body;
      keyword = h.keyword;
      is_last = h.last;
    })
after_try text at z ts a end k h = absurd (let p : begins ts ≡ 11 = ap begins k.1 in
    let q = item_begins text z ts end h in omega arith)

abbrev pub AfterBrace : List ℕ → Statement → List Token → List Token → Type 0
AfterBrace text z ts end = (ss : Statements) × (z ≡ Block ss) × AreBlockItems text ss ts end

pub after_brace : (text : List ℕ) (z : Statement) (ts a end : List Token)
    → HasPunctuator punctuators.OpenBrace ts a → IsBlockItem text z ts end → AfterBrace text z a end
after_brace text (Block ss) ts a end k h =
    let p = has_same punctuators.OpenBrace ts ts h.after_brace a refl h.brace k in
    (ss, refl, subst (λ (x : List Token). AreBlockItems text ss x end) p h.items)
after_brace text z ts a end k h = absurd (let p : begins ts ≡ 2 = ap begins k.1.1 in
    let q = item_begins text z ts end h in omega arith)
