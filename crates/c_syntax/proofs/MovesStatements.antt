-- Statements are before any other rest too, and in any text that spells their names alike; the
-- same of their filters and finally blocks have numbers there.
use Rattle.std.proofs.Common.{◌≡◌, ℕ, List, [], ◌∷◌, ◌++◌, cond, Option, Some, None, IsFalse, refl}
use Rattle.std.proofs.Common.{ap, ◌∙◌}
use Rattle.c_syntax.specs.Words.{Keyword, Punctuator, Token, Length, Base, Expression, Alike, assignment, comma, Local, ForInitialiser, Declaring, Evaluating, Statement, Declare, Block, Evaluate, If, IfElse, While, DoWhile, For, Return, Break, Continue, Leave, TryExcept, TryFinally, Statements, Empty, Then, IsLength, IsInitialiser, IsLocal, AreLocals, IsDeclaration, IsOptional, IsUpTo, IsCondition, IsForInitialiser, is_declaration, IsStatement, IsBlock, IsConditional, IsForHead, IsJump, IsBlockItem, AreBlockItems, Phrase, IsKeyword}
use Rattle.c_lex.specs.declared.keyword.Keyword.TheVariants as keywords
use Rattle.c_lex.specs.declared.punctuator.Punctuator.TheVariants as punctuators
use Rattle.c_lex.specs.declared.token.Kind.TheVariants as kinds
use Rattle.c_syntax.specs.Limits as limits
use Rattle.c_syntax.proofs.Moves as moves
use Rattle.c_syntax.proofs.Moves.{enclosed, Moves, map, both, nothing, alike_after, has_punctuator}
use Rattle.c_syntax.proofs.Moves.{has_keyword, name, base, stars, integer, derives}
use Rattle.c_syntax.proofs.MovesPhrases.{separated}

pub keyword : (k : Keyword) (at : ℕ) (text : List ℕ) (ts rest : List Token) → IsKeyword k at ts rest
    → Moves (λ t. IsKeyword k at) text ts rest
keyword k at text ts rest h = moves.kind (kinds.Keyword k) at text ts rest h

-- ---- declarations

pub length : (n : Option Length) (text : List ℕ) (ts rest : List Token) → IsLength n ts rest
    → Moves (λ t. IsLength n) text ts rest
length None text ts rest h = nothing text ts rest h
length (Some n) text ts rest h =
    enclosed punctuators.CloseBracket
    (has_punctuator punctuators.OpenBracket text ts h.after_opening h.opening)
    (integer n.value n.at text h.after_opening h.after_inner h.inner) h.closing

pub initialiser : (e : Option Expression) (text : List ℕ) (ts rest : List Token)
    → IsInitialiser text e ts rest → Moves (λ t. IsInitialiser t e) text ts rest
initialiser None text ts rest h = nothing text ts rest h
initialiser (Some e) text ts rest h =
    map (both (has_punctuator punctuators.Assign text ts h.0 h.1)
    (derives assignment e text h.0 rest h.2)) (λ t us vs g. (g.0, g.1, g.2))

pub local : (l : Local) (text : List ℕ) (ts rest : List Token) → IsLocal text l ts rest
    → Moves (λ t. IsLocal t l) text ts rest
local l text ts rest h =
    map
    (both (stars l.pointers text ts h.after_stars h.stars)
    (both (name l.name text h.after_stars h.after_name h.name)
    (both (length l.length text h.after_name h.after_length h.length)
    (initialiser l.initialiser text h.after_length rest h.initialiser))))
    (λ t us vs (after_stars, stars, (after_name, name, (after_length, length, initialiser))).
    record {
      after_stars = after_stars;
      after_name = after_name;
      after_length = after_length;
      stars = stars;
      name = name;
      length = length;
      initialiser = initialiser;
    })

pub locals : (ls : List Local) (text : List ℕ) (ts rest : List Token) → AreLocals text ls ts rest
    → Moves (λ t. AreLocals t ls) text ts rest
locals ls text ts rest h = separated (λ l t. IsLocal t l) punctuators.Semicolon ls text ts rest
    local h

pub declaration : (b : Base) (ls : List Local) (text : List ℕ) (ts rest : List Token)
    → IsDeclaration text b ls ts rest → Moves (λ t. IsDeclaration t b ls) text ts rest
declaration b ls text ts rest h = map (both (base b text ts h.0 h.1) (locals ls text h.0 rest h.2))
    (λ t us vs g. (g.0, g.1, g.2))

-- ---- parts of statements

pub optional : (e : Option Expression) (text : List ℕ) (ts rest : List Token)
    → IsOptional text e ts rest → Moves (λ t. IsOptional t e) text ts rest
optional None text ts rest h = nothing text ts rest h
optional (Some e) text ts rest h = derives comma e text ts rest h

pub up_to : (s : Punctuator) (e : Option Expression) (text : List ℕ) (ts rest : List Token)
    → IsUpTo text s e ts rest → Moves (λ t. IsUpTo t s e) text ts rest
up_to s e text ts rest h =
    map (both (optional e text ts h.0 h.1) (has_punctuator s text h.0 rest h.2))
    (λ t us vs g. (g.0, g.1, g.2))

pub condition : (e : Expression) (text : List ℕ) (ts rest : List Token) → IsCondition text e ts rest
    → Moves (λ t. IsCondition t e) text ts rest
condition e text ts rest h =
    enclosed punctuators.CloseParenthesis
    (has_punctuator punctuators.OpenParenthesis text ts h.after_opening h.opening)
    (derives comma e text h.after_opening h.after_inner h.inner) h.closing

pub first : (f : ForInitialiser) (text : List ℕ) (ts rest : List Token)
    → IsForInitialiser text f ts rest → Moves (λ t. IsForInitialiser t f) text ts rest
first (Declaring b ls) text ts rest h = declaration b ls text ts rest h
first (Evaluating e) text ts rest h = up_to punctuators.Semicolon e text ts rest h

jump : (k : Keyword) (at : ℕ) (text : List ℕ) (ts rest : List Token) → IsJump k at ts rest
    → Moves (λ t. IsJump k at) text ts rest
jump k at text ts rest h =
    map (both (keyword k at text ts h.0 h.1)
    (has_punctuator punctuators.Semicolon text h.0 rest h.2)) (λ t us vs g. (g.0, g.1, g.2))

-- a statement is moved as the item that it is
stated : {Item : List ℕ → Phrase} {text : List ℕ} {ts rest : List Token} (s : Statement)
    → IsFalse (is_declaration s) → Moves Item text ts rest
    → Moves (λ t. IsStatement s (Item t)) text ts rest
stated s n m = map m (λ t us vs g. record { no_declaration = n; item = g })

-- a block is moved as its items are
pub block : {Items : List ℕ → Phrase} (text : List ℕ) (ts rest : List Token)
    (h : IsBlock (Items text) ts rest) → Moves Items text h.after_brace rest
    → Moves (λ t. IsBlock (Items t)) text ts rest
block text ts rest h m =
    map (both (has_punctuator punctuators.OpenBrace text ts h.after_brace h.brace) m)
    (λ t us vs g. record { after_brace = g.0; brace = g.1; items = g.2 })

conditional : {Item : List ℕ → Phrase} (k : Keyword) (at : ℕ) (c : Expression) (s : Statement)
    (text : List ℕ) (ts rest : List Token)
    (h : IsConditional k at (IsCondition text c) (IsStatement s (Item text)) ts rest)
    → Moves Item text h.after_condition rest
    → Moves (λ t. IsConditional k at (IsCondition t c) (IsStatement s (Item t))) text ts rest
conditional k at c s text ts rest h m =
    map
    (both (keyword k at text ts h.after_keyword h.keyword)
    (both (condition c text h.after_keyword h.after_condition h.condition)
    (stated s h.body.no_declaration m)))
    (λ t us vs (after_keyword, keyword, (after_condition, condition, body)). record {
      after_keyword = after_keyword;
      after_condition = after_condition;
      keyword = keyword;
      condition = condition;
      body = body;
    })

pub for_head : (at : ℕ) (f : ForInitialiser) (c n : Option Expression) (text : List ℕ)
    (ts rest : List Token)
    → IsForHead at (IsForInitialiser text f) (IsUpTo text punctuators.Semicolon c)
    (IsUpTo text punctuators.CloseParenthesis n) ts rest
    → Moves (λ t. IsForHead at (IsForInitialiser t f) (IsUpTo t punctuators.Semicolon c)
    (IsUpTo t punctuators.CloseParenthesis n)) text ts rest
for_head at f c n text ts rest h =
    map
    (both (keyword keywords.For at text ts h.after_keyword h.keyword)
    (both (has_punctuator punctuators.OpenParenthesis text h.after_keyword h.after_opening
    h.opening)
    (both (first f text h.after_opening h.after_first h.first)
    (both (up_to punctuators.Semicolon c text h.after_first h.after_condition h.condition)
    (up_to punctuators.CloseParenthesis n text h.after_condition rest h.next)))))
    (λ t us vs (
      after_keyword,
      keyword,
      (after_opening, opening, (after_first, first, (after_condition, condition, next))),
    ).
    record {
      after_keyword = after_keyword;
      after_opening = after_opening;
      after_first = after_first;
      after_condition = after_condition;
      keyword = keyword;
      opening = opening;
      first = first;
      condition = condition;
      next = next;
    })

-- ---- statements

mutual
  pub item : (s : Statement) (text : List ℕ) (ts rest : List Token) → IsBlockItem text s ts rest
      → Moves (λ t. IsBlockItem t s) text ts rest
  item (Declare b ls) text ts rest h = declaration b ls text ts rest h
  item (Block ss) text ts rest h = block text ts rest h (items ss text h.after_brace rest h.items)
  item (Evaluate e) text ts rest h = up_to punctuators.Semicolon e text ts rest h
  item (If at c s) text ts rest h =
      conditional keywords.If at c s text ts rest h (item s text h.after_condition rest h.body.item)
  item (IfElse at c s z) text ts rest h =
      map
      (both (keyword keywords.If at text ts h.after_if h.keyword)
      (both (condition c text h.after_if h.after_condition h.condition)
      (both (stated s h.body.no_declaration
      (item s text h.after_condition h.after_body h.body.item))
      (both (has_keyword keywords.Else text h.after_body h.after_else h.else_keyword)
      (stated z h.else_body.no_declaration (item z text h.after_else rest h.else_body.item))))))
      (λ t us vs (
        after_if,
        keyword,
        (after_condition, condition, (after_body, body, (after_else, else_keyword, else_body))),
      ).
      record {
        after_if = after_if;
        after_condition = after_condition;
        after_body = after_body;
        after_else = after_else;
        keyword = keyword;
        condition = condition;
        complete = h.complete;
        body = body;
        else_keyword = else_keyword;
        else_body = else_body;
      })
  item (While at c s) text ts rest h =
      conditional keywords.While at c s text ts rest h
      (item s text h.after_condition rest h.body.item)
  item (DoWhile s at c) text ts rest h =
      map
      (both (has_keyword keywords.Do text ts h.after_do h.do_keyword)
      (both (stated s h.body.no_declaration (item s text h.after_do h.after_body h.body.item))
      (both (keyword keywords.While at text h.after_body h.after_while h.keyword)
      (both (condition c text h.after_while h.after_condition h.condition)
      (has_punctuator punctuators.Semicolon text h.after_condition rest h.semicolon)))))
      (λ t us vs (
        after_do,
        do_keyword,
        (after_body, body, (after_while, keyword, (after_condition, condition, semicolon))),
      ).
      record {
        after_do = after_do;
        after_body = after_body;
        after_while = after_while;
        after_condition = after_condition;
        do_keyword = do_keyword;
        body = body;
        keyword = keyword;
        condition = condition;
        semicolon = semicolon;
      })
  item (For at f c n s) text ts rest h =
      map
      (both (for_head at f c n text ts h.after_head h.head)
      (stated s h.body.no_declaration (item s text h.after_head rest h.body.item)))
      (λ t us vs g. record { after_head = g.0; head = g.1; body = g.2 })
  item (Return at e) text ts rest h =
      map (both (keyword keywords.Return at text ts h.0 h.1)
      (up_to punctuators.Semicolon e text h.0 rest h.2))
      (λ t us vs g. (g.0, g.1, g.2))
  item (Break at) text ts rest h = jump keywords.Break at text ts rest h
  item (Continue at) text ts rest h = jump keywords.Continue at text ts rest h
  item (Leave at) text ts rest h = jump keywords.Leave at text ts rest h
  item (TryExcept body at f handler) text ts rest h =
      map
      (both (has_keyword keywords.Try text ts h.after_try h.try_keyword)
      (both (block text h.after_try h.after_body h.body
      (items body text h.body.after_brace h.after_body h.body.items))
      (both (keyword keywords.Except at text h.after_body h.after_except h.keyword)
      (both (condition f text h.after_except h.after_filter h.filter)
      (block text h.after_filter rest h.handler
      (items handler text h.handler.after_brace rest h.handler.items))))))
      (λ t us vs (
        after_try,
        try_keyword,
        (after_body, body, (after_except, keyword, (after_filter, filter, handler))),
      ). record {
        after_try = after_try;
        after_body = after_body;
        after_except = after_except;
        after_filter = after_filter;
        try_keyword = try_keyword;
        body = body;
        keyword = keyword;
        filter = filter;
        handler = handler;
      })
  item (TryFinally body at last) text ts rest h =
      map
      (both (has_keyword keywords.Try text ts h.after_try h.try_keyword)
      (both (block text h.after_try h.after_body h.body
      (items body text h.body.after_brace h.after_body h.body.items))
      (both (keyword keywords.Finally at text h.after_body h.after_finally h.keyword)
      (block text h.after_finally rest h.last
      (items last text h.last.after_brace rest h.last.items)))))
      (λ t us vs (after_try, try_keyword, (after_body, body, (after_finally, keyword, last))).
      record {
        after_try = after_try;
        after_body = after_body;
        after_finally = after_finally;
        try_keyword = try_keyword;
        body = body;
        keyword = keyword;
        last = last;
      })

  pub items : (ss : Statements) (text : List ℕ) (ts rest : List Token)
      → AreBlockItems text ss ts rest → Moves (λ t. AreBlockItems t ss) text ts rest
  items Empty text ts rest h = has_punctuator punctuators.CloseBrace text ts rest h
  items (Then s ss) text ts rest h =
      map (both (item s text ts h.0 h.1) (items ss text h.0 rest h.2))
      (λ t us vs g. (g.0, g.1, g.2))

-- ---- filters and finally blocks with numbers

joined : {xs xs' ys ys' : List ℕ} → xs' ≡ xs → ys' ≡ ys → xs' ++ ys' ≡ xs ++ ys
joined {xs = xs} {ys' = ys'} p q = ap (λ z. z ++ ys') p ∙ ap (λ z. xs ++ z) q

pub filter : (f : Expression) (text text' : List ℕ) (ts rest : List Token)
    → IsCondition text f ts rest → Alike text text' ts
    → limits.accepts text' f ≡ limits.accepts text f
filter f text text' ts rest h a =
    let b = alike_after text'
    (has_punctuator punctuators.OpenParenthesis text ts h.after_opening h.opening) a in
    moves.accepts f text text' h.after_opening h.after_inner h.inner.spells b

mutual
  pub numbered : (s : Statement) (text text' : List ℕ) (ts rest : List Token)
      → IsBlockItem text s ts rest → Alike text text' ts
      → limits.numbered text' s ≡ limits.numbered text s
  numbered (Block ss) text text' ts rest h a =
      let b = alike_after text' (has_punctuator punctuators.OpenBrace text ts h.after_brace h.brace)
      a in
      funclets_of_all ss text text' h.after_brace rest h.items b
  numbered (If at c s) text text' ts rest h a =
      let b = alike_after text' (keyword keywords.If at text ts h.after_keyword h.keyword) a in
      let d = alike_after text' (condition c text h.after_keyword h.after_condition h.condition)
      b in
      numbered s text text' h.after_condition rest h.body.item d
  numbered (IfElse at c s z) text text' ts rest h a =
      let b = alike_after text' (keyword keywords.If at text ts h.after_if h.keyword) a in
      let d = alike_after text' (condition c text h.after_if h.after_condition h.condition) b in
      let e = alike_after text' (item s text h.after_condition h.after_body h.body.item) d in
      let f = alike_after text'
      (has_keyword keywords.Else text h.after_body h.after_else h.else_keyword) e in
      joined (numbered s text text' h.after_condition h.after_body h.body.item d)
      (numbered z text text' h.after_else rest h.else_body.item f)
  numbered (While at c s) text text' ts rest h a =
      let b = alike_after text' (keyword keywords.While at text ts h.after_keyword h.keyword) a in
      let d = alike_after text' (condition c text h.after_keyword h.after_condition h.condition)
      b in
      numbered s text text' h.after_condition rest h.body.item d
  numbered (DoWhile s at c) text text' ts rest h a =
      let b = alike_after text' (has_keyword keywords.Do text ts h.after_do h.do_keyword) a in
      numbered s text text' h.after_do h.after_body h.body.item b
  numbered (For at f c n s) text text' ts rest h a =
      numbered s text text' h.after_head rest h.body.item
      (alike_after text' (for_head at f c n text ts h.after_head h.head) a)
  numbered (TryExcept body at f handler) text text' ts rest h a =
      let b = alike_after text' (has_keyword keywords.Try text ts h.after_try h.try_keyword) a in
      let d = alike_after text'
      (has_punctuator punctuators.OpenBrace text h.after_try h.body.after_brace h.body.brace)
      b in
      let e = alike_after text' (items body text h.body.after_brace h.after_body h.body.items) d in
      let g = alike_after text'
      (keyword keywords.Except at text h.after_body h.after_except h.keyword) e in
      let i = alike_after text' (condition f text h.after_except h.after_filter h.filter) g in
      let j = alike_after text'
      (has_punctuator punctuators.OpenBrace text h.after_filter h.handler.after_brace
      h.handler.brace) i in
      let k = filter f text text' h.after_except h.after_filter h.filter g in
      joined
      (joined (funclets_of_all body text text' h.body.after_brace h.after_body h.body.items d)
      (ap (λ z. cond z [] (at ∷ [])) k))
      (funclets_of_all handler text text' h.handler.after_brace rest h.handler.items j)
  numbered (TryFinally body at last) text text' ts rest h a =
      let b = alike_after text' (has_keyword keywords.Try text ts h.after_try h.try_keyword) a in
      let d = alike_after text'
      (has_punctuator punctuators.OpenBrace text h.after_try h.body.after_brace h.body.brace)
      b in
      let e = alike_after text' (items body text h.body.after_brace h.after_body h.body.items) d in
      let g = alike_after text'
      (keyword keywords.Finally at text h.after_body h.after_finally h.keyword) e in
      let i = alike_after text'
      (has_punctuator punctuators.OpenBrace text h.after_finally h.last.after_brace
      h.last.brace) g in
      joined (joined (funclets_of_all body text text' h.body.after_brace h.after_body h.body.items
      d) refl)
      (funclets_of_all last text text' h.last.after_brace rest h.last.items i)
  numbered s text text' ts rest h a = refl

  pub funclets_of_all : (ss : Statements) (text text' : List ℕ) (ts rest : List Token)
      → AreBlockItems text ss ts rest → Alike text text' ts
      → limits.funclets_of_all text' ss ≡ limits.funclets_of_all text ss
  funclets_of_all Empty text text' ts rest h a = refl
  funclets_of_all (Then s ss) text text' ts rest h a =
      joined (numbered s text text' ts h.0 h.1 a)
      (funclets_of_all ss text text' h.0 rest h.2 (alike_after text' (item s text ts h.0 h.1) a))
