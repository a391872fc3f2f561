-- Tokens with which no statement begins.
use Rattle.std.proofs.Common.{◌≡◌, ◌≤◌, ℕ, true, false, List, [], ◌∷◌, Some, None, IsFalse, refl, sym, ap, ◌∙◌, arith, inl, inr}
use Rattle.c_parse_stmt.specs.Words.{Keyword, Punctuator, Kind, Token, SameFirst, Statement, Declare, Block, Evaluate, If, IfElse, While, DoWhile, For, Return, Break, Continue, Leave, TryExcept, TryFinally, is_declaration, IsBlockItem, token, BeginsNoExpression, BeginsNoStatement}
use Rattle.c_lex.specs.declared.keyword.Keyword.TheVariants as keywords
use Rattle.c_lex.specs.declared.punctuator.Punctuator.TheVariants as punctuators
use Rattle.c_lex.specs.declared.token.Kind.TheVariants as kinds
use Rattle.c_parse_stmt.proofs.Lemmas.{keyword_begins, punctuator_begins, kind_begins, begins, item_begins, same_begins}
use Rattle.c_parse_type.specs.Fronts.{first}
use Rattle.c_parse_stmt.proofs.Stating.{Stating}

-- ---- the tokens that begin a statement which is no evaluation

pub keyword_states : (k : Keyword) → 2 ≤ keyword_begins k → keyword_begins k ≤ 11 → Stating k
keyword_states keywords.Break h l = inr (inr (inr (inr (inr (inl refl)))))
keyword_states keywords.Continue h l = inr (inr (inr (inr (inr (inr (inl refl))))))
keyword_states keywords.Do h l = inr (inr (inl refl))
keyword_states keywords.For h l = inr (inr (inr (inl refl)))
keyword_states keywords.If h l = inl refl
keyword_states keywords.Return h l = inr (inr (inr (inr (inl refl))))
keyword_states keywords.While h l = inr (inl refl)
keyword_states keywords.Try h l = inr (inr (inr (inr (inr (inr (inr (inr refl)))))))
keyword_states keywords.Leave h l = inr (inr (inr (inr (inr (inr (inr (inl refl)))))))
keyword_states k h l = absurd (omega arith)

pub punctuator_states : (s : Punctuator) → 2 ≤ punctuator_begins s → punctuator_begins s ≤ 11
    → s ≡ punctuators.OpenBrace
punctuator_states punctuators.OpenBrace h l = refl
punctuator_states s h l = absurd (omega arith)

-- ---- none of them

first_is : (ts other : List Token) (z : Token) (rest : List Token) → SameFirst ts other
    → other ≡ z ∷ rest → (more : List Token) × (ts ≡ z ∷ more)
first_is [] other z rest same p = let e : [] ≡ z ∷ rest = sym same ∙ p in absurd cc
first_is (t ∷ ts) other z rest same p =
    let e : t ∷ same.0 ≡ z ∷ rest = sym same.1 ∙ p in let q : t ≡ z = cc in
    (ts, ap (λ (x : Token). x ∷ ts) q)

-- `;` is not the first token
abbrev pub NoSemicolon : List Token → Type 0
NoSemicolon ts = (t : Token) (rest : List Token) → ts ≡ t ∷ rest
    → t.kind ≡ kinds.Punctuator punctuators.Semicolon → ⊥

by_case : (ts : List Token) (text : List ℕ) (other : List Token) (s : Statement) (rest : List Token)
    → BeginsNoExpression ts → (2 ≤ begins ts → begins ts ≤ 11 → ⊥) → NoSemicolon ts
    → SameFirst ts other → IsBlockItem text s other rest → IsFalse (is_declaration s) → ⊥
by_case ts text other (Declare b ls) rest none class semicolon same h d = let e : true
    ≡ false = d in cc
by_case ts text other (Evaluate (Some e)) rest none class semicolon same h d = none text other same
    e h.0 h.1
by_case ts text other (Evaluate None) rest none class semicolon same h d =
    let z = h.2 in
    let f = first_is ts other (token (kinds.Punctuator punctuators.Semicolon) z.0 z.1.0) rest same
    (h.1 ∙ z.1.1) in
    semicolon (token (kinds.Punctuator punctuators.Semicolon) z.0 z.1.0) f.0 f.1 refl
by_case ts text other (Block ss) rest none class semicolon same h d =
    let c = item_begins text (Block ss) other rest h in let b = same_begins ts other same in
    class (omega arith) (omega arith)
by_case ts text other (If at c s) rest none class semicolon same h d =
    let c = item_begins text (If at c s) other rest h in let b = same_begins ts other same in
    class (omega arith) (omega arith)
by_case ts text other (IfElse at c s t) rest none class semicolon same h d =
    let c = item_begins text (IfElse at c s t) other rest h in let b = same_begins ts other same in
    class (omega arith) (omega arith)
by_case ts text other (While at c s) rest none class semicolon same h d =
    let c = item_begins text (While at c s) other rest h in let b = same_begins ts other same in
    class (omega arith) (omega arith)
by_case ts text other (DoWhile s at c) rest none class semicolon same h d =
    let c = item_begins text (DoWhile s at c) other rest h in let b = same_begins ts other same in
    class (omega arith) (omega arith)
by_case ts text other (For at f c n s) rest none class semicolon same h d =
    let c = item_begins text (For at f c n s) other rest h in let b = same_begins ts other same in
    class (omega arith) (omega arith)
by_case ts text other (Return at e) rest none class semicolon same h d =
    let c = item_begins text (Return at e) other rest h in let b = same_begins ts other same in
    class (omega arith) (omega arith)
by_case ts text other (Break at) rest none class semicolon same h d =
    let c = item_begins text (Break at) other rest h in let b = same_begins ts other same in
    class (omega arith) (omega arith)
by_case ts text other (Continue at) rest none class semicolon same h d =
    let c = item_begins text (Continue at) other rest h in let b = same_begins ts other same in
    class (omega arith) (omega arith)
by_case ts text other (Leave at) rest none class semicolon same h d =
    let c = item_begins text (Leave at) other rest h in let b = same_begins ts other same in
    class (omega arith) (omega arith)
by_case ts text other (TryExcept body at f handler) rest none class semicolon same h d =
    let c = item_begins text (TryExcept body at f handler) other rest h in
    let b = same_begins ts other same in class (omega arith) (omega arith)
by_case ts text other (TryFinally body at last) rest none class semicolon same h d =
    let c = item_begins text (TryFinally body at last) other rest h in
    let b = same_begins ts other same in class (omega arith) (omega arith)

-- no expression begins with the first token, which is neither `;` nor one that begins a statement
pub no_statement : (ts : List Token) → BeginsNoExpression ts → (2 ≤ begins ts → begins ts ≤ 11 → ⊥)
    → NoSemicolon ts → BeginsNoStatement ts
no_statement ts none class semicolon = λ text other same s rest h d. by_case ts text other s rest
    none class semicolon same h d

-- ---- by the token that was found at the front

pub no_semicolon : (ts rest : List Token) (t : Token) → ts ≡ t ∷ rest
    → (t.kind ≡ kinds.Punctuator punctuators.Semicolon → ⊥) → NoSemicolon ts
no_semicolon ts rest t p n = λ u more q e.
    let r : t ∷ rest ≡ u ∷ more = sym p ∙ q in
    let same : t ≡ u = cc in n (ap (λ (x : Token). x.kind) same ∙ e)

-- neither a keyword nor a punctuator begins a statement that is no evaluation
pub kind_states : (k : Kind) → ((x : Keyword) → k ≡ kinds.Keyword x → ⊥)
    → ((x : Punctuator) → k ≡ kinds.Punctuator x → ⊥) → 2 ≤ kind_begins k → kind_begins k ≤ 11 → ⊥
kind_states kinds.Identifier a b h l = omega arith
kind_states (kinds.Keyword x) a b h l = a x refl
kind_states (kinds.Reserved r) a b h l = omega arith
kind_states (kinds.Integer value type) a b h l = omega arith
kind_states (kinds.CharacterConstant value) a b h l = omega arith
kind_states (kinds.Punctuator x) a b h l = b x refl

-- what holds where there is no token
pub record NothingBegins (ts : List Token) : Type 0 where
  pub class : 2 ≤ begins ts → begins ts ≤ 11 → ⊥
  pub semicolon : NoSemicolon ts

some_is_something : (x : Token × List Token) → Some x ≡ None → ⊥
some_is_something x e = cc

pub nothing_begins : (ts : List Token) → None ≡ first ts → NothingBegins ts
nothing_begins [] e = record { class = λ l u. omega arith; semicolon = λ t rest p q. cc }
nothing_begins (x ∷ xs) e = absurd (some_is_something (x, xs) (sym e))
