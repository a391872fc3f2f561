-- Statements from their parts: what is read, and that nothing is at the front where a part is
-- missing.
use Rattle.std.proofs.Common.{◌≡◌, ◌≤◌, ◌<◌, ◌+◌, ℕ, Bool, true, false, IsTrue, IsFalse, List, length, length-append, Option, refl, sym, ap, ◌∙◌, subst, arith, inl, inr}
use Rattle.std.specs.Prelude.{◌⊎◌}
use Rattle.c_parse_stmt.specs.Words.{Keyword, Punctuator, Token, Expression, height, punctuator_follows, NoElse, Closed, statements_over, locals, numbered, comma, Statement, Declare, Block, Evaluate, If, IfElse, While, DoWhile, For, Return, Break, Continue, Leave, TryExcept, TryFinally, IsUpTo, IsCondition, dangles, IsBlockItem, IsKeyword, HasPunctuator, HasKeyword, Remaining, NoCondition, NoneUpTo, NoBlockItems, Within, IsStatementWithin, NoStatement, NoEvaluation, AfterKeyword, bytes_so_far, end_of_arrays}
use Rattle.c_lex.specs.declared.keyword.Keyword.TheVariants as keywords
use Rattle.c_lex.specs.declared.punctuator.Punctuator.TheVariants as punctuators
use Rattle.c_parse_stmt.proofs.Lemmas.{punctuator_class, optional, word, absent, one_statement}
use Rattle.c_syntax.proofs.Declarations.{condition}
use Rattle.c_parse_stmt.proofs.ArrayEnds.{grows}
use Rattle.c_parse_stmt.proofs.Tails.{AfterIf, AfterIfElse, after_if, after_return, after_break, after_continue, after_leave, after_brace}

abbrev pub Fits : ℕ → List ℕ → ℕ → Remaining → Statement → Type 0
Fits limits text room left s = Within limits text (statements_over s) room left s

-- the punctuator isn't at the front
abbrev pub Lacks : Punctuator → List Token → Type 0
Lacks s ts = (rest : List Token) → HasPunctuator s ts rest → ⊥

pub fits : (limits : ℕ) (text : List ℕ) (room : ℕ) (left : Remaining) (s z : Statement) → s ≡ z
    → Fits limits text room left s → Fits limits text room left z
fits limits text room left s z e w = subst (λ (x : Statement). Fits limits text room left x) e w

pub closed_as : (s z : Statement) (end : List Token) → s ≡ z → Closed s end → Closed z end
closed_as s z end e c = subst (λ (x : Statement). Closed x end) e c

-- where a condition ends
pub after_condition : (text : List ℕ) (c d : Expression) (a b e : List Token)
    → IsCondition text c a b → IsCondition text d a e → b ≡ e
after_condition text c d a b e h g = (condition text c d a a b e refl h g).1

-- ---- `if`

pub no_if_room : (limits : ℕ) (text : List ℕ) (room at : ℕ) (left : Remaining) (a : List Token)
    → 1 ≤ limits → room ≡ 0 → AfterKeyword keywords.If at a (NoStatement room left limits text)
no_if_room limits text room at left a i n ts k s end h d c w = by (after_if text at s ts a end k h)
  where
    by : (AfterIf text at s a end ⊎ AfterIfElse text at s a end) → ⊥
    by (inl t) =
        let v = fits limits text room left s (If at t.condition t.body) t.same w in
        let o = v.statements (omega arith) in
        absurd (omega arith)
    by (inr t) =
        let v = fits limits text room left s (IfElse at t.condition t.body t.else_body) t.same w in
        let o = v.statements (omega arith) in
        absurd (omega arith)

pub no_if_condition : (limits : ℕ) (text : List ℕ) (room at : ℕ) (left : Remaining) (a : List Token)
    → NoCondition limits text a → AfterKeyword keywords.If at a (NoStatement room left limits text)
no_if_condition limits text room at left a none ts k s end h d c w = by
    (after_if text at s ts a end k h)
  where
    by : (AfterIf text at s a end ⊎ AfterIfElse text at s a end) → ⊥
    by (inl t) =
        let v = fits limits text room left s (If at t.condition t.body) t.same w in
        none t.condition t.after_condition t.is_condition
        (λ lim. let o = v.expressions lim in omega arith)
    by (inr t) =
        let v = fits limits text room left s (IfElse at t.condition t.body t.else_body) t.same w in
        none t.condition t.after_condition t.is_condition
        (λ lim. let o = v.expressions lim in omega arith)

pub no_then : (limits : ℕ) (text : List ℕ) (room less at : ℕ) (left : Remaining) (e : Expression)
    (a b : List Token) → less + 1 ≡ room → IsCondition text e a b
    → NoStatement less left limits text b → AfterKeyword keywords.If at a
    (NoStatement room left limits text)
no_then limits text room less at left e a b n is none ts k s end h d c w = by
    (after_if text at s ts a end k h)
  where
    by : (AfterIf text at s a end ⊎ AfterIfElse text at s a end) → ⊥
    by (inl t) =
        let v = fits limits text room left s (If at t.condition t.body) t.same w in
        let p = after_condition text e t.condition a b t.after_condition is t.is_condition in
        let f : NoElse end = closed_as s (If at t.condition t.body) end t.same c refl in
        none t.body end (subst (λ (y : List Token). IsBlockItem text t.body y end)
        (sym p) t.is_body.item) t.is_body.no_declaration (λ i. f) (record {
          statements = λ lim. let o = v.statements lim in omega arith;
          expressions = λ lim. let o = v.expressions lim in omega arith;
          locals = v.locals;
          bytes = v.bytes;
          funclets = v.funclets;
        })
    by (inr t) =
        let v = fits limits text room left s (IfElse at t.condition t.body t.else_body) t.same w in
        let p = after_condition text e t.condition a b t.after_condition is t.is_condition in
        none t.body t.after_body (subst (λ (y : List Token). IsBlockItem text t.body y t.after_body)
        (sym p) t.is_body.item) t.is_body.no_declaration (absent t.body t.after_body t.complete)
        (record {
          statements = λ lim. let o = v.statements lim in omega arith;
          expressions = λ lim. let o = v.expressions lim in omega arith;
          locals = λ lim. let o = v.locals lim in omega arith;
          bytes = λ lim. let o = v.bytes lim in
              let g = grows t.else_body (end_of_arrays t.body (bytes_so_far left.bytes)) in
              omega arith;
          funclets = λ lim. let o = v.funclets lim in omega (arith, length-append {A = ℕ});
        })

pub no_otherwise : (limits : ℕ) (text : List ℕ) (room less at : ℕ) (left mid : Remaining)
    (e : Expression) (z : Statement) (a b j g : List Token) → less + 1 ≡ room
    → IsCondition text e a b → IsStatementWithin text less left mid z b j
    → HasKeyword keywords.Else j g → NoStatement less mid limits text g
    → AfterKeyword keywords.If at a (NoStatement room left limits text)
no_otherwise limits text room less at left mid e z a b j g n is r els none ts k s end h d c w = by
    (after_if text at s ts a end k h)
  where
    by : (AfterIf text at s a end ⊎ AfterIfElse text at s a end) → ⊥
    by (inl t) =
        let p = after_condition text e t.condition a b t.after_condition is t.is_condition in
        let f : NoElse end = closed_as s (If at t.condition t.body) end t.same c refl in
        let u = one_statement text z t.body b j end r.is
        (subst (λ (y : List Token). IsBlockItem text t.body y end) (sym p) t.is_body.item) r.closed
        (λ i. f) in
        f g (subst (λ (y : List Token). HasKeyword keywords.Else y g) u.1 els)
    by (inr t) =
        let v = fits limits text room left s (IfElse at t.condition t.body t.else_body) t.same w in
        let p = after_condition text e t.condition a b t.after_condition is t.is_condition in
        let u = one_statement text z t.body b j t.after_body r.is
        (subst (λ (y : List Token). IsBlockItem text t.body y t.after_body) (sym p) t.is_body.item)
        r.closed (absent t.body t.after_body t.complete) in
        let q = word keywords.Else j t.after_body g t.after_else u.1 els t.else_keyword in
        let i = r.taken in let i0 = i.locals in let i1 = i.funclets in
        let m0 = ap locals u.0 in
        let m1 = ap (λ (y : Statement). length (numbered text y)) u.0 in
        none t.else_body end (subst (λ (y : List Token). IsBlockItem text t.else_body y end)
        (sym q) t.is_else_body.item) t.is_else_body.no_declaration
        (closed_as s (IfElse at t.condition t.body t.else_body) end t.same c) (record {
          statements = λ lim. let o = v.statements lim in omega arith;
          expressions = λ lim. let o = v.expressions lim in omega arith;
          locals = λ lim. let o = v.locals lim in omega arith;
          bytes = λ lim. subst (λ x. end_of_arrays t.else_body x ≤ 65536)
              (sym (i.bytes ∙ ap (λ (y : Statement). end_of_arrays y (bytes_so_far left.bytes))
              u.0)) (v.bytes lim);
          funclets = λ lim. let o = v.funclets lim in omega (arith, length-append {A = ℕ});
        })

pub if_found : (text : List ℕ) (room less at : ℕ) (left after : Remaining) (c : Expression)
    (z : Statement) (a b rest : List Token) → less + 1 ≡ room → IsCondition text c a b
    → height c ≤ 64 → IsStatementWithin text less left after z b rest → NoElse rest
    → AfterKeyword keywords.If at a (λ ts. IsStatementWithin text room left after (If at c z) ts
    rest)
if_found text room less at left after c z a b rest n is low r f ts k =
    let t = r.taken in let o = t.statements in let x = t.expressions in
    record {
      is = record {
        after_keyword = a;
        after_condition = b;
        keyword = k;
        condition = is;
        body = record { no_declaration = r.statement; item = r.is };
      };
      statement = refl;
      closed = λ i. f;
      taken = record {
        statements = omega arith;
        expressions = omega arith;
        locals = t.locals;
        bytes = t.bytes;
        funclets = t.funclets;
      };
    }

pub not_dangling : (b : Bool) → (IsTrue b → ⊥) → IsFalse b
not_dangling true h = absurd (h refl)
not_dangling false h = refl

pub if_else_found : (text : List ℕ) (room less at : ℕ) (left mid after : Remaining) (c : Expression)
    (z y : Statement) (a b d e rest : List Token) → less + 1 ≡ room → IsCondition text c a b
    → height c ≤ 64 → IsStatementWithin text less left mid z b d → HasKeyword keywords.Else d e
    → IsStatementWithin text less mid after y e rest
    → AfterKeyword keywords.If at a (λ ts. IsStatementWithin text room left after (IfElse at c z y)
    ts rest)
if_else_found text room less at left mid after c z y a b d e rest n is low r els q ts k =
    let t = r.taken in let o = t.statements in let x = t.expressions in let l = t.locals in
    let m = t.funclets in
    let u = q.taken in let o' = u.statements in let x' = u.expressions in let l' = u.locals in
    let m' = u.funclets in
    record {
      is = record {
        after_if = a;
        after_condition = b;
        after_body = d;
        after_else = e;
        keyword = k;
        condition = is;
        complete = not_dangling (dangles z) (λ i. r.closed i e els);
        body = record { no_declaration = r.statement; item = r.is };
        else_keyword = els;
        else_body = record { no_declaration = q.statement; item = q.is };
      };
      statement = refl;
      closed = q.closed;
      taken = record {
        statements = omega arith;
        expressions = omega arith;
        locals = omega arith;
        bytes = u.bytes ∙ ap (end_of_arrays y) t.bytes;
        funclets = omega (arith, length-append {A = ℕ});
      };
    }

-- ---- expressions, `return` and jumps

pub up_to : (text : List ℕ) (s : Punctuator) (e f : Option Expression) (ts us r q : List Token)
    → ts ≡ us → comma < punctuator_follows s → punctuator_class s ≡ 6 → IsUpTo text s e ts r
    → IsUpTo text s f us q → r ≡ q
up_to text s e f ts us r q p l c h g = (optional text s e f ts us h.0 g.0 r q p l c h.1 g.1 h.2
    g.2).1

pub no_evaluation : (limits : ℕ) (text : List ℕ) (room : ℕ) (left : Remaining) (ts : List Token)
    → NoneUpTo punctuators.Semicolon room limits text ts → NoEvaluation room left limits text ts
no_evaluation limits text room left ts none e end h w = none e end h w.expressions w.statements

pub no_return : (limits : ℕ) (text : List ℕ) (room at : ℕ) (left : Remaining) (a : List Token)
    → NoneUpTo punctuators.Semicolon room limits text a
    → AfterKeyword keywords.Return at a (NoStatement room left limits text)
no_return limits text room at left a none ts k s end h d c w =
    let t = after_return text at s ts a end k h in
    let v = fits limits text room left s (Return at t.0) t.1 w in
    none t.0 end t.2 v.expressions v.statements

pub no_break : (limits : ℕ) (text : List ℕ) (room at : ℕ) (left : Remaining) (ts a : List Token)
    → IsKeyword keywords.Break at ts a → Lacks punctuators.Semicolon a
    → NoStatement room left limits text ts
no_break limits text room at left ts a k none s end h d c w = none end
    (after_break text at s ts a end k h)

pub no_continue : (limits : ℕ) (text : List ℕ) (room at : ℕ) (left : Remaining) (ts a : List Token)
    → IsKeyword keywords.Continue at ts a → Lacks punctuators.Semicolon a
    → NoStatement room left limits text ts
no_continue limits text room at left ts a k none s end h d c w = none end
    (after_continue text at s ts a end k h)

pub no_leave : (limits : ℕ) (text : List ℕ) (room at : ℕ) (left : Remaining) (ts a : List Token)
    → IsKeyword keywords.Leave at ts a → Lacks punctuators.Semicolon a
    → NoStatement room left limits text ts
no_leave limits text room at left ts a k none s end h d c w = none end
    (after_leave text at s ts a end k h)

-- ---- blocks

pub no_block : (limits : ℕ) (text : List ℕ) (room : ℕ) (left : Remaining) (ts a : List Token)
    → HasPunctuator punctuators.OpenBrace ts a → NoBlockItems room left limits text a
    → NoStatement room left limits text ts
no_block limits text room left ts a o none s end h d c w =
    let t = after_brace text s ts a end o h in
    let v = fits limits text room left s (Block t.0) t.1 w in
    none t.0 end t.2 (record {
      statements = v.statements;
      expressions = v.expressions;
      locals = v.locals;
      bytes = v.bytes;
      funclets = v.funclets;
    })

-- ---- other first tokens

-- no production of a statement begins with this keyword, but for an expression
abbrev pub Plain : Keyword → Type 0
Plain keywords.Break = ⊥
Plain keywords.Continue = ⊥
Plain keywords.Do = ⊥
Plain keywords.For = ⊥
Plain keywords.If = ⊥
Plain keywords.Return = ⊥
Plain keywords.While = ⊥
Plain keywords.Try = ⊥
Plain keywords.Leave = ⊥
Plain k = Unit {0}

pub only_evaluations : (limits : ℕ) (text : List ℕ) (room : ℕ) (left : Remaining) (ts : List Token)
    → Lacks punctuators.OpenBrace ts → ((k : Keyword) (rest : List Token) → HasKeyword k ts rest
    → Plain k) → NoEvaluation room left limits text ts → NoStatement room left limits text ts
only_evaluations limits text room left ts o p none (Declare b ls) end h d c w = cc
only_evaluations limits text room left ts o p none (Block ss) end h d c w = o h.after_brace h.brace
only_evaluations limits text room left ts o p none (Evaluate e) end h d c w = none e end h w
only_evaluations limits text room left ts o p none (If at e s) end h d c w =
    p keywords.If h.after_keyword (at, h.keyword)
only_evaluations limits text room left ts o p none (IfElse at e s t) end h d c w =
    p keywords.If h.after_if (at, h.keyword)
only_evaluations limits text room left ts o p none (While at e s) end h d c w =
    p keywords.While h.after_keyword (at, h.keyword)
only_evaluations limits text room left ts o p none (DoWhile s at e) end h d c w =
    p keywords.Do h.after_do h.do_keyword
only_evaluations limits text room left ts o p none (For at f e n s) end h d c w =
    p keywords.For h.after_keyword (at, h.keyword)
only_evaluations limits text room left ts o p none (Return at e) end h d c w =
    p keywords.Return h.0 (at, h.1)
only_evaluations limits text room left ts o p none (Break at) end h d c w = p keywords.Break h.0
    (at, h.1)
only_evaluations limits text room left ts o p none (Continue at) end h d c w = p keywords.Continue
    h.0 (at, h.1)
only_evaluations limits text room left ts o p none (Leave at) end h d c w = p keywords.Leave h.0
    (at, h.1)
only_evaluations limits text room left ts o p none (TryExcept body at f l) end h d c w =
    p keywords.Try h.after_try h.try_keyword
only_evaluations limits text room left ts o p none (TryFinally body at l) end h d c w =
    p keywords.Try h.after_try h.try_keyword

pub plain_by : (k : Keyword) → (k ≡ keywords.If → ⊥) → (k ≡ keywords.While → ⊥)
    → (k ≡ keywords.Do → ⊥) → (k ≡ keywords.For → ⊥) → (k ≡ keywords.Try → ⊥)
    → (k ≡ keywords.Return → ⊥) → (k ≡ keywords.Break → ⊥) → (k ≡ keywords.Continue → ⊥)
    → (k ≡ keywords.Leave → ⊥) → Plain k
plain_by keywords.Break i w d f t r b c l = b refl
plain_by keywords.Continue i w d f t r b c l = c refl
plain_by keywords.Do i w d f t r b c l = d refl
plain_by keywords.For i w d f t r b c l = f refl
plain_by keywords.If i w d f t r b c l = i refl
plain_by keywords.Return i w d f t r b c l = r refl
plain_by keywords.While i w d f t r b c l = w refl
plain_by keywords.Try i w d f t r b c l = t refl
plain_by keywords.Leave i w d f t r b c l = l refl
plain_by k i w d f t r b c l = tt

abbrev pub left_of : ℕ → ℕ → ℕ → Remaining
left_of locals bytes funclets = record { locals = locals; bytes = bytes; funclets = funclets }
