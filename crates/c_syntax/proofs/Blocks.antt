-- There is one tree at most for a declaration, for a statement that no `else` follows, and for what
-- a block holds.
use Rattle.std.proofs.Common.{◌≡◌, ◌≤◌, ℕ, Bool, true, false, IsTrue, IsFalse, List, [], ◌∷◌}
use Rattle.std.proofs.Common.{Option, Some, None, refl, sym, ap, ◌∙◌, subst, arith}
use Rattle.c_syntax.specs.Words.{Keyword, Punctuator, Kind, Token, Base, Expression, NoElse, Closed, OneStatement, Local, ForInitialiser, Statement, Declare, Block, Evaluate, If, IfElse, While, DoWhile, For, Return, Break, Continue, Leave, TryExcept, TryFinally, Statements, Empty, Then, IsOptional, dangles, IsBlockItem, AreBlockItems, IsKeyword, HasPunctuator, HasKeyword}
use Rattle.c_lex.specs.declared.keyword.Keyword.TheVariants as keywords
use Rattle.c_lex.specs.declared.punctuator.Punctuator.TheVariants as punctuators
use Rattle.c_lex.specs.declared.token.Kind.TheVariants as kinds
use Rattle.c_syntax.proofs.Fronts.{kind_same, has_same, keyword_same, punctuator_class}
use Rattle.c_syntax.proofs.Fronts.{kind_class, front, base_front}
use Rattle.c_syntax.proofs.Once.{expression_front}
use Rattle.c_syntax.proofs.Declarations.{optional, condition, declaration, first}

-- ---- what the first token begins

-- 0 an expression statement, 1 a declaration, 2 to 11 another statement

abbrev pub keyword_begins : Keyword → ℕ
keyword_begins keywords.Break = 8
keyword_begins keywords.Char = 1
keyword_begins keywords.Continue = 9
keyword_begins keywords.Do = 5
keyword_begins keywords.Else = 20
keyword_begins keywords.For = 6
keyword_begins keywords.If = 3
keyword_begins keywords.Int = 1
keyword_begins keywords.Long = 1
keyword_begins keywords.Return = 7
keyword_begins keywords.Short = 1
keyword_begins keywords.Signed = 1
keyword_begins keywords.Unsigned = 1
keyword_begins keywords.Void = 1
keyword_begins keywords.While = 4
keyword_begins keywords.Try = 11
keyword_begins keywords.Except = 20
keyword_begins keywords.Finally = 20
keyword_begins keywords.Leave = 10
keyword_begins keywords.GetExceptionInformation = 0

abbrev pub punctuator_begins : Punctuator → ℕ
punctuator_begins punctuators.OpenParenthesis = 0
punctuator_begins punctuators.OpenBrace = 2
punctuator_begins punctuators.Semicolon = 0
punctuator_begins punctuators.Ampersand = 0
punctuator_begins punctuators.Plus = 0
punctuator_begins punctuators.Minus = 0
punctuator_begins punctuators.Star = 0
punctuator_begins punctuators.Exclamation = 0
punctuator_begins punctuators.Tilde = 0
punctuator_begins punctuators.PlusPlus = 0
punctuator_begins punctuators.MinusMinus = 0
punctuator_begins s = 20

abbrev pub kind_begins : Kind → ℕ
kind_begins kinds.Identifier = 0
kind_begins (kinds.Keyword k) = keyword_begins k
kind_begins (kinds.Reserved r) = 20
kind_begins (kinds.Integer value type) = 0
kind_begins (kinds.CharacterConstant value) = 0
kind_begins (kinds.Punctuator s) = punctuator_begins s

abbrev pub begins : List Token → ℕ
begins [] = 20
begins (t ∷ ts) = kind_begins t.kind

keyword_low : (k : Keyword) → kind_class (kinds.Keyword k) ≤ 5 → keyword_begins k ≡ 0
keyword_low keywords.GetExceptionInformation h = refl
keyword_low k h = absurd (omega arith)

keyword_typed : (k : Keyword) → kind_class (kinds.Keyword k) ≡ 7 → keyword_begins k ≡ 1
keyword_typed keywords.Char h = refl
keyword_typed keywords.Int h = refl
keyword_typed keywords.Long h = refl
keyword_typed keywords.Short h = refl
keyword_typed keywords.Signed h = refl
keyword_typed keywords.Unsigned h = refl
keyword_typed keywords.Void h = refl
keyword_typed k h = absurd (omega arith)

punctuator_low : (s : Punctuator) → punctuator_class s ≤ 5 → punctuator_begins s ≡ 0
punctuator_low punctuators.OpenParenthesis h = refl
punctuator_low punctuators.Ampersand h = refl
punctuator_low punctuators.Plus h = refl
punctuator_low punctuators.Minus h = refl
punctuator_low punctuators.Star h = refl
punctuator_low punctuators.Exclamation h = refl
punctuator_low punctuators.Tilde h = refl
punctuator_low punctuators.PlusPlus h = refl
punctuator_low punctuators.MinusMinus h = refl
punctuator_low s h = absurd (omega arith)

punctuator_typed : (s : Punctuator) → punctuator_class s ≡ 7 → punctuator_begins s ≡ 1
punctuator_typed punctuators.OpenParenthesis h = absurd (omega arith)
punctuator_typed s h = absurd (omega arith)

kind_low : (k : Kind) → kind_class k ≤ 5 → kind_begins k ≡ 0
kind_low kinds.Identifier h = refl
kind_low (kinds.Keyword k) h = keyword_low k h
kind_low (kinds.Reserved r) h = absurd (omega arith)
kind_low (kinds.Integer value type) h = refl
kind_low (kinds.CharacterConstant value) h = refl
kind_low (kinds.Punctuator s) h = punctuator_low s h

kind_typed : (k : Kind) → kind_class k ≡ 7 → kind_begins k ≡ 1
kind_typed kinds.Identifier h = absurd (omega arith)
kind_typed (kinds.Keyword k) h = keyword_typed k h
kind_typed (kinds.Reserved r) h = absurd (omega arith)
kind_typed (kinds.Integer value type) h = absurd (omega arith)
kind_typed (kinds.CharacterConstant value) h = absurd (omega arith)
kind_typed (kinds.Punctuator s) h = punctuator_typed s h

pub low_begins : (ts : List Token) → front ts ≤ 5 → begins ts ≡ 0
low_begins [] h = absurd (omega arith)
low_begins (t ∷ ts) h = kind_low t.kind h

pub typed_begins : (ts : List Token) → front ts ≡ 7 → begins ts ≡ 1
typed_begins [] h = absurd (omega arith)
typed_begins (t ∷ ts) h = kind_typed t.kind h

-- ---- first tokens of statements

abbrev pub item_class : Statement → ℕ
item_class (Declare base ls) = 1
item_class (Block ss) = 2
item_class (Evaluate e) = 0
item_class (If at c s) = 3
item_class (IfElse at c s t) = 3
item_class (While at c s) = 4
item_class (DoWhile s at c) = 5
item_class (For at f c n s) = 6
item_class (Return at e) = 7
item_class (Break at) = 8
item_class (Continue at) = 9
item_class (Leave at) = 10
item_class (TryExcept body at f handler) = 11
item_class (TryFinally body at last) = 11

optional_begins : (text : List ℕ) (e : Option Expression) (ts rest r : List Token)
    → IsOptional text e ts rest → HasPunctuator punctuators.Semicolon rest r → begins ts ≡ 0
optional_begins text None ts rest r h (at, (last, split)) = ap begins (h ∙ split)
optional_begins text (Some e) ts rest r h x =
    low_begins ts (expression_front text e ts rest h.spells)

pub item_begins : (text : List ℕ) (s : Statement) (ts rest : List Token)
    → IsBlockItem text s ts rest → begins ts ≡ item_class s
item_begins text (Declare base ls) ts rest h = typed_begins ts (base_front base ts h.0 h.1)
item_begins text (Block ss) ts rest h = let (at, (last, split)) = h.brace in ap begins split
item_begins text (Evaluate e) ts rest h = optional_begins text e ts h.0 rest h.1 h.2
item_begins text (If at c s) ts rest h = ap begins h.keyword.1
item_begins text (IfElse at c s t) ts rest h = ap begins h.keyword.1
item_begins text (While at c s) ts rest h = ap begins h.keyword.1
item_begins text (DoWhile s at c) ts rest h = let (place, (last, split)) = h.do_keyword in
    ap begins split
item_begins text (For at f c n s) ts rest h = ap begins h.keyword.1
item_begins text (Return at e) ts rest (mid, (last, split), value) = ap begins split
item_begins text (Break at) ts rest (mid, (last, split), semicolon) = ap begins split
item_begins text (Continue at) ts rest (mid, (last, split), semicolon) = ap begins split
item_begins text (Leave at) ts rest (mid, (last, split), semicolon) = ap begins split
item_begins text (TryExcept body at f handler) ts rest h = let (place, (last, split)) =
    h.try_keyword in ap begins split
item_begins text (TryFinally body at last) ts rest h = let (place, (end, split)) = h.try_keyword in
    ap begins split

pub class_low : (s : Statement) → item_class s ≤ 11
class_low (Declare base ls) = omega arith
class_low s = omega arith

pub no_else : (ts : List Token) → begins ts ≤ 11 → NoElse ts
no_else ts h = λ rest (at, (last, split)). let e : begins ts ≡ 20 = ap begins split in
    absurd (omega arith)

-- no `else` is after what is in a block
pub items_else : (text : List ℕ) (ss : Statements) (ts rest : List Token)
    → AreBlockItems text ss ts rest → NoElse ts
items_else text Empty ts rest h = λ end g.
    let q = kind_same (kinds.Punctuator punctuators.CloseBrace) (kinds.Keyword keywords.Else) h.0
    g.0 ts ts rest end refl h.1 g.1 in
    let e : kinds.Punctuator punctuators.CloseBrace ≡ kinds.Keyword keywords.Else = q.0 in cc
items_else text (Then s ss) ts rest h =
    no_else ts (let a = item_begins text s ts h.0 h.1 in let b = class_low s in omega arith)

pub brace_begins : (ts rest : List Token) → HasPunctuator punctuators.CloseBrace ts rest
    → begins ts ≡ 20
brace_begins ts rest (at, (last, split)) = ap begins split

pub place : (k : Keyword) (at to : ℕ) (ts us rest end : List Token) → ts ≡ us
    → IsKeyword k at ts rest → IsKeyword k to us end → (at ≡ to) × (rest ≡ end)
place k at to ts us rest end p h g = let a =
    kind_same (kinds.Keyword k) (kinds.Keyword k) at to ts us rest end p h g in (a.1, a.2)

pub word : (k : Keyword) (ts us rest end : List Token) → ts ≡ us → HasKeyword k ts rest
    → HasKeyword k us end → rest ≡ end
word k ts us rest end p h g = (keyword_same k k ts us rest end p h g).1

pub absent : (s : Statement) (ts : List Token) → IsFalse (dangles s) → Closed s ts
absent s ts f = λ t. absurd (both (dangles s) t f)
  where
    both : (b : Bool) → IsTrue b → IsFalse b → ⊥
    both true t f = cc
    both false t f = cc

pub while_else : (at : ℕ) (ts rest : List Token) → IsKeyword keywords.While at ts rest → NoElse ts
while_else at ts rest h = no_else ts (let a : begins ts ≡ 4 = ap begins h.1 in omega arith)

pub else_at : (ts us rest : List Token) → ts ≡ us → HasKeyword keywords.Else us rest
    → HasKeyword keywords.Else ts rest
else_at ts us rest p h = subst (λ (x : List Token). HasKeyword keywords.Else x rest) (sym p) h

-- statements that begin otherwise
pub apart : (text : List ℕ) (s z : Statement) (ts us rest end : List Token) → ts ≡ us
    → IsBlockItem text s ts rest → IsBlockItem text z us end → (item_class s ≡ item_class z → ⊥) → ⊥
apart text s z ts us rest end p h g n =
    n (sym (item_begins text s ts rest h) ∙ ap begins p ∙ item_begins text z us end g)

-- ---- statements

mutual
  pub same_item : (text : List ℕ) (s z : Statement) (ts us rest end : List Token) → ts ≡ us
      → IsBlockItem text s ts rest → IsBlockItem text z us end → Closed s rest → Closed z end
      → (s ≡ z) × (rest ≡ end)
  same_item text (Declare base ls) (Declare base' ls') ts us rest end p h g x y =
      let a = declaration text base base' ls ls' ts us rest end p h g in
      (ap (λ (x : Base). Declare x ls) a.0 ∙ ap (λ (x : List Local). Declare base' x) a.1, a.2)
  same_item text (Block ss) (Block ss') ts us rest end p h g x y =
      let a = has_same punctuators.OpenBrace ts us h.after_brace g.after_brace p h.brace g.brace in
      let b = same_items text ss ss' h.after_brace g.after_brace rest end a h.items g.items in
      (ap (λ (x : Statements). Block x) b.0, b.1)
  same_item text (Evaluate e) (Declare base' ls') ts us rest end p h g x y =
      absurd (apart text (Evaluate e) (Declare base' ls') ts us rest end p h g
      (λ e. absurd (omega arith)))
  same_item text (Evaluate e) (Block ss') ts us rest end p h g x y =
      absurd (apart text (Evaluate e) (Block ss') ts us rest end p h g (λ e. absurd (omega arith)))
  same_item text (Evaluate e) (Evaluate e') ts us rest end p h g x y =
      let a = optional text punctuators.Semicolon e e' ts us h.0 g.0 rest end p (omega arith) refl
      h.1 g.1 h.2 g.2 in
      (ap (λ (x : Option Expression). Evaluate x) a.0, a.1)
  same_item text (Evaluate e) (If at' c' s') ts us rest end p h g x y =
      absurd (apart text (Evaluate e) (If at' c' s') ts us rest end p h g
      (λ e. absurd (omega arith)))
  same_item text (Evaluate e) (IfElse at' c' s' t') ts us rest end p h g x y =
      absurd (apart text (Evaluate e) (IfElse at' c' s' t') ts us rest end p h g
      (λ e. absurd (omega arith)))
  same_item text (Evaluate e) (While at' c' s') ts us rest end p h g x y =
      absurd (apart text (Evaluate e) (While at' c' s') ts us rest end p h g
      (λ e. absurd (omega arith)))
  same_item text (Evaluate e) (DoWhile s' at' c') ts us rest end p h g x y =
      absurd (apart text (Evaluate e) (DoWhile s' at' c') ts us rest end p h g
      (λ e. absurd (omega arith)))
  same_item text (Evaluate e) (For at' f' c' n' s') ts us rest end p h g x y =
      absurd (apart text (Evaluate e) (For at' f' c' n' s') ts us rest end p h g
      (λ e. absurd (omega arith)))
  same_item text (Evaluate e) (Return at' e') ts us rest end p h g x y =
      absurd (apart text (Evaluate e) (Return at' e') ts us rest end p h g
      (λ e. absurd (omega arith)))
  same_item text (Evaluate e) (Break at') ts us rest end p h g x y =
      absurd (apart text (Evaluate e) (Break at') ts us rest end p h g (λ e. absurd (omega arith)))
  same_item text (Evaluate e) (Continue at') ts us rest end p h g x y =
      absurd (apart text (Evaluate e) (Continue at') ts us rest end p h g
      (λ e. absurd (omega arith)))
  same_item text (Evaluate e) (Leave at') ts us rest end p h g x y =
      absurd (apart text (Evaluate e) (Leave at') ts us rest end p h g (λ e. absurd (omega arith)))
  same_item text (Evaluate e) (TryExcept body' at' f' handler') ts us rest end p h g x y =
      absurd (apart text (Evaluate e) (TryExcept body' at' f' handler') ts us rest end p h g
      (λ e. absurd (omega arith)))
  same_item text (Evaluate e) (TryFinally body' at' last') ts us rest end p h g x y =
      absurd (apart text (Evaluate e) (TryFinally body' at' last') ts us rest end p h g
      (λ e. absurd (omega arith)))
  same_item text (If at c s) (If at' c' s') ts us rest end p h g x y =
      let a = place keywords.If at at' ts us h.after_keyword g.after_keyword p h.keyword
      g.keyword in
      let b = condition text c c' h.after_keyword g.after_keyword h.after_condition
      g.after_condition a.1 h.condition g.condition in
      let d = same_item text s s' h.after_condition g.after_condition rest end b.1 h.body.item
      g.body.item (λ t. x refl) (λ t. y refl) in (
        ap (λ (v : ℕ). If v c s) a.0 ∙ ap (λ (v : Expression). If at' v s) b.0
            ∙ ap (λ (v : Statement). If at' c' v) d.0,
        d.1,
      )
  same_item text (If at c s) (IfElse at' c' s' t') ts us rest end p h g x y =
      let a = place keywords.If at at' ts us h.after_keyword g.after_if p h.keyword g.keyword in
      let b = condition text c c' h.after_keyword g.after_if h.after_condition g.after_condition a.1
      h.condition g.condition in
      let d = same_item text s s' h.after_condition g.after_condition rest g.after_body b.1
      h.body.item g.body.item (λ v. x refl) (absent s' g.after_body g.complete) in
      absurd (x refl g.after_else (else_at rest g.after_body g.after_else d.1 g.else_keyword))
  same_item text (IfElse at c s t) (If at' c' s') ts us rest end p h g x y =
      let a = place keywords.If at at' ts us h.after_if g.after_keyword p h.keyword g.keyword in
      let b = condition text c c' h.after_if g.after_keyword h.after_condition g.after_condition a.1
      h.condition g.condition in
      let d = same_item text s s' h.after_condition g.after_condition h.after_body end b.1
      h.body.item g.body.item (absent s h.after_body h.complete) (λ v. y refl) in
      absurd (y refl h.after_else (else_at end h.after_body h.after_else (sym d.1) h.else_keyword))
  same_item text (IfElse at c s t) (IfElse at' c' s' t') ts us rest end p h g x y =
      let a = place keywords.If at at' ts us h.after_if g.after_if p h.keyword g.keyword in
      let b = condition text c c' h.after_if g.after_if h.after_condition g.after_condition a.1
      h.condition g.condition in
      let d = same_item text s s' h.after_condition g.after_condition h.after_body g.after_body b.1
      h.body.item g.body.item (absent s h.after_body h.complete)
      (absent s' g.after_body g.complete) in
      let w = word keywords.Else h.after_body g.after_body h.after_else g.after_else d.1
      h.else_keyword g.else_keyword in
      let e = same_item text t t' h.after_else g.after_else rest end w h.else_body.item
      g.else_body.item x y in (
        ap (λ (v : ℕ). IfElse v c s t) a.0 ∙ ap (λ (v : Expression). IfElse at' v s t) b.0
            ∙ ap (λ (v : Statement). IfElse at' c' v t) d.0
            ∙ ap (λ (v : Statement). IfElse at' c' s' v) e.0,
        e.1,
      )
  same_item text (While at c s) (While at' c' s') ts us rest end p h g x y =
      let a = place keywords.While at at' ts us h.after_keyword g.after_keyword p h.keyword
      g.keyword in
      let b = condition text c c' h.after_keyword g.after_keyword h.after_condition
      g.after_condition a.1 h.condition g.condition in
      let d = same_item text s s' h.after_condition g.after_condition rest end b.1 h.body.item
      g.body.item x y in (
        ap (λ (v : ℕ). While v c s) a.0 ∙ ap (λ (v : Expression). While at' v s) b.0
            ∙ ap (λ (v : Statement). While at' c' v) d.0,
        d.1,
      )
  same_item text (DoWhile s at c) (DoWhile s' at' c') ts us rest end p h g x y =
      let a = word keywords.Do ts us h.after_do g.after_do p h.do_keyword g.do_keyword in
      let d = same_item text s s' h.after_do g.after_do h.after_body g.after_body a h.body.item
      g.body.item (λ t. while_else at h.after_body h.after_while h.keyword)
      (λ t. while_else at' g.after_body g.after_while g.keyword) in
      let b = place keywords.While at at' h.after_body g.after_body h.after_while g.after_while d.1
      h.keyword g.keyword in
      let e = condition text c c' h.after_while g.after_while h.after_condition g.after_condition
      b.1 h.condition g.condition in (
        ap (λ (v : Statement). DoWhile v at c) d.0 ∙ ap (λ (v : ℕ). DoWhile s' v c) b.0
            ∙ ap (λ (v : Expression). DoWhile s' at' v) e.0,
        has_same punctuators.Semicolon
            h.after_condition g.after_condition rest end e.1 h.semicolon g.semicolon,
      )
  same_item text (For at f c n s) (For at' f' c' n' s') ts us rest end p h g x y =
      let a = place keywords.For at at' ts us h.after_keyword g.after_keyword p h.keyword
      g.keyword in
      let b = has_same punctuators.OpenParenthesis h.after_keyword g.after_keyword h.after_opening
      g.after_opening a.1 h.opening g.opening in
      let d = first text f f' h.after_opening g.after_opening h.after_first g.after_first b h.first
      g.first in
      let e = optional text punctuators.Semicolon c c' h.after_first g.after_first h.condition.0
      g.condition.0 h.after_condition g.after_condition d.1 (omega arith) refl h.condition.1
      g.condition.1 h.condition.2 g.condition.2 in
      let i = optional text punctuators.CloseParenthesis n n' h.after_condition g.after_condition
      h.next.0 g.next.0 h.after_head g.after_head e.1 (omega arith) refl h.next.1 g.next.1
      h.next.2 g.next.2 in
      let j = same_item text s s' h.after_head g.after_head rest end i.1 h.body.item g.body.item x
      y in (
        ap (λ (v : ℕ). For v f c n s) a.0 ∙ ap (λ (v : ForInitialiser). For at' v c n s) d.0
            ∙ ap (λ (v : Option Expression). For at' f' v n s) e.0
            ∙ ap (λ (v : Option Expression). For at' f' c' v s) i.0
            ∙ ap (λ (v : Statement). For at' f' c' n' v) j.0,
        j.1,
      )
  same_item text (Return at e) (Declare base' ls') ts us rest end p h g x y =
      absurd (apart text (Return at e) (Declare base' ls') ts us rest end p h g
      (λ e. absurd (omega arith)))
  same_item text (Return at e) (Block ss') ts us rest end p h g x y =
      absurd (apart text (Return at e) (Block ss') ts us rest end p h g (λ e. absurd (omega arith)))
  same_item text (Return at e) (Evaluate e') ts us rest end p h g x y =
      absurd (apart text (Return at e) (Evaluate e') ts us rest end p h g
      (λ e. absurd (omega arith)))
  same_item text (Return at e) (If at' c' s') ts us rest end p h g x y =
      absurd (apart text (Return at e) (If at' c' s') ts us rest end p h g
      (λ e. absurd (omega arith)))
  same_item text (Return at e) (IfElse at' c' s' t') ts us rest end p h g x y =
      absurd (apart text (Return at e) (IfElse at' c' s' t') ts us rest end p h g
      (λ e. absurd (omega arith)))
  same_item text (Return at e) (While at' c' s') ts us rest end p h g x y =
      absurd (apart text (Return at e) (While at' c' s') ts us rest end p h g
      (λ e. absurd (omega arith)))
  same_item text (Return at e) (DoWhile s' at' c') ts us rest end p h g x y =
      absurd (apart text (Return at e) (DoWhile s' at' c') ts us rest end p h g
      (λ e. absurd (omega arith)))
  same_item text (Return at e) (For at' f' c' n' s') ts us rest end p h g x y =
      absurd (apart text (Return at e) (For at' f' c' n' s') ts us rest end p h g
      (λ e. absurd (omega arith)))
  same_item text (Return at e) (Return at' e') ts us rest end p h g x y =
      let (mid, word, (after, value, closed)) = h in
      let (mid', word', (after', value', closed')) = g in
      let a = place keywords.Return at at' ts us mid mid' p word word' in
      let b = optional text punctuators.Semicolon e e' mid mid' after after' rest end a.1
      (omega arith) refl value value' closed closed' in
      (ap (λ (v : ℕ). Return v e) a.0 ∙ ap (λ (v : Option Expression). Return at' v) b.0, b.1)
  same_item text (Return at e) (Break at') ts us rest end p h g x y =
      absurd (apart text (Return at e) (Break at') ts us rest end p h g (λ e. absurd (omega arith)))
  same_item text (Return at e) (Continue at') ts us rest end p h g x y =
      absurd (apart text (Return at e) (Continue at') ts us rest end p h g
      (λ e. absurd (omega arith)))
  same_item text (Return at e) (Leave at') ts us rest end p h g x y =
      absurd (apart text (Return at e) (Leave at') ts us rest end p h g (λ e. absurd (omega arith)))
  same_item text (Return at e) (TryExcept body' at' f' handler') ts us rest end p h g x y =
      absurd (apart text (Return at e) (TryExcept body' at' f' handler') ts us rest end p h g
      (λ e. absurd (omega arith)))
  same_item text (Return at e) (TryFinally body' at' last') ts us rest end p h g x y =
      absurd (apart text (Return at e) (TryFinally body' at' last') ts us rest end p h g
      (λ e. absurd (omega arith)))
  same_item text (Break at) (Break at') ts us rest end p h g x y =
      let a = place keywords.Break at at' ts us h.0 g.0 p h.1 g.1 in
      (ap (λ (v : ℕ). Break v) a.0, has_same punctuators.Semicolon h.0 g.0 rest end a.1 h.2 g.2)
  same_item text (Continue at) (Continue at') ts us rest end p h g x y =
      let a = place keywords.Continue at at' ts us h.0 g.0 p h.1 g.1 in
      (ap (λ (v : ℕ). Continue v) a.0, has_same punctuators.Semicolon h.0 g.0 rest end a.1 h.2 g.2)
  same_item text (Leave at) (Leave at') ts us rest end p h g x y =
      let a = place keywords.Leave at at' ts us h.0 g.0 p h.1 g.1 in
      (ap (λ (v : ℕ). Leave v) a.0, has_same punctuators.Semicolon h.0 g.0 rest end a.1 h.2 g.2)
  same_item text (TryExcept body at f handler) (TryExcept body' at' f' handler') ts us rest end p h
      g x y =
      let a = word keywords.Try ts us h.after_try g.after_try p h.try_keyword g.try_keyword in
      let b = has_same punctuators.OpenBrace h.after_try g.after_try h.body.after_brace
      g.body.after_brace a h.body.brace g.body.brace in
      let c = same_items text body body' h.body.after_brace g.body.after_brace h.after_body
      g.after_body b h.body.items g.body.items in
      let d = place keywords.Except at at' h.after_body g.after_body h.after_except g.after_except
      c.1 h.keyword g.keyword in
      let e = condition text f f' h.after_except g.after_except h.after_filter g.after_filter d.1
      h.filter g.filter in
      let i = has_same punctuators.OpenBrace h.after_filter g.after_filter h.handler.after_brace
      g.handler.after_brace e.1 h.handler.brace g.handler.brace in
      let j = same_items text handler handler' h.handler.after_brace g.handler.after_brace rest end
      i h.handler.items g.handler.items in (
        ap (λ (v : Statements). TryExcept v at f handler) c.0
            ∙ ap (λ (v : ℕ). TryExcept body' v f handler) d.0
            ∙ ap (λ (v : Expression). TryExcept body' at' v handler) e.0
            ∙ ap (λ (v : Statements). TryExcept body' at' f' v) j.0,
        j.1,
      )
  same_item text (TryExcept body at f handler) (TryFinally body' at' last') ts us rest end p h g x
      y =
      let a = word keywords.Try ts us h.after_try g.after_try p h.try_keyword g.try_keyword in
      let b = has_same punctuators.OpenBrace h.after_try g.after_try h.body.after_brace
      g.body.after_brace a h.body.brace g.body.brace in
      let c = same_items text body body' h.body.after_brace g.body.after_brace h.after_body
      g.after_body b h.body.items g.body.items in
      let e : keywords.Except ≡ keywords.Finally =
      (keyword_same keywords.Except keywords.Finally h.after_body g.after_body h.after_except
      g.after_finally c.1 (at, h.keyword) (at', g.keyword)).0 in absurd cc
  same_item text (TryFinally body at last) (TryExcept body' at' f' handler') ts us rest end p h g x
      y =
      let a = word keywords.Try ts us h.after_try g.after_try p h.try_keyword g.try_keyword in
      let b = has_same punctuators.OpenBrace h.after_try g.after_try h.body.after_brace
      g.body.after_brace a h.body.brace g.body.brace in
      let c = same_items text body body' h.body.after_brace g.body.after_brace h.after_body
      g.after_body b h.body.items g.body.items in
      let e : keywords.Finally ≡ keywords.Except =
      (keyword_same keywords.Finally keywords.Except h.after_body g.after_body h.after_finally
      g.after_except c.1 (at, h.keyword) (at', g.keyword)).0 in absurd cc
  same_item text (TryFinally body at last) (TryFinally body' at' last') ts us rest end p h g x y =
      let a = word keywords.Try ts us h.after_try g.after_try p h.try_keyword g.try_keyword in
      let b = has_same punctuators.OpenBrace h.after_try g.after_try h.body.after_brace
      g.body.after_brace a h.body.brace g.body.brace in
      let c = same_items text body body' h.body.after_brace g.body.after_brace h.after_body
      g.after_body b h.body.items g.body.items in
      let d = place keywords.Finally at at' h.after_body g.after_body h.after_finally
      g.after_finally c.1 h.keyword g.keyword in
      let i = has_same punctuators.OpenBrace h.after_finally g.after_finally h.last.after_brace
      g.last.after_brace d.1 h.last.brace g.last.brace in
      let j = same_items text last last' h.last.after_brace g.last.after_brace rest end i
      h.last.items g.last.items in (
        ap (λ (v : Statements). TryFinally v at last) c.0
            ∙ ap (λ (v : ℕ). TryFinally body' v last) d.0
            ∙ ap (λ (v : Statements). TryFinally body' at' v) j.0,
        j.1,
      )
  same_item text s z ts us rest end p h g x y =
      absurd (apart text s z ts us rest end p h g (λ e. absurd (omega arith)))

  pub same_items : (text : List ℕ) (ss zs : Statements) (ts us rest end : List Token) → ts ≡ us
      → AreBlockItems text ss ts rest → AreBlockItems text zs us end → (ss ≡ zs) × (rest ≡ end)
  same_items text Empty Empty ts us rest end p h g =
      (refl, has_same punctuators.CloseBrace ts us rest end p h g)
  same_items text Empty (Then z zs) ts us rest end p h g =
      let a = brace_begins ts rest h in let b = item_begins text z us g.0 g.1 in let c =
      class_low z in let d = ap begins p in absurd (omega arith)
  same_items text (Then s ss) Empty ts us rest end p h g =
      let a = brace_begins us end g in let b = item_begins text s ts h.0 h.1 in let c =
      class_low s in let d = ap begins p in absurd (omega arith)
  same_items text (Then s ss) (Then z zs) ts us rest end p h g =
      let a = same_item text s z ts us h.0 g.0 p h.1 g.1 (λ t. items_else text ss h.0 rest h.2)
      (λ t. items_else text zs g.0 end g.2) in
      let b = same_items text ss zs h.0 g.0 rest end a.1 h.2 g.2 in
      (ap (λ (x : Statement). Then x ss) a.0 ∙ ap (λ (x : Statements). Then z x) b.0, b.1)

pub one_statement : OneStatement
one_statement text s z ts rest end h g x y = same_item text s z ts ts rest end refl h g x y
