-- What is around the parts of an expression that begins with opening parentheses.
use Rattle.std.proofs.Common.{◌≡◌, ◌≤◌, ◌<◌, ◌+◌, ℕ, zero, suc, List, [], ◌∷◌, ◌++◌, refl, sym, ap, ◌∙◌, subst, arith}
use Rattle.std.proofs.lemmas.List.{append-nil}
use Rattle.c_lex.specs.declared.punctuator.Punctuator.TheVariants as punctuators
use Rattle.c_parse_stmt.specs.Words.{Kind, Token, Expression, Constant, Variable, Information, Call, Parentheses, Prefix, Unary, Cast, height, SpellsExpression, SameFirst, IsCondition, IsOperandAlone, HasPunctuator, IsBase, NoBase, over_first, first_over, Expressed, BeginsExpression, BeginsNoExpression, AreOpening, AreClosing, Continued, ContinuesInside, NoneInside, NoCondition, HasCondition}
use Rattle.c_lex.specs.declared.token.Kind.TheVariants as kinds
use Rattle.c_syntax.specs.declared.expression.Literal.TheVariants as literals
use Rattle.c_parse_stmt.proofs.Lemmas.{alike_same, first_keeps, kind_class, front, has_same, base_front, increment_class, unary_class, condition, rank_low, has_front, spine, run_height}
use Rattle.c_parse_stmt.proofs.Begins.{punctuator, name, variable, base_at, untyped, punctuator_untyped}
use Rattle.c_parse_stmt.proofs.Nesting.{opening_again, opening_split, closing, closing_is, enclosed}
use Rattle.c_parse_stmt.proofs.Placing.{front_first}

-- ---- at least so many around a part

pub opening_untyped : (n : ℕ) (ts rest : List Token) → AreOpening n ts rest → (front rest ≡ 7 → ⊥)
    → front ts ≡ 7 → ⊥
opening_untyped zero ts rest h other e = other (ap front (sym h) ∙ e)
opening_untyped (suc n) ts rest h other e = let p = has_front punctuators.OpenParenthesis ts h.0
    h.1 in absurd (omega arith)

-- where an expression begins with a parenthesis, and no type is in it
inner_head : (text : List ℕ) (n : ℕ) (ts y : List Token)
    → HasPunctuator punctuators.OpenParenthesis ts y → (front y ≡ 7 → ⊥)
    → ((e : Expression) (rest r : List Token) → SpellsExpression text e y rest
    → HasPunctuator punctuators.CloseParenthesis rest r → n ≤ height e)
    → (h : Expression) (after : List Token) → IsOperandAlone h → SpellsExpression text h ts after
    → suc n ≤ height h
inner_head text n ts y o bare f (Constant at (literals.Integer value type)) after i s =
    let p = has_front punctuators.OpenParenthesis ts y o in let q = ap front s.1 in
    absurd (omega arith)
inner_head text n ts y o bare f (Constant at (literals.CharacterConstant value)) after i s =
    let p = has_front punctuators.OpenParenthesis ts y o in let q = ap front s.1 in
    absurd (omega arith)
inner_head text n ts y o bare f (Variable named) after i s = let p = has_front
    punctuators.OpenParenthesis ts y o in let q = ap front s in absurd (omega arith)
inner_head text n ts y o bare f (Information at field) after i s =
    let p = has_front punctuators.OpenParenthesis ts y o in
    let q = ap front s.introduction.keyword.1 in
    absurd (omega arith)
inner_head text n ts y o bare f (Call named es) after i s =
    let p = has_front punctuators.OpenParenthesis ts y o in
    let q = ap front s.called in
    absurd (omega arith)
inner_head text n ts y o bare f (Parentheses at e) after i s =
    let p = has_same punctuators.OpenParenthesis ts ts s.after_opening y refl (at, s.opening) o in
    let q = f e s.after_inner after
    (subst (λ (z : List Token). SpellsExpression text e z s.after_inner) p s.inner) s.closing in
    omega arith
inner_head text n ts y o bare f (Prefix at op e) after i s =
    let p = has_front punctuators.OpenParenthesis ts y o in
    let q : front ts ≡ 4 = ap front s.operator.1 ∙ increment_class op in absurd (omega arith)
inner_head text n ts y o bare f (Unary at op e) after i s =
    let p = has_front punctuators.OpenParenthesis ts y o in
    let q : front ts ≡ 5 = ap front s.operator.1 ∙ unary_class op in absurd (omega arith)
inner_head text n ts y o bare f (Cast at to e) after i s =
    let p = has_same punctuators.OpenParenthesis ts ts s.operator.after_opening y refl
    (at, s.operator.opening) o in
    absurd (bare
    (ap front (sym p) ∙ base_front to.base s.operator.after_opening s.operator.inner.0
    s.operator.inner.1))
inner_head text n ts y o bare f h after i s = absurd i

pub least : (m n : ℕ) (text : List ℕ) (ts v : List Token) → AreOpening m ts v
    → ((e : Expression) (rest r : List Token) → SpellsExpression text e v rest
    → HasPunctuator punctuators.CloseParenthesis rest r → n ≤ height e) → (1 ≤ m → front v ≡ 7 → ⊥)
    → (e : Expression) (rest r : List Token) → SpellsExpression text e ts rest
    → HasPunctuator punctuators.CloseParenthesis rest r → m + n ≤ height e
least zero n text ts v h f bare e rest r s c = let q = f e rest r
    (subst (λ (z : List Token). SpellsExpression text e z rest) h s) c in omega arith
least (suc m) n text ts v h f bare e rest r s c =
    let x = spine text e ts rest s in
    let k = run_height text x.head x.steps x.after e rest x.run in
    let g = opening_untyped m h.0 v h.2 (bare (omega arith)) in
    let q = inner_head text (m + n) ts h.0 h.1 g
    (λ a b d u w. least m n text h.0 v h.2 f (λ l. bare (omega arith)) a b d u w) x.head x.after
    x.is_head x.spells in
    omega arith

-- ---- by the first token

head_over : (text : List ℕ) (h : Expression) (ts after : List Token) → IsOperandAlone h
    → SpellsExpression text h ts after → first_over ts ≤ height h
head_over text (Constant at (literals.Integer value type)) ts after i s = let p = ap first_over
    s.1 in omega arith
head_over text (Constant at (literals.CharacterConstant value)) ts after i s = let p = ap first_over
    s.1 in omega arith
head_over text (Variable named) ts after i s = let p = ap first_over s in omega arith
head_over text (Information at field) ts after i s =
    let p = ap first_over s.introduction.keyword.1 in
    omega arith
head_over text (Call named es) ts after i s = let p = ap first_over s.called in omega arith
head_over text (Parentheses at e) ts after i s = let p = ap first_over s.opening.1 in omega arith
head_over text (Prefix at op e) ts after i s = let p = ap first_over s.operator.1 in omega arith
head_over text (Unary at op e) ts after i s = let p = ap first_over s.operator.1 in omega arith
head_over text (Cast at to e) ts after i s =
    let p = ap first_over s.operator.opening.1 in
    omega arith
head_over text h ts after i s = absurd i

over_least : (text : List ℕ) (e : Expression) (ts rest : List Token)
    → SpellsExpression text e ts rest → first_over ts ≤ height e
over_least text e ts rest s =
    let x = spine text e ts rest s in
    let k = run_height text x.head x.steps x.after e rest x.run in
    let q = head_over text x.head ts x.after x.is_head x.spells in
    omega arith

over_same : (ts other : List Token) → SameFirst ts other → first_over ts ≡ first_over other
over_same ts other same = first_keeps (λ z. first_over ts ≡ first_over z) (λ t xs ys n. n) ts other
    same refl

kind_untyped : (k : Kind) → over_first k ≡ 1 → kind_class k ≡ 7 → ⊥
kind_untyped (kinds.Punctuator s) h e = punctuator_untyped s e
kind_untyped k h e = absurd (omega arith)

over_untyped : (ts : List Token) → first_over ts ≡ 1 → front ts ≡ 7 → ⊥
over_untyped [] h e = absurd (omega arith)
over_untyped (t ∷ ts) h e = kind_untyped t.kind h e

-- ---- conditions after opening parentheses

pub has_condition : (n : ℕ) (text : List ℕ) (ts : List Token) (e : Expression)
    → IsCondition text e ts [] → height e ≤ 64 → HasCondition n text ts
has_condition n text ts e h low =
    let m = condition e text ts [] h in
    let p : ts ≡ m.front = m.split ∙ append-nil m.front in
    record {
      tree = e;
      is = λ other. subst (λ (z : List Token). IsCondition text e (z ++ other)
          other) (sym p) (m.again text other (alike_same text ts));
      low = λ k. low;
    }

-- after the condition's own parenthesis
pub none_inside : (m n : ℕ) (text : List ℕ) (before other : List Token)
    → AreOpening (suc m) before [] → ((e : Expression) (rest r : List Token)
    → SpellsExpression text e other rest → HasPunctuator punctuators.CloseParenthesis rest r
    → n ≤ height e) → (1 ≤ m → front other ≡ 7 → ⊥) → 64 < m + n
    → NoCondition 1 text (before ++ other)
none_inside m n text before other o f bare l e end h low =
    let x = opening_again (suc m) before other o in
    let p = has_same punctuators.OpenParenthesis (before ++ other)
    (before ++ other) h.after_opening x.0 refl h.opening x.1 in
    let q = least m n text x.0 other x.2 f bare e h.after_inner end
    (subst (λ (z : List Token). SpellsExpression text e z h.after_inner) p h.inner.spells)
    h.closing in
    let r = low (omega arith) in
    absurd (omega arith)

pub no_type : (opened : ℕ) (ts : List Token) → 1 ≤ opened → BeginsNoExpression ts
    → (2 ≤ opened → NoBase ts) → NoneInside opened ts
no_type zero ts l free none text before other o same = absurd (omega arith)
no_type (suc m) ts l free none text before other o same =
    none_inside m 65 text before other o
    (λ e rest r s c. absurd (free text other same e rest
    (record { fits = rank_low e; spells = s })))
    (λ k g. untyped ts (none (omega arith)) (front_first ts other same ∙ g))
    (omega arith)

pub too_deep : (opened : ℕ) (ts : List Token) → 65 ≤ opened → first_over ts ≡ 1
    → NoneInside opened ts
too_deep zero ts l over text before other o same = absurd (omega arith)
too_deep (suc m) ts l over text before other o same =
    let q = over_same ts other same in
    none_inside m 1 text before other o
    (λ e rest r s c. let p = over_least text e other rest s in omega arith)
    (λ k g. over_untyped ts over (front_first ts other same ∙ g))
    (omega arith)

pub closing_all : (n : ℕ) → AreClosing n (closing n) []
closing_all n = subst (λ (z : List Token). AreClosing n z []) (append-nil (closing n))
    (closing_is n [])

pub goes : (opened : ℕ) (ts : List Token) → 1 ≤ opened → opened ≤ 65 → BeginsExpression ts
    → opened + first_over ts ≤ 65 → ContinuesInside opened ts
goes zero ts l k b d = absurd (omega arith)
goes (suc m) ts l k b d = record {
  first = b.first;
  rest = b.rest;
  split = b.split;
  holds = λ text before speaks o. continued text before o (b.holds text speaks);
}
  where
    continued : (text : List ℕ) (before : List Token) → AreOpening (suc m) before []
        → Expressed text b.first → Continued text before b.first
    continued text before o x =
        let q : first_over ts ≡ over_first b.first.kind = ap first_over b.split in
        let h = x.over in
        let n = enclosed m text x.tree (before ++ b.first ∷ (x.more ++ closing (suc m)))
        (b.first ∷ (x.more ++ closing (suc m))) (closing (suc m)) []
        (opening_again (suc m) before (b.first ∷ (x.more ++ closing (suc m))) o)
        (x.derives (closing (suc m))).spells (closing_all (suc m)) in
        let w = n.high in
        record {
          more = x.more ++ closing (suc m);
          has = has_condition 1 text (before ++ b.first ∷ (x.more ++ closing (suc m))) n.tree n.is
              (omega arith);
        }

pub goes_type : (opened : ℕ) (ts : List Token) → 2 ≤ opened → opened ≤ 65 → front ts ≡ 7
    → ContinuesInside opened ts
goes_type opened [] l k h = absurd (omega arith)
goes_type zero (t ∷ ts) l k h = absurd (omega arith)
goes_type (suc zero) (t ∷ ts) l k h = absurd (omega arith)
goes_type (suc (suc n)) (t ∷ ts) l k h = record {
  first = t;
  rest = ts;
  split = refl;
  holds = λ text before speaks o. continued text before o;
}
  where
    continued : (text : List ℕ) (before : List Token) → AreOpening (suc (suc n)) before []
        → Continued text before t
    continued text before o =
        let more = punctuator punctuators.CloseParenthesis ∷ name ∷ closing (suc n) in
        let b = base_at t more h in
        let x = opening_split (suc n) 1 (suc (suc n)) (before ++ t ∷ more) (t ∷ more) (omega arith)
        (opening_again (suc (suc n)) before (t ∷ more) o) in
        let c = enclosed n text (Cast x.2.1.0 (record { base = b.0; pointers = 0 }) variable)
        (before ++ t ∷ more) x.0 (closing (suc n)) [] x.1
        (record {
          after_operator = name ∷ closing (suc n);
          operator = record {
            after_opening = x.2.0;
            after_inner = more;
            opening = x.2.1.1;
            inner = (more, subst (λ (z : List Token). IsBase b.0 z more) (sym x.2.2) b.1, refl);
            closing = (0, (0, refl));
          };
          operand = record { fits = omega arith; spells = refl };
        })
        (closing_all (suc n)) in
        let w = c.high in
        record {
          more = more;
          has = has_condition 1 text (before ++ t ∷ more) c.tree c.is
              (omega arith);
        }

kind_low : (k : Kind) → over_first k ≤ 1
kind_low kinds.Identifier = omega arith
kind_low k = omega arith

pub over_low : (ts : List Token) → first_over ts ≤ 1
over_low [] = omega arith
over_low (t ∷ ts) = kind_low t.kind
