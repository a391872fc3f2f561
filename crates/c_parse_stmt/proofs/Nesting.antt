-- Parentheses around expressions.
use Rattle.std.proofs.Common.{◌≡◌, ◌≤◌, ◌<◌, ◌+◌, ℕ, zero, suc, List, [], ◌∷◌, ◌++◌, inl, inr, refl, sym, ap, ◌∙◌, subst, arith}
use Rattle.std.proofs.lemmas.Bool.{cases_order}
use Rattle.std.proofs.lemmas.List.{append-nil}
use Rattle.c_lex.specs.declared.punctuator.Punctuator.TheVariants as punctuators
use Rattle.c_parse_stmt.specs.Words.{Token, Expression, Parentheses, height, rank, SpellsExpression, accepts, IsCondition, Closes, HasPunctuator, AreOpening, AreClosing}
use Rattle.c_parse_stmt.proofs.Lemmas.{has_same, alike_same, Moves, map, both, nothing, has_punctuator, rank_low}
use Rattle.c_parse_stmt.proofs.Begins.{punctuator}
use Rattle.c_parse_stmt.proofs.Placing.{Lacks}

-- ---- opening ones

pub opening_moves : (n : ℕ) (text : List ℕ) (ts rest : List Token) → AreOpening n ts rest
    → Moves (λ t. AreOpening n) text ts rest
opening_moves zero text ts rest h = nothing text ts rest h
opening_moves (suc n) text ts rest h = map (both
    (has_punctuator punctuators.OpenParenthesis text ts h.0 h.1)
    (opening_moves n text h.0 rest h.2)) (λ t us vs g. (g.0, g.1, g.2))

opening_suc : (n : ℕ) (ts rest after : List Token) → AreOpening n ts rest
    → HasPunctuator punctuators.OpenParenthesis rest after → AreOpening (suc n) ts after
opening_suc zero ts rest after h s = (
  after,
  subst
      (λ (z : List Token). HasPunctuator punctuators.OpenParenthesis z after) (sym h) s,
  refl,
)
opening_suc (suc n) ts rest after h s = (h.0, h.1, opening_suc n h.0 rest after h.2 s)

pub opening_more : (n : ℕ) (ts rest after : List Token) → AreOpening n ts rest
    → HasPunctuator punctuators.OpenParenthesis rest after → AreOpening (n + 1) ts after
opening_more n ts rest after h s = let e : suc n ≡ n + 1 = omega arith in
    subst (λ k. AreOpening k ts after) e (opening_suc n ts rest after h s)

-- before any other rest
pub opening_again : (n : ℕ) (before other : List Token) → AreOpening n before []
    → AreOpening n (before ++ other) other
opening_again n before other h =
    let m = opening_moves n [] before [] h in
    let p : before ≡ m.front = m.split ∙ append-nil m.front in
    subst (λ (z : List Token). AreOpening n (z ++ other) other) (sym p)
    (m.again [] other (alike_same [] before))

-- the first of them, and the others
pub opening_split : (a b c : ℕ) (ts rest : List Token) → a + b ≡ c → AreOpening c ts rest
    → (mid : List Token) × AreOpening a ts mid × AreOpening b mid rest
opening_split zero b c ts rest e h = let p : c ≡ b = omega arith in
    (ts, refl, subst (λ n. AreOpening n ts rest) p h)
opening_split (suc a) b zero ts rest e h = absurd (omega arith)
opening_split (suc a) b (suc c) ts rest e h =
    let r = opening_split a b c h.0 rest (omega arith) h.2 in
    (r.0, (h.0, h.1, r.1), r.2)

-- as many as there are, at most so many
pub opening_once : (most a b : ℕ) (ts us rest end : List Token) → ts ≡ us → AreOpening a ts rest
    → AreOpening b us end → Lacks punctuators.OpenParenthesis rest
    → (b < most → Lacks punctuators.OpenParenthesis end) → a ≤ most → b ≤ most
    → (a ≡ b) × (rest ≡ end)
opening_once most zero zero ts us rest end p h g x y l k = (refl, sym h ∙ p ∙ g)
opening_once most zero (suc b) ts us rest end p h g x y l k = absurd
    (x g.0 (subst (λ (z : List Token). HasPunctuator punctuators.OpenParenthesis z g.0) (sym p ∙ h)
    g.1))
opening_once most (suc a) zero ts us rest end p h g x y l k = absurd
    (y (omega arith) h.0 (subst (λ (z : List Token). HasPunctuator punctuators.OpenParenthesis z
    h.0) (p ∙ g) h.1))
opening_once zero (suc a) (suc b) ts us rest end p h g x y l k = absurd (omega arith)
opening_once (suc most) (suc a) (suc b) ts us rest end p h g x y l k =
    let q = has_same punctuators.OpenParenthesis ts us h.0 g.0 p h.1 g.1 in
    let r = opening_once most a b h.0 g.0 rest end q h.2 g.2 x (λ d. y (omega arith)) (omega arith)
    (omega arith) in
    (ap (λ (z : ℕ). suc z) r.0, r.1)

-- ---- closing ones

pub closing_moves : (n : ℕ) (text : List ℕ) (ts rest : List Token) → AreClosing n ts rest
    → Moves (λ t. AreClosing n) text ts rest
closing_moves zero text ts rest h = nothing text ts rest h
closing_moves (suc n) text ts rest h = map (both (closing_moves n text ts h.0 h.1)
    (has_punctuator punctuators.CloseParenthesis text h.0 rest h.2)) (λ t us vs g. (g.0, g.1, g.2))

pub closing_again : (n : ℕ) (before other : List Token) → AreClosing n before []
    → AreClosing n (before ++ other) other
closing_again n before other h =
    let m = closing_moves n [] before [] h in
    let p : before ≡ m.front = m.split ∙ append-nil m.front in
    subst (λ (z : List Token). AreClosing n (z ++ other) other) (sym p)
    (m.again [] other (alike_same [] before))

-- so many
abbrev pub closing : ℕ → List Token
closing zero = []
closing (suc n) = punctuator punctuators.CloseParenthesis ∷ closing n

closing_first : (n : ℕ) (ts mid rest : List Token)
    → HasPunctuator punctuators.CloseParenthesis ts mid → AreClosing n mid rest
    → AreClosing (suc n) ts rest
closing_first zero ts mid rest s h = (
  ts,
  refl,
  subst (λ (z : List Token). HasPunctuator punctuators.CloseParenthesis ts z) h s,
)
closing_first (suc n) ts mid rest s h = (h.0, closing_first n ts mid h.0 s h.1, h.2)

pub closing_is : (n : ℕ) (other : List Token) → AreClosing n (closing n ++ other) other
closing_is zero other = refl
closing_is (suc n) other = closing_first n (punctuator punctuators.CloseParenthesis ∷ closing n
    ++ other) (closing n ++ other) other (0, (0, refl)) (closing_is n other)

pub closing_both : (a b c : ℕ) (ts mid rest : List Token) → a + b ≡ c → AreClosing a ts mid
    → AreClosing b mid rest → AreClosing c ts rest
closing_both a zero c ts mid rest e h g = let p : a ≡ c = omega arith in
    subst (λ n. AreClosing n ts rest) p (subst (λ (z : List Token). AreClosing a ts z) g h)
closing_both a (suc b) zero ts mid rest e h g = absurd (omega arith)
closing_both a (suc b) (suc c) ts mid rest e h
    g = (g.0, closing_both a b c ts mid g.0 (omega arith) h g.1, g.2)

closing_same : (n : ℕ) (ts us rest end : List Token) → ts ≡ us → AreClosing n ts rest
    → AreClosing n us end → rest ≡ end
closing_same zero ts us rest end p h g = sym h ∙ p ∙ g
closing_same (suc n) ts us rest end p h g = has_same punctuators.CloseParenthesis h.0 g.0 rest end
    (closing_same n ts us h.0 g.0 p h.1 g.1) h.2 g.2

-- where there are more, another one follows the first of them
pub closing_next : (a b : ℕ) (ts us rest end : List Token) → ts ≡ us → AreClosing a ts rest
    → AreClosing b us end → a < b → Lacks punctuators.CloseParenthesis rest → ⊥
closing_next a zero ts us rest end p h g l x = absurd (omega arith)
closing_next a (suc b) ts us rest end p h g l x = elim (cases_order a b) [
  | inl e ↦ x end (subst (λ (z : List Token). HasPunctuator punctuators.CloseParenthesis z end)
      (closing_same b us ts g.0 rest (sym p) g.1 (subst (λ n. AreClosing n ts rest) e h)) g.2)
  | inr (inl k) ↦ closing_next a b ts us rest g.0 p h g.1 k x
  | inr (inr k) ↦ absurd (omega arith)
]

-- ---- what is in them

pub record Nested (text : List ℕ) (n : ℕ) (e : Expression) (ts rest : List Token) : Type 0 where
  pub tree : Expression
  pub spells : SpellsExpression text tree ts rest
  pub high : height tree ≡ n + height e
  pub same : (text' : List ℕ) → accepts text' tree ≡ accepts text' e
  pub rank : 1 ≤ n → rank tree ≡ 0
  pub closes : 1 ≤ n → (us : List Token) → Closes tree us
  pub plain : n ≡ 0 → tree ≡ e

pub nested : (n : ℕ) (text : List ℕ) (e : Expression) (ts mid mid' rest : List Token)
    → AreOpening n ts mid → SpellsExpression text e mid mid' → AreClosing n mid' rest
    → Nested text n e ts rest
nested zero text e ts mid mid' rest o s c = record {
  tree = e;
  spells = subst (λ (z : List Token). SpellsExpression text e z rest) (sym o)
      (subst (λ (z : List Token). SpellsExpression text e mid z) c s);
  high = omega arith;
  same = λ t. refl;
  rank = λ l. absurd (omega arith);
  closes = λ l. absurd (omega arith);
  plain = λ z. refl;
}
nested (suc n) text e ts mid mid' rest o s c =
    let x = nested n text e o.0 mid mid' c.0 o.2 s c.1 in
    record {
      tree = Parentheses o.1.0 x.tree;
      spells = record {
        after_opening = o.0;
        after_inner = c.0;
        opening = o.1.1;
        inner = x.spells;
        closing = c.2;
      };
      high = let h = x.high in omega arith;
      same = x.same;
      rank = λ l. refl;
      closes = λ l us. tt;
      plain = λ z. absurd (omega arith);
    }

-- a condition, whose own parentheses are the outermost
pub record Enclosed (text : List ℕ) (n : ℕ) (e : Expression) (ts rest : List Token) : Type 0 where
  pub tree : Expression
  pub is : IsCondition text tree ts rest
  pub high : height tree ≡ n + height e
  pub same : (text' : List ℕ) → accepts text' tree ≡ accepts text' e

pub enclosed : (n : ℕ) (text : List ℕ) (e : Expression) (ts mid mid' rest : List Token)
    → AreOpening (suc n) ts mid → SpellsExpression text e mid mid' → AreClosing (suc n) mid' rest
    → Enclosed text n e ts rest
enclosed n text e ts mid mid' rest o s c =
    let x = nested n text e o.0 mid mid' c.0 o.2 s c.1 in
    record {
      tree = x.tree;
      is = record {
        after_opening = o.0;
        after_inner = c.0;
        opening = o.1;
        inner = record { fits = rank_low x.tree; spells = x.spells };
        closing = c.2;
      };
      high = x.high;
      same = x.same;
    }
