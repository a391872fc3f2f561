-- Where tokens depart from the filters that accept whatever was raised.
use Rattle.std.proofs.Common.{◌≡◌, ◌≤◌, ◌<◌, ◌-◌, ℕ, zero, suc, Bool, true, false, List, [], ◌∷◌, ◌++◌, refl, sym, ap, ◌∙◌, subst, append_assoc, arith}
use Rattle.std.proofs.lemmas.List.{append-nil}
use Rattle.c_lex.specs.declared.punctuator.Punctuator.TheVariants as punctuators
use Rattle.c_lex.specs.declared.token.IntegerType.TheVariants as integers
use Rattle.c_lex.specs.declared.token.Kind.TheVariants as kinds
use Rattle.c_parse_stmt.specs.Words.{Token, Expression, Constant, Variable, Parentheses, height, SpellsExpression, Alike, SameFirst, place, Able, Onward, Failed, accepts, IsCondition, token, numbers_of, accepts_alone, AreOpening, AreClosing, Continued, ContinuesInside, NoneInside, ContinuesAfter, NoneAfter, NoFilter, HasFilter, Departs, HasCondition}
use Rattle.c_syntax.specs.declared.expression.Literal.TheVariants as literals
use Rattle.c_parse_stmt.proofs.Lemmas.{alike_same, front, alike_after, condition, has_front}
use Rattle.c_parse_stmt.proofs.Begins.{punctuator}
use Rattle.c_parse_stmt.proofs.Continuing.{atom, accepts_alike}
use Rattle.c_parse_stmt.proofs.Nesting.{opening_moves, opening_again, opening_once, closing, closing_moves, closing_again, closing_both, closing_next, enclosed}
use Rattle.c_parse_stmt.proofs.Peeling.{closing_all}
use Rattle.c_parse_stmt.proofs.Placing.{Lacks, lacks_first}

-- ---- filters that accept

pub accepted : (b : Bool) → numbers_of b ≤ 0 → b ≡ true
accepted true h = refl
accepted false h = absurd (omega arith)

record Shape (text : List ℕ) (e : Expression) (ts rest : List Token) : Type 0 where
  n : ℕ
  high : height e ≡ n
  mid : List Token
  opening : AreOpening n ts mid
  atom : Token
  following : List Token
  is : mid ≡ atom ∷ following
  yes : accepts_alone text atom ≡ true
  closing : AreClosing n following rest

shape : (text : List ℕ) (e : Expression) (ts rest : List Token) → accepts text e ≡ true
    → SpellsExpression text e ts rest → Shape text e ts rest
shape text (Constant at (literals.Integer value type)) ts rest y s =
    record {
      n = 0;
      high = refl;
      mid = ts;
      opening = refl;
      atom = token (kinds.Integer value type) at s.0;
      following = rest;
      is = s.1;
      yes = y;
      closing = refl;
    }
shape text (Variable named) ts rest y s = record {
  n = 0;
  high = refl;
  mid = ts;
  opening = refl;
  atom = token kinds.Identifier named.start named.end;
  following = rest;
  is = s;
  yes = y;
  closing = refl;
}
shape text (Parentheses at e) ts rest y s =
    let x = shape text e s.after_opening s.after_inner y s.inner in
    let h = x.high in
    record {
      n = suc x.n;
      high = omega arith;
      mid = x.mid;
      opening = (s.after_opening, (at, s.opening), x.opening);
      atom = x.atom;
      following = x.following;
      is = x.is;
      yes = x.yes;
      closing = (s.after_inner, x.closing, s.closing);
    }
shape text e ts rest y s = absurd cc

-- no parenthesis opens there
atom_lacks : (text : List ℕ) (t : Token) (mid ts : List Token) → accepts_alone text t ≡ true
    → mid ≡ t ∷ ts → Lacks punctuators.OpenParenthesis mid
atom_lacks text t mid ts y e rest h =
    let x = atom text t y in
    let c = x.class in
    let p = has_front punctuators.OpenParenthesis mid rest h in
    let q = ap front e in
    absurd (omega arith)

pub has_filter : (text : List ℕ) (ts : List Token) (e : Expression) → IsCondition text e ts []
    → height e ≤ 64 → accepts text e ≡ true → HasFilter 0 7 text ts
has_filter text ts e h low y =
    let m = condition e text ts [] h in
    let p : ts ≡ m.front = m.split ∙ append-nil m.front in
    record {
      tree = e;
      is = λ other. subst (λ (z : List Token). IsCondition text e (z ++ other)
          other) (sym p) (m.again text other (alike_same text ts));
      low = λ k. low;
      count = λ k. let q = ap numbers_of y in omega arith;
    }

from_condition : (text : List ℕ) (ts : List Token) → HasCondition 1 text ts → HasFilter 0 6 text ts
from_condition text ts c = record {
  tree = c.tree;
  is = c.is;
  low = λ k. c.low (omega arith);
  count = λ k. absurd (omega arith);
}

onward : (text : List ℕ) (before fault rest : List Token) (t : Token) (k : ℕ) → 7 ≡ suc k
    → fault ≡ t ∷ rest → Continued text before t → Onward (HasFilter 0) k text before fault
onward text before fault rest t k e is c = let z : 6 ≡ k = omega arith in
    subst (λ n. Onward (HasFilter 0) n text before fault) z
    (record {
      token = t;
      rest = rest;
      more = c.more;
      is = is;
      has = from_condition text (before ++ t ∷ c.more) c.has;
    })

-- ---- without a parenthesis

abbrev one : Token
one = token (kinds.Integer 1 integers.Int) 0 0

unopened_at : (text : List ℕ) (ts : List Token) → Lacks punctuators.OpenParenthesis ts
    → Departs text ts ts
unopened_at text ts lacks = record {
  front = [];
  split = refl;
  able = λ text' a k. record {
    more =
        punctuator punctuators.OpenParenthesis ∷ one ∷ punctuator punctuators.CloseParenthesis ∷ [];
    has =
        has_filter text' (punctuator punctuators.OpenParenthesis
        ∷ one ∷ punctuator punctuators.CloseParenthesis ∷ [])
        (Constant 0 (literals.Integer 1 integers.Int)) (record {
          after_opening = _;
          after_inner = _;
          opening = (0, (0, refl));
          inner = record { fits = omega arith; spells = (0, refl) };
          closing = (0, (0, refl));
        }) (omega arith) refl;
  };
  none =
      λ text' other a same e end h low. lacks_first punctuators.OpenParenthesis ts other same lacks
      h.after_opening h.opening;
}

pub unopened : (n : ℕ) (text : List ℕ) (ts rest : List Token) → n ≡ 0 → AreOpening n ts rest
    → (n < 65 → Lacks punctuators.OpenParenthesis rest) → Departs text ts rest
unopened zero text ts rest z h lacks = subst (λ (x : List Token). Departs text x rest) (sym h)
    (unopened_at text rest (lacks (omega arith)))
unopened (suc n) text ts rest z h lacks = absurd (omega arith)

-- ---- after opening parentheses

opening_alone : (n : ℕ) (text : List ℕ) (ts rest : List Token) (h : AreOpening n ts rest)
    → AreOpening n (opening_moves n text ts rest h).front []
opening_alone n text ts rest h =
    let m = opening_moves n text ts rest h in
    subst (λ (z : List Token). AreOpening n z []) (append-nil m.front)
    (m.again text [] (alike_same text ts))

closing_alone : (n : ℕ) (text : List ℕ) (ts rest : List Token) (h : AreClosing n ts rest)
    → AreClosing n (closing_moves n text ts rest h).front []
closing_alone n text ts rest h =
    let m = closing_moves n text ts rest h in
    subst (λ (z : List Token). AreClosing n z []) (append-nil m.front)
    (m.again text [] (alike_same text ts))

able_inside : (n : ℕ) (text : List ℕ) (before : List Token) → 1 ≤ n → n ≤ 65
    → AreOpening n before [] → Able (HasFilter 0) 7 text before
able_inside zero text before l k h = absurd (omega arith)
able_inside (suc n) text before l k h =
    let x = enclosed n text (Constant 0 (literals.Integer 1 integers.Int))
    (before ++ one ∷ closing (suc n)) (one ∷ closing (suc n)) (closing (suc n)) []
    (opening_again (suc n) before (one ∷ closing (suc n)) h) (0, refl) (closing_all (suc n)) in
    let q = x.high in
    record {
      more = one ∷ closing (suc n);
      has = has_filter text (before ++ one ∷ closing (suc n))
          x.tree x.is (omega arith) (x.same text);
    }

-- the next token doesn't accept
abbrev Refuses : List ℕ → List Token → Type 0
Refuses text ts = (t : Token) (rest : List Token) → ts ≡ t ∷ rest → accepts_alone text t ≡ true → ⊥

refuses_first : (text text' : List ℕ) (ts other : List Token) → Alike text text' ts
    → SameFirst ts other → Refuses text ts → Refuses text' other
refuses_first text text' [] other a same no_one t rest e y = let q : [] ≡ t ∷ rest = sym same ∙ e in
    cc
refuses_first text text' (u ∷ us) other a same no_one t rest e y =
    let q : u ∷ same.0 ≡ t ∷ rest = sym same.1 ∙ e in
    let p : t ≡ u = cc in
    no_one u us refl (accepts_alike text text' u a.0
    ∙ ap (λ (z : Token). accepts_alone text' z) (sym p) ∙ y)

none_accepts : (n : ℕ) (text : List ℕ) (ts rest : List Token) → n ≤ 65 → AreOpening n ts rest
    → (n < 65 → Lacks punctuators.OpenParenthesis rest) → Refuses text rest → NoFilter 0 7 text ts
none_accepts n text ts rest k h lacks no_one f end c low count =
    let y = accepted (accepts text f) (count (omega arith)) in
    let x = shape text f c.after_opening c.after_inner y c.inner.spells in
    let l = low (omega arith) in
    let w = x.high in
    let q = opening_once 65 (suc x.n) n ts ts x.mid rest refl
    (c.after_opening, c.opening, x.opening) h
    (atom_lacks text x.atom x.mid x.following x.yes x.is) lacks (omega arith) k in
    no_one x.atom x.following (sym q.1 ∙ x.is) x.yes

pub continues_inside : (n : ℕ) (text : List ℕ) (ts rest : List Token) → 1 ≤ n → n ≤ 65
    → AreOpening n ts rest → (n < 65 → Lacks punctuators.OpenParenthesis rest) → Refuses text rest
    → ContinuesInside n rest → Failed 7 (place text rest) (NoFilter 0) (HasFilter 0) text ts
continues_inside n text ts rest l k h lacks no_one g =
    let m = opening_moves n text ts rest h in
    let o = opening_alone n text ts rest h in
    record {
      front = m.front;
      fault = rest;
      split = m.split;
      located = refl;
      against = λ text' other a same. none_accepts n text' (m.front ++ other) other k
          (m.again text' other a) (λ d. lacks_first punctuators.OpenParenthesis rest other same
          (lacks d)) (refuses_first text text' rest other (alike_after text' m a) same no_one);
      able = λ text' a s. able_inside n text' m.front l k o;
      further = λ text' j a s e. onward text' m.front rest g.rest g.first j e g.split
          (g.holds text' m.front s o);
    }

pub departs_inside : (n : ℕ) (text : List ℕ) (ts rest : List Token) → 1 ≤ n → n ≤ 65
    → AreOpening n ts rest → NoneInside n rest → Departs text ts rest
departs_inside n text ts rest l k h g =
    let m = opening_moves n text ts rest h in
    let o = opening_alone n text ts rest h in
    record {
      front = m.front;
      split = m.split;
      able = λ text' a s. able_inside n text' m.front l k o;
      none = λ text' other a same. g text' m.front other o same;
    }

-- ---- after a token that accepts

able_after : (n c : ℕ) (text : List ℕ) (t : Token) (before middle : List Token) → c < n → n ≤ 65
    → AreOpening n before [] → accepts_alone text t ≡ true → AreClosing c middle []
    → Able (HasFilter 0) 7 text (before ++ t ∷ middle)
able_after zero c text t before middle l k h y g = absurd (omega arith)
able_after (suc n) c text t before middle l k h y g =
    let e = atom text t y in
    let more = closing (suc n - c) in
    let v = middle ++ more in
    let z = closing_both c (suc n - c) (suc n) v more [] (omega arith)
    (closing_again c middle more g) (closing_all (suc n - c)) in
    let x = enclosed n text e.tree (before ++ t ∷ v) (t ∷ v) v []
    (opening_again (suc n) before (t ∷ v) h) (e.spells v) z in
    let q = x.high in
    let w = e.low in
    record {
      more = more;
      has = subst (λ (u : List Token). HasFilter 0 7 text u)
          (sym (append_assoc before (t ∷ middle) more))
          (has_filter text (before ++ t ∷ v) x.tree x.is (omega arith) (x.same text ∙ e.yes));
    }

none_closes : (n c : ℕ) (text : List ℕ) (t : Token) (ts mid following rest : List Token) → c < n
    → n ≤ 65 → AreOpening n ts mid → mid ≡ t ∷ following → accepts_alone text t ≡ true
    → AreClosing c following rest → Lacks punctuators.CloseParenthesis rest → NoFilter 0 7 text ts
none_closes n c text t ts mid following rest l k h is good g lacks f end d low count =
    let y = accepted (accepts text f) (count (omega arith)) in
    let x = shape text f d.after_opening d.after_inner y d.inner.spells in
    let i = low (omega arith) in
    let w = x.high in
    let q = opening_once 65 (suc x.n) n ts ts x.mid mid refl
    (d.after_opening, d.opening, x.opening) h (atom_lacks text x.atom x.mid x.following x.yes x.is)
    (λ j. atom_lacks text t mid following good is) (omega arith) k in
    let p : t ∷ following ≡ x.atom ∷ x.following = sym is ∙ sym q.1 ∙ x.is in
    let r : following ≡ x.following = cc in
    closing_next c (suc x.n) following x.following rest end r g
    (d.after_inner, x.closing, d.closing) (let s = q.0 in omega arith) lacks

-- the parts of what was read
record Parts (n c : ℕ) (t : Token) (text : List ℕ) (ts rest : List Token) : Type 0 where
  before : List Token
  middle : List Token
  split : ts ≡ (before ++ t ∷ middle) ++ rest
  opening : AreOpening n before []
  closing : AreClosing c middle []
  accepts : (text' : List ℕ) → Alike text text' ts → accepts_alone text' t ≡ true

parts : (n c : ℕ) (text : List ℕ) (t : Token) (ts mid following rest : List Token)
    → AreOpening n ts mid → mid ≡ t ∷ following → accepts_alone text t ≡ true
    → AreClosing c following rest → Parts n c t text ts rest
parts n c text t ts mid following rest h is good g =
    let i = opening_moves n text ts mid h in
    let u = closing_moves c text following rest g in
    record {
      before = i.front;
      middle = u.front;
      split = i.split ∙ ap (λ (z : List Token). i.front ++ z)
          (is ∙ ap (λ (z : List Token). t ∷ z) u.split)
          ∙ sym (append_assoc i.front (t ∷ u.front) rest);
      opening = opening_alone n text ts mid h;
      closing = closing_alone c text following rest g;
      accepts = λ text' a. sym (accepts_alike text text' t
          (subst (λ (z : List Token). Alike text text' z) is (alike_after text' i a)).0) ∙ good;
    }

against_after : (n c : ℕ) (text : List ℕ) (t : Token) (before middle other : List Token) → c < n
    → n ≤ 65 → AreOpening n before [] → accepts_alone text t ≡ true → AreClosing c middle []
    → Lacks punctuators.CloseParenthesis other → NoFilter 0 7 text ((before ++ t ∷ middle) ++ other)
against_after n c text t before middle other l k o good u lacks =
    let v = t ∷ (middle ++ other) in
    subst (λ (z : List Token). NoFilter 0 7 text z) (sym (append_assoc before (t ∷ middle) other))
    (none_closes n c text t (before ++ v) v (middle ++ other) other l k
    (opening_again n before v o) refl good (closing_again c middle other u) lacks)

pub failed_after : (n c : ℕ) (text : List ℕ) (t : Token) (ts mid following rest : List Token)
    → c < n → n ≤ 65 → AreOpening n ts mid → mid ≡ t ∷ following → accepts_alone text t ≡ true
    → AreClosing c following rest → Lacks punctuators.CloseParenthesis rest
    → ContinuesAfter n c t rest → Failed 7 (place text rest) (NoFilter 0) (HasFilter 0) text ts
failed_after n c text t ts mid following rest l k h is good g lacks f =
    let x = parts n c text t ts mid following rest h is good g in
    record {
      front = x.before ++ t ∷ x.middle;
      fault = rest;
      split = x.split;
      located = refl;
      against = λ text' other a same. against_after n c text' t x.before x.middle other l k
          x.opening (x.accepts text' a) x.closing
          (lacks_first punctuators.CloseParenthesis rest other same lacks);
      able = λ text' a s. able_after n c text' t x.before x.middle l k x.opening (x.accepts text' a)
          x.closing;
      further = λ text' j a s e. onward text' (x.before ++ t ∷ x.middle) rest f.rest f.first j e
          f.split (f.holds text' x.before x.middle x.opening (x.accepts text' a) x.closing);
    }

pub departs_after : (n c : ℕ) (text : List ℕ) (t : Token) (ts mid following rest : List Token)
    → c < n → n ≤ 65 → AreOpening n ts mid → mid ≡ t ∷ following → accepts_alone text t ≡ true
    → AreClosing c following rest → NoneAfter n c t rest → Departs text ts rest
departs_after n c text t ts mid following rest l k h is good g f =
    let x = parts n c text t ts mid following rest h is good g in
    record {
      front = x.before ++ t ∷ x.middle;
      split = x.split;
      able = λ text' a s. able_after n c text' t x.before x.middle l k x.opening (x.accepts text' a)
          x.closing;
      none = λ text' other a same. f text' x.before x.middle other x.opening (x.accepts text' a)
          x.closing same;
    }

-- as many closing ones: such a filter is there
pub whole : (n : ℕ) (text : List ℕ) (t : Token) (ts mid following rest : List Token) → 1 ≤ n
    → n ≤ 65 → AreOpening n ts mid → mid ≡ t ∷ following → accepts_alone text t ≡ true
    → AreClosing n following rest → NoFilter 0 7 text ts → ⊥
whole zero text t ts mid following rest l k h is good g none = absurd (omega arith)
whole (suc n) text t ts mid following rest l k h is good g none =
    let e = atom text t good in
    let x = enclosed n text e.tree ts mid following rest h
    (subst (λ (z : List Token). SpellsExpression text e.tree z following) (sym is)
    (e.spells following)) g in
    let q = x.high in
    let w = e.low in
    let y = ap numbers_of (x.same text ∙ e.yes) in
    none x.tree rest x.is (λ d. omega arith) (λ d. omega arith)
