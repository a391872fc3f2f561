-- How a filter continues after a token that accepts alone.
use Rattle.std.proofs.Common.{◌≡◌, ◌≤◌, ◌<◌, ◌+◌, ◌-◌, ℕ, zero, suc, true, List, [], ◌∷◌, ◌++◌, Option, Some, None, codes, slice_range, refl, sym, ap, ◌∙◌, subst, append_assoc, arith}
use Rattle.std.specs.Str.{bytes_eq}
use Rattle.c_parse_stmt.specs.Words.{Punctuator, Kind, Token, Increment, Expression, Constant, Variable, Call, Done, Index, Postfix, Binary, Conditional, Assign, Comma, height, rank, IsApplied, IsContinued, SpellsExpression, Derives, SameFirst, punctuator_follows, kind_follows, follows, accepts, primary, postfix, assignment, comma, binary_punctuator, increment_punctuator, assignment_punctuator, Step, At, After, With, Choose, Set, And, apply, bound, Tail, Closes, token, IsPunctuator, HasPunctuator, accepts_kind, accepts_alone, AreOpening, AreClosing, Continued, ContinuesAfter, NoneAfter, NoCondition, HasCondition}
use Rattle.c_lex.specs.declared.punctuator.Punctuator.TheVariants as punctuators
use Rattle.c_lex.specs.declared.token.Kind.TheVariants as kinds
use Rattle.c_syntax.specs.declared.operator.Arithmetic.{Arithmetic}
use Rattle.c_syntax.specs.declared.operator.Arithmetic.TheVariants as arithmetic
use Rattle.c_syntax.specs.declared.operator.Comparison.TheVariants as comparisons
use Rattle.c_syntax.specs.declared.operator.BinaryOperator.{BinaryOperator}
use Rattle.c_syntax.specs.declared.operator.BinaryOperator.TheVariants as binary
use Rattle.c_syntax.specs.declared.operator.Increment.TheVariants as increments
use Rattle.c_syntax.specs.declared.expression.Literal.TheVariants as literals
use Rattle.c_parse_stmt.proofs.Lemmas.{first_keeps, kind_class, has_same, one_expression, rank_low, has_stops, levels, step_follows, run_height}
use Rattle.c_syntax.proofs.Passing.{passes}
use Rattle.c_parse_stmt.proofs.Begins.{punctuator, name, variable}
use Rattle.c_parse_stmt.proofs.Nesting.{Nested, nested, opening_again, opening_split, closing, closing_again, enclosed}
use Rattle.c_parse_stmt.proofs.Peeling.{opening_untyped, least, has_condition, closing_all}
use Rattle.c_parse_stmt.proofs.Placing.{Lacks, lacks_first}

-- ---- a token that accepts alone

pub record Atom (text : List ℕ) (t : Token) : Type 0 where
  pub tree : Expression
  pub spells : (ts : List Token) → SpellsExpression text tree (t ∷ ts) ts
  pub low : height tree ≡ 0
  pub rank : rank tree ≡ primary
  pub yes : accepts text tree ≡ true
  pub closes : (ts : List Token) → (t.kind ≡ kinds.Identifier → primary < follows ts)
      → Closes tree ts
  pub class : kind_class t.kind ≤ 2

atom_by : (text : List ℕ) (k : Kind) (at end : ℕ) → accepts_kind text k at end ≡ true
    → Atom text (token k at end)
atom_by text kinds.Identifier at end h = record {
  tree = Variable
      (record { start = at; end = end });
  spells = λ ts. refl;
  low = refl;
  rank = refl;
  yes = h;
  closes = λ ts f. f refl;
  class = omega arith;
}
atom_by text (kinds.Keyword k) at end h = absurd cc
atom_by text (kinds.Reserved r) at end h = absurd cc
atom_by text (kinds.Integer value type) at end
    h = record {
      tree = Constant at (literals.Integer value type);
      spells = λ ts. (end, refl);
      low = refl;
      rank = refl;
      yes = h;
      closes = λ ts f. tt;
      class = omega arith;
    }
atom_by text (kinds.CharacterConstant value) at end h = absurd cc
atom_by text (kinds.Punctuator s) at end h = absurd cc

pub atom : (text : List ℕ) (t : Token) → accepts_alone text t ≡ true → Atom text t
atom text t h = atom_by text t.kind t.start t.end h

alike_by : (text text' : List ℕ) (k : Kind) (at end : ℕ)
    → slice_range text at end ≡ slice_range text' at end
    → accepts_kind text k at end ≡ accepts_kind text' k at end
alike_by text text' kinds.Identifier at end h =
    ap (λ z. bytes_eq z (codes "EXCEPTION_EXECUTE_HANDLER")) h
alike_by text text' k at end h = refl

pub accepts_alike : (text text' : List ℕ) (t : Token)
    → slice_range text t.start t.end ≡ slice_range text' t.start t.end
    → accepts_alone text t ≡ accepts_alone text' t
accepts_alike text text' t h = alike_by text text' t.kind t.start t.end h

-- ---- an operator after an operand, with the shortest other ones

record Stepped (t : Token) : Type 0 where
  more : List Token
  after : Expression → Expression
  spells : (text : List ℕ) (left : Expression) (ts other : List Token) → rank left ≡ primary
      → SpellsExpression text left ts ((t ∷ more) ++ other)
      → SpellsExpression text (after left) ts other
  high : (left : Expression) → height (after left) ≡ 1 + height left

-- a step after an operand that is primary
after_primary : (text : List ℕ) (s : Step) (left : Expression) (ts mid other : List Token)
    → rank left ≡ primary → SpellsExpression text left ts mid → Tail text s mid other
    → IsContinued (Derives text (bound s) left) (Tail text s) ts other
after_primary text s left ts mid other r h t =
    record { after_operand = mid; operand = record { fits = omega arith; spells = h }; step = t }

index : (at end : ℕ) → Stepped (token (kinds.Punctuator punctuators.OpenBracket) at end)
index at end = record {
  more = name ∷ punctuator punctuators.CloseBracket ∷ [];
  after = λ e. Index e at variable;
  spells = λ text e ts other r s.
      let subscript : Tail text (At at variable) _ other = record {
        after_opening = name ∷ punctuator punctuators.CloseBracket ∷ other;
        after_inner = punctuator punctuators.CloseBracket ∷ other;
        opening = (end, refl);
        inner = refl;
        closing = (0, (0, refl));
      } in
      after_primary text (At at variable) e ts _ other r s subscript;
  high = λ e. omega arith;
}

increment : (op : Increment) (at end : ℕ)
    → Stepped (token (kinds.Punctuator (increment_punctuator op)) at end)
increment op at end = record {
  more = [];
  after = λ e. Postfix e op at;
  spells = λ text e ts other r s. after_primary text (After op at) e ts _ other r s (end, refl);
  high = λ e. omega arith;
}

between : (op : BinaryOperator) (at end : ℕ)
    → Stepped (token (kinds.Punctuator (binary_punctuator op)) at end)
between op at end = record {
  more = name ∷ [];
  after = λ e. Binary e at op variable;
  spells = λ text e ts other r s.
      let l = (levels op).0 in
      let with_name : Tail text (With at op variable) _ other = record {
        after_operator = name ∷ other;
        operator = (end, refl);
        operand = record { fits = omega arith; spells = refl };
      } in
      after_primary text (With at op variable) e ts _ other r s with_name;
  high = λ e. omega arith;
}

choice : (at end : ℕ) → Stepped (token (kinds.Punctuator punctuators.Question) at end)
choice at end = record {
  more = name ∷ punctuator punctuators.Colon ∷ name ∷ [];
  after = λ e. Conditional e at variable variable;
  spells = λ text e ts other r s.
      let branches : Tail text (Choose at variable variable) _ other = record {
        after_operator = name ∷ other;
        operator = record {
          after_opening = name ∷ punctuator punctuators.Colon ∷ name ∷ other;
          after_inner = punctuator punctuators.Colon ∷ name ∷ other;
          opening = (end, refl);
          inner = refl;
          closing = (0, (0, refl));
        };
        operand = record { fits = omega arith; spells = refl };
      } in
      after_primary text (Choose at variable variable) e ts _ other r s branches;
  high = λ e. omega arith;
}

-- an operator and a name after it
named_after : (text : List ℕ) (s : Punctuator) (at end : ℕ) (other : List Token)
    → IsApplied (IsPunctuator s at) (Derives text assignment variable)
    (token (kinds.Punctuator s) at end ∷ name ∷ other) other
named_after text s at end other = record {
  after_operator = name ∷ other;
  operator = (end, refl);
  operand = record { fits = omega arith; spells = refl };
}

assigning : (op : Option Arithmetic) (at end : ℕ)
    → Stepped (token (kinds.Punctuator (assignment_punctuator op)) at end)
assigning op at end = record {
  more = name ∷ [];
  after = λ e. Assign e at op variable;
  spells = λ text e ts other r s.
      after_primary text (Set at op variable) e ts _ other r s
      (named_after text (assignment_punctuator op) at end other);
  high = λ e. omega arith;
}

separating : (at end : ℕ) → Stepped (token (kinds.Punctuator punctuators.Comma) at end)
separating at end = record {
  more = name ∷ [];
  after = λ e. Comma e at variable;
  spells = λ text e ts other r s.
      after_primary text (And at variable) e ts _ other r s
      (named_after text punctuators.Comma at end other);
  high = λ e. omega arith;
}

by_punctuator : (s : Punctuator) (at end : ℕ) → postfix ≤ punctuator_follows s
    → punctuator_follows s ≤ comma → Stepped (token (kinds.Punctuator s) at end)
by_punctuator punctuators.OpenBracket at end h l = index at end
by_punctuator punctuators.Comma at end h l = separating at end
by_punctuator punctuators.Question at end h l = choice at end
by_punctuator punctuators.Assign at end h l = assigning None at end
by_punctuator punctuators.PlusAssign at end h l = assigning (Some arithmetic.Add) at end
by_punctuator punctuators.MinusAssign at end h l = assigning (Some arithmetic.Subtract) at end
by_punctuator punctuators.StarAssign at end h l = assigning (Some arithmetic.Multiply) at end
by_punctuator punctuators.SlashAssign at end h l = assigning (Some arithmetic.Divide) at end
by_punctuator punctuators.PercentAssign at end h l = assigning (Some arithmetic.Remainder) at end
by_punctuator punctuators.AmpersandAssign at end h l = assigning (Some arithmetic.And) at end
by_punctuator punctuators.BarAssign at end h l = assigning (Some arithmetic.Or) at end
by_punctuator punctuators.CaretAssign at end h l = assigning (Some arithmetic.ExclusiveOr) at end
by_punctuator punctuators.ShiftLeftAssign at end h l = assigning (Some arithmetic.ShiftLeft) at end
by_punctuator punctuators.ShiftRightAssign at end h l =
    assigning (Some arithmetic.ShiftRight) at end
by_punctuator punctuators.BarBar at end h l = between binary.LogicalOr at end
by_punctuator punctuators.AmpersandAmpersand at end h l = between binary.LogicalAnd at end
by_punctuator punctuators.Bar at end h l = between (binary.Arithmetic arithmetic.Or) at end
by_punctuator punctuators.Caret at end h l = between (binary.Arithmetic arithmetic.ExclusiveOr) at
    end
by_punctuator punctuators.Ampersand at end h l = between (binary.Arithmetic arithmetic.And) at end
by_punctuator punctuators.Equal at end h l = between (binary.Comparison comparisons.Equal) at end
by_punctuator punctuators.NotEqual at end h l = between (binary.Comparison comparisons.NotEqual) at
    end
by_punctuator punctuators.Less at end h l = between (binary.Comparison comparisons.Less) at end
by_punctuator punctuators.Greater at end h l = between (binary.Comparison comparisons.Greater) at
    end
by_punctuator punctuators.LessEqual at end h l = between (binary.Comparison comparisons.LessEqual)
    at end
by_punctuator punctuators.GreaterEqual at end h l = between
    (binary.Comparison comparisons.GreaterEqual) at end
by_punctuator punctuators.ShiftLeft at end h l = between (binary.Arithmetic arithmetic.ShiftLeft) at
    end
by_punctuator punctuators.ShiftRight at end h l = between (binary.Arithmetic arithmetic.ShiftRight)
    at end
by_punctuator punctuators.Plus at end h l = between (binary.Arithmetic arithmetic.Add) at end
by_punctuator punctuators.Minus at end h l = between (binary.Arithmetic arithmetic.Subtract) at end
by_punctuator punctuators.Star at end h l = between (binary.Arithmetic arithmetic.Multiply) at end
by_punctuator punctuators.Slash at end h l = between (binary.Arithmetic arithmetic.Divide) at end
by_punctuator punctuators.Percent at end h l = between (binary.Arithmetic arithmetic.Remainder) at
    end
by_punctuator punctuators.PlusPlus at end h l = increment increments.Increment at end
by_punctuator punctuators.MinusMinus at end h l = increment increments.Decrement at end
by_punctuator s at end h l = absurd (omega arith)

by_kind : (k : Kind) (at end : ℕ) → postfix ≤ kind_follows k → kind_follows k ≤ comma
    → Stepped (token k at end)
by_kind (kinds.Punctuator s) at end h l = by_punctuator s at end h l
by_kind k at end h l = absurd (omega arith)

stepped : (t : Token) → postfix ≤ kind_follows t.kind → kind_follows t.kind ≤ comma → Stepped t
stepped t h l = by_kind t.kind t.start t.end h l

open_by : (s : Punctuator) → punctuator_follows s ≡ primary → s ≡ punctuators.OpenParenthesis
open_by punctuators.OpenParenthesis h = refl
open_by s h = absurd (omega arith)

open_kind : (k : Kind) → kind_follows k ≡ primary → k ≡ kinds.Punctuator punctuators.OpenParenthesis
open_kind (kinds.Punctuator s) h = ap kinds.Punctuator (open_by s h)
open_kind k h = absurd (omega arith)

-- ---- where another condition continues

call_by : (text : List ℕ) (k : Kind) (at end : ℕ) (u : Token) → k ≡ kinds.Identifier
    → u.kind ≡ kinds.Punctuator punctuators.OpenParenthesis
    → (e : Expression) × (height e ≡ 0) × ((ts : List Token)
    → SpellsExpression text e (token k at end ∷ u ∷ punctuator punctuators.CloseParenthesis ∷ ts)
    ts)
call_by text kinds.Identifier at end u n o =
    let close = punctuator punctuators.CloseParenthesis in (
      Call (record { start = at; end = end }) Done,
      refl,
      λ ts. record {
        after_name = u ∷ close ∷ ts;
        after_opening = close ∷ ts;
        called = refl;
        opening = (u.start, (u.end, ap (λ (k : Kind). token k u.start u.end ∷ close ∷ ts) o));
        arguments = (0, (0, refl));
      },
    )
call_by text k at end u n o = absurd cc

pub goes_call : (opened closed : ℕ) (a : Token) (ts : List Token) → closed < opened → opened ≤ 65
    → closed ≡ 0 → a.kind ≡ kinds.Identifier → follows ts ≡ primary
    → ContinuesAfter opened closed a ts
goes_call opened closed a [] l k z n f = absurd (omega arith)
goes_call zero closed a (t ∷ ts) l k z n f = absurd (omega arith)
goes_call (suc m) (suc c) a (t ∷ ts) l k z n f = absurd (omega arith)
goes_call (suc m) zero a (t ∷ ts) l k z n f =
    record {
      first = t;
      rest = ts;
      split = refl;
      holds = λ text before middle o y c. called text before middle o c;
    }
  where
    called : (text : List ℕ) (before middle : List Token) → AreOpening (suc m) before []
        → middle ≡ [] → Continued text (before ++ a ∷ middle) t
    called text before middle o c =
        let more = punctuator punctuators.CloseParenthesis ∷ closing (suc m) in
        let e = call_by text a.kind a.start a.end t n (open_kind t.kind f) in
        let x = enclosed m text e.0 (before ++ a ∷ t ∷ more) (a ∷ t ∷ more) (closing (suc m)) []
        (opening_again (suc m) before (a ∷ t ∷ more) o) (e.2 (closing (suc m)))
        (closing_all (suc m)) in
        let h = x.high in
        let q = e.1 in
        let w = has_condition 1 text (before ++ a ∷ t ∷ more) x.tree x.is (omega arith) in
        let p : before ++ a ∷ t ∷ more ≡ before ++ a ∷ middle ++ t
        ∷ more = ap (λ (z : List Token). before ++ a ∷ (z ++ t ∷ more)) (sym c)
        ∙ sym (append_assoc before (a ∷ middle) (t ∷ more)) in
        record { more = more; has = subst (λ z. HasCondition 1 text z) p w }

nested_rank : (text : List ℕ) (n : ℕ) (a : Token) (ts rest : List Token) (e : Atom text a)
    (x : Nested text n e.tree ts rest) → rank x.tree ≡ primary
nested_rank text zero a ts rest e x = ap rank (x.plain refl) ∙ e.rank
nested_rank text (suc n) a ts rest e x = x.rank (omega arith)

nested_closes : (text : List ℕ) (n : ℕ) (a : Token) (ts rest us : List Token) (e : Atom text a)
    (x : Nested text n e.tree ts rest) → (n ≡ 0 → a.kind ≡ kinds.Identifier → primary < follows us)
    → Closes x.tree us
nested_closes text zero a ts rest us e x f = subst (λ (z : Expression). Closes z us)
    (sym (x.plain refl)) (e.closes us (f refl))
nested_closes text (suc n) a ts rest us e x f = x.closes (omega arith) us

pub goes_step : (opened closed : ℕ) (a : Token) (ts : List Token) → closed < opened → opened < 65
    → postfix ≤ follows ts → follows ts ≤ comma → ContinuesAfter opened closed a ts
goes_step opened closed a [] l k g f = absurd (omega arith)
goes_step zero closed a (t ∷ ts) l k g f = absurd (omega arith)
goes_step (suc m) closed a (t ∷ ts) l k g f =
    record {
      first = t;
      rest = ts;
      split = refl;
      holds = λ text before middle o y c. continued text before middle o (atom text a y) c
          (stepped t g f);
    }
  where
    continued : (text : List ℕ) (before middle : List Token) → AreOpening (suc m) before []
        → Atom text a → AreClosing closed middle [] → Stepped t
        → Continued text (before ++ a ∷ middle) t
    continued text before middle o e c s =
        let d = m - closed in
        let end = closing (suc d) in
        let more = s.more ++ end in
        let back = (t ∷ s.more) ++ end in
        let v = a ∷ (middle ++ back) in
        let x = opening_split (suc d) closed (suc m) (before ++ v) v (omega arith)
        (opening_again (suc m) before v o) in
        let n = nested closed text e.tree x.0 v (middle ++ back) back x.2
        (e.spells (middle ++ back)) (closing_again closed middle back c) in
        let r = nested_rank text closed a x.0 back e n in
        let q = enclosed d text (s.after n.tree) (before ++ v) x.0 end [] x.1
        (s.spells text n.tree x.0 end r n.spells) (closing_all (suc d)) in
        let h1 = q.high in
        let h2 = s.high n.tree in
        let h3 = n.high in
        let h4 = e.low in
        let w = has_condition 1 text (before ++ v) q.tree q.is (omega arith) in
        record {
          more = more;
          has = subst (λ z. HasCondition 1 text z)
              (sym (append_assoc before (a ∷ middle) back)) w;
        }

-- ---- where none does

none_after : (m closed n : ℕ) (a : Token) (text : List ℕ) (before middle other : List Token)
    → closed ≤ m → AreOpening (suc m) before [] → (e : Atom text a) → AreClosing closed middle []
    → ((ts : List Token) → Nested text closed e.tree ts other
    → (f : Expression) (end r : List Token) → SpellsExpression text f ts end
    → HasPunctuator punctuators.CloseParenthesis end r → n ≤ height f) → 64 < (m - closed) + n
    → NoCondition 1 text ((before ++ a ∷ middle) ++ other)
none_after m closed n a text before middle other l o e c bound high f end h low =
    let v = a ∷ (middle ++ other) in
    let p : (before ++ a ∷ middle) ++ other ≡ before
    ++ v = append_assoc before (a ∷ middle) other in
    let x = opening_again (suc m) before v o in
    let q = has_same punctuators.OpenParenthesis ((before ++ a ∷ middle) ++ other)
    (before ++ v) h.after_opening x.0 p h.opening x.1 in
    let y = opening_split (m - closed) closed m x.0 v (omega arith) x.2 in
    let z = nested closed text e.tree y.0 v (middle ++ other) other y.2 (e.spells (middle ++ other))
    (closing_again closed middle other c) in
    let w = least (m - closed) n text x.0 y.0 y.1 (bound y.0 z)
    (λ k. opening_untyped closed y.0 v y.2 (λ i. let j = e.class in absurd (omega arith))) f
    h.after_inner end (subst (λ (u : List Token). SpellsExpression text f u h.after_inner) q
    h.inner.spells) h.closing in
    let r = low (omega arith) in
    absurd (omega arith)

follows_first : (ts other : List Token) → SameFirst ts other → follows ts ≡ follows other
follows_first ts other same = first_keeps (λ z. follows ts ≡ follows z) (λ t xs ys n. n) ts other
    same refl

-- the operand stops
pub stops_after : (opened closed : ℕ) (a : Token) (ts : List Token) → closed < opened
    → Lacks punctuators.CloseParenthesis ts → comma < follows ts → NoneAfter opened closed a ts
stops_after zero closed a ts l lacks f text before middle other o y c same = absurd (omega arith)
stops_after (suc m) closed a ts l lacks f text before middle other o y c same =
    let e = atom text a y in
    let p = follows_first ts other same in
    none_after m closed 65 a text before middle other (omega arith) o e c
    (λ us n g end r s k.
    let u = one_expression text comma n.tree g us other end
    (record { fits = rank_low n.tree; spells = n.spells })
    (record { fits = rank_low g; spells = s }) (omega arith)
    (has_stops punctuators.CloseParenthesis end r comma k (omega arith)) in
    absurd (lacks_first punctuators.CloseParenthesis ts other same lacks r
    (subst (λ (z : List Token). HasPunctuator punctuators.CloseParenthesis z r) (sym u.1) k)))
    (omega arith)

-- it goes through the operand
through : (text : List ℕ) (closed : ℕ) (a : Token) (us other : List Token) (e : Atom text a)
    (n : Nested text closed e.tree us other) →
    (closed ≡ 0 → a.kind ≡ kinds.Identifier → primary < follows other) → follows other ≤ comma →
    (g : Expression) (end r : List Token) → SpellsExpression text g us end → HasPunctuator
    punctuators.CloseParenthesis end r → (1 + height n.tree ≤ height g) × (postfix ≤ follows other)
through text closed a us other e n f l g end r s k =
    let w = passes text comma n.tree us other g end n.spells (rank_low n.tree)
    (nested_closes text closed a us other other e n f) l
    (record { fits = rank_low g; spells = s })
    (has_stops punctuators.CloseParenthesis end r comma k (omega arith)) in
    let p = step_follows text n.tree w.step other w.mid w.tail in
    let q = run_height text (apply n.tree w.step) w.steps w.mid g end w.run in
    let i = taller n.tree w.step in
    let j = looser n.tree w.step in
    (omega arith, omega arith)
  where
    taller : (e : Expression) (s : Step) → 1 + height e ≤ height (apply e s)
    taller e (At at i) = omega arith
    taller e s = omega arith

    looser : (e : Expression) (s : Step) → 1 ≤ rank (apply e s)
    looser e (With at op f) = let x = (levels op).0 in omega arith
    looser e s = omega arith

pub no_call : (opened closed : ℕ) (a : Token) (ts : List Token) → closed < opened
    → follows ts ≡ primary → (closed ≡ 0 → a.kind ≡ kinds.Identifier → ⊥)
    → NoneAfter opened closed a ts
no_call zero closed a ts l f bare text before middle other o y c same = absurd (omega arith)
no_call (suc m) closed a ts l f bare text before middle other o y c same =
    let e = atom text a y in
    let p = follows_first ts other same in
    none_after m closed 65 a text before middle other (omega arith) o e c
    (λ us n g end r s k. let w = through text closed a us other e n (λ z i. absurd (bare z i))
    (omega arith) g end r s k in absurd (omega (arith, w.1)))
    (omega arith)

pub deep_after : (opened closed : ℕ) (a : Token) (ts : List Token) → closed < opened → 65 ≤ opened
    → postfix ≤ follows ts → follows ts ≤ comma → NoneAfter opened closed a ts
deep_after zero closed a ts l k f g text before middle other o y c same = absurd (omega arith)
deep_after (suc m) closed a ts l k f g text before middle other o y c same =
    let e = atom text a y in
    let p = follows_first ts other same in
    none_after m closed (1 + closed) a text before middle other (omega arith) o e c
    (λ us n x end r s d. let w = through text closed a us other e n (λ z i. omega arith)
    (omega arith) x end r s d in let h = n.high in omega (arith, w.0))
    (omega arith)
