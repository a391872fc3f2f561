-- Conditions and optional expressions are read as far as they go.
use Rattle.std.proofs.Common.{◌≡◌, ◌≤◌, ◌<◌, ℕ, List, [], ◌∷◌, ◌++◌, Some, None, refl, sym, ◌∙◌, subst, append_assoc, arith}
use Rattle.c_parse_stmt.specs.Words.{Punctuator, Token, Expression, height, Derives, Alike, SameFirst, Wraps, punctuator_follows, Stops, comma, IsCondition, HasPunctuator, NoExpression, HasExpression, NoPunctuator, APunctuator, NoCondition, HasCondition, NoneUpTo, HasUpTo}
use Rattle.c_lex.specs.declared.punctuator.Punctuator.TheVariants as punctuators
use Rattle.c_parse_stmt.proofs.Lemmas.{first_keeps, first_after, has_same, both, has_punctuator, derives, one_expression, has_stops}
use Rattle.c_parse_stmt.proofs.Begins.{punctuator, name, variable}
use Rattle.c_parse_stmt.proofs.Placing.{Lacks, lacks_first}

-- ---- lists, and what is reported by the first token

pub flat : (before inner more other : List Token)
    → before ++ inner ++ more ++ other ≡ before ++ (inner ++ (more ++ other))
flat before inner more other = append_assoc (before ++ inner) more other
    ∙ append_assoc before inner (more ++ other)

pub stops_first : (l : ℕ) (ts other : List Token) → SameFirst ts other → Stops l ts → Stops l other
stops_first l ts other same s = first_keeps (Stops l) (λ t xs ys h. h) ts other same s

pub same_after : (before ts ts' other : List Token) → ts' ≡ before ++ ts → SameFirst ts other
    → SameFirst ts' (before ++ other)
same_after before ts ts' other e same = subst (λ (z : List Token). SameFirst z (before ++ other))
    (sym e) (first_after before ts other same)

-- ---- conditions

pub unopened : (text : List ℕ) (ts : List Token)
    → Wraps (NoPunctuator punctuators.OpenParenthesis) (APunctuator punctuators.OpenParenthesis)
    NoCondition HasCondition text ts ts
unopened text ts = record {
  before = [];
  split = refl;
  no = λ n text' other a same none e end h low. none h.after_opening h.opening;
  has = λ n text' inner a speaks h. record {
    more = name ∷ punctuator punctuators.CloseParenthesis ∷ [];
    has = record {
      tree = variable;
      is = λ other. record {
        after_opening = name ∷ punctuator punctuators.CloseParenthesis ∷ other;
        after_inner = punctuator punctuators.CloseParenthesis ∷ other;
        opening =
            subst (λ (z : List Token). HasPunctuator punctuators.OpenParenthesis z
            (name ∷ punctuator punctuators.CloseParenthesis ∷ other))
            (sym (append_assoc inner (name ∷ punctuator punctuators.CloseParenthesis ∷ []) other))
            (h (name ∷ punctuator punctuators.CloseParenthesis ∷ other));
        inner = record { fits = omega arith; spells = refl };
        closing = (0, (0, refl));
      };
      low = λ k. omega arith;
    };
  };
}

pub in_condition : (text : List ℕ) (ts a : List Token)
    → HasPunctuator punctuators.OpenParenthesis ts a
    → Wraps (NoExpression comma 64) (HasExpression comma 64) NoCondition HasCondition text a ts
in_condition text ts a o =
    let m = has_punctuator punctuators.OpenParenthesis text ts a o in
    record {
      before = m.front;
      split = m.split;
      no = λ n text' other k same none e end h low.
          let p = has_same punctuators.OpenParenthesis (m.front ++ other)
          (m.front ++ other) h.after_opening other refl h.opening (m.again text' other k) in
          none e h.after_inner (subst (λ (x : List Token). Derives text' comma e x h.after_inner) p
          h.inner) (has_stops punctuators.CloseParenthesis h.after_inner end comma h.closing
          (omega arith)) low;
      has = λ n text' inner k speaks h. record {
        more = punctuator punctuators.CloseParenthesis ∷ [];
        has = record {
          tree = h.tree;
          is =
              λ other. subst (λ (z : List Token). IsCondition text' h.tree z other)
              (sym (flat m.front inner (punctuator punctuators.CloseParenthesis ∷ []) other))
              (record {
                after_opening = inner ++ punctuator punctuators.CloseParenthesis ∷ other;
                after_inner = punctuator punctuators.CloseParenthesis ∷ other;
                opening = m.again text' (inner ++ punctuator punctuators.CloseParenthesis ∷ other)
                    k;
                inner = h.derives (punctuator punctuators.CloseParenthesis ∷ other);
                closing = (0, (0, refl));
              });
          low = h.low;
        };
      };
    }

unclosed_at : (text : List ℕ) (e : Expression) (ts a b : List Token) (n : ℕ)
    → HasPunctuator punctuators.OpenParenthesis ts a → Derives text comma e a b → Stops comma b
    → Lacks punctuators.CloseParenthesis b → NoCondition n text ts
unclosed_at text e ts a b n o d s none f end h low =
    let p = has_same punctuators.OpenParenthesis ts ts h.after_opening a refl h.opening o in
    let k : Derives text comma f a h.after_inner = subst (λ (x : List Token). Derives text comma f x
    h.after_inner) p h.inner in
    let u = one_expression text comma e f a b h.after_inner d k s
    (has_stops punctuators.CloseParenthesis h.after_inner end comma h.closing (omega arith)) in
    none end (subst (λ (x : List Token). HasPunctuator punctuators.CloseParenthesis x end)
    (sym u.1) h.closing)

pub unclosed : (text : List ℕ) (e : Expression) (ts a b : List Token)
    → HasPunctuator punctuators.OpenParenthesis ts a → Derives text comma e a b → Stops comma b
    → height e ≤ 64 → Wraps (NoPunctuator punctuators.CloseParenthesis)
    (APunctuator punctuators.CloseParenthesis) NoCondition HasCondition text b ts
unclosed text e ts a b o d s low =
    let m = both (has_punctuator punctuators.OpenParenthesis text ts a o)
    (derives comma e text a b d) in
    record {
      before = m.front;
      split = m.split;
      no = λ n text' other k same none. let g = m.again text' other k in
          unclosed_at text' e (m.front ++ other) g.0 other n g.1 g.2
          (stops_first comma b other same s) none;
      has = λ n text' inner k speaks h. record {
        more = [];
        has = record {
          tree = e;
          is = λ other.
              let g = m.again text' (inner ++ other) k in
              subst (λ (z : List Token). IsCondition text' e z other)
              (sym (flat m.front inner [] other)) (record {
                after_opening = g.0;
                after_inner = inner ++ other;
                opening = g.1;
                inner = g.2;
                closing = h other;
              });
          low = λ k. low;
        };
      };
    }

-- ---- expressions or nothing

pub no_expression : (text : List ℕ) (s : Punctuator) (room : ℕ) (ts : List Token)
    → comma < punctuator_follows s → Lacks s ts → 1 ≤ room
    → Wraps (NoExpression comma 64) (HasExpression comma 64) (NoneUpTo s room) (HasUpTo s room) text
    ts ts
no_expression text s room ts l lacks some = record {
  before = [];
  split = refl;
  no = against;
  has = λ n text' inner a speaks h. record {
    more = punctuator s ∷ [];
    has = record {
      tree = Some h.tree;
      is = λ other. (
        punctuator s ∷ other,
        subst
            (λ (z : List Token). Derives text' comma h.tree z (punctuator s ∷ other))
            (sym (append_assoc inner (punctuator s ∷ []) other)) (h.derives (punctuator s ∷ other)),
        (0, (0, refl)),
      );
      low = h.low;
      over = λ k. some;
    };
  };
}
  where
    against : (n : ℕ) (text' : List ℕ) (other : List Token) → Alike text text' ts
        → SameFirst ts other → NoExpression comma 64 n text' other → NoneUpTo s room n text' other
    against n text' other a same nothing None end h low over = lacks_first s ts other same lacks end
        (subst (λ (x : List Token). HasPunctuator s x end) (sym h.1) h.2)
    against n text' other a same nothing (Some e) end h low over = nothing e h.0 h.1
        (has_stops s h.0 end comma h.2 l) low

unended_at : (text : List ℕ) (s : Punctuator) (room : ℕ) (e : Expression) (ts b : List Token)
    (n : ℕ) → comma < punctuator_follows s → Lacks s ts → Derives text comma e ts b → Stops comma b
    → Lacks s b → NoneUpTo s room n text ts
unended_at text s room e ts b n l none d st lacks None end h low over = none end
    (subst (λ (x : List Token). HasPunctuator s x end) (sym h.1) h.2)
unended_at text s room e ts b n l none d st lacks (Some f) end h low over =
    let u = one_expression text comma e f ts b h.0 d h.1 st (has_stops s h.0 end comma h.2 l) in
    lacks end (subst (λ (x : List Token). HasPunctuator s x end) (sym u.1) h.2)

pub unended : (text : List ℕ) (s : Punctuator) (room : ℕ) (e : Expression) (ts b : List Token)
    → comma < punctuator_follows s → Lacks s ts → Derives text comma e ts b → Stops comma b
    → height e ≤ 64 → 1 ≤ room → Wraps (NoPunctuator s) (APunctuator s) (NoneUpTo s room)
    (HasUpTo s room) text b ts
unended text s room e ts b l lacks d st low some =
    let m = derives comma e text ts b d in
    record {
      before = m.front;
      split = m.split;
      no = λ n text' other k same none. unended_at text' s room e (m.front ++ other) other n l
          (lacks_first s ts (m.front ++ other) (same_after m.front b ts other m.split same) lacks)
          (m.again text' other k) (stops_first comma b other same st) none;
      has = λ n text' inner k speaks h. record {
        more = [];
        has = record {
          tree = Some e;
          is = λ other. (
            inner ++ other,
            subst
                (λ (z : List Token). Derives text' comma e z (inner ++ other))
                (sym (flat m.front inner [] other)) (m.again text' (inner ++ other) k),
            h other,
          );
          low = λ k. low;
          over = λ k. some;
        };
      };
    }
