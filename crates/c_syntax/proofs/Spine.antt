-- An expression is its first operand and the steps after it, from left to right.
use Rattle.std.proofs.Common.{◌≡◌, ◌≤◌, ◌<◌, ◌-◌, ℕ, List, [], ◌∷◌, ◌++◌, Option, Some, None, refl}
use Rattle.std.proofs.Common.{sym, ap, ◌∙◌, subst, arith}
use Rattle.c_syntax.specs.Words.{Punctuator, Kind, Token, Arithmetic, BinaryOperator, Increment, Expression, Constant, Variable, Information, Call, Parentheses, Index, Postfix, Prefix, Unary, Cast, Binary, Conditional, Assign, Comma, height, rank, IsContinued, SpellsExpression, Derives, punctuator_follows, kind_follows, follows, Stops, primary, postfix, unary, cast, logical_or, conditional, assignment, comma, level, level_of_arithmetic, level_of_comparison, binary_punctuator, punctuator_of_arithmetic, punctuator_of_comparison, increment_punctuator, assignment_punctuator, Step, At, After, With, Choose, Set, And, apply, bound, Tail, Run, IsOperandAlone, Closes, IsPunctuator}
use Rattle.c_lex.specs.declared.punctuator.Punctuator.TheVariants as punctuators
use Rattle.c_lex.specs.declared.token.Kind.TheVariants as kinds
use Rattle.c_syntax.specs.declared.operator.Arithmetic.TheVariants as arithmetic
use Rattle.c_syntax.specs.declared.operator.Comparison.{Comparison}
use Rattle.c_syntax.specs.declared.operator.Comparison.TheVariants as comparisons
use Rattle.c_syntax.specs.declared.operator.BinaryOperator.TheVariants as binary
use Rattle.c_syntax.specs.declared.operator.Increment.TheVariants as increments

pub record Spine (text : List ℕ) (e : Expression) (ts end : List Token) : Type 0 where
  pub head : Expression
  pub steps : List Step
  pub after : List Token
  pub is_head : IsOperandAlone head
  pub spells : SpellsExpression text head ts after
  pub run : Run text head steps after e end

one_step : (text : List ℕ) (e f : Expression) (s : Step) (ts mid end : List Token) → f ≡ e
    → ts ≡ mid
    → rank e ≤ bound s → Tail text s mid end → Run text f (s ∷ []) ts (apply e s) end
one_step text e f s ts mid end p q h t =
    let once : Run text e (s ∷ []) mid (apply e s) end =
    record { after_step = end; fits = h; step = t; others = (refl, refl) } in
    subst (λ (x : Expression). Run text x (s ∷ []) ts (apply e s) end) (sym p)
    (subst (λ (z : List Token). Run text e (s ∷ []) z (apply e s) end) (sym q) once)

snoc : (text : List ℕ) (left : Expression) (steps : List Step) (ts : List Token) (e : Expression)
    (mid : List Token) (s : Step) (end : List Token) → Run text left steps ts e mid
    → rank e ≤ bound s → Tail text s mid end → Run text left (steps ++ s ∷ []) ts (apply e s) end
snoc text left [] ts e mid s end r h t = one_step text e left s ts mid end r.0 r.1 h t
snoc text left (x ∷ steps) ts e mid s end r h t = record {
  after_step = r.after_step;
  fits = r.fits;
  step = r.step;
  others = snoc text (apply left x) steps r.after_step e mid s end r.others h t;
}

alone : (text : List ℕ) (e : Expression) (ts end : List Token) → IsOperandAlone e
    → SpellsExpression text e ts end → Spine text e ts end
alone text e ts end i h =
    record { head = e; steps = []; after = end; is_head = i; spells = h; run = (refl, refl) }

-- an operand and the step after it
one_more : (text : List ℕ) (e : Expression) (s : Step) (ts end : List Token)
    → (h : IsContinued (Derives text (bound s) e) (Tail text s) ts end)
    → Spine text e ts h.after_operand → Spine text (apply e s) ts end
one_more text e s ts end h c = record {
  head = c.head;
  steps = c.steps ++ s ∷ [];
  after = c.after;
  is_head = c.is_head;
  spells = c.spells;
  run = snoc text c.head c.steps c.after e h.after_operand s end c.run h.operand.fits h.step;
}

pub spine : (text : List ℕ) (e : Expression) (ts end : List Token) → SpellsExpression text e ts end
    → Spine text e ts end
spine text (Index e at i) ts end h =
    one_more text e (At at i) ts end h (spine text e ts h.after_operand h.operand.spells)
spine text (Postfix e op at) ts end h =
    one_more text e (After op at) ts end h (spine text e ts h.after_operand h.operand.spells)
spine text (Binary e at op f) ts end h =
    one_more text e (With at op f) ts end h (spine text e ts h.after_operand h.operand.spells)
spine text (Conditional e at f g) ts end h =
    one_more text e (Choose at f g) ts end h (spine text e ts h.after_operand h.operand.spells)
spine text (Assign e at op f) ts end h =
    one_more text e (Set at op f) ts end h (spine text e ts h.after_operand h.operand.spells)
spine text (Comma e at f) ts end h =
    one_more text e (And at f) ts end h (spine text e ts h.after_operand h.operand.spells)
spine text e ts end h = alone text e ts end tt h

-- ---- levels

arithmetic_levels : (op : Arithmetic)
    → (cast < level_of_arithmetic op) × (level_of_arithmetic op ≤ logical_or) ×
    (punctuator_follows (punctuator_of_arithmetic op) ≡ level_of_arithmetic op)
arithmetic_levels arithmetic.Multiply = (omega arith, omega arith, refl)
arithmetic_levels op = (omega arith, omega arith, refl)

comparison_levels : (op : Comparison)
    → (cast < level_of_comparison op) × (level_of_comparison op ≤ logical_or) ×
    (punctuator_follows (punctuator_of_comparison op) ≡ level_of_comparison op)
comparison_levels comparisons.Less = (omega arith, omega arith, refl)
comparison_levels op = (omega arith, omega arith, refl)

pub levels : (op : BinaryOperator)
    → (cast < level op) × (level op ≤ logical_or) ×
    (punctuator_follows (binary_punctuator op) ≡ level op)
levels (binary.Arithmetic op) = arithmetic_levels op
levels (binary.Comparison op) = comparison_levels op
levels binary.LogicalAnd = (omega arith, omega arith, refl)
levels binary.LogicalOr = (omega arith, omega arith, refl)

increment_follows : (op : Increment) → punctuator_follows (increment_punctuator op) ≡ postfix
increment_follows increments.Increment = refl
increment_follows increments.Decrement = refl

assignment_follows : (op : Option Arithmetic)
    → punctuator_follows (assignment_punctuator op) ≡ assignment
assignment_follows None = refl
assignment_follows (Some arithmetic.Multiply) = refl
assignment_follows op = refl

-- the level of a step is that of the punctuator with which it begins
pub follows_punctuator : (s : Punctuator) (at : ℕ) (ts rest : List Token) (l : ℕ)
    → IsPunctuator s at ts rest → punctuator_follows s ≡ l → follows ts ≡ l
follows_punctuator s at ts rest l h p = ap follows h.1 ∙ p

pub step_follows : (text : List ℕ) (e : Expression) (s : Step) (ts rest : List Token)
    → Tail text s ts rest → follows ts ≡ rank (apply e s)
step_follows text e (At at i) ts rest h =
    follows_punctuator punctuators.OpenBracket at ts h.after_opening postfix h.opening refl
step_follows text e (After op at) ts rest h =
    follows_punctuator (increment_punctuator op) at ts rest postfix h (increment_follows op)
step_follows text e (With at op f) ts rest h =
    follows_punctuator (binary_punctuator op) at ts h.after_operator (level op) h.operator
    (levels op).2
step_follows text e (Choose at f g) ts rest h =
    follows_punctuator punctuators.Question at ts h.operator.after_opening conditional
    h.operator.opening refl
step_follows text e (Set at op f) ts rest h =
    follows_punctuator (assignment_punctuator op) at ts h.after_operator assignment h.operator
    (assignment_follows op)
step_follows text e (And at f) ts rest h =
    follows_punctuator punctuators.Comma at ts h.after_operator comma h.operator refl

-- no punctuator is after an operand at the levels of unary operators and casts
punctuator_gap : (s : Punctuator) → unary < punctuator_follows s → cast < punctuator_follows s
punctuator_gap punctuators.OpenParenthesis h = omega arith
punctuator_gap s h = omega arith

kind_gap : (k : Kind) → unary < kind_follows k → cast < kind_follows k
kind_gap (kinds.Punctuator s) h = punctuator_gap s h
kind_gap k h = omega arith

gap : (ts : List Token) → unary < follows ts → cast < follows ts
gap [] h = omega arith
gap (t ∷ ts) h = kind_gap t.kind h

-- the level down to which the last operand continues
abbrev pub reach : Expression → ℕ
reach (Constant at literal) = primary
reach (Variable name) = primary
reach (Information at field) = primary
reach (Call name es) = primary
reach (Parentheses at e) = primary
reach (Index a at i) = primary
reach (Postfix e op at) = primary
reach (Prefix at op e) = unary
reach (Unary at op e) = cast
reach (Cast at to e) = cast
reach (Binary a at op b) = level op - 1
reach (Conditional c at a b) = conditional
reach (Assign a at op b) = assignment
reach (Comma a at b) = assignment

pub closes : (e : Expression) (ts : List Token) → reach e < follows ts → Closes e ts
closes (Constant at literal) ts h = tt
closes (Information at field) ts h = tt
closes (Call name es) ts h = tt
closes (Parentheses at e) ts h = tt
closes (Index a at i) ts h = tt
closes (Postfix e op at) ts h = tt
closes e ts h = h

-- what follows an expression of a level b ends its last operand too
pub record Wide (b f : ℕ) : Type 0 where
  positive : primary < f
  low : b ≤ f
  from_unary : unary ≤ b → cast < f
  from_conditional : conditional ≤ b → conditional < f
  from_assignment : assignment ≤ b → assignment < f

pub reaches : (e : Expression) (b f : ℕ) → rank e ≤ b → Wide b f → reach e < f
reaches (Prefix at op e) b f h w = let x = w.from_unary (omega arith) in omega arith
reaches (Unary at op e) b f h w = let x = w.from_unary (omega arith) in omega arith
reaches (Cast at to e) b f h w = let x = w.from_unary (omega arith) in omega arith
reaches (Binary a at op c) b f h w = let x = w.low in let y = (levels op).0 in omega arith
reaches (Conditional c at a d) b f h w = let x = w.from_conditional (omega arith) in omega arith
reaches (Assign a at op c) b f h w = let x = w.from_assignment (omega arith) in omega arith
reaches (Comma a at c) b f h w = let x = w.from_assignment (omega arith) in omega arith
reaches e b f h w = w.positive

pub wide_step : (s : Step) (e : Expression) → Wide (bound s) (rank (apply e s))
wide_step (At at i) e = record {
  positive = omega arith;
  low = omega arith;
  from_unary = λ h. absurd (omega arith);
  from_conditional = λ h. absurd (omega arith);
  from_assignment = λ h. absurd (omega arith);
}
wide_step (After op at) e = record {
  positive = omega arith;
  low = omega arith;
  from_unary = λ h. absurd (omega arith);
  from_conditional = λ h. absurd (omega arith);
  from_assignment = λ h. absurd (omega arith);
}
wide_step (With at op f) e =
    let x = (levels op).0 in
    let y = (levels op).1 in
    record {
      positive = omega arith;
      low = omega arith;
      from_unary = λ h. omega arith;
      from_conditional = λ h. absurd (omega arith);
      from_assignment = λ h. absurd (omega arith);
    }
wide_step (Choose at f g) e = record {
  positive = omega arith;
  low = omega arith;
  from_unary = λ h. omega arith;
  from_conditional = λ h. absurd (omega arith);
  from_assignment = λ h. absurd (omega arith);
}
wide_step (Set at op f) e = record {
  positive = omega arith;
  low = omega arith;
  from_unary = λ h. omega arith;
  from_conditional = λ h. absurd (omega arith);
  from_assignment = λ h. absurd (omega arith);
}
wide_step (And at f) e = record {
  positive = omega arith;
  low = omega arith;
  from_unary = λ h. omega arith;
  from_conditional = λ h. omega arith;
  from_assignment = λ h. omega arith;
}

wide_end : (l : ℕ) (ts : List Token) → Stops l ts → Wide l (follows ts)
wide_end l ts s = record {
  positive = omega arith;
  low = omega arith;
  from_unary = λ h. gap ts (omega arith);
  from_conditional = λ h. omega arith;
  from_assignment = λ h. omega arith;
}

pub bound_low : (s : Step) (e : Expression) → bound s ≤ rank (apply e s)
bound_low s e = (wide_step s e).low

-- what ends an expression ends its operands
pub run_reach : (text : List ℕ) (left : Expression) (steps : List Step) (ts : List Token)
    (e : Expression) (end : List Token) (l : ℕ) → Run text left steps ts e end → rank e ≤ l
    → Stops l end → reach left < follows ts
run_reach text left [] ts e end l r h s =
    let p : rank left ≡ rank e = ap rank r.0 in
    let q : follows ts ≡ follows end = ap follows r.1 in
    let x : reach left < follows end =
    reaches left l (follows end) (omega arith) (wide_end l end s) in omega arith
run_reach text left (x ∷ steps) ts e end l r h s =
    let q : follows ts ≡ rank (apply left x) = step_follows text left x ts r.after_step r.step in
    let y : reach left < rank (apply left x) =
    reaches left (bound x) (rank (apply left x)) r.fits (wide_step x left) in
    omega arith

pub run_rank : (text : List ℕ) (left : Expression) (steps : List Step) (ts : List Token)
    (e : Expression) (end : List Token) → Run text left steps ts e end → rank left ≤ rank e
run_rank text left [] ts e end r = let p : rank left ≡ rank e = ap rank r.0 in omega arith
run_rank text left (x ∷ steps) ts e end r =
    let a = run_rank text (apply left x) steps r.after_step e end r.others in
    let b = bound_low x left in
    let c = r.fits in
    omega arith

step_height : (s : Step) (e : Expression) → height e ≤ height (apply e s)
step_height (At at i) e = omega arith
step_height s e = omega arith

pub run_height : (text : List ℕ) (left : Expression) (steps : List Step) (ts : List Token)
    (e : Expression) (end : List Token) → Run text left steps ts e end → height left ≤ height e
run_height text left [] ts e end r = let p : height left ≡ height e = ap height r.0 in omega arith
run_height text left (x ∷ steps) ts e end r =
    let a = run_height text (apply left x) steps r.after_step e end r.others in
    let b = step_height x left in
    omega arith
