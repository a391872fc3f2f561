-- What punctuators begin, and what follows the punctuator of a step.
use Rattle.std.proofs.Common.{◌≡◌, ◌≤◌, ◌<◌, ◌+◌, ◌-◌, ℕ, max, List, Some, None, refl, sym, ap, ◌∙◌, subst, arith}
use Rattle.c_parse_expr.specs.Words.{Punctuator, Token, Expression, height, rank, Derives, Stops, conditional, assignment, level, Step, At, After, With, Choose, Set, And, apply, Tail, Closes, IsPunctuator, Operation, Index, Postfix, Infix, Conditional, operation_of, punctuator, right, with, operation, DerivesAndStops, NoExpression, Encloses, NoneEnclosed, AfterPunctuator, IsAfterPunctuator, NoneAfterPunctuator, IsStep, NoStep}
use Rattle.c_lex.specs.declared.punctuator.Punctuator.TheVariants as punctuators
use Rattle.c_syntax.specs.declared.operator.Arithmetic.TheVariants as arithmetic
use Rattle.c_syntax.specs.declared.operator.Comparison.TheVariants as comparisons
use Rattle.c_syntax.specs.declared.operator.BinaryOperator.TheVariants as binary
use Rattle.c_syntax.specs.declared.operator.Increment.TheVariants as increments
use Rattle.c_syntax.specs.Steps.{bound as bound_of}
use Rattle.c_parse_expr.proofs.Lemmas.{punctuator_same, levels}
use Rattle.c_parse_expr.specs.declared.step.Infix.{Infix as Infix'}
use Rattle.c_parse_expr.specs.declared.step.Infix.TheVariants as infixes
use Rattle.c_parse_expr.specs.Operations.{bound, place}
use Rattle.c_parse_expr.specs.Steps.{over}
use Rattle.c_parse_expr.proofs.Climbing.{enclosed_once}

-- ---- punctuators

some_same : {A : Type 0} (a b : A) → Some a ≡ Some b → a ≡ b
some_same a b e = cc

pub again : (o : Operation) → operation_of (punctuator o) ≡ Some o
again Index = refl
again (Postfix increments.Increment) = refl
again (Infix (infixes.Binary (binary.Arithmetic arithmetic.Multiply))) = refl
again (Infix (infixes.Binary (binary.Comparison comparisons.Less))) = refl
again (Infix (infixes.Assign None)) = refl
again (Infix (infixes.Assign (Some arithmetic.Multiply))) = refl
again o = refl

pub only : (o : Operation) (s : Punctuator) → operation_of s ≡ Some o → s ≡ punctuator o
only o punctuators.OpenBracket e = ap punctuator (some_same Index o e)
only o punctuators.Comma e = ap punctuator (some_same (Infix infixes.Comma) o e)
only o punctuators.Question e = ap punctuator (some_same Conditional o e)
only o punctuators.Assign e = ap punctuator (some_same (Infix (infixes.Assign None)) o e)
only o punctuators.PlusAssign e = ap punctuator
    (some_same (Infix (infixes.Assign (Some arithmetic.Add))) o e)
only o punctuators.MinusAssign e = ap punctuator
    (some_same (Infix (infixes.Assign (Some arithmetic.Subtract))) o e)
only o punctuators.StarAssign e = ap punctuator
    (some_same (Infix (infixes.Assign (Some arithmetic.Multiply))) o e)
only o punctuators.SlashAssign e = ap punctuator
    (some_same (Infix (infixes.Assign (Some arithmetic.Divide))) o e)
only o punctuators.PercentAssign e = ap punctuator
    (some_same (Infix (infixes.Assign (Some arithmetic.Remainder))) o e)
only o punctuators.AmpersandAssign e = ap punctuator
    (some_same (Infix (infixes.Assign (Some arithmetic.And))) o e)
only o punctuators.BarAssign e = ap punctuator
    (some_same (Infix (infixes.Assign (Some arithmetic.Or))) o e)
only o punctuators.CaretAssign e = ap punctuator
    (some_same (Infix (infixes.Assign (Some arithmetic.ExclusiveOr))) o e)
only o punctuators.ShiftLeftAssign e = ap punctuator
    (some_same (Infix (infixes.Assign (Some arithmetic.ShiftLeft))) o e)
only o punctuators.ShiftRightAssign e = ap punctuator
    (some_same (Infix (infixes.Assign (Some arithmetic.ShiftRight))) o e)
only o punctuators.BarBar e = ap punctuator (some_same (Infix (infixes.Binary binary.LogicalOr)) o
    e)
only o punctuators.AmpersandAmpersand e = ap punctuator
    (some_same (Infix (infixes.Binary binary.LogicalAnd)) o e)
only o punctuators.Bar e = ap punctuator (some_same
    (Infix (infixes.Binary (binary.Arithmetic arithmetic.Or))) o e)
only o punctuators.Caret e = ap punctuator (some_same
    (Infix (infixes.Binary (binary.Arithmetic arithmetic.ExclusiveOr))) o e)
only o punctuators.Ampersand e = ap punctuator
    (some_same (Infix (infixes.Binary (binary.Arithmetic arithmetic.And))) o e)
only o punctuators.Equal e = ap punctuator (some_same
    (Infix (infixes.Binary (binary.Comparison comparisons.Equal))) o e)
only o punctuators.NotEqual e = ap punctuator
    (some_same (Infix (infixes.Binary (binary.Comparison comparisons.NotEqual))) o e)
only o punctuators.Less e = ap punctuator (some_same
    (Infix (infixes.Binary (binary.Comparison comparisons.Less))) o e)
only o punctuators.Greater e = ap punctuator (some_same
    (Infix (infixes.Binary (binary.Comparison comparisons.Greater))) o e)
only o punctuators.LessEqual e = ap punctuator
    (some_same (Infix (infixes.Binary (binary.Comparison comparisons.LessEqual))) o e)
only o punctuators.GreaterEqual e = ap punctuator
    (some_same (Infix (infixes.Binary (binary.Comparison comparisons.GreaterEqual))) o e)
only o punctuators.ShiftLeft e = ap punctuator
    (some_same (Infix (infixes.Binary (binary.Arithmetic arithmetic.ShiftLeft))) o e)
only o punctuators.ShiftRight e = ap punctuator
    (some_same (Infix (infixes.Binary (binary.Arithmetic arithmetic.ShiftRight))) o e)
only o punctuators.Plus e = ap punctuator (some_same
    (Infix (infixes.Binary (binary.Arithmetic arithmetic.Add))) o e)
only o punctuators.Minus e = ap punctuator (some_same
    (Infix (infixes.Binary (binary.Arithmetic arithmetic.Subtract))) o e)
only o punctuators.Star e = ap punctuator (some_same
    (Infix (infixes.Binary (binary.Arithmetic arithmetic.Multiply))) o e)
only o punctuators.Slash e = ap punctuator (some_same
    (Infix (infixes.Binary (binary.Arithmetic arithmetic.Divide))) o e)
only o punctuators.Percent e = ap punctuator (some_same
    (Infix (infixes.Binary (binary.Arithmetic arithmetic.Remainder))) o e)
only o punctuators.PlusPlus e = ap punctuator (some_same (Postfix increments.Increment) o e)
only o punctuators.MinusMinus e = ap punctuator (some_same (Postfix increments.Decrement) o e)
only o s e = absurd cc

-- ---- steps and what follows their punctuators

pub same_bound : (s : Step) → bound (operation s) ≡ bound_of s
same_bound (At at i) = refl
same_bound s = refl

pub applied_height : (e : Expression) (s : Step) → height (apply e s) ≡ 1 + max (height e) (over s)
applied_height e (After op at) = omega arith
applied_height e s = refl

-- what a step is after its punctuator
pub record Begun (text : List ℕ) (s : Step) (ts end : List Token) : Type 0 where
  pub mid : List Token
  pub begins : IsPunctuator (punctuator (operation s)) (place s) ts mid
  pub following : AfterPunctuator text s mid end

pub begun : (text : List ℕ) (e : Expression) (s : Step) (ts end : List Token) → Tail text s ts end
    → Closes (apply e s) end → Begun text s ts end
begun text e (At at i) ts end h c = record {
  mid = h.after_opening;
  begins = h.opening;
  following = record { mid = h.after_inner; spells = h.inner; closed = h.closing };
}
begun text e (After op at) ts end h c = record { mid = end; begins = h; following = refl }
begun text e (With at op f) ts end h c =
    let x = (levels op).0 in
    record {
      mid = h.after_operator;
      begins = h.operator;
      following = record {
        derives = record { fits = omega (arith, h.operand.fits); spells = h.operand.spells };
        stops = c;
      };
    }
begun text e (Choose at f g) ts end h c = record {
  mid = h.operator.after_opening;
  begins = h.operator.opening;
  following = record {
    after_operator = h.after_operator;
    operator = record {
      mid = h.operator.after_inner;
      spells = h.operator.inner;
      closed = h.operator.closing;
    };
    operand = record { derives = h.operand; stops = c };
  };
}
begun text e (Set at op f) ts end h c = record {
  mid = h.after_operator;
  begins = h.operator;
  following = record { derives = h.operand; stops = c };
}
begun text e (And at f) ts end h c = record {
  mid = h.after_operator;
  begins = h.operator;
  following = record { derives = h.operand; stops = c };
}

pub tailed : (text : List ℕ) (e : Expression) (s : Step) (ts end : List Token) → Begun text s ts end
    → Tail text s ts end × Closes (apply e s) end
tailed text e (At at i) ts end b =
    let inner = b.following in (
      record {
        after_opening = b.mid;
        after_inner = inner.mid;
        opening = b.begins;
        inner = inner.spells;
        closing = inner.closed;
      },
      tt,
    )
tailed text e (After op at) ts end b = (
  subst (λ (z : List Token). IsPunctuator (punctuator (Postfix op)) at ts z) b.following
      b.begins,
  tt,
)
tailed text e (With at op f) ts end b =
    let x = (levels op).0 in
    let d = b.following.derives in
    let fits = d.fits in (
      record {
        after_operator = b.mid;
        operator = b.begins;
        operand = record { fits = omega arith; spells = d.spells };
      },
      b.following.stops,
    )
tailed text e (Choose at f g) ts end b =
    let yes = b.following.operator in
    let no = b.following.operand in (
      record {
        after_operator = b.following.after_operator;
        operator = record {
          after_opening = b.mid;
          after_inner = yes.mid;
          opening = b.begins;
          inner = yes.spells;
          closing = yes.closed;
        };
        operand = no.derives;
      },
      no.stops,
    )
tailed text e (Set at op f) ts end b = (
  record { after_operator = b.mid; operator = b.begins; operand = b.following.derives },
  b.following.stops,
)
tailed text e (And at f) ts end b = (
  record { after_operator = b.mid; operator = b.begins; operand = b.following.derives },
  b.following.stops,
)

-- ---- refusals after a punctuator

pub none_indexed : (text : List ℕ) (w room : ℕ) (ts : List Token)
    → NoneEnclosed punctuators.CloseBracket room w text ts
    → NoneAfterPunctuator room Index w text ts
none_indexed text w room ts n (At at i) end e b low = n i end b low
none_indexed text w room ts n k end e b low = absurd cc

same_infix : (a b : Infix') → Infix a ≡ Infix b → a ≡ b
same_infix a b e = cc

at_level : (text : List ℕ) (w room a b : ℕ) (f : Expression) (ts end : List Token) → a ≡ b
    → NoExpression b room w text ts → DerivesAndStops text a f ts end → (1 ≤ w → height f ≤ room)
    → ⊥
at_level text w room a b f ts end p n r low = n f end
    (record { fits = let x = r.derives.fits in omega arith; spells = r.derives.spells })
    (let s = r.stops in omega arith) low

pub none_right : (text : List ℕ) (w room : ℕ) (op : Infix') (ts : List Token)
    → NoExpression (right op) room w text ts → NoneAfterPunctuator room (Infix op) w text ts
none_right text w room op ts n (At at i) end e b low = absurd cc
none_right text w room op ts n (After op' at) end e b low = absurd cc
none_right text w room op ts n (With at op' f) end e b low = at_level text w room (level op' - 1)
    (right op) f ts end (ap right (same_infix (infixes.Binary op') op e)) n b low
none_right text w room op ts n (Choose at f g) end e b low = absurd cc
none_right text w room op ts n (Set at op' f) end e b low =
    at_level text w room assignment (right op) f ts end
    (ap right (same_infix (infixes.Assign op') op e)) n b low
none_right text w room op ts n (And at f) end e b low =
    at_level text w room assignment (right op) f ts end (ap right (same_infix infixes.Comma op e)) n
    b low

pub none_first : (text : List ℕ) (w room : ℕ) (ts : List Token)
    → NoneEnclosed punctuators.Colon room w text ts → NoneAfterPunctuator room Conditional w text ts
none_first text w room ts n (Choose at f g) end e b low =
    n f b.after_operator b.operator (λ k. let a = low k in omega arith)
none_first text w room ts n k end e b low = absurd cc

pub none_second : (text : List ℕ) (w room : ℕ) (a : Expression) (ts mid : List Token)
    → Encloses text punctuators.Colon a ts mid → NoExpression conditional room w text mid
    → NoneAfterPunctuator room Conditional w text ts
none_second text w room a ts mid x n (Choose at f g) end e b low =
    let q = enclosed_once text punctuators.Colon a f ts mid b.after_operator refl x b.operator in
    let r = b.operand in
    n g end (subst (λ (z : List Token). Derives text conditional g z end) (sym q.1) r.derives)
    r.stops (λ k. let a = low k in omega arith)
none_second text w room a ts mid x n k end e b low = absurd cc

pub right_after : (text : List ℕ) (op : Infix') (at : ℕ) (e : Expression) (ts rest : List Token)
    → Derives text (right op) e ts rest → Stops (right op) rest
    → IsAfterPunctuator text (Infix op) at (with op at e) ts rest
right_after text (infixes.Binary op) at e ts rest h
    s = record { operation = refl; place = refl; following = record { derives = h; stops = s } }
right_after text (infixes.Assign op) at e ts rest h
    s = record { operation = refl; place = refl; following = record { derives = h; stops = s } }
right_after text infixes.Comma at e ts rest h
    s = record { operation = refl; place = refl; following = record { derives = h; stops = s } }

-- ---- steps by their punctuators

pub is_step : (text : List ℕ) (e : Expression) (o : Operation) (punctuator' : Punctuator) (at : ℕ)
    (s : Step) (ts mid end : List Token) → operation_of punctuator' ≡ Some o → rank e ≤ bound o
    → IsPunctuator punctuator' at ts mid → IsAfterPunctuator text o at s mid end
    → IsStep text e s ts end
is_step text e o punctuator' at s ts mid end p f h b =
    let q : punctuator' ≡ punctuator o = only o punctuator' p in
    let g : IsPunctuator (punctuator o) at ts mid = subst
    (λ (z : Punctuator). IsPunctuator z at ts mid) q h in
    let i : IsPunctuator (punctuator (operation s)) at ts mid = subst
    (λ (z : Operation). IsPunctuator (punctuator z) at ts mid) (sym b.operation) g in
    let j : IsPunctuator (punctuator (operation s)) (place s) ts mid = subst
    (λ (z : ℕ). IsPunctuator (punctuator (operation s)) z ts mid) (sym b.place) i in
    let t = tailed text e s ts end (record { mid = mid; begins = j; following = b.following }) in
    let x : bound (operation s) ≡ bound o = ap bound b.operation in
    let y = same_bound s in
    record { fits = omega arith; tail = t.0; closes = t.1 }

-- a step begins with a punctuator that is an operation
pub begins_so : (text : List ℕ) (e : Expression) (s : Step) (ts end : List Token)
    → IsStep text e s ts end → (punctuator' : Punctuator) (at : ℕ) (mid : List Token)
    → IsPunctuator punctuator' at ts mid → (operation_of punctuator' ≡ Some (operation s))
    × (rank e ≤ bound (operation s)) × AfterPunctuator text s mid end
begins_so text e s ts end x punctuator' at mid h =
    let b = begun text e s ts end x.tail x.closes in
    let q = punctuator_same punctuator' (punctuator (operation s)) at (place s) ts ts mid b.mid refl
    h b.begins in
    let y = same_bound s in
    let f = x.fits in (
      ap operation_of q.0 ∙ again (operation s),
      omega arith,
      subst (λ (z : List Token). AfterPunctuator text s z end) (sym q.2) b.following,
    )

pub no_punctuator : (text : List ℕ) (w room : ℕ) (e : Expression) (ts : List Token)
    → ((s : Punctuator) (at : ℕ) (rest : List Token) → IsPunctuator s at ts rest → ⊥)
    → NoStep room e w text ts
no_punctuator text w room e ts n s end x low = let b = begun text e s ts end x.tail x.closes in
    n (punctuator (operation s)) (place s) b.mid b.begins

pub no_operation : (text : List ℕ) (w room : ℕ) (e : Expression) (punctuator' : Punctuator) (at : ℕ)
    (ts mid : List Token) → IsPunctuator punctuator' at ts mid → operation_of punctuator' ≡ None
    → NoStep room e w text ts
no_operation text w room e punctuator' at ts mid h p s end x low = let b = begins_so text e s ts end
    x punctuator' at mid h in let q : None ≡ Some (operation s) = sym p ∙ b.0 in absurd cc

pub too_loose : (text : List ℕ) (w room : ℕ) (e : Expression) (punctuator' : Punctuator)
    (o : Operation) (at : ℕ) (ts mid : List Token) → IsPunctuator punctuator' at ts mid
    → operation_of punctuator' ≡ Some o → bound o < rank e → NoStep room e w text ts
too_loose text w room e punctuator' o at ts mid h p f s end x low =
    let b = begins_so text e s ts end x punctuator' at mid h in
    let q : o ≡ operation s = some_same o (operation s) (sym p ∙ b.0) in
    let r = ap bound q in let g = b.1 in absurd (omega arith)

pub too_high : (text : List ℕ) (room : ℕ) (e : Expression) (ts : List Token) → room ≤ height e
    → NoStep room e 1 text ts
too_high text room e ts f s end x low = let a = applied_height e s in let b = low (omega arith) in
    absurd (omega arith)

pub none_after_punctuator : (text : List ℕ) (w room : ℕ) (e : Expression) (punctuator' : Punctuator)
    (o : Operation) (at : ℕ) (ts mid : List Token) → IsPunctuator punctuator' at ts mid
    → operation_of punctuator' ≡ Some o → NoneAfterPunctuator (room - 1) o w text mid
    → NoStep room e w text ts
none_after_punctuator text w room e punctuator' o at ts mid h p n s end x low =
    let b = begins_so text e s ts end x punctuator' at mid h in
    let q : o ≡ operation s = some_same o (operation s) (sym p ∙ b.0) in
    let a = applied_height e s in
    n s end (sym q) b.2 (λ k. let l = low k in omega arith)
