-- An expression is read as its first operand and one step after the other.
use Rattle.std.proofs.Common.{◌≡◌, ◌≤◌, ℕ, List, refl, sym, subst, arith}
use Rattle.c_parse_expr.specs.Words.{Punctuator, Token, Expression, rank, SpellsExpression, Derives, punctuator_follows, follows, Stops, comma, never, Step, At, After, With, Choose, Set, And, apply, bound, Tail, Closes, HasPunctuator, NoExpression, Encloses, NoneEnclosed, NoOperand, IsStep, NoStep}
use Rattle.c_parse_expr.proofs.Lemmas.{has_same, rank_low, has_stops, one_expression, spine, closes, step_follows, run_reach, run_rank, run_height}
use Rattle.c_syntax.proofs.Passing.{passes}

-- ---- operand and steps

pub no_operand : (text : List ℕ) (w l room : ℕ) (ts : List Token) → NoOperand l room w text ts
    → NoExpression l room w text ts
no_operand text w l room ts n e end d s low =
    let x = spine text e ts end d.spells in
    let a = run_rank text x.head x.steps x.after e end x.run in
    let b = run_height text x.head x.steps x.after e end x.run in
    let fits = d.fits in
    n x.head x.after
    (record {
      derives = record { fits = omega arith; spells = x.spells };
      head = x.is_head;
      closes = closes x.head x.after (run_reach text x.head x.steps x.after e end l x.run d.fits s);
    })
    (omega arith)

pub no_step : (text : List ℕ) (w l room : ℕ) (left : Expression) (ts rest : List Token)
    → Derives text l left ts rest → Closes left rest → follows rest ≤ l
    → NoStep room left w text rest → NoExpression l room w text ts
no_step text w l room left ts rest h c f n e end d s low =
    let g = passes text l left ts rest e end h.spells h.fits c f d s in
    let k = run_height text (apply left g.step) g.steps g.mid e end g.run in
    n g.step g.mid (record { fits = g.fits; tail = g.tail; closes = g.ends })
    (λ q. let r = low q in omega arith)

pub joined : (text : List ℕ) (e : Expression) (s : Step) (ts mid end : List Token)
    → SpellsExpression text e ts mid → rank e ≤ bound s → Tail text s mid end
    → SpellsExpression text (apply e s) ts end
joined text e (At at i) ts mid end h f t =
    record { after_operand = mid; operand = record { fits = f; spells = h }; step = t }
joined text e (After op at) ts mid end h f t =
    record { after_operand = mid; operand = record { fits = f; spells = h }; step = t }
joined text e (With at op g) ts mid end h f t =
    record { after_operand = mid; operand = record { fits = f; spells = h }; step = t }
joined text e (Choose at g i) ts mid end h f t =
    record { after_operand = mid; operand = record { fits = f; spells = h }; step = t }
joined text e (Set at op g) ts mid end h f t =
    record { after_operand = mid; operand = record { fits = f; spells = h }; step = t }
joined text e (And at g) ts mid end h f t =
    record { after_operand = mid; operand = record { fits = f; spells = h }; step = t }

pub continues : (text : List ℕ) (l : ℕ) (left : Expression) (s : Step) (ts rest end : List Token)
    → Derives text l left ts rest → follows rest ≤ l → IsStep text left s rest end
    → Derives text l (apply left s) ts end
continues text l left s ts rest end h f x =
    let p = step_follows text left s rest end x.tail in
    record { fits = omega arith; spells = joined text left s ts rest end h.spells x.fits x.tail }

-- ---- an expression and the punctuator that ends it

pub none_inside : (text : List ℕ) (w : ℕ) (close : Punctuator) (room : ℕ) (ts : List Token)
    → punctuator_follows close ≡ never → NoExpression comma room w text ts
    → NoneEnclosed close room w text ts
none_inside text w close room ts p n e end x low =
    n e x.mid (record { fits = rank_low e; spells = x.spells })
    (has_stops close x.mid end comma x.closed (omega arith)) low

inside : (text : List ℕ) (close : Punctuator) (e f : Expression) (ts mid end : List Token)
    → punctuator_follows close ≡ never → Derives text comma e ts mid → Stops comma mid
    → Encloses text close f ts end → (e ≡ f) × HasPunctuator close mid end
inside text close e f ts mid end p h s x =
    let q = one_expression text comma e f ts mid x.mid h
    (record { fits = rank_low f; spells = x.spells }) s
    (has_stops close x.mid end comma x.closed (omega arith)) in
    (q.0, subst (λ (z : List Token). HasPunctuator close z end) (sym q.1) x.closed)

pub not_closed : (text : List ℕ) (w : ℕ) (close : Punctuator) (room : ℕ) (e : Expression)
    (ts mid : List Token) → punctuator_follows close ≡ never → Derives text comma e ts mid → Stops
    comma mid → ((end : List Token) → HasPunctuator close mid end → ⊥) → NoneEnclosed close room w
    text ts
not_closed text w close room e ts mid p h s n f end x low = n end
    (inside text close e f ts mid end p h s x).1

pub enclosed_once : (text : List ℕ) (close : Punctuator) (e f : Expression)
    (ts rest end : List Token) → punctuator_follows close ≡ never → Encloses text close e ts rest
    → Encloses text close f ts end → (e ≡ f) × (rest ≡ end)
enclosed_once text close e f ts rest end p x y =
    let q = inside text close e f ts x.mid end p (record { fits = rank_low e; spells = x.spells })
    (has_stops close x.mid rest comma x.closed (omega arith)) y in
    (q.0, has_same close x.mid x.mid rest end refl x.closed q.1)
