-- An expression goes through each left part that was read of it.
use Rattle.std.proofs.Common.{◌≡◌, ◌≤◌, ◌<◌, ℕ, List, [], ◌∷◌, sym, ap, subst, arith}
use Rattle.c_syntax.specs.Words.{Token, Expression, height, rank, SpellsExpression, Derives, follows, Stops, Step, apply, bound, Tail, Run, Closes}
use Rattle.c_syntax.proofs.Spine.{spine, step_follows, reach, reaches, wide_step, closes, run_reach}
use Rattle.c_syntax.proofs.Spine.{run_rank, run_height}
use Rattle.c_syntax.proofs.Once.{Below, below, same_tail, same_head}

-- After the left part is a step, and the expression continues after that.
pub record Goes (text : List ℕ) (left : Expression) (rest : List Token) (e : Expression)
    (end : List Token) : Type 0 where
  pub step : Step
  pub mid : List Token
  pub steps : List Step
  pub fits : rank left ≤ bound step
  pub tail : Tail text step rest mid
  pub ends : Closes (apply left step) mid
  pub run : Run text (apply left step) steps mid e end

-- what ends an expression ends each left part of it
pub run_ends : (text : List ℕ) (p : Expression) (steps : List Step) (ts : List Token)
    (left : Expression) (rest : List Token) → Run text p steps ts left rest → Closes left rest
    → Closes p ts
run_ends text p [] ts left rest r s =
    subst (λ (x : Expression). Closes x ts) (sym r.0)
    (subst (λ (z : List Token). Closes left z) (sym r.1) s)
run_ends text p (x ∷ steps) ts left rest r s =
    let q : follows ts ≡ rank (apply p x) = step_follows text p x ts r.after_step r.step in
    let y : reach p < rank (apply p x) =
    reaches p (bound x) (rank (apply p x)) r.fits (wide_step x p) in
    closes p ts (omega arith)

at_once : (text : List ℕ) (l : ℕ) (p left : Expression) (y : Step) (steps : List Step)
    (ts rest : List Token) (e : Expression) (end : List Token) → p ≡ left → ts ≡ rest → rank e ≤ l
    → Stops l end → Run text p (y ∷ steps) ts e end → Goes text left rest e end
at_once text l p left y steps ts rest e end a b h s r =
    let reached = run_reach text (apply p y) steps r.after_step e end l r.others h s in
    let goes : Goes text p ts e end = record {
      step = y;
      mid = r.after_step;
      steps = steps;
      fits = r.fits;
      tail = r.step;
      ends = closes (apply p y) r.after_step reached;
      run = r.others;
    } in
    subst (λ (x : Expression). Goes text x rest e end) a
    (subst (λ (z : List Token). Goes text p z e end) b goes)

along : (text : List ℕ) (n l : ℕ) (p : Expression) (steps steps' : List Step) (ts : List Token)
    (left : Expression) (rest : List Token) (e : Expression) (end : List Token) → Below text n
    → height e ≤ n → rank left ≤ l → rank e ≤ l → Stops l end → Closes left rest → follows rest ≤ l
    → Run text p steps ts left rest → Run text p steps' ts e end → Goes text left rest e end
along text n l p [] [] ts left rest e end u low a b s c d r g = let q = ap follows r.1 in let w =
    ap follows g.1 in absurd (omega arith)
along text n l p [] (y ∷ steps') ts left rest e end u low a b s c d r g =
    at_once text l p left y steps' ts rest e end r.0 r.1 b s g
along text n l p (x ∷ steps) [] ts left rest e end u low a b s c d r g =
    let q = step_follows text p x ts r.after_step r.step in
    let k = run_rank text (apply p x) steps r.after_step left rest r.others in
    let w = ap follows g.1 in absurd (omega arith)
along text n l p (x ∷ steps) (y ∷ steps') ts left rest e end u low a b s c d r g =
    let k = run_height text (apply p y) steps' g.after_step e end g.others in
    let q = same_tail text n p p y x ts g.after_step r.after_step u (omega arith)
    (closes (apply p y) g.after_step
    (run_reach text (apply p y) steps' g.after_step e end l g.others b s))
    (run_ends text (apply p x) steps r.after_step left rest r.others c) g.step r.step in
    let v : Run text (apply p x) steps' g.after_step e end =
    subst (λ (w : Step). Run text (apply p w) steps' g.after_step e end) q.0 g.others in
    let w : Run text (apply p x) steps' r.after_step e end =
    subst (λ (z : List Token). Run text (apply p x) steps' z e end) q.1 v in
    along text n l (apply p x) steps steps' r.after_step left rest e end u low a b s c d r.others w

-- A left part was read, and the next token continues: whatever is at the front at all goes through
-- it.
pub passes : (text : List ℕ) (l : ℕ) (left : Expression) (ts rest : List Token) (e : Expression)
    (end : List Token) → SpellsExpression text left ts rest → rank left ≤ l → Closes left rest
    → follows rest ≤ l → Derives text l e ts end → Stops l end → Goes text left rest e end
passes text l left ts rest e end h a c d g s =
    let x = spine text left ts rest h in
    let y = spine text e ts end g.spells in
    let k = run_height text y.head y.steps y.after e end y.run in
    let p = same_head text (height e) y.head x.head ts y.after x.after (below text (height e))
    (omega arith) y.is_head x.is_head
    (closes y.head y.after (run_reach text y.head y.steps y.after e end l y.run g.fits s))
    (run_ends text x.head x.steps x.after left rest x.run c) y.spells x.spells in
    let v : Run text x.head y.steps y.after e end =
    subst (λ (z : Expression). Run text z y.steps y.after e end) p.0 y.run in
    let w : Run text x.head y.steps x.after e end =
    subst (λ (z : List Token). Run text x.head y.steps z e end) p.1 v in
    along text (height e) l x.head x.steps y.steps x.after left rest e end (below text (height e))
    (omega arith) a g.fits s c d x.run w
