-- A rule after its operands.
use Rattle.std.proofs.Common.{◌≡◌, ℕ, Bool, false, List, ◌++◌, Option, Some, None, refl, sym, ap, ◌∙◌}
use Rattle.c_expressions.proofs.Kept.{kept_more}
use Rattle.c_expressions.specs.Words.{kept, assigning_to, assigning_at, Fault, NotLvalue, FaultAt, Names, ResolvedExpression, fault_at, given_that, changed, is_lvalue, Expression, start, TypedNode}
use Rattle.c_syntax.specs.declared.operator.Arithmetic.{Arithmetic}

-- a rule after two operands
pub two : (first w1 w2 w3 : Option FaultAt) (ja jb : ResolvedExpression)
    (rule : List FaultAt → Option TypedNode → Option TypedNode → ResolvedExpression)
    (a b : Option TypedNode)
    → w1 ≡ kept first ja.faults → w2 ≡ kept w1 jb.faults → a ≡ ja.found → b ≡ jb.found
    → ((f : Option FaultAt) (fs : List FaultAt) → w2 ≡ kept f fs → w3 ≡ kept f (rule fs a b).faults)
    → w3 ≡ kept first (rule (ja.faults ++ jb.faults) ja.found jb.found).faults
two first w1 w2 w3 ja jb rule a b k1 k2 ea eb adds =
    adds first (ja.faults ++ jb.faults) (kept_more first w1 w2 ja.faults jb.faults k1 k2)
    ∙ ap (λ o. kept first (rule (ja.faults ++ jb.faults) o b).faults) ea
    ∙ ap (λ o. kept first (rule (ja.faults ++ jb.faults) ja.found o).faults) eb

-- a rule after three operands
pub three : (first w1 w2 w3 w4 : Option FaultAt) (jc ja jb : ResolvedExpression)
    (rule : List FaultAt → Option TypedNode → Option TypedNode → Option TypedNode
    → ResolvedExpression) (c a b : Option TypedNode)
    → w1 ≡ kept first jc.faults → w2 ≡ kept w1 ja.faults → w3 ≡ kept w2 jb.faults → c ≡ jc.found
    → a ≡ ja.found → b ≡ jb.found
    → ((f : Option FaultAt) (fs : List FaultAt) → w3 ≡ kept f fs
    → w4 ≡ kept f (rule fs c a b).faults)
    → w4 ≡ kept first (rule (jc.faults ++ ja.faults ++ jb.faults) jc.found ja.found jb.found).faults
three first w1 w2 w3 w4 jc ja jb rule c a b k1 k2 k3 ec ea eb adds =
    let fs = jc.faults ++ ja.faults ++ jb.faults in
    adds first fs (kept_more first w2 w3 (jc.faults ++ ja.faults) jb.faults
    (kept_more first w1 w2 jc.faults ja.faults k1 k2) k3)
    ∙ ap (λ o. kept first (rule fs o a b).faults) ec
    ∙ ap (λ o. kept first (rule fs jc.found o b).faults) ea
    ∙ ap (λ o. kept first (rule fs jc.found ja.found o).faults) eb

-- where the rule before it is broken
pub refused_kept : (first old new : Option FaultAt) (b : Bool) (at : ℕ) (f : Fault)
    (fs : List FaultAt) (j : ResolvedExpression)
    → b ≡ false → old ≡ kept first fs → new ≡ kept old (fault_at at f)
    → new ≡ kept first (given_that b at f fs j).faults
refused_kept first old new b at f fs j e p q = kept_more first old new fs (fault_at at f) p q
    ∙ sym (ap (λ k. kept first (given_that k at f fs j).faults) e)

pub assign_is : (s : Names) (target value : Expression) (at : ℕ) (o : Option Arithmetic)
    (ja jb : ResolvedExpression)
    → assigning_to s target (assigning_at o at (start value)) o (ja.faults ++ jb.faults) ja.found
    jb.found ≡ given_that (is_lvalue s target) (start target) NotLvalue (ja.faults ++ jb.faults)
    (changed o at (start value) ja jb)
assign_is s target value at None ja jb = refl
assign_is s target value at (Some o) ja jb = refl
