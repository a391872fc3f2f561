use Rattle.std.proofs.Common.{◌≡◌, ℕ, map, List, sym, ap, ◌∙◌, subst, arith}
use Rattle.std.proofs.lemmas.Result.{err_from_is_err_and, IfOk-weaker, IfErr-weaker}
use Rattle.c_parse_expr.specs.Words.{Punctuator, Token, Expression, Parentheses, Cast, expression, arguments, height, heights, Derives, follows, Stops, Closes, IsPunctuator, Operation, with, NoExpression, HasExpression, NoOperand, NoArguments, HasArguments, NoneAfterPunctuator, HasAfterPunctuator, AreListed, IsAfterPunctuator, IsPlacedRefusal}
use Rattle.c_lex.specs.declared.punctuator.Punctuator.TheVariants as punctuators
use Rattle.c_syntax.specs.declared.expression.Expr.{Expr}
use Rattle.c_syntax.specs.Steps as steps
use Rattle.c_parse_expr.proofs.Lemmas.{wrapped, increment_only, unary_only, punctuator_shorter}
use Rattle.c_syntax.proofs.Shorter as shorter
use Rattle.c_parse_expr.specs.Steps as code_steps
use Rattle.c_parse_expr.proofs.Arguing.{first_wraps, next_wraps, stuck_there}
use Rattle.c_parse_expr.proofs.Beginning.{call_wraps, information_wraps, prefix_wraps, unary_wraps, group_wraps, cast_wraps, cast_unclosed, no_operand_there, no_room_there}
use Rattle.c_parse_expr.proofs.Climbing.{continues}
use Rattle.c_parse_expr.proofs.Listing.{listed_after, heights_after, mapped_after, positive, listed_spelled}
use Rattle.c_parse_expr.proofs.OperandDerivations.{call_derived, group_derived, cast_derived, prefix_derived, unary_derived}
use Rattle.c_parse_expr.proofs.Operands.{no_parenthesis}
use Rattle.c_parse_expr.proofs.Operations.{applied_height, right_after, is_step}
use Rattle.c_parse_expr.proofs.Placing.{placed_so, placed_as}
use Rattle.c_parse_expr.proofs.Trees.{call_is, parentheses_is, cast_is}
use Rattle.c_parse_expr.proofs.Wrapping.{operand_wraps, step_wraps, enclosed_wraps, unclosed, index_wraps, right_wraps, first_branch_wraps, second_branch_wraps, after_punctuator_wraps, signless, no_operator_there, loose_there, high_there}
use Rattle.c_parse_expr.proofs.expressions.+reader.Goals as goal

-- ---- expressions

pub expression-returns-in_err-left-clause-refused :
    goal.expression-returns-in_err-left-clause-refused
expression-returns-in_err-left-clause-refused t c =
    let p = err_from_is_err_and c.from_residual.result c.from_residual.ensures.1 in
    rw (p.1, p.2) (placed_so c.in_err-left.field-0.0 _ _ _ _ _ _ _
    (operand_wraps c.args.level c.args.room c.args.text.now c.args.tokens.now)
    c.in_err-left.ensures.refused)

pub expression-loop-alloc-init : goal.expression-loop-alloc-init
expression-loop-alloc-init t c = (
  c.in_ok-left.ensures.low,
  c.in_ok-left.ensures.found.derives,
  c.in_ok-left.ensures.found.closes,
)

pub expression-returns-in_err-following-clause-refused :
    goal.expression-returns-in_err-following-clause-refused
expression-returns-in_err-following-clause-refused t c =
    let p = err_from_is_err_and c.from_residual-in_err-following.result
    c.from_residual-in_err-following.ensures.1 in
    let f = c.follows.ensures in
    let g = c.loop-alloc-test.true in
    let h = c.loop-alloc.left.exact in
    let low = c.loop-alloc.invariant.0 in
    rw (p.1, p.2) (placed_so c.in_err-following.field-0.0 _ _ _ _ _ _ _
    (step_wraps c.args.level c.args.room (expression c.loop-alloc.left.expr) c.args.text.now
    c.args.tokens.now c.loop-alloc.left.rest.now c.loop-alloc.invariant.1 c.loop-alloc.invariant.2
    (omega arith) (omega arith))
    c.in_err-following.ensures.refused)

pub expression-loop-alloc-preserved : goal.expression-loop-alloc-preserved
expression-loop-alloc-preserved t c =
    let f = c.follows.ensures in
    let g = c.loop-alloc-test.true in
    let text = c.args.text.now in
    let ts = c.args.tokens.now in
    let left = expression c.loop-alloc.left.expr in
    let s = code_steps.step c.in_ok-following.following.step in
    let mid = c.in_ok-following.following.rest.now in
    let made : expression c.in_ok-left-2.left.expr ≡ steps.apply left s =
    c.in_ok-left-2.ensures.made in
    let rest : c.in_ok-left-2.left.rest.now ≡ mid = c.in_ok-left-2.ensures.rest in
    let found = c.in_ok-following.ensures.found in
    let d : Derives text c.args.level (steps.apply left s) ts mid = continues text c.args.level left
    s ts c.loop-alloc.left.rest.now mid c.loop-alloc.invariant.1 (omega arith) found in
    let h = applied_height left s in
    let k = ap height made in
    let a = c.loop-alloc.left.exact in
    let b = c.in_ok-following.following.exact in
    let e = c.in_ok-left-2.left.exact in
    let low = c.in_ok-following.ensures.low in
    let fits = c.in_ok-following.ensures.fits in (
      omega arith,
      subst (λ (x : Expression). Derives text c.args.level x ts c.in_ok-left-2.left.rest.now)
          (sym made) (subst (λ (z : List Token). Derives text c.args.level
          (steps.apply left s) ts z)
          (sym rest) d),
      subst (λ (x : Expression). Closes x c.in_ok-left-2.left.rest.now) (sym made)
          (subst (λ (z : List Token). Closes (steps.apply left s) z) (sym rest) found.closes),
    )

pub expression-returns-clause-found : goal.expression-returns-clause-found
expression-returns-clause-found t c = c.loop-alloc.invariant.1

pub expression-returns-clause-low : goal.expression-returns-clause-low
expression-returns-clause-low t c = c.loop-alloc.invariant.0

pub enclosed-returns-in_err-inner-clause-refused : goal.enclosed-returns-in_err-inner-clause-refused
enclosed-returns-in_err-inner-clause-refused t c =
    let p = err_from_is_err_and c.from_residual.result c.from_residual.ensures.1 in
    rw (p.1, p.2) (placed_so c.in_err-inner.field-0.0 _ _ _ _ _ _ _
    (enclosed_wraps c.args.close c.args.room c.args.text.now c.args.tokens.now c.requires.close)
    c.in_err-inner.ensures.refused)

pub enclosed-returns-in-None-clause-refused : goal.enclosed-returns-in-None-clause-refused
enclosed-returns-in-None-clause-refused t c =
    let x = c.in_ok-inner.inner.exact in
    let low = c.in_ok-inner.ensures.low in
    placed_as _ _ _ _ _ _ c.unexpected.ensures
    (unclosed c.args.close c.args.room (expression c.in_ok-inner.inner.expr) c.args.text.now
    c.args.tokens.now c.in_ok-inner.inner.rest.now c.requires.close c.in_ok-inner.ensures.found
    c.in_ok-inner.ensures.stops c.in-None.ensures.none (omega arith))

-- ---- steps

pub step-returns-in_default-clause-refused : goal.step-returns-in_default-clause-refused
step-returns-in_default-clause-refused t c =
    placed_as _ _ _ _ _ _ c.unexpected.ensures
    (signless c.args.room (expression c.args.operand.now.expr)
    (follows c.args.operand.now.rest.now) c.args.text.now c.args.operand.now.rest.now
    c.in_default.ensures.none)

pub step-returns-in_default-operation_of-clause-refused :
    goal.step-returns-in_default-operation_of-clause-refused
step-returns-in_default-operation_of-clause-refused t c =
    placed_as _ _ _ _ _ _ c.unexpected-in_default-operation_of.ensures
    (no_operator_there c.args.room (expression c.args.operand.now.expr)
    (follows c.args.operand.now.rest.now) c.in-Some.punctuator c.in-Some.at c.args.text.now
    c.args.operand.now.rest.now c.in-Some.rest.now c.in-Some.ensures.found
    (sym c.in_default-operation_of.ensures))

pub step-returns-then-bound-rank-clause-refused : goal.step-returns-then-bound-rank-clause-refused
step-returns-then-bound-rank-clause-refused t c =
    let e = expression c.args.operand.now.expr in
    let a = c.bound.ensures in
    let b = c.rank.ensures in
    let n = c.if-bound-rank.true in
    placed_as _ _ _ _ _ _ c.unexpected-then-bound-rank.ensures
    (loose_there c.args.room e (follows c.args.operand.now.rest.now) c.in-Some.punctuator
    c.in-Some-operation_of.operation c.in-Some.at c.args.text.now c.args.operand.now.rest.now
    c.in-Some.rest.now c.in-Some.ensures.found (sym c.in-Some-operation_of.ensures) (omega arith))

pub step-returns-then-room-operand-clause-refused :
    goal.step-returns-then-room-operand-clause-refused
step-returns-then-room-operand-clause-refused t c =
    let e = expression c.args.operand.now.expr in
    let a = c.bound.ensures in
    let b = c.rank.ensures in
    let n = c.if-bound-rank.false in
    let m = c.if-room-operand.true in
    let x = c.args.operand.now.exact in
    placed_as _ _ _ _ _ _ c.too_deep.ensures
    (high_there c.args.room e c.in-Some.punctuator c.in-Some-operation_of.operation c.in-Some.at
    c.args.text.now c.args.operand.now.rest.now c.in-Some.rest.now c.in-Some.ensures.found
    (sym c.in-Some-operation_of.ensures) (omega arith) (omega arith))

pub step-returns-clause-found : goal.step-returns-clause-found
step-returns-clause-found t c =
    let text = c.args.text.now in
    let e = expression c.args.operand.now.expr in
    let a = c.bound.ensures in
    let b = c.rank.ensures in
    let n = c.if-bound-rank.false in
    IfOk-weaker c.operated.result _ _
    (λ x h. is_step text e c.in-Some-operation_of.operation c.in-Some.punctuator c.in-Some.at
    (code_steps.step x.step) c.args.operand.now.rest.now c.in-Some.rest.now x.rest.now
    (sym c.in-Some-operation_of.ensures) (omega arith) c.in-Some.ensures.found h)
    c.operated.ensures.found

pub step-returns-clause-refused : goal.step-returns-clause-refused
step-returns-clause-refused t c =
    let text = c.args.text.now in
    let e = expression c.args.operand.now.expr in
    let a = c.bound.ensures in
    let b = c.rank.ensures in
    let n = c.if-bound-rank.false in
    let m = c.if-room-operand.false in
    let x = c.args.operand.now.exact in
    IfErr-weaker c.operated.result _ _
    (λ y h. placed_so y _ _ _ _ _ _ _ (after_punctuator_wraps c.args.room e c.in-Some.punctuator
    c.in-Some-operation_of.operation c.in-Some.at text c.args.operand.now.rest.now
    c.in-Some.rest.now c.in-Some.ensures.found (sym c.in-Some-operation_of.ensures) (omega arith)
    (omega arith)) h)
    c.operated.ensures.refused

pub chosen-returns-in_err-first-clause-refused : goal.chosen-returns-in_err-first-clause-refused
chosen-returns-in_err-first-clause-refused t c =
    let p = err_from_is_err_and c.from_residual.result c.from_residual.ensures.1 in
    rw (p.1, p.2) (placed_so c.in_err-first.field-0.0 _ _ _ _ _ _ _
    (first_branch_wraps c.args.room c.args.at c.args.text.now c.args.tokens.now)
    c.in_err-first.ensures.refused)

pub chosen-returns-in_err-second-clause-refused : goal.chosen-returns-in_err-second-clause-refused
chosen-returns-in_err-second-clause-refused t c =
    let p = err_from_is_err_and c.from_residual-in_err-second.result
    c.from_residual-in_err-second.ensures.1 in
    let x = c.in_ok-first.first.exact in
    let low = c.in_ok-first.ensures.low in
    rw (p.1, p.2) (placed_so c.in_err-second.field-0.0 _ _ _ _ _ _ _
    (second_branch_wraps c.args.room c.args.at (expression c.in_ok-first.first.expr) c.args.text.now
    c.args.tokens.now c.in_ok-first.first.rest.now c.in_ok-first.ensures.found (omega arith))
    c.in_err-second.ensures.refused)

pub operated-returns-in_err-inner-in-Index-clause-refused :
    goal.operated-returns-in_err-inner-in-Index-clause-refused
operated-returns-in_err-inner-in-Index-clause-refused t c =
    let p = err_from_is_err_and c.from_residual.result c.from_residual.ensures.1 in
    let e = c.in_err-inner-in-Index.field-0.0 in
    rw (p.1, p.2) (subst (λ (o : Operation). IsPlacedRefusal e (NoneAfterPunctuator c.args.room o)
    (HasAfterPunctuator c.args.room o c.args.at) c.args.text.now c.args.tokens.now)
    (sym c.in-Index.is)
    (placed_so e _ _ _ _ _ _ _ (index_wraps c.args.room c.args.at c.args.text.now c.args.tokens.now)
    c.in_err-inner-in-Index.ensures.refused))

pub operated-returns-in_err-value-in-Infix-clause-refused :
    goal.operated-returns-in_err-value-in-Infix-clause-refused
operated-returns-in_err-value-in-Infix-clause-refused t c =
    let op = c.in-Infix.operator in
    let k = c.in_err-value-in-Infix in
    let e = k.field-0.0 in
    let p = err_from_is_err_and c.from_residual-in_err-value-in-Infix.result
    c.from_residual-in_err-value-in-Infix.ensures.1 in
    let h = subst (λ (l : ℕ). IsPlacedRefusal e (NoExpression l c.args.room)
    (HasExpression l c.args.room) c.args.text.now c.args.tokens.now) c.right.ensures
    k.ensures.refused in
    rw (p.1, p.2) (subst (λ (o : Operation). IsPlacedRefusal e (NoneAfterPunctuator c.args.room o)
    (HasAfterPunctuator c.args.room o c.args.at) c.args.text.now c.args.tokens.now)
    (sym c.in-Infix.is)
    (placed_so e _ _ _ _ _ _ _ (right_wraps c.args.room op c.args.at c.args.text.now
    c.args.tokens.now) h))

pub operated-returns-in_ok-right-in-Infix-clause-found :
    goal.operated-returns-in_ok-right-in-Infix-clause-found
operated-returns-in_ok-right-in-Infix-clause-found t c =
    let text = c.args.text.now in
    let op = c.in-Infix.operator in
    let at = c.args.at in
    let k = c.in_ok-value-in-Infix in
    let boxed = c.in_ok-right-in-Infix.right in
    let same : boxed.value ≡ k.value.expr = c.in_ok-right-in-Infix.ensures.ok in
    let e = expression k.value.expr in
    let ts = c.args.tokens.now in
    let rest = k.value.rest.now in
    let q = c.right.ensures in
    subst (λ (x : Expr). IsAfterPunctuator text c.args.operation at
    (with op at (expression x)) ts rest) (sym same)
    (subst (λ (o : Operation). IsAfterPunctuator text o at (with op at e) ts rest)
    (sym c.in-Infix.is)
    (right_after text op at e ts rest (subst (λ (l : ℕ). Derives text l e ts rest) q
    k.ensures.found) (subst (λ (l : ℕ). Stops l rest) q k.ensures.stops)))

-- ---- operands

pub operand-returns-in-None-clause-refused : goal.operand-returns-in-None-clause-refused
operand-returns-in-None-clause-refused t c =
    placed_as _ _ _ _ _ _ c.unexpected.ensures
    (wrapped _ _ _ _ 0 _ _ _ _ (information_wraps c.args.level c.args.room c.args.text.now
    c.args.tokens.now c.in_default.ensures.none c.in_default-name.ensures.none
    c.in-None.ensures.none) c.departure.ensures)

pub named-returns-in_err-found-in-Some-clause-refused :
    goal.named-returns-in_err-found-in-Some-clause-refused
named-returns-in_err-found-in-Some-clause-refused t c =
    let p = err_from_is_err_and c.from_residual.result c.from_residual.ensures.1 in
    rw (p.1, p.2) (placed_so c.in_err-found-in-Some.field-0.0 _ _ _ _ _ _ _
    (call_wraps c.args.level c.args.room c.args.name c.args.text.now c.args.tokens.now
    c.args.rest.now c.in-Some.rest.now c.requires.name c.in-Some.ensures.found)
    c.in_err-found-in-Some.ensures.refused)

pub named-returns-in-None-clause-found : goal.named-returns-in-None-clause-found
named-returns-in-None-clause-found t c =
    rw c.variable.ensures (record {
      derives =
          record { fits = omega arith; spells = c.requires.name };
      head = tt;
      closes = no_parenthesis c.args.rest.now c.in-None.ensures.none;
    })

pub named-returns-in_ok-found-in-Some-clause-found :
    goal.named-returns-in_ok-found-in-Some-clause-found
named-returns-in_ok-found-in-Some-clause-found t c =
    let k = c.in_ok-found-in-Some in
    let es = arguments (map expression k.found.exprs.items) in
    rw (call_is c.args.name k.found.exprs)
    (call_derived c.args.text.now c.args.level c.args.name es c.args.tokens.now c.args.rest.now
    c.in-Some.rest.now k.found.rest.now (omega arith) c.requires.name c.in-Some.ensures.found
    k.ensures.found)

pub signed-returns-then-not-opens-clause-refused : goal.signed-returns-then-not-opens-clause-refused
signed-returns-then-not-opens-clause-refused t c =
    placed_as _ _ _ _ _ _ c.unexpected.ensures
    (no_operand_there c.args.level c.args.room c.args.punctuator c.args.at c.args.text.now
    c.args.tokens.now c.args.rest.now c.requires.punctuator
    (c.opens.ensures.never c.if-not-opens.true))

pub signed-returns-then-room-eq0-clause-refused : goal.signed-returns-then-room-eq0-clause-refused
signed-returns-then-room-eq0-clause-refused t c =
    let o = c.opens.ensures.opens c.if-not-opens.false in
    subst (λ (z : ℕ). IsPlacedRefusal c.too_deep.result (NoOperand c.args.level z)
    (HasExpression c.args.level z) c.args.text.now c.args.tokens.now) (sym c.if-room-eq0.true)
    (placed_as _ _ _ _ _ _ c.too_deep.ensures
    (no_room_there c.args.level c.args.punctuator c.args.at c.args.text.now c.args.tokens.now
    c.args.rest.now c.requires.level c.requires.punctuator o))

pub signed-returns-in_err-inner-clause-refused : goal.signed-returns-in_err-inner-clause-refused
signed-returns-in_err-inner-clause-refused t c =
    let p = err_from_is_err_and c.from_residual.result c.from_residual.ensures.1 in
    rw (p.1, p.2) (placed_so c.in_err-inner.field-0.0 _ _ _ _ _ _ _
    (prefix_wraps c.args.level c.args.room c.args.punctuator c.in-Some.operator c.args.at
    c.args.text.now c.args.tokens.now c.args.rest.now c.requires.level
    (positive c.args.room c.if-room-eq0.false) c.requires.punctuator (sym c.in-Some.ensures))
    c.in_err-inner.ensures.refused)

pub signed-returns-in_err-inner-2-clause-refused : goal.signed-returns-in_err-inner-2-clause-refused
signed-returns-in_err-inner-2-clause-refused t c =
    let p = err_from_is_err_and c.from_residual-in_err-inner-2.result
    c.from_residual-in_err-inner-2.ensures.1 in
    rw (p.1, p.2) (placed_so c.in_err-inner-2.field-0.0 _ _ _ _ _ _ _
    (unary_wraps c.args.level c.args.room c.args.punctuator c.in-Some-unary_of.operator c.args.at
    c.args.text.now c.args.tokens.now c.args.rest.now c.requires.level
    (positive c.args.room c.if-room-eq0.false) c.requires.punctuator
    (sym c.in-Some-unary_of.ensures))
    c.in_err-inner-2.ensures.refused)

pub signed-returns-in-Some-clause-found : goal.signed-returns-in-Some-clause-found
signed-returns-in-Some-clause-found t c =
    let op = c.in-Some.operator in
    let q = increment_only op c.args.punctuator (sym c.in-Some.ensures) in
    let k = c.in_ok-inner in
    let level = c.requires.level in
    let h = subst (λ (z : Punctuator). IsPunctuator z c.args.at c.args.tokens.now c.args.rest.now) q
    c.requires.punctuator in
    rw c.in_ok-expr.ensures.made
    (prefix_derived c.args.text.now c.args.level c.args.at op (expression k.inner.expr)
    c.args.tokens.now c.args.rest.now k.inner.rest.now (omega arith) h k.ensures.found
    k.ensures.stops)

pub signed-returns-in-Some-unary_of-clause-found : goal.signed-returns-in-Some-unary_of-clause-found
signed-returns-in-Some-unary_of-clause-found t c =
    let op = c.in-Some-unary_of.operator in
    let q = unary_only op c.args.punctuator (sym c.in-Some-unary_of.ensures) in
    let k = c.in_ok-inner-2 in
    let level = c.requires.level in
    let h = subst (λ (z : Punctuator). IsPunctuator z c.args.at c.args.tokens.now c.args.rest.now) q
    c.requires.punctuator in
    rw c.in_ok-expr-2.ensures.made
    (unary_derived c.args.text.now c.args.level c.args.at op (expression k.inner.expr)
    c.args.tokens.now c.args.rest.now k.inner.rest.now (omega arith) h k.ensures.found
    k.ensures.stops)

pub parenthesised-returns-in_default-clause-refused :
    goal.parenthesised-returns-in_default-clause-refused
parenthesised-returns-in_default-clause-refused t c =
    let l = c.requires.level in
    let m = c.if-level-eq-UNARY.false in
    placed_as _ _ _ _ _ _ c.unexpected.ensures
    (cast_unclosed c.args.level c.args.room c.args.at c.in-Some.to c.args.text.now c.args.tokens.now
    c.args.rest.now c.in-Some.rest.now (omega arith) c.requires.punctuator c.in-Some.ensures.found
    c.in-Some.ensures.far c.in_default.ensures.none)

pub parenthesised-returns-in_err-inner-in-Some-clause-refused :
    goal.parenthesised-returns-in_err-inner-in-Some-clause-refused
parenthesised-returns-in_err-inner-in-Some-clause-refused t c =
    let p = err_from_is_err_and c.from_residual.result c.from_residual.ensures.1 in
    let l = c.requires.level in
    let m = c.if-level-eq-UNARY.false in
    rw (p.1, p.2) (placed_so c.in_err-inner-in-Some.field-0.0 _ _ _ _ _ _ _
    (cast_wraps c.args.level c.args.room c.args.at c.in-Some.to c.args.text.now c.args.tokens.now
    c.args.rest.now c.in-Some.rest.now c.in-Some-after.rest.now (omega arith)
    c.requires.punctuator c.in-Some.ensures.found c.in-Some.ensures.far
    c.in-Some-after.ensures.found)
    c.in_err-inner-in-Some.ensures.refused)

pub parenthesised-returns-in_ok-operand-in-Some-clause-found :
    goal.parenthesised-returns-in_ok-operand-in-Some-clause-found
parenthesised-returns-in_ok-operand-in-Some-clause-found t c =
    let k = c.in_ok-inner-in-Some in
    let e = expression k.inner.expr in
    let to = c.in-Some.to in
    let boxed = c.in_ok-operand-in-Some.operand in
    let same : boxed.value ≡ k.inner.expr = c.in_ok-operand-in-Some.ensures.ok in
    let made = cast_is c.args.at to boxed ∙ ap (λ x. Cast c.args.at to (expression x)) same in
    let l = c.requires.level in
    let m = c.if-level-eq-UNARY.false in
    rw made
    (cast_derived c.args.text.now c.args.level c.args.at to e c.args.tokens.now c.args.rest.now
    c.in-Some.rest.now c.in-Some-after.rest.now k.inner.rest.now (omega arith)
    c.requires.punctuator c.in-Some.ensures.found c.in-Some-after.ensures.found k.ensures.found
    k.ensures.stops)

pub grouped-returns-in_err-inner-clause-refused : goal.grouped-returns-in_err-inner-clause-refused
grouped-returns-in_err-inner-clause-refused t c =
    let p = err_from_is_err_and c.from_residual.result c.from_residual.ensures.1 in
    rw (p.1, p.2) (placed_so c.in_err-inner.field-0.0 _ _ _ _ _ _ _
    (group_wraps c.args.level c.args.room c.args.at c.args.text.now c.args.tokens.now
    c.args.rest.now c.requires.punctuator c.requires.base) c.in_err-inner.ensures.refused)

pub grouped-returns-clause-found : goal.grouped-returns-clause-found
grouped-returns-clause-found t c =
    let k = c.in_ok-inner in
    let e = expression k.inner.expr in
    let boxed = c.in_ok-inner-2.inner in
    let same : boxed.value ≡ k.inner.expr = c.in_ok-inner-2.ensures.ok in
    let made =
    parentheses_is c.args.at boxed ∙ ap (λ x. Parentheses c.args.at (expression x)) same in
    rw made
    (group_derived c.args.text.now c.args.level c.args.at e c.args.tokens.now c.args.rest.now
    k.inner.rest.now (omega arith) c.requires.punctuator k.ensures.found)

-- ---- arguments

pub arguments-returns-then-room-eq0-clause-refused :
    goal.arguments-returns-then-room-eq0-clause-refused
arguments-returns-then-room-eq0-clause-refused t c =
    subst (λ (z : ℕ). IsPlacedRefusal c.no_argument.result (NoArguments z)
    (HasArguments z) c.args.text.now c.args.tokens.now)
    (sym c.if-room-eq0.true) c.no_argument.ensures

pub arguments-returns-in_err-first-clause-refused :
    goal.arguments-returns-in_err-first-clause-refused
arguments-returns-in_err-first-clause-refused t c =
    let p = err_from_is_err_and c.from_residual.result c.from_residual.ensures.1 in
    rw (p.1, p.2) (placed_so c.in_err-first.field-0.0 _ _ _ _ _ _ _
    (first_wraps c.args.room c.args.text.now c.args.tokens.now
    (positive c.args.room c.if-room-eq0.false) c.in_default.ensures.none)
    c.in_err-first.ensures.refused)

pub arguments-returns-in_err-next-clause-refused : goal.arguments-returns-in_err-next-clause-refused
arguments-returns-in_err-next-clause-refused t c =
    let p = err_from_is_err_and c.from_residual-in_err-next.result
    c.from_residual-in_err-next.ensures.1 in
    let i = c.loop-following.invariant in
    let a = i.low in
    let b = i.exact in
    rw (p.1, p.2) (placed_so c.in_err-next.field-0.0 _ _ _ _ _ _ _
    (next_wraps c.args.room (map expression c.loop-following.exprs.items) c.args.text.now
    c.args.tokens.now c.loop-following.rest.now c.in-Some-after.following.now
    (positive c.args.room i.some_room) i.listed i.stops c.in-Some-after.ensures.found
    (omega arith))
    c.in_err-next.ensures.refused)

pub arguments-loop-following-smaller : goal.arguments-loop-following-smaller
arguments-loop-following-smaller t c =
    let a = shorter.expression c.args.text.now (expression c.in_ok-next.next.expr)
    c.in-Some-after.following.now c.in_ok-next.next.rest.now c.in_ok-next.ensures.found.spells in
    let b = punctuator_shorter punctuators.Comma c.in-Some-after.ensures.found.0
    c.loop-following.rest.now c.in-Some-after.following.now c.in-Some-after.ensures.found.1 in
    omega arith

pub arguments-loop-following-preserved : goal.arguments-loop-following-preserved
arguments-loop-following-preserved t c =
    let i = c.loop-following.invariant in
    let old = c.loop-following.exprs.items in
    let e = expression c.in_ok-next.next.expr in
    let q = ap (map expression) c.in_ok-push-2.ensures.items
    ∙ mapped_after expression old c.in_ok-next.next.expr in
    let r = positive c.args.room i.some_room in
    let a = c.higher-over.ensures in
    let b = c.in_ok-next.ensures.low in
    let d = c.in_ok-next.next.exact in
    let h = heights_after (map expression old) e in
    let k = ap (λ (z : List Expression). heights (arguments z)) q in
    let l = i.low in
    let m = i.exact in record {
      some_room = i.some_room;
      low = omega arith;
      exact = omega arith;
      listed = subst (λ (z : List Expression).
          AreListed c.args.text.now z c.args.tokens.now c.in_ok-next.next.rest.now) (sym q)
          (listed_after c.args.text.now (map expression old) e c.args.tokens.now
          c.loop-following.rest.now c.in-Some-after.following.now c.in_ok-next.next.rest.now
          i.listed c.in-Some-after.ensures.found c.in_ok-next.ensures.found);
      stops = c.in_ok-next.ensures.stops;
    }

pub arguments-returns-in-Some-after-2-clause-found :
    goal.arguments-returns-in-Some-after-2-clause-found
arguments-returns-in-Some-after-2-clause-found t c =
    listed_spelled c.args.text.now (map expression c.loop-following.exprs.items) c.args.tokens.now
    c.loop-following.rest.now c.in-Some-after-2.rest.now c.loop-following.invariant.listed
    c.in-Some-after-2.ensures.found

pub arguments-returns-clause-refused : goal.arguments-returns-clause-refused
arguments-returns-clause-refused t c =
    let i = c.loop-following.invariant in
    let a = i.low in
    let b = i.exact in
    placed_as _ _ _ _ _ _ c.unexpected.ensures
    (stuck_there c.args.room (map expression c.loop-following.exprs.items) c.args.text.now
    c.args.tokens.now c.loop-following.rest.now i.listed i.stops c.in-None.ensures.none
    c.in_default-after.ensures.none (omega arith))
