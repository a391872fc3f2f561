use Rattle.std.proofs.Common.{◌≡◌, ◌∙◌, ◌+◌, ◌++◌, ◌<◌, ◌≤◌, [], get_or, length, map, ap, sym, refl, subst, arith, rules, nat_eq, false, true, Some}
use Rattle.std.proofs.lemmas.Bool.{eqb-true}
use Rattle.std.proofs.lemmas.Result.{on_ok_weaker, IfOk-weaker}
use Rattle.std.specs.Prelude.{option_map}
use Rattle.c_expressions.proofs.Kept.{kept_more}
use Rattle.c_expressions.proofs.Ruled.{two, three, assign_is}
use Rattle.c_expressions.proofs.Naming.{one_more, naming_refused, naming_passed, last_named, naming_found}
use Rattle.c_expressions.proofs.Calling.{StillToPass, none_passed, pass_next_to, all_passed_at, called_for, fused, same_counts, call_refused, call_passed, faults_on, allowed_found, allowed_kept}
use Rattle.c_expressions.proofs.expressions.+expressions.Goals as goal
use Rattle.c_expressions.specs.Words.{passed_of, resolved_all, least_of, kept, assigning_to, assigning_at, rule_of_two, names_of, wanted, ArgCount, CodeOutsideFilter, AbnormalOutsideFinally, resolve_expression, rule_2, rule_3, fault_at, faults_of, pass_all, handler_after, call_with, call, CodeFunction, AbnormalFunction, unsigned, int, element_of, binary_of, comma_of, conditional_of, typed_node, Expression, node, expression, start}
use denote.Hole.Carrier as Carrier
use Rattle.c_checked.specs.Expression as nodes
use Rattle.c_syntax.specs.declared.expression.Expr.TheFolds.{fold-roll-Expr}
use Rattle.c_syntax.specs.declared.expression.Expr.TheOpen.{Index as Index_F, Binary as Binary_F, Conditional as Conditional_F, Comma as Comma_F, Assign as Assign_F}
use Rattle.c_syntax.specs.declared.expression.Expr.TheVariants.{rolls-Index, rolls-Binary, rolls-Conditional, rolls-Comma, rolls-Assign}
use Rattle.c_syntax.specs.declared.expression.Expr.TheViews.{roll-Expr}
use Rattle.c_syntax.specs.Expression as trees

pub with_second-returns-in-Ok-clause-found : goal.with_second-returns-in-Ok-clause-found
with_second-returns-in-Ok-clause-found t c =
    let jb = resolve_expression (names_of c.args.context.now) (expression c.args.second.now) in
    let rule = rule_2 c.args.at (rule_of_two c.args.operator) in
    IfOk-weaker c.two.result _ _
    (λ r h. λ fs. h (fs ++ jb.faults) ∙ ap (λ
    o. (rule (fs ++ jb.faults) (option_map typed_node c.args.a) o).found) c.in-Ok.ensures.found)
    c.two.ensures.found

pub with_second-returns-in-Ok-clause-faults : goal.with_second-returns-in-Ok-clause-faults
with_second-returns-in-Ok-clause-faults t c =
    let jb = resolve_expression (names_of c.args.context.now) (expression c.args.second.now) in
    let rule = rule_2 c.args.at (rule_of_two c.args.operator) in
    on_ok_weaker c.two.result
    (λ h. λ first fs k. h first (fs ++ jb.faults)
    (kept_more first (least_of c.args.faults.now) _ fs jb.faults k c.in-Ok.ensures.faults)
    ∙ ap (λ o. kept first (rule (fs ++ jb.faults) (option_map typed_node c.args.a) o).faults)
    c.in-Ok.ensures.found) c.two.ensures.faults

pub several-returns-in_ok-a-in-Index-clause-found :
    goal.several-returns-in_ok-a-in-Index-clause-found
unfolding roll-Expr Carrier.roll
several-returns-in_ok-a-in-Index-clause-found t c =
    let x = c.in-Index in
    let s = names_of c.args.context.now in
    let ja = resolve_expression s (expression x.array.value) in
    let jb = resolve_expression s (expression x.index.value) in
    let rule = rule_2 x.at element_of (ja.faults ++ jb.faults) in
    let left : option_map typed_node c.in_ok-a-in-Index.a
    ≡ ja.found = rw c.deref.ensures at c.in_ok-a-in-Index.ensures.found in
    let q : expression c.args.e.now ≡ trees.Index (expression x.array.value) x.at
    (expression x.index.value) = ap expression c.in-Index.is
    ∙ ap expression (rolls-Index x.array x.at x.index)
    ∙ fold-roll-Expr Expression node (Index_F x.array x.at x.index) in
    rw q
    (IfOk-weaker c.with_second.result _ _ (λ r h. h ja.faults
    ∙ ap (λ o. (rule o jb.found).found) left)
    (rw c.deref-in-Index.ensures at c.with_second.ensures.found))

pub several-returns-in_ok-a-in-Index-clause-faults :
    goal.several-returns-in_ok-a-in-Index-clause-faults
unfolding roll-Expr Carrier.roll
several-returns-in_ok-a-in-Index-clause-faults t c =
    let x = c.in-Index in
    let s = names_of c.args.context.now in
    let ja = resolve_expression s (expression x.array.value) in
    let jb = resolve_expression s (expression x.index.value) in
    let rule = rule_2 x.at element_of (ja.faults ++ jb.faults) in
    let left : option_map typed_node c.in_ok-a-in-Index.a
    ≡ ja.found = rw c.deref.ensures at c.in_ok-a-in-Index.ensures.found in
    let q : expression c.args.e.now ≡ trees.Index (expression x.array.value) x.at
    (expression x.index.value) = ap expression c.in-Index.is
    ∙ ap expression (rolls-Index x.array x.at x.index)
    ∙ fold-roll-Expr Expression node (Index_F x.array x.at x.index) in
    rw q
    (on_ok_weaker c.with_second.result
    (λ h. h (least_of c.args.faults.now) ja.faults
    (rw c.deref.ensures at c.in_ok-a-in-Index.ensures.faults)
    ∙ ap (λ o. kept (least_of c.args.faults.now) (rule o jb.found).faults) left)
    (rw c.deref-in-Index.ensures at c.with_second.ensures.faults))

pub several-returns-in_ok-a-in-Binary-clause-found :
    goal.several-returns-in_ok-a-in-Binary-clause-found
unfolding roll-Expr Carrier.roll
several-returns-in_ok-a-in-Binary-clause-found t c =
    let x = c.in-Binary in
    let s = names_of c.args.context.now in
    let ja = resolve_expression s (expression x.left.value) in
    let jb = resolve_expression s (expression x.right.value) in
    let rule = rule_2 x.at (binary_of x.operator) (ja.faults ++ jb.faults) in
    let left : option_map typed_node c.in_ok-a-in-Binary.a
    ≡ ja.found = rw c.deref-in-Binary.ensures at c.in_ok-a-in-Binary.ensures.found in
    let q : expression c.args.e.now ≡ trees.Binary (expression x.left.value) x.at x.operator
    (expression x.right.value) = ap expression c.in-Binary.is
    ∙ ap expression (rolls-Binary x.left x.at x.operator x.right)
    ∙ fold-roll-Expr Expression node (Binary_F x.left x.at x.operator x.right) in
    rw q
    (IfOk-weaker c.with_second-in-Binary.result _ _
    (λ r h. h ja.faults ∙ ap (λ o. (rule o jb.found).found) left)
    (rw c.deref-in-Binary-2.ensures at c.with_second-in-Binary.ensures.found))

pub several-returns-in_ok-a-in-Binary-clause-faults :
    goal.several-returns-in_ok-a-in-Binary-clause-faults
unfolding roll-Expr Carrier.roll
several-returns-in_ok-a-in-Binary-clause-faults t c =
    let x = c.in-Binary in
    let s = names_of c.args.context.now in
    let ja = resolve_expression s (expression x.left.value) in
    let jb = resolve_expression s (expression x.right.value) in
    let rule = rule_2 x.at (binary_of x.operator) (ja.faults ++ jb.faults) in
    let left : option_map typed_node c.in_ok-a-in-Binary.a
    ≡ ja.found = rw c.deref-in-Binary.ensures at c.in_ok-a-in-Binary.ensures.found in
    let q : expression c.args.e.now ≡ trees.Binary (expression x.left.value) x.at x.operator
    (expression x.right.value) = ap expression c.in-Binary.is
    ∙ ap expression (rolls-Binary x.left x.at x.operator x.right)
    ∙ fold-roll-Expr Expression node (Binary_F x.left x.at x.operator x.right) in
    rw q
    (on_ok_weaker c.with_second-in-Binary.result
    (λ h. h (least_of c.args.faults.now) ja.faults
    (rw c.deref-in-Binary.ensures at c.in_ok-a-in-Binary.ensures.faults)
    ∙ ap (λ o. kept (least_of c.args.faults.now) (rule o jb.found).faults) left)
    (rw c.deref-in-Binary-2.ensures at c.with_second-in-Binary.ensures.faults))

pub several-returns-in_ok-a-in-Comma-clause-found :
    goal.several-returns-in_ok-a-in-Comma-clause-found
unfolding roll-Expr Carrier.roll
several-returns-in_ok-a-in-Comma-clause-found t c =
    let x = c.in-Comma in
    let s = names_of c.args.context.now in
    let ja = resolve_expression s (expression x.left.value) in
    let jb = resolve_expression s (expression x.right.value) in
    let rule = rule_2 x.at comma_of (ja.faults ++ jb.faults) in
    let left : option_map typed_node c.in_ok-a-in-Comma.a
    ≡ ja.found = rw c.deref-in-Comma.ensures at c.in_ok-a-in-Comma.ensures.found in
    let q : expression c.args.e.now ≡ trees.Comma (expression x.left.value) x.at
    (expression x.right.value) = ap expression c.in-Comma.is
    ∙ ap expression (rolls-Comma x.left x.at x.right)
    ∙ fold-roll-Expr Expression node (Comma_F x.left x.at x.right) in
    rw q
    (IfOk-weaker c.with_second-in-Comma.result _ _
    (λ r h. h ja.faults ∙ ap (λ o. (rule o jb.found).found) left)
    (rw c.deref-in-Comma-2.ensures at c.with_second-in-Comma.ensures.found))

pub several-returns-in_ok-a-in-Comma-clause-faults :
    goal.several-returns-in_ok-a-in-Comma-clause-faults
unfolding roll-Expr Carrier.roll
several-returns-in_ok-a-in-Comma-clause-faults t c =
    let x = c.in-Comma in
    let s = names_of c.args.context.now in
    let ja = resolve_expression s (expression x.left.value) in
    let jb = resolve_expression s (expression x.right.value) in
    let rule = rule_2 x.at comma_of (ja.faults ++ jb.faults) in
    let left : option_map typed_node c.in_ok-a-in-Comma.a
    ≡ ja.found = rw c.deref-in-Comma.ensures at c.in_ok-a-in-Comma.ensures.found in
    let q : expression c.args.e.now ≡ trees.Comma (expression x.left.value) x.at
    (expression x.right.value) = ap expression c.in-Comma.is
    ∙ ap expression (rolls-Comma x.left x.at x.right)
    ∙ fold-roll-Expr Expression node (Comma_F x.left x.at x.right) in
    rw q
    (on_ok_weaker c.with_second-in-Comma.result
    (λ h. h (least_of c.args.faults.now) ja.faults
    (rw c.deref-in-Comma.ensures at c.in_ok-a-in-Comma.ensures.faults)
    ∙ ap (λ o. kept (least_of c.args.faults.now) (rule o jb.found).faults) left)
    (rw c.deref-in-Comma-2.ensures at c.with_second-in-Comma.ensures.faults))

pub conditional_or_assignment-returns-in-Ok-resolve-clause-faults :
    goal.conditional_or_assignment-returns-in-Ok-resolve-clause-faults
unfolding roll-Expr Carrier.roll
conditional_or_assignment-returns-in-Ok-resolve-clause-faults t c =
    let x = c.in-Conditional in
    let s = names_of c.args.context.now in
    let q : expression c.args.e.now ≡ trees.Conditional (expression x.condition.value) x.at
    (expression x.yes.value) (expression x.no.value) = ap expression c.in-Conditional.is
    ∙ ap expression (rolls-Conditional x.condition x.at x.yes x.no)
    ∙ fold-roll-Expr Expression node (Conditional_F x.condition x.at x.yes x.no) in
    rw q
    (on_ok_weaker c.conditional.result
    (λ h. three (least_of c.args.faults.now) _ _ _ _
    (resolve_expression s (expression x.condition.value))
    (resolve_expression s (expression x.yes.value)) (resolve_expression s (expression x.no.value))
    (rule_3 x.at conditional_of) _ _ _
    (rw c.deref.ensures at c.in_ok-c-in-Conditional.ensures.faults)
    (rw c.deref-in-Conditional.ensures at c.in-Ok.ensures.faults)
    (rw c.deref-in-Ok.ensures at c.in-Ok-resolve.ensures.faults)
    (rw c.deref.ensures at c.in_ok-c-in-Conditional.ensures.found)
    (rw c.deref-in-Conditional.ensures at c.in-Ok.ensures.found)
    (rw c.deref-in-Ok.ensures at c.in-Ok-resolve.ensures.found) h) c.conditional.ensures.faults)

pub resolve_all-loop-e-preserved : goal.resolve_all-loop-e-preserved
resolve_all-loop-e-preserved t c =
    faults_on (names_of c.args.context.now) _ _ _ c.args.given.now c.loop-e.e-index c.e-item.result
    c.loop-e-test.true c.e-item.is c.in_ok-resolve.ensures.faults c.loop-e.invariant

pub call_with-returns-then-same_count-clause-found :
    goal.call_with-returns-then-same_count-clause-found
call_with-returns-then-same_count-clause-found t c =
    let s = names_of c.args.context.now in
    let ws = map wanted c.args.wants.now in
    let args = resolved_all s c.args.given.now in
    let same : nat_eq (length ws) (length args)
    ≡ true = same_counts s c.args.wants.now c.args.given.now ∙ sym c.same_count.ensures
    ∙ c.if-same_count.true in
    IfOk-weaker c.pass_all.result _ _
    (λ r h. λ u make. called_for u make (λ v. passed_of v.items) r (pass_all ws args) h
    ∙ ap (λ j. j.found) (sym (call_passed c.args.at ws u make args same)))
    c.pass_all.ensures.found

pub call_with-returns-then-same_count-clause-faults :
    goal.call_with-returns-then-same_count-clause-faults
call_with-returns-then-same_count-clause-faults t c =
    let s = names_of c.args.context.now in
    let ws = map wanted c.args.wants.now in
    let args = resolved_all s c.args.given.now in
    let same : nat_eq (length ws) (length args)
    ≡ true = same_counts s c.args.wants.now c.args.given.now ∙ sym c.same_count.ensures
    ∙ c.if-same_count.true in
    on_ok_weaker c.pass_all.result
    (λ h. λ u make. h ∙ ap (λ j. kept (least_of c.args.faults.now) j.faults)
    (sym (call_passed c.args.at ws u make args same))) c.pass_all.ensures.faults

pub call_with-returns-clause-found : goal.call_with-returns-clause-found
call_with-returns-clause-found t c =
    let s = names_of c.args.context.now in
    let ws = map wanted c.args.wants.now in
    let args = resolved_all s c.args.given.now in
    let differ : nat_eq (length ws) (length args)
    ≡ false = same_counts s c.args.wants.now c.args.given.now ∙ sym c.same_count.ensures
    ∙ c.if-same_count.false in
    λ u make. ap (λ j. j.found) (sym (call_refused c.args.at ws u make args differ))

pub call_with-returns-clause-faults : goal.call_with-returns-clause-faults
call_with-returns-clause-faults t c =
    let s = names_of c.args.context.now in
    let ws = map wanted c.args.wants.now in
    let args = resolved_all s c.args.given.now in
    let differ : nat_eq (length ws) (length args)
    ≡ false = same_counts s c.args.wants.now c.args.given.now ∙ sym c.same_count.ensures
    ∙ c.if-same_count.false in
    λ u make. kept_more (least_of c.args.faults.now) _ _ (faults_of args)
    (fault_at c.args.at ArgCount) c.in_ok-resolve_all.ensures c.add.ensures
    ∙ ap (λ j. kept (least_of c.args.faults.now) j.faults)
    (sym (call_refused c.args.at ws u make args differ))

pub pass_all-loop-e-init : goal.pass_all-loop-e-init
pass_all-loop-e-init t c =
    let s = names_of c.args.context.now in (
      refl,
      omega arith,
      subst (λ d. StillToPass s (least_of c.args.faults.now)
          (pass_all (map wanted c.args.wants.now) (resolved_all s c.args.given.now)) d
          (least_of c.args.faults.now) c.args.wants.now c.args.given.now)
          (sym c.no_arguments-passed.ensures)
          (none_passed s (least_of c.args.faults.now) c.args.wants.now c.args.given.now),
    )

pub conditional_or_assignment-returns-in_ok-b-in-Assign-clause-faults :
    goal.conditional_or_assignment-returns-in_ok-b-in-Assign-clause-faults
unfolding roll-Expr Carrier.roll
conditional_or_assignment-returns-in_ok-b-in-Assign-clause-faults t c =
    let x = c.in-Assign in
    let s = names_of c.args.context.now in
    let ja = resolve_expression s (expression x.target.value) in
    let jb = resolve_expression s (expression x.value.value) in
    let first = least_of c.args.faults.now in
    let q : expression c.args.e.now ≡ trees.Assign (expression x.target.value) x.at x.operator
    (expression x.value.value) = ap expression c.in-Assign.is
    ∙ ap expression (rolls-Assign x.target x.at x.operator x.value)
    ∙ fold-roll-Expr Expression node (Assign_F x.target x.at x.operator x.value) in
    rw q
    (on_ok_weaker c.assign.result
    (λ h. two first _ _ _ ja jb (assigning_to s (expression x.target.value)
    (assigning_at x.operator x.at (start (expression x.value.value))) x.operator) _ _
    (rw c.deref-in-Assign.ensures at c.in_ok-a-in-Assign.ensures.faults)
    (rw c.deref-in-Assign-2.ensures at c.in_ok-b-in-Assign.ensures.faults)
    (rw c.deref-in-Assign.ensures at c.in_ok-a-in-Assign.ensures.found)
    (rw c.deref-in-Assign-2.ensures at c.in_ok-b-in-Assign.ensures.found) h
    ∙ ap (λ j. kept first j.faults) (assign_is s (expression x.target.value)
    (expression x.value.value) x.at x.operator ja jb))
    (rw (c.deref-in-Assign-4.ensures, c.place_of-place.ensures, c.deref-in-Assign-3.ensures) at
    c.assign.ensures.faults))

pub pass_all-loop-e-preserved : goal.pass_all-loop-e-preserved
pass_all-loop-e-preserved t c =
    let s = names_of c.args.context.now in
    let i = c.loop-e.e-index in
    let ws = c.args.wants.now in
    let es = c.args.given.now in
    let x = c.want_at-want.result in
    let lw : i < length ws =
    omega (arith, c.loop-e.invariant.0, c.loop-e.invariant.1, c.if-i-count.false) in (
      ap (λ k. k + 1) c.loop-e.invariant.0,
      omega (arith, lw, c.loop-e.invariant.0),
      pass_next_to s (least_of c.args.faults.now) (pass_all (map wanted ws) (resolved_all s es)) _ _
          _ _ _ ws es i x c.e-item.result _ _ c.in_ok-passed.ensures lw
          (c.want_at-want.ensures ∙ ap (λ k. get_or ws k x) c.loop-e.invariant.0) c.loop-e-test.true
          c.e-item.is
          c.in_ok-found.ensures.found c.in_ok-found.ensures.faults c.pass-one.ensures.passed
          c.pass-one.ensures.faults c.loop-e.invariant.2,
    )

pub pass_all-returns-then-i-count-clause-found : goal.pass_all-returns-then-i-count-clause-found
pass_all-returns-then-i-count-clause-found t c =
    let s = names_of c.args.context.now in
    let i = c.loop-e.e-index in
    let ws = c.args.wants.now in
    let es = c.args.given.now in
    let past : length ws ≤ i = omega (arith, c.loop-e.invariant.0, c.if-i-count.true) in
    let done = option_map (λ v. map nodes.expression v.items) c.loop-e.passed in
    fused nodes.arguments (λ v. map nodes.expression v.items) c.loop-e.passed
    ∙ (all_passed_at s (least_of c.args.faults.now) (pass_all (map wanted ws) (resolved_all s es))
    done (least_of c.loop-e.faults) ws es i past c.loop-e.invariant.2).0

pub pass_all-returns-clause-found : goal.pass_all-returns-clause-found
pass_all-returns-clause-found t c =
    let s = names_of c.args.context.now in
    let i = c.loop-e.e-index in
    let ws = c.args.wants.now in
    let es = c.args.given.now in
    let past : length es ≤ i = omega (arith, c.loop-e-test.false) in
    let past' : length ws ≤ i = omega (arith, past, c.requires) in
    let done = option_map (λ v. map nodes.expression v.items) c.loop-e.passed in
    fused nodes.arguments (λ v. map nodes.expression v.items) c.loop-e.passed
    ∙ (all_passed_at s (least_of c.args.faults.now) (pass_all (map wanted ws) (resolved_all s es))
    done (least_of c.loop-e.faults) ws es i past' c.loop-e.invariant.2).0

pub special_call-returns-in_ok-passed-in-Some-CodeFunction-clause-found :
    goal.special_call-returns-in_ok-passed-in-Some-CodeFunction-clause-found
special_call-returns-in_ok-passed-in-Some-CodeFunction-clause-found t c =
    let s = names_of c.args.context.now in
    let args = resolved_all s c.args.given.now in
    let j = call_with c.args.at [] unsigned (λ es. nodes.ExceptionCode) args in
    let found = c.code_call-found.ensures ∙ c.in_ok-passed-in-Some-CodeFunction.ensures.found
    unsigned (λ es. nodes.ExceptionCode) in
    let told : option_map typed_node c.only_where.result
    ≡ (call s c.args.at (Some CodeFunction) args).found = allowed_found s.code c.args.at
    CodeOutsideFilter j _ _ found c.only_where.ensures.found in
    search (rules, told)

pub special_call-returns-in_ok-passed-in-Some-CodeFunction-clause-faults :
    goal.special_call-returns-in_ok-passed-in-Some-CodeFunction-clause-faults
special_call-returns-in_ok-passed-in-Some-CodeFunction-clause-faults t c =
    let s = names_of c.args.context.now in
    let args = resolved_all s c.args.given.now in
    let first = least_of c.args.faults.now in
    let j = call_with c.args.at [] unsigned (λ es. nodes.ExceptionCode) args in
    let found = c.code_call-found.ensures ∙ c.in_ok-passed-in-Some-CodeFunction.ensures.found
    unsigned (λ es. nodes.ExceptionCode) in
    let so_far = c.in_ok-passed-in-Some-CodeFunction.ensures.faults unsigned
    (λ es. nodes.ExceptionCode) in
    let told : least_of c.only_where.new.faults
    ≡ kept first (call s c.args.at (Some CodeFunction) args).faults = allowed_kept s.code
    c.args.at CodeOutsideFilter j _ first _ _ found so_far c.only_where.ensures.faults in
    search (rules, told)

pub special_call-returns-in_ok-passed-in-Some-AbnormalFunction-clause-found :
    goal.special_call-returns-in_ok-passed-in-Some-AbnormalFunction-clause-found
special_call-returns-in_ok-passed-in-Some-AbnormalFunction-clause-found t c =
    let s = names_of c.args.context.now in
    let args = resolved_all s c.args.given.now in
    let j = call_with c.args.at [] int (λ es. nodes.AbnormalTermination) args in
    let found = c.abnormal_call-found.ensures
    ∙ c.in_ok-passed-in-Some-AbnormalFunction.ensures.found int
    (λ es. nodes.AbnormalTermination) in
    let told : option_map typed_node c.only_where-in-Some-AbnormalFunction.result
    ≡ (call s c.args.at (Some AbnormalFunction) args).found = allowed_found s.abnormal c.args.at
    AbnormalOutsideFinally j _ _ found c.only_where-in-Some-AbnormalFunction.ensures.found in
    search (rules, told)

pub special_call-returns-in_ok-passed-in-Some-AbnormalFunction-clause-faults :
    goal.special_call-returns-in_ok-passed-in-Some-AbnormalFunction-clause-faults
special_call-returns-in_ok-passed-in-Some-AbnormalFunction-clause-faults t c =
    let s = names_of c.args.context.now in
    let args = resolved_all s c.args.given.now in
    let first = least_of c.args.faults.now in
    let j = call_with c.args.at [] int (λ es. nodes.AbnormalTermination) args in
    let found = c.abnormal_call-found.ensures
    ∙ c.in_ok-passed-in-Some-AbnormalFunction.ensures.found int
    (λ es. nodes.AbnormalTermination) in
    let so_far = c.in_ok-passed-in-Some-AbnormalFunction.ensures.faults int
    (λ es. nodes.AbnormalTermination) in
    let told : least_of c.only_where-in-Some-AbnormalFunction.new.faults
    ≡ kept first (call s c.args.at (Some AbnormalFunction) args).faults = allowed_kept s.abnormal
    c.args.at AbnormalOutsideFinally j _ first _ _ found so_far
    c.only_where-in-Some-AbnormalFunction.ensures.faults in
    search (rules, told)

pub call_naming-returns-then-has_one_more-clause-found :
    goal.call_naming-returns-then-has_one_more-clause-found
call_naming-returns-then-has_one_more-clause-found t c =
    let s = names_of c.args.context.now in
    let ws = map wanted c.args.wants.now in
    let args = resolved_all s c.args.given.now in
    let more = sym c.has_one_more.ensures ∙ c.if-has_one_more.true in
    let same : nat_eq (length ws + 1) (length args)
    ≡ true = one_more s c.args.wants.now c.args.given.now ∙ more in
    let count : length c.args.wants.now + 1 ≡ length c.args.given.now = eqb-true _ _ more in
    let lt : length c.args.wants.now < length c.args.given.now = omega (arith, count) in
    let last = last_named s c.args.wants.now c.args.given.now c.index-given-count.result lt
    c.index-given-count.is in
    λ of. naming_found of c.naming.result _ _ (pass_all ws args) (handler_after ws args)
    c.naming.ensures c.in_ok-passed.ensures.found
    (c.in_ok-named.ensures.found ∙ ap (λ h. h.found) (sym last))
    ∙ ap (λ j. j.found) (sym (naming_passed c.args.at ws of args same))

pub call_naming-returns-then-has_one_more-clause-faults :
    goal.call_naming-returns-then-has_one_more-clause-faults
call_naming-returns-then-has_one_more-clause-faults t c =
    let s = names_of c.args.context.now in
    let ws = map wanted c.args.wants.now in
    let args = resolved_all s c.args.given.now in
    let more = sym c.has_one_more.ensures ∙ c.if-has_one_more.true in
    let same : nat_eq (length ws + 1) (length args)
    ≡ true = one_more s c.args.wants.now c.args.given.now ∙ more in
    let count : length c.args.wants.now + 1 ≡ length c.args.given.now = eqb-true _ _ more in
    let lt : length c.args.wants.now < length c.args.given.now = omega (arith, count) in
    let last = last_named s c.args.wants.now c.args.given.now c.index-given-count.result lt
    c.index-given-count.is in
    λ of. kept_more (least_of c.args.faults.now) _ _ (pass_all ws args).faults
    (handler_after ws args).faults c.in_ok-passed.ensures.faults
    (c.in_ok-named.ensures.faults
    ∙ ap (λ h. kept (least_of c.pass_all.new.faults) h.faults) (sym last))
    ∙ ap (λ j. kept (least_of c.args.faults.now) j.faults)
    (sym (naming_passed c.args.at ws of args same))

pub call_naming-returns-clause-found : goal.call_naming-returns-clause-found
call_naming-returns-clause-found t c =
    let s = names_of c.args.context.now in
    let ws = map wanted c.args.wants.now in
    let args = resolved_all s c.args.given.now in
    let differ : nat_eq (length ws + 1) (length args)
    ≡ false = one_more s c.args.wants.now c.args.given.now ∙ sym c.has_one_more.ensures
    ∙ c.if-has_one_more.false in
    λ of. ap (λ j. j.found) (sym (naming_refused c.args.at ws of args differ))

pub call_naming-returns-clause-faults : goal.call_naming-returns-clause-faults
call_naming-returns-clause-faults t c =
    let s = names_of c.args.context.now in
    let ws = map wanted c.args.wants.now in
    let args = resolved_all s c.args.given.now in
    let differ : nat_eq (length ws + 1) (length args)
    ≡ false = one_more s c.args.wants.now c.args.given.now ∙ sym c.has_one_more.ensures
    ∙ c.if-has_one_more.false in
    λ of. kept_more (least_of c.args.faults.now) _ _ (faults_of args)
    (fault_at c.args.at ArgCount) c.in_ok-resolve_all.ensures c.add.ensures
    ∙ ap (λ j. kept (least_of c.args.faults.now) j.faults)
    (sym (naming_refused c.args.at ws of args differ))
