-- The code of a statement without a `__try`, out of which no local unwind leads, may be cold.
use Rattle.std.proofs.Common.{◌≡◌, ℕ, ◌+◌, false, [], ◌∷◌, Option, Some, None, refl}
use Rattle.std.proofs.lemmas.Bool.{or_parts}
use Rattle.seh_ir.specs.ColdParts.{statement_tries, statements_try}
use Rattle.lowering_invariants.specs.Words.{Statement, Declare, Block, Evaluate, If, IfElse, For, DoWhile, Return, Break, Continue, Leave, TryExcept, TryFinally, Statements, Empty, Then, Way, Nowhere, Jumps, LoweringContext, in_loop, expression_size, discarded_size, condition_size, all_declared_size, statement_size, expression_code, jump_code, leave_code, discarded_code, condition_code, returned_code, all_declared_code, statement_code, statements_code}
use Rattle.lowering_expressions.specs.declared.scope.Way.TheVariants.{Unwinds}
use Rattle.lowering_invariants.proofs.Lemmas.{all_append}
use Rattle.lowering_invariants.proofs.Regions.NoBlocks.{MayBeCold, AllMayBeCold, expression_may_be_cold}
use Rattle.lowering_invariants.proofs.Labels.UnwindTargets.{discarded_may_be_cold, condition_may_be_cold, returned_may_be_cold, declared_at_may_be_cold, declared_may_be_cold}

-- no local unwind leads out
abbrev pub IsJump : Way → Type 0
IsJump Nowhere = Unit {0}
IsJump (Jumps label) = Unit {0}
IsJump (Unwinds label) = ⊥

pub record HasJumps (scope : LoweringContext) : Type 0 where
  pub exit : IsJump scope.exit
  pub loop_end : IsJump scope.loop_end
  pub loop_next : IsJump scope.loop_next

pub in_loop_jumps : (end next : ℕ) (scope : LoweringContext) → HasJumps scope
    → HasJumps (in_loop end next scope)
in_loop_jumps end next scope w = record { exit = w.exit; loop_end = tt; loop_next = tt }

way_ordinary : (w : Way) → IsJump w → AllMayBeCold (jump_code w)
way_ordinary Nowhere h = (refl, (refl, tt))
way_ordinary (Jumps label) h = (refl, (refl, tt))
way_ordinary (Unwinds label) h = absurd h

leave_ordinary : (w : Option ℕ) → AllMayBeCold (leave_code w ∷ [])
leave_ordinary None = (refl, tt)
leave_ordinary (Some label) = (refl, tt)

mutual
  pub statement_ordinary : (s : Statement) (scope : LoweringContext) (at : ℕ) → HasJumps scope
      → statement_tries s ≡ false → AllMayBeCold (statement_code scope s at)
  statement_ordinary (Declare d) scope at w h =
      declared_at_may_be_cold scope.names d.stacked d.local d.value at
  statement_ordinary (Block ss) scope at w h = statements_ordinary ss scope at w h
  statement_ordinary (Evaluate e) scope at w h = discarded_may_be_cold scope.names e at
  statement_ordinary (If c s) scope at w h =
      let then = at + expression_size c + 1 in
      all_append MayBeCold (expression_code scope.names c 0 at) _
      (expression_may_be_cold scope.names c 0 at) (refl, statement_ordinary s scope then w h)
  statement_ordinary (IfElse c s t) scope at w h =
      let then = at + expression_size c + 1 in
      let otherwise = then + statement_size s + 1 in
      let parts = or_parts (statement_tries s) (statement_tries t) h in
      all_append MayBeCold (expression_code scope.names c 0 at) _
      (expression_may_be_cold scope.names c 0 at) (
        refl,
        all_append MayBeCold (statement_code scope s then) _
            (statement_ordinary s scope then w parts.0) (
              refl,
              all_append MayBeCold (statement_code scope t otherwise) _
                  (statement_ordinary t scope otherwise w parts.1) (refl, tt),
            ),
      )
  statement_ordinary (For ds first c next s) scope at w h =
      let names = scope.names in
      let begin = at + all_declared_size ds in
      let iteration = begin + discarded_size first in
      let body = iteration + condition_size c in
      let again = body + statement_size s in
      let end = again + 1 + discarded_size next + 1 in
      let inner = in_loop end again scope in
      all_append MayBeCold (all_declared_code names ds at) _ (declared_may_be_cold names ds at)
      (all_append MayBeCold (discarded_code names first begin) _
      (discarded_may_be_cold names first begin)
      (all_append MayBeCold (condition_code names c end iteration) _
      (condition_may_be_cold names c end iteration)
      (all_append MayBeCold (statement_code inner s body) _
      (statement_ordinary s inner body (in_loop_jumps end again scope w) h) (
        refl,
        all_append MayBeCold (discarded_code names next (again + 1)) _
            (discarded_may_be_cold names next (again + 1)) (refl, (refl, tt)),
      ))))
  statement_ordinary (DoWhile s c) scope at w h =
      let again = at + statement_size s in
      let end = again + 1 + expression_size c + 2 in
      let inner = in_loop end again scope in
      all_append MayBeCold (statement_code inner s at) _
      (statement_ordinary s inner at (in_loop_jumps end again scope w) h) (
        refl,
        all_append MayBeCold (expression_code scope.names c 0 (again + 1)) _
            (expression_may_be_cold scope.names c 0 (again + 1)) (refl, (refl, (refl, tt))),
      )
  statement_ordinary (Return e) scope at w h =
      all_append MayBeCold (returned_code scope.names e at) _
      (returned_may_be_cold scope.names e at) (way_ordinary scope.exit w.exit)
  statement_ordinary Break scope at w h = way_ordinary scope.loop_end w.loop_end
  statement_ordinary Continue scope at w h = way_ordinary scope.loop_next w.loop_next
  statement_ordinary Leave scope at w h = leave_ordinary scope.leave
  statement_ordinary (TryExcept body filter block) scope at w h = absurd (cc)
  statement_ordinary (TryFinally body k last) scope at w h = absurd (cc)

  pub statements_ordinary : (ss : Statements) (scope : LoweringContext) (at : ℕ)
      → HasJumps scope → statements_try ss ≡ false → AllMayBeCold (statements_code scope ss at)
  statements_ordinary Empty scope at w h = tt
  statements_ordinary (Then s ss) scope at w h =
      let next = at + statement_size s in
      let parts = or_parts (statement_tries s) (statements_try ss) h in
      all_append MayBeCold (statement_code scope s at) _
      (statement_ordinary s scope at w parts.0) (statements_ordinary ss scope next w parts.1)
