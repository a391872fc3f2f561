-- Each cold part of a statement is the code of an `else` branch with the jump that ends it.
use Rattle.std.proofs.Common.{◌≡◌, ℕ, ◌+◌, true, List, [], ◌∷◌, ◌++◌, refl, arith}
use Rattle.std.specs.List.{AllByRecursion}
use Rattle.linear_code.specs.declared.program.LabelRange.{LabelRange}
use Rattle.seh_ir.specs.ColdParts.{cold_range, is_cold}
use Rattle.lowering_invariants.specs.Words.{Statement, Declare, Block, Evaluate, If, IfElse, For, DoWhile, Return, Break, Continue, Leave, TryExcept, TryFinally, Statements, Empty, Then, Instruction, Jump, LoweringContext, in_loop, expression_size, discarded_size, condition_size, all_declared_size, statement_size, discarded_code, condition_code, all_declared_code, statement_code, statements_code, statement_cold, statements_cold}
use Rattle.lowering_invariants.specs.ColdParts.{IsAfterJump}
use Rattle.lowering_invariants.proofs.Lemmas.{all_append, IsSegmentAt, front, back, statement_length, discarded_length, condition_length, all_declared_length}
use Rattle.lowering_invariants.proofs.Labels.UnwindTargets.{after_test}
use Rattle.lowering_invariants.proofs.ColdCode.ColdRanges.{cold_cases}
use Rattle.lowering_invariants.proofs.ColdCode.ColdInstructions.{HasJumps, in_loop_jumps}

pub record IsBranch (code : List Instruction) (p : LabelRange) : Type 0 where
  pub statement : Statement
  pub scope : LoweringContext
  pub ways : HasJumps scope
  pub cold : is_cold statement ≡ true
  pub ends : p.begin + statement_size statement + 1 ≡ p.end
  pub there : IsSegmentAt code p.begin (statement_code scope statement p.begin ++ Jump p.end ∷ [])
  pub begins : IsAfterJump code p.begin

module _ (code : List Instruction) where
  abbrev At : ℕ → List Instruction → Type 0
  At at xs = IsSegmentAt code at xs

  abbrev Branches : List LabelRange → Type 0
  Branches ps = AllByRecursion (IsBranch code) ps

  mutual
    pub statement_branches : (s : Statement) (scope : LoweringContext) (at : ℕ) → HasJumps scope
        → At at (statement_code scope s at) → Branches (statement_cold s at)
    statement_branches (Declare d) scope at w g = tt
    statement_branches (Block ss) scope at w g = statements_branches ss scope at w g
    statement_branches (Evaluate e) scope at w g = tt
    statement_branches (If c s) scope at w g =
        statement_branches s scope (at + expression_size c + 1) w
        (after_test [] code scope.names c _ at _ g)
    statement_branches (IfElse c s t) scope at w g =
        let then = at + expression_size c + 1 in
        let skips = then + statement_size s in
        let otherwise = skips + 1 in
        let end = otherwise + statement_size t + 1 in
        let yes = statement_code scope s then in
        let no = statement_code scope t otherwise in
        let l = statement_length scope s then in
        let g1 = after_test [] code scope.names c _ at _ g in
        let g2 = back code then skips yes _ (omega arith) g1 in
        all_append (IsBranch code) (statement_cold s then) _
        (statement_branches s scope then w (front code then yes _ g1))
        (cold_cases (IsBranch code) (is_cold t) (cold_range otherwise end)
        (statement_cold t otherwise)
        (λ e. record {
          statement = t;
          scope = scope;
          ways = w;
          cold = e;
          ends = refl;
          there = g2.1;
          begins = record { place = skips; before = refl; to = end; jump = g2.0 };
        }) (statement_branches t scope otherwise w (front code otherwise no _ g2.1)))
    statement_branches (For ds first c next s) scope at w g =
        let names = scope.names in
        let begin = at + all_declared_size ds in
        let iteration = begin + discarded_size first in
        let start = iteration + condition_size c in
        let again = start + statement_size s in
        let end = again + 1 + discarded_size next + 1 in
        let ld = all_declared_length names ds at in
        let lf = discarded_length names first begin in
        let lc = condition_length names c end iteration in
        let g1 = back code at begin (all_declared_code names ds at) _ (omega arith) g in
        let g2 = back code begin iteration (discarded_code names first begin) _ (omega arith) g1
        in
        let g3 = back code iteration start (condition_code names c end iteration) _ (omega arith)
        g2 in
        statement_branches s (in_loop end again scope) start (in_loop_jumps end again scope w)
        (front code start (statement_code (in_loop end again scope) s start) _ g3)
    statement_branches (DoWhile s c) scope at w g =
        let again = at + statement_size s in
        let end = again + 1 + expression_size c + 2 in
        statement_branches s (in_loop end again scope) at (in_loop_jumps end again scope w)
        (front code at (statement_code (in_loop end again scope) s at) _ g)
    statement_branches (Return e) scope at w g = tt
    statement_branches Break scope at w g = tt
    statement_branches Continue scope at w g = tt
    statement_branches Leave scope at w g = tt
    statement_branches (TryExcept body filter block) scope at w g = tt
    statement_branches (TryFinally body k last) scope at w g = tt

    pub statements_branches : (ss : Statements) (scope : LoweringContext) (at : ℕ)
        → HasJumps scope → At at (statements_code scope ss at)
        → Branches (statements_cold ss at)
    statements_branches Empty scope at w g = tt
    statements_branches (Then s ss) scope at w g =
        let next = at + statement_size s in
        let begins = statement_code scope s at in
        let l = statement_length scope s at in
        all_append (IsBranch code) (statement_cold s at) (statements_cold ss next)
        (statement_branches s scope at w (front code at begins _ g))
        (statements_branches ss scope next w (back code at next begins _ (omega arith) g))
