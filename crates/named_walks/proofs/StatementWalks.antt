-- The code and the funclets of a statement call `walk` exactly where the statement names it.
use Rattle.std.proofs.Common.{◌≡◌, ℕ, ◌+◌, ◌-◌, false, List, [], ◌∷◌, ◌++◌, Option, Some, None, refl, ◌∙◌}
use Rattle.c_checked.specs.declared.function.DataPart.{DataPart}
use Rattle.c_checked.specs.declared.statement.StackedVariable.{StackedVariable}
use Rattle.c_checked.specs.Expression.{Expression}
use Rattle.c_checked.specs.Statement.{Declared, Filter, Always, Funclet, Statement, Declare, Block, Evaluate, If, IfElse, For, DoWhile, Return, Break, Continue, Leave, TryExcept, TryFinally, Statements, Empty, Then}
use Rattle.linear_code.specs.declared.slot.Slot.TheVariants.{Local, Temporary}
use Rattle.linear_code.specs.declared.instruction.Instruction.TheVariants as instructions
use Rattle.linear_code.specs.declared.instruction.Instruction.TheVariants.{Jump, JumpIfZero, Separator}
use Rattle.lowering_sizes.specs.Sizes.{expression_size, discarded_size, condition_size, declared_size, all_declared_size, statement_size, statements_size}
use Rattle.lowering_expressions.specs.Expressions.{expression_code}
use Rattle.lowering_expressions.specs.Scope.{except_names, filter_names, finally_names, finally_scope, in_loop, in_try, in_except, in_guarded}
use Rattle.lowering_expressions.specs.declared.scope.LoweringContext.{LoweringContext}
use Rattle.lowering_expressions.specs.declared.scope.Names.{Names}
use Rattle.lowering_expressions.specs.declared.scope.Way.{Way}
use Rattle.lowering_expressions.specs.declared.scope.Way.TheVariants.{Nowhere, Jumps, Unwinds}
use Rattle.seh_ir.specs.declared.funclets.Owner.{Owner}
use Rattle.seh_ir.specs.Funclets.{filter_funclets, finally_begin, finally_funclet, in_funclet, statement_funclets, statements_funclets}
use Rattle.seh_ir.specs.Statements.{discarded_code, returned_code, condition_code, initialiser_code, put_initialiser_code, stacked_declared_code, declared_at_code, declared_code, all_declared_code, jump_code, leave_code, repeated, finally_called, landed, statement_code, statements_code}
use Rattle.named_walks.specs.Walks.{optional_walks, elements_walk, declared_at_walks, declared_walks, filter_walks, statement_walks, statements_walk}
use Rattle.named_walks.proofs.Lists.{walk_in, walk_within, walk_of, or_false, both, before, both_of, first_of, last_of, plain_first, plain_last, alone, beside}
use Rattle.named_walks.proofs.ExpressionWalks.{expression_in}

-- ---- code that calls nothing

way_plain : (w : Way) → walk_in (jump_code w) ≡ false
way_plain Nowhere = refl
way_plain (Jumps label) = refl
way_plain (Unwinds label) = refl

leave_plain : (w : Option ℕ) → walk_in (leave_code w ∷ []) ≡ false
leave_plain None = refl
leave_plain (Some label) = refl

landing_plain : (part : Option DataPart) (end x : ℕ) → walk_in (landed part end x) ≡ false
landing_plain None end x = refl
landing_plain (Some p) end x = refl

begin_plain : (part : Option DataPart) (x : ℕ) → walk_in (finally_begin part x) ≡ false
begin_plain None x = refl
begin_plain (Some p) x = refl

-- ---- expressions in statements

discarded_in : (names : Names) (e : Option Expression) (at : ℕ)
    → walk_in (discarded_code names e at) ≡ optional_walks e
discarded_in names None at = refl
discarded_in names (Some e) at =
    before (expression_code names e 0 at) _ (expression_in names e 0 at) refl

returned_in : (names : Names) (e : Option Expression) (at : ℕ)
    → walk_in (returned_code names e at) ≡ optional_walks e
returned_in names None at = refl
returned_in names (Some e) at = expression_in names e 0 at

condition_in : (names : Names) (e : Option Expression) (label at : ℕ)
    → walk_in (condition_code names e label at) ≡ optional_walks e
condition_in names None label at = refl
condition_in names (Some e) label at =
    before (expression_code names e 0 at) _ (expression_in names e 0 at) refl

initialiser_in : (names : Names) (x : ℕ) (e : Option Expression) (at : ℕ)
    → walk_in (initialiser_code names x e at) ≡ optional_walks e
initialiser_in names x None at = refl
initialiser_in names x (Some e) at =
    before (expression_code names e 0 at) _ (expression_in names e 0 at) refl

put_in : (names : Names) (v : StackedVariable) (e : Option Expression) (at : ℕ)
    → walk_in (put_initialiser_code names v e at) ≡ optional_walks e
put_in names v None at = refl
put_in names v (Some e) at =
    before (expression_code names e 0 at) _ (expression_in names e 0 at) refl

-- ---- declarations

stacked_in : (names : Names) (v : StackedVariable) (n : Option ℕ) (e : Option Expression) (at : ℕ)
    → walk_in (stacked_declared_code names v n e at) ≡ elements_walk n e
stacked_in names v None e at = put_in names v e (at + 3)
stacked_in names v (Some n) e at = refl

declared_at_in : (names : Names) (v : Option StackedVariable) (x : ℕ) (e : Option Expression)
    (at : ℕ) → walk_in (declared_at_code names v x e at) ≡ declared_at_walks v e
declared_at_in names None x e at = initialiser_in names x e (at + 1)
declared_at_in names (Some v) x e at = stacked_in names v v.elements e at

all_declared_in : (names : Names) (ds : List Declared) (at : ℕ)
    → walk_in (all_declared_code names ds at) ≡ declared_walks ds
all_declared_in names [] at = refl
all_declared_in names (d ∷ ds) at =
    both (declared_code names d at) _ (declared_at_in names d.stacked d.local d.value at)
    (all_declared_in names ds (at + declared_size d))

-- ---- statements

filter_within : (owner : Owner) (names : Names) (f : Filter)
    → walk_within (filter_funclets owner names f) ≡ filter_walks f
filter_within owner names Always = refl
filter_within owner names (Funclet k e) =
    or_false _ ∙ before (expression_code names e 0 0) _ (expression_in names e 0 0) refl

mutual
  statement_in : (s : Statement) (scope : LoweringContext) (at : ℕ) (owner : Owner) (names : Names)
      → walk_of (statement_code scope s at) (statement_funclets owner names s) ≡ statement_walks s
  statement_in (Declare d) scope at owner names =
      alone (declared_code scope.names d at)
      (declared_at_in scope.names d.stacked d.local d.value at)
  statement_in (Block ss) scope at owner names = statements_in ss scope at owner names
  statement_in (Evaluate e) scope at owner names = alone (discarded_code scope.names e at)
      (discarded_in scope.names e at)
  statement_in (If c s) scope at owner names =
      let then = at + expression_size c + 1 in
      first_of (expression_code scope.names c 0 at)
      (JumpIfZero (Temporary 0) (then + statement_size s) ∷ statement_code scope s then)
      (statement_funclets owner names s) (expression_in scope.names c 0 at)
      (statement_in s scope then owner names)
  statement_in (IfElse c s t) scope at owner names =
      let then = at + expression_size c + 1 in
      let otherwise = then + statement_size s + 1 in
      let end = otherwise + statement_size t + 1 in
      let yes = statement_code scope s then in
      let no = statement_code scope t otherwise in
      let rest = no ++ Jump end ∷ [] in
      let first = statement_funclets owner names s in
      let second = statement_funclets owner names t in
      first_of (expression_code scope.names c 0 at)
      (JumpIfZero (Temporary 0) otherwise ∷ (yes ++ Jump end ∷ rest)) (first ++ second)
      (expression_in scope.names c 0 at)
      (both_of yes (Jump end ∷ rest) first second (statement_in s scope then owner names)
      (plain_last no (Jump end ∷ []) second (statement_in t scope otherwise owner names) refl))
  statement_in (For ds first c next s) scope at owner names =
      let begin = at + all_declared_size ds in
      let iteration = begin + discarded_size first in
      let body = iteration + condition_size c in
      let again = body + statement_size s in
      let end = again + 1 + discarded_size next + 1 in
      let inner = in_loop end again scope in
      let repeats = Jump iteration ∷ Separator ∷ [] in
      let steps = discarded_code scope.names next (again + 1) in
      let turn = statement_code inner s body ++ Separator ∷ (steps ++ repeats) in
      let tested = condition_code scope.names c end iteration in
      let begins = discarded_code scope.names first begin in
      let funclets = statement_funclets owner names s in
      first_of (all_declared_code scope.names ds at) (begins ++ (tested ++ turn)) funclets
      (all_declared_in scope.names ds at)
      (first_of begins (tested ++ turn) funclets (discarded_in scope.names first begin)
      (first_of tested turn funclets (condition_in scope.names c end iteration)
      (last_of (statement_code inner s body) (Separator ∷ (steps ++ repeats)) funclets
      (statement_in s inner body owner names)
      (before steps repeats (discarded_in scope.names next (again + 1)) refl))))
  statement_in (DoWhile s c) scope at owner names =
      let again = at + statement_size s in
      let end = again + 1 + expression_size c + 2 in
      let inner = in_loop end again scope in
      let tested = expression_code scope.names c 0 (again + 1) in
      let repeats = repeated end at in
      last_of (statement_code inner s at) (Separator ∷ (tested ++ repeats))
      (statement_funclets owner names s) (statement_in s inner at owner names)
      (before tested repeats (expression_in scope.names c 0 (again + 1)) refl)
  statement_in (Return e) scope at owner names =
      let value = returned_code scope.names e at in
      let leads = jump_code scope.exit in
      alone (value ++ leads)
      (before value leads (returned_in scope.names e at) (way_plain scope.exit))
  statement_in Break scope at owner names = alone (jump_code scope.loop_end)
      (way_plain scope.loop_end)
  statement_in Continue scope at owner names = alone (jump_code scope.loop_next)
      (way_plain scope.loop_next)
  statement_in Leave scope at owner names = alone (leave_code scope.leave ∷ [])
      (leave_plain scope.leave)
  statement_in (TryExcept body filter block) scope at owner names =
      let target = at + statements_size body + 1 in
      let end = target + 2 + statements_size block in
      let inner = in_try end scope in
      let guarded = statements_code inner body at in
      let jumps = landed scope.names.part end scope.names.free in
      let handles = statements_code (in_except scope) block (target + 2) in
      let own = filter_funclets owner (filter_names names) filter in
      let rest = statements_funclets owner (except_names names) block in
      both_of guarded (jumps ++ handles) (statements_funclets owner names body) (own ++ rest)
      (statements_in body inner at owner names)
      (both_of jumps handles own rest
      (beside jumps own (landing_plain scope.names.part end scope.names.free)
      (filter_within owner (filter_names names) filter))
      (statements_in block (in_except scope) (target + 2) owner (except_names names)))
  statement_in (TryFinally body k last) scope at owner names =
      let inner = in_guarded (at + statements_size body) scope in
      let guarded = statements_code inner body at in
      let called = finally_called (k - 1) in
      let begins = finally_begin names.part names.free in
      let code = statements_code (finally_scope names) last 3 in
      let ends = instructions.Return (Local names.free) ∷ [] in
      let rest = statements_funclets (in_funclet (k - 1) owner) (finally_names names) last in
      both_of guarded called (statements_funclets owner names body)
      (finally_funclet owner names last ∷ rest) (statements_in body inner at owner names)
      (plain_first begins (code ++ ends) rest (begin_plain names.part names.free)
      (plain_last code ends rest
      (statements_in last (finally_scope names) 3 (in_funclet (k - 1) owner) (finally_names names))
      refl))

  pub statements_in : (ss : Statements) (scope : LoweringContext) (at : ℕ) (owner : Owner)
      (names : Names)
      → walk_of (statements_code scope ss at) (statements_funclets owner names ss)
      ≡ statements_walk ss
  statements_in Empty scope at owner names = refl
  statements_in (Then s ss) scope at owner names =
      let to = at + statement_size s in
      both_of (statement_code scope s at) (statements_code scope ss to)
      (statement_funclets owner names s) (statements_funclets owner names ss)
      (statement_in s scope at owner names) (statements_in ss scope to owner names)
