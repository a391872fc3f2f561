-- The function of each funclet has a region, and the locals that the funclet works on.
use Rattle.std.proofs.Common.{◌≡◌, ℕ, zero, suc, ◌+◌, ◌-◌, ◌<◌, List, [], ◌∷◌, length, map, None, Some, refl, ap, ◌∙◌, arith, length-append}
use Rattle.std.specs.List.{AllByRecursion}
use Rattle.std.specs.Prelude.{slice_get}
use Rattle.image_runs.specs.Words.{Program, Function, LinearFunction, LinearFunclet, scope_of, lowered, all_locals, lowered_function, lowered_funclets, all_funclets}
use Rattle.seh_ir.specs.Lowered.{body_start}
use Rattle.c_checked.specs.Statement.{Statement, Declare, Block, Evaluate, If, IfElse, For, DoWhile, Return, Break, Continue, Leave, TryExcept, TryFinally, Statements, Empty, Then}
use Rattle.linear_code.specs.declared.program.RegionKind.TheVariants as kinds
use Rattle.lowering_sizes.specs.Sizes.{expression_size, discarded_size, condition_size, all_declared_size, statement_size, statements_size, statements_notes}
use Rattle.seh_ir.specs.declared.funclets.Owner.{Owner}
use Rattle.lowering_expressions.specs.declared.scope.Names.{Names}
use Rattle.seh_ir.specs.Regions.{except_kind, region, statement_regions, statements_regions}
use Rattle.seh_ir.specs.Funclets.{statement_funclets, statements_funclets}
use Rattle.lowering_follows.proofs.Segments.{IsSegmentAt, whole_is_at}
use Rattle.seh_ir.proofs.EveryInstruction.{all_append}
use Rattle.image_runs.proofs.Lemmas.{all_at}
use Rattle.seh_ir.proofs.EveryFunclet.{HoldsOfFunclets, funclets_known}

-- ---- the function and the locals of a funclet

record IsOf (k n : ℕ) (f : LinearFunclet) : Type 0 where
  function : f.function ≡ k
  locals : f.body.locals ≡ n

record Owns (k n : ℕ) (owner : Owner) : Type 0 where
  function : owner.function ≡ k
  locals : owner.locals ≡ n

module _ (number count : ℕ) where
  owned_by : HoldsOfFunclets (IsOf number count) (Owns number count) (λ k. Unit {0})
      (λ names m. Unit {0}) (λ e. Unit {0}) (λ e. Unit {0}) (λ x. Unit {0})
  owned_by = record {
    in_except = λ names m k le n. tt;
    in_finally = λ names m k le n. tt;
    in_block = λ owner k o t. record { function = o.function; locals = o.locals };
    of_filter = λ owner names m e o n h. record { function = o.function; locals = o.locals };
    of_block = λ owner names m last o le n h. record { function = o.function; locals = o.locals };
  }

-- ---- without a region there is no funclet

mutual
  none_in : (s : Statement) (owner : Owner) (names : Names) (at : ℕ)
      → length (statement_regions s at) ≡ 0 → length (statement_funclets owner names s) ≡ 0
  none_in (Declare d) owner names at e = refl
  none_in (Block ss) owner names at e = none_of ss owner names at e
  none_in (Evaluate x) owner names at e = refl
  none_in (If c s) owner names at e = none_in s owner names (at + expression_size c + 1) e
  none_in (IfElse c s t) owner names at e =
      let begin = at + expression_size c + 1 in
      let otherwise = at + expression_size c + 1 + statement_size s + 1 in
      let l = length-append (statement_regions s begin) (statement_regions t otherwise) in
      let x = none_in s owner names begin (omega arith) in
      let y = none_in t owner names otherwise (omega arith) in
      omega (
        arith,
        length-append (statement_funclets owner names s)
            (statement_funclets owner names t),
      )
  none_in (For ds first c next s) owner names at e = none_in s owner names
      (at + all_declared_size ds + discarded_size first + condition_size c) e
  none_in (DoWhile s c) owner names at e = none_in s owner names at e
  none_in (Return x) owner names at e = refl
  none_in Break owner names at e = refl
  none_in Continue owner names at e = refl
  none_in Leave owner names at e = refl
  none_in (TryExcept body filter block) owner names at e =
      let target = at + statements_size body + 1 in
      let l = length-append (statements_regions body at)
      (region at target (except_kind filter target) ∷ statements_regions block (target + 2)) in
      absurd (omega arith)
  none_in (TryFinally body k last) owner names at e =
      let l = length-append (statements_regions body at)
      (region at (at + statements_size body + 1) (kinds.Finally (k - 1)) ∷ []) in
      absurd (omega arith)

  none_of : (ss : Statements) (owner : Owner) (names : Names) (at : ℕ)
      → length (statements_regions ss at) ≡ 0 → length (statements_funclets owner names ss) ≡ 0
  none_of Empty owner names at e = refl
  none_of (Then s ss) owner names at e =
      let l = length-append (statement_regions s at)
      (statements_regions ss (at + statement_size s)) in
      let x = none_in s owner names at (omega arith) in
      let y = none_of ss owner names (at + statement_size s) (omega arith) in
      omega (
        arith,
        length-append (statement_funclets owner names s)
            (statements_funclets owner names ss),
      )

-- ---- programs

-- a funclet's function is among these, and has a region
pub record IsOwned (functions : List LinearFunction) (f : LinearFunclet) : Type 0 where
  pub function : LinearFunction
  pub there : slice_get functions f.function ≡ Some function
  pub locals : f.body.locals ≡ function.body.locals
  pub some : 0 < length function.body.regions

module _ (all : List LinearFunction) where
  each_owned : (number : ℕ) (function : LinearFunction) → slice_get all number ≡ Some function
      → 0 < length function.body.regions
      → (xs : List LinearFunclet) → AllByRecursion (IsOf number function.body.locals) xs
      → AllByRecursion (IsOwned all) xs
  each_owned number function there some [] h = tt
  each_owned number function there some (x ∷ xs) h = (
    record {
      function = function;
      there = ap (λ k. slice_get all k) h.0.function ∙ there;
      locals = h.0.locals;
      some = some;
    },
    each_owned number function there some xs h.1,
  )

  nothing_owned : (xs : List LinearFunclet) → length xs ≡ 0 → AllByRecursion (IsOwned all) xs
  nothing_owned [] e = tt
  nothing_owned (x ∷ xs) e = absurd (omega arith)

  own : (fn : Function) (number : ℕ) → slice_get all number ≡ Some (lowered_function fn)
      → AllByRecursion (IsOwned all) (lowered_funclets number fn)
  own fn number there = by (length (statements_regions fn.body (body_start fn))) refl
    where
      by : (n : ℕ) → length (statements_regions fn.body (body_start fn)) ≡ n
          → AllByRecursion (IsOwned all) (lowered_funclets number fn)
      by zero e = nothing_owned (lowered_funclets number fn)
          (none_of fn.body (record { function = number; locals = all_locals fn; parent = None })
          (scope_of fn).names (body_start fn) e)
      by (suc n) e =
          each_owned number (lowered_function fn) there (omega arith) (lowered_funclets number fn)
          (funclets_known (IsOf number (all_locals fn)) (Owns number (all_locals fn))
          (λ names m. Unit {0}) (owned_by number (all_locals fn)) fn.body
          (record { function = number; locals = all_locals fn; parent = None }) (scope_of fn).names
          (statements_notes fn.body) (omega arith) (record { function = refl; locals = refl }) tt)

  owned : (fs : List Function) (number : ℕ) → IsSegmentAt all number (map lowered_function fs)
      → AllByRecursion (IsOwned all) (all_funclets number fs)
  owned [] number h = tt
  owned (f ∷ fs) number h = all_append (IsOwned all) (lowered_funclets number f)
      (all_funclets (number + 1) fs) (own f number h.0) (owned fs (number + 1) h.1)

pub is_owned : (program : Program) (k : ℕ) (f : LinearFunclet)
    → slice_get (lowered program).funclets k ≡ Some f → IsOwned (lowered program).functions f
is_owned program k f e =
    all_at (IsOwned (lowered program).functions) (lowered program).funclets k f
    (owned (lowered program).functions program.functions 0
    (whole_is_at (lowered program).functions)) e
