-- Sums over the regions of a program are sums over its `__try` statements.
use Rattle.std.proofs.Common.{◌≡◌, ℕ, ◌+◌, ◌-◌, List, [], ◌∷◌, ◌++◌, map, None, refl, arith}
use Rattle.image_tables.specs.Words.{Filter, Always, Funclet, Statement, Declare, Block, Evaluate, If, IfElse, For, DoWhile, Return, Break, Continue, Leave, TryExcept, TryFinally, Statements, Empty, Then, Function, Program, Region, RegionKind, LinearFunclet, Names, Owner, statements_regions, finally_funclet, scope_of, lowered_function, all_funclets, lowered, function_bodies, funclet_bodies, regions_in, regions, Try, Accepts, Asks, Finishes, with_filter, tries_in, tries, tries_of, all_tries, expression_size, discarded_size, condition_size, all_declared_size, statement_size, statements_size, except_names, filter_names, finally_names, except_kind, region, statement_regions, filter_funclets, in_funclet, statement_funclets, statements_funclets, all_locals, body_start}
use Rattle.linear_code.specs.declared.program.RegionKind.TheVariants as kinds

-- what a `__finally` block, a filter and one that always accepts count for; funclets are numbered
-- from 0 on, their statements from 1 on
module _ (finally filter : ℕ → ℕ) (always : ℕ) where
  abbrev pub weight : RegionKind → ℕ
  weight (kinds.Finally k) = finally k
  weight (kinds.Filter k target) = filter k
  weight (kinds.Always target) = always

  abbrev pub total : List Region → ℕ
  total [] = 0
  total (r ∷ rs) = weight r.kind + total rs

  abbrev pub try_weight : Try → ℕ
  try_weight Accepts = always
  try_weight (Asks k) = filter (k - 1)
  try_weight (Finishes k) = finally (k - 1)

  abbrev pub try_total : List Try → ℕ
  try_total [] = 0
  try_total (t ∷ ts) = try_weight t + try_total ts

  abbrev funclets_total : List LinearFunclet → ℕ
  funclets_total [] = 0
  funclets_total (f ∷ fs) = total f.body.regions + funclets_total fs

  total_both : (a b : List Region) → total (a ++ b) ≡ total a + total b
  total_both [] b = omega arith
  total_both (r ∷ a) b = let e = total_both a b in omega arith

  tries_both : (a b : List Try) → try_total (a ++ b) ≡ try_total a + try_total b
  tries_both [] b = omega arith
  tries_both (r ∷ a) b = let e = tries_both a b in omega arith

  funclets_both : (a b : List LinearFunclet) → funclets_total (a ++ b)
      ≡ funclets_total a + funclets_total b
  funclets_both [] b = omega arith
  funclets_both (f ∷ a) b = let e = funclets_both a b in omega arith

  kind_is : (f : Filter) (target : ℕ) → weight (except_kind f target) ≡ try_weight (with_filter f)
  kind_is Always target = refl
  kind_is (Funclet k e) target = refl

  filter_is : (owner : Owner) (names : Names) (f : Filter)
      → funclets_total (filter_funclets owner names f) ≡ 0
  filter_is owner names Always = refl
  filter_is owner names (Funclet k e) = refl

  mutual
    statement_total : (owner : Owner) (names : Names) (s : Statement) (at : ℕ)
        → total (statement_regions s at) + funclets_total (statement_funclets owner names s)
        ≡ try_total (tries_in s)
    statement_total owner names (Declare d) at = refl
    statement_total owner names (Block ss) at = statements_total owner names ss at
    statement_total owner names (Evaluate e) at = refl
    statement_total owner names (If c s) at = statement_total owner names s
        (at + expression_size c + 1)
    statement_total owner names (IfElse c s t) at =
        let begin = at + expression_size c + 1 in
        let otherwise = at + expression_size c + 1 + statement_size s + 1 in
        let x = statement_total owner names s begin in
        let y = statement_total owner names t otherwise in
        omega (
          arith,
          total_both (statement_regions s begin) (statement_regions t otherwise),
          funclets_both (statement_funclets owner names s) (statement_funclets owner names t),
          tries_both (tries_in s) (tries_in t),
        )
    statement_total owner names (For ds first c next s) at = statement_total owner names s
        (at + all_declared_size ds + discarded_size first + condition_size c)
    statement_total owner names (DoWhile s c) at = statement_total owner names s at
    statement_total owner names (Return e) at = refl
    statement_total owner names Break at = refl
    statement_total owner names Continue at = refl
    statement_total owner names Leave at = refl
    statement_total owner names (TryExcept body filter' block) at =
        let target = at + statements_size body + 1 in
        let x = statements_total owner names body at in
        let y = statements_total owner (except_names names) block (target + 2) in
        let k = kind_is filter' target in
        let none = filter_is owner (filter_names names) filter' in
        let more = filter_funclets owner (filter_names names) filter'
        ++ statements_funclets owner (except_names names) block in
        omega (
          arith,
          total_both (statements_regions body at)
              (region at target (except_kind filter' target) ∷ statements_regions block
              (target + 2)),
          funclets_both (statements_funclets owner names body) more,
          funclets_both (filter_funclets owner (filter_names names) filter')
              (statements_funclets owner (except_names names) block),
          tries_both (tries body) (with_filter filter' ∷ tries block),
        )
    statement_total owner names (TryFinally body k last) at =
        let x = statements_total owner names body at in
        let y = statements_total (in_funclet (k - 1) owner) (finally_names names) last 3 in
        let r = region at (at + statements_size body + 1) (kinds.Finally (k - 1)) in
        let more = finally_funclet owner names last
        ∷ statements_funclets (in_funclet (k - 1) owner) (finally_names names) last in
        omega (
          arith,
          total_both (statements_regions body at) (r ∷ []),
          funclets_both (statements_funclets owner names body) more,
          tries_both (tries body) (Finishes k ∷ tries last),
        )

    statements_total : (owner : Owner) (names : Names) (ss : Statements) (at : ℕ)
        → total (statements_regions ss at) + funclets_total (statements_funclets owner names ss)
        ≡ try_total (tries ss)
    statements_total owner names Empty at = refl
    statements_total owner names (Then s ss) at =
        let x = statement_total owner names s at in
        let y = statements_total owner names ss (at + statement_size s) in
        omega (
          arith,
          total_both (statement_regions s at)
              (statements_regions ss (at + statement_size s)),
          funclets_both (statement_funclets owner names s) (statements_funclets owner names ss),
          tries_both (tries_in s) (tries ss),
        )

  -- ---- programs

  funclet_regions : (fs : List LinearFunclet)
      → total (regions_in (funclet_bodies fs)) ≡ funclets_total fs
  funclet_regions [] = refl
  funclet_regions (f ∷ fs) = let e = funclet_regions fs in
      omega (arith, total_both f.body.regions (regions_in (funclet_bodies fs)))

  functions_total : (number : ℕ) (fs : List Function)
      → total (regions_in (function_bodies (map lowered_function fs)))
      + funclets_total (all_funclets number fs) ≡ try_total (tries_of fs)
  functions_total number [] = refl
  functions_total number (f ∷ fs) =
      let owner : Owner = record { function = number; locals = all_locals f; parent = None } in
      let x = statements_total owner (scope_of f).names f.body (body_start f) in
      let y = functions_total (number + 1) fs in
      omega (
        arith,
        total_both (statements_regions f.body (body_start f))
            (regions_in (function_bodies (map lowered_function fs))),
        funclets_both (statements_funclets owner (scope_of f).names f.body)
            (all_funclets (number + 1) fs),
        tries_both (tries f.body) (tries_of fs),
      )

  pub program_total : (p : Program) → total (regions (lowered p)) ≡ try_total (all_tries p)
  program_total p =
      let x = functions_total 0 p.functions in
      let y = funclet_regions (lowered p).funclets in
      omega (
        arith,
        total_both (regions_in (function_bodies (lowered p).functions))
            (regions_in (funclet_bodies (lowered p).funclets)),
      )
