-- What holds of every body of a lowered program.
use Rattle.std.proofs.Common.{◌≡◌, ℕ, List, [], ◌∷◌, map, refl, subst}
use Rattle.std.specs.List.{AllByRecursion}
use Rattle.std.specs.Prelude.{slice_get, Option, Some, None}
use Rattle.lowering_invariants.specs.Words.{Expression, Program, Function, Statements, LinearBody, LinearFunction, LinearFunclet, BodyName, FunctionBody, FuncletBody, function_body, funclet_body, body_of, Owner, Names, finally_funclet, lowered_function, all_funclets, lowered, filter_funclet}
use Rattle.lowering_invariants.proofs.Stacks.StackTargets.{same_it, all_at}
use Rattle.lowering_invariants.proofs.Lemmas.{funclets_any}

module _ (P : LinearBody → Type 0)
    (of_function : (f : Function) → P (lowered_function f).body) where
  functions : (fs : List Function) → AllByRecursion (λ (f : LinearFunction). P f.body)
      (map lowered_function fs)
  functions [] = tt
  functions (f ∷ fs) = (of_function f, functions fs)

  at_function : (fs : List LinearFunction) → AllByRecursion (λ f. P f.body) fs
      → (k : ℕ) (o : Option LinearFunction) (b : LinearBody) → slice_get fs k ≡ o
      → function_body o ≡ Some b → P b
  at_function fs h k None b e g = absurd (cc)
  at_function fs h k (Some f) b e g = subst P (same_it f.body b g)
      (all_at (λ f. P f.body) fs k f h e)

  -- it holds of the body of every function
  pub every_function : (program : Program) (k : ℕ) (b : LinearBody)
      → body_of (lowered program) (FunctionBody k) ≡ Some b → P b
  every_function program k b e = at_function (lowered program).functions
      (functions program.functions) k (slice_get (lowered program).functions k) b refl e

module _ (P : LinearBody → Type 0) (of_filter : (owner : Owner) (names : Names) (e : Expression)
    → P (filter_funclet owner names e).body)
    (of_block : (owner : Owner) (names : Names) (last : Statements)
    → P (finally_funclet owner names last).body)
    (of_function : (f : Function) → P (lowered_function f).body) where
  funclets : (number : ℕ) (fs : List Function) → AllByRecursion (λ (g : LinearFunclet). P g.body)
      (all_funclets number fs)
  funclets = funclets_any (λ g. P g.body) of_filter of_block

  at_funclet : (fs : List LinearFunclet) → AllByRecursion (λ f. P f.body) fs
      → (k : ℕ) (o : Option LinearFunclet) (b : LinearBody) → slice_get fs k ≡ o
      → funclet_body o ≡ Some b → P b
  at_funclet fs h k None b e g = absurd (cc)
  at_funclet fs h k (Some f) b e g = subst P (same_it f.body b g)
      (all_at (λ f. P f.body) fs k f h e)

  pub every_body : (program : Program) (name : BodyName) (b : LinearBody)
      → body_of (lowered program) name ≡ Some b → P b
  every_body program (FunctionBody k) b e = every_function P of_function program k b e
  every_body program (FuncletBody k) b e = at_funclet (lowered program).funclets
      (funclets 0 program.functions) k (slice_get (lowered program).funclets k) b refl e
