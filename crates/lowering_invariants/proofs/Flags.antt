-- The flag of each `__finally` block is a local of its body.
use Rattle.std.proofs.Common.{◌≡◌, ℕ, refl, ◌+◌, ◌≤◌, List, [], ◌∷◌, subst, arith}
use Rattle.std.specs.List.{AllByRecursion}
use Rattle.std.specs.Prelude.{None}
use Rattle.lowering_invariants.specs.Words.{Function, LinearFunclet, statements_notes, Owner, all_locals, scope_of, lowered_funclets, all_funclets, lowered, HasFlag, LoweredHasFlags}
use Rattle.lowering_invariants.proofs.Lemmas.{all_append, HoldsOfFunclets, funclets_known}
use Rattle.lowering_invariants.proofs.Stacks.StackTargets.{all_at}

abbrev Flagged : LinearFunclet → Type 0
Flagged f = HasFlag f.body f.kind

-- the codes and flags of a part have their places among the locals of its owner
module _ (locals : ℕ) where
  flagged : HoldsOfFunclets Flagged (λ owner. owner.locals ≡ locals) (λ k. Unit {0})
      (λ names m. names.free + m ≤ locals) (λ e. Unit {0}) (λ e. Unit {0}) (λ x. Unit {0})
  flagged = record {
    in_except = λ names m k le n. omega arith;
    in_finally = λ names m k le n. omega arith;
    in_block = λ owner k o t. o;
    of_filter = λ owner names m e o n h. tt;
    of_block = λ owner names m last o le n h. omega arith;
  }

of_functions : (number : ℕ) (fs : List Function) → AllByRecursion Flagged (all_funclets number fs)
of_functions number [] = tt
of_functions number (f ∷ fs) =
    let owner : Owner = record { function = number; locals = all_locals f; parent = None } in
    all_append Flagged (lowered_funclets number f) (all_funclets (number + 1) fs)
    (funclets_known Flagged (λ owner. owner.locals ≡ all_locals f)
    (λ names m. names.free + m ≤ all_locals f) (flagged (all_locals f)) f.body owner
    (scope_of f).names (statements_notes f.body) (omega arith) refl (omega arith))
    (of_functions (number + 1) fs)

pub has_flags : LoweredHasFlags
has_flags program k flag f at e = subst (HasFlag f.body) e
    (all_at Flagged (lowered program).funclets k f (of_functions 0 program.functions) at)
