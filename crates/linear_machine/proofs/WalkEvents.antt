-- A program that doesn't call `walk` shows no event of a printed walk.
use Rattle.std.proofs.Common.{ℕ, zero, suc, List, [], ◌∷◌, ◌++◌}
use Rattle.std.specs.Prelude.{slice_get, Option, Some, None}
use Rattle.std.specs.List.{AllByRecursion}
use Rattle.c_operations.specs.declared.built_in.BuiltIn.TheVariants.{Walk}
use Rattle.linear_machine.specs.Words.{Event, LinearProgram, LinearFunction, Configuration, with_some, start, exec, CallsBuiltIn, IsNotAt, WalksAreCalled}
use Rattle.linear_machine.proofs.RunEvents.{SeenRelation, turn_keeps}
use Rattle.linear_machine.proofs.RunLengths.{events_of}

all_then : (es : List Event) (e : Event) → AllByRecursion IsNotAt es → IsNotAt e
    → AllByRecursion IsNotAt (es ++ e ∷ [])
all_then [] e h other = (other, tt)
all_then (x ∷ es) e h other = (h.0, all_then es e h.1 other)

module _ (program : LinearProgram) (not_called : CallsBuiltIn program Walk → ⊥) where
  abbrev without : SeenRelation program
  without = record {
    keeps = λ es a b. AllByRecursion IsNotAt es → AllByRecursion IsNotAt (events_of a);
    event = λ es e a b other keeps h. keeps (all_then es e h other);
    walk = λ called es functions a b keeps h. absurd (not_called called);
    finished = λ es e h. h;
    stuck = λ es h. h;
  }

  pub none_shown : (n : ℕ) (c : Configuration) → AllByRecursion IsNotAt c.events
      → AllByRecursion IsNotAt (events_of (exec program n c))
  unfolding exec
  none_shown zero c h = h
  none_shown (suc n) c h = turn_keeps program without n n (none_shown n) c h

pub walks_are_called : WalksAreCalled
unfolding with_some
walks_are_called program arg n not_called = by (slice_get program.functions program.main)
  where
    by : (o : Option LinearFunction) → AllByRecursion IsNotAt
        (events_of (with_some [] o (λ main. exec program n (start program arg main))))
    by None = tt
    by (Some main) = none_shown program not_called n (start program arg main) tt
