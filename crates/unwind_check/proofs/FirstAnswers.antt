-- What the first fault of an entry says, or that there is none.
use Rattle.std.proofs.Common.{◌≡◌, ℕ, ◌<◌, false, List, [], ◌∷◌, Option, Some, None, sym, ◌∙◌}
use Rattle.std.proofs.lemmas.Bool.{false≢true}
use Rattle.flat_memory.specs.Memory.{Memory}
use Rattle.virtual_unwind.specs.Tail.{FetchedInstr}
use Rattle.frame_rules.specs.States.{HasItems}
use Rattle.frame_rules.proofs.Tails.{items_rise}
use Rattle.unwind_check.specs.declared.rule.Rule.{Rule}
use Rattle.unwind_check.specs.declared.rule.Fault.{Fault}
use Rattle.unwind_check.specs.Boundaries.{IsBoundary, fault}
use Rattle.unwind_tails.specs.Instructions.{is_some}
use Rattle.unwind_check.specs.FailingRules.{CodeEntry, Fails, place_of}
use Rattle.unwind_check.proofs.BodyPlaces.{IsBefore, is_first, fault_fails}

-- what an answer says of an entry
pub record IsAnswer (e : CodeEntry) (o : Option Fault) : Type 0 where
  pub fails : (f : Fault) → o ≡ Some f → Fails e f.at f.rule
  pub first : (b : ℕ) (r : Rule) → IsBoundary e.memory e.begin e.to b → Fails e b r → IsBefore o b r

pub at_begin : (e : CodeEntry) (rule : Rule) → Fails e e.begin rule
    → ((r : Rule) → place_of r < place_of rule → Fails e e.begin r → ⊥)
    → IsAnswer e (fault e.begin rule)
at_begin e rule fails none = record {
  fails = λ f is. fault_fails e e.begin rule f is fails;
  first = λ b r at h. is_first e e.begin rule b r
      (items_rise e.memory e.begin at.done b at.reached) none h;
}

pub none_fault : (o : Option Fault) (at : ℕ) (rule : Rule) → o ≡ None → o ≡ fault at rule → ⊥
none_fault o at rule a b = absurd cc

pub some_fault : (o : Option Fault) (f : Fault) (at : ℕ) (rule : Rule) → o ≡ Some f
    → o ≡ fault at rule → f ≡ record { at = at; rule = rule }
some_fault o f at rule a b = go f (record { at = at; rule = rule }) (sym a ∙ b)
  where
    go : (x y : Fault) → Some x ≡ Some y → x ≡ y
    go x y e = cc

pub no_first : (m : Memory) (at : ℕ) (xs : List FetchedInstr) (stop : ℕ) → HasItems m at xs stop
    → is_some xs ≡ false → at ≡ stop
no_first m at [] stop h n = h
no_first m at (x ∷ xs) stop h n = absurd (false≢true (sym n))
