-- What a text prints, by its tree.
use Rattle.std.specs.Prelude.{◌≡◌, ℕ, Bool, true, false, List, [], ◌∷◌, ℤ, Some}
use Rattle.seh_num.specs.declared.event.Event.{Event}
use Rattle.seh_num.specs.declared.event.Event.TheVariants as events
use Rattle.c_checked.specs.Sound.{is_sound}
use Rattle.source_meaning.specs.declared.ended.Ended.{Ended}
use Rattle.source_meaning.specs.Meaning.{meaning}
use Rattle.c_syntax.specs.declared.expression.Identifier.{Identifier}
use Rattle.c_syntax.specs.Program.{ExternalDeclaration}
use Rattle.c_resolved.specs.declared.fault.Fault.{Fault}
use Rattle.c_resolved.specs.Program.{resolve}

abbrev pub at : ℕ → ℕ → Identifier
at start end = record { start = start; end = end }

-- without a trace numbers and walks alone are shown
abbrev pub numbers : List Event → List Event
numbers [] = []
numbers (events.Put v ∷ es) = events.Put v ∷ numbers es
numbers (events.At k ∷ es) = events.At k ∷ numbers es
numbers (e ∷ es) = numbers es

abbrev pub visible : Bool → List Event → List Event
visible true es = es
visible false es = numbers es

-- no rule is broken; what the program is resolved to is sound; within n steps it shows these events
-- and ends so
pub record Prints (text : List ℕ) (program : List ExternalDeclaration) (trace : Bool) (arg : ℤ)
    (n : ℕ) (es : List Event) (end : Ended) : Type 0 where
  pub faults : (resolve text program).faults ≡ []
  pub sound : is_sound (resolve text program).program ≡ true
  pub prints : visible trace (meaning (resolve text program).program arg n).events ≡ es
  pub ends : (meaning (resolve text program).program arg n).end ≡ Some end

-- one rule is broken, at this place
abbrev pub IsRefused : List ℕ → List ExternalDeclaration → Fault → ℕ → Type 0
IsRefused text program fault at =
    (resolve text program).faults ≡ record { at = at; fault = fault } ∷ []
