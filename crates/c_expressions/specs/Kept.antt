-- The least of what a program breaks, as a walk keeps it.
use Rattle.std.specs.Prelude.{◌≡◌, if◌then◌else◌, List, [], ◌∷◌, Option, Some, None, option_map}
use Rattle.c_resolved.specs.Accepted.{is_earlier}
use Rattle.c_resolved.specs.Expressions.{FaultAt}
use Rattle.c_expressions.specs.declared.least.Broken.{Broken}
use Rattle.c_expressions.specs.declared.least.LeastFault.{LeastFault}

abbrev pub broken : Broken → FaultAt
broken b = record { at = b.at; fault = b.fault }

abbrev pub least_of : LeastFault → Option FaultAt
least_of l = option_map broken l.found

-- one more fault
abbrev pub kept_one : Option FaultAt → FaultAt → Option FaultAt
kept_one None f = Some f
kept_one (Some g) f = if is_earlier f g then Some f else Some g

-- more faults, one after another
abbrev pub kept : Option FaultAt → List FaultAt → Option FaultAt
kept so_far [] = so_far
kept so_far (f ∷ fs) = kept (kept_one so_far f) fs

-- the least of what was kept before and of these faults is kept after
abbrev pub AddsFaults : LeastFault → LeastFault → List FaultAt → Type 0
AddsFaults before after faults = least_of after ≡ kept (least_of before) faults
