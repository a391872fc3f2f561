-- Which programs are accepted, and which fault is reported for one that isn't: the least by place,
-- and at one place the earliest rule.
--
-- `CheckFaults`, `Accepted`: the faults of a program, and that there are none.
--
-- `least`, `reported`: the fault that is reported, the least by place, and at one place the
-- earliest rule. `IsRefusal` (crate `c_check`) says that a refusal of the checker is that fault, or
-- that memory ran out.
use Rattle.std.specs.Prelude.{◌≡◌, ℕ, Bool, ◌&&◌, ◌||◌, nat_eq, nat_lt, if◌then◌else◌, List, [], ◌∷◌, Option, Some, None}
use Rattle.c_syntax.specs.Program.{ExternalDeclaration}
use Rattle.c_resolved.specs.declared.fault.Fault.{Fault}
use Rattle.c_resolved.specs.declared.fault.Fault.TheVariants.{NoMain, UnknownName, Duplicate, NotLvalue, TypeClash, ArgCount, LeaveOutsideTry, JumpOutOfFinally, JumpOutsideLoop, CodeOutsideFilter, InfoOutsideFilter, AbnormalOutsideFinally, BadInitialiser}
use Rattle.c_resolved.specs.Expressions.{FaultAt}
use Rattle.c_resolved.specs.Program.{resolve}

-- all rules that a program breaks
abbrev pub CheckFaults : List ℕ → List ExternalDeclaration → List FaultAt
CheckFaults text program = (resolve text program).faults

abbrev pub Accepted : List ℕ → List ExternalDeclaration → Type 0
Accepted text program = CheckFaults text program ≡ []

abbrev pub rank : Fault → ℕ
rank NoMain = 0
rank UnknownName = 1
rank Duplicate = 2
rank NotLvalue = 3
rank TypeClash = 4
rank ArgCount = 5
rank LeaveOutsideTry = 6
rank JumpOutOfFinally = 7
rank JumpOutsideLoop = 8
rank CodeOutsideFilter = 9
rank InfoOutsideFilter = 10
rank AbnormalOutsideFinally = 11
rank BadInitialiser = 12

abbrev pub is_earlier : FaultAt → FaultAt → Bool
is_earlier a b = nat_lt a.at b.at || (nat_eq a.at b.at && nat_lt (rank a.fault) (rank b.fault))

abbrev pub earlier : FaultAt → Option FaultAt → FaultAt
earlier a None = a
earlier a (Some b) = if is_earlier b a then b else a

abbrev pub least : List FaultAt → Option FaultAt
least [] = None
least (f ∷ fs) = Some (earlier f (least fs))

-- the fault that is reported for a program that isn't accepted
abbrev pub reported : List ℕ → List ExternalDeclaration → Option FaultAt
reported text program = least (CheckFaults text program)
