-- Knowledge at each boundary of a function, and when it goes on from boundary to boundary.
use Rattle.std.specs.Prelude.{◌≡◌, ◌⊎◌, ℕ, zero, suc, ◌+◌, ◌-◌, ◌%◌, ◌^◌, Bool, true, false, List, [], ◌∷◌, Option, Some, Ok}
use Rattle.x64_instr.specs.declared.instruction.Instr.TheVariants as instrs
use Rattle.x64_machine.specs.Effect.{State, with_rip, effect}
use Rattle.flat_memory.specs.Memory.{Memory}
use Rattle.eh_tables.specs.Tables.{Entry}
use Rattle.virtual_unwind.specs.CallerOf.{Functions, distance, entry_of}
use Rattle.frame_rules.specs.Laws.{ReturnedToCaller}
use Rattle.frame_rules.specs.States.{registers}
use Rattle.abi_unwind.specs.Caller.{tail_of, abi_caller}
use Rattle.frame_known.specs.Knowledge.{Reach, Knowledge, HasRegisters, IsEntered, Fits, SaysLess, at_entry}
use Rattle.frame_known.specs.Known.{abi_known, IsRight, EndsRight}
use Rattle.frame_known.specs.After.{store_of, SparesAll, Spares}
use Rattle.frame_known.specs.Measured.{Step, Machine, Other, after_step, is_call, step_ways, step_leaves, Obeys}
use Rattle.frame_known.specs.Laws.{HasReturned, seen, IsCaller}

-- at each address what may be known there
abbrev pub Assigned : Type 0
Assigned = ℕ → List Knowledge

abbrev pub AnyOf : (Knowledge → Type 0) → List Knowledge → Type 0
AnyOf P [] = ⊥
AnyOf P (k ∷ ks) = P k ⊎ AnyOf P ks

-- a state fits one of them
abbrev pub Stands : Assigned → State → State → Type 0
Stands at e s = AnyOf (Fits e s) (at s.cpu.rip)

abbrev pub AllWays : (ℕ → Type 0) → List ℕ → Type 0
AllWays P [] = Unit {0}
AllWays P (b ∷ bs) = P b × AllWays P bs

-- what is known after an instruction says no less than something that is known where it goes on
abbrev pub GoesOn : Assigned → Step → ℕ → Knowledge → Type 0
GoesOn at x next known =
    AllWays (λ a. AnyOf (SaysLess (after_step x known)) (at a)) (step_ways x next)

abbrev pub AllGoOn : Assigned → Step → ℕ → List Knowledge → Type 0
AllGoOn at x next [] = Unit {0}
AllGoOn at x next (k ∷ ks) = GoesOn at x next k × AllGoOn at x next ks

-- ---- a step

-- an instruction of the machine is run, or one that a processor runs by the table; what its store
-- spares
abbrev pub Runs : State → State → Step → ℕ → State → Knowledge → Type 0
Runs e s (Machine x) next t known =
    (effect (with_rip s next) x ≡ Ok t)
    × SparesAll e s.memory t.memory known (store_of x known.registers)
Runs e s (Other x) next t known = Obeys x s t next × Spares e s.memory t.memory known

-- or a call is taken whole
abbrev pub StepsTo : Bool → State → State → Step → ℕ → State → Knowledge → Type 0
StepsTo true e s x next t known =
    HasReturned false s t × Spares e s.memory t.memory known × (t.cpu.rip ≡ next)
StepsTo false e s x next t known = Runs e s x next t known

-- standing goes on: from a boundary whose knowledge goes on, by an instruction that stays in the
-- function
abbrev pub StandingGoesOn : Type 0
StandingGoesOn =
    (at : Assigned) (e s t : State) (x : Step) (next : ℕ)
    → HasRegisters e → step_leaves x ≡ false → AllGoOn at x next (at s.cpu.rip) → Stands at e s
    → ((known : Knowledge) → Fits e s known → StepsTo (is_call x) e s x next t known)
    → Stands at e t

-- ---- what it gives

abbrev pub AllOf : (Knowledge → Type 0) → List Knowledge → Type 0
AllOf P [] = Unit {0}
AllOf P (k ∷ ks) = P k × AllOf P ks

-- the unwinder is right by each knowledge at an address of an entry
abbrev pub IsRightAt : Functions → Reach → Entry → Memory → Assigned → ℕ → Type 0
IsRightAt t reach entry m at rip =
    AllOf (λ known. EndsRight (abi_known reach known (distance t.base rip) entry
    (tail_of t m entry rip))) (at rip)

-- a state that stands where the unwinder is right: its caller is found, as it was at the entry
abbrev pub StandingIsFound : Type 0
StandingIsFound =
    (t : Functions) (reach : Reach) (entry : Entry) (at : Assigned) (e s : State)
    (vectors : List ℕ)
    → IsEntered reach e → entry_of t s.cpu.rip ≡ Some entry
    → IsRightAt t reach entry s.memory at s.cpu.rip → Stands at e s
    → IsCaller e (abi_caller t s.memory (seen s vectors))

-- the machine's own return, where all is as at the entry, leads to the caller with the nonvolatile
-- registers that it had
abbrev pub ReturnsRight : Type 0
ReturnsRight =
    (reach : Reach) (e s t : State) (known : Knowledge) (a : ℕ)
    → IsEntered reach e → Fits e s known → IsRight known.registers
    → effect (with_rip s a) instrs.Return ≡ Ok t → ReturnedToCaller e s t

-- ---- whole walks

-- the instruction at an address, and the address after it
abbrev pub Code : Type 0
Code = ℕ → Option (Step × ℕ)

-- what is known goes on from each instruction
abbrev pub GoesOnThrough : Code → Assigned → Type 0
GoesOnThrough code at =
    (a next : ℕ) (x : Step) → code a ≡ Some (x, next) → AllGoOn at x next (at a)

-- n instructions run in the function, calls taken whole
abbrev pub Walks : Code → State → ℕ → State → State → Type 0
Walks code e zero s t = s ≡ t
Walks code e (suc n) s t =
    (x : Step) × (next : ℕ) × (u : State) × (code s.cpu.rip ≡ Some (x, next))
    × (step_leaves x ≡ false)
    × ((known : Knowledge) → Fits e s known → StepsTo (is_call x) e s x next u known)
    × Walks code e n u t

-- the entry's state stands where something is assigned there that says no more than at_entry
abbrev pub EntryStands : Type 0
EntryStands =
    (at : Assigned) (e : State)
    → HasRegisters e → AnyOf (SaysLess at_entry) (at e.cpu.rip) → Stands at e e

-- with an assignment that goes on: wherever a walk leads from a state that stands, as the entry's
-- does or one at the begin of a fragment, and the unwinder is right by what is known, the caller
-- that is found is the one that entered the function
abbrev pub WalksAreFound : Type 0
WalksAreFound =
    (t : Functions) (reach : Reach) (entry : Entry) (code : Code) (at : Assigned) (e b s : State)
    (n : ℕ) (vectors : List ℕ)
    → IsEntered reach e → GoesOnThrough code at → Stands at e b → Walks code e n b s
    → entry_of t s.cpu.rip ≡ Some entry → IsRightAt t reach entry s.memory at s.cpu.rip
    → IsCaller e (abi_caller t s.memory (seen s vectors))
