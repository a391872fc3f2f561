-- What holds of knowledge.
use Rattle.std.specs.Prelude.{◌≡◌, ℕ, Bool, true, false, List, [], ◌∷◌, Option, Some, None, Ok}
use Rattle.x64_machine.specs.Contexts.{context_of}
use Rattle.x64_instr.specs.declared.instruction.Instr.{Instr}
use Rattle.x64_machine.specs.Effect.{State, with_rip, effect}
use Rattle.eh_tables.specs.Tables.{Entry}
use Rattle.frame_rules.specs.Body.{is_a_call}
use Rattle.frame_rules.specs.Frame.{left_to}
use Rattle.frame_rules.specs.States.{registers, return_address}
use Rattle.virtual_unwind.specs.CallerOf.{Functions, distance, entry_of}
use Rattle.virtual_unwind.specs.Contexts.{is_nonvolatile}
use Rattle.virtual_unwind.specs.Undone.{Answer}
use Rattle.abi_unwind.specs.declared.context.AbiContext.{AbiContext}
use Rattle.abi_unwind.specs.declared.tail.Part.{Part}
use Rattle.abi_unwind.specs.Caller.{AbiFrame, abi_at, tail_of, abi_caller}
use Rattle.frame_known.specs.Knowledge.{Reach, Knowledge, HasRegisters, IsEntered, Fits, at_entry, SaysLess}
use Rattle.frame_known.specs.Known.{abi_known, IsRight, EndsRight}
use Rattle.x64_lengths.specs.declared.effects.Effects.{Effects}
use Rattle.frame_known.specs.Measured.{Obeys, after_other}
use Rattle.frame_known.specs.After.{store_of, after, SparesAll, Spares, after_call}

-- a state with its vector registers, as the unwinder sees it
abbrev pub seen : State → List ℕ → AbiContext
seen s vectors = record { general = context_of s.cpu; vectors = vectors }

-- a caller is found that has the entry's return address, its RSP above that, and its other
-- nonvolatile general registers
pub record IsCaller (e : State) (answer : Answer AbiFrame) : Type 0 where
  pub frame : AbiFrame
  pub is : answer ≡ Ok frame
  pub context : frame.context.general ≡ left_to (registers e) (return_address e)

-- what is right by what is known is right in each state that fits
abbrev pub KnownRight : Type 0
KnownRight =
    (reach : Reach) (e s : State) (vectors : List ℕ) (known : Knowledge) (rva : ℕ) (entry : Entry)
    (tail : Option (List Part))
    → IsEntered reach e → Fits e s known → EndsRight (abi_known reach known rva entry tail)
    → IsCaller e (abi_at s.memory (seen s vectors) rva entry tail)

-- the same by the function tables of an image: of an entry, and of a leaf
abbrev pub CallersFound : Type 0
CallersFound =
    (t : Functions) (reach : Reach) (e s : State) (vectors : List ℕ) (known : Knowledge)
    (entry : Entry)
    → IsEntered reach e → Fits e s known → entry_of t s.cpu.rip ≡ Some entry
    → EndsRight (abi_known reach known (distance t.base s.cpu.rip) entry
    (tail_of t s.memory entry s.cpu.rip))
    → IsCaller e (abi_caller t s.memory (seen s vectors))

abbrev pub LeavesFound : Type 0
LeavesFound =
    (t : Functions) (reach : Reach) (e s : State) (vectors : List ℕ) (known : Knowledge)
    → IsEntered reach e → Fits e s known → entry_of t s.cpu.rip ≡ None → IsRight known.registers
    → IsCaller e (abi_caller t s.memory (seen s vectors))

-- ---- what is known goes along

-- at the entry
abbrev pub EntryFits : Type 0
EntryFits = (e : State) → HasRegisters e → Fits e e at_entry

-- what says less fits too
abbrev pub LessFits : Type 0
LessFits =
    (e s : State) (known less : Knowledge) → Fits e s known → SaysLess known less → Fits e s less

-- an instruction other than a call leads from a state that fits to one that fits what is known
-- after it, where its store spares the return address and, at an unknown address, the named words
abbrev pub AfterFits : Type 0
AfterFits =
    (e s t : State) (known : Knowledge) (a : ℕ) (x : Instr)
    → HasRegisters e → is_a_call x ≡ false → Fits e s known → effect (with_rip s a) x ≡ Ok t
    → SparesAll e s.memory t.memory known (store_of x known.registers)
    → Fits e t (after x known)

-- an instruction that isn't the machine's leads to one that fits, where a processor does no more
-- than the table says, and the named words and the return address are left
abbrev pub OthersFit : Type 0
OthersFit =
    (e s t : State) (known : Knowledge) (next : ℕ) (x : Effects)
    → Fits e s known → Obeys x s t next → Spares e s.memory t.memory known
    → Fits e t (after_other x known)

-- a call that has returned, of a function that keeps the nonvolatile registers
pub record HasReturned (probe : Bool) (s u : State) : Type 0 where
  pub numbers : HasRegisters u
  pub kept : (r : ℕ) → is_nonvolatile r ≡ true → registers u r ≡ registers s r
  pub rax : probe ≡ true → registers u 0 ≡ registers s 0
  pub protection : u.memory.protection ≡ s.memory.protection

-- it leads from a state that fits to one that fits, where the named words and the return address
-- are left
abbrev pub CallsFit : Type 0
CallsFit =
    (e s u : State) (known : Knowledge) (probe : Bool)
    → Fits e s known → HasReturned probe s u → Spares e s.memory u.memory known
    → Fits e u (after_call probe known)

-- ---- one after another

-- one instruction, or one call taken whole, and what it leaves
abbrev pub StepsOnce : Bool → State → State → Knowledge → Instr → State → Type 0
StepsOnce true e s known x u = HasReturned false s u × Spares e s.memory u.memory known
StepsOnce false e s known x u =
    (a : ℕ) × (effect (with_rip s a) x ≡ Ok u)
    × SparesAll e s.memory u.memory known (store_of x known.registers)

abbrev pub stepped : Bool → Instr → Knowledge → Knowledge
stepped true x known = after_call false known
stepped false x known = after x known

abbrev pub Steps : State → State → Knowledge → List Instr → State → Type 0
Steps e s known [] t = s ≡ t
Steps e s known (x ∷ xs) t =
    (u : State) × StepsOnce (is_a_call x) e s known x u
    × Steps e u (stepped (is_a_call x) x known) xs t

abbrev pub known_after : List Instr → Knowledge → Knowledge
known_after [] known = known
known_after (x ∷ xs) known = known_after xs (stepped (is_a_call x) x known)

-- what is known after instructions fits the states after them
abbrev pub StepsFit : Type 0
StepsFit =
    (e s t : State) (known : Knowledge) (xs : List Instr)
    → HasRegisters e → Fits e s known → Steps e s known xs t → Fits e t (known_after xs known)
