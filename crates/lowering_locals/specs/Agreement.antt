-- The configuration that linear code is in, and the one that a machine shows that doesn't zero the
-- locals of a function that begins.
--
-- The main definitions: `marks`, `AgreeOnSet`.
use Rattle.std.specs.Prelude.{◌≡◌, ℕ, ◌+◌, ◌-◌, nat_lt, false, List, length, slice_get, ℤ, Some}
use Rattle.seh_num.specs.declared.event.Event.{Event}
use Rattle.std.specs.List.{AllByRecursion}
use Rattle.source_meaning.specs.declared.depth.TheConstants.{DEEPEST}
use Rattle.linear_code.specs.declared.instruction.Instruction.{Instruction}
use Rattle.linear_code.specs.declared.instruction.Instruction.TheVariants as instructions
use Rattle.linear_code.specs.Program.{LinearProgram, LinearFunction, depth_weight}
use Rattle.linear_machine.specs.Frames.{Item, Store, Configuration, Seen, Next, last_temporaries}
use Rattle.linear_machine.specs.Instructions.{act, begin_function}
use Rattle.linear_machine.specs.Run.{instruction_at, exec, start}
use Rattle.lowering_invariants.specs.Bodies.{IsWhole}
use Rattle.lowering_invariants.specs.SmallNumbers.{AreSmall, HasSmallNumbers}
use Rattle.lowering_locals.specs.Marks.{Marks, activations_left, arguments_passed}
use Rattle.lowering_locals.specs.Alike.{AreAlike, freshly}
use Rattle.lowering_locals.specs.Reads.{IsMarked, ReadsNoUnset}
use Rattle.lowering_locals.specs.UnsetLaws.{called_with, started_with}

module _ (program : LinearProgram) where
  -- linear code comes to the one, and the other is alike; its locals are numbers of 64 bits
  pub record AgreeOnSet (c d : Configuration) : Type 0 where
    -- which locals of each activation have been set: arguments of a function that begins, by a call
    -- or as a vectored handler, what an instruction writes, the flag of a `__finally` block that
    -- begins
    pub marks : Marks
    pub marked : IsMarked program c marks
    pub alike : AreAlike marks c d
    pub small : AllByRecursion AreSmall d.store.activations

  -- where the one goes that linear code is in
  pub record GoesToAgreeing (i : Instruction) (c d' : Configuration) : Type 0 where
    pub on : Configuration
    pub goes : (next : Next) → act program i next c ≡ next on
    pub agreement : AgreeOnSet on d'

  -- what the other does, linear code does
  pub record StepsAgree (i : Instruction) (c d : Configuration) : Type 0 where
    pub at : instruction_at program c ≡ Some i
    pub back : (d' : Configuration) → ((next : Next) → act program i next d ≡ next d')
        → GoesToAgreeing i c d'
    pub end : (seen : Seen) → ((next : Next) → act program i next d ≡ seen) → (next : Next)
        → act program i next c ≡ seen
    pub seen : act program i (exec program 0) d ≡ act program i (exec program 0) c

abbrev pub AgreementContinues : Type 0
AgreementContinues =
    (program : LinearProgram) → ReadsNoUnset program → (c d : Configuration) → AgreeOnSet program c
    d
    → (i : Instruction) → instruction_at program d ≡ Some i → StepsAgree program i c d

-- a call that isn't too deep, and any numbers in the locals after its arguments
abbrev pub AgreementAtCall : Type 0
AgreementAtCall =
    (program : LinearProgram) (c d : Configuration) (f first count : ℕ) (function : LinearFunction)
    (arguments values : List ℕ) → AgreeOnSet program c d
    → instruction_at program d ≡ Some (instructions.Call f first count)
    → last_temporaries d.frame.temporaries first count ≡ Some arguments
    → slice_get program.functions f ≡ Some function
    → nat_lt DEEPEST (length d.store.activations + d.frame.held + depth_weight function) ≡ false
    → length values ≡ function.body.locals - function.parameters → AreSmall values
    → GoesToAgreeing program (instructions.Call f first count) c
    (called_with c d f first function arguments values)

-- a function that begins in any turn, also one that is asked as a vectored handler, and any numbers
-- in the locals after its arguments
abbrev pub AgreementAtBeginning : Type 0
AgreementAtBeginning =
    (program : LinearProgram) → IsWhole program → ReadsNoUnset program → (c d : Configuration)
    → AgreeOnSet program c d → (i : Instruction) (f held : ℕ) (function : LinearFunction)
    (arguments values : List ℕ) (below : List Item) (store : Store) (es : List Event)
    → instruction_at program d ≡ Some i → slice_get program.functions f ≡ Some function
    → ((next : Next) → act program i next d
    ≡ next (begin_function f function arguments held below store es))
    → length store.activations ≡ activations_left i d → length arguments ≡ arguments_passed i
    → length values ≡ function.body.locals - function.parameters → AreSmall values
    → GoesToAgreeing program i c (freshly f function arguments values held below store es)

abbrev pub AgreementAtStart : Type 0
AgreementAtStart =
    (program : LinearProgram) (arg : ℤ) (main : LinearFunction) (values : List ℕ)
    → slice_get program.functions program.main ≡ Some main
    → length values ≡ main.body.locals - main.parameters → AreSmall values
    → AgreeOnSet program (start program arg main) (started_with program arg main values)

abbrev pub AgreeingAreSmall : Type 0
AgreeingAreSmall =
    (program : LinearProgram) (c d : Configuration) → AgreeOnSet program c d → HasSmallNumbers d
