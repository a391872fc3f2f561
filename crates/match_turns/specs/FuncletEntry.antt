-- From a funclet's first byte, where the dispatcher or a call has brought the machine, to its first
-- instruction of linear code.
--
-- The main definitions: `FiltersBegin`, `BlocksBegin`, `FlagsFit`.
use Rattle.std.specs.Prelude.{◌≡◌, ℕ, ◌+◌, ◌<◌, true, false, nat_lt, List, ◌∷◌, length, slice_get, Some}
use Rattle.x64_instr.specs.declared.register.Reg.TheVariants.{Rcx, Rsp}
use Rattle.x64_machine.specs.Effect.{State, register}
use Rattle.virtual_unwind.specs.CallerOf.{Functions}
use Rattle.host_model.specs.declared.funclet.Funclet.{Funclet}
use Rattle.source_meaning.specs.State.{Exception}
use Rattle.source_meaning.specs.declared.depth.TheConstants.{DEEPEST}
use Rattle.linear_code.specs.declared.program.Region.{Region}
use Rattle.linear_code.specs.declared.instruction.Instruction.TheVariants as instructions
use Rattle.linear_code.specs.Program.{LinearProgram, LinearBody, LinearFunclet}
use Rattle.linear_machine.specs.Frames.{BodyName, body_of, Handler, FilterOf, Target, Resumption, Waits, Searches, Unwinds, Configuration}
use Rattle.linear_machine.specs.Searching.{begin_filter}
use Rattle.linear_machine.specs.Unwinding.{flag_of, begin_finally}
use Rattle.match_stack.specs.ImagePlan.{ImagePlan}
use Rattle.match_stack.specs.ItemMatches.{Activation, locals_of}
use Rattle.match_stack.specs.DispatchStates.{Arrives, host_list}
use Rattle.match_runs.specs.Comes.{LeadsTo}
use Rattle.match_bodies.specs.CodeSites.{Sites}
use Rattle.match_bodies.specs.ProgramImages.{IsMachineMemory}
use Rattle.match_bodies.specs.Bodies.{RepresentsAt}
use Rattle.match_bodies.specs.ConfigurationFacts.{IsKnown}

-- the most turns from a funclet's first byte to its first instruction of linear code
abbrev pub entry_turns : ℕ
entry_turns = 6

-- the flag of a `__finally` block is one of its locals
abbrev pub FlagsFit : LinearProgram → Type 0
FlagsFit program =
    (k flag : ℕ) (f : LinearFunclet) → slice_get program.funclets k ≡ Some f
    → flag_of (slice_get program.funclets k) ≡ Some flag → flag < f.body.locals

-- after the call of a `__finally` block comes a separator
abbrev pub SeparatorsFollow : LinearProgram → Type 0
SeparatorsFollow program =
    (name : BodyName) (b : LinearBody) (label k : ℕ) → body_of program name ≡ Some b
    → slice_get b.code label ≡ Some (instructions.CallFinally k)
    → slice_get b.code (label + 1) ≡ Some instructions.Separator

module _ (t : Functions) (fs : List Funclet) (program : LinearProgram) (p : ImagePlan)
    (q : Sites) where
  -- a filter begins, on what waits where its exception was raised
  abbrev pub FiltersBegin : Type 0
  FiltersBegin =
      (s : State) (k argument : ℕ) (handler : Handler) (rest : List Handler) (exception : Exception)
      (resumption : Resumption) (c : Configuration) (acts : List Activation)
      → Arrives t fs program p s k handler.activation argument
      (Searches exception resumption (FilterOf handler rest) ∷ Waits c.frame ∷ c.below) acts
      (host_list p c.store)
      → register s.cpu Rcx ≡ register s.cpu Rsp + 88 → handler.filter ≡ Some k
      → IsMachineMemory t fs program p q s.memory c.store.memory
      → c.store.activations ≡ locals_of acts
      → nat_lt DEEPEST (length c.store.activations + c.frame.held + 2) ≡ false
      → IsKnown program (begin_filter k handler rest exception resumption c)
      → LeadsTo t fs entry_turns (RepresentsAt t fs program p q) s
      (begin_filter k handler rest exception resumption c)

  -- a `__finally` block begins, on the body that waits with the regions that are left
  abbrev pub BlocksBegin : Type 0
  BlocksBegin =
      (s : State) (k flag : ℕ) (rest : List Region) (target : Target) (c : Configuration)
      (acts : List Activation)
      → Arrives t fs program p s k c.frame.activation 1
      (Unwinds rest target ∷ Waits c.frame ∷ c.below) acts (host_list p c.store)
      → flag_of (slice_get program.funclets k) ≡ Some flag
      → IsMachineMemory t fs program p q s.memory c.store.memory
      → c.store.activations ≡ locals_of acts
      → nat_lt DEEPEST (length c.store.activations + target.held + 2) ≡ false
      → IsKnown program (begin_finally k flag true target.held
      (Unwinds rest target ∷ Waits c.frame ∷ c.below) c)
      → LeadsTo t fs entry_turns (RepresentsAt t fs program p q) s
      (begin_finally k flag true target.held (Unwinds rest target ∷ Waits c.frame ∷ c.below) c)
