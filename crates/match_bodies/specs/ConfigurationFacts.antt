-- What is known of a program of linear code, and of a configuration that it comes to.
--
-- `IsKnown`, `KnownNext`: what is known of a configuration (crate
-- `lowering_invariants` has each part), and that it is known of the next one too.
use Rattle.std.specs.Prelude.{◌≡◌, ℕ, ◌<◌, ◌≤◌, true, false, List, slice_get, Some}
use Rattle.std.specs.List.{AllByRecursion}
use Rattle.linear_code.specs.declared.instruction.Instruction.{Instruction}
use Rattle.linear_code.specs.Program.{LinearProgram, LinearBody, weight}
use Rattle.linear_machine.specs.Frames.{BodyName, FunctionBody, body_of, Configuration, Next}
use Rattle.linear_machine.specs.Instructions.{act}
use Rattle.linear_machine.specs.Run.{instruction_at}
use Rattle.match_runs.specs.Matched.{separators_in}
use Rattle.match_stack.specs.ImagePlan.{ImagePlan}
use Rattle.lowering_invariants.specs.Ready.{CanContinue}
use Rattle.c_operations.specs.declared.built_in.BuiltIn.TheVariants.{AddVectored}
use Rattle.linear_machine.specs.BuiltInCalls.{CallsBuiltIn}
use Rattle.lowering_invariants.specs.Bodies.{IsCallee, IsWhole}
use Rattle.lowering_invariants.specs.Waiting.{IsStacked}
use Rattle.lowering_invariants.specs.Activations.{HasActivations}
use Rattle.lowering_invariants.specs.SmallNumbers.{HasSmallNumbers}
use Rattle.lowering_invariants.specs.Depths.{HasDepths}
use Rattle.lowering_invariants.specs.Room.{HaveRoom}
use Rattle.lowering_invariants.specs.ReturnRegions.{AllReturnsStayInRegions, is_call}

module _ (program : LinearProgram) where
  -- a leaf function calls nothing (Microsoft x64 ABI, "Leaf functions")
  abbrev pub LeavesCallNothing : ImagePlan → Type 0
  LeavesCallNothing p =
      (name : BodyName) (b : LinearBody) (label : ℕ) (i : Instruction)
      → body_of program name ≡ Some b → p.leaf name ≡ true → slice_get b.code label ≡ Some i
      → is_call i ≡ false

  -- a function that may be listed as a vectored handler takes a code and flags, begins with more
  -- separators than its frame weighs, and the program adds it
  pub record IsListable (f : ℕ) : Type 0 where
    pub callee : IsCallee program f 2
    pub fits : callee.function.parameters ≤ callee.function.body.locals
    pub weighs : weight callee.function < separators_in (body_of program (FunctionBody f)) 0
    pub adds : CallsBuiltIn program (AddVectored f)

  abbrev pub AreListable : List ℕ → Type 0
  AreListable fs = AllByRecursion IsListable fs

  -- of the program
  pub record IsWellMade (p : ImagePlan) : Type 0 where
    pub whole : IsWhole program
    pub room : HaveRoom program
    pub apart : AllReturnsStayInRegions program
    pub leaves : LeavesCallNothing p

  -- of a configuration, and of those after one turn
  pub record IsKnown (c : Configuration) : Type 0 where
    pub continues : CanContinue program c
    pub stacked : IsStacked program c
    pub activations : HasActivations program c
    pub small : HasSmallNumbers c
    pub depths : HasDepths program c
    pub next : (i : Instruction) (d : Configuration) → instruction_at program c ≡ Some i
        → ((next : Next) → act program i next c ≡ next d) → CanContinue program d

-- and of the configuration after a step
abbrev pub KnownNext : LinearProgram → Configuration → Instruction → Type 0
KnownNext program c i =
    (d : Configuration) → ((next : Next) → act program i next c ≡ next d) → IsKnown program d
