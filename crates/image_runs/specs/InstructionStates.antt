-- A state within an instruction of linear code.
--
-- The main definition: `IsWithinInstruction`.
use Rattle.std.specs.Prelude.{◌≡◌, ◌^◌, ◌<◌, ◌≤◌, true, List, ◌∷◌, Some}
use Rattle.x64_instr.specs.declared.register.Reg.TheVariants.{Rsp}
use Rattle.x64_instr.specs.declared.instruction.Instr.{Instr}
use Rattle.x64_encode.specs.Chosen.{is_encodable}
use Rattle.x64_machine.specs.Contexts.{context_of}
use Rattle.x64_machine.specs.Effect.{State, register}
use Rattle.virtual_unwind.specs.CallerOf.{Functions}
use Rattle.host_model.specs.declared.funclet.Funclet.{Funclet}
use Rattle.linear_code.specs.Program.{LinearProgram, LinearBody}
use Rattle.linear_machine.specs.Frames.{body_of, Configuration}
use Rattle.template_code.specs.Bytes.{size}
use Rattle.match_stack.specs.ImagePlan.{ImagePlan, InCode}
use Rattle.match_stack.specs.ListLaws.{KeepsStack}
use Rattle.match_bodies.specs.CodeSites.{Sites}
use Rattle.match_bodies.specs.ProgramImages.{HasProgram, IsResumed}
use Rattle.image_runs.specs.ScratchInstructions.{scratch_only}

-- RIP is at a machine instruction of the instruction that a configuration is at, which is no
-- return; RSP and the nonvolatile registers, the stack from RSP up, and all code are as they were
-- where it began
pub record IsWithinInstruction (t : Functions) (fs : List Funclet) (program : LinearProgram)
    (p : ImagePlan)
    (q : Sites) (s u : State) (c : Configuration) : Type 0 where
  pub code : LinearBody
  pub body : body_of program c.frame.body ≡ Some code
  pub resumed : IsResumed t fs program p q c.frame.body code c.frame.next u.cpu.rip
  pub inside : InCode p c.frame.body c.frame.next u.cpu.rip
  pub small : u.cpu.rip < 2 ^ 64
  pub kept : (context_of u.cpu).kept ≡ (context_of s.cpu).kept
  pub program_there : HasProgram t fs program p q u.memory
  pub stack : KeepsStack s.memory u.memory (register s.cpu Rsp)

-- a machine instruction that writes no memory, and no register but RAX, RCX and RDX; another one of
-- the instruction comes after it
pub record ScratchOnlyHere (t : Functions) (fs : List Funclet) (program : LinearProgram)
    (p : ImagePlan)
    (q : Sites) (s u : State) (c : Configuration)
    (w : IsWithinInstruction t fs program p q s u c) : Type 0 where
  pub scratch : scratch_only w.resumed.item ≡ true
  pub spelling : is_encodable w.resumed.item ≡ true
  pub next : Instr
  pub rest : List Instr
  pub more : w.resumed.left ≡ next ∷ rest
  pub some : 1 ≤ size next
