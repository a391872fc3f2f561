-- The setting of the proofs on bodies and turns: a linear program with an image of it.
use Rattle.std.specs.Prelude.{ℕ, List}
use Rattle.flat_memory.specs.Memory.{Memory}
use Rattle.x64_machine.specs.Effect.{State}
use Rattle.virtual_unwind.specs.CallerOf.{Functions}
use Rattle.host_model.specs.declared.funclet.Funclet.{Funclet}
use Rattle.linear_code.specs.Program.{LinearProgram, LinearBody}
use Rattle.linear_machine.specs.Frames.{BodyName, Configuration}
use Rattle.match_stack.specs.ImagePlan.{ImagePlan}
use Rattle.match_bodies.specs.CodeSites.{Sites}
use Rattle.match_bodies.specs.ProgramImages.{IsProgramImage}
use Rattle.match_bodies.specs.ProgramImages as images
use Rattle.match_bodies.specs.Bodies as bodies

-- what nearly all of these proofs are about, in one value
pub record Setting : Type 0 where
  -- the image's base and function table, as the unwinder reads them
  pub functions : Functions
  -- where its funclets begin, as the host counts them
  pub funclets : List Funclet
  -- the linear program
  pub program : LinearProgram
  -- where the image has each instruction and each slot of it
  pub plan : ImagePlan
  -- where the code of its functions, thunks and `__chkstk` begins
  pub sites : Sites
  -- the image has the program so
  pub image : IsProgramImage functions funclets program plan sites

abbrev pub setting_of : (t : Functions) (fs : List Funclet) (program : LinearProgram)
    (p : ImagePlan) (q : Sites) → IsProgramImage t fs program p q → Setting
setting_of t fs program p q image = record {
  functions = t;
  funclets = fs;
  program = program;
  plan = p;
  sites = q;
  image = image;
}

-- the notions of ProgramImages and Bodies, of a setting's parts
module _ (setting : Setting) where
  open setting use {functions as t, funclets as fs, program, plan as p, sites as q}

  abbrev pub HasProgram : Memory → Type 0
  HasProgram = images.HasProgram t fs program p q

  abbrev pub IsMachineMemory : Memory → Memory → Type 0
  IsMachineMemory = images.IsMachineMemory t fs program p q

  abbrev pub IsResumed : BodyName → LinearBody → (label rip : ℕ) → Type 0
  IsResumed = images.IsResumed t fs program p q

  abbrev pub InBody : State → Configuration → Type 0
  InBody = bodies.InBody t fs program p q

  abbrev pub RepresentsAt : State → Configuration → Type 0
  RepresentsAt = bodies.RepresentsAt t fs program p q
