-- Sound programs whose linear code has an image, and what the steps of the machine ask of that
-- image.
--
-- The main definitions: `IsLinkable`, `IsSoundImage`.
use Rattle.std.specs.Prelude.{◌≡◌, List, Some}
use Rattle.c_checked.specs.Program.{Program}
use Rattle.c_checked.specs.Sound.{IsSound}
use Rattle.virtual_unwind.specs.CallerOf.{Functions}
use Rattle.host_model.specs.declared.funclet.Funclet.{Funclet}
use Rattle.linear_code.specs.Program.{LinearBody, LinearProgram}
use Rattle.linear_machine.specs.Frames.{BodyName, body_of}
use Rattle.match_stack.specs.ImagePlan.{ImagePlan}
use Rattle.seh_ir.specs.Lowered.{lowered}
use Rattle.lowering_invariants.specs.Nesting.{AreShallow}
use Rattle.lowering_invariants.specs.CallRegions.{HasSameRegions}
use Rattle.image_link.specs.Fits.{FitsProgram}
use Rattle.match_bodies.specs.CodeSites.{Sites}
use Rattle.match_bodies.specs.ProgramImages.{IsProgramImage}
use Rattle.match_bodies.specs.ConfigurationFacts.{IsWellMade}
use Rattle.match_turns.specs.CallOutcome.{FunctionsApart}
use Rattle.match_turns.specs.FuncletEntry.{FlagsFit, SeparatorsFollow}
use Rattle.match_turns.specs.FilterInformation.{FiltersReadInformation}
use Rattle.match_turns.specs.LocalUnwindPlaces.{StayInside, AreFollowed}

-- a checked program that is sound, nested within the limits, and whose linear code is within those
-- of linking
pub record IsLinkable (program : Program) : Type 0 where
  pub sound : IsSound program
  pub shallow : AreShallow program.functions
  pub fits : FitsProgram (lowered program)

-- all that never changes while its image runs and that its steps ask. It is IsProgramImage and
-- IsWellMade, no funclet begins where a function does, flags are locals, and separators follow what
-- runs `__finally` blocks. Local unwinds stay in their bodies, and only filters read their
-- exception.
pub record IsSoundImage (t : Functions) (fs : List Funclet) (program : LinearProgram)
    (p : ImagePlan)
    (q : Sites) : Type 0 where
  pub image : IsProgramImage t fs program p q
  pub made : IsWellMade program p
  pub apart : FunctionsApart program p q
  pub flags : FlagsFit program
  pub separators : SeparatorsFollow program
  pub followed : AreFollowed program
  pub inside : StayInside program
  pub informs : FiltersReadInformation program
  pub regions : (name : BodyName) (b : LinearBody) → body_of program name ≡ Some b
      → HasSameRegions b
