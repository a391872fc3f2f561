-- What is claimed of the images of sound programs.
use Rattle.c_checked.specs.Program.{Program}
use Rattle.seh_ir.specs.Lowered.{lowered}
use Rattle.image_states.specs.Plans.{functions_of, funclets_of, plan_of, sites_of}
use Rattle.image_states.specs.Compiled.{HasWholeImage}
use Rattle.image_runs.specs.SoundImages.{IsLinkable, IsSoundImage}

-- regions are ranges and name each funclet once; cold parts can stand apart; the function of a
-- funclet has a frame with the locals that the funclet works on, and those that it names are in
-- that frame
abbrev pub LoweredIsCompiled : Type 0
LoweredIsCompiled = (program : Program) → IsLinkable program → HasWholeImage (lowered program)

-- the image of a program that can be linked is sound
abbrev pub LoweredHasImage : Type 0
LoweredHasImage =
    (program : Program) → IsLinkable program
    → IsSoundImage (functions_of (lowered program)) (funclets_of (lowered program))
    (lowered program) (plan_of (lowered program)) (sites_of (lowered program))
