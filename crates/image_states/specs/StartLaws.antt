-- The memory that a run of a compiled program starts with, and that its image loads.
use Rattle.std.specs.Prelude.{◌≡◌, ◌<◌, None}
use Rattle.std.specs.List.{AllByRecursion}
use Rattle.host_model.specs.Loading.{mapped, load_refusal}
use Rattle.pe_write.specs.Program.{parts_of, image_of}
use Rattle.pe_write.specs.Written.{written}
use Rattle.source_meaning.specs.Source.{first_memory}
use Rattle.linear_code.specs.Program.{LinearProgram}
use Rattle.match_bodies.specs.ProgramImages.{IsMachineMemory}
use Rattle.image_link.specs.Linked.{linked}
use Rattle.image_states.specs.Plans.{functions_of, funclets_of, plan_of, sites_of}
use Rattle.image_states.specs.Compiled.{HasWholeImage}

-- what is written is a list of bytes
abbrev pub HasBytes : LinearProgram → Type 0
HasBytes program = AllByRecursion (λ b. b < 256) (written (parts_of (linked program)))

-- beside the source's first memory: the globals where the source may look, all else out of its
-- reach
abbrev pub ImagesStart : Type 0
ImagesStart =
    (program : LinearProgram) → HasWholeImage program → HasBytes program
    → IsMachineMemory (functions_of program) (funclets_of program) program (plan_of program)
    (sites_of program) (mapped (image_of (linked program))) (first_memory program.globals)

-- the image of a compiled program is loaded
abbrev pub ImagesLoad : Type 0
ImagesLoad =
    (program : LinearProgram) → HasWholeImage program
    → load_refusal (image_of (linked program)) ≡ None
