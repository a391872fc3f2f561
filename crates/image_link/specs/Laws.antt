-- What holds of the image of every program that can be linked.
use Rattle.std.specs.Prelude.{◌≤◌}
use Rattle.pe_write.specs.Program.{sizes_of, end_at}
use Rattle.linear_code.specs.Program.{LinearProgram}
use Rattle.image_link.specs.Fits.{FitsProgram}
use Rattle.image_link.specs.Linked.{linked}
use Rattle.host_layout.specs.declared.limit.TheConstants.{MOST_IMAGE}

-- it takes no more than the largest image, headers and all
abbrev pub ImagesAreSmall : Type 0
ImagesAreSmall = (p : LinearProgram) → FitsProgram p → end_at (sizes_of (linked p)) ≤ MOST_IMAGE
