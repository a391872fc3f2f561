-- A body of the linear code of a program calls `walk` exactly where the program names it.
--
-- The main definition: `WalksAreNamed`.
use Rattle.std.specs.Prelude.{◌≡◌}
use Rattle.c_checked.specs.Program.{Program}
use Rattle.seh_ir.specs.Lowered.{lowered}
use Rattle.image_link.specs.Services.{calls_walk}
use Rattle.named_walks.specs.Walks.{names_walk}

-- the image of a program has names of functions where its linear code calls `walk`; that is where
-- the program names `walk`
abbrev pub WalksAreNamed : Type 0
WalksAreNamed = (program : Program) → calls_walk (lowered program) ≡ names_walk program
