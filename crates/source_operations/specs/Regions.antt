-- The regions of the memory that a program begins with.
use Rattle.std.specs.Prelude.{ℕ, true, false, List, [], ◌∷◌}
use Rattle.host_layout.specs.declared.range.TheConstants.{FIRST_DATA}
use Rattle.x64_memory.specs.declared.region.Region.{Region}
use Rattle.x64_memory.specs.declared.region.TheConstants.{ARENA, DATA_STACK}

abbrev pub data_region : ℕ → Region
data_region end =
    record { start = FIRST_DATA; end = end; read = true; write = true; execute = false }

abbrev pub regions : ℕ → List Region
regions end = ARENA ∷ DATA_STACK ∷ data_region end ∷ []
