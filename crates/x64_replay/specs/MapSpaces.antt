-- The memory that is kept in an ordered map of pages.
use Rattle.std.specs.Prelude.{ℕ, Bool}
use Rattle.flat_memory.specs.Memory.{Memory}
use Rattle.x64_memory.specs.Pages.{paged, has_page}
use Rattle.x64_replay.specs.PageTrees.{pages_of}
use Rattle.x64_replay.specs.declared.map_space.MapSpace.{MapSpace}

abbrev pub memory_of : MapSpace → Memory
memory_of s = paged (pages_of s.pages)

-- an address is mapped
abbrev pub holds : MapSpace → ℕ → Bool
holds s a = has_page (pages_of s.pages) a
