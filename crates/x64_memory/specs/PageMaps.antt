-- The memory that is kept in a table of stretches of pages.
--
-- The main definition: `memory_of`.
use Rattle.std.specs.Prelude.{ℕ, Bool, Option}
use Rattle.flat_memory.specs.Memory.{Memory}
use Rattle.x64_memory.specs.Pages.{paged, has_page}
use Rattle.x64_memory.specs.Stretches.{page_numbered}
use Rattle.x64_memory.specs.declared.page.Page.{Page}
use Rattle.x64_memory.specs.declared.page_map.PageMap.{PageMap}

-- the page of a number
abbrev pub pages_of : PageMap → ℕ → Option Page
pages_of s = page_numbered s.stretches.items s.pages.items

-- the memory that a table of stretches of pages means, each page with one protection
abbrev pub memory_of : PageMap → Memory
memory_of s = paged (pages_of s)

-- an address is mapped
abbrev pub holds : PageMap → ℕ → Bool
holds s a = has_page (pages_of s) a
