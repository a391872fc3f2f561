use Rattle.std.proofs.Common.{◌≡◌, ◌++◌, replicate}
use Rattle.x64_memory.specs.Words.{zero_page}
use Rattle.x64_memory.proofs.page_map.add_pages.Given as goal

abbrev pub invariant-loop-i : goal.invariant-loop-i
invariant-loop-i l = l.pages.items ≡ l.fn.pages.items ++ replicate l._i (zero_page l.protection)
