-- The search of a record: frame by frame, from its walk's state and next row.
--
-- `search`, `unwind`: the walk of a record from where it was suspended, up to the next filter or
-- `__finally` block, an acceptance or a landing, or its end.
use Rattle.std.specs.Prelude.{ℕ, zero, suc, ◌+◌, ◌%◌, ◌^◌, Bool, true, false, ◌==◌, Option, Some, None, Result, Ok, Err}
use Rattle.flat_memory.specs.Memory.{Memory}
use Rattle.x64_machine.specs.declared.context.Context.{Context}
use Rattle.virtual_unwind.specs.CallerOf.{Functions, distance}
use Rattle.seh_walk.specs.declared.walk.WalkState.{WalkState}
use Rattle.seh_walk.specs.Asked.{AskedRecord, searched, first_with_jump_target}
use Rattle.seh_walk.specs.Walk.{Visited, Over, Past, Frame, Broken, visited, continue_walk}
use Rattle.seh_search.specs.declared.search_result.SearchResult.{SearchResult}
use Rattle.eh_tables.specs.declared.layout.TheConstants.{EXCEPTION_EXECUTE_HANDLER}
use Rattle.seh_search.specs.declared.search_result.SearchResult.TheVariants.{Filter, Accept, Nobody, Stop}

-- HandlerAddress 1 accepts; any other is a filter
abbrev pub by_handler : ℕ → ℕ → Context → AskedRecord → Bool → SearchResult
by_handler base frame c r true = Accept frame ((base + r.1.jump_target) % 2 ^ 64)
by_handler base frame c r false = Filter ((base + r.1.handler_address) % 2 ^ 64) frame (r.0 + 1) c

abbrev pub chosen : ℕ → ℕ → Context → AskedRecord → SearchResult
chosen base frame c r = by_handler base frame c r (r.1.handler_address == EXCEPTION_EXECUTE_HANDLER)

-- a step decides, or the walk continues: the first row that is asked decides
abbrev pub by_row : Functions → ℕ → Context → WalkState → Option AskedRecord
    → Result WalkState SearchResult
by_row t frame c u (Some r) = Err (chosen t.base frame c r)
by_row t frame c u None = Ok u

abbrev pub decided : Functions → WalkState → Visited → Result WalkState SearchResult
decided t w Over = Err Nobody
decided t w (Past u) = Ok u
decided t w (Broken y) = Err (Stop y)
decided t w (Frame f u) =
    by_row t f.frame w.context u (first_with_jump_target
    (searched f.asked (distance t.base w.context.rip) w.row))

-- at most so many steps of the walk
unfoldable pub search : ℕ → Functions → Memory → WalkState → SearchResult
search zero t m w = Nobody
search (suc n) t m w = continue_walk (search n t m) (decided t w (visited t m w))
