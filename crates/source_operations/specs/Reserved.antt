-- The addresses of which the language says nothing, by the end of the globals' pages.
use Rattle.std.specs.Prelude.{ℕ, Bool, not, ◌&&◌, ◌||◌}
use Rattle.host_layout.specs.declared.range.TheConstants.{GUARD_START, STACK_END, IMAGE_BASE}
use Rattle.host_layout.specs.declared.range.TheConstants.{IMAGE_RANGE_END, FIRST_DATA}
use Rattle.host_layout.specs.declared.range.TheConstants.{DATA_STACK_START, FIRST_DATA_STACK}
use Rattle.flat_memory.specs.Memory.{Memory, may_write}
use Rattle.source_meaning.specs.Source.{is_between}

abbrev pub reserved_below : ℕ → ℕ → Bool
reserved_below data_end a =
    is_between GUARD_START STACK_END a ||
    (is_between IMAGE_BASE IMAGE_RANGE_END a && not (is_between FIRST_DATA data_end a)) ||
    is_between DATA_STACK_START FIRST_DATA_STACK a

-- a variable may have a byte
abbrev pub may_place : (ℕ → Bool) → Memory → ℕ → Bool
may_place reserved m a = not (reserved a) && may_write m a
