-- The ranges of memory: which addresses lie in each.
--
-- `IMAGE_BASE`, `STACK_START`, `GUARD_START`, `ARENA_START`, `HOST_PAGE_START`, and the ends: the
-- ranges of memory, each from its start to below its end (own). The images that seh writes are at
-- 0x140000000 to below 0x150000000. The stack is at 0x70000000 to below 0x70800000, and its guard
-- is below it, from 0x6FFF0000 on. The arena is at 0x20000000 to below 0x20100000, and the host's
-- page at 0x7FF00000 to below 0x7FF01000.
--
-- The main definition: `pages`.
use Rattle.std.specs.Prelude.{ℕ, ◌+◌, ◌-◌, ◌*◌, ◌/◌, Bool, ◌&&◌, nat_le, nat_lt}
use Rattle.host_layout.specs.declared.range.TheConstants.{PAGE, STACK_START, STACK_END, GUARD_START, ARENA_START, ARENA_END}
use Rattle.host_layout.specs.declared.range.TheConstants.{DATA_STACK_START, DATA_STACK_END}

abbrev pub in_stack : ℕ → Bool
in_stack a = nat_le STACK_START a && nat_lt a STACK_END

abbrev pub in_guard : ℕ → Bool
in_guard a = nat_le GUARD_START a && nat_lt a STACK_START

abbrev pub in_arena : ℕ → Bool
in_arena a = nat_le ARENA_START a && nat_lt a ARENA_END

abbrev pub in_data_stack : ℕ → Bool
in_data_stack a = nat_le DATA_STACK_START a && nat_lt a DATA_STACK_END

-- a size in whole pages of 4,096 bytes
abbrev pub pages : ℕ → ℕ
pages n = (n + (PAGE - 1)) / PAGE * PAGE
