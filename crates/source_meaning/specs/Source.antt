-- The memory that a program begins with, and the addresses of which the language says nothing.
--
-- The main definitions: `first_memory`, `is_reserved`.
use Rattle.std.specs.Prelude.{ℕ, ◌+◌, ◌-◌, ◌*◌, ◌/◌, Bool, false, not, ◌&&◌, ◌||◌, nat_le, nat_lt}
use Rattle.std.specs.Prelude.{if◌then◌else◌, List, length, get_or}
use Rattle.host_layout.specs.declared.range.TheConstants.{GUARD_START, STACK_END, IMAGE_BASE}
use Rattle.host_layout.specs.declared.range.TheConstants.{IMAGE_RANGE_END, PAGE, FIRST_DATA}
use Rattle.host_layout.specs.declared.range.TheConstants.{DATA_STACK_START, FIRST_DATA_STACK}
use Rattle.host_layout.specs.Ranges.{in_data_stack}
use Rattle.flat_memory.specs.declared.protection.Protection.{Protection}
use Rattle.flat_memory.specs.declared.protection.Rights.{Rights}
use Rattle.flat_memory.specs.declared.protection.Rights.TheVariants.{Nothing, ReadWrite}
use Rattle.flat_memory.specs.Memory.{Memory, first_byte}

abbrev pub is_between : ℕ → ℕ → ℕ → Bool
is_between first end a = nat_le first a && nat_lt a end

-- the end of the pages of the globals, of which there is one at least
abbrev pub data_end : List ℕ → ℕ
data_end globals = FIRST_DATA + PAGE * ((length globals - 1) / PAGE + 1)

abbrev pub is_data : List ℕ → ℕ → Bool
is_data globals a = is_between FIRST_DATA (data_end globals) a

-- what a run has beside the memory that the meaning speaks of: the stack with its guard, and the
-- image's range without its data
abbrev pub is_hidden : List ℕ → ℕ → Bool
is_hidden globals a =
    is_between GUARD_START STACK_END a ||
    (is_between IMAGE_BASE IMAGE_RANGE_END a && not (is_data globals a))

-- that, and what the data stack begins with: its pointer
abbrev pub is_reserved : List ℕ → ℕ → Bool
is_reserved globals a =
    is_hidden globals a || is_between DATA_STACK_START FIRST_DATA_STACK a

abbrev pub plain_mode : Rights → Protection
plain_mode rights = record { rights = rights; execute = false }

-- the globals' pages and the data stack may be read and written, and nothing else; bytes that no
-- global has are 0, but for the data stack's pointer
abbrev pub first_memory : List ℕ → Memory
first_memory globals =
    record {
      protection = λ a. if is_data globals a || in_data_stack a then plain_mode ReadWrite
          else plain_mode Nothing;
      byte = λ a. if nat_lt a FIRST_DATA then first_byte a else get_or globals (a - FIRST_DATA) 0;
    }
