-- How many bytes the arrays of a function take so far, by how many they may still take.
use Rattle.std.specs.Prelude.{ℕ, ◌-◌}
use Rattle.c_syntax.specs.declared.limit.TheConstants.{MOST_ARRAY_BYTES}

abbrev pub bytes_so_far : ℕ → ℕ
bytes_so_far left = MOST_ARRAY_BYTES - left
