-- How many bytes the parts of a line have at most.
use Rattle.std.specs.Prelude.{ℕ, ◌+◌}
use Rattle.seh_io.specs.declared.line.TheConstants.{ADDRESS_DIGITS}

-- a number of 64 bits in decimal digits, or a signed one with its sign
abbrev pub longest_decimal : ℕ
longest_decimal = 20

-- an access: " write ", and an address
abbrev pub longest_access : ℕ
longest_access = 7 + ADDRESS_DIGITS

-- a reason: "Unreadable"
abbrev pub longest_reason : ℕ
longest_reason = 10
