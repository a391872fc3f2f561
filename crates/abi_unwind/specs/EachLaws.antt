-- In a table that was read whole, entries that are read one by one give the same caller.
--
-- The main definition: `EachIsWhole`.
use Rattle.std.specs.Prelude.{◌≡◌, ℕ}
use Rattle.flat_memory.specs.Memory.{Memory}
use Rattle.eh_tables.specs.Tables.{Tables, TablesAreWhole}
use Rattle.virtual_unwind.specs.CallerOf.{functions_of}
use Rattle.abi_unwind.specs.declared.context.AbiContext.{AbiContext}
use Rattle.abi_unwind.specs.Caller.{abi_caller}
use Rattle.abi_unwind.specs.Each.{of_unwind, abi_caller_each}

-- in an image that lies at a base
abbrev pub EachIsWhole : Type 0
EachIsWhole =
    (t : Tables) (base : ℕ) (m : Memory) (c : AbiContext) → TablesAreWhole t
    → abi_caller_each t base m c
    ≡ of_unwind (abi_caller (record (functions_of t) { base = base }) m c)
