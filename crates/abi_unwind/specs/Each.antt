-- The caller of a frame, as Windows finds it, in a table whose entries needn't all be read: each is
-- read when it is asked, and refused alone. Unwind infos of version 2 are read too.
--
-- The main definition: `abi_caller_each`.
use Rattle.std.specs.Prelude.{ℕ, Bool, true, false, if◌then◌else◌, List, Option, Some, None, Result, Ok, Err}
use Rattle.seh_num.specs.Answers.{◌>>=◌}
use Rattle.flat_memory.specs.Memory.{Memory}
use Rattle.eh_tables.specs.Answer.{Table}
use Rattle.eh_tables.specs.EitherEntries.{entry_at, entry_covering}
use Rattle.eh_tables.specs.Tables.{Entry, Tables, covers_address}
use Rattle.virtual_unwind.specs.Undone.{Answer}
use Rattle.virtual_unwind.specs.CallerOf.{distance}
use Rattle.abi_unwind.specs.declared.context.AbiContext.{AbiContext}
use Rattle.abi_unwind.specs.declared.each.EntryErr.{EntryErr}
use Rattle.abi_unwind.specs.declared.each.EntryErr.TheVariants as refusals
use Rattle.abi_unwind.specs.declared.tail.Part.{Part}
use Rattle.abi_unwind.specs.declared.tail.End.{End}
use Rattle.abi_unwind.specs.declared.tail.End.TheVariants.{Certain, JumpsTo}
use Rattle.abi_unwind.specs.Tail.{Tail, parts_if, tail_at}
use Rattle.abi_unwind.specs.Caller.{AbiFrame, abi_at, leaf, leaves_inside, leaves_to}
use Rattle.abi_unwind.specs.Version2.{may_end}

abbrev pub Each : Type 0 → Type 0
Each A = Result A EntryErr

-- what reading an entry answers, and what unwinding does
abbrev pub of_table : {A : Type 0} → Table A → Each A
of_table (Ok x) = Ok x
of_table (Err e) = Err (refusals.Table e)

abbrev pub of_unwind : {A : Type 0} → Answer A → Each A
of_unwind (Ok x) = Ok x
of_unwind (Err e) = Err (refusals.Unwind e)

abbrev pub covering : Tables → ℕ → Each (Option Entry)
covering t rva = of_table (entry_covering t rva)

-- whether a jump leaves a function
abbrev pub leaves : Tables → ℕ → Entry → ℕ → Each Bool
leaves t base e to =
    let rva = distance base to in
    if covers_address rva e.range then Ok (leaves_inside e rva)
    else (covering t rva >>= λ o. Ok (leaves_to e rva o))

abbrev pub is_end : Tables → ℕ → Entry → End → Each Bool
is_end t base e Certain = Ok true
is_end t base e (JumpsTo a) = leaves t base e a

abbrev pub kept : Tables → ℕ → Entry → Option Tail → Each (Option (List Part))
kept t base e None = Ok None
kept t base e (Some tail) = is_end t base e tail.end >>= λ b. Ok (parts_if tail b)

-- the trailing part at RIP, where an epilogue may stand there
abbrev pub tail_if : Option Tail → Bool → Option Tail
tail_if tail true = tail
tail_if tail false = None

abbrev pub tail_in : ℕ → Memory → AbiContext → Entry → Option Tail
tail_in base m c e =
    tail_if (tail_at e.info.frame_register m c.general.rip)
    (may_end e (distance base c.general.rip))

abbrev pub of_entry : Tables → ℕ → Memory → AbiContext → Option Entry → Each AbiFrame
of_entry t base m c None = of_unwind (leaf m c)
of_entry t base m c (Some e) = do
  parts ← kept t base e (tail_in base m c e)
  of_unwind (abi_at m c (distance base c.general.rip) e parts)

-- in the entry of a number
abbrev pub numbered : Tables → ℕ → Memory → AbiContext → ℕ → Each AbiFrame
numbered t base m c k = do
  e ← of_table (entry_at t k)
  of_entry t base m c (Some e)

unfoldable pub abi_caller_each : Tables → ℕ → Memory → AbiContext → Each AbiFrame
abi_caller_each t base m c = covering t (distance base c.general.rip) >>= of_entry t base m c
