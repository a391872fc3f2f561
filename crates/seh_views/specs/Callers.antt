-- A frame and its caller, and the entry of an address: of all entries that one alone is read.
--
-- `unwound`, `walked_in`, `found_in`, `scopes_in`: what the calls answer, from the bytes of an
-- image on, in a file or mapped.
--
-- The main definition: `step_in`.
use Rattle.std.specs.Prelude.{ℕ, Bool, true, false, nat_lt, List, slice_index_or, Option, Some, None, option_map, Result, Ok, Err}
use Rattle.seh_num.specs.Answers.{◌>>=◌}
use Rattle.flat_memory.specs.Memory.{Memory}
use Rattle.pe_image.specs.declared.image_layout.ImageLayout.{ImageLayout}
use Rattle.pe_image.specs.Image.{Image}
use Rattle.eh_tables.specs.declared.range.RuntimeFunction.{RuntimeFunction}
use Rattle.eh_tables.specs.Covering.{entry_covering, index_from}
use Rattle.eh_tables.specs.Tables.{Entry, Tables, entry_at, no_range}
use Rattle.virtual_unwind.specs.declared.frame.Caller.{Caller}
use Rattle.virtual_unwind.specs.declared.refusal.UnwindErr.{UnwindErr}
use Rattle.virtual_unwind.specs.declared.refusal.UnwindErr.TheVariants.{Backward}
use Rattle.virtual_unwind.specs.CallerOf.{distance, of_entry, rising}
use Rattle.virtual_unwind.specs.Shown.{shown}
use Rattle.abi_unwind.specs.declared.each.EntryErr.{EntryErr}
use Rattle.abi_unwind.specs.declared.each.EntryErr.TheVariants as entries
use Rattle.abi_unwind.specs.declared.frame.AbiCaller.{AbiCaller}
use Rattle.abi_unwind.specs.declared.frame.Handler.{Handler}
use Rattle.abi_unwind.specs.Caller.{leaf}
use Rattle.abi_unwind.specs.Each.{numbered}
use Rattle.abi_unwind.specs.Views as unwinds
use Rattle.seh_views.specs.declared.c_types.SehContext.{SehContext}
use Rattle.seh_views.specs.declared.c_types.SehFunction.{SehFunction}
use Rattle.seh_views.specs.declared.c_types.SehRange.{SehRange}
use Rattle.seh_views.specs.declared.refusal.Refusal.TheVariants as refusals
use Rattle.seh_views.specs.declared.step.Step.{Step}
use Rattle.seh_views.specs.Openings.{Answer, of_table, of_unwinding, opened, table_of}
use Rattle.seh_views.specs.Ranges.{ranges_checked}
use Rattle.seh_views.specs.Shapes.{abi_context, c_context, c_function, halves, machine_context}
use Rattle.seh_views.specs.Snapshot.{snapshot}

-- ---- one virtual unwind by the project's own profile, `caller_of`

-- the code of an entry; none is empty
abbrev pub range_of : Option Entry → RuntimeFunction
range_of None = no_range
range_of (Some e) = e.range

-- no vector register is restored
abbrev pub own_step : RuntimeFunction → SehContext → Caller → Step
own_step r c f =
    record {
      begin = r.begin;
      end = r.end;
      establisher = f.frame;
      handler = f.handler;
      in_body = f.in_body;
      caller = c_context f.context c.vectors 0;
    }

abbrev pub own_by : Memory → SehContext → ℕ → Option Entry → Answer Step
own_by m c rva o = do
  f ← of_unwinding (shown (of_entry m (machine_context c) rva o >>= rising (machine_context c)))
  Ok (own_step (range_of o) c f)

-- by the entry of a number
abbrev pub own_numbered : Tables → ℕ → Memory → SehContext → ℕ → Answer Step
own_numbered t rva m c k = do
  e ← of_table (entry_at t k)
  own_by m c rva (Some e)

-- at an address relative to the image base
abbrev pub own_at : Tables → ℕ → Memory → SehContext → Answer Step
own_at t rva m c = do
  o ← of_table (entry_covering t rva)
  own_by m c rva o

abbrev pub own_in : Tables → ℕ → Memory → SehContext → Answer Step
own_in t base m c = own_at t (distance base c.rip) m c

-- ---- as Windows finds it, `abi_caller_each`

abbrev pub handler_rva : Option Handler → Option ℕ
handler_rva None = None
handler_rva (Some h) = Some h.rva

abbrev pub abi_step : RuntimeFunction → SehContext → AbiCaller → Step
abi_step r c f =
    record {
      begin = r.begin;
      end = r.end;
      establisher = f.frame;
      handler = handler_rva f.handler;
      in_body = false;
      caller = c_context f.context.general (halves f.context.vectors) c.has_vectors;
    }

abbrev pub abi_answer : RuntimeFunction → SehContext → Result AbiCaller EntryErr → Answer Step
abi_answer r c (Ok f) = Ok (abi_step r c f)
abi_answer r c (Err (entries.Table e)) = Err (refusals.Table e)
abi_answer r c (Err (entries.Unwind e)) = Err (refusals.Unwinding e)

abbrev pub leaf_answer : SehContext → Result AbiCaller UnwindErr → Answer Step
leaf_answer c (Ok f) = Ok (abi_step no_range c f)
leaf_answer c (Err e) = Err (refusals.Unwinding e)

-- by the number of the entry that covers RIP
abbrev pub abi_numbered : Tables → ℕ → Memory → SehContext → Option ℕ → Answer Step
abi_numbered t base m c None = leaf_answer c (unwinds.shown (leaf m (abi_context c)))
abi_numbered t base m c (Some k) = abi_answer (slice_index_or t.ranges k no_range) c
    (unwinds.shown_each (numbered t base m (abi_context c) k))

abbrev pub abi_in : Tables → ℕ → Memory → SehContext → Answer Step
abi_in t base m c = abi_numbered t base m c (index_from 0 (distance base c.rip) t.ranges)

-- ---- by one of the two

-- the code of the entry that covers RIP, and the caller, with that entry read when it is asked;
-- what is refused is an image, a table, an entry that is asked, or a word of the stack
abbrev pub step_in : Bool → Tables → ℕ → Memory → SehContext → Answer Step
step_in true t base m c = own_in t base m c
step_in false t base m c = abi_in t base m c

-- in a walk the stack pointer rises
abbrev pub if_rising : ℕ → Step → Bool → Answer Step
if_rising rsp s true = Ok s
if_rising rsp s false = Err (refusals.Unwinding (Backward rsp))

abbrev pub risen : SehContext → Step → Answer Step
risen c s = if_rising c.rsp s (nat_lt c.rsp s.caller.rsp)

abbrev pub step_within : Bool → Image → ℕ → List SehRange → SehContext → Answer Step
step_within own image base ranges c = do
  t ← table_of image
  step_in own t base (snapshot image base ranges) c

abbrev pub step_from : Bool → ImageLayout → List ℕ → ℕ → List SehRange → SehContext → Answer Step
step_from own layout bytes base ranges c = do
  image ← opened layout bytes
  step_within own image base ranges c

-- bytes: of an image, which lies at base; ranges: of the memory
abbrev pub unwound : Bool → ImageLayout → List ℕ → ℕ → List SehRange → SehContext → Answer Step
unwound own layout bytes base ranges c = do
  _ ← ranges_checked 0 0 ranges
  step_from own layout bytes base ranges c

-- ---- the entry of an address

abbrev pub function_numbered : Tables → ℕ → Answer SehFunction
function_numbered t k = do
  e ← of_table (entry_at t k)
  Ok (c_function e)

abbrev pub found_at : Tables → ℕ → Answer (Option SehFunction)
found_at t rva = do
  o ← of_table (entry_covering t rva)
  Ok (option_map c_function o)

abbrev pub found_within : Image → ℕ → Answer (Option SehFunction)
found_within image rva = do
  t ← table_of image
  found_at t rva

abbrev pub found_in : ImageLayout → List ℕ → ℕ → Answer (Option SehFunction)
found_in layout bytes rva = do
  image ← opened layout bytes
  found_within image rva
