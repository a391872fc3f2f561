-- A worked function whose unwind info has version 2.
use Rattle.std.specs.Prelude.{◌≡◌, ℕ, List, [], ◌∷◌, Ok, Err}
use Rattle.pe_image.specs.Image.{Image}
use Rattle.eh_tables.specs.declared.range.RuntimeFunction.{RuntimeFunction}
use Rattle.eh_tables.specs.declared.refusal.TableErr.TheVariants.{Op, Version}
use Rattle.eh_tables.specs.EitherInfos.{epilogue_slots}
use Rattle.eh_tables.specs.Tables.{Tables}
use Rattle.abi_unwind.specs.declared.each.EntryErr.TheVariants.{Table}
use Rattle.abi_unwind.specs.Rows.{worked_memory, context_at, numbers_of}
use Rattle.abi_unwind.specs.Caller.{AbiFrame}
use Rattle.abi_unwind.specs.Each.{Each, abi_caller_each}
use Rattle.abi_unwind.specs.Version2.{epilogues_of}

-- `push rdi; sub rsp,20h; nop`, then twice `add rsp,20h; pop rdi; ret` with a `nop` between: pops
-- and `ret` at 0A and at 11. RDI pushed at 01, 32 bytes allocated at 05
abbrev pub twice : List ℕ
twice =
    0x57 ∷ 0x48 ∷ 0x83 ∷ 0xEC ∷ 0x20 ∷ 0x90 ∷ 0x48 ∷ 0x83 ∷ 0xC4 ∷ 0x20 ∷ 0x5F ∷ 0xC3 ∷ 0x90 ∷ 0x48
    ∷ 0x83 ∷ 0xC4 ∷ 0x20 ∷ 0x5F ∷ 0xC3 ∷ []

-- epilogues of two bytes: one at the end, and one 9 bytes before it; the last one alone, and
-- padding; the first one alone
abbrev pub both_listed : List ℕ
both_listed = 2 ∷ 5 ∷ 4 ∷ 0 ∷ 2 ∷ 0x16 ∷ 9 ∷ 0x06 ∷ 5 ∷ 0x32 ∷ 1 ∷ 0x70 ∷ []

abbrev pub last_listed : List ℕ
last_listed = 2 ∷ 5 ∷ 4 ∷ 0 ∷ 2 ∷ 0x16 ∷ 0 ∷ 0x06 ∷ 5 ∷ 0x32 ∷ 1 ∷ 0x70 ∷ []

abbrev pub first_listed : List ℕ
first_listed = 2 ∷ 5 ∷ 4 ∷ 0 ∷ 2 ∷ 0x06 ∷ 9 ∷ 0x06 ∷ 5 ∷ 0x32 ∷ 1 ∷ 0x70 ∷ []

-- an image whose unwind info lies at 3000, with one entry
abbrev pub image_of : List ℕ → Image
image_of bytes =
    record {
      base = 0x400000;
      entry = 0;
      size = 0x4000;
      sections =
          record { name = []; address = 0x3000; size = 0x1000; raw = bytes; flags = 0 } ∷ [];
      imports = record { rva = 0; size = 0 };
      exceptions = record { rva = 0; size = 0 };
    }

abbrev pub own_range : RuntimeFunction
own_range = record { begin = 0x2000; end = 0x2013; unwind_info = 0x3000 }

abbrev pub tables_of : List RuntimeFunction → List ℕ → Tables
tables_of ranges bytes = record { image = image_of bytes; ranges = ranges }

abbrev pub caller_at : List RuntimeFunction → List ℕ → ℕ → Each AbiFrame
caller_at ranges bytes d =
    abi_caller_each (tables_of ranges bytes) 0x400000 (worked_memory twice) (context_at d 5)

abbrev pub numbers_each : Each AbiFrame → List ℕ
numbers_each (Ok f) = numbers_of (Ok f)
numbers_each (Err e) = []

abbrev pub numbers_at : List ℕ → ℕ → List ℕ
numbers_at bytes d = numbers_each (caller_at (own_range ∷ []) bytes d)

-- a slot of epilogues after a code, and version 3
abbrev pub late_listed : List ℕ
late_listed = 2 ∷ 5 ∷ 3 ∷ 0 ∷ 5 ∷ 0x32 ∷ 2 ∷ 0x16 ∷ 1 ∷ 0x70 ∷ 0 ∷ 0 ∷ []

abbrev pub unknown_version : List ℕ
unknown_version = 3 ∷ 5 ∷ 0 ∷ 0 ∷ []

-- the same function beside one whose info isn't stored
abbrev pub beside_another : List RuntimeFunction
beside_another = record { begin = 0x1000; end = 0x1010; unwind_info = 0x5000 } ∷ own_range ∷ []

-- the frame whole, after `add rsp`, and after the pop
abbrev pub whole : List ℕ
whole = 0x10000 ∷ 0x1005 ∷ 0x10030 ∷ 3 ∷ 5 ∷ 0x1004 ∷ []

abbrev pub pushed : List ℕ
pushed = 0x10000 ∷ 0x1001 ∷ 0x10010 ∷ 3 ∷ 5 ∷ 0x1000 ∷ []

abbrev pub returning : List ℕ
returning = 0x10000 ∷ 0x1000 ∷ 0x10008 ∷ 3 ∷ 5 ∷ 7 ∷ []

pub record ListedEpilogues : Type 0 where
  pub both : epilogues_of (epilogue_slots both_listed) ≡ record { size = 2; starts = 2 ∷ 9 ∷ [] }
  pub last : epilogues_of (epilogue_slots last_listed) ≡ record { size = 2; starts = 2 ∷ [] }
  pub first : epilogues_of (epilogue_slots first_listed) ≡ record { size = 2; starts = 9 ∷ [] }
  pub in_prologue : numbers_at both_listed 1 ≡ pushed
  pub body : numbers_at both_listed 5 ≡ whole
  pub before_pop : numbers_at both_listed 6 ≡ whole
  pub at_pop : numbers_at both_listed 0x0A ≡ pushed
  pub at_return : numbers_at both_listed 0x0B ≡ returning
  pub between : numbers_at both_listed 0x0C ≡ whole
  pub at_last_pop : numbers_at both_listed 0x11 ≡ pushed
  pub at_last_return : numbers_at last_listed 0x12 ≡ returning
  -- where none is listed, none is looked for
  pub unlisted : numbers_at last_listed 0x0B ≡ whole
  pub unlisted_last : numbers_at first_listed 0x12 ≡ whole
  -- one refused entry refuses itself alone
  pub late : caller_at (own_range ∷ []) late_listed 5 ≡ Err (Table (Op 0 1))
  pub unknown : caller_at (own_range ∷ []) unknown_version 5 ≡ Err (Table (Version 0 3))
  pub beside : numbers_each (caller_at beside_another both_listed 0x0A) ≡ pushed
