-- In a table that was read whole, entries that are read one by one give the same caller.
use Rattle.std.proofs.Common.{◌≡◌, ℕ, Bool, true, false, ◌==◌, not, if◌then◌else◌, List, Option, Some, None, Ok, refl, ap, ◌∙◌}
use Rattle.flat_memory.specs.Memory.{Memory}
use Rattle.seh_num.specs.Answers.{◌>>=◌}
use Rattle.eh_tables.specs.declared.layout.TheConstants.{UNWIND_VERSION, UNWIND_VERSION_2}
use Rattle.eh_tables.specs.EitherInfos.{epilogue_slots}
use Rattle.eh_tables.specs.Infos.{version}
use Rattle.eh_tables.specs.Tables.{Entry, Tables, TablesAreWhole, covers_address, entries_of, holding}
use Rattle.virtual_unwind.specs.CallerOf.{Functions, distance, functions_of}
use Rattle.abi_unwind.specs.declared.context.AbiContext.{AbiContext}
use Rattle.abi_unwind.specs.declared.tail.End.{End}
use Rattle.abi_unwind.specs.declared.tail.Part.{Part}
use Rattle.abi_unwind.specs.declared.tail.End.TheVariants.{Certain, JumpsTo}
use Rattle.abi_unwind.specs.Tail as whole
use Rattle.abi_unwind.specs.Tail.{Tail, parts_if, tail_at}
use Rattle.abi_unwind.specs.Caller as caller
use Rattle.abi_unwind.specs.Caller.{abi_at, leaves_inside, leaves_to, abi_caller}
use Rattle.abi_unwind.specs.Version2.{is_listed, may_end}
use Rattle.abi_unwind.specs.Each.{Each, of_table, of_unwind, covering, leaves, is_end, kept, tail_if, of_entry, abi_caller_each}
use Rattle.abi_unwind.specs.EachLaws.{EachIsWhole}
use Rattle.abi_unwind.proofs.CoveringAlike.{finds_alike}

module _ (t : Tables) (base : ℕ) (m : Memory) (c : AbiContext) (w : TablesAreWhole t) where
  abbrev functions : Functions
  functions = record (functions_of t) { base = base }

  abbrev rva : ℕ
  rva = distance base c.general.rip

  covering_is : (a : ℕ) → covering t a ≡ Ok (holding a (entries_of t))
  covering_is a = ap of_table (finds_alike t a w).covering

  leaves_is : (e : Entry) (to : ℕ) → leaves t base e to ≡ Ok (caller.leaves functions e to)
  leaves_is e to = go (covers_address (distance base to) e.range)
    where
      go : (inside : Bool)
          → (if inside then Ok (leaves_inside e (distance base to))
          else (covering t (distance base to) >>= λ o. Ok (leaves_to e (distance base to) o)))
          ≡ Ok (if inside then leaves_inside e (distance base to)
          else leaves_to e (distance base to) (holding (distance base to) (entries_of t)))
      go true = refl
      go false = ap (λ (r : Each (Option Entry)). r
          >>= λ o. (let a : Each Bool = Ok (leaves_to e (distance base to) o) in a))
          (covering_is (distance base to))

  end_is : (e : Entry) (x : End)
      → is_end t base e x ≡ Ok (whole.is_end (caller.leaves functions e) x)
  end_is e Certain = refl
  end_is e (JumpsTo a) = leaves_is e a

  tail_is : (e : Entry) (o : Option Tail)
      → (kept t base e o >>= λ parts. of_unwind (abi_at m c rva e parts))
      ≡ of_unwind (abi_at m c rva e (whole.kept (caller.leaves functions e) o))
  tail_is e None = refl
  tail_is e (Some tail) = ap (λ (r : Each Bool).
      (r >>= λ b. (let a : Each (Option (List Part)) = Ok (parts_if tail b) in a))
      >>= λ parts. of_unwind (abi_at m c rva e parts)) (end_is e tail.end)

  -- of version 1 no epilogues are listed
  may_end_there : (e : Entry) → version e.info.bytes ≡ UNWIND_VERSION → may_end e rva ≡ true
  may_end_there e is = ap (λ v. if v == UNWIND_VERSION_2
      then is_listed e.range.end rva (epilogue_slots e.info.bytes) else true) is

  entry_is : (o : Option Entry) → holding rva (entries_of t) ≡ o
      → of_entry t base m c o ≡ of_unwind (caller.of_entry functions m c o)
  entry_is None is = refl
  entry_is (Some e) is =
      let tail = tail_at e.info.frame_register m c.general.rip in
      ap (λ b. kept t base e (tail_if tail b) >>= λ parts. of_unwind (abi_at m c rva e parts))
      (may_end_there e ((finds_alike t rva w).version e is))
      ∙ tail_is e tail

pub each_is_whole : EachIsWhole
unfolding abi_caller_each abi_caller
each_is_whole t base m c w =
    ap (λ r. r >>= of_entry t base m c) (covering_is t base m c w (distance base c.general.rip))
    ∙ entry_is t base m c w (holding (distance base c.general.rip) (entries_of t)) refl
