-- Where the verdict on an image is yes, the callers of its frames are found as it is loaded.
use Rattle.std.proofs.Common.{◌+◌, ◌∙◌, arith}
use Rattle.eh_tables.specs.Tables.{entries_of}
use Rattle.virtual_unwind.specs.CallerOf.{distance}
use Rattle.unwind_check.specs.Laws.{IsPlaced}
use Rattle.unwind_check.proofs.PartCallers.{rules_find_callers}
use Rattle.image_code.specs.Code.{code_of}
use Rattle.image_code.specs.Frames.{YesFindsCallers}
use Rattle.image_code.specs.Verdicts.{checked_code}
use Rattle.image_code.proofs.LoadedCode.{loaded_code}
use Rattle.image_code.proofs.EntryBounds.{bounded_entry, bounded_entries}

pub yes_finds_callers : YesFindsCallers
yes_finds_callers bytes probe t n entry e s d is verdict code covers away rip state =
    let b = bounded_entry bytes t (distance t.image.base s.cpu.rip) entry is covers in
    let base = is.low in
    let end = b.end in
    let placed : IsPlaced (code_of t.image) (entries_of t) entry t.image.base s.memory = record {
      low = λ k e lt. let other = (bounded_entries bytes t is k e lt).end in
          omega (arith, base, other);
      code = λ at lt. code (t.image.base + at)
          ∙ loaded_code bytes t.image 15 at is.octets is.read is.low (omega (arith, end, lt));
    } in
    rules_find_callers t (checked_code t.image probe) n entry e s d verdict covers away placed rip
    state
