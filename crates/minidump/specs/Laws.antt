-- That a list that was found has all of its records, that no stream hangs on the bytes of another,
-- and that the places of a 64-bit memory list follow one another.
--
-- The main definitions: `RecordsAreThere`, `StreamsAreApart`, `FirstIsPlace`, `NextIsPlace`.
use Rattle.std.specs.Prelude.{◌≡◌, ℕ, ◌+◌, ◌*◌, ◌<◌, List, length, Some, Ok}
use Rattle.minidump.specs.declared.stream_kind.StreamKind.{StreamKind}
use Rattle.minidump.specs.declared.structures.Memory64List.{Memory64List}
use Rattle.minidump.specs.declared.structures.MemoryRange.{MemoryRange}
use Rattle.minidump.specs.declared.structures.RangePlace.{RangePlace}
use Rattle.minidump.specs.declared.structures.Table.{Table}
use Rattle.minidump.specs.Streams.{AreWhole, streams, stream}
use Rattle.minidump.specs.Lists.{record_at}
use Rattle.minidump.specs.Memory.{range64, IsPlace}

-- each record of a table that lies in the file is there
abbrev pub RecordsAreThere : Type 0
RecordsAreThere =
    (bytes : List ℕ) (t : Table) (size index : ℕ) → AreWhole bytes size t → index < t.count
    → record_at bytes t size index ≡ Some (t.at + size * index)

-- where a stream lies, or that it is refused, hangs on the directory and on how many bytes the file
-- has
abbrev pub StreamsAreApart : Type 0
StreamsAreApart =
    (a b : List ℕ) (directory : Table) (kind : StreamKind) → length a ≡ length b
    → streams a directory ≡ streams b directory
    → stream a directory kind ≡ stream b directory kind

-- the first range of a 64-bit memory list is at its place
abbrev pub FirstIsPlace : Type 0
FirstIsPlace =
    (bytes : List ℕ) (l : Memory64List) → IsPlace bytes l (record { index = 0; at = l.base_rva })

-- and each next one is at its place, if the one before is
abbrev pub NextIsPlace : Type 0
NextIsPlace =
    (bytes : List ℕ) (l : Memory64List) (place next : RangePlace) (r : MemoryRange)
    → IsPlace bytes l place → range64 bytes l.ranges place ≡ Ok (Some (r, next))
    → IsPlace bytes l next
