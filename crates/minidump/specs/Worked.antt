-- A dump that is written out, byte by byte: three entries in its directory, of which the last two
-- are thread lists; one thread; what is read of it, and how it is refused where it is bent.
--
-- The main definition: `worked`.
use Rattle.std.specs.Prelude.{◌≡◌, ℕ, List, [], ◌∷◌, ◌++◌, take, replicate, Some, None, Ok, Err}
use Rattle.minidump.specs.declared.refusal.DumpErr.TheVariants as refusals
use Rattle.minidump.specs.declared.stream_kind.StreamKind.TheVariants as kinds
use Rattle.minidump.specs.declared.structures.Table.{Table}
use Rattle.minidump.specs.Streams.{directory, stream}
use Rattle.minidump.specs.Lists.{threads, thread_of, modules, text}

-- Signature `MDMP`; Version A793h and 1234h; NumberOfStreams 3; StreamDirectoryRva 20h; CheckSum;
-- TimeDateStamp; Flags
abbrev pub header : List ℕ
header =
    77 ∷ 68 ∷ 77 ∷ 80 ∷ 147 ∷ 167 ∷ 52 ∷ 18 ∷ 3 ∷ 0 ∷ 0 ∷ 0 ∷ 32 ∷ 0 ∷ 0 ∷ 0 ∷ replicate 16 0

-- StreamType, DataSize, Rva: an unused stream; a thread list of 52 bytes at 44h; another one, which
-- passes the end of the file
abbrev pub entries : List ℕ
entries =
    0 ∷ 0 ∷ 0 ∷ 0 ∷ 255 ∷ 255 ∷ 255 ∷ 255 ∷ 255 ∷ 255 ∷ 255 ∷ 255 ∷ 3 ∷ 0 ∷ 0 ∷ 0 ∷ 52 ∷ 0 ∷ 0 ∷ 0 ∷
    68 ∷ 0 ∷ 0 ∷ 0 ∷ 3 ∷ 0 ∷ 0 ∷ 0 ∷ 52 ∷ 0 ∷ 0 ∷ 0 ∷ 255 ∷ 255 ∷ 0 ∷ 0 ∷ []

-- NumberOfThreads 1; ThreadId 24h; SuspendCount 0; PriorityClass 20h; Priority 0; Teb 7FFE0000h;
-- Stack: StartOfMemoryRange 21FF00h, DataSize 100h, Rva 1000h; ThreadContext: DataSize 4D0h, Rva
-- 800h
abbrev pub thread_list : List ℕ
thread_list =
    1 ∷ 0 ∷ 0 ∷ 0 ∷ 36 ∷ 0 ∷ 0 ∷ 0 ∷ 0 ∷ 0 ∷ 0 ∷ 0 ∷ 32 ∷ 0 ∷ 0 ∷ 0 ∷ 0 ∷ 0 ∷ 0 ∷ 0 ∷ 0 ∷ 0 ∷ 254 ∷
    127 ∷ 0 ∷ 0 ∷ 0 ∷ 0 ∷ 0 ∷ 255 ∷ 33 ∷ 0 ∷ 0 ∷ 0 ∷ 0 ∷ 0 ∷ 0 ∷ 1 ∷ 0 ∷ 0 ∷ 0 ∷ 16 ∷ 0 ∷ 0 ∷ 208 ∷
    4 ∷ 0 ∷ 0 ∷ 0 ∷ 8 ∷ 0 ∷ 0 ∷ []

-- Length 4; the units of `ab`, and what ends them
abbrev pub name : List ℕ
name = 4 ∷ 0 ∷ 0 ∷ 0 ∷ 97 ∷ 0 ∷ 98 ∷ 0 ∷ 0 ∷ 0 ∷ []

abbrev pub worked : List ℕ
worked = header ++ entries ++ thread_list ++ name

abbrev pub worked_directory : Table
worked_directory = record { at = 32; count = 3 }

abbrev pub DirectoryIsRead : Type 0
DirectoryIsRead = directory worked ≡ Ok worked_directory

abbrev pub FirstStreamCounts : Type 0
FirstStreamCounts =
    stream worked worked_directory kinds.ThreadList ≡ Ok (Some (record { size = 52; rva = 68 }))

abbrev pub ListIsRead : Type 0
ListIsRead = threads worked worked_directory ≡ Ok (Some (record { at = 72; count = 1 }))

abbrev pub ThreadIsRead : Type 0
ThreadIsRead =
    thread_of worked (record { at = 72; count = 1 }) 0 ≡ Some (record {
      thread_id = 36;
      suspend_count = 0;
      priority_class = 32;
      priority = 0;
      teb = 2147352576;
      stack = record { start = 2227968; memory = record { size = 256; rva = 4096 } };
      context = record { size = 1232; rva = 2048 };
    })

abbrev pub MissingIsNone : Type 0
MissingIsNone = modules worked worked_directory ≡ Ok None

abbrev pub NameIsRead : Type 0
NameIsRead = text worked 120 ≡ Ok (97 ∷ 0 ∷ 98 ∷ 0 ∷ [])

-- without the last byte of the thread list
abbrev pub StreamIsRefused : Type 0
StreamIsRefused =
    stream (take 119 worked) worked_directory kinds.ThreadList
    ≡ Err (refusals.StreamTruncated kinds.ThreadList)

-- without the last byte of the directory
abbrev pub DirectoryIsRefused : Type 0
DirectoryIsRefused = directory (take 67 worked) ≡ Err (refusals.DirectoryTruncated 32)
