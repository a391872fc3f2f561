-- How a minidump is read: its header, the directory of its streams, and where each stream lies
-- (Windows headers, minidumpapiset.h: MINIDUMP_HEADER, MINIDUMP_DIRECTORY, MINIDUMP_STREAM_TYPE).
--
-- The main definitions: `directory`, `stream`.
use Rattle.std.specs.Prelude.{ℕ, zero, suc, ◌+◌, ◌*◌, ◌≤◌, Bool, ◌==◌, List, [], ◌∷◌, length, take, drop, find, if◌then◌else◌, Option, Some, None, Result, Ok, Err}
use Rattle.seh_num.specs.Answers.{unless, ◌>>=◌}
use Rattle.pe_image.specs.Field.{field, is_there}
use Rattle.minidump.specs.declared.layout.TheConstants.{HEADER_SIZE, SIGNATURE, MINIDUMP_SIGNATURE, VERSION, MINIDUMP_VERSION, NUMBER_OF_STREAMS, STREAM_DIRECTORY_RVA, DIRECTORY_ENTRY_SIZE, STREAM_TYPE, STREAM_LOCATION, DATA_SIZE, RVA}
use Rattle.minidump.specs.declared.refusal.DumpErr.{DumpErr}
use Rattle.minidump.specs.declared.refusal.DumpErr.TheVariants as refusals
use Rattle.minidump.specs.declared.stream_kind.StreamKind.{StreamKind}
use Rattle.minidump.specs.declared.stream_kind.StreamKind.TheVariants as kinds
use Rattle.minidump.specs.declared.structures.Location.{Location}
use Rattle.minidump.specs.declared.structures.Stream.{Stream}
use Rattle.minidump.specs.declared.structures.Table.{Table}

-- the number of a kind of stream
abbrev pub stream_type : StreamKind → ℕ
stream_type kinds.ThreadList = 3
stream_type kinds.ModuleList = 4
stream_type kinds.MemoryList = 5
stream_type kinds.Exception = 6
stream_type kinds.SystemInfo = 7
stream_type kinds.Memory64List = 9

-- so many bytes from an offset on, if the file has them
abbrev pub bytes_at : List ℕ → ℕ → ℕ → Option (List ℕ)
bytes_at bytes at size = if is_there bytes at size then Some (take size (drop at bytes)) else None

-- MINIDUMP_LOCATION_DESCRIPTOR
abbrev pub location_at : List ℕ → ℕ → Location
location_at bytes at = record {
  size = field 4 bytes (at + DATA_SIZE);
  rva = field 4 bytes (at + RVA);
}

abbrev pub is_in_file : List ℕ → Location → Bool
is_in_file bytes l = is_there bytes l.rva l.size

-- ---- the header and the directory

abbrev pub directory_at : List ℕ → ℕ
directory_at bytes = field 4 bytes STREAM_DIRECTORY_RVA

abbrev pub stream_count : List ℕ → ℕ
stream_count bytes = field 4 bytes NUMBER_OF_STREAMS

-- the directory of a file: the checks of its header in their order, each with its refusal
abbrev pub directory : List ℕ → Result Table DumpErr
directory bytes = do
  _ ← unless (is_there bytes 0 HEADER_SIZE) refusals.HeaderTruncated
  _ ← unless (field 4 bytes SIGNATURE == MINIDUMP_SIGNATURE)
      (refusals.Signature (field 4 bytes SIGNATURE))
  _ ← unless (field 2 bytes VERSION == MINIDUMP_VERSION)
      (refusals.Version (field 2 bytes VERSION))
  _ ← unless (is_there bytes (directory_at bytes) (DIRECTORY_ENTRY_SIZE * stream_count bytes))
      (refusals.DirectoryTruncated (directory_at bytes))
  Ok (record { at = directory_at bytes; count = stream_count bytes })

-- records of that size that lie in the file, all of them
abbrev pub AreWhole : List ℕ → ℕ → Table → Type 0
AreWhole bytes size t = t.at + size * t.count ≤ length bytes

-- ---- the streams

abbrev pub stream_at : List ℕ → ℕ → Stream
stream_at bytes at = record {
  stream_type = field 4 bytes (at + STREAM_TYPE);
  location = location_at bytes (at + STREAM_LOCATION);
}

-- so many entries from an offset on
abbrev pub streams_from : List ℕ → ℕ → ℕ → List Stream
streams_from bytes zero at = []
streams_from bytes (suc n) at =
    stream_at bytes at ∷ streams_from bytes n (at + DIRECTORY_ENTRY_SIZE)

abbrev pub streams : List ℕ → Table → List Stream
streams bytes t = streams_from bytes t.count t.at

-- no stream, or one that lies in the file
abbrev pub in_file : List ℕ → StreamKind → Option Stream → Result (Option Location) DumpErr
in_file bytes kind None = Ok None
in_file bytes kind (Some s) = do
  _ ← unless (is_in_file bytes s.location) (refusals.StreamTruncated kind)
  Ok (Some s.location)

-- where the stream of a kind lies: the first of that kind in the directory counts. A kind that the
-- directory doesn't name has none
abbrev pub first_stream : List ℕ → Table → StreamKind → Option Stream
first_stream bytes directory kind =
    find (λ s. s.stream_type == stream_type kind) (streams bytes directory)

abbrev pub stream : List ℕ → Table → StreamKind → Result (Option Location) DumpErr
stream bytes directory kind = in_file bytes kind (first_stream bytes directory kind)

-- what a stream holds, where there is one
abbrev pub some_of : {A : Type 0} → Result A DumpErr → Result (Option A) DumpErr
some_of (Ok x) = Ok (Some x)
some_of (Err e) = Err e

abbrev pub where_found : {A : Type 0} → (Location → Result A DumpErr) → Option Location
    → Result (Option A) DumpErr
where_found read None = Ok None
where_found read (Some l) = some_of (read l)

abbrev pub held : {A : Type 0} → List ℕ → Table → StreamKind → (Location → Result A DumpErr)
    → Result (Option A) DumpErr
held bytes directory kind read = do
  found ← stream bytes directory kind
  where_found read found
