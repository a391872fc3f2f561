-- The lists of threads and modules, the exception and the system (Windows headers,
-- minidumpapiset.h: MINIDUMP_THREAD_LIST, MINIDUMP_MODULE_LIST, MINIDUMP_STRING,
-- MINIDUMP_EXCEPTION_STREAM, MINIDUMP_SYSTEM_INFO).
--
-- The main definitions: `threads`, `thread_of`, `modules`, `module_of`, `text`, `exception`,
-- `system_info`.
use Rattle.std.specs.Prelude.{ℕ, zero, suc, ◌+◌, ◌*◌, ◌%◌, ◌&&◌, ◌==◌, nat_lt, nat_le, List, [], ◌∷◌, take, drop, if◌then◌else◌, option_map, Option, Some, None, Result, Ok}
use Rattle.seh_num.specs.Answers.{unless, ◌>>=◌}
use Rattle.pe_image.specs.Field.{field, is_there}
use Rattle.minidump.specs.declared.layout.TheConstants.{COUNT_SIZE, THREAD_SIZE, THREAD_ID, SUSPEND_COUNT, PRIORITY_CLASS, PRIORITY, TEB, STACK, THREAD_CONTEXT, MODULE_SIZE, BASE_OF_IMAGE, SIZE_OF_IMAGE, CHECK_SUM, TIME_DATE_STAMP, MODULE_NAME_RVA, CV_RECORD, STRING_LENGTH_SIZE, UNIT_SIZE, START_OF_MEMORY_RANGE, MEMORY, EXCEPTION_STREAM_SIZE, EXCEPTION_THREAD_ID, EXCEPTION_CODE, EXCEPTION_FLAGS, EXCEPTION_RECORD, EXCEPTION_ADDRESS, NUMBER_PARAMETERS, EXCEPTION_INFORMATION, EXCEPTION_MAXIMUM_PARAMETERS, EXCEPTION_CONTEXT, SYSTEM_INFO_SIZE, PROCESSOR_ARCHITECTURE, MAJOR_VERSION, MINOR_VERSION, BUILD_NUMBER, PLATFORM_ID}
use Rattle.minidump.specs.declared.refusal.DumpErr.{DumpErr}
use Rattle.minidump.specs.declared.refusal.DumpErr.TheVariants as refusals
use Rattle.minidump.specs.declared.stream_kind.StreamKind.{StreamKind}
use Rattle.minidump.specs.declared.stream_kind.StreamKind.TheVariants as kinds
use Rattle.minidump.specs.declared.structures.Exception.{Exception}
use Rattle.minidump.specs.declared.structures.Location.{Location}
use Rattle.minidump.specs.declared.structures.MemoryDescriptor.{MemoryDescriptor}
use Rattle.minidump.specs.declared.structures.Module.{Module}
use Rattle.minidump.specs.declared.structures.SystemInfo.{SystemInfo}
use Rattle.minidump.specs.declared.structures.Table.{Table}
use Rattle.minidump.specs.declared.structures.Thread.{Thread}
use Rattle.minidump.specs.Streams.{location_at, held}

-- ---- lists

-- a count, and that many records of one size, in the bytes of a stream
abbrev pub list_in : List ℕ → StreamKind → ℕ → Location → Result Table DumpErr
list_in bytes kind size l = do
  _ ← unless (nat_le COUNT_SIZE l.size && nat_le (COUNT_SIZE + size * field 4 bytes l.rva) l.size)
      (refusals.StreamShort kind)
  Ok (record { at = l.rva + COUNT_SIZE; count = field 4 bytes l.rva })

abbrev pub list : List ℕ → Table → StreamKind → ℕ → Result (Option Table) DumpErr
list bytes directory kind size = held bytes directory kind (list_in bytes kind size)

-- the offset of the record of an index, if the table has it and the file holds it
abbrev pub record_at : List ℕ → Table → ℕ → ℕ → Option ℕ
record_at bytes t size index =
    if nat_lt index t.count && is_there bytes (t.at + size * index) size
    then Some (t.at + size * index)
    else None

-- so many numbers of 64 bits, from the k-th after an offset on
abbrev pub words : List ℕ → ℕ → ℕ → ℕ → List ℕ
words bytes at k zero = []
words bytes at k (suc n) = field 8 bytes (at + 8 * k) ∷ words bytes at (k + 1) n

-- ---- threads

abbrev pub memory_descriptor_at : List ℕ → ℕ → MemoryDescriptor
memory_descriptor_at bytes at = record {
  start = field 8 bytes (at + START_OF_MEMORY_RANGE);
  memory = location_at bytes (at + MEMORY);
}

abbrev pub thread_at : List ℕ → ℕ → Thread
thread_at bytes at = record {
  thread_id = field 4 bytes (at + THREAD_ID);
  suspend_count = field 4 bytes (at + SUSPEND_COUNT);
  priority_class = field 4 bytes (at + PRIORITY_CLASS);
  priority = field 4 bytes (at + PRIORITY);
  teb = field 8 bytes (at + TEB);
  stack = memory_descriptor_at bytes (at + STACK);
  context = location_at bytes (at + THREAD_CONTEXT);
}

-- the threads of a dump, and that of an index
abbrev pub threads : List ℕ → Table → Result (Option Table) DumpErr
threads bytes directory = list bytes directory kinds.ThreadList THREAD_SIZE

abbrev pub thread_of : List ℕ → Table → ℕ → Option Thread
thread_of bytes t index = option_map (thread_at bytes) (record_at bytes t THREAD_SIZE index)

-- ---- modules

abbrev pub module_at : List ℕ → ℕ → Module
module_at bytes at = record {
  base = field 8 bytes (at + BASE_OF_IMAGE);
  size = field 4 bytes (at + SIZE_OF_IMAGE);
  check_sum = field 4 bytes (at + CHECK_SUM);
  time_date_stamp = field 4 bytes (at + TIME_DATE_STAMP);
  name_rva = field 4 bytes (at + MODULE_NAME_RVA);
  cv_record = location_at bytes (at + CV_RECORD);
}

abbrev pub modules : List ℕ → Table → Result (Option Table) DumpErr
modules bytes directory = list bytes directory kinds.ModuleList MODULE_SIZE

abbrev pub module_of : List ℕ → Table → ℕ → Option Module
module_of bytes t index = option_map (module_at bytes) (record_at bytes t MODULE_SIZE index)

-- the UTF-16 units of the string at an offset, as bytes: its length is in front of it
abbrev pub text : List ℕ → ℕ → Result (List ℕ) DumpErr
text bytes at = do
  _ ← unless (is_there bytes at STRING_LENGTH_SIZE) (refusals.StringTruncated at)
  _ ← unless (is_there bytes (at + STRING_LENGTH_SIZE) (field 4 bytes at))
      (refusals.StringTruncated at)
  _ ← unless (field 4 bytes at % UNIT_SIZE == 0) (refusals.StringOdd at)
  Ok (take (field 4 bytes at) (drop (at + STRING_LENGTH_SIZE) bytes))

-- ---- the exception

abbrev pub exception_at : List ℕ → ℕ → Exception
exception_at bytes at = record {
  thread_id = field 4 bytes (at + EXCEPTION_THREAD_ID);
  exception_code = field 4 bytes (at + EXCEPTION_CODE);
  exception_flags = field 4 bytes (at + EXCEPTION_FLAGS);
  exception_record = field 8 bytes (at + EXCEPTION_RECORD);
  exception_address = field 8 bytes (at + EXCEPTION_ADDRESS);
  number_parameters = field 4 bytes (at + NUMBER_PARAMETERS);
  information = words bytes (at + EXCEPTION_INFORMATION) 0 EXCEPTION_MAXIMUM_PARAMETERS;
  context = location_at bytes (at + EXCEPTION_CONTEXT);
}

-- one structure, in the bytes of a stream
abbrev pub structure_in : {A : Type 0} → (ℕ → A) → StreamKind → ℕ → Location → Result A DumpErr
structure_in read kind size l = do
  _ ← unless (nat_le size l.size) (refusals.StreamShort kind)
  Ok (read l.rva)

abbrev pub exception : List ℕ → Table → Result (Option Exception) DumpErr
exception bytes directory =
    held bytes directory kinds.Exception
    (structure_in (exception_at bytes) kinds.Exception EXCEPTION_STREAM_SIZE)

-- ---- the system

abbrev pub system_info_at : List ℕ → ℕ → SystemInfo
system_info_at bytes at = record {
  processor_architecture = field 2 bytes (at + PROCESSOR_ARCHITECTURE);
  major_version = field 4 bytes (at + MAJOR_VERSION);
  minor_version = field 4 bytes (at + MINOR_VERSION);
  build_number = field 4 bytes (at + BUILD_NUMBER);
  platform_id = field 4 bytes (at + PLATFORM_ID);
}

abbrev pub system_info : List ℕ → Table → Result (Option SystemInfo) DumpErr
system_info bytes directory =
    held bytes directory kinds.SystemInfo
    (structure_in (system_info_at bytes) kinds.SystemInfo SYSTEM_INFO_SIZE)
