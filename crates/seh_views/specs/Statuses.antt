-- The statuses of answers, by their codes.
use Rattle.std.specs.Prelude.{ℕ}
use Rattle.pe_image.specs.declared.refusal.ImageErr.{ImageErr}
use Rattle.pe_image.specs.declared.refusal.ImageErr.TheVariants as images
use Rattle.eh_tables.specs.declared.refusal.TableErr.{TableErr}
use Rattle.eh_tables.specs.declared.refusal.TableErr.TheVariants as tables
use Rattle.virtual_unwind.specs.declared.refusal.UnwindErr.{UnwindErr}
use Rattle.virtual_unwind.specs.declared.refusal.UnwindErr.TheVariants.{Unreadable, Backward}
use Rattle.seh_views.specs.declared.c_types.SehStatus.{SehStatus}
use Rattle.seh_views.specs.declared.refusal.Refusal.{Refusal}
use Rattle.seh_views.specs.declared.refusal.Refusal.TheVariants.{Range, NoMemory, Image, Table, Unwinding}
use Rattle.seh_views.specs.declared.codes.TheConstants.{OK, BAD_RANGES, NO_MEMORY, MORE, NO_FUNCTION, END, UNKNOWN_CODE, IMAGE_TRUNCATED, IMAGE_NOT_PE, IMAGE_MACHINE, IMAGE_MAGIC, IMAGE_LAYOUT, IMAGE_IMPORT, TABLE_TRUNCATED, TABLE_MISALIGNED, TABLE_EMPTY_RANGE, TABLE_UNSORTED, TABLE_VERSION, TABLE_FLAGS, TABLE_OPERATION, TABLE_CODE_ORDER, TABLE_CHAIN, TABLE_SCOPE, UNREADABLE, BACKWARD}

abbrev pub status : ℕ → ℕ → ℕ → SehStatus
status code at more = record { code = code; at = at; more = more }

abbrev pub ok : SehStatus
ok = status OK 0 0

-- no entry of the function table covers the address
abbrev pub no_function : SehStatus
no_function = status NO_FUNCTION 0 0

-- the array of frames is full, and RIP still lies in the image
abbrev pub more : SehStatus
more = status MORE 0 0

-- memory is wanting
abbrev pub no_memory : SehStatus
no_memory = status NO_MEMORY 0 0

-- RIP is 0
abbrev pub end_of_stack : SehStatus
end_of_stack = status END 0 0

-- RIP lies in no module
abbrev pub unknown_code : ℕ → SehStatus
unknown_code rip = status UNKNOWN_CODE rip 0

abbrev pub image_status : ImageErr → SehStatus
image_status (images.Truncated at) = status IMAGE_TRUNCATED at 0
image_status (images.NotPe at) = status IMAGE_NOT_PE at 0
image_status (images.Machine found) = status IMAGE_MACHINE found 0
image_status (images.Magic found) = status IMAGE_MAGIC found 0
image_status (images.Layout section) = status IMAGE_LAYOUT section 0
image_status (images.ImportBad index) = status IMAGE_IMPORT index 0
image_status images.Memory = status NO_MEMORY 0 0

abbrev pub table_status : TableErr → SehStatus
table_status (tables.Truncated rva) = status TABLE_TRUNCATED rva 0
table_status (tables.Misaligned rva) = status TABLE_MISALIGNED rva 0
table_status (tables.EmptyRange index) = status TABLE_EMPTY_RANGE index 0
table_status (tables.Unsorted index) = status TABLE_UNSORTED index 0
table_status (tables.Version index found) = status TABLE_VERSION index found
table_status (tables.Flags index) = status TABLE_FLAGS index 0
table_status (tables.Op index slot) = status TABLE_OPERATION index slot
table_status (tables.CodeOrder index slot) = status TABLE_CODE_ORDER index slot
table_status (tables.ChainLong index) = status TABLE_CHAIN index 0
table_status (tables.ScopeRange index row) = status TABLE_SCOPE index row

abbrev pub unwind_status : UnwindErr → SehStatus
unwind_status (Unreadable address) = status UNREADABLE address 0
unwind_status (Backward rsp) = status BACKWARD rsp 0

abbrev pub refusal_status : Refusal → SehStatus
refusal_status (Range index) = status BAD_RANGES index 0
refusal_status NoMemory = status NO_MEMORY 0 0
refusal_status (Image e) = image_status e
refusal_status (Table e) = table_status e
refusal_status (Unwinding e) = unwind_status e
