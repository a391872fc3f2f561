-- The lines of the view of an image's tables. Addresses are 8 hexadecimal digits, other numbers
-- decimal.
--
-- The main definitions: `view`, `begun_name`.
use Rattle.std.specs.Prelude.{ℕ, ◌+◌, ◌==◌, Bool, if◌then◌else◌, List, [], ◌∷◌, ◌++◌, length, Option, Some, None, Result, Ok, Err, codes}
use Rattle.std.specs.List.{flat_map}
use Rattle.std.specs.Fmt.{decimal}
use Rattle.hex.specs.Hex.{encode_lower}
use Rattle.seh_io.specs.Text.{hexadecimal, ended}
use Rattle.pe_image.specs.Image.{Image}
use Rattle.pe_image.specs.NameRows.{NameRow, names_of, rows_read, row_holding, name_of}
use Rattle.eh_tables.specs.declared.code.UnwindOperation.{UnwindOperation}
use Rattle.eh_tables.specs.declared.code.UnwindOperation.TheVariants.{Push, Allocate, SetFrame, Save, SaveVector, MachineFrame}
use Rattle.eh_tables.specs.declared.code.UnwindCode.{UnwindCode}
use Rattle.eh_tables.specs.declared.layout.TheConstants.{EXCEPTION_EXECUTE_HANDLER}
use Rattle.eh_tables.specs.declared.range.RuntimeFunction.{RuntimeFunction}
use Rattle.eh_tables.specs.declared.refusal.TableErr.{TableErr}
use Rattle.eh_tables.specs.declared.refusal.TableErr.TheVariants as refusals
use Rattle.eh_tables.specs.declared.scope.ScopeRecord.{ScopeRecord}
use Rattle.eh_tables.specs.Infos.{Info}
use Rattle.eh_tables.specs.Refusals.{refusal_name}
use Rattle.eh_tables.specs.Tables.{Entry, entry, directory}

abbrev pub rva_text : ℕ → List ℕ
rva_text rva = hexadecimal 8 rva

abbrev pub spaced : List ℕ → List ℕ
spaced text = codes " " ++ text

-- ---- unwind codes

-- a register's name by its number
unfoldable pub register_name : ℕ → List ℕ
register_name r =
    if r == 0 then codes "rax"
    else (if r == 1 then codes "rcx"
    else (if r == 2 then codes "rdx"
    else (if r == 3 then codes "rbx"
    else (if r == 4 then codes "rsp"
    else (if r == 5 then codes "rbp"
    else (if r == 6 then codes "rsi"
    else (if r == 7 then codes "rdi"
    else (if r == 8 then codes "r8"
    else (if r == 9 then codes "r9"
    else (if r == 10 then codes "r10"
    else (if r == 11 then codes "r11"
    else (if r == 12 then codes "r12"
    else (if r == 13 then codes "r13"
    else (if r == 14 then codes "r14"
    else codes "r15"))))))))))))))

abbrev pub operation_text : UnwindOperation → List ℕ
operation_text (Push r) = codes "push " ++ register_name r
operation_text (Allocate n) = codes "alloc " ++ decimal n
operation_text SetFrame = codes "frame"
operation_text (Save r n) = codes "save " ++ register_name r ++ codes " " ++ decimal n
operation_text (SaveVector r n) = codes "xmm " ++ decimal r ++ codes " " ++ decimal n
operation_text (MachineFrame i) = codes "machine " ++ decimal i

abbrev pub code_begin : UnwindCode → List ℕ
code_begin c = codes " code " ++ decimal c.offset ++ codes " "

abbrev pub code_line : UnwindCode → List ℕ
code_line c = code_begin c ++ ended (operation_text c.operation)

-- ---- scope records

-- a jump of 0 means a `__finally`, and a handler of 1 for a filter that always accepts
abbrev pub filter_text : ℕ → List ℕ
filter_text handler_address =
    if handler_address == EXCEPTION_EXECUTE_HANDLER then codes " always"
    else codes " filter " ++ rva_text handler_address

abbrev pub except_text : ℕ → ℕ → List ℕ
except_text jump_target handler_address =
    filter_text handler_address ++ codes " jump " ++ rva_text jump_target

abbrev pub kind_text : ScopeRecord → List ℕ
kind_text r =
    if r.jump_target == 0 then codes " finally " ++ rva_text r.handler_address
    else except_text r.jump_target r.handler_address

abbrev pub scope_begin : ℕ → ScopeRecord → List ℕ
scope_begin k r =
    codes " scope " ++ decimal k ++ codes " " ++ rva_text r.begin ++ codes " " ++ rva_text r.end

abbrev pub scope_line : ℕ → ScopeRecord → List ℕ
scope_line k r = scope_begin k r ++ ended (kind_text r)

-- from a number on
abbrev pub scope_lines : ℕ → List ScopeRecord → List ℕ
scope_lines k [] = []
scope_lines k (r ∷ rs) = scope_line k r ++ scope_lines (k + 1) rs

-- ---- an entry

abbrev pub range_text : RuntimeFunction → List ℕ
range_text r =
    rva_text r.begin ++ codes " " ++ rva_text r.end ++ codes " " ++ rva_text r.unwind_info

abbrev pub entry_line : ℕ → RuntimeFunction → List ℕ
entry_line index r = ended (codes "entry " ++ decimal index ++ codes " " ++ range_text r)

abbrev pub bytes_line : List ℕ → List ℕ
bytes_line bytes = codes " bytes " ++ ended (encode_lower bytes)

-- no frame register, or one at an offset
abbrev pub frame_text : Info → List ℕ
frame_text i =
    if i.frame_register == 0 then codes " frame - 0"
    else codes " frame " ++ register_name i.frame_register ++ codes " " ++ decimal i.frame_offset

abbrev pub prolog_text : Info → List ℕ
prolog_text i =
    codes " info prolog " ++ decimal i.prologue_size ++ codes " flags " ++ decimal i.flags

abbrev pub info_line : Info → List ℕ
info_line i = prolog_text i ++ ended (frame_text i)

abbrev pub parent_line : Option RuntimeFunction → List ℕ
parent_line None = []
parent_line (Some r) = ended (codes " chain " ++ range_text r)

abbrev pub handler_line : Bool → Option ℕ → List ℕ
handler_line is_c None = []
handler_line is_c (Some rva) =
    ended (codes " handler " ++ rva_text rva ++ (if is_c then codes " c" else codes " other"))

abbrev pub trailer_lines : Info → List ℕ
trailer_lines i = parent_line i.parent ++ handler_line i.has_c_handler i.handler

abbrev pub info_lines : Info → List ℕ
info_lines i =
    bytes_line i.bytes ++ info_line i ++ flat_map code_line i.codes ++ trailer_lines i
    ++ scope_lines 0 i.scopes

-- ---- refusals

-- the number after a refusal's name, where it has one
abbrev pub number_text : TableErr → List ℕ
number_text (refusals.Truncated rva) = spaced (decimal rva)
number_text (refusals.Misaligned rva) = spaced (decimal rva)
number_text (refusals.EmptyRange index) = []
number_text (refusals.Unsorted index) = []
number_text (refusals.Version index found) = spaced (decimal found)
number_text (refusals.Flags index) = []
number_text (refusals.Op index slot) = spaced (decimal slot)
number_text (refusals.CodeOrder index slot) = spaced (decimal slot)
number_text (refusals.ChainLong index) = []
number_text (refusals.ScopeRange index row) = spaced (decimal row)

abbrev pub refusal_text : TableErr → List ℕ
refusal_text e = refusal_name e ++ number_text e

abbrev pub refused_line : ℕ → TableErr → List ℕ
refused_line index e = ended (codes "refused " ++ decimal index ++ codes " " ++ refusal_text e)

-- a directory is refused with its address
abbrev pub directory_number : TableErr → List ℕ
directory_number (refusals.Truncated rva) = spaced (rva_text rva)
directory_number (refusals.Misaligned rva) = spaced (rva_text rva)
directory_number e = number_text e

abbrev pub directory_text : TableErr → List ℕ
directory_text e = refusal_name e ++ directory_number e

abbrev pub refused_table_line : TableErr → List ℕ
refused_table_line e = ended (codes "refused table " ++ directory_text e)

-- ---- the view

-- the name of the function a part of whose code begins where an entry does: that of the number in
-- the row that begins there
abbrev pub name_if_begun : List NameRow → ℕ → Option NameRow → Option (List ℕ)
name_if_begun names rva None = None
name_if_begun names rva (Some r) = if r.begin == rva then name_of r.number names else None

-- the name of the number in the row of the table of names that begins where an entry does. It is
-- the last of the entry's lines, and a cold part has its function's (own).
abbrev pub begun_name : List NameRow → ℕ → Option (List ℕ)
begun_name names rva = name_if_begun names rva (row_holding rva names)

abbrev pub name_line : Option (List ℕ) → List ℕ
name_line None = []
name_line (Some name) = codes " name " ++ ended name

-- an entry's lines, of which its name in a table of names is the last, or the one of its refusal
abbrev pub entry_lines : List NameRow → ℕ → Result Entry TableErr → List ℕ
entry_lines names index (Ok e) =
    entry_line index e.range ++ info_lines e.info ++ name_line (begun_name names e.range.begin)
entry_lines names index (Err e) = refused_line index e

-- from an index on, after an entry that ends there
abbrev pub all_lines : List NameRow → Image → ℕ → ℕ → List RuntimeFunction → List ℕ
all_lines names image index last [] = []
all_lines names image index last (r ∷ rs) =
    entry_lines names index (entry image index last r)
    ++ all_lines names image (index + 1) r.end rs

abbrev pub count_line : ℕ → List ℕ
count_line n = ended (codes "entries " ++ decimal n)

abbrev pub table_lines : List NameRow → Image → Result (List RuntimeFunction) TableErr → List ℕ
table_lines names image (Ok rs) = all_lines names image 0 0 rs ++ count_line (length rs)
table_lines names image (Err e) = refused_table_line e ++ count_line 0

-- the lines of each entry in its order, and a last line that counts them; one line for an entry, or
-- a directory, that is refused
abbrev pub view : Image → List ℕ
view image = table_lines (rows_read (names_of image)) image (directory image)
