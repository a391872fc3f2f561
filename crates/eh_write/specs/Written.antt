-- The one form in which unwind infos, scope tables and function tables are written.
--
-- `unwind_bytes`, `scope_bytes`, `table_bytes`: the bytes that are written of infos, scope tables
-- and entries.
use Rattle.std.specs.Prelude.{◌≡◌, ℕ, ◌+◌, ◌-◌, ◌*◌, ◌/◌, ◌%◌, ◌<◌, ◌≤◌, Bool, true, ◌&&◌, ◌==◌, nat_lt, nat_le, if◌then◌else◌, List, [], ◌∷◌, ◌++◌, length, replicate}
use Rattle.std.specs.List.{flat_map, AllByRecursion}
use Rattle.seh_num.specs.Widths.{if_set}
pub use Rattle.pe_image.specs.Numbers.{u16, u32}
use Rattle.eh_tables.specs.declared.layout.TheConstants.{MOST_SLOT_BYTES, UWOP_PUSH_NONVOL, UWOP_ALLOC_LARGE, UWOP_ALLOC_SMALL, UWOP_SET_FPREG, UWOP_SAVE_NONVOL, UWOP_SAVE_NONVOL_FAR, UWOP_SAVE_XMM128, UWOP_SAVE_XMM128_FAR, UWOP_PUSH_MACHFRAME, UNWIND_VERSION, UNW_FLAG_EHANDLER, UNW_FLAG_UHANDLER, UNW_FLAG_CHAININFO}
use Rattle.eh_tables.specs.declared.code.UnwindOperation.{UnwindOperation}
use Rattle.eh_tables.specs.declared.code.UnwindOperation.TheVariants.{Push, Allocate, SetFrame, Save, SaveVector, MachineFrame}
use Rattle.eh_tables.specs.declared.code.UnwindCode.{UnwindCode}
use Rattle.eh_tables.specs.declared.range.RuntimeFunction.{RuntimeFunction}
use Rattle.eh_tables.specs.declared.scope.ScopeRecord.{ScopeRecord}
use Rattle.eh_write.specs.declared.unwind_info.Trailer.{Trailer}
use Rattle.eh_write.specs.declared.unwind_info.Trailer.TheVariants.{Nothing, Handler, Parent}
use Rattle.eh_write.specs.declared.unwind_info.UnwindInfo.{UnwindInfo}

-- ---- codes

-- the first slot, by the prologue offset, the operation and its info
abbrev pub slot : ℕ → ℕ → ℕ → List ℕ
slot offset op info = offset ∷ (op + 16 * info) ∷ []

-- a multiple of a unit, whose quotient fits 16 bits
abbrev pub is_short : ℕ → ℕ → Bool
is_short unit n = (n % unit == 0) && nat_lt (n / unit) 65536

-- a size that fits UWOP_ALLOC_SMALL
abbrev pub is_small : ℕ → Bool
is_small n = (n % 8 == 0) && nat_lt 0 n && nat_le n 128

-- the shortest code of each operation
abbrev pub allocation : ℕ → ℕ → List ℕ
allocation offset n =
    if is_small n then slot offset UWOP_ALLOC_SMALL (n / 8 - 1)
    else (if is_short 8 n then slot offset UWOP_ALLOC_LARGE 0 ++ u16 (n / 8)
    else slot offset UWOP_ALLOC_LARGE 1 ++ u32 n)

-- in a unit by one operation, or unscaled by the other
abbrev pub saving : ℕ → ℕ → ℕ → ℕ → ℕ → ℕ → List ℕ
saving offset op far unit register n =
    if is_short unit n then slot offset op register ++ u16 (n / unit)
    else slot offset far register ++ u32 n

abbrev pub operation_bytes : ℕ → UnwindOperation → List ℕ
operation_bytes offset (Push r) = slot offset UWOP_PUSH_NONVOL r
operation_bytes offset (Allocate n) = allocation offset n
operation_bytes offset SetFrame = slot offset UWOP_SET_FPREG 0
operation_bytes offset (Save r n) = saving offset UWOP_SAVE_NONVOL UWOP_SAVE_NONVOL_FAR 8 r n
operation_bytes offset (SaveVector r n) = saving offset UWOP_SAVE_XMM128 UWOP_SAVE_XMM128_FAR 16 r n
operation_bytes offset (MachineFrame i) = slot offset UWOP_PUSH_MACHFRAME i

abbrev pub code_bytes : UnwindCode → List ℕ
code_bytes c = operation_bytes c.offset c.operation

abbrev pub codes_bytes : List UnwindCode → List ℕ
codes_bytes cs = flat_map code_bytes cs

-- ---- unwind infos

abbrev pub trailer_flags : Trailer → ℕ
trailer_flags Nothing = 0
trailer_flags (Handler s u rva) = if_set s UNW_FLAG_EHANDLER + if_set u UNW_FLAG_UHANDLER
trailer_flags (Parent r) = UNW_FLAG_CHAININFO

abbrev pub range_bytes : RuntimeFunction → List ℕ
range_bytes r = u32 r.begin ++ u32 r.end ++ u32 r.unwind_info

abbrev pub trailer_bytes : Trailer → List ℕ
trailer_bytes Nothing = []
trailer_bytes (Handler s u rva) = u32 rva
trailer_bytes (Parent r) = range_bytes r

-- one slot of zeros more where the count of slots is odd
abbrev pub padded : List ℕ → List ℕ
padded slots = slots ++ replicate (length slots % 4) 0

abbrev pub header : UnwindInfo → ℕ → List ℕ
header i size =
    (UNWIND_VERSION + 8 * trailer_flags i.trailer) ∷ i.prologue_size ∷ (size / 2)
    ∷ (i.frame_register + i.frame_offset) ∷ []

unfoldable pub unwind_bytes : UnwindInfo → List ℕ
unwind_bytes i =
    let slots = codes_bytes i.codes.items in
    header i (length slots) ++ padded slots ++ trailer_bytes i.trailer

-- ---- what can be written

-- each operand fits its field, and a frame is set only where there is a frame register
abbrev pub OperationFits : Bool → UnwindOperation → Type 0
OperationFits framed (Push r) = r < 16
OperationFits framed (Allocate n) = Unit {0}
OperationFits framed SetFrame = framed ≡ true
OperationFits framed (Save r n) = r < 16
OperationFits framed (SaveVector r n) = r < 16
OperationFits framed (MachineFrame i) = i < 2

-- no prologue offset is above the one before
abbrev pub AreFalling : ℕ → List UnwindCode → Type 0
AreFalling last [] = Unit {0}
AreFalling last (c ∷ cs) = (c.offset ≤ last) × AreFalling c.offset cs

abbrev pub is_framed : UnwindInfo → Bool
is_framed i = nat_lt 0 i.frame_register

abbrev pub IsTrailer : Trailer → Type 0
IsTrailer t = trailer_flags t ≡ 0 → t ≡ Nothing

pub record CanBeWritten (i : UnwindInfo) : Type 0 where
  pub register : i.frame_register < 16
  pub offset : i.frame_offset % 16 ≡ 0
  pub codes : AllByRecursion (λ c. OperationFits (is_framed i) c.operation) i.codes.items
  pub order : AreFalling 255 i.codes.items
  pub slots : length (codes_bytes i.codes.items) ≤ MOST_SLOT_BYTES
  pub trailer : IsTrailer i.trailer

-- ---- tables

abbrev pub scope_record_bytes : ScopeRecord → List ℕ
scope_record_bytes r = u32 r.begin ++ u32 r.end ++ u32 r.handler_address ++ u32 r.jump_target

-- the count of the rows, and they themselves
abbrev pub scope_bytes : List ScopeRecord → List ℕ
scope_bytes rs = u32 (length rs) ++ flat_map scope_record_bytes rs

abbrev pub table_bytes : List RuntimeFunction → List ℕ
table_bytes rs = flat_map range_bytes rs
