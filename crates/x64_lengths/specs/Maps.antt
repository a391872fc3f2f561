-- The opcode maps as they are read.
--
-- The main definitions: `row`, `mask`, `row_of`, `by_modrm`.
use Rattle.std.specs.Prelude.{ℕ, ◌+◌, ◌*◌, ◌/◌, ◌%◌, Bool, true, false, ◌==◌, if◌then◌else◌, List, [], Option, Some, None, slice_index_or}
use Rattle.x64_instr.specs.Reading.{bit}
use Rattle.x64_maps.specs.declared.cell.Cell.{Cell}
use Rattle.x64_maps.specs.declared.cell.Form.{Form}
use Rattle.x64_maps.specs.declared.cell.Form.TheVariants as forms
use Rattle.x64_maps.specs.declared.cell.Group.{Group}
use Rattle.x64_maps.specs.declared.cell.Group.TheVariants as groups
use Rattle.x64_maps.specs.declared.cell.Prefixed.{Prefixed}
use Rattle.x64_maps.specs.declared.cell.Prefixed.TheVariants as prefixed_rows
use Rattle.x64_maps.specs.declared.cell.Row.{Row}
use Rattle.x64_maps.specs.declared.cell.Row.TheVariants as rows
use Rattle.x64_lengths.specs.declared.spelled.Kind.{Kind}
use Rattle.x64_lengths.specs.declared.spelled.Kind.TheVariants as kinds
use Rattle.x64_lengths.specs.declared.spelled.Spelled.{Spelled}
use Rattle.x64_lengths.specs.declared.spelled.Map.{Map}
use Rattle.x64_lengths.specs.declared.spelled.Map.TheVariants as maps
use Rattle.x64_lengths.specs.declared.spelled.Mandatory.{Mandatory}
use Rattle.x64_lengths.specs.declared.spelled.Mandatory.TheVariants as mandatories
use Rattle.x64_maps.specs.declared.one_byte.TheConstants.{ONE_BYTE}
use Rattle.x64_maps.specs.declared.two_byte.TheConstants.{TWO_BYTE, TWO_BYTE_SPELLINGS}
use Rattle.x64_maps.specs.declared.three_byte_38.TheConstants.{THREE_BYTE_38, THREE_BYTE_38_SPELLINGS}
use Rattle.x64_maps.specs.declared.three_byte_3a.TheConstants.{THREE_BYTE_3A, THREE_BYTE_3A_SPELLINGS}
use Rattle.x64_maps.specs.declared.groups.TheConstants.{GROUPS}
use Rattle.x64_maps.specs.declared.prefixed.TheConstants.{PREFIXED}

-- ---- the places of rows in the tables

abbrev pub group_number : Group → ℕ
group_number groups.One8 = 0
group_number groups.One = 1
group_number groups.OneSigned = 2
group_number groups.OneA = 3
group_number groups.Two8Immediate = 4
group_number groups.TwoImmediate = 5
group_number groups.Two8 = 6
group_number groups.Two = 7
group_number groups.Three8 = 8
group_number groups.Three = 9
group_number groups.Four = 10
group_number groups.Five = 11
group_number groups.Six = 12
group_number groups.Seven = 13
group_number groups.Eight = 14
group_number groups.Nine = 15
group_number groups.Eleven8 = 16
group_number groups.Eleven = 17
group_number groups.Twelve = 18
group_number groups.TwelveVex = 19
group_number groups.TwelveEvex = 20
group_number groups.Thirteen = 21
group_number groups.ThirteenVex = 22
group_number groups.ThirteenEvex = 23
group_number groups.Fourteen = 24
group_number groups.Fourteen66 = 25
group_number groups.FourteenVex = 26
group_number groups.FourteenEvex = 27
group_number groups.Fifteen = 28
group_number groups.Fifteen66 = 29
group_number groups.FifteenF3 = 30
group_number groups.FifteenF2 = 31
group_number groups.FifteenVex = 32
group_number groups.Seventeen = 33
group_number groups.Shadow = 34
group_number groups.Status = 35

abbrev pub prefixed_number : Prefixed → ℕ
prefixed_number prefixed_rows.P1E = 0
prefixed_number prefixed_rows.P2C = 1
prefixed_number prefixed_rows.P41 = 2
prefixed_number prefixed_rows.P44 = 3
prefixed_number prefixed_rows.P71 = 4
prefixed_number prefixed_rows.P72 = 5
prefixed_number prefixed_rows.P73 = 6
prefixed_number prefixed_rows.P77 = 7
prefixed_number prefixed_rows.P78 = 8
prefixed_number prefixed_rows.P79 = 9
prefixed_number prefixed_rows.P7E = 10
prefixed_number prefixed_rows.P90 = 11
prefixed_number prefixed_rows.P91 = 12
prefixed_number prefixed_rows.P92 = 13
prefixed_number prefixed_rows.P93 = 14
prefixed_number prefixed_rows.P98 = 15
prefixed_number prefixed_rows.PAE = 16
prefixed_number prefixed_rows.PD6 = 17
prefixed_number prefixed_rows.P3810 = 18
prefixed_number prefixed_rows.P3811 = 19
prefixed_number prefixed_rows.P3813 = 20
prefixed_number prefixed_rows.P3820 = 21
prefixed_number prefixed_rows.P3890 = 22
prefixed_number prefixed_rows.P38F1 = 23
prefixed_number prefixed_rows.P38F5 = 24
prefixed_number prefixed_rows.P38F6 = 25

abbrev pub mandatory_number : Mandatory → ℕ
mandatory_number mandatories.Nothing = 0
mandatory_number mandatories.P66 = 1
mandatory_number mandatories.PF3 = 2
mandatory_number mandatories.PF2 = 3

abbrev pub kind_number : Kind → ℕ
kind_number kinds.Legacy = 0
kind_number kinds.Vex128 = 1
kind_number kinds.Vex256 = 2
kind_number kinds.Evex = 3

-- the cell in a table of rows
abbrev pub at : List (List Row) → ℕ → ℕ → Row
at table high low = slice_index_or (slice_index_or table high []) low rows.Undefined

-- ---- an opcode's row

unfoldable pub row : Map → ℕ → Row
row maps.OneByte op = at ONE_BYTE (op / 16) (op % 16)
row maps.TwoByte op = at TWO_BYTE (op / 16) (op % 16)
row maps.ThreeByte38 op = at THREE_BYTE_38 (op / 16) (op % 16)
row maps.ThreeByte3A op = at THREE_BYTE_3A (op / 16) (op % 16)

-- the spellings in which an opcode is there: bit 4 * kind + mandatory prefix
abbrev pub mask_at : List (List ℕ) → ℕ → ℕ
mask_at table op = slice_index_or (slice_index_or table (op / 8) []) (op % 8) 0

unfoldable pub mask : Map → ℕ → ℕ
mask maps.OneByte op = 0xF
mask maps.TwoByte op = mask_at TWO_BYTE_SPELLINGS op
mask maps.ThreeByte38 op = mask_at THREE_BYTE_38_SPELLINGS op
mask maps.ThreeByte3A op = mask_at THREE_BYTE_3A_SPELLINGS op

abbrev pub is_there : Spelled → Bool
is_there s =
    bit (4 * kind_number s.extended.kind + mandatory_number s.mandatory) (mask s.map s.opcode) == 1

-- the mandatory prefix chooses
unfoldable pub by_prefix : Kind → Mandatory → Row → Row
by_prefix k m (rows.ByPrefix p) =
    at (slice_index_or PREFIXED (prefixed_number p) []) (kind_number k) (mandatory_number m)
by_prefix k m r = r

abbrev pub row_of : Spelled → Row
row_of s =
    if is_there s then by_prefix s.extended.kind s.mandatory (row s.map s.opcode)
    else rows.Undefined

-- ModRM's mod chooses between memory and register, its reg field one of eight
unfoldable pub by_modrm : ℕ → Row → Row
by_modrm modrm (rows.Group g) =
    at (slice_index_or GROUPS (group_number g) []) (if modrm / 64 == 3 then 1 else 0)
    (modrm / 8 % 8)
by_modrm modrm r = r

-- whether ModRM follows
abbrev pub has_form : Form → Bool
has_form forms.Nothing = false
has_form f = true

abbrev pub has_modrm : Row → Bool
has_modrm (rows.Always c) = has_form c.form
has_modrm (rows.Group g) = true
has_modrm r = false

abbrev pub cell_of : Row → Option Cell
cell_of (rows.Always c) = Some c
cell_of r = None
