-- Which handler is the C handler: one whose code is a jump through the slot of
-- `__C_specific_handler`.
--
-- The main definition: `is_c_handler`.
use Rattle.std.specs.Prelude.{ℕ, ◌+◌, ◌/◌, ◌%◌, ◌^◌, ◌-◌, Bool, true, false, ◌&&◌, ◌==◌, nat_lt, if◌then◌else◌, List, drop, slice_index, option_and_then, Option, Some, None}
use Rattle.std.specs.Option.{option_map_or}
use Rattle.std.specs.Str.{bytes_eq}
use Rattle.host_layout.specs.declared.name.TheConstants.{C_SPECIFIC_HANDLER}
use Rattle.eh_tables.specs.declared.layout.TheConstants.{OPCODE_GROUP_5, MODRM_JUMP_BY_RIP, DISPLACEMENT, JUMP_SIZE, REX}
use Rattle.pe_image.specs.Field.{field}
use Rattle.pe_image.specs.Image.{Image, stored}
use Rattle.pe_image.specs.Bound.{bound_name}
use Rattle.pe_image.specs.Imports.{imports_of}

-- ---- the jump (Intel manual, volume 2, JMP, FF /4, with a displacement from the next instruction)

-- 32 bits, extended by their sign to 64
abbrev pub extended : ℕ → ℕ
extended d = if nat_lt d (2 ^ 31) then d else d + (2 ^ 64 - 2 ^ 32)

abbrev pub is_jump : List ℕ → Bool
is_jump bytes =
    (slice_index bytes 0 == OPCODE_GROUP_5) && (slice_index bytes 1 == MODRM_JUMP_BY_RIP)

abbrev pub slot_if : ℕ → Bool → Option ℕ
slot_if slot true = Some slot
slot_if slot false = None

-- the slot that the jump reads which these bytes at an address begin with
abbrev pub plain_slot : ℕ → List ℕ → Option ℕ
plain_slot rva bytes =
    slot_if ((rva + JUMP_SIZE + extended (field 4 bytes DISPLACEMENT)) % 2 ^ 64) (is_jump bytes)

-- 40 to 4F
abbrev pub begins_with_rex : List ℕ → Bool
begins_with_rex bytes = slice_index bytes 0 / 16 == REX

-- the slot that a jump at an address reads, without the prefix or with it
abbrev pub after_rex : Image → ℕ → List ℕ → Bool → Option ℕ
after_rex image rva bytes true =
    option_and_then (λ all. plain_slot (rva + 1) (drop 1 all))
    (stored image.sections rva (1 + JUMP_SIZE))
after_rex image rva bytes false = plain_slot rva bytes

abbrev pub jump_slot : Image → ℕ → Option ℕ
jump_slot image rva =
    option_and_then (λ bytes. after_rex image rva bytes (begins_with_rex bytes))
    (stored image.sections rva JUMP_SIZE)

-- ---- the name that the slot is bound to

abbrev pub is_c_name : List ℕ → Bool
is_c_name name = bytes_eq name C_SPECIFIC_HANDLER.now

-- at the address is a jump through a slot that is bound (`bound_name`) to `__C_specific_handler`
unfoldable pub is_c_handler : Image → ℕ → Bool
is_c_handler image rva =
    option_map_or is_c_name (option_and_then (λ slot. bound_name slot (imports_of image))
    (jump_slot image rva)) false
