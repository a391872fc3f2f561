-- What an instruction may write, and how the flow goes on. A set of registers is a number: bit r
-- for register r.
--
-- The main definitions: `general`, `vectors`, `flow_of`, `effects_of`.
use Rattle.std.specs.Prelude.{ℕ, ◌+◌, ◌-◌, ◌*◌, ◌/◌, ◌%◌, ◌^◌, ◌<◌, Bool, true, false, not, ◌==◌, ◌&&◌, ◌||◌, if◌then◌else◌, Option, Some, None, bit_or}
use Rattle.seh_num.specs.declared.width.Width.TheVariants.{W8, W32, W64}
use Rattle.x64_instr.specs.declared.operand.RegisterOrMemory.{RegisterOrMemory}
use Rattle.x64_instr.specs.declared.operand.RegisterOrMemory.TheVariants as places
use Rattle.x64_instr.specs.Registers.{number}
use Rattle.x64_instr.specs.Reading.{bit, extended}
use Rattle.x64_maps.specs.declared.cell.Cell.{Cell}
use Rattle.x64_maps.specs.declared.cell.Part.{Part}
use Rattle.x64_maps.specs.declared.cell.Part.TheVariants as parts
use Rattle.x64_maps.specs.declared.cell.Vector.{Vector}
use Rattle.x64_maps.specs.declared.cell.Vector.TheVariants as vector_kinds
use Rattle.x64_maps.specs.declared.cell.Ending.{Ending}
use Rattle.x64_maps.specs.declared.cell.Ending.TheVariants as endings
use Rattle.x64_lengths.specs.declared.places.ModRm.{ModRm}
use Rattle.x64_lengths.specs.declared.effects.Flow.{Flow}
use Rattle.x64_lengths.specs.declared.effects.Flow.TheVariants as flows
use Rattle.x64_lengths.specs.declared.effects.Effects.{Effects}
use Rattle.x64_lengths.specs.declared.spelled.Extended.{Extended}
use Rattle.x64_lengths.specs.declared.spelled.Kind.{Kind}
use Rattle.x64_lengths.specs.declared.spelled.Kind.TheVariants as kinds
use Rattle.x64_lengths.specs.declared.spelled.Map.{Map}
use Rattle.x64_lengths.specs.declared.spelled.Map.TheVariants.{OneByte}
use Rattle.x64_lengths.specs.declared.spelled.Mandatory.{Mandatory}
use Rattle.x64_lengths.specs.declared.spelled.Mandatory.TheVariants as mandatories
use Rattle.x64_lengths.specs.declared.spelled.Spelled.{Spelled}

-- ---- general registers

-- without REX the byte registers 4 to 7 are AH, CH, DH and BH
abbrev pub byte_register : Bool → ℕ → ℕ
byte_register has_rex r = if has_rex || not (r / 4 == 1) then r else r - 4

abbrev pub part : Bool → Part → ℕ → ℕ
part has_rex parts.Nothing r = 0
part has_rex parts.Byte r = 2 ^ byte_register has_rex r
part has_rex parts.Whole r = 2 ^ r

abbrev pub place_part : Bool → Part → RegisterOrMemory → ℕ
place_part has_rex w (places.Register r) = part has_rex w (number r)
place_part has_rex w (places.Memory m) = 0

abbrev pub modrm_part : Bool → Cell → Option ModRm → ℕ
modrm_part has_rex c None = 0
modrm_part has_rex c (Some m) = bit_or (place_part has_rex c.rm m.place) (part has_rex c.reg m.reg)

-- the register of the opcode's low bits, with REX.B
abbrev pub low_register : Spelled → ℕ
low_register s = 8 * bit 0 s.prefixes.rex + s.opcode % 8

abbrev pub is_one_byte : Map → Bool
is_one_byte OneByte = true
is_one_byte m = false

-- NOP is 90 but with REX.B, where it would exchange R8 and RAX
abbrev pub is_no_operation : Spelled → Bool
is_no_operation s = is_one_byte s.map && ((s.opcode == 0x90) && (bit 0 s.prefixes.rex == 0))

abbrev pub is_repeat : Mandatory → Bool
is_repeat mandatories.PF2 = true
is_repeat mandatories.PF3 = true
is_repeat m = false

abbrev pub counter : Spelled → Cell → ℕ
counter s c = if c.counted && is_repeat s.legacy.repeat then 2 else 0

abbrev pub vvvv_part : Spelled → Cell → ℕ
vvvv_part s c = if c.vvvv then 2 ^ (s.extended.vvvv % 16) else 0

abbrev pub general : Spelled → Cell → Option ModRm → ℕ
general s c m =
    if is_no_operation s then 0
    else bit_or (bit_or (bit_or c.fixed (counter s c))
    (bit_or (modrm_part s.prefixes.has_rex c m) (part s.prefixes.has_rex c.low (low_register s))))
    (vvvv_part s c)

-- ---- vector registers

-- a number of 4 bits, with a further bit of EVEX
abbrev pub vector : Bool → ℕ → ℕ
vector far r = if far then 2 ^ (r + 16) else 2 ^ r

abbrev pub place_vector : Bool → RegisterOrMemory → ℕ
place_vector far (places.Register r) = vector far (number r)
place_vector far (places.Memory m) = 0

abbrev pub modrm_vector : Extended → Vector → ModRm → ℕ
modrm_vector x vector_kinds.Reg m = vector x.far_reg m.reg
modrm_vector x vector_kinds.Rm m = place_vector x.far_rm m.place
modrm_vector x vector_kinds.RegAndVvvv m = bit_or (vector x.far_reg m.reg) (2 ^ (x.vvvv % 32))
modrm_vector x v m = 0

abbrev pub modrm_vectors : Extended → Vector → Option ModRm → ℕ
modrm_vectors x v None = 0
modrm_vectors x v (Some m) = modrm_vector x v m

abbrev pub vectors : Extended → Vector → Option ModRm → ℕ
vectors x vector_kinds.All m = 0xFFFF_FFFF
vectors x vector_kinds.Xmm0 m = 1
vectors x vector_kinds.Vvvv m = 2 ^ (x.vvvv % 32)
vectors x v m = modrm_vectors x v m

-- ModRM, where its displacement is the address's: not scaled as in EVEX, nor of 32 bits by 67
abbrev pub is_evex : Kind → Bool
is_evex kinds.Evex = true
is_evex k = false

abbrev pub shown : Spelled → Option ModRm → Option ModRm
shown s m = if is_evex s.extended.kind || s.legacy.address_size then None else m

-- ---- the flow

-- an immediate of so many bytes, sign-extended
abbrev pub displacement : ℕ → ℕ → ℕ
displacement n v =
    if n == 1 then extended W8 W64 v else (if n == 4 then extended W32 W64 v else v)

-- INT 29h is Windows' fast fail
abbrev pub flow_of : Ending → ℕ → ℕ → Flow
flow_of endings.Next n v = flows.Next
flow_of endings.Conditional n v = flows.Conditional (displacement n v)
flow_of endings.Jump n v = flows.Jump (displacement n v)
flow_of endings.Call n v = flows.Call (displacement n v)
flow_of endings.Return n v = flows.Return
flow_of endings.JumpIndirect n v = flows.JumpIndirect
flow_of endings.CallIndirect n v = flows.CallIndirect
flow_of endings.Stops n v = flows.Stops
flow_of endings.Interrupt n v = if v == 0x29 then flows.Stops else flows.Next

-- ---- all of it

-- what a cell means with its operands, of which the immediate has n bytes
abbrev pub effects_of : Spelled → Cell → Option ModRm → ℕ → ℕ → Effects
effects_of s c m n v = record {
  general = general s c m;
  vectors = vectors s.extended c.vector m;
  flow = flow_of c.ending n v;
  modrm = shown s m;
}

-- register numbers without EVEX
abbrev pub IsSmall : Option ModRm → Type 0
IsSmall None = Unit {0}
IsSmall (Some m) = m.reg < 16
