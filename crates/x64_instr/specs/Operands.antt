-- How operands are spelled (Intel manual, volume 2, "Instruction Format").
--
-- The main definition: `is_listed`.
use Rattle.std.specs.Prelude.{ℕ, ◌+◌, ◌*◌, ◌/◌, ◌%◌, Bool, true, not, ◌==◌, ◌&&◌, ◌||◌, if◌then◌else◌, List, Option, Some, None}
use Rattle.seh_num.specs.declared.width.Width.{Width}
use Rattle.seh_num.specs.declared.width.Width.TheVariants.{W8, W16, W32, W64}
use Rattle.x64_instr.specs.declared.register.Reg.{Reg}
use Rattle.x64_instr.specs.declared.operand.Scale.{Scale}
use Rattle.x64_instr.specs.declared.operand.Scale.TheVariants.{One, Two, Four, Eight}
use Rattle.x64_instr.specs.declared.operand.Base.{Base}
use Rattle.x64_instr.specs.declared.operand.Base.TheVariants as bases
use Rattle.x64_instr.specs.declared.operand.Index.{Index}
use Rattle.x64_instr.specs.declared.operand.RegisterOrMemory.{RegisterOrMemory}
use Rattle.x64_instr.specs.declared.operand.RegisterOrMemory.TheVariants as places
use Rattle.x64_instr.specs.declared.operand.Operand.{Operand}
use Rattle.x64_instr.specs.declared.operand.Operand.TheVariants as operands
use Rattle.x64_instr.specs.declared.prefixes.Prefixes.{Prefixes}
use Rattle.x64_instr.specs.Registers.{register, number}
use Rattle.x64_instr.specs.Reading.{Read, ◌>>=◌, byte, signed, bit}

-- 64 bits with REX.W, else 16 with the prefix 66, else 32
abbrev pub width_of : Prefixes → Width
width_of p = if bit 3 p.rex == 1 then W64 else (if p.operand_size then W16 else W32)

-- where an opcode has a byte form too, the byte form is the one whose bit 0 is 0
abbrev pub sized : Prefixes → ℕ → Width
sized p op = if op % 2 == 0 then W8 else width_of p

abbrev pub sized_narrow : ℕ → Width
sized_narrow op = if op % 2 == 0 then W8 else W16

-- immediates have at most 32 bits
abbrev pub immediate_of : Width → Width
immediate_of W8 = W8
immediate_of W16 = W16
immediate_of w = W32

-- the register of ModRM's reg field, with REX.R, and that of the low bits of a byte, with REX.B
abbrev pub register_of_reg_field : Prefixes → ℕ → Reg
register_of_reg_field p modrm = register (8 * bit 2 p.rex + modrm / 8 % 8)

abbrev pub register_of_low_bits : Prefixes → ℕ → Reg
register_of_low_bits p b = register (8 * bit 0 p.rex + b % 8)

abbrev pub scale : ℕ → Scale
scale n = if n == 0 then One else (if n == 1 then Two else (if n == 2 then Four else Eight))

-- SIB's index, with REX.X; 100 without REX.X is none
abbrev pub index_of_sib : Prefixes → ℕ → Option Index
index_of_sib p sib =
    if (8 * bit 1 p.rex + sib / 8 % 8) == 4 then None
    else Some (record {
      register = register (8 * bit 1 p.rex + sib / 8 % 8);
      scale = scale (sib / 64);
    })

abbrev pub memory : Base → Option Index → ℕ → RegisterOrMemory
memory b i d = places.Memory (record { base = b; index = i; displacement = d })

-- the displacement that mod asks for: none, of a byte, of four bytes
abbrev pub displaced : ℕ → List ℕ → Read ℕ
displaced mode bytes =
    if mode == 0 then Some (0, bytes)
    else (if mode == 1 then signed W8 W64 bytes else signed W32 W64 bytes)

-- a base of 101 with mod 00 is none, with a displacement of four bytes
abbrev pub sib_operand : Prefixes → ℕ → ℕ → List ℕ → Read RegisterOrMemory
sib_operand p mode sib bytes =
    if (mode == 0) && (sib % 8 == 5)
    then (signed W32 W64 bytes >>= λ d. Some (memory bases.Nothing (index_of_sib p sib) d.0, d.1))
    else (displaced mode bytes >>= λ d. Some
    (memory (bases.Register (register_of_low_bits p sib)) (index_of_sib p sib) d.0, d.1))

-- 100 says that SIB follows; 101 with mod 00 is relative to the next instruction
abbrev pub memory_operand : Prefixes → ℕ → ℕ → List ℕ → Read RegisterOrMemory
memory_operand p mode low bytes =
    if low == 4
    then (byte bytes >>= λ s. sib_operand p mode s.0 s.1)
    else (if (mode == 0) && (low == 5)
    then (signed W32 W64 bytes >>= λ d. Some (memory bases.Rip None d.0, d.1))
    else (displaced mode bytes >>= λ d. Some
    (memory (bases.Register (register_of_low_bits p low)) None d.0, d.1)))

-- mod 11 is a register
unfoldable pub place : Prefixes → ℕ → List ℕ → Read RegisterOrMemory
place p modrm bytes =
    if modrm / 64 == 3
    then Some (places.Register (register_of_low_bits p modrm), bytes)
    else memory_operand p (modrm / 64) (modrm % 8) bytes

-- ModRM with a register in its reg field, and with an opcode extension there
abbrev pub modrm_with_register : Prefixes → List ℕ → Read (RegisterOrMemory × Reg)
modrm_with_register p bytes =
    byte bytes >>= λ m. place p m.0 m.1 >>= λ at. Some ((at.0, register_of_reg_field p m.0), at.1)

abbrev pub modrm_with_opcode_extension : Prefixes → List ℕ → Read (RegisterOrMemory × ℕ)
modrm_with_opcode_extension p bytes =
    byte bytes >>= λ m. place p m.0 m.1 >>= λ at. Some ((at.0, m.0 / 8 % 8), at.1)

-- without REX the byte registers 4 to 7 are AH, CH, DH and BH, which no instruction here has
abbrev pub is_listed : Prefixes → Width → RegisterOrMemory → Bool
is_listed p W8 (places.Register r) = p.has_rex || not (number r / 4 == 1)
is_listed p w at = true

-- both operands, the place of one width, the register of another
abbrev pub rm_and_register : Prefixes → Width → Width → List ℕ → Read (RegisterOrMemory × Reg)
rm_and_register p w v bytes =
    modrm_with_register p bytes >>= λ x. if is_listed p w x.0.0 && is_listed p v
    (places.Register x.0.1) then Some x else None

abbrev pub rm_and_opcode_extension : Prefixes → Width → List ℕ → Read (RegisterOrMemory × ℕ)
rm_and_opcode_extension p w bytes =
    modrm_with_opcode_extension p bytes >>= λ x. if is_listed p w x.0.0 then Some x else None

-- a place as what is read there
abbrev pub source : RegisterOrMemory → Operand
source (places.Register r) = operands.Register r
source (places.Memory m) = operands.Memory m
