-- The table is a reader; so no spelling begins another, and each spells one instruction.
use Rattle.std.proofs.Common.{◌≡◌, ℕ, ◌+◌, ◌/◌, ◌%◌, Bool, true, false, not, cond, eqb, List, [], ◌++◌, Some, None, refl, sym, ap, subst, ◌∙◌, arith, length, take, drop, length-append, ◌≤◌}
use Rattle.std.proofs.lemmas.List.{take_at, append-nil, take-append-drop}
use Rattle.std.specs.Prelude.{◌&&◌}
use Rattle.seh_num.specs.declared.width.Width.{Width}
use Rattle.seh_num.specs.declared.width.Width.TheVariants.{W8, W32, W64}
use Rattle.seh_num.specs.Widths.{bytes_of}
use Rattle.x64_instr.specs.declared.register.Reg.{Reg}
use Rattle.x64_instr.specs.declared.operand.Base.TheVariants as bases
use Rattle.x64_instr.specs.declared.operand.RegisterOrMemory.{RegisterOrMemory}
use Rattle.x64_instr.specs.declared.operand.RegisterOrMemory.TheVariants as places
use Rattle.x64_instr.specs.declared.operand.Operand.{Operand}
use Rattle.x64_instr.specs.declared.operand.Operand.TheVariants as operands
use Rattle.x64_instr.specs.declared.prefixes.Prefixes.{Prefixes}
use Rattle.x64_instr.specs.declared.instruction.Operation.{Operation}
use Rattle.x64_instr.specs.declared.instruction.Unary.TheVariants.{Not, Negate}
use Rattle.x64_instr.specs.declared.instruction.Extension.{Extension}
use Rattle.x64_instr.specs.declared.instruction.Extension.TheVariants.{Sign, Zero}
use Rattle.x64_instr.specs.declared.instruction.Division.TheVariants.{Unsigned, Signed}
use Rattle.x64_instr.specs.declared.instruction.Count.TheVariants as counts
use Rattle.x64_instr.specs.declared.instruction.Target.TheVariants.{Relative, Indirect}
use Rattle.x64_instr.specs.declared.instruction.Instr.{Instr}
use Rattle.x64_instr.specs.declared.instruction.Instr.TheVariants as instrs
use Rattle.x64_instr.specs.Reading.{Read, ◌>>=◌, byte, number, signed, bit}
use Rattle.x64_instr.specs.Operands.{width_of, sized, sized_narrow, immediate_of, register_of_reg_field, register_of_low_bits, index_of_sib, memory, displaced, sib_operand, memory_operand, place, modrm_with_register, modrm_with_opcode_extension, is_listed, rm_and_register, rm_and_opcode_extension, source}
use Rattle.x64_instr.specs.Spelling.{rm_r, r_rm, rm_extension, given, operation, direction, condition, group_1, group_11, group_3, group_2_immediate, group_2_cl, group_5, move_immediate, sign_extend, extend, load, multiply_by, address_to, load_address, jump_if, set_if, jump, call, no_operation, arithmetic_form, arithmetic_row, plain_row, row, extend_row, two_byte_row, after_prefixes, after_size, instr, IsEncoding}
use Rattle.x64_instr.proofs.Readers.{IsReader, pair, byte-IsReader, done-IsReader, fail-IsReader, bind-IsReader, map-IsReader, if-IsReader, given-IsReader, number-IsReader, signed-IsReader}

-- ---- operands

displaced-IsReader : (mode : ℕ) → IsReader (displaced mode)
displaced-IsReader mode = if-IsReader (eqb mode 0) (λ bytes. Some (0, bytes)) _ (done-IsReader 0)
    (if-IsReader (eqb mode 1) (signed W8 W64) (signed W32 W64) (signed-IsReader W8 W64)
    (signed-IsReader W32 W64))

sib_operand-IsReader : (p : Prefixes) (mode sib : ℕ) → IsReader (sib_operand p mode sib)
sib_operand-IsReader p mode sib = if-IsReader (eqb mode 0 && eqb (sib % 8) 5) _ _
    (map-IsReader (signed W32 W64) (memory bases.Nothing (index_of_sib p sib))
    (signed-IsReader W32 W64)) (map-IsReader (displaced mode)
    (memory (bases.Register (register_of_low_bits p sib)) (index_of_sib p sib))
    (displaced-IsReader mode))

memory_operand-IsReader : (p : Prefixes) (mode low : ℕ) → IsReader (memory_operand p mode low)
memory_operand-IsReader p mode low =
    if-IsReader (eqb low 4) _ _ (bind-IsReader byte (sib_operand p mode) byte-IsReader
    (sib_operand-IsReader p mode))
    (if-IsReader (eqb mode 0 && eqb low 5) _ _
    (map-IsReader (signed W32 W64) (memory bases.Rip None) (signed-IsReader W32 W64))
    (map-IsReader (displaced mode) (memory (bases.Register (register_of_low_bits p low)) None)
    (displaced-IsReader mode)))

pub place-IsReader : (p : Prefixes) (modrm : ℕ) → IsReader (place p modrm)
unfolding place
place-IsReader p modrm = if-IsReader (eqb (modrm / 64) 3)
    (λ bytes. Some (places.Register (register_of_low_bits p modrm), bytes))
    (memory_operand p (modrm / 64) (modrm % 8)) (done-IsReader _)
    (memory_operand-IsReader p (modrm / 64) (modrm % 8))

modrm_with_register-IsReader : (p : Prefixes) → IsReader (modrm_with_register p)
modrm_with_register-IsReader p = bind-IsReader byte
    (λ m bytes. place p m bytes >>= λ at. Some ((at.0, register_of_reg_field p m), at.1))
    byte-IsReader (λ m. map-IsReader (place p m) (λ at. (at, register_of_reg_field p m))
    (place-IsReader p m))

modrm_with_opcode_extension-IsReader : (p : Prefixes) → IsReader (modrm_with_opcode_extension p)
modrm_with_opcode_extension-IsReader p = bind-IsReader byte
    (λ m bytes. place p m bytes >>= λ at. Some ((at.0, m / 8 % 8), at.1)) byte-IsReader
    (λ m. map-IsReader (place p m) (λ at. (at, m / 8 % 8)) (place-IsReader p m))

-- ---- the forms of operands

rm_and_register-IsReader : (p : Prefixes) (w v : Width) → IsReader (rm_and_register p w v)
rm_and_register-IsReader p w v = bind-IsReader (modrm_with_register p)
    (λ x bytes. cond (is_listed p w x.0 && is_listed p v (places.Register x.1)) (Some (x, bytes))
    None) (modrm_with_register-IsReader p) (λ x. if-IsReader
    (is_listed p w x.0 && is_listed p v (places.Register x.1)) _ _ (done-IsReader x) fail-IsReader)

rm_and_opcode_extension-IsReader : (p : Prefixes) (w : Width)
    → IsReader (rm_and_opcode_extension p w)
rm_and_opcode_extension-IsReader p w = bind-IsReader (modrm_with_opcode_extension p)
    (λ x bytes. cond (is_listed p w x.0) (Some (x, bytes)) None)
    (modrm_with_opcode_extension-IsReader p) (λ x. if-IsReader (is_listed p w x.0) _ _
    (done-IsReader x) fail-IsReader)

rm_r-IsReader : (p : Prefixes) (w : Width) (made : RegisterOrMemory → Operand → Instr)
    → IsReader (rm_r p w made)
rm_r-IsReader p w made = map-IsReader (rm_and_register p w w)
    (λ x. made x.0 (operands.Register x.1)) (rm_and_register-IsReader p w w)

r_rm-IsReader : (p : Prefixes) (v w : Width) (made : Reg → RegisterOrMemory → Instr)
    → IsReader (r_rm p v w made)
r_rm-IsReader p v w made = map-IsReader (rm_and_register p w v) (λ x. made x.1 x.0)
    (rm_and_register-IsReader p w v)

rm_extension-IsReader : (p : Prefixes) (w : Width)
    (made : ℕ → RegisterOrMemory → List ℕ → Read Instr)
    → ((opcode_extension : ℕ) (to : RegisterOrMemory) → IsReader (made opcode_extension to))
    → IsReader (rm_extension p w made)
rm_extension-IsReader p w made h = bind-IsReader (rm_and_opcode_extension p w) (λ x. made x.1 x.0)
    (rm_and_opcode_extension-IsReader p w) (λ x. h x.1 x.0)

group_1-IsReader : (from w : Width) (opcode_extension : ℕ) (to : RegisterOrMemory)
    → IsReader (group_1 from w opcode_extension to)
group_1-IsReader from w opcode_extension to =
    bind-IsReader (given (operation opcode_extension))
    (λ o bytes. signed from w bytes >>= λ v. Some
    (instrs.Arithmetic o w to (operands.Immediate v.0), v.1))
    (given-IsReader (operation opcode_extension))
    (λ o. map-IsReader (signed from w) (λ v. instrs.Arithmetic o w to (operands.Immediate v))
    (signed-IsReader from w))

group_11-IsReader : (w : Width) (opcode_extension : ℕ) (to : RegisterOrMemory)
    → IsReader (group_11 w opcode_extension to)
group_11-IsReader w opcode_extension to = if-IsReader (eqb opcode_extension 0) _ _
    (map-IsReader (signed (immediate_of w) w) (λ v. instrs.Move w to (operands.Immediate v))
    (signed-IsReader (immediate_of w) w)) fail-IsReader

group_3-IsReader : (t : Bool) (w : Width) (opcode_extension : ℕ) (at : RegisterOrMemory)
    → IsReader (group_3 t w opcode_extension at)
group_3-IsReader t w opcode_extension at =
    if-IsReader (eqb opcode_extension 0) _ _ (map-IsReader (signed (immediate_of w) w)
    (λ v. instrs.Test w at (operands.Immediate v)) (signed-IsReader (immediate_of w) w))
    (if-IsReader (eqb opcode_extension 2) _ _ (done-IsReader (instrs.Unary Not w at))
    (if-IsReader (eqb opcode_extension 3) _ _ (done-IsReader (instrs.Unary Negate w at))
    (if-IsReader (eqb opcode_extension 6 && t) _ _ (done-IsReader (instrs.Divide Unsigned w at))
    (if-IsReader (eqb opcode_extension 7 && t) _ _ (done-IsReader (instrs.Divide Signed w at))
    fail-IsReader))))

group_2_immediate-IsReader : (w : Width) (opcode_extension : ℕ) (to : RegisterOrMemory)
    → IsReader (group_2_immediate w opcode_extension to)
group_2_immediate-IsReader w opcode_extension to =
    bind-IsReader (given (direction opcode_extension))
    (λ d bytes. byte bytes >>= λ n. Some (instrs.Shift d w to (counts.Immediate n.0), n.1))
    (given-IsReader (direction opcode_extension))
    (λ d. map-IsReader byte (λ n. instrs.Shift d w to (counts.Immediate n)) byte-IsReader)

group_2_cl-IsReader : (w : Width) (opcode_extension : ℕ) (to : RegisterOrMemory)
    → IsReader (group_2_cl w opcode_extension to)
group_2_cl-IsReader w opcode_extension to = map-IsReader (given (direction opcode_extension))
    (λ d. instrs.Shift d w to counts.Cl) (given-IsReader (direction opcode_extension))

group_5-IsReader : (opcode_extension : ℕ) (at : RegisterOrMemory)
    → IsReader (group_5 opcode_extension at)
group_5-IsReader opcode_extension at = if-IsReader (eqb opcode_extension 2) _ _
    (done-IsReader (instrs.Call (Indirect at)))
    (if-IsReader (eqb opcode_extension 4) _ _ (done-IsReader (instrs.Jump (Indirect at)))
    fail-IsReader)

move_immediate-IsReader : (p : Prefixes) (op : ℕ) → IsReader (move_immediate p op)
move_immediate-IsReader p op = map-IsReader (number (bytes_of (width_of p)))
    (λ v. instrs.Move (width_of p) (places.Register (register_of_low_bits p op))
    (operands.Immediate v)) (number-IsReader (bytes_of (width_of p)))

sign_extend-IsReader : (p : Prefixes) → IsReader (sign_extend p)
sign_extend-IsReader p = if-IsReader (eqb (bit 3 p.rex) 1) _ _
    (r_rm-IsReader p W64 W32 (λ to from. instrs.Extend Sign W64 to W32 from)) fail-IsReader

extend-IsReader : (e : Extension) (p : Prefixes) (op : ℕ) → IsReader (extend e p op)
extend-IsReader e p op = r_rm-IsReader p (width_of p) (sized_narrow op)
    (λ to from. instrs.Extend e (width_of p) to (sized_narrow op) from)

multiply_by-IsReader : (p : Prefixes) (from : Width) → IsReader (multiply_by p from)
multiply_by-IsReader p from =
    bind-IsReader (rm_and_register p (width_of p) (width_of p))
    (λ x bytes. signed from (width_of p) bytes
    >>= λ v. Some (instrs.MultiplyBy (width_of p) x.1 x.0 v.0, v.1))
    (rm_and_register-IsReader p (width_of p) (width_of p))
    (λ x. map-IsReader (signed from (width_of p)) (λ v. instrs.MultiplyBy (width_of p) x.1 x.0 v)
    (signed-IsReader from (width_of p)))

address_to-IsReader : (w : Width) (to : Reg) (at : RegisterOrMemory) → IsReader (address_to w to at)
address_to-IsReader w to (places.Memory m) = done-IsReader (instrs.LoadAddress w to m)
address_to-IsReader w to (places.Register r) = fail-IsReader

load_address-IsReader : (p : Prefixes) → IsReader (load_address p)
load_address-IsReader p = bind-IsReader (rm_and_register p (width_of p) (width_of p))
    (λ x. address_to (width_of p) x.1 x.0) (rm_and_register-IsReader p (width_of p) (width_of p))
    (λ x. address_to-IsReader (width_of p) x.1 x.0)

jump_if-IsReader : (from : Width) (op : ℕ) → IsReader (jump_if from op)
jump_if-IsReader from op =
    bind-IsReader (given (condition (op % 16)))
    (λ c bytes. signed from W64 bytes >>= λ d. Some (instrs.JumpIf c d.0, d.1))
    (given-IsReader (condition (op % 16)))
    (λ c. map-IsReader (signed from W64) (λ d. instrs.JumpIf c d) (signed-IsReader from W64))

set_if-IsReader : (p : Prefixes) (op : ℕ) → IsReader (set_if p op)
set_if-IsReader p op =
    bind-IsReader (given (condition (op % 16)))
    (λ c bytes. rm_and_opcode_extension p W8 bytes >>= λ x. Some (instrs.Set c x.0.0, x.1))
    (given-IsReader (condition (op % 16)))
    (λ c. map-IsReader (rm_and_opcode_extension p W8) (λ x. instrs.Set c x.0)
    (rm_and_opcode_extension-IsReader p W8))

jump-IsReader : (from : Width) → IsReader (jump from)
jump-IsReader from = map-IsReader (signed from W64) (λ d. instrs.Jump (Relative d))
    (signed-IsReader from W64)

call-IsReader : IsReader call
call-IsReader = map-IsReader (signed W32 W64) (λ d. instrs.Call (Relative d))
    (signed-IsReader W32 W64)

no_operation-IsReader : (p : Prefixes) → IsReader (no_operation p)
no_operation-IsReader p = if-IsReader (eqb (bit 0 p.rex) 1) _ _ fail-IsReader
    (done-IsReader instrs.NoOperation)

-- ---- the table

arithmetic_form-IsReader : (p : Prefixes) (o : Operation) (op : ℕ)
    → IsReader (arithmetic_form p o op)
arithmetic_form-IsReader p o op =
    if-IsReader (eqb (op % 8 / 2) 0) _ _ (rm_r-IsReader p (sized p op)
    (instrs.Arithmetic o (sized p op)))
    (if-IsReader (eqb (op % 8 / 2) 1) _ _ (r_rm-IsReader p (sized p op) (sized p op)
    (λ to from. instrs.Arithmetic o (sized p op) (places.Register to) (source from)))
    fail-IsReader)

arithmetic_row-IsReader : (p : Prefixes) (op : ℕ) → IsReader (arithmetic_row p op)
arithmetic_row-IsReader p op = bind-IsReader (given (operation (op / 8)))
    (λ o. arithmetic_form p o op) (given-IsReader (operation (op / 8)))
    (λ o. arithmetic_form-IsReader p o op)

plain_row-IsReader : (p : Prefixes) (op : ℕ) → IsReader (plain_row p op)
unfolding plain_row
plain_row-IsReader p op =
    if-IsReader (eqb (op / 8) (0x50 / 8)) _ _
    (done-IsReader (instrs.Push (register_of_low_bits p op)))
    (if-IsReader (eqb (op / 8) (0x58 / 8)) _ _
    (done-IsReader (instrs.Pop (register_of_low_bits p op)))
    (if-IsReader (eqb op 0x63) _ _ (sign_extend-IsReader p)
    (if-IsReader (eqb op 0x69) _ _ (multiply_by-IsReader p (immediate_of (width_of p)))
    (if-IsReader (eqb op 0x6B) _ _ (multiply_by-IsReader p W8)
    (if-IsReader (eqb (op / 16) (0x70 / 16)) _ _ (jump_if-IsReader W8 op)
    (if-IsReader (eqb op 0x8D) _ _ (load_address-IsReader p)
    (if-IsReader (eqb op 0x90) _ _ (no_operation-IsReader p)
    (if-IsReader (eqb op 0x99) _ _ (done-IsReader (instrs.ExtendRax (width_of p)))
    (if-IsReader (eqb op 0xC1) _ _ (rm_extension-IsReader p (width_of p)
    (group_2_immediate (width_of p)) (group_2_immediate-IsReader (width_of p)))
    (if-IsReader (eqb op 0xC3) _ _ (done-IsReader instrs.Return)
    (if-IsReader (eqb op 0xCC) _ _ (done-IsReader instrs.Breakpoint)
    (if-IsReader (eqb op 0xD3) _ _ (rm_extension-IsReader p (width_of p) (group_2_cl (width_of p))
    (group_2_cl-IsReader (width_of p)))
    (if-IsReader (eqb op 0xE8) _ _ call-IsReader
    (if-IsReader (eqb op 0xE9) _ _ (jump-IsReader W32)
    (if-IsReader (eqb op 0xEB) _ _ (jump-IsReader W8)
    (if-IsReader (eqb op 0xFF) _ _ (rm_extension-IsReader p W64 group_5 group_5-IsReader)
    fail-IsReader))))))))))))))))

row-IsReader : (p : Prefixes) (op : ℕ) → IsReader (row p op)
unfolding row
row-IsReader p op =
    if-IsReader (eqb (op / 64) 0) _ _ (arithmetic_row-IsReader p op)
    (if-IsReader (eqb (op / 2) (0x80 / 2)) _ _
    (rm_extension-IsReader p (sized p op) (group_1 (immediate_of (sized p op)) (sized p op))
    (group_1-IsReader (immediate_of (sized p op)) (sized p op)))
    (if-IsReader (eqb op 0x83) _ _ (rm_extension-IsReader p (width_of p) (group_1 W8 (width_of p))
    (group_1-IsReader W8 (width_of p)))
    (if-IsReader (eqb (op / 2) (0x84 / 2)) _ _
    (rm_r-IsReader p (sized p op) (instrs.Test (sized p op)))
    (if-IsReader (eqb (op / 2) (0x88 / 2)) _ _
    (rm_r-IsReader p (sized p op) (instrs.Move (sized p op)))
    (if-IsReader (eqb (op / 2) (0x8A / 2)) _ _
    (r_rm-IsReader p (sized p op) (sized p op) (load (sized p op)))
    (if-IsReader (eqb (op / 8) (0xB8 / 8)) _ _ (move_immediate-IsReader p op)
    (if-IsReader (eqb (op / 2) (0xC6 / 2)) _ _
    (rm_extension-IsReader p (sized p op) (group_11 (sized p op))
    (group_11-IsReader (sized p op)))
    (if-IsReader (eqb (op / 2) (0xF6 / 2)) _ _
    (rm_extension-IsReader p (sized p op) (group_3 (eqb op 0xF7 && not p.operand_size)
    (sized p op)) (group_3-IsReader (eqb op 0xF7 && not p.operand_size) (sized p op)))
    (if-IsReader p.operand_size _ _ fail-IsReader (plain_row-IsReader p op))))))))))

extend_row-IsReader : (p : Prefixes) (op : ℕ) → IsReader (extend_row p op)
extend_row-IsReader p op =
    if-IsReader (eqb (op / 2) (0xB6 / 2)) _ _ (extend-IsReader Zero p op)
    (if-IsReader (eqb (op / 2) (0xBE / 2)) _ _ (extend-IsReader Sign p op) fail-IsReader)

two_byte_row-IsReader : (p : Prefixes) (op : ℕ) → IsReader (two_byte_row p op)
unfolding two_byte_row
two_byte_row-IsReader p op =
    if-IsReader p.operand_size _ _ fail-IsReader
    (if-IsReader (eqb op 0x0B) _ _ (done-IsReader instrs.Undefined)
    (if-IsReader (eqb (op / 16) (0x80 / 16)) _ _ (jump_if-IsReader W32 op)
    (if-IsReader (eqb (op / 16) (0x90 / 16)) _ _ (set_if-IsReader p op)
    (if-IsReader (eqb op 0xAF) _ _ (r_rm-IsReader p (width_of p) (width_of p)
    (instrs.Multiply (width_of p))) (extend_row-IsReader p op)))))

after_prefixes-IsReader : (p : Prefixes) (b : ℕ) → IsReader (after_prefixes p b)
unfolding after_prefixes
after_prefixes-IsReader p b = if-IsReader (eqb b 0x0F) _ _
    (bind-IsReader byte (two_byte_row p) byte-IsReader (two_byte_row-IsReader p)) (row-IsReader p b)

after_size-IsReader : (size : _) (b : ℕ) → IsReader (after_size size b)
unfolding after_size
after_size-IsReader size b = if-IsReader (eqb (b / 16) 4) _ _
    (bind-IsReader byte (after_prefixes (record
    { operand_size = size; has_rex = true; rex = b % 16 })) byte-IsReader
    (after_prefixes-IsReader (record { operand_size = size; has_rex = true; rex = b % 16 })))
    (after_prefixes-IsReader (record { operand_size = size; has_rex = false; rex = 0 }) b)

instr-IsReader : IsReader instr
unfolding instr
instr-IsReader = bind-IsReader byte (λ b bytes. cond (eqb b 0x66)
    (byte bytes >>= λ c. after_size true c.0 c.1) (after_size false b bytes)) byte-IsReader
    (λ b. if-IsReader (eqb b 0x66) _ _ (bind-IsReader byte (after_size true) byte-IsReader
    (after_size-IsReader true)) (after_size-IsReader false b))

-- ---- both directions

-- what is read is spelled by the bytes taken
pub found : (bytes : List ℕ) (i : Instr) (rest : List ℕ) → instr bytes ≡ Some (i, rest)
    → (k : ℕ) × (k + length rest ≡ length bytes) × IsEncoding i (take k bytes)
found bytes i rest e =
    let t = instr-IsReader.takes bytes i rest e in (
      length t.front,
      omega (arith, ap length t.whole, length-append t.front rest),
      subst (λ b. IsEncoding i (take (length t.front) b)) (sym t.whole)
          (subst (λ b. IsEncoding i b) (sym (take_at t.front rest (length t.front) refl))
          (subst (λ b. instr b ≡ Some (i, [])) (append-nil t.front) (t.alike []))),
    )

-- a spelling is read whatever follows it
pub again : (i : Instr) (a more : List ℕ) → IsEncoding i a → instr (a ++ more) ≡ Some (i, more)
again i a more e =
    let t = instr-IsReader.takes a i [] e in
    let same : a ≡ t.front = t.whole ∙ append-nil t.front in
    subst (λ b. instr (b ++ more) ≡ Some (i, more)) (sym same) (t.alike more)

pub one_reading : (i j : Instr) (a more : List ℕ) → IsEncoding i a → IsEncoding j (a ++ more)
    → (more ≡ []) × (i ≡ j)
one_reading i j a more e f = let p = pair i j more [] (sym (again i a more e) ∙ f) in (p.1, p.0)

-- so what the front spells is what is read
pub only : (bytes : List ℕ) (i : Instr) (k : ℕ) → k ≤ length bytes → IsEncoding i (take k bytes)
    → instr bytes ≡ Some (i, drop k bytes)
only bytes i k le e = ap instr (sym (take-append-drop k bytes))
    ∙ again i (take k bytes) (drop k bytes) e
