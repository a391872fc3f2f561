-- Operands that the table spells can be encoded, and are short.
use Rattle.std.proofs.Common.{◌≡◌, ℕ, ◌+◌, ◌*◌, ◌/◌, ◌%◌, ◌<◌, Bool, true, cond, eqb, List, Option, Some, None, refl, ap, ◌∙◌, arith, inl, inr}
use Rattle.std.specs.Prelude.{not, ◌&&◌}
use Rattle.std.proofs.lemmas.Bool.{cases_eq, eq-eqb, ne_eqb}
use Rattle.x64_laws.specs.Words.{Width, W8, W32, W64, Reg, RegisterOrMemory, Prefixes, Instr, register, Read, ◌>>=◌, byte, bit, register_of_reg_field, register_of_low_bits, scale, index_of_sib, memory, displaced, sib_operand, memory_operand, place, modrm_with_register, modrm_with_opcode_extension, is_listed, rm_and_register, rm_and_opcode_extension, rm_r, r_rm, rm_extension, is_index, is_place, is_encodable}
use Rattle.x64_instr.specs.declared.operand.Base.TheVariants as bases
use Rattle.x64_instr.specs.declared.operand.Index.{Index}
use Rattle.x64_instr.specs.declared.operand.RegisterOrMemory.TheVariants as places
use Rattle.x64_instr.specs.declared.operand.Operand.{Operand}
use Rattle.x64_instr.specs.declared.operand.Operand.TheVariants as operands
use Rattle.x64_instr.specs.Reading.{signed}
use Rattle.x64_laws.proofs.Lemmas.{number_register}
use Rattle.x64_encode.specs.Chosen.{is_signed}
use Rattle.x64_laws.proofs.Giving.{Gives, at_most, byte-Gives, done-Gives, fail-Gives, bind-Gives, map-Gives, if-Gives, both_true, signed-Gives}

-- ---- what is to be

abbrev pub Anything : {A : Type 0} → A → Type 0
Anything x = Unit {0}

abbrev pub IsDisplacement : ℕ → Type 0
IsDisplacement d = is_signed W32 W64 d ≡ true

abbrev pub IsPlace : RegisterOrMemory → Type 0
IsPlace at = is_place at ≡ true

abbrev pub IsCode : Instr → Type 0
IsCode i = is_encodable i ≡ true

-- ---- operands

abbrev index_if : Bool → ℕ → ℕ → Option Index
index_if b n sib = cond b None (Some (record { register = register n; scale = scale (sib / 64) }))

index_number : (p : Prefixes) (sib : ℕ) → 8 * bit 1 p.rex + sib / 8 % 8 < 16
index_number p sib = omega arith

at_nothing : (p : Prefixes) (sib : ℕ) → is_index bases.Nothing (index_of_sib p sib) ≡ true
at_nothing p sib =
    let n = 8 * bit 1 p.rex + sib / 8 % 8 in
    elim (cases_eq n 4) [
      | inl e ↦ ap (λ (b : Bool). is_index bases.Nothing (index_if b n sib)) (eq-eqb n 4 e)
      | inr o ↦ ap (λ (b : Bool). is_index bases.Nothing (index_if b n sib)) (ne_eqb n 4 o)
          ∙ ap (λ (k : ℕ). not (eqb k 4)) (number_register n (index_number p sib))
          ∙ ap not (ne_eqb n 4 o)
    ]

at_register : (p : Prefixes) (sib : ℕ) (r : Reg)
    → is_index (bases.Register r) (index_of_sib p sib) ≡ true
at_register p sib r =
    let n = 8 * bit 1 p.rex + sib / 8 % 8 in
    elim (cases_eq n 4) [
      | inl e ↦ ap (λ (b : Bool). is_index (bases.Register r) (index_if b n sib)) (eq-eqb n 4 e)
      | inr o ↦ ap (λ (b : Bool). is_index (bases.Register r) (index_if b n sib)) (ne_eqb n 4 o)
          ∙ ap (λ (k : ℕ). not (eqb k 4)) (number_register n (index_number p sib))
          ∙ ap not (ne_eqb n 4 o)
    ]

pub byte_displacement : Gives IsDisplacement 4 (signed W8 W64)
byte_displacement = at_most IsDisplacement 1 4 (signed W8 W64) (omega arith)
    (signed-Gives W8 W32 W64 (omega arith) (omega arith))

pub long_displacement : Gives IsDisplacement 4 (signed W32 W64)
long_displacement = signed-Gives W32 W32 W64 (omega arith) (omega arith)

displaced-Gives : (mode : ℕ) → Gives IsDisplacement 4 (displaced mode)
displaced-Gives mode =
    if-Gives IsDisplacement 4 (eqb mode 0) (λ bytes. Some (0, bytes)) _
    (λ _. at_most IsDisplacement 0 4 (λ bytes. Some (0, bytes)) (omega arith)
    (done-Gives IsDisplacement 0 refl))
    (λ _. if-Gives IsDisplacement 4 (eqb mode 1) (signed W8 W64) (signed W32 W64)
    (λ _. byte_displacement) (λ _. long_displacement))

sib_operand-Gives : (p : Prefixes) (mode sib : ℕ) → Gives IsPlace 4 (sib_operand p mode sib)
sib_operand-Gives p mode sib =
    if-Gives IsPlace 4 (eqb mode 0 && eqb (sib % 8) 5) _ _
    (λ _. map-Gives IsDisplacement IsPlace 4 (signed W32 W64)
    (memory bases.Nothing (index_of_sib p sib)) long_displacement
    (λ d h. both_true _ _ (at_nothing p sib) h))
    (λ _. map-Gives IsDisplacement IsPlace 4 (displaced mode)
    (memory (bases.Register (register_of_low_bits p sib)) (index_of_sib p sib))
    (displaced-Gives mode) (λ d h. both_true _ _ (at_register p sib (register_of_low_bits p sib))
    h))

memory_operand-Gives : (p : Prefixes) (mode low : ℕ) → Gives IsPlace 5 (memory_operand p mode low)
memory_operand-Gives p mode low =
    if-Gives IsPlace 5 (eqb low 4) _ _
    (λ _. bind-Gives (λ b. b < 256) IsPlace 1 4 byte (sib_operand p mode) byte-Gives
    (λ sib _. sib_operand-Gives p mode sib))
    (λ _. at_most IsPlace 4 5 _ (omega arith)
    (if-Gives IsPlace 4 (eqb mode 0 && eqb low 5) _ _
    (λ _. map-Gives IsDisplacement IsPlace 4 (signed W32 W64) (memory bases.Rip None)
    long_displacement (λ d h. h))
    (λ _. map-Gives IsDisplacement IsPlace 4 (displaced mode)
    (memory (bases.Register (register_of_low_bits p low)) None) (displaced-Gives mode)
    (λ d h. h))))

place-Gives : (p : Prefixes) (modrm : ℕ) → Gives IsPlace 5 (place p modrm)
unfolding place
place-Gives p modrm =
    if-Gives IsPlace 5 (eqb (modrm / 64) 3) (λ bytes. Some
    (places.Register (register_of_low_bits p modrm), bytes))
    (memory_operand p (modrm / 64) (modrm % 8))
    (λ _. at_most IsPlace 0 5 _ (omega arith)
    (done-Gives IsPlace (places.Register (register_of_low_bits p modrm)) refl))
    (λ _. memory_operand-Gives p (modrm / 64) (modrm % 8))

abbrev pub FirstIsPlace : {B : Type 0} → RegisterOrMemory × B → Type 0
FirstIsPlace x = IsPlace x.0

modrm_with_register-Gives : (p : Prefixes) → Gives {A = RegisterOrMemory × Reg} FirstIsPlace 6
    (modrm_with_register p)
modrm_with_register-Gives p =
    bind-Gives (λ b. b < 256) FirstIsPlace 1 5 byte
    (λ m bytes. place p m bytes >>= λ at. Some ((at.0, register_of_reg_field p m), at.1))
    byte-Gives
    (λ m _. map-Gives IsPlace FirstIsPlace 5 (place p m) (λ at. (at, register_of_reg_field p m))
    (place-Gives p m) (λ at h. h))

modrm_with_opcode_extension-Gives : (p : Prefixes)
    → Gives {A = RegisterOrMemory × ℕ} FirstIsPlace 6 (modrm_with_opcode_extension p)
modrm_with_opcode_extension-Gives p =
    bind-Gives (λ b. b < 256) FirstIsPlace 1 5 byte
    (λ m bytes. place p m bytes >>= λ at. Some ((at.0, m / 8 % 8), at.1)) byte-Gives
    (λ m _. map-Gives IsPlace FirstIsPlace 5 (place p m) (λ at. (at, m / 8 % 8)) (place-Gives p m)
    (λ at h. h))

pub rm_and_register-Gives : (p : Prefixes) (w v : Width)
    → Gives {A = RegisterOrMemory × Reg} FirstIsPlace 6 (rm_and_register p w v)
rm_and_register-Gives p w v =
    bind-Gives FirstIsPlace FirstIsPlace 6 0 (modrm_with_register p)
    (λ x bytes. cond (is_listed p w x.0 && is_listed p v (places.Register x.1)) (Some (x, bytes))
    None) (modrm_with_register-Gives p)
    (λ x h. if-Gives FirstIsPlace 0 (is_listed p w x.0 && is_listed p v (places.Register x.1)) _ _
    (λ _. done-Gives FirstIsPlace x h) (λ _. fail-Gives FirstIsPlace 0))

pub rm_and_opcode_extension-Gives : (p : Prefixes) (w : Width)
    → Gives {A = RegisterOrMemory × ℕ} FirstIsPlace 6 (rm_and_opcode_extension p w)
rm_and_opcode_extension-Gives p w =
    bind-Gives FirstIsPlace FirstIsPlace 6 0 (modrm_with_opcode_extension p)
    (λ x bytes. cond (is_listed p w x.0) (Some (x, bytes)) None)
    (modrm_with_opcode_extension-Gives p)
    (λ x h. if-Gives FirstIsPlace 0 (is_listed p w x.0) _ _ (λ _. done-Gives FirstIsPlace x h)
    (λ _. fail-Gives FirstIsPlace 0))

-- ---- the forms of operands

pub rm_r-Gives : (p : Prefixes) (w : Width) (made : RegisterOrMemory → Operand → Instr)
    → ((at : RegisterOrMemory) (r : Reg) → IsPlace at → IsCode (made at (operands.Register r)))
    → Gives IsCode 10 (rm_r p w made)
rm_r-Gives p w made h =
    at_most IsCode 6 10 (rm_r p w made) (omega arith)
    (map-Gives FirstIsPlace IsCode 6 (rm_and_register p w w) (λ x. made x.0 (operands.Register x.1))
    (rm_and_register-Gives p w w) (λ x is. h x.0 x.1 is))

pub r_rm-Gives : (p : Prefixes) (v w : Width) (made : Reg → RegisterOrMemory → Instr)
    → ((r : Reg) (at : RegisterOrMemory) → IsPlace at → IsCode (made r at))
    → Gives IsCode 10 (r_rm p v w made)
r_rm-Gives p v w made h =
    at_most IsCode 6 10 (r_rm p v w made) (omega arith)
    (map-Gives FirstIsPlace IsCode 6 (rm_and_register p w v) (λ x. made x.1 x.0)
    (rm_and_register-Gives p w v) (λ x is. h x.1 x.0 is))

pub rm_extension-Gives : (p : Prefixes) (w : Width)
    (made : ℕ → RegisterOrMemory → List ℕ → Read Instr)
    → ((n : ℕ) (at : RegisterOrMemory) → IsPlace at → Gives IsCode 4 (made n at))
    → Gives IsCode 10 (rm_extension p w made)
rm_extension-Gives p w made h = bind-Gives FirstIsPlace IsCode 6 4 (rm_and_opcode_extension p w)
    (λ x. made x.1 x.0) (rm_and_opcode_extension-Gives p w) (λ x is. h x.1 x.0 is)

pub done_within : (n : ℕ) (i : Instr) → IsCode i → Gives IsCode n (λ bytes. Some (i, bytes))
done_within n i is = at_most IsCode 0 n (λ bytes. Some (i, bytes)) (omega arith)
    (done-Gives IsCode i is)
