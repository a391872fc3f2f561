-- The law for each opcode.
use Rattle.std.proofs.Common.{◌≡◌, ◌<◌, ℕ, zero, suc, ◌+◌, ◌*◌, ◌/◌, ◌%◌, Bool, true, false, cond, eqb, List, Some, refl, sym, subst, arith}
use Rattle.std.proofs.lemmas.Bool.{eqb-true}
use Rattle.seh_num.specs.declared.width.Width.TheVariants.{W32}
use Rattle.x64_instr.specs.declared.prefixes.Prefixes.{Prefixes}
use Rattle.x64_instr.specs.declared.instruction.Extension.TheVariants.{Sign, Zero}
use Rattle.x64_instr.specs.declared.instruction.Instr.{Instr}
use Rattle.x64_instr.specs.Spelling.{given, operation, arithmetic_form, plain_row, two_byte_row}
use Rattle.x64_instr.specs.Spelling as spelling
use Rattle.x64_instr.proofs.Readers.{bind_some}
use Rattle.x64_lengths.specs.declared.spelled.Map.TheVariants.{OneByte, TwoByte}
use Rattle.x64_lengths.specs.Agreement.{RowAgrees, PlainRowAgrees, OneByteRowAgrees, IsNoPrefix, RowsAgree}
use Rattle.x64_lengths.proofs.Rows.{eight}
use Rattle.x64_lengths.proofs.PlainRows.{push, pop}
use Rattle.x64_lengths.proofs.ModRmRows.{test_byte, test, mov_byte, mov}
use Rattle.x64_lengths.proofs.MoreRows.{sign_extend_agrees, ret, int3, cdq, call, jump, short, jump_if_low, jump_if_high, load_byte, load_all}
use Rattle.x64_lengths.proofs.ImmediateRows.{move_immediate_agrees}
use Rattle.x64_lengths.proofs.ArithmeticRows.{rm_8, rm_all, r_8, r_all}
use Rattle.x64_lengths.proofs.GroupRows.{indirect}
use Rattle.x64_lengths.proofs.GroupOneRows.{immediate_byte, immediate_signed, immediate_all}
use Rattle.x64_lengths.proofs.MultiplyRows.{multiply_whole, multiply_byte, load_address_agrees, no_operation_agrees}
use Rattle.x64_lengths.proofs.ShiftRows.{shift_immediate_agrees, shift_cl_agrees, move_byte_immediate, move_whole_immediate, three_byte_agrees, three_whole_agrees}
use Rattle.x64_lengths.proofs.TwoByteRows.{undefined_agrees, jumps_low, jumps_high, sets_low, sets_high, multiply_agrees, zero_extend_byte, zero_extend_word, sign_extend_byte, sign_extend_word}

-- ---- cases

-- what an `if` chose
either : {A : Type 0} (b : Bool) (x y z : A) (R : Type 0) → cond b x y ≡ z
    → (b ≡ true → x ≡ z → R) → (b ≡ false → y ≡ z → R) → R
either true x y z R e t f = t refl e
either false x y z R e t f = f refl e

-- a number by its quotient
one : (P : ℕ → Type 0) (k n : ℕ) → eqb n k ≡ true → P k → P n
one P k n t a = subst P (sym (eqb-true n k t)) a

two : (P : ℕ → Type 0) (q n : ℕ) → eqb (n / 2) q ≡ true → P (2 * q) → P (2 * q + 1) → P n
two P q n t a b = go (n % 2) refl
  where
    go : (r : ℕ) → n % 2 ≡ r → P n
    go zero e = let h : n ≡ 2 * q = omega (arith, eqb-true (n / 2) q t, e) in subst P (sym h) a
    go (suc zero) e =
        let h : n ≡ 2 * q + 1 = omega (arith, eqb-true (n / 2) q t, e) in subst P (sym h) b
    go (suc (suc r)) e = absurd (omega (arith, e))

octet : (P : ℕ → Type 0) (q n : ℕ) → n / 8 ≡ q → ((k : ℕ) → k < 8 → P (8 * q + k)) → P n
octet P q n t a =
    let h : n ≡ 8 * q + n % 8 = omega (arith, t) in subst P (sym h) (a (n % 8) (omega arith))

sixteen : (P : ℕ → Type 0) (q n : ℕ) → eqb (n / 16) q ≡ true
    → ((k : ℕ) → k < 8 → P (16 * q + k)) → ((k : ℕ) → k < 8 → P (16 * q + 8 + k)) → P n
sixteen P q n t a b = go (n / 8 % 2) refl
  where
    go : (r : ℕ) → n / 8 % 2 ≡ r → P n
    go zero e =
        let h : n ≡ 16 * q + n % 8 = omega (arith, eqb-true (n / 16) q t, e) in
        subst P (sym h) (a (n % 8) (omega arith))
    go (suc zero) e =
        let h : n ≡ 16 * q + 8 + n % 8 = omega (arith, eqb-true (n / 16) q t, e) in
        subst P (sym h) (b (n % 8) (omega arith))
    go (suc (suc r)) e = absurd (omega (arith, e))

-- ---- opcodes of one byte

abbrev Plain : ℕ → Type 0
Plain op = PlainRowAgrees op × IsNoPrefix op

abbrev Whole : ℕ → Type 0
Whole op = OneByteRowAgrees op × IsNoPrefix op

abbrev Found : Prefixes → ℕ → List ℕ → Instr → List ℕ → Type 0
Found p op bytes i rest = RowAgrees p OneByte op bytes i rest × IsNoPrefix op

no_prefix_50 : (k : ℕ) → k < 8 → IsNoPrefix (0x50 + k)
no_prefix_50 = eight (λ k. IsNoPrefix (0x50 + k))
    (refl, refl, refl, refl) (refl, refl, refl, refl) (refl, refl, refl, refl)
    (refl, refl, refl, refl) (refl, refl, refl, refl) (refl, refl, refl, refl)
    (refl, refl, refl, refl) (refl, refl, refl, refl)

no_prefix_58 : (k : ℕ) → k < 8 → IsNoPrefix (0x58 + k)
no_prefix_58 = eight (λ k. IsNoPrefix (0x58 + k))
    (refl, refl, refl, refl) (refl, refl, refl, refl) (refl, refl, refl, refl)
    (refl, refl, refl, refl) (refl, refl, refl, refl) (refl, refl, refl, refl)
    (refl, refl, refl, refl) (refl, refl, refl, refl)

no_prefix_70 : (k : ℕ) → k < 8 → IsNoPrefix (0x70 + k)
no_prefix_70 = eight (λ k. IsNoPrefix (0x70 + k))
    (refl, refl, refl, refl) (refl, refl, refl, refl) (refl, refl, refl, refl)
    (refl, refl, refl, refl) (refl, refl, refl, refl) (refl, refl, refl, refl)
    (refl, refl, refl, refl) (refl, refl, refl, refl)

no_prefix_78 : (k : ℕ) → k < 8 → IsNoPrefix (0x78 + k)
no_prefix_78 = eight (λ k. IsNoPrefix (0x78 + k))
    (refl, refl, refl, refl) (refl, refl, refl, refl) (refl, refl, refl, refl)
    (refl, refl, refl, refl) (refl, refl, refl, refl) (refl, refl, refl, refl)
    (refl, refl, refl, refl) (refl, refl, refl, refl)

no_prefix_B8 : (k : ℕ) → k < 8 → IsNoPrefix (0xB8 + k)
no_prefix_B8 = eight (λ k. IsNoPrefix (0xB8 + k))
    (refl, refl, refl, refl) (refl, refl, refl, refl) (refl, refl, refl, refl)
    (refl, refl, refl, refl) (refl, refl, refl, refl) (refl, refl, refl, refl)
    (refl, refl, refl, refl) (refl, refl, refl, refl)

plain_found : (p : Prefixes) (op : ℕ) (bytes : List ℕ) (i : Instr) (rest : List ℕ)
    → p.operand_size ≡ false → plain_row p op bytes ≡ Some (i, rest) → Found p op bytes i rest
unfolding plain_row
plain_found p op bytes i rest s e =
    let R = Found p op bytes i rest in
    let at : Plain op → R = λ h. (h.0 p bytes i rest s e, h.1) in
    either (eqb (op / 8) 10) _ _ _ R e (λ t u. at (octet Plain 10 op (eqb-true (op / 8) 10 t)
    (λ k lt. (push k lt, no_prefix_50 k lt)))) (λ t u.
    either (eqb (op / 8) 11) _ _ _ R u (λ t u. at (octet Plain 11 op (eqb-true (op / 8) 11 t)
    (λ k lt. (pop k lt, no_prefix_58 k lt)))) (λ t u.
    either (eqb op 0x63) _ _ _ R u (λ t u. at (one Plain 0x63 op t
    (sign_extend_agrees, (refl, refl, refl, refl)))) (λ t u.
    either (eqb op 0x69) _ _ _ R u (λ t u. at (one Plain 0x69 op t
    (multiply_whole, (refl, refl, refl, refl)))) (λ t u.
    either (eqb op 0x6B) _ _ _ R u (λ t u. at (one Plain 0x6B op t
    (multiply_byte, (refl, refl, refl, refl)))) (λ t u.
    either (eqb (op / 16) 7) _ _ _ R u (λ t u. at (sixteen Plain 7 op t
    (λ k lt. (jump_if_low k lt, no_prefix_70 k lt))
    (λ k lt. (jump_if_high k lt, no_prefix_78 k lt)))) (λ t u.
    either (eqb op 0x8D) _ _ _ R u (λ t u. at (one Plain 0x8D op t
    (load_address_agrees, (refl, refl, refl, refl)))) (λ t u.
    either (eqb op 0x90) _ _ _ R u (λ t u. at (one Plain 0x90 op t
    (no_operation_agrees, (refl, refl, refl, refl)))) (λ t u.
    either (eqb op 0x99) _ _ _ R u (λ t u. at (one Plain 0x99 op t
    (cdq, (refl, refl, refl, refl)))) (λ t u.
    either (eqb op 0xC1) _ _ _ R u (λ t u. at (one Plain 0xC1 op t
    (shift_immediate_agrees, (refl, refl, refl, refl)))) (λ t u.
    either (eqb op 0xC3) _ _ _ R u (λ t u. at (one Plain 0xC3 op t
    (ret, (refl, refl, refl, refl)))) (λ t u.
    either (eqb op 0xCC) _ _ _ R u (λ t u. at (one Plain 0xCC op t
    (int3, (refl, refl, refl, refl)))) (λ t u.
    either (eqb op 0xD3) _ _ _ R u (λ t u. at (one Plain 0xD3 op t
    (shift_cl_agrees, (refl, refl, refl, refl)))) (λ t u.
    either (eqb op 0xE8) _ _ _ R u (λ t u. at (one Plain 0xE8 op t
    (call, (refl, refl, refl, refl)))) (λ t u.
    either (eqb op 0xE9) _ _ _ R u (λ t u. at (one Plain 0xE9 op t
    (jump, (refl, refl, refl, refl)))) (λ t u.
    either (eqb op 0xEB) _ _ _ R u (λ t u. at (one Plain 0xEB op t
    (short, (refl, refl, refl, refl)))) (λ t u.
    either (eqb op 0xFF) _ _ _ R u (λ t u. at (one Plain 0xFF op t
    (indirect, (refl, refl, refl, refl)))) (λ t u. absurd cc)))))))))))))))))

-- ---- 00 to 3F

no_prefix_0 : (k : ℕ) → k < 8 → IsNoPrefix (8 * k)
no_prefix_0 = eight (λ k. IsNoPrefix (8 * k))
    (refl, refl, refl, refl) (refl, refl, refl, refl) (refl, refl, refl, refl)
    (refl, refl, refl, refl) (refl, refl, refl, refl) (refl, refl, refl, refl)
    (refl, refl, refl, refl) (refl, refl, refl, refl)

no_prefix_1 : (k : ℕ) → k < 8 → IsNoPrefix (8 * k + 1)
no_prefix_1 = eight (λ k. IsNoPrefix (8 * k + 1))
    (refl, refl, refl, refl) (refl, refl, refl, refl) (refl, refl, refl, refl)
    (refl, refl, refl, refl) (refl, refl, refl, refl) (refl, refl, refl, refl)
    (refl, refl, refl, refl) (refl, refl, refl, refl)

no_prefix_2 : (k : ℕ) → k < 8 → IsNoPrefix (8 * k + 2)
no_prefix_2 = eight (λ k. IsNoPrefix (8 * k + 2))
    (refl, refl, refl, refl) (refl, refl, refl, refl) (refl, refl, refl, refl)
    (refl, refl, refl, refl) (refl, refl, refl, refl) (refl, refl, refl, refl)
    (refl, refl, refl, refl) (refl, refl, refl, refl)

no_prefix_3 : (k : ℕ) → k < 8 → IsNoPrefix (8 * k + 3)
no_prefix_3 = eight (λ k. IsNoPrefix (8 * k + 3))
    (refl, refl, refl, refl) (refl, refl, refl, refl) (refl, refl, refl, refl)
    (refl, refl, refl, refl) (refl, refl, refl, refl) (refl, refl, refl, refl)
    (refl, refl, refl, refl) (refl, refl, refl, refl)

-- by the operation's number k and the form's r
by_form : (n k r : ℕ) → n ≡ 8 * k + r → k < 8 → r < 4 → Whole n
by_form n k zero e lt s =
    let h : n ≡ 8 * k = omega (arith, e) in subst Whole (sym h) (rm_8 k lt, no_prefix_0 k lt)
by_form n k (suc zero) e lt s = subst Whole (sym e) (rm_all k lt, no_prefix_1 k lt)
by_form n k (suc (suc zero)) e lt s = subst Whole (sym e) (r_8 k lt, no_prefix_2 k lt)
by_form n k (suc (suc (suc zero))) e lt s = subst Whole (sym e) (r_all k lt, no_prefix_3 k lt)
by_form n k (suc (suc (suc (suc r)))) e lt s = absurd (omega (arith, s))

arithmetic_found : (p : Prefixes) (op : ℕ) (bytes : List ℕ) (i : Instr) (rest : List ℕ)
    → spelling.row p op bytes ≡ Some (i, rest) → eqb (op / 64) 0 ≡ true
    → spelling.arithmetic_row p op bytes ≡ Some (i, rest) → Found p op bytes i rest
arithmetic_found p op bytes i rest e t u =
    let R = Found p op bytes i rest in
    let at : Whole op → R = λ h. (h.0 p bytes i rest e, h.1) in
    let top : op / 64 ≡ 0 = eqb-true (op / 64) 0 t in
    let b = bind_some (given (operation (op / 8)) bytes) (λ o. arithmetic_form p o.0 op o.1)
    (i, rest) u in
    either (eqb (op % 8 / 2) 0) _ _ _ R b.2 (λ t u. at (by_form op (op / 8) (op % 8) (omega arith)
    (omega (arith, top)) (omega (arith, eqb-true (op % 8 / 2) 0 t)))) (λ t u.
    either (eqb (op % 8 / 2) 1) _ _ _ R u (λ t u. at (by_form op (op / 8) (op % 8) (omega arith)
    (omega (arith, top)) (omega (arith, eqb-true (op % 8 / 2) 1 t)))) (λ t u. absurd cc))

row_found : (p : Prefixes) (op : ℕ) (bytes : List ℕ) (i : Instr) (rest : List ℕ)
    → spelling.row p op bytes ≡ Some (i, rest) → Found p op bytes i rest
unfolding spelling.row
row_found p op bytes i rest e =
    let R = Found p op bytes i rest in
    let at : Whole op → R = λ h. (h.0 p bytes i rest e, h.1) in
    either (eqb (op / 64) 0) _ _ _ R e (λ t u. arithmetic_found p op bytes i rest e t u) (λ t u.
    either (eqb (op / 2) 0x40) _ _ _ R u (λ t u. at (two Whole 0x40 op t
    (immediate_byte, (refl, refl, refl, refl)) (immediate_all, (refl, refl, refl, refl)))) (λ t u.
    either (eqb op 0x83) _ _ _ R u (λ t u. at (one Whole 0x83 op t
    (immediate_signed, (refl, refl, refl, refl)))) (λ t u.
    either (eqb (op / 2) 0x42) _ _ _ R u (λ t u. at (two Whole 0x42 op t
    (test_byte, (refl, refl, refl, refl)) (test, (refl, refl, refl, refl)))) (λ t u.
    either (eqb (op / 2) 0x44) _ _ _ R u (λ t u. at (two Whole 0x44 op t
    (mov_byte, (refl, refl, refl, refl)) (mov, (refl, refl, refl, refl)))) (λ t u.
    either (eqb (op / 2) 0x45) _ _ _ R u (λ t u. at (two Whole 0x45 op t
    (load_byte, (refl, refl, refl, refl)) (load_all, (refl, refl, refl, refl)))) (λ t u.
    either (eqb (op / 8) 23) _ _ _ R u (λ t u. at (octet Whole 23 op (eqb-true (op / 8) 23 t)
    (λ k lt. (move_immediate_agrees k lt, no_prefix_B8 k lt)))) (λ t u.
    either (eqb (op / 2) 0x63) _ _ _ R u (λ t u. at (two Whole 0x63 op t
    (move_byte_immediate, (refl, refl, refl, refl))
    (move_whole_immediate, (refl, refl, refl, refl)))) (λ t u.
    either (eqb (op / 2) 0x7B) _ _ _ R u (λ t u. at (two Whole 0x7B op t
    (three_byte_agrees, (refl, refl, refl, refl))
    (three_whole_agrees, (refl, refl, refl, refl)))) (λ t u.
    either p.operand_size _ _ _ R u (λ t u. absurd cc) (λ t u.
    plain_found p op bytes i rest t u))))))))))

-- ---- opcodes after 0F

abbrev Second : ℕ → Type 0
Second op = (eqb op 0x38 ≡ false) × (eqb op 0x3A ≡ false)

abbrev TwoFound : Prefixes → ℕ → List ℕ → Instr → List ℕ → Type 0
TwoFound p op bytes i rest = RowAgrees p TwoByte op bytes i rest × Second op

second_80 : (k : ℕ) → k < 8 → Second (0x80 + k)
second_80 = eight (λ k. Second (0x80 + k)) (refl, refl) (refl, refl) (refl, refl) (refl, refl)
    (refl, refl) (refl, refl) (refl, refl) (refl, refl)

second_88 : (k : ℕ) → k < 8 → Second (0x88 + k)
second_88 = eight (λ k. Second (0x88 + k)) (refl, refl) (refl, refl) (refl, refl) (refl, refl)
    (refl, refl) (refl, refl) (refl, refl) (refl, refl)

second_90 : (k : ℕ) → k < 8 → Second (0x90 + k)
second_90 = eight (λ k. Second (0x90 + k)) (refl, refl) (refl, refl) (refl, refl) (refl, refl)
    (refl, refl) (refl, refl) (refl, refl) (refl, refl)

second_98 : (k : ℕ) → k < 8 → Second (0x98 + k)
second_98 = eight (λ k. Second (0x98 + k)) (refl, refl) (refl, refl) (refl, refl) (refl, refl)
    (refl, refl) (refl, refl) (refl, refl) (refl, refl)

two_found : (p : Prefixes) (op : ℕ) (bytes : List ℕ) (i : Instr) (rest : List ℕ)
    → two_byte_row p op bytes ≡ Some (i, rest) → TwoFound p op bytes i rest
unfolding two_byte_row
two_found p op bytes i rest e =
    let R = TwoFound p op bytes i rest in
    either p.operand_size _ _ _ R e (λ t u. absurd cc) (λ s u.
    either (eqb op 0x0B) _ _ _ R u (λ t u. one (λ n. TwoFound p n bytes i rest) 0x0B op t
    (undefined_agrees p bytes i rest s u, (refl, refl))) (λ t u.
    either (eqb (op / 16) 8) _ _ _ R u (λ t u. sixteen
    (λ n. spelling.jump_if W32 n bytes ≡ Some (i, rest) → TwoFound p n bytes i rest) 8 op t
    (λ k lt h. (jumps_low k lt p bytes i rest s h, second_80 k lt))
    (λ k lt h. (jumps_high k lt p bytes i rest s h, second_88 k lt)) u) (λ t u.
    either (eqb (op / 16) 9) _ _ _ R u (λ t u. sixteen
    (λ n. spelling.set_if p n bytes ≡ Some (i, rest) → TwoFound p n bytes i rest) 9 op t
    (λ k lt h. (sets_low k lt p bytes i rest s h, second_90 k lt))
    (λ k lt h. (sets_high k lt p bytes i rest s h, second_98 k lt)) u) (λ t u.
    either (eqb op 0xAF) _ _ _ R u (λ t u. one (λ n. TwoFound p n bytes i rest) 0xAF op t
    (multiply_agrees p bytes i rest s u, (refl, refl))) (λ t u.
    either (eqb (op / 2) 0x5B) _ _ _ R u (λ t u. two
    (λ n. spelling.extend Zero p n bytes ≡ Some (i, rest) → TwoFound p n bytes i rest) 0x5B op t
    (λ h. (zero_extend_byte p bytes i rest s h, (refl, refl)))
    (λ h. (zero_extend_word p bytes i rest s h, (refl, refl))) u) (λ t u.
    either (eqb (op / 2) 0x5F) _ _ _ R u (λ t u. two
    (λ n. spelling.extend Sign p n bytes ≡ Some (i, rest) → TwoFound p n bytes i rest) 0x5F op t
    (λ h. (sign_extend_byte p bytes i rest s h, (refl, refl)))
    (λ h. (sign_extend_word p bytes i rest s h, (refl, refl))) u) (λ t u. absurd cc)))))))

-- ---- each

pub each_row : RowsAgree
each_row = record {
  one_byte = λ p op bytes i rest e. (row_found p op bytes i rest e).0;
  first = λ p op bytes i rest e. (row_found p op bytes i rest e).1;
  two_byte = λ p op bytes i rest e. (two_found p op bytes i rest e).0;
  second = λ p op bytes i rest e. (two_found p op bytes i rest e).1;
}
