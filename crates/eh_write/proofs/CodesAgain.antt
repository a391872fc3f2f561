-- The codes that are written, read again.
use Rattle.std.proofs.Common.{◌≡◌, ℕ, ◌+◌, ◌-◌, ◌*◌, ◌/◌, ◌%◌, ◌^◌, ◌<◌, ◌≤◌, Bool, true, cond, Some, None, Ok, List, [], ◌∷◌, ◌++◌, length, length-append, refl, ap, ◌∙◌, arith}
use Rattle.std.proofs.lemmas.Bool.{cond_both, and_parts, eqb-true, ltb-true, lt-ltb, le-ltb}
use Rattle.std.specs.List.{AllByRecursion}
use Rattle.std.specs.Prelude.{◌&&◌, ◌==◌, nat_lt, nat_le}
use Rattle.eh_write.specs.Words.{UWOP_PUSH_NONVOL, UWOP_ALLOC_LARGE, UWOP_ALLOC_SMALL, UWOP_SET_FPREG, UWOP_SAVE_NONVOL, UWOP_SAVE_NONVOL_FAR, UWOP_SAVE_XMM128, UWOP_SAVE_XMM128_FAR, UWOP_PUSH_MACHFRAME, UnwindOperation, UnwindCode, operation, code_before, codes, code_checked, in_order, u16, u32, slot, is_short, is_small, allocation, saving, operation_bytes, code_bytes, codes_bytes, OperationFits, AreFalling, IsOperation}
use Rattle.eh_tables.specs.declared.code.UnwindOperation.TheVariants.{Push, Allocate, SetFrame, Save, SaveVector, MachineFrame}
use Rattle.eh_tables.specs.Codes.{checked}
use Rattle.eh_write.proofs.TablesAgain.{four_is}

-- ---- a code's first slot, and its operands

first_is : (op info : ℕ) → op < 16 → (op + 16 * info) % 16 ≡ op
first_is op info lt = omega arith

second_is : (op info : ℕ) → op < 16 → (op + 16 * info) / 16 ≡ info
second_is op info lt = omega arith

operation_is : (framed : Bool) (op info : ℕ) (rest : List ℕ) → op < 16
    → operation framed ((op + 16 * info) % 16) ((op + 16 * info) / 16) rest
    ≡ operation framed op info rest
operation_is framed op info rest lt = ap (λ n. operation framed n ((op + 16 * info) / 16) rest)
    (first_is op info lt) ∙ ap (λ n. operation framed op n rest) (second_is op info lt)

abbrev two : ℕ → ℕ
two n = n % 256 + 256 * (n / 256 % 256 + 256 * 0)

two_is : (n : ℕ) → n < 65536 → two n ≡ n
two_is n lt = omega arith

-- ---- what one code's bytes are read as, whatever follows

record IsReadAs (framed : Bool) (offset : ℕ) (o : UnwindOperation) (bytes : List ℕ) : Type 0 where
  code : (rest : List ℕ) → codes framed 0 (bytes ++ rest)
      ≡ record { offset = offset; operation = o } ∷ codes framed 0 rest
  order : (rest : List ℕ) (index slot last : ℕ) → offset ≤ last
      → ((k : ℕ) → checked index framed k offset 0 rest ≡ Ok tt)
      → checked index framed slot last 0 (bytes ++ rest) ≡ Ok tt
  even : length bytes % 2 ≡ 0

module _ (framed : Bool) (offset op info : ℕ) (o : UnwindOperation) (small : op < 16) where
  bare : ((rest : List ℕ) → operation framed op info rest ≡ Some (o, 0))
      → IsReadAs framed offset o (slot offset op info)
  bare is = record {
    code = λ rest. ap (code_before offset (λ k. codes framed k rest))
        (operation_is framed op info rest small ∙ is rest);
    order = λ rest index at last le later.
        ap (code_checked index at last offset (λ k. checked index framed (at + 1) offset k rest))
        (operation_is framed op info rest small ∙ is rest)
        ∙ ap (in_order index at (checked index framed (at + 1) offset 0 rest))
        (le-ltb last offset le)
        ∙ later (at + 1);
    even = refl;
  }

  short : (n : ℕ) → ((rest : List ℕ) → operation framed op info (u16 n ++ rest) ≡ Some (o, 1))
      → IsReadAs framed offset o (slot offset op info ++ u16 n)
  unfolding u16
  short n is = record {
    code = λ rest. ap (code_before offset (λ k. codes framed k (u16 n ++ rest)))
        (operation_is framed op info (u16 n ++ rest) small ∙ is rest);
    order = λ rest index at last le later.
        ap (code_checked index at last offset
        (λ k. checked index framed (at + 1) offset k (u16 n ++ rest)))
        (operation_is framed op info (u16 n ++ rest) small ∙ is rest)
        ∙ ap (in_order index at (checked index framed (at + 1) offset 1 (u16 n ++ rest)))
        (le-ltb last offset le)
        ∙ later (at + 1 + 1);
    even = refl;
  }

  long : (n : ℕ) → ((rest : List ℕ) → operation framed op info (u32 n ++ rest) ≡ Some (o, 2))
      → IsReadAs framed offset o (slot offset op info ++ u32 n)
  unfolding u32
  long n is = record {
    code = λ rest. ap (code_before offset (λ k. codes framed k (u32 n ++ rest)))
        (operation_is framed op info (u32 n ++ rest) small ∙ is rest);
    order = λ rest index at last le later.
        ap (code_checked index at last offset
        (λ k. checked index framed (at + 1) offset k (u32 n ++ rest)))
        (operation_is framed op info (u32 n ++ rest) small ∙ is rest)
        ∙ ap (in_order index at (checked index framed (at + 1) offset 2 (u32 n ++ rest)))
        (le-ltb last offset le)
        ∙ later (at + 1 + 1 + 1);
    even = refl;
  }

-- ---- each operation

eight_is : (n : ℕ) → is_short 8 n ≡ true → 8 * two (n / 8) ≡ n
eight_is n is =
    let parts = and_parts (n % 8 == 0) (nat_lt (n / 8) 65536) is in
    let whole = eqb-true (n % 8) 0 parts.0 in
    ap (λ m. 8 * m) (two_is (n / 8) (ltb-true (n / 8) 65536 parts.1)) ∙ omega (arith, whole)

sixteen_is : (n : ℕ) → is_short 16 n ≡ true → 16 * two (n / 16) ≡ n
sixteen_is n is =
    let parts = and_parts (n % 16 == 0) (nat_lt (n / 16) 65536) is in
    let whole = eqb-true (n % 16) 0 parts.0 in
    ap (λ m. 16 * m) (two_is (n / 16) (ltb-true (n / 16) 65536 parts.1)) ∙ omega (arith, whole)

small_is : (n : ℕ) → is_small n ≡ true → 8 * (n / 8 - 1) + 8 ≡ n
small_is n is =
    let all = and_parts ((n % 8 == 0) && nat_lt 0 n) (nat_le n 128) is in
    let parts = and_parts (n % 8 == 0) (nat_lt 0 n) all.0 in
    let whole = eqb-true (n % 8) 0 parts.0 in
    let some = ltb-true 0 n parts.1 in
    omega (arith, whole, some)

module _ (framed : Bool) (offset : ℕ) where
  pushed : (r : ℕ) → IsReadAs framed offset (Push r) (slot offset UWOP_PUSH_NONVOL r)
  unfolding operation
  pushed r = bare framed offset UWOP_PUSH_NONVOL r (Push r) (omega arith) (λ rest. refl)

  frame_set : framed ≡ true → IsReadAs framed offset SetFrame (slot offset UWOP_SET_FPREG 0)
  unfolding operation
  frame_set is = bare framed offset UWOP_SET_FPREG 0 SetFrame (omega arith)
      (λ rest. ap (λ b. cond b (Some (SetFrame, 0)) None) is)

  machine : (i : ℕ) → i < 2 → IsReadAs framed offset (MachineFrame i)
      (slot offset UWOP_PUSH_MACHFRAME i)
  unfolding operation
  machine i lt = bare framed offset UWOP_PUSH_MACHFRAME i (MachineFrame i) (omega arith)
      (λ rest. ap (λ b. cond b (Some (MachineFrame i, 0)) None) (lt-ltb i 2 lt))

  allocated : (n : ℕ) → n < 2 ^ 32 → IsReadAs framed offset (Allocate n) (allocation offset n)
  unfolding operation u16 u32
  allocated n lt =
      cond_both (is_small n) (slot offset UWOP_ALLOC_SMALL (n / 8 - 1))
      (cond (is_short 8 n) (slot offset UWOP_ALLOC_LARGE 0 ++ u16 (n / 8))
      (slot offset UWOP_ALLOC_LARGE 1 ++ u32 n)) (IsReadAs framed offset (Allocate n))
      (λ is. bare framed offset UWOP_ALLOC_SMALL (n / 8 - 1) (Allocate n) (omega arith)
      (λ rest. ap (λ m. Some (Allocate m, 0)) (small_is n is)))
      (λ more. cond_both (is_short 8 n) (slot offset UWOP_ALLOC_LARGE 0 ++ u16 (n / 8))
      (slot offset UWOP_ALLOC_LARGE 1 ++ u32 n) (IsReadAs framed offset (Allocate n))
      (λ is. short framed offset UWOP_ALLOC_LARGE 0 (Allocate n) (omega arith) (n / 8)
      (λ rest. ap (λ m. Some (Allocate m, 1)) (eight_is n is)))
      (λ far. long framed offset UWOP_ALLOC_LARGE 1 (Allocate n) (omega arith) n
      (λ rest. ap (λ m. Some (Allocate m, 2)) (four_is n lt))))

  saved : (r n : ℕ) → n < 2 ^ 32 → IsReadAs framed offset (Save r n)
      (saving offset UWOP_SAVE_NONVOL UWOP_SAVE_NONVOL_FAR 8 r n)
  unfolding operation u16 u32
  saved r n lt =
      cond_both (is_short 8 n) (slot offset UWOP_SAVE_NONVOL r ++ u16 (n / 8))
      (slot offset UWOP_SAVE_NONVOL_FAR r ++ u32 n) (IsReadAs framed offset (Save r n))
      (λ is. short framed offset UWOP_SAVE_NONVOL r (Save r n) (omega arith) (n / 8)
      (λ rest. ap (λ m. Some (Save r m, 1)) (eight_is n is)))
      (λ far. long framed offset UWOP_SAVE_NONVOL_FAR r (Save r n) (omega arith) n
      (λ rest. ap (λ m. Some (Save r m, 2)) (four_is n lt)))

  vector_saved : (r n : ℕ) → n < 2 ^ 32 → IsReadAs framed offset (SaveVector r n)
      (saving offset UWOP_SAVE_XMM128 UWOP_SAVE_XMM128_FAR 16 r n)
  unfolding operation u16 u32
  vector_saved r n lt =
      cond_both (is_short 16 n) (slot offset UWOP_SAVE_XMM128 r ++ u16 (n / 16))
      (slot offset UWOP_SAVE_XMM128_FAR r ++ u32 n) (IsReadAs framed offset (SaveVector r n))
      (λ is. short framed offset UWOP_SAVE_XMM128 r (SaveVector r n) (omega arith) (n / 16)
      (λ rest. ap (λ m. Some (SaveVector r m, 1)) (sixteen_is n is)))
      (λ far. long framed offset UWOP_SAVE_XMM128_FAR r (SaveVector r n) (omega arith) n
      (λ rest. ap (λ m. Some (SaveVector r m, 2)) (four_is n lt)))

  one_again : (o : UnwindOperation) → OperationFits framed o → IsOperation o
      → IsReadAs framed offset o (operation_bytes offset o)
  one_again (Push r) fits is = pushed r
  one_again (Allocate n) fits is = allocated n is
  one_again SetFrame fits is = frame_set fits
  one_again (Save r n) fits is = saved r n is
  one_again (SaveVector r n) fits is = vector_saved r n is
  one_again (MachineFrame i) fits is = machine i fits

-- ---- all of them

module _ (framed : Bool) where
  pub codes_again : (cs : List UnwindCode) → AllByRecursion (λ c. OperationFits framed c.operation)
      cs → AllByRecursion (λ c. IsOperation c.operation) cs → codes framed 0 (codes_bytes cs) ≡ cs
  codes_again [] fits are = refl
  codes_again (c ∷ cs) fits are =
      (one_again framed c.offset c.operation fits.0 are.0).code (codes_bytes cs)
      ∙ ap (λ (t : List UnwindCode). c ∷ t) (codes_again cs fits.1 are.1)

  pub order_again : (index : ℕ) (cs : List UnwindCode) (at last : ℕ)
      → AllByRecursion (λ c. OperationFits framed c.operation) cs
      → AllByRecursion (λ c. IsOperation c.operation) cs → AreFalling last cs
      → checked index framed at last 0 (codes_bytes cs) ≡ Ok tt
  order_again index [] at last fits are falling = refl
  order_again index (c ∷ cs) at last fits are falling =
      (one_again framed c.offset c.operation fits.0 are.0).order (codes_bytes cs) index at last
      falling.0 (λ k. order_again index cs k c.offset fits.1 are.1 falling.1)

  pub whole_slots : (cs : List UnwindCode) → AllByRecursion (λ c. OperationFits framed c.operation)
      cs → AllByRecursion (λ c. IsOperation c.operation) cs → length (codes_bytes cs) % 2 ≡ 0
  whole_slots [] fits are = refl
  whole_slots (c ∷ cs) fits are =
      let first = (one_again framed c.offset c.operation fits.0 are.0).even in
      let others = whole_slots cs fits.1 are.1 in
      omega (arith, length-append (code_bytes c) (codes_bytes cs))
