-- A placed record tells where the exception's own record is in it.
use Rattle.std.proofs.Common.{◌≡◌, ℕ, ◌+◌, ◌-◌, ◌*◌, ◌/◌, ◌%◌, ◌^◌, ◌<◌, ◌≤◌, false, Option, None, Ok, get_or, sym, ap, ◌∙◌, arith}
use Rattle.std.specs.Prelude.{nat_lt, ◌&&◌}
use Rattle.std.proofs.lemmas.Bool.{lt-ltb, le-leb}
use Rattle.match_stack.specs.Words.{Memory, first_refused, may_read, number_at, with_number, access, word, readable, DispatchRecord, with_block, block_byte, placed, words, RECORD_SIZE, byte_of}
use Rattle.flat_memory.specs.Memory.{distance}
use Rattle.match_stack.proofs.Lemmas.{among, stored_is_loaded}
use Rattle.match_stack.proofs.MemoryReads.{number_same}

module _ (m : Memory) (at : ℕ) (r : DispatchRecord) (top : at + RECORD_SIZE < 2 ^ 64) where
  abbrev pointers_at : ℕ
  pointers_at = at + 80

  -- a byte of the seventh word after the home space
  of_word : (i : ℕ) → i < 8 → byte_of (words at r) (48 + i) ≡ (at + 96) / 256 ^ i % 256
  unfolding words
  of_word i lt =
      let q : (48 + i) / 8 ≡ 6 = omega arith in
      let o : (48 + i) % 8 ≡ i = omega arith in
      let a : (at + 96) % 2 ^ 64 ≡ at + 96 = omega arith in
      ap (λ k. get_or (words at r) k 0 / 256 ^ ((48 + i) % 8) % 256) q
      ∙ ap (λ j. (at + 96) % 2 ^ 64 / 256 ^ j % 256) o ∙ ap (λ v. v / 256 ^ i % 256) a

  of_block : (i : ℕ) → i < 8 → (placed m at r).byte (pointers_at + i)
      ≡ byte_of (words at r) (48 + i)
  unfolding placed with_block
  of_block i lt =
      let start = (at + 32) % 2 ^ 64 in
      let e : start ≡ at + 32 = omega arith in
      let x = pointers_at + i in
      let p : start ≤ x = omega arith in
      let l : x < start + 8 * 192 = omega arith in
      let o : x - start ≡ 48 + i = omega arith in
      ap (λ b. block_byte m.byte start (words at r) x (b && nat_lt x (start + 8 * 192)))
      (le-leb start x p)
      ∙ ap (block_byte m.byte start (words at r) x) (lt-ltb x (start + 8 * 192) l)
      ∙ ap (byte_of (words at r)) o

  of_number : (i : ℕ) → i < 8 → with_number m.byte 8 pointers_at (at + 96) (pointers_at + i)
      ≡ (at + 96) / 256 ^ i % 256
  of_number i lt =
      let d : distance pointers_at (pointers_at + i) ≡ i = omega arith in
      among m.byte 8 pointers_at (at + 96) (pointers_at + i) (omega arith) (omega arith)
      ∙ ap (λ k. (at + 96) / 256 ^ k % 256) d

  number_placed : number_at (placed m at r).byte 8 pointers_at ≡ at + 96
  number_placed =
      let s : (at + 96) % 256 ^ 8 ≡ at + 96 = omega arith in
      number_same (placed m at r).byte (with_number m.byte 8 pointers_at (at + 96)) 8 pointers_at
      (omega arith) (λ i lt.
      let e : (pointers_at + i) % 2 ^ 64 ≡ pointers_at + i = omega arith in
      ap (placed m at r).byte e ∙ of_block i lt ∙ of_word i lt ∙ sym (of_number i lt)
      ∙ ap (with_number m.byte 8 pointers_at (at + 96)) (sym e))
      ∙ stored_is_loaded m.byte 8 pointers_at (at + 96) (omega arith) (omega arith)
      ∙ s

  -- the word after the saved target is the address of the EXCEPTION_RECORD
  pub placed_points : first_refused (may_read m) 8 (at + 80) ≡ None
      → word (placed m at r) (at + 80) ≡ Ok (at + 96)
  unfolding placed
  placed_points readable_there =
      ap (λ (o : Option ℕ). readable (at + 80)
      (access false o (number_at (placed m at r).byte 8 (at + 80)))) readable_there
      ∙ ap (λ v. Ok v) number_placed
