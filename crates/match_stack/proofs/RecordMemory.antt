-- The memory in which a record and a funclet's return address were pushed.
use Rattle.std.proofs.Common.{◌≡◌, ◌⊎◌, inl, inr, ℕ, ◌+◌, ◌-◌, ◌*◌, ◌/◌, ◌%◌, ◌^◌, ◌<◌, ◌≤◌, Bool, true, false, cond, Option, Some, None, Ok, refl, sym, ap, subst, ◌∙◌, arith}
use Rattle.std.specs.Prelude.{nat_lt, nat_le, ◌&&◌}
use Rattle.std.proofs.lemmas.Bool.{cases_lt, ltb-false}
use Rattle.match_stack.specs.Words.{STACK_START, STACK_END, Memory, with_bytes, first_refused, may_read, may_write, with_number, number_at, access, word, readable, DispatchRecord, with_block, block_byte, misplaced, placed, fetched, return_address_at, words, RECORD_SIZE, PLACED_SIZE, KeepsAbove, IsData, RecordHasRoom, pushed, is_among, unless_refused, AreBytes, IsUntouched, PushedRecordLeavesOthers, ReturnAddressIsPushed}
use Rattle.flat_memory.specs.Memory.{distance}
use Rattle.flat_memory.specs.Laws.{IsApart}
use Rattle.match_stack.proofs.Lemmas.{untouched, stored_is_loaded, writable_is_readable, none_front, none_within, placed_is_fetched, placing_leaves_others, fetched_by_its_bytes}
use Rattle.seh_records.proofs.Places.{writable}
use Rattle.match_stack.proofs.MemoryReads.{word_kept}
use Rattle.match_stack.proofs.ExceptionPointers.{placed_points}

-- where a record may be placed
pub record IsPlace (at : ℕ) : Type 0 where
  pub low : 0x70000008 ≤ at
  pub high : at + RECORD_SIZE ≤ 2 ^ 64

pub place_of : (m : Memory) (at : ℕ) → at < 2 ^ 64 → misplaced m at ≡ None → IsPlace at
unfolding misplaced
place_of m at lt e = go (nat_lt (2 ^ 64) (return_address_at at + PLACED_SIZE)) refl
    (nat_lt (return_address_at at) STACK_START) refl e
  where
    go : (a : Bool) → nat_lt (2 ^ 64) (return_address_at at + PLACED_SIZE) ≡ a → (b : Bool)
        → nat_lt (return_address_at at) STACK_START ≡ b
        → cond a (Some 0) (cond b (Some (return_address_at at))
        (first_refused (may_write m) PLACED_SIZE (return_address_at at))) ≡ None → IsPlace at
    go true h b i e = absurd cc
    go false h true i e = absurd cc
    go false h false i e =
        let f : return_address_at at + PLACED_SIZE ≤ 2 ^ 64 = ltb-false _ _ h in
        let k : STACK_START ≤ return_address_at at = ltb-false _ _ i in
        record { low = omega arith; high = omega arith }

may_one : (may : ℕ → Bool) (a : ℕ) → first_refused may 1 a ≡ None → may a ≡ true
unfolding first_refused
may_one may a e = go (may a) e
  where
    go : (b : Bool) → cond b None (Some a) ≡ None → b ≡ true
    go true h = refl
    go false h = absurd cc

may_within : (may : ℕ → Bool) (n at x : ℕ) → at < 2 ^ 64 → at ≤ x → x < at + n → x < 2 ^ 64
    → first_refused may n at ≡ None → may x ≡ true
may_within may n at x lt low high top e =
    let f : (at + (x - at)) % 2 ^ 64 ≡ x = omega arith in
    may_one may x (ap (first_refused may 1) (sym f)
    ∙ none_within may n (x - at) 1 at lt (omega arith) e)

-- ---- bytes stay bytes

number_bytes : (byte : ℕ → ℕ) (n a v : ℕ) → AreBytes byte → AreBytes (with_number byte n a v)
unfolding with_number
number_bytes byte n a v h x = here (is_among n a x)
  where
    here : (b : Bool) → cond b (v / 256 ^ distance a x % 256) (byte x) < 256
    here true = omega arith
    here false = h x

placed_bytes : (m : Memory) (at : ℕ) (r : DispatchRecord) → AreBytes m.byte
    → AreBytes (placed m at r).byte
unfolding placed with_block
placed_bytes m at r h x = here (nat_le ((at + 32) % 2 ^ 64) x
    && nat_lt x ((at + 32) % 2 ^ 64 + 8 * 192))
  where
    here : (b : Bool) → block_byte m.byte ((at + 32) % 2 ^ 64) (words at r) x b < 256
    here true = omega arith
    here false = h x

module _ (m : Memory) (at : ℕ) (r : DispatchRecord) (back above : ℕ) (data_alone : IsData m)
    (room : RecordHasRoom m at r above) (back_small : back < 2 ^ 64) where
  top : at + RECORD_SIZE < 2 ^ 64
  top = let b = room.below in let s = room.small in omega arith

  place : IsPlace at
  place = let t = top in place_of m at (omega arith) room.room

  below : return_address_at at + 8 ≡ at
  below = let l : 0x70000008 ≤ at = place.low in let t = top in omega arith

  small : return_address_at at < 2 ^ 64
  small = let b = below in let t = top in omega arith

  may_all : first_refused (may_write m) PLACED_SIZE (return_address_at at) ≡ None
  may_all = writable m at room.room

  may_word : first_refused (may_write m) 8 (return_address_at at) ≡ None
  may_word = none_front (may_write m) PLACED_SIZE 8 RECORD_SIZE (return_address_at at) small
      (omega arith) may_all

  abbrev pub bytes : ℕ → ℕ
  bytes = with_number (placed m at r).byte 8 (return_address_at at) back

  pub pushed_is : pushed m at r back ≡ with_bytes m bytes
  unfolding placed
  pushed_is = ap (λ (o : Option ℕ). unless_refused o (with_bytes m bytes) (placed m at r)) may_word

  elsewhere : (x : ℕ) → (x < return_address_at at) ⊎ (at + RECORD_SIZE ≤ x) → bytes x ≡ m.byte x
  elsewhere x out = untouched (placed m at r).byte 8 (return_address_at at) back x (apart out) small
      ∙ placing_leaves_others m at r x top room.fits (wider out)
    where
      apart : (x < return_address_at at) ⊎ (at + RECORD_SIZE ≤ x)
          → IsApart x (return_address_at at) 8
      apart (inl p) i lt e = absurd (let b = below in let t = top in omega arith)
      apart (inr p) i lt e = absurd (let b = below in let t = top in omega arith)

      wider : (x < return_address_at at) ⊎ (at + RECORD_SIZE ≤ x)
          → (x < at + 32) ⊎ (at + RECORD_SIZE ≤ x)
      wider (inl p) = let b = below in inl (omega arith)
      wider (inr p) = inr p

  -- what is executable isn't writable
  code_same : (x : ℕ) → (m.protection x).execute ≡ true → bytes x ≡ m.byte x
  code_same x e = by (cases_lt x (return_address_at at)) (cases_lt x (at + RECORD_SIZE))
    where
      by : (x < return_address_at at) ⊎ (return_address_at at ≤ x)
          → (x < at + RECORD_SIZE) ⊎ (at + RECORD_SIZE ≤ x) → bytes x ≡ m.byte x
      by (inl p) q = elsewhere x (inl p)
      by (inr p) (inr q) = elsewhere x (inr q)
      by (inr p) (inl q) =
          let w : may_write m x ≡ true = may_within (may_write m) PLACED_SIZE (return_address_at at)
          x small p (let b = below in omega arith) (let t = top in omega arith) may_all in
          let f : (m.protection x).execute ≡ false = data_alone.no_code x w in
          absurd cc

  pub keeps_above : (low : ℕ) → at + RECORD_SIZE ≤ low → KeepsAbove m bytes low
  keeps_above low le = record { above = λ x q. elsewhere x (inr (omega arith)); code = code_same }

  -- the record alone
  pub placed_keeps_above : (low : ℕ) → at + RECORD_SIZE ≤ low
      → KeepsAbove m (placed m at r).byte low
  placed_keeps_above low le = record {
    above = λ x q. placing_leaves_others m at r x top room.fits
        (inr (omega arith));
    code = λ x e. by x e (cases_lt x (at + 32))
        (cases_lt x (at + RECORD_SIZE));
  }
    where
      by : (x : ℕ) → (m.protection x).execute ≡ true → (x < at + 32) ⊎ (at + 32 ≤ x)
          → (x < at + RECORD_SIZE) ⊎ (at + RECORD_SIZE ≤ x) → (placed m at r).byte x ≡ m.byte x
      by x e (inl q) o = placing_leaves_others m at r x top room.fits (inl q)
      by x e (inr q) (inr o) = placing_leaves_others m at r x top room.fits (inr o)
      by x e (inr q) (inl o) =
          let w : may_write m x ≡ true = may_within (may_write m) PLACED_SIZE (return_address_at at)
          x small (let b = below in omega arith) (let b = below in omega arith)
          (let t = top in omega arith) may_all in
          let f : (m.protection x).execute ≡ false = data_alone.no_code x w in
          absurd cc

  pub data_placed : IsData (placed m at r)
  unfolding placed
  data_placed = record {
    bytes = placed_bytes m at r data_alone.bytes;
    no_code = data_alone.no_code;
  }

  pub data_pushed : IsData (with_bytes m bytes)
  data_pushed = record {
    bytes = number_bytes (placed m at r).byte 8 (return_address_at at) back
        (placed_bytes m at r data_alone.bytes);
    no_code = data_alone.no_code;
  }

  readable_record : first_refused (may_read m) RECORD_SIZE at ≡ None
  readable_record =
      let e : at ≡ (return_address_at at + 8) % 2 ^
      64 = (let b = below in let t = top in omega arith) in
      ap (first_refused (may_read m) RECORD_SIZE) e
      ∙ writable_is_readable m RECORD_SIZE ((return_address_at at + 8) % 2 ^ 64)
      (none_within (may_write m) PLACED_SIZE 8 RECORD_SIZE (return_address_at at) small
      (omega arith) may_all)

  after_placing : (x : ℕ) → at + 32 ≤ x → bytes x ≡ (placed m at r).byte x
  after_placing x low = untouched (placed m at r).byte 8 (return_address_at at) back x
      (λ i lt e. absurd (let b = below in let t = top in omega arith)) small

  pub record_pushed : fetched (with_bytes m bytes) at ≡ Some r
  unfolding placed
  record_pushed =
      fetched_by_its_bytes (placed m at r) (with_bytes m bytes) at top refl
      (λ x low high. after_placing x low)
      ∙ placed_is_fetched m at r top data_alone.bytes room.fits readable_record

  pub pointers_pushed : word (with_bytes m bytes) (at + 80) ≡ Ok (at + 96)
  unfolding placed
  pointers_pushed =
      let e : (at + 80) % 2 ^ 64 ≡ at + 80 = (let t = top in omega arith) in
      let l = top in
      word_kept (placed m at r) (with_bytes m bytes) (at + 80) (omega arith) (λ x p q. refl)
      (λ x p q. after_placing x (omega arith))
      ∙ placed_points m at r top (ap (first_refused (may_read m) 8) (sym e)
      ∙ none_within (may_read m) RECORD_SIZE 80 8 at (omega arith) (omega arith) readable_record)

  pub word_pushed : word (with_bytes m bytes) (return_address_at at) ≡ Ok back
  word_pushed =
      ap (λ (o : Option ℕ). readable (return_address_at at)
      (access false o (number_at bytes 8 (return_address_at at))))
      (writable_is_readable m 8 (return_address_at at) may_word)
      ∙ ap (λ v. Ok v) (stored_is_loaded (placed m at r).byte 8 (return_address_at at) back
      (omega arith) small ∙ (let e : back % 256 ^ 8 ≡ back = omega arith in e))

  pub untouched_but_the_stack : above ≤ STACK_END → IsUntouched m (with_bytes m bytes)
  untouched_but_the_stack le = record {
    protection = refl;
    code = code_same;
    outside = λ x o. by x o;
  }
    where
      by : (x : ℕ) → (x < STACK_START) ⊎ (STACK_END ≤ x) → bytes x ≡ m.byte x
      by x (inl q) = elsewhere x (inl (let b = below in let l : 0x70000008 ≤ at = place.low in
          omega arith))
      by x (inr q) = elsewhere x (inr (let b = room.below in omega arith))

pub pushed_record_leaves_others : PushedRecordLeavesOthers
pushed_record_leaves_others m at r back above d room le small =
    subst (λ (n : Memory). IsUntouched m n) (sym (pushed_is m at r back above d room small))
    (untouched_but_the_stack m at r back above d room small le)

pub return_address_is_pushed : ReturnAddressIsPushed
return_address_is_pushed m at r back above d room small =
    ap (λ (n : Memory). word n (return_address_at at)) (pushed_is m at r back above d room small)
    ∙ word_pushed m at r back above d room small
