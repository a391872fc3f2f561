-- The ranges of a dump with their bytes have its memory.
use Rattle.std.proofs.Common.{◌≡◌, ℕ, zero, suc, ◌+◌, ◌-◌, ◌^◌, ◌<◌, ◌≤◌, true, false, List, [], ◌∷◌, length, take, drop, get_or, ltb, leb, Some, refl, sym, ap, ◌∙◌, inl, inr, arith}
use Rattle.std.specs.Prelude.{◌&&◌, if◌then◌else◌}
use Rattle.std.proofs.lemmas.Bool.{cases_lt, and_parts, and_from, and_left, and_right, leb-true, lt-ltb, le-ltb, le-leb, lt-leb}
use Rattle.std.proofs.lemmas.List.{get_or-take, get_or-drop}
use Rattle.minidump.specs.declared.structures.MemoryRange.{MemoryRange}
use Rattle.seh_views.specs.declared.c_types.SehRange.{SehRange}
use Rattle.seh_views.specs.Ranges.{in_order, is_placed, holds, range_or, range_at, held_from, held}
use Rattle.dump_stacks.specs.Ranges.{memory_ranges, covers, byte_in, byte_of, first_byte, IsRangeOf, AreRangesOf}
use Rattle.dump_stacks.specs.Laws.{RangesAreMemory}

first_of : (xs : List ℕ) (k : ℕ) → k < length xs
    → first_byte (drop k xs) ≡ Some (get_or xs k 0)
first_of [] k lt = absurd (omega arith)
first_of (x ∷ xs) zero lt = refl
first_of (x ∷ xs) (suc k) lt = first_of xs k (omega arith)

taken : (n m : ℕ) (xs : List ℕ) → m + n ≤ length xs → length (take n (drop m xs)) ≡ n
taken zero m xs le = refl
taken (suc n) zero [] le = absurd (omega arith)
taken (suc n) zero (x ∷ xs) le = ap suc (taken n 0 xs (omega arith))
taken (suc n) (suc m) [] le = absurd (omega arith)
taken (suc n) (suc m) (x ∷ xs) le = taken (suc n) m xs (omega arith)

module _ (file : List ℕ) (m : MemoryRange) (r : SehRange) (is : IsRangeOf file m r) where
  size : length r.bytes.now ≡ m.size
  size = ap length is.bytes ∙ taken m.size m.at file is.inside

  first : (a : ℕ) → m.start ≤ a → a < m.start + m.size
      → first_byte (drop (a - r.at) r.bytes.now) ≡ Some (byte_in file a m)
  first a le lt =
      first_of r.bytes.now (a - r.at) (let s = size in let t = is.at in omega arith)
      ∙ ap (λ xs. Some (get_or xs (a - r.at) 0)) is.bytes
      ∙ ap (λ b. Some (get_or (take m.size (drop m.at file)) (a - b) 0)) is.at
      ∙ ap (λ (x : ℕ). Some x) (get_or-take m.size (drop m.at file) (a - m.start) 0 (omega arith)
      ∙ get_or-drop m.at file (a - m.start) 0)

  end_is : r.at + length r.bytes.now ≡ m.start + m.size
  end_is = let s = size in let t = is.at in omega arith

  covered : (a : ℕ) → m.start ≤ a → a < m.start + m.size → m.start + m.size ≤ 2 ^ 64
      → covers a m ≡ true
  covered a le lt within = and_from (leb m.start a && ltb a (m.start + m.size)) (ltb a (2 ^ 64))
      (and_from (leb m.start a) (ltb a (m.start + m.size)) (le-leb m.start a le)
      (lt-ltb a (m.start + m.size) lt)) (lt-ltb a (2 ^ 64) (omega arith))

  has : (a : ℕ) → m.start ≤ a → a < m.start + m.size → holds a r ≡ true
  has a le lt =
      let s = end_is in let t = is.at in
      and_from (leb r.at a) (ltb a (r.at + length r.bytes.now)) (le-leb r.at a (omega arith))
      (lt-ltb a (r.at + length r.bytes.now) (omega arith))

  below : (a : ℕ) → a < m.start → covers a m ≡ holds a r
  below a lt =
      let t = is.at in
      and_left (leb m.start a && ltb a (m.start + m.size)) (ltb a (2 ^ 64))
      (and_left (leb m.start a) (ltb a (m.start + m.size)) (lt-leb m.start a lt))
      ∙ sym (and_left (leb r.at a) (ltb a (r.at + length r.bytes.now))
      (lt-leb r.at a (omega arith)))

  above : (a : ℕ) → m.start + m.size ≤ a → covers a m ≡ holds a r
  above a le =
      let s = end_is in
      and_left (leb m.start a && ltb a (m.start + m.size)) (ltb a (2 ^ 64))
      (and_right (leb m.start a) (ltb a (m.start + m.size)) (le-ltb a (m.start + m.size) le))
      ∙ sym (and_right (leb r.at a) (ltb a (r.at + length r.bytes.now))
      (le-ltb a (r.at + length r.bytes.now) (omega arith)))

  -- a range before others
  abbrev Before : ℕ → List MemoryRange → List SehRange → Type 0
  Before a ms rs = first_byte (held a (r ∷ rs)) ≡ byte_of file (m ∷ ms) a

  module _ (a : ℕ) (ms : List MemoryRange) (rs : List SehRange)
      (others : first_byte (held a rs) ≡ byte_of file ms a) where
    outside : covers a m ≡ holds a r → holds a r ≡ false → Before a ms rs
    outside same misses =
        ap (λ b. first_byte (held_from a (range_or (range_at a rs) r b))) misses ∙ others
        ∙ sym (ap (λ b. if b then Some (byte_in file a m) else byte_of file ms a) (same ∙ misses))

    before_all : m.start + m.size ≤ 2 ^ 64 → Before a ms rs
    before_all within = elim (cases_lt a m.start) [
      | inl lt ↦ outside (below a lt) (let t = is.at in
          and_left (leb r.at a) (ltb a (r.at + length r.bytes.now)) (lt-leb r.at a (omega arith)))
      | inr le ↦ elim (cases_lt a (m.start + m.size)) [
        | inl lt ↦ ap (λ b. first_byte (held_from a (range_or (range_at a rs) r b))) (has a le lt)
            ∙ first a le lt
            ∙ sym (ap (λ b. if b then Some (byte_in file a m) else byte_of file ms a)
            (covered a le lt within))
        | inr past ↦ outside (above a past) (let s = end_is in
            and_right (leb r.at a) (ltb a (r.at + length r.bytes.now))
            (le-ltb a (r.at + length r.bytes.now) (omega arith)))
      ]
    ]

in_memory : (file : List ℕ) (end : ℕ) (ms : List MemoryRange) (rs : List SehRange)
    → AreRangesOf file ms rs → in_order end rs ≡ true → (a : ℕ)
    → first_byte (held a rs) ≡ byte_of file ms a
in_memory file end [] [] are order a = refl
in_memory file end [] (r ∷ rs) are order a = absurd are
in_memory file end (m ∷ ms) [] are order a = absurd are
in_memory file end (m ∷ ms) (r ∷ rs) are order a =
    let p = and_parts (is_placed end r) (in_order (r.at + length r.bytes.now) rs) order in
    let q = and_parts (leb end r.at) (leb (r.at + length r.bytes.now) (2 ^ 64)) p.0 in
    let within = leb-true (r.at + length r.bytes.now) (2 ^ 64) q.1 in
    let e = end_is file m r are.0 in
    before_all file m r are.0 a ms rs
    (in_memory file (r.at + length r.bytes.now) ms rs are.1 p.1 a) (omega arith)

pub ranges_are_memory : RangesAreMemory
ranges_are_memory file directory rs are order =
    in_memory file 0 (memory_ranges file directory) rs are order
