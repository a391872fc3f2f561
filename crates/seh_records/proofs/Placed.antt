-- A record that is placed is at its place, and all other bytes are as before.
use Rattle.std.proofs.Common.{◌≡◌, ℕ, zero, suc, ◌+◌, ◌-◌, ◌*◌, ◌/◌, ◌%◌, ◌^◌, ◌<◌, ◌≤◌, Bool, true, false, cond, Some, List, [], ◌∷◌, ◌++◌, length, get_or, length-append, refl, sym, ap, subst, ◌∙◌, arith, lit<, inl, inr}
use Rattle.std.specs.Prelude.{◌⊎◌, replicate}
use Rattle.std.proofs.lemmas.Bool.{cases_lt}
use Rattle.std.proofs.lemmas.List.{get_or-append-add, get_or_append_left}
use Rattle.seh_records.specs.Vocabulary.{Memory, is_among, distance, number_at, with_number, with_bytes, IsApart, Kind, Search, ExceptionUnwind, LocalUnwind, Vectored, DispatchRecord, with_words, words_at, words, head, front, back, number_of, eflags, placed, fetched, AllSmall, AreBytes, Readable, RecordFits, PlacedIsRecord, PlacedIsFetched, PlacedIsFetchedWhereNotRefused, PlacingLeavesOthers, RECORD_SIZE}
use Rattle.seh_records.proofs.Lemmas.{leaves_others, stored_is_loaded}
use Rattle.seh_records.proofs.Block.{outside, one_block}
use Rattle.seh_records.proofs.Places.{readable_bytes, below_top}
use Rattle.seh_records.proofs.Fetched.{run_is, fetched_back, count_words, eflags_small}

-- ---- words that come before others

apart : (x n a k : ℕ) → x + n ≤ a → a + k ≤ 2 ^ 64 → (i : ℕ) → i < n
    → IsApart ((x + i) % 2 ^ 64) a k
apart x n a k before top i il j jl e = absurd (omega arith)

-- a number below the words is as before
before_words : (byte : ℕ → ℕ) (ws : List ℕ) (a n x : ℕ) → a + 8 * length ws ≤ 2 ^ 64 → x + n ≤ a
    → number_at (with_words byte a ws) n x ≡ number_at byte n x
unfolding with_words
before_words byte [] a n x top le = refl
before_words byte (w ∷ []) a n x top le =
    leaves_others byte 8 a w n x (omega arith) (omega arith) (apart x n a 8 le (omega arith))
before_words byte (w ∷ u ∷ ws) a n x top le =
    let e : (a + 8) % 2 ^ 64 ≡ a + 8 = omega arith in
    ap (λ b. number_at (with_words (with_number byte 8 a w) b (u ∷ ws)) n x) e
    ∙ before_words (with_number byte 8 a w) (u ∷ ws) (a + 8) n x (omega arith) (omega arith)
    ∙ leaves_others byte 8 a w n x (omega arith) (omega arith) (apart x n a 8 le (omega arith))

-- each word is read back
word_back : (byte : ℕ → ℕ) (ws : List ℕ) (a k : ℕ) → a + 8 * length ws ≤ 2 ^ 64 → k < length ws
    → number_at (with_words byte a ws) 8 (a + 8 * k) ≡ get_or ws k 0 % 2 ^ 64
unfolding with_words
word_back byte [] a k top lt = absurd (omega arith)
word_back byte (w ∷ []) a (suc k) top lt = absurd (omega arith)
word_back byte (w ∷ []) a zero top lt =
    let z : a + 8 * 0 ≡ a = omega arith in
    ap (number_at (with_number byte 8 a w) 8) z
    ∙ stored_is_loaded byte 8 a w (omega arith) (omega arith)
word_back byte (w ∷ u ∷ ws) a zero top lt =
    let e : (a + 8) % 2 ^ 64 ≡ a + 8 = omega arith in
    let z : a + 8 * 0 ≡ a = omega arith in
    ap (λ b. number_at (with_words (with_number byte 8 a w) b (u ∷ ws)) 8 (a + 8 * 0)) e
    ∙ ap (number_at (with_words (with_number byte 8 a w) (a + 8) (u ∷ ws)) 8) z
    ∙ before_words (with_number byte 8 a w) (u ∷ ws) (a + 8) 8 a (omega arith) (omega arith)
    ∙ stored_is_loaded byte 8 a w (omega arith) (omega arith)
word_back byte (w ∷ u ∷ ws) a (suc k) top lt =
    let e : (a + 8) % 2 ^ 64 ≡ a + 8 = omega arith in
    let z : a + 8 * suc k ≡ a + 8 + 8 * k = omega arith in
    ap (λ b. number_at (with_words (with_number byte 8 a w) b (u ∷ ws)) 8 (a + 8 * suc k)) e
    ∙ ap (number_at (with_words (with_number byte 8 a w) (a + 8) (u ∷ ws)) 8) z
    ∙ word_back (with_number byte 8 a w) (u ∷ ws) (a + 8) k (omega arith) (omega arith)

-- bytes stay bytes
with_number-small : (byte : ℕ → ℕ) (n a v : ℕ) → AreBytes byte → AreBytes (with_number byte n a v)
unfolding with_number
with_number-small byte n a v h x = here (is_among n a x) (h x)
  where
    here : (b : Bool) → byte x < 256 → cond b (v / 256 ^ distance a x % 256) (byte x) < 256
    here true l = omega arith
    here false l = l

with_words-small : (byte : ℕ → ℕ) (ws : List ℕ) (a : ℕ) → AreBytes byte
    → AreBytes (with_words byte a ws)
unfolding with_words
with_words-small byte [] a h x = h x
with_words-small byte (w ∷ ws) a h x = with_words-small (with_number byte 8 a w) ws
    ((a + 8) % 2 ^ 64) (with_number-small byte 8 a w h) x

-- ---- the words are below 2^64

record Small (xs : List ℕ) : Type 0 where
  at : AllSmall xs

all_nil : Small []
all_nil = record { at = λ j lt. absurd (omega arith) }

all_more : (x : ℕ) (xs : List ℕ) → x < 2 ^ 64 → Small xs → Small (x ∷ xs)
all_more x xs h rest = record { at = go }
  where
    go : AllSmall (x ∷ xs)
    go zero lt = h
    go (suc j) lt = rest.at j (omega arith)

all_append : (xs ys : List ℕ) → Small xs → Small ys → Small (xs ++ ys)
all_append xs ys p q = record { at = λ j lt. go j lt (cases_lt j (length xs)) }
  where
    go : (j : ℕ) → j < length (xs ++ ys) → (j < length xs) ⊎ (length xs ≤ j)
        → get_or (xs ++ ys) j 0 < 2 ^ 64
    go j lt (inl l) = subst (λ n. n < 2 ^ 64) (sym (get_or_append_left xs ys 0 j l)) (p.at j l)
    go j lt (inr g) =
        let z : length xs + (j - length xs) ≡ j = omega arith in
        subst (λ n. n < 2 ^ 64) (sym (get_or-append-add xs ys (j - length xs) 0)
        ∙ ap (λ k. get_or (xs ++ ys) k 0) z)
        (q.at (j - length xs) (omega (arith, length-append xs ys)))

all_zeros : (n : ℕ) → Small (replicate n 0)
all_zeros zero = all_nil
all_zeros (suc n) = all_more 0 (replicate n 0) (lit< tt) (all_zeros n)

kind_small : (k : Kind) → number_of k < 2 ^ 64
kind_small Search = lit< tt
kind_small ExceptionUnwind = lit< tt
kind_small LocalUnwind = lit< tt
kind_small Vectored = lit< tt

words_small : (at : ℕ) (r : DispatchRecord) → RecordFits r → Small (words at r)
unfolding words
words_small at r fit =
    let z : 0 < 2 ^ 64 = lit< tt in
    let c = fit.code in
    let f = fit.flags in
    let n = fit.count in
    let e = eflags_small r.saved.flags in
    let flags : 2 ^ 32 * eflags r.saved.flags < 2 ^ 64 = omega arith in
    let p : (at + 96) % 2 ^ 64 < 2 ^ 64 = omega arith in
    let q : (at + 256) % 2 ^ 64 < 2 ^ 64 = omega arith in
    let w : r.code.0 + 2 ^ 32 * r.flags < 2 ^ 64 = omega arith in
    let t : r.count < 2 ^ 64 = omega arith in
    let h : Small (head at r) = all_more _ _ (lit< tt)
    (all_more _ _ (kind_small r.kind) (all_more _ _ fit.frame
    (all_more _ _ fit.row (all_more _ _ fit.target_frame
    (all_more _ _ fit.target (all_more _ _ p
    (all_more _ _ q (all_more _ _ w (all_more _ _ z
    (all_more _ _ fit.rip (all_more _ _ t all_nil))))))))))) in
    let o : Small (0 ∷ []) = all_more _ _ z all_nil in
    let g : Small (front r) = all_more _ _ z (all_more _ _ z
    (all_more _ _ z (all_more _ _ z (all_more _ _ z
    (all_more _ _ z (all_more _ _ z (all_more _ _ z
    (all_more _ _ flags (all_more _ _ z (all_more _ _ z
    (all_more _ _ z (all_more _ _ z (all_more _ _ z (all_more _ _ z all_nil)))))))))))))) in
    let b : Small (back r) = all_more _ _ fit.rip (all_zeros 122) in
    let v : Small (r.walk.rip ∷ []) = all_more _ _ fit.walk_rip all_nil in
    let w1 = head at r ++ r.parameters in
    let w2 = w1 ++ (0 ∷ []) in
    let w3 = w2 ++ front r in
    let w4 = w3 ++ r.saved.registers in
    let w5 = w4 ++ back r in
    let w6 = w5 ++ (r.walk.rip ∷ []) in
    all_append w6 r.walk.kept (all_append w5 (r.walk.rip ∷ [])
    (all_append w4 (back r) (all_append w3 r.saved.registers
    (all_append w2 (front r) (all_append w1 (0 ∷ [])
    (all_append (head at r) r.parameters h (record { at = fit.parameters_small })) o) g)
    (record { at = fit.registers_small })) b) v) (record { at = fit.kept_small })

-- ---- a record

-- the words written one after another
written : Memory → ℕ → DispatchRecord → Memory
written m at r = with_bytes m (with_words m.byte ((at + 32) % 2 ^ 64) (words at r))

-- which is how a record is placed
placed_is_written : (m : Memory) (at : ℕ) (r : DispatchRecord) → RecordFits r
    → at + RECORD_SIZE ≤ 2 ^ 64 → written m at r ≡ placed m at r
unfolding written placed
placed_is_written m at r fit top = ap (with_bytes m)
    (one_block m.byte (words at r) ((at + 32) % 2 ^ 64) 192 (sym (count_words r at fit))
    (omega arith))

-- modes are as before
placed_readable : (m : Memory) (at : ℕ) (r : DispatchRecord) → Readable m at
    → Readable (placed m at r) at
unfolding placed
placed_readable m at r h = h

placed_bytes : (m : Memory) (at : ℕ) (r : DispatchRecord) → RecordFits r → at + RECORD_SIZE ≤ 2 ^ 64
    → AreBytes m.byte → AreBytes (placed m at r).byte
unfolding written
placed_bytes m at r fit top h = subst (λ (p : Memory). AreBytes p.byte)
    (placed_is_written m at r fit top) (with_words-small m.byte (words at r) ((at + 32) % 2 ^ 64) h)

written_words : (m : Memory) (at : ℕ) (r : DispatchRecord) → RecordFits r
    → at + RECORD_SIZE ≤ 2 ^ 64 → words_at (written m at r).byte 192 ((at + 32) % 2 ^ 64)
    ≡ words at r
unfolding written
written_words m at r fit top =
    let n = count_words r at fit in
    let a = (at + 32) % 2 ^ 64 in
    ap (λ k. words_at (with_words m.byte a (words at r)) k a) (sym n)
    ∙ run_is (with_words m.byte a (words at r)) (words at r) a (omega arith)
    (λ j lt. word_back m.byte (words at r) a j (omega arith) lt
    ∙ (let s = (words_small at r fit).at j lt in
    let e : get_or (words at r) j 0 % 2 ^ 64 ≡ get_or (words at r) j 0 = omega arith in e))

placed_words : (m : Memory) (at : ℕ) (r : DispatchRecord) → RecordFits r → at + RECORD_SIZE ≤ 2 ^ 64
    → words_at (placed m at r).byte 192 ((at + 32) % 2 ^ 64) ≡ words at r
placed_words m at r fit top =
    ap (λ (p : Memory). words_at p.byte 192 ((at + 32) % 2 ^ 64))
    (sym (placed_is_written m at r fit top))
    ∙ written_words m at r fit top

pub placed_is_record : PlacedIsRecord
placed_is_record m at r top aligned fit readable =
    let end : at + RECORD_SIZE ≤ 2 ^ 64 = omega arith in
    record {
      aligned = aligned;
      readable = placed_readable m at r readable;
      words = placed_words m at r fit end;
    }

pub placing_leaves_others : PlacingLeavesOthers
unfolding written
placing_leaves_others m at r x top fit out =
    let g : (at + 32) % 2 ^ 64 ≡ at + 32 = omega arith in
    let n = count_words r at fit in
    let same = placed_is_written m at r fit (omega arith) in
    ap (λ (p : Memory). p.byte x) (sym same)
    ∙ ap (λ b. with_words m.byte b (words at r) x) g
    ∙ outside m.byte (words at r) (at + 32) x (omega arith) (so out n)
  where
    so : (x < at + 32) ⊎ (at + RECORD_SIZE ≤ x) → length (words at r) ≡ 192
        → (x < at + 32) ⊎ (at + 32 + 8 * length (words at r) ≤ x)
    so (inl p) n = inl p
    so (inr p) n = inr (omega arith)

-- a record that is placed is fetched, also where it ends at the last address
placed_back : (m : Memory) (at : ℕ) (r : DispatchRecord) → at + RECORD_SIZE ≤ 2 ^ 64
    → AreBytes m.byte → RecordFits r
    → Readable m at → fetched (placed m at r) at ≡ Some r
placed_back m at r end bytes fit readable =
    fetched_back (placed m at r) at r end (placed_bytes m at r fit end bytes) fit
    (placed_words m at r fit end) (placed_readable m at r readable)

pub placed_is_fetched : PlacedIsFetched
placed_is_fetched m at r top bytes fit readable = placed_back m at r (omega arith) bytes fit
    readable

pub placed_is_fetched_where_not_refused : PlacedIsFetchedWhereNotRefused
placed_is_fetched_where_not_refused m at r lt bytes fit free =
    placed_back m at r (below_top m at lt free) bytes fit (readable_bytes m at lt free)
