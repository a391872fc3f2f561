-- A record at its place is fetched.
use Rattle.std.proofs.Common.{◌≡◌, ℕ, zero, suc, ◌+◌, ◌*◌, ◌%◌, ◌^◌, ◌<◌, ◌≤◌, Bool, true, false, Some, None, List, [], ◌∷◌, ◌++◌, length, get_or, append_assoc, length-append, refl, sym, ap, ◌∙◌, arith, lit<}
use Rattle.std.proofs.lemmas.Bool.{eq-eqb}
use Rattle.std.proofs.lemmas.List.{get_or-append-add, get_or_append_left, append-nil}
use Rattle.seh_records.specs.Vocabulary.{if_set, Memory, next, number_at, first_refused, may_read, Kind, Search, ExceptionUnwind, LocalUnwind, Vectored, DispatchRecord, words_at, AreBytes, RecordFits, RecordIsFetched, words, head, front, back, mark, number_of, kind_of, fetched, if_readable, if_marked, of_kind, recorded, word, half, words_from, eflags, flags_of, RECORD_SIZE}
use Rattle.x64_machine.specs.declared.cpu.Flags.{Flags}

-- ---- halves of words

number_split : (byte : ℕ → ℕ) (a : ℕ) → number_at byte 8 a
    ≡ number_at byte 4 a + 2 ^ 32 * number_at byte 4 (next (next (next (next a))))
unfolding number_at
number_split byte a = omega arith

number_two : (byte : ℕ → ℕ) (a : ℕ) → a + 8 ≤ 2 ^ 64
    → number_at byte 8 a ≡ number_at byte 4 a + 2 ^ 32 * number_at byte 4 (a + 4)
number_two byte a lt = let e : next (next (next (next a))) ≡ a + 4 = omega arith in
    number_split byte a ∙ ap (λ x. number_at byte 4 a + 2 ^ 32 * number_at byte 4 x) e

four_small : (byte : ℕ → ℕ) (a : ℕ) → AreBytes byte → number_at byte 4 a < 2 ^ 32
unfolding number_at
four_small byte a h = let p = h a in let q = h (next a) in let r = h (next (next a)) in
    let s = h (next (next (next a))) in omega arith

-- a word's two halves
low_half : (byte : ℕ → ℕ) (a lo hi : ℕ) → a + 8 ≤ 2 ^ 64 → AreBytes byte → lo < 2 ^ 32
    → number_at byte 8 a ≡ lo + 2 ^ 32 * hi → number_at byte 4 a ≡ lo
low_half byte a lo hi lt bytes small e = let f = number_two byte a lt in
    let g = four_small byte a bytes in omega arith

high_half : (byte : ℕ → ℕ) (a lo hi : ℕ) → a + 8 ≤ 2 ^ 64 → AreBytes byte → lo < 2 ^ 32
    → number_at byte 8 a ≡ lo + 2 ^ 32 * hi → number_at byte 4 (a + 4) ≡ hi
high_half byte a lo hi lt bytes small e = let f = number_two byte a lt in
    let g = four_small byte a bytes in omega arith

-- ---- runs of words

-- a word of a run
pub word_in : (byte : ℕ → ℕ) (ws : List ℕ) (n x k : ℕ) → words_at byte n x ≡ ws → k < n
    → x + 8 * n ≤ 2 ^ 64 → number_at byte 8 (x + 8 * k) ≡ get_or ws k 0
unfolding words_at
word_in byte ws zero x k e lt top = absurd (omega arith)
word_in byte ws (suc n) x zero e lt top = let z : x + 8 * 0 ≡ x = omega arith in
    ap (number_at byte 8) z ∙ ap (λ (t : List ℕ). get_or t 0 0) e
word_in byte ws (suc n) x (suc k) e lt top =
    let f : (x + 8) % 2 ^ 64 ≡ x + 8 = omega arith in
    let z : x + 8 * suc k ≡ x + 8 + 8 * k = omega arith in
    ap (number_at byte 8) z ∙ word_in byte (words_at byte n ((x + 8) % 2 ^ 64)) n (x + 8) k
    (ap (words_at byte n) (sym f)) (omega arith) (omega arith)
    ∙ ap (λ (t : List ℕ). get_or t (suc k) 0) e

pub run_is : (byte : ℕ → ℕ) (ys : List ℕ) (x : ℕ) → x + 8 * length ys ≤ 2 ^ 64
    → ((j : ℕ) → j < length ys → number_at byte 8 (x + 8 * j) ≡ get_or ys j 0)
    → words_at byte (length ys) x ≡ ys
unfolding words_at
run_is byte [] x top h = refl
run_is byte (y ∷ []) x top h =
    let z : x + 8 * 0 ≡ x = omega arith in
    ap (λ v. v ∷ []) (ap (number_at byte 8) (sym z) ∙ h 0 (omega arith))
run_is byte (y ∷ w ∷ ys) x top h =
    let e : (x + 8) % 2 ^ 64 ≡ x + 8 = omega arith in
    let z : x + 8 * 0 ≡ x = omega arith in
    let rest = run_is byte (w ∷ ys) (x + 8) (omega arith)
    (λ j lt. let f : x + 8 + 8 * j ≡ x + 8 * suc j = omega arith in ap (number_at byte 8) f
    ∙ h (suc j) (omega arith)) in
    ap (λ v. v ∷ words_at byte (suc (length ys)) ((x + 8) % 2 ^ 64))
    (ap (number_at byte 8) (sym z) ∙ h 0 (omega arith))
    ∙ ap (λ (t : List ℕ). y ∷ t) (ap (words_at byte (suc (length ys))) e ∙ rest)

-- a piece in the middle of a list
piece : (all pre ys post : List ℕ) (k j : ℕ) → all ≡ (pre ++ ys) ++ post → k ≡ length pre + j
    → j < length ys → get_or all k 0 ≡ get_or ys j 0
piece all pre ys post k j e f lt =
    ap (λ (t : List ℕ). get_or t k 0) e ∙ ap (λ n. get_or ((pre ++ ys) ++ post) n 0) f
    ∙ get_or_append_left (pre ++ ys) post 0 (length pre + j)
    (let n = length-append pre ys in omega arith) ∙ get_or-append-add pre ys j 0

-- ---- flags and kinds

-- EFlags tell the flags
flags_back : (f : Flags) → flags_of (eflags f) ≡ f
flags_back f = go f.carry f.zero f.sign f.overflow
  where
    of : Bool → Bool → Bool → Bool → Flags
    of c z s o = record { carry = c; zero = z; sign = s; overflow = o }

    go : (c z s o : Bool) → flags_of (eflags (of c z s o)) ≡ of c z s o
    go true true true true = refl
    go true true true false = refl
    go true true false true = refl
    go true true false false = refl
    go true false true true = refl
    go true false true false = refl
    go true false false true = refl
    go true false false false = refl
    go false true true true = refl
    go false true true false = refl
    go false true false true = refl
    go false true false false = refl
    go false false true true = refl
    go false false true false = refl
    go false false false true = refl
    go false false false false = refl

if_set_small : (b : Bool) (v : ℕ) → if_set b v ≤ v
if_set_small true v = omega arith
if_set_small false v = omega arith

pub eflags_small : (f : Flags) → eflags f < 4096
eflags_small f = let a = if_set_small f.carry 1 in let b = if_set_small f.zero 64 in
    let c = if_set_small f.sign 128 in let d = if_set_small f.overflow 2048 in omega arith

kind_back : (k : Kind) → kind_of (number_of k) ≡ Some k
kind_back Search = refl
kind_back ExceptionUnwind = refl
kind_back LocalUnwind = refl
kind_back Vectored = refl

-- ---- a record

-- the list of words, cut before and after a piece
cut : (a b c d e f g h : List ℕ) → ((((((a ++ b) ++ c) ++ d) ++ e) ++ f) ++ g) ++ h
    ≡ (a ++ b) ++ (c ++ (d ++ (e ++ (f ++ (g ++ h)))))
cut a b c d e f g h = simp append_assoc

cut_front : (a b c d e f g h : List ℕ) → ((((((a ++ b) ++ c) ++ d) ++ e) ++ f) ++ g) ++ h
    ≡ (((a ++ b) ++ c) ++ d) ++ (e ++ (f ++ (g ++ h)))
cut_front a b c d e f g h = simp append_assoc

cut_registers : (a b c d e f g h : List ℕ) → ((((((a ++ b) ++ c) ++ d) ++ e) ++ f) ++ g) ++ h
    ≡ ((((a ++ b) ++ c) ++ d) ++ e) ++ (f ++ (g ++ h))
cut_registers a b c d e f g h = simp append_assoc

cut_back : (a b c d e f g h : List ℕ) → ((((((a ++ b) ++ c) ++ d) ++ e) ++ f) ++ g) ++ h
    ≡ (((((a ++ b) ++ c) ++ d) ++ e) ++ f) ++ (g ++ h)
cut_back a b c d e f g h = simp append_assoc

module _ (m : Memory) (at : ℕ) (r : DispatchRecord) (top : at + RECORD_SIZE ≤ 2 ^ 64)
    (bytes : AreBytes m.byte) (fit : RecordFits r) (stand : words_from m at 32 192 ≡ words at r)
  where
    zeros : List ℕ
    zeros = 0 ∷ []

    before_front : List ℕ
    before_front = (head at r ++ r.parameters) ++ zeros

    before_back : List ℕ
    before_back = (before_front ++ front r) ++ r.saved.registers

    length-before_front : length before_front ≡ 28
    unfolding before_front zeros
    length-before_front = let p = fit.parameters in
        omega (
          arith,
          length-append (head at r ++ r.parameters) (0 ∷ []),
          length-append (head at r) r.parameters,
        )

    length-before_back : length before_back ≡ 59
    unfolding before_back
    length-before_back = let p = fit.registers in let q = length-before_front in
        omega (
          arith,
          length-append (before_front ++ front r) r.saved.registers,
          length-append before_front (front r),
        )

    length-words : length (words at r) ≡ 192
    unfolding words before_front before_back zeros
    length-words =
        let p = fit.kept in
        let q = length-before_back in
        omega (
          arith,
          length-append ((before_back ++ back r) ++ (r.walk.rip ∷ [])) r.walk.kept,
          length-append (before_back ++ back r) (r.walk.rip ∷ []),
          length-append before_back (back r),
        )

    -- the word at an offset is the one at its place in the list
    field : (k o v : ℕ) → k < 192 → o ≡ 32 + 8 * k → get_or (words at r) k 0 ≡ v → word m at o ≡ v
    field k o v lt e g =
        let f : (at + o) % 2 ^ 64 ≡ (at + 32) % 2 ^ 64 + 8 * k = omega arith in
        ap (number_at m.byte 8) f ∙ word_in m.byte (words at r) 192 ((at + 32) % 2 ^ 64) k stand lt
        (omega arith) ∙ g

    -- a run of the list is read back
    pieces : (pre ys post : List ℕ) (o n : ℕ) → o < RECORD_SIZE → words at r ≡ (pre ++ ys) ++ post
        → o ≡ 32 + 8 * length pre → length ys ≡ n → words_from m at o n ≡ ys
    pieces pre ys post o n below e f len =
        let total : 192 ≡ length pre + length ys
        + length post = omega (
          arith,
          length-words,
          ap length e,
          length-append (pre ++ ys) post,
          length-append pre ys,
        ) in
        let g : (at + o) % 2 ^ 64 ≡ at + o = omega arith in
        ap (λ i. words_at m.byte i ((at + o) % 2 ^ 64)) (sym len)
        ∙ ap (words_at m.byte (length ys)) g
        ∙ run_is m.byte ys (at + o) (omega arith) (λ j lt.
        let z : at + o + 8 * j ≡ (at + (o + 8 * j)) % 2 ^ 64 = omega arith in
        ap (number_at m.byte 8) z ∙ field (length pre + j) (o + 8 * j) (get_or ys j 0) (omega arith)
        (omega arith) (piece (words at r) pre ys post (length pre + j) j e (λ i. length pre + j)
        lt))

    parameters_back : words_from m at 128 15 ≡ r.parameters
    unfolding words
    parameters_back = pieces (head at r) r.parameters
        ((0 ∷ []) ++ (front r ++ (r.saved.registers
        ++ (back r ++ ((r.walk.rip ∷ []) ++ r.walk.kept))))) 128 15 (lit< tt)
        (cut (head at r) r.parameters (0 ∷ []) (front r) r.saved.registers (back r)
        (r.walk.rip ∷ []) r.walk.kept) (omega arith) fit.parameters

    registers_back : words_from m at 0x178 16 ≡ r.saved.registers
    unfolding words before_front zeros
    registers_back =
        let q = length-before_front in
        pieces (before_front ++ front r) r.saved.registers
        (back r ++ ((r.walk.rip ∷ []) ++ r.walk.kept)) 0x178 16 (lit< tt)
        (cut_registers (head at r) r.parameters (0 ∷ []) (front r) r.saved.registers (back r)
        (r.walk.rip ∷ []) r.walk.kept) (omega (arith, length-append before_front (front r)))
        fit.registers

    kept_back : words_from m at 1496 9 ≡ r.walk.kept
    unfolding words before_back before_front zeros
    kept_back =
        let q = length-before_back in
        pieces ((before_back ++ back r) ++ (r.walk.rip ∷ [])) r.walk.kept [] 1496 9 (lit< tt)
        (sym (append-nil (words at r))) (omega (
          arith,
          length-append (before_back ++ back r) (r.walk.rip ∷ []),
          length-append before_back (back r),
        )) fit.kept

    eflags_word : get_or (words at r) 36 0 ≡ 0 + 2 ^ 32 * eflags r.saved.flags
    unfolding words before_front zeros
    eflags_word =
        let q = length-before_front in
        let z : 2 ^ 32 * eflags r.saved.flags ≡ 0 + 2 ^ 32 * eflags r.saved.flags = omega arith in
        piece (words at r) before_front (front r)
        (r.saved.registers ++ (back r ++ ((r.walk.rip ∷ []) ++ r.walk.kept))) 36 8
        (cut_front (head at r) r.parameters (0 ∷ []) (front r) r.saved.registers (back r)
        (r.walk.rip ∷ []) r.walk.kept) (omega arith) (lit< tt) ∙ z

    rip_word : get_or (words at r) 59 0 ≡ r.saved.rip
    unfolding words before_back before_front zeros
    rip_word = let q = length-before_back in piece (words at r) before_back (back r)
        ((r.walk.rip ∷ []) ++ r.walk.kept) 59 0
        (cut_back (head at r) r.parameters (0 ∷ []) (front r) r.saved.registers (back r)
        (r.walk.rip ∷ []) r.walk.kept) (omega arith) (lit< tt)

    walk_word : get_or (words at r) 182 0 ≡ r.walk.rip
    unfolding words before_back before_front zeros
    walk_word = let q = length-before_back in piece (words at r) (before_back ++ back r)
        (r.walk.rip ∷ []) r.walk.kept 182 0 (λ i. words at r)
        (omega (arith, length-append before_back (back r))) (lit< tt)

    -- halves
    low_field : (k o lo hi : ℕ) → k < 192 → o ≡ 32 + 8 * k
        → get_or (words at r) k 0 ≡ lo + 2 ^ 32 * hi → lo < 2 ^ 32 → half m at o ≡ lo
    low_field k o lo hi lt e g l =
        let f : (at + o) % 2 ^ 64 ≡ at + o = omega arith in
        let w : number_at m.byte 8 (at + o) ≡ lo + 2 ^ 32 * hi = ap (number_at m.byte 8) (sym f)
        ∙ field k o (lo + 2 ^ 32 * hi) lt e g in
        ap (number_at m.byte 4) f ∙ low_half m.byte (at + o) lo hi (omega arith) bytes l w

    high_field : (k o q lo hi : ℕ) → k < 192 → o ≡ 32 + 8 * k → q ≡ o + 4
        → get_or (words at r) k 0 ≡ lo + 2 ^ 32 * hi → lo < 2 ^ 32 → half m at q ≡ hi
    high_field k o q lo hi lt e d g l =
        let f : (at + o) % 2 ^ 64 ≡ at + o = omega arith in
        let j : (at + q) % 2 ^ 64 ≡ at + o + 4 = omega arith in
        let w : number_at m.byte 8 (at + o) ≡ lo + 2 ^ 32 * hi = ap (number_at m.byte 8) (sym f)
        ∙ field k o (lo + 2 ^ 32 * hi) lt e g in
        ap (number_at m.byte 4) j ∙ high_half m.byte (at + o) lo hi (omega arith) bytes l w

    recorded_back : recorded m at r.kind ≡ r
    unfolding words
    recorded_back =
        let flags : flags_of (half m at 0x144) ≡ r.saved.flags = ap flags_of
        (high_field 36 0x140 0x144 0 (eflags r.saved.flags) (lit< tt) refl refl eflags_word
        (lit< tt)) ∙ flags_back r.saved.flags in
        λ i. record {
          kind = r.kind;
          frame = field 2 48 r.frame (lit< tt) refl refl i;
          row = field 3 56 r.row (lit< tt) refl refl i;
          target_frame = field 4 64 r.target_frame (lit< tt) refl refl i;
          target = field 5 72 r.target (lit< tt) refl refl i;
          code = record { 0 = low_field 8 96 r.code.0 r.flags (lit< tt) refl refl fit.code i };
          flags = high_field 8 96 100 r.code.0 r.flags (lit< tt) refl refl refl fit.code i;
          count = low_field 11 120 r.count 0 (lit< tt) refl
              (let z : r.count ≡ r.count + 2 ^ 32 * 0 = omega arith in z) fit.count i;
          parameters = parameters_back i;
          saved = record {
            registers = registers_back i;
            rip = field 59 0x1F8 r.saved.rip (lit< tt) refl rip_word i;
            flags = flags i;
          };
          walk = record {
            rip = field 182 1488 r.walk.rip (lit< tt) refl walk_word i;
            kept = kept_back i;
          };
        }

    marked : (word m at 32 ≡ mark) × (word m at 40 ≡ number_of r.kind)
    unfolding words
    marked = (
      field 0 32 mark (lit< tt) refl refl,
      field 1 40 (number_of r.kind)
          (lit< tt) refl refl,
    )

    pub fetched_back : first_refused (may_read m) RECORD_SIZE at ≡ None → fetched m at ≡ Some r
    unfolding fetched
    fetched_back readable =
        ap (if_readable m at) readable
        ∙ ap (if_marked m at) (eq-eqb (word m at 32) mark marked.0)
        ∙ ap (of_kind m at) (ap kind_of marked.1 ∙ kind_back r.kind)
        ∙ ap (λ (d : DispatchRecord). Some d) recorded_back

pub record_fetched : RecordIsFetched
record_fetched m at r top bytes fit is_there =
    fetched_back m at r (omega arith) bytes fit is_there.words is_there.readable

-- there are 192 words
pub count_words : (r : DispatchRecord) (at : ℕ) → RecordFits r → length (words at r) ≡ 192
unfolding words
count_words r at fit =
    let p = fit.parameters in
    let q = fit.registers in
    let k = fit.kept in
    let w1 = head at r ++ r.parameters in
    let w3 = (w1 ++ (0 ∷ [])) ++ front r in
    let w5 = (w3 ++ r.saved.registers) ++ back r in
    omega (
      arith,
      length-append (head at r) r.parameters,
      length-append w1 (0 ∷ []),
      length-append (w1 ++ (0 ∷ [])) (front r),
      length-append w3 r.saved.registers,
      length-append (w3 ++ r.saved.registers) (back r),
      length-append w5 (r.walk.rip ∷ []),
      length-append (w5 ++ (r.walk.rip ∷ [])) r.walk.kept,
    )
