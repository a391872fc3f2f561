-- What is fetched rests on the bytes past the home space alone.
use Rattle.std.proofs.Common.{◌≡◌, ℕ, zero, suc, ◌+◌, ◌*◌, ◌%◌, ◌^◌, ◌<◌, ◌≤◌, Bool, true, false, Option, Some, None, List, ◌∷◌, refl, sym, ap, ◌∙◌, arith, lit≤}
use Rattle.std.specs.Prelude.{nat_eq}
use Rattle.seh_records.specs.Vocabulary.{bytes_of, Protection, is_readable, Memory, next, first_refused, may_read, may_write, number_at, with_number, with_bytes, unless_refused, after_store, IsApart, Kind, DispatchRecord, words_at, fetched, if_readable, if_marked, of_kind, kind_of, recorded, mark, word, words_from, flags_of, FetchedByItsBytes, StoresLeaveIt, RECORD_SIZE}
use Rattle.seh_records.proofs.Lemmas.{untouched, keeps_modes}

number_same : (byte other : ℕ → ℕ) (n x : ℕ) → x + n < 2 ^ 64
    → ((i : ℕ) → i < n → other (x + i) ≡ byte (x + i)) → number_at other n x ≡ number_at byte n x
unfolding number_at
number_same byte other zero x top h = refl
number_same byte other (suc n) x top h =
    let z : x + 0 ≡ x = omega arith in
    let e : next x ≡ x + 1 = omega arith in
    let first = ap other (sym z) ∙ h 0 (omega arith) ∙ ap byte z in
    let rest = number_same byte other n (x + 1) (omega arith)
    (λ i lt. let f : x + 1 + i ≡ x + suc i = omega arith in ap other f ∙ h (suc i) (omega arith)
    ∙ ap byte (sym f)) in
    ap (λ v. v + 256 * number_at other n (next x)) first
    ∙ ap (λ v. byte x + 256 * v) (ap (number_at other n) e ∙ rest ∙ ap (number_at byte n) (sym e))

words_same : (byte other : ℕ → ℕ) (n x : ℕ) → x + 8 * n < 2 ^ 64
    → ((i : ℕ) → i < 8 * n → other (x + i) ≡ byte (x + i)) → words_at other n x ≡ words_at byte n x
unfolding words_at
words_same byte other zero x top h = refl
words_same byte other (suc n) x top h =
    let e : (x + 8) % 2 ^ 64 ≡ x + 8 = omega arith in
    let first = number_same byte other 8 x (omega arith) (λ i lt. h i (omega arith)) in
    let rest = words_same byte other n (x + 8) (omega arith)
    (λ i lt. let f : x + 8 + i ≡ x + (8 + i) = omega arith in ap other f ∙ h (8 + i) (omega arith)
    ∙ ap byte (sym f)) in
    ap (λ v. v ∷ words_at other n ((x + 8) % 2 ^ 64)) first
    ∙ ap (λ (t : List ℕ). number_at byte 8 x ∷ t)
    (ap (words_at other n) e ∙ rest ∙ ap (words_at byte n) (sym e))

module _ (m new : Memory) (at : ℕ) (top : at + RECORD_SIZE < 2 ^ 64)
    (same : (x : ℕ) → at + 32 ≤ x → x < at + RECORD_SIZE → new.byte x ≡ m.byte x) where
  numbers : (n o : ℕ) → 32 ≤ o → o + n ≤ RECORD_SIZE
      → number_at new.byte n ((at + o) % 2 ^ 64) ≡ number_at m.byte n ((at + o) % 2 ^ 64)
  numbers n o ge le =
      let e : (at + o) % 2 ^ 64 ≡ at + o = omega arith in
      ap (number_at new.byte n) e ∙ number_same m.byte new.byte n (at + o) (omega arith)
      (λ i lt. same (at + o + i) (omega arith) (omega arith)) ∙ ap (number_at m.byte n) (sym e)

  runs : (n o : ℕ) → 32 ≤ o → o + 8 * n ≤ RECORD_SIZE → words_from new at o n ≡ words_from m at o n
  runs n o ge le =
      let e : (at + o) % 2 ^ 64 ≡ at + o = omega arith in
      ap (words_at new.byte n) e ∙ words_same m.byte new.byte n (at + o) (omega arith)
      (λ i lt. same (at + o + i) (omega arith) (omega arith)) ∙ ap (words_at m.byte n) (sym e)

  fields : (kind : Kind) → recorded new at kind ≡ recorded m at kind
  fields kind i = record {
    kind = kind;
    frame = numbers 8 48 (lit≤ tt) (lit≤ tt) i;
    row = numbers 8 56 (lit≤ tt) (lit≤ tt) i;
    target_frame = numbers 8 64 (lit≤ tt) (lit≤ tt) i;
    target = numbers 8 72 (lit≤ tt) (lit≤ tt) i;
    code = record { 0 = numbers 4 96 (lit≤ tt) (lit≤ tt) i };
    flags = numbers 4 100 (lit≤ tt) (lit≤ tt) i;
    count = numbers 4 120 (lit≤ tt) (lit≤ tt) i;
    parameters = runs 15 128 (lit≤ tt) (lit≤ tt) i;
    saved = record {
      registers = runs 16 0x178 (lit≤ tt) (lit≤ tt) i;
      rip = numbers 8 0x1F8 (lit≤ tt) (lit≤ tt) i;
      flags = flags_of (numbers 4 0x144 (lit≤ tt) (lit≤ tt) i);
    };
    walk = record {
      rip = numbers 8 1488 (lit≤ tt) (lit≤ tt) i;
      kept = runs 9 1496 (lit≤ tt) (lit≤ tt) i;
    };
  }

  by_kind : (o : Option Kind) → of_kind new at o ≡ of_kind m at o
  by_kind None = refl
  by_kind (Some k) = ap (λ (d : DispatchRecord). Some d) (fields k)

  by_mark : (b : Bool) → if_marked new at b ≡ if_marked m at b
  by_mark true = ap (of_kind new at) (ap kind_of (numbers 8 40 (lit≤ tt) (lit≤ tt)))
      ∙ by_kind (kind_of (word m at 40))
  by_mark false = refl

  by_reading : (o : Option ℕ) → if_readable new at o ≡ if_readable m at o
  by_reading (Some a) = refl
  by_reading None = ap (λ w. if_marked new at (nat_eq w mark)) (numbers 8 32 (lit≤ tt) (lit≤ tt))
      ∙ by_mark (nat_eq (word m at 32) mark)

  all_same : first_refused (may_read new) RECORD_SIZE at ≡ first_refused (may_read m) RECORD_SIZE at
      → fetched new at ≡ fetched m at
  unfolding fetched
  all_same e = ap (if_readable new at) e ∙ by_reading (first_refused (may_read m) RECORD_SIZE at)

pub fetched_by_its_bytes : FetchedByItsBytes
fetched_by_its_bytes m new at top modes same = all_same m new at top same modes

pub stores_leave_it : StoresLeaveIt
stores_leave_it m at to v w top lt apart =
    fetched_by_its_bytes m (after_store m to w v) at top
    (ap (λ (f : ℕ → Protection). first_refused (λ a. is_readable (f a).rights) RECORD_SIZE at)
    (keeps_modes m to v w))
    (λ x ge le. kept x (first_refused (may_write m) (bytes_of w) to) (apart x ge le))
  where
    kept : (x : ℕ) (o : Option ℕ) → IsApart x to (bytes_of w)
        → (unless_refused o (with_bytes m (with_number m.byte (bytes_of w) to v)) m).byte x
        ≡ m.byte x
    kept x None a = untouched m.byte (bytes_of w) to v x a lt
    kept x (Some b) a = refl
