-- Words that are kept and words that are stored.
use Rattle.std.proofs.Common.{◌≡◌, ℕ, zero, suc, ◌+◌, ◌*◌, ◌%◌, ◌^◌, ◌<◌, ◌≤◌, Bool, true, cond, ◌||◌, leb, List, [], ◌∷◌, Some, None, refl, sym, ap, ◌∙◌, arith, inl, inr}
use Rattle.std.specs.Prelude.{◌⊎◌}
use Rattle.std.proofs.lemmas.Bool.{false≢true, and_parts, or_cases, leb-true}
use Rattle.frame_rules.specs.Words.{Protection, is_readable, Memory, next, first_refused, number_at, with_number, with_bytes, may_read, may_write, UnwindOperation, Push, Allocate, SetFrame, Save, SaveVector, MachineFrame, allocation, are_apart, are_pushes, IsWord, Stack, KeepsWord, KeepsWords}
use Rattle.flat_memory.proofs.Stores.{untouched, stored_is_loaded, writable_is_readable}
use Rattle.frame_rules.proofs.Order.{Ordered, push, allocate, frame, save, pushes_alone}

pub all_may : (may : ℕ → Bool) (n at : ℕ) → at + n ≤ 2 ^ 64
    → ((a : ℕ) → at ≤ a → a < at + n → may a ≡ true) → first_refused may n at ≡ None
unfolding first_refused
all_may may zero at lt h = refl
all_may may (suc zero) at lt h = ap (λ b. cond b None (Some at)) (h at (omega arith) (omega arith))
all_may may (suc (suc n)) at lt h =
    let e : next at ≡ at + 1 = omega arith in
    ap (λ b. cond b (first_refused may (suc n) (next at)) (Some at))
    (h at (omega arith) (omega arith)) ∙ ap (first_refused may (suc n)) e
    ∙ all_may may (suc n) (at + 1) (omega arith) (λ a p q. h a (omega arith) (omega arith))

pub same_number : (f g : ℕ → ℕ) (n at : ℕ) → at + n ≤ 2 ^ 64
    → ((a : ℕ) → at ≤ a → a < at + n → f a ≡ g a) → number_at f n at ≡ number_at g n at
unfolding number_at
same_number f g zero at lt h = refl
same_number f g (suc zero) at lt h = ap (λ x. x + 256 * 0) (h at (omega arith) (omega arith))
same_number f g (suc (suc n)) at lt h =
    let e : next at ≡ at + 1 = omega arith in
    let rest = ap (number_at f (suc n)) e ∙ same_number f g (suc n) (at + 1) (omega arith)
    (λ a p q. h a (omega arith) (omega arith)) ∙ sym (ap (number_at g (suc n)) e) in
    ap (λ x. x + 256 * number_at f (suc n) (next at)) (h at (omega arith) (omega arith))
    ∙ ap (λ x. g at + 256 * x) rest

-- a word whose bytes are kept
pub kept_word : (m n : Memory) (at v : ℕ) → KeepsWord m n at → IsWord m at v → IsWord n at v
kept_word m n at v k w = record {
  readable = all_may (may_read n) 8 at w.high (λ a p q. (k a p q).0);
  value = same_number n.byte m.byte 8 at w.high (λ a p q. (k a p q).1) ∙ w.value;
  high = w.high;
}

pub kept_words : (m n : Memory) (old : ℕ → ℕ) (back base at : ℕ) (ops : List UnwindOperation)
    → KeepsWords m n base at ops → Stack m old back base at ops → Stack n old back base at ops
kept_words m n old back base at [] k s = (s.0, kept_word m n at back k s.1)
kept_words m n old back base at (Push r ∷ ops) k
    s = (kept_word m n at (old r) k.0 s.0, kept_words m n old back base (at + 8) ops k.1 s.1)
kept_words m n old back base at (Allocate x ∷ ops) k s = kept_words m n old back base (at + x) ops k
    s
kept_words m n old back base at (SetFrame ∷ ops) k s = kept_words m n old back base at ops k s
kept_words m n old back base at (Save r x ∷ ops) k
    s = (kept_word m n (base + x) (old r) k.0 s.0, kept_words m n old back base at ops k.1 s.1)
kept_words m n old back base at (SaveVector r x ∷ ops) k s = absurd s
kept_words m n old back base at (MachineFrame x ∷ ops) k s = absurd s

-- ---- a store

-- a word that may be written is read as it was stored
pub stored_word : (m : Memory) (at v : ℕ) → at + 8 ≤ 2 ^ 64 → v < 2 ^ 64
    → ((a : ℕ) → at ≤ a → a < at + 8 → may_write m a ≡ true)
    → IsWord (with_bytes m (with_number m.byte 8 at v)) at v
stored_word m at v high fits h = record {
  readable = writable_is_readable m 8 at (all_may (may_write m) 8 at high h);
  value = stored_is_loaded m.byte 8 at v (omega arith) (omega arith)
      ∙ (let e : v % 2 ^ 64 ≡ v = omega arith in e);
  high = high;
}

-- another word is left
pub left_word : (m : Memory) (at v a x : ℕ) → at + 8 ≤ 2 ^ 64 → (at + 8 ≤ a) ⊎ (a + 8 ≤ at)
    → IsWord m a x → IsWord (with_bytes m (with_number m.byte 8 at v)) a x
left_word m at v a x lt apart w = record {
  readable = w.readable;
  value = same_number (with_number m.byte 8 at v) m.byte 8 a w.high
      (λ b p q. untouched m.byte 8 at v b (λ i il e. elim apart [
        | inl before ↦ let h = w.high in absurd (omega arith)
        | inr after ↦ let h = w.high in absurd (omega arith)
      ]) (omega arith)) ∙ w.value;
  high = w.high;
}

-- the words of a stack, where the store is in its allocation, apart from the saves
pub left_words : (m : Memory) (old : ℕ → ℕ) (back base at n v : ℕ) (ops : List UnwindOperation)
    → Ordered ops → base + n + 8 ≤ 2 ^ 64 → base + n + 8 ≤ at + allocation ops
    → are_apart n ops ≡ true → Stack m old back base at ops
    → Stack (with_bytes m (with_number m.byte 8 (base + n) v)) old back base at ops
left_words m old back base at n v [] o lt le p
    s = (s.0, left_word m (base + n) v at back lt (inl (omega arith)) s.1)
left_words m old back base at n v (Push r ∷ ops) (push q o) lt le p s =
    let z = pushes_alone ops q in (
      left_word m (base + n) v at (old r) lt (inl (omega arith)) s.0,
      left_words m old back base (at + 8) n v ops o lt (omega arith)
          (and_parts true (are_apart n ops) p).1 s.1,
    )
left_words m old back base at n v (Allocate k ∷ ops) (allocate q o) lt le p s = left_words m old
    back base (at + k) n v ops o lt (omega arith) p s
left_words m old back base at n v (SetFrame ∷ ops) (frame t q o) lt le p s = left_words m old back
    base at n v ops o lt (omega arith) p s
left_words m old back base at n v (Save r k ∷ ops) (save o) lt le p s =
    let parts = and_parts (leb (n + 8) k || leb (k + 8) n) (are_apart n ops) p in
    let apart : (base + n + 8 ≤ base + k) ⊎ (base + k + 8 ≤ base + n) = elim
    (or_cases (leb (n + 8) k) (leb (k + 8) n) parts.0) [
      | inl a ↦ inl (let l = leb-true (n + 8) k a in omega arith)
      | inr a ↦ inr (let l = leb-true (k + 8) n a in omega arith)
    ] in (
      left_word m (base + n) v (base + k) (old r) lt apart s.0,
      left_words m old back base at n v ops o lt (omega arith) parts.1 s.1,
    )
left_words m old back base at n v (SaveVector r k ∷ ops) o lt le p s = absurd s
left_words m old back base at n v (MachineFrame k ∷ ops) o lt le p s = absurd s

-- ---- pushes alone

pub pushes_apart : (n : ℕ) (xs : List UnwindOperation) → are_pushes xs ≡ true
    → are_apart n xs ≡ true
pushes_apart n [] h = refl
pushes_apart n (Push r ∷ xs) h = pushes_apart n xs h
pushes_apart n (Allocate k ∷ xs) h = absurd (false≢true h)
pushes_apart n (SetFrame ∷ xs) h = absurd (false≢true h)
pushes_apart n (Save r k ∷ xs) h = absurd (false≢true h)
pushes_apart n (SaveVector r k ∷ xs) h = absurd (false≢true h)
pushes_apart n (MachineFrame e ∷ xs) h = absurd (false≢true h)

-- they are kept from no base
pub rebased : (m : Memory) (old : ℕ → ℕ) (back base other at : ℕ) (xs : List UnwindOperation)
    → are_pushes xs ≡ true → Stack m old back base at xs → Stack m old back other at xs
rebased m old back base other at [] h s = s
rebased m old back base other at (Push r ∷ xs) h
    s = (s.0, rebased m old back base other (at + 8) xs h s.1)
rebased m old back base other at (Allocate k ∷ xs) h s = absurd (false≢true h)
rebased m old back base other at (SetFrame ∷ xs) h s = absurd (false≢true h)
rebased m old back base other at (Save r k ∷ xs) h s = absurd (false≢true h)
rebased m old back base other at (SaveVector r k ∷ xs) h s = absurd (false≢true h)
rebased m old back base other at (MachineFrame e ∷ xs) h s = absurd (false≢true h)

-- ---- memory that is kept from the stack pointer up

pub moved_words : (m n : Memory) (old : ℕ → ℕ) (back base at : ℕ) (ops : List UnwindOperation)
    → n.protection ≡ m.protection → ((a : ℕ) → base ≤ a → n.byte a ≡ m.byte a) → base ≤ at
    → Stack m old back base at ops → Stack n old back base at ops
moved_words m n old back base at ops protection byte le s = go at ops le s
  where
    word : (a v : ℕ) → base ≤ a → IsWord m a v → IsWord n a v
    word a v l w = record {
      readable = ap (λ (f : ℕ → Protection). first_refused (λ b. is_readable (f b).rights) 8 a)
          protection ∙ w.readable;
      value = same_number n.byte m.byte 8 a w.high (λ b p q. byte b (omega arith)) ∙ w.value;
      high = w.high;
    }

    go : (at : ℕ) (ops : List UnwindOperation) → base ≤ at → Stack m old back base at ops
        → Stack n old back base at ops
    go at [] le s = (s.0, word at back le s.1)
    go at (Push r ∷ ops) le s = (word at (old r) le s.0, go (at + 8) ops (omega arith) s.1)
    go at (Allocate k ∷ ops) le s = go (at + k) ops (omega arith) s
    go at (SetFrame ∷ ops) le s = go at ops le s
    go at (Save r k ∷ ops) le s = (word (base + k) (old r) (omega arith) s.0, go at ops le s.1)
    go at (SaveVector r k ∷ ops) le s = absurd s
    go at (MachineFrame k ∷ ops) le s = absurd s
