-- Words of the stack, and the numbers that are in its bytes.
use Rattle.std.proofs.Common.{◌≡◌, ℕ, zero, suc, ◌+◌, ◌*◌, ◌^◌, ◌<◌, ◌≤◌, true, false, Option, Some, None, Ok, List, [], ◌∷◌, refl, ap, subst, ◌∙◌, arith}
use Rattle.std.specs.Prelude.{slice_get}
use Rattle.match_bodies.specs.Words.{Memory, may_read, may_write, first_refused, number_at, access, is_readable, is_writable, word, readable, HoldsWords}
use Rattle.flat_memory.specs.declared.protection.Rights.{Rights}
use Rattle.flat_memory.specs.declared.protection.Rights.TheVariants.{Nothing, Read, ReadWrite}
use Rattle.match_bodies.proofs.Lemmas.{all_may}

-- what may be written may be read
pub reads_what_writes : (r : Rights) → is_writable r ≡ true → is_readable r ≡ true
reads_what_writes ReadWrite e = refl
reads_what_writes Read e = cc
reads_what_writes Nothing e = cc

pub may_read_written : (m : Memory) (a : ℕ) → may_write m a ≡ true → may_read m a ≡ true
may_read_written m a e = reads_what_writes (m.protection a).rights e

-- a word that is read is the number in its bytes
pub word_is : (m : Memory) (at v : ℕ) → word m at ≡ Ok v → number_at m.byte 8 at ≡ v
word_is m at v e = by (first_refused (may_read m) 8 at) e
  where
    by : (o : Option ℕ) → readable at (access false o (number_at m.byte 8 at)) ≡ Ok v
        → number_at m.byte 8 at ≡ v
    by None e = cc
    by (Some a) e = cc

pub word_of : (m : Memory) (at v : ℕ) → at + 8 < 2 ^ 64
    → ((a : ℕ) → at ≤ a → a < at + 8 → may_read m a ≡ true) → number_at m.byte 8 at ≡ v
    → word m at ≡ Ok v
word_of m at v lt may e =
    ap (λ (o : Option ℕ). readable at (access false o (number_at m.byte 8 at)))
    (all_may (may_read m) 8 at lt may) ∙ ap (λ n. Ok n) e

-- the words of a list, one by one
pub word_in : (m : Memory) (at end : ℕ) (vs : List ℕ) (i v : ℕ) → HoldsWords m at end vs
    → slice_get vs i ≡ Some v → word m (at + 8 * i) ≡ Ok v
word_in m at end [] i v h e = cc
word_in m at end (x ∷ vs) zero v h e = let z : at ≡ at + 8 * 0 = omega arith in
    subst (λ a. word m a ≡ Ok v) z (h.0 ∙ ap (λ n. Ok n) (the_same x v e))
  where
    the_same : (a b : ℕ) → Some a ≡ Some b → a ≡ b
    the_same a b e = cc
word_in m at end (x ∷ vs) (suc i) v h e = let z : at + 8 + 8 * i ≡ at + 8 * suc i = omega arith in
    subst (λ a. word m a ≡ Ok v) z (word_in m (at + 8) end vs i v h.1 e)
