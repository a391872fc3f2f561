-- Bytes that are kept by their addresses, over others, as a slot's are put among them.
use Rattle.std.proofs.Common.{◌≡◌, ◌≢◌, ℕ, zero, suc, ◌+◌, ◌/◌, ◌%◌, ◌^◌, ◌<◌, cond, get_or, Some, refl, sym, ap, ◌∙◌, arith, w64, inl, inr}
use Rattle.std.specs.Int.{to_le_bytes}
use Rattle.std.specs.Ordering.{nat_cmp}
use Rattle.std.specs.BTreeMap.{BTreeMap, get, is_at}
use Rattle.std.proofs.lemmas.Bool.{cases_lt, cases_eq, ne_eqb, eq-eqb}
use Rattle.flat_memory.specs.Memory.{distance, with_number, with_byte}
use Rattle.flat_memory.proofs.Stores.{among, beyond, outside}
use Rattle.pe_image.proofs.Inserted.{at_key, off_key}
use Rattle.image_code.specs.Code.{byte_or, laid_over}

-- ---- one byte more of a number

here : (byte : ℕ → ℕ) (at b a : ℕ) → a ≡ at → with_byte byte at b a ≡ b
here byte at b a e = ap (λ t. cond t b (byte a)) (eq-eqb a at e)

elsewhere : (byte : ℕ → ℕ) (at b a : ℕ) → a ≢ at → with_byte byte at b a ≡ byte a
elsewhere byte at b a n = ap (λ t. cond t b (byte a)) (ne_eqb a at n)

module _ (byte : ℕ → ℕ) (n at v : ℕ) (at_lt : at < 2 ^ 64) (small : n < 8) where
  abbrev place : ℕ
  place = (at + n) % 2 ^ 64

  at_place : (a : ℕ) → a < 2 ^ 64 → distance at a ≡ n → a ≡ place
  at_place a la e = omega (arith, at_lt, small)

  off_place : (a : ℕ) → a < 2 ^ 64 → distance at a ≢ n → a ≢ place
  off_place a la ne e = absurd (ne (omega (arith, e, at_lt, small)))

  one_more : (a : ℕ) → with_byte (with_number byte n at v) place (v / 256 ^ n % 256) a
      ≡ with_number byte (n + 1) at v a
  one_more a = elim (cases_lt a (2 ^ 64)) [
    | inr ge ↦ elsewhere (with_number byte n at v) place (v / 256 ^ n % 256) a
        (λ e. absurd (omega (arith, e, ge))) ∙ outside byte n at v a ge
        ∙ sym (outside byte (n + 1) at v a ge)
    | inl la ↦ elim (cases_eq (distance at a) n) [
      | inl e ↦ here (with_number byte n at v) place (v / 256 ^ n % 256) a (at_place a la e)
          ∙ ap (λ k. v / 256 ^ k % 256) (sym e)
          ∙ sym (among byte (n + 1) at v a la (omega (arith, e)))
      | inr ne ↦ elsewhere (with_number byte n at v) place (v / 256 ^ n % 256) a
          (off_place a la ne) ∙ elim (cases_lt (distance at a) n) [
            | inl lt ↦ among byte n at v a la lt
                ∙ sym (among byte (n + 1) at v a la (omega (arith, lt)))
            | inr ge ↦ beyond byte n at v a la ge
                ∙ sym (beyond byte (n + 1) at v a la (omega (arith, ge, ne)))
          ]
    ]
  ]

-- ---- the bytes kept

module _ (old new : BTreeMap ℕ ℕ) (k x : ℕ)
    (has : (q : ℕ) → get nat_cmp new q ≡ cond (is_at (nat_cmp k) q) (Some x) (get nat_cmp old q))
  where
    over_inserted : (byte : ℕ → ℕ) (a : ℕ)
        → laid_over new byte a ≡ with_byte (laid_over old byte) k x a
    over_inserted byte a = elim (cases_eq a k) [
      | inl e ↦ ap (λ o. byte_or o (byte a)) (at_key old new k x has a e)
          ∙ sym (here (laid_over old byte) k x a e)
      | inr ne ↦ ap (λ o. byte_or o (byte a)) (off_key old new k x has a ne)
          ∙ sym (elsewhere (laid_over old byte) k x a ne)
    ]

-- ---- the bytes of an address

pub digit : (k v : ℕ) → k < 8 → get_or (to_le_bytes w64 v) k 0 ≡ v / 256 ^ k % 256
digit zero v lt = omega arith
digit (suc zero) v lt = refl
digit (suc (suc zero)) v lt = refl
digit (suc (suc (suc zero))) v lt = refl
digit (suc (suc (suc (suc zero)))) v lt = refl
digit (suc (suc (suc (suc (suc zero))))) v lt = refl
digit (suc (suc (suc (suc (suc (suc zero)))))) v lt = refl
digit (suc (suc (suc (suc (suc (suc (suc zero))))))) v lt = refl
digit (suc (suc (suc (suc (suc (suc (suc (suc k)))))))) v lt = absurd (omega arith)

-- a further byte of a number is put over the bytes
pub over_more : (first old new : BTreeMap ℕ ℕ) (n at v x : ℕ) → at < 2 ^ 64 → n < 8
    → x ≡ v / 256 ^ n % 256
    → ((q : ℕ) → get nat_cmp new q
    ≡ cond (is_at (nat_cmp ((at + n) % 2 ^ 64)) q) (Some x) (get nat_cmp old q))
    → ((byte : ℕ → ℕ) → laid_over old byte ≡ with_number (laid_over first byte) n at v)
    → (byte : ℕ → ℕ) → laid_over new byte ≡ with_number (laid_over first byte) (n + 1) at v
over_more first old new n at v x lt small is has so_far byte =
    (λ i a. over_inserted old new ((at + n) % 2 ^ 64) x has byte a i)
    ∙ ap (λ f. with_byte f ((at + n) % 2 ^ 64) x) (so_far byte)
    ∙ ap (with_byte (with_number (laid_over first byte) n at v) ((at + n) % 2 ^ 64)) is
    ∙ (λ i a. one_more (laid_over first byte) n at v lt small a i)
