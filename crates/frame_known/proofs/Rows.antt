-- The test, and the worked functions by computing.
use Rattle.std.proofs.Common.{◌≡◌, ◌≢◌, ℕ, true, List, [], ◌∷◌, Some, None, refl, ap, ◌∙◌, arith, inl, inr}
use Rattle.std.specs.Prelude.{◌⊎◌}
use Rattle.std.proofs.lemmas.Bool.{cases_eq, and_parts, eqb-true, false≢true}
use Rattle.std.proofs.lemmas.Grind.{common_steps}
use Rattle.flat_memory.specs.Memory.{executable}
use Rattle.x64_instr.specs.Operands.{place}
use Rattle.frame_rules.specs.Words.{instr, after_size, after_prefixes, row, plain_row, two_byte_row, is_nonvolatile}
use Rattle.abi_unwind.specs.Tail.{tail_at, pops}
use Rattle.frame_known.specs.Knowledge.{Known, Entry, Place, Number, Nothing}
use Rattle.frame_known.specs.Tests.{is_entry, is_first, are_entries, saved_ones, TestTells}
use Rattle.frame_known.specs.Rows.{first_wrong, Right, Wrong}

entry_is : (x : Known) (r : ℕ) → is_entry x r ≡ true → x ≡ Entry r
entry_is (Entry q) r h = ap Entry (eqb-true q r h)
entry_is (Place k) r h = absurd (false≢true h)
entry_is (Number k) r h = absurd (false≢true h)
entry_is Nothing r h = absurd (false≢true h)

first_is : (x : Known) → is_first x ≡ true → x ≡ Place 0
first_is (Place k) h = ap Place (eqb-true k 0 h)
first_is (Entry k) h = absurd (false≢true h)
first_is (Number k) h = absurd (false≢true h)
first_is Nothing h = absurd (false≢true h)

abbrev Among : ℕ → List ℕ → Type 0
Among r [] = ⊥
Among r (q ∷ qs) = (r ≡ q) ⊎ Among r qs

entries_are : (now : ℕ → Known) (rs : List ℕ) (r : ℕ) → are_entries now rs ≡ true → Among r rs
    → now r ≡ Entry r
entries_are now [] r h a = absurd a
entries_are now (q ∷ qs) r h (inl same) = entry_is (now r) r
    (ap (λ k. is_entry (now k) k) same ∙ (and_parts (is_entry (now q) q) (are_entries now qs) h).0)
entries_are now (q ∷ qs) r h (inr later) = entries_are now qs r
    (and_parts (is_entry (now q) q) (are_entries now qs) h).1 later

no_other : (r : ℕ) → is_nonvolatile r ≡ true → r ≢ 4 → r ≢ 3 → r ≢ 5 → r ≢ 6 → r ≢ 7 → r ≢ 12
    → r ≢ 13 → r ≢ 14 → r ≢ 15 → ⊥
no_other r nv a b c d e f g h i = grind (arith, common_steps)

pub test_tells : TestTells
test_tells None h = absurd (false≢true h)
test_tells (Some now) h =
    let p = and_parts (is_first (now 4)) (are_entries now saved_ones) h in
    record {
      stack = first_is (now 4) p.0;
      others = λ r nv ne. entries_are now saved_ones r p.1 (among r nv ne);
    }
  where
    among : (r : ℕ) → is_nonvolatile r ≡ true → r ≢ 4 → Among r saved_ones
    among r nv ne = elim (cases_eq r 3) [
      | inl z ↦ inl z
      | inr a ↦
          inr (elim (cases_eq r 5) [
            | inl z ↦ inl z
            | inr b ↦
                inr (elim (cases_eq r 6) [
                  | inl z ↦ inl z
                  | inr c ↦
                      inr (elim (cases_eq r 7) [
                        | inl z ↦ inl z
                        | inr d ↦
                            inr (elim (cases_eq r 12) [
                              | inl z ↦ inl z
                              | inr e ↦
                                  inr (elim (cases_eq r 13) [
                                    | inl z ↦ inl z
                                    | inr f ↦
                                        inr (elim (cases_eq r 14) [
                                          | inl z ↦ inl z
                                          | inr g ↦
                                              inr (elim (cases_eq r 15) [
                                                | inl z ↦ inl z
                                                | inr h ↦
                                                    absurd (no_other r nv ne a b c d e f g h)
                                              ])
                                        ])
                                  ])
                            ])
                      ])
                ])
          ])
    ]

pub right : Right
unfolding executable tail_at pops first_wrong place instr after_size after_prefixes row plain_row
    two_byte_row
right = record {
  home_save = refl;
  tail_call = refl;
  wide_jump = refl;
  rep_return = refl;
  bound_return = refl;
  push_allocates = refl;
  frame = refl;
  unwritten = refl;
  fragment = refl;
}

pub wrong : Wrong
unfolding executable tail_at pops first_wrong place instr after_size after_prefixes row plain_row
    two_byte_row
wrong = record {
  narrow_jump = refl;
  framed_jump = refl;
  unsaved = refl;
  cleared = refl;
  overlapping = refl;
  over_return = refl;
  below_stack = refl;
  pushed_stack = refl;
  overwritten = refl;
}
