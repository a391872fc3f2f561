-- Where a record may be placed.
use Rattle.std.proofs.Common.{◌≡◌, ℕ, ◌+◌, ◌*◌, ◌%◌, ◌^◌, ◌<◌, ◌≤◌, Bool, true, false, cond, Option, Some, None, sym, ap, ◌∙◌, arith, refl}
use Rattle.std.specs.Prelude.{nat_lt}
use Rattle.std.proofs.lemmas.Bool.{ltb-false}
use Rattle.host_layout.specs.declared.range.TheConstants.{STACK_START}
use Rattle.seh_records.specs.Vocabulary.{Memory, first_refused, may_read, may_write, misplaced, return_address_at, RECORD_SIZE, PLACED_SIZE}
use Rattle.seh_records.proofs.Lemmas.{writable_is_readable}
use Rattle.seh_records.proofs.Runs.{none_within}

-- then all its words may be written
pub writable : (m : Memory) (at : ℕ) → misplaced m at ≡ None
    → first_refused (may_write m) PLACED_SIZE (return_address_at at) ≡ None
unfolding misplaced
writable m at e = go (nat_lt (2 ^ 64) (return_address_at at + PLACED_SIZE))
    (nat_lt (return_address_at at) STACK_START) e
  where
    go : (a b : Bool) → cond a (Some 0) (cond b (Some (return_address_at at))
        (first_refused (may_write m) PLACED_SIZE (return_address_at at))) ≡ None
        → first_refused (may_write m) PLACED_SIZE (return_address_at at) ≡ None
    go true b e = absurd cc
    go false true e = absurd cc
    go false false e = e

pub writable_words : (m : Memory) (at : ℕ) → at < 2 ^ 64 → misplaced m at ≡ None
    → first_refused (may_write m) (8 * 192) ((at + 32) % 2 ^ 64) ≡ None
writable_words m at lt e =
    let same : (return_address_at at + 40) % 2 ^ 64 ≡ (at + 32) % 2 ^ 64 = omega arith in
    ap (first_refused (may_write m) 1536) (sym same)
    ∙ none_within (may_write m) PLACED_SIZE 40 1536 (return_address_at at) (omega arith)
    (omega arith) (writable m at e)

-- the record ends at the last address or below it
pub below_top : (m : Memory) (at : ℕ) → at < 2 ^ 64 → misplaced m at ≡ None
    → at + RECORD_SIZE ≤ 2 ^ 64
unfolding misplaced
below_top m at lt e = go (nat_lt (2 ^ 64) (return_address_at at + PLACED_SIZE)) refl e
  where
    others : Option ℕ
    others =
        cond (nat_lt (return_address_at at) STACK_START) (Some (return_address_at at))
        (first_refused (may_write m) PLACED_SIZE (return_address_at at))

    go : (b : Bool) → nat_lt (2 ^ 64) (return_address_at at + PLACED_SIZE) ≡ b
        → cond b (Some 0) others ≡ None → at + RECORD_SIZE ≤ 2 ^ 64
    go true h e = absurd cc
    go false h e = let f : return_address_at at + PLACED_SIZE ≤ 2 ^ 64 = ltb-false _ _ h in
        omega arith

-- so its words don't wrap
pub no_wrap : (m : Memory) (at : ℕ) → at < 2 ^ 64 → misplaced m at ≡ None
    → (at + 32) % 2 ^ 64 + 8 * 192 ≤ 2 ^ 64
no_wrap m at lt e = let top = below_top m at lt e in omega arith

-- its bytes may be read, since they may be written
pub readable_bytes : (m : Memory) (at : ℕ) → at < 2 ^ 64 → misplaced m at ≡ None
    → first_refused (may_read m) RECORD_SIZE at ≡ None
readable_bytes m at lt e =
    let from = return_address_at at in
    let same : (from + 8) % 2 ^ 64 ≡ at = omega arith in
    let written = none_within (may_write m) PLACED_SIZE 8 RECORD_SIZE from (omega arith)
    (omega arith) in
    ap (first_refused (may_read m) RECORD_SIZE) (sym same)
    ∙ writable_is_readable m RECORD_SIZE ((from + 8) % 2 ^ 64) (written (writable m at e))
