-- A record is placed in bytes that may be written.
use Rattle.std.proofs.Common.{◌≡◌, ℕ, ◌+◌, ◌-◌, ◌*◌, ◌%◌, ◌^◌, ◌<◌, ◌≤◌, Bool, true, false, cond, ltb, leb, ◌&&◌, List, Some, None, refl, ap, ◌∙◌, arith}
use Rattle.host_layout.specs.declared.range.TheConstants.{STACK_START}
use Rattle.flat_memory.specs.Memory.{Memory, first_refused, may_write}
use Rattle.seh_records.specs.declared.layout.TheConstants.{MARK_AT, PLACED_SIZE}
use Rattle.seh_records.specs.Words.{with_block, block_byte}
use Rattle.seh_records.specs.Record.{misplaced, placed, return_address_at, words}
use Rattle.x64_decoded.proofs.Keeping.{passed}
use Rattle.host_model.specs.FixedLaws.{PlacingKeepsFixed}

-- where no place is refused, the record doesn't pass the last address, and may be written
pub record MayPlace (m : Memory) (at : ℕ) : Type 0 where
  pub room : return_address_at at + PLACED_SIZE ≤ 2 ^ 64
  pub may : first_refused (may_write m) PLACED_SIZE (return_address_at at) ≡ None

may_place : (m : Memory) (at : ℕ) → misplaced m at ≡ None → MayPlace m at
unfolding misplaced
may_place m at e = go (ltb (2 ^ 64) (return_address_at at + PLACED_SIZE)) refl
    (ltb (return_address_at at) STACK_START) e
  where
    go : (b : Bool) → ltb (2 ^ 64) (return_address_at at + PLACED_SIZE) ≡ b → (c : Bool)
        → cond b (Some 0) (cond c (Some (return_address_at at))
        (first_refused (may_write m) PLACED_SIZE (return_address_at at))) ≡ None
        → MayPlace m at
    go true t c e = absurd cc
    go false t true e = absurd cc
    go false t false e = record { room = grind arith; may = e }

-- a byte of the record
in_record : (at a : ℕ) → return_address_at at + PLACED_SIZE ≤ 2 ^ 64
    → (at + MARK_AT) % 2 ^ 64 ≤ a → a < (at + MARK_AT) % 2 ^ 64 + 8 * 192
    → (i : ℕ) × (i < PLACED_SIZE) × (a ≡ (return_address_at at + i) % 2 ^ 64)
in_record at a room lo hi = (a - return_address_at at, omega arith, omega arith)

block_stays : (m : Memory) (at a : ℕ) (ws : List ℕ) → MayPlace m at → may_write m a ≡ false
    → with_block m.byte ((at + MARK_AT) % 2 ^ 64) 192 ws a ≡ m.byte a
unfolding with_block
block_stays m at a ws p f =
    go (leb ((at + MARK_AT) % 2 ^ 64) a && ltb a ((at + MARK_AT) % 2 ^ 64 + 8 * 192)) refl
  where
    go : (b : Bool)
        → (leb ((at + MARK_AT) % 2 ^ 64) a && ltb a ((at + MARK_AT) % 2 ^ 64 + 8 * 192)) ≡ b
        → block_byte m.byte ((at + MARK_AT) % 2 ^ 64) ws a b ≡ m.byte a
    go false e = refl
    go true e =
        let lo : (at + MARK_AT) % 2 ^ 64 ≤ a = grind arith in
        let hi : a < (at + MARK_AT) % 2 ^ 64 + 8 * 192 = grind arith in
        let x = in_record at a p.room lo hi in
        let t : may_write m a ≡ true = ap (may_write m) x.2
        ∙ passed (may_write m) PLACED_SIZE (return_address_at at) x.0 p.may (omega arith) x.1 in
        absurd cc

pub placing_keeps : PlacingKeepsFixed
unfolding placed
placing_keeps m at r e a f = record {
  protection = refl;
  byte = block_stays m at a (words at r) (may_place m at e) f.read_only;
}
