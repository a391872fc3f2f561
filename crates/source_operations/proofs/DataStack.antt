-- The bytes that a variable on the data stack may have, and the pointer's.
use Rattle.std.proofs.Common.{◌≡◌, ℕ, zero, suc, Bool, true, false, cond, Some, None}
use Rattle.std.proofs.Common.{refl, sym, ap, ◌∙◌, arith}
use Rattle.std.specs.Prelude.{not, ◌&&◌, is_ok}
use Rattle.seh_num.specs.declared.width.Width.{Width}
use Rattle.seh_num.specs.declared.width.Width.TheVariants.{W8}
use Rattle.seh_num.specs.Widths.{bytes_of, low}
use Rattle.flat_memory.specs.Memory.{Memory, next, first_refused, may_write, stored, number_at}
use Rattle.flat_memory.specs.Memory.{access, after_store, unless_refused, with_bytes, with_number}
use Rattle.c_operations.specs.Performed.{Gives, placed, unless_reserved}
use Rattle.source_operations.specs.Reserved.{may_place}

-- a byte is stored where it may be written
pub byte_stored : (m : Memory) (at : ℕ) → is_ok (stored m at W8) ≡ may_write m at
unfolding first_refused
byte_stored m at = from (may_write m at)
  where
    from : (b : Bool) → is_ok (access {A = Unit {0}} true (cond b None (Some at)) tt) ≡ b
    from true = refl
    from false = refl

-- what a variable may have may be written
pub none_refused : (reserved : ℕ → Bool) (m : Memory) (n at : ℕ)
    → first_refused (may_place reserved m) n at ≡ None → first_refused (may_write m) n at ≡ None
unfolding first_refused
none_refused reserved m zero at e = refl
none_refused reserved m (suc n) at e =
    from (not (reserved at)) (may_write m at) (none_refused reserved m n (next at)) e
  where
    from : (b c : Bool)
        → (first_refused (may_place reserved m) n (next at) ≡ None
        → first_refused (may_write m) n (next at) ≡ None)
        → cond (b && c) (first_refused (may_place reserved m) n (next at)) (Some at) ≡ None
        → cond c (first_refused (may_write m) n (next at)) (Some at) ≡ None
    from true true rest e = rest e
    from true false rest e = absurd cc
    from false c rest e = absurd cc

pub number_none : (byte : ℕ → ℕ) (n at : ℕ) → n ≡ 0 → 0 ≡ number_at byte n at
unfolding number_at
number_none byte zero at e = refl
number_none byte (suc n) at e = absurd (omega arith)

-- where a variable may have its bytes, it takes the number
pub placed_all : (reserved : ℕ → Bool) (w : Width) (at v given : ℕ) (m new : Memory)
    → first_refused (may_place reserved m) (bytes_of w) at ≡ None
    → new ≡ after_store m at w (low w v) → Gives given new ≡ placed reserved w at v given m
placed_all reserved w at v given m new none e =
    let stored = with_bytes m (with_number m.byte (bytes_of w) at (low w v)) in
    ap (Gives given) (e ∙ ap (λ o. unless_refused o stored m)
    (none_refused reserved m (bytes_of w) at none))
    ∙ sym (ap (λ o. unless_reserved o (Gives given stored)) none)
