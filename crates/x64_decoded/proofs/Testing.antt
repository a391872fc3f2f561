-- What the tests of addresses say.
use Rattle.std.proofs.Common.{◌≡◌, ℕ, Bool, true, false, cond, Some, None, Result, Err, refl}
use Rattle.seh_num.specs.declared.width.Width.TheVariants.{W8}
use Rattle.flat_memory.specs.declared.access.RefusedAccess.{RefusedAccess}
use Rattle.flat_memory.specs.Memory.{Memory, first_refused, may_write, access, stored}

-- a refused store of one byte
pub refused_write : (m : Memory) (at : ℕ) (a : RefusedAccess) → Err a ≡ stored m at W8
    → may_write m at ≡ false
unfolding first_refused
refused_write m at a e = go (may_write m at) e
  where
    go : (b : Bool)
        → ◌≡◌ {A = Result Unit RefusedAccess} (Err a) (access true (cond b None (Some at)) tt)
        → b ≡ false
    go true e = absurd cc
    go false e = refl
