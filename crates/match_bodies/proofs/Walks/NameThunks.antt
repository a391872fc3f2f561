-- How long a name thunk is.
use Rattle.std.proofs.Common.{◌≡◌, ℕ, refl}
use Rattle.match_bodies.specs.Words.{modrm, size, sizes, name_thunk}

-- 4 + 3 + 3 + 5 bytes
pub name_size : (at function : ℕ) → sizes (name_thunk at function) ≡ 15
unfolding size modrm
name_size at function = refl
