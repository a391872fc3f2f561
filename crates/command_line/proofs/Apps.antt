-- What `clap` is given.
use Rattle.std.proofs.Common.{◌≡◌, Bool, false, refl}
use Rattle.std.specs.Prelude.{◌||◌}

pub neither : (a b : Bool) → a ≡ false → b ≡ false → (a || b) ≡ false
neither a b p q = rw (p, q) refl
