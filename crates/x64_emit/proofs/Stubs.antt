-- The stubs of functions are near.
use Rattle.std.proofs.Common.{◌≡◌, ℕ, ◌+◌, ◌*◌, ◌<◌, ◌≤◌, Bool, true, false, refl, arith, mul-le-mul_left}
use Rattle.std.specs.Prelude.{nat_lt, if◌then◌else◌}
use Rattle.std.proofs.lemmas.Bool.{ltb-true}
use Rattle.x64_emit.specs.declared.links.Stubs.{Stubs}
use Rattle.x64_emit.specs.Linking.{AreStubsNear, stub_of}
use Rattle.x64_emit.specs.Near.{IsNear}

-- one of them isn't past the end of all
pub stub_below : (step count f : ℕ) → f < count → step * f ≤ step * count
stub_below step count f lt = mul-le-mul_left step (omega arith)

pub stub_near : (s : Stubs) (f : ℕ) → AreStubsNear s → IsNear (stub_of s f)
stub_near s f near = by (nat_lt f s.count) (λ e. stub_below s.step s.count f (ltb-true f s.count e))
  where
    by : (there : Bool) → (there ≡ true → s.step * f ≤ s.step * s.count)
        → IsNear (if there then s.first + s.step * f else 0)
    by true below = let le = below refl in omega arith
    by false below = omega arith
