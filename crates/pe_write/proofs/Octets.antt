-- Bytes are octets, as a list.
use Rattle.std.proofs.Common.{ℕ, suc, ◌<◌, List, [], ◌∷◌, get_or}
use Rattle.std.specs.List.{AllByRecursion}

-- a list whose items are each below 256, as the fact of the whole list
pub octets : (bytes : List ℕ) → ((i : ℕ) → get_or bytes i 0 < 256)
    → AllByRecursion (λ (b : ℕ). b < 256) bytes
octets [] below = tt
octets (b ∷ bytes) below = (below 0, octets bytes (λ i. below (suc i)))
