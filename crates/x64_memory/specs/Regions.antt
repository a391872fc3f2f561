-- Memory as it is mapped by regions.
--
-- The main definition: `mapped`.
use Rattle.std.specs.Prelude.{◌≡◌, ℕ, ◌+◌, ◌%◌, ◌≤◌, ◌<◌, Bool, true, false, ◌&&◌, ◌||◌, nat_le, nat_lt, if◌then◌else◌, List, [], ◌∷◌, length, slice_index, ◌-◌}
use Rattle.host_layout.specs.declared.range.TheConstants.{ARENA_START, ARENA_END, PAGE}
use Rattle.flat_memory.specs.declared.protection.Protection.{Protection}
use Rattle.flat_memory.specs.declared.protection.TheConstants.{UNMAPPED}
use Rattle.flat_memory.specs.declared.protection.Rights.{Rights}
use Rattle.flat_memory.specs.declared.protection.Rights.TheVariants.{Nothing, Read, ReadWrite}
use Rattle.flat_memory.specs.Memory.{Memory}
use Rattle.x64_memory.specs.declared.region.Region.{Region}

abbrev pub rights : Bool → Bool → Rights
rights read true = ReadWrite
rights true false = Read
rights false false = Nothing

abbrev pub region_mode : Region → Protection
region_mode r = record { rights = rights r.read r.write; execute = r.execute }

abbrev pub covers : Region → ℕ → Bool
covers r a = nat_le r.start a && nat_lt a r.end

-- a region over what was there
abbrev pub with_region : Memory → Region → Memory
with_region m r =
    record {
      protection = λ a. if covers r a then region_mode r
          else m.protection a;
      byte = λ a. if covers r a then 0 else m.byte a;
    }

abbrev pub mapped_over : Memory → List Region → Memory
mapped_over m [] = m
mapped_over m (r ∷ rs) = mapped_over (with_region m r) rs

abbrev pub unmapped : Memory
unmapped = record { protection = λ a. UNMAPPED; byte = λ a. 0 }

-- the memory of regions of whole pages: zeros with the region's protection, a later region over
-- those before it; `filled` puts bytes there
abbrev pub mapped : List Region → Memory
mapped rs = mapped_over unmapped rs

-- an address lies in a region
abbrev pub in_regions : List Region → ℕ → Bool
in_regions [] a = false
in_regions (r ∷ rs) a = covers r a || in_regions rs a

-- a region of whole pages, writable only where it is readable
pub record IsWholeRegion (r : Region) : Type 0 where
  pub start : r.start % PAGE ≡ 0
  pub end : r.end % PAGE ≡ 0
  pub order : r.start ≤ r.end
  pub readable : r.write ≡ true → r.read ≡ true

abbrev pub HoldsArena : List Region → Type 0
HoldsArena rs = (a : ℕ) → ARENA_START ≤ a → a < ARENA_END → in_regions rs a ≡ true

-- memory with bytes put at a place, whatever the protection there
abbrev pub filled : Memory → ℕ → List ℕ → Memory
filled m at xs =
    record {
      protection = m.protection;
      byte = λ a. if nat_le at a && nat_lt a (at + length xs)
          then slice_index xs (a - at) else m.byte a;
    }

-- each region begins where the one before ends or above, and none below an address
abbrev pub AreAscending : ℕ → List Region → Type 0
AreAscending low [] = Unit {0}
AreAscending low (r ∷ rs) = (low ≤ r.start) × AreAscending r.end rs
