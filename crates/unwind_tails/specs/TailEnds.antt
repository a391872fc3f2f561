-- Whether the trailing part of an epilogue that goes on at an address ends.
use Rattle.std.specs.Prelude.{◌≡◌, ℕ, suc, ◌^◌, ◌≤◌, Bool, true, false, List, All, is_some}
use Rattle.flat_memory.specs.Memory.{Memory}
use Rattle.virtual_unwind.specs.Tail.{tail}
use Rattle.unwind_tails.specs.declared.known_tails.Part.{Part}
use Rattle.unwind_tails.specs.declared.known_tails.Part.TheVariants.{Missing, End, Restore}

-- in at least so many instructions
abbrev pub IsEnded : ℕ → Memory → ℕ → Bool → Type 0
IsEnded low m at ends = (n : ℕ) → low ≤ n → is_some (tail n false 0 m at) ≡ ends

-- what an instruction is to the part
abbrev pub IsPart : Memory → ℕ → Part → Type 0
IsPart m at Missing = IsEnded 0 m at false
IsPart m at End = IsEnded 1 m at true
IsPart m at (Restore next) =
    (n : ℕ) → is_some (tail (suc n) false 0 m at) ≡ is_some (tail n false 0 m next)

-- addresses from which it goes on to the same end, or to the same instruction that is none of an
-- epilogue's
pub record TailEnds : Type 0 where
  pub places : List ℕ
  pub ends : Bool

abbrev pub AreEnded : Memory → TailEnds → Type 0
AreEnded m t = All (λ (at : ℕ). IsEnded (2 ^ 61) m at t.ends) t.places
