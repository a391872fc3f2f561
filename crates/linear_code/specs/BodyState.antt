-- What a body works on.
use Rattle.std.specs.Prelude.{ℕ, Bool, false, nat_eq, if◌then◌else◌}
use Rattle.flat_memory.specs.Memory.{Memory}
use Rattle.linear_code.specs.declared.slot.Slot.{Slot}
use Rattle.linear_code.specs.declared.slot.Slot.TheVariants.{Local, Temporary}

-- the numbers in the slots, each of 64 bits, and the source's memory
pub record BodyState : Type 0 where
  pub slots : Slot → ℕ
  pub memory : Memory

abbrev pub same_slot : Slot → Slot → Bool
same_slot (Local i) (Local j) = nat_eq i j
same_slot (Temporary i) (Temporary j) = nat_eq i j
same_slot x y = false

abbrev pub with_slot : (Slot → ℕ) → Slot → ℕ → Slot → ℕ
with_slot slots to v x = if same_slot x to then v else slots x

-- how many slots of each kind there are
pub record Counts : Type 0 where
  pub locals : ℕ
  pub temporaries : ℕ
