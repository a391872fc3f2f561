-- How many low bits of an address an index leaves out, by its room.
--
-- The main definition: `fewest`.
use Rattle.std.specs.Prelude.{ℕ, zero, suc, ◌-◌, ◌/◌, ◌^◌, Bool, ◌&&◌, nat_le, if◌then◌else◌}

-- a place for each address of an image, and one more above them
abbrev pub has_room : (size room shift : ℕ) → Bool
has_room size room shift = nat_le 2 room && nat_le (size / 2 ^ shift) (room - 2)

-- the first shift from one on, of so many, with which there is room; the one after them else
abbrev pub fewest_from : (size room more shift : ℕ) → ℕ
fewest_from size room zero shift = shift
fewest_from size room (suc more) shift =
    if has_room size room shift then shift else fewest_from size room more (suc shift)

-- of 31 bits
abbrev pub fewest : (size room : ℕ) → ℕ
fewest size room = fewest_from size room 31 0
