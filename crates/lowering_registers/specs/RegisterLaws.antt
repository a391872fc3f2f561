-- What holds of locals in registers.
use Rattle.std.specs.Prelude.{◌≡◌, ℕ, ◌<◌, ◌≤◌, false, ◌||◌, length}
use Rattle.std.specs.List.{AllByRecursion, Contains}
use Rattle.std.specs.List.Sorted.{IsStrictlyIncreasing}
use Rattle.c_checked.specs.Program.{Function}
use Rattle.lowering_registers.specs.Shared.{is_kept, statements_share, own_locals, register_locals}

-- a local of a function that no filter and no `__finally` block of it names, that isn't the base of
-- its part of the data stack, and whose variable doesn't stand there
pub record IsUnshared (f : Function) (x : ℕ) : Type 0 where
  pub own : x < own_locals f
  pub unshared : (is_kept x f.data_frame || statements_share x f.body) ≡ false

abbrev pub AreFew : Type 0
AreFew = (f : Function) → length (register_locals f) ≤ 7

abbrev pub AreUnshared : Type 0
AreUnshared = (f : Function) → AllByRecursion (IsUnshared f) (register_locals f)

-- in the order of their declarations
abbrev pub AreInOrder : Type 0
AreInOrder = (f : Function) → IsStrictlyIncreasing (register_locals f)

-- each that comes before one of them is one of them
abbrev pub AreFirst : Type 0
AreFirst =
    (f : Function) (x y : ℕ) → IsUnshared f x → Contains (register_locals f) y → x < y
    → Contains (register_locals f) x

-- where they are fewer than seven, there are no others
abbrev pub AreAll : Type 0
AreAll =
    (f : Function) (x : ℕ) → IsUnshared f x → length (register_locals f) < 7
    → Contains (register_locals f) x
