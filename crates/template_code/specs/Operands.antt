-- Which operands an operation reads, and which registers it needs.
--
-- `has_first`, `has_second`: which operands an operation reads: a constant none, a load and an
-- operation of one number (a copy, an extension, a complement, a negation) the first alone, all
-- others both.
use Rattle.std.specs.Prelude.{Bool, true, false}
use Rattle.c_operations.specs.declared.operation.Operation.{Operation}
use Rattle.c_operations.specs.declared.operation.Operation.TheVariants as operations
use Rattle.c_operations.specs.declared.operation.Pure.{Pure}
use Rattle.c_operations.specs.declared.operation.Pure.TheVariants as pures

abbrev pub pure_has_second : Pure → Bool
pure_has_second (pures.Constant v) = false
pure_has_second pures.First = false
pure_has_second (pures.Extend s from z) = false
pure_has_second (pures.Not z) = false
pure_has_second (pures.Negate z) = false
pure_has_second (pures.MultiplyBy n) = false
pure_has_second p = true

-- all but a constant and the data stack's pointer read the first
abbrev pub has_first : Operation → Bool
has_first (operations.Pure (pures.Constant v)) = false
has_first (operations.Allocate n) = false
has_first o = true

abbrev pub has_second : Operation → Bool
has_second (operations.Pure p) = pure_has_second p
has_second (operations.Load w) = false
has_second (operations.Allocate n) = false
has_second (operations.SetPointer n) = false
has_second o = true

-- those whose instructions write RAX alone
abbrev pub pure_needs_rax : Pure → Bool
pure_needs_rax (pures.Constant v) = true
pure_needs_rax pures.First = true
pure_needs_rax (pures.Extend s from z) = true
pure_needs_rax (pures.Not z) = true
pure_needs_rax (pures.Negate z) = true
pure_needs_rax p = false

abbrev pub needs_rax_alone : Operation → Bool
needs_rax_alone (operations.Pure p) = pure_needs_rax p
needs_rax_alone (operations.Load w) = true
needs_rax_alone o = false
