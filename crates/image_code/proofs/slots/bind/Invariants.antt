use Rattle.std.proofs.Common.{◌≡◌, ℕ}
use Rattle.flat_memory.specs.Memory.{with_number}
use Rattle.host_layout.specs.Services.{address_of}
use Rattle.image_code.specs.Code.{laid_over}
use Rattle.image_code.proofs.slots.bind.Given as goal

abbrev pub invariant-loop-n : goal.invariant-loop-n
invariant-loop-n l = (byte : ℕ → ℕ) → laid_over l.bytes byte
    ≡ with_number (laid_over l.fn.bytes byte) l.n l.slot (address_of l.fn.service)
