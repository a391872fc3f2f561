use Rattle.x64_laws.proofs.Addresses.{rip_is_of_next, jmp_goes_from_next}
use Rattle.x64_laws.proofs.addressing.relative_addresses.Goals as goal

pub returns : goal.returns
returns c = record { operands = rip_is_of_next; jumps = jmp_goes_from_next }
